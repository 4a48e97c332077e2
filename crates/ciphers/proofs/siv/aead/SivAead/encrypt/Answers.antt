use Rattle.std.proofs.Common.{◌≡◌, ℕ, ◌+◌, false, List, ◌++◌, length, drop, Err, sym, ap, ◌∙◌, arith, rules}
use Rattle.std.proofs.lemmas.Result.{err_from_is_err_and}
use Rattle.ciphers.specs.declared.fault.Fault.{Fault}
use Rattle.ciphers.specs.Aeads.{Meaning, out_of_bounds}
use Rattle.ciphers.specs.Fips197.{cipher}
use Rattle.ciphers.specs.Keys.{aes_key}
use Rattle.ciphers.specs.Rfc5297.{siv_sealed, siv_opened}
use Rattle.ciphers.specs.Sivs.{siv_key}
use Rattle.ciphers.specs.Tagging.{mac_key}
use Rattle.ciphers.proofs.Refusing.{encrypt_refused}
use Rattle.ciphers.proofs.Reopening.{cipher-length, sealed-length, siv_sealed_lem, siv_opens}
use Rattle.ciphers.proofs.Seals.{sealed-encrypted, sealed-answer, sealed-output}
use Rattle.ciphers.proofs.siv.aead.SivAead.encrypt.Goals as goal

pub returns-in_err-check_sizes : goal.returns-in_err-check_sizes
returns-in_err-check_sizes c =
    let key = siv_key c.args.self.now in
    let p = err_from_is_err_and c.from_residual.result c.from_residual.ensures.1 in
    let all = encrypt_refused (λ z ad. siv_opened key ad z) 16 c.args.plaintext.now c.args.additional_data.now c.args.out.now (siv_sealed key c.args.additional_data.now c.args.plaintext.now)
    c.from_residual.result _ (p.1 ∙ ap (λ (f : Fault). Err f) p.2) c.in_err-check_sizes.ensures in
    record { sealed = all.0; answer = all.1; output = all.2 }

pub returns : goal.returns
returns c =
    let s = c.args.self.now in
    let plain = c.args.plaintext.now in
    let text = c.args.additional_data.now in
    let out = c.args.out.now in
    let n = 16 + length plain in
    let fits : out_of_bounds 16 (length plain) (length text) (length out) ≡ false = search rules in
    let z = siv_sealed (siv_key s) text plain in
    let len : n ≡ length z =
    sym (ap length (siv_sealed_lem s text plain) ∙ sealed-length (cipher (mac_key s.mac)) (cipher (aes_key s.ctr)) (cipher-length s.mac.aes) text plain) in
    let wrote = c.seal.ensures ∙ ap (λ (l : List ℕ). l ++ drop n out) (sym (siv_sealed_lem s text plain)) in
    let after = c.seal.new.out in
    let opens : Meaning = λ c' ad. siv_opened (siv_key s) ad c' in
    record {
      sealed = sealed-encrypted z out after n len wrote opens 16 plain text fits (omega arith) (siv_opens s text plain);
      answer = sealed-answer z out after n len wrote _ fits;
      output = sealed-output z out after n len wrote _ fits;
    }
