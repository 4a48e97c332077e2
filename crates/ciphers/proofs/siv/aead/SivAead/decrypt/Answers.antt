use Rattle.std.proofs.Common.{◌≡◌, ℕ, ◌-◌, ◌≤◌, true, List, ◌++◌, length, drop, Err, Option, Bor, sym, subst, ap, ◌∙◌, length-drop}
use Rattle.std.specs.Option.{MatchOption}
use Rattle.std.proofs.lemmas.Result.{err_from_is_err_and}
use Rattle.ciphers.specs.declared.fault.Fault.{Fault}
use Rattle.ciphers.specs.Fips197.{cipher}
use Rattle.ciphers.specs.Keys.{aes_key}
use Rattle.ciphers.specs.Rfc5297.{genuine, siv_opened, plain_of}
use Rattle.ciphers.specs.Sivs.{siv_key}
use Rattle.ciphers.specs.Tagging.{mac_key}
use Rattle.ciphers.proofs.Refusing.{bytes_in, opening_refused, opening_passed}
use Rattle.ciphers.proofs.Reopening.{siv_opened_lem, opened-genuine, opens-genuine, plain_of_length}
use Rattle.ciphers.proofs.Seals.{opened-answer, opened-output}
use Rattle.ciphers.proofs.siv.aead.SivAead.decrypt.Goals as goal

pub returns-in_err-text : goal.returns-in_err-text
returns-in_err-text c =
    let s = c.args.self.now in
    let z = c.args.ciphertext.now in
    let ad = c.args.additional_data.now in
    let o = siv_opened (siv_key s) ad z in
    let p = err_from_is_err_and c.from_residual.result c.from_residual.ensures.1 in
    let both = opening_refused bytes_in c.genuine.result o c.args.out.now c.check_opening.result _ (opens-genuine s ad z c.genuine.result c.genuine.ensures) c.check_opening.ensures c.in_err-text.was in
    record { answer = p.1 ∙ (ap (λ (f : Fault). Err f) p.2 ∙ both.0); output = both.1 }

pub returns : goal.returns
returns c =
    let s = c.args.self.now in
    let A = cipher (mac_key s.mac) in
    let E = cipher (aes_key s.ctr) in
    let z = c.args.ciphertext.now in
    let ad = c.args.additional_data.now in
    let out = c.args.out.now in
    let text = c.in_ok-text.text.now in
    let o = siv_opened (siv_key s) ad z in
    let passed = opening_passed bytes_in c.genuine.result o (length out) c.check_opening.result c.in_ok-text.text (opens-genuine s ad z c.genuine.result c.genuine.ensures) c.check_opening.ensures c.in_ok-text.was in
    let found = subst (λ (t : Option (Bor (List ℕ))). MatchOption t (genuine A E ad z ≡ _) (λ x. (genuine A E ad z ≡ true) × (16 ≤ length z) × (x.now ≡ drop 16 z))) passed.0 c.genuine.ensures in
    let opens = siv_opened_lem s ad z ∙ opened-genuine A E ad z found.0 in
    let rest : length text ≡ length z - 16 = ap length found.2 ∙ length-drop 16 z in
    let len = rest ∙ sym (plain_of_length E z) in
    record {
      answer = opened-answer o (plain_of E z) opens (length text) len (length out) passed.1;
      output = opened-output o (plain_of E z) opens (length text) len out _ passed.1 (c.unmask.ensures ∙ ap (λ (k : ℕ). plain_of E z ++ drop k out) (sym rest));
    }
