use Rattle.std.proofs.Common.{◌≡◌, ℕ, ◌+◌, ◌-◌, List, ◌++◌, length, drop, ap, ◌∙◌, arith}
use Rattle.ciphers.specs.Bytes.{word_bytes}
use Rattle.ciphers.proofs.Seals.{head_written}
use Rattle.ciphers.proofs.cover.cover.Goals as goal

pub returns : goal.returns
returns c =
    let out = c.args.out.now in
    let plain = c.args.plain.now in
    let n = length plain in
    let size : 4 + n - 4 ≡ n = omega arith in
    let head = c.copy_from_slice.ensures.after ∙ c.to_be_bytes-head.ensures in
    let body = c.copy_from_slice-2.ensures.after in
    head_written 4 (4 + n - 4) c.copy_from_slice.new.self out _ (ap length head) ∙
    (ap (λ (h : List ℕ). h ++ (c.copy_from_slice-2.new.self ++ drop (4 + (4 + n - 4)) out)) head ∙
    (ap (λ (b : List ℕ). word_bytes (length c.args.text.now) ++ (b ++ drop (4 + (4 + n - 4)) out)) body ∙
    ap (λ (k : ℕ). word_bytes (length c.args.text.now) ++ (plain ++ drop (4 + k) out)) size))
