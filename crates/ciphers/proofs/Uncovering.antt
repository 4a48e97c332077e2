-- The plain cover opens what it covered.
use Rattle.std.proofs.Common.{◌≡◌, ℕ, ◌≤◌, true, ltb, List, length, Some, ◌∙◌, arith}
use Rattle.std.proofs.lemmas.Bool.{cond-true, cond-false, le-ltb, eq-eqb}
use Rattle.ciphers.specs.Bytes.{number, word_bytes}
use Rattle.ciphers.specs.Covers.{covered, uncovered, agree}

pub covered_opens : (text plain : List ℕ) → length text ≤ 256 → uncovered (covered text plain) text ≡ Some plain
covered_opens text plain few =
    let sealed = covered text plain in
    let same : number (word_bytes (length text)) ≡ length text = omega arith in
    let agrees : agree sealed text ≡ true =
    cond-false (ltb (length sealed) 4) _ _ (le-ltb (length sealed) 4 (omega arith)) ∙ eq-eqb (number (word_bytes (length text))) (length text) same in
    cond-true (agree sealed text) _ _ agrees
