-- A table of words that has a rule's bytes at every byte: one computed test over the whole table.
use Rattle.std.proofs.Common.{◌≡◌, ℕ, zero, suc, ◌<◌, List, [], ◌∷◌, map, get_or, sym, refl, ap, ◌∙◌, zero-add, arith}
use Rattle.std.specs.List.{range_with_len}
use Rattle.std.proofs.lemmas.List.FromFn.{get_or-map-range_with_len}
use Rattle.ciphers.specs.Bytes.{word_bytes, number}
use Rattle.ciphers.specs.Fips197.{row_part}
use Rattle.ciphers.specs.Gf256.{mul, s_box}

-- the table of the numbers of a rule's bytes
abbrev pub table : (ℕ → List ℕ) → List ℕ
table rule = map (λ x. number (rule x)) (range_with_len 0 256)

pub tabled : (rule : ℕ → List ℕ) → map (λ x. word_bytes (number (rule x))) (range_with_len 0 256) ≡ map rule (range_with_len 0 256) → (x : ℕ) → x < 256 → word_bytes (get_or (table rule) x 0) ≡ rule x
tabled rule whole x h =
    ap word_bytes (get_or-map-range_with_len (λ y. number (rule y)) 0 256 x x 0 h (zero-add x)) ∙
    (sym (get_or-map-range_with_len (λ y. word_bytes (number (rule y))) 0 256 x x [] h (zero-add x)) ∙
    (ap (λ (l : List (List ℕ)). get_or l x []) whole ∙ get_or-map-range_with_len rule 0 256 x x [] h (zero-add x)))

-- the four round tables
abbrev pub tables : List (List ℕ)
tables = table (λ x. row_part 0 (s_box x)) ∷ table (λ x. row_part 1 (s_box x)) ∷ table (λ x. row_part 2 (s_box x)) ∷ table (λ x. row_part 3 (s_box x)) ∷ []

pub tables_are : (r x : ℕ) → r < 4 → x < 256 → word_bytes (get_or (get_or tables r []) x 0) ≡ row_part r (s_box x)
unfolding mul s_box
tables_are zero x h l = tabled (λ y. row_part 0 (s_box y)) refl x l
tables_are (suc zero) x h l = tabled (λ y. row_part 1 (s_box y)) refl x l
tables_are (suc (suc zero)) x h l = tabled (λ y. row_part 2 (s_box y)) refl x l
tables_are (suc (suc (suc zero))) x h l = tabled (λ y. row_part 3 (s_box y)) refl x l
tables_are (suc (suc (suc (suc r)))) x h l = absurd (omega arith)
