-- The lines of a keyset, one key longer.
use Rattle.std.proofs.Common.{◌≡◌, ℕ, zero, suc, ◌+◌, ◌≤◌, List, [], ◌∷◌, ◌++◌, length, drop, Option, Some, None, sym, refl, ap, ◌∙◌, append_assoc, arith}
use Rattle.std.specs.Option.{option_map}
use Rattle.std.proofs.lemmas.List.{append-nil}
use Rattle.encoding.specs.Lists.{item}
use Rattle.encoding.specs.Meanings.{KeyMeaning}
use Rattle.sheet.specs.declared.keys.Row.{Row}
use Rattle.sheet.specs.Rows.{rows, row_of, text_of}

-- the text of a row that may be there
abbrev pub listed : Option Row → List ℕ
listed None = []
listed (Some r) = text_of r

-- the text of the key at a position, if there is one
abbrev pub text_at : ℕ → List KeyMeaning → ℕ → List ℕ
text_at p ks i = listed (option_map (row_of p) (item ks i))

-- the rows before a position and those from it on are all rows
pub rows_step : (p : ℕ) (ks : List KeyMeaning) (i : ℕ) → rows p (drop i ks) ≡ text_at p ks i ++ rows p (drop (suc i) ks)
rows_step p [] zero = refl
rows_step p [] (suc i) = refl
rows_step p (k ∷ ks) zero = refl
rows_step p (k ∷ ks) (suc i) = rows_step p ks i

pub rows_end : (p : ℕ) (ks : List KeyMeaning) (i : ℕ) → length ks ≤ i → rows p (drop i ks) ≡ []
rows_end p [] zero h = refl
rows_end p [] (suc i) h = refl
rows_end p (k ∷ ks) zero h = absurd (omega arith)
rows_end p (k ∷ ks) (suc i) h = rows_end p ks i (omega arith)

-- one line more
pub pushed : (p : ℕ) (ks : List KeyMeaning) (i : ℕ) (text line all : List ℕ) → text ++ rows p (drop i ks) ≡ all → line ≡ text_at p ks i → (text ++ line) ++ rows p (drop (i + 1) ks) ≡ all
pushed p ks i text line all so is =
    let next : i + 1 ≡ suc i = omega arith in
    append_assoc text line (rows p (drop (i + 1) ks)) ∙ (λ j. text ++ (is j ++ rows p (drop (next j) ks))) ∙ ap (λ (l : List ℕ). text ++ l) (sym (rows_step p ks i)) ∙ so

pub whole : (p : ℕ) (ks : List KeyMeaning) (i : ℕ) (text all : List ℕ) → length ks ≤ i → text ++ rows p (drop i ks) ≡ all → text ≡ all
whole p ks i text all h so = sym (append-nil text) ∙ ap (λ (l : List ℕ). text ++ l) (sym (rows_end p ks i h)) ∙ so
