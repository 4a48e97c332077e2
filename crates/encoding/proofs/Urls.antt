-- Which bytes a type URL may have, place by place.
use Rattle.std.proofs.Common.{◌≡◌, ℕ, zero, suc, ◌<◌, true, false, List, [], ◌∷◌, length, get_or, sym, refl, ◌∙◌, arith}
use Rattle.std.specs.List.{All}
use Rattle.std.proofs.lemmas.Bool.{and_parts, and_from}
use Rattle.encoding.specs.Lists.{visible, visible_byte}

visible-at : (xs : List ℕ) (i : ℕ) → i < length xs → visible xs ≡ true → visible_byte (get_or xs i 0) ≡ true
visible-at [] i l e = absurd (omega arith)
visible-at (x ∷ xs) zero l e = (and_parts (visible_byte x) (visible xs) e).0
visible-at (x ∷ xs) (suc i) l e = visible-at xs i (omega arith) (and_parts (visible_byte x) (visible xs) e).1

pub visible_bad : (xs : List ℕ) (i : ℕ) → i < length xs → visible_byte (get_or xs i 0) ≡ false → visible xs ≡ true → ⊥
visible_bad xs i l f e =
    let z : true ≡ false = sym (visible-at xs i l e) ∙ f in
    let w : ◌≡◌ {A = ℕ} 0 1 = cc in
    omega arith

pub visible_all : (xs : List ℕ) → All (λ b. visible_byte b ≡ true) xs → visible xs ≡ true
visible_all [] h = refl
visible_all (x ∷ xs) h = and_from (visible_byte x) (visible xs) (h 0 0 (omega arith)) (visible_all xs (λ k d l. h (suc k) d (omega arith)))
