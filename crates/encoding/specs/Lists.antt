-- What a bounded list holds, and which bytes a type URL has.
use Rattle.std.specs.Prelude.{ℕ, Bool, true, ◌&&◌, List, [], ◌∷◌, take, drop, Option, nat_le, slice_get}
use Rattle.encoding.specs.declared.bounded.Bounded.{Bounded}

abbrev pub list : {T : Type 0} {n : ℕ} → Bounded T n → List T
list b = take b.len b.items

-- the places that are not in use
abbrev pub unused : {T : Type 0} {n : ℕ} → Bounded T n → List T
unused b = drop b.len b.items

-- what stands at a place of a list, if it reaches so far
abbrev pub item : {T : Type 0} → List T → ℕ → Option T
item xs i = slice_get xs i

-- the bytes of a type URL: each from 0x21 to 0x7E
abbrev pub visible_byte : ℕ → Bool
visible_byte b = nat_le 0x21 b && nat_le b 0x7E

abbrev pub visible : List ℕ → Bool
visible [] = true
visible (b ∷ bs) = visible_byte b && visible bs
