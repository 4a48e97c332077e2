-- What the scanner answers: a varint, or a whole field, at the front of some bytes.
use Rattle.std.specs.Prelude.{◌≡◌, ℕ, zero, suc, ◌+◌, ◌-◌, ◌*◌, ◌<◌, ◌≤◌, cond, List, [], ◌∷◌, ◌++◌, length, drop, Some, None, Option, ◌==◌, ◌≢◌, nat_lt, refl}
use Rattle.std.specs.Borrow.{Bor}
use Rattle.encoding.specs.Wire.{Field, number, bytes, number_of, encode_field, Small}
use Rattle.encoding.specs.declared.content.Content.{Content}
use Rattle.encoding.specs.declared.content.Content.TheVariants.{Number, Bytes}
use Rattle.encoding.specs.declared.scan.Piece.{Piece}

-- the varint at the front, its value and how many bytes it takes, if it is in shortest form and has at most k bytes before
-- its last
abbrev pub last_byte : ℕ → ℕ → Option (ℕ × ℕ)
last_byte k b = cond (k == 0) (cond (nat_lt b 2) (Some (b, 1)) None) (Some (b, 1))

abbrev pub more_bytes : ℕ → Option (ℕ × ℕ) → Option (ℕ × ℕ)
more_bytes b None = None
more_bytes b (Some p) = cond (p.0 == 0) None (Some ((b - 128) + 128 * p.0, p.1 + 1))

unfoldable pub unvarint : ℕ → List ℕ → Option (ℕ × ℕ)
unvarint k [] = None
unvarint k (b ∷ bs) = cond (nat_lt b 128) (last_byte k b) (cond (k == 0) None (cond (nat_lt b 256) (more_bytes b (unvarint (k - 1) bs)) None))

-- what fits a varint of k bytes and a last one: 2 at none, 2 ^ 64 at nine
unfoldable pub cap : ℕ → ℕ
cap zero = 2
cap (suc k) = 128 * cap k

-- the field with a number and a content
abbrev pub field_of : ℕ → Content → Field
field_of k (Number v) = number k v
field_of k (Bytes b) = bytes k b.now

abbrev pub IsNumber : Content → Type 0
IsNumber x = (v : ℕ) × (x ≡ Number v)

abbrev pub IsBytes : Content → Type 0
IsBytes x = (b : Bor (List ℕ)) × (x ≡ Bytes b)

pub number_is : (k : ℕ) (x : Content) → number_of (field_of k x) ≡ k
number_is k (Number v) = refl
number_is k (Bytes b) = refl

-- no field stands at the front
abbrev pub NoField : List ℕ → Type 0
NoField bs = (f : Field) (rest : List ℕ) → Small f → bs ≢ encode_field f ++ rest

pub record IsField (bs : List ℕ) (p : Piece) : Type 0 where
  pub front : bs ≡ encode_field (field_of p.number p.content) ++ drop p.size bs
  pub size : p.size ≡ length (encode_field (field_of p.number p.content))
  pub small : Small (field_of p.number p.content)
  pub within : p.size ≤ length bs
  pub some : 0 < p.size
