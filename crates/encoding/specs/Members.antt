-- The fields that one member of a record is written as.
use Rattle.std.specs.Prelude.{ℕ, zero, suc, List, [], ◌∷◌, map, ℤ, Some, None, Option}
use Rattle.std.proofs.Common.{of_z}
use Rattle.std.specs.Int.{w64}
use Rattle.encoding.specs.Wire.{Field, number, bytes, encode}

-- a zero number is left out
abbrev pub unsigned : ℕ → ℕ → List Field
unsigned k zero = []
unsigned k (suc v) = number k (suc v) ∷ []

-- a signed number goes by its 64 bits, so that a negative one takes ten bytes
abbrev pub signed : ℕ → ℤ → List Field
signed k z = unsigned k (of_z w64 z)

-- empty text or bytes are left out
abbrev pub text : ℕ → List ℕ → List Field
text k [] = []
text k (b ∷ bs) = bytes k (b ∷ bs) ∷ []

-- a record that is present is written, even if empty
abbrev pub present : {V : Type 0} → (V → List Field) → ℕ → Option V → List Field
present fields k None = []
present fields k (Some v) = bytes k (encode (fields v)) ∷ []

-- and so is each of a list of records
abbrev pub each : {V : Type 0} → (V → List Field) → ℕ → List V → List Field
each fields k vs = map (λ v. bytes k (encode (fields v))) vs
