-- The wire format of the Protobuf encoding guide, as far as the records use it: base 128 varints, and fields that hold a
-- number (wire type 0) or bytes (wire type 2).
use Rattle.std.specs.Prelude.{ℕ, zero, suc, ◌+◌, ◌*◌, ◌/◌, ◌%◌, ◌^◌, ◌<◌, cond, List, [], ◌∷◌, ◌++◌, length, nat_lt}

-- seven bits to a byte, the low ones first, and the top bit set in each byte but the last: the shortest form of n, with at
-- most k bytes before the last
unfoldable pub base128 : ℕ → ℕ → List ℕ
base128 zero n = n ∷ []
base128 (suc k) n = cond (nat_lt n 128) (n ∷ []) ((n % 128 + 128) ∷ base128 k (n / 128))

-- a number of 64 bits takes at most ten bytes
abbrev pub varint : ℕ → List ℕ
varint n = base128 9 n

-- a field by its number, with a number or bytes in it
pub data Field : Type 0 where
  number : ℕ → ℕ → Field
  bytes : ℕ → List ℕ → Field

abbrev pub number_of : Field → ℕ
number_of (number k v) = k
number_of (bytes k b) = k

-- the field's key, its number times 8 and the wire type, and then the number, or the length and the bytes
unfoldable pub encode_field : Field → List ℕ
encode_field (number k v) = varint (8 * k) ++ varint v
encode_field (bytes k b) = varint (8 * k + 2) ++ (varint (length b) ++ b)

-- one field after the other
unfoldable pub encode : List Field → List ℕ
encode [] = []
encode (f ∷ fs) = encode_field f ++ encode fs

-- a field whose varints have at most 64 bits
unfoldable pub Small : Field → Type 0
Small (number k v) = (8 * k + 2 < 2 ^ 64) × (v < 2 ^ 64)
Small (bytes k b) = (8 * k + 2 < 2 ^ 64) × (length b < 2 ^ 64)
