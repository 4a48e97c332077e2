-- Bytes, words and blocks as lists of numbers below 256, the highest byte first.
use Rattle.std.specs.Prelude.{ℕ, zero, suc, ◌+◌, ◌*◌, ◌/◌, ◌%◌, ◌^◌, List, [], ◌∷◌, replicate, bit_xor}
use Rattle.std.specs.Simd.Lanes.{zip2}

-- byte by byte
abbrev pub xors : List ℕ → List ℕ → List ℕ
xors = zip2 bit_xor

-- a block of 16 zero bytes
abbrev pub zeros : List ℕ
zeros = replicate 16 0

-- the number that bytes stand for, and the n lowest bytes of a number
abbrev pub number_from : ℕ → List ℕ → ℕ
number_from a [] = a
number_from a (b ∷ bs) = number_from (256 * a + b) bs

abbrev pub number : List ℕ → ℕ
number = number_from 0

abbrev pub bytes : ℕ → ℕ → List ℕ
bytes zero a = []
bytes (suc n) a = (a / 256 ^ n % 256) ∷ bytes n a

-- the four bytes of a word of 32 bits
abbrev pub word_bytes : ℕ → List ℕ
word_bytes w = (w / 16777216 % 256) ∷ (w / 65536 % 256) ∷ (w / 256 % 256) ∷ (w % 256) ∷ []
