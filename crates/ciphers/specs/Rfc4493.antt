-- RFC 4493: the CMAC of a message, over a block cipher E, which is any function on blocks of 16 bytes.
use Rattle.std.specs.Prelude.{ℕ, zero, suc, ◌-◌, ◌*◌, ◌/◌, ◌%◌, ◌^◌, cond, List, [], ◌∷◌, ◌++◌, length, take, drop, replicate, ◌==◌, bit_xor, nat_lt}
use Rattle.ciphers.specs.Bytes.{xors, zeros, number, bytes}

abbrev pub Cipher : Type 0
Cipher = List ℕ → List ℕ

-- the product with x in GF(2^128): a shift to the left by one bit, and 0x87 added where a bit falls out
abbrev pub shifted : ℕ → ℕ
shifted a = cond (nat_lt a (2 ^ 127)) (2 * a) (bit_xor ((2 * a) % 2 ^ 128) 0x87)

unfoldable pub dbl : List ℕ → List ℕ
dbl block = bytes 16 (shifted (number block))

-- the subkeys, of L = E(0^128)
unfoldable pub subkey1 : Cipher → List ℕ
subkey1 E = dbl (E zeros)

abbrev pub subkey2 : Cipher → List ℕ
subkey2 E = dbl (subkey1 E)

-- a bit 1, and zeros up to 16 bytes
abbrev pub padded : List ℕ → List ℕ
padded m = m ++ (0x80 ∷ replicate (15 - length m) 0)

-- M_last, of what is left of the message for the last block
unfoldable pub last_block : Cipher → List ℕ → List ℕ
last_block E m = cond (length m == 16) (xors m (subkey1 E)) (xors (padded m) (subkey2 E))

-- X after n blocks of m
abbrev pub chain : Cipher → List ℕ → ℕ → List ℕ → List ℕ
chain E x zero m = x
chain E x (suc n) m = chain E (E (xors x (take 16 m))) n (drop 16 m)

-- how many blocks come before the last, which an empty message has too
abbrev pub before : List ℕ → ℕ
before m = (length m - 1) / 16

unfoldable pub cmac : Cipher → List ℕ → List ℕ
cmac E m = E (xors (chain E zeros (before m) m) (last_block E (drop (16 * before m) m)))

-- The same as the bytes come: X, and the bytes that are held back, at most 16, since they may be the last.
abbrev pub Held : Type 0
Held = List ℕ × List ℕ

abbrev pub start : Held
start = (zeros, [])

unfoldable pub step : Cipher → Held → ℕ → Held
step E s b = cond (length s.1 == 16) (E (xors s.0 s.1), b ∷ []) (s.0, s.1 ++ (b ∷ []))

unfoldable pub absorb : Cipher → Held → List ℕ → Held
absorb E s [] = s
absorb E s (b ∷ m) = absorb E (step E s b) m

unfoldable pub finish : Cipher → Held → List ℕ
finish E s = E (xors s.0 (last_block E s.1))
