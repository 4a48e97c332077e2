-- FIPS 197, section 4 and 5.1.1: bytes as elements of GF(2^8), and the S-box.
use Rattle.std.specs.Prelude.{ℕ, zero, suc, ◌+◌, ◌*◌, ◌/◌, ◌%◌, cond, bit_xor, nat_lt}

-- XTIMES: the product with {02}, modulo x^8 + x^4 + x^3 + x + 1
abbrev pub x_times : ℕ → ℕ
x_times b = cond (nat_lt b 128) (2 * b) (bit_xor (2 * b) 0x11b)

-- the sum of those products of b with a power of x that the lowest n bits of a have
abbrev pub products : ℕ → ℕ → ℕ → ℕ
products zero a b = 0
products (suc n) a b = bit_xor ((a % 2) * b) (products n (a / 2) (x_times b))

-- the product of two bytes
unfoldable pub mul : ℕ → ℕ → ℕ
mul a b = products 8 a b

abbrev square : ℕ → ℕ
square a = mul a a

-- the power of a byte to 2 + 4 + .. + 2^k
abbrev pub even_power : ℕ → ℕ → ℕ
even_power zero b = 1
even_power (suc k) b = mul (square b) (even_power k (square b))

-- the inverse of a byte, and 0 at 0: its power to 254 = 2 + 4 + 8 + 16 + 32 + 64 + 128
abbrev pub inverse : ℕ → ℕ
inverse b = even_power 7 b

-- a byte turned left by one bit
abbrev pub turned : ℕ → ℕ
turned b = (2 * b) % 256 + b / 128

-- bit i of the result is b(i) + b(i+4) + b(i+5) + b(i+6) + b(i+7) + c(i), indices modulo 8, with c = {63}
abbrev pub affine : ℕ → ℕ
affine b =
    let b1 = turned b in
    let b2 = turned b1 in
    let b3 = turned b2 in
    let b4 = turned b3 in
    bit_xor 0x63 (bit_xor b (bit_xor b1 (bit_xor b2 (bit_xor b3 b4))))

-- SBOX
unfoldable pub s_box : ℕ → ℕ
s_box b = affine (inverse b)
