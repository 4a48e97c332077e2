-- Blocks of 16 bytes made place by place.
use Rattle.std.proofs.Common.{◌≡◌, ℕ, suc, ◌+◌, ◌-◌, ◌/◌, ◌%◌, ◌^◌, ◌<◌, ◌≤◌, List, [], ◌∷◌, ◌++◌, length, get_or, take, set, replicate, sym, refl, ap, ◌∙◌, append_assoc, arith}
use lib.Bits.{bit_xor}
use Rattle.ciphers.proofs.Columns.{byte_xor}
use Rattle.std.proofs.lemmas.List.FromFn.{fill_by_all}
use Rattle.std.proofs.lemmas.List.{set_at, take_more, length-take-le}
use Rattle.ciphers.specs.Bytes.{xors, number, bytes}
use Rattle.ciphers.specs.Rfc4493.{padded}

-- the bytes of an exclusive or of numbers
bytes_xor : (x y : ℕ) → bytes 16 (bit_xor x y) ≡ xors (bytes 16 x) (bytes 16 y)
bytes_xor x y = rw (byte_xor x y 120, byte_xor x y 112, byte_xor x y 104, byte_xor x y 96, byte_xor x y 88, byte_xor x y 80, byte_xor x y 72, byte_xor x y 64, byte_xor x y 56, byte_xor x y 48, byte_xor x y 40, byte_xor x y 32, byte_xor x y 24, byte_xor x y 16, byte_xor x y 8, byte_xor x y 0) refl

-- the number of a block, written out
pub number_is : (a : List ℕ) → length a ≡ 16 → number a ≡ number (get_or a 0 0 ∷ get_or a 1 0 ∷ get_or a 2 0 ∷ get_or a 3 0 ∷ get_or a 4 0 ∷ get_or a 5 0 ∷ get_or a 6 0 ∷ get_or a 7 0 ∷ get_or a 8 0 ∷ get_or a 9 0 ∷ get_or a 10 0 ∷ get_or a 11 0 ∷ get_or a 12 0 ∷ get_or a 13 0 ∷ get_or a 14 0 ∷ get_or a 15 0 ∷ [])
number_is a h = ap number (fill_by_all (λ k. get_or a k 0) a 16 0 h (λ k l. refl))

pub places : (a0 a1 a2 a3 a4 a5 a6 a7 a8 a9 a10 a11 a12 a13 a14 a15 : ℕ) → a0 < 256 → a1 < 256 → a2 < 256 → a3 < 256 → a4 < 256 → a5 < 256 → a6 < 256 → a7 < 256 → a8 < 256 → a9 < 256 → a10 < 256 → a11 < 256 → a12 < 256 → a13 < 256 → a14 < 256 → a15 < 256 → bytes 16 (number (a0 ∷ a1 ∷ a2 ∷ a3 ∷ a4 ∷ a5 ∷ a6 ∷ a7 ∷ a8 ∷ a9 ∷ a10 ∷ a11 ∷ a12 ∷ a13 ∷ a14 ∷ a15 ∷ [])) ≡ a0 ∷ a1 ∷ a2 ∷ a3 ∷ a4 ∷ a5 ∷ a6 ∷ a7 ∷ a8 ∷ a9 ∷ a10 ∷ a11 ∷ a12 ∷ a13 ∷ a14 ∷ a15 ∷ []
places a0 a1 a2 a3 a4 a5 a6 a7 a8 a9 a10 a11 a12 a13 a14 a15 p0 p1 p2 p3 p4 p5 p6 p7 p8 p9 p10 p11 p12 p13 p14 p15 =
    let n = number (a0 ∷ a1 ∷ a2 ∷ a3 ∷ a4 ∷ a5 ∷ a6 ∷ a7 ∷ a8 ∷ a9 ∷ a10 ∷ a11 ∷ a12 ∷ a13 ∷ a14 ∷ a15 ∷ []) in
    let e0 : n / 256 ^ 15 % 256 ≡ a0 = omega arith in
    let e1 : n / 256 ^ 14 % 256 ≡ a1 = omega arith in
    let e2 : n / 256 ^ 13 % 256 ≡ a2 = omega arith in
    let e3 : n / 256 ^ 12 % 256 ≡ a3 = omega arith in
    let e4 : n / 256 ^ 11 % 256 ≡ a4 = omega arith in
    let e5 : n / 256 ^ 10 % 256 ≡ a5 = omega arith in
    let e6 : n / 256 ^ 9 % 256 ≡ a6 = omega arith in
    let e7 : n / 256 ^ 8 % 256 ≡ a7 = omega arith in
    let e8 : n / 256 ^ 7 % 256 ≡ a8 = omega arith in
    let e9 : n / 256 ^ 6 % 256 ≡ a9 = omega arith in
    let e10 : n / 256 ^ 5 % 256 ≡ a10 = omega arith in
    let e11 : n / 256 ^ 4 % 256 ≡ a11 = omega arith in
    let e12 : n / 256 ^ 3 % 256 ≡ a12 = omega arith in
    let e13 : n / 256 ^ 2 % 256 ≡ a13 = omega arith in
    let e14 : n / 256 ^ 1 % 256 ≡ a14 = omega arith in
    let e15 : n / 256 ^ 0 % 256 ≡ a15 = omega arith in
    cc

-- a block is the bytes of its number
pub number-bytes : (a : List ℕ) → length a ≡ 16 → ((k : ℕ) → k < 16 → get_or a k 0 < 256) → bytes 16 (number a) ≡ a
number-bytes a h small =
    ap (bytes 16) (number_is a h) ∙
    (places _ _ _ _ _ _ _ _ _ _ _ _ _ _ _ _ (small 0 (omega arith)) (small 1 (omega arith)) (small 2 (omega arith)) (small 3 (omega arith)) (small 4 (omega arith)) (small 5 (omega arith)) (small 6 (omega arith)) (small 7 (omega arith)) (small 8 (omega arith)) (small 9 (omega arith)) (small 10 (omega arith)) (small 11 (omega arith)) (small 12 (omega arith)) (small 13 (omega arith)) (small 14 (omega arith)) (small 15 (omega arith)) ∙
    sym (fill_by_all (λ k. get_or a k 0) a 16 0 h (λ k l. refl)))

pub xors-numbers : (a b : List ℕ) → length a ≡ 16 → length b ≡ 16 → ((k : ℕ) → k < 16 → get_or a k 0 < 256) → ((k : ℕ) → k < 16 → get_or b k 0 < 256)
    → bytes 16 (bit_xor (number a) (number b)) ≡ xors a b
xors-numbers a b ha hb sa sb =
    bytes_xor (number a) (number b) ∙
    (ap (λ (t : List ℕ). xors t (bytes 16 (number b))) (number-bytes a ha sa) ∙ ap (xors a) (number-bytes b hb sb))

-- a write at the first of the zeros
put : (h : List ℕ) (i y : ℕ) → i < 16 → length h ≡ 16 → set (take i h ++ replicate (16 - i) 0) i y ≡ take i h ++ (y ∷ replicate (15 - i) 0)
put h i y l w =
    let e : 16 - i ≡ suc (15 - i) = omega arith in
    let le : i ≤ length h = omega arith in
    ap (λ (k : ℕ). set (take i h ++ replicate k 0) i y) e ∙ set_at (take i h) 0 (replicate (15 - i) 0) y i (length-take-le i h le)

pub pad_more : (h : List ℕ) (i : ℕ) → i < 16 → length h ≡ 16 → set (take i h ++ replicate (16 - i) 0) i (get_or h i 0) ≡ take (i + 1) h ++ replicate (16 - (i + 1)) 0
pad_more h i l w =
    let e : 15 - i ≡ 16 - (i + 1) = omega arith in
    let lt : i < length h = omega arith in
    put h i (get_or h i 0) l w ∙
    (ap (λ (k : ℕ). take i h ++ (get_or h i 0 ∷ replicate k 0)) e ∙
    (sym (append_assoc (take i h) (get_or h i 0 ∷ []) (replicate (16 - (i + 1)) 0)) ∙
    ap (λ (t : List ℕ). t ++ replicate (16 - (i + 1)) 0) (sym (take_more h i 0 lt))))

pub pad_all : (h : List ℕ) (n : ℕ) → n < 16 → length h ≡ 16 → set (take n h ++ replicate (16 - n) 0) n 128 ≡ padded (take n h)
pad_all h n l w =
    let le : n ≤ length h = omega arith in
    put h n 128 l w ∙ ap (λ (k : ℕ). take n h ++ (128 ∷ replicate (15 - k) 0)) (sym (length-take-le n h le))
