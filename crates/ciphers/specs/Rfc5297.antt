-- RFC 5297: S2V, the counter mode of SIV, and SIV itself, over block ciphers A (for S2V) and E (for the counter mode).
use Rattle.std.specs.Prelude.{◌≡◌, ℕ, suc, ◌+◌, ◌-◌, ◌/◌, ◌%◌, ◌^◌, Bool, false, cond, List, [], ◌∷◌, ◌++◌, length, take, drop, replicate, Some, None, Option, bit_and, bit_xor, nat_lt, slice_index}
use Rattle.std.specs.Str.{bytes_eq}
use Rattle.ciphers.specs.Bytes.{xors, zeros, number, bytes}
use Rattle.ciphers.specs.Fips197.{cipher}
use Rattle.ciphers.specs.Rfc4493.{Cipher, dbl, padded, cmac}

-- m xorend d: the last 16 bytes of m are added to d
unfoldable pub xor_end : List ℕ → List ℕ → List ℕ
xor_end m d = take (length m - 16) m ++ xors (drop (length m - 16) m) d

-- what S2V makes of its last component
unfoldable pub lastly : Cipher → List ℕ → List ℕ → List ℕ
lastly A d m = cmac A (cond (nat_lt (length m) 16) (xors (dbl d) (padded m)) (xor_end m d))

-- S2V of a list of components, from D on
abbrev pub s2v_from : Cipher → List ℕ → List ℕ → List (List ℕ) → List ℕ
s2v_from A d s [] = lastly A d s
s2v_from A d s (t ∷ ts) = s2v_from A (xors (dbl d) (cmac A s)) t ts

abbrev pub s2v : Cipher → List (List ℕ) → List ℕ
s2v A [] = cmac A (replicate 15 0 ++ (1 ∷ []))
s2v A (s ∷ ss) = s2v_from A (cmac A zeros) s ss

-- the counter block of number j, from q on, modulo 2^128
unfoldable pub counter : ℕ → ℕ → List ℕ
counter q j = bytes 16 ((q + j) % 2 ^ 128)

-- byte i of the key stream E(q) || E(q + 1) || ..
unfoldable pub key_byte : Cipher → ℕ → ℕ → ℕ
key_byte E q i = slice_index (E (counter q (i / 16))) (i % 16)

-- the exclusive or of a text with the key stream from byte i on
unfoldable pub masked_from : Cipher → ℕ → ℕ → List ℕ → List ℕ
masked_from E q i [] = []
masked_from E q i (b ∷ m) = bit_xor b (key_byte E q i) ∷ masked_from E q (suc i) m

-- counter mode, for which encryption and decryption are the same
abbrev pub masked : Cipher → ℕ → List ℕ → List ℕ
masked E q m = masked_from E q 0 m

-- V with bits 63 and 31 cleared, counted from the right
abbrev pub cleared : ℕ → ℕ
cleared v = bit_and v 0xffffffff_ffffffff_7fffffff_7fffffff

-- SIV-ENCRYPT with one component of associated data
unfoldable pub sealed : Cipher → Cipher → List ℕ → List ℕ → List ℕ
sealed A E ad p = let v = s2v A (ad ∷ p ∷ []) in v ++ masked E (cleared (number v)) p

-- SIV-DECRYPT: the plaintext, or none where V is not S2V's
unfoldable pub plain_of : Cipher → List ℕ → List ℕ
plain_of E z = masked E (cleared (number (take 16 z))) (drop 16 z)

unfoldable pub genuine : Cipher → Cipher → List ℕ → List ℕ → Bool
genuine A E ad z = cond (nat_lt (length z) 16) false (bytes_eq (s2v A (ad ∷ plain_of E z ∷ [])) (take 16 z))

unfoldable pub opened : Cipher → Cipher → List ℕ → List ℕ → Option (List ℕ)
opened A E ad z = cond (genuine A E ad z) (Some (plain_of E z)) None

-- The key of SIV: the first half is S2V's, the second the counter mode's.
abbrev pub siv_sealed : List ℕ → List ℕ → List ℕ → List ℕ
siv_sealed key = sealed (cipher (take 16 key)) (cipher (drop 16 key))

abbrev pub siv_opened : List ℕ → List ℕ → List ℕ → Option (List ℕ)
siv_opened key = opened (cipher (take 16 key)) (cipher (drop 16 key))

-- masking twice gives the text back, whatever the cipher and the counter
abbrev pub MasksTwice : Type 0
MasksTwice = (E : Cipher) (q : ℕ) (m : List ℕ) → masked E q (masked E q m) ≡ m

-- what was sealed opens to what was sealed, for every associated text and plaintext
abbrev pub OpensSealed : List ℕ → Type 0
OpensSealed key = (ad p : List ℕ) → siv_opened key ad (siv_sealed key ad p) ≡ Some p
