-- Four columns make a round; four words make a block.
use Rattle.std.proofs.Common.{◌≡◌, ℕ, ◌/◌, ◌%◌, ◌^◌, List, [], ◌∷◌, ◌++◌, length, get_or, sym, refl, ap, ◌∙◌}
use lib.Bits.{bit_xor}
use Rattle.std.proofs.lemmas.Nat.{xor_shr, xor_mod}
use Rattle.std.proofs.lemmas.List.FromFn.{fill_by_all}
use Rattle.ciphers.specs.Bytes.{word_bytes, xors}
use Rattle.ciphers.specs.Gf256.{s_box}
use Rattle.ciphers.specs.Fips197.{state_of, mix_column, full_round, last_round, add_round_key, mix_columns, shift_rows, sub_bytes}

-- the bytes of an exclusive or of words
pub byte_xor : (a b k : ℕ) → bit_xor a b / 2 ^ k % 2 ^ 8 ≡ bit_xor (a / 2 ^ k % 2 ^ 8) (b / 2 ^ k % 2 ^ 8)
byte_xor a b k = ap (λ (n : ℕ). n % 2 ^ 8) (xor_shr a b k) ∙ xor_mod (a / 2 ^ k) (b / 2 ^ k) 8

pub word_bytes_xor : (a b : ℕ) → word_bytes (bit_xor a b) ≡ xors (word_bytes a) (word_bytes b)
word_bytes_xor a b = rw (byte_xor a b 24, byte_xor a b 16, byte_xor a b 8, xor_mod a b 8)

pub xor_of : (a b : ℕ) (A B : List ℕ) → word_bytes a ≡ A → word_bytes b ≡ B → word_bytes (bit_xor a b) ≡ xors A B
xor_of a b A B p q = word_bytes_xor a b ∙ (ap (λ (l : List ℕ). xors l (word_bytes b)) p ∙ ap (λ (l : List ℕ). xors A l) q)

-- four words after one another
pub four : (a b c d e f g h : List ℕ) → a ≡ e → b ≡ f → c ≡ g → d ≡ h → a ++ (b ++ (c ++ d)) ≡ e ++ (f ++ (g ++ h))
four a b c d e f g h p q r s = cc

-- a column of a round, from byte 0 of p, 1 of q, 2 of r and 3 of s
unfoldable pub column_of : List ℕ → List ℕ → List ℕ → List ℕ → ℕ → List ℕ
column_of p q r s k = xors (mix_column (s_box (get_or p 0 0)) (s_box (get_or q 1 0)) (s_box (get_or r 2 0)) (s_box (get_or s 3 0))) (word_bytes k)

column_of_same : (p q r s p' q' r' s' : List ℕ) (k : ℕ) → p ≡ p' → q ≡ q' → r ≡ r' → s ≡ s' → column_of p q r s k ≡ column_of p' q' r' s' k
column_of_same p q r s p' q' r' s' k e f g h = cc

pub round_columns : (s k r a b c d : List ℕ)
    → a ≡ word_bytes (get_or s 0 0) → b ≡ word_bytes (get_or s 1 0) → c ≡ word_bytes (get_or s 2 0) → d ≡ word_bytes (get_or s 3 0)
    → word_bytes (get_or r 0 0) ≡ column_of a b c d (get_or k 0 0)
    → word_bytes (get_or r 1 0) ≡ column_of b c d a (get_or k 1 0)
    → word_bytes (get_or r 2 0) ≡ column_of c d a b (get_or k 2 0)
    → word_bytes (get_or r 3 0) ≡ column_of d a b c (get_or k 3 0)
    → state_of r ≡ full_round (state_of s) (state_of k)
unfolding state_of full_round add_round_key mix_columns shift_rows sub_bytes column_of
round_columns s k r a b c d ea eb ec ed p q u v =
    four _ _ _ _ _ _ _ _
    (p ∙ column_of_same a b c d _ _ _ _ (get_or k 0 0) ea eb ec ed)
    (q ∙ column_of_same b c d a _ _ _ _ (get_or k 1 0) eb ec ed ea)
    (u ∙ column_of_same c d a b _ _ _ _ (get_or k 2 0) ec ed ea eb)
    (v ∙ column_of_same d a b c _ _ _ _ (get_or k 3 0) ed ea eb ec)

-- the S-box values of byte 0 of p, 1 of q, 2 of r and 3 of s
unfoldable pub picked_of : List ℕ → List ℕ → List ℕ → List ℕ → List ℕ
picked_of p q r s = s_box (get_or p 0 0) ∷ s_box (get_or q 1 0) ∷ s_box (get_or r 2 0) ∷ s_box (get_or s 3 0) ∷ []

picked_of_same : (p q r s p' q' r' s' : List ℕ) → p ≡ p' → q ≡ q' → r ≡ r' → s ≡ s' → picked_of p q r s ≡ picked_of p' q' r' s'
picked_of_same p q r s p' q' r' s' e f g h = cc

pub last_columns : (s k a b c d : List ℕ) (w x y z : ℕ)
    → a ≡ word_bytes (get_or s 0 0) → b ≡ word_bytes (get_or s 1 0) → c ≡ word_bytes (get_or s 2 0) → d ≡ word_bytes (get_or s 3 0)
    → word_bytes w ≡ picked_of a b c d → word_bytes x ≡ picked_of b c d a → word_bytes y ≡ picked_of c d a b → word_bytes z ≡ picked_of d a b c
    → state_of (bit_xor w (get_or k 0 0) ∷ bit_xor x (get_or k 1 0) ∷ bit_xor y (get_or k 2 0) ∷ bit_xor z (get_or k 3 0) ∷ []) ≡ last_round (state_of s) (state_of k)
unfolding state_of last_round add_round_key shift_rows sub_bytes picked_of
last_columns s k a b c d w x y z ea eb ec ed p q u v =
    four _ _ _ _ _ _ _ _
    (xor_of w (get_or k 0 0) _ _ (p ∙ picked_of_same a b c d _ _ _ _ ea eb ec ed) refl)
    (xor_of x (get_or k 1 0) _ _ (q ∙ picked_of_same b c d a _ _ _ _ eb ec ed ea) refl)
    (xor_of y (get_or k 2 0) _ _ (u ∙ picked_of_same c d a b _ _ _ _ ec ed ea eb) refl)
    (xor_of z (get_or k 3 0) _ _ (v ∙ picked_of_same d a b c _ _ _ _ ed ea eb ec) refl)

-- ADDROUNDKEY on words
pub key-added : (s k : List ℕ)
    → state_of (bit_xor (get_or s 0 0) (get_or k 0 0) ∷ bit_xor (get_or s 1 0) (get_or k 1 0) ∷ bit_xor (get_or s 2 0) (get_or k 2 0) ∷ bit_xor (get_or s 3 0) (get_or k 3 0) ∷ []) ≡ add_round_key (state_of s) (state_of k)
unfolding state_of add_round_key
key-added s k =
    four _ _ _ _ _ _ _ _
    (word_bytes_xor (get_or s 0 0) (get_or k 0 0))
    (word_bytes_xor (get_or s 1 0) (get_or k 1 0))
    (word_bytes_xor (get_or s 2 0) (get_or k 2 0))
    (word_bytes_xor (get_or s 3 0) (get_or k 3 0))

-- the words of a block, and the block of words
pub loaded : (b : List ℕ) (w x y z : ℕ) → length b ≡ 16
    → word_bytes w ≡ get_or b 0 0 ∷ get_or b 1 0 ∷ get_or b 2 0 ∷ get_or b 3 0 ∷ []
    → word_bytes x ≡ get_or b 4 0 ∷ get_or b 5 0 ∷ get_or b 6 0 ∷ get_or b 7 0 ∷ []
    → word_bytes y ≡ get_or b 8 0 ∷ get_or b 9 0 ∷ get_or b 10 0 ∷ get_or b 11 0 ∷ []
    → word_bytes z ≡ get_or b 12 0 ∷ get_or b 13 0 ∷ get_or b 14 0 ∷ get_or b 15 0 ∷ []
    → state_of (w ∷ x ∷ y ∷ z ∷ []) ≡ b
unfolding state_of
loaded b w x y z h p q u v = four _ _ _ _ _ _ _ _ p q u v ∙ sym (fill_by_all (λ k. get_or b k 0) b 16 0 h (λ k l. refl))

pub stored : (w a b c d : List ℕ)
    → a ≡ word_bytes (get_or w 0 0) → b ≡ word_bytes (get_or w 1 0) → c ≡ word_bytes (get_or w 2 0) → d ≡ word_bytes (get_or w 3 0)
    → (get_or a 0 0 ∷ get_or a 1 0 ∷ get_or a 2 0 ∷ get_or a 3 0 ∷ get_or b 0 0 ∷ get_or b 1 0 ∷ get_or b 2 0 ∷ get_or b 3 0 ∷
    get_or c 0 0 ∷ get_or c 1 0 ∷ get_or c 2 0 ∷ get_or c 3 0 ∷ get_or d 0 0 ∷ get_or d 1 0 ∷ get_or d 2 0 ∷ get_or d 3 0 ∷ []) ≡ state_of w
unfolding state_of
stored w a b c d p q u v =
    let one : List ℕ → List ℕ = λ l. get_or l 0 0 ∷ get_or l 1 0 ∷ get_or l 2 0 ∷ get_or l 3 0 ∷ [] in
    four _ _ _ _ _ _ _ _ (ap one p) (ap one q) (ap one u) (ap one v)
