-- Words expanded one by one are KEYEXPANSION's, and the rounds over them are CIPHER.
use Rattle.std.proofs.Common.{◌≡◌, ℕ, ◌+◌, ◌-◌, ◌*◌, ◌/◌, ◌%◌, ◌<◌, ◌≤◌, cond, eqb, ◌≢◌, List, [], ◌∷◌, ◌++◌, map, length, get_or, take, set, sym, refl, ap, ◌∙◌, add-one, arith}
use lib.Bits.{bit_xor}
use Rattle.std.proofs.lemmas.List.{get_or-map, get_or-take, get_or-set_other, length-map, length-take-le, take_more_set, take_all, map_push}
use Rattle.ciphers.specs.Bytes.{word_bytes, xors}
use Rattle.ciphers.specs.Fips197.{state_of, round_key, rot_word, sub_word, rcon, next_word, expand, key_words, key_expansion, after, full_round, last_round, add_round_key, cipher_by, cipher}
use Rattle.ciphers.proofs.Columns.{four, xor_of}

-- a round key of the words
pub round_key_lem : (ws : List ℕ) (i : ℕ) → length ws ≡ 44 → i < 11
    → state_of (get_or ws (4 * i) 0 ∷ get_or ws (4 * i + 1) 0 ∷ get_or ws (4 * i + 2) 0 ∷ get_or ws (4 * i + 3) 0 ∷ []) ≡ round_key (map word_bytes ws) i
unfolding state_of
round_key_lem ws i full h =
    let at : (k : ℕ) → k < 44 → word_bytes (get_or ws k 0) ≡ get_or (map word_bytes ws) k [] = λ k lt. sym (get_or-map word_bytes ws k 0 [] (omega arith)) in
    four _ _ _ _ _ _ _ _ (at (4 * i) (omega arith)) (at (4 * i + 1) (omega arith)) (at (4 * i + 2) (omega arith)) (at (4 * i + 3) (omega arith))

pub after_more : (w : List (List ℕ)) (s : List ℕ) (n : ℕ) → after w s (n + 1) ≡ full_round (after w s n) (round_key w (n + 1))
unfolding after
after_more w s n =
    ap (after w s) (add-one n) ∙ ap (λ (k : ℕ). full_round (after w s n) (round_key w k)) (sym (add-one n))

pub after_none : (w : List (List ℕ)) (s : List ℕ) → after w s 0 ≡ s
unfolding after
after_none w s = refl

pub cipher_by_is : (w : List (List ℕ)) (text : List ℕ) → cipher_by w text ≡ last_round (after w (add_round_key text (round_key w 0)) 9) (round_key w 10)
unfolding cipher_by
cipher_by_is w text = refl

pub cipher_is : (key text : List ℕ) (w : List (List ℕ)) → w ≡ key_expansion key → cipher_by w text ≡ cipher key text
unfolding cipher
cipher_is key text w e = ap (λ (v : List (List ℕ)). cipher_by v text) e

-- what is added to the word four places back
abbrev added : ℕ → List ℕ → List ℕ
added i t = cond (eqb (i % 4) 0) (xors (sub_word (rot_word t)) (rcon (i / 4))) t

next_is : (ws : List ℕ) (i : ℕ) → 4 ≤ i → i ≤ length ws
    → next_word (map word_bytes (take i ws)) ≡ xors (word_bytes (get_or ws (i - 4) 0)) (added i (word_bytes (get_or ws (i - 1) 0)))
unfolding next_word
next_is ws i low high =
    let v = map word_bytes (take i ws) in
    let some : length (take i ws) ≡ i = length-take-le i ws high in
    let len : length v ≡ i = length-map (take i ws) word_bytes ∙ some in
    let at : (k : ℕ) → k < i → get_or v k [] ≡ word_bytes (get_or ws k 0) =
    λ k lt. get_or-map word_bytes (take i ws) k 0 [] (omega arith) ∙ ap word_bytes (get_or-take i ws k 0 lt) in
    ap (λ (n : ℕ). xors (get_or v (n - 4) []) (added n (get_or v (n - 1) []))) len ∙
    (ap (λ (t : List ℕ). xors t (added i (get_or v (i - 1) []))) (at (i - 4) (omega arith)) ∙
    ap (λ (t : List ℕ). xors (word_bytes (get_or ws (i - 4) 0)) (added i t)) (at (i - 1) (omega arith)))

expand_more : (n m : ℕ) (w : List (List ℕ)) → m ≡ n + 1 → expand m w ≡ expand n w ++ (next_word (expand n w) ∷ [])
unfolding expand
expand_more n m w e = ap (λ (k : ℕ). expand k w) (e ∙ add-one n)

-- one word more
pub grown : (first : List (List ℕ)) (w : List ℕ) (i t : ℕ) → 4 ≤ i → i < length w
    → map word_bytes (take i w) ≡ expand (i - 4) first
    → word_bytes t ≡ added i (word_bytes (get_or w (i - 1) 0))
    → map word_bytes (take (i + 1) (set w i (bit_xor (get_or w (i - 4) 0) t))) ≡ expand (i + 1 - 4) first
grown first w i t low h before temp =
    let y = bit_xor (get_or w (i - 4) 0) t in
    let word : word_bytes y ≡ next_word (expand (i - 4) first) =
    xor_of (get_or w (i - 4) 0) t _ _ refl temp ∙ (sym (next_is w i low (omega arith)) ∙ ap next_word before) in
    ap (map word_bytes) (take_more_set w i y h) ∙
    (map_push word_bytes (take i w) y ∙
    (ap (λ (l : List (List ℕ)). l ++ (word_bytes y ∷ [])) before ∙
    (ap (λ (v : List ℕ). expand (i - 4) first ++ (v ∷ [])) word ∙ sym (expand_more (i - 4) (i + 1 - 4) first (omega arith)))))

-- the first four words stay
pub key-kept : (w : List ℕ) (i y : ℕ) → 4 ≤ i → state_of (set w i y) ≡ state_of w
unfolding state_of
key-kept w i y low =
    let at : (k : ℕ) → k < 4 → word_bytes (get_or (set w i y) k 0) ≡ word_bytes (get_or w k 0) =
    λ k lt. let ne : k ≢ i = omega arith in ap word_bytes (get_or-set_other w i k y 0 ne) in
    four _ _ _ _ _ _ _ _ (at 0 (omega arith)) (at 1 (omega arith)) (at 2 (omega arith)) (at 3 (omega arith))

-- four words, and others after them
pub words_first : (ws zs : List ℕ) → length ws ≡ 4 → (state_of (ws ++ zs) ≡ state_of ws) × (map word_bytes (take 4 (ws ++ zs)) ≡ expand 0 (key_words (state_of (ws ++ zs))))
unfolding state_of expand
words_first (a ∷ b ∷ c ∷ d ∷ []) zs h = (refl, refl)
words_first [] zs h = absurd (omega arith)
words_first (a ∷ []) zs h = absurd (omega arith)
words_first (a ∷ b ∷ []) zs h = absurd (omega arith)
words_first (a ∷ b ∷ c ∷ []) zs h = absurd (omega arith)
words_first (a ∷ b ∷ c ∷ d ∷ e ∷ ws) zs h = absurd (omega arith)

pub expanded_all : (w first key : List ℕ) (i : ℕ) → i ≡ 44 → length w ≡ 44 → first ≡ key
    → map word_bytes (take i w) ≡ expand (i - 4) (key_words first) → map word_bytes w ≡ key_expansion key
unfolding key_expansion
expanded_all w first key i end full same before =
    ap (map word_bytes) (sym (take_all i w (omega arith))) ∙
    (before ∙ (ap (λ (n : ℕ). expand (n - 4) (key_words first)) end ∙ ap (λ (k : List ℕ). expand 40 (key_words k)) same))
