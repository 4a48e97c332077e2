-- The counter mode's mask: byte by byte in the definition, block by block in the code.
use Rattle.std.proofs.Common.{◌≡◌, ℕ, zero, suc, ◌+◌, ◌-◌, ◌*◌, ◌/◌, ◌%◌, ◌^◌, ◌<◌, ◌≤◌, List, [], ◌∷◌, ◌++◌, length, get_or, take, drop, set, sym, refl, ap, ◌∙◌, append_assoc, add-zero, add-suc, suc-add, zero-add, add-one, arith, length-append, length-drop}
use lib.Bits.{bit_xor, xor_assoc, xor_self, xor_zero_r}
use borrow.Rule.Slice.PartMut.{put_mid}
use Rattle.std.proofs.lemmas.List.{append-nil, take-take, drop-take, take_all, take_at, drop_all, drop_at, drop_more, drop-drop, length-take-le, set_at}
use Rattle.ciphers.specs.Bytes.{xors, bytes}
use Rattle.ciphers.specs.Rfc4493.{Cipher}
use Rattle.ciphers.specs.Rfc5297.{counter, key_byte, masked_from, masked, MasksTwice}

-- a front of a list in two parts
pub take_parts : (n k : ℕ) (xs : List ℕ) → take (n + k) xs ≡ take n xs ++ take k (drop n xs)
take_parts zero k xs = ap (λ (i : ℕ). take i xs) (zero-add k)
take_parts (suc n) k [] = ap (λ (i : ℕ). take i []) (suc-add n k) ∙ sym (take_all k [] (omega arith))
take_parts (suc n) k (x ∷ xs) = ap (λ (i : ℕ). take i (x ∷ xs)) (suc-add n k) ∙ ap (λ (l : List ℕ). x ∷ l) (take_parts n k xs)

-- the chunk of 16 that comes next, and what is left then
pub next_chunk : (text : List ℕ) (at : ℕ) (b r : List ℕ) → at ≤ length text → drop at text ≡ b ++ r → length b ≡ 16
    → (at + 16 ≤ length text) × (b ≡ take 16 (drop at text)) × (r ≡ drop (at + 16) text)
next_chunk text at b r low e sixteen =
    let whole : length text - at ≡ length b + length r = sym (length-drop at text) ∙ (ap length e ∙ length-append b r) in (
      omega (arith, whole),
      sym (take_at b r 16 sixteen) ∙ ap (take 16) (sym e),
      sym (drop_at b r 16 sixteen) ∙ (ap (drop 16) (sym e) ∙ drop-drop 16 at text),
    )

-- the same of the first n bytes
pub next_chunk_within : (n at : ℕ) (text b r : List ℕ) → at ≤ n → n ≤ length text → drop at (take n text) ≡ b ++ r → length b ≡ 16
    → (at + 16 ≤ n) × (b ≡ take 16 (drop at text)) × (r ≡ drop (at + 16) (take n text))
next_chunk_within n at text b r low long e sixteen =
    let size : length (take n text) ≡ n = length-take-le n text long in
    let here = next_chunk (take n text) at b r (omega arith) e sixteen in
    let inside : at + 16 ≤ n = omega (arith, here.0) in
    let back : n ≡ at + (n - at) = omega arith in
    let part : drop at (take n text) ≡ take (n - at) (drop at text) = ap (λ (k : ℕ). drop at (take k text)) back ∙ drop-take at (n - at) text in
    (inside, here.1 ∙ (ap (take 16) part ∙ take-take 16 (n - at) (drop at text) (omega arith)), here.2)

xor_twice : (a k : ℕ) → bit_xor (bit_xor a k) k ≡ a
xor_twice a k = xor_assoc a k k ∙ (ap (bit_xor a) (xor_self k) ∙ xor_zero_r a)

masks_twice_from : (E : Cipher) (q i : ℕ) (m : List ℕ) → masked_from E q i (masked_from E q i m) ≡ m
unfolding masked_from
masks_twice_from E q i [] = refl
masks_twice_from E q i (b ∷ m) =
    ap (λ (x : ℕ). x ∷ masked_from E q (suc i) (masked_from E q (suc i) m)) (xor_twice b (key_byte E q i)) ∙
    ap (λ (l : List ℕ). b ∷ l) (masks_twice_from E q (suc i) m)

pub masks_twice : MasksTwice
masks_twice E q m = masks_twice_from E q 0 m

module _ (E : Cipher) (q : ℕ) where
  pub length-masked : (i : ℕ) (m : List ℕ) → length (masked_from E q i m) ≡ length m
  unfolding masked_from
  length-masked i [] = refl
  length-masked i (b ∷ m) = ap suc (length-masked (suc i) m)

  pub masked-append : (i : ℕ) (a b : List ℕ) → masked_from E q i (a ++ b) ≡ masked_from E q i a ++ masked_from E q (i + length a) b
  unfolding masked_from
  masked-append i [] b = ap (λ (k : ℕ). masked_from E q k b) (sym (add-zero i))
  masked-append i (x ∷ a) b =
      ap (λ (l : List ℕ). bit_xor x (key_byte E q i) ∷ l)
      (masked-append (suc i) a b ∙ ap (λ (k : ℕ). masked_from E q (suc i) a ++ masked_from E q k b) (suc-add i (length a) ∙ sym (add-suc i (length a))))

  -- a part of a block, from its byte k on
  in_block : (j k : ℕ) (m s : List ℕ) → s ≡ E (counter q j) → length s ≡ 16 → k + length m ≤ 16 → masked_from E q (16 * j + k) m ≡ xors m (drop k s)
  unfolding masked_from key_byte
  in_block j k [] s e full few = refl
  in_block j k (b ∷ m) s e full few =
      let block : (16 * j + k) / 16 ≡ j = omega arith in
      let place : (16 * j + k) % 16 ≡ k = omega arith in
      let inside : k < length s = omega arith in
      let next : suc (16 * j + k) ≡ 16 * j + (k + 1) = omega arith in
      let here : key_byte E q (16 * j + k) ≡ get_or s k 0 =
      ap (λ (n : ℕ). get_or (E (counter q n)) ((16 * j + k) % 16) 0) block ∙ (ap (λ (n : ℕ). get_or (E (counter q j)) n 0) place ∙ ap (λ (l : List ℕ). get_or l k 0) (sym e)) in
      ap (λ (x : ℕ). bit_xor b x ∷ masked_from E q (suc (16 * j + k)) m) here ∙
      (ap (λ (n : ℕ). bit_xor b (get_or s k 0) ∷ masked_from E q n m) next ∙
      (ap (λ (l : List ℕ). bit_xor b (get_or s k 0) ∷ l) (in_block j (k + 1) m s e full (omega arith)) ∙
      ap (xors (b ∷ m)) (sym (drop_more s k 0 inside))))

  pub block-masked : (j : ℕ) (m s : List ℕ) → s ≡ E (counter q j) → length s ≡ 16 → length m ≤ 16 → masked_from E q (16 * j) m ≡ xors m s
  block-masked j m s e full few = ap (λ (n : ℕ). masked_from E q n m) (sym (add-zero (16 * j))) ∙ in_block j 0 m s e full (omega arith)

  -- the text up to e masked, from the text up to at and one more part of a block
  pub masked-next : (text s b : List ℕ) (j at e : ℕ) → at ≡ 16 * j → at ≤ length text
      → s ≡ E (counter q j) → length s ≡ 16 → length b ≤ 16 → take e text ≡ take at text ++ b
      → masked E q (take e text) ≡ masked E q (take at text) ++ xors b s
  masked-next text s b j at e is inside block full few parts =
      let a = take at text in
      let place : 0 + length a ≡ 16 * j = zero-add (length a) ∙ (length-take-le at text inside ∙ is) in
      ap (masked E q) parts ∙
      (masked-append 0 a b ∙ ap (λ (l : List ℕ). masked E q a ++ l) (ap (λ (n : ℕ). masked_from E q n b) place ∙ block-masked j b s block full few))

  -- and written into its place
  pub mask_step : (text o out s b : List ℕ) (j at e : ℕ) → at ≡ 16 * j → at ≤ length text → out ≡ masked E q (take at text) ++ drop at o
      → s ≡ E (counter q j) → length s ≡ 16 → length b ≤ 16 → e ≡ at + length b → take e text ≡ take at text ++ b
      → take at out ++ (xors b s ++ drop e out) ≡ masked E q (take e text) ++ drop e o
  mask_step text o out s b j at e is inside before block full few end parts =
      let m = masked E q (take at text) in
      let len : length m ≡ at = length-masked 0 (take at text) ∙ length-take-le at text inside in
      let head : take at out ≡ m = ap (take at) before ∙ take_at m (drop at o) at len in
      let rest : drop e out ≡ drop e o =
      ap (λ (n : ℕ). drop n out) end ∙
      (sym (drop-drop (length b) at out) ∙
      (ap (drop (length b)) (ap (drop at) before ∙ drop_at m (drop at o) at len) ∙
      (drop-drop (length b) at o ∙ ap (λ (n : ℕ). drop n o) (sym end)))) in
      let more = masked-next text s b j at e is inside block full few parts in
      ap (λ (l : List ℕ). l ++ (xors b s ++ drop e out)) head ∙
      (ap (λ (l : List ℕ). m ++ (xors b s ++ l)) rest ∙
      (sym (append_assoc m (xors b s) (drop e o)) ∙ ap (λ (l : List ℕ). l ++ drop e o) (sym more)))

  -- the front of an output that a text was masked into
  pub masked-front : (n : ℕ) (t out o : List ℕ) → out ≡ masked E q t ++ o → n ≡ length t → take n out ≡ masked E q t
  masked-front n t out o e h = ap (take n) e ∙ take_at (masked E q t) o n (length-masked 0 t ∙ sym h)

-- the key stream from block j on
module _ (E : Cipher) (q j : ℕ) where
  later-byte : (i : ℕ) → key_byte E ((q + j) % 2 ^ 128) i ≡ key_byte E q (16 * j + i)
  unfolding key_byte counter
  later-byte i =
      let number : ((q + j) % 2 ^ 128 + i / 16) % 2 ^ 128 ≡ (q + (16 * j + i) / 16) % 2 ^ 128 = omega arith in
      let place : i % 16 ≡ (16 * j + i) % 16 = omega arith in
      ap (λ (n : ℕ). get_or (E (bytes 16 n)) (i % 16) 0) number ∙ ap (λ (n : ℕ). get_or (E (bytes 16 ((q + (16 * j + i) / 16) % 2 ^ 128))) n 0) place

  later-from : (i : ℕ) (t : List ℕ) → masked_from E ((q + j) % 2 ^ 128) i t ≡ masked_from E q (16 * j + i) t
  unfolding masked_from
  later-from i [] = refl
  later-from i (b ∷ t) =
      ap (λ (x : ℕ). bit_xor b x ∷ masked_from E ((q + j) % 2 ^ 128) (suc i) t) (later-byte i) ∙
      ap (λ (l : List ℕ). bit_xor b (key_byte E q (16 * j + i)) ∷ l) (later-from (suc i) t ∙ ap (λ (n : ℕ). masked_from E q n t) (add-suc (16 * j) i))

  pub masked-later : (m : List ℕ) → masked E ((q + j) % 2 ^ 128) m ≡ masked_from E q (16 * j) m
  masked-later m = later-from 0 m ∙ ap (λ (n : ℕ). masked_from E q n m) (add-zero (16 * j))

-- what a write to a part of a list leaves
pub written : (a k : ℕ) (xs ys : List ℕ) → put_mid a k xs ys ≡ take a xs ++ (ys ++ drop (a + k) xs)
written a k xs ys = ap (λ (l : List ℕ). take a xs ++ (ys ++ l)) (drop-drop k a xs)

-- one byte more of a sum
xors_more : (u s : List ℕ) (n : ℕ) → n < length u → n < length s → xors (take (n + 1) u) s ≡ xors (take n u) s ++ (bit_xor (get_or u n 0) (get_or s n 0) ∷ [])
xors_more u s n hu hs = ap (λ (k : ℕ). xors (take k u) s) (add-one n) ∙ go u s n hu hs
  where
    go : (u s : List ℕ) (n : ℕ) → n < length u → n < length s → xors (take (suc n) u) s ≡ xors (take n u) s ++ (bit_xor (get_or u n 0) (get_or s n 0) ∷ [])
    go [] s n hu hs = absurd (omega arith)
    go (x ∷ u) [] n hu hs = absurd (omega arith)
    go (x ∷ u) (y ∷ s) zero hu hs = refl
    go (x ∷ u) (y ∷ s) (suc n) hu hs = ap (λ (l : List ℕ). bit_xor x y ∷ l) (go u s n (omega arith) (omega arith))

xors-length : (u s : List ℕ) → length u ≤ length s → length (xors u s) ≡ length u
xors-length [] s h = refl
xors-length (x ∷ u) [] h = absurd (omega arith)
xors-length (x ∷ u) (y ∷ s) h = ap suc (xors-length u s (omega arith))

pub rest_more : (o t s : List ℕ) (i : ℕ) → i < length t → i < length o → length t ≤ length s
    → set (xors (take i t) s ++ drop i o) i (bit_xor (get_or t i 0) (get_or s i 0)) ≡ xors (take (i + 1) t) s ++ drop (i + 1) o
rest_more o t s i ht ho hs =
    let v = bit_xor (get_or t i 0) (get_or s i 0) in
    let front : length (take i t) ≡ i = length-take-le i t (omega arith) in
    let len : length (xors (take i t) s) ≡ i = xors-length (take i t) s (omega arith) ∙ front in
    ap (λ (l : List ℕ). set (xors (take i t) s ++ l) i v) (drop_more o i 0 ho) ∙
    (set_at (xors (take i t) s) (get_or o i 0) (drop (i + 1) o) v i len ∙
    (sym (append_assoc (xors (take i t) s) (v ∷ []) (drop (i + 1) o)) ∙ ap (λ (l : List ℕ). l ++ drop (i + 1) o) (sym (xors_more t s i ht (omega arith)))))

-- a write to the rest of a list, from a place on
pub written_rest : (a n k : ℕ) (xs ys z : List ℕ) → n ≡ length xs - a → a ≤ length xs → ys ≡ z ++ drop k (take n (drop a xs)) → put_mid a n xs ys ≡ take a xs ++ (z ++ drop (a + k) xs)
written_rest a n k xs ys z len inside wrote =
    let all : take n (drop a xs) ≡ drop a xs = take_all n (drop a xs) (omega (arith, length-drop a xs)) in
    let none : drop (a + n) xs ≡ [] = drop_all (a + n) xs (omega arith) in
    written a n xs ys ∙
    (ap (λ (l : List ℕ). take a xs ++ (ys ++ l)) none ∙
    (ap (λ (l : List ℕ). take a xs ++ l) (append-nil ys ∙ wrote ∙ ap (λ (l : List ℕ). z ++ drop k l) all) ∙
    ap (λ (l : List ℕ). take a xs ++ (z ++ l)) (drop-drop k a xs)))
