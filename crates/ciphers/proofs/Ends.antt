-- The last component of S2V, in parts.
use Rattle.std.proofs.Common.{◌≡◌, ℕ, ◌+◌, ◌-◌, ◌*◌, ◌%◌, ◌^◌, ◌<◌, ◌≤◌, ltb, List, ◌++◌, length, take, drop, sym, refl, ap, ◌∙◌, append_assoc, zero-add, arith, length-append, length-drop}
use Rattle.std.proofs.lemmas.List.{take_at, length-take-le, drop_at, drop-drop, take-append-drop}
use Rattle.std.proofs.lemmas.Bool.{lt-ltb, le-ltb, cond-true, cond-false}
use Rattle.ciphers.specs.Bytes.{xors}
use Rattle.ciphers.specs.Fips197.{cipher}
use Rattle.ciphers.specs.Rfc4493.{Cipher, cmac, dbl, padded}
use Rattle.ciphers.specs.Rfc5297.{xor_end, lastly, masked, masked_from}
use Rattle.ciphers.specs.Tagging.{Progress, begun, absorbed, tag_of}
use Rattle.ciphers.proofs.InPieces.{absorbed-append, tag_is}
use Rattle.ciphers.proofs.Masking.{take_parts, masked-append, masked-later, length-masked}

pub lastly-short : (A : Cipher) (d m : List ℕ) → length m < 16 → lastly A d m ≡ cmac A (xors (dbl d) (padded m))
unfolding lastly
lastly-short A d m h = ap (cmac A) (cond-true (ltb (length m) 16) _ _ (lt-ltb (length m) 16 h))

pub lastly_long : (A : Cipher) (d m : List ℕ) → 16 ≤ length m → lastly A d m ≡ cmac A (xor_end m d)
unfolding lastly
lastly_long A d m h = ap (cmac A) (cond-false (ltb (length m) 16) _ _ (le-ltb (length m) 16 h))

-- xorend touches the last 16 bytes alone
pub xor_end-append : (a m d : List ℕ) → 16 ≤ length m → xor_end (a ++ m) d ≡ a ++ xor_end m d
unfolding xor_end
xor_end-append a m d long =
    let k = length m - 16 in
    let at : length (a ++ m) - 16 ≡ length a + k = omega (arith, length-append a m) in
    let head : take (length a + k) (a ++ m) ≡ a ++ take k m =
    take_parts (length a) k (a ++ m) ∙
    (ap (λ (l : List ℕ). l ++ take k (drop (length a) (a ++ m))) (take_at a m (length a) refl) ∙ ap (λ (l : List ℕ). a ++ take k l) (drop_at a m (length a) refl)) in
    let tail : drop (length a + k) (a ++ m) ≡ drop k m = sym (drop-drop k (length a) (a ++ m)) ∙ ap (drop k) (drop_at a m (length a) refl) in
    ap (λ (n : ℕ). take n (a ++ m) ++ xors (drop n (a ++ m)) d) at ∙
    (ap (λ (l : List ℕ). l ++ xors (drop (length a + k) (a ++ m)) d) head ∙
    (ap (λ (l : List ℕ). (a ++ take k m) ++ xors l d) tail ∙ append_assoc a (take k m) (xors (drop k m) d)))

-- the two parts absorbed one after the other
pub end_absorbed : (p q r : Progress) (m d b e : List ℕ) (n : ℕ) → n + 16 ≡ length m
    → q ≡ absorbed p (take n m) → b ≡ drop n m → e ≡ xors b d → r ≡ absorbed q e
    → r ≡ absorbed p (xor_end m d)
unfolding xor_end
end_absorbed p q r m d b e n len first last sum second =
    let at : length m - 16 ≡ n = omega arith in
    second ∙ (ap (λ (s : Progress). absorbed s e) first ∙
    (ap (absorbed (absorbed p (take n m))) (sum ∙ ap (λ (l : List ℕ). xors l d) last) ∙
    (sym (absorbed-append p (take n m) (xors (drop n m) d)) ∙
    ap (λ (k : ℕ). absorbed p (take k m ++ xors (drop k m) d)) (sym at))))

-- a masked text in two parts at block k: the first was absorbed, the second is at hand
pub tail_tag : (key : List ℕ) (E : Cipher) (q k : ℕ) (text tail d : List ℕ) (p : Progress) → 16 * k + 16 ≤ length text
    → p ≡ absorbed (begun key) (masked E q (take (16 * k) text))
    → tail ≡ masked E ((q + k) % 2 ^ 128) (drop (16 * k) text)
    → tag_of (absorbed p (xor_end tail d)) ≡ cmac (cipher key) (xor_end (masked E q text) d)
tail_tag key E q k text tail d p long before here =
    let at = 16 * k in
    let m = masked E q (take at text) in
    let n = masked_from E q at (drop at text) in
    let place : 0 + length (take at text) ≡ at = zero-add (length (take at text)) ∙ length-take-le at text (omega arith) in
    let parts : masked E q text ≡ m ++ n =
    ap (masked E q) (sym (take-append-drop at text)) ∙
    (masked-append E q 0 (take at text) (drop at text) ∙ ap (λ (i : ℕ). m ++ masked_from E q i (drop at text)) place) in
    let second : tail ≡ n = here ∙ masked-later E q k (drop at text) in
    let enough : 16 ≤ length n = omega (arith, length-masked E q at (drop at text), length-drop at text) in
    ap (λ (s : Progress). tag_of (absorbed s (xor_end tail d))) before ∙
    (ap (λ (t : List ℕ). tag_of (absorbed (absorbed (begun key) m) (xor_end t d))) second ∙
    (ap tag_of (sym (absorbed-append (begun key) m (xor_end n d))) ∙
    (tag_is key (m ++ xor_end n d) ∙
    ap (cmac (cipher key)) (sym (xor_end-append m n d enough) ∙ ap (λ (t : List ℕ). xor_end t d) (sym parts)))))
