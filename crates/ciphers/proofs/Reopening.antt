-- What SIV sealed opens.
use Rattle.std.proofs.Common.{◌≡◌, ℕ, ◌+◌, ◌-◌, ◌<◌, ◌≤◌, Bool, true, false, cond, ltb, List, [], ◌∷◌, ◌++◌, map, length, take, drop, Some, None, Option, Bor, sym, refl, ap, ◌∙◌, arith, length-append, length-drop}
use lib.Bits.{bit_xor}
use Rattle.std.specs.Option.{MatchOption}
use Rattle.std.specs.Str.{bytes_eq}
use Rattle.std.proofs.lemmas.Slice.Eq.{bytes_eq-Decides}
use Rattle.std.proofs.lemmas.Simd.{length-zip2}
use Rattle.std.proofs.lemmas.List.{take_at, drop_at}
use Rattle.std.proofs.lemmas.Bool.{cond-true, cond-false, lt-ltb, le-ltb}
use Rattle.ciphers.specs.declared.aes.Aes128.{Aes128}
use Rattle.ciphers.specs.declared.siv.Siv.{Siv}
use Rattle.ciphers.specs.Bytes.{xors, zeros, number, word_bytes}
use Rattle.ciphers.specs.Fips197.{state_of, cipher, cipher_by, last_round, add_round_key, shift_rows, sub_bytes, after, round_key}
use Rattle.ciphers.specs.Keys.{aes_key}
use Rattle.ciphers.specs.Rfc4493.{Cipher, cmac, dbl}
use Rattle.ciphers.specs.Rfc5297.{s2v, lastly, masked, cleared, sealed, plain_of, genuine, opened, siv_sealed, siv_opened, OpensSealed}
use Rattle.ciphers.specs.Sivs.{siv_key}
use Rattle.ciphers.specs.Tagging.{mac_key}
use Rattle.ciphers.proofs.Expanding.{round_key_lem, cipher_is}
use Rattle.ciphers.proofs.Masking.{masks_twice, length-masked}
use Rattle.ciphers.proofs.Refusing.{Opens, bytes_in}

-- a cipher whose key is ready gives 16 bytes
pub cipher-length : (k : Aes128) (text : List ℕ) → length (cipher (aes_key k) text) ≡ 16
unfolding cipher_by last_round add_round_key shift_rows aes_key state_of
cipher-length k text =
    let w = map word_bytes k.words in
    let last = shift_rows (sub_bytes (after w (add_round_key text (round_key w 0)) 9)) in
    let key = round_key_lem k.words 10 k.full (omega arith) in
    ap length (sym (cipher_is (state_of k.words) text w k.expanded)) ∙ length-zip2 bit_xor last (round_key w 10) (ap length key)

genuine_is : (A E : Cipher) (ad z : List ℕ) → 16 ≤ length z → genuine A E ad z ≡ bytes_eq (s2v A (ad ∷ plain_of E z ∷ [])) (take 16 z)
unfolding genuine
genuine_is A E ad z h = cond-false (ltb (length z) 16) _ _ (le-ltb (length z) 16 h)

-- the test of a sealed text, as the code makes it
pub genuine-short : (A E : Cipher) (ad z : List ℕ) → length z < 16 → genuine A E ad z ≡ false
unfolding genuine
genuine-short A E ad z h = cond-true (ltb (length z) 16) _ _ (lt-ltb (length z) 16 h)

pub genuine_long : (A E : Cipher) (ad z : List ℕ) → 16 ≤ length z
    → genuine A E ad z ≡ bytes_eq (lastly A (xors (dbl (cmac A zeros)) (cmac A ad)) (masked E (cleared (number (take 16 z))) (drop 16 z))) (take 16 z)
unfolding plain_of
genuine_long A E ad z h = genuine_is A E ad z h

pub sealed_is : (A E : Cipher) (ad p v : List ℕ) (q : ℕ) → v ≡ lastly A (xors (dbl (cmac A zeros)) (cmac A ad)) p → q ≡ cleared (number v)
    → v ++ masked E q p ≡ sealed A E ad p
unfolding sealed
sealed_is A E ad p v q tag start =
    ap (λ (k : ℕ). v ++ masked E k p) start ∙ ap (λ (t : List ℕ). t ++ masked E (cleared (number t)) p) tag

pub plain_of_is : (E : Cipher) (z : List ℕ) → plain_of E z ≡ masked E (cleared (number (take 16 z))) (drop 16 z)
unfolding plain_of
plain_of_is E z = refl

pub opened-genuine : (A E : Cipher) (ad z : List ℕ) → genuine A E ad z ≡ true → opened A E ad z ≡ Some (plain_of E z)
unfolding opened
opened-genuine A E ad z e = cond-true (genuine A E ad z) _ _ e

pub opened_by : (A E : Cipher) (ad z : List ℕ) (g : Bool) → g ≡ genuine A E ad z → opened A E ad z ≡ cond g (Some (plain_of E z)) None
unfolding opened
opened_by A E ad z g e = ap (λ (b : Bool). cond b (Some (plain_of E z)) None) (sym e)

pub plain_of_length : (E : Cipher) (z : List ℕ) → length (plain_of E z) ≡ length z - 16
plain_of_length E z = ap length (plain_of_is E z) ∙ (length-masked E (cleared (number (take 16 z))) 0 (drop 16 z) ∙ length-drop 16 z)

module _ (A E : Cipher) (wide : (b : List ℕ) → length (A b) ≡ 16) (ad p : List ℕ) where
  abbrev v : List ℕ
  v = s2v A (ad ∷ p ∷ [])

  v-length : length v ≡ 16
  unfolding lastly cmac
  v-length = wide _

  front : take 16 (sealed A E ad p) ≡ v
  unfolding sealed
  front = take_at v _ 16 v-length

  back : drop 16 (sealed A E ad p) ≡ masked E (cleared (number v)) p
  unfolding sealed
  back = drop_at v _ 16 v-length

  pub sealed-length : length (sealed A E ad p) ≡ 16 + length p
  unfolding sealed
  sealed-length = length-append v (masked E (cleared (number v)) p) ∙ omega (arith, v-length, length-masked E (cleared (number v)) 0 p)

  plain : plain_of E (sealed A E ad p) ≡ p
  plain =
      plain_of_is E (sealed A E ad p) ∙
      (ap (λ (h : List ℕ). masked E (cleared (number h)) (drop 16 (sealed A E ad p))) front ∙
      (ap (masked E (cleared (number v))) back ∙ masks_twice E (cleared (number v)) p))

  pub sealed-opens : opened A E ad (sealed A E ad p) ≡ Some p
  sealed-opens =
      let z = sealed A E ad p in
      let again : s2v A (ad ∷ plain_of E z ∷ []) ≡ take 16 z = ap (λ (m : List ℕ). s2v A (ad ∷ m ∷ [])) plain ∙ sym front in
      let true-v = genuine_is A E ad z (omega (arith, sealed-length)) ∙ (bytes_eq-Decides (s2v A (ad ∷ plain_of E z ∷ [])) (take 16 z)).1 again in
      opened-genuine A E ad z true-v ∙ ap (λ (m : List ℕ). Some m) plain

-- the two halves of a key made ready
pub key-length : (k : Aes128) → length (aes_key k) ≡ 16
unfolding aes_key state_of
key-length k = refl

pub first_half : (s : Siv) → take 16 (siv_key s) ≡ mac_key s.mac
unfolding siv_key
first_half s = take_at (mac_key s.mac) (aes_key s.ctr) 16 (key-length s.mac.aes)

pub second_half : (s : Siv) → drop 16 (siv_key s) ≡ aes_key s.ctr
unfolding siv_key
second_half s = drop_at (mac_key s.mac) (aes_key s.ctr) 16 (key-length s.mac.aes)

pub siv_sealed_lem : (s : Siv) (ad p : List ℕ) → siv_sealed (siv_key s) ad p ≡ sealed (cipher (mac_key s.mac)) (cipher (aes_key s.ctr)) ad p
siv_sealed_lem s ad p =
    ap (λ (k : List ℕ). sealed (cipher k) (cipher (drop 16 (siv_key s))) ad p) (first_half s) ∙
    ap (λ (k : List ℕ). sealed (cipher (mac_key s.mac)) (cipher k) ad p) (second_half s)

pub siv_opened_lem : (s : Siv) (ad z : List ℕ) → siv_opened (siv_key s) ad z ≡ opened (cipher (mac_key s.mac)) (cipher (aes_key s.ctr)) ad z
siv_opened_lem s ad z =
    ap (λ (k : List ℕ). opened (cipher k) (cipher (drop 16 (siv_key s))) ad z) (first_half s) ∙
    ap (λ (k : List ℕ). opened (cipher (mac_key s.mac)) (cipher k) ad z) (second_half s)

pub siv_opens : (s : Siv) → OpensSealed (siv_key s)
siv_opens s ad p =
    let A = cipher (mac_key s.mac) in
    let E = cipher (aes_key s.ctr) in
    siv_opened_lem s ad (siv_sealed (siv_key s) ad p) ∙ (ap (opened A E ad) (siv_sealed_lem s ad p) ∙ sealed-opens A E (cipher-length s.mac.aes) ad p)

-- the test of SIV, as decrypt needs it: the text that comes after V is as long as the plaintext
pub opens-genuine : (s : Siv) (ad z : List ℕ) (t : Option (Bor (List ℕ)))
    → MatchOption t (genuine (cipher (mac_key s.mac)) (cipher (aes_key s.ctr)) ad z ≡ false)
    (λ x. (genuine (cipher (mac_key s.mac)) (cipher (aes_key s.ctr)) ad z ≡ true) × (16 ≤ length z) × (x.now ≡ drop 16 z))
    → Opens bytes_in t (siv_opened (siv_key s) ad z)
unfolding opened
opens-genuine s ad z None h =
    let A = cipher (mac_key s.mac) in
    let E = cipher (aes_key s.ctr) in
    siv_opened_lem s ad z ∙ cond-false (genuine A E ad z) _ _ h
opens-genuine s ad z (Some x) h =
    let A = cipher (mac_key s.mac) in
    let E = cipher (aes_key s.ctr) in
    (plain_of E z, siv_opened_lem s ad z ∙ opened-genuine A E ad z h.0, ap length h.2 ∙ (length-drop 16 z ∙ sym (plain_of_length E z)))
