-- What every Aead owes for an accepted call, from its ciphertext or its plaintext and the way that the output was written.
use Rattle.std.proofs.Common.{◌≡◌, ℕ, ◌+◌, ◌-◌, ◌≤◌, Bool, false, ltb, List, [], ◌++◌, length, take, drop, Some, Ok, Option, Result, sym, ap, ◌∙◌, append_assoc, arith, length-append, length-drop}
use borrow.Rule.Slice.PartMut.{put_mid}
use Rattle.std.proofs.lemmas.List.{take_at, take_rest, drop_at, drop_all, drop-drop, append-nil}
use Rattle.std.proofs.lemmas.Bool.{cond-false, le-ltb}
use Rattle.ciphers.specs.declared.fault.Fault.{Fault}
use Rattle.ciphers.specs.Aeads.{Meaning, Encrypted, out_of_bounds, sealing_answer, sealed_into, opening_answer, opened_into}
use Rattle.ciphers.specs.Rfc4493.{Cipher}
use Rattle.ciphers.specs.Rfc5297.{masked}
use Rattle.ciphers.proofs.Masking.{written}

-- a head of a bytes, and then k bytes after it
pub head_written : (a k : ℕ) (h o ys : List ℕ) → length h ≡ a → put_mid a k (h ++ drop a o) ys ≡ h ++ (ys ++ drop (a + k) o)
head_written a k h o ys len =
    let xs = h ++ drop a o in
    let far : drop (a + k) xs ≡ drop (a + k) o = sym (drop-drop k a xs) ∙ (ap (drop k) (drop_at h (drop a o) a len) ∙ drop-drop k a o) in
    written a k xs ys ∙
    (ap (λ (l : List ℕ). l ++ (ys ++ drop (a + k) xs)) (take_at h (drop a o) a len) ∙ ap (λ (l : List ℕ). h ++ (ys ++ l)) far)

-- a head of 16 bytes, and a masked text in the rest of the output
pub seal_written : (E : Cipher) (q : ℕ) (v h o plain ys : List ℕ) → h ≡ v → length v ≡ 16 → 16 ≤ length o
    → ys ≡ masked E q plain ++ drop (length plain) (take (length (h ++ drop 16 o) - 16) (drop 16 (h ++ drop 16 o)))
    → put_mid 16 (length (h ++ drop 16 o) - 16) (h ++ drop 16 o) ys ≡ (v ++ masked E q plain) ++ drop (16 + length plain) o
seal_written E q v h o plain ys hv lv long wrote =
    let xs = h ++ drop 16 o in
    let n = length plain in
    let lh : length h ≡ 16 = ap length hv ∙ lv in
    let lx : length xs ≡ length o = length-append h (drop 16 o) ∙ omega (arith, length-drop 16 o) in
    let none : drop (16 + (length xs - 16)) o ≡ [] = drop_all (16 + (length xs - 16)) o (omega arith) in
    let rest : take (length xs - 16) (drop 16 xs) ≡ drop 16 o = take_rest xs 16 ∙ drop_at h (drop 16 o) 16 lh in
    let y : ys ≡ masked E q plain ++ drop (16 + n) o =
    wrote ∙ (ap (λ (l : List ℕ). masked E q plain ++ drop n l) rest ∙ ap (λ (l : List ℕ). masked E q plain ++ l) (drop-drop n 16 o)) in
    head_written 16 (length xs - 16) h o ys lh ∙
    (ap (λ (l : List ℕ). h ++ (ys ++ l)) none ∙
    (ap (λ (l : List ℕ). h ++ l) (append-nil ys ∙ y) ∙
    (ap (λ (l : List ℕ). l ++ (masked E q plain ++ drop (16 + n) o)) hv ∙ sym (append_assoc v (masked E q plain) (drop (16 + n) o)))))

module _ (sealed before after : List ℕ) (n : ℕ) (len : n ≡ length sealed) (wrote : after ≡ sealed ++ drop n before) where
  pub sealed-encrypted : (opens : Meaning) (overhead : ℕ) (plain text : List ℕ)
      → out_of_bounds overhead (length plain) (length text) (length before) ≡ false → n ≤ length plain + overhead → opens sealed text ≡ Some plain
      → Encrypted opens overhead plain text before after (Ok n)
  sealed-encrypted opens overhead plain text fits few back =
      let front : take n after ≡ sealed = ap (take n) wrote ∙ take_at sealed (drop n before) n (sym len) in
      (fits, few, ap (λ (c : List ℕ). opens c text) front ∙ back, ap (drop n) wrote ∙ drop_at sealed (drop n before) n (sym len))

  pub sealed-answer : (refused : Bool) → refused ≡ false → ◌≡◌ {A = Result ℕ Fault} (Ok n) (sealing_answer refused sealed)
  sealed-answer refused e = ap (λ (k : ℕ). Ok k) len ∙ sym (cond-false refused _ _ e)

  pub sealed-output : (refused : Bool) → refused ≡ false → after ≡ sealed_into refused sealed before
  sealed-output refused e = wrote ∙ (ap (λ (k : ℕ). sealed ++ drop k before) len ∙ sym (cond-false refused _ _ e))

module _ (o : Option (List ℕ)) (plain : List ℕ) (opens : o ≡ Some plain) (n : ℕ) (len : n ≡ length plain) where
  pub opened-answer : (room : ℕ) → n ≤ room → ◌≡◌ {A = Result ℕ Fault} (Ok n) (opening_answer o room)
  opened-answer room h =
      ap (λ (k : ℕ). Ok k) len ∙
      (sym (cond-false (ltb room (length plain)) _ _ (ap (ltb room) (sym len) ∙ le-ltb room n h)) ∙ ap (λ (p : Option (List ℕ)). opening_answer p room) (sym opens))

  pub opened-output : (before after : List ℕ) → n ≤ length before → after ≡ plain ++ drop n before → after ≡ opened_into o before
  opened-output before after h wrote =
      wrote ∙
      (ap (λ (k : ℕ). plain ++ drop k before) len ∙
      (sym (cond-false (ltb (length before) (length plain)) _ _ (ap (ltb (length before)) (sym len) ∙ le-ltb (length before) n h)) ∙
      ap (λ (p : Option (List ℕ)). opened_into p before) (sym opens)))
