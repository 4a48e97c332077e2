-- Bytes as they come, whole blocks at a time, and the tag of all of them.
use Rattle.std.proofs.Common.{◌≡◌, ℕ, zero, suc, ◌+◌, ◌-◌, ◌*◌, ◌<◌, ◌≤◌, eqb, List, [], ◌∷◌, ◌++◌, length, take, drop, sym, refl, ap, ◌∙◌, append_assoc, arith, length-append, length-drop, length-take}
use Rattle.std.proofs.lemmas.List.{append-nil, take-append-drop, drop-drop}
use Rattle.std.proofs.lemmas.Bool.{eq-eqb, ne_eqb, cond-true, cond-false}
use Rattle.ciphers.specs.Bytes.{xors, zeros}
use Rattle.ciphers.specs.Rfc4493.{Cipher, Held, start, step, absorb, finish, chain, before, cmac, last_block}

module _ (E : Cipher) where
  pub absorb-append : (s : Held) (a b : List ℕ) → absorb E s (a ++ b) ≡ absorb E (absorb E s a) b
  unfolding absorb
  absorb-append s [] b = refl
  absorb-append s (x ∷ a) b = absorb-append (step E s x) a b

  -- a byte that is held, and one that comes after a full block
  step-held : (x h : List ℕ) (b : ℕ) → length h < 16 → step E (x, h) b ≡ (x, h ++ (b ∷ []))
  unfolding step
  step-held x h b l = cond-false (eqb (length h) 16) _ _ (ne_eqb (length h) 16 (λ e. omega arith))

  step-full : (x h : List ℕ) (b : ℕ) → length h ≡ 16 → step E (x, h) b ≡ (E (xors x h), b ∷ [])
  unfolding step
  step-full x h b l = cond-true (eqb (length h) 16) _ _ (eq-eqb (length h) 16 l)

  -- as many bytes as can be held
  pub absorb-held : (x h m : List ℕ) → length h + length m ≤ 16 → absorb E (x, h) m ≡ (x, h ++ m)
  unfolding absorb
  absorb-held x h [] l = ap (λ (t : List ℕ). (x, t)) (sym (append-nil h))
  absorb-held x h (b ∷ m) l =
      ap (λ (s : Held). absorb E s m) (step-held x h b (omega arith)) ∙
      (absorb-held x (h ++ (b ∷ [])) m (simp length-append (omega arith)) ∙ ap (λ (t : List ℕ). (x, t)) (append_assoc h (b ∷ []) m))

  -- a full block goes into X where more bytes come
  pub absorb-full : (x h m : List ℕ) → length h ≡ 16 → 0 < length m → absorb E (x, h) m ≡ absorb E (E (xors x h), []) m
  unfolding absorb
  absorb-full x h [] l p = absurd (omega arith)
  absorb-full x h (b ∷ m) l p = ap (λ (s : Held). absorb E s m) (step-full x h b l ∙ sym (step-held (E (xors x h)) [] b (omega arith)))

  absorb-blocks : (n : ℕ) (x m : List ℕ) → (0 < n → 16 * n < length m) → length m ≤ 16 * n + 16 → absorb E (x, []) m ≡ (chain E x n m, drop (16 * n) m)
  absorb-blocks zero x m lo hi = absorb-held x [] m (omega arith)
  absorb-blocks (suc n) x m lo hi =
      let big : 16 * suc n < length m = lo (omega arith) in
      let one : length (take 16 m) ≡ 16 = simp length-take (omega arith) in
      let rest : length (drop 16 m) ≡ length m - 16 = simp length-drop (omega arith) in
      let at : 16 + 16 * n ≡ 16 * suc n = omega arith in
      ap (absorb E (x, [])) (sym (take-append-drop 16 m)) ∙
      (absorb-append (x, []) (take 16 m) (drop 16 m) ∙
      (ap (λ (s : Held). absorb E s (drop 16 m)) (absorb-held x [] (take 16 m) (omega arith)) ∙
      (absorb-full x (take 16 m) (drop 16 m) one (omega arith) ∙
      (absorb-blocks n (E (xors x (take 16 m))) (drop 16 m) (λ _. omega arith) (omega arith) ∙
      ap (λ (t : List ℕ). (chain E x (suc n) m, t)) (drop-drop (16 * n) 16 m ∙ ap (λ (k : ℕ). drop k m) at)))))

  pub cmac-is : (m : List ℕ) → cmac E m ≡ finish E (absorb E start m)
  unfolding cmac finish
  cmac-is m = sym (ap (λ (s : Held). E (xors s.0 (last_block E s.1))) (absorb-blocks (before m) zeros m (λ p. omega arith) (omega arith)))
