-- Validation accepts the valid keysets and no other.
use Rattle.std.proofs.Common.{◌≡◌, ℕ, zero, suc, ◌+◌, ◌<◌, Bool, true, false, not, ◌&&◌, ◌||◌, eqb, ◌⊎◌, List, [], ◌∷◌, length, is_some, Ok, Err, sym, refl, ap, ◌∙◌, inl, inr, arith}
use Rattle.std.proofs.lemmas.Bool.{both_ways, cases_Bool, not-true, not_from_false, eqb-false, ne_eqb, and_left, and_right, or_cases, or_left, or_right}
use Rattle.ciphers.specs.declared.fault.Fault.{Fault}
use Rattle.encoding.specs.Meanings.{KeyMeaning}
use Rattle.keysets.specs.Answering.{Answer, only_if, at_place}
use Rattle.keysets.specs.Edits.{key_at}
use Rattle.encoding.specs.Kinds.{prefix_of}
use Rattle.keysets.specs.Validation.{valid_key, enabled_key, primary_key, not_public_key, placed_from, any_key, not_second, valid_keys, valid_among, valid}
use Rattle.keysets.specs.Validity.{ValidKey, OnePrimary, SomePrimary, AllPublic, Valid, AcceptsTheValid}
use Rattle.keysets.proofs.Answers.{held, both_ok, ok_both, only_ok, place_ok, ok_place}

pub key-valid : (k : KeyMeaning) → valid_key k ≡ Ok tt → ValidKey k
key-valid k e =
    let a = both_ok (only_if (not (eqb k.key_id 0)) _) _ e in
    let b = both_ok (only_if (is_some k.key_data) _) _ a.1 in
    let c = both_ok (only_if (is_some (prefix_of k.output_prefix_type)) _) _ b.1 in
    record {
      has_id = eqb-false k.key_id 0 (not-true _ (held _ _ (sym a.0)));
      has_data = held _ _ (sym b.0);
      has_prefix = held _ _ (sym c.0);
      has_status = held _ _ (sym c.1);
    }

pub valid-key : (k : KeyMeaning) → ValidKey k → valid_key k ≡ Ok tt
valid-key k v =
    ok_both _ _ (only_ok _ _ (not_from_false _ (ne_eqb k.key_id 0 v.has_id)))
    (ok_both _ _ (only_ok _ _ v.has_data) (ok_both _ _ (only_ok _ _ v.has_prefix) (only_ok _ _ v.has_status)))

-- some key passes a test
any_some : (test : KeyMeaning → Bool) (i : ℕ) (ks : List KeyMeaning) → any_key test (placed_from i ks) ≡ true → (j : ℕ) × (j < length ks) × (test (key_at ks j) ≡ true)
any_some test i [] e = absurd (both_ways false refl e)
any_some test i (k ∷ ks) e = elim (or_cases (test k) (any_key test (placed_from (i + 1) ks)) e) [
  | inl h ↦ (0, omega arith, h)
  | inr t ↦ let r = any_some test (i + 1) ks t in (suc r.0, omega (arith, r.1), r.2)
]

some_any : (test : KeyMeaning → Bool) (i : ℕ) (ks : List KeyMeaning) (j : ℕ) → j < length ks → test (key_at ks j) ≡ true → any_key test (placed_from i ks) ≡ true
some_any test i [] j l e = absurd (omega arith)
some_any test i (k ∷ ks) zero l e = or_left (test k) _ e
some_any test i (k ∷ ks) (suc j) l e = or_right (test k) _ (some_any test (i + 1) ks j (omega arith) e)

any_none : (test : KeyMeaning → Bool) (i : ℕ) (ks : List KeyMeaning) → any_key test (placed_from i ks) ≡ false → (j : ℕ) → j < length ks → test (key_at ks j) ≡ false
any_none test i ks e j l = elim (cases_Bool (test (key_at ks j))) [ inl t ↦ absurd (both_ways _ e (some_any test i ks j l t)) | inr f ↦ f ]

none_any : (test : KeyMeaning → Bool) (i : ℕ) (ks : List KeyMeaning) → ((j : ℕ) → j < length ks → test (key_at ks j) ≡ false) → any_key test (placed_from i ks) ≡ false
none_any test i ks h = elim (cases_Bool (any_key test (placed_from i ks))) [
  | inl t ↦ let r = any_some test i ks t in absurd (both_ways _ (h r.0 r.1) r.2)
  | inr f ↦ f
]

-- what the walk over the keys finds; `had` says that a primary key stands before them
record Walked (p : ℕ) (had : Bool) (ks : List KeyMeaning) : Type 0 where
  each : (j : ℕ) → j < length ks → ValidKey (key_at ks j)
  alone : had ≡ true → (j : ℕ) → j < length ks → primary_key p (key_at ks j) ≡ false
  one : OnePrimary p ks

walked_more : (p : ℕ) (had : Bool) (k : KeyMeaning) (ks : List KeyMeaning) → ValidKey k → (had && primary_key p k) ≡ false → Walked p (had || primary_key p k) ks → Walked p had (k ∷ ks)
walked_more p had k ks v s w = record { each = each; alone = alone; one = one }
  where
    each : (j : ℕ) → j < length (k ∷ ks) → ValidKey (key_at (k ∷ ks) j)
    each zero l = v
    each (suc j) l = w.each j (omega arith)

    alone : had ≡ true → (j : ℕ) → j < length (k ∷ ks) → primary_key p (key_at (k ∷ ks) j) ≡ false
    alone h zero l = ap (λ (b : Bool). b && primary_key p k) (sym h) ∙ s
    alone h (suc j) l = w.alone (or_left had _ h) j (omega arith)

    one : OnePrimary p (k ∷ ks)
    one zero zero a b x y = refl
    one zero (suc j) a b x y = absurd (both_ways _ (w.alone (or_right had _ x) j (omega arith)) y)
    one (suc i) zero a b x y = absurd (both_ways _ (w.alone (or_right had _ y) i (omega arith)) x)
    one (suc i) (suc j) a b x y = ap suc (w.one i j (omega arith) (omega arith) x y)

walked_less : (p : ℕ) (had : Bool) (k : KeyMeaning) (ks : List KeyMeaning) → Walked p had (k ∷ ks) → Walked p (had || primary_key p k) ks
walked_less p had k ks w = record { each = λ j l. w.each (suc j) (omega arith); alone = alone; one = λ i j a b x y. suc_inj i j (w.one (suc i) (suc j) (omega arith) (omega arith) x y) }
  where
    suc_inj : (i j : ℕ) → suc i ≡ suc j → i ≡ j
    suc_inj i j e = omega arith

    alone : (had || primary_key p k) ≡ true → (j : ℕ) → j < length ks → primary_key p (key_at ks j) ≡ false
    alone h j l = elim (cases_Bool (primary_key p (key_at ks j))) [
      | inr f ↦ f
      | inl t ↦ elim (or_cases had (primary_key p k) h) [
        | inl a ↦ w.alone a (suc j) (omega arith)
        | inr b ↦ absurd (omega (arith, w.one 0 (suc j) (omega arith) (omega arith) b t))
      ]
    ]

not_second_lem : (p : ℕ) (had : Bool) (k : KeyMeaning) (ks : List KeyMeaning) → Walked p had (k ∷ ks) → (had && primary_key p k) ≡ false
not_second_lem p had k ks w = elim (cases_Bool had) [ inl t ↦ and_right had _ (w.alone t 0 (omega arith)) | inr f ↦ and_left had _ f ]

keys_walked : (p : ℕ) (had : Bool) (i : ℕ) (ks : List KeyMeaning) → valid_keys p had (placed_from i ks) ≡ Ok tt → Walked p had ks
keys_walked p had i [] e = record { each = λ j l. absurd (omega arith); alone = λ h j l. absurd (omega arith); one = λ i j a b x y. absurd (omega arith) }
keys_walked p had i (k ∷ ks) e =
    let a = both_ok (at_place i (valid_key k)) _ e in
    let b = both_ok (at_place i (not_second p had k)) _ a.1 in
    walked_more p had k ks (key-valid k (place_ok i (valid_key k) a.0)) (not-true _ (held _ _ (sym (place_ok i (not_second p had k) b.0)))) (keys_walked p (had || primary_key p k) (i + 1) ks b.1)

walked_keys : (p : ℕ) (had : Bool) (i : ℕ) (ks : List KeyMeaning) → Walked p had ks → valid_keys p had (placed_from i ks) ≡ Ok tt
walked_keys p had i [] w = refl
walked_keys p had i (k ∷ ks) w =
    ok_both _ _ (ok_place i (valid_key k) (valid-key k (w.each 0 (omega arith))))
    (ok_both _ _ (ok_place i (not_second p had k) (only_ok _ _ (not_from_false _ (not_second_lem p had k ks w))))
    (walked_keys p (had || primary_key p k) (i + 1) ks (walked_less p had k ks w)))

somewhere : (p : ℕ) (ks : List KeyMeaning) → (any_key (primary_key p) (placed_from 0 ks) || not (any_key not_public_key (placed_from 0 ks))) ≡ true → SomePrimary p ks ⊎ AllPublic ks
somewhere p ks e = elim (or_cases (any_key (primary_key p) (placed_from 0 ks)) (not (any_key not_public_key (placed_from 0 ks))) e) [
  | inl t ↦ inl (any_some (primary_key p) 0 ks t)
  | inr t ↦ inr (any_none not_public_key 0 ks (not-true _ t))
]

some_where : (p : ℕ) (ks : List KeyMeaning) → SomePrimary p ks ⊎ AllPublic ks → (any_key (primary_key p) (placed_from 0 ks) || not (any_key not_public_key (placed_from 0 ks))) ≡ true
some_where p ks (inl r) = or_left _ _ (some_any (primary_key p) 0 ks r.0 r.1 r.2)
some_where p ks (inr h) = or_right _ _ (not_from_false _ (none_any not_public_key 0 ks h))

never_ok : (f : Fault) → ◌≡◌ {A = Answer} (Err f) (Ok tt) → ⊥
never_ok f e = let z : ◌≡◌ {A = ℕ} 0 1 = cc in omega arith

only-valid : (p : ℕ) (ks : List KeyMeaning) → valid_among p (placed_from 0 ks) ≡ Ok tt → Valid (record { primary_key_id = p; keys = ks })
only-valid p [] e = absurd (never_ok _ e)
only-valid p (k ∷ ks) e =
    let a = both_ok (valid_keys p false (placed_from 0 (k ∷ ks))) _ e in
    let b = both_ok (only_if (any_key enabled_key (placed_from 0 (k ∷ ks))) _) _ a.1 in
    let w = keys_walked p false 0 (k ∷ ks) a.0 in
    record {
      some_key = omega arith;
      each_key = w.each;
      one_primary = w.one;
      some_enabled = any_some enabled_key 0 (k ∷ ks) (held _ _ (sym b.0));
      primary_or_public = somewhere p (k ∷ ks) (held _ _ (sym b.1));
    }

all_valid : (p : ℕ) (ks : List KeyMeaning) → Valid (record { primary_key_id = p; keys = ks }) → valid_among p (placed_from 0 ks) ≡ Ok tt
all_valid p [] v = absurd (omega (arith, v.some_key))
all_valid p (k ∷ ks) v =
    let r = v.some_enabled in
    ok_both _ _ (walked_keys p false 0 (k ∷ ks) (record { each = v.each_key; alone = λ h j l. absurd (both_ways false refl h); one = v.one_primary }))
    (ok_both _ _ (only_ok _ _ (some_any enabled_key 0 (k ∷ ks) r.0 r.1 r.2)) (only_ok _ _ (some_where p (k ∷ ks) v.primary_or_public)))

pub accepts_the_valid : AcceptsTheValid
unfolding valid
accepts_the_valid = record { accepts = λ s v. all_valid s.primary_key_id s.keys v; only = λ s e. only-valid s.primary_key_id s.keys e }
