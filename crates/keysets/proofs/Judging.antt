-- The validity of a keyset, at each turn of the loop over its keys.
use Rattle.std.proofs.Common.{◌≡◌, ℕ, ◌+◌, ◌<◌, ◌≤◌, Bool, true, false, ◌||◌, List, [], ◌∷◌, length, get_or, drop, Ok, Err, sym, refl, ap, ◌∙◌, arith}
use Rattle.std.proofs.lemmas.List.{at_drop_more, at_drop_all}
use Rattle.ciphers.specs.Faults.{fault}
use Rattle.ciphers.specs.declared.fault.Fault.{Fault}
use Rattle.ciphers.specs.declared.fault.Layer.TheVariants.{Validation}
use Rattle.ciphers.specs.declared.fault.Refusal.TheVariants.{EmptyKeyset}
use Rattle.encoding.specs.Meanings.{KeyMeaning}
use Rattle.keysets.specs.Answering.{Answer, at_place, and_then}
use Rattle.keysets.specs.Validation.{valid_key, enabled_key, primary_key, not_public_key, placed_from, any_key, not_second, valid_keys, valid_whole, valid_among}
use Rattle.keysets.specs.Seeing.{seen_after}
use Rattle.keysets.specs.declared.validation.Seen.{Seen}

abbrev pub unseen : Seen
unseen = record { some_enabled = false; some_primary = false; some_not_public = false }

-- the answer, from what was seen before a position and the keys from there on
abbrev pub judged : ℕ → Seen → ℕ → List KeyMeaning → Answer
judged p s i ks = and_then (valid_keys p s.some_primary (placed_from i ks))
    (valid_whole (s.some_enabled || any_key enabled_key (placed_from i ks)) (s.some_primary || any_key (primary_key p) (placed_from i ks)) (s.some_not_public || any_key not_public_key (placed_from i ks)))

or_assoc : (x y z : Bool) → (x || (y || z)) ≡ ((x || y) || z)
or_assoc true y z = refl
or_assoc false y z = refl

or_none : (x : Bool) → (x || false) ≡ x
or_none true = refl
or_none false = refl

same_whole : (a b c d e f : Bool) → a ≡ d → b ≡ e → c ≡ f → valid_whole a b c ≡ valid_whole d e f
same_whole a b c d e f p q r = ap (λ (x : Bool). valid_whole x b c) p ∙ ap (λ (x : Bool). valid_whole d x c) q ∙ ap (valid_whole d e) r

pub judged_all : (p : ℕ) (ks : List KeyMeaning) → 0 < length ks → judged p unseen 0 ks ≡ valid_among p (placed_from 0 ks)
judged_all p [] l = absurd (omega arith)
judged_all p (k ∷ ks) l = refl

pub judged_ended : (p : ℕ) (s : Seen) (i : ℕ) (ks : List KeyMeaning) → length ks ≤ i → judged p s i (drop i ks) ≡ valid_whole s.some_enabled s.some_primary s.some_not_public
judged_ended p s i ks l = at_drop_all (judged p s i) ks i l ∙ same_whole _ _ _ _ _ _ (or_none s.some_enabled) (or_none s.some_primary) (or_none s.some_not_public)

judged_next : (p : ℕ) (s : Seen) (i : ℕ) (ks : List KeyMeaning) (k : KeyMeaning) → i < length ks → get_or ks i k ≡ k → judged p s i (drop i ks) ≡ judged p s i (k ∷ drop (i + 1) ks)
judged_next p s i ks k l at = at_drop_more (judged p s i) ks i k l ∙ ap (λ (x : KeyMeaning). judged p s i (x ∷ drop (i + 1) ks)) at

-- the two tests of a key in turn, the later keys, and the whole
abbrev tested : Answer → Answer → Answer → Answer → Answer
tested a b rest whole = and_then (and_then a (and_then b rest)) whole

abbrev later : ℕ → Seen → ℕ → List KeyMeaning → KeyMeaning → Answer
later p s i ks k = valid_keys p (s.some_primary || primary_key p k) (placed_from (i + 1) (drop (i + 1) ks))

abbrev whole : ℕ → Seen → ℕ → List KeyMeaning → KeyMeaning → Answer
whole p s i ks k = valid_whole (s.some_enabled || (enabled_key k || any_key enabled_key (placed_from (i + 1) (drop (i + 1) ks))))
    (s.some_primary || (primary_key p k || any_key (primary_key p) (placed_from (i + 1) (drop (i + 1) ks))))
    (s.some_not_public || (not_public_key k || any_key not_public_key (placed_from (i + 1) (drop (i + 1) ks))))

judged_by : (p : ℕ) (s : Seen) (i : ℕ) (ks : List KeyMeaning) (k : KeyMeaning) (a b : Answer) → i < length ks → get_or ks i k ≡ k
    → a ≡ at_place i (valid_key k) → b ≡ at_place i (not_second p s.some_primary k) → judged p s i (drop i ks) ≡ tested a b (later p s i ks k) (whole p s i ks k)
judged_by p s i ks k a b l at e f =
    judged_next p s i ks k l at
    ∙ ap (λ (x : Answer). tested x (at_place i (not_second p s.some_primary k)) (later p s i ks k) (whole p s i ks k)) (sym e)
    ∙ ap (λ (x : Answer). tested a x (later p s i ks k) (whole p s i ks k)) (sym f)

pub judged_invalid : (p : ℕ) (s : Seen) (i : ℕ) (ks : List KeyMeaning) (k : KeyMeaning) (f : Fault) → i < length ks → get_or ks i k ≡ k
    → Err f ≡ at_place i (valid_key k) → judged p s i (drop i ks) ≡ Err f
judged_invalid p s i ks k f l at e = judged_by p s i ks k (Err f) _ l at e refl

pub judged_second : (p : ℕ) (s : Seen) (i : ℕ) (ks : List KeyMeaning) (k : KeyMeaning) (f : Fault) → i < length ks → get_or ks i k ≡ k
    → Ok tt ≡ at_place i (valid_key k) → Err f ≡ at_place i (not_second p s.some_primary k) → judged p s i (drop i ks) ≡ Err f
judged_second p s i ks k f l at e g = judged_by p s i ks k (Ok tt) (Err f) l at e g

pub judged_passed : (p : ℕ) (s : Seen) (i : ℕ) (ks : List KeyMeaning) (k : KeyMeaning) → i < length ks → get_or ks i k ≡ k
    → Ok tt ≡ at_place i (valid_key k) → Ok tt ≡ not_second p s.some_primary k → judged p s i (drop i ks) ≡ judged p (seen_after p k s) (i + 1) (drop (i + 1) ks)
judged_passed p s i ks k l at e g =
    judged_by p s i ks k (Ok tt) (Ok tt) l at e (ap (at_place i) g)
    ∙ ap (and_then (later p s i ks k)) (same_whole _ _ _ _ _ _ (or_assoc s.some_enabled _ _) (or_assoc s.some_primary _ _) (or_assoc s.some_not_public _ _))

pub judged_none : (p : ℕ) (ks : List KeyMeaning) → length ks ≡ 0 → valid_among p (placed_from 0 ks) ≡ Err (fault EmptyKeyset Validation)
judged_none p [] l = refl
judged_none p (k ∷ ks) l = absurd (omega arith)
