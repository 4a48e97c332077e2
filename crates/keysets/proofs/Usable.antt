-- A key that was added has a primitive: its manager made it, and is found again by the type that it gave the key.
use Rattle.std.proofs.Common.{◌≡◌, ℕ, zero, suc, ◌≤◌, Bool, true, false, cond, eqb, leb, List, [], ◌∷◌, ◌++◌, length, pos, is_some, is_ok, Some, None, Ok, Err, Option, Result, refl, ap, ◌∙◌, subst, arith}
use Rattle.std.specs.Str.{bytes_eq}
use Rattle.std.proofs.lemmas.Slice.Eq.{bytes_eq-Decides}
use Rattle.std.proofs.lemmas.Bool.{ne_eqb, cond-true, cond-false}
use Rattle.ciphers.specs.declared.fault.Fault.{Fault}
use Rattle.encoding.specs.Lists.{item}
use Rattle.encoding.specs.Meanings.{KeyDataMeaning, KeyTemplateMeaning, KeyMeaning, KeysetMeaning}
use Rattle.keysets.specs.declared.registry.Place.{Place}
use Rattle.keysets.specs.Adding.{DrawnId, drawn_id, new_key, key_with, key_of, made_key, Added, added_key, added}
use Rattle.keysets.specs.Answering.{only_if, at_place}
use Rattle.encoding.specs.Kinds.{prefix_of, material_of}
use Rattle.keysets.specs.Managers.{Maker, KeyMaker, Making, made, barred, dry, Lawful, KeepsLaws, key_data_answer, primitive_answer}
use Rattle.keysets.specs.Registries.{Managing, registered, found, new_key_data_by, primitive_by}
use Rattle.keysets.specs.Running.{once, prefix_tested, key_primitive, placed_primitive, NewKeyUsable}

-- who is found by a type URL has it
module _ {P : Type 0} (url : List ℕ) (m : Managing P) where
  found-step : (x : Managing P) (b : Bool) (r : Option (Managing P)) → bytes_eq url x.maker.type_url ≡ b → (r ≡ Some m → url ≡ m.maker.type_url)
      → cond b (Some x) r ≡ Some m → url ≡ m.maker.type_url
  found-step x true r s more e = let is : x ≡ m = cc in (bytes_eq-Decides url x.maker.type_url).0 s ∙ ap (λ (y : Managing P). y.maker.type_url) is
  found-step x false r s more e = more e

  found-url : (ms : List (Managing P)) → found url ms ≡ Some m → url ≡ m.maker.type_url
  found-url [] e = let z : ◌≡◌ {A = ℕ} 0 1 = cc in absurd (omega arith)
  found-url (x ∷ ms) e = found-step x (bytes_eq url x.maker.type_url) (found url ms) refl (found-url ms) e

pub found_again : {P : Type 0} (url : List ℕ) (m : Managing P) (ms : List (Managing P)) → found url ms ≡ Some m → found m.maker.type_url ms ≡ Some m
found_again url m ms e = subst (λ (u : List ℕ). found u ms ≡ Some m) (found-url url m ms e) e

-- and is lawful where all are
abbrev pub AllLawful : {P : Type 0} → List (Managing P) → Type 0
AllLawful ms = (url : List ℕ) (m : _) → found url ms ≡ Some m → KeepsLaws m.maker m.keys

module _ {X P : Type 0} (maker : X → Maker P) (keys : X → KeyMaker) (laws : (x : X) → KeepsLaws (maker x) (keys x)) where
  one-lawful : (x : X) (url : List ℕ) (m : Managing P) (b : Bool) (r : Option (Managing P)) → (r ≡ Some m → KeepsLaws m.maker m.keys)
      → cond b (Some (record { maker = maker x; keys = keys x })) r ≡ Some m → KeepsLaws m.maker m.keys
  one-lawful x url m true r more e =
      let is : ◌≡◌ {A = Managing P} (record { maker = maker x; keys = keys x }) m = cc in subst (λ (y : Managing P). KeepsLaws y.maker y.keys) is (laws x)
  one-lawful x url m false r more e = more e

  place-lawful : (p : Place X) (b : Bool) (ms : List (Managing P)) → AllLawful ms
      → AllLawful (cond b (record { maker = maker p.manager; keys = keys p.manager } ∷ ms) ms)
  place-lawful p true ms more url m e = one-lawful p.manager url m (bytes_eq url (maker p.manager).type_url) (found url ms) (more url m) e
  place-lawful p false ms more url m e = more url m e

  pub registered-lawful : (bank : List (Place X)) → AllLawful (registered maker keys bank)
  registered-lawful [] url m e = let z : ◌≡◌ {A = ℕ} 0 1 = cc in absurd (omega arith)
  registered-lawful (p ∷ ps) url m e = place-lawful p p.registered (registered maker keys ps) (registered-lawful ps) url m e

known_material : (n : ℕ) → n ≤ 4 → is_some (material_of (pos n)) ≡ true
known_material zero h = refl
known_material (suc zero) h = refl
known_material (suc (suc zero)) h = refl
known_material (suc (suc (suc zero))) h = refl
known_material (suc (suc (suc (suc zero)))) h = refl
known_material (suc (suc (suc (suc (suc n))))) h = absurd (omega arith)

-- what is asked of data that was made
pub record Useful {P : Type 0} (ms : List (Managing P)) (d : KeyDataMeaning) : Type 0 where
  pub known : is_some (material_of d.key_material_type) ≡ true
  pub gives : is_ok (primitive_by (found d.type_url ms) d.value) ≡ true

answered_ok : {P : Type 0} (r : Result P ℕ) → is_ok r ≡ true → is_ok (primitive_answer r) ≡ true
answered_ok (Ok p) e = refl
answered_ok (Err n) e = e

not_empty : {P : Type 0} (m : Managing P) (key : List ℕ) → 1 ≤ length key → is_ok (m.maker.primitive key) ≡ true → is_ok (primitive_by (Some m) key) ≡ true
not_empty {P} m key h g = ap (λ (r : Result P Fault). is_ok r) (cond-false (eqb (length key) 0) _ _ (ne_eqb (length key) 0 (λ e. omega arith))) ∙ answered_ok (m.maker.primitive key) g

module _ {P : Type 0} (ms : List (Managing P)) where
  making-useful : (m : Managing P) (words : List ℕ) (k : Making) (d : KeyDataMeaning) → m.keys.material ≤ 4 → found m.maker.type_url ms ≡ Some m → Lawful m.maker words k
      → key_data_answer m.maker.type_url m.keys.material k ≡ Ok d → Useful ms d
  making-useful m words (made key n) d few again law e =
      let is : ◌≡◌ {A = KeyDataMeaning} (record { type_url = m.maker.type_url; value = key; key_material_type = pos m.keys.material }) d = cc in
      subst (Useful ms) is (record {
        known = known_material m.keys.material few;
        gives = ap (λ (o : Option (Managing P)). is_ok (primitive_by o key)) again ∙ not_empty m key law.0 law.3;
      })
  making-useful m words (barred r) d few again law e = let z : ◌≡◌ {A = ℕ} 0 1 = cc in absurd (omega arith)
  making-useful m words dry d few again law e = let z : ◌≡◌ {A = ℕ} 0 1 = cc in absurd (omega arith)

  data-useful : (url format words : List ℕ) (o : Option (Managing P)) (d : KeyDataMeaning) → AllLawful ms → found url ms ≡ o → new_key_data_by o format words ≡ Ok d → Useful ms d
  data-useful url format words None d laws f e = let z : ◌≡◌ {A = ℕ} 0 1 = cc in absurd (omega arith)
  data-useful url format words (Some m) d laws f e =
      let keeps = laws url m f in
      making-useful m words (m.keys.new_key format words) d keeps.material (found_again url m ms f) (keeps.making format words) e

-- the key at the end
item_last : (ks : List KeyMeaning) (k : KeyMeaning) → item (ks ++ (k ∷ [])) (length ks) ≡ Some k
item_last [] k = refl
item_last (x ∷ ks) k = item_last ks k

ok_placed : {P : Type 0} (i : ℕ) (r : Result P Fault) → is_ok r ≡ true → is_ok (at_place i r) ≡ true
ok_placed i (Ok p) e = refl
ok_placed i (Err f) e = e

once_ok : {P : Type 0} (b : Bool) (f : Fault) (r : Result P Fault) → b ≡ true → is_ok r ≡ true → is_ok (once (only_if b f) r) ≡ true
once_ok true f r e o = o
once_ok false f r e o = let z : ◌≡◌ {A = ℕ} 0 1 = ap (λ (b : Bool). cond b 1 0) e in absurd (omega arith)

tested_ok : {P : Type 0} (k : KeyMeaning) (r : Result P Fault) → is_ok r ≡ true → is_some (prefix_of k.output_prefix_type) ≡ true → is_ok (prefix_tested k r) ≡ true
tested_ok {P} k (Ok p) o e = ap (λ (r : Result P Fault). is_ok r) (cond-true (is_some (prefix_of k.output_prefix_type)) _ _ e)
tested_ok k (Err f) o e = o

module _ {P : Type 0} (ms : List (Managing P)) where
  useful-key : (d : KeyDataMeaning) (i : ℕ) (t : KeyTemplateMeaning) → Useful ms d → is_some (prefix_of t.output_prefix_type) ≡ true → is_ok (key_primitive ms (new_key d i t)) ≡ true
  useful-key d i t u e = once_ok (is_some (material_of d.key_material_type)) _ _ u.known (tested_ok (new_key d i t) (primitive_by (found d.type_url ms) d.value) u.gives e)

  prefix-usable : (b : Bool) (n : KeyMeaning) (f : Fault) (k : KeyMeaning) → (b ≡ true → is_ok (key_primitive ms n) ≡ true) → ◌≡◌ {A = Result KeyMeaning Fault} (cond b (Ok n) (Err f)) (Ok k)
      → is_ok (key_primitive ms k) ≡ true
  prefix-usable true n f k h e = let same : n ≡ k = cc in subst (λ (x : KeyMeaning). is_ok (key_primitive ms x) ≡ true) same (h refl)
  prefix-usable false n f k h e = let z : ◌≡◌ {A = ℕ} 0 1 = cc in absurd (omega arith)

  with-usable : (t : KeyTemplateMeaning) (d : KeyDataMeaning) (o : Option DrawnId) (k : KeyMeaning) → Useful ms d → key_with t d o ≡ Ok k → is_ok (key_primitive ms k) ≡ true
  with-usable t d None k u e = let z : ◌≡◌ {A = ℕ} 0 1 = cc in absurd (omega arith)
  with-usable t d (Some i) k u e = prefix-usable (is_some (prefix_of t.output_prefix_type)) (new_key d i.id t) _ k (useful-key d i.id t u) e

  of-usable : (t : KeyTemplateMeaning) (ks : List KeyMeaning) (ws : List ℕ) (r : Result KeyDataMeaning Fault) (k : KeyMeaning) → ((d : KeyDataMeaning) → r ≡ Ok d → Useful ms d)
      → key_of t ks ws r ≡ Ok k → is_ok (key_primitive ms k) ≡ true
  of-usable t ks ws (Err f) k h e = let z : ◌≡◌ {A = ℕ} 0 1 = cc in absurd (omega arith)
  of-usable t ks ws (Ok d) k h e = with-usable t d (drawn_id ks ws) k (h d refl) e

  key-usable : (b : Bool) (s : KeysetMeaning) (ws : List ℕ) (r : Result KeyMeaning Fault) → ((k : KeyMeaning) → r ≡ Ok k → is_ok (key_primitive ms k) ≡ true)
      → NewKeyUsable ms (length s.keys) (added_key b s ws r).keyset (added_key b s ws r).answer
  key-usable b s ws (Err f) h = tt
  key-usable b s ws (Ok k) h =
      ap (λ (o : Option KeyMeaning). is_ok (placed_primitive ms (length s.keys) o)) (item_last s.keys k) ∙ ok_placed (length s.keys) (key_primitive ms k) (h k refl)

  either-usable : (i : ℕ) (c : Bool) (x y : Added) → NewKeyUsable ms i x.keyset x.answer → NewKeyUsable ms i y.keyset y.answer → NewKeyUsable ms i (cond c x y).keyset (cond c x y).answer
  either-usable i true x y f g = f
  either-usable i false x y f g = g

  pub added-usable : (t : KeyTemplateMeaning) (b : Bool) (s : KeysetMeaning) (ws : List ℕ) → AllLawful ms
      → NewKeyUsable ms (length s.keys) (added ms t b s ws).keyset (added ms t b s ws).answer
  unfolding added
  added-usable t b s ws laws =
      either-usable (length s.keys) (leb 16 (length s.keys)) _ _ tt
      (key-usable b s _ (made_key ms t s.keys ws) (λ k e. of-usable t s.keys _ (new_key_data_by (found t.type_url ms) t.value ws) k
      (λ d. data-useful ms t.type_url t.value ws (found t.type_url ms) d laws refl) e))
