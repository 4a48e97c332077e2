-- The records of a type URL, a value and a number: KeyData and KeyTemplate, by their three parts.
use Rattle.std.specs.Prelude.{◌≡◌, ℕ, ◌^◌, ◌<◌, Bool, true, List, [], ◌++◌, ℤ, refl}
use Rattle.std.proofs.Common.{arith, SFits}
use Rattle.std.specs.Int.{w32}
use Rattle.std.specs.Int.Signed.{mag}
use Rattle.encoding.specs.Wire.{Field, number, bytes}
use Rattle.encoding.specs.Members.{signed, text}
use Rattle.encoding.specs.Lists.{list}
use Rattle.encoding.specs.Views.{url_bytes}
use Rattle.encoding.specs.Messages.{Sound, Took, Filled}
use Rattle.encoding.specs.Scanning.{field_of, number_is}
use Rattle.encoding.specs.declared.content.Content.{Content}
use Rattle.encoding.specs.declared.bounded.Bounded.{Bounded}
use Rattle.encoding.specs.declared.url.TypeUrl.{TypeUrl}
use Rattle.encoding.specs.ListsLemmas.{list_length}
use Rattle.encoding.specs.Shapes.{none, join, Level, first, rest, split}
use Rattle.encoding.specs.Sorts.{text-sound, text-told, signed-sound, signed-told, one_byte, two_bytes}

-- its members, each known by its number
pub record Three (R : Type 0) (K : Field → Bool) : Type 0 where
  pub url : R → TypeUrl
  pub value : R → Bounded ℕ 128
  pub kind : R → ℤ
  pub width : (r : R) → mag (kind r) < 2 ^ 31
  pub knows1 : (b : List ℕ) → K (bytes 1 b) ≡ true
  pub knows2 : (b : List ℕ) → K (bytes 2 b) ≡ true
  pub knows3 : (v : ℕ) → K (number 3 v) ≡ true

abbrev pub piece1 : {R : Type 0} {K : Field → Bool} → Three R K → R → List Field
piece1 t r = text 1 (url_bytes (t.url r))

abbrev pub piece2 : {R : Type 0} {K : Field → Bool} → Three R K → R → List Field
piece2 t r = text 2 (list (t.value r))

abbrev pub piece3 : {R : Type 0} {K : Field → Bool} → Three R K → R → List Field
piece3 t r = signed 3 (t.kind r)

abbrev pub tail2 : {R : Type 0} {K : Field → Bool} → Three R K → R → List Field
tail2 t r = piece3 t r ++ []

abbrev pub tail1 : {R : Type 0} {K : Field → Bool} → Three R K → R → List Field
tail1 t r = piece2 t r ++ tail2 t r

abbrev pub parts : {R : Type 0} {K : Field → Bool} → Three R K → R → List Field
parts t r = piece1 t r ++ tail1 t r

part1 : {R : Type 0} {K : Field → Bool} (t : Three R K) (r : R) → Sound K 1 1 66 (piece1 t r)
part1 {R} {K} t r = let u = t.url r in text-sound K 1 64 1 (url_bytes u) (omega arith) (omega arith) t.knows1 (omega arith) (omega (arith, list_length u.text, u.text.fits)) (one_byte (omega arith))

part2 : {R : Type 0} {K : Field → Bool} (t : Three R K) (r : R) → Sound K 2 2 131 (piece2 t r)
part2 {R} {K} t r = let v = t.value r in text-sound K 2 128 2 (list v) (omega arith) (omega arith) t.knows2 (omega arith) (omega (arith, list_length v, v.fits)) (two_bytes (omega arith))

part3 : {R : Type 0} {K : Field → Bool} (t : Three R K) (r : R) → Sound K 3 3 11 (piece3 t r)
part3 {R} {K} t r = signed-sound K 3 (t.kind r) (omega arith) (omega arith) t.knows3 (t.width r)

from3 : {R : Type 0} {K : Field → Bool} (t : Three R K) (r : R) → Sound K 3 15 11 (tail2 t r)
from3 t r = join (omega arith) (part3 t r) none

from2 : {R : Type 0} {K : Field → Bool} (t : Three R K) (r : R) → Sound K 2 15 142 (tail1 t r)
from2 t r = join (omega arith) (part2 t r) (from3 t r)

pub sound : {R : Type 0} {K : Field → Bool} (t : Three R K) (r : R) → Sound K 1 15 208 (parts t r)
sound t r = join (omega arith) (part1 t r) (from2 t r)

level1 : {R : Type 0} {K : Field → Bool} (t : Three R K) → Level K 1 (piece1 t) (tail1 t)
level1 t = record { here = λ r. (part1 t r).ordered; after = λ r. (from2 t r).ordered }

level2 : {R : Type 0} {K : Field → Bool} (t : Three R K) → Level K 2 (piece2 t) (tail2 t)
level2 t = record { here = λ r. (part2 t r).ordered; after = λ r. (from3 t r).ordered }

level3 : {R : Type 0} {K : Field → Bool} (t : Three R K) → Level K 3 (piece3 t) (λ r. [])
level3 {R} {K} t = record { here = λ r. (part3 t r).ordered; after = λ r. (none {K = K} {lo = 4} {hi = 15}).ordered }

pub take1 : {R : Type 0} {K : Field → Bool} (t : Three R K) (b : Bool) (old new : R) (x : Content) → tail1 t new ≡ tail1 t old
    → Filled (λ (u : TypeUrl). text 1 (list u.text)) (λ _. Unit {0}) b (t.url old) (t.url new) (field_of 1 x) → Took (parts t) b old new (field_of 1 x)
take1 t b old new x s0 h = first (level1 t) (λ (u : TypeUrl). text 1 (list u.text)) (λ _. Unit {0}) t.url (λ _. tt) (λ r. refl) b old new (field_of 1 x) (number_is 1 x) s0 h

pub take2 : {R : Type 0} {K : Field → Bool} (t : Three R K) (b : Bool) (old new : R) (x : Content) → piece1 t new ≡ piece1 t old → tail2 t new ≡ tail2 t old
    → Filled (λ b. text 2 (list b)) (λ _. Unit {0}) b (t.value old) (t.value new) (field_of 2 x) → Took (parts t) b old new (field_of 2 x)
take2 t b old new x s0 s1 h =
    rest (level1 t) b old new (field_of 2 x) (omega (arith, number_is 2 x)) s0 (
    first (level2 t) (λ b. text 2 (list b)) (λ _. Unit {0}) t.value (λ _. tt) (λ r. refl) b old new (field_of 2 x) (number_is 2 x) s1 h)

pub take3 : {R : Type 0} {K : Field → Bool} (t : Three R K) (b : Bool) (old new : R) (x : Content) → piece1 t new ≡ piece1 t old → piece2 t new ≡ piece2 t old
    → Filled (signed 3) (λ z. SFits w32 z) b (t.kind old) (t.kind new) (field_of 3 x) → Took (parts t) b old new (field_of 3 x)
take3 t b old new x s0 s1 h =
    rest (level1 t) b old new (field_of 3 x) (omega (arith, number_is 3 x)) s0 (
    rest (level2 t) b old new (field_of 3 x) (omega (arith, number_is 3 x)) s1 (
    first (level3 t) (signed 3) (λ z. SFits w32 z) t.kind (λ r. record { sfits = t.width r }) (λ r. refl) b old new (field_of 3 x) (number_is 3 x) refl h))

pub told : {R : Type 0} {K : Field → Bool} (t : Three R K) (r s : R) → parts t r ≡ parts t s → (url_bytes (t.url r) ≡ url_bytes (t.url s)) × (list (t.value r) ≡ list (t.value s)) × (t.kind r ≡ t.kind s)
told t r s h =
    let e1 = split (level1 t) r s h in
    let e2 = split (level2 t) r s e1.1 in
    let e3 = split (level3 t) r s e2.1 in
    (text-told 1 (url_bytes (t.url r)) (url_bytes (t.url s)) e1.0, text-told 2 (list (t.value r)) (list (t.value s)) e2.0, signed-told 3 (t.kind r) (t.kind s) (t.width r) (t.width s) e3.0)
