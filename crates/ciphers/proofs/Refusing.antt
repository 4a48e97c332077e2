-- What follows where the tests of encrypt and decrypt refuse, and where they pass.
use Rattle.std.proofs.Common.{◌≡◌, ℕ, ◌≤◌, Bool, true, false, cond, nat_lt, List, length, Some, None, Ok, Err, Option, Result, Bor, sym, refl, ap, ◌∙◌, subst, arith}
use Rattle.std.specs.Option.{MatchOption}
use Rattle.std.proofs.lemmas.Bool.{cond-true, ltb-false}
use Rattle.ciphers.specs.declared.fault.Fault.{Fault}
use Rattle.ciphers.specs.declared.fault.Layer.TheVariants.{Aead}
use Rattle.ciphers.specs.declared.fault.Refusal.TheVariants.{DoesNotOpen, WrongSize}
use Rattle.ciphers.specs.Faults.{fault}
use Rattle.ciphers.specs.Aeads.{Meaning, Encrypted, out_of_bounds, sealing_answer, sealed_into, opening_answer, opened_into}

abbrev Tested : Type 0
Tested = Result (Unit {0}) Fault

-- of a test that refuses where b is true
size-refused : (b : Bool) (e : Fault) → ◌≡◌ {A = Tested} (Err e) (cond b (Err (fault WrongSize Aead)) (Ok tt)) → (b ≡ true) × (e ≡ fault WrongSize Aead)
size-refused true e h = (refl, cc)
size-refused false e h = let z : ◌≡◌ {A = ℕ} 0 1 = cc in absurd (omega arith)

-- the refusal is encrypt's, and the output stays
pub encrypt_refused : (opens : Meaning) (overhead : ℕ) (plain text before sealed : List ℕ) (r : Result ℕ Fault) (e : Fault) → r ≡ Err e
    → ◌≡◌ {A = Tested} (Err e) (cond (out_of_bounds overhead (length plain) (length text) (length before)) (Err (fault WrongSize Aead)) (Ok tt))
    → Encrypted opens overhead plain text before before r ×
    (r ≡ sealing_answer (out_of_bounds overhead (length plain) (length text) (length before)) sealed) ×
    (before ≡ sealed_into (out_of_bounds overhead (length plain) (length text) (length before)) sealed before)
encrypt_refused opens overhead plain text before sealed r e is h =
    let refused = out_of_bounds overhead (length plain) (length text) (length before) in
    let both = size-refused refused e h in (
      subst (λ (x : Result ℕ Fault). Encrypted opens overhead plain text before before x) (sym is) (both.0, both.1, refl),
      is ∙ (ap (λ (x : Fault). Err x) both.1 ∙ sym (cond-true refused _ _ both.0)),
      sym (cond-true refused _ _ both.0),
    )

-- what a test of whether a text opens found, of a meaning: none, or a text as long as the plaintext
abbrev pub Opens : {A : Type 0} → (A → ℕ) → Option A → Option (List ℕ) → Type 0
Opens size t o = MatchOption t (o ≡ None) (λ x. (plain : List ℕ) × (o ≡ Some plain) × (size x ≡ length plain))

-- and what is made of it, with so much room
abbrev pub Checked : {A : Type 0} → (A → ℕ) → Option A → ℕ → Result A Fault → Type 0
Checked size t room r = MatchOption t (r ≡ Err (fault DoesNotOpen Aead)) (λ x. r ≡ cond (nat_lt room (size x)) (Err (fault WrongSize Aead)) (Ok x))

short_cases : {A : Type 0} (short : Bool) (x : A) (e : Fault) → ◌≡◌ {A = Result A Fault} (Err e) (cond short (Err (fault WrongSize Aead)) (Ok x)) → (short ≡ true) × (e ≡ fault WrongSize Aead)
short_cases true x e h = (refl, cc)
short_cases false x e h = let z : ◌≡◌ {A = ℕ} 0 1 = cc in absurd (omega arith)

room_cases : {A : Type 0} (short : Bool) (x y : A) → ◌≡◌ {A = Result A Fault} (Ok y) (cond short (Err (fault WrongSize Aead)) (Ok x)) → (short ≡ false) × (y ≡ x)
room_cases true x y h = let z : ◌≡◌ {A = ℕ} 0 1 = cc in absurd (omega arith)
room_cases false x y h = (refl, cc)

-- the refusal is decrypt's, and the output stays
pub opening_refused : {A : Type 0} (size : A → ℕ) (t : Option A) (o : Option (List ℕ)) (before : List ℕ) (r : Result A Fault) (e : Fault)
    → Opens size t o → Checked size t (length before) r → r ≡ Err e
    → (◌≡◌ {A = Result ℕ Fault} (Err e) (opening_answer o (length before))) × (before ≡ opened_into o before)
opening_refused size None o before r e none h is =
    let f : e ≡ fault DoesNotOpen Aead = cc in
    subst (λ (x : Option (List ℕ)). (◌≡◌ {A = Result ℕ Fault} (Err e) (opening_answer x (length before))) × (before ≡ opened_into x before)) (sym none) (ap (λ (x : Fault). Err x) f, refl)
opening_refused size (Some x) o before r e (plain, some, len) h is =
    let both = short_cases (nat_lt (length before) (size x)) x e (sym is ∙ h) in
    let short : nat_lt (length before) (length plain) ≡ true = ap (nat_lt (length before)) (sym len) ∙ both.0 in
    subst (λ (x : Option (List ℕ)). (◌≡◌ {A = Result ℕ Fault} (Err e) (opening_answer x (length before))) × (before ≡ opened_into x before)) (sym some)
    (ap (λ (x : Fault). Err x) both.1 ∙ sym (cond-true (nat_lt (length before) (length plain)) _ _ short), sym (cond-true (nat_lt (length before) (length plain)) _ _ short))

-- a text that passes opens, and there is room
pub opening_passed : {A : Type 0} (size : A → ℕ) (t : Option A) (o : Option (List ℕ)) (room : ℕ) (r : Result A Fault) (y : A)
    → Opens size t o → Checked size t room r → r ≡ Ok y
    → (t ≡ Some y) × (size y ≤ room)
opening_passed size None o room r y none h is = let z : ◌≡◌ {A = ℕ} 0 1 = cc in absurd (omega arith)
opening_passed size (Some x) o room r y some h is =
    let both = room_cases (nat_lt room (size x)) x y (sym is ∙ h) in
    (ap (λ (v : _). Some v) (sym both.1), ltb-false room (size y) (ap (λ (v : _). nat_lt room (size v)) both.1 ∙ both.0))

abbrev pub bytes_in : Bor (List ℕ) → ℕ
bytes_in x = length x.now

-- where the text is the plaintext itself
pub opens-plain : (t : Option (Bor (List ℕ))) (o : Option (List ℕ)) → MatchOption t (o ≡ None) (λ x. o ≡ Some x.now) → Opens bytes_in t o
opens-plain None o h = h
opens-plain (Some x) o h = (x.now, h, refl)
