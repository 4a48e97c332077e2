-- What sealing and opening answer and leave in the output that they were lent.
use Rattle.std.specs.Prelude.{◌≡◌, ℕ, ◌+◌, ◌≤◌, Bool, true, false, cond, ◌||◌, List, ◌++◌, length, take, drop, Some, None, Ok, Err, Option, Result, nat_lt}
use Rattle.ciphers.specs.declared.fault.Fault.{Fault}
use Rattle.ciphers.specs.declared.fault.Layer.TheVariants.{Aead}
use Rattle.ciphers.specs.declared.fault.Refusal.TheVariants.{DoesNotOpen, WrongSize}
use Rattle.ciphers.specs.Faults.{fault}

-- An Aead means a function from a ciphertext and an associated text to a plaintext or none.
abbrev pub Meaning : Type 0
Meaning = List ℕ → List ℕ → Option (List ℕ)

-- encrypt refuses a plaintext over 4,096 bytes, a text over 256, and an output shorter than the plaintext and the overhead
abbrev pub out_of_bounds : ℕ → ℕ → ℕ → ℕ → Bool
out_of_bounds overhead plain text room = nat_lt 4096 plain || (nat_lt 256 text || nat_lt room (plain + overhead))

-- encrypt's answer: refused exactly where out of bounds; else some ciphertext, at most so much longer, that opens to the plaintext
abbrev pub Encrypted : Meaning → ℕ → List ℕ → List ℕ → List ℕ → List ℕ → Result ℕ Fault → Type 0
Encrypted opens overhead plain text before after (Err f) =
    (out_of_bounds overhead (length plain) (length text) (length before) ≡ true) × (f ≡ fault WrongSize Aead) × (after ≡ before)
Encrypted opens overhead plain text before after (Ok n) =
    (out_of_bounds overhead (length plain) (length text) (length before) ≡ false) × (n ≤ length plain + overhead) ×
    (opens (take n after) text ≡ Some plain) × (drop n after ≡ drop n before)

-- the same for an Aead whose ciphertext is known
abbrev pub sealing_answer : Bool → List ℕ → Result ℕ Fault
sealing_answer refused sealed = cond refused (Err (fault WrongSize Aead)) (Ok (length sealed))

abbrev pub sealed_into : Bool → List ℕ → List ℕ → List ℕ
sealed_into refused sealed before = cond refused before (sealed ++ drop (length sealed) before)

-- decrypt's answer: whether it opens is told first, then whether the plaintext has room
abbrev pub opening_answer : Option (List ℕ) → ℕ → Result ℕ Fault
opening_answer None room = Err (fault DoesNotOpen Aead)
opening_answer (Some plain) room = cond (nat_lt room (length plain)) (Err (fault WrongSize Aead)) (Ok (length plain))

abbrev pub opened_into : Option (List ℕ) → List ℕ → List ℕ
opened_into None before = before
opened_into (Some plain) before = cond (nat_lt (length before) (length plain)) before (plain ++ drop (length plain) before)
