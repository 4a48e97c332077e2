-- What a key manager means: plain records of functions, which no call alters.
use Rattle.std.specs.Prelude.{◌≡◌, ℕ, ◌≤◌, true, List, [], length, drop, pos, is_ok, Ok, Err, Result}
use Rattle.ciphers.specs.Faults.{fault, reasoned}
use Rattle.ciphers.specs.declared.fault.Fault.{Fault}
use Rattle.ciphers.specs.declared.fault.Layer.TheVariants.{KeyManager, Draws}
use Rattle.ciphers.specs.declared.fault.Refusal.TheVariants.{KeyManagerReason, NoWordLeft}
use Rattle.encoding.specs.Lists.{visible}
use Rattle.encoding.specs.Meanings.{KeyDataMeaning}

-- the smaller half: the type of its keys, and the primitive, or a reason, that it makes of a key's bytes
pub record Maker (P : Type 0) : Type 0 where
  pub type_url : List ℕ
  pub primitive : List ℕ → Result P ℕ

-- what comes of a format and the words left in a source: a key and how many words it took, a reason that takes none,
-- or too few words, which are gone then
pub data Making : Type 0 where
  made : List ℕ → ℕ → Making
  barred : ℕ → Making
  dry : Making

-- the larger half: the material of its keys, and how it makes them
pub record KeyMaker : Type 0 where
  pub material : ℕ
  pub new_key : List ℕ → List ℕ → Making

-- a type URL within the limits
abbrev pub UrlFits : List ℕ → Type 0
UrlFits url = (length url ≤ 64) × (visible url ≡ true)

-- a key that was made has 1 to 128 bytes, took words that were there, and gives a primitive
abbrev pub Lawful : {P : Type 0} → Maker P → List ℕ → Making → Type 0
Lawful m ws (made key n) = (1 ≤ length key) × (length key ≤ 128) × (n ≤ length ws) × (is_ok (m.primitive key) ≡ true)
Lawful m ws (barred r) = Unit {0}
Lawful m ws dry = Unit {0}

-- what every key manager keeps
pub record KeepsLaws {P : Type 0} (m : Maker P) (k : KeyMaker) : Type 0 where
  pub url : UrlFits m.type_url
  pub material : k.material ≤ 4
  pub making : (format words : List ℕ) → Lawful m words (k.new_key format words)

-- the words left after a making
abbrev pub words_after : Making → List ℕ → List ℕ
words_after (made key n) ws = drop n ws
words_after (barred r) ws = ws
words_after dry ws = []

-- a manager's reason as a fault
abbrev pub reason_fault : ℕ → Fault
reason_fault r = reasoned r (fault KeyManagerReason KeyManager)

-- what the calls answer
abbrev pub primitive_answer : {P : Type 0} → Result P ℕ → Result P Fault
primitive_answer (Ok p) = Ok p
primitive_answer (Err r) = Err (reason_fault r)

abbrev pub key_answer : Making → Result (List ℕ) Fault
key_answer (made key n) = Ok key
key_answer (barred r) = Err (reason_fault r)
key_answer dry = Err (fault NoWordLeft Draws)

abbrev pub key_data_answer : List ℕ → ℕ → Making → Result KeyDataMeaning Fault
key_data_answer url material (made key n) = Ok (record { type_url = url; value = key; key_material_type = pos material })
key_data_answer url material (barred r) = Err (reason_fault r)
key_data_answer url material dry = Err (fault NoWordLeft Draws)

-- an answer by what its value means
abbrev pub answered : {X Y : Type 0} → (X → Y) → Result X Fault → Result Y Fault
answered view (Ok x) = Ok (view x)
answered view (Err f) = Err f
