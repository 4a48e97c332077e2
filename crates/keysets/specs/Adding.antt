-- What adding a key makes of a keyset and of the words left in a source, and what it answers.
use Rattle.std.specs.Prelude.{◌≡◌, ℕ, suc, min, Bool, cond, List, [], ◌∷◌, ◌++◌, length, drop, is_some, Some, None, Ok, Err, Option, Result, nat_le}
use Rattle.std.specs.Option.{option_map}
use Rattle.ciphers.specs.Faults.{fault}
use Rattle.ciphers.specs.declared.fault.Fault.{Fault}
use Rattle.ciphers.specs.declared.fault.Layer.TheVariants.{Manager, Draws}
use Rattle.ciphers.specs.declared.fault.Refusal.TheVariants.{KeysetFull, UnknownPrefixType, NoWordLeft}
use Rattle.encoding.specs.Meanings.{KeyDataMeaning, KeyTemplateMeaning, KeyMeaning, KeysetMeaning}
use Rattle.encoding.specs.Numbers.{status_number}
use Rattle.encoding.specs.declared.numbers.KeyStatusType.TheVariants.{Enabled}
use Rattle.keysets.specs.Edits.{position_of}
use Rattle.encoding.specs.Kinds.{prefix_of}
use Rattle.keysets.specs.Registries.{Managing, found, new_key_data_by, words_by}

-- an id that was drawn, and how many words it took
pub record DrawnId : Type 0 where
  pub id : ℕ
  pub taken : ℕ

abbrev pub one_more : DrawnId → DrawnId
one_more d = record { id = d.id; taken = suc d.taken }

-- whether a key has an id, whatever its status
abbrev pub is_present : ℕ → List KeyMeaning → Bool
is_present id ks = is_some (position_of id ks)

-- the first word that is the id of no key; 0 is a word like any other
abbrev pub drawn_id : List KeyMeaning → List ℕ → Option DrawnId
drawn_id ks [] = None
drawn_id ks (w ∷ ws) = cond (is_present w ks) (option_map one_more (drawn_id ks ws)) (Some (record { id = w; taken = 1 }))

-- the words left after an id was drawn, or could not be
abbrev pub words_after_id : Option DrawnId → List ℕ → List ℕ
words_after_id None ws = []
words_after_id (Some d) ws = drop d.taken ws

-- the new key: Enabled, with a template's prefix type
abbrev pub new_key : KeyDataMeaning → ℕ → KeyTemplateMeaning → KeyMeaning
new_key d id t = record { key_data = Some d; status = status_number Enabled; key_id = id; output_prefix_type = t.output_prefix_type }

-- a key as it is made: first its data, then its id, then the prefix type is tested
abbrev pub key_with : KeyTemplateMeaning → KeyDataMeaning → Option DrawnId → Result KeyMeaning Fault
key_with t d None = Err (fault NoWordLeft Draws)
key_with t d (Some i) = cond (is_some (prefix_of t.output_prefix_type)) (Ok (new_key d i.id t)) (Err (fault UnknownPrefixType Manager))

abbrev pub key_of : KeyTemplateMeaning → List KeyMeaning → List ℕ → Result KeyDataMeaning Fault → Result KeyMeaning Fault
key_of t ks ws (Err f) = Err f
key_of t ks ws (Ok d) = key_with t d (drawn_id ks ws)

abbrev pub words_of : List KeyMeaning → List ℕ → Result KeyDataMeaning Fault → List ℕ
words_of ks ws (Err f) = ws
words_of ks ws (Ok d) = words_after_id (drawn_id ks ws) ws

abbrev pub made_key : {P : Type 0} → List (Managing P) → KeyTemplateMeaning → List KeyMeaning → List ℕ → Result KeyMeaning Fault
made_key ms t ks ws =
    let m = found t.type_url ms in
    key_of t ks (words_by m t.value ws) (new_key_data_by m t.value ws)

abbrev pub words_made : {P : Type 0} → List (Managing P) → KeyTemplateMeaning → List KeyMeaning → List ℕ → List ℕ
words_made ms t ks ws =
    let m = found t.type_url ms in
    words_of ks (words_by m t.value ws) (new_key_data_by m t.value ws)

-- the keyset, the words left and the answer after an addition
pub record Added : Type 0 where
  pub keyset : KeysetMeaning
  pub words : List ℕ
  pub answer : Result ℕ Fault

-- the key goes to the end, and its id becomes the primary id if that is asked for
abbrev pub with_key : Bool → KeyMeaning → KeysetMeaning → KeysetMeaning
with_key as_primary k s = record { primary_key_id = cond as_primary k.key_id s.primary_key_id; keys = s.keys ++ (k ∷ []) }

abbrev pub added_key : Bool → KeysetMeaning → List ℕ → Result KeyMeaning Fault → Added
added_key as_primary s ws (Err f) = record { keyset = s; words = ws; answer = Err f }
added_key as_primary s ws (Ok k) = record { keyset = with_key as_primary k s; words = ws; answer = Ok k.key_id }

-- a full keyset refuses before a word is drawn
unfoldable pub added : {P : Type 0} → List (Managing P) → KeyTemplateMeaning → Bool → KeysetMeaning → List ℕ → Added
added ms t as_primary s ws =
    cond (nat_le 16 (length s.keys))
    (record { keyset = s; words = ws; answer = Err (fault KeysetFull Manager) })
    (added_key as_primary s (words_made ms t s.keys ws) (made_key ms t s.keys ws))

-- a count as far as the code counts
abbrev pub counted : ℕ → ℕ
counted n = min n 18446744073709551615

abbrev pub id_answer : Option DrawnId → Result (ℕ × ℕ) Fault
id_answer None = Err (fault NoWordLeft Draws)
id_answer (Some d) = Ok (d.id, counted d.taken)

-- a call that adds a key: the keyset after it, the words left, and what it answers
pub record Adds {P : Type 0} (ms : List (Managing P)) (t : KeyTemplateMeaning) (as_primary : Bool) (old new : KeysetMeaning) (before after : List ℕ) (answer : Result ℕ Fault) : Type 0 where
  pub keyset : new ≡ (added ms t as_primary old before).keyset
  pub words : after ≡ (added ms t as_primary old before).words
  pub value : answer ≡ (added ms t as_primary old before).answer
