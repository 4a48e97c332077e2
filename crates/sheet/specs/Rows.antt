-- A keyset as lines of text, a line for each key in keyset order: `7 Enabled Tink`, and ` primary` after the primary id.
use Rattle.std.specs.Prelude.{ℕ, Bool, cond, List, [], ◌∷◌, ◌++◌, Some, None, codes, decimal, Option, ◌==◌}
use Rattle.encoding.specs.Meanings.{KeyMeaning, KeysetMeaning}
use Rattle.encoding.specs.declared.numbers.KeyStatusType.{KeyStatusType}
use Rattle.encoding.specs.declared.numbers.KeyStatusType.TheVariants.{Enabled, Disabled, Destroyed}
use Rattle.encoding.specs.declared.numbers.OutputPrefixType.{OutputPrefixType}
use Rattle.encoding.specs.declared.numbers.OutputPrefixType.TheVariants.{Tink, Legacy, Raw, Crunchy}
use Rattle.encoding.specs.Kinds.{status_of, prefix_of}
use Rattle.sheet.specs.declared.keys.Row.{Row}

abbrev pub status_text : Option KeyStatusType → List ℕ
status_text (Some Enabled) = codes "Enabled"
status_text (Some Disabled) = codes "Disabled"
status_text (Some Destroyed) = codes "Destroyed"
status_text None = codes "unknown"

abbrev pub prefix_text : Option OutputPrefixType → List ℕ
prefix_text (Some Tink) = codes "Tink"
prefix_text (Some Legacy) = codes "Legacy"
prefix_text (Some Raw) = codes "Raw"
prefix_text (Some Crunchy) = codes "Crunchy"
prefix_text None = codes "unknown"

abbrev pub mark_text : Bool → List ℕ
mark_text primary = cond primary (codes " primary") []

abbrev pub row : List ℕ → ℕ → List ℕ → List ℕ → List ℕ
row mark id status prefix = decimal id ++ (codes " " ++ (status ++ (codes " " ++ (prefix ++ (mark ++ codes "\n")))))

-- the text of what is listed of a key
abbrev pub text_of : Row → List ℕ
text_of r = row (mark_text r.is_primary) r.id (status_text (status_of r.status)) (prefix_text (prefix_of r.prefix))

-- what is listed of a key
abbrev pub row_of : ℕ → KeyMeaning → Row
row_of primary k = record { id = k.key_id; status = k.status; prefix = k.output_prefix_type; is_primary = k.key_id == primary }

abbrev pub key_row : ℕ → KeyMeaning → List ℕ
key_row primary k = text_of (row_of primary k)

-- every key, in order, and nothing else
abbrev pub rows : ℕ → List KeyMeaning → List ℕ
rows primary [] = []
rows primary (k ∷ ks) = key_row primary k ++ rows primary ks

abbrev pub sheet_of : KeysetMeaning → List ℕ
sheet_of s = rows s.primary_key_id s.keys
