-- What is known of a keyset after some of its keys.
use Rattle.std.specs.Prelude.{ℕ, ◌||◌}
use Rattle.encoding.specs.Meanings.{KeyMeaning}
use Rattle.keysets.specs.Validation.{enabled_key, primary_key, not_public_key}
use Rattle.keysets.specs.declared.validation.Seen.{Seen}

abbrev pub seen_after : ℕ → KeyMeaning → Seen → Seen
seen_after p k s = record { some_enabled = s.some_enabled || enabled_key k; some_primary = s.some_primary || primary_key p k; some_not_public = s.some_not_public || not_public_key k }
