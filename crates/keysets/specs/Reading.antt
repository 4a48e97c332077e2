-- What may be read of the key at a position, if the keyset reaches so far.
use Rattle.std.specs.Prelude.{ℕ, ℤ, Option}
use Rattle.std.specs.Option.{option_map}
use Rattle.encoding.specs.Lists.{item}
use Rattle.encoding.specs.Meanings.{KeyMeaning, KeysetMeaning}

abbrev pub id_at : ℕ → KeysetMeaning → Option ℕ
id_at i s = option_map (λ (k : KeyMeaning). k.key_id) (item s.keys i)

abbrev pub status_at : ℕ → KeysetMeaning → Option ℤ
status_at i s = option_map (λ (k : KeyMeaning). k.status) (item s.keys i)

abbrev pub prefix_at : ℕ → KeysetMeaning → Option ℤ
prefix_at i s = option_map (λ (k : KeyMeaning). k.output_prefix_type) (item s.keys i)
