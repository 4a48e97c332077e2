-- Which fields each record knows: by number, and whether a number or bytes stand in it.
use Rattle.std.specs.Prelude.{Bool, false, ◌||◌, ◌==◌}
use Rattle.encoding.specs.Wire.{Field, number, bytes}

abbrev pub key_data_knows : Field → Bool
key_data_knows (number k v) = k == 3
key_data_knows (bytes k b) = k == 1 || k == 2

abbrev pub key_template_knows : Field → Bool
key_template_knows (number k v) = k == 3
key_template_knows (bytes k b) = k == 1 || k == 2

abbrev pub key_knows : Field → Bool
key_knows (number k v) = k == 2 || (k == 3 || k == 4)
key_knows (bytes k b) = k == 1

abbrev pub keyset_knows : Field → Bool
keyset_knows (number k v) = k == 1
keyset_knows (bytes k b) = k == 2

abbrev pub key_info_knows : Field → Bool
key_info_knows (number k v) = k == 2 || (k == 3 || k == 4)
key_info_knows (bytes k b) = k == 1

abbrev pub keyset_info_knows : Field → Bool
keyset_info_knows (number k v) = k == 1
keyset_info_knows (bytes k b) = k == 2

abbrev pub encrypted_keyset_knows : Field → Bool
encrypted_keyset_knows (number k v) = false
encrypted_keyset_knows (bytes k b) = k == 2 || k == 3
