-- The manager of `junction/cmac128`: keys of 16 bytes from four words, for CMAC.
use Rattle.std.specs.Prelude.{ℕ, ◌≤◌, cond, List, length, take, Ok, Err, codes, ◌==◌, nat_lt}
use Rattle.std.proofs.Common.{rules}
use Rattle.std.specs.List.{flat_map}
use Rattle.ciphers.specs.Bytes.{word_bytes}
use Rattle.keysets.specs.declared.registry.cmac128.MacKey.{MacKey}
use Rattle.keysets.specs.Managers.{Maker, KeyMaker, Making, UrlFits, made, barred, dry}

-- reason 1: the key has not 16 bytes
abbrev pub cmac128_maker : Maker MacKey
cmac128_maker = record {
  type_url = codes "junction/cmac128";
  primitive = λ key. cond (length key == 16) (Ok (record { bytes = key })) (Err 1);
}

-- the bytes of four words, one after the other, each with its highest byte first
abbrev pub four_words : List ℕ → Making
four_words words = cond (nat_lt (length words) 4) dry (made (flat_map word_bytes (take 4 words)) 4)

-- material 1, Symmetric; reason 2: the format is not empty
abbrev pub cmac128_keys : KeyMaker
cmac128_keys = record {
  material = 1;
  new_key = λ format words. cond (length format == 0) (four_words words) (barred 2);
}

-- the laws that need no more than counting
pub cmac128_url_fits : UrlFits cmac128_maker.type_url
cmac128_url_fits = search rules

pub cmac128_material_known : cmac128_keys.material ≤ 4
cmac128_material_known = search rules
