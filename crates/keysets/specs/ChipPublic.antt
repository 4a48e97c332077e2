-- The manager of `junction/chip-public`: public halves of 32 bytes, brought in by the format.
use Rattle.std.proofs.Common.{rules}
use Rattle.std.specs.Prelude.{◌≤◌, true, cond, length, Ok, Err, codes, ◌==◌}
use Rattle.keysets.specs.declared.registry.chip_public.Chip.{Chip}
use Rattle.keysets.specs.Managers.{Maker, KeyMaker, UrlFits, made, barred}

-- reason 1: the key has not 32 bytes
abbrev pub chip_public_maker : Maker Chip
chip_public_maker = record {
  type_url = codes "junction/chip-public";
  primitive = λ key. cond (length key == 32) (Ok (record { public = true; half = key })) (Err 1);
}

-- material 3, AsymmetricPublic; the format is the key; reason 2: it has not 32 bytes
abbrev pub chip_public_keys : KeyMaker
chip_public_keys = record {
  material = 3;
  new_key = λ format words. cond (length format == 32) (made format 0) (barred 2);
}

-- the laws that need no more than counting
pub chip_public_url_fits : UrlFits chip_public_maker.type_url
chip_public_url_fits = search rules

pub chip_public_material_known : chip_public_keys.material ≤ 4
chip_public_material_known = search rules
