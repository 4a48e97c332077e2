-- The number of each status, prefix type and key material type.
use Rattle.std.specs.Prelude.{ℤ, pos}
use Rattle.encoding.specs.declared.numbers.KeyStatusType.{KeyStatusType}
use Rattle.encoding.specs.declared.numbers.KeyStatusType.TheVariants.{Enabled, Disabled, Destroyed}
use Rattle.encoding.specs.declared.numbers.OutputPrefixType.{OutputPrefixType}
use Rattle.encoding.specs.declared.numbers.OutputPrefixType.TheVariants.{Tink, Legacy, Raw, Crunchy}
use Rattle.encoding.specs.declared.numbers.KeyMaterialType.{KeyMaterialType}
use Rattle.encoding.specs.declared.numbers.KeyMaterialType.TheVariants.{UnknownKeymaterial, Symmetric, AsymmetricPrivate, AsymmetricPublic, Remote}

abbrev pub status_number : KeyStatusType → ℤ
status_number Enabled = pos 1
status_number Disabled = pos 2
status_number Destroyed = pos 3

abbrev pub prefix_number : OutputPrefixType → ℤ
prefix_number Tink = pos 1
prefix_number Legacy = pos 2
prefix_number Raw = pos 3
prefix_number Crunchy = pos 4

abbrev pub material_number : KeyMaterialType → ℤ
material_number UnknownKeymaterial = pos 0
material_number Symmetric = pos 1
material_number AsymmetricPrivate = pos 2
material_number AsymmetricPublic = pos 3
material_number Remote = pos 4
