-- Which status, prefix type or key material type has a number, if one has it.
use Rattle.std.specs.Prelude.{◌≡◌, Bool, false, cond, List, [], ◌∷◌, ℤ, pos, negsuc, Some, None, Option, Result, MatchResult, ◌==◌, ◌≢◌}
use Rattle.std.specs.Result.{result_ok}
use Rattle.encoding.specs.Numbers.{status_number, prefix_number, material_number}
use Rattle.encoding.specs.declared.numbers.KeyStatusType.{KeyStatusType}
use Rattle.encoding.specs.declared.numbers.KeyStatusType.TheVariants.{Enabled, Disabled, Destroyed}
use Rattle.encoding.specs.declared.numbers.OutputPrefixType.{OutputPrefixType}
use Rattle.encoding.specs.declared.numbers.OutputPrefixType.TheVariants.{Tink, Legacy, Raw, Crunchy}
use Rattle.encoding.specs.declared.numbers.KeyMaterialType.{KeyMaterialType}
use Rattle.encoding.specs.declared.numbers.KeyMaterialType.TheVariants.{UnknownKeymaterial, Symmetric, AsymmetricPrivate, AsymmetricPublic, Remote}
use Rattle.encoding.specs.declared.numbers.UnknownNumber.{UnknownNumber}

abbrev pub same_number : ℤ → ℤ → Bool
same_number (pos m) (pos n) = m == n
same_number (pos m) (negsuc n) = false
same_number (negsuc m) (pos n) = false
same_number (negsuc m) (negsuc n) = m == n

-- the first kind whose number it is
abbrev pub kind_of : {K : Type 0} → (K → ℤ) → List K → ℤ → Option K
kind_of number [] z = None
kind_of number (k ∷ ks) z = cond (same_number (number k) z) (Some k) (kind_of number ks z)

abbrev pub statuses : List KeyStatusType
statuses = Enabled ∷ Disabled ∷ Destroyed ∷ []

abbrev pub status_of : ℤ → Option KeyStatusType
status_of z = kind_of status_number statuses z

abbrev pub prefixes : List OutputPrefixType
prefixes = Tink ∷ Legacy ∷ Raw ∷ Crunchy ∷ []

abbrev pub prefix_of : ℤ → Option OutputPrefixType
prefix_of z = kind_of prefix_number prefixes z

abbrev pub materials : List KeyMaterialType
materials = UnknownKeymaterial ∷ Symmetric ∷ AsymmetricPrivate ∷ AsymmetricPublic ∷ Remote ∷ []

abbrev pub material_of : ℤ → Option KeyMaterialType
material_of z = kind_of material_number materials z

-- the kind with the number z, or an error with z where no kind has it
abbrev pub KindOf : {K : Type 0} → (K → ℤ) → (ℤ → Option K) → ℤ → Result K UnknownNumber → Type 0
KindOf {K} number of z r = (MatchResult r (λ k. number k ≡ z) (λ e. (e.0 ≡ z) × ((k : K) → number k ≢ z))) × (result_ok r ≡ of z)
