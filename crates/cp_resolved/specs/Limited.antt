-- Types of at most 8,192 cells, as rule C20 wants them.
use Rattle.std.specs.Prelude.{◌≤◌}
use Rattle.cp_meaning.specs.Types.{Ty}
use Rattle.cp_meaning.specs.Scopes.{Meaning, type_meaning, local_variable, permanent_variable, Scope}
use Rattle.cp_resolved.specs.Layouts.{cells_of}
use Rattle.cp_resolved.specs.Small.{Each}

abbrev pub IsLimited : Ty → Type 0
IsLimited t = cells_of t ≤ 8192

abbrev pub IsLimitedMeaning : Meaning → Type 0
IsLimitedMeaning (type_meaning t) = IsLimited t
IsLimitedMeaning (local_variable t) = IsLimited t
IsLimitedMeaning (permanent_variable t) = IsLimited t
IsLimitedMeaning m = Unit {0}

-- each type that has a name, and each variable's
abbrev pub AreLimited : Scope → Type 0
AreLimited s = Each (λ d. IsLimitedMeaning d.1) s
