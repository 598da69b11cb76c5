-- Parameters of which no two have one name, and those whose types have values.
use Rattle.std.specs.Prelude.{◌≡◌, true, false, List, [], ◌∷◌}
use Rattle.cp_meaning.specs.Names.{Name, same_name}
use Rattle.cp_meaning.specs.Declarations.{Parameter}
use Rattle.cp_resolved.specs.Standing.{is_free, is_standing}

-- no other parameter has the name, and so for all
abbrev pub IsOther : Name → List Parameter → Type 0
IsOther x [] = Unit {0}
IsOther x (q ∷ qs) = (same_name x q.name ≡ false) × IsOther x qs

abbrev pub AreDifferent : List Parameter → Type 0
AreDifferent [] = Unit {0}
AreDifferent (q ∷ qs) = IsOther q.name qs × AreDifferent qs

-- no parameter has queues or components
abbrev pub HaveValues : List Parameter → Type 0
HaveValues [] = Unit {0}
HaveValues (q ∷ qs) = (is_free q.ty ≡ true) × HaveValues qs

-- no parameter of a component is a `var` parameter, and each is of a type that may stand
abbrev pub HaveTypes : List Parameter → Type 0
HaveTypes [] = Unit {0}
HaveTypes (q ∷ qs) = (q.is_var ≡ false) × (is_standing q.ty ≡ true) × HaveTypes qs
