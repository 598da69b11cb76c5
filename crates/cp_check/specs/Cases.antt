-- The rules of `case`.
use Rattle.std.specs.Prelude.{◌≡◌, ℕ, Bool, true, false, ◌&&◌, ◌||◌, if◌then◌else◌, List, [], ◌∷◌, ◌++◌, Ok}
use Rattle.cp_tree.specs.declared.constant.Constant.{Constant}
use Rattle.cp_scope.specs.declared.fault.Rule.TheVariants.{C5, C19}
use Rattle.cp_scope.specs.declared.fault.CheckFault.{CheckFault}
use Rattle.cp_scope.specs.declared.types.Base.{Base}
use Rattle.cp_scope.specs.declared.types.ValueType.{ValueType}
use Rattle.cp_scope.specs.declared.types.ValueType.TheVariants.{Ordinal}
use Rattle.cp_scope.specs.declared.count.Use.{Use}
use Rattle.cp_scope.specs.Types.{same_base}
use Rattle.cp_scope.specs.Counts.{both_uses}
use Rattle.cp_scope.specs.Scopes.{Scopes}
use Rattle.cp_scope.specs.Judged.{Judged, both, ◌>>=◌}
use Rattle.cp_check.specs.declared.constant.ConstantNumber.{ConstantNumber}
use Rattle.cp_check.specs.declared.case.Label.{Label}
use Rattle.cp_check.specs.declared.operand.Operand.{Operand}
use Rattle.cp_check.specs.Constants.{constant, same_number}
use Rattle.cp_check.specs.Calls.{fault, unless}

-- ---- labels

abbrev pub to_label : ℕ → ConstantNumber → Judged Label
to_label at n = Ok (record { at = at; number = n })

unfoldable pub one_label : Scopes → Constant → Judged Label
one_label s c = constant s c >>= to_label c.at

abbrev pub before : Label × List Label → Judged (List Label)
before p = Ok (p.0 ∷ p.1)

unfoldable pub labels : Scopes → List Constant → Judged (List Label)
labels s [] = Ok []
labels s (c ∷ cs) = both (one_label s c) (labels s cs) >>= before

-- the labels of arms and what the arms take, together with those before
abbrev pub join_arms : (List Label × Use) × (List Label × Use) → Judged (List Label × Use)
join_arms p = Ok (p.0.0 ++ p.1.0, both_uses p.0.1 p.1.1)

-- ---- the rules of a `case` itself

abbrev pub are_labels : Base → List Label → Bool
are_labels b [] = true
are_labels b (l ∷ ls) = same_base l.number.base b && are_labels b ls

-- all labels are of one base
abbrev pub AreOfOneBase : List Label → Type 0
AreOfOneBase ls = (b : Base) × (are_labels b ls ≡ true)

-- the selector is ordinal, and the labels agree with it
abbrev pub label_faults : ℕ → ValueType → List Label → List CheckFault
label_faults at (Ordinal r) ls = if are_labels r.base ls then [] else fault at C5
label_faults at _ ls = fault at C5

abbrev pub is_label : Label → List Label → Bool
is_label l [] = false
is_label l (m ∷ ms) = same_number l.number m.number || is_label l ms

abbrev pub again_faults : Label → List Label → List CheckFault
again_faults l ms = if is_label l ms then fault l.at C19 else []

-- labels that stand among those before them
unfoldable pub twice_faults : List Label → List Label → List CheckFault
twice_faults ms [] = []
twice_faults ms (l ∷ ls) = again_faults l ms ++ twice_faults (ms ++ l ∷ []) ls

abbrev pub case_faults : ℕ → Operand → List Label → List CheckFault
case_faults at o ls = label_faults at o.value_type ls ++ twice_faults [] ls

abbrev pub check_case : ℕ → Operand × (List Label × Use) → Judged Use
check_case at p = unless (case_faults at p.0 p.1.0) (both_uses p.0.uses p.1.1)
