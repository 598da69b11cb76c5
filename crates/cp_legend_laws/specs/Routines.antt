-- The parameters, the result and the local variables of a routine as the legend has them.
use Rattle.std.specs.Prelude.{◌≡◌, ℕ, if◌then◌else◌, Bool, true, false, List, [], ◌∷◌, ◌++◌, Option, Some, None, slice_get}
use Rattle.cp_tree.specs.Syntax.{Tree}
use Rattle.cp_meaning.specs.Declarations.{Parameter, RoutineMeaning, Variable}
use Rattle.cp_meaning.specs.Names.{Name, result_name, same_name}
use Rattle.cp_meaning.specs.Types.{Ty}
use Rattle.cp_symbols.specs.Kinds.{Compounds}
use Rattle.cp_resolved.specs.InStep.{TypeIs}
use Rattle.cp_resolved.specs.Layouts.{cell_named}
use Rattle.cp_resolved.specs.Openings.{meaning_at, numbering_of}
use Rattle.cp_resolved.specs.TreeLayouts.{layouts_of}
use Rattle.cp_legend.specs.declared.legend.LegendParameter.{LegendParameter}
use Rattle.cp_legend.specs.declared.legend.LegendPassing.{LegendPassing}
use Rattle.cp_legend.specs.declared.legend.LegendPassing.TheVariants as passing
use Rattle.cp_legend.specs.Names as legend
use Rattle.cp_legend.specs.Names.{RoutineNames}

-- ---- parameters

abbrev pub passing_of : (is_var : Bool) → LegendPassing
passing_of true = passing.Reference
passing_of false = passing.Value

-- A parameter of the legend has the cell or the number of the language's by the layouts of the tree, its type, and is passed as it is.
pub record IsParameter (t : Tree) (ts : Compounds) (n : ℕ) (q : Parameter) (w : LegendParameter) : Type 0 where
  pub slot : w.slot ≡ cell_named ((layouts_of t).frames n) q.name
  pub shape : TypeIs (numbering_of t.program) ts q.ty w.shape
  pub passing : w.passing ≡ passing_of q.is_var

abbrev pub AreParameters : Tree → Compounds → (routine : ℕ) → List Parameter → List LegendParameter → Type 0
AreParameters t ts n [] [] = Unit {0}
AreParameters t ts n (q ∷ qs) (w ∷ ws) = IsParameter t ts n q w × AreParameters t ts n qs ws
AreParameters t ts n [] (w ∷ ws) = ⊥
AreParameters t ts n (q ∷ qs) [] = ⊥

-- ---- variables

-- the parameters with values
abbrev pub value_parameters : List Parameter → List Variable
value_parameters [] = []
value_parameters (q ∷ qs) = if q.is_var then value_parameters qs else (let v : Variable = record { name = q.name; ty = q.ty } in v) ∷ value_parameters qs

abbrev pub result_variable : Option Ty → List Variable
result_variable None = []
result_variable (Some t) = (let v : Variable = record { name = result_name; ty = t } in v) ∷ []

-- the parameters with values, a function's result, and the local variables
abbrev pub own_variables : RoutineMeaning → List Variable
own_variables m = value_parameters m.parameters ++ (result_variable m.result ++ m.variables)

-- a function's result has the name of the function
abbrev pub local_name : (own : List ℕ) → Name → List ℕ
local_name own x = if same_name x result_name then own else x

-- A variable of the legend has the name, the cell and the type of the language's.
pub record IsLocal (t : Tree) (ts : Compounds) (n : ℕ) (own : List ℕ) (v : Variable) (w : legend.Variable) : Type 0 where
  pub name : w.name ≡ local_name own v.name
  pub slot : w.slot ≡ cell_named ((layouts_of t).frames n) v.name
  pub shape : TypeIs (numbering_of t.program) ts v.ty w.shape

abbrev pub AreLocals : Tree → Compounds → (routine : ℕ) → (own : List ℕ) → List Variable → List legend.Variable → Type 0
AreLocals t ts n own [] [] = Unit {0}
AreLocals t ts n own (v ∷ vs) (w ∷ ws) = IsLocal t ts n own v w × AreLocals t ts n own vs ws
AreLocals t ts n own [] (w ∷ ws) = ⊥
AreLocals t ts n own (v ∷ vs) [] = ⊥

-- ---- results

-- the variable of the legend at a place
abbrev pub at_place : List legend.Variable → Option ℕ → Option legend.Variable
at_place vs None = None
at_place vs (Some place) = slice_get vs place

-- a function has one, and a procedure none
abbrev pub ResultIs : Tree → Compounds → (routine : ℕ) → (own : List ℕ) → Option Ty → Option legend.Variable → Type 0
ResultIs t ts n own None None = Unit {0}
ResultIs t ts n own (Some u) (Some w) = IsLocal t ts n own (let v : Variable = record { name = result_name; ty = u } in v) w
ResultIs t ts n own None (Some w) = ⊥
ResultIs t ts n own (Some u) None = ⊥

-- ---- routines

-- The routine of this number is told with its parameters, variables and result.
pub record RoutineIsTold (t : Tree) (ts : Compounds) (n : ℕ) (r : RoutineNames) : Type 0 where
  pub parameters : AreParameters t ts n (meaning_at t.program n).parameters r.parameters
  pub variables : AreLocals t ts n r.name (own_variables (meaning_at t.program n)) r.variables
  pub result : ResultIs t ts n r.name (meaning_at t.program n).result (at_place r.variables r.result)
