-- What is wanted of the declarations of a tree, so that variables lie where the layouts say, and the law of system types.
use Rattle.std.specs.Prelude.{◌≡◌, ◌<◌, ◌≤◌, ℕ, true, List, [], ◌∷◌, ◌++◌, Option, Some, None}
use Rattle.cp_tree.specs.Syntax.{Tree}
use Rattle.cp_symbols.specs.Kinds.{most}
use Rattle.cp_layout.specs.Laid.{plain, laid}
use Rattle.cp_slots.specs.Tables.{Tables, system_at}
use Rattle.cp_meaning.specs.Types.{Ty, ordinal}
use Rattle.cp_meaning.specs.Scopes.{Meaning, local_variable, permanent_variable, Scope, find}
use Rattle.cp_meaning.specs.Declarations.{Variable, RoutineMeaning}
use Rattle.cp_meaning.specs.Steps.{parameter_variables}
use Rattle.cp_meaning.specs.Systems.{SystemMeaning, program_system, system_of}
use Rattle.cp_resolved.specs.BodiesStand.{ground_of}
use Rattle.cp_resolved.specs.Calls.{all_calls_laid}
use Rattle.cp_resolved.specs.Layouts.{look}
use Rattle.cp_resolved.specs.LayoutsKnow.{IsPlaced}
use Rattle.cp_resolved.specs.Openings.{meaning_at}
use Rattle.cp_resolved.specs.Resolved.{SystemIs}
use Rattle.cp_resolved.specs.Small.{Each}
use Rattle.cp_resolved.specs.Standing.{is_bounded, IsFreeVariable, IsStandingVariable}
use Rattle.cp_resolved.specs.TreeLayouts.{call_variables, layouts_of}

-- ---- variables

-- no two have one name
abbrev pub AreDifferent : List Variable → Type 0
AreDifferent [] = Unit {0}
AreDifferent (v ∷ vs) = (look v.name vs ≡ None) × AreDifferent vs

-- variables of different names, each visible in the scope
pub record AreDeclared (m : Ty → Meaning) (s : Scope) (vs : List Variable) : Type 0 where
  pub different : AreDifferent vs
  pub visible : Each (λ v. find v.name s ≡ Some (m v.ty)) vs

-- with the parameters
abbrev pub routine_variables : RoutineMeaning → List Variable
routine_variables m = parameter_variables m.parameters ++ m.variables

abbrev pub system_variables : SystemMeaning → List Variable
system_variables m = parameter_variables m.parameters ++ m.variables

-- ---- results

abbrev pub IsOrdinal : Ty → Type 0
IsOrdinal (ordinal r) = is_bounded r ≡ true
IsOrdinal t = ⊥

abbrev pub IsOrdinalResult : Option Ty → Type 0
IsOrdinalResult None = Unit {0}
IsOrdinalResult (Some t) = IsOrdinal t

-- ---- what is wanted

pub record IsFramed (t : Tree) : Type 0 where
  -- of routine n: its parameters and variables, which have neither queues nor components, its result, and the results of the calls in it
  pub locals : (n : ℕ) → AreDeclared local_variable (meaning_at t.program n).scope (routine_variables (meaning_at t.program n))
  pub free : (n : ℕ) → Each IsFreeVariable (routine_variables (meaning_at t.program n))
  pub result : (n : ℕ) → IsOrdinalResult (meaning_at t.program n).result
  pub calls : (n : ℕ) → Each (λ v. IsOrdinal v.ty) (call_variables t.program (meaning_at t.program n).scope (all_calls_laid (meaning_at t.program n).scope (meaning_at t.program n).body))
  -- of system type k: its parameters and variables
  pub permanents : (k : ℕ) → AreDeclared permanent_variable (system_of t.program k).scope (system_variables (system_of t.program k))
  pub standing : (k : ℕ) → Each IsStandingVariable (system_variables (system_of t.program k))

-- ---- the law

-- of the system types, where no count of cells has stopped at the greatest word
abbrev pub SystemsLaw : Type 0
SystemsLaw =
    (t : Tree) (r : Tables) → plain r ≡ laid t → IsPlaced t → IsFramed t → ((k : ℕ) → (system_at r k).own < most) →
    (k : ℕ) → k ≤ program_system t.program → SystemIs (ground_of r t) t.program (layouts_of t) k
