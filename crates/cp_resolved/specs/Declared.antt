-- What is wanted of a tree and its tables, besides what its names want, so that its components stand.
use Rattle.std.specs.Prelude.{◌≡◌, ℕ, ◌<◌, ◌≤◌, ◌++◌, List, Some, length}
use Rattle.cp_tree.specs.Syntax.{Program}
use Rattle.cp_symbols.specs.Kinds.{most}
use Rattle.cp_slots.specs.Tables.{Tables}
use Rattle.cp_meaning.specs.Scopes.{permanent_variable, find}
use Rattle.cp_meaning.specs.Declarations.{Variable}
use Rattle.cp_meaning.specs.Systems.{SystemMeaning, system_of}
use Rattle.cp_meaning.specs.Steps.{parameter_variables}
use Rattle.cp_resolved.specs.Small.{Each}
use Rattle.cp_resolved.specs.Standing.{IsStandingVariable}

-- the parameters of a system type and its variables
abbrev pub own_variables : SystemMeaning → List Variable
own_variables m = parameter_variables m.parameters ++ m.variables

-- where the initial statement stands, the variable's name stands for it
abbrev pub IsVisible : SystemMeaning → Variable → Type 0
IsVisible m v = find v.name m.scope ≡ Some (permanent_variable v.ty)

-- Of each system type: no variable or parameter is hidden by a later declaration in it (C2), and queues and components stand alone or in arrays.
pub record AreOwn (p : Program) : Type 0 where
  pub visible : (k : ℕ) → Each (IsVisible (system_of p k)) (own_variables (system_of p k))
  pub standing : (k : ℕ) → Each IsStandingVariable (own_variables (system_of p k))

-- no count of what is listed has stopped (C20)
pub record AreFew (t : Tables) : Type 0 where
  pub processes : length t.processes ≤ 16
  pub monitors : t.monitors ≤ 64
  pub components : length t.components < most
  pub permanents : length t.permanents < most
