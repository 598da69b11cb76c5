-- When the tables of a resolved program stand for a tree.
use Rattle.std.specs.Prelude.{◌≡◌, ℕ, ◌+◌, ◌*◌, ◌<◌, ◌≤◌, ◌⊎◌, ℤ, pos, Bool, true, false, List, [], ◌∷◌, ◌++◌, length, Option, Some, None, slice_index_or}
use Rattle.cp_tree.specs.declared.declaration.SystemKind.{SystemKind}
use Rattle.cp_tree.specs.declared.declaration.SystemKind.TheVariants as system_kind
use Rattle.cp_tree.specs.Syntax.{Routine, Program, Tree}
use Rattle.cp_slots.specs.declared.place.PlaceOrigin.TheVariants.{Local, Reference}
use Rattle.cp_slots.specs.declared.tables.ComponentKind.{ComponentKind}
use Rattle.cp_slots.specs.declared.tables.ComponentKind.TheVariants as kind
use Rattle.cp_slots.specs.Tables.{Tables, RoutineView, component_at, process_at, routine_at, system_at}
use Rattle.cp_meaning.specs.Names.{Name, same_name, result_name}
use Rattle.cp_meaning.specs.Types.{Ty, array_over, component_of, has_components, length_of_range}
use Rattle.cp_meaning.specs.Values.{Value}
use Rattle.cp_meaning.specs.Scopes.{local_variable, permanent_variable, routine_meaning, find, since}
use Rattle.cp_meaning.specs.Declarations.{Variable, Parameter, RoutineMeaning, routine_in}
use Rattle.cp_meaning.specs.Systems.{SystemMeaning, system_of, program_system}
use Rattle.cp_meaning.specs.Components.{step_down}
use Rattle.cp_meaning.specs.State as named
use Rattle.cp_meaning.specs.State.{book_discipline, Environment}
use Rattle.cp_meaning.specs.Places.{content_of, value_held, component_with, result_type}
use Rattle.cp_meaning.specs.Calls.{last_checks, least_of, least_result}
use Rattle.cp_meaning.specs.Readings.{monitors_of}
use Rattle.cp_meaning.specs.Steps.{parameter_variables, first_environment, opening, first_components}
use Rattle.cp_resolved.specs.Enumerations.{constant_names}
use Rattle.cp_resolved.specs.Layouts.{cells_of, FrameLayout, SystemLayout, Layouts, here, cell_named, is_named, look}
use Rattle.cp_resolved.specs.Encoded.{encode, HasType}
use Rattle.cp_resolved.specs.Stands.{Ground, BodyIs}

-- ---- cells of an image

-- these cells stand in a list from a place on
pub record StandsAt (cells : List ℤ) (at : ℕ) (block : List ℤ) : Type 0 where
  pub inside : at + length block ≤ length cells
  pub same : (k : ℕ) → k < length block → slice_index_or cells (at + k) (pos 0) ≡ slice_index_or block k (pos 0)

-- variables of different names have different cells
abbrev pub AreApart : (Name → ℕ) → List Variable → Type 0
AreApart slots vs =
    (x y : Name) (t u : Ty) → same_name x y ≡ false → look x vs ≡ Some t → look y vs ≡ Some u →
    (slots x + cells_of t ≤ slots y) ⊎ (slots y + cells_of u ≤ slots x)

-- ---- frames

-- what the variables have as a call begins, but for the parameters
abbrev pub first_values : RoutineMeaning → Environment
first_values m = least_of m.variables ++ least_result m.result

abbrev pub first_value : RoutineMeaning → Name → Value
first_value m x = value_held (content_of x (first_values m))

-- each parameter is a variable of the frame, or a `var` parameter
abbrev pub ParameterIs : FrameLayout → Bool → Parameter → Type 0
ParameterIs f true q = look q.name f.references ≡ Some q.ty
ParameterIs f false q = look q.name f.variables ≡ Some q.ty

abbrev pub ParametersAre : FrameLayout → List Parameter → Type 0
ParametersAre f [] = Unit {0}
ParametersAre f (q ∷ qs) = ParameterIs f q.is_var q × ParametersAre f qs

abbrev pub ResultIs : FrameLayout → RoutineView → Option Ty → Type 0
ResultIs f r None = Unit {0}
ResultIs f r (Some t) = (look result_name f.variables ≡ Some t) × (cell_named f result_name ≡ r.result)

pub record FrameIs (f : FrameLayout) (r : RoutineView) (m : RoutineMeaning) : Type 0 where
  -- each variable has its cells, which have its first value
  pub local : (x : Name) (t : Ty) → look x f.variables ≡ Some t → f.origins x ≡ Local (cell_named f x)
  pub cells : (x : Name) (t : Ty) → look x f.variables ≡ Some t → cell_named f x + cells_of t ≤ length r.image
  pub typed : (x : Name) (t : Ty) → look x f.variables ≡ Some t → look x (parameter_variables m.parameters) ≡ None → HasType t (first_value m x)
  pub first : (x : Name) (t : Ty) → look x f.variables ≡ Some t → look x (parameter_variables m.parameters) ≡ None → StandsAt r.image (cell_named f x) (encode (first_value m x))
  pub apart : AreApart (cell_named f) f.variables
  -- each `var` parameter has its number, and its cells are counted
  pub reference : (x : Name) (t : Ty) → look x f.references ≡ Some t → f.origins x ≡ Reference (cell_named f x)
  pub numbered : (x : Name) (t : Ty) → look x f.references ≡ Some t → (cell_named f x < r.references) × (slice_index_or r.extents (cell_named f x) 0 ≡ cells_of t)
  pub different : (x y : Name) (t u : Ty) → same_name x y ≡ false → look x f.references ≡ Some t → look y f.references ≡ Some u → cell_named f x ≡ cell_named f y → ⊥
  -- what names stand for
  pub locals : (x : Name) (t : Ty) → find x m.scope ≡ Some (local_variable t) → (look x f.variables ≡ Some t) ⊎ (look x f.references ≡ Some t)
  pub parameters : ParametersAre f m.parameters
  pub result : ResultIs f r m.result

pub record RoutineIs (g : Ground) (p : Program) (l : Layouts) (n : ℕ) : Type 0 where
  pub frame : FrameIs (l.frames n) (routine_at g.tables n) (l.meanings n)
  pub body : BodyIs g (here p l n) (l.meanings n).body (last_checks (l.meanings n).checks (l.meanings n).scope) (routine_at g.tables n).body
  pub system : (routine_at g.tables n).system ≡ l.owners n
  pub owner : l.owners n ≤ program_system p
  -- its own name, in it, has its result
  pub own : (x : Name) (y : Routine) → is_named x (l.names n) ≡ true → find x (l.meanings n).scope ≡ Some (routine_meaning y) → (routine_in (since x (l.meanings n).scope) y).result ≡ (l.meanings n).result
  pub own_result : (x : Name) → is_named x (l.names n) ≡ true → look result_name (l.frames n).variables ≡ Some (result_type (l.meanings n).result)
  -- a permanent variable is one of the system type's
  pub permanents : (x : Name) (t : Ty) → find x (l.meanings n).scope ≡ Some (permanent_variable t) → has_components t ≡ false → look x (l.systems (l.owners n)).variables ≡ Some t

-- ---- system types

-- what a variable or parameter of a component has at first
abbrev pub first_permanent : SystemMeaning → Name → Value
first_permanent s x = value_held (content_of x (first_environment s))

-- the meaning of an initial statement as that of a routine
abbrev pub initial_meaning : SystemMeaning → RoutineMeaning
initial_meaning s = record { parameters = []; variables = []; result = None; scope = s.scope; body = s.body; checks = true }

-- a parameter is a component, or has cells
abbrev pub SystemParameterIs : SystemLayout → Ty → Name → Type 0
SystemParameterIs s (component_of k) x = look x s.parts ≡ Some (component_of k)
SystemParameterIs s t x = look x s.variables ≡ Some t

abbrev pub SystemParametersAre : SystemLayout → List Parameter → Type 0
SystemParametersAre s [] = Unit {0}
SystemParametersAre s (q ∷ qs) = SystemParameterIs s q.ty q.name × SystemParametersAre s qs

pub record SystemIs (g : Ground) (p : Program) (l : Layouts) (k : ℕ) : Type 0 where
  pub initial : (l.systems k).initial < length g.tables.routines
  pub statement : l.meanings (l.systems k).initial ≡ initial_meaning (system_of p k)
  pub owner : l.owners (l.systems k).initial ≡ k
  pub cells : (x : Name) (t : Ty) → look x (l.systems k).variables ≡ Some t → (l.systems k).slots x + cells_of t ≤ (system_at g.tables k).own
  pub apart : AreApart (l.systems k).slots (l.systems k).variables
  pub typed : (x : Name) (t : Ty) → look x (l.systems k).variables ≡ Some t → HasType t (first_permanent (system_of p k) x)
  pub parameters : SystemParametersAre (l.systems k) (system_of p k).parameters

-- ---- components

-- the number of a process or monitor is its place among those of the program
abbrev pub KindIs : Tables → Program → ℕ → SystemKind → ComponentKind → Type 0
KindIs r p n system_kind.Process (kind.Process q) = (process_at r q).component ≡ n
KindIs r p n system_kind.Monitor (kind.Monitor q) = slice_index_or (monitors_of (opening p book_discipline)) q (length r.components) ≡ n
KindIs r p n system_kind.Class kind.Class = Unit {0}
KindIs r p n s k = ⊥

-- where the component of a variable, or an element of one, stands
abbrev pub ContainedAt : Layouts → (of first : ℕ) → Ty → (Option ℕ → ℕ) → Type 0
ContainedAt l of first (component_of k) number = number None ≡ of + first
ContainedAt l of first (array_over r (component_of k)) number = (j : ℕ) → j < length_of_range r → number (Some j) ≡ of + first + j * (l.systems k).count
ContainedAt l of first t number = Unit {0}

pub record ComponentIs (g : Ground) (p : Program) (l : Layouts) (n : ℕ) : Type 0 where
  pub system : (component_at g.tables n).system ≡ (named.component_at (first_components p) n).system
  pub kind : KindIs g.tables p n (named.component_at (first_components p) n).kind (component_at g.tables n).kind
  pub first : (x : Name) (t : Ty) → look x (l.systems (component_at g.tables n).system).variables ≡ Some t →
      StandsAt g.tables.permanents ((component_at g.tables n).base + (l.systems (component_at g.tables n).system).slots x) (encode (first_permanent (system_of p (component_at g.tables n).system) x))
  pub contained : (x : Name) (t : Ty) → find x (system_of p (component_at g.tables n).system).scope ≡ Some (permanent_variable t) → look x (l.systems (component_at g.tables n).system).parts ≡ None →
      ContainedAt l n ((l.systems (component_at g.tables n).system).firsts x) t (λ o. component_with (step_down (named.component_at (first_components p) n).path x o) (first_components p))

pub record ProcessIs (g : Ground) (p : Program) (l : Layouts) (q : ℕ) : Type 0 where
  pub component : (process_at g.tables q).component ≡ (named.process_at (opening p book_discipline).processes q).component
  pub routine : (process_at g.tables q).routine ≡ (l.systems (component_at g.tables (process_at g.tables q).component).system).initial

-- ---- the tables

pub record Stands (g : Ground) (t : Tree) (l : Layouts) : Type 0 where
  pub lines : g.lines ≡ t.lines
  pub routines : (n : ℕ) → n < length g.tables.routines → RoutineIs g t.program l n
  pub systems : (k : ℕ) → k ≤ program_system t.program → SystemIs g t.program l k
  pub components : (n : ℕ) → n < length g.tables.components → ComponentIs g t.program l n
  pub processes : (q : ℕ) → q < length g.tables.processes → ProcessIs g t.program l q
  -- the spellings of the constants of all enumerations
  pub names : g.tables.names ≡ constant_names t.program
  pub count : length g.tables.components ≡ length (first_components t.program)
  pub process_count : length g.tables.processes ≡ length (opening t.program book_discipline).processes
  pub monitor_count : g.tables.monitors ≡ length (monitors_of (opening t.program book_discipline))

-- the tables of the tree
abbrev pub IsResolved : Tree → Tables → (ℕ → ℕ) → Type 0
IsResolved t r firsts = (l : Layouts) × Stands (record { tables = r; lines = t.lines; firsts = firsts }) t l
