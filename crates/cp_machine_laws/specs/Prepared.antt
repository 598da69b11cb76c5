-- What is asked of a program, its tables and its layouts, so that each step on slots stands for one on names.
use Rattle.std.specs.Prelude.{◌≡◌, ℕ, ◌<◌, ◌≤◌, true, false, length, Some, None}
use Rattle.cp_tree.specs.declared.declaration.SystemKind.TheVariants.{Process}
use Rattle.cp_tree.specs.Syntax.{Tree}
use Rattle.cp_slots.specs.Fits.{IsSound}
use Rattle.cp_slots.specs.Tables.{Tables, component_at, system_at}
use Rattle.cp_meaning.specs.Names.{Name, same_name}
use Rattle.cp_meaning.specs.Types.{Range, Ty, ordinal}
use Rattle.cp_meaning.specs.Lifting.{has_invariants}
use Rattle.cp_meaning.specs.Places.{content_of}
use Rattle.cp_meaning.specs.Scopes.{find}
use Rattle.cp_meaning.specs.Steps.{parameter_variables, first_environment}
use Rattle.cp_meaning.specs.Systems.{system_of, program_system}
use Rattle.cp_resolved.specs.Layouts.{Layouts, look}
use Rattle.cp_resolved.specs.Standing.{is_free, is_standing, IsFit, IsFreeResult}
use Rattle.cp_resolved.specs.Resolved.{Stands}
use Rattle.cp_machine_laws.specs.ComponentNames.{NamesKnown}
use Rattle.cp_machine_laws.specs.Law.{ground_of}
use Rattle.cp_machine_laws.specs.Parameters.{AreDifferent, HaveValues, HaveTypes}

-- Of a routine or an initial statement: the types that names have where its statements stand, and what its parameters are.
pub record RoutineKnown (t : Tree) (l : Layouts) (n : ℕ) : Type 0 where
  pub fit : (x : Name) → IsFit (find x (l.meanings n).scope)
  pub result : IsFreeResult (l.meanings n).result
  pub parameters : HaveValues (l.meanings n).parameters
  pub different : AreDifferent (l.meanings n).parameters
  -- each `var` parameter of the frame is one of the parameters
  pub closed : (x : Name) (u : Ty) → look x (l.frames n).references ≡ Some u → look x (parameter_variables (l.meanings n).parameters) ≡ Some u
  pub components : NamesKnown t.program l n (l.owners n)

-- what layouts of system types are beside what `Stands` says
pub record SystemsLaid (t : Tree) (r : Tables) (l : Layouts) : Type 0 where
  pub standing : (k : ℕ) (x : Name) (u : Ty) → look x (l.systems k).variables ≡ Some u → is_standing u ≡ true
  -- a parameter that is a component lies in the cells of the type
  pub parts : (k : ℕ) (x : Name) (u : Ty) → k ≤ program_system t.program → look x (l.systems k).parts ≡ Some u → (l.systems k).slots x < (system_at r k).own
  -- a name is a variable, or a parameter that is a component; and these parameters have different slots
  pub apart : (k : ℕ) (x w : Name) (v u : Ty) → look x (l.systems k).parts ≡ Some v → look w (l.systems k).variables ≡ Some u → same_name x w ≡ false
  pub parts_apart : (k : ℕ) (x y : Name) (u v : Ty) → same_name x y ≡ false → look x (l.systems k).parts ≡ Some u → look y (l.systems k).parts ≡ Some v → (l.systems k).slots x ≡ (l.systems k).slots y → ⊥
  -- a name of which the layout says nothing has no content at first
  pub silent : (k : ℕ) (x : Name) → k ≤ program_system t.program → look x (l.systems k).variables ≡ None → look x (l.systems k).parts ≡ None → content_of x (first_environment (system_of t.program k)) ≡ None
  -- parameters: those that are components are parameters of the type, and no parameter is or has a queue
  pub different : (k : ℕ) → AreDifferent (system_of t.program k).parameters
  pub typed : (k : ℕ) → HaveTypes (system_of t.program k).parameters
  pub closed : (k : ℕ) (x : Name) (u : Ty) → look x (l.systems k).parts ≡ Some u → look x (parameter_variables (system_of t.program k).parameters) ≡ Some u
  pub free : (k : ℕ) (x : Name) (u v : Ty) → look x (parameter_variables (system_of t.program k).parameters) ≡ Some v → look x (l.systems k).variables ≡ Some u → is_free u ≡ true

-- what the rules of the language, and how programs are laid out, say of the routines and the system types of a program
pub record ProgramKnown (t : Tree) (r : Tables) (l : Layouts) : Type 0 where
  -- each component is of one of the system types
  pub below : (n : ℕ) → n < length r.components → (component_at r n).system ≤ program_system t.program
  pub routines : (n : ℕ) → n < length r.routines → RoutineKnown t l n
  -- results are ordinals
  pub results : (n : ℕ) (u : Ty) → (l.meanings n).result ≡ Some u → (q : Range) × (u ≡ ordinal q)
  -- a process has no invariants
  pub unsaid : (k : ℕ) → (system_of t.program k).kind ≡ Process → has_invariants (system_of t.program k).scope ≡ false
  pub systems : SystemsLaid t r l

-- tables that stand for a tree and are sound, of a program of which this is known
pub record Prepared (t : Tree) (r : Tables) (l : Layouts) : Type 0 where
  pub stands : Stands (ground_of t r) t l
  pub sound : IsSound r
  pub program : ProgramKnown t r l
