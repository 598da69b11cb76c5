-- What the rules of the language say of calls, `delay` and `continue` in the bodies of all routines, and what that says of open calls.
use Rattle.std.specs.Prelude.{◌≡◌, ℕ, Bool, true, false, List, [], ◌∷◌, Option, Some, None}
use Rattle.cp_tree.specs.Syntax.{Expressions, Designator, invoke, Program, Statements}
use Rattle.cp_meaning.specs.Declarations.{RoutineMeaning}
use Rattle.cp_meaning.specs.Expressions.{name_of, routine_called}
use Rattle.cp_meaning.specs.Lifting.{has_invariants}
use Rattle.cp_meaning.specs.Scopes.{Meaning, standard_meaning, routine_meaning, delay_procedure, continue_procedure, Scope, find}
use Rattle.cp_meaning.specs.State.{component_at, CallKind, own_statement, initial_statement, local_routine, entry_routine, Call, Item, function_call, return, init_end, end}
use Rattle.cp_meaning.specs.Steps.{first_components}
use Rattle.cp_meaning.specs.Systems.{system_of}
use Rattle.cp_resolved.specs.Layouts.{Layouts}
use Rattle.cp_resolved.specs.Resolved.{initial_meaning}
use Rattle.cp_machine_laws.specs.Bodies.{IsWithin, check_name, ItemStands}

-- ---- routines

-- Of routines and initial statements by their numbers: whether one is an entry, and whether it is quiet, so that neither it nor a routine of its own component
-- that it calls has a `delay`.
pub record Traits : Type 0 where
  pub entry : ℕ → Bool
  pub quiet : ℕ → Bool

abbrev pub scope_of : Layouts → ℕ → Scope
scope_of l n = (l.meanings n).scope

abbrev pub body_of : Layouts → ℕ → Statements
body_of l n = (l.meanings n).body

-- a routine of the component itself is no entry, and quiet where the caller is; of another component an entry is called
abbrev pub CalledAs : Traits → (caller callee : ℕ) → Option Meaning → Type 0
CalledAs f n k (Some (routine_meaning y)) = (f.entry k ≡ false) × (f.quiet n ≡ true → f.quiet k ≡ true)
CalledAs f n k w = f.entry k ≡ true

pub record Callee (l : Layouts) (f : Traits) (n : ℕ) (d : Designator) (r : RoutineMeaning) : Type 0 where
  pub number : ℕ
  pub same : r ≡ l.meanings number
  pub called : CalledAs f n number (find (name_of d) (scope_of l n))

-- the initial statement of a component
pub record Initial (p : Program) (l : Layouts) (f : Traits) (d : ℕ) : Type 0 where
  pub number : ℕ
  pub same : l.meanings number ≡ initial_meaning (system_of p (component_at (first_components p) d).system)
  pub entry : f.entry number ≡ false
  -- nobody could come into a monitor that waits in its initial statement, and only routines of monitors wait
  pub quiet : f.quiet number ≡ true

pub record RoutinesKnown (p : Program) (l : Layouts) (f : Traits) : Type 0 where
  pub functions : (n at : ℕ) (d : Designator) (es : Expressions) (r : RoutineMeaning) → ItemStands (scope_of l n) (body_of l n) (function_call at d es) → routine_called p (scope_of l n) d ≡ Some r → Callee l f n d r × (r.result ≡ None → ⊥)
  pub procedures : (n at : ℕ) (d : Designator) (es : Expressions) (r : RoutineMeaning) → IsWithin (body_of l n) (invoke at d es) → routine_called p (scope_of l n) d ≡ Some r → Callee l f n d r
  -- what a check calls
  pub checks : (n at : ℕ) (r : RoutineMeaning) → has_invariants (scope_of l n) ≡ true → routine_called p (scope_of l n) (check_name at) ≡ Some r → Callee l f n (check_name at) r
  pub initials : (d : ℕ) → Initial p l f d
  -- `delay` is in no quiet routine, and `continue` in an entry procedure
  pub delays : (n at : ℕ) (d : Designator) (es : Expressions) → IsWithin (body_of l n) (invoke at d es) → find (name_of d) (scope_of l n) ≡ Some (standard_meaning delay_procedure) → f.quiet n ≡ false
  pub continues : (n at : ℕ) (d : Designator) (es : Expressions) → IsWithin (body_of l n) (invoke at d es) → find (name_of d) (scope_of l n) ≡ Some (standard_meaning continue_procedure) → (f.entry n ≡ true) × ((l.meanings n).result ≡ None)

-- ---- open calls

-- what is executed, by the kind of the call
abbrev pub KindFits : Traits → CallKind → ℕ → Type 0
KindFits f own_statement n = (f.entry n ≡ false) × (f.quiet n ≡ true)
KindFits f initial_statement n = (f.entry n ≡ false) × (f.quiet n ≡ true)
KindFits f local_routine n = f.entry n ≡ false
KindFits f entry_routine n = f.entry n ≡ true

-- a routine of the component itself is quiet where its caller is
abbrev pub QuietAbove : Traits → CallKind → ℕ → List ℕ → Type 0
QuietAbove f local_routine n (k ∷ ns) = f.quiet k ≡ true → f.quiet n ≡ true
QuietAbove f c n ns = Unit {0}

-- the call executes the routine of the number
pub record CallFits (l : Layouts) (f : Traits) (c : Call) (n : ℕ) : Type 0 where
  pub scope : c.scope ≡ scope_of l n
  pub kind : KindFits f c.kind n

abbrev pub CallsFit : Layouts → Traits → List Call → List ℕ → Type 0
CallsFit l f [] [] = Unit {0}
CallsFit l f (c ∷ cs) (n ∷ ns) = CallFits l f c n × QuietAbove f c.kind n ns × CallsFit l f cs ns
CallsFit l f cs ns = ⊥

-- what is still to be done stands in the bodies of the open calls' routines, and no procedure gives a result
abbrev pub ItemsFit : Layouts → List ℕ → List Item → Type 0
ItemsFit l ns [] = Unit {0}
ItemsFit l [] (i ∷ items) = ⊥
ItemsFit l (n ∷ ns) (return o ∷ items) = ((l.meanings n).result ≡ None → o ≡ None) × ItemsFit l ns items
ItemsFit l (n ∷ ns) (init_end m ∷ items) = ItemsFit l ns items
ItemsFit l (n ∷ ns) (end ∷ items) = ItemsFit l (n ∷ ns) items
ItemsFit l (n ∷ ns) (i ∷ items) = ItemStands (scope_of l n) (body_of l n) i × ItemsFit l (n ∷ ns) items

-- the numbers of the open calls' routines
pub record StandsInBodies (l : Layouts) (f : Traits) (calls : List Call) (items : List Item) : Type 0 where
  pub numbers : List ℕ
  pub executes : CallsFit l f calls numbers
  pub remains : ItemsFit l numbers items
