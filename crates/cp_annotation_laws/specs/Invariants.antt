-- What the invariants of a component promise: where nobody is inside, they are true.
use Rattle.std.specs.Prelude.{◌≡◌, ℕ, ◌<◌, Bool, true, false, ◌||◌, List, [], ◌∷◌, ◌++◌, length, Option, Some, Ok}
use Rattle.cp_tree.specs.Read.{IsRead}
use Rattle.cp_tree.specs.Syntax.{Expression, alone, related, Sum, sum, Terms, no_terms, more_terms, Term, term, Factors, no_factors, more_factors, Factor, number, character, named, group, negated, set_of, Expressions, no_expressions, more_expressions, Designator, designator, Selectors, no_selectors, more_selectors, Selector, field, index, nameless, Statement, asserted, Statements, no_statements, more_statements, Program, Tree}
use Rattle.cp_layout.specs.Laid.{plain, laid}
use Rattle.cp_slots.specs.Tables.{Tables}
use Rattle.cp_meaning.specs.Declarations.{routine_in}
use Rattle.cp_meaning.specs.Expressions.{name_of, value}
use Rattle.cp_meaning.specs.Operations.{Typed, is_true}
use Rattle.cp_meaning.specs.Scopes.{Meaning, routine_meaning, standard_meaning, empty_function, Scope, find, since}
use Rattle.cp_meaning.specs.State.{initialised, Component, component_at, local_routine, Call, process_at, Discipline, State, is_inside}
use Rattle.cp_meaning.specs.Steps.{IsReached}
use Rattle.cp_meaning.specs.Systems.{system_of}
use Rattle.cp_meaning_laws.specs.Accepted.{IsAccepted}

-- ---- invariants without `empty`

abbrev pub is_empty_meant : Option Meaning → Bool
is_empty_meant (Some (standard_meaning empty_function)) = true
is_empty_meant m = false

-- whether `empty` is asked somewhere in an expression
abbrev mutual
  pub asks_empty : Scope → Expression → Bool
  asks_empty s (alone at a) = sum_asks s a
  asks_empty s (related at a r b) = sum_asks s a || sum_asks s b

  pub sum_asks : Scope → Sum → Bool
  sum_asks s (sum at o t ts) = term_asks s t || terms_ask s ts

  pub terms_ask : Scope → Terms → Bool
  terms_ask s no_terms = false
  terms_ask s (more_terms op t ts) = term_asks s t || terms_ask s ts

  pub term_asks : Scope → Term → Bool
  term_asks s (term at f fs) = factor_asks s f || factors_ask s fs

  pub factors_ask : Scope → Factors → Bool
  factors_ask s no_factors = false
  factors_ask s (more_factors op f fs) = factor_asks s f || factors_ask s fs

  pub factor_asks : Scope → Factor → Bool
  factor_asks s (number at n) = false
  factor_asks s (character at c) = false
  factor_asks s (named at d es) = is_empty_meant (find (name_of d) s) || (designator_asks s d || expressions_ask s es)
  factor_asks s (group at e) = asks_empty s e
  factor_asks s (negated at f) = factor_asks s f
  factor_asks s (set_of at es) = expressions_ask s es

  pub expressions_ask : Scope → Expressions → Bool
  expressions_ask s no_expressions = false
  expressions_ask s (more_expressions e es) = asks_empty s e || expressions_ask s es

  pub designator_asks : Scope → Designator → Bool
  designator_asks s (designator i ss) = selectors_ask s ss

  pub selectors_ask : Scope → Selectors → Bool
  selectors_ask s no_selectors = false
  selectors_ask s (more_selectors c cs) = selector_asks s c || selectors_ask s cs

  pub selector_asks : Scope → Selector → Bool
  selector_asks s (field i) = false
  selector_asks s (index e) = asks_empty s e

-- ---- the invariants of a block: what its routine without a name says

-- before a statement, in order of writing
abbrev pub said : Statement → List Expression
said (asserted at k e t) = e ∷ said t
said t = []

abbrev pub all_said : Statements → List Expression
all_said no_statements = []
all_said (more_statements t ts) = said t ++ all_said ts

-- the invariants, with the scope in which they stand
pub record Invariants : Type 0 where
  pub scope : Scope
  pub expressions : List Expression

-- s is the scope in which the routine is the latest
abbrev pub invariants_meant : Option Meaning → Scope → Invariants
invariants_meant (Some (routine_meaning r)) s = record { scope = (routine_in s r).scope; expressions = all_said (routine_in s r).body }
invariants_meant m s = record { scope = []; expressions = [] }

-- s is the scope of the initial statement of the block
abbrev pub invariants_in : Scope → Invariants
invariants_in s = invariants_meant (find nameless s) (since nameless s)

-- ---- where they are true

-- the routine without a name, called in component n; it has no variables
abbrev pub check_call : ℕ → Scope → Call
check_call n s = record { component = n; kind = local_routine; scope = s; environment = [] }

-- the expression is true of the variables of component n
abbrev pub IsTrueIn : Program → List Component → ℕ → Scope → Expression → Type 0
IsTrueIn p cs n s e = (x : Typed) × (value (record { program = p; calls = check_call n s ∷ []; components = cs }) e ≡ Ok x) × (is_true x ≡ true)

-- each of these that does not ask for `empty`
abbrev pub AreTrueIn : Program → List Component → ℕ → Scope → List Expression → Type 0
AreTrueIn p cs n s [] = Unit {0}
AreTrueIn p cs n s (e ∷ es) = (asks_empty s e ≡ false → IsTrueIn p cs n s e) × AreTrueIn p cs n s es

-- the invariants of the system type of component n
abbrev pub invariants_at : Program → List Component → ℕ → Invariants
invariants_at p cs n = invariants_in (system_of p (component_at cs n).system).scope

-- each invariant of component n without `empty` is true
abbrev pub InvariantsHold : Program → List Component → ℕ → Type 0
InvariantsHold p cs n = AreTrueIn p cs n (invariants_at p cs n).scope (invariants_at p cs n).expressions

-- no entry call of the component is open but of processes that are at its gate or delayed in it
abbrev pub NobodyInside : State → ℕ → Type 0
NobodyInside s n = (q : ℕ) → q < length s.processes → is_inside n (process_at s.processes q) ≡ false

-- in each reached state of a program that is read, accepted and laid out, of each initialised component that nobody is inside
abbrev pub InvariantsLaw : Type 0
InvariantsLaw =
    (t : Tree) (r : Tables) (g : Discipline) → IsRead t.program → IsAccepted t → plain r ≡ laid t → (s : State) → IsReached t.program g s → (n : ℕ) → (component_at s.components n).status ≡ initialised → NobodyInside s n →
    InvariantsHold t.program s.components n
