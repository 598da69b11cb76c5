-- How an accepted program uses names in expressions, and what is known of its calls where a statement stands.
use Rattle.std.specs.Prelude.{◌≡◌, ℕ, suc, Bool, true, false, List, [], ◌∷◌, Option, Some, None}
use Rattle.cp_tree.specs.Syntax.{Expression, alone, related, Sum, sum, Terms, no_terms, more_terms, Term, term, Factors, no_factors, more_factors, Factor, number, character, named, group, negated, set_of, Expressions, no_expressions, more_expressions, Designator, designator, Selectors, no_selectors, more_selectors, Selector, field, index}
use Rattle.cp_slots.specs.declared.place.PlaceOrigin.TheVariants.{Local}
use Rattle.cp_symbols.specs.declared.symbols.FunctionResult.{FunctionResult}
use Rattle.cp_symbols.specs.declared.names.LayoutMeaning.TheVariants as meaning
use Rattle.cp_symbols.specs.Kinds.{Compounds}
use Rattle.cp_layout.specs.Layers as layers
use Rattle.cp_layout.specs.Layers.{Layer, result_of}
use Rattle.cp_layout.specs.LaidExpressions.{entry_of}
use Rattle.cp_meaning.specs.Names.{Name, temporary}
use Rattle.cp_meaning.specs.Types.{Ty, array_over, component_of}
use Rattle.cp_meaning.specs.Scopes.{Meaning, constant_meaning, permanent_variable, routine_meaning, standard_meaning, find}
use Rattle.cp_meaning.specs.Declarations.{RoutineMeaning}
use Rattle.cp_meaning.specs.State.{Item, function_call}
use Rattle.cp_meaning.specs.Lifting.{is_call}
use Rattle.cp_meaning.specs.Expressions.{name_of, routine_called, routine_of_type}
use Rattle.cp_resolved.specs.Layouts.{Here, frame_here}
use Rattle.cp_resolved.specs.Compiled.{Formed, Designated, expression_form, designator_form}
use Rattle.cp_resolved.specs.InStep.{Numbering, TypeIs}

-- ---- cells of calls

-- the temporary names of function calls, in their order, have one cell after the other, from a cell on
abbrev pub AreNext : Here → ℕ → List Item → Type 0
AreNext h n [] = Unit {0}
AreNext h n (function_call at d es ∷ is) = ((frame_here h).origins (temporary at) ≡ Local n) × AreNext h (suc n) is
AreNext h n (i ∷ is) = ⊥

-- ---- names in expressions

abbrev pub IsBare : Designator → Type 0
IsBare (designator i no_selectors) = Unit {0}
IsBare (designator i (more_selectors s ss)) = ⊥

-- indices, and then the name of an entry
abbrev pub AreEntry : Selectors → Type 0
AreEntry no_selectors = ⊥
AreEntry (more_selectors (field i) no_selectors) = Unit {0}
AreEntry (more_selectors (field i) (more_selectors s ss)) = ⊥
AreEntry (more_selectors (index e) ss) = AreEntry ss

abbrev pub IsEntryName : Designator → Type 0
IsEntryName (designator i ss) = AreEntry ss

abbrev pub AreNone : Expressions → Type 0
AreNone no_expressions = Unit {0}
AreNone (more_expressions e es) = ⊥

abbrev pub IsOne : Expressions → Type 0
IsOne no_expressions = ⊥
IsOne (more_expressions e es) = AreNone es

abbrev pub HasResult : Option Ty → Type 0
HasResult None = ⊥
HasResult (Some t) = Unit {0}

abbrev pub IsFunction : Option RoutineMeaning → Type 0
IsFunction None = ⊥
IsFunction (Some r) = HasResult r.result

-- each has a form
abbrev pub AreFormed : Here → Expressions → Type 0
AreFormed h no_expressions = Unit {0}
AreFormed h (more_expressions e es) = ((f : Formed) × (expression_form h e ≡ Some f)) × AreFormed h es

-- A call is of a function, by its name or as an entry of a component. A standard function has one argument. Nothing else has any.
abbrev pub UsedAs : Here → Designator → Expressions → Bool → Option Meaning → Type 0
UsedAs h d es true (Some (routine_meaning r)) = IsBare d × IsFunction (routine_called h.program h.scope d) × AreFormed h es
UsedAs h d es true m = IsEntryName d × IsFunction (routine_called h.program h.scope d) × AreFormed h es × ((q : Designated) × (designator_form h d ≡ Some q))
UsedAs h d es false (Some (constant_meaning b z)) = IsBare d × AreNone es
UsedAs h d es false (Some (standard_meaning s)) = IsBare d × IsOne es
UsedAs h d es false m = AreNone es

abbrev mutual
  pub IsUsed : Here → Expression → Type 0
  IsUsed h (alone at a) = SumUsed h a
  IsUsed h (related at a r b) = SumUsed h a × SumUsed h b

  pub SumUsed : Here → Sum → Type 0
  SumUsed h (sum at o t ts) = TermUsed h t × TermsUsed h ts

  pub TermsUsed : Here → Terms → Type 0
  TermsUsed h no_terms = Unit {0}
  TermsUsed h (more_terms op t ts) = TermUsed h t × TermsUsed h ts

  pub TermUsed : Here → Term → Type 0
  TermUsed h (term at f fs) = FactorUsed h f × FactorsUsed h fs

  pub FactorsUsed : Here → Factors → Type 0
  FactorsUsed h no_factors = Unit {0}
  FactorsUsed h (more_factors op f fs) = FactorUsed h f × FactorsUsed h fs

  pub FactorUsed : Here → Factor → Type 0
  FactorUsed h (number at n) = Unit {0}
  FactorUsed h (character at c) = Unit {0}
  FactorUsed h (named at d es) = DesignatorUsed h d × AreUsed h es × UsedAs h d es (is_call h.scope d) (find (name_of d) h.scope)
  FactorUsed h (group at e) = IsUsed h e
  FactorUsed h (negated at f) = FactorUsed h f
  FactorUsed h (set_of at es) = AreUsed h es

  pub AreUsed : Here → Expressions → Type 0
  AreUsed h no_expressions = Unit {0}
  AreUsed h (more_expressions e es) = IsUsed h e × AreUsed h es

  pub DesignatorUsed : Here → Designator → Type 0
  DesignatorUsed h (designator i ss) = SelectorsUsed h ss

  pub SelectorsUsed : Here → Selectors → Type 0
  SelectorsUsed h no_selectors = Unit {0}
  SelectorsUsed h (more_selectors s ss) = SelectorUsed h s × SelectorsUsed h ss

  pub SelectorUsed : Here → Selector → Type 0
  SelectorUsed h (field i) = Unit {0}
  SelectorUsed h (index e) = IsUsed h e

-- ---- what is laid out of the routines that calls name

abbrev pub ResultsAre : Numbering → Compounds → Option Ty → Option FunctionResult → Type 0
ResultsAre k ts None None = Unit {0}
ResultsAre k ts (Some t) (Some r) = TypeIs k ts t r.value_type
ResultsAre k ts None (Some r) = ⊥
ResultsAre k ts (Some t) None = ⊥

-- the system type of a component, or of those of an array
abbrev pub system_type : Ty → ℕ
system_type (component_of n) = n
system_type (array_over r (component_of n)) = n
system_type t = 0

pub record EntryIs (k : Numbering) (l : Layer) (n : ℕ) (x : Name) (r : RoutineMeaning) : Type 0 where
  pub number : ℕ
  pub there : entry_of l n x ≡ Some number
  pub result : ResultsAre k l.types r.result (result_of l number)

pub record KnowsCalls (k : Numbering) (h : Here) (l : Layer) : Type 0 where
  -- a routine that is visible has its result
  pub own : (x : Name) (n : ℕ) → layers.find x l.names ≡ Some (meaning.Routine n) → ResultsAre k l.types (k.routines n).result (result_of l n)
  -- each routine of a component is among the entries of its system type
  pub entry : (x y : Name) (t : Ty) (r : RoutineMeaning) → find x h.scope ≡ Some (permanent_variable t) → routine_of_type h.program t y ≡ Some r → EntryIs k l (system_type t) y r
