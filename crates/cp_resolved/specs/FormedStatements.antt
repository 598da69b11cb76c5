-- The forms of accepted statements on slots: each expression has the form that its statement wants, and names are used as the rules want it.
use Rattle.std.specs.Prelude.{◌≡◌, ℕ, true, Option, Some, None, slice_get}
use Rattle.cp_tree.specs.declared.constant.Identifier.{Identifier}
use Rattle.cp_tree.specs.Syntax.{Expression, Expressions, Designator, designator, no_selectors, Start, Routine, Statement, empty, assign, invoke, block, if_then, if_else, case_of, while_do, repeat_until, for_do, cycle, init, asserted, Statements, no_statements, more_statements, Arms, no_arms, more_arms, Arm, arm}
use Rattle.cp_slots.specs.declared.place.PlaceOrigin.{PlaceOrigin}
use Rattle.cp_slots.specs.declared.place.PlaceOrigin.TheVariants.{Local}
use Rattle.cp_symbols.specs.declared.symbols.FunctionResult.{FunctionResult}
use Rattle.cp_symbols.specs.declared.names.LayoutMeaning.TheVariants as meaning
use Rattle.cp_slots.specs.Code as code
use Rattle.cp_layout.specs.Layers as layers
use Rattle.cp_layout.specs.Layers.{Layer}
use Rattle.cp_layout.specs.LaidStatements.{initial_of}
use Rattle.cp_meaning.specs.Names.{Name, result_name}
use Rattle.cp_meaning.specs.Types.{Range, Ty, ordinal, queue_type}
use Rattle.cp_meaning.specs.Scopes.{Meaning, routine_meaning, standard_meaning, Standard, delay_procedure, continue_procedure, display_procedure, find}
use Rattle.cp_meaning.specs.Systems.{system_of}
use Rattle.cp_meaning.specs.Lifting.{last_field}
use Rattle.cp_meaning.specs.Places.{result_type}
use Rattle.cp_meaning.specs.Expressions.{name_of}
use Rattle.cp_resolved.specs.Layouts.{Here, frame_here, is_own}
use Rattle.cp_resolved.specs.Compiled.{as_place, Formed, Designated, a_variable, a_component, begun_form, expression_form, designator_form}
use Rattle.cp_resolved.specs.FormedParts.{IsMoved, CanGiveAll, CallFormed, ParametersAre, parameters_in}
use Rattle.cp_resolved.specs.InStep.{Numbering, TypeIs}
use Rattle.cp_resolved.specs.Small.{Each, IsSmallConstant}
use Rattle.cp_resolved.specs.Stands.{IsOrdinal, IsTest, selectors_in, AssignedBy, first_of}
use Rattle.cp_resolved.specs.Used.{IsBare, HasResult, AreEntry, IsOne, IsUsed, AreUsed, SelectorsUsed}

-- ---- expressions

pub record TestFormed (h : Here) (e : Expression) : Type 0 where
  pub cell : code.OrdinalExpression
  pub test : IsTest h e cell
  pub used : IsUsed h e

pub record OrdinalFormed (h : Here) (e : Expression) : Type 0 where
  pub ty : Ty
  pub cell : code.OrdinalExpression
  pub formed : IsOrdinal h e ty cell
  pub used : IsUsed h e

-- ---- assignments

-- a function's own result is assigned by its name alone
abbrev pub IsTarget : Here → Option Meaning → Designator → Type 0
IsTarget h (Some (routine_meaning r)) d = IsBare d × HasResult (h.layouts.meanings h.routine).result
IsTarget h m d = Unit {0}

pub record AssignFormed (h : Here) (d : Designator) (e : Expression) : Type 0 where
  pub place : code.Place
  pub ty : Ty
  pub value : Formed
  pub act : code.Action
  pub target : designator_form h d ≡ Some (a_variable place ty)
  pub formed : expression_form h e ≡ Some value
  pub assigned : AssignedBy ty place value.ty value.form act
  pub moved : IsMoved ty
  pub named : IsTarget h (find (name_of d) h.scope) d
  pub chosen : SelectorsUsed h (selectors_in d)
  pub used : IsUsed h e

-- what is laid out of a function's own result
pub record OwnResult (k : Numbering) (h : Here) (l : Layer) (x : Name) : Type 0 where
  pub number : ℕ
  pub there : layers.find x l.names ≡ Some (meaning.Routine number)
  pub own : layers.is_own l number ≡ true
  pub result : FunctionResult
  pub held : layers.result_of l number ≡ Some result
  pub cell : (frame_here h).origins result_name ≡ Local result.slot
  pub belongs : TypeIs k l.types (result_type (h.layouts.meanings h.routine).result) result.value_type

abbrev pub KnowsResult : Numbering → Here → Layer → Type 0
KnowsResult k h l =
    (x : Name) (r : Routine) → is_own h x ≡ true → find x h.scope ≡ Some (routine_meaning r) → HasResult (h.layouts.meanings h.routine).result → OwnResult k h l x

-- ---- calls

pub record QueueFormed (h : Here) (e : Expression) : Type 0 where
  pub place : code.Place
  pub formed : expression_form h e ≡ Some (record { ty = queue_type; form = as_place place })
  pub used : IsUsed h e

pub record DisplayFormed (h : Here) (e : Expression) : Type 0 where
  pub range : Range
  pub cell : code.OrdinalExpression
  pub formed : IsOrdinal h e (ordinal range) cell
  pub used : IsUsed h e

abbrev pub PerformFormed : Here → Standard → Option Expression → Type 0
PerformFormed h display_procedure (Some e) = DisplayFormed h e
PerformFormed h delay_procedure (Some e) = QueueFormed h e
PerformFormed h continue_procedure (Some e) = QueueFormed h e
PerformFormed h s o = ⊥

-- an entry of a component
pub record EntryFormed (h : Here) (d : Designator) (es : Expressions) : Type 0 where
  pub entry : AreEntry (selectors_in d)
  pub chosen : SelectorsUsed h (selectors_in d)
  pub part : Designated
  pub formed : designator_form h d ≡ Some part
  pub used : AreUsed h es
  pub call : CallFormed h d es

abbrev pub InvokeFormed : Here → Option Meaning → Designator → Expressions → Type 0
InvokeFormed h (Some (standard_meaning s)) d es = IsBare d × IsOne es × PerformFormed h s (first_of es)
InvokeFormed h (Some (routine_meaning r)) d es = IsBare d × AreUsed h es × CallFormed h d es
InvokeFormed h m d es = EntryFormed h d es

-- ---- statements

abbrev pub IsNotRoutine : Option Meaning → Type 0
IsNotRoutine (Some (routine_meaning r)) = ⊥
IsNotRoutine m = Unit {0}

pub record ForFormed (h : Here) (i : Identifier) (e f : Expression) : Type 0 where
  pub origin : PlaceOrigin
  pub range : Range
  pub variable : begun_form h i.name (find i.name h.scope) ≡ Some (a_variable (code.place origin 0 code.no_indices) (ordinal range))
  pub named : IsTarget h (find i.name h.scope) (designator i no_selectors)
  pub first : OrdinalFormed h e
  pub last : OrdinalFormed h f

-- ---- starts

pub record StartFormed (h : Here) (t : Start) : Type 0 where
  pub part : code.ComponentPlace
  pub system : ℕ
  pub target : designator_form h t.target ≡ Some (a_component part system)
  pub named : IsNotRoutine (find (name_of t.target) h.scope)
  pub whole : last_field (selectors_in t.target) ≡ None
  pub chosen : SelectorsUsed h (selectors_in t.target)
  pub used : AreUsed h t.arguments
  pub arguments : CanGiveAll h (system_of h.program system).parameters t.arguments

-- what is laid out of the initial statement of a component's system type: its number, and in its heading the parameters of the system type
pub record StartIs (k : Numbering) (h : Here) (l : Layer) (n : ℕ) : Type 0 where
  pub initial : initial_of l n ≡ (h.layouts.systems n).initial
  pub parameters : ParametersAre k l.types (h.layouts.systems n).slots (system_of h.program n).parameters (parameters_in (slice_get l.headings (initial_of l n)))

abbrev pub KnowsStarts : Numbering → Here → Layer → Type 0
KnowsStarts k h l = (d : Designator) (c : code.ComponentPlace) (n : ℕ) → designator_form h d ≡ Some (a_component c n) → StartIs k h l n

abbrev mutual
  pub StatementFormed : Here → Statement → Type 0
  StatementFormed h (empty at) = Unit {0}
  StatementFormed h (assign at d e) = AssignFormed h d e
  StatementFormed h (invoke at d es) = InvokeFormed h (find (name_of d) h.scope) d es
  StatementFormed h (block at ss) = AllFormed h ss
  StatementFormed h (if_then at e t) = TestFormed h e × StatementFormed h t
  StatementFormed h (if_else at e t u) = TestFormed h e × StatementFormed h t × StatementFormed h u
  StatementFormed h (case_of at e as' b) = OrdinalFormed h e × ArmsFormed h as'
  StatementFormed h (while_do at e t) = TestFormed h e × StatementFormed h t
  StatementFormed h (repeat_until at ss e) = AllFormed h ss × TestFormed h e
  StatementFormed h (for_do at i e d f t) = ForFormed h i e f × StatementFormed h t
  StatementFormed h (cycle at ss) = AllFormed h ss
  StatementFormed h (init at ts) = Each (StartFormed h) ts
  StatementFormed h (asserted at k e t) = TestFormed h e × StatementFormed h t

  pub AllFormed : Here → Statements → Type 0
  AllFormed h no_statements = Unit {0}
  AllFormed h (more_statements t ts) = StatementFormed h t × AllFormed h ts

  pub ArmsFormed : Here → Arms → Type 0
  ArmsFormed h no_arms = Unit {0}
  ArmsFormed h (more_arms a as') = ArmFormed h a × ArmsFormed h as'

  pub ArmFormed : Here → Arm → Type 0
  ArmFormed h (arm cs t) = Each (λ c. IsSmallConstant c.kind) cs × StatementFormed h t
