-- When the lists of items of a resolved program stand for the statements of the tree.
-- Nothing here says in which order items are numbered, and all of it is kept when items are appended.
use Rattle.std.specs.Prelude.{◌≡◌, ℕ, ◌<◌, ℤ, Bool, true, false, List, [], ◌∷◌, ◌++◌, length, map, Option, Some, None, slice_index}
use Rattle.cp_tree.specs.declared.constant.Constant.{Constant}
use Rattle.cp_tree.specs.declared.constant.Identifier.{Identifier}
use Rattle.cp_tree.specs.declared.statement.AssertionKind.{AssertionKind}
use Rattle.cp_tree.specs.declared.statement.AssertionKind.TheVariants as kinds
use Rattle.cp_tree.specs.declared.statement.Direction.{Direction}
use Rattle.cp_tree.specs.declared.statement.Direction.TheVariants.{To, Downto}
use Rattle.cp_tree.specs.Syntax.{Expression, Expressions, no_expressions, more_expressions, Designator, designator, Selectors, Start, Statement, empty, assign, invoke, block, if_then, if_else, case_of, while_do, repeat_until, for_do, cycle, init, asserted, Statements, no_statements, more_statements, Arms, no_arms, more_arms, Arm, arm}
use Rattle.cp_slots.specs.declared.item.Said.{Said}
use Rattle.cp_slots.specs.declared.item.Said.TheVariants as said
use Rattle.cp_slots.specs.declared.item.ShownKind.{ShownKind}
use Rattle.cp_slots.specs.declared.item.ShownKind.TheVariants as kind
use Rattle.cp_slots.specs.declared.place.PlaceOrigin.{PlaceOrigin}
use Rattle.cp_slots.specs.Tables.{Tables, item_at}
use Rattle.cp_meaning.specs.Names.{Name, temporary}
use Rattle.cp_meaning.specs.Types.{Base, integers, booleans, characters, enumerated, Range, Ty, ordinal, queue_type, set_over, array_over, record_with, component_of, natural_of}
use Rattle.cp_meaning.specs.Scopes.{Meaning, routine_meaning, standard_meaning, Standard, delay_procedure, continue_procedure, display_procedure, Scope, find}
use Rattle.cp_meaning.specs.Declarations.{Parameter, RoutineMeaning, constant_of}
use Rattle.cp_meaning.specs.Systems.{system_of}
use Rattle.cp_meaning.specs.State.{Item, statement_item, function_call}
use Rattle.cp_meaning.specs.Steps.{at_expression, at_designator}
use Rattle.cp_meaning.specs.Expressions.{name_of, routine_called}
use Rattle.cp_meaning.specs.Lifting.{expression_calls, expressions_calls, designator_calls, checks_before}
use Rattle.cp_slots.specs.Code as code
use Rattle.cp_resolved.specs.Layouts.{cells_of, Here, frame_here, cell_named, look}
use Rattle.cp_resolved.specs.Compiled.{Form, as_ordinal, as_set, as_place, as_component, Formed, place_form, a_variable, a_component, begun_form, expression_form, designator_form, is_boolean}

-- the tables, the layouts, and the line of each token
pub record Ground : Type 0 where
  pub tables : Tables
  pub lines : List ℕ
  -- how many constants of enumerations are declared before the token of one
  pub firsts : ℕ → ℕ

-- ---- expressions

-- an ordinal of a type
abbrev pub IsOrdinal : Here → Expression → Ty → code.OrdinalExpression → Type 0
IsOrdinal h e t c = expression_form h e ≡ Some (record { ty = t; form = as_ordinal c })

-- a truth value
pub record IsTest (h : Here) (e : Expression) (c : code.OrdinalExpression) : Type 0 where
  pub ty : Ty
  pub cell : IsOrdinal h e ty c
  pub truth : is_boolean ty ≡ true

-- ---- arguments

-- what is handed over to a value parameter of a type
abbrev pub ValueGiven : Ty → Ty → Form → code.ArgumentValue → Type 0
ValueGiven (ordinal r) t (as_ordinal c) g = g ≡ code.scalar c r.low r.high
ValueGiven (set_over r) t (as_set b) g = g ≡ code.set b (natural_of r.low) (natural_of r.high)
ValueGiven (component_of k) t (as_component c) g = (t ≡ component_of k) × (g ≡ code.component_of c)
ValueGiven (array_over r u) t (as_place p) g = (t ≡ array_over r u) × (g ≡ code.copy p (cells_of t))
ValueGiven (record_with ts) t (as_place p) g = (t ≡ record_with ts) × (g ≡ code.copy p (cells_of t))
ValueGiven u t f g = ⊥

-- a place for a `var` parameter, which has the very type
abbrev pub PlaceGiven : Ty → Ty → Option code.Place → code.ArgumentValue → Type 0
PlaceGiven u t (Some p) g = (t ≡ u) × (g ≡ code.reference p)
PlaceGiven u t None g = ⊥

abbrev pub GivenBy : Bool → Ty → Formed → code.ArgumentValue → Type 0
GivenBy true u x g = PlaceGiven u x.ty (place_form x.form) g
GivenBy false u x g = ValueGiven u x.ty x.form g

pub record IsGiven (h : Here) (q : Parameter) (e : Expression) (g : code.ArgumentValue) : Type 0 where
  pub form : Formed
  pub formed : expression_form h e ≡ Some form
  pub given : GivenBy q.is_var q.ty form g

-- by the slot of each parameter, the arguments are those of the parameters in their order
abbrev pub AreGiven : Here → (Name → ℕ) → List Parameter → Expressions → List code.Argument → Type 0
AreGiven h slots [] no_expressions [] = Unit {0}
AreGiven h slots (q ∷ qs) (more_expressions e es) (x ∷ xs) = (x.slot ≡ slots q.name) × IsGiven h q e x.value × AreGiven h slots qs es xs
AreGiven h slots qs es xs = ⊥

-- ---- calls: the component, the routine's number and the arguments

abbrev pub selectors_in : Designator → Selectors
selectors_in (designator i ss) = ss

-- a routine of the component itself, or an entry of another one
abbrev pub CalleeIs : Here → Designator → Option Meaning → code.ComponentPlace → Bool → ℕ → Type 0
CalleeIs h d (Some (routine_meaning r)) part is_entry number = (part ≡ code.own) × (is_entry ≡ false) × (h.layouts.owners number ≡ h.system)
CalleeIs h d m part is_entry number =
    (designator_form h d ≡ Some (a_component part (h.layouts.owners number))) × (is_entry ≡ true)

-- what a call is on slots
pub record IsCalled (h : Here) (d : Designator) (es : Expressions) (number : ℕ) (part : code.ComponentPlace) (is_entry : Bool) (xs : List code.Argument) : Type 0 where
  pub routine : RoutineMeaning
  pub called : routine_called h.program h.scope d ≡ Some routine
  pub same : routine ≡ h.layouts.meanings number
  pub callee : CalleeIs h d (find (name_of d) h.scope) part is_entry number
  pub given : AreGiven h (cell_named (h.layouts.frames number)) routine.parameters es xs

-- ---- items

-- the item of this number does this, is followed by that one, and has the line of a token
pub record ItemAt (g : Ground) (n at : ℕ) (next : Option ℕ) (a : code.Action) : Type 0 where
  pub place : n < length g.tables.items
  pub action : code.action_seen (item_at g.tables n).action ≡ a
  pub follows : (item_at g.tables n).next ≡ next
  pub line : (item_at g.tables n).line ≡ slice_index g.lines at

-- a function's result goes to a cell of the frame that is one of that type
abbrev pub ResultGoes : Here → Option Name → Option Ty → Type 0
ResultGoes h None o = Unit {0}
ResultGoes h (Some x) None = ⊥
ResultGoes h (Some x) (Some t) = look x (frame_here h).variables ≡ Some t

abbrev pub result_cell : Here → Option Name → Option ℕ
result_cell h None = None
result_cell h (Some x) = Some (cell_named (frame_here h) x)

-- a call; a function's result goes to a name
pub record CallItem (g : Ground) (h : Here) (n at : ℕ) (d : Designator) (es : Expressions) (result : Option Name) (next : Option ℕ) : Type 0 where
  pub number : ℕ
  pub part : code.ComponentPlace
  pub is_entry : Bool
  pub arguments : List code.Argument
  pub called : IsCalled h d es number part is_entry arguments
  pub item : ItemAt g n at next (code.call number part is_entry arguments (result_cell h result))
  pub taken : ResultGoes h result (h.layouts.meanings number).result

-- the items of function calls, from the first one to what comes after them
abbrev pub CallsAre : Ground → Here → Option ℕ → List Item → Option ℕ → Type 0
CallsAre g h first [] last = first ≡ last
CallsAre g h first (function_call at d es ∷ items) last =
    (n : ℕ) × (mid : Option ℕ) × (first ≡ Some n) × CallItem g h n at d es (Some (temporary at)) mid × CallsAre g h mid items last
CallsAre g h first (i ∷ items) last = ⊥

-- the items of checks, from the first one to what comes after them
abbrev pub ChecksAre : Ground → Here → Option ℕ → List Item → Option ℕ → Type 0
ChecksAre g h first [] last = first ≡ last
ChecksAre g h first (statement_item (invoke at d es) ∷ items) last =
    (n : ℕ) × (mid : Option ℕ) × (first ≡ Some n) × CallItem g h n at d es None mid × ChecksAre g h mid items last
ChecksAre g h first (i ∷ items) last = ⊥

-- ---- assignments

-- the action by the type of the target, whose own type the value has where it is no ordinal and no set
abbrev pub AssignedBy : Ty → code.Place → Ty → Form → code.Action → Type 0
AssignedBy (ordinal r) p t (as_ordinal c) a = a ≡ code.assign p c r.low r.high
AssignedBy (set_over r) p t (as_set b) a = a ≡ code.assign_set p b (natural_of r.low) (natural_of r.high)
AssignedBy (array_over r u) p t (as_place q) a = (t ≡ array_over r u) × (a ≡ code.copy_cells p q (cells_of t))
AssignedBy (record_with ts) p t (as_place q) a = (t ≡ record_with ts) × (a ≡ code.copy_cells p q (cells_of t))
AssignedBy u p t f a = ⊥

pub record AssignItem (g : Ground) (h : Here) (n at : ℕ) (d : Designator) (e : Expression) (next : Option ℕ) : Type 0 where
  pub place : code.Place
  pub ty : Ty
  pub value : Formed
  pub act : code.Action
  pub target : designator_form h d ≡ Some (a_variable place ty)
  pub formed : expression_form h e ≡ Some value
  pub assigned : AssignedBy ty place value.ty value.form act
  pub item : ItemAt g n at next act

-- ---- the standard procedures

-- how a value of a base is shown
abbrev pub kind_of : (ℕ → ℕ) → Base → ShownKind
kind_of firsts integers = kind.Integer
kind_of firsts booleans = kind.Truth
kind_of firsts characters = kind.Character
kind_of firsts (enumerated at xs) = kind.Constant (firsts at)

abbrev pub first_of : Expressions → Option Expression
first_of no_expressions = None
first_of (more_expressions e es) = Some e

pub record DisplayItem (g : Ground) (h : Here) (n at : ℕ) (e : Expression) (next : Option ℕ) : Type 0 where
  pub range : Range
  pub cell : code.OrdinalExpression
  pub formed : IsOrdinal h e (ordinal range) cell
  pub item : ItemAt g n at next (code.display cell (kind_of g.firsts range.base))

-- a queue
pub record QueueItem (g : Ground) (h : Here) (n at : ℕ) (e : Expression) (next : Option ℕ) (act : code.Place → code.Action) : Type 0 where
  pub place : code.Place
  pub formed : expression_form h e ≡ Some (record { ty = queue_type; form = as_place place })
  pub item : ItemAt g n at next (act place)

abbrev pub Performed : Ground → Here → (n at : ℕ) → Standard → Option Expression → Option ℕ → Type 0
Performed g h n at display_procedure (Some e) next = DisplayItem g h n at e next
Performed g h n at delay_procedure (Some e) next = QueueItem g h n at e next code.delay
Performed g h n at continue_procedure (Some e) next = QueueItem g h n at e next code.continue_at
Performed g h n at s o next = ⊥

abbrev pub InvokedBy : Ground → Here → (n at : ℕ) → Option Meaning → Designator → Expressions → Option ℕ → Type 0
InvokedBy g h n at (Some (standard_meaning s)) d es next = Performed g h n at s (first_of es) next
InvokedBy g h n at m d es next = CallItem g h n at d es None next

-- ---- starts

pub record StartItem (g : Ground) (h : Here) (n : ℕ) (t : Start) (next : Option ℕ) : Type 0 where
  pub part : code.ComponentPlace
  pub system : ℕ
  pub arguments : List code.Argument
  pub target : designator_form h t.target ≡ Some (a_component part system)
  pub given : AreGiven h (h.layouts.systems system).slots (system_of h.program system).parameters t.arguments arguments
  pub item : ItemAt g n (at_designator t.target) next (code.start part (h.layouts.systems system).initial arguments)

abbrev pub StartsAre : Ground → Here → Option ℕ → List Start → Option ℕ → Type 0
StartsAre g h first [] last = first ≡ last
StartsAre g h first (t ∷ ts) last =
    (n : ℕ) × (mid : Option ℕ) × CallsAre g h first (designator_calls h.scope t.target ++ expressions_calls h.scope t.arguments) (Some n) × StartItem g h n t mid × StartsAre g h mid ts last

-- ---- statements

-- the function calls of a statement itself
abbrev pub calls_in : Scope → Statement → List Item
calls_in s (init at ts) = []
calls_in s (assign at d e) = designator_calls s d ++ expression_calls s e
calls_in s (invoke at d es) = designator_calls s d ++ expressions_calls s es
calls_in s (if_then at e t) = expression_calls s e
calls_in s (if_else at e t u) = expression_calls s e
calls_in s (case_of at e as' b) = expression_calls s e
calls_in s (while_do at e t) = expression_calls s e
calls_in s (for_do at i e d f t) = expression_calls s e ++ expression_calls s f
calls_in s (empty at) = []
calls_in s (block at ts) = []
calls_in s (repeat_until at ts e) = []
calls_in s (cycle at ts) = []
calls_in s (asserted at k e t) = expression_calls s e

-- what holds of a statement's own item, and of the item after it
abbrev pub OfOwn : Type 1
OfOwn = ℕ → Option ℕ → Type 0

-- the items of a statement: its calls, a check of what waits, and its own, or those of its starts
abbrev pub Leads : Ground → Here → Option ℕ → Statement → OfOwn → Option ℕ → Type 0
Leads g h first (init at ts) own next = StartsAre g h first ts next
Leads g h first (invoke at d es) own next =
    (n : ℕ) × (check : Option ℕ) × CallsAre g h first (calls_in h.scope (invoke at d es)) check × ChecksAre g h check (checks_before at h.scope d) (Some n) × own n next
Leads g h first t own next = (n : ℕ) × CallsAre g h first (calls_in h.scope t) (Some n) × own n next

-- the test after the statements of a `repeat`, whose list stands for these statements once more
pub record UntilItem (g : Ground) (h : Here) (IsBody : Option ℕ → Type 0) (m : ℕ) (e : Expression) (next : Option ℕ) : Type 0 where
  pub test : code.OrdinalExpression
  pub body : Option ℕ
  pub again : ℕ
  pub formed : IsTest h e test
  pub list : IsBody body
  pub calls : CallsAre g h (Some again) (expression_calls h.scope e) (Some m)
  pub item : ItemAt g m (at_expression e) next (code.until test body again)

pub record RepeatItem (g : Ground) (h : Here) (IsBody : Option ℕ → Type 0) (n at : ℕ) (e : Expression) (next : Option ℕ) : Type 0 where
  pub body : Option ℕ
  pub test : Option ℕ
  pub until : ℕ
  pub list : IsBody body
  pub calls : CallsAre g h test (expression_calls h.scope e) (Some until)
  pub own : UntilItem g h IsBody until e next
  pub item : ItemAt g n at test (code.block body)

pub record WhileItem (g : Ground) (h : Here) (IsBody : Option ℕ → Type 0) (n at : ℕ) (e : Expression) (next : Option ℕ) : Type 0 where
  pub test : code.OrdinalExpression
  pub body : Option ℕ
  pub again : ℕ
  pub formed : IsTest h e test
  pub list : IsBody body
  pub calls : CallsAre g h (Some again) (expression_calls h.scope e) (Some n)
  pub item : ItemAt g n at next (code.while_do test body again)

-- what an annotation speaks of
abbrev pub said_of : AssertionKind → Said
said_of kinds.Assertion = said.Assertion
said_of kinds.Invariant = said.Invariant

abbrev pub is_down : Direction → Bool
is_down To = false
is_down Downto = true

pub record ForItem (g : Ground) (h : Here) (IsBody : Option ℕ → Type 0) (n at : ℕ) (i : Identifier) (e : Expression) (d : Direction) (f : Expression) (next : Option ℕ) : Type 0 where
  pub origin : PlaceOrigin
  pub range : Range
  pub from_ty : Ty
  pub to_ty : Ty
  pub from : code.OrdinalExpression
  pub to : code.OrdinalExpression
  pub body : Option ℕ
  pub variable : begun_form h i.name (find i.name h.scope) ≡ Some (a_variable (code.place origin 0 code.no_indices) (ordinal range))
  pub first : IsOrdinal h e from_ty from
  pub last : IsOrdinal h f to_ty to
  pub list : IsBody body
  pub item : ItemAt g n at next (code.for_do origin range.low range.high from to (is_down d) body)

abbrev pub labels_of : Scope → List Constant → List ℤ
labels_of s cs = map (λ c. (constant_of s c).1) cs

abbrev mutual
  -- the own item of a statement, and those of the statements inside it
  pub Own : Ground → Here → Statement → ℕ → Option ℕ → Type 0
  Own g h (empty at) n next = ItemAt g n at next code.nothing
  Own g h (assign at d e) n next = AssignItem g h n at d e next
  Own g h (invoke at d es) n next = InvokedBy g h n at (find (name_of d) h.scope) d es next
  Own g h (block at ss) n next = (list : Option ℕ) × OwnAll g h ss list None × ItemAt g n at next (code.block list)
  Own g h (if_then at e t) n next = (c : code.OrdinalExpression) × (list : Option ℕ) × IsTest h e c × Leads g h list t (Own g h t) None × ItemAt g n at next (code.choose c list None)
  Own g h (if_else at e t u) n next =
      (c : code.OrdinalExpression) × (list : Option ℕ) × (other : Option ℕ) × IsTest h e c × Leads g h list t (Own g h t) None × Leads g h other u (Own g h u) None × ItemAt g n at next (code.choose c list other)
  Own g h (case_of at e as' b) n next = (c : code.OrdinalExpression) × (t : Ty) × (arms : List code.Arm) × IsOrdinal h e t c × OwnArms g h as' arms × ItemAt g n at next (code.select c arms)
  Own g h (while_do at e t) n next = WhileItem g h (λ list. Leads g h list t (Own g h t) None) n at e next
  Own g h (repeat_until at ss e) n next = RepeatItem g h (λ list. OwnAll g h ss list None) n at e next
  Own g h (for_do at i e d f t) n next = ForItem g h (λ list. Leads g h list t (Own g h t) None) n at i e d f next
  Own g h (cycle at ss) n next = (list : Option ℕ) × OwnAll g h ss list None × ItemAt g n at next (code.cycle list)
  Own g h (init at ts) n next = ⊥
  -- The statement stands behind what is said before it.
  Own g h (asserted at k e t) n next = (c : code.OrdinalExpression) × (mid : Option ℕ) × IsTest h e c × Leads g h mid t (Own g h t) next × ItemAt g n at mid (code.assert_that c (said_of k))

  -- a list of statements, from its first item to what comes after it
  pub OwnAll : Ground → Here → Statements → Option ℕ → Option ℕ → Type 0
  OwnAll g h no_statements first last = first ≡ last
  OwnAll g h (more_statements t ts) first last = (mid : Option ℕ) × Leads g h first t (Own g h t) mid × OwnAll g h ts mid last

  pub OwnArms : Ground → Here → Arms → List code.Arm → Type 0
  OwnArms g h no_arms [] = Unit {0}
  OwnArms g h (more_arms a as') (x ∷ xs) = OwnArm g h a x × OwnArms g h as' xs
  OwnArms g h no_arms (x ∷ xs) = ⊥
  OwnArms g h (more_arms a as') [] = ⊥

  pub OwnArm : Ground → Here → Arm → code.Arm → Type 0
  OwnArm g h (arm cs t) x = (x.labels ≡ labels_of h.scope cs) × Leads g h x.body t (Own g h t) None

-- the statements of a body and the checks at its end, from the first item
abbrev pub BodyIs : Ground → Here → Statements → List Item → Option ℕ → Type 0
BodyIs g h ss checks first = (end : Option ℕ) × OwnAll g h ss first end × ChecksAre g h end checks None

-- a statement, from its first item to what comes after it
abbrev pub StatementIs : Ground → Here → Option ℕ → Statement → Option ℕ → Type 0
StatementIs g h first t next = Leads g h first t (Own g h t) next
