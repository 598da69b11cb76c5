-- What is laid out of statements: their items, last to first, each list after those inside it. In the shape of the code, as `Laid` says.
use Rattle.std.specs.Prelude.{ℕ, max, ℤ, pos, negsuc, Bool, true, false, if◌then◌else◌, List, [], ◌∷◌, Option, Some, None, slice_get}
use Rattle.cp_tree.specs.declared.statement.AssertionKind.{AssertionKind}
use Rattle.cp_tree.specs.declared.statement.AssertionKind.TheVariants as kinds
use Rattle.cp_tree.specs.declared.statement.Direction.{Direction}
use Rattle.cp_tree.specs.declared.statement.Direction.TheVariants as direction
use Rattle.cp_tree.specs.Syntax as syntax
use Rattle.cp_tree.specs.Syntax.{Expressions, Designator, Statement, Statements, Arms, Start}
use Rattle.cp_slots.specs.declared.item.Said.{Said}
use Rattle.cp_slots.specs.declared.item.Said.TheVariants as said
use Rattle.cp_slots.specs.declared.item.ShownKind.{ShownKind}
use Rattle.cp_slots.specs.declared.item.ShownKind.TheVariants as shown
use Rattle.cp_slots.specs.declared.place.PlaceOrigin.{PlaceOrigin}
use Rattle.cp_slots.specs.declared.place.PlaceOrigin.TheVariants as origin
use Rattle.cp_symbols.specs.declared.kinds.CellBase.TheVariants as base
use Rattle.cp_symbols.specs.declared.kinds.CellType.{CellType}
use Rattle.cp_symbols.specs.declared.kinds.CellType.TheVariants as types
use Rattle.cp_symbols.specs.declared.names.LayoutMeaning.{LayoutMeaning}
use Rattle.cp_symbols.specs.declared.names.LayoutMeaning.TheVariants as meaning
use Rattle.cp_symbols.specs.declared.names.PredeclaredRoutine.{PredeclaredRoutine}
use Rattle.cp_symbols.specs.declared.names.PredeclaredRoutine.TheVariants as predeclared
use Rattle.cp_symbols.specs.declared.symbols.FunctionResult.{FunctionResult}
use Rattle.cp_slots.specs.declared.place.ComponentPlace as code_component
use Rattle.cp_layout.specs.declared.statement.StatementTarget as code_target
use Rattle.cp_layout.specs.declared.statement.CalledRoutine as code_callee
use Rattle.cp_layout.specs.declared.statement.CalledRoutine.TheVariants as callee
use Rattle.cp_symbols.specs.Kinds.{cells_of, values_of}
use Rattle.cp_slots.specs.Code as code
use Rattle.cp_slots.specs.Code.{Place, place_seen, ComponentPlace, component_seen, Arm, Action}
use Rattle.cp_layout.specs.Values.{Value, ordinal_value, Designated, a_variable, a_component, a_routine, an_entry, a_standard, place_at, place_of, ordinal_of, set_of}
use Rattle.cp_layout.specs.Layers.{Layer, System, find, is_own, need_inside, with_room, call_need, pending_need, again, add_item, settle_items, result_of}
use Rattle.cp_layout.specs.LaidTypes.{labels_of}
use Rattle.cp_layout.specs.LaidExpressions.{name_meaning, byte_or, name_at, expression, first_value, arguments, designator}

-- ---- assignments

-- a variable that is assigned to
pub record Target : Type 0 where
  pub place : Place
  pub value_type : CellType

abbrev pub target_seen : code_target.StatementTarget → Target
target_seen t = record { place = place_seen t.place; value_type = t.value_type }

abbrev pub no_target : Target
no_target = record { place = place_at (origin.Local 0); value_type = values_of base.Integer }

abbrev pub result_target : Bool → Option FunctionResult → Target
result_target is_own None = no_target
result_target true (Some r) = record { place = place_at (origin.Local r.slot); value_type = r.value_type }
result_target false (Some r) = no_target

-- the variable on the left of an assignment, or of a `for`
abbrev pub target_of : Layer → Designated → Target
target_of l (a_variable p t) = record { place = p; value_type = t }
target_of l (a_routine r) = result_target (is_own l r) (result_of l r)
target_of l d = no_target

abbrev pub assign_by_type : Layer → Place → Value → CellType → Action
assign_by_type l p v (types.Ordinal r) = code.assign p (ordinal_of v) r.low r.high
assign_by_type l p v (types.Set r) = code.assign_set p (set_of v) (byte_or 0 r.low) (byte_or 255 r.high)
assign_by_type l p v t = code.copy_cells p (place_of v) (cells_of l.types t)

abbrev pub assignment : Layer → Target → Value → Action
assignment l t v = assign_by_type l t.place v t.value_type

unfoldable pub assign : Layer → ℕ → Designator → syntax.Expression → Layer
assign l at d e =
    let x = designator l d in
    let y = expression x.1 e in
    add_item y.1 at (assignment y.1 (target_of x.1 x.0) y.0) 0

-- ---- calls

abbrev pub shown_kind : Value → ShownKind
shown_kind (ordinal_value e base.Char) = shown.Character
shown_kind (ordinal_value e base.Boolean) = shown.Truth
shown_kind (ordinal_value e (base.Enumeration first last)) = shown.Constant first
shown_kind v = shown.Integer

abbrev pub display : Value → Action
display v = code.display (ordinal_of v) (shown_kind v)

abbrev pub standard_action : PredeclaredRoutine → Value → Action
standard_action predeclared.Delay v = code.delay (place_of v)
standard_action predeclared.Continue v = code.continue_at (place_of v)
standard_action predeclared.Display v = display v
standard_action r v = code.nothing

unfoldable pub procedure : Layer → ℕ → ComponentPlace → Bool → ℕ → Expressions → Layer
procedure l at c is_entry r es =
    let x = arguments l r es in
    add_item (with_room x.1 r) at (code.call r c is_entry x.0 None) (call_need x.1 r)

-- ---- checks: calls of the invariants of the block, where it has some

abbrev pub check_by : Layer → ℕ → Option LayoutMeaning → Layer
check_by l at (Some (meaning.Routine r)) = procedure l at code.own false r syntax.no_expressions
check_by l at m = l

unfoldable pub check_invariants : Layer → ℕ → Layer
check_invariants l at = check_by l at (find syntax.nameless l.names)

-- whether the invariants are looked at before it
abbrev pub waits : PredeclaredRoutine → Bool
waits predeclared.Delay = true
waits predeclared.Continue = true
waits r = false

abbrev pub check_before : Layer → ℕ → PredeclaredRoutine → Layer
check_before l at r = if waits r then check_invariants l at else l

unfoldable pub standard : Layer → ℕ → PredeclaredRoutine → Expressions → Layer
standard l at r es =
    let x = first_value l es in
    add_item (check_before x.1 at r) at (standard_action r x.0) 0

-- what a call statement calls
pub data Callee : Type 0 where
  a_standard_procedure : PredeclaredRoutine → Callee
  -- of a component, by the component or by its name alone
  a_procedure : ComponentPlace → Bool → ℕ → Callee
  no_callee : Callee

abbrev pub callee_seen : code_callee.CalledRoutine → Callee
callee_seen (callee.Predeclared r) = a_standard_procedure r
callee_seen (callee.Routine c is_entry r) = a_procedure (component_seen c) is_entry r
callee_seen callee.Nothing = no_callee

abbrev pub callee_of : Designated → Callee
callee_of (a_standard r) = a_standard_procedure r
callee_of (a_routine r) = a_procedure code.own false r
callee_of (an_entry c r) = a_procedure c true r
callee_of d = no_callee

abbrev pub call_of : Layer → ℕ → Callee → Expressions → Layer
call_of l at (a_standard_procedure r) es = standard l at r es
call_of l at (a_procedure c is_entry r) es = procedure l at c is_entry r es
call_of l at no_callee es = add_item l at code.nothing 0

unfoldable pub call_statement : Layer → ℕ → Designator → Expressions → Layer
call_statement l at d es =
    let x = designator l d in
    call_of x.1 at (callee_of x.0) es

-- ---- statements with lists

abbrev pub block_item : Layer → ℕ → Option ℕ → Layer
block_item l at list = add_item l at (code.block list) (need_inside l.items list)

abbrev pub cycle_item : Layer → ℕ → Option ℕ → Layer
cycle_item l at list = add_item l at (code.cycle list) (need_inside l.items list)

unfoldable pub choose : Layer → ℕ → syntax.Expression → (first other : Option ℕ) → Layer
choose l at e first other =
    let x = expression l e in
    add_item x.1 at (code.choose (ordinal_of x.0) first other) (max (need_inside x.1.items first) (need_inside x.1.items other))

unfoldable pub while_item : Layer → ℕ → syntax.Expression → Option ℕ → Layer
while_item l at e body =
    let x = expression l e in
    add_item x.1 at (code.while_do (ordinal_of x.0) body (again x.1)) (max (need_inside x.1.items body) (pending_need x.1))

unfoldable pub until_item : Layer → ℕ → syntax.Expression → Option ℕ → Layer
until_item l at e body =
    let x = expression l e in
    add_item x.1 at (code.until (ordinal_of x.0) body (again x.1)) (max (need_inside x.1.items body) (pending_need x.1))

abbrev pub token_of : syntax.Expression → ℕ
token_of (syntax.alone at a) = at
token_of (syntax.related at a r b) = at

-- the list as a block, and `until` after it
abbrev pub repeat_items : Layer → ℕ → Option ℕ → syntax.Expression → Option ℕ → Option ℕ × Layer
repeat_items l at body e next =
    let y = settle_items (until_item l (token_of e) e body) next in
    settle_items (block_item y.1 at body) y.0

abbrev pub arms_need : Layer → ℕ → List Arm → ℕ
arms_need l n [] = n
arms_need l n (a ∷ as') = arms_need l (max (need_inside l.items a.body) n) as'

unfoldable pub select : Layer → ℕ → syntax.Expression → List Arm → Layer
select l at e as' =
    let x = expression l e in
    add_item x.1 at (code.select (ordinal_of x.0) as') (arms_need x.1 0 as')

abbrev pub low_of : CellType → ℤ
low_of (types.Ordinal r) = r.low
low_of t = negsuc 32767

abbrev pub high_of : CellType → ℤ
high_of (types.Ordinal r) = r.high
high_of t = pos 32767

abbrev pub origin_of : Place → PlaceOrigin
origin_of (code.place o n is) = o

abbrev pub is_down : Direction → Bool
is_down direction.To = false
is_down direction.Downto = true

unfoldable pub for_item : Layer → ℕ → List ℕ → syntax.Expression → Direction → syntax.Expression → Option ℕ → Layer
for_item l at n e d f body =
    let t = target_of l (name_meaning l n) in
    let x = expression l e in
    let y = expression x.1 f in
    add_item y.1 at (code.for_do (origin_of t.place) (low_of t.value_type) (high_of t.value_type) (ordinal_of x.0) (ordinal_of y.0) (is_down d) body) (need_inside y.1.items body)

-- ---- starts

abbrev pub initial_in : Option System → ℕ
initial_in None = 0
initial_in (Some s) = s.initial

-- the initial statement of a system type
abbrev pub initial_of : Layer → ℕ → ℕ
initial_of l k = initial_in (slice_get l.systems k)

unfoldable pub begin_component : Layer → ℕ → ComponentPlace → ℕ → Expressions → Layer
begin_component l at c r es =
    let x = arguments l r es in
    add_item (with_room x.1 r) at (code.start c r x.0) (call_need x.1 r)

-- a component with its system type
abbrev pub Placed : Type 0
Placed = ComponentPlace × ℕ

abbrev pub placed_seen : code_component.ComponentPlace × ℕ → Placed
placed_seen p = (component_seen p.0, p.1)

abbrev pub component_place_of : Designated → Option Placed
component_place_of (a_component c k) = Some (c, k)
component_place_of d = None

abbrev pub start_of : Layer → ℕ → Option Placed → Expressions → Layer
start_of l at None es = add_item l at code.nothing 0
start_of l at (Some p) es = begin_component l at p.0 (initial_of l p.1) es

unfoldable pub start_statement : Layer → Start → Layer
start_statement l t =
    let x = designator l t.target in
    start_of x.1 (name_at t.target) (component_place_of x.0) t.arguments

-- the starts of an `init`, each with the calls in its arguments before it
unfoldable pub starts : Layer → List Start → Option ℕ → Option ℕ × Layer
starts l [] next = (next, l)
starts l (t ∷ ts) next =
    let rest = starts l ts next in
    settle_items (start_statement rest.1 t) rest.0

-- ---- annotations

-- what an annotation speaks of
abbrev pub said_of : AssertionKind → Said
said_of kinds.Assertion = said.Assertion
said_of kinds.Invariant = said.Invariant

unfoldable pub assertion : Layer → ℕ → AssertionKind → syntax.Expression → Layer
assertion l at k e =
    let x = expression l e in
    add_item x.1 at (code.assert_that (ordinal_of x.0) (said_of k)) 0

-- what is said before items that begin at `next`
unfoldable pub assertions : Layer → AssertionKind → List syntax.Expression → Option ℕ → Option ℕ × Layer
assertions l k [] next = (next, l)
assertions l k (e ∷ es) next =
    let rest = assertions l k es next in
    settle_items (assertion rest.1 (token_of e) k e) rest.0

-- ---- lists

unfoldable mutual
  -- the items of a list, before those that begin at `after`, and the first of them
  pub statements : Layer → Statements → Option ℕ → Option ℕ × Layer
  statements l syntax.no_statements after = (after, l)
  statements l (syntax.more_statements s ss) after =
      let rest = statements l ss after in
      statement rest.1 s rest.0

  -- the items of a statement, before those that begin at `next`
  pub statement : Layer → Statement → Option ℕ → Option ℕ × Layer
  statement l (syntax.empty at) next = settle_items (add_item l at code.nothing 0) next
  statement l (syntax.assign at d e) next = settle_items (assign l at d e) next
  statement l (syntax.invoke at d es) next = settle_items (call_statement l at d es) next
  statement l (syntax.block at ss) next =
      let x = statements l ss None in
      settle_items (block_item x.1 at x.0) next
  statement l (syntax.if_then at e s) next =
      let x = statement l s None in
      settle_items (choose x.1 at e x.0 None) next
  statement l (syntax.if_else at e s t) next =
      let x = statement l s None in
      let y = statement x.1 t None in
      settle_items (choose y.1 at e x.0 y.0) next
  statement l (syntax.case_of at e as' b) next =
      let x = arms l as' in
      settle_items (select x.1 at e x.0) next
  statement l (syntax.while_do at e s) next =
      let x = statement l s None in
      settle_items (while_item x.1 at e x.0) next
  statement l (syntax.repeat_until at ss e) next =
      let x = statements l ss None in
      repeat_items x.1 at x.0 e next
  statement l (syntax.for_do at i e d f s) next =
      let x = statement l s None in
      settle_items (for_item x.1 at i.name e d f x.0) next
  statement l (syntax.cycle at ss) next =
      let x = statements l ss None in
      settle_items (cycle_item x.1 at x.0) next
  statement l (syntax.init at ts) next = starts l ts next
  statement l (syntax.asserted at k e s) next =
      let x = statement l s next in
      settle_items (assertion x.1 at k e) x.0

  pub arms : Layer → Arms → List Arm × Layer
  arms l syntax.no_arms = ([], l)
  arms l (syntax.more_arms a as') =
      let x = one_arm l a in
      let rest = arms x.1 as' in
      (x.0 ∷ rest.0, rest.1)

  pub one_arm : Layer → syntax.Arm → Arm × Layer
  one_arm l (syntax.arm labels s) =
      let x = statement l s None in
      ((let a : Arm = record { labels = labels_of x.1.names labels; body = x.0 } in a), x.1)
