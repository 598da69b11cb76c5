-- Statements without calls do the same to a machine that lies over another one.
use Rattle.std.proofs.Common.{◌≡◌, ◌∙◌, ℕ, Bool, true, false, List, [], ◌∷◌, ◌++◌, length, Option, Result, Ok, Err, ap, refl, if◌then◌else◌}
use Rattle.std.specs.Prelude.{ℤ, pos, ◌&&◌, ◌==◌, slice_index_or}
use Rattle.std.specs.Ordering.{int_eq}
use Rattle.cp_slots.specs.Inside.{SET_CELLS, action_inside, expression_inside, has, place_room, room_from, set_inside}
use Rattle.cp_slots.specs.Tables.{RoutineView, Tables}
use Rattle.cp_slots.specs.declared.item.Action.{Action}
use Rattle.cp_slots.specs.declared.item.Action.TheVariants.{For}
use Rattle.cp_slots.specs.declared.item.Item.{Item}
use Rattle.cp_slots.specs.declared.item.ResolvedArm.{ResolvedArm}
use Rattle.cp_slots.specs.declared.item.Said.{Said}
use Rattle.cp_slots.specs.declared.item.ShownKind.{ShownKind}
use Rattle.cp_slots.specs.declared.place.OrdinalExpression.{OrdinalExpression}
use Rattle.cp_slots.specs.declared.place.PlaceOrigin.{PlaceOrigin}
use Rattle.cp_slots.specs.declared.place.Place.{Place}
use Rattle.cp_slots.specs.declared.place.SetExpression.{SetExpression}
use Rattle.cp_store.specs.declared.error.ErrorName.{ErrorName}
use Rattle.cp_store.specs.declared.memory.Address.{Address}
use Rattle.cp_store.specs.Places.{address_at, origin_address, set_at, value_at}
use Rattle.cp_store.specs.Sets as sets
use Rattle.cp_store.specs.Values.{is_true, check_range}
use Rattle.cp_store.proofs.Reaches.{and_left, some_has}
use Rattle.cp_machine.specs.declared.event.Event.{Event}
use Rattle.cp_machine.specs.declared.process.Entry.{Entry}
use Rattle.cp_machine.specs.declared.process.Entry.TheVariants.{Successor}
use Rattle.cp_machine.specs.declared.shown.Shown.{Shown}
use Rattle.cp_machine.specs.declared.state.TheConstants.{MOST_SHOWN}
use Rattle.cp_machine.specs.Machine.{Machine, thread_at, with_output, with_stack}
use Rattle.cp_machine.specs.Memory.{address_of, cells_put, memory_at, number_put, origin_of, set_of, set_put, value_of}
use Rattle.cp_machine.specs.Stack.{rest_of}
use Rattle.cp_machine.specs.Statements.{Stepped, arm_for, assert_that, assign, assign_set, branch, case_of, copy, display, fault, for_do, for_from, gone_on, is_beyond, local, next_turn, next_value, show, shown_as, successor_step, until, while_do, with_value}
use Rattle.cp_effect_laws.specs.Footprint.{Footprint, laid_over, overlaid, step_over}
use Rattle.cp_effect_laws.proofs.Lying.{Named, begun_lies, lies_fewer, place_lies}
use Rattle.cp_effect_laws.proofs.Machines.{cells_laid, memory_of_thread, number_laid, set_laid, stack_laid, thread_laid}
use Rattle.cp_effect_laws.proofs.Overlays.{own_read}
use Rattle.cp_effect_laws.proofs.Reading.{place_same, set_same, value_same}
use Rattle.cp_effect_laws.proofs.Writing.{Spot, spot_of}

module _ (f : Footprint) (m n : Machine) (p : ℕ) (status : f.statuses p ≡ true) (body : f.bodies p ≡ true) where
  abbrev pub laid : Machine → Machine
  laid k = laid_over f k n

  -- the other step is this one, which lies over the other machine
  abbrev pub Same : Stepped → Stepped → Type 0
  Same x y = x ≡ step_over f y n

  pub done : {x : Machine} (y : Machine) → x ≡ laid y → Same (local x) (local y)
  done y e = ap local e

  pub evented : {x : Machine} (y : Machine) (event : Event) → x ≡ laid y → Same (record { machine = x; event = event }) (record { machine = y; event = event })
  evented y event e = ap (λ k. let s : Stepped = record { machine = k; event = event } in s) e

  -- goes on with the same value, or ends in the same run error
  pub valued : {A : Type 0} (line : ℕ) (o o' : Result A ErrorName) (go go' : A → Stepped) → o' ≡ o → ((a : A) → o ≡ Ok a → Same (go' a) (go a))
      → Same (with_value o' (fault (laid m) p line) go') (with_value o (fault m p line) go)
  valued {A = A} line o o' go go' e each = ap (λ x. with_value x (fault (laid m) p line) go') e ∙ by o refl
    where
      by : (x : Result A ErrorName) → o ≡ x → Same (with_value x (fault (laid m) p line) go') (with_value x (fault m p line) go)
      by (Ok a) is = each a is
      by (Err name) is = refl

  pub either : (b : Bool) (x y x' y' : Stepped) → Same x' x → Same y' y → Same (if b then x' else y') (if b then x else y)
  either true x y x' y' e g = e
  either false x y x' y' e g = g

  pub stacked : (stack : List Entry) → with_stack (laid m) p stack ≡ laid (with_stack m p stack)
  stacked stack = stack_laid f n p status body m stack

  -- ---- what is read

  module _ (v : RoutineView) (named : Named f.cells (memory_at m p) v (thread_at m.threads p).frame) where
    agree : (k : ℕ) → f.cells k ≡ true → slice_index_or (overlaid f.cells m.permanents n.permanents) k (pos 0) ≡ slice_index_or m.permanents k (pos 0)
    agree k h = own_read f.cells m.permanents n.permanents k (pos 0) h

    abbrev others : List ℤ
    others = overlaid f.cells m.permanents n.permanents

    pub value_laid : (e : OrdinalExpression) → expression_inside v e ≡ true → value_of (laid m) p e ≡ value_of m p e
    value_laid e i =
        ap (λ t. value_at (memory_of_thread f n p status body (laid m) t) t.frame e) (thread_laid f n p status body m)
        ∙ value_same f.cells (memory_at m p) others agree v (thread_at m.threads p).frame named e i

    pub set_value_laid : (e : SetExpression) → set_inside v e ≡ true → set_of (laid m) p e ≡ set_of m p e
    set_value_laid e i =
        ap (λ t. set_at (memory_of_thread f n p status body (laid m) t) t.frame e) (thread_laid f n p status body m)
        ∙ set_same f.cells (memory_at m p) others agree v (thread_at m.threads p).frame named e i

    pub address_laid : (place : Place) (cells : ℕ) → has cells (place_room v place) ≡ true → address_of (laid m) p place ≡ address_of m p place
    address_laid place cells i =
        ap (λ t. address_at (memory_of_thread f n p status body (laid m) t) t.frame place) (thread_laid f n p status body m)
        ∙ place_same f.cells (memory_at m p) others agree v (thread_at m.threads p).frame named place cells i

    pub spot_at : (place : Place) (cells : ℕ) (a : Address) → has cells (place_room v place) ≡ true → address_of m p place ≡ Ok a → Spot f.cells a cells
    spot_at place cells a i is = spot_of f.cells (memory_at m p) a cells named.covers.permanents_few (place_lies f.cells (memory_at m p) v (thread_at m.threads p).frame named place a cells i is)

    pub origin_laid : (variable : PlaceOrigin) → origin_of (laid m) p variable ≡ origin_of m p variable
    origin_laid variable = ap (λ t. origin_address t.references t.frame variable) (thread_laid f n p status body m)

    pub spot_of_variable : (variable : PlaceOrigin) → has 1 (room_from v variable) ≡ true → Spot f.cells (origin_of m p variable) 1
    spot_of_variable variable i =
        let left = some_has 1 (room_from v variable) i in
        spot_of f.cells (memory_at m p) (origin_of m p variable) 1 named.covers.permanents_few
        (lies_fewer f.cells (memory_at m p) (origin_of m p variable) left.0 1 left.2 (begun_lies f.cells (memory_at m p) v (thread_at m.threads p).frame named variable left.0 left.1))

    -- ---- assignments

    pub assign_laid : (line : ℕ) (target : Place) (value : OrdinalExpression) (low high : ℤ) (rest : List Entry) → expression_inside v value ≡ true → has 1 (place_room v target) ≡ true
        → Same (assign (laid m) p line target value low high rest) (assign m p line target value low high rest)
    assign_laid line target value low high rest i j =
        valued line (value_of m p value) (value_of (laid m) p value) _ _ (value_laid value i)
        (λ z z_is. valued line (address_of m p target) (address_of (laid m) p target) _ _ (address_laid target 1 j)
        (λ a a_is. valued line (check_range low high z) (check_range low high z) _ _ refl
        (λ w w_is. done (number_put (with_stack m p rest) p a w) (ap (λ x. number_put x p a w) (stacked rest) ∙ number_laid f n p status body (with_stack m p rest) a w (spot_at target 1 a j a_is)))))

    pub assign_set_laid : (line : ℕ) (target : Place) (value : SetExpression) (low high : ℕ) (rest : List Entry) → set_inside v value ≡ true → has SET_CELLS (place_room v target) ≡ true
        → Same (assign_set (laid m) p line target value low high rest) (assign_set m p line target value low high rest)
    assign_set_laid line target value low high rest i j =
        valued line (set_of m p value) (set_of (laid m) p value) _ _ (set_value_laid value i)
        (λ z z_is. valued line (address_of m p target) (address_of (laid m) p target) _ _ (address_laid target SET_CELLS j)
        (λ a a_is. valued line (sets.check_members low high z) (sets.check_members low high z) _ _ refl
        (λ w w_is. done (set_put (with_stack m p rest) p a w) (ap (λ x. set_put x p a w) (stacked rest) ∙ set_laid f n p status body (with_stack m p rest) a w (spot_at target SET_CELLS a j a_is)))))

    pub copy_laid : (line : ℕ) (target source : Place) (size : ℕ) (rest : List Entry) → has size (place_room v source) ≡ true → has size (place_room v target) ≡ true
        → Same (copy (laid m) p line target source size rest) (copy m p line target source size rest)
    copy_laid line target source size rest i j =
        valued line (address_of m p source) (address_of (laid m) p source) _ _ (address_laid source size i)
        (λ from from_is. valued line (address_of m p target) (address_of (laid m) p target) _ _ (address_laid target size j)
        (λ to to_is. done (cells_put (with_stack m p rest) p to from size) (ap (λ x. cells_put x p to from size) (stacked rest) ∙ cells_laid f n p status body (with_stack m p rest) to from size (spot_at target size to j to_is) (spot_at source size from i from_is))))

    -- ---- choices and annotations

    pub branch_laid : (line : ℕ) (test : OrdinalExpression) (list other : Option ℕ) (rest : List Entry) → expression_inside v test ≡ true → Same (branch (laid m) p line test list other rest) (branch m p line test list other rest)
    branch_laid line test list other rest i = valued line (value_of m p test) (value_of (laid m) p test) _ _ (value_laid test i) (λ z z_is. done _ (stacked _))

    pub case_laid : (line : ℕ) (selector : OrdinalExpression) (arms : List ResolvedArm) (rest : List Entry) → expression_inside v selector ≡ true → Same (case_of (laid m) p line selector arms rest) (case_of m p line selector arms rest)
    case_laid line selector arms rest i =
        valued line (value_of m p selector) (value_of (laid m) p selector) _ _ (value_laid selector i)
        (λ z z_is. valued line (arm_for z arms) (arm_for z arms) _ _ refl (λ list list_is. done _ (stacked _)))

    pub assert_laid : (line : ℕ) (test : OrdinalExpression) (said : Said) (rest : List Entry) → expression_inside v test ≡ true → Same (assert_that (laid m) p line test said rest) (assert_that m p line test said rest)
    assert_laid line test said rest i =
        valued line (value_of m p test) (value_of (laid m) p test) _ _ (value_laid test i) (λ z z_is. either (is_true z) _ _ _ _ (done _ (stacked rest)) refl)

    -- ---- loops

    pub while_laid : (line : ℕ) (test : OrdinalExpression) (list : Option ℕ) (again : ℕ) (next : Option ℕ) (es : List Entry) → expression_inside v test ≡ true → Same (while_do (laid m) p line test list again next es) (while_do m p line test list again next es)
    while_laid line test list again next es i = valued line (value_of m p test) (value_of (laid m) p test) _ _ (value_laid test i) (λ z z_is. done _ (stacked _))

    pub until_laid : (line : ℕ) (test : OrdinalExpression) (list : Option ℕ) (again : ℕ) (next : Option ℕ) (es : List Entry) → expression_inside v test ≡ true → Same (until (laid m) p line test list again next es) (until m p line test list again next es)
    until_laid line test list again next es i = valued line (value_of m p test) (value_of (laid m) p test) _ _ (value_laid test i) (λ z z_is. done _ (stacked _))

    gone_on_laid : (at : ℕ) (variable : PlaceOrigin) (list : Option ℕ) (es : List Entry) (last z : ℤ) → has 1 (room_from v variable) ≡ true → gone_on (laid m) p at variable list es last z ≡ laid (gone_on m p at variable list es last z)
    gone_on_laid at variable list es last z i =
        let stack = rest_of list (Successor at z last ∷ es) in
        ap (λ a. number_put (with_stack (laid m) p stack) p a z) (origin_laid variable)
        ∙ ap (λ x. number_put x p (origin_of m p variable) z) (stacked stack)
        ∙ number_laid f n p status body (with_stack m p stack) (origin_of m p variable) z (spot_of_variable variable i)

    for_from_laid : (line at : ℕ) (variable : PlaceOrigin) (low high : ℤ) (down : Bool) (list next : Option ℕ) (es : List Entry) (first last : ℤ) → has 1 (room_from v variable) ≡ true
        → Same (for_from (laid m) p line at variable low high down list next es first last) (for_from m p line at variable low high down list next es first last)
    for_from_laid line at variable low high down list next es first last i =
        either (is_beyond down first last) _ _ _ _ (done _ (stacked _)) (valued line (check_range low high first) (check_range low high first) _ _ refl (λ z z_is. done _ (gone_on_laid at variable list es last z i)))

    pub for_laid : (line at : ℕ) (variable : PlaceOrigin) (low high : ℤ) (first last : OrdinalExpression) (down : Bool) (list next : Option ℕ) (es : List Entry)
        → has 1 (room_from v variable) ≡ true → expression_inside v first ≡ true → expression_inside v last ≡ true
        → Same (for_do (laid m) p line at variable low high first last down list next es) (for_do m p line at variable low high first last down list next es)
    for_laid line at variable low high first last down list next es h i j =
        valued line (value_of m p first) (value_of (laid m) p first) _ _ (value_laid first i)
        (λ a a_is. valued line (value_of m p last) (value_of (laid m) p last) _ _ (value_laid last j)
        (λ b b_is. for_from_laid line at variable low high down list next es a b h))

    next_laid : (line at : ℕ) (variable : PlaceOrigin) (low high : ℤ) (down : Bool) (list next : Option ℕ) (es : List Entry) (z last : ℤ) → has 1 (room_from v variable) ≡ true
        → Same (next_turn (laid m) p line at variable low high down list next es z last) (next_turn m p line at variable low high down list next es z last)
    next_laid line at variable low high down list next es z last i =
        either (int_eq z last) _ _ _ _ (done _ (stacked _)) (valued line (next_value down low high z) (next_value down low high z) _ _ refl (λ w w_is. done _ (gone_on_laid at variable list es last w i)))

    pub succeeded_laid : (r : Tables) (at : ℕ) (item : Item) (a : Action) (es : List Entry) (z last : ℤ) → action_inside r v a ≡ true
        → Same (successor_step (laid m) p at item a es z last) (successor_step m p at item a es z last)
    succeeded_laid r at item (For variable low high first end down list) es z last i = next_laid item.line at variable low high down list item.next es z last (and_left (has 1 (room_from v variable)) (expression_inside v first && expression_inside v end) i)
    succeeded_laid r at item _ es z last i = done _ (stacked _)

    -- ---- display

    show_laid : (rest : List Entry) (w : Shown) → Same (show (laid m) p rest w) (show m p rest w)
    show_laid rest w = either (length m.output == MOST_SHOWN) _ _ _ _ refl (evented _ _ (ap (λ x. with_output x (m.output ++ w ∷ [])) (stacked rest)))

    pub display_laid : (line : ℕ) (value : OrdinalExpression) (kind : ShownKind) (rest : List Entry) → expression_inside v value ≡ true → Same (display (laid m) p line value kind rest) (display m p line value kind rest)
    display_laid line value kind rest i = valued line (value_of m p value) (value_of (laid m) p value) _ _ (value_laid value i) (λ z z_is. show_laid rest (shown_as kind z))
