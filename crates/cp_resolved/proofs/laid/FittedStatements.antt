-- All statements: their items have what they need.
use Rattle.std.proofs.Common.{Bool, true, false, ◌≡◌, ℕ, ◌+◌, ◌*◌, ◌≤◌, max, List, [], ◌∷◌, length, Option, None, slice_index, refl, ap, arith}
use Rattle.cp_resolved.proofs.Words.{Direction, CellType, PredeclaredRoutine, Layer, Pending, settle_items, add_item, again, need_of, need_inside, call_need, with_room}
use Rattle.cp_tree.specs.declared.statement.AssertionKind.{AssertionKind}
use Rattle.cp_tree.specs.Syntax as syntax
use Rattle.cp_symbols.specs.declared.kinds.CellType.TheVariants as types
use Rattle.cp_symbols.specs.declared.names.PredeclaredRoutine.TheVariants as predeclared
use Rattle.cp_slots.specs.Code as code
use Rattle.cp_slots.specs.Code.{Action, Arm, Place}
use Rattle.cp_layout.specs.Values.{Value, Designated, a_component, ordinal_of}
use Rattle.cp_layout.specs.LaidExpressions.{expression, designator}
use Rattle.cp_layout.specs.LaidStatements.{assign_by_type, assign, call_statement, standard_action, choose, select, arms_need, while_item, until_item, for_item, block_item, cycle_item, repeat_items, component_place_of, start_statement, starts, check_invariants, assertion, statement, statements, arms, one_arm, token_of}
use Rattle.cp_layout.specs.LaidDeclarations.{end_of_body}
use Rattle.cp_resolved.proofs.laid.Calling.{ActionFits, ArmsFit, CallFits, IsNoLoop, Onward, onward_trans, onward_items, onward_routines, action_onward, Ran, ran_same, ran_trans, then_ran, call_step, Ground, ground_kept, designated_kept, designated_back, expression_ran, ran_calls, still_below, designator_there}
use Rattle.cp_resolved.proofs.laid.Fitted.{Result, moved, alone, own_settled, loop_settled, inside_bounded, list_kept, onward_same, plain_settled as own_item}
use Rattle.cp_resolved.proofs.laid.Fitting.{ListFits, list_longer, need_longer}
use Rattle.cp_resolved.proofs.laid.Grown.{kept_grew}
use Rattle.cp_resolved.proofs.laid.Kept.{Kept}
use Rattle.cp_resolved.proofs.laid.Named.{Named, DesignatedIn, initial_below}
use Rattle.cp_resolved.proofs.laid.Settled.{Fitted}
use Rattle.cp_resolved.proofs.laid.Walked.{IsBegun, ItemSteps, never, assigned_walked, checked_walked, invoked_walked, started_walked}
use Rattle.cp_resolved.specs.ItemsStand.{body_items}

-- ---- own items

added_ran : (l : Layer) (at : ℕ) (a : Action) (need : ℕ) → ActionFits l (length l.routines) need a → IsNoLoop a → need ≤ 2 * length l.items + 2 → Ran l (add_item l at a need)
added_ran l at a need fits plain bound =
    let m : Layer = add_item l at a need in
    let o : Onward l m = record { grew = kept_grew l m refl; extents = refl; room = omega arith; reference_room = omega arith; arguments = omega arith } in
    let p : Pending = record { action = a; line = slice_index l.lines at; need = need } in
    record {
      kept = refl;
      extents = refl;
      room = omega arith;
      reference_room = omega arith;
      arguments = omega arith;
      more = p ∷ [];
      pending = refl;
      calls = (record { action = action_onward l m (length l.routines) need need a (omega arith) o fits; plain = plain; bound = bound }, tt);
    }

assigned_fits : (l m : Layer) (r : ℕ) (p : Place) (v : Value) (t : CellType) → ActionFits m r 0 (assign_by_type l p v t) × IsNoLoop (assign_by_type l p v t)
assigned_fits l m r p v (types.Ordinal q) = (tt, tt)
assigned_fits l m r p v _ = (tt, tt)

performed_fits : (m : Layer) (r : ℕ) (p : PredeclaredRoutine) (v : Value) → ActionFits m r 0 (standard_action p v) × IsNoLoop (standard_action p v)
performed_fits m r predeclared.Delay v = (tt, tt)
performed_fits m r _ v = (tt, tt)

begun_is : (l m : Layer) (d : Designated) → Named m → DesignatedIn m d → length m.routines ≡ length l.routines → IsBegun (λ r. r ≤ length l.routines) m (component_place_of d)
begun_is l m (a_component c k) n h e = let lt = initial_below m k n h in omega (arith, lt, e)
begun_is l m _ n h e = tt

ran_items : (l : Layer) → Ground l → ItemSteps (Ran l) (λ r. r ≤ length l.routines)
ran_items l g =
    record {
      nothing = λ m at h. ran_trans l m (add_item m at code.nothing 0) h (added_ran m at code.nothing 0 tt tt (omega arith));
      assigns = λ m at p v t h. (let f = assigned_fits m m (length m.routines) p v t in ran_trans l m (add_item m at (assign_by_type m p v t) 0) h (added_ran m at (assign_by_type m p v t) 0 f.0 f.1 (omega arith)));
      performs = λ m at q v h. (let f = performed_fits m (length m.routines) q v in ran_trans l m (add_item m at (standard_action q v) 0) h (added_ran m at (standard_action q v) 0 f.0 f.1 (omega arith)));
      invokes = λ m r at c b as' i e h. call m r at (code.call r c b as' None) (length as') h (λ k routine need f. f) tt i e;
      begins = λ m d h i. begun_is l (designator m d).1 (designator m d).0 (ground_kept l (designator m d).1 i.kept g).named
          (designated_kept l (designator m d).1 (designator m d).0 i.kept (designated_back l m (designator m d).0 h.kept (designator_there m d (ground_kept l m h.kept g).named))) (ap (λ (j : Layer). length j.routines) i.kept);
      start = λ m r at c as' i e h. call m r at (code.start c r as') (length as') h (λ k routine need f. f) tt i e;
    }
  where
    call : (m : Layer) (r at : ℕ) (a : Action) (count : ℕ) → Ran l m → ((k : Layer) (routine need : ℕ) → CallFits k routine need r count → ActionFits k routine need a) → IsNoLoop a → r ≤ length l.routines → count ≤ m.arguments → Ran l (add_item (with_room m r) at a (call_need m r))
    call m r at a count h fits plain le e = ran_trans l m (add_item (with_room m r) at a (call_need m r)) h (call_step m at r a count fits plain (still_below l m r h le) e (ground_kept l m h.kept g))

-- ---- items with lists inside

abbrev ListIn : Layer → Option ℕ → Type 0
ListIn l o = ListFits l.items (length l.routines) (need_of l.items o) o

inside_bound : (l : Layer) (o : Option ℕ) → Ground l → ListIn l o → need_inside l.items o ≤ 2 * length l.items + 1
inside_bound l o g h = inside_bounded l.items (length l.routines) (need_of l.items o) o g.bounded h

blocked_ran : (l : Layer) (at : ℕ) (o : Option ℕ) → Ground l → ListIn l o → Ran l (block_item l at o)
blocked_ran l at o g h = let b = inside_bound l o g h in added_ran l at (code.block o) (need_inside l.items o) (h, omega arith) tt (omega (arith, b))

cycled_ran : (l : Layer) (at : ℕ) (o : Option ℕ) → Ground l → ListIn l o → Ran l (cycle_item l at o)
cycled_ran l at o g h = let b = inside_bound l o g h in added_ran l at (code.cycle o) (need_inside l.items o) (h, omega arith) tt (omega (arith, b))

listed_kept : (k j : Layer) (o : Option ℕ) → Kept k j → ListIn k o → ListIn j o
listed_kept k j o h f = list_kept k j o h f

chosen_ran : (l : Layer) (at : ℕ) (e : syntax.Expression) (s t : Option ℕ) → Ground l → ListIn l s → ListIn l t → Ran l (choose l at e s t)
unfolding choose
chosen_ran l at e s t g h i =
    let x = expression l e in
    let q : Ran l x.1 = expression_ran l e g in
    let y : Ground x.1 = ground_kept l x.1 q.kept g in
    let u : ListIn x.1 s = listed_kept l x.1 s q.kept h in
    let v : ListIn x.1 t = listed_kept l x.1 t q.kept i in
    let a = inside_bound x.1 s y u in
    let b = inside_bound x.1 t y v in
    ran_trans l x.1 (choose l at e s t) q (added_ran x.1 at (code.choose (ordinal_of x.0) s t) (max (need_inside x.1.items s) (need_inside x.1.items t)) ((u, omega arith), (v, omega arith)) tt (omega (arith, a, b)))

for_ran : (l : Layer) (at : ℕ) (n : List ℕ) (e : syntax.Expression) (d : Direction) (f : syntax.Expression) (o : Option ℕ) → Ground l → ListIn l o → Ran l (for_item l at n e d f o)
unfolding for_item
for_ran l at n e d f o g h =
    let x = expression l e in
    let y = expression x.1 f in
    let q : Ran l y.1 = then_ran l x.1 y.1 (expression_ran l e g) (expression_ran x.1 f) g in
    let u : ListIn y.1 o = listed_kept l y.1 o q.kept h in
    let b = inside_bound y.1 o (ground_kept l y.1 q.kept g) u in
    ran_trans l y.1 (for_item l at n e d f o) q (added_ran y.1 at (code.for_do _ _ _ _ _ _ o) (need_inside y.1.items o) (u, omega arith) tt (omega (arith, b)))

assertion_ran : (l : Layer) (at : ℕ) (k : AssertionKind) (e : syntax.Expression) → Ground l → Ran l (assertion l at k e)
unfolding assertion
assertion_ran l at k e g = let x = expression l e in ran_trans l x.1 (assertion l at k e) (expression_ran l e g) (added_ran x.1 at (code.assert_that _ _) 0 tt tt (omega arith))

-- ---- arms

abbrev ArmsIn : Layer → List Arm → Type 0
ArmsIn l [] = Unit {0}
ArmsIn l (a ∷ as') = ListIn l a.body × ArmsIn l as'

arms_from : (l : Layer) (n : ℕ) (as' : List Arm) → n ≤ arms_need l n as'
arms_from l n [] = omega arith
arms_from l n (a ∷ as') = let h = arms_from l (max (need_inside l.items a.body) n) as' in omega (arith, h)

arms_fit : (l : Layer) (n need : ℕ) (as' : List Arm) → arms_need l n as' ≤ need → ArmsIn l as' → ArmsFit l.items (length l.routines) need as'
arms_fit l n need [] le h = tt
arms_fit l n need (a ∷ as') le h =
    let b = arms_from l (max (need_inside l.items a.body) n) as' in
    ((h.0, omega (arith, b, le)), arms_fit l (max (need_inside l.items a.body) n) need as' le h.1)

arms_bound : (l : Layer) (n : ℕ) (as' : List Arm) → Ground l → n ≤ 2 * length l.items + 2 → ArmsIn l as' → arms_need l n as' ≤ 2 * length l.items + 2
arms_bound l n [] g le h = le
arms_bound l n (a ∷ as') g le h = let b = inside_bound l a.body g h.0 in arms_bound l (max (need_inside l.items a.body) n) as' g (omega (arith, b, le)) h.1

arms_kept : (k j : Layer) (as' : List Arm) → Kept k j → ArmsIn k as' → ArmsIn j as'
arms_kept k j [] h f = tt
arms_kept k j (a ∷ as') h f = (listed_kept k j a.body h f.0, arms_kept k j as' h f.1)

selected_ran : (l : Layer) (at : ℕ) (e : syntax.Expression) (as' : List Arm) → Ground l → ArmsIn l as' → Ran l (select l at e as')
unfolding select
selected_ran l at e as' g h =
    let x = expression l e in
    let q : Ran l x.1 = expression_ran l e g in
    let u : ArmsIn x.1 as' = arms_kept l x.1 as' q.kept h in
    let y : Ground x.1 = ground_kept l x.1 q.kept g in
    ran_trans l x.1 (select l at e as') q (added_ran x.1 at (code.select (ordinal_of x.0) as') (arms_need x.1 0 as') (arms_fit x.1 0 (arms_need x.1 0 as') as' (omega arith) u) tt (arms_bound x.1 0 as' y (omega arith) u))

list_onward : (l m : Layer) (o : Option ℕ) → Onward l m → ListIn l o → ListIn m o
list_onward l m o w h = rw (onward_items l m w, onward_routines l m w, need_longer l.items w.grew.0 (length l.routines) (need_of l.items o) o h) (list_longer l.items w.grew.0 (length l.routines) (need_of l.items o) o h)

-- ---- loops

while_fitted : (k : Layer) (at : ℕ) (e : syntax.Expression) (body next : Option ℕ) → Fitted k next → ListIn k body → Result k (settle_items (while_item k at e body) next)
unfolding while_item
while_fitted k at e body next f h =
    let w = expression k e in
    let q : Ran k w.1 = expression_ran k e f.ground in
    loop_settled k w.1 next body (code.while_do (ordinal_of w.0) body (again w.1)) (slice_index w.1.lines at) f q (listed_kept k w.1 body q.kept h) (λ l r n i. i) (λ is r n i. i)

until_fitted : (k : Layer) (at : ℕ) (e : syntax.Expression) (body next : Option ℕ) → Fitted k next → ListIn k body → Result k (settle_items (until_item k at e body) next)
unfolding until_item
until_fitted k at e body next f h =
    let w = expression k e in
    let q : Ran k w.1 = expression_ran k e f.ground in
    loop_settled k w.1 next body (code.until (ordinal_of w.0) body (again w.1)) (slice_index w.1.lines at) f q (listed_kept k w.1 body q.kept h) (λ l r n i. i) (λ is r n i. i)

-- ---- statements

then_result : (l : Layer) (x y : Option ℕ × Layer) → Result l x → Result x.1 y → Result l y
then_result l x y r s = record { onward = onward_trans l x.1 y.1 r.onward s.onward; fitted = s.fitted }

onward_result : (l k : Layer) (y : Option ℕ × Layer) → Onward l k → Result k y → Result l y
onward_result l k y w s = record { onward = onward_trans l k y.1 w s.onward; fitted = s.fitted }

pub record ArmsResult (l : Layer) (x : List Arm × Layer) : Type 0 where
  pub onward : Onward l x.1
  pub fitted : Fitted x.1 None
  pub arms : ArmsIn x.1 x.0

starts_fitted : (l : Layer) (ts : List syntax.Start) (next : Option ℕ) → Fitted l next → Result l (starts l ts next)
unfolding starts
starts_fitted l [] next f = record { onward = onward_same l; fitted = f }
starts_fitted l (t ∷ ts) next f =
    let x : Option ℕ × Layer = starts l ts next in
    let r : Result l x = starts_fitted l ts next f in
    then_result l x (settle_items (start_statement x.1 t) x.0) r (own_item x.1 (start_statement x.1 t) x.0 r.fitted (started_walked (ran_calls x.1 r.fitted.ground) (ran_items x.1 r.fitted.ground) x.1 t (ran_same x.1) never))

repeated_fitted : (l : Layer) (at : ℕ) (x : Option ℕ × Layer) (e : syntax.Expression) (next : Option ℕ) → Fitted l next → Result l x → Result l (repeat_items x.1 at x.0 e next)
repeated_fitted l at x e next f r =
    let y : Option ℕ × Layer = settle_items (until_item x.1 (token_of e) e x.0) next in
    let q : Result x.1 y = until_fitted x.1 (token_of e) e x.0 next (moved l x.1 next x.0 r.onward f r.fitted) r.fitted.first in
    let b : Ran y.1 (block_item y.1 at x.0) = blocked_ran y.1 at x.0 q.fitted.ground (list_onward x.1 y.1 x.0 q.onward r.fitted.first) in
    then_result l y (repeat_items x.1 at x.0 e next) (then_result l x y r q) (own_item y.1 (block_item y.1 at x.0) y.0 q.fitted b)

mutual
  unfolding statements statement arms one_arm

  pub statements_fitted : (l : Layer) (ss : syntax.Statements) (after : Option ℕ) → Fitted l after → Result l (statements l ss after)
  statements_fitted l syntax.no_statements after f = record { onward = onward_same l; fitted = f }
  statements_fitted l (syntax.more_statements t ts) after f =
      let x : Option ℕ × Layer = statements l ts after in
      let r : Result l x = statements_fitted l ts after f in
      then_result l x (statement x.1 t x.0) r (statement_fitted x.1 t x.0 r.fitted)

  pub statement_fitted : (l : Layer) (t : syntax.Statement) (next : Option ℕ) → Fitted l next → Result l (statement l t next)
  statement_fitted l (syntax.empty at) next f = own_item l (add_item l at code.nothing 0) next f (added_ran l at code.nothing 0 tt tt (omega arith))
  statement_fitted l (syntax.assign at d e) next f = own_item l (assign l at d e) next f (assigned_walked (ran_calls l f.ground) (ran_items l f.ground) l at d e (ran_same l) never)
  statement_fitted l (syntax.invoke at d es) next f = own_item l (call_statement l at d es) next f (invoked_walked (ran_calls l f.ground) (ran_items l f.ground) l at d es (ran_same l) never)
  statement_fitted l (syntax.block at ts) next f =
      let x : Option ℕ × Layer = statements l ts None in
      let r : Result l x = statements_fitted l ts None (alone l next f) in
      own_settled l x.1 (block_item x.1 at x.0) next x.0 f r.onward r.fitted (blocked_ran x.1 at x.0 r.fitted.ground r.fitted.first)
  statement_fitted l (syntax.if_then at e t) next f =
      let x : Option ℕ × Layer = statement l t None in
      let r : Result l x = statement_fitted l t None (alone l next f) in
      own_settled l x.1 (choose x.1 at e x.0 None) next x.0 f r.onward r.fitted (chosen_ran x.1 at e x.0 None r.fitted.ground r.fitted.first tt)
  statement_fitted l (syntax.if_else at e t u) next f =
      let x : Option ℕ × Layer = statement l t None in
      let y : Option ℕ × Layer = statement x.1 u None in
      let r : Result l x = statement_fitted l t None (alone l next f) in
      let s : Result x.1 y = statement_fitted x.1 u None (alone x.1 x.0 r.fitted) in
      own_settled l y.1 (choose y.1 at e x.0 y.0) next y.0 f (onward_trans l x.1 y.1 r.onward s.onward) s.fitted (chosen_ran y.1 at e x.0 y.0 s.fitted.ground (list_onward x.1 y.1 x.0 s.onward r.fitted.first) s.fitted.first)
  statement_fitted l (syntax.case_of at e as' b) next f =
      let x : List Arm × Layer = arms l as' in
      let r : ArmsResult l x = arms_fitted l as' (alone l next f) in
      own_settled l x.1 (select x.1 at e x.0) next None f r.onward r.fitted (selected_ran x.1 at e x.0 r.fitted.ground r.arms)
  statement_fitted l (syntax.while_do at e t) next f =
      let x : Option ℕ × Layer = statement l t None in
      let r : Result l x = statement_fitted l t None (alone l next f) in
      onward_result l x.1 (settle_items (while_item x.1 at e x.0) next) r.onward (while_fitted x.1 at e x.0 next (moved l x.1 next x.0 r.onward f r.fitted) r.fitted.first)
  statement_fitted l (syntax.repeat_until at ts e) next f = repeated_fitted l at (statements l ts None) e next f (statements_fitted l ts None (alone l next f))
  statement_fitted l (syntax.for_do at i e d g t) next f =
      let x : Option ℕ × Layer = statement l t None in
      let r : Result l x = statement_fitted l t None (alone l next f) in
      own_settled l x.1 (for_item x.1 at i.name e d g x.0) next x.0 f r.onward r.fitted (for_ran x.1 at i.name e d g x.0 r.fitted.ground r.fitted.first)
  statement_fitted l (syntax.cycle at ts) next f =
      let x : Option ℕ × Layer = statements l ts None in
      let r : Result l x = statements_fitted l ts None (alone l next f) in
      own_settled l x.1 (cycle_item x.1 at x.0) next x.0 f r.onward r.fitted (cycled_ran x.1 at x.0 r.fitted.ground r.fitted.first)
  statement_fitted l (syntax.init at ts) next f = starts_fitted l ts next f
  statement_fitted l (syntax.asserted at k e t) next f =
      let x : Option ℕ × Layer = statement l t next in
      let r : Result l x = statement_fitted l t next f in
      then_result l x (settle_items (assertion x.1 at k e) x.0) r (own_item x.1 (assertion x.1 at k e) x.0 r.fitted (assertion_ran x.1 at k e r.fitted.ground))

  arms_fitted : (l : Layer) (as' : syntax.Arms) → Fitted l None → ArmsResult l (arms l as')
  arms_fitted l syntax.no_arms f = record { onward = onward_same l; fitted = f; arms = tt }
  arms_fitted l (syntax.more_arms a as') f =
      let x : Arm × Layer = one_arm l a in
      let r : Result l (x.0.body, x.1) = arm_fitted l a f in
      let s : ArmsResult x.1 (arms x.1 as') = arms_fitted x.1 as' (alone x.1 x.0.body r.fitted) in
      record { onward = onward_trans l x.1 (arms x.1 as').1 r.onward s.onward; fitted = s.fitted; arms = (list_onward x.1 (arms x.1 as').1 x.0.body s.onward r.fitted.first, s.arms) }

  arm_fitted : (l : Layer) (a : syntax.Arm) → Fitted l None → Result l ((one_arm l a).0.body, (one_arm l a).1)
  arm_fitted l (syntax.arm labels t) f = statement_fitted l t None f

-- ---- bodies

-- the checks at the end
ended_fitted : (l : Layer) (checks : Bool) → Fitted l None → Result l (end_of_body l checks)
ended_fitted l true f = own_item l (check_invariants l 0) None f (checked_walked (ran_calls l f.ground) (ran_items l f.ground) l 0 (ran_same l) never)
ended_fitted l false f = own_item l l None f (ran_same l)

pub body_fitted : (l : Layer) (ss : syntax.Statements) (checks : Bool) → Fitted l None → Result l (body_items l ss checks)
body_fitted l ss checks f =
    let x : Option ℕ × Layer = end_of_body l checks in
    let r : Result l x = ended_fitted l checks f in
    then_result l x (statements x.1 ss x.0) r (statements_fitted x.1 ss x.0 r.fitted)
