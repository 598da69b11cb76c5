-- What the calls in an expression need: each is an item whose callee is there, and the frame that is laid out has room for it.
use Rattle.std.proofs.Common.{◌≡◌, ℕ, ◌+◌, ◌*◌, ◌<◌, ◌≤◌, Bool, List, [], ◌∷◌, ◌++◌, length, Option, Some, None, slice_get, slice_index, refl, sym, ap, subst, ◌∙◌, ◌⊎◌, inl, inr, append_assoc, append-nil, arith, length-append}
use Rattle.cp_resolved.proofs.Words.{Each, slice_get_within, plus, RoutineView}
use Rattle.cp_tree.specs.Syntax as syntax
use Rattle.cp_symbols.specs.declared.names.LayoutMeaning.TheVariants as meaning
use Rattle.cp_slots.specs.Code as code
use Rattle.cp_slots.specs.Code.{ComponentPlace, Argument, Arm, Action, Item}
use Rattle.cp_layout.specs.Values.{Designated, a_routine, an_entry, ordinal_of}
use Rattle.cp_layout.specs.Layers as layers
use Rattle.cp_layout.specs.Layers.{Layer, Frame, Pending, with_cell, with_room, frame_with, body_of, call_need, need_of, need_inside, item_need}
use Rattle.cp_layout.specs.LaidExpressions.{expression, designator, selectors, selector, name_meaning, element_of_designated, with_count}
use Rattle.cp_resolved.proofs.names.Entries.{not_there, past_there}
use Rattle.cp_resolved.proofs.laid.Fitting.{ListFits, list_longer, need_longer}
use Rattle.cp_resolved.proofs.laid.Grown.{Grew, grew_trans, kept_grew}
use Rattle.cp_resolved.proofs.laid.Kept.{Kept, kept_trans, expression_kept, selector_kept}
use Rattle.cp_resolved.proofs.laid.Named.{Named, IsFound, found, DesignatedIn, begun_there, field_there, element_there}
use Rattle.cp_resolved.proofs.laid.Walked.{IsCallee, CallSteps, never, expression_walked}
use Rattle.cp_resolved.proofs.frames.FrameCells.{each_both}

-- ---- what an action needs

-- a list inside an item
abbrev pub InnerFits : List Item → (routine need : ℕ) → Option ℕ → Type 0
InnerFits is routine need o = ListFits is routine (need_of is o) o × (need_inside is o ≤ need)

abbrev pub ArmsFit : List Item → (routine need : ℕ) → List Arm → Type 0
ArmsFit is routine need [] = Unit {0}
ArmsFit is routine need (a ∷ as') = InnerFits is routine need a.body × ArmsFit is routine need as'

-- the room of a routine that is whole, or what the frame that is laid out has so far
abbrev pub RoomFits : Option RoutineView → Frame → RoutineView → Type 0
RoomFits None f callee = (callee.room ≤ f.room) × (callee.reference_room ≤ f.reference_room)
RoomFits (Some caller) f callee = (plus (length caller.image) callee.room ≤ caller.room) × (plus caller.references callee.reference_room ≤ caller.reference_room)

pub record Calls (l : Layer) (routine need callee : ℕ) : Type 0 where
  pub view : RoutineView
  pub there : slice_get l.routines callee ≡ Some view
  pub body : ListFits l.items callee (need_of l.items view.body) view.body
  pub deep : plus (need_of l.items view.body) 2 ≤ need
  pub room : RoomFits (slice_get l.routines routine) l.frame view

-- a call of a whole routine, or of the one that it stands in
abbrev pub CallFits : Layer → (routine need callee count : ℕ) → Type 0
CallFits l routine need callee count = ((callee ≡ routine) ⊎ Calls l routine need callee) × (count ≤ l.arguments)

-- where a loop begins again is another matter
abbrev pub ActionFits : Layer → (routine need : ℕ) → Action → Type 0
ActionFits l routine need (code.block list) = InnerFits l.items routine need list
ActionFits l routine need (code.cycle list) = InnerFits l.items routine need list
ActionFits l routine need (code.choose e first other) = InnerFits l.items routine need first × InnerFits l.items routine need other
ActionFits l routine need (code.select e as') = ArmsFit l.items routine need as'
ActionFits l routine need (code.while_do e body again) = InnerFits l.items routine need body
ActionFits l routine need (code.until e body again) = InnerFits l.items routine need body
ActionFits l routine need (code.for_do v low high e f down body) = InnerFits l.items routine need body
ActionFits l routine need (code.call callee c b as' result) = CallFits l routine need callee (length as')
ActionFits l routine need (code.start c callee as') = CallFits l routine need callee (length as')
ActionFits l routine need a = Unit {0}

abbrev pub IsNoLoop : Action → Type 0
IsNoLoop (code.while_do e body again) = ⊥
IsNoLoop (code.until e body again) = ⊥
IsNoLoop a = Unit {0}

-- an item that is to come: what it needs is there, and bounded by the items so far
pub record PendingFits (l : Layer) (routine : ℕ) (p : Pending) : Type 0 where
  pub action : ActionFits l routine p.need p.action
  pub plain : IsNoLoop p.action
  pub bound : p.need ≤ 2 * length l.items + 2

abbrev pub AllFit : Layer → (routine : ℕ) → List Pending → Type 0
AllFit l routine ps = Each (PendingFits l routine) ps

-- ---- kept while the tables grow

pub record Onward (l m : Layer) : Type 0 where
  pub grew : Grew l m
  pub extents : m.frame.extents ≡ l.frame.extents
  pub room : l.frame.room ≤ m.frame.room
  pub reference_room : l.frame.reference_room ≤ m.frame.reference_room
  pub arguments : l.arguments ≤ m.arguments

pub onward_trans : (l k m : Layer) → Onward l k → Onward k m → Onward l m
onward_trans l k m h i =
    record {
      grew = grew_trans l k m h.grew i.grew;
      extents = i.extents ∙ h.extents;
      room = let a = h.room in let b = i.room in omega (arith, a, b);
      reference_room = let a = h.reference_room in let b = i.reference_room in omega (arith, a, b);
      arguments = let a = h.arguments in let b = i.arguments in omega (arith, a, b);
    }

pub onward_items : (l m : Layer) (h : Onward l m) → m.items ≡ l.items ++ h.grew.0
onward_items l m h = ap (λ (j : Layer). j.items) h.grew.1

pub onward_routines : (l m : Layer) → Onward l m → m.routines ≡ l.routines
onward_routines l m h = ap (λ (j : Layer). j.routines) h.grew.1

inner_longer : (is more : List Item) (r n : ℕ) (o : Option ℕ) → ListFits is r n o → need_inside (is ++ more) o ≡ need_inside is o
inner_longer is more r n None h = refl
inner_longer is more r n (Some at) h = ap (λ k. plus k 1) (need_longer is more r n (Some at) h)

pub inner_onward : (is more : List Item) (r n k : ℕ) (o : Option ℕ) → n ≤ k → InnerFits is r n o → InnerFits (is ++ more) r k o
inner_onward is more r n k o le h =
    let e : need_inside (is ++ more) o ≡ need_inside is o = inner_longer is more r (need_of is o) o h.0 in
    let b : need_inside is o ≤ n = h.1 in
    (rw (need_longer is more r (need_of is o) o h.0) (list_longer is more r (need_of is o) o h.0), rw e (omega (arith, le, b)))

arms_onward : (is more : List Item) (r n k : ℕ) (as' : List Arm) → n ≤ k → ArmsFit is r n as' → ArmsFit (is ++ more) r k as'
arms_onward is more r n k [] le h = tt
arms_onward is more r n k (a ∷ as') le h = (inner_onward is more r n k a.body le h.0, arms_onward is more r n k as' le h.1)

room_onward : (o : Option RoutineView) (f g : Frame) (c : RoutineView) → f.room ≤ g.room → f.reference_room ≤ g.reference_room → RoomFits o f c → RoomFits o g c
room_onward None f g c a b h = let u = h.0 in let v = h.1 in (omega (arith, a, u), omega (arith, b, v))
room_onward (Some r) f g c a b h = h

calls_onward : (l m : Layer) (r n k c : ℕ) → n ≤ k → Onward l m → Calls l r n c → Calls m r k c
calls_onward l m r n k c le o h =
    let more : List Item = o.grew.0 in
    let e : need_of (l.items ++ more) h.view.body ≡ need_of l.items h.view.body = need_longer l.items more c (need_of l.items h.view.body) h.view.body h.body in
    let d : plus (need_of l.items h.view.body) 2 ≤ n = h.deep in
    record {
      view = h.view;
      there = rw (onward_routines l m o) h.there;
      body = rw (onward_items l m o, e) (list_longer l.items more c (need_of l.items h.view.body) h.view.body h.body);
      deep = rw (onward_items l m o, e) (omega (arith, le, d));
      room = rw (onward_routines l m o) (room_onward (slice_get l.routines r) l.frame m.frame h.view o.room o.reference_room h.room);
    }

call_onward : (l m : Layer) (r n k c count : ℕ) → n ≤ k → Onward l m → CallFits l r n c count → CallFits m r k c count
call_onward l m r n k c count le o h = (go h.0, let a = o.arguments in let b = h.1 in omega (arith, a, b))
  where
    go : (c ≡ r) ⊎ Calls l r n c → (c ≡ r) ⊎ Calls m r k c
    go (inl e) = inl e
    go (inr g) = inr (calls_onward l m r n k c le o g)

pub action_onward : (l m : Layer) (r n k : ℕ) (a : Action) → n ≤ k → Onward l m → ActionFits l r n a → ActionFits m r k a
action_onward l m r n k (code.block list) le o h = rw (onward_items l m o) (inner_onward l.items o.grew.0 r n k list le h)
action_onward l m r n k (code.cycle list) le o h = rw (onward_items l m o) (inner_onward l.items o.grew.0 r n k list le h)
action_onward l m r n k (code.choose e s t) le o h = rw (onward_items l m o) (inner_onward l.items o.grew.0 r n k s le h.0, inner_onward l.items o.grew.0 r n k t le h.1)
action_onward l m r n k (code.select e as') le o h = rw (onward_items l m o) (arms_onward l.items o.grew.0 r n k as' le h)
action_onward l m r n k (code.while_do e body again) le o h = rw (onward_items l m o) (inner_onward l.items o.grew.0 r n k body le h)
action_onward l m r n k (code.until e body again) le o h = rw (onward_items l m o) (inner_onward l.items o.grew.0 r n k body le h)
action_onward l m r n k (code.for_do v low high e f down body) le o h = rw (onward_items l m o) (inner_onward l.items o.grew.0 r n k body le h)
action_onward l m r n k (code.call c p b as' result) le o h = call_onward l m r n k c (length as') le o h
action_onward l m r n k (code.start p c as') le o h = call_onward l m r n k c (length as') le o h
action_onward l m r n k _ le o h = tt

pub all_onward : (l m : Layer) (r : ℕ) (ps : List Pending) → Onward l m → AllFit l r ps → AllFit m r ps
all_onward l m r [] o h = tt
all_onward l m r (p ∷ ps) o h =
    let b : p.need ≤ 2 * length l.items + 2 = h.0.bound in
    let e : length m.items ≡ length l.items + length o.grew.0 = ap (λ (is : List Item). length is) (onward_items l m o) ∙ length-append l.items o.grew.0 in
    (record { action = action_onward l m r p.need p.need p.action (omega arith) o h.0.action; plain = h.0.plain; bound = omega (arith, b, e) }, all_onward l m r ps o h.1)

-- ---- what an expression does

pub record Ran (l m : Layer) : Type 0 where
  pub kept : Kept l m
  pub extents : m.frame.extents ≡ l.frame.extents
  pub room : l.frame.room ≤ m.frame.room
  pub reference_room : l.frame.reference_room ≤ m.frame.reference_room
  pub arguments : l.arguments ≤ m.arguments
  pub more : List Pending
  pub pending : m.pending ≡ l.pending ++ more
  pub calls : AllFit m (length l.routines) more

pub ran_onward : (l m : Layer) → Ran l m → Onward l m
ran_onward l m h = record { grew = kept_grew l m h.kept; extents = h.extents; room = h.room; reference_room = h.reference_room; arguments = h.arguments }

pub ran_same : (l : Layer) → Ran l l
ran_same l = record { kept = refl; extents = refl; room = omega arith; reference_room = omega arith; arguments = omega arith; more = []; pending = sym (append-nil l.pending); calls = tt }

pub ran_trans : (l k m : Layer) → Ran l k → Ran k m → Ran l m
ran_trans l k m h i =
    let o : Onward l m = onward_trans l k m (ran_onward l k h) (ran_onward k m i) in
    let e : length k.routines ≡ length l.routines = ap (λ (j : Layer). length j.routines) h.kept in
    record {
      kept = kept_trans l k m h.kept i.kept;
      extents = o.extents;
      room = o.room;
      reference_room = o.reference_room;
      arguments = o.arguments;
      more = h.more ++ i.more;
      pending = i.pending ∙ ap (λ (ps : List Pending). ps ++ i.more) h.pending ∙ append_assoc l.pending h.more i.more;
      calls = each_both (PendingFits m (length l.routines)) h.more i.more (all_onward k m (length l.routines) h.more (ran_onward k m i) h.calls) (subst (λ r. AllFit m r i.more) e i.calls);
    }

-- ---- what stands while an expression is laid out

-- names lead to what is there, each body is a list of its routine, and needs are bounded
pub record Ground (l : Layer) : Type 0 where
  pub named : Named l
  pub bodies : (n : ℕ) (r : RoutineView) → slice_get l.routines n ≡ Some r → ListFits l.items n (need_of l.items r.body) r.body
  pub bounded : (at : ℕ) (i : Item) → slice_get l.items at ≡ Some i → i.need ≤ 2 * at + 2

pub ground_kept : (l m : Layer) → Kept l m → Ground l → Ground m
ground_kept l m h g = subst (λ (j : Layer). Ground j) (sym h) (record { named = record { names = g.named.names; types = g.named.types; systems = g.named.systems }; bodies = g.bodies; bounded = g.bounded })

named_kept : (l m : Layer) → Kept l m → Named l → Named m
named_kept l m h n = subst (λ (j : Layer). Named j) (sym h) (record { names = n.names; types = n.types; systems = n.systems })

pub need_bounded : (is : List Item) (r n : ℕ) (o : Option ℕ) → ((at : ℕ) (i : Item) → slice_get is at ≡ Some i → i.need ≤ 2 * at + 2) → ListFits is r n o → need_of is o ≤ 2 * length is
need_bounded is r n None g h = omega arith
need_bounded is r n (Some at) g h =
    let e : need_of is (Some at) ≡ h.item.need = ap item_need h.there in
    let b : h.item.need ≤ 2 * at + 2 = g at h.item h.there in
    let lt : at < length is = slice_get_within is at h.item h.there in
    omega (arith, e, b, lt)

pub designated_kept : (l m : Layer) (d : Designated) → Kept l m → DesignatedIn l d → DesignatedIn m d
designated_kept l m d h g = subst (λ (j : Layer). DesignatedIn j d) (sym h) g

pub designated_back : (l m : Layer) (d : Designated) → Kept l m → DesignatedIn m d → DesignatedIn l d
designated_back l m d h g = subst (λ (j : Layer). DesignatedIn j d) h g

-- ---- one call

call_fits : (l m : Layer) (r count : ℕ) (o : Option RoutineView) → m.items ≡ l.items → m.routines ≡ l.routines → frame_with l.frame o ≡ m.frame → l.arguments ≡ m.arguments → slice_get l.routines r ≡ o → r ≤ length l.routines → count ≤ l.arguments → Ground l
    → CallFits m (length l.routines) (plus (need_of l.items (body_of o)) 2) r count
call_fits l m r count None is rs f as' e le c g =
    let past : length l.routines ≤ r = not_there l.routines r e in
    (inl (omega (arith, le, past)), omega (arith, as', c))
call_fits l m r count (Some v) is rs f as' e le c g = (
  inr (record {
    view = v;
    there = rw rs e;
    body = rw is (g.bodies r v e);
    deep = rw is (omega arith);
    room = rw (rs, past_there l.routines, ← f) (omega arith, omega arith);
  }),
  omega (arith, as', c),
)

need_step : (l : Layer) (r : ℕ) (o : Option RoutineView) → slice_get l.routines r ≡ o → Ground l → need_of l.items (body_of o) ≤ 2 * length l.items
need_step l r None e g = omega arith
need_step l r (Some v) e g = need_bounded l.items r (need_of l.items v.body) v.body g.bounded (g.bodies r v e)

frame_more : (f : Frame) (o : Option RoutineView) → ((frame_with f o).extents ≡ f.extents) × (f.room ≤ (frame_with f o).room) × (f.reference_room ≤ (frame_with f o).reference_room)
frame_more f None = (refl, omega arith, omega arith)
frame_more f (Some v) = (refl, omega arith, omega arith)

-- an item that is a call or a start, and the room for it
pub call_step : (l : Layer) (at r : ℕ) (a : Action) (count : ℕ) → ((m : Layer) (routine need : ℕ) → CallFits m routine need r count → ActionFits m routine need a) → IsNoLoop a → r ≤ length l.routines → count ≤ l.arguments → Ground l
    → Ran l (layers.add_item (with_room l r) at a (call_need l r))
call_step l at r a count fits plain le c g =
    let m : Layer = layers.add_item (with_room l r) at a (call_need l r) in
    let o : Option RoutineView = slice_get l.routines r in
    let f = frame_more l.frame o in
    let b : need_of l.items (body_of o) ≤ 2 * length l.items = need_step l r o refl g in
    let n : call_need l r ≤ 2 * length l.items + 2 = omega (arith, b) in
    let p : Pending = record { action = a; line = slice_index l.lines at; need = call_need l r } in
    record {
      kept = refl;
      extents = f.0;
      room = f.1;
      reference_room = f.2;
      arguments = omega arith;
      more = p ∷ [];
      pending = refl;
      calls = (record { action = fits m (length l.routines) (call_need l r) (call_fits l m r count o refl refl refl refl refl le c g); plain = plain; bound = n }, tt);
    }

cell_ran : (l : Layer) → Ran l (with_cell l)
cell_ran l = record { kept = refl; extents = refl; room = omega arith; reference_room = omega arith; arguments = omega arith; more = []; pending = sym (append-nil l.pending); calls = tt }

count_ran : (l : Layer) (n : ℕ) → Ran l (with_count l n)
count_ran l n = record { kept = refl; extents = refl; room = omega arith; reference_room = omega arith; arguments = omega arith; more = []; pending = sym (append-nil l.pending); calls = tt }

called_ran : (l : Layer) (at : ℕ) (c : ComponentPlace) (b : Bool) (r : ℕ) (as' : List Argument) → r ≤ length l.routines → length as' ≤ l.arguments → Ground l
    → Ran l (layers.add_item (with_room (with_cell l) r) at (code.call r c b as' (Some (length l.frame.image))) (call_need (with_cell l) r))
called_ran l at c b r as' le n g =
    let k : Layer = with_cell l in
    let a : Action = code.call r c b as' (Some (length l.frame.image)) in
    ran_trans l k (layers.add_item (with_room k r) at a (call_need k r)) (cell_ran l) (call_step k at r a (length as') (λ m routine need h. h) tt le n (ground_kept l k refl g))

-- ---- designators

selector_there : (l : Layer) (d : Designated) (s : syntax.Selector) → Named l → DesignatedIn l d → DesignatedIn l (selector l d s).0
unfolding selector
selector_there l d (syntax.field i) n h = field_there l d i.name n
selector_there l d (syntax.index e) n h =
    let m : Layer = (expression l e).1 in
    let k : Kept l m = expression_kept l e in
    designated_back l m (element_of_designated m d (ordinal_of (expression l e).0)) k (element_there m d (ordinal_of (expression l e).0) (named_kept l m k n))

selectors_there : (l : Layer) (d : Designated) (ss : syntax.Selectors) → Named l → DesignatedIn l d → DesignatedIn l (selectors l d ss).0
unfolding selectors
selectors_there l d syntax.no_selectors n h = h
selectors_there l d (syntax.more_selectors s ss) n h =
    let x : Designated × Layer = selector l d s in
    let k : Kept l x.1 = selector_kept l d s in
    designated_back l x.1 (selectors x.1 x.0 ss).0 k (selectors_there x.1 x.0 ss (named_kept l x.1 k n) (designated_kept l x.1 x.0 k (selector_there l d s n h)))

pub designator_there : (l : Layer) (d : syntax.Designator) → Named l → DesignatedIn l (designator l d).0
unfolding designator
designator_there l (syntax.designator i ss) n = selectors_there l (name_meaning l i.name) ss n (begun_there l i.name n)

-- ---- expressions

pub then_ran : (l k m : Layer) → Ran l k → (Ground k → Ran k m) → Ground l → Ran l m
then_ran l k m h f g = ran_trans l k m h (f (ground_kept l k h.kept g))

callee_is : (l : Layer) (d : Designated) → DesignatedIn l d → IsCallee (λ r. r ≤ length l.routines) d
callee_is l (a_routine r) h = h
callee_is l (an_entry c r) h = omega arith
callee_is l _ h = tt

pub still_below : (l m : Layer) (r : ℕ) → Ran l m → r ≤ length l.routines → r ≤ length m.routines
still_below l m r h le = let e : length m.routines ≡ length l.routines = ap (λ (j : Layer). length j.routines) h.kept in omega (arith, e, le)

-- what a name stands for, before and after
named_below : (l m : Layer) (r : ℕ) → Ran l m → Named m → layers.find syntax.nameless m.names ≡ Some (meaning.Routine r) → r ≤ length l.routines
named_below l m r h n e =
    let i : r ≤ length m.routines = subst (IsFound (length m.systems) (length m.routines)) e (found (length m.systems) (length m.routines) syntax.nameless m.names n.names) in
    let q : length m.routines ≡ length l.routines = ap (λ (j : Layer). length j.routines) h.kept in
    omega (arith, i, q)

pub ran_calls : (l : Layer) → Ground l → CallSteps (Ran l) (λ r. r ≤ length l.routines) ⊥ (λ x. ⊥)
ran_calls l g =
    record {
      callee = λ m d h b. callee_is l (designator m d).0 (designated_back l m (designator m d).0 h.kept (designator_there m d (named_kept l m h.kept g.named)));
      counts = λ m k h. ran_trans l m (with_count m k) h (count_ran m k);
      call = λ m r at c b as' i e h. ran_trans l m (layers.add_item (with_room (with_cell m) r) at (code.call r c b as' (Some (length m.frame.image))) (call_need (with_cell m) r)) h (called_ran m at c b r as' (still_below l m r h i) e (ground_kept l m h.kept g));
      check = λ m r h b e. named_below l m r h (named_kept l m h.kept g.named) e;
    }

pub expression_ran : (l : Layer) (e : syntax.Expression) → Ground l → Ran l (expression l e).1
expression_ran l e g = expression_walked (ran_calls l g) l e (ran_same l) never
