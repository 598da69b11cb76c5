-- The items of statements have what they need: lists that are there, with their control stack entries counted, callees, and room for their frames.
use Rattle.std.proofs.Common.{◌≡◌, ℕ, ◌+◌, ◌*◌, ◌≤◌, max, List, [], ◌∷◌, ◌++◌, length, Option, Some, None, slice_get, refl, sym, ap, subst, ◌∙◌, ◌⊎◌, inl, inr, arith, length-append}
use Rattle.cp_slots.specs.Code.{Action, Item}
use Rattle.cp_layout.specs.Layers.{Layer, Pending, settle_items, without_pending, again, need_of, need_inside, pending_need}
use Rattle.cp_resolved.proofs.laid.Calling.{ActionFits, InnerFits, PendingFits, AllFit, Onward, onward_trans, onward_items, onward_routines, action_onward, all_onward, inner_onward, Ran, ran_onward, ran_same, Ground, ground_kept, need_bounded}
use Rattle.cp_resolved.proofs.laid.Fitting.{Nests, ListFits, list_wider, list_longer, need_longer}
use Rattle.cp_resolved.proofs.laid.Grown.{kept_grew, settled_grew}
use Rattle.cp_resolved.proofs.laid.Kept.{Kept}
use Rattle.cp_resolved.proofs.laid.Loops.{AreBelow, below_need, need_below, below_more, greatest_last}
use Rattle.cp_resolved.proofs.laid.Settled.{AllOf, Steps, all_steps, Made, greatest, Again, AgainFits, again_none, again_wider, ItemFits, ItemsFit, item_onward, Fitted}

pub onward_same : (l : Layer) → Onward l l
onward_same l = ran_onward l l (ran_same l)

-- a state, and a list that begins it
pub record Result (l : Layer) (x : Option ℕ × Layer) : Type 0 where
  pub onward : Onward l x.1
  pub fitted : Fitted x.1 x.0

-- ---- the items that are to come go into the tables

module _ (P : Pending → Type 0) (j : Layer) (next : Option ℕ) (ground : Ground j) (items : ItemsFit j) (first : ListFits j.items (length j.routines) (need_of j.items next) next) (bound : (p : Pending) → P p → p.need ≤ 2 * length j.items + 2) (all : AllOf P j.pending) where
  steps : Steps P (without_pending j) (need_of j.items next) j.pending (settle_items j next)
  steps = let le : need_of j.items next ≤ 2 * length j.items = need_bounded j.items (length j.routines) (need_of j.items next) next ground.bounded first in all_steps P (without_pending j) next bound first (omega (arith, le)) j.pending all

  settled_onward : Onward j (settle_items j next).1
  settled_onward =
      record {
        grew = settled_grew j next;
        extents = ap (λ (k : Layer). k.frame.extents) steps.layer;
        room = let e : (settle_items j next).1.frame.room ≡ j.frame.room = ap (λ (k : Layer). k.frame.room) steps.layer in omega (arith, e);
        reference_room = let e : (settle_items j next).1.frame.reference_room ≡ j.frame.reference_room = ap (λ (k : Layer). k.frame.reference_room) steps.layer in omega (arith, e);
        arguments = let e : (settle_items j next).1.arguments ≡ j.arguments = ap (λ (k : Layer). k.arguments) steps.layer in omega (arith, e);
      }

  made_bounded : (at : ℕ) (i : Item) → (slice_get j.items at ≡ Some i) ⊎ Made P (length j.routines) (need_of j.items next) (settle_items j next).1.items at i → i.need ≤ 2 * at + 2
  made_bounded at i (inl e) = ground.bounded at i e
  made_bounded at i (inr h) = h.bounded

  settled_ground : Ground (settle_items j next).1
  settled_ground =
      subst (λ (k : Layer). Ground k) (sym steps.layer) (record {
        named = record { names = ground.named.names; types = ground.named.types; systems = ground.named.systems };
        bodies = λ n r e. let h = ground.bodies n r e in rw (need_longer j.items steps.new n (need_of j.items r.body) r.body h) (list_longer j.items steps.new n (need_of j.items r.body) r.body h);
        bounded = λ at i e. made_bounded at i (steps.made at i (ap (λ (is : List Item). slice_get is at) (ap (λ (k : Layer). k.items) steps.layer) ∙ e));
      })

  module _ (holds : (p : Pending) → P p → ActionFits (settle_items j next).1 (length j.routines) (max (need_of j.items next) p.need) p.action × AgainFits (settle_items j next).1.items (length j.routines) (max (need_of j.items next) p.need) p.action) where
    settled_item : (at : ℕ) (i : Item) → (slice_get j.items at ≡ Some i) ⊎ Made P (length j.routines) (need_of j.items next) (settle_items j next).1.items at i → ItemFits (settle_items j next).1 i
    settled_item at i (inl e) = item_onward j (settle_items j next).1 i settled_onward (items at i e)
    settled_item at i (inr h) =
        let m : Layer = (settle_items j next).1 in
        let rs : length m.routines ≡ length j.routines = ap (λ (k : Layer). length k.routines) steps.layer in
        let same : i.routine ≡ length j.routines = h.same in
        let f = holds h.from h.holds in
        record {
          routine = omega (arith, rs, same);
          next = h.next;
          action = rw (h.same, h.action) (action_onward m m (length j.routines) (max (need_of j.items next) h.from.need) i.need h.from.action h.need (onward_same m) f.0);
          again = rw (h.same, h.action) (again_wider m.items (length j.routines) (max (need_of j.items next) h.from.need) i.need h.from.action h.need f.1);
        }

    settled_fitted : Fitted (settle_items j next).1 (settle_items j next).0
    settled_fitted =
        let m : Layer = (settle_items j next).1 in
        record {
          ground = settled_ground;
          items = λ at i e. settled_item at i (steps.made at i e);
          pending = ap (λ (k : Layer). k.pending) steps.layer;
          first = rw (ap (λ (k : Layer). length k.routines) steps.layer) steps.first;
        }

    settled_result : Result j (settle_items j next)
    settled_result = record { onward = settled_onward; fitted = settled_fitted }

-- ---- items that are no loops

plain_all : (j : Layer) (r : ℕ) (ps : List Pending) → AllFit j r ps → AllOf (PendingFits j r) ps
plain_all j r [] h = tt
plain_all j r (p ∷ ps) h = (h.0, plain_all j r ps h.1)

items_onward : (l m : Layer) → m.items ≡ l.items → Onward l m → ItemsFit l → ItemsFit m
items_onward l m e o h = λ at i g. item_onward l m i o (h at i (ap (λ (is : List Item). slice_get is at) (sym e) ∙ g))

ran_items : (k j : Layer) → Ran k j → j.items ≡ k.items
ran_items k j r = ap (λ (q : Layer). q.items) r.kept

ran_routines : (k j : Layer) → Ran k j → length j.routines ≡ length k.routines
ran_routines k j r = ap (λ (q : Layer). length q.routines) r.kept

pub list_kept : (k j : Layer) (o : Option ℕ) → Kept k j → ListFits k.items (length k.routines) (need_of k.items o) o → ListFits j.items (length j.routines) (need_of j.items o) o
list_kept k j o h f = subst (λ (q : Layer). ListFits q.items (length q.routines) (need_of q.items o) o) (sym h) f

pub plain_settled : (k j : Layer) (next : Option ℕ) → Fitted k next → Ran k j → Result k (settle_items j next)
plain_settled k j next f r =
    let P : Pending → Type 0 = PendingFits j (length j.routines) in
    let g : Ground j = ground_kept k j r.kept f.ground in
    let is : ItemsFit j = items_onward k j (ran_items k j r) (ran_onward k j r) f.items in
    let first = list_kept k j next r.kept f.first in
    let ps : j.pending ≡ r.more = r.pending ∙ ap (λ (qs : List Pending). qs ++ r.more) f.pending in
    let all : AllOf P j.pending = subst (AllOf P) (sym ps) (plain_all j (length j.routines) r.more (subst (λ n. AllFit j n r.more) (sym (ran_routines k j r)) r.calls)) in
    let bound : (p : Pending) → P p → p.need ≤ 2 * length j.items + 2 = λ p h. h.bound in
    let o : Onward j (settle_items j next).1 = settled_onward P j next g is first bound all in
    let q : Result j (settle_items j next) = settled_result P j next g is first bound all (λ p h. (action_onward j (settle_items j next).1 (length j.routines) p.need (max (need_of j.items next) p.need) p.action (omega arith) o h.action, again_none (settle_items j next).1.items (length j.routines) (max (need_of j.items next) p.need) p.action h.plain)) in
    record { onward = onward_trans k j (settle_items j next).1 (ran_onward k j r) o; fitted = q.fitted }

-- what is to come after the list stays a list in the longer tables
pub moved : (l k : Layer) (next o : Option ℕ) → Onward l k → Fitted l next → Fitted k o → Fitted k next
moved l k next o w f g =
    let h = f.first in
    record {
      ground = g.ground;
      items = g.items;
      pending = g.pending;
      first = rw (onward_items l k w, onward_routines l k w, need_longer l.items w.grew.0 (length l.routines) (need_of l.items next) next h) (list_longer l.items w.grew.0 (length l.routines) (need_of l.items next) next h);
    }

pub alone : (l : Layer) (next : Option ℕ) → Fitted l next → Fitted l None
alone l next f = record { ground = f.ground; items = f.items; pending = f.pending; first = tt }

-- the lists inside a statement are done; its own item and the calls before it go into the tables
pub own_settled : (l k j : Layer) (next o : Option ℕ) → Fitted l next → Onward l k → Fitted k o → Ran k j → Result l (settle_items j next)
own_settled l k j next o f w g r =
    let q : Result k (settle_items j next) = plain_settled k j next (moved l k next o w f g) r in
    record { onward = onward_trans l k (settle_items j next).1 w q.onward; fitted = q.fitted }

-- ---- loops

abbrev OfLoop : Layer → Pending → Pending → Type 0
OfLoop j w p = PendingFits j (length j.routines) p ⊎ (p ≡ w)

calls_below : (l : Layer) (r : ℕ) (ps : List Pending) → AllFit l r ps → AreBelow (2 * length l.items + 2) ps
calls_below l r [] h = tt
calls_below l r (p ∷ ps) h = (h.0.bound, calls_below l r ps h.1)

loop_all : (j : Layer) (w : Pending) (ps : List Pending) → AllFit j (length j.routines) ps → AllOf (OfLoop j w) (ps ++ w ∷ [])
loop_all j w [] h = (inr refl, tt)
loop_all j w (p ∷ ps) h = (inl h.0, loop_all j w ps h.1)

pub inside_bounded : (is : List Item) (r n : ℕ) (o : Option ℕ) → ((at : ℕ) (i : Item) → slice_get is at ≡ Some i → i.need ≤ 2 * at + 2) → ListFits is r n o → need_inside is o ≤ 2 * length is + 1
inside_bounded is r n None g h = omega arith
inside_bounded is r n (Some at) g h = let b : need_of is (Some at) ≤ 2 * length is = need_bounded is r n (Some at) g h in omega (arith, b)

first_nests : (is : List Item) (r b place : ℕ) (o : Option ℕ) → o ≡ Some place → ListFits is r (need_of is o) o → need_of is o ≤ b → Nests is r b place
first_nests is r b place o e h le = list_wider is r (need_of is (Some place)) b (Some place) (rw e at le) (rw e at h)

-- a loop, by the state after its condition
module _ (k x : Layer) (next body : Option ℕ) (a : Action) (line : ℕ) (f : Fitted k next) (r : Ran k x) (list : ListFits x.items (length x.routines) (need_of x.items body) body)
    (is_loop : (l : Layer) (routine need : ℕ) → InnerFits l.items routine need body → ActionFits l routine need a)
    (begins : (is : List Item) (routine need : ℕ) → Again is routine need (again x) → AgainFits is routine need a) where
  abbrev own : Pending
  own = record { action = a; line = line; need = max (need_inside x.items body) (pending_need x) }

  abbrev after : Layer
  after = record x { pending = x.pending ++ own ∷ [] }

  loop_kept : Kept k after
  loop_kept = ap (λ (q : Layer). (let s : Layer = record q { pending = after.pending } in s)) r.kept

  loop_onward : Onward k after
  loop_onward = record { grew = kept_grew k after loop_kept; extents = r.extents; room = r.room; reference_room = r.reference_room; arguments = r.arguments }

  loop_ground : Ground after
  loop_ground = ground_kept k after loop_kept f.ground

  loop_pending : x.pending ≡ r.more
  loop_pending = r.pending ∙ ap (λ (qs : List Pending). qs ++ r.more) f.pending

  loop_calls : AllFit x (length x.routines) r.more
  loop_calls = subst (λ c. AllFit x c r.more) (sym (ran_routines k x r)) r.calls

  loop_pendings : AllOf (OfLoop after own) after.pending
  loop_pendings =
      let o : Onward x after = record { grew = kept_grew x after refl; extents = refl; room = omega arith; reference_room = omega arith; arguments = omega arith } in
      subst (λ (qs : List Pending). AllOf (OfLoop after own) (qs ++ own ∷ [])) (sym loop_pending) (loop_all after own r.more (all_onward x after (length x.routines) r.more o loop_calls))

  own_bounded : own.need ≤ 2 * length x.items + 2
  own_bounded =
      let a : need_inside x.items body ≤ 2 * length x.items + 1 = inside_bounded x.items (length x.routines) (need_of x.items body) body loop_ground.bounded list in
      let b : pending_need x ≤ 2 * length x.items + 2 = need_below 0 (2 * length x.items + 2) x.pending (omega arith) (subst (AreBelow (2 * length x.items + 2)) (sym loop_pending) (calls_below x (length x.routines) r.more loop_calls)) in
      omega (arith, a, b)

  loop_bounded : (p : Pending) → OfLoop after own p → p.need ≤ 2 * length after.items + 2
  loop_bounded p (inl h) = h.bound
  loop_bounded p (inr e) = rw e own_bounded

  module _ (s : Steps (OfLoop after own) (without_pending after) (need_of after.items next) after.pending (settle_items after next)) (o : Onward after (settle_items after next).1) where
    loop_again : Again (settle_items after next).1.items (length x.routines) (max (need_of x.items next) own.need) (again x)
    loop_again =
        let n : ℕ = need_of x.items next in
        let len : length x.pending ≡ length r.more = ap (λ (qs : List Pending). length qs) loop_pending in
        let all : length after.pending ≡ length x.pending + 1 = length-append x.pending (own ∷ []) in
        let below : AreBelow own.need x.pending = below_more (pending_need x) own.need x.pending (omega arith) (below_need 0 x.pending) in
        let great : greatest n after.pending ≤ max n own.need = greatest_last n x.pending own below in
        let need : need_of (settle_items after next).1.items (settle_items after next).0 ≡ greatest n after.pending = s.need in
        record {
          place = length x.items + length x.pending;
          is_named = refl;
          nests = first_nests (settle_items after next).1.items (length x.routines) (max n own.need) (length x.items + length x.pending) (settle_items after next).0 (s.place (length x.pending) (omega (arith, all))) s.first (omega (arith, need, great));
        }

    loop_fits : (p : Pending) → OfLoop after own p → ActionFits (settle_items after next).1 (length x.routines) (max (need_of x.items next) p.need) p.action × AgainFits (settle_items after next).1.items (length x.routines) (max (need_of x.items next) p.need) p.action
    loop_fits p (inl h) = (action_onward after (settle_items after next).1 (length x.routines) p.need (max (need_of x.items next) p.need) p.action (omega arith) o h.action, again_none (settle_items after next).1.items (length x.routines) (max (need_of x.items next) p.need) p.action h.plain)
    loop_fits p (inr e) =
        let need : ℕ = max (need_of x.items next) own.need in
        let inner : InnerFits x.items (length x.routines) own.need body = (list, omega arith) in
        rw e (is_loop (settle_items after next).1 (length x.routines) need (rw (onward_items after (settle_items after next).1 o) (inner_onward x.items o.grew.0 (length x.routines) own.need need body (omega arith) inner)), begins (settle_items after next).1.items (length x.routines) need loop_again)

  pub loop_settled : Result k (settle_items after next)
  loop_settled =
      let P : Pending → Type 0 = OfLoop after own in
      let is : ItemsFit after = items_onward k after (ran_items k x r) loop_onward f.items in
      let first = list_kept k after next loop_kept f.first in
      let s = steps P after next loop_ground is first loop_bounded loop_pendings in
      let o : Onward after (settle_items after next).1 = settled_onward P after next loop_ground is first loop_bounded loop_pendings in
      let q : Result after (settle_items after next) = settled_result P after next loop_ground is first loop_bounded loop_pendings (loop_fits s o) in
      record { onward = onward_trans k after (settle_items after next).1 loop_onward o; fitted = q.fitted }
