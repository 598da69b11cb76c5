-- The items and routines of tables that are laid out are sound, where no routine calls itself and the numbers are words.
use Rattle.std.proofs.Common.{◌≡◌, ℕ, zero, suc, ◌+◌, ◌-◌, ◌*◌, ◌^◌, ◌<◌, ◌≤◌, min, List, [], ◌∷◌, map, length, Option, Some, None, slice_get, slice_index_or, refl, sym, ap, ◌∙◌, ◌⊎◌, inl, inr, arith}
use Rattle.cp_resolved.proofs.Words.{none-some, same_Some, slice_get_within, most, plus, Layer, need_of, Tables, RoutineView, item_at, no_item, routine_at, no_routine}
use Rattle.cp_slots.specs.declared.item.Item as code_item
use Rattle.cp_slots.specs.declared.item.ResolvedArm as code_arm
use Rattle.cp_slots.specs.declared.item.Action as code_action
use Rattle.cp_slots.specs.declared.item.Action.TheVariants as action
use Rattle.cp_slots.specs.declared.place.Argument as code_argument
use Rattle.cp_slots.specs.Code.{Item, item_seen, arm_seen, argument_seen, action_seen}
use Rattle.cp_slots.specs.Fits as fits
use Rattle.cp_resolved.specs.Soundness.{AreHeld, IsOwnCall}
use Rattle.cp_resolved.proofs.laid.Calling.{InnerFits, ArmsFit, ActionFits, CallFits, Calls, RoomFits, need_bounded}
use Rattle.cp_resolved.proofs.names.Entries.{there}
use Rattle.cp_resolved.proofs.laid.Fitting.{Nests, ListFits}
use Rattle.cp_resolved.proofs.laid.Settled.{AgainFits, Again, ItemFits}
use Rattle.cp_resolved.proofs.laid.Whole.{Whole, HasRoom}

-- ---- what is laid out, as tables

-- the entries of the tables that are laid out, as they are in the state
pub record Shows (t : Tables) (l : Layer) : Type 0 where
  pub items : map item_seen t.items ≡ l.items
  pub routines : t.routines ≡ l.routines
  pub arguments : t.arguments ≡ l.arguments

-- ---- entries

seen_there : (xs : List code_item.Item) (n : ℕ) → n < length xs → slice_get (map item_seen xs) n ≡ Some (item_seen (slice_index_or xs n no_item))
seen_there [] n lt = absurd (omega arith)
seen_there (x ∷ xs) zero lt = refl
seen_there (x ∷ xs) (suc n) lt = seen_there xs n (omega arith)

pub seen_length : (xs : List code_item.Item) → length (map item_seen xs) ≡ length xs
seen_length [] = refl
seen_length (x ∷ xs) = ap suc (seen_length xs)

arguments_length : (xs : List code_argument.Argument) → length (map argument_seen xs) ≡ length xs
arguments_length [] = refl
arguments_length (x ∷ xs) = ap suc (arguments_length xs)

view_there : (rs : List RoutineView) (n : ℕ) (v : RoutineView) → slice_get rs n ≡ Some v → slice_index_or rs n no_routine ≡ v
view_there [] n v e = absurd (none-some v e)
view_there (r ∷ rs) zero v e = same_Some r v e
view_there (r ∷ rs) (suc n) v e = view_there rs n v e

module _ (t : Tables) (l : Layer) (s : Shows t l) (w : Whole l) where
  pub item_there : (at : ℕ) → at < length t.items → slice_get l.items at ≡ Some (item_seen (item_at t at))
  item_there at lt = ap (λ (is : List Item). slice_get is at) (sym s.items) ∙ seen_there t.items at lt

  pub items_length : length l.items ≡ length t.items
  items_length = ap (λ (is : List Item). length is) (sym s.items) ∙ seen_length t.items

  pub routine_there : (n : ℕ) (v : RoutineView) → slice_get l.routines n ≡ Some v → routine_at t n ≡ v
  routine_there n v e = ap (λ (rs : List RoutineView). slice_index_or rs n no_routine) s.routines ∙ view_there l.routines n v e

  pub routines_length : length t.routines ≡ length l.routines
  routines_length = ap (λ (rs : List RoutineView). length rs) s.routines

  nests : (r n at : ℕ) → Nests l.items r n at → fits.Nests t r n at
  nests r n at h =
      let lt : at < length l.items = slice_get_within l.items at h.item h.there in
      let lt' : at < length t.items = let e = items_length in omega (arith, lt, e) in
      let same : item_seen (item_at t at) ≡ h.item = same_Some (item_seen (item_at t at)) h.item (sym (item_there at lt') ∙ h.there) in
      record { place = lt'; same = ap (λ (i : Item). i.routine) same ∙ h.same; fits = (let e : (item_at t at).need ≡ h.item.need = ap (λ (i : Item). i.need) same in let le : h.item.need ≤ n = h.fits in omega (arith, e, le)) }

  pub list : (r n : ℕ) (o : Option ℕ) → ListFits l.items r n o → fits.ListFits t r n o
  list r n None h = tt
  list r n (Some at) h = nests r n at h

  module _ (held : AreHeld t) where
    small : (r n : ℕ) (o : Option ℕ) → ListFits l.items r n o → need_of l.items o + 3 ≤ 2 ^ 64
    small r n o h =
        let b : need_of l.items o ≤ 2 * length l.items = need_bounded l.items r n o w.ground.bounded h in
        let e = items_length in
        let c = held.items in
        omega (arith, b, c, e)

    inner : (r n : ℕ) (o : Option ℕ) → InnerFits l.items r n o → fits.InnerFits t r n o
    inner r n None h = tt
    inner r n (Some at) h =
        let b : need_of l.items (Some at) + 3 ≤ 2 ^ 64 = small r (need_of l.items (Some at)) (Some at) h.0 in
        let le : plus (need_of l.items (Some at)) 1 ≤ n = h.1 in
        let g : fits.Nests t r (need_of l.items (Some at)) at = nests r (need_of l.items (Some at)) at h.0 in
        let f : (item_at t at).need ≤ need_of l.items (Some at) = g.fits in
        (omega (arith, b, le), record { place = g.place; same = g.same; fits = omega (arith, b, le, f) })

    arms : (r n : ℕ) (as' : List code_arm.ResolvedArm) → ArmsFit l.items r n (map arm_seen as') → fits.ArmsFit t r n as'
    arms r n [] h k d lt = absurd (omega arith)
    arms r n (a ∷ as') h zero d lt = inner r n a.body h.0
    arms r n (a ∷ as') h (suc k) d lt = arms r n as' h.1 k d (omega arith)

    call_of : (r n c : ℕ) (as' : List code_argument.Argument) → r < length l.routines → Calls l r n c → length (map argument_seen as') ≤ l.arguments → fits.CallFits t r n c as'
    call_of r n c as' lt h le =
        let v = there l.routines r lt in
        let caller : routine_at t r ≡ v.0 = routine_there r v.0 v.1 in
        let callee : routine_at t c ≡ h.view = routine_there c h.view h.there in
        let b : need_of l.items h.view.body + 3 ≤ 2 ^ 64 = small c (need_of l.items h.view.body) h.view.body h.body in
        let d : plus (need_of l.items h.view.body) 2 ≤ n = h.deep in
        let f : RoomFits (Some v.0) l.frame h.view = rw v.1 at h.room in
        let within : c < length l.routines = slice_get_within l.routines c h.view h.there in
        let e = routines_length in
        let x : (routine_at t r).room < most = held.rooms r (omega (arith, e, lt)) in
        let y : (routine_at t r).reference_room < most = held.reference_rooms r (omega (arith, e, lt)) in
        let x' : v.0.room < most = rw caller at x in
        let y' : v.0.reference_room < most = rw caller at y in
        let p : plus (length v.0.image) h.view.room ≤ v.0.room = f.0 in
        let q : plus v.0.references h.view.reference_room ≤ v.0.reference_room = f.1 in
        let n' = arguments_length as' in
        let m' = s.arguments in
        record {
          routine = omega (arith, e, within);
          deep = omega (arith, d, b);
          body = rw callee (list c (n - 2) h.view.body (wider c (need_of l.items h.view.body) (n - 2) h.view.body (omega (arith, d, b)) h.body));
          cells = rw (caller, callee) (omega (arith, x', p));
          references = rw (caller, callee) (omega (arith, y', q));
          count = omega (arith, le, n', m');
        }
      where
        wider : (r n m : ℕ) (o : Option ℕ) → n ≤ m → ListFits l.items r n o → ListFits l.items r m o
        wider r n m None le h = tt
        wider r n m (Some at) le h = record { item = h.item; there = h.there; same = h.same; fits = (let k : h.item.need ≤ n = h.fits in omega (arith, k, le)) }

    call : (r n c : ℕ) (as' : List code_argument.Argument) → r < length l.routines → (c ≡ r → ⊥) → CallFits l r n c (length (map argument_seen as')) → fits.CallFits t r n c as'
    call r n c as' lt not h = go h.0
      where
        go : (c ≡ r) ⊎ Calls l r n c → fits.CallFits t r n c as'
        go (inl e) = absurd (not e)
        go (inr g) = call_of r n c as' lt g h.1

    begins : (r n named : ℕ) → Again l.items r n named → fits.Nests t r n named
    begins r n named h =
        let lt : h.place < length l.items = slice_get_within l.items h.place h.nests.item h.nests.there in
        let e = items_length in
        let c = held.items in
        let m : named ≡ min h.place most = h.is_named in
        let same : named ≡ h.place = omega (arith, lt, e, c, m) in
        rw same (nests r n h.place h.nests)

    act : (r n : ℕ) (a : code_action.Action) → r < length l.routines → (IsOwnCall r a → ⊥) → ActionFits l r n (action_seen a) → AgainFits l.items r n (action_seen a) → fits.ActionFits t r n a
    act r n (action.Block o) lt not h g = inner r n o h
    act r n (action.Cycle o) lt not h g = inner r n o h
    act r n (action.If e o p) lt not h g = (inner r n o h.0, inner r n p h.1)
    act r n (action.Case e as') lt not h g = arms r n as'.items h
    act r n (action.While e o named) lt not h g = (inner r n o h, begins r n named g)
    act r n (action.Until e o named) lt not h g = (inner r n o h, begins r n named g)
    act r n (action.For v low high e f down o) lt not h g = inner r n o h
    act r n (action.Call c p b as' result) lt not h g = call r n c as'.items lt not h
    act r n (action.Start p c as') lt not h g = call r n c as'.items lt not h
    act r n _ lt not h g = tt

    pub items_sound : ((at : ℕ) → at < length t.items → IsOwnCall (item_at t at).routine (item_at t at).action → ⊥) → (at : ℕ) → at < length t.items → fits.ItemFits t (item_at t at)
    items_sound not at lt =
        let i : code_item.Item = item_at t at in
        let e = item_there at lt in
        let f : ItemFits l (item_seen i) = w.items at (item_seen i) e in
        let r : i.routine < length l.routines = w.inside at (item_seen i) e in
        let rs = routines_length in
        record { routine = omega (arith, rs, r); action = act i.routine i.need i.action r (not at lt) f.action f.again; next = list i.routine i.need i.next f.next }

    pub routines_sound : (number : ℕ) → number < length t.routines → fits.RoutineFits (routine_at t number)
    routines_sound n lt =
        let rs = routines_length in
        let v = there l.routines n (omega (arith, rs, lt)) in
        let same : routine_at t n ≡ v.0 = routine_there n v.0 v.1 in
        let h : HasRoom v.0 = w.routines n v.0 v.1 in
        let x : (routine_at t n).room < most = held.rooms n lt in
        let y : (routine_at t n).reference_room < most = held.reference_rooms n lt in
        let x' : v.0.room < most = rw same at x in
        let y' : v.0.reference_room < most = rw same at y in
        let a : min (length v.0.image) most ≤ v.0.room = h.cells in
        let b : min v.0.references most ≤ v.0.reference_room = h.references in
        rw same (record { cells = omega (arith, x', a); references = omega (arith, y', b); extents = h.extents })
