-- The references of open calls stay few: each routine calls earlier ones alone, and has few `var` parameters itself.
use Rattle.std.proofs.Common.{◌≡◌, ℕ, zero, suc, ◌+◌, ◌≤◌, List, [], ◌∷◌, ◌++◌, length, Option, Some, None, slice_get, refl, subst, arith, length-append}
use Rattle.cp_resolved.proofs.Words.{none-some, same_Some, Process, RoutineView, Action, room_for, room_from, Bool}
use Rattle.cp_resolved.proofs.Words.{with_count, Each}
use Rattle.cp_tree.specs.Syntax as syntax
use Rattle.cp_resolved.proofs.counts.Rooms.{Room}
use Rattle.cp_layout.specs.Layers.{Layer, Pending, frame_with, with_cell, with_room, add_items, settle_items, without_pending, add_item, routine_of}
use Rattle.cp_layout.specs.LaidDeclarations.{body}
use Rattle.cp_resolved.proofs.laid.Walked.{any_calls, any_items, any_lists, never, body_walked}
use Rattle.cp_resolved.proofs.frames.FrameCells.{each_both as each_append}
use Rattle.cp_resolved.specs.ItemsStand.{body_items}

pub each_entry : {A : Type 0} (Q : A → Type 0) (xs : List A) (n : ℕ) (x : A) → slice_get xs n ≡ Some x → Each Q xs → Q x
each_entry Q [] n x e h = absurd (none-some x e)
each_entry Q (y ∷ xs) zero x e h = subst Q (same_Some y x e) h.0
each_entry Q (y ∷ xs) (suc n) x e h = each_entry Q xs n x e h.1

pub each_weaker : {A : Type 0} (Q R : A → Type 0) → ((x : A) → Q x → R x) → (xs : List A) → Each Q xs → Each R xs
each_weaker Q R weaker [] h = tt
each_weaker Q R weaker (x ∷ xs) h = (weaker x h.0, each_weaker Q R weaker xs h.1)

pub one_more : {X : Type 0} (xs : List X) (x : X) → length (xs ++ x ∷ []) ≡ length xs + 1
one_more xs x = length-append xs (x ∷ [])

-- ---- statements

-- the whole routines, with this many tokens still to come of this many
abbrev pub Level : (total low : ℕ) → Layer → Type 0
Level total low l = Each (λ (r : RoutineView). r.reference_room + low ≤ total) l.routines

pub record Within (total low k : ℕ) (l : Layer) : Type 0 where
  pub routines : Level total low l
  pub frame : l.frame.reference_room + low ≤ total
  pub extents : length l.frame.extents ≤ k

module _ (total low k : ℕ) where
  within_cell : (l : Layer) → Within total low k l → Within total low k (with_cell l)
  within_cell l h = record { routines = h.routines; frame = h.frame; extents = h.extents }

  within_count : (l : Layer) (n : ℕ) → Within total low k l → Within total low k (with_count l n)
  within_count l n h = record { routines = h.routines; frame = h.frame; extents = h.extents }

  within_added : (l : Layer) (at : ℕ) (a : Action) (need : ℕ) → Within total low k l → Within total low k (add_item l at a need)
  within_added l at a need h = record { routines = h.routines; frame = h.frame; extents = h.extents }

  within_room : (l : Layer) (r : ℕ) → Within total low k l → Within total low k (with_room l r)
  within_room l r h = go (slice_get l.routines r) refl
    where
      go : (o : Option RoutineView) → slice_get l.routines r ≡ o → Within total low k (record l { frame = frame_with l.frame o })
      go None e = record { routines = h.routines; frame = h.frame; extents = h.extents }
      go (Some v) e =
          let a : l.frame.reference_room + low ≤ total = h.frame in
          let b : v.reference_room + low ≤ total = each_entry (λ (q : RoutineView). q.reference_room + low ≤ total) l.routines r v e h.routines in
          record { routines = h.routines; frame = omega (arith, a, b); extents = h.extents }

  within_call : (l : Layer) (r at : ℕ) (a : Action) (need : ℕ) → Within total low k l → Within total low k (add_item (with_room (with_cell l) r) at a need)
  within_call l r at a need h = within_added (with_room (with_cell l) r) at a need (within_room (with_cell l) r (within_cell l h))

  all_settled : (l : Layer) (ps : List Pending) (next : Option ℕ) → Within total low k l → Within total low k (add_items l ps next).1
  all_settled l [] next h = h
  all_settled l (p ∷ ps) next h = let f = all_settled l ps next h in record { routines = f.routines; frame = f.frame; extents = f.extents }

  within_settled : (l : Layer) (next : Option ℕ) → Within total low k l → Within total low k (settle_items l next).1
  within_settled l next h = all_settled (without_pending l) l.pending next (record { routines = h.routines; frame = h.frame; extents = h.extents })

  -- the routine of a body, once its own `var` parameters are counted
  pub body_level : (after : ℕ) (l : Layer) (b : syntax.Body) (c : Bool) → after + k ≤ low → Within total low k l → Level total after (body l b c)
  body_level after l b c le h =
      let x : Option ℕ × Layer = body_items l b.statements c in
      let f : Within total low k x.1 = body_walked (any_calls (Within total low k) within_count within_call) (any_items (Within total low k) within_room within_added) (any_lists (Within total low k) within_added within_settled) l b.statements c h never in
      let a : x.1.frame.reference_room + low ≤ total = f.frame in
      let d : length x.1.frame.extents ≤ k = f.extents in
      let new : (routine_of x.1 x.0).reference_room + after ≤ total = omega (arith, a, d, le) in
      each_append (λ (r : RoutineView). r.reference_room + after ≤ total) x.1.routines (routine_of x.1 x.0 ∷ []) (each_weaker (λ (r : RoutineView). r.reference_room + low ≤ total) (λ (r : RoutineView). r.reference_room + after ≤ total) (λ r e. omega (arith, e, le)) x.1.routines f.routines) (new, tt)

-- ---- what all processes need

pub rooms_few : (l : Layer) (bound : ℕ) (r : Room) (ps : List Process) → Each (λ (v : RoutineView). v.reference_room ≤ bound) l.routines → r.references ≤ bound → (room_from l r ps).references ≤ bound
unfolding room_from
rooms_few l bound r [] h le = le
rooms_few l bound r (p ∷ ps) h le = rooms_few l bound (room_for l r (slice_get l.routines p.routine)) ps h (go (slice_get l.routines p.routine) refl)
  where
    go : (o : Option RoutineView) → slice_get l.routines p.routine ≡ o → (room_for l r o).references ≤ bound
    go None e = le
    go (Some v) e = let b : v.reference_room ≤ bound = each_entry (λ (q : RoutineView). q.reference_room ≤ bound) l.routines p.routine v e h in omega (arith, le, b)
