-- Routines and system types, and the whole program: all items have what they need, and each routine has its room.
use Rattle.std.proofs.Common.{◌≡◌, ℕ, ◌+◌, ◌-◌, ◌<◌, ◌≤◌, min, List, [], ◌∷◌, ◌++◌, length, Option, Some, None, slice_get, refl, sym, ap, subst, ◌∙◌, ◌⊎◌, inl, inr, append_assoc, append-nil, arith, length-append}
use Rattle.cp_resolved.proofs.Words.{none-some, SystemKind, Body, Routine, Definition, SystemDefinition, ProgramPart, Program, CellType, Compounds, most, Bool, true}
use Rattle.cp_resolved.proofs.Words.{plus, RoutineView, written_type}
use Rattle.cp_tree.specs.Syntax as syntax
use Rattle.cp_symbols.specs.declared.names.LayoutMeaning.TheVariants as meaning
use Rattle.cp_slots.specs.Code as code
use Rattle.cp_slots.specs.Code.{Action, Item}
use Rattle.cp_layout.specs.Layers.{Layer, Frame, Heading, Owned, System, need_of, nothing_laid, routine_of, with_routine}
use Rattle.cp_layout.specs.LaidDeclarations.{Parameters, body, open_routine, close, routine_inside, routine, routines, with_heading, with_new_frame, heading_with, initial_statement, heading, local_parts, permanent_parts, system_groups, enter_system, leave_system, system_of, system_inside, system, constants, variables, definition, with_type_name, system_definition, system_definitions, program_part, program_parts, program}
use Rattle.cp_resolved.proofs.laid.Calling.{ActionFits, CallFits, Calls, RoomFits, onward_routines, Ground}
use Rattle.cp_resolved.proofs.laid.Declared.{Declared, declared_same, then_declared, Typed, name_declared, constants_declared, written_typed, variables_declared, permanent_declared, local_parts_declared, heading_declared, system_groups_declared}
use Rattle.cp_resolved.proofs.names.Entries.{there, not_there, still_there, last_entry, last_or_before}
use Rattle.cp_resolved.proofs.laid.Fitted.{Result}
use Rattle.cp_resolved.proofs.laid.FittedStatements.{body_fitted}
use Rattle.cp_resolved.proofs.laid.Fitting.{ListFits}
use Rattle.cp_resolved.proofs.laid.Named.{Named, AreNames, IsType, names_more, types_more, systems_more, names_dropped, names_inside}
use Rattle.cp_resolved.proofs.systems.Owning.{OwnedStep, step_same, none_owned, SystemIs, RoutineIn, RoutineIs, Owning, Outside, owning_step, owning_ended}
use Rattle.cp_resolved.proofs.systems.Sized.{Sized, SizedBy, by_more, sized_same, resized_same}
use Rattle.cp_resolved.proofs.laid.Settled.{ItemsFit, Fitted}
use Rattle.cp_resolved.proofs.names.KnowingSystems.{systems_with}
use Rattle.cp_resolved.specs.ItemsStand.{body_items}

-- a routine's own frame is inside its room, where the numbers are words
pub record HasRoom (r : RoutineView) : Type 0 where
  pub cells : min (length r.image) most ≤ r.room
  pub references : min r.references most ≤ r.reference_room
  pub extents : length r.extents ≡ r.references

-- no routine is begun
pub record Whole (l : Layer) : Type 0 where
  pub ground : Ground l
  pub items : ItemsFit l
  pub inside : (at : ℕ) (i : Item) → slice_get l.items at ≡ Some i → i.routine < length l.routines
  pub routines : (n : ℕ) (r : RoutineView) → slice_get l.routines n ≡ Some r → HasRoom r
  pub pending : l.pending ≡ []
  pub owning : Owning l
  pub sized : Sized l

-- ---- what declarations leave

-- with all else than what items speak of as in the other state
abbrev pub around : Layer → Layer → Layer
around l m = record l { names = m.names; types = m.types; systems = m.systems; headings = m.headings; constants = m.constants; owned = m.owned; frame = m.frame; noted = m.noted; is_inside = m.is_inside }

calls_around : (l m : Layer) (r n c : ℕ) → r < length l.routines → Calls l r n c → Calls (around l m) r n c
calls_around l m r n c lt h =
    let v = there l.routines r lt in
    record { view = h.view; there = h.there; body = h.body; deep = h.deep; room = rw v.1 (rw v.1 at h.room) }

call_around : (l m : Layer) (r n c count : ℕ) → r < length l.routines → CallFits l r n c count → CallFits (around l m) r n c count
call_around l m r n c count lt h = (go h.0, h.1)
  where
    go : (c ≡ r) ⊎ Calls l r n c → (c ≡ r) ⊎ Calls (around l m) r n c
    go (inl e) = inl e
    go (inr g) = inr (calls_around l m r n c lt g)

action_around : (l m : Layer) (r n : ℕ) (a : Action) → r < length l.routines → ActionFits l r n a → ActionFits (around l m) r n a
action_around l m r n (code.call c p b as' result) lt h = call_around l m r n c (length as') lt h
action_around l m r n (code.start p c as') lt h = call_around l m r n c (length as') lt h
action_around l m r n _ lt h = h

whole_around : (l m : Layer) → Named (around l m) → Owning (around l m) → Sized (around l m) → Whole l → Whole (around l m)
whole_around l m n o z w =
    record {
      ground = record { named = n; bodies = w.ground.bodies; bounded = w.ground.bounded };
      items = λ at i e. (let f = w.items at i e in record { routine = f.routine; next = f.next; action = action_around l m i.routine i.need i.action (w.inside at i e) f.action; again = f.again });
      inside = w.inside;
      routines = w.routines;
      pending = w.pending;
      owning = o;
      sized = z;
    }

pub whole_declared : (l m : Layer) → Declared l m → Whole l → Whole m
whole_declared l m h w =
    let k : Layer = record m { systems = l.systems } in
    let ss : m.systems ≡ l.systems = ap (λ (j : Layer). j.systems) h.same in
    let rs : m.routines ≡ l.routines = ap (λ (j : Layer). j.routines) h.same in
    subst (λ (j : Layer). Whole j) (sym h.same) (whole_around l k (subst (λ (j : Layer). Named j) h.same h.named) (subst (λ (j : Layer). Owning j) h.same (owning_step l m ss rs h.owned w.owning)) (subst (λ (j : Layer). Sized j) h.same (h.sizes.sized w.sized)) w)

-- ---- one more routine

-- the rooms of a frame are those of its routine
room_whole : (l : Layer) (v : RoutineView) (r : ℕ) (c : RoutineView) → (plus (length v.image) l.frame.room ≤ v.room) → (plus v.references l.frame.reference_room ≤ v.reference_room) → r ≤ length l.routines → RoomFits (slice_get l.routines r) l.frame c → RoomFits (slice_get (l.routines ++ v ∷ []) r) l.frame c
room_whole l v r c a b le h = go (slice_get l.routines r) refl
  where
    go : (o : Option RoutineView) → slice_get l.routines r ≡ o → RoomFits (slice_get (l.routines ++ v ∷ []) r) l.frame c
    go (Some u) e = rw (still_there l.routines (v ∷ []) r u e) (rw e at h)
    go None e =
        let past : length l.routines ≤ r = not_there l.routines r e in
        let same : r ≡ length l.routines = omega (arith, past, le) in
        let k : RoomFits None l.frame c = rw e at h in
        let x : c.room ≤ l.frame.room = k.0 in
        let y : c.reference_room ≤ l.frame.reference_room = k.1 in
        rw (same, last_entry l.routines v) (omega (arith, a, x), omega (arith, b, y))

-- the frame of a whole routine is of no account
room_any : (o : Option RoutineView) (f g : Frame) (c u : RoutineView) → o ≡ Some u → RoomFits o f c → RoomFits o g c
room_any o f g c u e h = rw e (rw e at h)

module _ (l : Layer) (start : Option ℕ) (f : Fitted l start) where
  abbrev ended : Layer
  ended = with_routine l start

  calls_ended : (r n c : ℕ) → r ≤ length l.routines → Calls l r n c → Calls ended r n c
  calls_ended r n c le h =
      let v : RoutineView = routine_of l start in
      let u = there (l.routines ++ v ∷ []) r (let e = length-append l.routines (v ∷ []) in omega (arith, e, le)) in
      record {
        view = h.view;
        there = still_there l.routines (v ∷ []) c h.view h.there;
        body = h.body;
        deep = h.deep;
        room = room_any (slice_get (l.routines ++ v ∷ []) r) l.frame ended.frame h.view u.0 u.1 (room_whole l v r h.view (omega arith) (omega arith) le h.room);
      }

  call_ended : (r n c count : ℕ) → r ≤ length l.routines → CallFits l r n c count → CallFits ended r n c count
  call_ended r n c count le h = (go h.0, h.1)
    where
      go : (c ≡ r) ⊎ Calls l r n c → (c ≡ r) ⊎ Calls ended r n c
      go (inl e) = inl e
      go (inr g) = inr (calls_ended r n c le g)

  action_ended : (r n : ℕ) (a : Action) → r ≤ length l.routines → ActionFits l r n a → ActionFits ended r n a
  action_ended r n (code.call c p b as' result) le h = call_ended r n c (length as') le h
  action_ended r n (code.start p c as') le h = call_ended r n c (length as') le h
  action_ended r n _ le h = h

  ended_named : Named ended
  ended_named =
      let n = f.ground.named in
      let e : length (l.routines ++ routine_of l start ∷ []) ≡ length l.routines + 1 = length-append l.routines (routine_of l start ∷ []) in
      let le : length l.routines ≤ length (l.routines ++ routine_of l start ∷ []) = omega (arith, e) in
      record {
        names = names_more (length l.systems) (length l.systems) (length l.routines) (length (l.routines ++ routine_of l start ∷ [])) l.names (omega arith) le n.names;
        types = n.types;
        systems = systems_more (length l.routines) (length (l.routines ++ routine_of l start ∷ [])) l.systems le n.systems;
      }

  ended_body : (n : ℕ) (r : RoutineView) → (slice_get l.routines n ≡ Some r) ⊎ ((n ≡ length l.routines) × (r ≡ routine_of l start)) → ListFits l.items n (need_of l.items r.body) r.body
  ended_body n r (inl e) = f.ground.bodies n r e
  ended_body n r (inr e) = rw (e.0, e.1) f.first

  ended_room : ((n : ℕ) (r : RoutineView) → slice_get l.routines n ≡ Some r → HasRoom r) → (n : ℕ) (r : RoutineView) → (slice_get l.routines n ≡ Some r) ⊎ ((n ≡ length l.routines) × (r ≡ routine_of l start)) → HasRoom r
  ended_room h n r (inl e) = h n r e
  ended_room h n r (inr e) = rw e.1 (record { cells = omega arith; references = omega arith; extents = refl })

  routine_ended : ((n : ℕ) (r : RoutineView) → slice_get l.routines n ≡ Some r → HasRoom r) → Owning l → Sized l → Whole ended
  routine_ended rooms owning sized =
      let v : RoutineView = routine_of l start in
      let more : length (l.routines ++ v ∷ []) ≡ length l.routines + 1 = length-append l.routines (v ∷ []) in
      record {
        ground = record {
          named = ended_named;
          bodies = λ n r e. ended_body n r (last_or_before l.routines v n r e);
          bounded = f.ground.bounded;
        };
        items = λ at i e. (let g = f.items at i e in let le : i.routine ≤ length l.routines = g.routine in record { routine = omega (arith, le, more); next = g.next; action = action_ended i.routine i.need i.action le g.action; again = g.again });
        inside = λ at i e. (let le : i.routine ≤ length l.routines = (f.items at i e).routine in omega (arith, le, more));
        routines = λ n r e. ended_room rooms n r (last_or_before l.routines v n r e);
        pending = f.pending;
        owning = owning_ended l start owning;
        sized = sized_same l ended refl refl refl refl sized;
      }

whole_fitted : (l : Layer) → Whole l → Fitted l None
whole_fitted l w = record { ground = w.ground; items = w.items; pending = w.pending; first = tt }

-- ---- routines, and what is around them

-- later, with the same system types
pub record Later (l m : Layer) : Type 0 where
  pub systems : m.systems ≡ l.systems
  pub routines : length l.routines ≤ length m.routines
  pub more : Compounds
  pub types : m.types ≡ l.types ++ more

later_trans : (l k m : Layer) → Later l k → Later k m → Later l m
later_trans l k m h i = record { systems = i.systems ∙ h.systems; routines = (let a = h.routines in let b = i.routines in omega (arith, a, b)); more = h.more ++ i.more; types = i.types ∙ ap (λ (ts : Compounds). ts ++ i.more) h.types ∙ append_assoc l.types h.more i.more }

later_declared : (l m : Layer) → Declared l m → Later l m
later_declared l m h = record { systems = ap (λ (j : Layer). j.systems) h.same; routines = (let e : length m.routines ≡ length l.routines = ap (λ (j : Layer). length j.routines) h.same in omega (arith, e)); more = h.sizes.more; types = h.sizes.types }

pub record Laid (l m : Layer) : Type 0 where
  pub later : Later l m
  pub whole : Whole m

declared_laid : (l m : Layer) → Declared l m → Whole l → Laid l m
declared_laid l m h w = record { later = later_declared l m h; whole = whole_declared l m h w }

then_laid : (l k m : Layer) → Laid l k → Laid k m → Laid l m
then_laid l k m h i = record { later = later_trans l k m h.later i.later; whole = i.whole }

pub body_laid : (l : Layer) (b : Body) (c : Bool) → Whole l → Laid l (body l b c)
body_laid l b c w =
    let x : Option ℕ × Layer = body_items l b.statements c in
    let r : Result l x = body_fitted l b.statements c (whole_fitted l w) in
    let rs : x.1.routines ≡ l.routines = onward_routines l x.1 r.onward in
    let ss : x.1.systems ≡ l.systems = ap (λ (j : Layer). j.systems) r.onward.grew.1 in
    let ts : x.1.types ≡ l.types = ap (λ (j : Layer). j.types) r.onward.grew.1 in
    let os : x.1.owned ≡ l.owned = ap (λ (j : Layer). j.owned) r.onward.grew.1 in
    let m : Layer = with_routine x.1 x.0 in
    let len : length x.1.routines ≡ length l.routines = ap (λ (js : List RoutineView). length js) rs in
    let more = length-append x.1.routines (routine_of x.1 x.0 ∷ []) in
    let whole : Whole m = routine_ended x.1 x.0 r.fitted (λ n v e. w.routines n v (ap (λ (js : List RoutineView). slice_get js n) (sym rs) ∙ e)) (owning_step l x.1 ss rs (subst (λ (o : Owned). OwnedStep l.owned o) (sym os) (step_same l.owned)) w.owning) (sized_same l x.1 ts (ap (λ (o : Owned). o.cells) os) (ap (λ (o : Owned). o.contents) os) ss w.sized) in
    record {
      later = record { systems = ap (λ (j : Layer). j.systems) r.onward.grew.1; more = []; types = ts ∙ sym (append-nil l.types); routines = omega (arith, more, len) };
      whole = whole;
    }

pub heading_added : (l : Layer) (h : Heading) → Named l → Declared l (with_heading l h)
heading_added l h n = record { same = refl; named = record { names = n.names; types = n.types; systems = n.systems }; owned = step_same l.owned; sizes = resized_same l _ refl refl refl refl }

pub frame_new : (l : Layer) → Named l → Declared l (with_new_frame l)
frame_new l n = record { same = refl; named = record { names = n.names; types = n.types; systems = n.systems }; owned = step_same l.owned; sizes = resized_same l _ refl refl refl refl }

pub names_closed : (l : Layer) (n : ℕ) → Named l → Declared l (close l n)
names_closed l n h = record { same = refl; named = record { names = names_dropped (length l.systems) (length l.routines) (length l.names - n) l.names h.names; types = h.types; systems = h.systems }; owned = step_same l.owned; sizes = resized_same l _ refl refl refl refl }

pub routine_opened : (l : Layer) (x : List ℕ) → Named l → Declared l (open_routine l x).1
routine_opened l x n = record { same = refl; named = record { names = (omega arith, n.names); types = n.types; systems = n.systems }; owned = step_same l.owned; sizes = resized_same l _ refl refl refl refl }

pub inside_laid : (l : Layer) (r : Routine) → Whole l → Laid l (routine_inside l r)
inside_laid l r w =
    let h = heading l r.name.name r.kind in
    let a : Declared l h.1 = heading_declared l r.name.name r.kind w.ground.named in
    let m : Layer = with_heading h.1 h.0 in
    let b : Declared l m = then_declared l h.1 m a (heading_added h.1 h.0) in
    let k : Layer = local_parts m r.parts in
    let c : Declared l k = then_declared l m k b (local_parts_declared m r.parts) in
    let d : Laid l k = declared_laid l k c w in
    then_laid l k (body k r.body r.is_entry) d (body_laid k r.body r.is_entry d.whole)

pub routine_laid : (l : Layer) (r : Routine) → Whole l → Laid l (routine l r)
routine_laid l r w =
    let x = open_routine l r.name.name in
    let a : Laid l x.1 = declared_laid l x.1 (routine_opened l r.name.name w.ground.named) w in
    let k : Layer = routine_inside x.1 r in
    let b : Laid l k = then_laid l x.1 k a (inside_laid x.1 r a.whole) in
    then_laid l k (close k x.0) b (declared_laid k (close k x.0) (names_closed k x.0 b.whole.ground.named) b.whole)

pub routines_laid : (l : Layer) (rs : List Routine) → Whole l → Laid l (routines l rs)
unfolding routines
routines_laid l [] w = declared_laid l l (declared_same l w.ground.named) w
routines_laid l (r ∷ rs) w = let h : Laid l (routine l r) = routine_laid l r w in then_laid l (routine l r) (routines (routine l r) rs) h (routines_laid (routine l r) rs h.whole)

pub initial_laid : (l : Layer) (ps : Parameters) (b : Body) → Whole l → Laid l (initial_statement l ps b)
initial_laid l ps b w =
    let m : Layer = with_new_frame l in
    let k : Layer = with_heading m (heading_with [] ps None) in
    let d : Declared l k = then_declared l m k (frame_new l w.ground.named) (heading_added m (heading_with [] ps None)) in
    let a : Laid l k = declared_laid l k d w in
    then_laid l k (body k b true) a (body_laid k b true a.whole)

pub body_count : (l : Layer) (b : Body) (c : Bool) → Whole l → length (body l b c).routines ≡ length l.routines + 1
body_count l b c w =
    let x : Option ℕ × Layer = body_items l b.statements c in
    let r : Result l x = body_fitted l b.statements c (whole_fitted l w) in
    let len : length x.1.routines ≡ length l.routines = ap (λ (js : List RoutineView). length js) (onward_routines l x.1 r.onward) in
    length-append x.1.routines (routine_of x.1 x.0 ∷ []) ∙ ap (λ k. k + 1) len

pub initial_count : (l : Layer) (ps : Parameters) (b : Body) → Whole l → length (initial_statement l ps b).routines ≡ length l.routines + 1
initial_count l ps b w =
    let m : Layer = with_new_frame l in
    let k : Layer = with_heading m (heading_with [] ps None) in
    let d : Declared l k = then_declared l m k (frame_new l w.ground.named) (heading_added m (heading_with [] ps None)) in
    body_count k b true (whole_declared l k d w)

initial_more : (l : Layer) (ps : Parameters) (b : Body) → Whole l → length l.routines < length (initial_statement l ps b).routines
initial_more l ps b w = let e = initial_count l ps b w in omega (arith, e)

-- the routine of a body is the last
pub record Last (m : Layer) (number of count : ℕ) : Type 0 where
  pub routine : RoutineView
  pub there : slice_get m.routines number ≡ Some routine
  pub system : routine.system ≡ of
  pub references : routine.references ≡ count

body_last : (l : Layer) (b : Body) (c : Bool) → Whole l → Last (body l b c) (length l.routines) (length l.systems) (length l.frame.extents)
body_last l b c w =
    let x : Option ℕ × Layer = body_items l b.statements c in
    let r : Result l x = body_fitted l b.statements c (whole_fitted l w) in
    let v : RoutineView = routine_of x.1 x.0 in
    let len : length x.1.routines ≡ length l.routines = ap (λ (js : List RoutineView). length js) (onward_routines l x.1 r.onward) in
    record {
      routine = v;
      there = ap (λ k. slice_get (x.1.routines ++ v ∷ []) k) (sym len) ∙ last_entry x.1.routines v;
      system = ap (λ (j : Layer). length j.systems) r.onward.grew.1;
      references = ap (λ (es : List ℕ). length es) r.onward.extents;
    }

pub initial_last : (l : Layer) (ps : Parameters) (b : Body) → Whole l → Last (initial_statement l ps b) (length l.routines) (length l.systems) 0
initial_last l ps b w =
    let m : Layer = with_new_frame l in
    let k : Layer = with_heading m (heading_with [] ps None) in
    let d : Declared l k = then_declared l m k (frame_new l w.ground.named) (heading_added m (heading_with [] ps None)) in
    body_last k b true (whole_declared l k d w)

-- ---- system types

pub record SystemLaid (x : CellType × Layer) : Type 0 where
  pub whole : Whole x.1
  pub is : IsType (length x.1.systems) x.0
  pub outside : Outside x.1

pub outside_declared : (l m : Layer) → Declared l m → Outside l → Outside m
outside_declared l m h o = subst (λ (j : Layer). Outside j) (sym h.same) o

-- what the routines of a system type name is its own, once it is whole
left_outside : (m : Layer) (s : System) (n : ℕ) (r : RoutineView) → m.owned.cells ≤ s.owned.cells → RoutineIs m r → RoutineIn (m.systems ++ s ∷ []) r
left_outside m s n r le (inl i) = record { system = i.system; there = still_there m.systems (s ∷ []) r.system i.system i.there; own = i.own }
left_outside m s n r le (inr i) = let a : r.own ≤ m.owned.cells = i.1 in record { system = s; there = rw i.0 (last_entry m.systems s); own = omega (arith, a, le) }

left_owning : (l m : Layer) (kind : SystemKind) (first initial : ℕ) → Owning l → Owning m → Last m initial (length m.systems) 0 → Owning (leave_system m (enter_system l).0 kind first initial).1
left_owning l m kind first initial o h last =
    let s : System = system_of kind m.owned first initial in
    record {
      owned = o.owned;
      systems = λ k t e. go k t (last_or_before m.systems s k t e);
      routines = λ n r e. inl (left_outside m s n r (omega arith) (h.routines n r e));
    }
  where
    go : (k : ℕ) (t : System) → (slice_get m.systems k ≡ Some t) ⊎ ((k ≡ length m.systems) × (t ≡ system_of kind m.owned first initial)) → SystemIs (leave_system m (enter_system l).0 kind first initial).1 k t
    go k t (inl e) = let i = h.systems k t e in record { routine = i.routine; there = i.there; same = i.same; references = i.references; owned = i.owned }
    go k t (inr e) = rw (e.0, e.1) (record { routine = last.routine; there = last.there; same = last.system; references = last.references; owned = h.owned })

left_sized : (l m : Layer) (kind : SystemKind) (first initial : ℕ) → Sized l → Laid l m → Sized (leave_system m (enter_system l).0 kind first initial).1
left_sized l m kind first initial z h =
    record {
      types = h.whole.sized.types;
      owned = rw h.later.types (by_more l.types h.later.more l.owned z.owned);
      systems = λ k s e. go k s (last_or_before m.systems (system_of kind m.owned first initial) k s e);
    }
  where
    go : (k : ℕ) (s : System) → (slice_get m.systems k ≡ Some s) ⊎ ((k ≡ length m.systems) × (s ≡ system_of kind m.owned first initial)) → SizedBy m.types s.owned
    go k s (inl e) = h.whole.sized.systems k s e
    go k s (inr e) = rw e.1 h.whole.sized.owned

left_laid : (l m : Layer) (kind : SystemKind) (first initial : ℕ) → Named l → Owning l → Sized l → Laid l m → initial < length m.routines → Last m initial (length m.systems) 0 → SystemLaid (leave_system m (enter_system l).0 kind first initial)
left_laid l m kind first initial n own z h lt last =
    let s : System = system_of kind m.owned first initial in
    let k : Layer = (leave_system m (enter_system l).0 kind first initial).1 in
    let more : length (m.systems ++ s ∷ []) ≡ length m.systems + 1 = length-append m.systems (s ∷ []) in
    let less : length l.systems ≡ length m.systems = ap (λ (ss : List System). length ss) (sym h.later.systems) in
    let le : length l.systems ≤ length (m.systems ++ s ∷ []) = omega (arith, more, less) in
    let up : length m.systems ≤ length (m.systems ++ s ∷ []) = omega (arith, more) in
    let g = h.whole.ground.named in
    let names : AreNames (length (m.systems ++ s ∷ [])) (length m.routines) l.names = names_more (length l.systems) (length (m.systems ++ s ∷ [])) (length l.routines) (length m.routines) l.names le h.later.routines n.names in
    record {
      whole = whole_around m k (record { names = names; types = types_more (length m.systems) (length (m.systems ++ s ∷ [])) m.types up g.types; systems = systems_with (length m.routines) m.systems s lt g.systems }) (left_owning l m kind first initial own h.whole.owning last) (left_sized l m kind first initial z h) h.whole;
      is = omega (arith, more);
      outside = λ i r e. left_outside m s i r (omega arith) (h.whole.owning.routines i r e);
    }

pub system_entered : (l : Layer) → Outside l → Whole l → Laid l (enter_system l).1
system_entered l o w =
    let n = w.ground.named in
    let h = w.owning in
    let k : Layer = (enter_system l).1 in
    record {
      later = record { systems = refl; routines = omega arith; more = []; types = sym (append-nil l.types) };
      whole = whole_around l k (record { names = names_inside (length l.systems) (length l.routines) l.names n.names; types = n.types; systems = n.systems }) (record {
        owned = none_owned;
        systems = λ j s e. (let i = h.systems j s e in record { routine = i.routine; there = i.there; same = i.same; references = i.references; owned = i.owned });
        routines = λ j r e. inl (o j r e);
      }) (record { types = w.sized.types; owned = omega arith; systems = w.sized.systems }) w;
    }

pub system_laid : (l : Layer) (s : syntax.System) → Whole l → Outside l → SystemLaid (system l s)
unfolding system
system_laid l s w out =
    let o = enter_system l in
    let x = system_groups o.1 [] s.parameters in
    let h : Laid l o.1 = system_entered l out w in
    let a : Declared o.1 x.1 = system_groups_declared o.1 [] s.parameters h.whole.ground.named in
    let p : Layer = permanent_parts x.1 s.parts in
    let b : Declared o.1 p = then_declared o.1 x.1 p a (permanent_declared x.1 s.parts) in
    let c : Laid l p = then_laid l o.1 p h (declared_laid o.1 p b h.whole) in
    let k : Layer = system_inside x.1 s in
    let d : Laid l k = then_laid l p k c (routines_laid p s.routines c.whole) in
    let m : Layer = initial_statement k x.0 s.body in
    let i : Laid k m = initial_laid k x.0 s.body d.whole in
    let e : Laid l m = then_laid l k m d i in
    let last : Last m (length k.routines) (length k.systems) 0 = initial_last k x.0 s.body d.whole in
    left_laid l m s.kind (length l.routines) (length k.routines) w.ground.named w.owning w.sized e (initial_more k x.0 s.body d.whole) (subst (λ (ss : List System). Last m (length k.routines) (length ss) 0) (sym i.later.systems) last)

pub definition_laid : (l : Layer) (d : Definition) → Whole l → Outside l → SystemLaid (definition l d)
definition_laid l (syntax.type_definition t) w o = let h : Typed l (written_type l t) = written_typed l t w.ground.named in record { whole = whole_declared l (written_type l t).1 h.declared w; is = h.is; outside = outside_declared l (written_type l t).1 h.declared o }
definition_laid l (syntax.system_definition s) w o = system_laid l s w o

pub named_laid : (x : List ℕ) (t : CellType × Layer) → SystemLaid t → Whole (with_type_name x t) × Outside (with_type_name x t)
named_laid x t h =
    let d = name_declared t.1 x (meaning.Kind t.0) h.is h.whole.ground.named in
    (whole_declared t.1 (with_type_name x t) d h.whole, outside_declared t.1 (with_type_name x t) d h.outside)

pub definitions_laid : (l : Layer) (ds : List SystemDefinition) → Whole l → Outside l → Whole (system_definitions l ds) × Outside (system_definitions l ds)
unfolding system_definitions
definitions_laid l [] w o = (w, o)
definitions_laid l (d ∷ ds) w o = let h = named_laid d.name.name (definition l d.value) (definition_laid l d.value w o) in definitions_laid (system_definition l d) ds h.0 h.1

-- ---- the program

pub part_laid : (l : Layer) (p : ProgramPart) → Whole l → Outside l → Whole (program_part l p) × Outside (program_part l p)
part_laid l (syntax.program_constants at ds) w o = let d = constants_declared l ds w.ground.named in (whole_declared l (constants l ds) d w, outside_declared l (constants l ds) d o)
part_laid l (syntax.program_types at ds) w o = definitions_laid l ds w o
part_laid l (syntax.program_variables at gs) w o = let d = variables_declared l gs w.ground.named in (whole_declared l (variables l gs) d w, outside_declared l (variables l gs) d o)

pub parts_laid : (l : Layer) (ps : List ProgramPart) → Whole l → Outside l → Whole (program_parts l ps)
unfolding program_parts
parts_laid l [] w o = w
parts_laid l (p ∷ ps) w o = let h = part_laid l p w o in parts_laid (program_part l p) ps h.0 h.1

pub nothing_whole : (lines : List ℕ) → Whole (nothing_laid lines)
nothing_whole lines =
    record {
      ground = record {
        named = record { names = (tt, (tt, (tt, (tt, (tt, (tt, (tt, (tt, (tt, (tt, (tt, (tt, (tt, (tt, (tt, tt))))))))))))))); types = λ n c e. absurd (none-some c e); systems = λ k s e. absurd (none-some s e) };
        bodies = λ n r e. absurd (none-some r e);
        bounded = λ at i e. absurd (none-some i e);
      };
      items = λ at i e. absurd (none-some i e);
      inside = λ at i e. absurd (none-some i e);
      routines = λ n r e. absurd (none-some r e);
      pending = refl;
      owning = record { owned = none_owned; systems = λ k s e. absurd (none-some s e); routines = λ n r e. absurd (none-some r e) };
      sized = record { types = λ n c e. absurd (none-some c e); owned = omega arith; systems = λ k s e. absurd (none-some s e) };
    }

-- a program, and its initial statement
pub record ProgramLaid (l : Layer) : Type 0 where
  pub whole : Whole l
  pub initial : ℕ
  pub count : length l.routines ≡ initial + 1
  pub last : Last l initial (length l.systems) 0

pub program_laid : (lines : List ℕ) (p : Program) → ProgramLaid (program (nothing_laid lines) p)
unfolding program
program_laid lines p =
    let l : Layer = nothing_laid lines in
    let k : Layer = program_parts l p.parts in
    let w : Whole k = parts_laid l p.parts (nothing_whole lines) (λ n r e. absurd (none-some r e)) in
    let m : Layer = routines k p.routines in
    let h : Laid k m = routines_laid k p.routines w in
    let i : Laid m (initial_statement m [] p.body) = initial_laid m [] p.body h.whole in
    let last = initial_last m [] p.body h.whole in
    record {
      whole = i.whole;
      initial = length m.routines;
      count = initial_count m [] p.body h.whole;
      last = subst (λ (ss : List System). Last (initial_statement m [] p.body) (length m.routines) (length ss) 0) (sym i.later.systems) last;
    }
