-- What the source calls a place to which a `var` parameter refers, and the value that stands there, are the same on names and on slots.
use Rattle.std.proofs.Common.{◌≡◌, ◌∙◌, ℕ, suc, ◌+◌, ◌-◌, ◌<◌, ◌≤◌, ◌==◌, ◌&&◌, ◌⊎◌, inl, inr, Bool, true, false, nat_le, nat_lt, if◌then◌else◌, List, [], ◌∷◌, Option, Some, None, map, length, slice_get, ap, ap₂, sym, refl, subst, arith}
use Rattle.std.proofs.lemmas.Bool.{eqb-true, le-ltb, lt-leb, ne_eqb}
use Rattle.std.proofs.lemmas.List.{length-map}
use Rattle.std.proofs.lemmas.Option.{none-some, slice_get-get_or, slice_get_within}
use Rattle.cp_tree.specs.Read.{IsRead}
use Rattle.cp_tree.specs.Syntax.{Tree}
use Rattle.cp_layout.specs.Laid.{plain, laid}
use Rattle.cp_slots.specs.declared.tables.Component.{Component}
use Rattle.cp_slots.specs.Systems.{own_of}
use Rattle.cp_slots.specs.Tables.{Tables, component_at, routine_at}
use Rattle.cp_store.specs.declared.memory.Address.{Address}
use Rattle.cp_store.specs.declared.memory.Address.TheVariants.{Permanent, Local}
use Rattle.cp_store.specs.declared.memory.Frame.{Frame}
use Rattle.cp_store.specs.Memory.{Memory}
use Rattle.cp_symbols.specs.Kinds as kinds
use Rattle.cp_symbols.specs.Kinds.{Compounds, most}
use Rattle.cp_meaning_laws.specs.Accepted.{IsAccepted}
use Rattle.cp_legend.specs.Names as legend
use Rattle.cp_legend.specs.Names.{Legend, Named, RoutineNames, name_of_routine}
use Rattle.cp_legend.specs.Places.{has_cell, local_name_in, owner, part_name, permanent_name_in, place_name}
use Rattle.cp_legend_laws.specs.Called.{called_in_legend, tabled}
use Rattle.cp_legend_laws.specs.Paths.{called_in_language}
use Rattle.cp_legend_laws.specs.PlacesTold.{part_text}
use Rattle.cp_legend_laws.specs.Routines.{AreLocals, IsLocal, local_name, own_variables}
use Rattle.cp_legend_laws.specs.Statements.{LocalIsNamed, PlacesAreNamed, RoutinesAreTold, routine_text}
use Rattle.cp_machine.specs.declared.discipline.Discipline as slot_gates
use Rattle.cp_machine.specs.Fits.{ThreadFits}
use Rattle.cp_machine.specs.Machine.{Machine, Thread, thread_at}
use Rattle.cp_machine.specs.Memory.{memory_at}
use Rattle.cp_meaning.specs.Components.{components_of}
use Rattle.cp_meaning.specs.Declarations.{RoutineMeaning, Variable}
use Rattle.cp_meaning.specs.Names.{Name, same_name}
use Rattle.cp_meaning.specs.Places.{View, call_above, content_of, value_at, value_held}
use Rattle.cp_meaning.specs.State as meaning
use Rattle.cp_meaning.specs.State.{Call, Holder, in_call, in_component, Place, State}
use Rattle.cp_meaning.specs.Steps.{view_of}
use Rattle.cp_meaning.specs.Types.{Ty}
use Rattle.cp_meaning.specs.Values.{Choice}
use Rattle.cp_resolved.specs.Encoded.{chosen_at}
use Rattle.cp_resolved.specs.Layouts.{FrameLayout, Layouts, cell_named, cells_of, look}
use Rattle.cp_resolved.specs.Openings.{Opening, meaning_at, numbering_of, openings_of}
use Rattle.cp_resolved.specs.Resolved.{AreApart, FrameIs}
use Rattle.cp_resolved.specs.Small.{Each}
use Rattle.cp_resolved.specs.TreeLayouts.{layouts_of}
use Rattle.cp_resolved.proofs.frames.Cells.{cells_same}
use Rattle.cp_resolved.proofs.frames.FrameCells.{look_each}
use Rattle.cp_machine_laws.specs.Law.{ground_of}
use Rattle.cp_machine_laws.specs.Named.{named_discipline}
use Rattle.cp_machine_laws.specs.Prepared.{Prepared}
use Rattle.cp_machine_laws.specs.Represents.{BeginsAt, CallIs, CallsHold, InComponent, InFrame, LiesAt, PlaceAt, Runs, frame_above, further, own_memory}
use Rattle.cp_machine_laws.proofs.HoldsInReached.{reached_stands}
use Rattle.cp_machine_laws.proofs.assignments.Overlaps.{part_ends}
use Rattle.cp_machine_laws.proofs.control.Control.{top_frame}
use Rattle.cp_machine_laws.proofs.control.Running.{all_lie}
use Rattle.cp_machine_laws.proofs.steps.Executed as executed
use Rattle.cp_machine_laws.proofs.expressions.Reading.{AllLie, calls_frames, frame_same, held_above, place_lies}
use Rattle.cp_story.specs.Passed.{frame_with, name_at, name_in_frame}
use Rattle.cp_story_laws.specs.Places.{place_text, routine_meant, text_held, text_with, variables_in, variables_of}
use Rattle.cp_story_laws.specs.Routines.{routine_of}
use Rattle.cp_story_laws.proofs.CalledRoutines.{HasName}
use Rattle.cp_story_laws.proofs.passed.FramesFound.{found}
use Rattle.cp_story_laws.proofs.passed.OwnNames.{HasNoHidden, IsHidden, no_hidden, own_looked, own_or_hidden}
use Rattle.cp_story_laws.proofs.Paths as by_number
use Rattle.cp_story_laws.proofs.Paths.{owner_component, same_component}
use Rattle.cp_story_laws.proofs.RoutinesExecuted.{executes_named}
use Rattle.cp_story_laws.proofs.passed.RoutinesMeant.{HoldsOf, holds_inside, meant_at, own_named}
use Rattle.cp_story_laws.proofs.Together as together

no_routine : RoutineNames
no_routine = record { name = []; parameters = []; variables = []; result = None }

-- ---- calls and frames

frame_there : (fs : List Frame) (below : ℕ) (f : Frame) → frame_above fs below ≡ Some f → below < length fs
frame_there [] below f e = absurd (none-some f e)
frame_there (g ∷ fs) below f e = go (length fs == below) refl (frame_there fs below f) e
  where
    go : (b : Bool) → (length fs == below) ≡ b → (frame_above fs below ≡ Some f → below < length fs) → (if b then Some g else frame_above fs below) ≡ Some f → below < suc (length fs)
    go true s ih d = let w = eqb-true (length fs) below s in omega (arith, w)
    go false s ih d = let w = ih d in omega (arith, w)

-- with one frame more on top
frame_more : (g : Frame) (fs : List Frame) (below : ℕ) (f : Frame) → frame_above fs below ≡ Some f → frame_above (g ∷ fs) below ≡ Some f
frame_more g fs below f e = let less = frame_there fs below f e in ap (λ (b : Bool). if b then Some g else frame_above fs below) (ne_eqb (length fs) below (λ d. omega (arith, d, less))) ∙ e

begins_more : (r : Tables) (l : Layouts) (g : Frame) (fs : List Frame) (h : Holder) (x : Name) (w : Ty) (a : Address) → BeginsAt r l fs h x w a → BeginsAt r l (g ∷ fs) h x w a
begins_more r l g fs (in_component n) x w a b = b
begins_more r l g fs (in_call below) x w a b = go (frame_above fs below) refl b
  where
    go : (o : Option Frame) → frame_above fs below ≡ o → InFrame l o x w a → InFrame l (frame_above (g ∷ fs) below) x w a
    go None e k = absurd k
    go (Some f) e k = subst (λ (o : Option Frame). InFrame l o x w a) (sym (frame_more g fs below f e)) k

place_more : (r : Tables) (l : Layouts) (g : Frame) (fs : List Frame) (q : Place) (w : Ty) (a : Address) → PlaceAt r l fs q w a → PlaceAt r l (g ∷ fs) q w a
place_more r l g fs q w a k = record { whole = k.whole; first = k.first; offset = k.offset; begins = begins_more r l g fs q.holder q.name k.whole k.first k.begins; chosen = k.chosen; address = k.address }

-- the call of a frame
call_at : (r : Tables) (l : Layouts) (m : Memory) (cs : List Call) (fs : List Frame) (below : ℕ) (f : Frame) → CallsHold r l m cs fs → frame_above fs below ≡ Some f → CallIs r l (call_above cs below) f
call_at r l m [] [] below f h e = absurd (none-some f e)
call_at r l m (c ∷ cs) (g ∷ fs) below f h e = subst (λ (n : ℕ). CallIs r l (if n == below then c else call_above cs below) f) (sym (calls_frames r l m cs fs h.2)) (go (length fs == below) (call_at r l m cs fs below f h.2) e)
  where
    go : (b : Bool) → (frame_above fs below ≡ Some f → CallIs r l (call_above cs below) f) → (if b then Some g else frame_above fs below) ≡ Some f → CallIs r l (if b then c else call_above cs below) f
    go true ih d = subst (CallIs r l c) (frame_same g f d) h.0
    go false ih d = ih d
call_at r l m _ _ below f h e = absurd h

-- ---- cells of a frame that no own variable has

module _ (t : Tree) (ts : Compounds) (constants : List (List ℕ)) (n : ℕ) (own : List ℕ) (x : Name) (w : Ty) (i : ℕ) (less : i < cells_of w) (few : (y : Name) (u : Ty) → look y ((layouts_of t).frames n).variables ≡ Some u → cells_of u ≤ most) (apart : AreApart (cell_named ((layouts_of t).frames n)) ((layouts_of t).frames n).variables) (known : look x ((layouts_of t).frames n).variables ≡ Some w) where
  abbrev layout : FrameLayout
  layout = (layouts_of t).frames n

  abbrev at_cell : ℕ
  at_cell = cell_named layout x + i

  other_cell : (v : Variable) (z : legend.Variable) → IsLocal t ts n own v z → same_name x v.name ≡ false → look v.name layout.variables ≡ Some v.ty → has_cell ts z at_cell ≡ false
  other_cell v z h other there = go (apart x v.name w v.ty other known there)
    where
      many : kinds.cells_of ts z.shape ≡ cells_of v.ty
      many = cells_same (numbering_of t.program) ts v.ty z.shape h.shape (few v.name v.ty there)

      never : (b : Bool) → (b && false) ≡ false
      never true = refl
      never false = refl

      go : (cell_named layout x + cells_of w ≤ cell_named layout v.name) ⊎ (cell_named layout v.name + cells_of v.ty ≤ cell_named layout x) → has_cell ts z at_cell ≡ false
      go (inl before) = let at = h.slot in ap (λ (b : Bool). b && nat_lt (at_cell - z.slot) (kinds.cells_of ts z.shape)) (lt-leb z.slot at_cell (omega (arith, at, before, less)))
      go (inr after) = let at = h.slot in ap (λ (b : Bool). nat_le z.slot at_cell && b) (le-ltb (at_cell - z.slot) (kinds.cells_of ts z.shape) (omega (arith, at, many, after))) ∙ never (nat_le z.slot at_cell)

  pub hidden_told : (cells : ℕ) (vs : List Variable) (zs : List legend.Variable) → Each (λ (v : Variable). look v.name layout.variables ≡ Some v.ty) vs → AreLocals t ts n own vs zs → look x vs ≡ None → place_name constants ts zs at_cell cells ≡ []
  hidden_told cells [] [] each are none = refl
  hidden_told cells (v ∷ vs) (z ∷ zs) each are none = go (same_name x v.name) refl none (hidden_told cells vs zs each.1 are.1)
    where
      go : (b : Bool) → same_name x v.name ≡ b → (if b then Some v.ty else look x vs) ≡ None → (look x vs ≡ None → place_name constants ts zs at_cell cells ≡ []) → place_name constants ts (z ∷ zs) at_cell cells ≡ []
      go true e d rest = absurd (none-some v.ty (sym d))
      go false e d rest = ap (λ (b : Bool). if b then part_name constants ts z at_cell cells else place_name constants ts zs at_cell cells) (other_cell v z are.0 e each.0) ∙ rest d
  hidden_told cells [] (z ∷ zs) each are none = absurd are
  hidden_told cells (v ∷ vs) [] each are none = absurd are

-- ---- places

-- what is known of the legend
module _ (t : Tree) (r : Tables) (g : slot_gates.Discipline) (l : Legend) (read : IsRead t.program) (ok : IsAccepted t) (same : plain r ≡ laid t) (tables : map tabled l.components ≡ r.components) (paths : map called_in_legend l.components ≡ map (called_in_language t.program) (components_of t.program))
    (names : map (λ (n : RoutineNames). n.name) l.routines ≡ map routine_text (openings_of t.program)) (places : PlacesAreNamed t l) (locals : RoutinesAreTold t l) where
  prepared : Prepared t r (layouts_of t)
  prepared = together.prepared t r g read ok same

  -- a routine that has a name is one of the legend
  pub told : (n : ℕ) → HasName (slice_get (openings_of t.program) n) → (z : RoutineNames) × (slice_get l.routines n ≡ Some z)
  told n h = go (slice_get (openings_of t.program) n) refl h
    where
      go : (o : Option Opening) → slice_get (openings_of t.program) n ≡ o → HasName o → (z : RoutineNames) × (slice_get l.routines n ≡ Some z)
      go None e i = absurd i
      go (Some o) e i =
          let a = slice_get_within (openings_of t.program) n o e in
          let b = length-map l.routines (λ (k : RoutineNames). k.name) in
          let c = length-map (openings_of t.program) routine_text in
          let d = ap (λ (xs : List (List ℕ)). length xs) names in
          (_, slice_get-get_or l.routines n no_routine (omega (arith, a, b, c, d)))

  module _ (s : State) (m : Machine) (sim : together.Related t r g read ok same s m) (p : ℕ) (many : p < length m.threads) (runs : Runs (ground_of t r) t.program (layouts_of t) (meaning.process_at s.processes p) (thread_at m.threads p)) where
    abbrev lay : Layouts
    lay = layouts_of t

    abbrev thread : Thread
    thread = thread_at m.threads p

    abbrev v : View
    v = view_of t.program s p

    -- the frames of the callers
    abbrev pub fs : List Frame
    fs = (top_frame thread.frame thread.stack).0

    pub fits : ThreadFits r thread
    fits = sim.fits.each p many

    pub held : CallsHold r lay (own_memory thread) v.calls (thread.frame ∷ fs)
    held = subst (CallsHold r lay (own_memory thread) v.calls) (top_frame thread.frame thread.stack).1 runs.calls

    all : AllLie r lay (thread.frame ∷ fs) v (memory_at m p)
    all = all_lie (ground_of t r) t.program lay s m p (thread.frame ∷ fs) sim.represents held

    -- the value at a place
    pub value_lies : (q : Place) (u : Ty) (a : Address) → PlaceAt r lay fs q u a → LiesAt (memory_at m p) u (value_at v q) a
    value_lies q u a k = place_lies r lay (thread.frame ∷ fs) v (memory_at m p) all q u a (place_more r lay thread.frame fs q u a k)

    pub few_cells : length thread.cells ≤ most
    few_cells = let a = executed.few_cells t r lay prepared m p sim.fits many in omega (arith, a)

    -- ---- in a frame

    module _ (below : ℕ) (f : Frame) (at : frame_above fs below ≡ Some f) (x : Name) (w : Ty) (known : look x (lay.frames f.routine).variables ≡ Some w) (cs : List Choice) (i : ℕ) (u : Ty) (chosen : chosen_at w cs ≡ Some (i, u)) (some : 1 ≤ cells_of u) where
      abbrev n : ℕ
      n = f.routine

      abbrev c : Call
      c = call_above v.calls below

      here : frame_above (thread.frame ∷ fs) below ≡ Some f
      here = frame_more thread.frame fs below f at

      is : CallIs r lay c f
      is = call_at r lay (own_memory thread) v.calls (thread.frame ∷ fs) below f held here

      frame : FrameIs (lay.frames n) (routine_at r n) (meaning_at t.program n)
      frame = (prepared.stands.routines n is.routine).frame

      lies : (y : Name) (z : Ty) → look y (lay.frames n).variables ≡ Some z → LiesAt (own_memory thread) z (value_held (content_of y c.environment)) (Local (f.base + cell_named (lay.frames n) y))
      lies y z e = held_above r lay (own_memory thread) v.calls (thread.frame ∷ fs) below f y z held here e

      few : (y : Name) (z : Ty) → look y (lay.frames n).variables ≡ Some z → cells_of z ≤ most
      few y z e = let a = (lies y z e).cells in let b = few_cells in omega (arith, a, b)

      ends : i + cells_of u ≤ cells_of w
      ends = part_ends w _ cs (i, u) (lies x w known).typed chosen

      abbrev cell : ℕ
      cell = f.base + cell_named (lay.frames n) x + i

      with_frame : frame_with thread.stack cell ≡ Some f
      with_frame =
          let a = ends in
          let b = frame.cells x w known in
          found r cell below f (omega arith) (omega (arith, a, b, some)) thread.frame thread.stack fits.stack thread.frame fs (top_frame thread.frame thread.stack).1 at

      on_slots : name_at l thread.stack (Some (Local cell)) (cells_of u) ≡ local_name_in l.constants l.shapes (slice_get l.routines n) (cell_named (lay.frames n) x + i) (cells_of u)
      on_slots = ap (λ (o : Option Frame). name_in_frame l o cell (cells_of u)) with_frame ∙ ap (λ (k : ℕ). local_name_in l.constants l.shapes (slice_get l.routines n) k (cells_of u)) (let e : cell - f.base ≡ cell_named (lay.frames n) x + i = omega arith in e)

      own_told : look x (own_variables (meaning_at t.program n)) ≡ Some w → name_at l thread.stack (Some (Local cell)) (cells_of u) ≡ text_held v (in_call below) x cs
      own_told own =
          let has = own_named t.program n x w own in
          let z = told n has in
          let one : LocalIsNamed t l n z.0 (record { name = x; ty = w }) = look_each (LocalIsNamed t l n z.0) x w (own_variables (meaning_at t.program n)) (places.locals n z.0 z.1) own in
          let variables : variables_of c ≡ own_variables (meaning_at t.program n) = ap variables_in (ap routine_meant is.scope ∙ meant_at t.program n has) in
          let called : z.0.name ≡ routine_of c = ap name_of_routine (sym z.1) ∙ executes_named t.program l.routines names n has c is.scope in
          on_slots
          ∙ (ap (λ (o : Option RoutineNames). local_name_in l.constants l.shapes o (cell_named (lay.frames n) x + i) (cells_of u)) z.1
          ∙ (one cs i u chosen
          ∙ (ap (λ (y : Name). part_text (local_name y x) w cs) called
          ∙ ap (λ (o : Option Ty). text_with (local_name (routine_of c) x) o cs) (sym (ap (look x) variables ∙ own)))))

      hidden_there : IsHidden x → name_at l thread.stack (Some (Local cell)) (cells_of u) ≡ text_held v (in_call below) x cs
      hidden_there h =
          on_slots ∙ (slots (slice_get l.routines n) refl ∙ sym (ap (λ (o : Option Ty). text_with (local_name (routine_of c) x) o cs) (ap (λ (o : Option RoutineMeaning). look x (variables_in o)) (ap routine_meant is.scope) ∙ no_own (routine_meant (meaning_at t.program n).scope) (holds_inside HasNoHidden t.program (λ k. no_hidden t read ok k) n))))
        where
          slots : (o : Option RoutineNames) → slice_get l.routines n ≡ o → local_name_in l.constants l.shapes o (cell_named (lay.frames n) x + i) (cells_of u) ≡ []
          slots None e = refl
          slots (Some z) e =
              let a = ends in
              hidden_told t l.shapes l.constants n z.name x w i (omega (arith, a, some)) few frame.apart known (cells_of u) (own_variables (meaning_at t.program n)) z.variables (own_looked t read ok n r frame) (locals n z e).variables (no_hidden t read ok n x h)

          no_own : (o : Option RoutineMeaning) → HoldsOf HasNoHidden o → look x (variables_in o) ≡ None
          no_own None k = refl
          no_own (Some k) e = e x h

      pub local_told : name_at l thread.stack (Some (Local cell)) (cells_of u) ≡ text_held v (in_call below) x cs
      local_told = go (own_or_hidden t read ok n x w known)
        where
          go : (look x (own_variables (meaning_at t.program n)) ≡ Some w) ⊎ IsHidden x → name_at l thread.stack (Some (Local cell)) (cells_of u) ≡ text_held v (in_call below) x cs
          go (inl own) = own_told own
          go (inr h) = hidden_there h

    -- ---- in a component

    module _ (n : ℕ) (x : Name) (w : Ty) (first : Address) (inside : InComponent r lay n x w first) (cs : List Choice) (i : ℕ) (u : Ty) (chosen : chosen_at w cs ≡ Some (i, u)) (some : 1 ≤ cells_of u) where
      abbrev kept_system : ℕ
      kept_system = (component_at r n).system

      abbrev component : Named
      component = by_number.name_at l.components n

      there : n < length s.components
      there = let a = sim.represents.component_count in let b = inside.there in omega (arith, a, b)

      ends_inside : i + cells_of u ≤ cells_of w
      ends_inside = part_ends w _ cs (i, u) ((sim.represents.components n there).variables x w inside.known).typed chosen

      fits_in : (lay.systems kept_system).slots x + cells_of w ≤ own_of r n
      fits_in = (prepared.stands.systems kept_system (prepared.program.below n inside.there)).cells x w inside.known

      abbrev own_cell : ℕ
      own_cell = (component_at r n).base + (lay.systems kept_system).slots x + i

      is_tabled : component_at r n ≡ tabled component
      is_tabled = same_component t r lay prepared.stands prepared.sound.typed l.components tables paths n own_cell inside.there

      system : kept_system ≡ component.system
      system = ap (λ (d : Component). d.system) is_tabled

      base : (component_at r n).base ≡ component.base
      base = ap (λ (d : Component). d.base) is_tabled

      owned : owner l.components own_cell ≡ Some component
      owned =
          let a = ends_inside in
          let b = fits_in in
          owner_component t r lay prepared.stands prepared.sound.typed l.components tables paths n own_cell inside.there (omega arith) (omega (arith, a, b, some))

      system_now : (meaning.component_at s.components n).system ≡ kept_system
      system_now = (reached_stands t ok (named_discipline g) s sim.reached).system n ∙ sym ((prepared.stands.components n inside.there).system)

      pub permanent_told : name_at l thread.stack (Some (Permanent own_cell)) (cells_of u) ≡ text_held v (in_component n) x cs
      permanent_told =
          let low = prepared.program.below n inside.there in
          let at : own_cell ≡ component.base + ((lay.systems component.system).slots x + i) = (let a = base in let b = ap (λ (j : ℕ). (lay.systems j).slots x) system in omega (arith, a, b)) in
          ap₂ (λ (o : Option Named) (j : ℕ). permanent_name_in l.constants l.shapes l.permanents o j (cells_of u)) owned at
          ∙ (places.permanents component x w cs i u (let a = low in omega (arith, a, system)) (subst (λ (j : ℕ). look x (lay.systems j).variables ≡ Some w) system inside.known) chosen
          ∙ sym (ap (λ (j : ℕ). text_with x (look x (lay.systems j).variables) cs) system_now ∙ ap (λ (o : Option Ty). text_with x o cs) inside.known))

    -- ---- wherever it is

    place_in : (h : Holder) (x : Name) (w : Ty) (first : Address) → BeginsAt r lay fs h x w first → (cs : List Choice) (i : ℕ) (u : Ty) → chosen_at w cs ≡ Some (i, u) → 1 ≤ cells_of u → name_at l thread.stack (Some (further first i)) (cells_of u) ≡ text_held v h x cs
    place_in (in_component n) x w first b cs i u chosen some = ap (λ (a : Address). name_at l thread.stack (Some (further a i)) (cells_of u)) b.address ∙ permanent_told n x w first b cs i u chosen some
    place_in (in_call below) x w first b cs i u chosen some = go (frame_above fs below) refl b
      where
        go : (o : Option Frame) → frame_above fs below ≡ o → InFrame lay o x w first → name_at l thread.stack (Some (further first i)) (cells_of u) ≡ text_held v (in_call below) x cs
        go None e k = absurd k
        go (Some f) e k = ap (λ (a : Address). name_at l thread.stack (Some (further a i)) (cells_of u)) k.1 ∙ local_told below f e x w k.0 cs i u chosen some

    -- its name
    pub place_told : (q : Place) (u : Ty) (a : Address) → PlaceAt r lay fs q u a → 1 ≤ cells_of u → name_at l thread.stack (Some a) (cells_of u) ≡ place_text v q
    place_told q u a k some = ap (λ (b : Address). name_at l thread.stack (Some b) (cells_of u)) k.address ∙ place_in q.holder q.name k.whole k.first k.begins q.choices k.offset u k.chosen some
