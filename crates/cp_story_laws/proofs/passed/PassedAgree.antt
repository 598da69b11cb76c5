-- What a story tells that the innermost call of a process is given and gives back is what the meaning says.
use Rattle.std.proofs.Common.{◌≡◌, ◌∙◌, ℕ, ◌+◌, ◌<◌, ◌≤◌, Bool, true, false, List, [], ◌∷◌, ◌++◌, Option, Some, None, flat_map, map, length, slice_get, ap, ap₂, sym, refl, arith}
use Rattle.std.proofs.lemmas.Option.{slice_get-get_or, slice_get_within}
use Rattle.cp_tree.specs.Read.{IsRead}
use Rattle.cp_tree.specs.Syntax.{Tree}
use Rattle.cp_layout.specs.Laid.{plain, laid}
use Rattle.cp_slots.specs.Tables.{Tables, routine_at}
use Rattle.cp_store.specs.declared.memory.Address.{Address}
use Rattle.cp_store.specs.declared.memory.Address.TheVariants.{Permanent, Local}
use Rattle.cp_store.specs.declared.memory.Frame.{Frame}
use Rattle.cp_store.specs.Inside.{HasCells}
use Rattle.cp_store.specs.Memory.{Memory, nowhere}
use Rattle.cp_store.specs.Places.{reference_at}
use Rattle.cp_symbols.specs.declared.kinds.CellType.{CellType}
use Rattle.cp_symbols.specs.Kinds as kinds
use Rattle.cp_symbols.specs.Kinds.{most, plus}
use Rattle.cp_meaning_laws.specs.Accepted.{IsAccepted}
use Rattle.cp_legend.specs.declared.legend.LegendParameter.{LegendParameter}
use Rattle.cp_legend.specs.Names as legend
use Rattle.cp_legend.specs.Names.{Legend, RoutineNames}
use Rattle.cp_legend.specs.Values as told
use Rattle.cp_legend_laws.specs.Called.{called_in_legend, tabled}
use Rattle.cp_legend_laws.specs.Paths.{called_in_language}
use Rattle.cp_legend_laws.specs.Routines.{AreParameters, IsParameter, at_place, own_variables, passing_of, result_variable, value_parameters}
use Rattle.cp_legend_laws.specs.Routines as routines
use Rattle.cp_legend_laws.specs.Statements.{IsTold, PlacesAreNamed, RoutinesAreTold, ValuesAreTold, routine_text}
use Rattle.cp_legend_laws.specs.ValuesTold.{value_told}
use Rattle.cp_machine.specs.declared.discipline.Discipline as slot_gates
use Rattle.cp_machine.specs.Machine.{Machine, Thread, thread_at}
use Rattle.cp_machine.specs.Memory.{memory_at}
use Rattle.cp_meaning.specs.Components.{components_of}
use Rattle.cp_meaning.specs.Declarations.{Parameter, RoutineMeaning, Variable}
use Rattle.cp_meaning.specs.Names.{Name, result_name}
use Rattle.cp_meaning.specs.Places.{View, content_of, value_at, value_held}
use Rattle.cp_meaning.specs.State as meaning
use Rattle.cp_meaning.specs.State.{Call, Content, current, holds, knows, Place, refers, State}
use Rattle.cp_meaning.specs.Steps.{view_of}
use Rattle.cp_meaning.specs.Types.{Ty}
use Rattle.cp_meaning.specs.Values.{Value}
use Rattle.cp_resolved.specs.Encoded.{encode}
use Rattle.cp_resolved.specs.InStep.{TypeIs}
use Rattle.cp_resolved.specs.Layouts.{FrameLayout, Layouts, cell_named, cells_of, look}
use Rattle.cp_resolved.specs.Openings.{Opening, meaning_at, numbering_of, openings_of}
use Rattle.cp_resolved.specs.Resolved.{FrameIs, ParameterIs, ParametersAre, ResultIs, StandsAt}
use Rattle.cp_resolved.specs.Small.{Each}
use Rattle.cp_resolved.specs.TreeLayouts.{layouts_of}
use Rattle.cp_resolved.proofs.agreeing.AgreeingWritten.{each_left, each_right}
use Rattle.cp_resolved.proofs.frames.Cells.{cells_same}
use Rattle.cp_machine_laws.specs.Law.{ground_of}
use Rattle.cp_machine_laws.specs.Represents.{CallHolds, CallIs, CallsHold, LiesAt, PlaceAt, Runs, own_memory}
use Rattle.cp_machine_laws.proofs.expressions.Parts.{encode_length}
use Rattle.cp_machine_laws.proofs.steps.Executed as executed
use Rattle.cp_story.specs.Passed as slots
use Rattle.cp_story.specs.Passed.{Given, address_of, argument, argument_by, arguments, arguments_for, given, given_by, given_for, name_at, place_named, read, variable_at}
use Rattle.cp_story_laws.specs.Passed as on_names
use Rattle.cp_story_laws.specs.Passed.{argument_told, arguments_told, content_given, content_told}
use Rattle.cp_story_laws.specs.Places.{parameters_in, place_text, result_in, routine_meant}
use Rattle.cp_story_laws.proofs.CalledRoutines.{HasName}
use Rattle.cp_story_laws.proofs.passed.PlacesAgree as agree
use Rattle.cp_story_laws.proofs.passed.ReferencesFilled.{references_filled}
use Rattle.cp_story_laws.proofs.passed.RoutinesMeant.{meant_at}
use Rattle.cp_story_laws.proofs.Together as together

-- ---- cells

local_stands : (m : Memory) (u : Ty) (w : Value) (n : ℕ) → LiesAt m u w (Local n) → StandsAt m.cells n (encode w)
local_stands m u w n h = record { inside = (let a = encode_length u w h.typed in let b = h.cells in omega (arith, a, b)); same = λ k lt. h.block k lt }

permanent_stands : (m : Memory) (u : Ty) (w : Value) (n : ℕ) → LiesAt m u w (Permanent n) → StandsAt m.permanents n (encode w)
permanent_stands m u w n h = record { inside = (let a = encode_length u w h.typed in let b = h.cells in omega (arith, a, b)); same = λ k lt. h.block k lt }

-- the value at an address
value_there : (t : Tree) (l : Legend) (m : Memory) (u : Ty) (w : Value) (shape : CellType) (a : Address) → length m.permanents ≤ most → length m.cells ≤ most → IsTold t l u → TypeIs (numbering_of t.program) l.shapes u shape → LiesAt m u w a → slots.value_at l m.permanents m.cells (Some a) shape ≡ value_told u w
value_there t l m u w shape (Permanent n) few fewer is typed h = is shape w m.permanents n typed h.typed (permanent_stands m u w n h) few
value_there t l m u w shape (Local n) few fewer is typed h = is shape w m.cells n typed h.typed (local_stands m u w n h) fewer

cells_few : (m : Memory) (a : Address) (k : ℕ) → length m.permanents ≤ most → length m.cells ≤ most → HasCells m a k → k ≤ most
cells_few m (Permanent n) k few fewer h = omega (arith, few, h)
cells_few m (Local n) k few fewer h = omega (arith, fewer, h)

-- ---- contents

plain_told : (v : View) (q : Parameter) (o : Option Content) → ((x : Place) → o ≡ Some (refers x) → ⊥) → content_told v q o ≡ value_told q.ty (value_held o)
plain_told v q (Some (refers x)) bad = absurd (bad x refl)
plain_told v q (Some (holds w)) bad = refl
plain_told v q (Some (knows n)) bad = refl
plain_told v q None bad = refl

plain_given : (v : View) (q : Parameter) (o : Option Content) → ((x : Place) → o ≡ Some (refers x) → ⊥) → content_given v q o ≡ []
plain_given v q (Some (refers x)) bad = absurd (bad x refl)
plain_given v q (Some (holds w)) bad = refl
plain_given v q (Some (knows n)) bad = refl
plain_given v q None bad = refl

place_same : (vs : List legend.Variable) (o : Option ℕ) → variable_at vs o ≡ at_place vs o
place_same vs None = refl
place_same vs (Some n) = refl

-- the innermost call and its frame
top_call : (r : Tables) (l : Layouts) (m : Memory) (cs : List Call) (f : Frame) (fs : List Frame) → CallsHold r l m cs (f ∷ fs) → CallIs r l (current cs) f × CallHolds r l m (current cs) f fs
top_call r l m [] f fs h = absurd h
top_call r l m (c ∷ cs) f fs h = (h.0, h.1)

-- ---- the innermost call

module _ (t : Tree) (r : Tables) (g : slot_gates.Discipline) (l : Legend) (read_so : IsRead t.program) (ok : IsAccepted t) (same : plain r ≡ laid t) (tables : map tabled l.components ≡ r.components) (paths : map called_in_legend l.components ≡ map (called_in_language t.program) (components_of t.program))
    (names : map (λ (n : RoutineNames). n.name) l.routines ≡ map routine_text (openings_of t.program)) (places : PlacesAreNamed t l) (locals : RoutinesAreTold t l) (values : ValuesAreTold t l)
    (s : State) (m : Machine) (sim : together.Related t r g read_so ok same s m) (p : ℕ) (there : p < length m.threads) (runs : Runs (ground_of t r) t.program (layouts_of t) (meaning.process_at s.processes p) (thread_at m.threads p))
    (has : HasName (slice_get (openings_of t.program) (thread_at m.threads p).frame.routine)) where
  abbrev lay : Layouts
  lay = layouts_of t

  abbrev thread : Thread
  thread = thread_at m.threads p

  abbrev v : View
  v = view_of t.program s p

  abbrev c : Call
  c = current v.calls

  abbrev n : ℕ
  n = thread.frame.routine

  abbrev f : FrameLayout
  f = lay.frames n

  abbrev mine : RoutineMeaning
  mine = meaning_at t.program n

  abbrev fs : List Frame
  fs = agree.fs t r g l read_so ok same tables paths names places locals s m sim p there runs

  top : CallIs r lay c thread.frame × CallHolds r lay (own_memory thread) c thread.frame fs
  top = top_call r lay (own_memory thread) v.calls thread.frame fs (agree.held t r g l read_so ok same tables paths names places locals s m sim p there runs)

  frame : FrameIs f (routine_at r n) mine
  frame = ((together.prepared t r g read_so ok same).stands.routines n top.0.routine).frame

  few_cells : length thread.cells ≤ most
  few_cells = agree.few_cells t r g l read_so ok same tables paths names places locals s m sim p there runs

  few_permanents : length m.permanents ≤ most
  few_permanents = let a = executed.few_permanents t r lay (together.prepared t r g read_so ok same) m p sim.fits there in omega (arith, a)

  few_references : length thread.references ≤ most
  few_references = let a = executed.few_references t r lay (together.prepared t r g read_so ok same) m p sim.fits there in omega (arith, a)

  known : n < length (openings_of t.program)
  known = go (slice_get (openings_of t.program) n) refl has
    where
      go : (o : Option Opening) → slice_get (openings_of t.program) n ≡ o → HasName o → n < length (openings_of t.program)
      go None e h = absurd h
      go (Some o) e h = slice_get_within (openings_of t.program) n o e

  meant : routine_meant c.scope ≡ Some mine
  meant = ap routine_meant top.0.scope ∙ meant_at t.program n has

  -- ---- variables

  -- the value of one that has cells of the frame
  variable_told : (x : Name) (u : Ty) (shape : CellType) (slot : ℕ) → look x f.variables ≡ Some u → IsTold t l u → TypeIs (numbering_of t.program) l.shapes u shape → slot ≡ cell_named f x →
      read l thread.cells shape (plus thread.frame.base slot) ≡ value_told u (value_held (content_of x c.environment))
  variable_told x u shape slot e is typed at =
      let h = top.1.variables x u e in
      let cell : plus thread.frame.base slot ≡ thread.frame.base + cell_named f x = (let a = h.cells in let b = few_cells in omega (arith, a, b, at)) in
      ap (read l thread.cells shape) cell ∙ is shape (value_held (content_of x c.environment)) thread.cells (thread.frame.base + cell_named f x) typed h.typed (local_stands (own_memory thread) u (value_held (content_of x c.environment)) (thread.frame.base + cell_named f x) h) few_cells

  -- ---- `var` parameters

  module _ (q : Parameter) (w : LegendParameter) (is : IsParameter t l.shapes n q w) (refers_so : look q.name f.references ≡ Some q.ty) where
    abbrev a : Address
    a = reference_at thread.references (thread.frame.references + cell_named f q.name)

    at : (x : Place) × (content_of q.name c.environment ≡ Some (refers x)) × PlaceAt r lay fs x q.ty a
    at = top.1.references q.name q.ty refers_so

    abbrev place : Place
    place = at.0

    lies : LiesAt (memory_at m p) q.ty (value_at v place) a
    lies = agree.value_lies t r g l read_so ok same tables paths names places locals s m sim p there runs place q.ty a at.2

    many : kinds.cells_of l.shapes w.shape ≡ cells_of q.ty
    many = cells_same (numbering_of t.program) l.shapes q.ty w.shape is.shape (cells_few (memory_at m p) a (cells_of q.ty) few_permanents few_cells lies.cells)

    address : address_of thread w ≡ Some a
    address =
        let few : cell_named f q.name < (routine_at r n).references = (frame.numbered q.name q.ty refers_so).0 in
        let all = (agree.fits t r g l read_so ok same tables paths names places locals s m sim p there runs).references in
        let number : plus thread.frame.references w.slot ≡ thread.frame.references + cell_named f q.name = (let i = is.slot in let j = few_references in omega (arith, few, all, i, j)) in
        ap (slice_get thread.references) number ∙ slice_get-get_or thread.references (thread.frame.references + cell_named f q.name) nowhere (omega (arith, few, all))

    name_told : place_named l thread w ≡ place_text v place
    name_told =
        ap₂ (λ (o : Option Address) (k : ℕ). name_at l thread.stack o k) address many
        ∙ agree.place_told t r g l read_so ok same tables paths names places locals s m sim p there runs place q.ty a at.2 (references_filled t read_so ok n q.name q.ty refers_so)

    value_is : IsTold t l q.ty → slots.value_at l m.permanents thread.cells (address_of thread w) w.shape ≡ value_told q.ty (value_at v place)
    value_is told_so = ap (λ (o : Option Address). slots.value_at l m.permanents thread.cells o w.shape) address ∙ value_there t l (memory_at m p) q.ty (value_at v place) w.shape a few_permanents few_cells told_so is.shape lies

  -- ---- what the call is given

  one_argument : (q : Parameter) (w : LegendParameter) → IsParameter t l.shapes n q w → ParameterIs f q.is_var q → IsTold t l q.ty → argument l thread w ≡ argument_told v q
  one_argument q w is k told_so = ap (argument_by l thread w) is.passing ∙ go q.is_var k
    where
      go : (b : Bool) → ParameterIs f b q → argument_by l thread w (passing_of b) ≡ argument_told v q
      go false e = variable_told q.name q.ty w.shape w.slot e told_so is.shape is.slot ∙ sym (plain_told v q (content_of q.name c.environment) (λ x d. top.1.plain q.name q.ty x e d))
      go true e = ap told.named (name_told q w is e) ∙ sym (ap (content_told v q) (at q w is e).1)

  all_arguments : (qs : List Parameter) (ws : List LegendParameter) → AreParameters t l.shapes n qs ws → ParametersAre f qs → Each (λ (q : Parameter). IsTold t l q.ty) qs → map (argument l thread) ws ≡ map (argument_told v) qs
  all_arguments [] [] are ks told_so = refl
  all_arguments (q ∷ qs) (w ∷ ws) are ks told_so = ap₂ (λ (y : told.Value) (ys : List told.Value). y ∷ ys) (one_argument q w are.0 ks.0 told_so.0) (all_arguments qs ws are.1 ks.1 told_so.1)
  all_arguments [] (w ∷ ws) are ks told_so = absurd are
  all_arguments (q ∷ qs) [] are ks told_so = absurd are

  abbrev mine_told : (z : RoutineNames) × (slice_get l.routines n ≡ Some z)
  mine_told = agree.told t r g l read_so ok same tables paths names places locals n has

  pub arguments_same : arguments l (Some thread) ≡ arguments_told v
  arguments_same =
      let z = mine_told in
      ap (arguments_for l thread) z.1
      ∙ (all_arguments mine.parameters z.0.parameters (locals n z.0 z.1).parameters frame.parameters (values.parameters n known)
      ∙ sym (ap (λ (o : Option RoutineMeaning). map (argument_told v) (parameters_in o)) meant))

  -- ---- what it gives back

  one_given : (q : Parameter) (w : LegendParameter) → IsParameter t l.shapes n q w → ParameterIs f q.is_var q → IsTold t l q.ty → slots.parameter_given l m.permanents thread w ≡ on_names.parameter_given v q
  one_given q w is k told_so = ap (given_by l m.permanents thread w) is.passing ∙ go q.is_var k
    where
      go : (b : Bool) → ParameterIs f b q → given_by l m.permanents thread w (passing_of b) ≡ on_names.parameter_given v q
      go false e = sym (plain_given v q (content_of q.name c.environment) (λ x d. top.1.plain q.name q.ty x e d))
      go true e = ap₂ (λ (x : List ℕ) (y : told.Value). given x y ∷ []) (name_told q w is e) (value_is q w is e told_so) ∙ sym (ap (content_given v q) (at q w is e).1)

  all_given : (qs : List Parameter) (ws : List LegendParameter) → AreParameters t l.shapes n qs ws → ParametersAre f qs → Each (λ (q : Parameter). IsTold t l q.ty) qs → flat_map (slots.parameter_given l m.permanents thread) ws ≡ flat_map (on_names.parameter_given v) qs
  all_given [] [] are ks told_so = refl
  all_given (q ∷ qs) (w ∷ ws) are ks told_so = ap₂ (λ (ys zs : List Given). ys ++ zs) (one_given q w are.0 ks.0 told_so.0) (all_given qs ws are.1 ks.1 told_so.1)
  all_given [] (w ∷ ws) are ks told_so = absurd are
  all_given (q ∷ qs) [] are ks told_so = absurd are

  result_same : (own : List ℕ) (o : Option Ty) (z : Option legend.Variable) → routines.ResultIs t l.shapes n own o z → ResultIs f (routine_at r n) o → Each (λ (k : Variable). IsTold t l k.ty) (result_variable o) → slots.result_given l thread z ≡ on_names.result_given c o
  result_same own None None h k told_so = refl
  result_same own (Some u) (Some z) h k told_so = ap (λ (y : told.Value). given [] y ∷ []) (variable_told result_name u z.shape z.slot k.0 told_so.0 h.shape h.slot)
  result_same own None (Some z) h k told_so = absurd h
  result_same own (Some u) None h k told_so = absurd h

  pub given_same : slots.given_back l m.permanents (Some thread) ≡ on_names.given_back v
  given_same =
      let z = mine_told in
      let routine = locals n z.0 z.1 in
      let results : Each (λ (k : Variable). IsTold t l k.ty) (result_variable mine.result) =
      each_left (λ (k : Variable). IsTold t l k.ty) (result_variable mine.result) mine.variables (each_right (λ (k : Variable). IsTold t l k.ty) (value_parameters mine.parameters) (result_variable mine.result ++ mine.variables) (values.locals n known)) in
      ap (given_for l m.permanents thread) z.1
      ∙ (ap₂ (λ (ys zs : List Given). ys ++ zs) (all_given mine.parameters z.0.parameters routine.parameters frame.parameters (values.parameters n known))
      (ap (slots.result_given l thread) (place_same z.0.variables z.0.result) ∙ result_same z.0.name mine.result (at_place z.0.variables z.0.result) routine.result frame.result results)
      ∙ sym (ap (λ (o : Option RoutineMeaning). flat_map (on_names.parameter_given v) (parameters_in o) ++ on_names.result_given c (result_in o)) meant))
