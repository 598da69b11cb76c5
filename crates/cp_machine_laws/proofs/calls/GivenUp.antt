-- The innermost call of a process is given up: the calls around it hold what they held, and the caller has the result.
use Rattle.std.proofs.Common.{◌≡◌, ◌∙◌, ℕ, suc, ◌+◌, ◌-◌, ◌^◌, ◌<◌, Bool, if◌then◌else◌, List, [], ◌∷◌, Option, Some, None, ap, sym, refl, subst, arith, length, eq-eqb}
use Rattle.std.specs.Prelude.{ℤ, pos, slice_index_or, slice_set, take}
use Rattle.std.proofs.lemmas.List.{get_or-take, length-take-le}
use Rattle.cp_machine_laws.proofs.Words.{Program, Tables, routine_at, Local, Frame, Memory, nowhere, onward, put_number, Entry, StackFits, size_of, Thread, Name}
use Rattle.cp_machine_laws.proofs.Words.{result_name, Range, Ty, ordinal, Value, number_value, holds, Component, Call, with_result, Layouts, here, cell_named, look}
use Rattle.cp_machine_laws.proofs.Words.{HasType, Ground, result_cell, ResultGoes, LiesAt, frame_above, CallsHold, own_memory, frames_of, onward_is}
use Rattle.cp_machine.specs.Calls.{give_up_frame}
use Rattle.cp_meaning.specs.Places.{View, content_of, with_content, value_held, call_above, with_call_environment, this_call, plain_place, value_at}
use Rattle.cp_resolved.specs.Resolved.{RoutineIs, ResultIs}
use Rattle.cp_machine_laws.proofs.assignments.Apart.{frame_apart, frames_apart}
use Rattle.cp_machine_laws.proofs.control.Control.{top_frame}
use Rattle.cp_machine_laws.proofs.calls.FramesBelow.{LieBelow, frames_lie, SameBelow, calls_below}
use Rattle.cp_machine_laws.proofs.expressions.Reading.{calls_frames}
use Rattle.cp_machine_laws.proofs.assignments.Blocks.{number_writes}
use Rattle.cp_machine_laws.proofs.assignments.BlocksInCalls.{calls_with_block}

-- ---- on names

-- the calls around the innermost one, with its result where it goes
abbrev pub calls_back : Option Name → Call → List Call → List Call
calls_back None c cs = cs
calls_back (Some x) c cs = with_call_environment cs (length cs - 1) (with_content x (holds (value_held (content_of result_name c.environment))) (call_above cs (length cs - 1)).environment)

abbrev pub view_with : Program → List Call → List Component → View
view_with p calls components = record { program = p; calls = calls; components = components }

-- what the innermost call has by a name
pub value_here : (p : Program) (c : Call) (cs : List Call) (ds : List Component) (x : Name) → value_at (view_with p (c ∷ cs) ds) (plain_place (this_call (view_with p (c ∷ cs) ds)) x) ≡ value_held (content_of x c.environment)
value_here p c cs ds x =
    let e : suc (length cs) - 1 ≡ length cs = omega arith in
    ap (λ n. value_held (content_of x (call_above (c ∷ cs) n).environment)) e
    ∙ ap (λ (b : Bool). value_held (content_of x (if b then c else call_above cs (length cs)).environment)) (eq-eqb (length cs) (length cs) refl)

pub calls_are : (p : Program) (o : Option Name) (c : Call) (cs : List Call) (ds : List Component) → (with_result (view_with p (c ∷ cs) ds) o).calls ≡ calls_back o c cs
calls_are p None c cs ds = refl
calls_are p (Some x) c cs ds = ap (λ (w : Value). with_call_environment cs (length cs - 1) (with_content x (holds w) (call_above cs (length cs - 1)).environment)) (value_here p c cs ds result_name)

pub components_same : (p : Program) (o : Option Name) (c : Call) (cs : List Call) (ds : List Component) → (with_result (view_with p (c ∷ cs) ds) o).components ≡ ds
components_same p None c cs ds = refl
components_same p (Some x) c cs ds = refl

-- ---- ordinals in cells

ordinal_is : (r : Range) (w : Value) → HasType (ordinal r) w → (z : ℤ) × (w ≡ number_value z)
ordinal_is r (number_value z) h = (z, refl)
ordinal_is r w h = absurd h

-- the outermost of some frames is that of the outermost of their calls, and the innermost that of the innermost one
frame_of_first : (r : Tables) (l : Layouts) (m : Memory) (cs : List Call) (f : Frame) (fs : List Frame) → CallsHold r l m cs (f ∷ fs) → (f.routine < length r.routines) × (frame_above (f ∷ fs) (length cs - 1) ≡ Some f)
frame_of_first r l m [] f fs h = absurd h
frame_of_first r l m (c ∷ cs) f fs h =
    let e : suc (length cs) - 1 ≡ length fs = (let d = calls_frames r l m cs fs h.2 in omega (arith, d)) in
    (h.0.routine, ap (λ n. frame_above (f ∷ fs) n) e ∙ ap (λ (b : Bool). if b then Some f else frame_above fs (length fs)) (eq-eqb (length fs) (length fs) refl))

module _ (g : Ground) (p : Program) (l : Layouts) (routines : (n : ℕ) → n < length g.tables.routines → RoutineIs g p l n) (t : Thread) (caller : Frame) (es : List Entry) (c : Call) (cs : List Call)
    (below : StackFits g.tables caller es) (base_is : t.frame.base ≡ caller.base + size_of g.tables caller.routine) (first_is : t.frame.references ≡ caller.references + (routine_at g.tables caller.routine).references)
    (cells_are : length t.cells ≡ t.frame.base + size_of g.tables t.frame.routine) (few : length t.cells < 2 ^ 64)
    (held : CallsHold g.tables l (own_memory t) (c ∷ cs) (t.frame ∷ frames_of caller es)) where
  -- the cells and references of the calls around
  abbrev pub closed : Memory
  closed = record { permanents = []; cells = take t.frame.base t.cells; references = take t.frame.references t.references }

  closed_length : length closed.cells ≡ t.frame.base
  closed_length = length-take-le t.frame.base t.cells (let e = cells_are in omega (arith, e))

  closed_same : SameBelow (own_memory t) closed t.frame.base t.frame.references
  closed_same =
      record {
        there = (let e = closed_length in omega (arith, e));
        cells = λ k h. get_or-take t.frame.base t.cells k (pos 0) h;
        references = λ k h. get_or-take t.frame.references t.references k nowhere h;
      }

  pub closed_calls : CallsHold g.tables l closed cs (frames_of caller es)
  closed_calls =
      calls_below g p l routines (own_memory t) closed t.frame.base t.frame.references closed_same cs (frames_of caller es)
      (subst (λ n. LieBelow g.tables n t.frame.references (frames_of caller es)) (sym base_is)
      (subst (λ n. LieBelow g.tables (caller.base + size_of g.tables caller.routine) n (frames_of caller es)) (sym first_is) (frames_lie g.tables caller es below))) held.2

  -- ---- the result of a function

  module _ (x : Name) (range : Range) (result : (l.meanings t.frame.routine).result ≡ Some (ordinal range)) (goes : look x (l.frames caller.routine).variables ≡ Some (ordinal range)) where
    abbrev from : ℕ
    from = cell_named (l.frames t.frame.routine) result_name

    abbrev value : Value
    value = value_held (content_of result_name c.environment)

    own_result : (look result_name (l.frames t.frame.routine).variables ≡ Some (ordinal range)) × (from ≡ (routine_at g.tables t.frame.routine).result)
    own_result = subst (ResultIs (l.frames t.frame.routine) (routine_at g.tables t.frame.routine)) result (routines t.frame.routine held.0.routine).frame.result

    result_lies : LiesAt (own_memory t) (ordinal range) value (Local (t.frame.base + from))
    result_lies = held.1.variables result_name (ordinal range) own_result.0

    number : (z : ℤ) × (value ≡ number_value z)
    number = ordinal_is range value result_lies.typed

    abbrev z : ℤ
    z = number.0

    read : slice_index_or t.cells (onward t.frame.base (routine_at g.tables t.frame.routine).result) (pos 0) ≡ z
    read =
        let e : onward t.frame.base (routine_at g.tables t.frame.routine).result ≡ t.frame.base + from + 0 = ap (onward t.frame.base) (sym own_result.1) ∙ (onward_is t.frame.base from (let a = result_lies.cells in let b = few in omega (arith, a, b)) ∙ omega arith) in
        let block = subst (λ (w : Value). LiesAt (own_memory t) (ordinal range) w (Local (t.frame.base + from))) number.1 result_lies in
        ap (λ n. slice_index_or t.cells n (pos 0)) e ∙ block.block 0 (omega arith)

    caller_known : (caller.routine < length g.tables.routines) × (frame_above (frames_of caller es) (length cs - 1) ≡ Some caller)
    caller_known =
        let top = top_frame caller es in
        subst (λ fs. (caller.routine < length g.tables.routines) × (frame_above fs (length cs - 1) ≡ Some caller)) (sym top.1)
        (frame_of_first g.tables l closed cs caller top.0 (subst (λ fs. CallsHold g.tables l closed cs fs) top.1 closed_calls))

    abbrev to : ℕ
    to = cell_named (l.frames caller.routine) x

    abbrev cell : ℕ
    cell = caller.base + to + 0

    fits : caller.base + to < t.frame.base
    fits = let e = (routines caller.routine caller_known.0).frame.cells x (ordinal range) goes in let d = base_is in omega (arith, e, d)

    written : onward caller.base to ≡ cell
    written = onward_is caller.base to (let a = fits in let b = few in let e = cells_are in omega (arith, a, b, e)) ∙ omega arith

    result_calls : CallsHold g.tables l (put_number closed (Local cell) z) (calls_back (Some x) c cs) (frames_of caller es)
    result_calls =
        subst (λ (w : Value). CallsHold g.tables l (put_number closed (Local cell) z) (with_call_environment cs (length cs - 1) (with_content x (holds w) (call_above cs (length cs - 1)).environment)) (frames_of caller es)) (sym number.1)
        (calls_with_block g.tables l (size_of g.tables) closed (put_number closed (Local cell) z) (λ n h. frame_apart g p l n (routines n h)) cell (ordinal range) (number_value z) (subst (HasType (ordinal range)) number.1 result_lies.typed)
        (number_writes closed (Local cell) z (let e = closed_length in let d = fits in omega (arith, e, d)))
        (length cs - 1) x (ordinal range) [] 0 refl (omega arith)
        cs (frames_of caller es) caller caller_known.1 goes refl (frames_apart g.tables caller es below) closed_calls)

    result_given : CallsHold g.tables l (own_memory (give_up_frame g.tables t caller (Some to) es)) (calls_back (Some x) c cs) (frames_of caller es)
    result_given =
        subst (λ n. CallsHold g.tables l (record { permanents = []; cells = slice_set (take t.frame.base t.cells) n (slice_index_or t.cells (onward t.frame.base (routine_at g.tables t.frame.routine).result) (pos 0)); references = closed.references }) (calls_back (Some x) c cs) (frames_of caller es)) (sym written)
        (subst (λ (v : ℤ). CallsHold g.tables l (put_number closed (Local cell) v) (calls_back (Some x) c cs) (frames_of caller es)) (sym read) result_calls)

  -- a result goes where the caller has a variable of its type; results are ordinals
  pub calls_given_up : (o : Option Name) → ((u : Ty) → (l.meanings t.frame.routine).result ≡ Some u → (r : Range) × (u ≡ ordinal r)) → ResultGoes (here p l caller.routine) o (l.meanings t.frame.routine).result →
      CallsHold g.tables l (own_memory (give_up_frame g.tables t caller (result_cell (here p l caller.routine) o) es)) (calls_back o c cs) (frames_of caller es)
  calls_given_up None simple goes = closed_calls
  calls_given_up (Some x) simple goes = by_result (l.meanings t.frame.routine).result refl goes
    where
      by_result : (w : Option Ty) → (l.meanings t.frame.routine).result ≡ w → ResultGoes (here p l caller.routine) (Some x) w → CallsHold g.tables l (own_memory (give_up_frame g.tables t caller (result_cell (here p l caller.routine) (Some x)) es)) (calls_back (Some x) c cs) (frames_of caller es)
      by_result None e goes = absurd goes
      by_result (Some u) e goes =
          let ordinary = simple u e in
          result_given x ordinary.0 (e ∙ ap (λ v. Some v) ordinary.1) (subst (λ v. look x (l.frames caller.routine).variables ≡ Some v) ordinary.1 goes)
