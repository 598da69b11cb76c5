use Rattle.std.proofs.Common.{◌≡◌, ◌∙◌, ◌+◌, ◌<◌, ◌^◌, ap, arith, length, subst, sym}
use Rattle.std.specs.Prelude.{slice_index_or}
use Rattle.cp_slots.specs.Tables.{RoutineView, routine_at}
use Rattle.cp_store.specs.declared.memory.Address.{Address}
use Rattle.cp_store.specs.declared.memory.Frame.{Frame}
use Rattle.cp_store.specs.Places.{reference_at}
use Rattle.cp_machine.specs.Machine.{machine_of, thread_at}
use Rattle.cp_machine.specs.Reach.{IsBehind, frame_at}
use Rattle.cp_effect_laws.specs.Touches.{HasAt}
use Rattle.cp_parts.specs.Placed.{places_of}
use Rattle.cp_effects.specs.Noting.{among}
use Rattle.cp_effects.proofs.Touching.{behind_more, reaches_own, reference_there, routine_there}
use Rattle.cp_effects.proofs.touch.touch_parameters.Goals as goal

pub routine-requires : goal.routine-requires
routine-requires c = subst (λ (f : Frame). f.routine < length c.args.program.now.routines) (sym c.frame_of-frame.ensures) (routine_there c.args.program.now c.args.state.now c.args.pid c.requires.pid c.requires.own)

pub reference_of-address-requires-clause-number : goal.reference_of-address-requires-clause-number
reference_of-address-requires-clause-number c =
    let r = c.args.program.now in
    let s = c.args.state.now in
    let m = machine_of s in
    let f = frame_at m c.args.pid in
    let extents : c.as_slice-extents.result.now ≡ (routine_at r f.routine).extents = c.as_slice-extents.ensures.value ∙ ap (λ (v : RoutineView). v.extents) c.routine.ensures ∙ ap (λ (g : Frame). (routine_at r g.routine).extents) c.frame_of-frame.ensures in
    let number = c.loop-number.number in
    let within : number < length (routine_at r f.routine).extents = omega (arith, ap length extents) in
    reference_there r s c.args.pid c.requires.pid c.requires.own number within

pub touch_cells-requires : goal.touch_cells-requires
touch_cells-requires c =
    let r = c.args.program.now in
    let s = c.args.state.now in
    let m = machine_of s in
    let f = frame_at m c.args.pid in
    let extents : c.as_slice-extents.result.now ≡ (routine_at r f.routine).extents = c.as_slice-extents.ensures.value ∙ ap (λ (v : RoutineView). v.extents) c.routine.ensures ∙ ap (λ (g : Frame). (routine_at r g.routine).extents) c.frame_of-frame.ensures in
    let number = c.loop-number.number in
    let within : number < length (routine_at r f.routine).extents = omega (arith, ap length extents) in
    let references = (thread_at m.threads c.args.pid).references in
    let behind = (reaches_own r s c.args.pid c.requires.pid c.requires.own).behind number within in
    let small : length s.permanents.items < 2 ^ 64 = omega (arith, s.permanents.ok.0) in
    let permanents : length r.permanents < 2 ^ 64 = omega (arith, small, c.requires.own.fits.permanents) in (
      r,
      f,
      subst (λ (a : Address). IsBehind r f a (slice_index_or c.as_slice-extents.result.now number 0)) (sym c.reference_of-address.ensures)
          (subst (λ xs. IsBehind r f (reference_at references (f.references + number)) (slice_index_or xs number 0)) (sym extents) behind),
      permanents,
    )

pub loop-number-preserved : goal.loop-number-preserved
loop-number-preserved c =
    let r = c.args.program.now in
    let s = c.args.state.now in
    let m = machine_of s in
    let f = frame_at m c.args.pid in
    let extents : c.as_slice-extents.result.now ≡ (routine_at r f.routine).extents = c.as_slice-extents.ensures.value ∙ ap (λ (v : RoutineView). v.extents) c.routine.ensures ∙ ap (λ (g : Frame). (routine_at r g.routine).extents) c.frame_of-frame.ensures in
    let number = c.loop-number.number in
    let references = (thread_at m.threads c.args.pid).references in
    let after = c.touch_cells.new.touched.places.items in
    let l = places_of c.args.table.now in
    let new = c.touch_cells.ensures.cells c.if-not-touch_cells.false in
    let here =
    subst (λ xs. HasAt (λ cell. among after (l.of_cell cell)) (reference_at references (f.references + number)) (slice_index_or xs number 0)) extents
    (subst (λ (a : Address). HasAt (λ cell. among after (l.of_cell cell)) a (slice_index_or c.as_slice-extents.result.now number 0)) c.reference_of-address.ensures new)
    in
    record {
      behind = behind_more l r references f c.loop-number.touched.places.items after number c.touch_cells.ensures.kept c.loop-number.invariant.behind here;
      kept = λ place h. c.touch_cells.ensures.kept place (c.loop-number.invariant.kept place h);
    }

pub returns-clause-behind : goal.returns-clause-behind
returns-clause-behind c = λ _ k lt.
    (let r = c.args.program.now in
    let f = frame_at (machine_of c.args.state.now) c.args.pid in
    let extents : c.as_slice-extents.result.now ≡ (routine_at r f.routine).extents = c.as_slice-extents.ensures.value ∙ ap (λ (v : RoutineView). v.extents) c.routine.ensures ∙ ap (λ (g : Frame). (routine_at r g.routine).extents) c.frame_of-frame.ensures in
    c.loop-number.invariant.behind k (omega (arith, lt, ap length extents)))
