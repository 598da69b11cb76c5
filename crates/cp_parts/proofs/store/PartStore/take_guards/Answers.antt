use Rattle.std.proofs.Common.{◌≡◌, ◌∙◌, ◌+◌, ◌<◌, arith, length, refl, subst}
use Rattle.cp_machine.specs.Machine.{monitor_at}
use Rattle.cp_parts.specs.Taken.{AreGuardsTaken}
use Rattle.cp_parts.proofs.Becoming.{guard_there, guards_all, guards_next, guards_none, line_short, number_there, place_same}
use Rattle.cp_parts.proofs.store.PartStore.take_guards.Goals as goal

pub loop-at-init : goal.loop-at-init
loop-at-init c = λ r m n can was. guards_none m n c.args.guards.now was

pub part_position-part-requires : goal.part_position-part-requires
part_position-part-requires c = omega (arith, c.requires.count)

pub bounds-row-part : goal.bounds-row-part
bounds-row-part c = omega (arith, c.requires.count, c.part_position-part.ensures, c.requires.can.3.row_is.long)

pub bounds-known-part : goal.bounds-known-part
bounds-known-part c = omega (arith, c.requires.count, c.part_position-part.ensures, c.requires.can.3.known_is.long)

pub take_guard-requires-clause-within : goal.take_guard-requires-clause-within
take_guard-requires-clause-within c =
    (number_there c.requires.can.0 c.args.self.now c.args.table.now c.args.row.now c.args.known.now c.requires.can.1 c.requires.can.2 c.requires.can.3 _ c.part_position-part.result c.part_position-part.ensures (omega (arith, c.requires.count))).within

pub take_guard-requires-clause-part : goal.take_guard-requires-clause-part
take_guard-requires-clause-part c =
    let at = c.loop-at.at in (
      monitor_at c.requires.can.1 at,
      guard_there c.requires.can.0 c.args.self.now c.args.table.now c.args.row.now c.args.known.now c.requires.can.1 c.requires.can.2 c.requires.can.3 at c.part_position-part.result c.part_position-part.ensures (omega (arith, c.requires.count)),
      line_short c.requires.can.0 c.args.self.now c.args.table.now c.args.row.now c.args.known.now c.requires.can.1 c.requires.can.2 c.requires.can.3 at,
    )

pub loop-at-preserved : goal.loop-at-preserved
loop-at-preserved c = λ r m n can was.
    (let s = c.args.self.now in
    let t = c.args.table.now in
    let row = c.args.row.now in
    let known = c.args.known.now in
    let gs = c.loop-at.guards in
    let at = c.loop-at.at in
    let part = c.part_position-part.result in
    let inv = c.loop-at.invariant r m n can was in
    let here : at < length gs = omega arith in
    let own : at < t.monitors = omega (arith, c.requires.count) in
    let old = c.index-guards-at.result in
    guards_next m n gs at c.take_guard.new.guard here
    (c.take_guard.ensures (monitor_at m at) (guard_there r s t row known m n can at part c.part_position-part.ensures own)
    (λ e. inv.rest at _ (omega arith) here ∙ (place_same r s t row known m n can (t.processes + at) part c.part_position-part.ensures (omega (arith, own)) e).monitors at refl))
    inv)

pub returns : goal.returns
returns c = λ r m n can was.
    (let gs = c.loop-at.guards in
    let all : c.loop-at.at ≡ length gs = omega arith in
    guards_all m n gs (omega (arith, c.requires.count, can.its.fits.monitors, can.placed.monitors)) (subst (AreGuardsTaken m n gs) all (c.loop-at.invariant r m n can was)))
