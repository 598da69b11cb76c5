use Rattle.std.proofs.Common.{◌≡◌, ◌<◌, arith, subst, sym}
use Rattle.cp_parts.specs.Placed.{place_count}
use Rattle.cp_parts.specs.Taken.{AreLaid}
use Rattle.cp_parts.proofs.Laid.{lists_all, lists_next, lists_none, lists_same}
use Rattle.cp_parts.proofs.Becoming.{can_lay, number_there, part_long, place_same}
use Rattle.cp_parts.proofs.store.PartStore.take_places.Goals as goal

pub loop-place-init : goal.loop-place-init
loop-place-init c = λ r m n can cells bindings phases.
    subst (λ xs. AreLaid c.args.table.now (λ x. x < 0) m n.permanents n.bindings n.phases xs c.args.bindings.now c.args.phases.now) (sym cells)
    (subst (λ xs. AreLaid c.args.table.now (λ x. x < 0) m n.permanents n.bindings n.phases n.permanents xs c.args.phases.now) (sym bindings)
    (subst (λ xs. AreLaid c.args.table.now (λ x. x < 0) m n.permanents n.bindings n.phases n.permanents n.bindings xs) (sym phases) (lists_none c.args.table.now m n)))

pub part_position-part-requires : goal.part_position-part-requires
part_position-part-requires c = omega (arith, c.places-place-end.ensures)

pub bounds-row-part : goal.bounds-row-part
bounds-row-part c = omega (arith, c.places-place-end.ensures, c.part_position-part.ensures, c.requires.3.row_is.long)

pub bounds-known-part : goal.bounds-known-part
bounds-known-part c = omega (arith, c.places-place-end.ensures, c.part_position-part.ensures, c.requires.3.known_is.long)

pub take_place-requires-clause-within : goal.take_place-requires-clause-within
take_place-requires-clause-within c =
    (number_there c.requires.0 c.args.self.now c.args.table.now c.args.row.now c.args.known.now c.requires.1 c.requires.2 c.requires.3 c.loop-place.place c.part_position-part.result c.part_position-part.ensures (omega (arith, c.places-place-end.ensures))).within

pub take_place-requires-clause-long : goal.take_place-requires-clause-long
take_place-requires-clause-long c =
    part_long c.requires.0 c.args.self.now c.args.table.now c.args.row.now c.args.known.now c.requires.1 c.requires.2 c.requires.3 c.loop-place.place c.part_position-part.result c.part_position-part.ensures (omega (arith, c.places-place-end.ensures))

pub take_place-requires-clause-can : goal.take_place-requires-clause-can
take_place-requires-clause-can c =
    let inv = c.loop-place.invariant c.requires.0 c.requires.1 c.requires.2 c.requires.3 c.requires.4 c.requires.5 c.requires.6 in (
      c.requires.1,
      can_lay c.requires.0 c.args.self.now c.args.table.now c.args.row.now c.args.known.now c.requires.1 c.requires.2 c.requires.3 c.loop-place.place c.part_position-part.result c.part_position-part.ensures (omega (arith, c.places-place-end.ensures))
          c.loop-place.cells c.loop-place.bindings c.loop-place.phases inv,
    )

pub loop-place-preserved : goal.loop-place-preserved
loop-place-preserved c = λ r m n can e1 e2 e3.
    (let s = c.args.self.now in
    let t = c.args.table.now in
    let row = c.args.row.now in
    let known = c.args.known.now in
    let l = c.loop-place in
    let at = c.part_position-part.result in
    let inv = l.invariant r m n can e1 e2 e3 in
    let within : l.place < place_count t = omega (arith, c.places-place-end.ensures) in
    lists_next t m n l.place l.cells l.bindings l.phases c.take_place.new.cells c.take_place.new.bindings c.take_place.new.phases inv
    (c.take_place.ensures m (can_lay r s t row known m n can l.place at c.part_position-part.ensures within l.cells l.bindings l.phases inv)
    (λ e. lists_same t m n l.place l.cells l.bindings l.phases (place_same r s t row known m n can l.place at c.part_position-part.ensures within e) inv)))

pub returns : goal.returns
returns c = λ r m n can e1 e2 e3.
    (let t = c.args.table.now in
    let l = c.loop-place in
    let all : l.place ≡ place_count t = omega (arith, c.places-place-end.ensures) in
    lists_all t m n r can.placed can.its.fits can.was l.cells l.bindings l.phases (subst (λ k. AreLaid t (λ x. x < k) m n.permanents n.bindings n.phases l.cells l.bindings l.phases) all (l.invariant r m n can e1 e2 e3)))
