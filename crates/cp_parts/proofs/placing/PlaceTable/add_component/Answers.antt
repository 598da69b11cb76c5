use Rattle.std.proofs.Common.{arith, refl, subst, sym}
use Rattle.cp_slots.specs.declared.tables.Component.{Component}
use Rattle.cp_slots.specs.Fits.{KindFits}
use Rattle.cp_parts.specs.Runs.{AreFilled}
use Rattle.cp_parts.proofs.Places.{placed_more, rises}
use Rattle.cp_parts.proofs.placing.PlaceTable.add_component.Goals as goal

pub place_by-wanted-requires-clause-kind : goal.place_by-wanted-requires-clause-kind
place_by-wanted-requires-clause-kind c =
    let r = c.args.resolved.now in
    (r, c.requires.placed.processes, c.requires.placed.monitors, subst (λ (x : Component). KindFits r x.kind) (sym c.component.ensures.value) (c.component.ensures.sound.components c.args.component c.requires.component))

pub extend-requires-clause-end : goal.extend-requires-clause-end
extend-requires-clause-end c =
    let r = c.args.resolved.now in
    omega (arith, c.requires.placed.cells, rises r c.args.component c.component.ensures.sound c.requires.component, c.end_of_cells-end.ensures)

pub returns-clause-placed : goal.returns-clause-placed
returns-clause-placed c =
    let r = c.args.resolved.now in
    let t = c.args.self.now in
    placed_more r t _ c.args.component c.next_place-place.result c.component.ensures.sound c.requires.component c.requires.placed refl refl c.in_ok-push.ensures.labels (subst (AreFilled t.cells.labels.items c.extend.new.self.labels.items c.next_place-place.result) c.end_of_cells-end.ensures c.in_ok-extend.ensures.filled)

pub returns-clause-next : goal.returns-clause-next
returns-clause-next c = record { within = c.next_place-place.ensures.within; components = c.in_ok-push.ensures.open; cells = c.in_ok-extend.ensures.open }
