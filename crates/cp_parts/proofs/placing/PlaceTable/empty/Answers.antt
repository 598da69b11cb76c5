use Rattle.std.proofs.Common.{arith}
use Rattle.cp_parts.proofs.Pushing.{open_none}
use Rattle.cp_parts.proofs.placing.PlaceTable.empty.Goals as goal

pub returns-clause-next : goal.returns-clause-next
returns-clause-next c =
    let a = c.in_ok-components.components in
    let b = c.in_ok-cells.cells in
    let some = c.processes-processes.ensures.sound.some in
    record {
      within = omega (arith, some, c.processes-processes.ensures.value);
      components = open_none a.labels.items a.spans.items 0 a.runs c.in_ok-components.ensures.none;
      cells = open_none b.labels.items b.spans.items 0 b.runs c.in_ok-cells.ensures.none;
    }
