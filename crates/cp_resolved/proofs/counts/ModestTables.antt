-- The tables of an accepted program that was read are modest: the program is inside its limits, and no count of it has stopped.
use Rattle.cp_resolved.proofs.Words.{◌≡◌, arith, Tree, plain, laid, Tables, IsAccepted, IsRead, IsModest}
use Rattle.cp_resolved.proofs.counts.FewCellsOfTables.{few_cells_law}
use Rattle.cp_resolved.proofs.counts.FewComponents.{components_few, cells_few, accepted_few}
use Rattle.cp_resolved.proofs.counts.FewItemsOfTables.{few_items_law}
use Rattle.cp_resolved.proofs.counts.FewReferencesOfTables.{few_references_law}

pub accepted_modest : (tree : Tree) (t : Tables) → plain t ≡ laid tree → IsRead tree.program → IsAccepted tree → IsModest t
accepted_modest tree t is read accepted =
    let few = accepted_few tree t is read accepted in
    let held = few_cells_law t tree is read accepted in
    let items = few_items_law t tree is read in
    let references = few_references_law t tree is read in
    let components = components_few tree t is read accepted in
    let permanents = cells_few tree t is read accepted in
    let cells = held.cells in
    let open_calls = references.1 in
    record {
      processes = few.processes;
      monitors = few.monitors;
      held = record { items = omega (arith, items); rooms = λ n lt. (let a = held.rooms n lt in omega (arith, a)); reference_rooms = λ n lt. (let a = references.0 n lt in omega (arith, a)) };
      cells = λ k. (let a = held.own k in omega (arith, a));
      words = record { components = omega (arith, components); permanents = omega (arith, permanents); cells = omega (arith, cells); references = omega (arith, open_calls) };
    }
