-- What a walk needs deeper down, and what it has found after a leaf or a node like one that was walked.
use Rattle.std.proofs.Common.{◌≡◌, Result, Ok, Err, IfOk, ◌+◌, ◌≤◌, ℕ, List, [], ◌∷◌, ◌++◌, length, map, All, refl, sym, ap, subst, arith}
use Rattle.cp_walk.proofs.Words.{Tables, Limits, Line, Outcome, Node, IsStateOf, line_of, AreWalked, slots, length-append}
use Rattle.cp_machine.specs.System.{Machine}
use Rattle.cp_machine.specs.declared.state.State.{State}
use Rattle.cp_walk.specs.Walking.{node_rows, AreFound, HasRoom, HasWalked}
use Rattle.cp_walk.specs.declared.fault.ExploreFault.{ExploreFault}
use Rattle.cp_walk.specs.declared.found.Found.{Found}
use Rattle.cp_walk.proofs.Branches.{one_behind}
use Rattle.cp_walk.proofs.Repeats.{walked_more}

-- one number on, a kept state less is needed
pub deeper_room : (r : Tables) (choices : ℕ) (word path : List ℕ) (kept deeper : List State) (p : ℕ) → path ≡ word → length kept ≡ length deeper + 1 → HasRoom r choices word kept → All (IsStateOf r) deeper → HasRoom r choices (path ++ p ∷ []) deeper
deeper_room r choices word path kept deeper p same one room own =
    let long = length-append path (p ∷ []) in
    let whole = ap length same in
    let deep = room.deep in
    record {
      own = own;
      deep = omega (arith, long, whole, one, deep);
      short = room.short;
    }

-- more rows, and the same nodes
pub more_found : (r : Tables) (limits : Limits) (before after : Found) (more : List Line) → map line_of after.rows.items ≡ map line_of before.rows.items ++ more → length after.rows.items ≤ 50000 → after.walked.nodes.entries ≡ before.walked.nodes.entries → AreFound r limits before → AreFound r limits after
more_found r limits before after more rows few same found =
    record {
      few = few;
      walked =
          let sys = slots r limits.discipline in
          let grown : AreWalked sys limits.steps limits.choices (map line_of after.rows.items) before.walked.nodes.entries = subst (λ ls. AreWalked sys limits.steps limits.choices ls before.walked.nodes.entries) (sym rows) (walked_more sys limits.steps limits.choices (map line_of before.rows.items) more before.walked.nodes.entries found.walked) in
          subst (AreWalked sys limits.steps limits.choices (map line_of after.rows.items)) (sym same) grown;
    }

-- a leaf has one row
pub leaf_walked : (r : Tables) (limits : Limits) (word : List ℕ) (left : ℕ) (node : Node Machine) (before after : Found) (outcome : Outcome) (result : Result (Unit {0}) ExploreFault) → node_rows r limits left node ≡ record { word = []; outcome = outcome } ∷ [] → after.walked.nodes.entries ≡ before.walked.nodes.entries → AreFound r limits before → IfOk result (λ _. map line_of after.rows.items ≡ map line_of before.rows.items ++ record { word = word; outcome = outcome } ∷ []) → IfOk result (λ _. length after.rows.items ≤ 50000) → IfOk result (λ _. HasWalked r limits word left node before after)
leaf_walked r limits word left node before after outcome (Ok x) leaf same found row few =
    let one = ap length leaf in
    record {
      rows = one_behind {E = ExploreFault} word word outcome (map line_of before.rows.items) (map line_of after.rows.items) (node_rows r limits left node) (Ok x) refl leaf row;
      some = omega (arith, one);
      found = more_found r limits before after (record { word = word; outcome = outcome } ∷ []) row few same found;
    }
leaf_walked r limits word left node before after outcome (Err e) leaf same found row few = tt
