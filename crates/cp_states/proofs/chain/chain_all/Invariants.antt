use Rattle.std.proofs.Common.{◌≡◌, ℕ, length}
use Rattle.cp_states.specs.Chains.{AreChainedBelow, link_at}
use Rattle.cp_states.proofs.chain.chain_all.Given as goal

abbrev pub invariant-loop-at : goal.invariant-loop-at
invariant-loop-at l =
    record {
      count : length l.heads ≡ length l.initial.heads;
      long : length l.links.items ≡ length l.initial.links.items;
      chained : AreChainedBelow l.heads l.links.items l.at;
      same : (i : ℕ) → (link_at l.links.items i).hash ≡ (link_at l.initial.links.items i).hash;
    }
