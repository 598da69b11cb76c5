use Rattle.std.proofs.Common.{◌≤◌, length, ◌≡◌, ◌<◌, ℕ, false, ◌+◌}
use Rattle.cp_states.specs.Chains.{chain_at, chain_of}
use Rattle.cp_states.specs.Hashes.{hash_at}
use Rattle.cp_states.proofs.index.HashIndex.find.Given as goal

abbrev pub invariant-loop : goal.invariant-loop
invariant-loop g l =
    record {
      within : l.next + l.counter ≤ length l.self.links.items;
      here : (i : ℕ) → l.next ≡ i + 1 → chain_at l.self.links.items l.chains i ≡ chain_of l.hash l.chains;
      seen : (i : ℕ) → l.next ≤ i → i < length l.self.links.items → hash_at l.self i ≡ l.hash → goal.F-post g l.is_it i false;
    }
