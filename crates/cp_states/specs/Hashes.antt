-- The hashes of an index.
use Rattle.std.specs.Prelude.{ℕ, List, map}
use Rattle.cp_states.specs.declared.index.HashIndex.{HashIndex}
use Rattle.cp_states.specs.Chains.{link_at}

abbrev pub hashes : HashIndex → List ℕ
hashes index = map (λ link. link.hash) index.links.items

abbrev pub hash_at : HashIndex → ℕ → ℕ
hash_at index i = (link_at index.links.items i).hash
