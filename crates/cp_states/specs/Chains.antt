-- Entries in chains, each from its last entry to its first.
use Rattle.std.specs.Prelude.{◌≡◌, ◌+◌, ◌-◌, ◌<◌, ◌≤◌, ℕ, List, length, slice_index_or, bit_and}
use Rattle.cp_states.specs.declared.chain.Link.{Link}

-- the chain of a hash, of so many
abbrev pub chain_of : ℕ → ℕ → ℕ
chain_of hash chains = bit_and hash (chains - 1)

abbrev pub no_link : Link
no_link = record { hash = 0; next = 0 }

abbrev pub link_at : List Link → ℕ → Link
link_at links i = slice_index_or links i no_link

abbrev pub head_at : List ℕ → ℕ → ℕ
head_at heads chain = slice_index_or heads chain 0

-- the chain of an entry
abbrev pub chain_at : List Link → ℕ → ℕ → ℕ
chain_at links chains i = chain_of (link_at links i).hash chains

-- the last entry of a chain below a limit, plus one; 0 where there is none
pub record IsLast (links : List Link) (chains chain limit place : ℕ) : Type 0 where
  pub below : place ≤ limit
  pub here : (i : ℕ) → place ≡ i + 1 → chain_at links chains i ≡ chain
  pub after : (i : ℕ) → place ≤ i → i < limit → chain_at links chains i ≡ chain → ⊥

-- the entries below a limit are in so many chains
pub record AreLinked (chains : ℕ) (head : ℕ → ℕ) (links : List Link) (limit : ℕ) : Type 0 where
  pub first : (chain : ℕ) → chain < chains → IsLast links chains chain limit (head chain)
  pub next : (i : ℕ) → i < limit → IsLast links chains (chain_at links chains i) i (link_at links i).next

-- .. whose last entries stand here
abbrev pub AreChainedBelow : List ℕ → List Link → ℕ → Type 0
AreChainedBelow heads links limit = AreLinked (length heads) (head_at heads) links limit

pub record AreChained (heads : List ℕ) (links : List Link) : Type 0 where
  pub all : AreChainedBelow heads links (length links)
  pub some : length heads ≡ 0 → length links ≡ 0
