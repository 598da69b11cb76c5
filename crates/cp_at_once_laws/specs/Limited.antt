-- The search at once with a limit of steps.
use Rattle.std.specs.Prelude.{◌≡◌, ℕ, suc, List, true, Option, Some}
use Rattle.cp_run.specs.System.{System}
use Rattle.cp_run.specs.Run.{Node, Choosing, may, chosen, opened}
use Rattle.cp_endless_laws.specs.Reachable.{LeadsTo}
use Rattle.cp_at_once_laws.specs.AtOnce.{IsNode}

-- where the search at once leads: a choice that is made at once counts, a stretch without a choice does not
pub data Searches {S : Type 0} (sys : System S) (steps : ℕ) (pick : S → Option ℕ) (row : ℕ) : ℕ → Node S → Type 0 where
  search_begins : Searches sys steps pick row row (opened sys steps)
  quickly : (c : ℕ) (s : S) (p : ℕ) → Searches sys steps pick row (suc c) (Choosing s) → pick s ≡ Some p → Searches sys steps pick row c (chosen sys steps s p)
  from_node : (c : ℕ) (s : S) (q : ℕ) → Searches sys steps pick row c (Choosing s) → IsNode pick c s → may sys s q ≡ true → Searches sys steps pick row row (chosen sys steps s q)

-- what it comes to, some word leads to
abbrev pub SearchesTrue : {S : Type 0} → System S → Type 0
SearchesTrue {S} sys =
    (steps row : ℕ) (pick : S → Option ℕ) → ((s : S) (p : ℕ) → pick s ≡ Some p → may sys s p ≡ true) → (c : ℕ) (node : Node S) → Searches sys steps pick row c node → (word : List ℕ) × LeadsTo sys steps word node
