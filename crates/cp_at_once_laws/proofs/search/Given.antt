-- From steps that commute to what the search finds on names; and what the search comes to with a limit of steps.
use Rattle.std.proofs.Common.{◌≡◌, ◌∙◌, ℕ, suc, Bool, true, false, if◌then◌else◌, List, [], ◌∷◌, ◌++◌, Option, None, Some, ap, sym, refl}
use Rattle.cp_at_once_laws.proofs.Words.{Tree, State, System, met_first, names, IsSomewhere, IsQuietStep, Node, Choosing, may, chosen, opened}
use Rattle.cp_endless_laws.specs.Reachable.{LeadsTo}
use Rattle.cp_endless_laws.proofs.possible.Words.{after_append}
use Rattle.cp_at_once_laws.specs.AtOnce.{Fails, Spins, IsAlone, Commutes, PicksQuiet, NobodyReady, GoalStays, OwnGoal}
use Rattle.cp_at_once_laws.specs.Found.{IsOver, IsFound}
use Rattle.cp_at_once_laws.specs.Limited.{Searches, search_begins, quickly, from_node, SearchesTrue}
use Rattle.cp_at_once_laws.proofs.search.Front.{at_once_law}
use Rattle.cp_at_once_laws.proofs.search.Goals.{errors_stay, own_errors, loops_stay, own_loops, alone_stays, own_alone}

module _ (t : Tree) (law : Commutes (names t) (IsSomewhere t) (IsQuietStep t)) (pick : State → Option ℕ) (picks : PicksQuiet (names t) (IsSomewhere t) (IsQuietStep t) pick) (row : ℕ → State → ℕ) (c : ℕ) (waiting : Bool) where
  nobody : NobodyReady (names t) (IsOver t waiting)
  nobody s p over r = (let bad : true ≡ false = sym r ∙ over.0 p in absurd cc)

  start_met : IsSomewhere t (names t).start
  start_met = record { happened = []; met = met_first }

  pub found_of : (Goal : State → ℕ → Type 0) → GoalStays (names t) (IsSomewhere t) (IsQuietStep t) Goal → OwnGoal (names t) (IsSomewhere t) (IsQuietStep t) Goal → IsFound t pick row c waiting Goal
  found_of Goal stays own =
      let both = at_once_law (names t) (IsSomewhere t) (IsQuietStep t) law (IsOver t waiting) nobody Goal stays own pick picks row c (names t).start start_met in
      record { there = both.0; back = both.1 }

  pub errors_found : (e : _) → IsFound t pick row c waiting (Fails (names t) e)
  errors_found e = found_of (Fails (names t) e) (errors_stay (names t) (IsSomewhere t) (IsQuietStep t) law e) (own_errors (names t) (IsSomewhere t) (IsQuietStep t) law e)

  pub loops_found : IsFound t pick row c waiting (Spins (names t))
  loops_found = found_of (Spins (names t)) (loops_stay (names t) (IsSomewhere t) (IsQuietStep t) law) (own_loops (names t) (IsSomewhere t) (IsQuietStep t) law)

  pub alone_found : IsFound t pick row c waiting (IsAlone (names t))
  alone_found = found_of (IsAlone (names t)) (alone_stays (names t) (IsSomewhere t) (IsQuietStep t) law) (own_alone (names t) (IsSomewhere t) (IsQuietStep t) law)

-- ---- words

-- a word leads to the choice, and its number is the last of the longer word
one_more : {S : Type 0} (sys : System S) (steps : ℕ) (s : S) (p : ℕ) → may sys s p ≡ true → ((word : List ℕ) × LeadsTo sys steps word (Choosing s)) → (word : List ℕ) × LeadsTo sys steps word (chosen sys steps s p)
one_more sys steps s p m there =
    (there.0 ++ p ∷ [], after_append sys steps there.0 (p ∷ []) (opened sys steps) (Choosing s) there.1 ∙ ap (λ b. if b then Some (chosen sys steps s p) else None) m)

pub searches_true : {S : Type 0} (sys : System S) → SearchesTrue sys
searches_true {S} sys steps row pick choices c node found = go c node found
  where
    go : (c : ℕ) (node : Node S) → Searches sys steps pick row c node → (word : List ℕ) × LeadsTo sys steps word node
    go _ _ search_begins = ([], refl)
    go _ _ (quickly c s p f e) = one_more sys steps s p (choices s p e) (go (suc c) (Choosing s) f)
    go _ _ (from_node c s q f n e) = one_more sys steps s q e (go c (Choosing s) f)
