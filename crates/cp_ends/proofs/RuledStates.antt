-- Each state that the search finds has the discipline of the search.
use Rattle.std.proofs.Common.{◌≡◌, ◌∙◌, ◌++◌, ◌∷◌, ℕ, zero, suc, List, [], Bool, true, false, if◌then◌else◌, Option, None, Some, ap, refl, subst, sym}
use Rattle.std.specs.Prelude.{All, slice_get}
use Rattle.std.proofs.lemmas.List.Elements.{All-nil, All-push}
use Rattle.cp_ends.proofs.Vocabulary.{Tables, Machine, Shown, System, Discipline, Turn, Found, Goal, Place, Graph, has, same_key, arrived, gone_on, searched, ends_tests, slot_graph, with_shown, SlotArrival, SlotFindings}
use Rattle.cp_run.specs.Fold.{walked_chosen, walked_opened}
use Rattle.cp_run.specs.Silent.{silent_slots, without_output}
use Rattle.cp_run.specs.Slots.{slots}
use Rattle.cp_run.specs.declared.outcome.Turn.TheVariants.{Due, Goes, Over}
use Rattle.cp_ends.specs.Arrivals.{cut_arrival, halt_arrival, return_within}
use Rattle.cp_ends.specs.Graph.{End as Stop}
use Rattle.cp_ends.specs.Searched.{gone_on_from, nothing, with_goal}
use Rattle.cp_ends.specs.Visited.{IsWithin}
use Rattle.cp_ends.specs.declared.end.End.{End}
use Rattle.cp_ends.proofs.GoingOn.{state_within}
use Rattle.cp_ends.proofs.Halting.{choice_comes, opening_comes}
use Rattle.cp_ends.proofs.Ruled.{chosen_ruled, opened_ruled}
use Rattle.cp_ends.proofs.Searching.Lists.{all_at}

abbrev AreRuled : Discipline → List (Machine × List ℕ) → Type 0
AreRuled discipline states = All (λ (x : Machine × List ℕ). x.0.discipline ≡ discipline) states

abbrev IsRuledGoal : Discipline → Goal Machine End → Type 0
IsRuledGoal discipline (Place m) = m.discipline ≡ discipline
IsRuledGoal discipline (Stop e) = Unit {0}

-- where a word arrives
arrived_ruled : (discipline : Discipline) (f : SlotFindings) (word : List ℕ) (a : SlotArrival) → IsRuledGoal discipline a.goal → AreRuled discipline f.states → AreRuled discipline (arrived ends_tests f word a).states
arrived_ruled discipline f word a goal h = by a.goal goal
  where
    k : SlotFindings
    k = with_shown f word a

    with_one : (m : Machine) (b : Bool) → m.discipline ≡ discipline → AreRuled discipline (if b then f.states else f.states ++ (m, word) ∷ [])
    with_one m true is = h
    with_one m false is = All-push (λ (x : Machine × List ℕ). x.0.discipline ≡ discipline) f.states (m, word) h is

    by : (o : Goal Machine End) → IsRuledGoal discipline o → AreRuled discipline (with_goal ends_tests k word o).states
    by (Place m) is = with_one m (has same_key f.states m) is
    by (Stop e) is = h

module _ (r : Tables) (discipline : Discipline) (steps : ℕ) where
  abbrev sys : System Machine
  sys = slots r discipline

  abbrev quiet : System Machine
  quiet = silent_slots r discipline

  abbrev graph : Graph Machine End Shown
  graph = slot_graph r discipline steps

  halt_ruled : (shown : List Shown) (m : Machine) (turn : Turn) → m.discipline ≡ discipline → IsRuledGoal discipline (halt_arrival sys quiet same_key steps shown m turn).goal
  halt_ruled shown m (Over kind) is = tt
  halt_ruled shown m Due is = is
  halt_ruled shown m (Goes q) is = cut (return_within quiet same_key m q steps)
    where
      cut : (o : Option ℕ) → IsRuledGoal discipline (cut_arrival sys quiet shown m q o).goal
      cut None = tt
      cut (Some n) = tt

  start_ruled : IsRuledGoal discipline graph.start.goal
  start_ruled =
      let comes = opening_comes sys without_output same_key steps in
      let w : Machine × Turn = walked_opened quiet steps in
      subst (λ (a : SlotArrival). IsRuledGoal discipline a.goal) (sym comes.is) (halt_ruled comes.shown w.0 w.1 (opened_ruled r discipline steps))

  on_ruled : (m : Machine) (p : ℕ) → m.discipline ≡ discipline → IsRuledGoal discipline (graph.on m p).goal
  on_ruled m p is =
      let comes = choice_comes sys without_output same_key steps m p in
      let w : Machine × Turn = walked_chosen quiet steps m p in
      subst (λ (a : SlotArrival). IsRuledGoal discipline a.goal) (sym comes.is) (halt_ruled comes.shown w.0 w.1 (chosen_ruled r discipline steps m p ∙ is))

  gone_ruled : (x : Machine × List ℕ) (n : ℕ) (f : SlotFindings) → x.0.discipline ≡ discipline → AreRuled discipline f.states → AreRuled discipline (gone_on graph ends_tests x n f).states
  gone_ruled x zero f is h = h
  gone_ruled x (suc n) f is h = by (graph.may x.0 n) (gone_ruled x n f is h)
    where
      k : SlotFindings
      k = gone_on graph ends_tests x n f

      by : (b : Bool) → AreRuled discipline k.states → AreRuled discipline (if b then arrived ends_tests k (x.1 ++ n ∷ []) (graph.on x.0 n) else k).states
      by true on = arrived_ruled discipline k (x.1 ++ n ∷ []) (graph.on x.0 n) (on_ruled x.0 n is) on
      by false on = on

  states_ruled : (n : ℕ) → AreRuled discipline (searched graph ends_tests n).states
  unfolding searched
  states_ruled zero = arrived_ruled discipline nothing [] graph.start start_ruled (All-nil (λ (x : Machine × List ℕ). x.0.discipline ≡ discipline))
  states_ruled (suc n) = by (slice_get (searched graph ends_tests n).states n) (λ x at. all_at (λ (x : Machine × List ℕ). x.0.discipline ≡ discipline) (searched graph ends_tests n).states n x (states_ruled n) at) (states_ruled n)
    where
      f : SlotFindings
      f = searched graph ends_tests n

      by : (o : Option (Machine × List ℕ)) → ((x : Machine × List ℕ) → o ≡ Some x → x.0.discipline ≡ discipline) → AreRuled discipline f.states → AreRuled discipline (gone_on_from graph ends_tests o f).states
      by None each on = on
      by (Some x) each on = gone_ruled x graph.below f (each x refl) on

  -- so the code's states have it
  pub within_ruled : (most : ℕ) (found : Found) (at : ℕ) (m : Machine) (done : List ℕ) → IsWithin r graph most found at m done → found.states.discipline ≡ discipline
  within_ruled most found at m done within =
      sym (state_within r graph most found at m done within).ruled
      ∙ ap (λ (k : Machine). k.discipline) within.here
      ∙ all_at (λ (x : Machine × List ℕ). x.0.discipline ≡ discipline) (searched graph ends_tests at).states at within.from (states_ruled at) within.is
