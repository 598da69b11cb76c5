-- A search that has expanded each state has their graph.
use Rattle.std.proofs.Common.{◌≡◌, ◌∙◌, sym, ℕ, List, Option, None, Some, arith, length}
use Rattle.cp_search.specs.Searched.{IsSearched}
use Rattle.cp_machine.specs.declared.discipline.Discipline.{Discipline}
use Rattle.cp_machine.specs.declared.shown.Shown.{Shown}
use Rattle.cp_ends.specs.Graph as ends
use Rattle.cp_ends.specs.Visited.{IsWithin}
use Rattle.cp_ends.specs.declared.end.End.{End}
use Rattle.cp_ends.specs.Answer.{IsSearch, IsStopped, slot_graph}
use Rattle.cp_ends.specs.declared.found.Found.{Found}
use Rattle.cp_ends.proofs.GoingOn.{stop_noted}
use Rattle.cp_ends.proofs.Saying.{done_whole}
use Rattle.cp_ends.proofs.Searching.Lists.{grows_same}
use Rattle.cp_waits.specs.Passings.{IsLook}
use Rattle.cp_waits.proofs.Words.{Machine, Tables, Graph, PassingSets, some_same, silent_slots, in_call_on_slots, waits_on_slots}
use Rattle.cp_waits.proofs.Adding.{graph_done}
use Rattle.cp_waits.specs.Building.{IsBuilt, IsSearchedGraph, IsSlotGraphTo, findings_at}
use Rattle.cp_waits.specs.Graphs.{HasGraph}

-- what a look sees
abbrev pub looks_so : PassingSets → Tables → Machine → Type 0
looks_so p r m = IsLook (length r.processes) m p

-- the state that is expanded is one, however far
pub from_same : (r : Tables) (g : ends.Graph Machine End Shown) (most : ℕ) (old new : Found) (at : ℕ) (m n : Machine) (ps qs : List ℕ) (x : IsWithin r g most new at n qs) (y : IsWithin r g most old at m ps) → x.from ≡ y.from
from_same r g most old new at m n ps qs x y = some_same x.from y.from (sym x.is ∙ y.is)

module _ (r : Tables) (discipline : Discipline) (steps most : ℕ) (g : Graph) where
  -- where the search stopped is noted beside what was found
  pub graph_noted : (found : Found) (note stopped : Option ℕ) → IsSearched (IsBuilt r discipline steps most found g) (IsStopped r (slot_graph r discipline steps) most found) stopped → IsSearchedGraph r discipline steps most (record found { stopped = note }) g stopped
  graph_noted found note None built =
      let n = built.whole.count in
      let states = (findings_at r discipline steps most n).states in
      let to : IsSlotGraphTo r discipline steps states n g = built.graph states (grows_same states) in
      let all = built.whole.all in
      let within = to.within in
      let few = built.whole.holds.few in
      let holds = built.whole.holds.holds in (
        record { count = n; holds = record { states = holds.states; ends = holds.ends; values = holds.values }; states = omega (arith, all, within); few = omega (arith, within, few) },
        graph_done (silent_slots r discipline) in_call_on_slots waits_on_slots steps states n g to all,
      )
  graph_noted found note (Some at) stops = stop_noted r (slot_graph r discipline steps) most found note (Some at) stops

  pub search_of : (found : Found) (stopped : Option ℕ) → IsSearchedGraph r discipline steps most found g stopped → IsSearch r (slot_graph r discipline steps) most found stopped
  search_of found None h = h.0
  search_of found (Some at) h = h

  pub has_graph : (found : Found) (stopped : Option ℕ) → IsSearchedGraph r discipline steps most found g stopped → stopped ≡ None → HasGraph r discipline steps found g
  has_graph found None h whole = record { most = most; findings = findings_at r discipline steps most h.0.count; holds = h.0.holds; whole = done_whole r discipline steps most found h.0; graph = h.1 }
  has_graph found (Some at) h whole = absurd (cc)
