-- Where a run stops, a delayed process waits in the queue that the legend names by its cell.
use Rattle.std.proofs.Common.{◌≡◌, ℕ, ◌<◌, length, refl}
use Rattle.std.specs.Prelude.{map}
use Rattle.cp_tree.specs.Read.{IsRead}
use Rattle.cp_tree.specs.Syntax.{Tree}
use Rattle.cp_slots.specs.Tables.{Tables}
use Rattle.cp_machine.specs.declared.discipline.Discipline as slot_gates
use Rattle.cp_machine.specs.declared.process.Status.TheVariants as status
use Rattle.cp_machine.specs.Machine.{Machine, thread_at}
use Rattle.cp_layout.specs.Laid.{plain, laid}
use Rattle.cp_meaning_laws.specs.Accepted.{IsAccepted}
use Rattle.cp_meaning.specs.Components.{components_of}
use Rattle.cp_meaning.specs.State as named_state
use Rattle.cp_meaning.specs.State.{State, delayed}
use Rattle.cp_meaning.specs.Steps.{view_of}
use Rattle.cp_legend.specs.Names.{Legend, legend_seen}
use Rattle.cp_legend_laws.specs.Called.{called_in_legend, tabled}
use Rattle.cp_legend_laws.specs.Paths.{called_in_language}
use Rattle.cp_legend_laws.specs.Statements.{PlacesAreNamed}
use Rattle.cp_legend_laws.proofs.PathsOfTree.{legend_law}
use Rattle.cp_legend_laws.proofs.PlacesNamed.{places_law}
use Rattle.cp_machine_laws.specs.Named.{named, named_discipline}
use Rattle.cp_run.specs.Slots.{slots}
use Rattle.cp_run.specs.Stop.{last_state}
use Rattle.cp_story_laws.specs.Queues.{WaitsIn}
use Rattle.cp_story_laws.specs.Statements.{QueuesLaw}
use Rattle.cp_story_laws.proofs.aims.QueuePlaces.{name_told}
use Rattle.cp_story_laws.proofs.StopsTogether.{stop_related}
use Rattle.cp_story_laws.proofs.Together as together

waits_in : (t : Tree) (r : Tables) (g : slot_gates.Discipline) (l : Legend) (read : IsRead t.program) (ok : IsAccepted t) (same : plain r ≡ laid t) → map tabled l.components ≡ r.components → map called_in_legend l.components ≡ map (called_in_language t.program) (components_of t.program) → PlacesAreNamed t l →
    (s : State) (m : Machine) → together.Related t r g read ok same s m → (q n cell : ℕ) → q < length s.processes → (named_state.process_at s.processes q).status ≡ delayed n → (thread_at m.threads q).status ≡ status.Delayed cell → WaitsIn t l s q n cell
waits_in t r g l read ok same tables paths places s m sim q n cell less e f =
    let k = sim.represents.queues.waiting q n cell (view_of t.program s q) less e f refl in
    record {
      place = k.0;
      holder = k.1;
      waits = k.3;
      told = name_told t r (named_discipline g) ok (together.prepared t r g read ok same) l tables paths s m sim n cell k.0 k.1 k.2 places q;
    }

pub queues_law : QueuesLaw
queues_law t y r l g read ok symbols same legend choices steps word q n cell less e f =
    let w = legend_law t y r l read ok symbols same legend in
    waits_in t r g (legend_seen l) read ok same w.tables w.paths (places_law t y r l read ok symbols same legend) (last_state (named t (named_discipline g)) choices steps word) (last_state (slots r g) choices steps word)
    (stop_related t r g read ok same choices steps word) q n cell less e f
