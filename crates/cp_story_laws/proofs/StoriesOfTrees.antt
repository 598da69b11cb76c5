-- Of a tree that was read and is accepted, a story tells what happens on its own names, and who waits where a run stops.
use Rattle.std.proofs.Common.{◌≡◌, ℕ, ℤ, List, Option}
use Rattle.std.specs.Prelude.{map}
use Rattle.cp_tree.specs.Read.{IsRead}
use Rattle.cp_tree.specs.Syntax.{Tree}
use Rattle.cp_symbols.specs.declared.symbols.Symbols.{Symbols}
use Rattle.cp_layout.specs.Laid.{plain, laid, whole}
use Rattle.cp_layout.specs.Symbols.{AreSymbolsOf}
use Rattle.cp_slots.specs.Tables.{Tables}
use Rattle.cp_meaning_laws.specs.Accepted.{IsAccepted}
use Rattle.cp_legend.specs.declared.legend.Legend as code_legend
use Rattle.cp_legend.specs.Names.{IsLegendOf, Legend, RoutineNames, legend_seen, source_seen}
use Rattle.cp_legend_laws.specs.Called.{called_in_legend, tabled}
use Rattle.cp_legend_laws.specs.Paths.{called_in_language}
use Rattle.cp_legend_laws.specs.Statements.{PermanentsAre, PlacesAreNamed, RoutinesAreTold, ValuesAreTold, routine_text}
use Rattle.cp_legend_laws.proofs.LocalsNamed.{locals_law}
use Rattle.cp_legend_laws.proofs.NamedRoutines.{routines_law}
use Rattle.cp_legend_laws.proofs.OwnMonitors.{own_monitors}
use Rattle.cp_legend_laws.proofs.PathsOfTree.{legend_law}
use Rattle.cp_legend_laws.proofs.PermanentsNamed.{permanents_law}
use Rattle.cp_legend_laws.proofs.PlacesNamed.{places_law}
use Rattle.cp_legend_laws.proofs.ValuesOfTree.{values_law}
use Rattle.cp_machine.specs.declared.discipline.Discipline.{Discipline}
use Rattle.cp_machine.specs.Machine.{Machine}
use Rattle.cp_meaning.specs.Components.{components_of}
use Rattle.cp_meaning.specs.State.{Component, Place, State}
use Rattle.cp_meaning.specs.Steps.{view_of}
use Rattle.cp_machine_laws.specs.Named.{named_discipline}
use Rattle.cp_story.specs.Aimed.{aim_in}
use Rattle.cp_story.specs.Story.{queue_told}
use Rattle.cp_story_laws.specs.Aims.{queue_named, queue_place}
use Rattle.cp_resolved.specs.Openings.{openings_of}
use Rattle.cp_story_laws.specs.Statements.{EventsLaw, StopLaw, WaitsLaw}
use Rattle.cp_story_laws.proofs.changes.CellsHeld.{Held, held}
use Rattle.cp_story_laws.proofs.changes.ChangesAgree.{held_same, legend_monitors}
use Rattle.cp_story_laws.proofs.aims.EndsAgree.{ends_same}
use Rattle.cp_story_laws.proofs.EventsAgree.{StepsAgree, tells_events}
use Rattle.cp_story_laws.proofs.passed.PassedNow.{arguments_now, given_now, named_admission, named_start, named_step}
use Rattle.cp_story_laws.proofs.aims.QueueCells.{SameQueue, told_same}
use Rattle.cp_story_laws.proofs.aims.QueuesAimed.{queues_meet}
use Rattle.cp_story_laws.proofs.StopsAgree.{tells_stop}
use Rattle.cp_story_laws.proofs.Together.{Related, prepared}
use Rattle.cp_story_laws.proofs.WaitsAgree.{tells_waits}

module _ (t : Tree) (y : Symbols) (r : Tables) (k : code_legend.Legend) (g : Discipline) (read : IsRead t.program) (ok : IsAccepted t) (symbols : AreSymbolsOf y (whole t)) (same : plain r ≡ laid t) (legend : IsLegendOf k (source_seen y) r.components) where
  abbrev l : Legend
  l = legend_seen k

  tables : map tabled l.components ≡ r.components
  tables = (legend_law t y r k read ok symbols same legend).tables

  paths : map called_in_legend l.components ≡ map (called_in_language t.program) (components_of t.program)
  paths = (legend_law t y r k read ok symbols same legend).paths

  names : map (λ (n : RoutineNames). n.name) l.routines ≡ map routine_text (openings_of t.program)
  names = (routines_law t y r k read ok symbols same legend).names

  permanents : PermanentsAre t l
  permanents = permanents_law t y r k read ok symbols same legend

  places : PlacesAreNamed t l
  places = places_law t y r k read ok symbols same legend

  locals : RoutinesAreTold t l
  locals = locals_law t y r k read ok symbols same legend

  values : ValuesAreTold t l
  values = values_law t y r k read ok symbols same legend

  abbrev Holds : List Component → List ℤ → Type 0
  Holds = Held t r

  queue_told_there : (s : State) (m : Machine) → Related t r g read ok same s m → (p : ℕ) (o : Option Place) (u : Option ℕ) → SameQueue t r o u → queue_told l u ≡ queue_named t (named_discipline g) (view_of t.program s p) o
  queue_told_there = told_same t r (named_discipline g) ok (prepared t r g read ok same) l tables paths (own_monitors k (source_seen y) r.components legend) places

  steps_agree : StepsAgree t r g l Holds names read ok same tables paths
  steps_agree =
      record {
        held = held t r g read ok same;
        changes = held_same t r g l read ok same tables paths permanents values (legend_monitors t y r k g read ok symbols same legend);
        queues = λ s m p sim can e. queue_told_there s m sim p (queue_place t s p) (aim_in r m p).queue (queues_meet t r g read ok same s m p sim can);
        meets = queues_meet t r g read ok same;
        ending = ends_same t r g read ok same;
        given = given_now t r g l read ok same tables paths names places locals values;
        begun = arguments_now t r g l read ok same tables paths names places locals values;
        named_start = named_start t r g l read ok same tables paths names places locals values;
        named_step = named_step t r g l read ok same tables paths names places locals values;
        named_admission = named_admission t r g l read ok same tables paths names places locals values;
      }

pub events_law : EventsLaw
events_law t y r l g read ok symbols same legend choices steps word =
    tells_events t r g (legend_seen l) (Held t r) (names t y r l g read ok symbols same legend) read ok same (tables t y r l g read ok symbols same legend) (paths t y r l g read ok symbols same legend) (steps_agree t y r l g read ok symbols same legend) choices steps word

pub waits_law : WaitsLaw
waits_law t y r l g read ok symbols same legend choices steps word =
    tells_waits t r g (legend_seen l) (names t y r l g read ok symbols same legend) read ok same (tables t y r l g read ok symbols same legend) (paths t y r l g read ok symbols same legend) (Held t r) (steps_agree t y r l g read ok symbols same legend) choices steps word

pub stop_law : StopLaw
stop_law t y r l g read ok symbols same legend choices steps word =
    tells_stop t r g (legend_seen l) (names t y r l g read ok symbols same legend) read ok same (tables t y r l g read ok symbols same legend) (paths t y r l g read ok symbols same legend) (Held t r) (steps_agree t y r l g read ok symbols same legend)
    (own_monitors l (source_seen y) r.components legend) (places t y r l g read ok symbols same legend) choices steps word
