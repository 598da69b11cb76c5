-- The cell of a queue of a monitor, and that it is told as the queue is on names.
use Rattle.std.proofs.Common.{◌≡◌, ◌∙◌, ℕ, List, [], Option, Some, None, ap, ap₂, sym, refl}
use Rattle.std.specs.Prelude.{map}
use Rattle.cp_tree.specs.Syntax.{Tree}
use Rattle.cp_meaning_laws.specs.Accepted.{IsAccepted}
use Rattle.cp_slots.specs.declared.tables.ComponentKind.TheVariants as kind
use Rattle.cp_slots.specs.Tables.{Tables, component_at}
use Rattle.cp_store.specs.declared.memory.Address.TheVariants.{Permanent}
use Rattle.cp_machine.specs.Machine.{Machine}
use Rattle.cp_meaning.specs.Components.{components_of}
use Rattle.cp_meaning.specs.State.{Discipline, in_component, Place, State}
use Rattle.cp_meaning.specs.Steps.{view_of}
use Rattle.cp_meaning.specs.Types.{queue_type}
use Rattle.cp_legend.specs.Names.{Legend}
use Rattle.cp_legend_laws.specs.Called.{called_in_legend, tabled}
use Rattle.cp_legend_laws.specs.Paths.{called_in_language}
use Rattle.cp_legend_laws.specs.Statements.{PlacesAreNamed}
use Rattle.cp_legend_laws.proofs.OwnMonitors.{HasOwnNumber}
use Rattle.cp_resolved.specs.Small.{Each}
use Rattle.cp_resolved.specs.TreeLayouts.{layouts_of}
use Rattle.cp_machine_laws.specs.Law.{Simulates}
use Rattle.cp_machine_laws.specs.Prepared.{Prepared}
use Rattle.cp_machine_laws.specs.Represents.{PlaceAt}
use Rattle.cp_story.specs.Story.{NamedQueue, queue_told}
use Rattle.cp_story_laws.specs.Aims.{component_of, queue_named}
use Rattle.cp_story_laws.specs.MonitorNumbers.{monitor_of}
use Rattle.cp_story_laws.specs.Places.{place_text}
use Rattle.cp_story_laws.proofs.aims.QueuePlaces.{monitor_told, name_told}

-- a place is a queue of a monitor, and has this cell
pub record HasCell (t : Tree) (r : Tables) (x : Place) (cell : ℕ) : Type 0 where
  pub component : ℕ
  pub holder : x.holder ≡ in_component component
  pub place : PlaceAt r (layouts_of t) [] x queue_type (Permanent cell)
  pub number : ℕ
  pub monitor : (component_at r component).kind ≡ kind.Monitor number

-- no queue on names and on slots, or the cell of the one
abbrev pub SameQueue : Tree → Tables → Option Place → Option ℕ → Type 0
SameQueue t r None None = Unit {0}
SameQueue t r (Some x) (Some cell) = HasCell t r x cell
SameQueue t r o u = ⊥

abbrev made : ℕ → List ℕ → NamedQueue
made k x = record { monitor = k; name = x }

pub told_same : (t : Tree) (r : Tables) (g : Discipline) → IsAccepted t → Prepared t r (layouts_of t) → (l : Legend) → map tabled l.components ≡ r.components → map called_in_legend l.components ≡ map (called_in_language t.program) (components_of t.program) → Each HasOwnNumber l.components → PlacesAreNamed t l →
    (s : State) (m : Machine) → Simulates t r (layouts_of t) g s m → (p : ℕ) (o : Option Place) (u : Option ℕ) → SameQueue t r o u → queue_told l u ≡ queue_named t g (view_of t.program s p) o
told_same t r g ok prepared l tables paths own places s m sim p None None k = refl
told_same t r g ok prepared l tables paths own places s m sim p (Some x) (Some cell) k =
    ap₂ made (monitor_told t r g ok prepared l tables paths s m sim k.component cell x k.holder k.place own k.number k.monitor) (name_told t r g ok prepared l tables paths s m sim k.component cell x k.holder k.place places p)
    ∙ ap (λ (i : ℕ). made (monitor_of t.program g i) (place_text (view_of t.program s p) x)) (sym (ap component_of k.holder))
told_same t r g ok prepared l tables paths own places s m sim p None (Some cell) k = absurd k
told_same t r g ok prepared l tables paths own places s m sim p (Some x) None k = absurd k
