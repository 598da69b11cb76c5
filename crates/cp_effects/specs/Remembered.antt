-- What is remembered of a leg: where it touched the machine, the numbers of the row before it, and the numbers of the row afterwards.
use Rattle.std.specs.Prelude.{◌≡◌, ◌<◌, ℕ, true, List, []}
use Rattle.cp_slots.specs.Tables.{Tables}
use Rattle.cp_machine.specs.declared.discipline.Discipline.{Discipline}
use Rattle.cp_machine.specs.declared.shown.Shown.{Shown}
use Rattle.cp_machine.specs.Machine.{Machine}
use Rattle.cp_machine.specs.Statements.{Stepped}
use Rattle.cp_effect_laws.specs.Effects.{IsToStep, Leg}
use Rattle.cp_parts.specs.declared.placing.PlaceTable.{PlaceTable}
use Rattle.cp_parts.specs.declared.store.PartStore.{PartStore}
use Rattle.cp_parts.specs.Parts.{IsPartRow}
use Rattle.cp_parts.specs.Placed.{IsPlaced, place_count, places_of}
use Rattle.cp_effects.specs.declared.leg.WatchedLeg.{WatchedLeg}
use Rattle.cp_effects.specs.declared.changes.Write.{Write}
use Rattle.cp_effects.specs.Changes.{AreChanges, numbers_at, written}
use Rattle.cp_effects.specs.Noting.{among}
use Rattle.cp_effects.specs.Watching.{IsEffect}

-- A machine of the program made this leg, had these numbers in the places that it touched, and changed its row so.
pub record IsRemembered (s : PartStore) (t : PlaceTable) (r : Tables) (discipline : Discipline) (pid : ℕ) (places numbers : List ℕ) (leg : WatchedLeg) (shown : List Shown) (writes : List Write) : Type 0 where
  pub first : Machine
  pub row : List ℕ
  pub after : Machine
  pub row_after : List ℕ
  pub stands : IsPartRow s t first row
  pub comes : IsPartRow s t after row_after
  pub steps : IsToStep r first pid
  pub quiet : first.output ≡ []
  pub ruled : first.discipline ≡ discipline
  pub effect : IsEffect (places_of t) r places first pid leg after
  pub inside : (place : ℕ) → among places place ≡ true → place < place_count t
  pub found : numbers ≡ numbers_at t places row
  pub shows : after.output ≡ shown
  pub changes : AreChanges t places row row_after writes

-- what the leg of another machine comes to: it is as long, tells and displays the same, and changes the row so
pub record GoesAs (s : PartStore) (t : PlaceTable) (r : Tables) (n : Machine) (row : List ℕ) (pid : ℕ) (leg : WatchedLeg) (shown : List Shown) (writes : List Write) (last : Stepped) : Type 0 where
  pub steps : Leg r n pid leg.steps last
  pub event : last.event ≡ leg.event
  pub shows : last.machine.output ≡ shown
  pub comes : IsPartRow s t last.machine (written writes row)

-- A machine that has these numbers in these places makes the leg that is remembered.
abbrev pub LookLaw : Type 0
LookLaw =
    (s : PartStore) (t : PlaceTable) (r : Tables) (discipline : Discipline) (pid : ℕ) (places numbers : List ℕ) (leg : WatchedLeg) (shown : List Shown) (writes : List Write) (n : Machine) (row : List ℕ) →
    IsPlaced r t → IsRemembered s t r discipline pid places numbers leg shown writes →
    IsToStep r n pid → n.output ≡ [] → n.discipline ≡ discipline → IsPartRow s t n row → numbers ≡ numbers_at t places row →
    (last : Stepped) × GoesAs s t r n row pid leg shown writes last
