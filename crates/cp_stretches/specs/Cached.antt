-- What is known of a program: parts of its states, legs, and admissions.
use Rattle.std.specs.Prelude.{◌≡◌, List, [], ℕ}
use Rattle.cp_slots.specs.Fits.{IsSound}
use Rattle.cp_slots.specs.Tables.{Tables}
use Rattle.cp_machine.specs.declared.discipline.Discipline.{Discipline}
use Rattle.cp_machine.specs.Fits.{IsStateOf}
use Rattle.cp_machine.specs.Machine.{Machine, machine_of}
use Rattle.cp_effect_laws.specs.Touches.{IsKept}
use Rattle.cp_parts.specs.declared.placing.PlaceTable.{PlaceTable}
use Rattle.cp_parts.specs.declared.store.PartStore.{PartStore}
use Rattle.cp_parts.specs.Parts.{IsPartRow}
use Rattle.cp_parts.specs.Placed.{IsPlaced}
use Rattle.cp_effects.specs.Admitting.{AreAdmissions}
use Rattle.cp_effects.specs.Known.{AreKnown}
use Rattle.cp_stretches.specs.declared.cache.LegCache.{LegCache}
use Rattle.cp_stretches.specs.declared.cache.Standing.{Standing}
use Rattle.cp_stretches.specs.Numbers.{AreStatusNumbers}

-- a row stands for a machine of the program, under a discipline, which displays nothing
pub record StandsFor (r : Tables) (discipline : Discipline) (s : PartStore) (t : PlaceTable) (m : Machine) (row : List ℕ) : Type 0 where
  pub stands : IsPartRow s t m row
  pub kept : IsKept r m
  pub quiet : m.output ≡ []
  pub ruled : m.discipline ≡ discipline

-- the places and the numbers are those of the program, and its legs and admissions did what is known of them
pub record IsCache (r : Tables) (discipline : Discipline) (c : LegCache) : Type 0 where
  pub sound : IsSound r
  pub placed : IsPlaced r c.table
  pub numbers : AreStatusNumbers c.store r.monitors c.numbers
  pub known : AreKnown c.store c.table r discipline c.legs.effects
  pub admissions : AreAdmissions c.store c.table r c.admissions

-- a state of the program stands with its own row
pub record IsStanding (r : Tables) (s : PartStore) (t : PlaceTable) (x : Standing) : Type 0 where
  pub own : IsStateOf r x.state
  pub row : IsPartRow s t (machine_of x.state) x.row.items
