-- What is known of legs, in use.
use Rattle.std.specs.Prelude.{◌≡◌, ◌+◌, ◌<◌, ◌≤◌, ℕ, All, IfSome, List, length}
use Rattle.cp_slots.specs.Tables.{Tables}
use Rattle.cp_machine.specs.declared.discipline.Discipline.{Discipline}
use Rattle.cp_states.specs.Pieces.{piece_at}
use Rattle.cp_parts.specs.declared.placing.PlaceTable.{PlaceTable}
use Rattle.cp_parts.specs.declared.store.PartStore.{PartStore}
use Rattle.cp_parts.specs.Placed.{place_count}
use Rattle.cp_effects.specs.declared.table.EffectTable.{EffectTable}
use Rattle.cp_effects.specs.declared.table.KnownLeg.{KnownLeg}
use Rattle.cp_effects.specs.Changes.{numbers_at}
use Rattle.cp_effects.specs.Known.{IsKeyOf, Tells, writes_of}
use Rattle.cp_stretches.specs.declared.legs.LegKey.{LegKey}
use Rattle.cp_stretches.specs.declared.legs.Looked.{Looked}
use Rattle.cp_stretches.specs.declared.legs.Looked.TheVariants.{Leg, Nothing, TooMuch}

-- a leg that is known tells of each machine of a row what its own leg comes to, and the numbers that it changes are in the table
pub record IsTold (s : PartStore) (t : PlaceTable) (r : Tables) (discipline : Discipline) (table : EffectTable) (row : List ℕ) (pid : ℕ) (e : KnownLeg) : Type 0 where
  pub rising : e.from ≤ e.to
  pub within : e.to ≤ length table.writes.items
  pub inside : All (λ w. w.position < t.processes + 1 + place_count t) (writes_of table.writes.items e)
  pub tells : Tells s t r discipline table row pid e

-- the key of a process, these places, and numbers of their parts
pub record HasKey (table : EffectTable) (key pid : ℕ) (places numbers : List ℕ) : Type 0 where
  pub scope : ℕ
  pub keyed : IsKeyOf table key pid scope numbers
  pub are : piece_at table.scopes.items.items table.scopes.ends.items scope ≡ places

-- the key of a process, the places of a number, and the numbers that a row has there
abbrev pub IsSought : EffectTable → PlaceTable → (row : List ℕ) → (pid : ℕ) → LegKey → Type 0
IsSought table t row pid k = IsKeyOf table k.key pid k.scope (numbers_at t (piece_at table.scopes.items.items table.scopes.ends.items k.scope) row)

-- what holds of the key where nothing is known of a leg that was looked for
abbrev pub IfSought : Looked → (LegKey → Type 0) → Type 0
IfSought (Nothing sought) P = IfSome sought P
IfSought TooMuch P = Unit {0}
IfSought (Leg e) P = Unit {0}
