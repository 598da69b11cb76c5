-- What is known of legs, by keys.
use Rattle.std.specs.Prelude.{◌≡◌, ◌<◌, ◌≤◌, [], ◌∷◌, ℕ, List, length, option_to_list, slice_index_or}
use Rattle.std.specs.List.{slice_range}
use Rattle.cp_slots.specs.Tables.{Tables}
use Rattle.cp_machine.specs.declared.discipline.Discipline.{Discipline}
use Rattle.cp_machine.specs.Machine.{Machine}
use Rattle.cp_machine.specs.Statements.{Stepped}
use Rattle.cp_states.specs.Pieces.{IsPiece, piece_at}
use Rattle.cp_effect_laws.specs.Effects.{IsToStep}
use Rattle.cp_parts.specs.declared.placing.PlaceTable.{PlaceTable}
use Rattle.cp_parts.specs.declared.store.PartStore.{PartStore}
use Rattle.cp_parts.specs.Parts.{IsPartRow}
use Rattle.cp_effects.specs.declared.changes.Write.{Write}
use Rattle.cp_effects.specs.declared.table.EffectTable.{EffectTable}
use Rattle.cp_effects.specs.declared.table.Known.{Known}
use Rattle.cp_effects.specs.declared.table.Known.TheVariants.{Leg, Nothing}
use Rattle.cp_effects.specs.declared.table.KnownLeg.{KnownLeg}
use Rattle.cp_effects.specs.Remembered.{GoesAs, IsRemembered}

-- what is known of a key
abbrev pub known_at : List Known → (key : ℕ) → Known
known_at known key = slice_index_or known key Nothing

-- the key of a process, the number of places, and numbers of their parts
pub record IsKeyOf (table : EffectTable) (key pid scope : ℕ) (numbers : List ℕ) : Type 0 where
  pub piece : IsPiece table.keys.items.items table.keys.ends.items key (pid ∷ scope ∷ numbers)
  pub there : scope < length table.scopes.ends.items

-- the writes of a leg
abbrev pub writes_of : List Write → KnownLeg → List Write
writes_of writes e = slice_range writes e.from e.to

-- a leg of a process that is remembered by a key
pub record IsKnown (s : PartStore) (t : PlaceTable) (r : Tables) (discipline : Discipline) (table : EffectTable) (key : ℕ) (e : KnownLeg) : Type 0 where
  pub pid : ℕ
  pub scope : ℕ
  pub numbers : List ℕ
  pub keyed : IsKeyOf table key pid scope numbers
  pub rising : e.from ≤ e.to
  pub within : e.to ≤ length table.writes.items
  pub is : IsRemembered s t r discipline pid (piece_at table.scopes.items.items table.scopes.ends.items scope) numbers e.leg (option_to_list e.shown) (writes_of table.writes.items e)

-- each leg in the table is remembered by its key
abbrev pub AreKnown : PartStore → PlaceTable → Tables → Discipline → EffectTable → Type 0
AreKnown s t r discipline table = (key : ℕ) (e : KnownLeg) → known_at table.known.items key ≡ Leg e → IsKnown s t r discipline table key e

-- a leg that is known tells of each machine of a row what its own leg comes to
abbrev pub Tells : PartStore → PlaceTable → Tables → Discipline → EffectTable → (row : List ℕ) → (pid : ℕ) → KnownLeg → Type 0
Tells s t r discipline table row pid e =
    (n : Machine) → IsToStep r n pid → n.output ≡ [] → n.discipline ≡ discipline → IsPartRow s t n row →
    (last : Stepped) × GoesAs s t r n row pid e.leg (option_to_list e.shown) (writes_of table.writes.items e) last
