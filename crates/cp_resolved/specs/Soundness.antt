-- When the tables of a tree are sound, as a law: what is still wanted of an accepted tree, and that it is all that is wanted.
use Rattle.std.specs.Prelude.{IsTrue, ◌≡◌, ℕ, ◌+◌, ◌^◌, ◌<◌, ◌≤◌, length}
use Rattle.cp_tree.specs.Syntax.{Tree}
use Rattle.cp_slots.specs.declared.item.Action.{Action}
use Rattle.cp_slots.specs.declared.item.Action.TheVariants.{Call, Start}
use Rattle.cp_slots.specs.Fits.{IsSound}
use Rattle.cp_slots.specs.Inside.{action_inside}
use Rattle.cp_symbols.specs.Kinds.{most}
use Rattle.cp_layout.specs.Laid.{plain, laid}
use Rattle.cp_slots.specs.Systems.{ActionNames, AreWords}
use Rattle.cp_slots.specs.Tables.{Tables, item_at, routine_at, system_at}

-- the items are held in memory, and no room has stopped at the greatest word
pub record AreHeld (t : Tables) : Type 0 where
  pub items : length t.items + 2 ≤ 2 ^ 63
  pub rooms : (number : ℕ) → number < length t.routines → (routine_at t number).room < most
  pub reference_rooms : (number : ℕ) → number < length t.routines → (routine_at t number).reference_room < most

-- the program is inside its limits, and no count of it has stopped at the greatest word
pub record IsModest (t : Tables) : Type 0 where
  pub processes : length t.processes ≤ 16
  pub monitors : t.monitors ≤ 64
  pub held : AreHeld t
  pub cells : (system : ℕ) → (system_at t system).own < most
  pub words : AreWords t

-- a call of the routine that it stands in
abbrev pub IsOwnCall : (routine : ℕ) → Action → Type 0
IsOwnCall routine (Call callee place is_entry arguments result) = callee ≡ routine
IsOwnCall routine (Start place callee arguments) = callee ≡ routine
IsOwnCall routine a = ⊥

-- No routine calls itself. What an item reads and writes is inside what it names. The components that it names are of the types that it wants.
pub record NamesHold (t : Tables) : Type 0 where
  pub calls : (at : ℕ) → at < length t.items → IsOwnCall (item_at t at).routine (item_at t at).action → ⊥
  pub inside : (at : ℕ) → at < length t.items → IsTrue (action_inside t (routine_at t (item_at t at).routine) (item_at t at).action)
  pub actions : (at : ℕ) → at < length t.items → ActionNames t (routine_at t (item_at t at).routine).system (item_at t at).action

abbrev pub SoundLaw : Type 0
SoundLaw = (t : Tables) (tree : Tree) → plain t ≡ laid tree → IsModest t → NamesHold t → IsSound t
