-- Moves: what processes do within a half of a row.
use Rattle.std.specs.Prelude.{◌≡◌, ◌<◌, ◌≤◌, ℕ, All, Bool, List, Some, false, length, not, option_to_list, slice_get, true}
use Rattle.cp_slots.specs.Tables.{Tables}
use Rattle.cp_machine.specs.declared.discipline.Discipline.{Discipline}
use Rattle.cp_machine.specs.declared.shown.Shown.{Shown}
use Rattle.cp_machine.specs.System.{Machine, is_pending}
use Rattle.cp_run.specs.declared.outcome.Turn.TheVariants.{Due}
use Rattle.cp_states.specs.Numbers.{number_at}
use Rattle.cp_states.specs.Pieces.{IsPiece, piece_at}
use Rattle.cp_effects.specs.declared.changes.Write.{Write}
use Rattle.cp_effects.specs.declared.table.KnownLeg.{KnownLeg}
use Rattle.cp_effects.specs.Changes.{numbers_at, written}
use Rattle.cp_effects.specs.Known.{writes_of}
use Rattle.cp_effects.specs.Remembered.{IsRemembered}
use Rattle.cp_parts.specs.declared.placing.PlaceTable.{PlaceTable}
use Rattle.cp_parts.specs.declared.store.PartStore.{PartStore}
use Rattle.cp_stretches.specs.Stretching.{MakesLeg}
use Rattle.cp_stretches.specs.declared.cache.LegCache.{LegCache}
use Rattle.cp_ends.specs.Halves.{half_in, half_position, is_in_first, statuses_in, width_of}
use Rattle.cp_ends.specs.declared.moves.Move.{Move}
use Rattle.cp_ends.specs.declared.states.States.{States}

-- a row has this half
pub record HasHalf (kept : States) (is_first : Bool) (half : ℕ) (row : List ℕ) : Type 0 where
  pub wide : length row ≡ width_of kept.cache.table
  pub is : IsPiece kept.lists.items.items kept.lists.ends.items half (half_in kept.cache.table is_first row)

-- A leg that changes a row so touches these places, which are all in one half. It found these numbers there, left this half, and perhaps no status other.
pub record StaysWithin (kept : States) (is_first : Bool) (places numbers : List ℕ) (writes : List Write) (is_still : Bool) (after : ℕ) (row : List ℕ) : Type 0 where
  pub found : numbers ≡ numbers_at kept.cache.table places row
  pub statuses : is_still ≡ true → statuses_in kept.cache.table (written writes row) ≡ statuses_in kept.cache.table row
  pub half : HasHalf kept is_first after (written writes row)
  pub other : half_in kept.cache.table (not is_first) (written writes row) ≡ half_in kept.cache.table (not is_first) row

-- A leg of a process is remembered, and stays within the half in which the process stands, in each row that has the half from which it is a move.
pub record IsMove (r : Tables) (kept : States) (e : Move) : Type 0 where
  pub there : e.before < length kept.lists.ends.items
  pub rising : e.leg.from ≤ e.leg.to
  pub within : e.leg.to ≤ length kept.moves.writes.items
  pub places : List ℕ
  pub numbers : List ℕ
  pub leg : IsRemembered kept.cache.store kept.cache.table r kept.discipline e.process places numbers e.leg.leg (option_to_list e.leg.shown) (writes_of kept.moves.writes.items e.leg)
  pub stays : (row : List ℕ) → HasHalf kept (is_in_first kept.cache.table e.process) e.before row → StaysWithin kept (is_in_first kept.cache.table e.process) places numbers (writes_of kept.moves.writes.items e.leg) e.is_still e.after row

-- each move that is known is one
abbrev pub AreMoves : Tables → States → Type 0
AreMoves r kept = All (IsMove r kept) kept.moves.moves.items

-- ---- a move in use

-- a move that is known, and is that of a process in the state of a row with these numbers; no monitor is pending there, and the leg has at most so many steps
pub record Suits (kept : States) (steps process : ℕ) (numbers row : List ℕ) (e : Move) : Type 0 where
  pub at : ℕ
  pub among : slice_get kept.moves.moves.items at ≡ Some e
  pub its : e.process ≡ process
  pub half : e.before ≡ number_at numbers (half_position (is_in_first kept.cache.table process))
  pub free : number_at row kept.cache.table.processes ≡ 0
  pub short : e.leg.leg.steps ≤ steps

-- the places of a number
abbrev pub places_at : LegCache → (scope : ℕ) → List ℕ
places_at c scope = piece_at c.legs.effects.scopes.items.items c.legs.effects.scopes.ends.items scope

-- a leg that is known is that of a process in the machines of a row, and touched the places of this number
pub record IsLegAt (r : Tables) (discipline : Discipline) (c : LegCache) (row : List ℕ) (process scope : ℕ) (e : KnownLeg) : Type 0 where
  pub rising : e.from ≤ e.to
  pub within : e.to ≤ length c.legs.effects.writes.items
  pub is : IsRemembered c.store c.table r discipline process (places_at c scope) (numbers_at c.table (places_at c scope) row) e.leg (option_to_list e.shown) (writes_of c.legs.effects.writes.items e)

-- a choice of a machine in which nothing is pending is one leg of at most so many steps, after which a choice is due, in a machine with this row
pub record IsOneLeg (r : Tables) (discipline : Discipline) (s : PartStore) (t : PlaceTable) (steps : ℕ) (m : Machine) (pid : ℕ) (before : List Shown) (row : List ℕ) (shown : List Shown) : Type 0 where
  pub free : is_pending m ≡ false
  pub rest : ℕ
  pub made : MakesLeg r discipline s t m pid steps before Due rest row shown
