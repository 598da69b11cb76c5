-- The ends at which all wait that are met by going on once more from the states that a search of ends found.
use Rattle.std.specs.Prelude.{◌≡◌, ◌⊎◌, ◌<◌, ◌∷◌, ◌++◌, ℕ, List, [], Option, None, Some, Bool, true, Contains, if◌then◌else◌, length, nat_le, slice_get}
use Rattle.cp_slots.specs.Tables.{Tables}
use Rattle.cp_machine.specs.System.{Machine}
use Rattle.cp_machine.specs.declared.discipline.Discipline.{Discipline}
use Rattle.cp_run.specs.Run.{Node, may, chosen, opened}
use Rattle.cp_ends.specs.Firsts.{Within}
use Rattle.cp_ends.specs.Holds.{Holds, SlotFindings}
use Rattle.cp_ends.specs.declared.found.Found.{Found}
use Rattle.cp_endless_laws.specs.Silent.{silent_slots, waits_on_slots}
use Rattle.cp_waiting_ends.specs.Ending.{EndsWaiting}
use Rattle.cp_waiting_ends.specs.Waiting.{WaitsSo, ends_seen, ends_words, entry_seen, waits_at}
use Rattle.cp_waiting_ends.specs.declared.ends.WaitingEnds.{WaitingEnds}

-- who waits, by a word
abbrev pub EndsSo : Tables → Discipline → ℕ → WaitsSo → List ℕ → Type 0
EndsSo r discipline steps w word = EndsWaiting (silent_slots r discipline) waits_on_slots steps w word

-- of words of any length, or, where a search stopped at the state of this number, of those that are as long as its word
abbrev pub Looked : List (Machine × List ℕ) → Option ℕ → (WaitsSo → List ℕ → Type 0) → WaitsSo → List ℕ → Type 0
Looked states None P = P
Looked states (Some at) P = λ w word. ((x : Machine × List ℕ) × (slice_get states at ≡ Some x) × Within (length x.1) P w word)

-- each has a word that was looked at and leads there, and each end to which such a word leads is among them
pub record AreEndsOf (r : Tables) (discipline : Discipline) (steps : ℕ) (states : List (Machine × List ℕ)) (stopped : Option ℕ) (ends : WaitingEnds) : Type 0 where
  pub each : (e : _) → Contains ends.known.entries e → Looked states stopped (EndsSo r discipline steps) (entry_seen e) e.1.items
  pub all : (w : WaitsSo) (word : List ℕ) → Looked states stopped (EndsSo r discipline steps) w word → (e : _) × Contains ends.known.entries e × (entry_seen e ≡ w)

-- ---- in the code

-- words of any length are looked at, or those of at most so many numbers
abbrev pub is_looked_at : Option ℕ → List ℕ → Bool
is_looked_at None word = true
is_looked_at (Some most) word = nat_le (length word) most

-- what is noted of a node to which this word leads
abbrev pub seen_at : Tables → Discipline → Option ℕ → List ℕ → Node Machine → List WaitsSo
seen_at r discipline looked word node = if is_looked_at looked word then waits_at (silent_slots r discipline) waits_on_slots node else []

-- an end that is met by a word
abbrev pub IsMet : Tables → Discipline → (steps : ℕ) → Option ℕ → List (Machine × List ℕ) → WaitsSo → List ℕ → Type 0
IsMet r discipline steps looked states w word =
    ((word ≡ []) × Contains (seen_at r discipline looked word (opened (silent_slots r discipline) steps)) w)
    ⊎ ((i : ℕ) × (x : Machine × List ℕ) × (p : ℕ) × (slice_get states i ≡ Some x) × (may (silent_slots r discipline) x.0 p ≡ true) × (word ≡ x.1 ++ p ∷ []) × Contains (seen_at r discipline looked word (chosen (silent_slots r discipline) steps x.0 p)) w)

-- from these states all of these numbers were taken
pub record HasMet (r : Tables) (discipline : Discipline) (steps : ℕ) (looked : Option ℕ) (states : List (Machine × List ℕ)) (is_done : ℕ → ℕ → Type 0) (ends : WaitingEnds) : Type 0 where
  pub begun : (w : WaitsSo) → Contains (seen_at r discipline looked [] (opened (silent_slots r discipline) steps)) w → Contains (ends_seen ends) w
  pub taken : (i : ℕ) (x : Machine × List ℕ) (p : ℕ) → slice_get states i ≡ Some x → may (silent_slots r discipline) x.0 p ≡ true → is_done i p → (w : WaitsSo) → Contains (seen_at r discipline looked (x.1 ++ p ∷ []) (chosen (silent_slots r discipline) steps x.0 p)) w → Contains (ends_seen ends) w
  pub each : (x : WaitsSo × List ℕ) → Contains (ends_words ends) x → IsMet r discipline steps looked states x.0 x.1

-- those of the states before this one
abbrev pub before : ℕ → ℕ → ℕ → Type 0
before n i p = i < n

-- and of this one these numbers
abbrev pub within : ℕ → List ℕ → ℕ → ℕ → Type 0
within at done i p = (i < at) ⊎ ((i ≡ at) × Contains done p)

-- the same, whatever the findings of the code are
abbrev pub Met : Tables → Discipline → (steps : ℕ) → Found → Option ℕ → (is_done : ℕ → ℕ → Type 0) → WaitingEnds → Type 0
Met r discipline steps found looked is_done ends = (f : SlotFindings) → Holds r found f → HasMet r discipline steps looked f.states is_done ends
