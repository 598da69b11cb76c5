-- What the findings of the code stand for.
use Rattle.std.specs.Prelude.{◌≡◌, ◌<◌, ℕ, List, [], ◌∷◌, ◌++◌, map, All, Option, None, Some, Bool, true, false, nat_eq, slice_get}
use lib.Pointwise.{pointwise}
use Rattle.cp_slots.specs.Tables.{Tables}
use Rattle.cp_key.specs.Key.{key_of}
use Rattle.cp_key.specs.Room.{IsMachineOf}
use Rattle.cp_machine.specs.declared.shown.Shown.{Shown}
use Rattle.cp_machine.specs.System.{Machine}
use Rattle.cp_ends.specs.Graph.{Arrival}
use Rattle.cp_ends.specs.Searched.{Findings, has}
use Rattle.cp_ends.specs.declared.end.End.{End}
use Rattle.cp_ends.specs.declared.found.Found.{Found}
use Rattle.cp_ends.specs.declared.found.FoundEnd.{FoundEnd}
use Rattle.cp_ends.specs.declared.found.FoundValue.{FoundValue}
use Rattle.cp_ends.specs.declared.origin.Origin.{Origin}
use Rattle.cp_ends.specs.declared.origin.Origin.TheVariants.{Start, Choice}
use Rattle.cp_ends.specs.declared.states.States.{States}
use Rattle.cp_stretches.specs.Cached.{IsCache, IsStanding}
use Rattle.cp_ends.specs.Moves.{AreMoves}
use Rattle.cp_ends.specs.Rows.{IsHalvedRow}
use Rattle.cp_ends.specs.declared.row.HalvedRow.{HalvedRow}

-- whether two machines have one key
unfoldable pub same_key : Machine → Machine → Bool
same_key m n = pointwise nat_eq (key_of m) (key_of n)

-- the word that an origin stands for, by the words of the states
abbrev pub IsWordOf : List (Machine × List ℕ) → Origin → List ℕ → Type 0
IsWordOf states Start word = word ≡ []
IsWordOf states (Choice at number) word = (x : Machine × List ℕ) × (slice_get states at ≡ Some x) × (word ≡ x.1 ++ number ∷ [])

-- an origin speaks of a state before the one of this number
abbrev pub IsBefore : ℕ → Origin → Type 0
IsBefore n Start = Unit {0}
IsBefore n (Choice at number) = at < n

-- the origin of the state of this number
abbrev pub origin_or : Option (HalvedRow × Origin) → Origin
origin_or None = Start
origin_or (Some e) = e.1

abbrev pub origin_at : List (HalvedRow × Origin) → ℕ → Origin
origin_at entries at = origin_or (slice_get entries at)

-- whether there is a state of this number, which is this machine
abbrev pub IsAt : List (Machine × List ℕ) → ℕ → Bool → Machine → Type 0
IsAt states at true m = (x : Machine × List ℕ) × (slice_get states at ≡ Some x) × (m ≡ x.0)
IsAt states at false m = slice_get states at ≡ None

-- the state of this number is this machine, or none is
abbrev pub IsNumberOf : List (Machine × List ℕ) → Machine → Option ℕ → Type 0
IsNumberOf states m (Some at) = (x : Machine × List ℕ) × (slice_get states at ≡ Some x) × (x.0 ≡ m)
IsNumberOf states m None = has same_key states m ≡ false

-- the entries are the rows of the states
abbrev pub AreRows : States → List (HalvedRow × Origin) → List (Machine × List ℕ) → Type 0
AreRows kept [] [] = Unit {0}
AreRows kept [] (x ∷ xs) = ⊥
AreRows kept (e ∷ es) [] = ⊥
AreRows kept (e ∷ es) (x ∷ xs) = IsHalvedRow kept e.0.numbers x.0 × AreRows kept es xs

-- what the code keeps are the states, each with its word
pub record AreStates (r : Tables) (kept : States) (states : List (Machine × List ℕ)) : Type 0 where
  pub cached : IsCache r kept.discipline kept.cache
  pub standing : IsStanding r kept.cache.store kept.cache.table kept.standing
  pub moves : AreMoves r kept
  pub rows : AreRows kept kept.known.entries states
  pub own : All (λ x. IsMachineOf r x.0) states
  pub quiet : All (λ x. x.0.output ≡ []) states
  pub ruled : All (λ x. x.0.discipline ≡ kept.discipline) states
  pub words : (i : ℕ) (e : HalvedRow × Origin) (x : Machine × List ℕ) → slice_get kept.known.entries i ≡ Some e → slice_get states i ≡ Some x → IsWordOf states e.1 x.1
  pub before : (i : ℕ) (e : HalvedRow × Origin) → slice_get kept.known.entries i ≡ Some e → IsBefore i e.1

-- things with their origins are things with their words
abbrev pub AreFound : {A : Type 0} → List (Machine × List ℕ) → List (A × Origin) → List (A × List ℕ) → Type 0
AreFound states [] [] = Unit {0}
AreFound states [] (f ∷ fs) = ⊥
AreFound states (e ∷ es) [] = ⊥
AreFound states (e ∷ es) (f ∷ fs) = (e.0 ≡ f.0) × IsWordOf states e.1 f.1 × AreFound states es fs

abbrev pub end_origin : FoundEnd → End × Origin
end_origin e = (e.end, e.origin)

abbrev pub value_origin : FoundValue → Shown × Origin
value_origin v = (v.value, v.origin)

-- states, ends and values, each with its word
abbrev pub SlotFindings : Type 0
SlotFindings = Findings Machine End Shown

abbrev pub SlotArrival : Type 0
SlotArrival = Arrival Machine End Shown

-- the findings of the code
pub record Holds (r : Tables) (found : Found) (f : SlotFindings) : Type 0 where
  pub states : AreStates r found.states f.states
  pub ends : AreFound f.states (map end_origin found.ends.items) f.ends
  pub values : AreFound f.states (map value_origin found.values.items) f.values

-- what the code found are some findings
abbrev pub HasFindings : Tables → Found → Type 0
HasFindings r found = (f : SlotFindings) × Holds r found f
