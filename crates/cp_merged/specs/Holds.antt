-- What the fronts of the code stand for.
use Rattle.std.specs.Prelude.{◌≡◌, ◌⊎◌, ◌+◌, ◌<◌, ℕ, Bool, List, [], ◌∷◌, length, map, nat_eq}
use lib.Pointwise.{pointwise}
use Rattle.cp_slots.specs.Tables.{Tables}
use Rattle.cp_machine.specs.System.{Machine}
use Rattle.cp_key.specs.Key.{key_of}
use Rattle.cp_key.specs.Room.{IsMachineOf}
use Rattle.cp_merged.specs.Known.{IsRowFor}
use Rattle.cp_walk.specs.Groups.{Tally}
use Rattle.cp_merged.specs.Layers.{Lead, Front}
use Rattle.cp_merged.specs.Code.{keyed, end_of}
use Rattle.cp_merged.specs.declared.end_key.EndKey.{EndKey}
use Rattle.cp_merged.specs.declared.fault.MergeFault.{MergeFault}
use Rattle.cp_merged.specs.declared.fault.MergeFault.TheVariants.{Memory, TooManyStates, TooManyOutcomes}
use Rattle.cp_merged.specs.declared.prefixes.Prefixes as code
use Rattle.cp_merged.specs.declared.known.KnownStates.{KnownStates}

-- whether two machines have one key
unfoldable pub same_key : Machine → Machine → Bool
same_key m n = pointwise nat_eq (key_of m) (key_of n)

-- a lead to a row is one to a machine of a program, whose row it is
pub record IsLeadTo (r : Tables) (known : KnownStates) (y : Lead (List ℕ)) (x : Lead Machine) : Type 0 where
  pub row : IsRowFor r known y.state x.state
  pub first : y.first ≡ x.first
  pub count : y.count ≡ x.count
  pub own : IsMachineOf r x.state

-- each of these leads
abbrev pub AreLeadsTo : Tables → KnownStates → List (Lead (List ℕ)) → List (Lead Machine) → Type 0
AreLeadsTo r known [] [] = Unit {0}
AreLeadsTo r known [] (x ∷ xs) = ⊥
AreLeadsTo r known (y ∷ ys) [] = ⊥
AreLeadsTo r known (y ∷ ys) (x ∷ xs) = IsLeadTo r known y x × AreLeadsTo r known ys xs

-- the entries of a layer are leads to machines of a program
abbrev pub AreLeads : Tables → KnownStates → List (List ℕ × code.Prefixes) → List (Lead Machine) → Type 0
AreLeads r known entries leads = AreLeadsTo r known (map keyed entries) leads

-- the entries are tallies, or there are too many of both
abbrev pub AreEnds : List (EndKey × code.Prefixes) → List Tally → Type 0
AreEnds entries tallies = (map end_of entries ≡ tallies) ⊎ ((50000 < length entries) × (50000 < length tallies))

-- the entries are a front
pub record Holds (r : Tables) (known : KnownStates) (ends : List (EndKey × code.Prefixes)) (states : List (List ℕ × code.Prefixes)) (f : Front Machine) : Type 0 where
  pub ended : AreEnds ends f.ended
  pub layer : AreLeads r known states f.layer

-- how many words lead to the states of a layer, and have ended
abbrev pub words_of : {S : Type 0} → List (Lead S) → ℕ
words_of [] = 0
words_of (x ∷ xs) = x.count + words_of xs

abbrev pub counts : List Tally → ℕ
counts [] = 0
counts (t ∷ ts) = t.count + counts ts

abbrev pub total : {S : Type 0} → Front S → ℕ
total f = counts f.ended + words_of f.layer

abbrev pub IsStates : MergeFault → Type 0 → Type 0
IsStates Memory P = Unit {0}
IsStates TooManyStates P = P
IsStates TooManyOutcomes P = ⊥
