-- A graph whose edges have numbers, and what is met along its words.
use Rattle.std.specs.Prelude.{◌≡◌, ℕ, List, [], ◌∷◌, Bool, if◌then◌else◌, Option, None, Some, Contains}

-- where an edge leads
pub data Goal (S E : Type 0) : Type 0 where
  Place : S → Goal S E
  End : E → Goal S E

-- and the values that are shown on it
pub record Arrival (S E V : Type 0) : Type 0 where
  pub goal : Goal S E
  pub shown : List V

-- `below` bounds the numbers of edges; `may s p` says that place s has an edge of number p
pub record Graph (S E V : Type 0) : Type 0 where
  pub below : ℕ
  pub start : Arrival S E V
  pub may : S → ℕ → Bool
  pub on : S → ℕ → Arrival S E V

abbrev pub further : {S E V : Type 0} → Graph S E V → (Arrival S E V → Option (Arrival S E V)) → Goal S E → ℕ → Option (Arrival S E V)
further g next (End e) p = None
further g next (Place s) p = if g.may s p then next (g.on s p) else None

-- where a word arrives from an arrival, if it has all its edges
abbrev pub arrival_from : {S E V : Type 0} → Graph S E V → Arrival S E V → List ℕ → Option (Arrival S E V)
arrival_from g a [] = Some a
arrival_from g a (p ∷ word) = further g (λ b. arrival_from g b word) a.goal p

-- the word leads here from the start
abbrev pub ArrivesAt : {S E V : Type 0} → Graph S E V → List ℕ → Arrival S E V → Type 0
ArrivesAt g word a = arrival_from g g.start word ≡ Some a

-- the word leads to this place
abbrev pub LeadsToPlace : {S E V : Type 0} → Graph S E V → S → List ℕ → Type 0
LeadsToPlace {S} {E} {V} g s word = (a : Arrival S E V) × ArrivesAt g word a × (a.goal ≡ Place s)

-- the word leads to this end
abbrev pub LeadsToEnd : {S E V : Type 0} → Graph S E V → E → List ℕ → Type 0
LeadsToEnd {S} {E} {V} g e word = (a : Arrival S E V) × ArrivesAt g word a × (a.goal ≡ End e)

-- the last edge of the word shows this value
abbrev pub ShowsLast : {S E V : Type 0} → Graph S E V → V → List ℕ → Type 0
ShowsLast {S} {E} {V} g v word = (a : Arrival S E V) × ArrivesAt g word a × Contains a.shown v
