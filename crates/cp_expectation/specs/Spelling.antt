-- Which words spell which expectations.
use Rattle.std.specs.Prelude.{◌≡◌, ◌⊎◌, ◌&&◌, ℕ, List, [], ◌∷◌, ◌++◌, Bool, true, false, Option, Some, None, codes, if◌then◌else◌}
use Rattle.cp_walk.specs.Text.{error_text}
use Rattle.cp_expectation.specs.Plain.{Item, Printed, Any, Who, End, Finished, AnyError, Error, AllWaiting, Alone, Spins, Topic, Ends, Displays, Waits, Expected}
use Rattle.cp_expectation.specs.Values.{SpellsValue, parenthesized}
use Rattle.cp_expectation.specs.Written.{claim_text, is_bare}

-- words, each by its bytes
abbrev pub Words : Type 0
Words = List (List ℕ)

-- ---- processes

-- A name of processes stands there itself, or in parentheses; only so if it could be taken for another word.
abbrev pub SpellsProcess : (word name : List ℕ) → Type 0
SpellsProcess word name = ((word ≡ name) × (is_bare name ≡ true)) ⊎ (word ≡ parenthesized name)

abbrev pub SpellsPerhaps : Words → Option (List ℕ) → Type 0
SpellsPerhaps ws None = ws ≡ []
SpellsPerhaps ws (Some name) = (word : List ℕ) × (ws ≡ word ∷ []) × SpellsProcess word name

-- a word for each process, one or more
abbrev pub SpellsProcesses : Words → List (List ℕ) → Type 0
SpellsProcesses ws [] = ⊥
SpellsProcesses ws (p ∷ []) = (word : List ℕ) × (ws ≡ word ∷ []) × SpellsProcess word p
SpellsProcesses ws (p ∷ q ∷ ps) = (word : List ℕ) × (others : Words) × (ws ≡ word ∷ others) × SpellsProcess word p × SpellsProcesses others (q ∷ ps)

-- behind them `..` where others may wait as well
abbrev pub SpellsWho : Words → Who → Type 0
SpellsWho ws who = (names : Words) × SpellsProcesses names who.processes × (ws ≡ names ++ (if who.others then codes ".." ∷ [] else []))

-- ---- ends

abbrev pub SpellsEnd : Words → End → Type 0
SpellsEnd ws Finished = ws ≡ codes "finished" ∷ []
SpellsEnd ws AnyError = ws ≡ codes "run-error" ∷ []
SpellsEnd ws (Error name) = ws ≡ codes "run-error" ∷ error_text name ∷ []
SpellsEnd ws (AllWaiting None) = ws ≡ codes "all-waiting" ∷ []
SpellsEnd ws (AllWaiting (Some who)) = (after : Words) × (ws ≡ codes "all-waiting" ∷ after) × SpellsWho after who
SpellsEnd ws (Alone process) = (after : Words) × (ws ≡ codes "alone" ∷ after) × SpellsPerhaps after process
SpellsEnd ws (Spins process) = (after : Words) × (ws ≡ codes "spins" ∷ after) × SpellsPerhaps after process

-- ---- outputs

abbrev pub SpellsItem : List ℕ → Item → Type 0
SpellsItem word (Printed value) = SpellsValue word value
SpellsItem word Any = word ≡ codes ".."

-- a word for each item
abbrev pub SpellsItems : Words → List Item → Type 0
SpellsItems [] [] = Unit {0}
SpellsItems (w ∷ ws) (i ∷ is) = SpellsItem w i × SpellsItems ws is
SpellsItems ws is = ⊥

-- a hyphen, or an item or more
abbrev pub SpellsOutput : Words → List Item → Type 0
SpellsOutput ws [] = ws ≡ codes "-" ∷ []
SpellsOutput ws (i ∷ is) = SpellsItems ws (i ∷ is)

-- ---- topics

abbrev pub SpellsTopic : Words → Topic → Type 0
SpellsTopic ws (Ends end None) = SpellsEnd ws end
SpellsTopic ws (Ends end (Some items)) = (first after : Words) × SpellsEnd first end × (ws ≡ first ++ codes "output" ∷ after) × SpellsOutput after items
SpellsTopic ws (Displays value) = (word : List ℕ) × (ws ≡ codes "shown" ∷ word ∷ []) × SpellsValue word value
SpellsTopic ws (Waits process) = (after : Words) × (ws ≡ codes "waiting" ∷ after) × SpellsPerhaps after process

-- a topic whose last word is an item of an output
abbrev pub ends_in_item : Topic → Bool
ends_in_item (Ends end (Some (i ∷ is))) = true
ends_in_item t = false

-- a topic whose first word is a value as well
abbrev pub begins_as_value : Topic → Bool
begins_as_value (Ends (Alone process) output) = true
begins_as_value (Ends (Spins process) output) = true
begins_as_value (Waits process) = true
begins_as_value t = false

abbrev pub needs_or : Topic → Topic → Bool
needs_or t u = ends_in_item t && begins_as_value u

-- a topic or more, with or without `or` between two; with it, where the next one's first word would be another value
abbrev pub SpellsTopics : Words → List Topic → Type 0
SpellsTopics ws [] = ⊥
SpellsTopics ws (t ∷ []) = SpellsTopic ws t
SpellsTopics ws (t ∷ u ∷ ts) =
    (first others : Words) × SpellsTopic first t × SpellsTopics others (u ∷ ts) × (((ws ≡ first ++ others) × (needs_or t u ≡ false)) ⊎ (ws ≡ first ++ codes "or" ∷ others))

-- ---- expectations

abbrev pub SpellsOne : Words → Expected → Type 0
SpellsOne ws e = (after : Words) × (ws ≡ claim_text e.claim ∷ after) × SpellsTopics after e.topics

-- one or more of something, joined by `and`
abbrev pub SpellsJoined : {E : Type 0} → (Words → E → Type 0) → Words → List E → Type 0
SpellsJoined spells ws [] = ⊥
SpellsJoined spells ws (e ∷ []) = spells ws e
SpellsJoined spells ws (e ∷ f ∷ es) = (first others : Words) × spells first e × SpellsJoined spells others (f ∷ es) × (ws ≡ first ++ codes "and" ∷ others)

abbrev pub Spells : Words → List Expected → Type 0
Spells = SpellsJoined SpellsOne
