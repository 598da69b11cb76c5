-- Which words lead to the states of a layer, and to what is noted.
use Rattle.std.specs.Prelude.{◌≡◌, ◌≤◌, ◌⊎◌, ℕ, zero, suc, List, [], ◌∷◌, ◌++◌, true, Contains, length, map}
use Rattle.cp_machine.specs.Machine.{Machine}
use Rattle.cp_run.specs.System.{System}
use Rattle.cp_run.specs.Run.{Choosing, may, chosen, opened}
use Rattle.cp_key.specs.declared.state_key.StateKey.{StateKey}
use Rattle.cp_layers.specs.Layers.{IsKeyOf}
use Rattle.cp_layers.specs.Marking.{Marking}

-- this word of so many choices leads to a due choice in this state
abbrev pub IsDueBy : System Machine → (steps d : ℕ) → List ℕ → Machine → Type 0
IsDueBy sys steps zero word m = (word ≡ []) × (opened sys steps ≡ Choosing m)
IsDueBy sys steps (suc d) word m = (l : Machine) × (p : ℕ) × (before : List ℕ) × (word ≡ before ++ p ∷ []) × IsDueBy sys steps d before l × (may sys l p ≡ true) × (chosen sys steps l p ≡ Choosing m)

-- to one that has this key
abbrev pub LeadsToKey : System Machine → (steps d : ℕ) → List ℕ → StateKey → Type 0
LeadsToKey sys steps d word key = (m : Machine) × IsDueBy sys steps d word m × IsKeyOf key m

-- for each key there is a word of d choices that leads there, one behind the other
abbrev pub AreWords : System Machine → (steps d : ℕ) → List StateKey → List ℕ → Type 0
AreWords sys steps d [] words = words ≡ []
AreWords sys steps d (key ∷ keys) words = (word : List ℕ) × (others : List ℕ) × (words ≡ word ++ others) × LeadsToKey sys steps d word key × AreWords sys steps d keys others

-- the stretch to which this word leads comes to the mark: the one before the first choice, or the one after the last choice of the word
abbrev pub IsReachedBy : {A : Type 0} → Marking A → System Machine → ℕ → List ℕ → A → Type 0
IsReachedBy marking sys steps word mark =
    ((word ≡ []) × Contains marking.opened mark) ⊎ ((d : ℕ) × (m : Machine) × (p : ℕ) × (before : List ℕ) × (word ≡ before ++ p ∷ []) × IsDueBy sys steps d before m × (may sys m p ≡ true) × Contains (marking.chosen m p) mark)

-- each of these words, of at most so many choices, leads to its mark
abbrev pub AreLeading : {A : Type 0} → Marking A → System Machine → (steps choices : ℕ) → List (A × List ℕ) → Type 0
AreLeading marking sys steps choices words = (x : _) → Contains words x → IsReachedBy marking sys steps x.1 x.0 × (length x.1 ≤ choices)

-- each of these marks with this word
abbrev pub with_word : {A : Type 0} → List ℕ → List A → List (A × List ℕ)
with_word word marks = map (λ mark. (mark, word)) marks

-- ---- in a search

-- the layer of d choices has its words, and so have the marks of at most so many choices
pub record KnowsWords {A : Type 0} (marking : Marking A) (sys : System Machine) (steps d : ℕ) (keys : List StateKey) (words : List ℕ) (kept : List (A × List ℕ)) : Type 0 where
  pub layer : AreWords sys steps d keys words
  pub marks : AreLeading marking sys steps d kept

-- so has the layer after it
pub record HasWords {A : Type 0} (marking : Marking A) (sys : System Machine) (steps d : ℕ) (keys : List StateKey) (words : List ℕ) (next_keys : List StateKey) (next_words : List ℕ) (kept : List (A × List ℕ)) : Type 0 where
  pub layer : AreWords sys steps d keys words
  pub next : AreWords sys steps (suc d) next_keys next_words
  pub marks : AreLeading marking sys steps (suc d) kept
