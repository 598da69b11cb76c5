-- A search through a graph: each place is expanded once, in the order in which places are found.
use Rattle.std.specs.Prelude.{◌≡◌, nat_lt, ℕ, zero, suc, List, [], ◌∷◌, ◌++◌, Bool, true, false, if◌then◌else◌, Option, None, Some, length, slice_get}
use Rattle.cp_ends.specs.Graph.{Goal, Place, End, Arrival, Graph}

-- what was found, each with the word that led to it
pub record Findings (S E V : Type 0) : Type 0 where
  pub states : List (S × List ℕ)
  pub ends : List (E × List ℕ)
  pub values : List (V × List ℕ)

abbrev pub nothing : {S E V : Type 0} → Findings S E V
nothing = record { states = []; ends = []; values = [] }

-- tests of whether two are the same, and how many values are kept
pub record Tests (S E V : Type 0) : Type 0 where
  pub state : S → S → Bool
  pub end : E → E → Bool
  pub value : V → V → Bool
  pub most : ℕ

-- whether it was found
abbrev pub has : {A : Type 0} → (A → A → Bool) → List (A × List ℕ) → A → Bool
has eq [] a = false
has eq (f ∷ fs) a = if eq f.0 a then true else has eq fs a

-- what is found again keeps its word
abbrev pub with_first : {A : Type 0} → (A → A → Bool) → List (A × List ℕ) → A → List ℕ → List (A × List ℕ)
with_first eq found a word = if has eq found a then found else found ++ (a, word) ∷ []

abbrev pub with_values : {V : Type 0} → (V → V → Bool) → ℕ → List (V × List ℕ) → List V → List ℕ → List (V × List ℕ)
with_values eq most found [] word = found
with_values eq most found (v ∷ shown) word = with_values eq most (if nat_lt (length found) most then with_first eq found v word else found) shown word

abbrev pub with_goal : {S E V : Type 0} → Tests S E V → Findings S E V → List ℕ → Goal S E → Findings S E V
with_goal t f word (Place s) = record f { states = with_first t.state f.states s word }
with_goal t f word (End e) = record f { ends = with_first t.end f.ends e word }

-- a word arrives
abbrev pub arrived : {S E V : Type 0} → Tests S E V → Findings S E V → List ℕ → Arrival S E V → Findings S E V
arrived t f word a = with_goal t (record f { values = with_values t.value t.most f.values a.shown word }) word a.goal

-- a place with its word is expanded with each edge of a number below n
abbrev pub gone_on : {S E V : Type 0} → Graph S E V → Tests S E V → S × List ℕ → ℕ → Findings S E V → Findings S E V
gone_on g t x zero f = f
gone_on g t x (suc n) f = if g.may x.0 n then arrived t (gone_on g t x n f) (x.1 ++ n ∷ []) (g.on x.0 n) else gone_on g t x n f

abbrev pub gone_on_from : {S E V : Type 0} → Graph S E V → Tests S E V → Option (S × List ℕ) → Findings S E V → Findings S E V
gone_on_from g t None f = f
gone_on_from g t (Some x) f = gone_on g t x g.below f

-- what is found when the first n places were expanded
unfoldable pub searched : {S E V : Type 0} → Graph S E V → Tests S E V → ℕ → Findings S E V
searched g t zero = arrived t nothing [] g.start
searched g t (suc n) = gone_on_from g t (slice_get (searched g t n).states n) (searched g t n)

-- the second list is the first with more at its end
abbrev pub Grows : {X : Type 0} → List X → List X → Type 0
Grows {X} xs ys = (more : List X) × (ys ≡ xs ++ more)
