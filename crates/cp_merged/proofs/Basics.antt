-- Scores of outcomes, and lists of tallies that are apart and in order.
use Rattle.std.specs.Prelude.{◌≡◌, ◌+◌, ℕ, List, [], ◌∷◌, true, false, Option, None, Some, if◌then◌else◌}
use Rattle.cp_merged.proofs.Words.{Outcome, System, Line, table, Tally, Sameness, up_to, lesser}
use Rattle.std.specs.List.{AllByRecursion as Each}

-- what is known of an outcome: how many rows have it, and the first of their words in dictionary order
pub record Score : Type 0 where
  pub count : ℕ
  pub first : List ℕ

abbrev pub joined : Score → Score → Score
joined a b = record { count = a.count + b.count; first = lesser a.first b.first }

abbrev pub plus : Option Score → Option Score → Option Score
plus None b = b
plus (Some a) None = Some a
plus (Some a) (Some b) = Some (joined a b)

abbrev pub score : Sameness → Outcome → List Line → Option Score
score same o [] = None
score same o (l ∷ ls) = plus (if same l.outcome o then Some (record { count = 1; first = l.word }) else None) (score same o ls)

abbrev pub score_in : Sameness → Outcome → List Tally → Option Score
score_in same o [] = None
score_in same o (t ∷ ts) = plus (if same t.first.outcome o then Some (record { count = t.count; first = t.first.word }) else None) (score_in same o ts)

-- no tally comes before one that stands before it
abbrev pub Ordered : List Tally → Type 0
Ordered [] = Unit {0}
Ordered (t ∷ ts) = Each (λ u. up_to t.first.word u.first.word ≡ true) ts × Ordered ts

-- no two tallies are of one outcome
abbrev pub Apart : Sameness → List Tally → Type 0
Apart same [] = Unit {0}
Apart same (t ∷ ts) = Each (λ u. same t.first.outcome u.first.outcome ≡ false) ts × Apart same ts

-- the outcomes of a table, each once, in the order of their first words
pub record Tells {S : Type 0} (sys : System S) (same : Sameness) (choices steps : ℕ) (ts : List Tally) : Type 0 where
  pub ordered : Ordered ts
  pub apart : Apart same ts
  pub scores : (o : Outcome) → score_in same o ts ≡ score same o (table sys choices steps)
