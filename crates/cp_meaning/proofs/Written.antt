-- Short words for writing a program as syntax.
use Rattle.cp_meaning.proofs.Words.{ℕ, List, None, Identifier, Expression, alone, sum, no_terms, term, no_factors, Factor}

abbrev pub named_at : ℕ → List ℕ → Identifier
named_at at x = record { at = at; name = x }

-- an expression that is a factor alone
abbrev pub just : ℕ → Factor → Expression
just at f = alone at (sum at None (term at f no_factors) no_terms)
