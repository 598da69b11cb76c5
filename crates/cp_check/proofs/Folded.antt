-- What a fold shows of terms and factors in pairs.
use Rattle.cp_check.proofs.Words.{◌≡◌, rules, factor_view, term_view, sum_view, factors_of, factors_view, terms_of, terms_view}
use Rattle.cp_tree.specs.declared.expression.Term as tree_term
use Rattle.cp_tree.specs.declared.expression.Sum as tree_sum
use Rattle.cp_tree.specs.declared.expression.FactorKind.{the_lemmas}
use Rattle.cp_tree.specs.Syntax.{term, sum}

pub term_shown : (t : tree_term.Term) → term_view t ≡ term (tree_term.out-Term t).at (factor_view (tree_term.out-Term t).first) (factors_of (factors_view (tree_term.out-Term t).more.items))
term_shown t = search (rules, the_lemmas)

pub sum_shown : (t : tree_sum.Sum) → sum_view t ≡ sum (tree_sum.out-Sum t).at (tree_sum.out-Sum t).sign (term_view (tree_sum.out-Sum t).first) (terms_of (terms_view (tree_sum.out-Sum t).more.items))
sum_shown t = search (rules, the_lemmas)
