-- What was found of a process is its line, or lets it be left open.
use Rattle.std.proofs.Common.{◌≡◌, ◌<◌, ℕ, Bool, true, false, List, Option, None, Some, IfSome, Result, IfOk, inl, sym, subst, arith}
use Rattle.std.specs.Bool.{MatchBool}
use Rattle.std.proofs.lemmas.Result.{IfOk-weaker}
use Rattle.cp_waits.proofs.Words.{Edge, Graph, HasTraps, keeps, has, rank_in, passed_over_in, ForGood}
use Rattle.cp_ends.specs.declared.states.States.{States}
use Rattle.cp_waits.specs.declared.components.EdgeComponents.{EdgeComponents}
use Rattle.cp_waits.specs.declared.passing.Keeping.{Keeping}
use Rattle.cp_waits.specs.declared.passing.Keeping.TheVariants as keeping
use Rattle.cp_waits.specs.declared.passing.PassingSets.{PassingSets}
use Rattle.cp_waits.specs.declared.waiting.How.{How}
use Rattle.cp_waits.specs.declared.waiting.How.TheVariants.{Throughout, InItsCall}
use Rattle.cp_waits.specs.declared.waiting.Waiting.{Waiting}
use Rattle.cp_waits.specs.Lines.{HasRanks, IsLine, IsShown, IsUnservedOn, LeavesNobodyOn, NeverWaits, ShowsRound}
use Rattle.cp_waits.specs.Ranks.{AreRanks, IsPassedOver}

-- ---- lines

module _ (g : Graph) (states : States) (q : ℕ) where
  pub throughout : (line : Waiting) → (line.process ≡ q) × (line.how ≡ Throughout) × ShowsRound g states (keeping.Waiting q) line → IsLine g states q line
  throughout line h = (h.0, subst (λ (how : How). IsShown g states line how) (sym h.1) (subst (λ p. ShowsRound g states (keeping.Waiting p) line) (sym h.0) h.2))

  pub round_good : HasTraps g (keeping.Waiting q) → (line : Waiting) → (line.process ≡ q) × (line.how ≡ ForGood) × ShowsRound g states (keeping.Waiting q) line → IsLine g states q line
  round_good traps line h = (
    h.0,
    subst (λ (how : How). IsShown g states line how) (sym h.1) (inl (subst (λ p. ShowsRound g states (keeping.Waiting p) line) (sym h.0) h.2), subst (λ p. HasTraps g (keeping.Waiting p)) (sym h.0) traps),
  )

  pub in_its_call : NeverWaits g q → (line : Waiting) → (line.process ≡ q) × (line.how ≡ InItsCall) × ShowsRound g states (keeping.Inside q) line → IsLine g states q line
  in_its_call never line h = (
    h.0,
    subst (λ (how : How). IsShown g states line how) (sym h.1) (subst (λ p. ShowsRound g states (keeping.Inside p) line) (sym h.0) h.2, subst (λ p. NeverWaits g p) (sym h.0) never),
  )

  pub found_line : {E : Type 0} (P : Waiting → Type 0) → ((line : Waiting) → P line → IsLine g states q line) → (result : Result (Option Waiting) E) → IfOk result (λ found. IfSome found P) → IfOk result (λ found. IfSome found (IsLine g states q))
  found_line P f result h = IfOk-weaker result (λ found. IfSome found P) (λ found. IfSome found (IsLine g states q)) (λ found k. weaker found k) h
    where
      weaker : (found : Option Waiting) → IfSome found P → IfSome found (IsLine g states q)
      weaker None k = tt
      weaker (Some line) k = f line k

-- ---- who is left unserved

-- all states have one rank, and this process is passed over
pub one_rank : (g : Graph) (keeping : Keeping) (p : ℕ) (parts : EdgeComponents) → ((i : ℕ) → rank_in parts i ≡ 0) → passed_over_in parts 0 ≡ Some p → p < g.processes → IsUnservedOn g keeping p → AreRanks g keeping (rank_in parts) (passed_over_in parts)
one_rank g keeping p parts one who less unserved = λ i e edge j keeps to. (
  (let here = one i in let there = one j in omega (arith, here, there)),
  λ same. subst (λ n. IsPassedOver g.processes keeping (passed_over_in parts n) e.passing) (sym (one i)) (subst (λ (o : Option ℕ). IsPassedOver g.processes keeping o e.passing) (sym who) (less, unserved i e edge j keeps to)),
)

pub ranks_of : (g : Graph) (keeping : Keeping) (b : Bool) → MatchBool b (HasRanks g keeping) (LeavesNobodyOn g keeping) → b ≡ true → HasRanks g keeping
ranks_of g keeping true h is = h
ranks_of g keeping false h is = absurd (cc)

pub nobody_of : (g : Graph) (keeping : Keeping) (b : Bool) → MatchBool b (HasRanks g keeping) (LeavesNobodyOn g keeping) → b ≡ false → LeavesNobodyOn g keeping
nobody_of g keeping true h is = absurd (cc)
nobody_of g keeping false h is = h
