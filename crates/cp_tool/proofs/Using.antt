-- A run uses no more numbers than its word has.
use Rattle.std.proofs.Common.{◌≡◌, ℕ, zero, suc, ◌≤◌, true, false, if◌then◌else◌, List, [], ◌∷◌, length, arith, subst, sym}
use Rattle.cp_run.specs.System.{System}
use Rattle.cp_run.specs.Run.{Node, Halted, Choosing, Answer, Ended, Wants, NotReady, run_from, later, may, chosen}
use Rattle.cp_run.specs.Code.{answer_of}
use Rattle.cp_run.specs.declared.outcome.RunEnd.{RunEnd}
use Rattle.cp_run.specs.declared.outcome.RunEnd.TheVariants as end
use Rattle.cp_walk.specs.Rows.{UsedWithin}

abbrev pub UsesAtMost : ℕ → Answer → Type 0
UsesAtMost n (Ended outcome used) = used ≤ n
UsesAtMost n (Wants ready) = Unit {0}
UsesAtMost n (NotReady place) = Unit {0}

later_uses : (n : ℕ) (a : Answer) → UsesAtMost n a → UsesAtMost (suc n) (later a)
later_uses n (Ended outcome used) h = omega (arith, h)
later_uses n (Wants ready) h = tt
later_uses n (NotReady place) h = tt

pub uses_at_most : {S : Type 0} (sys : System S) (steps choices : ℕ) (word : List ℕ) (node : Node S) → UsesAtMost (length word) (run_from sys steps choices word node)
unfolding run_from
uses_at_most sys steps choices word (Halted kind s) = omega arith
uses_at_most sys steps zero word (Choosing s) = omega arith
uses_at_most sys steps (suc choices) [] (Choosing s) = tt
uses_at_most sys steps (suc choices) (p ∷ word) (Choosing s) =
    elim (may sys s p) as (λ b. UsesAtMost (suc (length word)) (if b then later (run_from sys steps choices word (chosen sys steps s p)) else NotReady 0)) [
      | true ↦ later_uses (length word) _ (uses_at_most sys steps choices word (chosen sys steps s p))
      | false ↦ tt
    ]

pub used_within : (e : RunEnd) (n : ℕ) (a : Answer) → answer_of e ≡ a → UsesAtMost n a → UsedWithin e n
used_within (end.Ended outcome used) n a e h = subst (UsesAtMost n) (sym e) h
used_within (end.Wants ready) n a e h = tt
used_within (end.NotReady place) n a e h = tt
