-- Whether a run is over where its stretch halted.
use Rattle.std.proofs.Common.{◌≡◌, ℕ, zero, suc, ◌-◌, ◌<◌, ◌≤◌, ◌⊎◌, ⊎_elim, true, false, List, [], ◌==◌, refl, sym, ◌∙◌, arith}
use Rattle.std.proofs.lemmas.Bool.{eq-eqb, ne_eqb, eqb-true, cases_order}
use Rattle.cp_run.specs.declared.outcome.Halt.{Halt}
use Rattle.cp_run.specs.declared.outcome.OutcomeKind.{OutcomeKind}
use Rattle.cp_run.specs.declared.outcome.Halt.TheVariants.{Choice, Ended as HasEnded}
use Rattle.cp_run.proofs.Words.{System, run_from}
use Rattle.cp_run.specs.Code.{node_of, is_over}

pub none_left : (choices used : ℕ) → used ≤ choices → (used == choices) ≡ (choices - used == 0)
none_left choices used le =
    ⊎_elim
    (λ (e : used ≡ choices). eq-eqb used choices e ∙ sym (eq-eqb (choices - used) 0 (omega (arith, e))))
    (λ (apart : (used < choices) ⊎ (choices < used)). ⊎_elim (λ (lt : used < choices). ne_eqb used choices (λ e. omega (arith, e, lt)) ∙ sym (ne_eqb (choices - used) 0 (λ e. omega (arith, e, lt)))) (λ (gt : choices < used). absurd (omega (arith, gt, le))) apart)
    (cases_order used choices)

-- an ended run uses no more of the word
pub over_run : {S : Type 0} (sys : System S) (steps k : ℕ) (word : List ℕ) (h : Halt OutcomeKind) (s : S) → is_over k h ≡ true → run_from sys steps k word (node_of h s) ≡ run_from sys steps k [] (node_of h s)
unfolding run_from
over_run sys steps zero word Choice s e = refl
over_run sys steps (suc k) word Choice s e = absurd (omega (arith, eqb-true (suc k) 0 e))
over_run sys steps zero word (HasEnded kind) s e = refl
over_run sys steps (suc k) word (HasEnded kind) s e = refl

pub not_over : (k : ℕ) (h : Halt OutcomeKind) → is_over k h ≡ false → h ≡ Choice
not_over k Choice e = refl
not_over k (HasEnded kind) e = absurd (cc)

pub some_left : (k : ℕ) (h : Halt OutcomeKind) → is_over k h ≡ false → 1 ≤ k
some_left zero Choice e = absurd (cc)
some_left (suc k) Choice e = omega arith
some_left k (HasEnded kind) e = absurd (cc)
