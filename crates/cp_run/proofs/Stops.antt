-- The state in which a run stops, number by number.
use Rattle.std.proofs.Common.{◌≡◌, ◌∙◌, ℕ, zero, suc, ◌+◌, true, false, if◌then◌else◌, List, [], ◌∷◌, ap, refl, arith}
use Rattle.std.proofs.lemmas.Bool.{eqb-true}
use Rattle.cp_run.specs.declared.outcome.Halt.{Halt}
use Rattle.cp_run.specs.declared.outcome.OutcomeKind.{OutcomeKind}
use Rattle.cp_run.specs.declared.outcome.Halt.TheVariants.{Choice, Ended as HasEnded}
use Rattle.cp_run.specs.Code.{node_of, is_over}
use Rattle.cp_run.specs.Run.{Choosing, may, chosen}
use Rattle.cp_run.specs.System.{System}
use Rattle.cp_run.specs.Stop.{last_state_from}

module _ {S : Type 0} (sys : System S) where
  pub stops_over : (steps k : ℕ) (word : List ℕ) (h : Halt OutcomeKind) (s : S) → is_over k h ≡ true → last_state_from sys steps k word (node_of h s) ≡ s
  unfolding last_state_from
  stops_over steps zero word Choice s e = refl
  stops_over steps (suc k) word Choice s e = absurd (omega (arith, eqb-true (suc k) 0 e))
  stops_over steps zero word (HasEnded kind) s e = refl
  stops_over steps (suc k) word (HasEnded kind) s e = refl

  pub stops_with_word : (steps k : ℕ) (word : List ℕ) (h : Halt OutcomeKind) (s : S) → word ≡ [] → last_state_from sys steps k word (node_of h s) ≡ s
  unfolding last_state_from
  stops_with_word steps zero word (HasEnded kind) s e = refl
  stops_with_word steps (suc k) word (HasEnded kind) s e = refl
  stops_with_word steps zero word Choice s e = refl
  stops_with_word steps (suc k) word Choice s e = ap (λ v. last_state_from sys steps (suc k) v (Choosing s)) e

  pub stops_refused : (steps k j p : ℕ) (word rest : List ℕ) (s : S) → k ≡ j + 1 → word ≡ p ∷ rest → may sys s p ≡ false → last_state_from sys steps k word (Choosing s) ≡ s
  unfolding last_state_from
  stops_refused steps k j p word rest s h e off =
      let m : k ≡ suc j = omega (arith, h) in
      ap (λ i. last_state_from sys steps i word (Choosing s)) m ∙ ap (λ v. last_state_from sys steps (suc j) v (Choosing s)) e ∙ ap (λ b. if b then last_state_from sys steps j rest (chosen sys steps s p) else s) off

  pub stops_further : (steps k j p : ℕ) (word rest : List ℕ) (s : S) → k ≡ j + 1 → word ≡ p ∷ rest → may sys s p ≡ true → last_state_from sys steps k word (Choosing s) ≡ last_state_from sys steps j rest (chosen sys steps s p)
  unfolding last_state_from
  stops_further steps k j p word rest s h e on =
      let m : k ≡ suc j = omega (arith, h) in
      ap (λ i. last_state_from sys steps i word (Choosing s)) m ∙ ap (λ v. last_state_from sys steps (suc j) v (Choosing s)) e ∙ ap (λ b. if b then last_state_from sys steps j rest (chosen sys steps s p) else s) on
