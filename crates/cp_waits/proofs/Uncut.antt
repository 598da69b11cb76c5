-- Where no end is at the limit of steps but such as are seen to go on for ever, whoever stands still does so in a stretch that is seen to repeat.
use Rattle.std.proofs.Common.{◌≡◌, inl, inr, ◌∙◌, ℕ, Bool, if◌then◌else◌, List, [], ◌∷◌, None, Some, true, sym, ap, subst}
use Rattle.cp_run.specs.declared.outcome.OutcomeKind.{OutcomeKind}
use Rattle.cp_run.specs.declared.outcome.OutcomeKind.TheVariants.{StepLimit}
use Rattle.cp_waits.proofs.Words.{System, Node, Choosing, chosen, opened, stretch, Repeats, StandsStillAfter}
use Rattle.cp_endless_laws.specs.Forgetting.{forgetting_system}
use Rattle.cp_endless_laws.specs.Reachable.{EndsAfter, node_after}
use Rattle.cp_endless_laws.specs.Rounds.{IsRound, SetsOut, chosen_spot, spot_after}
use Rattle.cp_endless_laws.specs.Standstill.{MayStandStill, StandsStill}
use Rattle.cp_endless_laws.proofs.possible.Words.{after_append}
use Rattle.cp_endless_laws.proofs.steps.Alone.{chosen_at, opened_spot}
use Rattle.cp_endless_laws.proofs.steps.Nodes.{cut_node}
use Rattle.cp_endless_laws.proofs.steps.Rounds.{cut_if_on, standstills, standstills_found}
use Rattle.cp_ends.specs.Ends.{EndsSo}
use Rattle.cp_ends.specs.Firsts.{AreFirsts}
use Rattle.cp_ends.specs.Named.{HasNoCut, kind_of}
use Rattle.cp_ends.specs.declared.end.End as code
use Rattle.cp_ends.specs.declared.end.End.TheVariants.{Over}
use Rattle.cp_ends.proofs.named.Kinds.{over_so}
use Rattle.cp_ends.proofs.words.Edges.{choosing_same, last_same, not_empty, some_same}

module _ {S : Type 0} (sys : System S) (steps : ℕ) where
  abbrev Same : S × ℕ → S × ℕ → Type 0
  Same x y = x ≡ y

  -- a stretch begins in one state, by one process
  sets_out_once : (word : List ℕ) (s t : S) (p q : ℕ) → SetsOut sys steps word s p → SetsOut sys steps word t q → Same (s, p) (t, q)
  sets_out_once word s t p q (inl x) (inl y) = some_same (s, p) (t, q) (sym x.1 ∙ y.1)
  sets_out_once word s t p q (inl x) (inr y) = absurd (not_empty y.0 y.1 (sym x.0 ∙ y.3))
  sets_out_once word s t p q (inr x) (inl y) = absurd (not_empty x.0 x.1 (sym y.0 ∙ x.3))
  sets_out_once word s t p q (inr x) (inr y) =
      let ends = last_same x.0 y.0 x.1 y.1 (sym x.3 ∙ y.3) in
      let state = choosing_same x.2 y.2 (sym x.4 ∙ ap (λ w. node_after sys steps (opened sys steps) w) ends.0 ∙ y.4) in
      some_same (s, p) (t, q) (sym x.6 ∙ ap (λ u. chosen_spot sys u x.1) state ∙ ap (λ c. chosen_spot sys y.2 c) ends.1 ∙ y.6)

  abbrev round_of : (s : S) (p : ℕ) → Repeats sys steps s p → IsRound sys s p
  round_of s p r = record { before = steps; state = r.state; process = r.process; comes = r.comes; after = r.after; returns = r.returns }

  -- a stretch that goes on is cut
  ends_cut : (word : List ℕ) (s : S) (p : ℕ) → SetsOut sys steps word s p → (spot_after sys steps s p ≡ None → ⊥) → EndsAfter sys steps word StepLimit
  ends_cut word s p (inl x) on =
      let c = cut_node (stretch sys steps s p) (cut_if_on sys steps s p on) in
      subst (λ (w : List ℕ). EndsAfter sys steps w StepLimit) (sym x.0) (c.0, ap (λ (y : Node S). Some y) (opened_spot sys steps s p x.1 ∙ c.1))
  ends_cut word s p (inr x) on =
      let c = cut_node (stretch sys steps s p) (cut_if_on sys steps s p on) in
      subst (λ (w : List ℕ). EndsAfter sys steps w StepLimit) (sym x.3) (
        c.0,
        after_append sys steps x.0 (x.1 ∷ []) (opened sys steps) (Choosing x.2) x.4
            ∙ ap (λ (b : Bool). if b then Some (chosen sys steps x.2 x.1) else None) x.5
            ∙ ap (λ (y : Node S). Some y) (chosen_at sys steps x.2 x.1 s p x.6 ∙ c.1),
      )

  module _ (waiting : S → ℕ → Bool) (q : ℕ) (word : List ℕ) where
    -- in the round of a stretch that is seen to repeat
    at_repeats : (x : MayStandStill sys waiting q steps word) (s : S) (p : ℕ) → SetsOut sys steps word s p → Repeats sys steps s p → StandsStillAfter sys waiting q steps word
    at_repeats x s p out r =
        let stands = subst (λ (y : S × ℕ). StandsStill sys waiting q y.0 y.1) (sets_out_once word x.begin s x.first p x.sets_out out) x.stands in
        record { begin = s; first = p; sets_out = out; repeats = r; still = standstills_found sys s p (round_of s p r) waiting q stands }

    -- and back
    pub may_stand : StandsStillAfter sys waiting q steps word → MayStandStill sys waiting q steps word
    may_stand x = record { begin = x.begin; first = x.first; sets_out = x.sets_out; stands = standstills sys x.begin x.first (round_of x.begin x.first x.repeats) waiting q x.still }

module _ {S : Type 0} (sys : System S) (forget : S → S) (eq : S → S → Bool) (steps : ℕ) (same : (s t : S) → eq s t ≡ true → s ≡ t) (self : (s : S) → eq s s ≡ true) (ends : List (code.End × List ℕ)) (all_ends : AreFirsts (EndsSo (forgetting_system sys forget) steps) ends) where
  abbrev quiet : System S
  quiet = forgetting_system sys forget

  pub stands_after : HasNoCut ends → (waiting : S → ℕ → Bool) (q : ℕ) (word : List ℕ) → MayStandStill quiet waiting q steps word → StandsStillAfter quiet waiting q steps word
  stands_after no_cut waiting q word x = let h = over_so sys forget eq steps same self word StepLimit (ends_cut quiet steps word x.begin x.first x.sets_out on) in by h.0 h.1 h.2
    where
      on : spot_after quiet steps x.begin x.first ≡ None → ⊥
      on none = let both = sym none ∙ x.stands.goes steps in cc

      by : (end : code.End) → kind_of end ≡ StepLimit → EndsSo quiet steps end word → StandsStillAfter quiet waiting q steps word
      by (Over kind) is so = let h = all_ends.all (Over StepLimit) word (subst (λ (k : OutcomeKind). EndsSo quiet steps (Over k) word) is so) in absurd (no_cut h.0 h.1)
      by _ is so = at_repeats quiet steps waiting q word x so.begin so.first so.sets_out so.repeats
