-- A stretch that is seen to repeat goes on for ever, alone or spinning, and not both.
use Rattle.std.proofs.Common.{◌≡◌, inl, inr, ◌∙◌, ◌+◌, ℕ, suc, List, [], ◌∷◌, ◌++◌, Some, refl, sym, ap, subst, arith}
use Rattle.cp_endless_laws.proofs.Words.{Each, System, Choosing, opened, AnyOf, stretch_moments, node_after, IsRound, SetsOut, chosen_spot, spot_after, some_same}
use Rattle.cp_endless_laws.specs.Repeats.{CallsAt, Repeats, RepeatsLaw}
use Rattle.cp_endless_laws.proofs.steps.Alone.{alone}
use Rattle.cp_endless_laws.proofs.steps.Rounds.{happens_early}

last_same : (u v : List ℕ) (a b : ℕ) → u ++ a ∷ [] ≡ v ++ b ∷ [] → (u ≡ v) × (a ≡ b)
last_same [] [] a b e = (refl, cc)
last_same [] (y ∷ []) a b e = absurd (cc)
last_same (x ∷ []) [] a b e = absurd (cc)
last_same (x ∷ u) (y ∷ v) a b e =
    let heads : x ≡ y = cc in
    let rest = last_same u v a b (cc) in
    (ap (λ k. k ∷ u) heads ∙ ap (λ w. y ∷ w) rest.0, rest.1)
last_same x y a b e = absurd (cc)

not_empty : (u : List ℕ) (a : ℕ) → [] ≡ u ++ a ∷ [] → ⊥
not_empty [] a e = cc
not_empty (x ∷ u) a e = cc

choosing_same : {S : Type 0} (s t : S) → Some (Choosing s) ≡ Some (Choosing t) → s ≡ t
choosing_same s t e = cc

pub none_of : {A : Type 0} (P : A → Type 0) (xs : List A) → Each (λ x. P x → ⊥) xs → AnyOf P xs → ⊥
none_of P [] e a = a
none_of P (x ∷ xs) e (inl p) = e.0 p
none_of P (x ∷ xs) e (inr a) = none_of P xs e.1 a

module _ {S : Type 0} (sys : System S) (steps : ℕ) where
  abbrev Same : S × ℕ → S × ℕ → Type 0
  Same x y = x ≡ y

  -- a stretch begins in one state, by one process
  sets_out_once : (word : List ℕ) (s t : S) (p q : ℕ) → SetsOut sys steps word s p → SetsOut sys steps word t q → Same (s, p) (t, q)
  sets_out_once word s t p q (inl x) (inl y) = some_same (s, p) (t, q) (sym x.1 ∙ y.1)
  sets_out_once word s t p q (inl x) (inr y) = absurd (not_empty y.0 y.1 (sym x.0 ∙ y.3))
  sets_out_once word s t p q (inr x) (inl y) = absurd (not_empty x.0 x.1 (sym y.0 ∙ x.3))
  sets_out_once word s t p q (inr x) (inr y) =
      let ends = last_same x.0 y.0 x.1 y.1 (sym x.3 ∙ y.3) in
      let state = choosing_same x.2 y.2 (sym x.4 ∙ ap (λ w. node_after sys steps (opened sys steps) w) ends.0 ∙ y.4) in
      some_same (s, p) (t, q) (sym x.6 ∙ ap (λ u. chosen_spot sys u x.1) state ∙ ap (λ c. chosen_spot sys y.2 c) ends.1 ∙ y.6)

  round_of : (s : S) (p : ℕ) → Repeats sys steps s p → IsRound sys s p
  round_of s p r = record { before = steps; state = r.state; process = r.process; comes = r.comes; after = r.after; returns = r.returns }

  -- the part that repeats begins where all begin that repeat from there
  same_spot : (s t : S) (p q : ℕ) → Same (s, p) (t, q) → (a : Repeats sys steps s p) (b : Repeats sys steps t q) → Same (a.state, a.process) (b.state, b.process)
  same_spot s t p q e a b = some_same (a.state, a.process) (b.state, b.process) (sym a.comes ∙ ap (λ (x : S × ℕ). spot_after sys steps x.0 x.1) e ∙ b.comes)

  -- a kernel call of the one is one of the other
  calls_too : (s t : S) (p q : ℕ) → Same (s, p) (t, q) → (a : Repeats sys steps s p) (b : Repeats sys steps t q) → AnyOf (CallsAt sys) (stretch_moments sys (suc a.after) a.state a.process) → AnyOf (CallsAt sys) (stretch_moments sys (suc b.after) b.state b.process)
  calls_too s t p q e a b calls =
      let there = subst (λ (x : S × ℕ). AnyOf (CallsAt sys) (stretch_moments sys (suc a.after) x.0 x.1)) (same_spot s t p q e a b) calls in
      subst (λ n. AnyOf (CallsAt sys) (stretch_moments sys n b.state b.process)) (none (suc b.after))
      (happens_early sys b.state b.process (record { before = 0; state = b.state; process = b.process; comes = refl; after = b.after; returns = b.returns }) (CallsAt sys) (suc a.after) there)
    where
      none : (n : ℕ) → 0 + n ≡ n
      none n = omega arith

pub repeating : {S : Type 0} (sys : System S) → RepeatsLaw sys
repeating {S} sys =
    record {
      alone = λ steps word q x more. alone sys steps word x.begin x.first x.sets_out (round_of sys steps x.begin x.first x.repeats) more;
      spins = λ steps word q x more. alone sys steps word x.begin x.first x.sets_out (round_of sys steps x.begin x.first x.repeats) more;
      not_both = λ steps word q r x y.
          none_of (CallsAt sys) (stretch_moments sys (suc y.repeats.after) y.repeats.state y.repeats.process) y.calls_none
          (calls_too sys steps x.begin y.begin x.first y.first (sets_out_once sys steps word x.begin y.begin x.first y.first x.sets_out y.sets_out) x.repeats y.repeats x.calls);
      one_alone = λ steps word q r x y. sym x.is ∙ ap (λ (z : S × ℕ). z.1) (same_spot sys steps x.begin y.begin x.first y.first (sets_out_once sys steps word x.begin y.begin x.first y.first x.sets_out y.sets_out) x.repeats y.repeats) ∙ y.is;
      one_spins = λ steps word q r x y. sym x.is ∙ ap (λ (z : S × ℕ). z.1) (same_spot sys steps x.begin y.begin x.first y.first (sets_out_once sys steps word x.begin y.begin x.first y.first x.sets_out y.sets_out) x.repeats y.repeats) ∙ y.is;
    }
