-- Where a stretch stands, step by step.
use Rattle.std.proofs.Common.{◌≡◌, ◌∙◌, ℕ, zero, suc, ◌-◌, ◌+◌, ◌<◌, true, false, ap, refl, sym, arith}
use Rattle.cp_run.specs.declared.outcome.Turn.{Turn}
use Rattle.cp_run.specs.declared.outcome.Turn.TheVariants.{Over, Due, Goes}
use Rattle.cp_run.specs.Code.{IfGoes, halt_at, node_of}
use Rattle.cp_run.specs.Fold.{walked, walked_chosen, walked_opened}
use Rattle.cp_run.specs.Run.{node_at, settled_turn, stretch, turn_after, turn_at}
use Rattle.cp_run.specs.System.{System}

module _ {S : Type 0} (sys : System S) where
  one_step : (left : ℕ) (s : S) (p : ℕ) → walked sys (suc left) s (Goes p) ≡ walked sys left (sys.step s p) (turn_after sys (sys.step s p) p (sys.event s p))
  unfolding walked
  one_step left s p = refl

  moved : (left : ℕ) (s t : S) (p : ℕ) (turn : Turn) → t ≡ sys.step s p → turn ≡ turn_after sys t p (sys.event s p) → walked sys left (sys.step s p) (turn_after sys (sys.step s p) p (sys.event s p)) ≡ walked sys left t turn
  moved left s t p turn e h = rw (h, e) refl

  pub walked_on : (steps made : ℕ) (s t : S) (p : ℕ) (turn : Turn) → made < steps → t ≡ sys.step s p → turn ≡ turn_after sys t p (sys.event s p) → walked sys (steps - made) s (Goes p) ≡ walked sys (steps - (made + 1)) t turn
  walked_on steps made s t p turn lt e h =
      let n : steps - made ≡ suc (steps - (made + 1)) = omega (arith, lt) in
      ap (λ k. walked sys k s (Goes p)) n ∙ one_step (steps - (made + 1)) s p ∙ moved (steps - (made + 1)) s t p turn e h

  pub walked_up : (left : ℕ) (s : S) (turn : Turn) → IfGoes turn (λ q. left ≡ 0) → walked sys left s turn ≡ (s, turn)
  unfolding walked
  walked_up zero s turn none = refl
  walked_up (suc left) s (Over kind) none = refl
  walked_up (suc left) s Due none = refl
  walked_up (suc left) s (Goes q) none = absurd (omega (arith, none))

  -- it halts where it stands then
  pub walked_halts : (left : ℕ) (s : S) (turn : Turn) → node_at s (stretch sys left s) turn ≡ node_of (halt_at (walked sys left s turn).1) (walked sys left s turn).0
  unfolding walked stretch
  walked_halts zero s (Over kind) = refl
  walked_halts zero s Due = refl
  walked_halts zero s (Goes q) = refl
  walked_halts (suc left) s (Over kind) = refl
  walked_halts (suc left) s Due = refl
  walked_halts (suc left) s (Goes q) = walked_halts left (sys.step s q) (turn_after sys (sys.step s q) q (sys.event s q))

  pub halts_so : (left : ℕ) (s : S) (turn : Turn) (t : S) (next : Turn) → walked sys left s turn ≡ (t, next) → node_at s (stretch sys left s) turn ≡ node_of (halt_at next) t
  halts_so left s turn t next is = walked_halts left s turn ∙ ap (λ (w : S × Turn). node_of (halt_at w.1) w.0) is

  pub walked_opened_at : (steps : ℕ) (s : S) (turn : Turn) → s ≡ sys.start → turn ≡ turn_at sys s false 0 → walked_opened sys steps ≡ walked sys steps s turn
  unfolding walked_opened
  walked_opened_at steps s turn is at = ap (walked sys steps sys.start) (sym (at ∙ ap (λ x. turn_at sys x false 0) is)) ∙ ap (λ x. walked sys steps x turn) (sym is)

  pub walked_chosen_free : (steps : ℕ) (s : S) (p : ℕ) → sys.is_pending s ≡ false → walked_chosen sys steps s p ≡ walked sys steps s (Goes p)
  unfolding walked_chosen
  walked_chosen_free steps s p e = rw e refl

  pub walked_chosen_gate : (steps : ℕ) (s t : S) (p : ℕ) (turn : Turn) → sys.is_pending s ≡ true → t ≡ sys.admit s p → turn ≡ settled_turn sys t true p → walked_chosen sys steps s p ≡ walked sys steps t turn
  unfolding walked_chosen
  walked_chosen_gate steps s t p turn e at is = rw (e, is, at) refl
