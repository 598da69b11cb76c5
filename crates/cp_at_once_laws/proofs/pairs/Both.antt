-- A quiet step beside any step of another ready process.
use Rattle.std.proofs.Common.{◌≡◌, ◌≢◌, ℕ, ◌∙◌, ◌⊎◌, inl, inr, true, false, Option, Some, None, Ok, Err, ap, sym, refl, subst}
use Rattle.cp_at_once_laws.proofs.Words.{cases_eq, Program, Outcome, ready, process_at, State, kernel_step, Move, enters, leaves, delays, continues, Doing, settled}
use Rattle.cp_at_once_laws.proofs.Words.{step_of, IsWellFormed, status_at, some_is}
use Rattle.cp_at_once_laws.proofs.pairs.Beside.{QuietHere, Beside, beside_apart}
use Rattle.cp_at_once_laws.proofs.pairs.Changes.{GoesFrom}
use Rattle.cp_at_once_laws.proofs.pairs.Facts.{done}
use Rattle.cp_at_once_laws.proofs.pairs.Fit.{StartsKnown, Fits}
use Rattle.cp_at_once_laws.proofs.pairs.Flags.{QuietDone}
use Rattle.cp_at_once_laws.proofs.pairs.Meeting.{beside_meeting}
use Rattle.cp_at_once_laws.proofs.pairs.Shape.{is_failure, kernel_exact}

goes_decided : (move : Move) (m : ℕ) → GoesFrom move m ⊎ (GoesFrom move m → ⊥)
goes_decided (leaves k) m = cases_eq k m
goes_decided (delays k) m = cases_eq k m
goes_decided (continues k o going items) m = cases_eq k m
goes_decided _ m = inr (λ h. h)

entered_at : Move → Option ℕ
entered_at (enters m) = Some m
entered_at _ = None

entered_told : (move : Move) (m : ℕ) → entered_at move ≡ Some m → move ≡ enters m
unfolding entered_at
entered_told (enters k) m h = ap enters (some_is k m h)
entered_told x m h = absurd (let bad : None ≡ Some m = h in cc)

entered_is : (move : Move) (m : ℕ) → move ≡ enters m → entered_at move ≡ Some m
unfolding entered_at
entered_is move m e = ap entered_at e

-- where a's step is quiet, its item did something
quiet_done : (p : Program) (s : State) (f : Fits p s) (a : ℕ) → QuietHere p s a → (o : Outcome Doing) → done p s a ≡ o → (d : Doing) × QuietDone p s a d
quiet_done p s f a q (Err e) is = absurd (let bad : true ≡ false = ap (λ o. is_failure (settled p s a o).event) (sym is) ∙ q.event in cc)
quiet_done p s f a q (Ok d) is = (
  d,
  record {
    is = is;
    succeeds = succeeds;
    no_enter = λ m e. q.no_enter (ap (λ y. y.event) here ∙ ap (λ k. (kernel_step p s a d k).event) e);
    no_enter_event = λ e. q.no_enter (ap (λ y. y.event) here ∙ e);
    statuses = λ n. sym (kernel_exact p s a d d.move f.first succeeds n) ∙ ap (λ y. status_at y.state.components n) (sym here) ∙ q.statuses n;
  },
)
  where
    here : step_of p s a ≡ kernel_step p s a d d.move
    here = ap (settled p s a) is

    succeeds : is_failure (kernel_step p s a d d.move).event ≡ false
    succeeds = ap (λ y. is_failure y.event) (sym here) ∙ q.event

module _ (p : Program) (ok : IsWellFormed p) (rules : StartsKnown p) (s : State) (a b : ℕ) (f : Fits p s) (ne : a ≢ b) (ra : (process_at s.processes a).status ≡ ready) (rb : (process_at s.processes b).status ≡ ready) where
  module _ (da : Doing) (quiet : QuietDone p s a da) where
    move_of : Outcome Doing → Option ℕ
    move_of (Ok d) = entered_at d.move
    move_of (Err e) = None

    at_apart : ((m : ℕ) → move_of (done p s b) ≡ Some m → GoesFrom da.move m → ⊥) → Beside p s a b
    unfolding move_of
    at_apart h = beside_apart p ok rules s f a b ne ra rb da quiet (λ d is m e. h m (ap move_of is ∙ entered_is d.move m e))

    at_meeting : (o : Outcome Doing) → done p s b ≡ o → (m : ℕ) → move_of o ≡ Some m → GoesFrom da.move m → Beside p s a b
    unfolding move_of
    at_meeting (Ok d) is m e g = beside_meeting p ok rules s f a b ne ra rb da quiet d is m g (entered_told d.move m e)
    at_meeting (Err x) is m e g = absurd (let bad : None ≡ Some m = e in cc)

    by_move : (o : Option ℕ) → move_of (done p s b) ≡ o → Beside p s a b
    by_move None e = at_apart (λ m h. absurd (let bad : None ≡ Some m = sym e ∙ h in cc))
    by_move (Some m) e = go (goes_decided da.move m)
      where
        go : GoesFrom da.move m ⊎ (GoesFrom da.move m → ⊥) → Beside p s a b
        go (inl g) = at_meeting (done p s b) refl m e g
        go (inr other) = at_apart (λ k h g. other (subst (GoesFrom da.move) (some_is k m (sym h ∙ e)) g))

    beside_of : Beside p s a b
    beside_of = by_move (move_of (done p s b)) refl

  pub beside : QuietHere p s a → Beside p s a b
  beside q = let d = quiet_done p s f a q (done p s a) refl in beside_of d.0 d.1
