-- A quiet step of process a beside a step of another ready process b.
use Rattle.std.proofs.Common.{◌≡◌, ◌≢◌, ℕ, ◌∙◌, ◌⊎◌, inl, inr, Bool, true, false, if◌then◌else◌, suc, List, ◌∷◌, length, Ok, Err, ap, sym, refl, subst}
use Rattle.cp_at_once_laws.proofs.Words.{Program, Outcome, component_at, is_inside, ready, Process, process_at, State, enter_event, is_anybody_inside}
use Rattle.cp_at_once_laws.proofs.Words.{is_delayed_in, kernel_step, enters, Doing, settled, step_of, IsWellFormed, frames, IsMonitor, MoveFits, status_at}
use Rattle.cp_at_once_laws.proofs.reading.Mixed.{one_of, mix_at}
use Rattle.cp_at_once_laws.proofs.pairs.Apart.{Other, itself, Leaves, Moves, apart}
use Rattle.cp_at_once_laws.proofs.pairs.Changes.{GoesFrom, Changes, kernel_changes, none_delayed, ready_same, moved_status}
use Rattle.cp_at_once_laws.proofs.pairs.Facts.{done, Facts, AllFacts}
use Rattle.cp_at_once_laws.proofs.pairs.Fit.{StartsKnown, Fits}
use Rattle.cp_at_once_laws.proofs.pairs.Flags.{QuietDone, in_range, facts_of, open_of, facts_at, StillNot, moves_a, flagged_a, flagged_b, statuses_b, monitors_two}
use Rattle.cp_at_once_laws.proofs.pairs.Inside.{anybody_same}
use Rattle.cp_at_once_laws.proofs.pairs.Merging.{mixed_processes, process_mixed, merged_step, IsApart}
use Rattle.cp_at_once_laws.proofs.pairs.Shape.{is_failure, Stands, step_stands, kernel_shape, kernel_exact}
use Rattle.cp_at_once_laws.proofs.pairs.Two.{flipped, silent, processes_self, Commute, after_other, after_flipped, two_steps}
use Rattle.cp_at_once_laws.proofs.pairs.Unflagged.{Begun, begun_stays, inside_same, mine, ours, lines, moves_b}
use Rattle.cp_machine.proofs.CallOutcomes.{not_false}

-- a's step is no failure, enters no monitor, and changes no status
pub record QuietHere (p : Program) (s : State) (a : ℕ) : Type 0 where
  pub event : is_failure (step_of p s a).event ≡ false
  pub no_enter : (step_of p s a).event ≡ enter_event → ⊥
  pub statuses : (n : ℕ) → status_at (step_of p s a).state.components n ≡ status_at s.components n

pub record Beside (p : Program) (s : State) (a b : ℕ) : Type 0 where
  -- whatever b's step is
  pub other_event : (step_of p (silent (step_of p s a).state) b).event ≡ (step_of p s b).event
  pub other_output : (step_of p (silent (step_of p s a).state) b).state.output ≡ (step_of p s b).state.output
  pub other_same : process_at (step_of p s a).state.processes b ≡ process_at s.processes b
  pub same : process_at (step_of p s b).state.processes a ≡ process_at s.processes a
  -- where b's step is no failure
  pub event : is_failure (step_of p s b).event ≡ false → (step_of p (silent (step_of p s b).state) a).event ≡ (step_of p s a).event
  pub output : is_failure (step_of p s b).event ≡ false → (step_of p (silent (step_of p s b).state) a).state.output ≡ (step_of p s a).state.output
  pub still : is_failure (step_of p s b).event ≡ false → QuietHere p (silent (step_of p s b).state) a
  pub state : is_failure (step_of p s b).event ≡ false → silent (step_of p (silent (step_of p s a).state) b).state ≡ silent (step_of p (silent (step_of p s b).state) a).state

module _ (p : Program) (ok : IsWellFormed p) (rules : StartsKnown p) (s : State) (f : Fits p s) where
  -- what becomes of each process in the step of a ready one
  pub changed : (q : ℕ) (d : Doing) → (process_at s.processes q).status ≡ ready → Facts p s q d → (n : ℕ) → Changes p q d d.move n (process_at s.processes n) (process_at (kernel_step p s q d d.move).state.processes n)
  changed q d rq fq n = kernel_changes p s q d rq f.orderly.orderly.lines (λ m. fq.good.layout.line m) d.move f.first n

  pub stands : (q : ℕ) (rq : (process_at s.processes q).status ≡ ready) → Stands p ok s q f.first f.owned f.orderly (in_range p ok rules s f q rq) rq (step_of p s q).state
  stands q rq = step_stands p ok s q f.first f.owned f.orderly (in_range p ok rules s f q rq) rq (facts_of p ok rules s f q rq)

  settled_same : (q n : ℕ) (rq : (process_at s.processes q).status ≡ ready) (o : Outcome Doing) → AllFacts p s q o → n ≢ q → (process_at s.processes n).status ≡ ready → process_at (settled p s q o).state.processes n ≡ process_at s.processes n
  settled_same q n rq (Ok d) fq ne rn = ready_same p q d d.move n _ _ (changed q d rq fq n) ne rn
  settled_same q n rq (Err e) fq ne rn = refl

  -- another ready process is as it was
  pub other_same : (q n : ℕ) → (process_at s.processes q).status ≡ ready → n ≢ q → (process_at s.processes n).status ≡ ready → process_at (step_of p s q).state.processes n ≡ process_at s.processes n
  other_same q n rq ne rn = settled_same q n rq (done p s q) (facts_of p ok rules s f q rq) ne rn

  module _ (a b : ℕ) (ne : a ≢ b) (ra : (process_at s.processes a).status ≡ ready) (rb : (process_at s.processes b).status ≡ ready) (da : Doing) (quiet : QuietDone p s a da) where
    abbrev pub procs : ℕ → Bool
    procs = ours p ok rules s f a b ne ra rb da quiet

    abbrev pub own : ℕ → Bool
    own = mine p ok rules s f a b ne ra rb da quiet

    abbrev pub ln : ℕ → Bool
    ln = lines p ok rules s f a b ne ra rb da quiet

    abbrev pub t : State
    t = (step_of p s a).state

    abbrev pub u : State
    u = (step_of p s b).state

    -- ---- what a needs

    pub leaves_a : (X : State) → Leaves procs own ln X p s a (done p s a)
    leaves_a X = subst (Leaves procs own ln X p s a) (sym quiet.is) (λ n h. quiet.statuses n)

    moved_a : (X : State) → StillNot p ok rules s f a b ne ra rb da quiet X da a → Moves procs own ln X p s a (done p s a)
    moved_a X still = subst (Moves procs own ln X p s a) (sym quiet.is) (moves_a p ok rules s f a b ne ra rb da quiet X still da.move refl)

    apart_a : (X : State) → Other s X → StillNot p ok rules s f a b ne ra rb da quiet X da a → IsApart procs own ln X p s a
    apart_a X other still =
        apart procs own ln X p s a f.first f.owned f.orderly (in_range p ok rules s f a ra) (open_of p ok rules s f a ra) other (flagged_a p ok rules s f a b ne ra rb da quiet X) (facts_of p ok rules s f a ra) (leaves_a X) (moved_a X still)

    pub self_still : (d : Doing) (q : ℕ) → (process_at s.processes q).status ≡ ready → StillNot p ok rules s f a b ne ra rb da quiet s d q
    self_still d q rq k r g h = sym (ap (is_delayed_in k) (moved_status s q d rq r)) ∙ h

    after_still : (o : Outcome Doing) → done p s b ≡ o → StillNot p ok rules s f a b ne ra rb da quiet (settled p s b o).state da a
    after_still (Err e) is k r g h = self_still da a ra k r g h
    after_still (Ok db) is k r g h =
        let fb = facts_at p ok rules s f b db rb is in
        none_delayed p b db db.move r _ _ (changed b db rb fb r) k (λ m l e. monitors_two p ok rules s f a b ne ra rb da quiet db fb k m g l (sym e)) (sym (ap (is_delayed_in k) (moved_status s a da ra r)) ∙ h)

    pub apart_a_self : IsApart procs own ln s p s a
    apart_a_self = apart_a s (itself s) (self_still da a ra)

    apart_a_after : IsApart procs own ln u p s a
    apart_a_after = apart_a u (stands b rb).other (after_still (done p s b) refl)

    -- ---- what b needs

    pub t_is : t ≡ (kernel_step p s a da da.move).state
    t_is = ap (λ o. (settled p s a o).state) quiet.is

    pub quiet_after : (n : ℕ) → status_at t.components n ≡ status_at s.components n
    quiet_after n = ap (λ v. status_at v.components n) t_is ∙ kernel_exact p s a da da.move f.first quiet.succeeds n ∙ quiet.statuses n

    pub leaves_b : (X : State) → ((n : ℕ) → status_at X.components n ≡ status_at s.components n) → (o : Outcome Doing) → AllFacts p s b o → Leaves (flipped procs) (flipped own) (flipped ln) X p s b o
    leaves_b X all (Ok db) fb = λ n h. statuses_b p ok rules s f a b ne ra rb da quiet db fb n (not_false (own n) h)
    leaves_b X all (Err e) fb = λ n h. all n

    -- b enters no monitor that a goes out of
    abbrev pub Apart : Type 0
    Apart = (db : Doing) → done p s b ≡ Ok db → (m : ℕ) → db.move ≡ enters m → GoesFrom da.move m → ⊥

    module _ (X : State) (still : (db : Doing) → done p s b ≡ Ok db → StillNot p ok rules s f a b ne ra rb da quiet X db b) (begun : (r : ℕ) → Begun (process_at s.processes r).status → Begun (process_at X.processes r).status)
        (inside : (db : Doing) → done p s b ≡ Ok db → (m : ℕ) → db.move ≡ enters m → (GoesFrom da.move m → ⊥) → is_anybody_inside m (mixed_processes (flipped procs) s.processes X.processes) ≡ is_anybody_inside m s.processes) (separate : Apart) where
      moved_b : (o : Outcome Doing) → done p s b ≡ o → Moves (flipped procs) (flipped own) (flipped ln) X p s b o
      moved_b (Ok db) is = moves_b p ok rules s f a b ne ra rb da quiet db is X (still db is) begun (λ m e. inside db is m e (separate db is m e)) (separate db is) db.move refl
      moved_b (Err e) is = tt

      apart_b : Other s X → ((n : ℕ) → status_at X.components n ≡ status_at s.components n) → IsApart (flipped procs) (flipped own) (flipped ln) X p s b
      apart_b other all =
          apart (flipped procs) (flipped own) (flipped ln) X p s b f.first f.owned f.orderly (in_range p ok rules s f b rb) (open_of p ok rules s f b rb) other (flagged_b p ok rules s f a b ne ra rb da quiet X) (facts_of p ok rules s f b rb)
          (leaves_b X all (done p s b) (facts_of p ok rules s f b rb)) (moved_b (done p s b) refl)

    module _ (separate : Apart) where
      apart_b_self : IsApart (flipped procs) (flipped own) (flipped ln) s p s b
      apart_b_self = apart_b s (λ db is. self_still db b rb) (λ r h. h) (λ db is m e free. ap (is_anybody_inside m) (processes_self (flipped procs) s.processes)) separate (itself s) (λ n. refl)

      a_changes : (n : ℕ) → Changes p a da da.move n (process_at s.processes n) (process_at t.processes n)
      a_changes n = subst (λ v. Changes p a da da.move n (process_at s.processes n) (process_at v.processes n)) (sym t_is) (changed a da ra (facts_at p ok rules s f a da ra quiet.is) n)

      still_t : (db : Doing) → done p s b ≡ Ok db → StillNot p ok rules s f a b ne ra rb da quiet t db b
      still_t db is k r g h =
          none_delayed p a da da.move r _ _ (a_changes r) k (λ m l. monitors_two p ok rules s f a b ne ra rb da quiet db (facts_at p ok rules s f b db rb is) m k l g) (sym (ap (is_delayed_in k) (moved_status s b db rb r)) ∙ h)

      same_lengths : length s.processes ≡ length t.processes
      same_lengths = (stands a ra).other.many

      inside_t : (db : Doing) → done p s b ≡ Ok db → (m : ℕ) → db.move ≡ enters m → (GoesFrom da.move m → ⊥) → is_anybody_inside m (mixed_processes (flipped procs) s.processes t.processes) ≡ is_anybody_inside m s.processes
      inside_t db is m enter free =
          anybody_same m (mixed_processes (flipped procs) s.processes t.processes) s.processes (mixed_length (flipped procs) s.processes t.processes) (λ n. ap (is_inside m) (process_mixed (flipped procs) s.processes t.processes n same_lengths) ∙ each n (flipped procs n))
        where
          mon : IsMonitor s.components m
          mon = (subst (λ k. MoveFits s.components (frames (process_at s.processes b).calls) (frames db.calls) k) enter (facts_at p ok rules s f b db rb is).good.moves).0

          mixed_length : (g : ℕ → Bool) (ps xs : List Process) → length (mixed_processes g ps xs) ≡ length ps
          mixed_length g (z ∷ ps) (w ∷ xs) = ap suc (mixed_length (λ n. g (suc n)) ps xs)
          mixed_length g _ _ = refl

          each : (n : ℕ) (v : Bool) → is_inside m (if v then process_at s.processes n else process_at t.processes n) ≡ is_inside m (process_at s.processes n)
          each n true = refl
          each n false = inside_same p ok rules s f a b ne ra rb da quiet m n (process_at t.processes n) mon (λ k g e. free (subst (GoesFrom da.move) e g)) (a_changes n)

      apart_b_after : IsApart (flipped procs) (flipped own) (flipped ln) t p s b
      apart_b_after = apart_b t still_t (λ r h. begun_stays p a da da.move r _ _ (a_changes r) h) inside_t separate (stands a ra).other quiet_after

      -- ---- both orders

      first : step_of p (silent u) a ≡ merged_step procs own ln u (step_of p s a)
      first = after_other procs own ln p s a b f.shown (stands b rb).shape apart_a_after apart_b_self

      second : step_of p (silent t) b ≡ merged_step (flipped procs) (flipped own) (flipped ln) t (step_of p s b)
      second = after_flipped procs own ln p s a b f.shown (stands a ra).shape apart_b_after apart_a_self

      both : Commute p s a b
      both = two_steps procs own ln p s a b f.shown (stands a ra).shape (stands b rb).shape first second

      -- statuses of what is a's own are left by b
      pub left : (o : Outcome Doing) → AllFacts p s b o → (n : ℕ) → own n ≡ true → status_at (settled p s b o).state.components n ≡ status_at s.components n
      left (Err e) fb n h = refl
      left (Ok db) fb n h = go ((kernel_shape p s b db db.move f.first).status n)
        where
          go : (status_at (kernel_step p s b db db.move).state.components n ≡ status_at db.components n) ⊎ (status_at (kernel_step p s b db db.move).state.components n ≡ status_at s.components n) → status_at (kernel_step p s b db db.move).state.components n ≡ status_at s.components n
          go (inl e) = e ∙ statuses_b p ok rules s f a b ne ra rb da quiet db fb n h
          go (inr e) = e

      still_quiet : (n : ℕ) → status_at (step_of p (silent u) a).state.components n ≡ status_at u.components n
      still_quiet n = ap (λ y. status_at y.state.components n) first ∙ ap (λ c. c.status) (mix_at own ln t.components u.components n (sym (stands a ra).other.size ∙ (stands b rb).other.size)) ∙ each (own n) refl
        where
          each : (v : Bool) → own n ≡ v → (one_of v (ln n) (component_at t.components n) (component_at u.components n)).status ≡ status_at u.components n
          each true h = quiet_after n ∙ sym (left (done p s b) (facts_of p ok rules s f b rb) n h)
          each false h = refl

      pub beside_apart : Beside p s a b
      beside_apart =
          record {
            other_event = ap (λ y. y.event) second;
            other_output = ap (λ y. y.state.output) second;
            other_same = other_same a b ra (λ e. ne (sym e)) rb;
            same = other_same b a rb ne ra;
            event = λ h. ap (λ y. y.event) first;
            output = λ h. ap (λ y. y.state.output) first;
            still = λ h. record {
              event = ap (λ y. is_failure y.event) first ∙ ap (λ o. is_failure (settled p s a o).event) quiet.is ∙ quiet.succeeds;
              no_enter = λ e. no_enter_event (sym (ap (λ y. y.event) first) ∙ e);
              statuses = still_quiet;
            };
            state = λ h. both.state;
          }
        where
          no_enter_event : (step_of p s a).event ≡ enter_event → ⊥
          no_enter_event e = quiet.no_enter_event (sym (ap (λ o. (settled p s a o).event) quiet.is) ∙ e)
