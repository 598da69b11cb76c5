-- Nothing is left out: each end to which a word leads is found, and what a process meets in a stretch it meets in one that is gone through.
use Rattle.std.proofs.Common.{◌≡◌, ◌≢◌, ◌⊎◌, inl, inr, ◌∙◌, ◌+◌, ℕ, Bool, true, false, if◌then◌else◌, List, [], Some, ap, sym, refl, subst}
use Rattle.cp_at_once_laws.proofs.Words.{Event, OutcomeKind, Over, System, EndsAfter, SetsOut, spot_after, IsTurnKnown, HasQuietLeg, GoesThrough, IsPlain, some_same}
use Rattle.cp_at_once_laws.proofs.Words.{Local, Fault, OutputFull, is_call, Comes, Fails, fails, later_fails, Commutes, NobodyReady, GoalStays, OwnGoal}
use Rattle.cp_run.specs.declared.outcome.OutcomeKind.TheVariants.{Finished, AllWaiting, RunError, ChoiceLimit, StepLimit, OutputLimit}
use Rattle.cp_at_once_laws.proofs.search.Goals.{errors_stay, own_errors}
use Rattle.cp_at_once_laws.proofs.limits.Turns.{ready_in, none_ready}
use Rattle.cp_at_once_laws.proofs.limits.Closed.{IsHit, hits}
use Rattle.cp_at_once_laws.proofs.limits.Landing.{Stands, R, Taken, closed, first_gone, local_goes, one_more}
use Rattle.cp_at_once_laws.proofs.limits.Words.{stop_of, stop_turn, ends, meets_in}

module _ {S : Type 0} (sys : System S) (Met : S → Type 0) (Quiet : S → ℕ → Type 0) (law : Commutes sys Met Quiet) (plain : IsPlain sys Met)
    (among : ℕ → S → Type 0) (begun : ℕ → S → ℕ → Type 0) (known : OutcomeKind → Type 0) (through : GoesThrough sys (HasQuietLeg sys Quiet) among begun known) where
  abbrev Gone : ℕ → S → Type 0
  Gone = R sys Met Quiet law plain among begun known through

  module _ (Done : S → Type 0) (nobody : NobodyReady sys Done) (Goal : S → ℕ → Type 0) (stays : GoalStays sys Met Quiet Goal) (own : OwnGoal sys Met Quiet Goal) where
    abbrev pub Hit : Type 0
    Hit = IsHit sys Met Quiet law Done nobody Goal stays own Gone (Taken sys Met Quiet law plain among begun known through) (closed sys Met Quiet law plain among begun known through)

    pub hit_of : (k : ℕ) × Comes sys Done Goal k sys.start → Hit
    hit_of w =
        hits sys Met Quiet law Done nobody Goal stays own Gone (Taken sys Met Quiet law plain among begun known through) (closed sys Met Quiet law plain among begun known through)
        through.most w.0 sys.start plain.start (first_gone sys Met Quiet law plain among begun known through) w.1

  -- ---- a process that meets something

  -- it is met where its process has stepped locally before
  abbrev pub GoalBack : (S → ℕ → Type 0) → Type 0
  GoalBack Goal = (s : S) (q : ℕ) → Met s → sys.is_ready s q ≡ true → sys.event s q ≡ Local → Goal (sys.step s q) q → Goal s q

  pub no_end : NobodyReady sys (λ s. ⊥)
  no_end s p d ready = d

  module _ (Goal : S → ℕ → Type 0) (stays : GoalStays sys Met Quiet Goal) (own : OwnGoal sys Met Quiet Goal) (back : GoalBack Goal) where
    -- with what is known of the state in which it is met
    pub record MeetsThere : Type 0 where
      pub state : S
      pub process : ℕ
      pub met : Met state
      pub ready : sys.is_ready state process ≡ true
      pub stands : Stands sys begun state process
      pub goal : Goal state process

    pub of_hit : Hit (λ s. ⊥) no_end Goal stays own → MeetsThere
    of_hit h = go h.hit
      where
        go : ((c : ℕ) × Gone c h.state × ⊥) ⊎ ((q : ℕ) × Stands sys begun h.state q × (sys.is_ready h.state q ≡ true) × Goal h.state q) → MeetsThere
        go (inl x) = absurd x.2
        go (inr x) = record { state = h.state; process = x.0; met = h.met; ready = x.2; stands = x.1; goal = x.3 }

    pub met_somewhere : (steps : ℕ) (word : List ℕ) (b : S) (f n : ℕ) (s : S) (q : ℕ) → SetsOut sys steps word b f → spot_after sys n b f ≡ Some (s, q) → Goal s q → MeetsThere
    met_somewhere steps word b f n s q out e g =
        of_hit (hit_of (λ s. ⊥) no_end Goal stays own
        (meets_in sys Met Quiet law plain (λ s. ⊥) Goal back (λ kind. ⊥) (λ k. k) (λ t met none k. k) (λ s q kind met ready stop k. absurd k) steps word b f n s q out e g))

    pub fails_somewhere : (steps : ℕ) (word : List ℕ) (kind : OutcomeKind) → kind ≢ StepLimit →
        ((t : S) → Met t → ready_in sys t ≡ [] → (if sys.waits t then AllWaiting else Finished) ≡ kind → ⊥) →
        ((s : S) (q : ℕ) → Met s → sys.is_ready s q ≡ true → stop_of (sys.event s q) ≡ Some kind → Goal s q) → EndsAfter sys steps word kind → MeetsThere
    fails_somewhere steps word kind apart over stops e =
        of_hit (hit_of (λ s. ⊥) no_end Goal stays own
        (ends sys Met Quiet law plain (λ s. ⊥) Goal back (λ other. other ≡ kind) (λ k. apart (sym k)) over (λ s q other met ready stop k. stops s q met ready (stop ∙ ap (λ (o : OutcomeKind). Some o) k)) steps word kind refl e))

  -- ---- ends

  -- nobody is ready
  abbrev IsOverIn : OutcomeKind → S → Type 0
  IsOverIn kind t = Met t × (ready_in sys t ≡ []) × ((if sys.waits t then AllWaiting else Finished) ≡ kind)

  nobody_there : (kind : OutcomeKind) → NobodyReady sys (IsOverIn kind)
  nobody_there kind s p d ready = none_ready sys s p d.1 (plain.below s p d.0 ready) ready

  told_end : (kind : OutcomeKind) (c : ℕ) (s : S) → Gone c s → IsOverIn kind s → known kind
  told_end kind c s (inl x) d = absurd (nobody_there kind s x.1.0 d x.1.1)
  told_end kind c s (inr (inl a)) d = absurd (nobody_there kind s a.process d a.ready)
  told_end kind c s (inr (inr z)) d = go (sys.waits s) z.told d.2
    where
      go : (w : Bool) → IsTurnKnown (λ t. Unit {0}) known s (if w then Over AllWaiting else Over Finished) → (if w then AllWaiting else Finished) ≡ kind → known kind
      go true k e = subst known e k
      go false k e = subst known e k

  no_goal : S → ℕ → Type 0
  no_goal s q = ⊥

  over_known : (steps : ℕ) (word : List ℕ) (kind : OutcomeKind) → kind ≢ StepLimit → ((s : S) (q : ℕ) → stop_of (sys.event s q) ≡ Some kind → ⊥) → EndsAfter sys steps word kind → known kind
  unfolding no_goal
  over_known steps word kind apart stops e =
      go (hit_of (IsOverIn kind) (nobody_there kind) no_goal (λ s p q met ne rp rq k g. g) (λ s p q sp t u met ne rp rq k l k' g. absurd g)
      (ends sys Met Quiet law plain (IsOverIn kind) no_goal (λ s q met ready local g. g) (λ other. other ≡ kind) (λ k. apart (sym k)) (λ t met none k. (met, none, k))
      (λ s q other met ready stop k. stops s q (stop ∙ ap (λ (o : OutcomeKind). Some o) k)) steps word kind refl e))
    where
      go : Hit (IsOverIn kind) (nobody_there kind) no_goal (λ s p q met ne rp rq k g. g) (λ s p q sp t u met ne rp rq k l k' g. absurd g) → known kind
      go h = by h.hit
        where
          by : ((c : ℕ) × Gone c h.state × IsOverIn kind h.state) ⊎ ((q : ℕ) × Stands sys begun h.state q × (sys.is_ready h.state q ≡ true) × no_goal h.state q) → known kind
          by (inl x) = told_end kind x.0 h.state x.1 x.2
          by (inr x) = absurd x.3

  -- ---- ends that a step comes to

  abbrev FailsSo : OutcomeKind → S → ℕ → Type 0
  FailsSo kind s q = (error : Event) × Fails sys error s q × (stop_of error ≡ Some kind)

  fails_so_stays : (kind : OutcomeKind) → GoalStays sys Met Quiet (FailsSo kind)
  fails_so_stays kind s p q met ne rp rq k g = (g.0, errors_stay sys Met Quiet law g.0 s p q met ne rp rq k g.1, g.2)

  fails_so_own : (kind : OutcomeKind) → OwnGoal sys Met Quiet (FailsSo kind)
  fails_so_own kind s p q sp t u met ne rp rq k l k' g = go (own_errors sys Met Quiet law g.0 s p q sp t u met ne rp rq k l k' g.1)
    where
      go : Fails sys g.0 s p ⊎ ((sys.is_ready u p ≡ true) × Fails sys g.0 u p) → FailsSo kind s p ⊎ ((sys.is_ready u p ≡ true) × FailsSo kind u p)
      go (inl f) = inl (g.0, f, g.2)
      go (inr f) = inr (f.0, (g.0, f.1, g.2))

  stop_no_call : (e : Event) (kind : OutcomeKind) → stop_of e ≡ Some kind → (is_call e ≡ false) × (e ≢ Local)
  stop_no_call (Fault e) kind h = (refl, λ x. cc)
  stop_no_call OutputFull kind h = (refl, λ x. cc)
  stop_no_call x kind h = absurd cc

  known_there : (kind : OutcomeKind) (error : Event) (s : S) (q : ℕ) → Fails sys error s q → stop_of error ≡ Some kind → Met s → sys.is_ready s q ≡ true → (c : ℕ) (b : S) (f n : ℕ) → begun c b f → spot_after sys n b f ≡ Some (s, q) → known kind
  known_there kind error _ _ (fails s q e no_call no_local) stop met ready c b f n g at =
      subst (IsTurnKnown (among c) known (sys.step s q)) (stop_turn sys (sys.step s q) q (sys.event s q) kind (ap stop_of e ∙ stop)) (through.stretch c b f n s q g at)
  known_there kind error _ _ (later_fails s q e rest) stop met ready c b f n g at =
      known_there kind error (sys.step s q) q rest stop (law.kept s q met ready) (law.goes_on s q met ready e) c b f (n + 1) g (one_more sys n b f s q q at (local_goes sys Met Quiet law plain s q met ready e))

  stop_known : (steps : ℕ) (word : List ℕ) (kind : OutcomeKind) → kind ≢ StepLimit → kind ≢ Finished → kind ≢ AllWaiting → EndsAfter sys steps word kind → known kind
  stop_known steps word kind no_limit not_finished not_waiting e =
      go (fails_somewhere (FailsSo kind) (fails_so_stays kind) (fails_so_own kind) (λ s q met ready local g. (g.0, later_fails s q local g.1, g.2)) steps word kind no_limit
      (λ t met none k. over (sys.waits t) k)
      (λ s q met ready stop. (let no = stop_no_call (sys.event s q) kind stop in (sys.event s q, fails s q refl no.0 no.1, stop))) e)
    where
      over : (w : Bool) → (if w then AllWaiting else Finished) ≡ kind → ⊥
      over true k = not_waiting (sym k)
      over false k = not_finished (sym k)

      go : MeetsThere (FailsSo kind) (fails_so_stays kind) (fails_so_own kind) (λ s q met ready local g. (g.0, later_fails s q local g.1, g.2)) → known kind
      go m = known_there kind m.goal.0 m.state m.process m.goal.1 m.goal.2 m.met m.ready m.stands.left m.stands.begin m.stands.first m.stands.after m.stands.gone m.stands.stands

  is_over : OutcomeKind → Bool
  is_over Finished = true
  is_over AllWaiting = true
  is_over _ = false

  over_is : (kind : OutcomeKind) → (kind ≡ Finished) ⊎ (kind ≡ AllWaiting) → is_over kind ≡ true
  unfolding is_over
  over_is kind (inl e) = ap is_over e
  over_is kind (inr e) = ap is_over e

  stops_not_over : (e : Event) (kind : OutcomeKind) → stop_of e ≡ Some kind → is_over kind ≡ false
  unfolding is_over
  stops_not_over (Fault e) kind h = ap is_over (sym (some_same (RunError e.name e.process e.line) kind h))
  stops_not_over OutputFull kind h = ap is_over (sym (some_same OutputLimit kind h))
  stops_not_over x kind h = absurd cc

  never_over : (e : Event) (kind : OutcomeKind) → (kind ≡ Finished) ⊎ (kind ≡ AllWaiting) → stop_of e ≡ Some kind → ⊥
  never_over e kind k h = (let bad : true ≡ false = sym (over_is kind k) ∙ stops_not_over e kind h in cc)

  pub end_known : (steps : ℕ) (word : List ℕ) (kind : OutcomeKind) → kind ≢ StepLimit → EndsAfter sys steps word kind → known kind
  end_known steps word Finished no_limit e = over_known steps word Finished no_limit (λ s q stop. never_over (sys.event s q) Finished (inl refl) stop) e
  end_known steps word AllWaiting no_limit e = over_known steps word AllWaiting no_limit (λ s q stop. never_over (sys.event s q) AllWaiting (inr refl) stop) e
  end_known steps word (RunError name process line) no_limit e = stop_known steps word (RunError name process line) no_limit (λ x. cc) (λ x. cc) e
  end_known steps word ChoiceLimit no_limit e = stop_known steps word ChoiceLimit no_limit (λ x. cc) (λ x. cc) e
  end_known steps word StepLimit no_limit e = absurd (no_limit refl)
  end_known steps word OutputLimit no_limit e = stop_known steps word OutputLimit no_limit (λ x. cc) (λ x. cc) e
