-- Of a system whose steps are silent, or those of another system, or its end: its runs are those of the other system until they end so.
use Rattle.std.proofs.Common.{◌≡◌, ◌∙◌, ◌⊎◌, inl, inr, ℕ, zero, suc, ◌+◌, Bool, true, false, if◌then◌else◌, List, [], ◌∷◌, ◌++◌, length, ap, sym, refl, subst, arith}
use Rattle.cp_machine.specs.declared.event.Event.{Event}
use Rattle.cp_machine.specs.declared.event.Event.TheVariants.{Local, Fault}
use Rattle.cp_run.specs.declared.outcome.Outcome.{Outcome}
use Rattle.cp_run.specs.declared.outcome.OutcomeKind.{OutcomeKind}
use Rattle.cp_run.specs.declared.outcome.OutcomeKind.TheVariants.{RunError, ChoiceLimit, StepLimit}
use Rattle.cp_run.specs.declared.outcome.Turn.{Turn}
use Rattle.cp_run.specs.declared.outcome.Turn.TheVariants.{Over, Due, Goes}
use Rattle.cp_run.specs.Run.{those_below, settled_turn, turn_after, Node, Halted, Choosing, node_at, stretch, opened, may, chosen, Ended, Wants, NotReady, later, run_from}
use Rattle.cp_run.specs.Stop.{last_state_from}
use Rattle.cp_run.specs.System.{System}
use Rattle.cp_run.proofs.Wanting.{goes_on}
use Rattle.cp_machine_laws.specs.InStep.{CanGo, CanEnter, LooksAlike}
use Rattle.cp_machine_laws.proofs.Alike.{may_same, may_go, may_enter}
use Rattle.cp_run.proofs.Choosing.{those_same}
use Rattle.cp_run.specs.Code.{IfGoes}
use Rattle.cp_machine_laws.proofs.Turns.{after_ready, settled_ready, turn_ready, settled_same, turn_same, after_same}

-- how a run may end earlier
abbrev pub IsEarly : {S : Type 0} → (OutcomeKind → S → Type 0) → S → Event → Type 0
IsEarly broken t (Fault e) = broken (RunError e.name e.process e.line) t
IsEarly broken t event = ⊥

-- a step of the first system alone
pub record IsSilent {S T : Type 0} (a : System S) (R : S → T → Type 0) (s : S) (t : T) (p : ℕ) : Type 0 where
  pub local : a.event s p ≡ Local
  pub stays : R (a.step s p) t
  pub can : CanGo a (a.step s p) p

-- a step of both
pub record IsBoth {S T : Type 0} (a : System S) (b : System T) (R : S → T → Type 0) (s : S) (t : T) (p : ℕ) : Type 0 where
  pub event : a.event s p ≡ b.event t p
  pub steps : R (a.step s p) (b.step t p)
  pub ready : a.event s p ≡ Local → a.is_ready (a.step s p) p ≡ true

abbrev pub Stepping : {S T : Type 0} → System S → System T → (S → T → Type 0) → (OutcomeKind → S → Type 0) → S → T → ℕ → Type 0
Stepping a b R broken s t p = IsEarly broken (a.step s p) (a.event s p) ⊎ IsSilent a R s t p ⊎ IsBoth a b R s t p

pub record Follows {S T : Type 0} (a : System S) (b : System T) (R : S → T → Type 0) (broken : OutcomeKind → S → Type 0) : Type 0 where
  pub processes : a.processes ≡ b.processes
  pub start : R a.start b.start
  pub begins : a.is_pending a.start ≡ false → CanGo a a.start 0
  pub alike : (s : S) (t : T) → R s t → LooksAlike a b s t
  pub step : (s : S) (t : T) (p : ℕ) → R s t → CanGo a s p → Stepping a b R broken s t p
  pub admit : (s : S) (t : T) (p : ℕ) → R s t → CanEnter a s p → R (a.admit s p) (b.admit t p)
  pub admitted : (s : S) (t : T) (p : ℕ) → R s t → CanEnter a s p → a.is_pending (a.admit s p) ≡ false
  pub cut : (s : S) → broken StepLimit s

module _ {S T : Type 0} (a : System S) (b : System T) (R : S → T → Type 0) (broken : OutcomeKind → S → Type 0) (f : Follows a b R broken) where
  -- ---- where two runs stand

  abbrev pub Meets : Node S → Node T → Type 0
  Meets (Halted k s) (Halted l t) = broken k s ⊎ (k ≡ l) × R s t
  Meets (Choosing s) (Choosing t) = R s t
  Meets (Halted k s) (Choosing t) = broken k s
  Meets (Choosing s) (Halted k t) = ⊥

  ends_early : (k : OutcomeKind) (s : S) (y : Node T) → broken k s → Meets (Halted k s) y
  ends_early k s (Halted l t) h = inl h
  ends_early k s (Choosing t) h = h

  meet : (P : ℕ → Type 0) (s : S) (t : T) (on : ℕ → Node S) (un : ℕ → Node T) (turn : Turn) → R s t → IfGoes turn P → ((q : ℕ) → P q → Meets (on q) (un q)) → Meets (node_at s on turn) (node_at t un turn)
  meet P s t on un (Over kind) r h k = inr (refl, r)
  meet P s t on un Due r h k = r
  meet P s t on un (Goes q) r h k = k q h

  meets : (P : ℕ → Type 0) (s : S) (t : T) (on : ℕ → Node S) (un : ℕ → Node T) (u v : Turn) → u ≡ v → R s t → IfGoes u P → ((q : ℕ) → P q → Meets (on q) (un q)) → Meets (node_at s on u) (node_at t un v)
  meets P s t on un u v e r h k = subst (λ (w : Turn). Meets (node_at s on u) (node_at t un w)) e (meet P s t on un u r h k)

  -- ---- stretches

  early : (s : S) (p : ℕ) (on : ℕ → Node S) (y : Node T) (event : Event) → IsEarly broken s event → Meets (node_at s on (turn_after a s p event)) y
  early s p on y (Fault e) h = ends_early (RunError e.name e.process e.line) s y h
  early s p on y _ h = absurd h

  silent_turn : (s : S) (p : ℕ) → CanGo a s p → turn_after a s p Local ≡ Goes p
  silent_turn s p c = go (a.is_pending s) c.free
    where
      go : (w : Bool) → w ≡ false → (if w then Due else settled_turn a s false p) ≡ Goes p
      go false e = goes_on a s p c.below c.ready
      go true e = absurd (let bad : true ≡ false = e in cc)

  stretches : (left more : ℕ) (s : S) (t : T) (p : ℕ) → R s t → CanGo a s p → Meets (stretch a left s p) (stretch b (more + left) t p)
  unfolding stretch
  stretches zero more s t p r c = ends_early StepLimit s (stretch b (more + zero) t p) (f.cut s)
  stretches (suc left) more s t p r c = go (λ m u w q k d. stretches left m u w q k d) (f.step s t p r c)
    where
      go : ((m : ℕ) (u : S) (w : T) (q : ℕ) → R u w → CanGo a u q → Meets (stretch a left u q) (stretch b (m + left) w q)) → Stepping a b R broken s t p → Meets (stretch a (suc left) s p) (stretch b (more + suc left) t p)
      go on (inl h) = early (a.step s p) p (stretch a left (a.step s p)) (stretch b (more + suc left) t p) (a.event s p) h
      go on (inr (inl h)) =
          subst (λ (x : Node S). Meets x (stretch b (more + suc left) t p))
          (sym (ap (λ (e : Event). node_at (a.step s p) (stretch a left (a.step s p)) (turn_after a (a.step s p) p e)) h.local ∙ ap (node_at (a.step s p) (stretch a left (a.step s p))) (silent_turn (a.step s p) p h.can)))
          (subst (λ (n : ℕ). Meets (stretch a left (a.step s p) p) (stretch b n t p)) (one_more left more) (on (suc more) (a.step s p) t p h.stays h.can))
        where
          one_more : (left more : ℕ) → suc more + left ≡ more + suc left
          one_more left more = omega arith
      go on (inr (inr h)) =
          subst (λ (n : ℕ). Meets (stretch a (suc left) s p) (stretch b n t p)) (one_more left more)
          (meets (CanGo a (a.step s p)) (a.step s p) (b.step t p) (stretch a left (a.step s p)) (stretch b (more + left) (b.step t p)) _ _
          (after_same a b (a.step s p) (b.step t p) p (a.event s p) f.processes (f.alike (a.step s p) (b.step t p) h.steps) ∙ ap (turn_after b (b.step t p) p) h.event)
          h.steps (after_ready a (a.step s p) p (a.event s p) (λ e free. record { below = c.below; ready = h.ready e; free = free }))
          (λ q d. on more (a.step s p) (b.step t p) q h.steps d))
        where
          one_more : (left more : ℕ) → suc (more + left) ≡ more + suc left
          one_more left more = omega arith

  pub same_limit : (steps : ℕ) (s : S) (t : T) (p : ℕ) → R s t → CanGo a s p → Meets (stretch a steps s p) (stretch b steps t p)
  same_limit steps s t p r c = subst (λ (n : ℕ). Meets (stretch a steps s p) (stretch b n t p)) (none steps) (stretches steps zero s t p r c)
    where
      none : (n : ℕ) → zero + n ≡ n
      none n = omega arith

  pub openings : (steps : ℕ) → Meets (opened a steps) (opened b steps)
  unfolding opened
  openings steps =
      meets (CanGo a a.start) a.start b.start (stretch a steps a.start) (stretch b steps b.start) _ _
      (turn_same a b a.start b.start false 0 f.processes (f.alike a.start b.start f.start)) f.start (turn_ready a a.start false 0 (λ d free. f.begins free))
      (λ q d. same_limit steps a.start b.start q f.start d)

  -- ---- choices

  pub choices_meet : (steps : ℕ) (s : S) (t : T) (p : ℕ) → R s t → may a s p ≡ true → Meets (chosen a steps s p) (chosen b steps t p)
  unfolding chosen
  choices_meet steps s t p r m = subst (λ (c : Bool). Meets (if a.is_pending s then left else stretch a steps s p) (if c then right else stretch b steps t p)) (f.alike s t r).pending (go (a.is_pending s) refl)
    where
      left : Node S
      left = node_at (a.admit s p) (stretch a steps (a.admit s p)) (settled_turn a (a.admit s p) true p)

      right : Node T
      right = node_at (b.admit t p) (stretch b steps (b.admit t p)) (settled_turn b (b.admit t p) true p)

      go : (c : Bool) → a.is_pending s ≡ c → Meets (if c then left else stretch a steps s p) (if c then right else stretch b steps t p)
      go false e = same_limit steps s t p r (may_go a s p e m)
      go true e =
          let c = may_enter a s p e m in
          let k = f.admit s t p r c in
          meets (CanGo a (a.admit s p)) (a.admit s p) (b.admit t p) (stretch a steps (a.admit s p)) (stretch b steps (b.admit t p)) _ _
          (settled_same a b (a.admit s p) (b.admit t p) true p f.processes (f.alike (a.admit s p) (b.admit t p) k)) k (settled_ready a (a.admit s p) true p (f.admitted s t p r c) (λ d. cc))
          (λ q d. same_limit steps (a.admit s p) (b.admit t p) q k d)

  -- ---- runs

  -- a beginning of the word ends early
  pub record EndsEarly (choices steps : ℕ) (word : List ℕ) (x : Node S) : Type 0 where
    pub beginning : List ℕ
    pub rest : List ℕ
    pub outcome : Outcome
    pub begins : word ≡ beginning ++ rest
    pub ends : run_from a steps choices beginning x ≡ Ended outcome (length beginning)
    pub early : broken outcome.kind (last_state_from a steps choices beginning x)

  abbrev pub Compared : (choices steps : ℕ) → List ℕ → Node S → Node T → Type 0
  Compared choices steps word x y = (run_from a steps choices word x ≡ run_from b steps choices word y) ⊎ EndsEarly choices steps word x

  outcome_same : (k l : OutcomeKind) (s : S) (t : T) → k ≡ l → R s t → Ended (record { kind = k; output = a.output s }) 0 ≡ Ended (record { kind = l; output = b.output t }) 0
  outcome_same k l s t e r =
      let d = (f.alike s t r).output in
      cc

  halted_early : (choices steps : ℕ) (word : List ℕ) (k : OutcomeKind) (s : S) → broken k s → EndsEarly choices steps word (Halted k s)
  unfolding run_from last_state_from
  halted_early choices steps word k s h = record { beginning = []; rest = word; outcome = record { kind = k; output = a.output s }; begins = refl; ends = refl; early = h }

  pub runs_compared : (choices steps : ℕ) (word : List ℕ) (x : Node S) (y : Node T) → Meets x y → Compared choices steps word x y
  unfolding run_from last_state_from
  runs_compared choices steps word (Halted k s) (Halted l t) (inl h) = inr (halted_early choices steps word k s h)
  runs_compared choices steps word (Halted k s) (Halted l t) (inr h) = inl (outcome_same k l s t h.0 h.1)
  runs_compared choices steps word (Halted k s) (Choosing t) h = inr (halted_early choices steps word k s h)
  runs_compared choices steps word (Choosing s) (Halted l t) h = absurd h
  runs_compared zero steps word (Choosing s) (Choosing t) h = inl (outcome_same ChoiceLimit ChoiceLimit s t refl h)
  runs_compared (suc choices) steps [] (Choosing s) (Choosing t) h =
      inl (ap Wants (those_same a.processes (may a s) (may b t) (λ q k. may_same a b s t f.processes (f.alike s t h) q) ∙ ap (λ (n : ℕ). those_below n (may b t)) f.processes))
  runs_compared (suc choices) steps (p ∷ word) (Choosing s) (Choosing t) h =
      subst (λ (c : Bool). ((if may a s p then later (run_from a steps choices word (chosen a steps s p)) else NotReady 0) ≡ (if c then later (run_from b steps choices word (chosen b steps t p)) else NotReady 0)) ⊎ EndsEarly (suc choices) steps (p ∷ word) (Choosing s))
      (may_same a b s t f.processes (f.alike s t h) p)
      (go (may a s p) refl (λ e. runs_compared choices steps word (chosen a steps s p) (chosen b steps t p) (choices_meet steps s t p h e)))
    where
      go : (c : Bool) → may a s p ≡ c → (may a s p ≡ true → Compared choices steps word (chosen a steps s p) (chosen b steps t p)) →
          ((if c then later (run_from a steps choices word (chosen a steps s p)) else NotReady 0) ≡ (if c then later (run_from b steps choices word (chosen b steps t p)) else NotReady 0)) ⊎ EndsEarly (suc choices) steps (p ∷ word) (Choosing s)
      go false e next = inl refl
      go true e next = by (next e)
        where
          by : Compared choices steps word (chosen a steps s p) (chosen b steps t p) → (later (run_from a steps choices word (chosen a steps s p)) ≡ later (run_from b steps choices word (chosen b steps t p))) ⊎ EndsEarly (suc choices) steps (p ∷ word) (Choosing s)
          by (inl same) = inl (ap later same)
          by (inr h) =
              inr (record {
                beginning = p ∷ h.beginning;
                rest = h.rest;
                outcome = h.outcome;
                begins = ap (λ (w : List ℕ). p ∷ w) h.begins;
                ends = ap (λ (c : Bool). if c then later (run_from a steps choices h.beginning (chosen a steps s p)) else NotReady 0) e ∙ ap later h.ends;
                early = subst (λ (c : Bool). broken h.outcome.kind (if c then last_state_from a steps choices h.beginning (chosen a steps s p) else s)) (sym e) h.early;
              })
