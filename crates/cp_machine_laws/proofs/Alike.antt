-- Two systems that go in step have the same runs, tables and traces.
use Rattle.std.proofs.Common.{◌≡◌, ◌∙◌, ℕ, zero, suc, ◌<◌, Bool, true, false, ◌&&◌, if◌then◌else◌, List, [], ◌∷◌, ◌++◌, Option, ap, sym, refl, subst, arith, nat_lt}
use Rattle.cp_machine_laws.proofs.Words.{Event, Turn, System, IfGoes, CanGo, CanEnter, LooksAlike, GoInStep, Over, Due, Goes, those_same}
use Rattle.cp_machine.specs.declared.event.Event.TheVariants.{Kernel, Ended as HasEnded}
use Rattle.cp_machine.specs.declared.shown.Shown.{Shown}
use Rattle.cp_run.specs.declared.outcome.OutcomeKind.{OutcomeKind}
use Rattle.cp_run.specs.declared.outcome.OutcomeKind.TheVariants.{ChoiceLimit}
use Rattle.cp_run.specs.declared.line.TraceLine.{TraceLine}
use Rattle.cp_run.specs.declared.line.TraceEvent.TheVariants as trace_event
use Rattle.cp_run.specs.Run.{joined_below, those_below, settled_turn, turn_at, turn_after, Node, Halted, Choosing, node_at, stretch, opened, may, chosen, Ended, Wants, NotReady, later, run_from, run}
use Rattle.cp_run.specs.Table.{words, lines_of, each, table}
use Rattle.cp_run.specs.Trace.{holders_in, step_lines, lines_on, stretch_lines, opened_lines, chosen_lines, trace_from, trace}
use Rattle.cp_machine_laws.proofs.Turns.{joined_same, settled_ready, turn_ready, after_ready, settled_same, turn_same, after_same}
use Rattle.cp_resolved.proofs.components.ComponentImages.{both as and_true}

-- ---- where two runs stand

abbrev pub NodesAlike : {S T : Type 0} → (S → T → Type 0) → Node S → Node T → Type 0
NodesAlike R (Halted k s) (Halted l t) = (k ≡ l) × R s t
NodesAlike R (Choosing s) (Choosing t) = R s t
NodesAlike R (Halted k s) (Choosing t) = ⊥
NodesAlike R (Choosing s) (Halted k t) = ⊥

node_alike : {S T : Type 0} (R : S → T → Type 0) (P : ℕ → Type 0) (s : S) (t : T) (on : ℕ → Node S) (un : ℕ → Node T) (turn : Turn) → R s t → IfGoes turn P → ((q : ℕ) → P q → NodesAlike R (on q) (un q)) → NodesAlike R (node_at s on turn) (node_at t un turn)
node_alike R P s t on un (Over kind) r h k = (refl, r)
node_alike R P s t on un Due r h k = r
node_alike R P s t on un (Goes q) r h k = k q h

-- turns that are equal lead to nodes alike
nodes_alike : {S T : Type 0} (R : S → T → Type 0) (P : ℕ → Type 0) (s : S) (t : T) (on : ℕ → Node S) (un : ℕ → Node T) (u v : Turn) → u ≡ v → R s t → IfGoes u P → ((q : ℕ) → P q → NodesAlike R (on q) (un q)) → NodesAlike R (node_at s on u) (node_at t un v)
nodes_alike R P s t on un u v e r h k = subst (λ (w : Turn). NodesAlike R (node_at s on u) (node_at t un w)) e (node_alike R P s t on un u r h k)

-- ---- one step

-- who goes on after a step may go
pub goes_on : {S T : Type 0} (a : System S) (b : System T) (R : S → T → Type 0) → GoInStep a b R → (s : S) (t : T) (p : ℕ) → R s t → CanGo a s p → IfGoes (turn_after a (a.step s p) p (a.event s p)) (CanGo a (a.step s p))
goes_on a b R g s t p r c = after_ready a (a.step s p) p (a.event s p) (λ e free. record { below = c.below; ready = g.stays s t p r c e; free = free })

-- the same turn after a step of both
pub goes_same : {S T : Type 0} (a : System S) (b : System T) (R : S → T → Type 0) → GoInStep a b R → (s : S) (t : T) (p : ℕ) → R s t → CanGo a s p → turn_after a (a.step s p) p (a.event s p) ≡ turn_after b (b.step t p) p (b.event t p)
goes_same a b R g s t p r c =
    after_same a b (a.step s p) (b.step t p) p (a.event s p) g.processes (g.alike (a.step s p) (b.step t p) (g.step s t p r c))
    ∙ ap (turn_after b (b.step t p) p) (g.event s t p r c)

-- ---- stretches

pub stretches : {S T : Type 0} (a : System S) (b : System T) (R : S → T → Type 0) → GoInStep a b R → (left : ℕ) (s : S) (t : T) (p : ℕ) → R s t → CanGo a s p → NodesAlike R (stretch a left s p) (stretch b left t p)
unfolding stretch
stretches a b R g zero s t p r c = (refl, r)
stretches a b R g (suc left) s t p r c =
    let k = g.step s t p r c in
    nodes_alike R (CanGo a (a.step s p)) (a.step s p) (b.step t p) (stretch a left (a.step s p)) (stretch b left (b.step t p)) _ _
    (goes_same a b R g s t p r c) k (goes_on a b R g s t p r c) (λ q d. stretches a b R g left (a.step s p) (b.step t p) q k d)

pub opening_goes : {S T : Type 0} (a : System S) (b : System T) (R : S → T → Type 0) → GoInStep a b R → IfGoes (turn_at a a.start false 0) (CanGo a a.start)
opening_goes a b R g = turn_ready a a.start false 0 (λ d free. g.begins free)

pub openings : {S T : Type 0} (a : System S) (b : System T) (R : S → T → Type 0) → GoInStep a b R → (steps : ℕ) → NodesAlike R (opened a steps) (opened b steps)
unfolding opened
openings a b R g steps =
    nodes_alike R (CanGo a a.start) a.start b.start (stretch a steps a.start) (stretch b steps b.start) _ _
    (turn_same a b a.start b.start false 0 g.processes (g.alike a.start b.start g.start)) g.start (opening_goes a b R g)
    (λ q d. stretches a b R g steps a.start b.start q g.start d)

-- ---- choices

below_true : (p n : ℕ) → nat_lt p n ≡ true → p < n
below_true p n h = grind (arith, h)

pub may_same : {S T : Type 0} (a : System S) (b : System T) (s : S) (t : T) → a.processes ≡ b.processes → LooksAlike a b s t → (p : ℕ) → may a s p ≡ may b t p
unfolding may
may_same a b s t n h p = go (nat_lt p a.processes) refl ∙ ap (λ (k : ℕ). nat_lt p k && (if b.is_pending t then b.in_line t p else b.is_ready t p)) n
  where
    inner : (c : Bool) → a.in_line s p ≡ b.in_line t p → a.is_ready s p ≡ b.is_ready t p → (if c then a.in_line s p else a.is_ready s p) ≡ (if c then b.in_line t p else b.is_ready t p)
    inner true e d = e
    inner false e d = d

    go : (c : Bool) → nat_lt p a.processes ≡ c → (c && (if a.is_pending s then a.in_line s p else a.is_ready s p)) ≡ (c && (if b.is_pending t then b.in_line t p else b.is_ready t p))
    go false e = refl
    go true e =
        let k = below_true p a.processes e in
        inner (a.is_pending s) (h.lined p k) (h.ready p k) ∙ ap (λ (c : Bool). if c then b.in_line t p else b.is_ready t p) h.pending

-- who is chosen may go, or may be admitted
pub may_go : {S : Type 0} (sys : System S) (s : S) (p : ℕ) → sys.is_pending s ≡ false → may sys s p ≡ true → CanGo sys s p
unfolding may
may_go sys s p e h =
    let k = and_true (nat_lt p sys.processes) (if sys.is_pending s then sys.in_line s p else sys.is_ready s p) h in
    record { below = below_true p sys.processes k.0; ready = ap (λ (c : Bool). if c then sys.in_line s p else sys.is_ready s p) (sym e) ∙ k.1; free = e }

pub may_enter : {S : Type 0} (sys : System S) (s : S) (p : ℕ) → sys.is_pending s ≡ true → may sys s p ≡ true → CanEnter sys s p
unfolding may
may_enter sys s p e h =
    let k = and_true (nat_lt p sys.processes) (if sys.is_pending s then sys.in_line s p else sys.is_ready s p) h in
    record { below = below_true p sys.processes k.0; due = e; lined = ap (λ (c : Bool). if c then sys.in_line s p else sys.is_ready s p) (sym e) ∙ k.1 }

pub admitted_same : {S T : Type 0} (a : System S) (b : System T) (R : S → T → Type 0) → GoInStep a b R → (s : S) (t : T) (p : ℕ) → R s t → CanEnter a s p → settled_turn a (a.admit s p) true p ≡ settled_turn b (b.admit t p) true p
admitted_same a b R g s t p r c = settled_same a b (a.admit s p) (b.admit t p) true p g.processes (g.alike (a.admit s p) (b.admit t p) (g.admit s t p r c))

pub admitted_goes : {S T : Type 0} (a : System S) (b : System T) (R : S → T → Type 0) → GoInStep a b R → (s : S) (t : T) (p : ℕ) → R s t → CanEnter a s p → IfGoes (settled_turn a (a.admit s p) true p) (CanGo a (a.admit s p))
admitted_goes a b R g s t p r c = settled_ready a (a.admit s p) true p (g.admitted s t p r c) (λ d. cc)

pub choices_alike : {S T : Type 0} (a : System S) (b : System T) (R : S → T → Type 0) → GoInStep a b R → (steps : ℕ) (s : S) (t : T) (p : ℕ) → R s t → may a s p ≡ true → NodesAlike R (chosen a steps s p) (chosen b steps t p)
unfolding chosen
choices_alike {S} {T} a b R g steps s t p r m = subst (λ (c : Bool). NodesAlike R (if a.is_pending s then left else stretch a steps s p) (if c then right else stretch b steps t p)) (g.alike s t r).pending (go (a.is_pending s) refl)
  where
    left : Node S
    left = node_at (a.admit s p) (stretch a steps (a.admit s p)) (settled_turn a (a.admit s p) true p)

    right : Node T
    right = node_at (b.admit t p) (stretch b steps (b.admit t p)) (settled_turn b (b.admit t p) true p)

    go : (c : Bool) → a.is_pending s ≡ c → NodesAlike R (if c then left else stretch a steps s p) (if c then right else stretch b steps t p)
    go false e = stretches a b R g steps s t p r (may_go a s p e m)
    go true e =
        let c = may_enter a s p e m in
        let k = g.admit s t p r c in
        nodes_alike R (CanGo a (a.admit s p)) (a.admit s p) (b.admit t p) (stretch a steps (a.admit s p)) (stretch b steps (b.admit t p)) _ _
        (admitted_same a b R g s t p r c) k (admitted_goes a b R g s t p r c) (λ q d. stretches a b R g steps (a.admit s p) (b.admit t p) q k d)

-- ---- runs

outcome_same : (k l : OutcomeKind) (f h : List Shown) → k ≡ l → f ≡ h → Ended (record { kind = k; output = f }) 0 ≡ Ended (record { kind = l; output = h }) 0
outcome_same k l f h e d = cc

pub runs_same : {S T : Type 0} (a : System S) (b : System T) (R : S → T → Type 0) → GoInStep a b R → (steps choices : ℕ) (word : List ℕ) (x : Node S) (y : Node T) → NodesAlike R x y → run_from a steps choices word x ≡ run_from b steps choices word y
unfolding run_from
runs_same a b R g steps choices word (Halted k s) (Halted l t) h = outcome_same k l (a.output s) (b.output t) h.0 (g.alike s t h.1).output
runs_same a b R g steps zero word (Choosing s) (Choosing t) h = outcome_same ChoiceLimit ChoiceLimit (a.output s) (b.output t) refl (g.alike s t h).output
runs_same a b R g steps (suc choices) [] (Choosing s) (Choosing t) h =
    ap Wants (those_same a.processes (may a s) (may b t) (λ q k. may_same a b s t g.processes (g.alike s t h) q) ∙ ap (λ (n : ℕ). those_below n (may b t)) g.processes)
runs_same {S} {T} a b R g steps (suc choices) (p ∷ word) (Choosing s) (Choosing t) h =
    subst (λ (c : Bool). (if may a s p then later (run_from a steps choices word (chosen a steps s p)) else NotReady 0) ≡ (if c then later (run_from b steps choices word (chosen b steps t p)) else NotReady 0)) (may_same a b s t g.processes (g.alike s t h) p) (go (may a s p) (λ e. runs_same a b R g steps choices word (chosen a steps s p) (chosen b steps t p) (choices_alike a b R g steps s t p h e)) refl)
  where
    go : (c : Bool) → (may a s p ≡ true → run_from a steps choices word (chosen a steps s p) ≡ run_from b steps choices word (chosen b steps t p)) → may a s p ≡ c → (if c then later (run_from a steps choices word (chosen a steps s p)) else NotReady 0) ≡ (if c then later (run_from b steps choices word (chosen b steps t p)) else NotReady 0)
    go true next e = ap later (next e)
    go false next e = refl
runs_same a b R g steps choices word (Halted k s) (Choosing t) h = absurd h
runs_same a b R g steps choices word (Choosing s) (Halted l t) h = absurd h

pub run_same : {S T : Type 0} (a : System S) (b : System T) (R : S → T → Type 0) → GoInStep a b R → (choices steps : ℕ) (word : List ℕ) → run a choices steps word ≡ run b choices steps word
run_same a b R g choices steps word = runs_same a b R g steps choices word (opened a steps) (opened b steps) (openings a b R g steps)

-- ---- tables

pub each_same : {A B : Type 0} (f h : A → List B) (xs : List A) → ((x : A) → f x ≡ h x) → each f xs ≡ each h xs
each_same f h [] e = refl
each_same f h (x ∷ xs) e =
    let d = e x in
    let k = each_same f h xs e in
    cc

pub table_same : {S T : Type 0} (a : System S) (b : System T) (R : S → T → Type 0) → GoInStep a b R → (choices steps : ℕ) → table a choices steps ≡ table b choices steps
unfolding table
table_same a b R g choices steps =
    each_same (λ word. lines_of word (run a choices steps word)) (λ word. lines_of word (run b choices steps word)) (words a.processes choices) (λ word. ap (lines_of word) (run_same a b R g choices steps word))
    ∙ ap (λ (n : ℕ). each (λ word. lines_of word (run b choices steps word)) (words n choices)) g.processes

-- ---- traces

pub holders_same : {S T : Type 0} (a : System S) (b : System T) (s : S) (t : T) → a.monitors ≡ b.monitors → LooksAlike a b s t → holders_in a s ≡ holders_in b t
holders_same a b s t n h =
    joined_same a.monitors (λ m. a.holder s m ∷ []) (λ m. b.holder t m ∷ []) (λ m k. ap (λ (o : Option ℕ). o ∷ []) (h.holder m k))
    ∙ ap (λ (k : ℕ). joined_below k (λ m. b.holder t m ∷ [])) n

pub step_lines_same : {S T : Type 0} (a : System S) (b : System T) (s : S) (t : T) (p : ℕ) (e : Event) → a.monitors ≡ b.monitors → LooksAlike a b s t → step_lines a s p e ≡ step_lines b t p e
step_lines_same a b s t p (Kernel call) n h = ap (λ (hs : List (Option ℕ)). (let l : TraceLine = record { process = p; event = trace_event.Kernel call; holders = hs } in l) ∷ []) (holders_same a b s t n h)
step_lines_same a b s t p HasEnded n h = ap (λ (hs : List (Option ℕ)). (let l : TraceLine = record { process = p; event = trace_event.End; holders = hs } in l) ∷ []) (holders_same a b s t n h)
step_lines_same a b s t p _ n h = refl

lines_on_same : (P : ℕ → Type 0) (f h : ℕ → List TraceLine) (u : Turn) → IfGoes u P → ((q : ℕ) → P q → f q ≡ h q) → lines_on f u ≡ lines_on h u
lines_on_same P f h (Goes q) i e = e q i
lines_on_same P f h _ i e = refl

pub stretch_lines_same : {S T : Type 0} (a : System S) (b : System T) (R : S → T → Type 0) → GoInStep a b R → (left : ℕ) (s : S) (t : T) (p : ℕ) → R s t → CanGo a s p → stretch_lines a left s p ≡ stretch_lines b left t p
unfolding stretch_lines
stretch_lines_same a b R g zero s t p r c = refl
stretch_lines_same a b R g (suc left) s t p r c =
    let k = g.step s t p r c in
    let one : step_lines a (a.step s p) p (a.event s p) ≡ step_lines b (b.step t p) p (b.event t p) =
    step_lines_same a b (a.step s p) (b.step t p) p (a.event s p) g.monitors (g.alike (a.step s p) (b.step t p) k) ∙ ap (step_lines b (b.step t p) p) (g.event s t p r c) in
    let two : lines_on (stretch_lines a left (a.step s p)) (turn_after a (a.step s p) p (a.event s p)) ≡ lines_on (stretch_lines b left (b.step t p)) (turn_after b (b.step t p) p (b.event t p)) =
    lines_on_same (CanGo a (a.step s p)) (stretch_lines a left (a.step s p)) (stretch_lines b left (b.step t p)) (turn_after a (a.step s p) p (a.event s p)) (goes_on a b R g s t p r c) (λ q d. stretch_lines_same a b R g left (a.step s p) (b.step t p) q k d)
    ∙ ap (lines_on (stretch_lines b left (b.step t p))) (goes_same a b R g s t p r c) in
    cc

pub opened_lines_same : {S T : Type 0} (a : System S) (b : System T) (R : S → T → Type 0) → GoInStep a b R → (steps : ℕ) → opened_lines a steps ≡ opened_lines b steps
unfolding opened_lines
opened_lines_same a b R g steps =
    lines_on_same (CanGo a a.start) (stretch_lines a steps a.start) (stretch_lines b steps b.start) (turn_at a a.start false 0) (opening_goes a b R g) (λ q d. stretch_lines_same a b R g steps a.start b.start q g.start d)
    ∙ ap (lines_on (stretch_lines b steps b.start)) (turn_same a b a.start b.start false 0 g.processes (g.alike a.start b.start g.start))

abbrev admit_line : ℕ → List (Option ℕ) → TraceLine
admit_line p hs = record { process = p; event = trace_event.Admit; holders = hs }

pub chosen_lines_same : {S T : Type 0} (a : System S) (b : System T) (R : S → T → Type 0) → GoInStep a b R → (steps : ℕ) (s : S) (t : T) (p : ℕ) → R s t → may a s p ≡ true → chosen_lines a steps s p ≡ chosen_lines b steps t p
unfolding chosen_lines
chosen_lines_same a b R g steps s t p r m = subst (λ (c : Bool). (if a.is_pending s then left else stretch_lines a steps s p) ≡ (if c then right else stretch_lines b steps t p)) (g.alike s t r).pending (go (a.is_pending s) refl)
  where
    left : List TraceLine
    left = admit_line p (holders_in a (a.admit s p)) ∷ lines_on (stretch_lines a steps (a.admit s p)) (settled_turn a (a.admit s p) true p)

    right : List TraceLine
    right = admit_line p (holders_in b (b.admit t p)) ∷ lines_on (stretch_lines b steps (b.admit t p)) (settled_turn b (b.admit t p) true p)

    go : (c : Bool) → a.is_pending s ≡ c → (if c then left else stretch_lines a steps s p) ≡ (if c then right else stretch_lines b steps t p)
    go false e = stretch_lines_same a b R g steps s t p r (may_go a s p e m)
    go true e =
        let c = may_enter a s p e m in
        let k = g.admit s t p r c in
        let one : admit_line p (holders_in a (a.admit s p)) ≡ admit_line p (holders_in b (b.admit t p)) = ap (admit_line p) (holders_same a b (a.admit s p) (b.admit t p) g.monitors (g.alike (a.admit s p) (b.admit t p) k)) in
        let two : lines_on (stretch_lines a steps (a.admit s p)) (settled_turn a (a.admit s p) true p) ≡ lines_on (stretch_lines b steps (b.admit t p)) (settled_turn b (b.admit t p) true p) =
        lines_on_same (CanGo a (a.admit s p)) (stretch_lines a steps (a.admit s p)) (stretch_lines b steps (b.admit t p)) (settled_turn a (a.admit s p) true p) (admitted_goes a b R g s t p r c) (λ q d. stretch_lines_same a b R g steps (a.admit s p) (b.admit t p) q k d)
        ∙ ap (lines_on (stretch_lines b steps (b.admit t p))) (admitted_same a b R g s t p r c) in
        cc

pub traces_same : {S T : Type 0} (a : System S) (b : System T) (R : S → T → Type 0) → GoInStep a b R → (steps choices : ℕ) (word : List ℕ) (x : Node S) (y : Node T) → NodesAlike R x y → trace_from a steps choices word x ≡ trace_from b steps choices word y
unfolding trace_from
traces_same a b R g steps (suc choices) (p ∷ word) (Choosing s) (Choosing t) h =
    subst (λ (c : Bool). (if may a s p then chosen_lines a steps s p ++ trace_from a steps choices word (chosen a steps s p) else []) ≡ (if c then chosen_lines b steps t p ++ trace_from b steps choices word (chosen b steps t p) else [])) (may_same a b s t g.processes (g.alike s t h) p) (go (may a s p) (λ e. chosen_lines_same a b R g steps s t p h e) (λ e. traces_same a b R g steps choices word (chosen a steps s p) (chosen b steps t p) (choices_alike a b R g steps s t p h e)) refl)
  where
    go : (c : Bool) → (may a s p ≡ true → chosen_lines a steps s p ≡ chosen_lines b steps t p) → (may a s p ≡ true → trace_from a steps choices word (chosen a steps s p) ≡ trace_from b steps choices word (chosen b steps t p)) → may a s p ≡ c → (if c then chosen_lines a steps s p ++ trace_from a steps choices word (chosen a steps s p) else []) ≡ (if c then chosen_lines b steps t p ++ trace_from b steps choices word (chosen b steps t p) else [])
    go true here next e =
        let one = here e in
        let two = next e in
        cc
    go false here next e = refl
traces_same a b R g steps choices word (Halted k s) (Choosing t) h = absurd h
traces_same a b R g steps choices word (Choosing s) (Halted l t) h = absurd h
traces_same a b R g steps _ _ _ _ h = refl

pub trace_same : {S T : Type 0} (a : System S) (b : System T) (R : S → T → Type 0) → GoInStep a b R → (choices steps : ℕ) (word : List ℕ) → trace a choices steps word ≡ trace b choices steps word
trace_same a b R g choices steps word =
    let one = opened_lines_same a b R g steps in
    let two = traces_same a b R g steps choices word (opened a steps) (opened b steps) (openings a b R g steps) in
    cc
