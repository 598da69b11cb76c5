-- Quiet steps and steps of other ready processes may be made in either order, on the meaning of a program on its own names.
use Rattle.std.proofs.Common.{◌≡◌, ◌≢◌, ◌⊎◌, inl, inr, ◌∙◌, ◌<◌, ◌≤◌, ◌==◌, ℕ, zero, suc, Bool, true, false, List, [], ◌∷◌, length, Option, None, Some, Ok, Err, ap, sym, refl, subst, arith, slice_index}
use Rattle.cp_at_once_laws.proofs.Words.{Contains, map, Program, Tree, Outcome, Move, stays, starts, shows, Doing, takes, IsWellFormed, CanGo, is_call, Commutes, IsPlain}
use Rattle.cp_at_once_laws.proofs.Words.{is_ready, shown_of, event_of, is_some, constants_before, names, is_quiet, IsSomewhere, IsQuietStep}
use Rattle.cp_machine.specs.declared.event.Event.TheVariants as event
use Rattle.cp_machine.specs.declared.shown.Shown as slot_shown
use Rattle.cp_meaning.specs.Kernel.{Event, local_event, enter_event, fault_event, output_full, output_room, moved_to, process_of, starting_as, starting, displaying, kernel_step}
use Rattle.cp_meaning.specs.State.{Environment, Status, unstarted, ready, Process, process_at, Shown, State}
use Rattle.cp_meaning.specs.Steps.{settled, step_of, view_of, at_items, line_at}
use Rattle.cp_machine_laws.specs.Running.{steps, met_first, met_by_step}
use Rattle.cp_at_once_laws.proofs.names.Beside.{is_failure, QuietHere, Beside, BesideLaw}
use Rattle.cp_at_once_laws.proofs.names.Opening.{first_ready, later_not_ready}
use Rattle.cp_at_once_laws.proofs.names.States.{Kept, Known, known, fits, ready_told}
use Rattle.cp_at_once_laws.proofs.pairs.Changes.{left_by, replaced_at}
use Rattle.cp_at_once_laws.proofs.pairs.Staying.{step_stays}

-- ---- who is ready is one of the processes

pub within_of : (ps : List Process) (q : ℕ) → (process_at ps q).status ≡ ready → q < length ps
within_of [] q e = absurd (let bad : unstarted ≡ ready = e in cc)
within_of (x ∷ ps) zero e = omega arith
within_of (x ∷ ps) (suc q) e = let h = within_of ps q e in omega (arith, h)

-- ---- events

event_line : (q line : ℕ) (e : Event) → (is_call (event_of q line e) ≡ true) ⊎ (event_of q line e ≡ event.Local) → is_failure e ≡ false
event_line q line (fault_event e) (inl h) = cc
event_line q line (fault_event e) (inr h) = cc
event_line q line output_full (inl h) = cc
event_line q line output_full (inr h) = cc
event_line q line _ h = refl

no_failure : (q line : ℕ) (e : Event) → (event_of q line e ≡ event.Local) ⊎ (is_call (event_of q line e) ≡ true) → is_failure e ≡ false
no_failure q line e (inl h) = event_line q line e (inr h)
no_failure q line e (inr h) = event_line q line e (inl h)

quiet_event : (q line : ℕ) (e : Event) → is_failure e ≡ false → (e ≡ enter_event → ⊥) → is_quiet (event_of q line e) ≡ true
quiet_event q line enter_event h k = absurd (k refl)
quiet_event q line (fault_event e) h k = cc
quiet_event q line output_full h k = cc
quiet_event q line _ h k = refl

event_quiet : (q line : ℕ) (e : Event) → is_quiet (event_of q line e) ≡ true → (is_failure e ≡ false) × (e ≡ enter_event → ⊥)
event_quiet q line enter_event h = absurd cc
event_quiet q line (fault_event e) h = absurd cc
event_quiet q line output_full h = absurd cc
event_quiet q line x h = (refl, λ k. cc)

local_told : (q line : ℕ) (e : Event) → event_of q line e ≡ event.Local → e ≡ local_event
local_told q line local_event h = refl
local_told q line x h = cc

-- ---- who made a local step is ready

module _ (p : Program) (s : State) (pid : ℕ) (less : pid < length s.processes) (d : Doing) where
  moved_status : (status : Status) → (process_at (moved_to status s pid d).processes pid).status ≡ status
  moved_status status = go (replaced_at s.processes pid pid (left_by (process_at s.processes pid) d status))
    where
      go : ((pid ≡ pid) × (pid < length s.processes) × (process_at (moved_to status s pid d).processes pid ≡ left_by (process_at s.processes pid) d status)) ⊎
          ((pid ≡ pid → length s.processes ≤ pid) × (process_at (moved_to status s pid d).processes pid ≡ process_at s.processes pid)) → (process_at (moved_to status s pid d).processes pid).status ≡ status
      go (inl h) = ap (λ x. x.status) h.2
      go (inr h) = (let le = h.0 refl in absurd (omega (arith, le, less)))

  as_not_local : (r c : ℕ) (e : Environment) (status : Status) → (starting_as p s pid d r status c e).event ≡ local_event → ⊥
  as_not_local r c e unstarted h = cc
  as_not_local r c e x h = cc

  start_not_local : (o : Option ℕ) (c : ℕ) (e : Environment) → (starting p s pid d o c e).event ≡ local_event → ⊥
  start_not_local None c e h = cc
  start_not_local (Some r) c e h = as_not_local r c e (process_at (moved_to ready s pid d).processes r).status h

  show_not_local : (b : Bool) (x : Shown) → (displaying b s pid d x).event ≡ local_event → ⊥
  show_not_local true x h = cc
  show_not_local false x h = cc

  local_ready : (move : Move) → (kernel_step p s pid d move).event ≡ local_event → (process_at (kernel_step p s pid d move).state.processes pid).status ≡ ready
  local_ready stays h = moved_status ready
  local_ready (starts c e) h = absurd (start_not_local (process_of c (moved_to ready s pid d).processes) c e h)
  local_ready (shows x) h = absurd (show_not_local (length s.output == output_room) x h)
  local_ready x h = absurd cc

settled_ready : (p : Program) (s : State) (pid : ℕ) → pid < length s.processes → (o : Outcome Doing) → (settled p s pid o).event ≡ local_event → (process_at (settled p s pid o).state.processes pid).status ≡ ready
settled_ready p s pid less (Ok d) h = local_ready p s pid less d d.move h
settled_ready p s pid less (Err e) h = absurd cc

module _ (t : Tree) (wf : IsWellFormed t.program) (kept : Kept t.program) (law : BesideLaw t.program) where
  abbrev p : Program
  p = t.program

  abbrev Met : State → Type 0
  Met = IsSomewhere t

  told : (s : State) (q : ℕ) → (names t).is_ready s q ≡ true → (process_at s.processes q).status ≡ ready
  told s q e = ready_told t wf kept s q e

  at_of : (s : State) → Met s → Known t wf kept s
  at_of s met = known t wf kept met.happened s met.met

  can_go : (s : State) (q : ℕ) → Met s → (names t).is_ready s q ≡ true → CanGo (names t) s q
  can_go s q met e =
      let k = at_of s met in
      record { below = (let a = k.many in let b = within_of s.processes q (told s q e) in omega (arith, a, b)); ready = e; free = ap is_some k.pending }

  kept_met : (s : State) (q : ℕ) → Met s → (names t).is_ready s q ≡ true → Met ((names t).step s q)
  kept_met s q met e = record { happened = steps q ∷ met.happened; met = met_by_step met.happened s q met.met (can_go s q met e) }

  here : (s : State) (a : ℕ) → IsQuietStep t s a → QuietHere p s a
  here s a q = let e = event_quiet a (line_at t s a) (step_of p s a).event q.event in record { event = e.0; no_enter = e.1; statuses = q.statuses }

  there : (s : State) (a : ℕ) → QuietHere p s a → IsQuietStep t s a
  there s a q = record { event = quiet_event a (line_at t s a) (step_of p s a).event q.event q.no_enter; statuses = q.statuses }

  beside : (s : State) (a b : ℕ) → Met s → a ≢ b → (names t).is_ready s a ≡ true → (names t).is_ready s b ≡ true → IsQuietStep t s a → Beside p s a b
  beside s a b met ne ra rb quiet = law s a b (fits t wf kept s met) ne (told s a ra) (told s b rb) (here s a quiet)

  -- the line of an item
  line_same : (s u : State) (a : ℕ) → process_at u.processes a ≡ process_at s.processes a → line_at t u a ≡ line_at t s a
  line_same s u a e = ap (λ (x : Process). slice_index t.lines (at_items x.items)) e

  events_same : (s u : State) (a : ℕ) → process_at u.processes a ≡ process_at s.processes a → (step_of p u a).event ≡ (step_of p s a).event → (names t).event u a ≡ (names t).event s a
  events_same s u a e h = ap (λ l. event_of a l (step_of p u a).event) (line_same s u a e) ∙ ap (event_of a (line_at t s a)) h

  fine : (s : State) (b : ℕ) → ((names t).event s b ≡ event.Local) ⊎ (is_call ((names t).event s b) ≡ true) → is_failure (step_of p s b).event ≡ false
  fine s b h = no_failure b (line_at t s b) (step_of p s b).event h

  pub commutes : Commutes (names t) Met (IsQuietStep t)
  commutes =
      record {
        kept = kept_met;
        goes_on = λ s q met e local.
            ap is_ready (settled_ready p s q (within_of s.processes q (told s q e)) (takes (view_of p s q) q (process_at s.processes q).items) (local_told q (line_at t s q) (step_of p s q).event local));
        stays_ready = λ s a b met ne ra rb. ap is_ready (step_stays a p s b ne (told s a ra));
        other_event = λ s a b met ne ra rb quiet. (let h = beside s a b met ne ra rb quiet in events_same s ((names t).step s a) b h.other_same h.other_event);
        quiet_event = λ s a b met ne ra rb quiet e. (let h = beside s a b met ne ra rb quiet in events_same s ((names t).step s b) a h.same (h.event (fine s b e)));
        quiet_still = λ s a b met ne ra rb quiet e. (let h = beside s a b met ne ra rb quiet in there ((names t).step s b) a (h.still (fine s b e)));
        same_state = λ s a b met ne ra rb quiet e. (let h = beside s a b met ne ra rb quiet in h.state (fine s b e));
      }

  -- ---- displayed values

  -- what a step shows, if nothing was shown before
  abbrev pub Shows : slot_shown.Shown → State → ℕ → Type 0
  Shows v s q = Contains (map (shown_of (constants_before t.program)) (step_of t.program s q).state.output) v

  pub shows_there : (v : slot_shown.Shown) (s : State) (a b : ℕ) → Met s → a ≢ b → (names t).is_ready s a ≡ true → (names t).is_ready s b ≡ true → IsQuietStep t s a → Shows v s b → Shows v ((names t).step s a) b
  shows_there v s a b met ne ra rb quiet h = subst (λ (out : List Shown). Contains (map (shown_of (constants_before t.program)) out) v) (sym (beside s a b met ne ra rb quiet).other_output) h

  pub shows_back : (v : slot_shown.Shown) (s : State) (a b : ℕ) → Met s → a ≢ b → (names t).is_ready s a ≡ true → (names t).is_ready s b ≡ true → IsQuietStep t s a →
      ((names t).event s b ≡ event.Local) ⊎ (is_call ((names t).event s b) ≡ true) → Shows v ((names t).step s b) a → Shows v s a
  shows_back v s a b met ne ra rb quiet e h = subst (λ (out : List Shown). Contains (map (shown_of (constants_before t.program)) out) v) ((beside s a b met ne ra rb quiet).output (fine s b e)) h

  -- ---- what is asked of the system

  others_wait : (q : ℕ) → (names t).is_ready (names t).start q ≡ true → q ≡ 0
  others_wait zero e = refl
  others_wait (suc q) e = absurd (later_not_ready p q (told (names t).start (suc q) e))

  pub plain : IsPlain (names t) Met
  plain =
      record {
        start = record { happened = []; met = met_first };
        free = λ s met. ap is_some (at_of s met).pending;
        below = λ s q met e. (can_go s q met e).below;
        first = ap is_ready (first_ready p);
        others = others_wait;
      }
