-- Who is delayed in a monitor has an open entry of it or initialises it, and who is unstarted has no open call: at the start, and after each step.
use Rattle.std.proofs.Common.{◌≡◌, ℕ, zero, suc, ◌<◌, ◌∙◌, ◌⊎◌, inl, inr, true, List, [], ◌∷◌, length, None, Ok, Err, ap, sym, refl, subst}
use Rattle.cp_at_once_laws.proofs.Words.{SystemKind, Program, Outcome, system_of, View, bound, Move, enters, delays, ends, Doing, takes, kernel_step, IsWellFormed}
use Rattle.cp_at_once_laws.proofs.Words.{frames, entry_in, initial_in, HeldCalls, Bottom, OrderlyState, MoveFits, Good, GoodOutcome, Owned, OwnedBy, both, starts_process}
use Rattle.cp_tree.specs.declared.declaration.SystemKind.TheVariants as system_kind
use Rattle.cp_meaning.specs.State.{Component, component_at, Call, Environment, Status, unstarted, ready, at_gate, delayed, ended, Process, process_at, Discipline, book_discipline, State}
use Rattle.cp_meaning.specs.Steps.{first_components, unstarted_process, process_first, processes_from, own_begun, opening, settled, step_of}
use Rattle.cp_meaning.proofs.OwnKernel.{OwnedState, kernel_step_owned}
use Rattle.cp_at_once_laws.proofs.reading.Sources.{AllKnow, FromHere, AllCome, takes_comes}
use Rattle.cp_at_once_laws.proofs.pairs.Changes.{Becomes, Changes, same, itself, woken, begins, kernel_changes}
use Rattle.cp_at_once_laws.proofs.pairs.Facts.{done, Open, open_of}
use Rattle.cp_at_once_laws.proofs.pairs.Fit.{Waits, Waiting}

-- ---- at the start

abbrev Fresh : Process → Type 0
Fresh x = ((x.status ≡ unstarted) × (x.calls ≡ [])) ⊎ (x.status ≡ ready)

AllFresh : List Process → Type 0
AllFresh ps = (q : ℕ) → Fresh (process_at ps q)

fresh_none : AllFresh []
unfolding AllFresh
fresh_none = λ q. inl (refl, refl)

fresh_more : (x : Process) (ps : List Process) → Fresh x → AllFresh ps → AllFresh (x ∷ ps)
unfolding AllFresh
fresh_more x ps h k zero = h
fresh_more x ps h k (suc q) = k q

fresh_rest : (x : Process) (ps : List Process) → AllFresh (x ∷ ps) → AllFresh ps
unfolding AllFresh
fresh_rest x ps h = λ q. h (suc q)

fresh_first : (k : SystemKind) (n : ℕ) (ps : List Process) → AllFresh ps → AllFresh (process_first k n ps)
fresh_first system_kind.Process n ps h = fresh_more (unstarted_process n) ps (inl (refl, refl)) h
fresh_first _ n ps h = h

fresh_from : (cs : List Component) (n : ℕ) → AllFresh (processes_from n cs)
fresh_from [] n = fresh_none
fresh_from (c ∷ cs) n = fresh_first c.kind n (processes_from (suc n) cs) (fresh_from cs (suc n))

fresh_begun : (p : Program) (cs : List Component) (ps : List Process) → AllFresh ps → AllFresh (own_begun p cs ps)
fresh_begun p (c ∷ cs) (x ∷ ps) h = fresh_more _ ps (inr refl) (fresh_rest x ps h)
fresh_begun p _ _ h = h

fresh_waits : (cs : List Component) (x : Process) → Fresh x → Waits cs x
fresh_waits cs x (inl h) = record { delayed_inside = λ m mon e. (let bad : unstarted ≡ delayed m = sym h.0 ∙ e in absurd cc); unstarted_outside = λ e. h.1 }
fresh_waits cs x (inr h) = record { delayed_inside = λ m mon e. (let bad : ready ≡ delayed m = sym h ∙ e in absurd cc); unstarted_outside = λ e. (let bad : ready ≡ unstarted = sym h ∙ e in absurd cc) }

pub waiting_opening : (p : Program) (g : Discipline) → Waiting (opening p g)
unfolding AllFresh
waiting_opening p g q = fresh_waits (first_components p) _ (fresh_begun p (first_components p) (processes_from 0 (first_components p)) (fresh_from (first_components p) 0) q)

-- ---- after a step

kept_kinds : (cs ds : List Component) (x : Process) → ((n : ℕ) → (component_at ds n).kind ≡ (component_at cs n).kind) → Waits cs x → Waits ds x
kept_kinds cs ds x k h = record { delayed_inside = λ m mon e. h.delayed_inside m (sym (k m) ∙ mon) e; unstarted_outside = h.unstarted_outside }

never_unstarted : (move : Move) (status : Status) → Becomes move status → status ≡ unstarted → ⊥
never_unstarted (enters m) status (inl h) e = (let bad : ready ≡ unstarted = sym h ∙ e in absurd cc)
never_unstarted (enters m) status (inr h) e = (let bad : at_gate m ≡ unstarted = sym h ∙ e in absurd cc)
never_unstarted (delays m) status h e = (let bad : delayed m ≡ unstarted = sym h ∙ e in absurd cc)
never_unstarted ends status h e = (let bad : ended ≡ unstarted = sym h ∙ e in absurd cc)
never_unstarted x status h e = (let bad : ready ≡ unstarted = sym h ∙ e in absurd cc)

queue_of : Status → ℕ
queue_of (delayed n) = n
queue_of _ = 0

same_queue : (m j : ℕ) → delayed m ≡ delayed j → m ≡ j
unfolding queue_of
same_queue m j e = ap queue_of e

delays_there : (move : Move) (status : Status) (m : ℕ) → Becomes move status → status ≡ delayed m → move ≡ delays m
delays_there (enters k) status m (inl h) e = (let bad : ready ≡ delayed m = sym h ∙ e in absurd cc)
delays_there (enters k) status m (inr h) e = (let bad : at_gate k ≡ delayed m = sym h ∙ e in absurd cc)
delays_there (delays k) status m h e = ap delays (same_queue k m (sym h ∙ e))
delays_there ends status m h e = (let bad : ended ≡ delayed m = sym h ∙ e in absurd cc)
delays_there x status m h e = (let bad : ready ≡ delayed m = sym h ∙ e in absurd cc)

-- anything may be known
abbrev Any : ℕ → Type 0
Any n = Unit {0}

any_known : (p : Program) (c : Call) (calls : List Call) (cs : List Component) (pid : ℕ) (o : Outcome Environment) → AllKnow p c calls cs pid Any o
any_known p c calls cs pid (Ok e) = λ k x h. tt
any_known p c calls cs pid (Err e) = tt

module _ (p : Program) (ok : IsWellFormed p) (s : State) (pid : ℕ) (owned : OwnedState (first_components p) s) (orderly : OrderlyState s) (first : s.discipline ≡ book_discipline) (free : s.pending ≡ None) (lt : pid < length s.processes) (is_ready : (process_at s.processes pid).status ≡ ready) (old : Waiting s) where
  abbrev x : Process
  x = process_at s.processes pid

  -- what is known of what the item does
  record Known (d : Doing) : Type 0 where
    good : Good s.components (frames x.calls) (frames d.calls) d.components d.items d.move
    own : Owned (first_components p) x.component d.calls d.components d.move
    delaying : (m : ℕ) → d.move ≡ delays m → frames d.calls ≡ frames x.calls

  abbrev AllKnown : Outcome Doing → Type 0
  AllKnown (Ok d) = Known d
  AllKnown (Err e) = Unit {0}

  known_at : (c : Call) (calls : List Call) → x.calls ≡ c ∷ calls → (o : Outcome Doing) → GoodOutcome s.components (frames (c ∷ calls)) o → OwnedBy (first_components p) x.component o →
      AllCome p c calls s.components pid Any (λ n d y e. tt) (λ k es. any_known p c calls s.components pid (bound (let v : View = record { program = p; calls = c ∷ calls; components = s.components } in v) (system_of p k).parameters es)) o → AllKnown o
  known_at c calls e (Ok d) g o h =
      record {
        good = subst (λ k. Good s.components (frames k) (frames d.calls) d.components d.items d.move) (sym e) g;
        own = o;
        delaying = λ m is. (subst (FromHere p c calls s.components pid Any (frames d.calls)) is h.from).1 ∙ ap frames (sym e);
      }
  known_at c calls e (Err y) g o h = tt

  known_open : Open p s pid → AllKnown (done p s pid)
  known_open o =
      let c = o.call in
      let calls = o.calls in
      let held = owned.processes pid lt in
      let h = both p ok s pid owned orderly lt is_ready (c ∷ calls) x.items o.are refl tt (subst (HeldCalls (first_components p) x.component) o.are held.held) (subst (λ k. Bottom x.component (frames k)) o.are held.bottom) in
      subst (λ k. AllKnown (takes (let v : View = record { program = p; calls = k; components = s.components } in v) pid x.items)) (sym o.are)
      (known_at c calls o.are (takes (let v : View = record { program = p; calls = c ∷ calls; components = s.components } in v) pid x.items) h.0 h.1
      (takes_comes p c calls s.components pid Any (λ n d y e. tt) (λ k es. any_known p c calls s.components pid (bound (let v : View = record { program = p; calls = c ∷ calls; components = s.components } in v) (system_of p k).parameters es)) x.items))

  known : AllKnown (done p s pid)
  known = known_open (open_of p s pid x.calls refl ((orderly.orderly.processes pid lt).open_calls (λ h. (let bad : ready ≡ unstarted = sym is_ready ∙ h in cc))))

  changed_waits : (d : Doing) → Known d → (n : ℕ) (now : Process) → Changes p pid d d.move n (process_at s.processes n) now → Waits s.components now
  changed_waits d k n now (same e) = subst (Waits s.components) (sym e) (old n)
  changed_waits d k n now (itself status i b e) =
      record {
        delayed_inside = λ m mon h. (let move = delays_there d.move status m b (sym (ap (λ y. y.status) e) ∙ h) in
            let fits = subst (MoveFits s.components (frames x.calls) (frames d.calls)) move k.good.moves in
            subst (λ fs. (entry_in m fs ≡ true) ⊎ (initial_in m fs ≡ true)) (sym (k.delaying m move) ∙ ap (λ y. frames y.calls) (sym e)) (fits.1 mon));
        unstarted_outside = λ h. absurd (never_unstarted d.move status b (sym (ap (λ y. y.status) e) ∙ h));
      }
  changed_waits d k n now (woken m g i w e) = fresh_waits s.components now (inr (ap (λ y. y.status) e))
  changed_waits d k n now (begins c j v g i o u e) = fresh_waits s.components now (inr (ap (λ y. y.status) e))

  settled_waits : (o : Outcome Doing) → AllKnown o → Waiting (settled p s pid o).state
  settled_waits (Err e) k n = old n
  settled_waits (Ok d) k n =
      let t = kernel_step_owned p s pid (first_components p) owned lt is_ready d d.move k.own (starts_process p ok s pid owned orderly lt is_ready d d.move k.good) in
      kept_kinds s.components (kernel_step p s pid d d.move).state.components _ (λ j. t.tree.kind j ∙ sym (owned.tree.kind j))
      (changed_waits d k n _ (kernel_changes p s pid d is_ready orderly.orderly.lines (λ m. k.good.layout.line m) d.move first n))

  pub waiting_step : Waiting (step_of p s pid).state
  waiting_step = settled_waits (done p s pid) known
