-- Each kernel rule keeps what holds in reached states.
use Rattle.std.proofs.Common.{◌≡◌, ℕ, zero, suc, ◌<◌, ◌==◌, ◌∙◌, ◌⊎◌, inl, inr, Bool, true, false, ◌&&◌, ◌||◌, if◌then◌else◌, List, [], ◌∷◌, ◌++◌, length, slice_set, Option, Some, None, ap, sym, refl, subst, arith, eqb-true, eq-eqb, length-set}
use Rattle.std.proofs.lemmas.Bool.{cases_eq}
use Rattle.cp_tree.specs.declared.declaration.SystemKind.TheVariants as system_kind
use Rattle.cp_meaning.proofs.Words.{Program, system_of, items_of_all, with_permanents, Move, stays, enters, leaves, delays, continues, starts, shows, ends, Doing}
use Rattle.cp_tree.specs.declared.declaration.SystemKind.{SystemKind}
use Rattle.cp_meaning.specs.State.{Environment, uninitialised, initialising, initialised, Component, component_at, own_statement, Call, Item, end, Status, unstarted, ready, at_gate, delayed, ended, Process, process_at, Signals, return_signals, continue_signals, wait_signals, State, has_entry, waits_at, is_inside}
use Rattle.cp_meaning.specs.Kernel.{output_room, with_line, with_process_status, is_monitor, waits_inside, at_gate_last, notifying, at_gate_first, going_on, signalling, moved_to, made_ready, let_in, is_anybody_inside, entering, is_delayed_in, continuing, process_of, begun, starting_as, starting, displaying, kernel_step}
use Rattle.cp_meaning.proofs.Frames.{frames, entry_in, initial_in, entry-frames, ItemsFit, Descends, descends_same, plain-fit}
use Rattle.cp_meaning.proofs.PlainItems.{plain_all}
use Rattle.cp_meaning.proofs.Good.{IsMonitor, status_at, NonEmpty, StatusMoves, NoneEntered, Left, Good}
use Rattle.cp_meaning.proofs.Stored.{SameComponents, permanents_kept}
use Rattle.cp_meaning.proofs.Orderly.{inside_parts, inside_from, ProcessFits, IsAbsent, LineFits, line_at, Nobody, initialises_now, Orderly, SameKinds, which, within_set, replaced, absent_by_status, line_set, line_more, relined}
use Rattle.cp_meaning.proofs.LineLaw.{OrderlyState, queue_waits, resumed, comes_to_gate, let_in_law}

pub nobody_told : (m : ℕ) (ps : List Process) → is_anybody_inside m ps ≡ false → Nobody ps m
nobody_told m [] h q lt i = omega arith
nobody_told m (p ∷ ps) h q lt i = go q (is_inside m p) refl h lt i (nobody_told m ps)
  where
    go : (q : ℕ) (b : Bool) → is_inside m p ≡ b → (b || is_anybody_inside m ps) ≡ false → q < length (p ∷ ps) → is_inside m (process_at (p ∷ ps) q) ≡ true → (is_anybody_inside m ps ≡ false → Nobody ps m) → ⊥
    go q true e h lt i rest = (let bad : true ≡ false = h in absurd cc)
    go zero false e h lt i rest = (let bad : true ≡ false = sym i ∙ e in absurd cc)
    go (suc q) false e h lt i rest = rest h q (omega arith) i

pub begun_process : (ps : List Process) (r : ℕ) → ((process_at ps r).status ≡ unstarted → ⊥) → r < length ps
begun_process [] r h = absurd (h refl)
begun_process (p ∷ ps) zero h = omega arith
begun_process (p ∷ ps) (suc r) h = let lt = begun_process ps r h in omega arith

pub delayed_told : (m : ℕ) (status : Status) → is_delayed_in m status ≡ true → status ≡ delayed m
delayed_told m (delayed n) h = ap delayed (eqb-true n m h)
delayed_told m x h = cc

module _ (p : Program) (s : State) (pid : ℕ) (old : Orderly s.components s.processes) (none : s.pending ≡ None) (lt : pid < length s.processes) (is_ready : (process_at s.processes pid).status ≡ ready) (d : Doing) where
  abbrev pub cs : List Component
  cs = s.components

  abbrev pub ds : List Component
  ds = d.components

  abbrev pub me : Process
  me = process_at s.processes pid

  abbrev pub become : Status → Process
  become status = record { component = me.component; status = status; calls = d.calls; items = d.items }

  abbrev pub after : Status → List Process
  after status = slice_set s.processes pid (become status)

  not_pending : (m : ℕ) {A : Type 0} → s.pending ≡ Some m → A
  not_pending m h = absurd (let bad : None ≡ Some m = sym none ∙ h in cc)

  absent : (m : ℕ) → IsAbsent pid (line_at cs m)
  absent m = absent_by_status cs s.processes m pid (line_at cs m) (λ h. (let bad : ready ≡ at_gate m = sym is_ready ∙ h in cc)) (old.lines m)

  pub was_inside : (m : ℕ) → entry_in m (frames me.calls) ≡ true → is_inside m me ≡ true
  was_inside m h = inside_from m me h (ap (waits_at m) is_ready)

  pub here : (status : Status) → process_at (after status) pid ≡ become status
  here status = go (which s.processes pid pid (become status) lt)
    where
      go : ((pid ≡ pid) × (process_at (after status) pid ≡ become status)) ⊎ ((pid ≡ pid → ⊥) × (process_at (after status) pid ≡ me)) → process_at (after status) pid ≡ become status
      go (inl h) = h.1
      go (inr h) = absurd (h.0 refl)

  module _ (move : Move) (good : Good cs (frames me.calls) (frames d.calls) ds d.items move) where
    kinds : SameKinds cs ds
    kinds = record { system = good.layout.system; kind = good.layout.kind }

    fits_now : (status : Status) → ProcessFits ds (become status)
    fits_now status = record { fits = good.fits; order = descends_same cs ds (frames d.calls) kinds.system kinds.kind good.order; open_calls = λ h. good.open_calls; starting = good.starting; entering = good.entering }

    initial_now : (m : ℕ) → initial_in m (frames d.calls) ≡ true → (q : ℕ) → q < length s.processes → initialises_now m (process_at s.processes q) ≡ true → q ≡ pid
    initial_now m h q lq hq = go (good.fresh m h)
      where
        go : (initial_in m (frames me.calls) ≡ true) ⊎ (status_at cs m ≡ uninitialised) → q ≡ pid
        go (inl mine) = old.one_initial m q pid lq lt hq mine
        go (inr free) = absurd (let bad : initialising ≡ uninitialised = sym ((old.processes q lq).starting m hq) ∙ free in cc)

    -- the process is as its item left it
    pub moved : (status : Status) → ((m : ℕ) → IsMonitor cs m → is_inside m (become status) ≡ true → (q : ℕ) → q < length s.processes → is_inside m (process_at s.processes q) ≡ true → q ≡ pid) → Orderly ds (after status)
    moved status inside =
        replaced cs ds s.processes pid (become status) old kinds good.status (inl lt) (fits_now status) initial_now inside
        (λ m. subst (LineFits ds (after status) m) (sym (good.layout.line m)) (line_set cs ds s.processes pid (become status) m (line_at cs m) (kinds.kind m) (absent m) (old.lines m)))

    inside_old : (status : Status) → NoneEntered cs (frames me.calls) (frames d.calls) → (m : ℕ) → IsMonitor cs m → is_inside m (become status) ≡ true → (q : ℕ) → q < length s.processes → is_inside m (process_at s.processes q) ≡ true → q ≡ pid
    inside_old status entered m mon h q lq hq = old.one_inside m mon q pid lq lt hq (was_inside m (entered m mon (inside_parts m (become status) h).0))

    pub goes_on : (status : Status) → NoneEntered cs (frames me.calls) (frames d.calls) → Orderly ds (after status)
    goes_on status entered = moved status (inside_old status entered)

    -- nobody else was inside
    nobody_other : (n q : ℕ) (status : Status) → IsMonitor ds n → q < length (after status) → (process_at (after status) q ≡ process_at s.processes q) → (q ≡ pid → ⊥) → is_inside n (process_at (after status) q) ≡ true → is_inside n me ≡ true → ⊥
    nobody_other n q status mon lq e ne h mine =
        ne (old.one_inside n (sym (kinds.kind n) ∙ mon) q pid (within_set s.processes pid q (become status) lq) lt (sym (ap (is_inside n) e) ∙ h) mine)

    pub nobody_left : (n : ℕ) → Left cs (frames me.calls) (frames d.calls) n → IsMonitor ds n → Nobody (after ready) n
    nobody_left n left mon q lq h = go (which s.processes pid q (become ready) (within_set s.processes pid q (become ready) lq))
      where
        both : (entry_in n (frames me.calls) ≡ true) × (entry_in n (frames d.calls) ≡ false)
        both = left (sym (kinds.kind n) ∙ mon)

        go : ((q ≡ pid) × (process_at (after ready) q ≡ become ready)) ⊎ ((q ≡ pid → ⊥) × (process_at (after ready) q ≡ process_at s.processes q)) → ⊥
        go (inl e) = (let bad : true ≡ false = sym (inside_parts n (become ready) (sym (ap (is_inside n) e.1) ∙ h)).0 ∙ both.1 in absurd cc)
        go (inr e) = nobody_other n q ready mon lq e.1 e.0 h (was_inside n both.0)

    pub nobody_delayed : (n : ℕ) → (IsMonitor cs n → (entry_in n (frames me.calls) ≡ true) ⊎ (initial_in n (frames me.calls) ≡ true)) → IsMonitor ds n → Nobody (after (delayed n)) n
    nobody_delayed n in_it mon q lq h = go (which s.processes pid q (become (delayed n)) (within_set s.processes pid q (become (delayed n)) lq))
      where
        other : (process_at (after (delayed n)) q ≡ process_at s.processes q) → (q ≡ pid → ⊥) → (entry_in n (frames me.calls) ≡ true) ⊎ (initial_in n (frames me.calls) ≡ true) → ⊥
        other e ne (inl mine) = nobody_other n q (delayed n) mon lq e ne h (was_inside n mine)
        other e ne (inr mine) =
            let his = (old.processes q (within_set s.processes pid q (become (delayed n)) lq)).entering n (inside_parts n (process_at s.processes q) (sym (ap (is_inside n) e) ∙ h)).0 in
            (let bad : initialising ≡ initialised = sym ((old.processes pid lt).starting n mine) ∙ his in absurd cc)

        go : ((q ≡ pid) × (process_at (after (delayed n)) q ≡ become (delayed n))) ⊎ ((q ≡ pid → ⊥) × (process_at (after (delayed n)) q ≡ process_at s.processes q)) → ⊥
        go (inl e) = (let bad : true ≡ false = sym (eq-eqb n n refl) ∙ (inside_parts n (become (delayed n)) (sym (ap (is_inside n) e.1) ∙ h)).1 in absurd cc)
        go (inr e) = other e.1 e.0 (in_it (sym (kinds.kind n) ∙ mon))

  -- ---- the kernel calls

  entering_law : (n : ℕ) (b : Bool) → is_anybody_inside n s.processes ≡ b → Good cs (frames me.calls) (frames d.calls) ds d.items (enters n) → OrderlyState (entering b s pid n d)
  entering_law n false e good = record { orderly = moved (enters n) good ready (λ m mon h q lq hq. go m mon h q lq hq (cases_eq n m)); pending = λ m h. not_pending m h }
    where
      go : (m : ℕ) → IsMonitor cs m → is_inside m (become ready) ≡ true → (q : ℕ) → q < length s.processes → is_inside m (process_at s.processes q) ≡ true → (n ≡ m) ⊎ (n ≡ m → ⊥) → q ≡ pid
      go m mon h q lq hq (inl same) = absurd (nobody_told n s.processes e q lq (subst (λ j. is_inside j (process_at s.processes q) ≡ true) (sym same) hq))
      go m mon h q lq hq (inr ne) = old.one_inside m mon q pid lq lt hq (was_inside m (good.moves.2 m mon ne (inside_parts m (become ready) h).0))
  entering_law n true e good =
      record {
        orderly = relined ds (after (at_gate n)) n _ now (line_more ds (after (at_gate n)) n pid (line_at ds n) (good.layout.kind n ∙ good.moves.0) (rw (length-set s.processes pid (become (at_gate n))) lt) (ap (λ q. q.status) (here (at_gate n))) (ap (λ q. entry_in n (frames q.calls)) (here (at_gate n)) ∙ good.moves.1) (subst (IsAbsent pid) (sym (good.layout.line n)) (absent n)) (now.lines n));
        pending = λ m h. not_pending m h;
      }
    where
      go : (m : ℕ) → IsMonitor cs m → is_inside m (become (at_gate n)) ≡ true → (q : ℕ) → q < length s.processes → is_inside m (process_at s.processes q) ≡ true → q ≡ pid
      go m mon h q lq hq =
          let parts = inside_parts m (become (at_gate n)) h in
          old.one_inside m mon q pid lq lt hq (was_inside m (good.moves.2 m mon (λ same. (let bad : true ≡ false = sym (eq-eqb n m same) ∙ parts.1 in cc)) parts.0))

      now : Orderly ds (after (at_gate n))
      now = moved (enters n) good (at_gate n) go

  resumed_law : (m r : ℕ) (t : State) (b : Bool) → is_delayed_in m (process_at t.processes r).status ≡ b → Orderly t.components t.processes → (IsMonitor t.components m → Nobody t.processes m) → t.pending ≡ None → OrderlyState (if b then made_ready t r else let_in t.discipline.gates t m)
  resumed_law m r t true e now nobody free =
      let st = delayed_told m (process_at t.processes r).status e in
      record {
        orderly = resumed t.components t.processes m r now (begun_process t.processes r (λ h. (let bad : delayed m ≡ unstarted = sym st ∙ h in cc))) (queue_waits m (process_at t.processes r).status st) nobody
            (λ j. absent_by_status t.components t.processes j r (line_at t.components j) (λ h. (let bad : delayed m ≡ at_gate j = sym st ∙ h in cc)) (now.lines j));
        pending = λ n h. absurd (let bad : None ≡ Some n = sym free ∙ h in cc);
      }
  resumed_law m r t false e now nobody free = let_in_law t.discipline.gates t m now nobody free

  continuing_law : (m : ℕ) (o : Option ℕ) (t : State) → Orderly t.components t.processes → (IsMonitor t.components m → Nobody t.processes m) → t.pending ≡ None → OrderlyState (continuing t m o)
  continuing_law m None t now nobody free = let_in_law t.discipline.gates t m now nobody free
  continuing_law m (Some r) t now nobody free = resumed_law m r t (is_delayed_in m (process_at t.processes r).status) refl now nobody free

  -- ---- a process begins

  module _ (c r : ℕ) (e : Environment) (now : Orderly ds (after ready)) (its_kind : (component_at ds c).kind ≡ system_kind.Process) (idle : (process_at (after ready) r).status ≡ unstarted) where
    abbrev es : List Component
    es = with_permanents ds c e

    abbrev new : Process
    new = begun c (system_of p (component_at ds c).system)

    begun_law : Orderly es (slice_set (after ready) r new)
    begun_law =
        replaced ds es (after ready) r new now (record { system = kept.layout.system; kind = kept.layout.kind }) (λ m. inl (kept.status m)) (inr kept.status) fits
        (λ m h q lq hq. absurd (let bad : false ≡ true = h in cc)) (λ m mon h q lq hq. absurd (let bad : false ≡ true = h in cc))
        (λ m. subst (LineFits es (slice_set (after ready) r new) m) (sym (kept.layout.line m)) (line_set ds es (after ready) r new m (line_at ds m) (kept.layout.kind m) (absent_by_status ds (after ready) m r (line_at ds m) (λ h. (let bad : unstarted ≡ at_gate m = sym idle ∙ h in cc)) (now.lines m)) (now.lines m)))
      where
        kept : SameComponents ds es
        kept = permanents_kept ds c e

        fits : ProcessFits es new
        fits =
            record {
              fits = plain-fit ((own_statement, c) ∷ []) (items_of_all (system_of p (component_at ds c).system).scope (system_of p (component_at ds c).system).body) (end ∷ []) (plain_all (system_of p (component_at ds c).system).scope (system_of p (component_at ds c).system).body) (λ m. refl);
              order = kept.layout.kind c ∙ its_kind;
              open_calls = λ h. tt;
              starting = λ m h. absurd (let bad : false ≡ true = h in cc);
              entering = λ m h. absurd (let bad : false ≡ true = h in cc);
            }

  starting_as_law : (c r : ℕ) (e : Environment) (status : Status) → Orderly ds (after ready) → (component_at ds c).kind ≡ system_kind.Process → (process_at (after ready) r).status ≡ status → OrderlyState (starting_as p s pid d r status c e).state
  starting_as_law c r e unstarted now its_kind idle = record { orderly = begun_law c r (e ++ (component_at ds c).environment) now its_kind idle; pending = λ m h. not_pending m h }
  starting_as_law c r e _ now its_kind idle = record { orderly = old; pending = λ m h. not_pending m h }

  starting_law : (c : ℕ) (o : Option ℕ) (e : Environment) → Orderly ds (after ready) → (component_at ds c).kind ≡ system_kind.Process → OrderlyState (starting p s pid d o c e).state
  starting_law c None e now its_kind = record { orderly = now; pending = λ m h. not_pending m h }
  starting_law c (Some r) e now its_kind = starting_as_law c r e (process_at (after ready) r).status now its_kind refl

  displaying_law : (b : Bool) (x : _) → Good cs (frames me.calls) (frames d.calls) ds d.items (shows x) → OrderlyState (displaying b s pid d x).state
  displaying_law true x good = record { orderly = old; pending = λ m h. not_pending m h }
  displaying_law false x good = record { orderly = goes_on (shows x) good ready good.moves; pending = λ m h. not_pending m h }

-- ---- continue where the caller goes on

both_true : (a b : Bool) → (a && b) ≡ true → (a ≡ true) × (b ≡ true)
both_true true true h = (refl, refl)
both_true a b h = cc

monitor_told : (kind : SystemKind) → is_monitor kind ≡ true → kind ≡ system_kind.Monitor
monitor_told system_kind.Monitor h = refl
monitor_told kind h = cc

-- who waits in a queue of the monitor, in an entry call of it
record WaitsInside (s : State) (m r : ℕ) : Type 0 where
  monitor : IsMonitor s.components m
  entry : entry_in m (frames (process_at s.processes r).calls) ≡ true
  status : (process_at s.processes r).status ≡ delayed m

inside_told : (s : State) (m r : ℕ) → waits_inside s m r ≡ true → WaitsInside s m r
inside_told s m r h =
    let one = both_true (is_monitor (component_at s.components m).kind && has_entry m (process_at s.processes r).calls) (is_delayed_in m (process_at s.processes r).status) h in
    let two = both_true (is_monitor (component_at s.components m).kind) (has_entry m (process_at s.processes r).calls) one.0 in
    record {
      monitor = monitor_told (component_at s.components m).kind two.0;
      entry = sym (entry-frames m (process_at s.processes r).calls) ∙ two.1;
      status = delayed_told m (process_at s.processes r).status one.1;
    }

-- who is delayed has begun, and stands in no line
delayed_there : (m r : ℕ) (ps : List Process) → (process_at ps r).status ≡ delayed m → r < length ps
delayed_there m r ps st = begun_process ps r (λ h. (let bad : delayed m ≡ unstarted = sym st ∙ h in cc))

delayed_absent : (m r : ℕ) (cs : List Component) (ps : List Process) → Orderly cs ps → (process_at ps r).status ≡ delayed m → (j : ℕ) → IsAbsent r (line_at cs j)
delayed_absent m r cs ps now st j = absent_by_status cs ps j r (line_at cs j) (λ h. (let bad : delayed m ≡ at_gate j = sym st ∙ h in cc)) (now.lines j)

set_here : (ps : List Process) (r : ℕ) (x : Process) → r < length ps → process_at (slice_set ps r x) r ≡ x
set_here ps r x lt = go (which ps r r x lt)
  where
    go : ((r ≡ r) × (process_at (slice_set ps r x) r ≡ x)) ⊎ ((r ≡ r → ⊥) × (process_at (slice_set ps r x) r ≡ process_at ps r)) → process_at (slice_set ps r x) r ≡ x
    go (inl h) = h.1
    go (inr h) = absurd (h.0 refl)

-- who was resumed is the last of the line
last_law : (m r : ℕ) (t : State) → WaitsInside t m r → Orderly t.components t.processes → t.pending ≡ None → OrderlyState (at_gate_last t m r)
last_law m r t w now free =
    record {
      orderly = relined t.components (slice_set t.processes r x) m _ there (
          line_more t.components (slice_set t.processes r x) m r (line_at t.components m) w.monitor (rw (length-set t.processes r x) lt) (ap (λ p. p.status) here)
          (ap (λ p. entry_in m (frames p.calls)) here ∙ w.entry) (absent m) (there.lines m));
      pending = λ n h. absurd (let bad : None ≡ Some n = sym free ∙ h in cc);
    }
  where
    x : Process
    x = with_process_status (process_at t.processes r) (at_gate m)

    lt : r < length t.processes
    lt = delayed_there m r t.processes w.status

    absent : (j : ℕ) → IsAbsent r (line_at t.components j)
    absent = delayed_absent m r t.components t.processes now w.status

    here : process_at (slice_set t.processes r x) r ≡ x
    here = set_here t.processes r x lt

    there : Orderly t.components (slice_set t.processes r x)
    there = comes_to_gate t.components t.processes m r now lt (queue_waits m (process_at t.processes r).status w.status) absent

notifying_law : (m : ℕ) (o : Option ℕ) (t : State) → Orderly t.components t.processes → t.pending ≡ None → OrderlyState (notifying t m o)
notifying_law m None t now free = record { orderly = now; pending = λ n h. absurd (let bad : None ≡ Some n = sym free ∙ h in cc) }
notifying_law m (Some r) t now free = go (waits_inside t m r) refl
  where
    go : (b : Bool) → waits_inside t m r ≡ b → OrderlyState (if b then at_gate_last t m r else t)
    go true e = last_law m r t (inside_told t m r e) now free
    go false e = record { orderly = now; pending = λ n h. absurd (let bad : None ≡ Some n = sym free ∙ h in cc) }

module _ (p : Program) (s : State) (pid : ℕ) (old : Orderly s.components s.processes) (none : s.pending ≡ None) (lt : pid < length s.processes) (is_ready : (process_at s.processes pid).status ≡ ready) (d : Doing) where
  abbrev caller : Process
  caller = process_at s.processes pid

  -- ---- what its item left, where the caller goes on

  module _ (n : ℕ) (o : Option ℕ) (calls : List Call) (items : List Item) (good : Good s.components (frames caller.calls) (frames d.calls) d.components d.items (continues n o calls items)) where
    same : frames calls ≡ frames caller.calls
    same = good.moves.2

    mine : ProcessFits s.components caller
    mine = old.processes pid lt

    was_entry : (m : ℕ) → entry_in m (frames calls) ≡ true → entry_in m (frames caller.calls) ≡ true
    was_entry m h = subst (λ fs. entry_in m fs ≡ true) same h

    was_initial : (m : ℕ) → initial_in m (frames calls) ≡ true → initial_in m (frames caller.calls) ≡ true
    was_initial m h = subst (λ fs. initial_in m fs ≡ true) same h

    still_initialised : (m : ℕ) → entry_in m (frames calls) ≡ true → status_at d.components m ≡ initialised
    still_initialised m h = go (good.status m)
      where
        then_it_was : status_at s.components m ≡ initialised
        then_it_was = mine.entering m (was_entry m h)

        go : StatusMoves s.components d.components (frames caller.calls) m → status_at d.components m ≡ initialised
        go (inl e) = e ∙ then_it_was
        go (inr (inl e)) = absurd (let bad : uninitialised ≡ initialised = sym e.0 ∙ then_it_was in cc)
        go (inr (inr e)) = absurd (let bad : initialising ≡ initialised = sym e.0 ∙ then_it_was in cc)

    going_good : Good s.components (frames caller.calls) (frames calls) d.components items stays
    going_good =
        record {
          layout = good.layout;
          open_calls = subst NonEmpty (sym same) (mine.open_calls (λ h. (let bad : ready ≡ unstarted = sym is_ready ∙ h in cc)));
          fits = subst (λ fs. ItemsFit fs items) (sym same) good.moves.3;
          order = subst (Descends s.components) (sym same) mine.order;
          status = good.status;
          starting = λ m h. good.starting m (good.moves.4 m (was_initial m h));
          entering = still_initialised;
          fresh = λ m h. inl (was_initial m h);
          moves = λ m mon h. was_entry m h;
        }

    abbrev goer : Doing
    goer = going_on d calls items

    gone_on : (status : Status) → Orderly d.components (after p s pid old none lt is_ready goer status)
    gone_on status = goes_on p s pid old none lt is_ready goer stays going_good status going_good.moves

    -- ---- who waited goes in, and the caller is the first of the line

    module _ (r : ℕ) (w : WaitsInside s n r) where
      abbrev gone : List Process
      gone = after p s pid old none lt is_ready goer (at_gate n)

      abbrev lined : List Component
      lined = with_line d.components n (pid ∷ line_at d.components n)

      entered : entry_in n (frames caller.calls) ≡ true
      entered = (good.moves.1 w.monitor).0

      monitor_still : IsMonitor d.components n
      monitor_still = good.layout.kind n ∙ w.monitor

      itself : process_at gone pid ≡ become p s pid old none lt is_ready goer (at_gate n)
      itself = here p s pid old none lt is_ready goer (at_gate n)

      first_there : Orderly lined gone
      first_there =
          relined d.components gone n (pid ∷ line_at d.components n) (gone_on (at_gate n)) (
            monitor_still,
            rw (length-set s.processes pid (become p s pid old none lt is_ready goer (at_gate n))) lt,
            ap (λ q. q.status) itself,
            ap (λ q. entry_in n (frames q.calls)) itself ∙ subst (λ fs. entry_in n fs ≡ true) (sym same) entered,
            subst (IsAbsent pid) (sym (good.layout.line n)) (absent p s pid old none lt is_ready goer n),
            (gone_on (at_gate n)).lines n,
          )

      other : r ≡ pid → ⊥
      other e = (let bad : delayed n ≡ ready = sym w.status ∙ ap (λ q. (process_at s.processes q).status) e ∙ is_ready in cc)

      still_delayed : (process_at gone r).status ≡ delayed n
      still_delayed = go (which s.processes pid r (become p s pid old none lt is_ready goer (at_gate n)) (delayed_there n r s.processes w.status))
        where
          go : ((r ≡ pid) × (process_at gone r ≡ become p s pid old none lt is_ready goer (at_gate n))) ⊎ ((r ≡ pid → ⊥) × (process_at gone r ≡ process_at s.processes r)) → (process_at gone r).status ≡ delayed n
          go (inl e) = absurd (other e.0)
          go (inr e) = ap (λ q. q.status) e.1 ∙ w.status

      nobody : Nobody gone n
      nobody q lq h = go (which s.processes pid q (become p s pid old none lt is_ready goer (at_gate n)) (within_set s.processes pid q _ lq))
        where
          go : ((q ≡ pid) × (process_at gone q ≡ become p s pid old none lt is_ready goer (at_gate n))) ⊎ ((q ≡ pid → ⊥) × (process_at gone q ≡ process_at s.processes q)) → ⊥
          go (inl e) = (let bad : true ≡ false = sym (eq-eqb n n refl) ∙ (inside_parts n (become p s pid old none lt is_ready goer (at_gate n)) (sym (ap (is_inside n) e.1) ∙ h)).1 in absurd cc)
          go (inr e) = nobody_other p s pid old none lt is_ready goer stays going_good n q (at_gate n) monitor_still lq e.1 e.0 h (was_inside p s pid old none lt is_ready goer n entered)

      yielded_law : OrderlyState (made_ready (at_gate_first s pid n goer) r)
      yielded_law =
          record {
            orderly = resumed lined gone n r first_there (delayed_there n r gone still_delayed) (queue_waits n (process_at gone r).status still_delayed) (λ mon. nobody) (delayed_absent n r lined gone first_there still_delayed);
            pending = λ m h. absurd (let bad : None ≡ Some m = sym none ∙ h in cc);
          }

  signalling_law : (signals : Signals) (n : ℕ) (o : Option ℕ) (calls : List Call) (items : List Item) → Good s.components (frames caller.calls) (frames d.calls) d.components d.items (continues n o calls items) → OrderlyState (signalling signals s pid d n o calls items)
  signalling_law return_signals n o calls items good =
      continuing_law p s pid old none lt is_ready d n o (moved_to ready s pid d) (goes_on p s pid old none lt is_ready d (continues n o calls items) good ready good.moves.0)
      (nobody_left p s pid old none lt is_ready d (continues n o calls items) good n good.moves.1) none
  signalling_law continue_signals n o calls items good = notifying_law n o (moved_to ready s pid (going_on d calls items)) (gone_on n o calls items good ready) none
  signalling_law wait_signals n None calls items good = record { orderly = gone_on n None calls items good ready; pending = λ m h. absurd (let bad : None ≡ Some m = sym none ∙ h in cc) }
  signalling_law wait_signals n (Some r) calls items good = go (waits_inside s n r) refl
    where
      go : (b : Bool) → waits_inside s n r ≡ b → OrderlyState (if b then made_ready (at_gate_first s pid n (going_on d calls items)) r else moved_to ready s pid (going_on d calls items))
      go true e = yielded_law n (Some r) calls items good r (inside_told s n r e)
      go false e = record { orderly = gone_on n (Some r) calls items good ready; pending = λ m h. absurd (let bad : None ≡ Some m = sym none ∙ h in cc) }

  pub kernel_step_law : (move : Move) → Good s.components (frames caller.calls) (frames d.calls) d.components d.items move → OrderlyState (kernel_step p s pid d move).state
  kernel_step_law stays good = record { orderly = goes_on p s pid old none lt is_ready d stays good ready good.moves; pending = λ m h. not_pending p s pid old none lt is_ready d m h }
  kernel_step_law (enters n) good = entering_law p s pid old none lt is_ready d n (is_anybody_inside n s.processes) refl good
  kernel_step_law (leaves n) good = let_in_law s.discipline.gates (moved_to ready s pid d) n (goes_on p s pid old none lt is_ready d (leaves n) good ready good.moves.0) (nobody_left p s pid old none lt is_ready d (leaves n) good n good.moves.1) none
  kernel_step_law (delays n) good = let_in_law s.discipline.gates (moved_to (delayed n) s pid d) n (goes_on p s pid old none lt is_ready d (delays n) good (delayed n) good.moves.0) (nobody_delayed p s pid old none lt is_ready d (delays n) good n good.moves.1) none
  kernel_step_law (continues n o calls items) good = signalling_law s.discipline.signals n o calls items good
  kernel_step_law (starts c e) good = starting_law p s pid old none lt is_ready d c (process_of c (after p s pid old none lt is_ready d ready)) e (goes_on p s pid old none lt is_ready d (starts c e) good ready good.moves.0) (good.layout.kind c ∙ good.moves.1)
  kernel_step_law (shows x) good = displaying_law p s pid old none lt is_ready d (length s.output == output_room) x good
  kernel_step_law ends good = record { orderly = goes_on p s pid old none lt is_ready d ends good ended good.moves; pending = λ m h. not_pending p s pid old none lt is_ready d m h }
