-- Process a goes out of a monitor that process b enters.
use Rattle.std.proofs.Common.{◌≡◌, ◌≢◌, ℕ, ◌<◌, ◌∙◌, ◌⊎◌, inl, inr, Bool, true, false, if◌then◌else◌, List, [], ◌∷◌, ◌++◌, length, slice_set, Option, Some, None, Ok, ap, sym, refl, subst, length-set}
use Rattle.cp_at_once_laws.proofs.Words.{cases_eq, Program, Move, enters, leaves, delays, continues, starts, Doing, settled, step_of, IsWellFormed, frames, entry_in}
use Rattle.cp_at_once_laws.proofs.Words.{initial_in, IsMonitor, NoneEntered, MoveFits, status_at, line_status, inside_from, LineFits, line_at, Nobody, Orderly}
use Rattle.cp_tree.specs.declared.declaration.SystemKind.TheVariants as system_kind
use Rattle.cp_meaning.specs.State.{component_at, initialising, initialised, is_inside, waits_at, Status, unstarted, ready, at_gate, delayed, Process, process_at, Gates, first_gates, any_gates, book_discipline, State}
use Rattle.cp_meaning.specs.Kernel.{enter_event, Stepped, line_of, with_line_of, moved_to, with_process_status, made_ready, first_in, one_in, let_in, is_anybody_inside, entering, is_delayed_in, continuing, kernel_step}
use Rattle.cp_meaning.proofs.KernelLaw.{begun_process, delayed_told, nobody_left, nobody_delayed, goes_on}
use Rattle.cp_meaning.proofs.LocalLaw.{within}
use Rattle.cp_at_once_laws.proofs.reading.Mixed.{one_of, mix_at}
use Rattle.cp_at_once_laws.proofs.reading.Taking.{also_mixed, all_mixed}
use Rattle.cp_at_once_laws.proofs.pairs.Apart.{Other, itself, Moves, apart, taken}
use Rattle.cp_at_once_laws.proofs.pairs.Beside.{Beside, stands, other_same, procs, own, ln, leaves_a, leaves_b, quiet_after, t_is, self_still}
use Rattle.cp_at_once_laws.proofs.pairs.ByTheBook.{gates_first, returns_at_once}
use Rattle.cp_at_once_laws.proofs.pairs.Changes.{GoesFrom, moved_status}
use Rattle.cp_at_once_laws.proofs.pairs.Entering.{other_at, same_at, nothing, alone_in_line, last_in_line, last_after_woken}
use Rattle.cp_at_once_laws.proofs.pairs.Facts.{done, Facts}
use Rattle.cp_at_once_laws.proofs.pairs.Fit.{StartsKnown, Fits}
use Rattle.cp_at_once_laws.proofs.pairs.Flags.{QuietDone, in_range, facts_of, open_of, facts_at, moves_a, flagged_a, flagged_b, statuses_b}
use Rattle.cp_at_once_laws.proofs.pairs.Inside.{anybody_true, nobody_false, first_inside}
use Rattle.cp_at_once_laws.proofs.pairs.Merging.{merged, MoveOwn, IsApart, taken_merged}
use Rattle.cp_at_once_laws.proofs.pairs.Shape.{is_failure, kernel_exact, static_of}
use Rattle.cp_at_once_laws.proofs.pairs.Two.{AllStatic, flipped, silent, processes_self, others_state, others_flipped}

-- the same with every line flagged
every_line : (procs own ln : ℕ → Bool) (X s : State) (a : ℕ) (d : Doing) (move : Move) → MoveOwn procs own ln X s a d move → MoveOwn procs own (λ n. true) X s a d move
every_line procs own ln X s a d (enters k) h = (h.0, refl)
every_line procs own ln X s a d (leaves k) h = (refl, h.1)
every_line procs own ln X s a d (delays k) h = (refl, h.1)
every_line procs own ln X s a d (continues k o going items) h = (refl, h.1, h.2)
every_line procs own ln X s a d (starts c e) h = h
every_line procs own ln X s a d _ h = tt

module _ (p : Program) (ok : IsWellFormed p) (rules : StartsKnown p) (s : State) (f : Fits p s) (a b : ℕ) (ne : a ≢ b) (ra : (process_at s.processes a).status ≡ ready) (rb : (process_at s.processes b).status ≡ ready) (da : Doing) (quiet : QuietDone p s a da)
    (db : Doing) (is_b : done p s b ≡ Ok db) (m : ℕ) (ga : GoesFrom da.move m) (eb : db.move ≡ enters m) where
  abbrev P : ℕ → Bool
  P = procs p ok rules s f a b ne ra rb da quiet

  abbrev O : ℕ → Bool
  O = own p ok rules s f a b ne ra rb da quiet

  abbrev L : ℕ → Bool
  L = ln p ok rules s f a b ne ra rb da quiet

  abbrev S : State
  S = (step_of p s a).state

  la : a < length s.processes
  la = in_range p ok rules s f a ra

  lb : b < length s.processes
  lb = in_range p ok rules s f b rb

  fact_a : Facts p s a da
  fact_a = facts_at p ok rules s f a da ra quiet.is

  fact_b : Facts p s b db
  fact_b = facts_at p ok rules s f b db rb is_b

  -- ---- the monitor

  enter_fits : MoveFits s.components (frames (process_at s.processes b).calls) (frames db.calls) (enters m)
  enter_fits = subst (λ k. MoveFits s.components (frames (process_at s.processes b).calls) (frames db.calls) k) eb fact_b.good.moves

  mon : IsMonitor s.components m
  mon = enter_fits.0

  mine : O m ≡ true
  mine = (flagged_a p ok rules s f a b ne ra rb da quiet s).held m (fact_a.from m ga)

  open_now : status_at s.components m ≡ initialised
  open_now = sym (statuses_b p ok rules s f a b ne ra rb da quiet db fact_b m mine) ∙ fact_b.good.entering m enter_fits.1

  not_initial : (q : ℕ) → q < length s.processes → initial_in m (frames (process_at s.processes q).calls) ≡ true → ⊥
  not_initial q lq h = (let bad : initialising ≡ initialised = sym ((f.orderly.orderly.processes q lq).starting m h) ∙ open_now in absurd cc)

  entered_now : (move : Move) → GoesFrom move m → MoveFits s.components (frames (process_at s.processes a).calls) (frames da.calls) move → entry_in m (frames (process_at s.processes a).calls) ≡ true
  entered_now (leaves k) g h = subst (λ j. entry_in j (frames (process_at s.processes a).calls) ≡ true) g (h.1 (subst (IsMonitor s.components) (sym g) mon)).0
  entered_now (continues k o going items) g h = subst (λ j. entry_in j (frames (process_at s.processes a).calls) ≡ true) g (h.1 (subst (IsMonitor s.components) (sym g) mon)).0
  entered_now (delays k) g h = go (subst (λ j. (entry_in j (frames (process_at s.processes a).calls) ≡ true) ⊎ (initial_in j (frames (process_at s.processes a).calls) ≡ true)) g (h.1 (subst (IsMonitor s.components) (sym g) mon)))
    where
      go : (entry_in m (frames (process_at s.processes a).calls) ≡ true) ⊎ (initial_in m (frames (process_at s.processes a).calls) ≡ true) → entry_in m (frames (process_at s.processes a).calls) ≡ true
      go (inl e) = e
      go (inr e) = absurd (not_initial a la e)
  entered_now _ g h = absurd g

  occupied : is_anybody_inside m s.processes ≡ true
  occupied = anybody_true m s.processes a la (inside_from m (process_at s.processes a) (entered_now da.move ga fact_a.good.moves) (ap (waits_at m) ra))

  -- ---- b's call first: it waits

  abbrev W : State
  W = entering true s b m db

  b_done : step_of p s b ≡ (let y : Stepped = record { state = W; event = enter_event } in y)
  b_done =
      ap (settled p s b) is_b ∙ ap (kernel_step p s b db) eb ∙ ap (λ v. let y : Stepped = record { state = entering v s b m db; event = enter_event } in y) occupied

  silent_w : silent (step_of p s b).state ≡ W
  silent_w = ap (λ y. silent y.state) b_done ∙ ap (λ o. let y : State = record { processes = W.processes; components = W.components; output = o; discipline = W.discipline; pending = W.pending } in y) (sym f.shown)

  apart_b : IsApart (flipped P) (flipped O) (flipped nothing) s p s b
  apart_b =
      let flags = flagged_b p ok rules s f a b ne ra rb da quiet s in
      apart (flipped P) (flipped O) (flipped nothing) s p s b f.first f.owned f.orderly lb (open_of p ok rules s f b rb) (itself s) (record { mine = flags.mine; held = flags.held }) (facts_of p ok rules s f b rb)
      (leaves_b p ok rules s f a b ne ra rb da quiet s (λ n. refl) (done p s b) (facts_of p ok rules s f b rb))
      (subst (Moves (flipped P) (flipped O) (flipped nothing) s p s b) (sym is_b) (subst (MoveOwn (flipped P) (flipped O) (flipped nothing) s s b db) (sym eb) (ap (is_anybody_inside m) (processes_self (flipped P) s.processes), refl)))

  w_mixed : W ≡ merged P O nothing (step_of p s b).state s
  w_mixed = sym silent_w ∙ others_state P O nothing p s b f.shown (stands p ok rules s f b rb).shape apart_b

  other_w : Other s (step_of p s b).state
  other_w = (stands p ok rules s f b rb).other

  -- and then a's item does what it did
  then_a : step_of p (silent (step_of p s b).state) a ≡ kernel_step p W a (also_mixed O nothing W.components da) da.move
  then_a =
      ap (λ v. step_of p v a) (silent_w ∙ w_mixed) ∙
      taken_merged P O nothing (step_of p s b).state p s a (taken P O nothing (step_of p s b).state p s a f.first f.owned f.orderly la (open_of p ok rules s f a ra) other_w (let h = flagged_a p ok rules s f a b ne ra rb da quiet s in record { mine = h.mine; held = h.held }) (leaves_a p ok rules s f a b ne ra rb da quiet (step_of p s b).state)) ∙
      ap (λ o. settled p (merged P O nothing (step_of p s b).state s) a (all_mixed O nothing (step_of p s b).state.components o)) quiet.is ∙
      ap (λ v. kernel_step p v a (also_mixed O nothing (step_of p s b).state.components da) da.move) (sym w_mixed) ∙
      ap (λ y. kernel_step p W a (also_mixed O nothing y.state.components da) da.move) b_done

  -- ---- a's call first

  apart_a : IsApart P O (λ n. true) s p s a
  apart_a =
      let flags = flagged_a p ok rules s f a b ne ra rb da quiet s in
      apart P O (λ n. true) s p s a f.first f.owned f.orderly la (open_of p ok rules s f a ra) (itself s) (record { mine = flags.mine; held = flags.held }) (facts_of p ok rules s f a ra) (leaves_a p ok rules s f a b ne ra rb da quiet s)
      (subst (Moves P O (λ n. true) s p s a) (sym quiet.is) (every_line P O L s s a da da.move (moves_a p ok rules s f a b ne ra rb da quiet s (self_still p ok rules s f a b ne ra rb da quiet da a ra) da.move refl)))

  s_mixed : silent S ≡ merged (flipped P) (flipped O) nothing S s
  s_mixed = others_flipped P O (λ n. true) p s a f.shown (stands p ok rules s f a ra).shape apart_a

  then_b_does : step_of p (silent S) b ≡ kernel_step p (silent S) b (also_mixed (flipped O) nothing S.components db) (enters m)
  then_b_does =
      let flags = flagged_b p ok rules s f a b ne ra rb da quiet S in
      ap (λ v. step_of p v b) s_mixed ∙
      taken_merged (flipped P) (flipped O) nothing S p s b (taken (flipped P) (flipped O) nothing S p s b f.first f.owned f.orderly lb (open_of p ok rules s f b rb) (stands p ok rules s f a ra).other (record { mine = flags.mine; held = flags.held })
      (leaves_b p ok rules s f a b ne ra rb da quiet S (quiet_after p ok rules s f a b ne ra rb da quiet) (done p s b) (facts_of p ok rules s f b rb))) ∙
      ap (λ o. settled p (merged (flipped P) (flipped O) nothing S s) b (all_mixed (flipped O) nothing S.components o)) is_b ∙
      ap (λ v. kernel_step p v b (also_mixed (flipped O) nothing S.components db) db.move) (sym s_mixed) ∙
      ap (kernel_step p (silent S) b (also_mixed (flipped O) nothing S.components db)) eb

  -- ---- both orders

  size : length da.components ≡ length db.components
  size = fact_a.owned.tree.size ∙ sym fact_b.owned.tree.size

  static : AllStatic da.components db.components
  static = static_of _ da.components db.components fact_a.owned.tree fact_b.owned.tree

  there : m < length da.components
  there = within da.components m (λ h. (let bad : system_kind.Process ≡ system_kind.Monitor = sym h ∙ fact_a.good.layout.kind m ∙ mon in cc))

  lines : (n : ℕ) → line_at da.components n ≡ line_at db.components n
  lines n = fact_a.good.layout.line n ∙ sym (fact_b.good.layout.line n)

  abbrev moved : Status → State
  moved status = moved_to status s a da

  abbrev both : Status → State
  both status = moved_to status W a (also_mixed O nothing W.components da)

  -- a's state, and then b's call
  abbrev enters_after : State → State
  enters_after v = silent (entering (is_anybody_inside m v.processes) v b m (also_mixed (flipped O) nothing v.components db))

  line_before : LineFits s.components s.processes m (line_at da.components m)
  line_before = subst (LineFits s.components s.processes m) (sym (fact_a.good.layout.line m)) (f.orderly.orderly.lines m)

  not_ready : (q h : ℕ) → (process_at s.processes q).status ≡ ready → (process_at s.processes h).status ≡ at_gate m → h ≢ q
  not_ready q h r w e = (let bad : ready ≡ at_gate m = sym r ∙ ap (λ j. (process_at s.processes j).status) (sym e) ∙ w in cc)

  not_waiting : (q h : ℕ) → (process_at s.processes q).status ≡ ready → (process_at s.processes h).status ≡ delayed m → h ≢ q
  not_waiting q h r w e = (let bad : ready ≡ delayed m = sym r ∙ ap (λ j. (process_at s.processes j).status) (sym e) ∙ w in cc)

  -- who was made ready is inside
  woken_inside : (ps : List Process) (h : ℕ) → h < length ps → is_inside m (with_process_status (process_at ps h) ready) ≡ true → is_anybody_inside m (slice_set ps h (with_process_status (process_at ps h) ready)) ≡ true
  woken_inside ps h lt i =
      anybody_true m (slice_set ps h (with_process_status (process_at ps h) ready)) h (subst (λ j. h < j) (sym (length-set ps h (with_process_status (process_at ps h) ready))) lt) (ap (is_inside m) (same_at ps h (with_process_status (process_at ps h) ready) lt) ∙ i)

  line_case : (status : Status) → Orderly da.components (moved status).processes → Nobody (moved status).processes m → (l : List ℕ) → line_at da.components m ≡ l → enters_after (first_in l (moved status) m) ≡ silent (first_in (line_of (both status) m) (both status) m)
  line_case status now nobody [] e =
      ap (λ v. silent (entering v (moved status) b m (also_mixed (flipped O) nothing (moved status).components db))) (nobody_false m (moved status).processes nobody) ∙
      alone_in_line s O a b m ne da db status size static there lb lines e
  line_case status now nobody (h ∷ l) e =
      let waits : LineFits s.components s.processes m (h ∷ l) = subst (LineFits s.components s.processes m) e line_before in
      let waits_now : LineFits da.components (moved status).processes m (h ∷ l) = subst (LineFits da.components (moved status).processes m) e (now.lines m) in
      ap (λ v. let w = with_line_of (made_ready (moved status) h) m l in silent (entering v w b m (also_mixed (flipped O) nothing w.components db)))
      (woken_inside (moved status).processes h waits_now.1 (first_inside da.components (moved status).processes m h l waits_now)) ∙
      last_in_line s O a b m ne da db status size static there lb lines h l (not_ready a h ra waits.2) (not_ready b h rb waits.2) e

  -- the line is let in
  let_in_case : (status : Status) → Orderly da.components (moved status).processes → Nobody (moved status).processes m → enters_after (let_in s.discipline.gates (moved status) m) ≡ silent (let_in s.discipline.gates (both status) m)
  let_in_case status now nobody =
      ap (λ g. enters_after (let_in g (moved status) m)) (gates_first s f.first) ∙ line_case status now nobody (line_at da.components m) refl ∙ ap (λ g. silent (let_in g (both status) m)) (sym (gates_first s f.first))

  -- who is delayed in m, in both orders
  delayed_both : (r : ℕ) → is_delayed_in m (process_at (both ready).processes r).status ≡ is_delayed_in m (process_at (moved ready).processes r).status
  delayed_both r =
      ap (is_delayed_in m) (moved_status W a (also_mixed O nothing W.components da) (ap (λ y. y.status) (other_at s.processes b a _ ne) ∙ ra) r) ∙ go (cases_eq r b) ∙ ap (is_delayed_in m) (sym (moved_status s a da ra r))
    where
      go : (r ≡ b) ⊎ (r ≡ b → ⊥) → is_delayed_in m (process_at W.processes r).status ≡ is_delayed_in m (process_at s.processes r).status
      go (inl e) = ap (λ j. is_delayed_in m (process_at W.processes j).status) e ∙ ap (λ y. is_delayed_in m y.status) (same_at s.processes b _ lb) ∙ sym (ap (is_delayed_in m) rb) ∙ ap (λ j. is_delayed_in m (process_at s.processes j).status) (sym e)
      go (inr other) = ap (λ y. is_delayed_in m y.status) (other_at s.processes b r _ other)

  woken_case : (r : ℕ) → (process_at s.processes r).status ≡ delayed m → enters_after (made_ready (moved ready) r) ≡ silent (made_ready (both ready) r)
  woken_case r w =
      ap (λ v. silent (entering v (made_ready (moved ready) r) b m (also_mixed (flipped O) nothing (made_ready (moved ready) r).components db))) (woken_inside (moved ready).processes r (subst (λ j. r < j) (sym (length-set s.processes a _)) lr) inside_now) ∙
      last_after_woken s O a b m ne da db ready size static there lb lines r not_a (not_waiting b r rb w)
    where
      lr : r < length s.processes
      lr = begun_process s.processes r (λ h. (let bad : delayed m ≡ unstarted = sym w ∙ h in cc))

      not_a : r ≢ a
      not_a = not_waiting a r ra w

      entered : (entry_in m (frames (process_at s.processes r).calls) ≡ true) ⊎ (initial_in m (frames (process_at s.processes r).calls) ≡ true) → entry_in m (frames (process_at s.processes r).calls) ≡ true
      entered (inl e) = e
      entered (inr e) = absurd (not_initial r lr e)

      inside_now : is_inside m (with_process_status (process_at (moved ready).processes r) ready) ≡ true
      inside_now = ap (λ y. is_inside m (with_process_status y ready)) (other_at s.processes a r _ not_a) ∙ inside_from m (with_process_status (process_at s.processes r) ready) (entered ((f.waits r).delayed_inside m mon w)) refl

  continue_case : (o : Option ℕ) → Orderly da.components (moved ready).processes → Nobody (moved ready).processes m → enters_after (continuing (moved ready) m o) ≡ silent (continuing (both ready) m o)
  continue_case None now nobody = let_in_case ready now nobody
  continue_case (Some r) now nobody = go (is_delayed_in m (process_at (moved ready).processes r).status) refl ∙ ap (λ v. silent (if v then made_ready (both ready) r else let_in s.discipline.gates (both ready) m)) (sym (delayed_both r))
    where
      go : (v : Bool) → is_delayed_in m (process_at (moved ready).processes r).status ≡ v → enters_after (if v then made_ready (moved ready) r else let_in s.discipline.gates (moved ready) m) ≡ silent (if v then made_ready (both ready) r else let_in s.discipline.gates (both ready) m)
      go true e = woken_case r (sym (moved_status s a da ra r) ∙ delayed_told m (process_at (moved ready).processes r).status e)
      go false e = let_in_case ready now nobody

  -- at m
  at_monitor : IsMonitor da.components m
  at_monitor = fact_a.good.layout.kind m ∙ mon

  orderly_now : (status : Status) → NoneEntered s.components (frames (process_at s.processes a).calls) (frames da.calls) → Orderly da.components (moved status).processes
  orderly_now status none = goes_on p s a f.orderly.orderly f.free la ra da da.move fact_a.good status none

  same_orders : (move : Move) → da.move ≡ move → GoesFrom move m → enters_after (kernel_step p s a da move).state ≡ silent (kernel_step p W a (also_mixed O nothing W.components da) move).state
  same_orders (leaves k) e g =
      let fits = subst (MoveFits s.components (frames (process_at s.processes a).calls) (frames da.calls)) (e ∙ ap leaves g) fact_a.good.moves in
      subst (λ j. enters_after (let_in s.discipline.gates (moved ready) j) ≡ silent (let_in s.discipline.gates (both ready) j)) (sym g) (let_in_case ready (orderly_now ready fits.0) (nobody_left p s a f.orderly.orderly f.free la ra da da.move fact_a.good m fits.1 at_monitor))
  same_orders (delays k) e g =
      let fits = subst (MoveFits s.components (frames (process_at s.processes a).calls) (frames da.calls)) (e ∙ ap delays g) fact_a.good.moves in
      subst (λ j. enters_after (let_in s.discipline.gates (moved (delayed j)) j) ≡ silent (let_in s.discipline.gates (both (delayed j)) j)) (sym g) (let_in_case (delayed m) (orderly_now (delayed m) fits.0) (nobody_delayed p s a f.orderly.orderly f.free la ra da da.move fact_a.good m fits.1 at_monitor))
  same_orders (continues k o going items) e g =
      let fits = subst (MoveFits s.components (frames (process_at s.processes a).calls) (frames da.calls)) (e ∙ ap (λ j. continues j o going items) g) fact_a.good.moves in
      ap enters_after (sym (returns_at_once s a da k o going items f.first)) ∙
      subst (λ j. enters_after (continuing (moved ready) j o) ≡ silent (continuing (both ready) j o)) (sym g) (continue_case o (orderly_now ready fits.0) (nobody_left p s a f.orderly.orderly f.free la ra da da.move fact_a.good m fits.1 at_monitor)) ∙
      ap silent (returns_at_once W a (also_mixed O nothing W.components da) k o going items f.first)
  same_orders _ e g = absurd g

  -- ---- and so all of it

  first_state : S ≡ (kernel_step p s a da da.move).state
  first_state = t_is p ok rules s f a b ne ra rb da quiet

  -- what a call that goes out of a monitor tells, and what it displays, is the same wherever it is made
  same_event : (move : Move) → GoesFrom move m → (v : State) (d : Doing) → (kernel_step p v a d move).event ≡ (kernel_step p s a da move).event
  same_event (leaves k) g v d = refl
  same_event (delays k) g v d = refl
  same_event (continues k o going items) g v d = refl
  same_event _ g v d = absurd g

  in_output : (g : Gates) (v : State) (k : ℕ) → (let_in g v k).output ≡ v.output
  in_output g v k = go g
    where
      first : (line : List ℕ) → (first_in line v k).output ≡ v.output
      first [] = refl
      first (h ∷ line) = refl

      one : (line : List ℕ) → (one_in line v k).output ≡ v.output
      one (h ∷ []) = refl
      one _ = refl

      go : (g : Gates) → (let_in g v k).output ≡ v.output
      go first_gates = first (line_of v k)
      go any_gates = one (line_of v k)

  continue_output : (v : State) (k : ℕ) (o : Option ℕ) → (continuing v k o).output ≡ v.output
  continue_output v k None = in_output v.discipline.gates v k
  continue_output v k (Some r) = go (is_delayed_in k (process_at v.processes r).status)
    where
      go : (w : Bool) → (if w then made_ready v r else let_in v.discipline.gates v k).output ≡ v.output
      go true = refl
      go false = in_output v.discipline.gates v k

  out_output : (move : Move) → GoesFrom move m → (v : State) (d : Doing) → v.discipline ≡ book_discipline → (kernel_step p v a d move).state.output ≡ v.output
  out_output (leaves k) g v d first = in_output v.discipline.gates (moved_to ready v a d) k
  out_output (delays k) g v d first = in_output v.discipline.gates (moved_to (delayed k) v a d) k
  out_output (continues k o going items) g v d first = ap (λ (y : State). y.output) (sym (returns_at_once v a d k o going items first)) ∙ continue_output (moved_to ready v a d) k o
  out_output _ g v d first = absurd g

  enter_output : (w : Bool) (v : State) (d : Doing) → (entering w v b m d).output ≡ v.output
  enter_output true v d = refl
  enter_output false v d = refl

  a_event : (step_of p (silent (step_of p s b).state) a).event ≡ (step_of p s a).event
  a_event = ap (λ y. y.event) then_a ∙ same_event da.move ga W (also_mixed O nothing W.components da) ∙ ap (λ o. (settled p s a o).event) (sym quiet.is)

  a_fails : is_failure (step_of p s a).event ≡ false
  a_fails = ap (λ o. is_failure (settled p s a o).event) quiet.is ∙ quiet.succeeds

  -- after both orders the statuses are those after b's step
  a_statuses : (n : ℕ) → status_at (step_of p (silent (step_of p s b).state) a).state.components n ≡ status_at (step_of p s b).state.components n
  a_statuses n =
      ap (λ y. status_at y.state.components n) then_a ∙
      kernel_exact p W a (also_mixed O nothing W.components da) da.move f.first (ap is_failure (same_event da.move ga W (also_mixed O nothing W.components da)) ∙ quiet.succeeds) n ∙
      ap (λ c. c.status) (mix_at O nothing da.components W.components n (fact_a.owned.tree.size ∙ sym (ap (λ y. length y.state.components) (sym b_done) ∙ (stands p ok rules s f b rb).owned_after.tree.size))) ∙
      each (O n) refl ∙ ap (λ y. status_at y.state.components n) (sym b_done)
    where
      each : (v : Bool) → O n ≡ v → (one_of v (nothing n) (component_at da.components n) (component_at W.components n)).status ≡ status_at W.components n
      each true h = quiet.statuses n ∙ sym (line_status db.components m (line_at db.components m ++ b ∷ []) n ∙ statuses_b p ok rules s f a b ne ra rb da quiet db fact_b n h)
      each false h = refl

  pub beside_meeting : Beside p s a b
  beside_meeting =
      record {
        other_event = ap (λ y. y.event) then_b_does ∙ ap (λ y. y.event) (sym b_done);
        other_output = ap (λ y. y.state.output) then_b_does ∙ enter_output (is_anybody_inside m S.processes) (silent S) (also_mixed (flipped O) nothing S.components db) ∙ sym (ap (λ y. y.state.output) b_done ∙ f.shown);
        other_same = other_same p ok rules s f a b ra (λ e. ne (sym e)) rb;
        same = other_same p ok rules s f b a rb ne ra;
        event = λ h. a_event;
        output = λ h. ap (λ y. y.state.output) then_a ∙ out_output da.move ga W (also_mixed O nothing W.components da) f.first ∙ sym (ap (λ o. (settled p s a o).state.output) quiet.is ∙ out_output da.move ga s da f.first);
        still = λ h. record {
          event = ap is_failure a_event ∙ a_fails;
          no_enter = λ e. quiet.no_enter_event (sym (ap (λ o. (settled p s a o).event) quiet.is) ∙ sym a_event ∙ e);
          statuses = a_statuses;
        };
        state = λ h. ap (λ y. silent y.state) then_b_does ∙ silent_enters S ∙ ap enters_after first_state ∙ same_orders da.move refl ga ∙ sym (ap (λ y. silent y.state) then_a);
      }
    where
      silent_enters : (v : State) → silent (entering (is_anybody_inside m v.processes) (silent v) b m (also_mixed (flipped O) nothing v.components db)) ≡ enters_after v
      silent_enters v = go (is_anybody_inside m v.processes)
        where
          go : (w : Bool) → silent (entering w (silent v) b m (also_mixed (flipped O) nothing v.components db)) ≡ silent (entering w v b m (also_mixed (flipped O) nothing v.components db))
          go true = refl
          go false = refl
