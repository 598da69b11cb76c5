-- What of a state is process a's, for its next step: what it holds; who waits at the monitor that its call goes out of, and the line of this monitor; whom it starts. And that none of this is another ready process's.
use Rattle.std.proofs.Common.{◌≡◌, ◌≢◌, ℕ, ◌<◌, ◌==◌, ◌∙◌, ◌⊎◌, inl, inr, Bool, true, false, ◌||◌, not, if◌then◌else◌, zero, suc, List, [], ◌∷◌, length, Option, Some, None, Ok, ap, sym, refl, subst, arith, eqb-true, eq-eqb}
use Rattle.cp_tree.specs.declared.declaration.SystemKind.TheVariants as system_kind
use Rattle.cp_at_once_laws.proofs.Words.{Program, owner_of, first_components, IsWellFormed, Frame, frames, or_cases, or_right, status_at, StatusMoves, HeldBy, HeldCalls}
use Rattle.cp_at_once_laws.proofs.Words.{begun_process, delayed_told, LineFits, line_at, process_found, or_left, different, around, enter_event, moved_to, is_delayed_in}
use Rattle.cp_at_once_laws.proofs.Words.{process_of, after, kernel_step, Move, stays, enters, leaves, delays, continues, starts, shows, ends, Doing}
use Rattle.cp_meaning.specs.State.{Environment, initialising, initialised, initial_statement, Component, Call, unstarted, ready, at_gate, delayed, Process, process_at, State, waits_at}
use Rattle.cp_meaning.proofs.ComponentTree.{path_at, kind_at, own_owner, around_step}
use Rattle.cp_at_once_laws.proofs.pairs.Apart.{Flagged}
use Rattle.cp_at_once_laws.proofs.pairs.Changes.{GoesFrom, moved_status, moved_component}
use Rattle.cp_at_once_laws.proofs.pairs.Facts.{done, Facts, AllFacts, Open, open_calls, facts}
use Rattle.cp_at_once_laws.proofs.pairs.Fit.{StartsKnown, Fits}
use Rattle.cp_at_once_laws.proofs.pairs.Holding.{held_true, held_told, of_a, never_both, statuses_left, initial_held}
use Rattle.cp_at_once_laws.proofs.pairs.Merging.{HeadOwn, MoveOwn, WokenOwn, StartedOwn}
use Rattle.cp_at_once_laws.proofs.pairs.Two.{flipped}
use Rattle.cp_at_once_laws.proofs.pairs.Shape.{is_failure, starts_fresh}

-- ---- flags

-- who waits at the monitor that the move goes out of; whom it starts
abbrev pub touched : Move → Process → Bool
touched (leaves m) z = waits_at m z.status
touched (delays m) z = waits_at m z.status
touched (continues m o going items) z = waits_at m z.status
touched (starts c e) z = z.component == c
touched stays z = false
touched (enters m) z = false
touched (shows y) z = false
touched ends z = false

-- the component of a process that it starts
abbrev pub starts_at : Move → ℕ → Bool
starts_at (starts c e) n = n == c
starts_at (leaves m) n = false
starts_at (delays m) n = false
starts_at (continues m o going items) n = false
starts_at stays n = false
starts_at (enters m) n = false
starts_at (shows y) n = false
starts_at ends n = false

-- the monitor that it goes out of
abbrev pub goes_from : Move → ℕ → Bool
goes_from (leaves m) n = m == n
goes_from (delays m) n = m == n
goes_from (continues m o going items) n = m == n
goes_from (starts c e) n = false
goes_from stays n = false
goes_from (enters m) n = false
goes_from (shows y) n = false
goes_from ends n = false

touched_waits : (move : Move) (z : Process) (m : ℕ) → GoesFrom move m → waits_at m z.status ≡ true → touched move z ≡ true
touched_waits (leaves k) z m g h = ap (λ j. waits_at j z.status) g ∙ h
touched_waits (delays k) z m g h = ap (λ j. waits_at j z.status) g ∙ h
touched_waits (continues k o going items) z m g h = ap (λ j. waits_at j z.status) g ∙ h
touched_waits _ z m g h = absurd g

pub untouched : (move : Move) (z : Process) → ((m : ℕ) → GoesFrom move m → waits_at m z.status ≡ false) → ((c : ℕ) (e : Environment) → move ≡ starts c e → z.component ≡ c → ⊥) → touched move z ≡ false
untouched (leaves k) z h g = h k refl
untouched (delays k) z h g = h k refl
untouched (continues k o going items) z h g = h k refl
untouched (starts c e) z h g = different z.component c (g c e refl)
untouched _ z h g = refl

pub goes_told : (move : Move) (m : ℕ) → GoesFrom move m → goes_from move m ≡ true
goes_told (leaves k) m g = eq-eqb k m g
goes_told (delays k) m g = eq-eqb k m g
goes_told (continues k o going items) m g = eq-eqb k m g
goes_told _ m g = absurd g

pub goes_not : (move : Move) (k : ℕ) → ((m : ℕ) → GoesFrom move m → m ≢ k) → goes_from move k ≡ false
goes_not (leaves m) k h = different m k (h m refl)
goes_not (delays m) k h = different m k (h m refl)
goes_not (continues m o going items) k h = different m k (h m refl)
goes_not _ k h = refl

pub starts_not : (move : Move) (n : ℕ) → ((c : ℕ) (e : Environment) → move ≡ starts c e → n ≡ c → ⊥) → starts_at move n ≡ false
starts_not (starts c e) n h = different n c (h c e refl)
starts_not _ n h = refl

-- what a flag for a started component says
abbrev StartedAt : Move → ℕ → Type 0
StartedAt move n = (c : ℕ) × ((e : Environment) × ((move ≡ starts c e) × (n ≡ c)))

pub starts_told : (move : Move) (n : ℕ) → starts_at move n ≡ true → StartedAt move n
starts_told (starts c e) n h = (c, (e, (refl, eqb-true n c h)))
starts_told x n h = absurd (let bad : false ≡ true = h in cc)

pub both_false : (x y : Bool) → x ≡ false → y ≡ false → not (x || y) ≡ true
both_false x y h k = ap (λ z. not (z || y)) h ∙ ap not k

some_is_not_none : (n : ℕ) → Some n ≡ None → ⊥
some_is_not_none n h = cc

-- a number that is no process's component
none_of : (c : ℕ) (ps : List Process) → process_of c ps ≡ None → (n : ℕ) → n < length ps → (process_at ps n).component ≡ c → ⊥
none_of c [] h n lt e = omega arith
none_of c (z ∷ ps) h n lt e = go n (z.component == c) refl (process_of c ps) refl h lt e (none_of c ps)
  where
    go : (n : ℕ) (b : Bool) → (z.component == c) ≡ b → (o : Option ℕ) → process_of c ps ≡ o → (if b then Some 0 else after (process_of c ps)) ≡ None → n < length (z ∷ ps) → (process_at (z ∷ ps) n).component ≡ c →
        (process_of c ps ≡ None → (k : ℕ) → k < length ps → (process_at ps k).component ≡ c → ⊥) → ⊥
    go n true i o is h lt e rest = absurd (some_is_not_none 0 h)
    go n false i (Some k) is h lt e rest = absurd (some_is_not_none (suc k) (sym (ap after is) ∙ h))
    go zero false i None is h lt e rest = (let bad : true ≡ false = sym (eq-eqb z.component c e) ∙ i in absurd cc)
    go (suc n) false i None is h lt e rest = rest is n (omega arith) e

-- a's step is no failure, enters no monitor, and changes no status
pub record QuietDone (p : Program) (s : State) (a : ℕ) (d : Doing) : Type 0 where
  pub is : done p s a ≡ Ok d
  pub succeeds : is_failure (kernel_step p s a d d.move).event ≡ false
  pub no_enter : (m : ℕ) → d.move ≡ enters m → ⊥
  pub no_enter_event : (kernel_step p s a d d.move).event ≡ enter_event → ⊥
  pub statuses : (n : ℕ) → status_at d.components n ≡ status_at s.components n

module _ (p : Program) (ok : IsWellFormed p) (rules : StartsKnown p) (s : State) (f : Fits p s) where
  abbrev pub base : List Component
  base = first_components p

  pub in_range : (q : ℕ) → (process_at s.processes q).status ≡ ready → q < length s.processes
  in_range q h = begun_process s.processes q (λ e. (let bad : ready ≡ unstarted = sym h ∙ e in cc))

  pub facts_of : (q : ℕ) → (process_at s.processes q).status ≡ ready → AllFacts p s q (done p s q)
  facts_of q h = facts p s q ok f.owned f.orderly (in_range q h) h rules f.unknown

  pub open_of : (q : ℕ) → (process_at s.processes q).status ≡ ready → Open p s q
  open_of q h = open_calls p s q ok f.owned f.orderly (in_range q h) h rules f.unknown

  pub facts_at : (q : ℕ) (d : Doing) → (process_at s.processes q).status ≡ ready → done p s q ≡ Ok d → Facts p s q d
  facts_at q d h is = subst (AllFacts p s q) is (facts_of q h)

  -- a component of kind process that a process holds is its own
  pub holds_own : (me n : ℕ) (fs : List Frame) → kind_at base n ≡ system_kind.Process → HeldBy base me fs n → n ≡ me
  holds_own me n fs k h = go h
    where
      own : owner_of base n ≡ n
      own = own_owner base n system_kind.Process k (λ b. cc)

      go : HeldBy base me fs n → n ≡ me
      go (inl e) = sym own ∙ e
      go (inr e) = absurd (let bad : system_kind.Process ≡ system_kind.Monitor = sym k ∙ ap (kind_at base) (sym own) ∙ e.0 in cc)

  module _ (a b : ℕ) (ne : a ≢ b) (ra : (process_at s.processes a).status ≡ ready) (rb : (process_at s.processes b).status ≡ ready) where
    abbrev pub x : Process
    x = process_at s.processes a

    abbrev pub y : Process
    y = process_at s.processes b

    pub others : x.component ≢ y.component
    others e = ne (f.several a b (in_range a ra) (in_range b rb) e)

    abbrev pub of : ℕ → Bool
    of = of_a base s f.owned.tree f.orderly.orderly a b ne (in_range a ra) (in_range b rb) ra rb others (f.kinds a (in_range a ra)) (f.kinds b (in_range b rb))

    pub never_of_both : (n : ℕ) → HeldBy base x.component (frames x.calls) n → HeldBy base y.component (frames y.calls) n → ⊥
    never_of_both = never_both base s f.owned.tree f.orderly.orderly a b ne (in_range a ra) (in_range b rb) ra rb others (f.kinds a (in_range a ra)) (f.kinds b (in_range b rb))

    module _ (da : Doing) (quiet : QuietDone p s a da) where
      pub fa : Facts p s a da
      fa = facts_at a da ra quiet.is

      abbrev pub procs : ℕ → Bool
      procs n = (n == a) || touched da.move (process_at s.processes n)

      abbrev pub own : ℕ → Bool
      own n = of n || starts_at da.move n

      abbrev pub ln : ℕ → Bool
      ln n = goes_from da.move n

      -- ---- whom a starts

      pub start_kind : (c : ℕ) (e : Environment) → da.move ≡ starts c e → kind_at base c ≡ system_kind.Process
      start_kind c e is = sym (f.owned.tree.kind c) ∙ (subst (λ m. Rattle.cp_meaning.proofs.Good.MoveFits s.components (frames x.calls) (frames da.calls) m) is fa.good.moves).1

      -- whoever has this component is unstarted
      pub start_fresh : (c : ℕ) (e : Environment) → da.move ≡ starts c e → (n : ℕ) → n < length s.processes → (process_at s.processes n).component ≡ c → (process_at s.processes n).status ≡ unstarted
      start_fresh c e is n lt owner = go (process_of c (moved_to ready s a da).processes) refl
        where
          size : length (moved_to ready s a da).processes ≡ length s.processes
          size = Rattle.std.proofs.Common.length-set s.processes a _

          succeeds : is_failure (kernel_step p s a da (starts c e)).event ≡ false
          succeeds = ap (λ m. is_failure (kernel_step p s a da m).event) (sym is) ∙ quiet.succeeds

          go : (o : Option ℕ) → process_of c (moved_to ready s a da).processes ≡ o → (process_at s.processes n).status ≡ unstarted
          go None found = absurd (none_of c (moved_to ready s a da).processes found n (subst (λ j. n < j) (sym size) lt) (moved_component s a da n ∙ owner))
          go (Some r) found =
              let there = process_found c (moved_to ready s a da).processes r found in
              let same : n ≡ r = f.several n r lt (subst (λ j. r < j) size there.0) (owner ∙ sym (sym (moved_component s a da r) ∙ there.1)) in
              ap (λ j. (process_at s.processes j).status) same ∙ sym (moved_status s a da ra r) ∙ starts_fresh p s a da (process_of c (moved_to ready s a da).processes) c r e found succeeds

      pub not_started : (n : ℕ) → n < length s.processes → ((process_at s.processes n).status ≡ unstarted → ⊥) → (c : ℕ) (e : Environment) → da.move ≡ starts c e → (process_at s.processes n).component ≡ c → ⊥
      not_started n lt begun c e is owner = begun (start_fresh c e is n lt owner)

      pub never_b : (c : ℕ) (e : Environment) → da.move ≡ starts c e → y.component ≡ c → ⊥
      never_b = not_started b (in_range b rb) (λ h. (let bad : ready ≡ unstarted = sym rb ∙ h in cc))

      -- b holds no component of a process that a starts
      pub none_held : (n : ℕ) (fs : List Frame) → HeldBy base y.component fs n → (c : ℕ) (e : Environment) → da.move ≡ starts c e → n ≡ c → ⊥
      none_held n fs h c e is same = never_b c e is (sym (holds_own y.component n fs (ap (kind_at base) same ∙ start_kind c e is) h) ∙ same)

      -- ---- what a needs is flagged

      pub flagged_a : (X : State) → Flagged procs own ln X p s a
      flagged_a X = record { mine = or_left (a == a) _ (eq-eqb a a refl); held = λ n h. or_left (of n) _ (held_true base x.component (frames x.calls) n h) }

      pub waits_flagged : (m n : ℕ) → GoesFrom da.move m → waits_at m (process_at s.processes n).status ≡ true → procs n ≡ true
      waits_flagged m n g h = or_right (n == a) _ (touched_waits da.move (process_at s.processes n) m g h)

      gate_waits : (m n : ℕ) → (process_at s.processes n).status ≡ at_gate m → waits_at m (process_at s.processes n).status ≡ true
      gate_waits m n h = ap (waits_at m) h ∙ eq-eqb m m refl

      queue_waits : (m n : ℕ) → (process_at s.processes n).status ≡ delayed m → waits_at m (process_at s.processes n).status ≡ true
      queue_waits m n h = ap (waits_at m) h ∙ eq-eqb m m refl

      head_flagged : (X : State) (m : ℕ) (line : List ℕ) → GoesFrom da.move m → LineFits s.components s.processes m line → HeadOwn procs own ln X line
      head_flagged X m [] g h = tt
      head_flagged X m (q ∷ line) g h = waits_flagged m q g (gate_waits m q h.2)

      line_flagged : (X : State) (m : ℕ) → GoesFrom da.move m → HeadOwn procs own ln X (line_at da.components m)
      line_flagged X m g = head_flagged X m (line_at da.components m) g (subst (LineFits s.components s.processes m) (sym (fa.good.layout.line m)) (f.orderly.orderly.lines m))

      -- who is not delayed after a's own part is not so in X
      abbrev pub StillNot : (X : State) (d : Doing) (q : ℕ) → Type 0
      StillNot X d q = (k r : ℕ) → GoesFrom d.move k → is_delayed_in k (process_at (moved_to ready s q d).processes r).status ≡ false → is_delayed_in k (process_at X.processes r).status ≡ false

      woken_flagged : (X : State) (m : ℕ) (o : Option ℕ) → StillNot X da a → GoesFrom da.move m → WokenOwn procs own ln X (moved_to ready s a da) m o
      woken_flagged X m None still g = tt
      woken_flagged X m (Some r) still g = go (is_delayed_in m (process_at (moved_to ready s a da).processes r).status) refl
        where
          go : (b : Bool) → is_delayed_in m (process_at (moved_to ready s a da).processes r).status ≡ b → WokenOwn procs own ln X (moved_to ready s a da) m (Some r)
          go true e = inl (waits_flagged m r g (queue_waits m r (sym (moved_status s a da ra r) ∙ delayed_told m (process_at (moved_to ready s a da).processes r).status e)))
          go false e = inr (e, still m r g e)

      started_flagged : (X : State) (c : ℕ) (e : Environment) → da.move ≡ starts c e → StartedOwn procs own ln X (moved_to ready s a da) c (process_of c (moved_to ready s a da).processes)
      started_flagged X c e is = go (process_of c (moved_to ready s a da).processes) refl
        where
          go : (o : Option ℕ) → process_of c (moved_to ready s a da).processes ≡ o → StartedOwn procs own ln X (moved_to ready s a da) c o
          go None found = tt
          go (Some r) found =
              let there = process_found c (moved_to ready s a da).processes r found in
              inl (or_right (r == a) _ (ap (λ m. touched m (process_at s.processes r)) is ∙ eq-eqb _ c (sym (moved_component s a da r) ∙ there.1)), or_right (of c) _ (ap (λ m. starts_at m c) is ∙ eq-eqb c c refl))

      out_here : (move : Move) (m : ℕ) → da.move ≡ move → GoesFrom move m → GoesFrom da.move m
      out_here move m is g = subst (λ k. GoesFrom k m) (sym is) g

      pub moves_a : (X : State) → StillNot X da a → (move : Move) → da.move ≡ move → MoveOwn procs own ln X s a da move
      moves_a X still (enters m) is = absurd (quiet.no_enter m is)
      moves_a X still (leaves m) is = let g = out_here (leaves m) m is refl in (goes_told da.move m g, line_flagged X m g)
      moves_a X still (delays m) is = let g = out_here (delays m) m is refl in (goes_told da.move m g, line_flagged X m g)
      moves_a X still (continues m o going items) is = let g = out_here (continues m o going items) m is refl in (goes_told da.move m g, line_flagged X m g, woken_flagged X m o still g)
      moves_a X still (starts c e) is = started_flagged X c e is
      moves_a X still _ is = tt

      -- ---- what b needs is not flagged

      pub flagged_b : (X : State) → Flagged (flipped procs) (flipped own) (flipped ln) X p s b
      flagged_b X =
          record {
            mine = both_false (b == a) (touched da.move y) (different b a (λ e. ne (sym e))) (untouched da.move y (λ m g. ap (waits_at m) rb) never_b);
            held = λ n h. both_false (of n) (starts_at da.move n) (none n h (of n) refl) (starts_not da.move n (none_held n (frames y.calls) h));
          }
        where
          none : (n : ℕ) → HeldBy base y.component (frames y.calls) n → (t : Bool) → of n ≡ t → of n ≡ false
          none n h true e = absurd (never_of_both n (held_told base x.component (frames x.calls) n e) h)
          none n h false e = e

      -- statuses that b's item changes are none of a's
      pub statuses_b : (db : Doing) → Facts p s b db → (n : ℕ) → own n ≡ true → status_at db.components n ≡ status_at s.components n
      statuses_b db fb n h = go (or_cases (of n) (starts_at da.move n) h)
        where
          of_started : (c : ℕ) (e : Environment) → da.move ≡ starts c e → n ≡ c → StatusMoves s.components db.components (frames y.calls) n → (status_at db.components n ≡ status_at s.components n) ⊎ ((frames db.calls ≡ (initial_statement, n) ∷ frames y.calls) ⊎ (status_at db.components n ≡ initialised)) →
              status_at db.components n ≡ status_at s.components n
          of_started c e is same (inl k) g = k
          of_started c e is same (inr (inl k)) (inl g) = g
          of_started c e is same (inr (inl k)) (inr (inl g)) = absurd (none_held n (frames db.calls) (top db.calls g fb.owned.held) c e is same)
            where
              head : List Frame → ℕ
              head [] = 0
              head (fr ∷ fs) = fr.1

              top : (calls : List Call) → frames calls ≡ (initial_statement, n) ∷ frames y.calls → HeldCalls base y.component calls → HeldBy base y.component (frames calls) n
              top [] e h = absurd (let bad : [] ≡ (initial_statement, n) ∷ frames y.calls = e in cc)
              top (k ∷ calls) e h = subst (HeldBy base y.component (frames (k ∷ calls))) (ap head e) h.0
          of_started c e is same (inr (inl k)) (inr (inr g)) = absurd (let bad : initialising ≡ initialised = sym k.1 ∙ g in cc)
          of_started c e is same (inr (inr k)) g =
              absurd (none_held n (frames y.calls) (initial_held base s f.owned.tree f.orderly.orderly a b ne (in_range a ra) (in_range b rb) ra rb others (f.kinds a (in_range a ra)) (f.kinds b (in_range b rb)) n y.calls (f.owned.processes b (in_range b rb)).held k.1) c e is same)

          go : (of n ≡ true) ⊎ (starts_at da.move n ≡ true) → status_at db.components n ≡ status_at s.components n
          go (inl k) =
              statuses_left base s f.owned.tree f.orderly.orderly a b ne (in_range a ra) (in_range b rb) ra rb others (f.kinds a (in_range a ra)) (f.kinds b (in_range b rb)) db (f.owned.processes b (in_range b rb)).held fb.good fb.owned fb.begins n
              (held_told base x.component (frames x.calls) n k)
          go (inr k) = let t = starts_told da.move n k in of_started t.0 t.1.0 t.1.1.0 t.1.1.1 (fb.good.status n) (fb.begins n)

      -- the monitors that both go out of are two
      pub monitors_two : (db : Doing) → Facts p s b db → (m k : ℕ) → GoesFrom da.move m → GoesFrom db.move k → m ≢ k
      monitors_two db fb m k g h e = never_of_both k (subst (HeldBy base x.component (frames x.calls)) e (fa.from m g)) (fb.from k h)

      -- only one of the two starts a process
      pub one_starts : (db : Doing) → Facts p s b db → (c : ℕ) (e : Environment) (h : Environment) → da.move ≡ starts c e → db.move ≡ starts c h → c < length base → ⊥
      one_starts db fb c e h is its lt =
          let k = start_kind c e is in
          let first = fa.starting c e is lt k in
          let second = fb.starting c h its lt k in
          let same : path_at base x.component ≡ path_at base y.component =
          sym (around_step (path_at base x.component) first.0) ∙ ap around (sym first.1 ∙ second.1) ∙ around_step (path_at base y.component) second.0 in
          others (ok.paths x.component y.component (f.owned.processes a (in_range a ra)).component (f.owned.processes b (in_range b rb)).component same)
