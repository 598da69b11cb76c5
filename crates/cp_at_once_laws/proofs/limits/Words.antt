-- What a word leads to with some limit of steps, legs without a limit come to.
use Rattle.std.proofs.Common.{◌≡◌, ◌⊎◌, inl, inr, ◌∙◌, ℕ, zero, suc, Bool, true, false, if◌then◌else◌, List, [], Option, None, Some, ap, sym, refl, subst}
use Rattle.cp_at_once_laws.proofs.Words.{Event, Local, Kernel, Ended, Fault, OutputFull, OutcomeKind, Finished, AllWaiting, RunError, StepLimit, OutputLimit, Turn, Over}
use Rattle.cp_at_once_laws.proofs.Words.{Due, Goes, System, Halted, Choosing, node_at, may, settled_turn, turn_at, turn_after, stretch, opened, chosen, may_go, EndsAfter}
use Rattle.cp_at_once_laws.proofs.Words.{SetsOut, spot_after, spot_by, is_call, Leg, calls, after_local, Comes, done, meets, goes, Commutes, IsPlain}
use Rattle.cp_endless_laws.specs.Settled.{IsClosed, IsIn}
use Rattle.cp_endless_laws.proofs.possible.Settled.{leads_in}
use Rattle.cp_at_once_laws.proofs.limits.Landing.{local_goes}
use Rattle.cp_at_once_laws.proofs.limits.Turns.{CallTurn, nobody, alone, choice, ready_in, call_turn, local_turn, which_turn, head_ready}
use Rattle.cp_resolved.proofs.names.Alike.{same_inside as some_same}

abbrev pub SameSpot : {S : Type 0} → Option (S × ℕ) → Option (S × ℕ) → Type 0
SameSpot x y = x ≡ y

pub spot_same : {S : Type 0} (s t : S) (p q : ℕ) → SameSpot (Some (s, p)) (Some (t, q)) → (s ≡ t) × (p ≡ q)
spot_same {S} s t p q e = let same = some_same (s, p) (t, q) e in (ap (λ (x : S × ℕ). x.0) same, ap (λ (x : S × ℕ). x.1) same)

-- the end of a step that no process goes on from
abbrev pub stop_of : Event → Option OutcomeKind
stop_of Local = None
stop_of (Kernel call) = None
stop_of Ended = None
stop_of (Fault e) = Some (RunError e.name e.process e.line)
stop_of OutputFull = Some OutputLimit

-- an event is local, a call, or an end
pub data EventKind : Event → Type 0 where
  is_local : EventKind Local
  is_kernel : (e : Event) → is_call e ≡ true → EventKind e
  is_stop : (e : Event) (kind : OutcomeKind) → stop_of e ≡ Some kind → EventKind e

pub which_event : (e : Event) → EventKind e
which_event Local = is_local
which_event (Kernel call) = is_kernel (Kernel call) refl
which_event Ended = is_kernel Ended refl
which_event (Fault e) = is_stop (Fault e) (RunError e.name e.process e.line) refl
which_event OutputFull = is_stop OutputFull OutputLimit refl

pub stop_turn : {S : Type 0} (sys : System S) (t : S) (p : ℕ) (e : Event) (kind : OutcomeKind) → stop_of e ≡ Some kind → turn_after sys t p e ≡ Over kind
stop_turn sys t p (Fault e) kind h = cc
stop_turn sys t p OutputFull kind h = cc
stop_turn sys t p x kind h = absurd cc

module _ {S : Type 0} (sys : System S) (Met : S → Type 0) (Quiet : S → ℕ → Type 0) (law : Commutes sys Met Quiet) (plain : IsPlain sys Met) (Done : S → Type 0) (Goal : S → ℕ → Type 0)
    (back : (s : S) (q : ℕ) → Met s → sys.is_ready s q ≡ true → sys.event s q ≡ Local → Goal (sys.step s q) q → Goal s q) where
  abbrev pub FromStart : Type 0
  FromStart = (k : ℕ) × Comes sys Done Goal k sys.start

  -- legs lead here
  pub record AtChoice (s : S) : Type 0 where
    pub met : Met s
    pub legs : (m : ℕ) → Comes sys Done Goal m s → FromStart

  -- and local steps of q
  pub record Arrived (s : S) (q : ℕ) : Type 0 where
    pub met : Met s
    pub ready : sys.is_ready s q ≡ true
    pub origin : S
    pub ready_there : sys.is_ready origin q ≡ true
    pub legs : (m : ℕ) → Comes sys Done Goal m origin → FromStart
    pub leg : (t : S) → Leg sys s q t → Leg sys origin q t
    pub goal : Goal s q → Goal origin q

  at_start : AtChoice sys.start
  at_start = record { met = plain.start; legs = λ m w. (m, w) }

  sets_out : (s : S) (q : ℕ) → AtChoice s → sys.is_ready s q ≡ true → Arrived s q
  sets_out s q a ready = record { met = a.met; ready = ready; origin = s; ready_there = ready; legs = a.legs; leg = λ t l. l; goal = λ g. g }

  by_local : (s : S) (q : ℕ) → Arrived s q → sys.event s q ≡ Local → Arrived (sys.step s q) q
  by_local s q a e =
      record {
        met = law.kept s q a.met a.ready;
        ready = law.goes_on s q a.met a.ready e;
        origin = a.origin;
        ready_there = a.ready_there;
        legs = a.legs;
        leg = λ t l. a.leg t (after_local s q t e l);
        goal = λ g. a.goal (back s q a.met a.ready e g);
      }

  by_call : (s : S) (q : ℕ) → Arrived s q → is_call (sys.event s q) ≡ true → AtChoice (sys.step s q)
  by_call s q a h = record { met = law.kept s q a.met a.ready; legs = λ m w. a.legs (suc m) (goes m a.origin q (sys.step s q) a.ready_there (a.leg (sys.step s q) (calls s q h)) w) }

  pub meets_here : (s : S) (q : ℕ) → Arrived s q → Goal s q → FromStart
  meets_here s q a g = a.legs 0 (meets a.origin q a.ready_there (a.goal g))

  -- ---- a step of a stretch

  -- the process goes on after a local step, a call leads to a choice or to the one who is ready, or it ends
  abbrev pub NextTurn : S → ℕ → Turn → Type 0
  NextTurn s q (Over kind) = (AtChoice (sys.step s q) × (ready_in sys (sys.step s q) ≡ []) × (kind ≡ (if sys.waits (sys.step s q) then AllWaiting else Finished))) ⊎ (stop_of (sys.event s q) ≡ Some kind)
  NextTurn s q Due = AtChoice (sys.step s q)
  NextTurn s q (Goes r) = Arrived (sys.step s q) r

  after_call : (s : S) (q : ℕ) → AtChoice (sys.step s q) → (turn : Turn) → CallTurn sys (sys.step s q) q turn → NextTurn s q turn
  after_call s q a _ (nobody none) = over (sys.waits (sys.step s q)) refl
    where
      over : (w : Bool) → sys.waits (sys.step s q) ≡ w → NextTurn s q (if w then Over AllWaiting else Over Finished)
      over true e = inl (a, none, ap (λ (b : Bool). if b then AllWaiting else Finished) (sym e))
      over false e = inl (a, none, ap (λ (b : Bool). if b then AllWaiting else Finished) (sym e))
  after_call s q a _ (alone r one) = sets_out (sys.step s q) r a (head_ready sys (sys.step s q) r [] one).1
  after_call s q a _ (choice r x xs more) = a

  pub next_turn : (s : S) (q : ℕ) → Arrived s q → NextTurn s q (turn_after sys (sys.step s q) q (sys.event s q))
  next_turn s q a = go (sys.event s q) refl (which_event (sys.event s q))
    where
      there : Met (sys.step s q)
      there = law.kept s q a.met a.ready

      go : (e : Event) → sys.event s q ≡ e → EventKind e → NextTurn s q (turn_after sys (sys.step s q) q (sys.event s q))
      go _ e is_local = subst (NextTurn s q) (sym (local_goes sys Met Quiet law plain s q a.met a.ready e)) (by_local s q a e)
      go _ e (is_kernel x h) =
          let call = ap is_call e ∙ h in
          subst (NextTurn s q) (sym (call_turn sys (sys.step s q) q (sys.event s q) (plain.free (sys.step s q) there) call)) (after_call s q (by_call s q a call) (settled_turn sys (sys.step s q) true q) (which_turn sys (sys.step s q) q))
      go _ e (is_stop x kind h) = let stop = ap stop_of e ∙ h in subst (NextTurn s q) (sym (stop_turn sys (sys.step s q) q (sys.event s q) kind stop)) (inr stop)

  pub walks : (n : ℕ) (b : S) (f : ℕ) (s : S) (q : ℕ) → Arrived b f → spot_after sys n b f ≡ Some (s, q) → Arrived s q
  walks zero b f s q a e = let x = spot_same b s f q e in subst (Arrived s) x.1 (subst (λ t. Arrived t f) x.0 a)
  walks (suc n) b f s q a e = go (turn_after sys (sys.step b f) f (sys.event b f)) (next_turn b f a) e (λ r c d. walks n (sys.step b f) r s q c d)
    where
      go : (turn : Turn) → NextTurn b f turn → spot_by (sys.step b f) (spot_after sys n (sys.step b f)) turn ≡ Some (s, q) → ((r : ℕ) → Arrived (sys.step b f) r → spot_after sys n (sys.step b f) r ≡ Some (s, q) → Arrived s q) → Arrived s q
      go (Over kind) x e on = absurd cc
      go Due x e on = absurd cc
      go (Goes r) x e on = on r x e

  -- ---- words

  module _ (asked : OutcomeKind → Type 0) (no_limit : asked StepLimit → ⊥) (over : (t : S) → Met t → ready_in sys t ≡ [] → asked (if sys.waits t then AllWaiting else Finished) → Done t)
      (stops : (s : S) (q : ℕ) (kind : OutcomeKind) → Met s → sys.is_ready s q ≡ true → stop_of (sys.event s q) ≡ Some kind → asked kind → Goal s q) where
    abbrev Known : OutcomeKind → Type 0
    Known kind = asked kind → FromStart

    ends_at : (s : S) (q : ℕ) (kind : OutcomeKind) → Arrived s q → NextTurn s q (Over kind) → Known kind
    ends_at s q kind a (inl x) k = let t = sys.step s q in x.0.legs 0 (done t (over t x.0.met x.1 (subst asked x.2 k)))
    ends_at s q kind a (inr e) k = meets_here s q a (stops s q kind a.met a.ready e k)

    in_stretch : (left : ℕ) (s : S) (q : ℕ) → Arrived s q → IsIn AtChoice Known (stretch sys left s q)
    unfolding stretch
    in_stretch zero s q a = λ k. absurd (no_limit k)
    in_stretch (suc left) s q a = go (turn_after sys (sys.step s q) q (sys.event s q)) (next_turn s q a) (λ r b. in_stretch left (sys.step s q) r b)
      where
        go : (turn : Turn) → NextTurn s q turn → ((r : ℕ) → Arrived (sys.step s q) r → IsIn AtChoice Known (stretch sys left (sys.step s q) r)) → IsIn AtChoice Known (node_at (sys.step s q) (stretch sys left (sys.step s q)) turn)
        go (Over kind) x on = ends_at s q kind a x
        go Due x on = x
        go (Goes r) x on = on r x

    opening : turn_at sys sys.start false 0 ≡ Goes 0
    opening = local_turn sys sys.start 0 (plain.free sys.start plain.start) (plain.below sys.start 0 plain.start plain.first) plain.first

    in_opened : (steps : ℕ) → IsIn AtChoice Known (opened sys steps)
    unfolding opened
    in_opened steps = subst (λ (turn : Turn). IsIn AtChoice Known (node_at sys.start (stretch sys steps sys.start) turn)) (sym opening) (in_stretch steps sys.start 0 (sets_out sys.start 0 at_start plain.first))

    chosen_arrives : (s : S) (p : ℕ) → AtChoice s → may sys s p ≡ true → Arrived s p
    chosen_arrives s p a m = sets_out s p a (may_go sys s p (plain.free s a.met) m).ready

    in_chosen : (steps : ℕ) (s : S) (p : ℕ) → AtChoice s → may sys s p ≡ true → IsIn AtChoice Known (chosen sys steps s p)
    unfolding chosen
    in_chosen steps s p a m =
        subst (λ (b : Bool). IsIn AtChoice Known (if b then node_at (sys.admit s p) (stretch sys steps (sys.admit s p)) (settled_turn sys (sys.admit s p) true p) else stretch sys steps s p)) (sym (plain.free s a.met)) (in_stretch steps s p (chosen_arrives s p a m))

    closed : (steps : ℕ) → IsClosed sys steps AtChoice Known
    closed steps = record { start = in_opened steps; on = in_chosen steps }

    -- an end that is asked for
    pub ends : (steps : ℕ) (word : List ℕ) (kind : OutcomeKind) → asked kind → EndsAfter sys steps word kind → FromStart
    ends steps word kind k e = leads_in sys steps AtChoice Known (closed steps) word (Halted kind e.0) e.1 k

    -- the beginning of a stretch to which a word leads
    pub begins : (steps : ℕ) (word : List ℕ) (b : S) (f : ℕ) → SetsOut sys steps word b f → Arrived b f
    begins steps word b f (inl x) =
        let same = spot_same sys.start b 0 f (ap (spot_by sys.start (λ q. Some (sys.start, q))) (sym opening) ∙ x.1) in
        subst (Arrived b) same.1 (subst (λ t. Arrived t 0) same.0 (sets_out sys.start 0 at_start plain.first))
    begins steps word b f (inr x) =
        let a = leads_in sys steps AtChoice Known (closed steps) x.0 (Choosing x.2) x.4 in
        let s = x.2 in
        let c = x.1 in
        let same = spot_same s b c f (ap (λ (p : Bool). if p then spot_by (sys.admit s c) (λ q. Some (sys.admit s c, q)) (settled_turn sys (sys.admit s c) true c) else Some (s, c)) (sym (plain.free s a.met)) ∙ x.6) in
        subst (Arrived b) same.1 (subst (λ t. Arrived t c) same.0 (chosen_arrives s c a x.5))

    -- a process that meets what is asked for in such a stretch
    pub meets_in : (steps : ℕ) (word : List ℕ) (b : S) (f n : ℕ) (s : S) (q : ℕ) → SetsOut sys steps word b f → spot_after sys n b f ≡ Some (s, q) → Goal s q → FromStart
    meets_in steps word b f n s q out e g = meets_here s q (walks n b f s q (begins steps word b f out) e) g
