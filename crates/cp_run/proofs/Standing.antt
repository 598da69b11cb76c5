-- Where a choice of process is due, two or more processes are ready.
use Rattle.std.proofs.Common.{◌≡◌, ℕ, zero, suc, ◌<◌, Bool, true, false, ◌&&◌, if◌then◌else◌, List, [], ◌∷◌, ◌++◌, refl, sym, ap, ◌∙◌, arith}
use Rattle.cp_run.proofs.Words.{lt-ltb, Event, Turn, Over, Due, Goes, AllWaiting, Finished, System}
use Rattle.cp_machine.specs.declared.event.Event.TheVariants.{Local, Fault, OutputFull}
use Rattle.cp_run.specs.Run.{Node, Halted, Choosing, node_at, those_below, turn_among, settled_turn, turn_at, turn_after, stretch, may, chosen, opened}

-- a number below n may be
abbrev SomeBelow : ℕ → (ℕ → Bool) → Type 0
SomeBelow n f = (p : ℕ) × ((p < n) × (f p ≡ true))

some_if : (f : ℕ → Bool) (n : ℕ) (b : Bool) → f n ≡ b → (q : ℕ) (qs : List ℕ) → (if b then n ∷ [] else []) ≡ q ∷ qs → f n ≡ true
some_if f n true e q qs h = e
some_if f n false e q qs h = absurd (cc)

some_among : (n : ℕ) (f : ℕ → Bool) (q : ℕ) (qs : List ℕ) → those_below n f ≡ q ∷ qs → SomeBelow n f
some_among zero f q qs e = absurd (cc)
some_among (suc n) f q qs e = by (λ r rs h. some_among n f r rs h) (those_below n f) refl (f n) refl e
  where
    by : ((r : ℕ) (rs : List ℕ) → those_below n f ≡ r ∷ rs → SomeBelow n f) → (l : List ℕ) → those_below n f ≡ l → (b : Bool) → f n ≡ b → l ++ (if b then n ∷ [] else []) ≡ q ∷ qs → SomeBelow (suc n) f
    by on [] h true i k = (n, (omega arith, i))
    by on [] h false i k = absurd (cc)
    by on (r ∷ rs) h b i k = let x = on r rs h in (x.0, (omega (arith, x.1.0), x.1.1))

-- a choice is due at a pending monitor, or some process is ready
abbrev pub Stands : {S : Type 0} → System S → Node S → Type 0
Stands sys (Halted kind s) = Unit {0}
Stands sys (Choosing s) = sys.is_pending s ≡ false → (p : ℕ) × (may sys s p ≡ true)

may_ready : {S : Type 0} (sys : System S) (s : S) (p : ℕ) → sys.is_pending s ≡ false → p < sys.processes → sys.is_ready s p ≡ true → may sys s p ≡ true
unfolding may
may_ready sys s p free lt h = ap (λ b. b && (if sys.is_pending s then sys.in_line s p else sys.is_ready s p)) (lt-ltb p sys.processes lt) ∙ ap (λ b. if b then sys.in_line s p else sys.is_ready s p) free ∙ h

over_due : (b : Bool) → (if b then Over AllWaiting else Over Finished) ≡ Due → ⊥
over_due true h = absurd (cc)
over_due false h = absurd (cc)

among_due : {S : Type 0} (sys : System S) (s : S) (kernel : Bool) (p : ℕ) (ready : List ℕ) → those_below sys.processes (sys.is_ready s) ≡ ready → turn_among sys s kernel p ready ≡ Due → SomeBelow sys.processes (sys.is_ready s)
among_due sys s kernel p [] e h = absurd (over_due (sys.waits s) h)
among_due sys s kernel p (q ∷ qs) e h = some_among sys.processes (sys.is_ready s) q qs e

settled_due : {S : Type 0} (sys : System S) (s : S) (kernel : Bool) (p : ℕ) → settled_turn sys s kernel p ≡ Due → Stands sys (Choosing s)
settled_due sys s kernel p h = λ free. let x = among_due sys s kernel p (those_below sys.processes (sys.is_ready s)) refl h in (x.0, may_ready sys s x.0 free x.1.0 x.1.1)

at_due : {S : Type 0} (sys : System S) (s : S) (kernel : Bool) (p : ℕ) → turn_at sys s kernel p ≡ Due → Stands sys (Choosing s)
at_due sys s kernel p h = λ free. settled_due sys s kernel p (sym (ap (λ b. if b then Due else settled_turn sys s kernel p) free) ∙ h) free

after_due : {S : Type 0} (sys : System S) (t : S) (p : ℕ) (e : Event) → turn_after sys t p e ≡ Due → Stands sys (Choosing t)
after_due sys t p Local h = at_due sys t false p h
after_due sys t p (Fault x) h = absurd (cc)
after_due sys t p OutputFull h = absurd (cc)
after_due sys t p _ h = at_due sys t true p h

stands_at : {S : Type 0} (sys : System S) (t : S) (on : ℕ → Node S) (turn : Turn) → ((q : ℕ) → Stands sys (on q)) → (turn ≡ Due → Stands sys (Choosing t)) → Stands sys (node_at t on turn)
stands_at sys t on (Over kind) h due = tt
stands_at sys t on Due h due = due refl
stands_at sys t on (Goes q) h due = h q

stretch_stands : {S : Type 0} (sys : System S) (left : ℕ) (s : S) (p : ℕ) → Stands sys (stretch sys left s p)
unfolding stretch
stretch_stands sys zero s p = tt
stretch_stands sys (suc left) s p = let t = sys.step s p in stands_at sys t (stretch sys left t) (turn_after sys t p (sys.event s p)) (λ q. stretch_stands sys left t q) (λ h. after_due sys t p (sys.event s p) h)

pub opened_stands : {S : Type 0} (sys : System S) (steps : ℕ) → Stands sys (opened sys steps)
unfolding opened
opened_stands sys steps = stands_at sys sys.start (stretch sys steps sys.start) (turn_at sys sys.start false 0) (λ q. stretch_stands sys steps sys.start q) (λ h. at_due sys sys.start false 0 h)

pub chosen_stands : {S : Type 0} (sys : System S) (steps : ℕ) (s : S) (p : ℕ) → Stands sys (chosen sys steps s p)
unfolding chosen
chosen_stands sys steps s p = by (sys.is_pending s)
  where
    by : (b : Bool) → Stands sys (if b then node_at (sys.admit s p) (stretch sys steps (sys.admit s p)) (settled_turn sys (sys.admit s p) true p) else stretch sys steps s p)
    by true = stands_at sys (sys.admit s p) (stretch sys steps (sys.admit s p)) (settled_turn sys (sys.admit s p) true p) (λ q. stretch_stands sys steps (sys.admit s p) q) (λ h. settled_due sys (sys.admit s p) true p h)
    by false = stretch_stands sys steps s p
