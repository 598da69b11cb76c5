-- What comes before the next step is the same in two systems that go in step, and who goes on is ready.
use Rattle.std.proofs.Common.{◌≡◌, ◌∙◌, ℕ, zero, suc, ◌<◌, Bool, true, false, if◌then◌else◌, List, [], ◌∷◌, ◌++◌, ap, refl, arith}
use Rattle.cp_machine_laws.proofs.Words.{Event, Turn, System, IfGoes, CanGo, LooksAlike, Over, Due, those_same}
use Rattle.cp_machine.specs.declared.event.Event.TheVariants.{Local, Fault, OutputFull}
use Rattle.cp_run.specs.declared.outcome.OutcomeKind.TheVariants.{Finished, AllWaiting}
use Rattle.cp_run.specs.Run.{joined_below, those_below, turn_among, settled_turn, turn_at, turn_after}

-- ---- lists of numbers below a count

pub joined_same : {A : Type 0} (n : ℕ) (f g : ℕ → List A) → ((q : ℕ) → q < n → f q ≡ g q) → joined_below n f ≡ joined_below n g
joined_same zero f g h = refl
joined_same (suc n) f g h =
    let e = joined_same n f g (λ q k. h q (omega arith)) in
    let d = h n (omega arith) in
    cc

abbrev pub Every : (ℕ → Type 0) → List ℕ → Type 0
Every P [] = Unit {0}
Every P (x ∷ xs) = P x × Every P xs

every_append : (P : ℕ → Type 0) (xs ys : List ℕ) → Every P xs → Every P ys → Every P (xs ++ ys)
every_append P [] ys h k = k
every_append P (x ∷ xs) ys h k = (h.0, every_append P xs ys h.1 k)

pub every_more : (P Q : ℕ → Type 0) (xs : List ℕ) → ((q : ℕ) → P q → Q q) → Every P xs → Every Q xs
every_more P Q [] f h = tt
every_more P Q (x ∷ xs) f h = (f x h.0, every_more P Q xs f h.1)

abbrev IsOne : ℕ → (ℕ → Bool) → ℕ → Type 0
IsOne n may q = (q < n) × (may q ≡ true)

one_may : (n : ℕ) (may : ℕ → Bool) (q : ℕ) (b : Bool) → q < n → may q ≡ b → Every (IsOne n may) (if b then q ∷ [] else [])
one_may n may q true h e = ((h, e), tt)
one_may n may q false h e = tt

pub those_may : (n : ℕ) (may : ℕ → Bool) → Every (IsOne n may) (those_below n may)
those_may zero may = tt
those_may (suc n) may =
    every_append (IsOne (suc n) may) (those_below n may) (if may n then n ∷ [] else [])
    (every_more (IsOne n may) (IsOne (suc n) may) (those_below n may) (λ q h. (let k = h.0 in omega arith, h.1)) (those_may n may))
    (one_may (suc n) may n (may n) (omega arith) refl)

-- ---- who goes on is ready

among_ready : {S : Type 0} (sys : System S) (s : S) (kernel : Bool) (p : ℕ) (qs : List ℕ) → Every (CanGo sys s) qs → (kernel ≡ false → CanGo sys s p) → IfGoes (turn_among sys s kernel p qs) (CanGo sys s)
among_ready sys s kernel p [] h k = over (sys.waits s)
  where
    over : (b : Bool) → IfGoes (if b then Over AllWaiting else Over Finished) (CanGo sys s)
    over true = tt
    over false = tt
among_ready sys s kernel p (q ∷ []) h k = h.0
among_ready sys s true p (q ∷ r ∷ qs) h k = tt
among_ready sys s false p (q ∷ r ∷ qs) h k = k refl

pub settled_ready : {S : Type 0} (sys : System S) (s : S) (kernel : Bool) (p : ℕ) → sys.is_pending s ≡ false → (kernel ≡ false → CanGo sys s p) → IfGoes (settled_turn sys s kernel p) (CanGo sys s)
settled_ready sys s kernel p e k =
    among_ready sys s kernel p (those_below sys.processes (sys.is_ready s))
    (every_more (IsOne sys.processes (sys.is_ready s)) (CanGo sys s) (those_below sys.processes (sys.is_ready s)) (λ q h. record { below = h.0; ready = h.1; free = e }) (those_may sys.processes (sys.is_ready s)))
    k

pub turn_ready : {S : Type 0} (sys : System S) (s : S) (kernel : Bool) (p : ℕ) → (kernel ≡ false → sys.is_pending s ≡ false → CanGo sys s p) → IfGoes (turn_at sys s kernel p) (CanGo sys s)
turn_ready sys s kernel p k = go (sys.is_pending s) refl
  where
    go : (b : Bool) → sys.is_pending s ≡ b → IfGoes (if b then Due else settled_turn sys s kernel p) (CanGo sys s)
    go true e = tt
    go false e = settled_ready sys s kernel p e (λ d. k d e)

-- ---- the same turns

among_same : {S T : Type 0} (a : System S) (b : System T) (s : S) (t : T) (kernel : Bool) (p : ℕ) (qs : List ℕ) → a.waits s ≡ b.waits t → turn_among a s kernel p qs ≡ turn_among b t kernel p qs
among_same a b s t kernel p [] e = ap (λ (w : Bool). if w then Over AllWaiting else Over Finished) e
among_same a b s t kernel p (q ∷ []) e = refl
among_same a b s t kernel p (q ∷ r ∷ qs) e = refl

pub ready_same : {S T : Type 0} (a : System S) (b : System T) (s : S) (t : T) → a.processes ≡ b.processes → LooksAlike a b s t → those_below a.processes (a.is_ready s) ≡ those_below b.processes (b.is_ready t)
ready_same a b s t n h = those_same a.processes (a.is_ready s) (b.is_ready t) h.ready ∙ ap (λ (k : ℕ). those_below k (b.is_ready t)) n

pub settled_same : {S T : Type 0} (a : System S) (b : System T) (s : S) (t : T) (kernel : Bool) (p : ℕ) → a.processes ≡ b.processes → LooksAlike a b s t → settled_turn a s kernel p ≡ settled_turn b t kernel p
settled_same a b s t kernel p n h =
    among_same a b s t kernel p (those_below a.processes (a.is_ready s)) h.waits
    ∙ ap (turn_among b t kernel p) (ready_same a b s t n h)

pub turn_same : {S T : Type 0} (a : System S) (b : System T) (s : S) (t : T) (kernel : Bool) (p : ℕ) → a.processes ≡ b.processes → LooksAlike a b s t → turn_at a s kernel p ≡ turn_at b t kernel p
turn_same a b s t kernel p n h =
    ap (λ (c : Bool). if c then Due else settled_turn a s kernel p) h.pending
    ∙ ap (λ (u : Turn). if b.is_pending t then Due else u) (settled_same a b s t kernel p n h)

pub after_same : {S T : Type 0} (a : System S) (b : System T) (s : S) (t : T) (p : ℕ) (e : Event) → a.processes ≡ b.processes → LooksAlike a b s t → turn_after a s p e ≡ turn_after b t p e
after_same a b s t p Local n h = turn_same a b s t false p n h
after_same a b s t p (Fault e) n h = refl
after_same a b s t p OutputFull n h = refl
after_same a b s t p _ n h = turn_same a b s t true p n h

pub after_ready : {S : Type 0} (sys : System S) (s : S) (p : ℕ) (e : Event) → (e ≡ Local → sys.is_pending s ≡ false → CanGo sys s p) → IfGoes (turn_after sys s p e) (CanGo sys s)
after_ready sys s p Local k = turn_ready sys s false p (λ d. k refl)
after_ready sys s p (Fault e) k = tt
after_ready sys s p OutputFull k = tt
after_ready sys s p x k = turn_ready sys s true p (λ d. cc)
