-- Two states that are alike: from both a run comes to the same ends and the same choices.
use Rattle.std.proofs.Common.{◌≡◌, ℕ, zero, suc, Bool, true, false, ◌&&◌, nat_lt, if◌then◌else◌, List, [], refl, sym, ap, ◌∙◌, subst}
use Rattle.cp_run.proofs.Words.{Event, Turn, Over, Due, Goes, AllWaiting, Finished, System}
use Rattle.cp_machine.specs.declared.event.Event.TheVariants.{Local, Kernel, Ended, Fault, OutputFull}
use Rattle.cp_run.specs.Run.{Node, Halted, Choosing, node_at, those_below, turn_among, settled_turn, turn_at, turn_after, stretch, may, chosen}
use Rattle.cp_run.proofs.Choosing.{those_same}

-- what two states that are alike have in common, and what keeps them alike
pub record Simulates {S : Type 0} (sys : System S) (R : S → S → Type 0) : Type 0 where
  pub step : (s t : S) (p : ℕ) → R s t → R (sys.step s p) (sys.step t p)
  pub event : (s t : S) (p : ℕ) → R s t → sys.event t p ≡ sys.event s p
  pub admit : (s t : S) (p : ℕ) → R s t → R (sys.admit s p) (sys.admit t p)
  pub is_ready : (s t : S) (p : ℕ) → R s t → sys.is_ready t p ≡ sys.is_ready s p
  pub is_pending : (s t : S) → R s t → sys.is_pending t ≡ sys.is_pending s
  pub in_line : (s t : S) (p : ℕ) → R s t → sys.in_line t p ≡ sys.in_line s p
  pub waits : (s t : S) → R s t → sys.waits t ≡ sys.waits s

-- two nodes that stand still in the same way, in states that are alike
abbrev pub NodesAlike : {S : Type 0} → (S → S → Type 0) → Node S → Node S → Type 0
NodesAlike R (Halted k s) (Halted j t) = (j ≡ k) × R s t
NodesAlike R (Halted k s) (Choosing t) = ⊥
NodesAlike R (Choosing s) (Halted j t) = ⊥
NodesAlike R (Choosing s) (Choosing t) = R s t

-- ---- the same comes before the next step

among_alike : {S : Type 0} (sys : System S) (s t : S) (kernel : Bool) (p : ℕ) (ready : List ℕ) → sys.waits t ≡ sys.waits s → turn_among sys t kernel p ready ≡ turn_among sys s kernel p ready
among_alike sys s t kernel p [] e = ap (λ b. if b then Over AllWaiting else Over Finished) e
among_alike sys s t kernel p _ e = refl

settled_alike : {S : Type 0} (sys : System S) (R : S → S → Type 0) → Simulates sys R → (s t : S) (kernel : Bool) (p : ℕ) → R s t → settled_turn sys t kernel p ≡ settled_turn sys s kernel p
settled_alike sys R sim s t kernel p h =
    ap (turn_among sys t kernel p) (those_same sys.processes (sys.is_ready t) (sys.is_ready s) (λ q lt. sim.is_ready s t q h)) ∙ among_alike sys s t kernel p (those_below sys.processes (sys.is_ready s)) (sim.waits s t h)

at_alike : {S : Type 0} (sys : System S) (R : S → S → Type 0) → Simulates sys R → (s t : S) (kernel : Bool) (p : ℕ) → R s t → turn_at sys t kernel p ≡ turn_at sys s kernel p
at_alike sys R sim s t kernel p h =
    ap (λ b. if b then Due else settled_turn sys t kernel p) (sim.is_pending s t h) ∙ ap (λ turn. if sys.is_pending s then Due else turn) (settled_alike sys R sim s t kernel p h)

after_alike : {S : Type 0} (sys : System S) (R : S → S → Type 0) → Simulates sys R → (s t : S) (p : ℕ) (e : Event) → R s t → turn_after sys t p e ≡ turn_after sys s p e
after_alike sys R sim s t p Local h = at_alike sys R sim s t false p h
after_alike sys R sim s t p (Kernel call) h = at_alike sys R sim s t true p h
after_alike sys R sim s t p Ended h = at_alike sys R sim s t true p h
after_alike sys R sim s t p (Fault x) h = refl
after_alike sys R sim s t p OutputFull h = refl

-- ---- and the same is come to

node_alike : {S : Type 0} (R : S → S → Type 0) (s t : S) (on other : ℕ → Node S) (turn : Turn) → R s t → ((q : ℕ) → NodesAlike R (on q) (other q)) → NodesAlike R (node_at s on turn) (node_at t other turn)
node_alike R s t on other (Over kind) h f = (refl, h)
node_alike R s t on other Due h f = h
node_alike R s t on other (Goes q) h f = f q

nodes_alike : {S : Type 0} (R : S → S → Type 0) (s t : S) (on other : ℕ → Node S) (turn next : Turn) → next ≡ turn → R s t → ((q : ℕ) → NodesAlike R (on q) (other q)) → NodesAlike R (node_at s on turn) (node_at t other next)
nodes_alike R s t on other turn next e h f = subst (λ n. NodesAlike R (node_at s on turn) (node_at t other n)) (sym e) (node_alike R s t on other turn h f)

-- the stretches of a process from two states that are alike come to nodes that are alike
pub stretch_alike : {S : Type 0} (sys : System S) (R : S → S → Type 0) → Simulates sys R → (left : ℕ) (s t : S) (p : ℕ) → R s t → NodesAlike R (stretch sys left s p) (stretch sys left t p)
unfolding stretch
stretch_alike sys R sim zero s t p h = (refl, h)
stretch_alike sys R sim (suc left) s t p h =
    let x = sys.step s p in
    let y = sys.step t p in
    let alike = sim.step s t p h in
    let turn : turn_after sys y p (sys.event t p) ≡ turn_after sys x p (sys.event s p) = ap (turn_after sys y p) (sim.event s t p h) ∙ after_alike sys R sim x y p (sys.event s p) alike in
    nodes_alike R x y (stretch sys left x) (stretch sys left y) (turn_after sys x p (sys.event s p)) (turn_after sys y p (sys.event t p)) turn alike (λ q. stretch_alike sys R sim left x y q alike)

-- after an admission
settled_nodes : {S : Type 0} (sys : System S) (R : S → S → Type 0) → Simulates sys R → (steps : ℕ) (x y : S) (p : ℕ) → R x y → NodesAlike R (node_at x (stretch sys steps x) (settled_turn sys x true p)) (node_at y (stretch sys steps y) (settled_turn sys y true p))
settled_nodes sys R sim steps x y p h =
    nodes_alike R x y (stretch sys steps x) (stretch sys steps y) (settled_turn sys x true p) (settled_turn sys y true p) (settled_alike sys R sim x y true p h) h (λ q. stretch_alike sys R sim steps x y q h)

if_alike : {S : Type 0} (R : S → S → Type 0) (b c : Bool) (m n v w : Node S) → c ≡ b → NodesAlike R m n → NodesAlike R v w → NodesAlike R (if b then m else v) (if c then n else w)
if_alike R true true m n v w e f g = f
if_alike R true false m n v w e f g = absurd (cc)
if_alike R false true m n v w e f g = absurd (cc)
if_alike R false false m n v w e f g = g

-- one choice in two states that are alike leads to nodes that are alike
pub chosen_alike : {S : Type 0} (sys : System S) (R : S → S → Type 0) → Simulates sys R → (steps : ℕ) (s t : S) (p : ℕ) → R s t → NodesAlike R (chosen sys steps s p) (chosen sys steps t p)
unfolding chosen
chosen_alike sys R sim steps s t p h =
    let x = sys.admit s p in
    let y = sys.admit t p in
    if_alike R (sys.is_pending s) (sys.is_pending t)
    (node_at x (stretch sys steps x) (settled_turn sys x true p))
    (node_at y (stretch sys steps y) (settled_turn sys y true p))
    (stretch sys steps s p)
    (stretch sys steps t p)
    (sim.is_pending s t h)
    (settled_nodes sys R sim steps x y p (sim.admit s t p h))
    (stretch_alike sys R sim steps s t p h)

-- a choice may take the same numbers in two states that are alike
pub may_alike : {S : Type 0} (sys : System S) (R : S → S → Type 0) → Simulates sys R → (s t : S) (p : ℕ) → R s t → may sys t p ≡ may sys s p
unfolding may
may_alike sys R sim s t p h =
    let within = nat_lt p sys.processes in
    ap (λ b. within && (if b then sys.in_line t p else sys.is_ready t p)) (sim.is_pending s t h)
    ∙ ap (λ b. within && (if sys.is_pending s then b else sys.is_ready t p)) (sim.in_line s t p h)
    ∙ ap (λ b. within && (if sys.is_pending s then sys.in_line s p else b)) (sim.is_ready s t p h)
