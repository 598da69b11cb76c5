-- A due choice: what it may take, and where it leads to.
use Rattle.std.proofs.Common.{◌≡◌, ℕ, zero, suc, ◌<◌, Bool, true, false, ◌&&◌, nat_lt, if◌then◌else◌, [], ◌∷◌, ◌++◌, refl, sym, ap, ◌∙◌, arith}
use Rattle.cp_run.proofs.Words.{lt-ltb, Turn, System}
use Rattle.cp_run.specs.Run.{node_at, those_below, settled_turn, turn_at, stretch, opened, may, chosen}

pub those_same : (n : ℕ) (f g : ℕ → Bool) → ((p : ℕ) → p < n → f p ≡ g p) → those_below n f ≡ those_below n g
those_same zero f g h = refl
those_same (suc n) f g h =
    ap (λ l. l ++ (if f n then n ∷ [] else [])) (those_same n f g (λ p lt. h p (omega (arith, lt)))) ∙ ap (λ b. those_below n g ++ (if b then n ∷ [] else [])) (h n (omega arith))

may_within : {S : Type 0} (sys : System S) (s : S) (p : ℕ) (b : Bool) → p < sys.processes → sys.is_pending s ≡ b → may sys s p ≡ (if b then sys.in_line s p else sys.is_ready s p)
unfolding may
may_within sys s p b lt e =
    ap (λ x. x && (if sys.is_pending s then sys.in_line s p else sys.is_ready s p)) (lt-ltb p sys.processes lt) ∙ ap (λ x. if x then sys.in_line s p else sys.is_ready s p) e

pub wanted_line : {S : Type 0} (sys : System S) (s : S) → sys.is_pending s ≡ true → those_below sys.processes (sys.in_line s) ≡ those_below sys.processes (may sys s)
wanted_line sys s e = those_same sys.processes (sys.in_line s) (may sys s) (λ p lt. sym (may_within sys s p true lt e))

pub wanted_ready : {S : Type 0} (sys : System S) (s : S) → sys.is_pending s ≡ false → those_below sys.processes (sys.is_ready s) ≡ those_below sys.processes (may sys s)
wanted_ready sys s e = those_same sys.processes (sys.is_ready s) (may sys s) (λ p lt. sym (may_within sys s p false lt e))

second : (a b : Bool) → (a && b) ≡ true → b ≡ true
second true b h = h
second false b h = cc

pub may_in_line : {S : Type 0} (sys : System S) (s : S) (p : ℕ) → sys.is_pending s ≡ true → may sys s p ≡ true → sys.in_line s p ≡ true
unfolding may
may_in_line sys s p e h = sym (ap (λ x. if x then sys.in_line s p else sys.is_ready s p) e) ∙ second (nat_lt p sys.processes) (if sys.is_pending s then sys.in_line s p else sys.is_ready s p) h

pub may_be_ready : {S : Type 0} (sys : System S) (s : S) (p : ℕ) → sys.is_pending s ≡ false → may sys s p ≡ true → sys.is_ready s p ≡ true
unfolding may
may_be_ready sys s p e h = sym (ap (λ x. if x then sys.in_line s p else sys.is_ready s p) e) ∙ second (nat_lt p sys.processes) (if sys.is_pending s then sys.in_line s p else sys.is_ready s p) h

pub chosen_free : {S : Type 0} (sys : System S) (steps : ℕ) (s : S) (p : ℕ) → sys.is_pending s ≡ false → chosen sys steps s p ≡ stretch sys steps s p
unfolding chosen
chosen_free sys steps s p e = rw e refl

pub chosen_at_gate : {S : Type 0} (sys : System S) (steps : ℕ) (s t : S) (p : ℕ) (turn : Turn) → sys.is_pending s ≡ true → t ≡ sys.admit s p → turn ≡ settled_turn sys t true p → chosen sys steps s p ≡ node_at t (stretch sys steps t) turn
unfolding chosen
chosen_at_gate sys steps s t p turn e at is = rw (e, is, at) refl

pub opened_at : {S : Type 0} (sys : System S) (steps : ℕ) (s : S) (turn : Turn) → s ≡ sys.start → turn ≡ turn_at sys s false 0 → opened sys steps ≡ node_at s (stretch sys steps s) turn
unfolding opened
opened_at sys steps s turn at is = rw (is, at) refl
