-- Two steps whose processes have nothing in common make the same state in either order.
use Rattle.std.proofs.Common.{◌≡◌, ℕ, suc, ◌∙◌, Bool, true, false, not, if◌then◌else◌, List, [], ◌∷◌, length, Option, ap, sym, refl, arith}
use Rattle.cp_at_once_laws.proofs.Words.{SystemKind, Program, Path, step_of, Environment, ComponentStatus, Component, component_at, Process, Discipline, Shown, State}
use Rattle.cp_at_once_laws.proofs.reading.Mixed.{one_of, mix}
use Rattle.cp_at_once_laws.proofs.pairs.Merging.{mixed_processes, merged, merged_step, IsApart, step_merged}

-- ---- what is mixed, seen from the other side

other_if : {A : Type 0} (b : Bool) (x y : A) → (if b then x else y) ≡ (if not b then y else x)
other_if true x y = refl
other_if false x y = refl

made : Path → ℕ → SystemKind → ComponentStatus → Environment → List ℕ → Component
made path system kind status e line = record { path = path; system = system; kind = kind; status = status; environment = e; line = line }

-- no step changes these
pub record SameStatic (c x : Component) : Type 0 where
  pub path : x.path ≡ c.path
  pub system : x.system ≡ c.system
  pub kind : x.kind ≡ c.kind

one_flip : (own ln : Bool) (c x : Component) → SameStatic c x → one_of own ln c x ≡ one_of (not own) (not ln) x c
unfolding made
one_flip own ln c x same =
    ap (λ y. made y c.system c.kind (if own then c.status else x.status) (if own then c.environment else x.environment) (if ln then c.line else x.line)) (sym same.path) ∙
    ap (λ y. made x.path y c.kind (if own then c.status else x.status) (if own then c.environment else x.environment) (if ln then c.line else x.line)) (sym same.system) ∙
    ap (λ y. made x.path x.system y (if own then c.status else x.status) (if own then c.environment else x.environment) (if ln then c.line else x.line)) (sym same.kind) ∙
    ap (λ y. made x.path x.system x.kind y (if own then c.environment else x.environment) (if ln then c.line else x.line)) (other_if own c.status x.status) ∙
    ap (λ y. made x.path x.system x.kind (if not own then x.status else c.status) y (if ln then c.line else x.line)) (other_if own c.environment x.environment) ∙
    ap (λ y. made x.path x.system x.kind (if not own then x.status else c.status) (if not own then x.environment else c.environment) y) (other_if ln c.line x.line)

abbrev pub AllStatic : List Component → List Component → Type 0
AllStatic cs xs = (n : ℕ) → SameStatic (component_at cs n) (component_at xs n)

pub mix_flip : (own ln : ℕ → Bool) (cs xs : List Component) → length cs ≡ length xs → AllStatic cs xs → mix own ln cs xs ≡ mix (λ n. not (own n)) (λ n. not (ln n)) xs cs
mix_flip own ln [] [] e same = refl
mix_flip own ln (c ∷ cs) (x ∷ xs) e same =
    ap (λ y. y ∷ mix (λ n. own (suc n)) (λ n. ln (suc n)) cs xs) (one_flip (own 0) (ln 0) c x (same 0)) ∙
    ap (λ l. one_of (not (own 0)) (not (ln 0)) x c ∷ l) (mix_flip (λ n. own (suc n)) (λ n. ln (suc n)) cs xs (omega arith) (λ n. same (suc n)))
mix_flip own ln x y e same = absurd (omega arith)

pub processes_flip : (own : ℕ → Bool) (ps xs : List Process) → length ps ≡ length xs → mixed_processes own ps xs ≡ mixed_processes (λ n. not (own n)) xs ps
processes_flip own [] [] e = refl
processes_flip own (p ∷ ps) (x ∷ xs) e =
    ap (λ y. y ∷ mixed_processes (λ n. own (suc n)) ps xs) (other_if (own 0) p x) ∙
    ap (λ l. (if not (own 0) then x else p) ∷ l) (processes_flip (λ n. own (suc n)) ps xs (omega arith))
processes_flip own x y e = absurd (omega arith)

-- what is mixed with itself
one_self : (own ln : Bool) (c : Component) → one_of own ln c c ≡ c
one_self true true c = refl
one_self false false c = refl
one_self _ _ c = refl

mix_self : (own ln : ℕ → Bool) (cs : List Component) → mix own ln cs cs ≡ cs
mix_self own ln [] = refl
mix_self own ln (c ∷ cs) = ap (λ y. y ∷ mix (λ n. own (suc n)) (λ n. ln (suc n)) cs cs) (one_self (own 0) (ln 0) c) ∙ ap (λ l. c ∷ l) (mix_self (λ n. own (suc n)) (λ n. ln (suc n)) cs)

either_self : (b : Bool) (p : Process) → (if b then p else p) ≡ p
either_self true p = refl
either_self false p = refl

pub processes_self : (own : ℕ → Bool) (ps : List Process) → mixed_processes own ps ps ≡ ps
processes_self own [] = refl
processes_self own (p ∷ ps) = ap (λ y. y ∷ mixed_processes (λ n. own (suc n)) ps ps) (either_self (own 0) p) ∙ ap (λ l. p ∷ l) (processes_self (λ n. own (suc n)) ps)

state_of : List Process → List Component → List Shown → Discipline → Option ℕ → State
state_of ps cs out g o = record { processes = ps; components = cs; output = out; discipline = g; pending = o }

pub merged_self : (procs own ln : ℕ → Bool) (s : State) → merged procs own ln s s ≡ s
unfolding state_of
merged_self procs own ln s =
    ap (λ ps. state_of ps (mix own ln s.components s.components) s.output s.discipline s.pending) (processes_self procs s.processes) ∙
    ap (λ cs. state_of s.processes cs s.output s.discipline s.pending) (mix_self own ln s.components)

-- ---- two steps

-- without what was displayed
abbrev pub silent : State → State
silent s = record { processes = s.processes; components = s.components; output = []; discipline = s.discipline; pending = s.pending }

-- no step changes these
pub record SameShape (s x : State) : Type 0 where
  pub many : length s.processes ≡ length x.processes
  pub size : length s.components ≡ length x.components
  pub static : AllStatic s.components x.components
  pub discipline : x.discipline ≡ s.discipline
  pub pending : x.pending ≡ s.pending

abbrev pub flipped : (ℕ → Bool) → ℕ → Bool
flipped f n = not (f n)

-- a step changes only what is its process's own
own_changed : (procs own ln : ℕ → Bool) (p : Program) (s : State) (b : ℕ) → IsApart procs own ln s p s b → (step_of p s b).state ≡ merged procs own ln s (step_of p s b).state
own_changed procs own ln p s b apart = ap (λ t. (step_of p t b).state) (sym (merged_self procs own ln s)) ∙ ap (λ y. y.state) (step_merged procs own ln s p s b apart)

-- so the state after it is the state before, with what the other one does not have
pub others_state : (procs own ln : ℕ → Bool) (p : Program) (s : State) (b : ℕ) → s.output ≡ [] → SameShape s (step_of p s b).state → IsApart (flipped procs) (flipped own) (flipped ln) s p s b →
    silent (step_of p s b).state ≡ merged procs own ln (step_of p s b).state s
unfolding state_of
others_state procs own ln p s b out shape apart =
    ap silent (own_changed (flipped procs) (flipped own) (flipped ln) p s b apart) ∙
    ap (λ ps. state_of ps (mix (flipped own) (flipped ln) u.components s.components) [] u.discipline u.pending) (sym (processes_flip procs s.processes u.processes shape.many)) ∙
    ap (λ cs. state_of (mixed_processes procs s.processes u.processes) cs [] u.discipline u.pending) (sym (mix_flip own ln s.components u.components shape.size shape.static)) ∙
    ap (λ g. state_of (mixed_processes procs s.processes u.processes) (mix own ln s.components u.components) [] g u.pending) shape.discipline ∙
    ap (λ o. state_of (mixed_processes procs s.processes u.processes) (mix own ln s.components u.components) [] s.discipline o) shape.pending ∙
    ap (λ out. state_of (mixed_processes procs s.processes u.processes) (mix own ln s.components u.components) out s.discipline s.pending) (sym out)
  where
    u : State
    u = (step_of p s b).state

static_both : (cs ds es : List Component) → AllStatic cs ds → AllStatic cs es → AllStatic ds es
static_both cs ds es h k n = record { path = (k n).path ∙ sym (h n).path; system = (k n).system ∙ sym (h n).system; kind = (k n).kind ∙ sym (h n).kind }

pub record Commute (p : Program) (s : State) (a b : ℕ) : Type 0 where
  pub event_a : (step_of p (silent (step_of p s b).state) a).event ≡ (step_of p s a).event
  pub event_b : (step_of p (silent (step_of p s a).state) b).event ≡ (step_of p s b).event
  pub state : silent (step_of p (silent (step_of p s a).state) b).state ≡ silent (step_of p (silent (step_of p s b).state) a).state

-- a step after another's that has nothing in common with it
pub after_other : (procs own ln : ℕ → Bool) (p : Program) (s : State) (a b : ℕ) → s.output ≡ [] → SameShape s (step_of p s b).state → IsApart procs own ln (step_of p s b).state p s a → IsApart (flipped procs) (flipped own) (flipped ln) s p s b →
    step_of p (silent (step_of p s b).state) a ≡ merged_step procs own ln (step_of p s b).state (step_of p s a)
after_other procs own ln p s a b out shape apart_a apart_b =
    ap (λ t. step_of p t a) (others_state procs own ln p s b out shape apart_b) ∙ step_merged procs own ln (step_of p s b).state p s a apart_a

pub two_steps : (procs own ln : ℕ → Bool) (p : Program) (s : State) (a b : ℕ) → s.output ≡ [] → SameShape s (step_of p s a).state → SameShape s (step_of p s b).state →
    step_of p (silent (step_of p s b).state) a ≡ merged_step procs own ln (step_of p s b).state (step_of p s a) →
    step_of p (silent (step_of p s a).state) b ≡ merged_step (flipped procs) (flipped own) (flipped ln) (step_of p s a).state (step_of p s b) → Commute p s a b
unfolding state_of
two_steps procs own ln p s a b out shape_a shape_b first second =
    record {
      event_a = ap (λ y. y.event) first;
      event_b = ap (λ y. y.event) second;
      state = ap (λ y. silent y.state) second ∙ same ∙ ap (λ y. silent y.state) (sym first);
    }
  where
    t : State
    t = (step_of p s a).state

    u : State
    u = (step_of p s b).state

    same : silent (merged (flipped procs) (flipped own) (flipped ln) t u) ≡ silent (merged procs own ln u t)
    same =
        ap (λ ps. state_of ps (mix (flipped own) (flipped ln) u.components t.components) [] u.discipline u.pending) (sym (processes_flip procs t.processes u.processes (sym shape_a.many ∙ shape_b.many))) ∙
        ap (λ cs. state_of (mixed_processes procs t.processes u.processes) cs [] u.discipline u.pending) (sym (mix_flip own ln t.components u.components (sym shape_a.size ∙ shape_b.size) (static_both s.components t.components u.components shape_a.static shape_b.static))) ∙
        ap (λ g. state_of (mixed_processes procs t.processes u.processes) (mix own ln t.components u.components) [] g u.pending) (shape_b.discipline ∙ sym shape_a.discipline) ∙
        ap (λ o. state_of (mixed_processes procs t.processes u.processes) (mix own ln t.components u.components) [] t.discipline o) (shape_b.pending ∙ sym shape_a.pending)

turned : (cs ds : List Component) → AllStatic cs ds → AllStatic ds cs
turned cs ds h n = record { path = sym (h n).path; system = sym (h n).system; kind = sym (h n).kind }

-- the same, seen from the one who stepped
pub others_flipped : (procs own ln : ℕ → Bool) (p : Program) (s : State) (a : ℕ) → s.output ≡ [] → SameShape s (step_of p s a).state → IsApart procs own ln s p s a →
    silent (step_of p s a).state ≡ merged (flipped procs) (flipped own) (flipped ln) (step_of p s a).state s
unfolding state_of
others_flipped procs own ln p s a out shape apart =
    ap silent (own_changed procs own ln p s a apart) ∙
    ap (λ ps. state_of ps (mix own ln u.components s.components) [] u.discipline u.pending) (processes_flip procs u.processes s.processes (sym shape.many)) ∙
    ap (λ cs. state_of (mixed_processes (flipped procs) s.processes u.processes) cs [] u.discipline u.pending) (mix_flip own ln u.components s.components (sym shape.size) (turned s.components u.components shape.static)) ∙
    ap (λ g. state_of (mixed_processes (flipped procs) s.processes u.processes) (mix (flipped own) (flipped ln) s.components u.components) [] g u.pending) shape.discipline ∙
    ap (λ o. state_of (mixed_processes (flipped procs) s.processes u.processes) (mix (flipped own) (flipped ln) s.components u.components) [] s.discipline o) shape.pending ∙
    ap (λ out. state_of (mixed_processes (flipped procs) s.processes u.processes) (mix (flipped own) (flipped ln) s.components u.components) out s.discipline s.pending) (sym out)
  where
    u : State
    u = (step_of p s a).state

pub after_flipped : (procs own ln : ℕ → Bool) (p : Program) (s : State) (a b : ℕ) → s.output ≡ [] → SameShape s (step_of p s a).state → IsApart (flipped procs) (flipped own) (flipped ln) (step_of p s a).state p s b → IsApart procs own ln s p s a →
    step_of p (silent (step_of p s a).state) b ≡ merged_step (flipped procs) (flipped own) (flipped ln) (step_of p s a).state (step_of p s b)
after_flipped procs own ln p s a b out shape apart_b apart_a =
    ap (λ t. step_of p t b) (others_flipped procs own ln p s a out shape apart_a) ∙ step_merged (flipped procs) (flipped own) (flipped ln) (step_of p s a).state p s b apart_b
