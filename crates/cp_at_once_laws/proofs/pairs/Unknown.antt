-- No component knows a process: at the start, and after each step.
use Rattle.std.proofs.Common.{◌≡◌, ℕ, ◌<◌, ◌==◌, ◌⊎◌, inl, inr, Bool, true, false, if◌then◌else◌, List, [], ◌∷◌, length, Option, Some, None, Ok, Err, subst}
use Rattle.cp_at_once_laws.proofs.Words.{Program, Outcome, Name, content_of, Move, enters, leaves, delays, continues, starts, shows, Doing, first_components, opening}
use Rattle.cp_at_once_laws.proofs.Words.{settled, step_of, IsWellFormed, OrderlyState, OwnedState, components_of, Known, append_content, known_set}
use Rattle.cp_meaning.specs.State.{knows, Environment, component_at, Status, unstarted, ready, at_gate, delayed, process_at, Gates, first_gates, any_gates, Discipline, book_discipline, Shown, State}
use Rattle.cp_meaning.specs.Kernel.{output_room, line_of, with_line_of, moved_to, made_ready, first_in, let_in, is_anybody_inside, entering, is_delayed_in, continuing, process_of, starting_as, starting, displaying, kernel_step}
use Rattle.cp_meaning.proofs.OwnOpening.{first_values}
use Rattle.cp_at_once_laws.proofs.pairs.ByTheBook.{gates_first, returns_at_once}
use Rattle.cp_at_once_laws.proofs.pairs.Facts.{NoProcess, GivesNone, done, AllFacts, facts}
use Rattle.cp_at_once_laws.proofs.pairs.Fit.{StartsKnown, ProcessesUnknown}

pub unknown_opening : (p : Program) (g : Discipline) → ProcessesUnknown p (opening p g)
unknown_opening p g n d x t = absurd (first_values p (components_of p) n x (knows d) t)

module _ (p : Program) (s : State) (pid : ℕ) (d : Doing) (known : Known (λ n k. NoProcess p s pid k) d.components) (old : ProcessesUnknown p s) where
  abbrev None' : State → Type 0
  None' t = Known (λ n k. NoProcess p s pid k) t.components

  lined : (t : State) (m : ℕ) (line : List ℕ) → None' t → None' (with_line_of t m line)
  lined t m line h = known_set (λ n k. NoProcess p s pid k) t.components m _ (λ k x e. h m k x e) h

  first_none : (line : List ℕ) (t : State) (m : ℕ) → None' t → None' (first_in line t m)
  first_none [] t m h = h
  first_none (q ∷ line) t m h = lined (made_ready t q) m line h

  in_none : (g : Gates) (t : State) (m : ℕ) → g ≡ first_gates → None' t → None' (let_in g t m)
  in_none first_gates t m first h = first_none (line_of t m) t m h
  in_none any_gates t m first h = absurd (let bad : any_gates ≡ first_gates = first in cc)

  if_none : (b : Bool) (t u : State) → None' t → None' u → None' (if b then t else u)
  if_none true t u h k = h
  if_none false t u h k = k

  continue_none : (t : State) (m : ℕ) (o : Option ℕ) → t.discipline ≡ book_discipline → None' t → None' (continuing t m o)
  continue_none t m None first h = in_none t.discipline.gates t m (gates_first t first) h
  continue_none t m (Some r) first h = if_none (is_delayed_in m (process_at t.processes r).status) _ _ h (in_none t.discipline.gates t m (gates_first t first) h)

  enter_none : (b : Bool) (m : ℕ) → None' (entering b s pid m d)
  enter_none true m = lined (moved_to (at_gate m) s pid d) m _ known
  enter_none false m = known

  as_none : (r c : ℕ) (e : Environment) (status : Status) → GivesNone p s pid (starts c e) → None' (starting_as p s pid d r status c e).state
  as_none r c e unstarted h = known_set (λ n k. NoProcess p s pid k) d.components c _ (λ k x is. go k x (append_content x e (component_at d.components c).environment (knows k) is)) known
    where
      go : (k : ℕ) (x : Name) → (content_of x e ≡ Some (knows k)) ⊎ (content_of x (component_at d.components c).environment ≡ Some (knows k)) → NoProcess p s pid k
      go k x (inl f) = h k x f
      go k x (inr f) = known c k x f
  as_none r c e _ h = old

  start_none : (o : Option ℕ) (c : ℕ) (e : Environment) → GivesNone p s pid (starts c e) → None' (starting p s pid d o c e).state
  start_none None c e h = known
  start_none (Some r) c e h = as_none r c e (process_at (moved_to ready s pid d).processes r).status h

  show_none : (b : Bool) (y : Shown) → None' (displaying b s pid d y).state
  show_none true y = old
  show_none false y = known

  kernel_none : (move : Move) → s.discipline ≡ book_discipline → GivesNone p s pid move → None' (kernel_step p s pid d move).state
  kernel_none (enters m) first h = enter_none (is_anybody_inside m s.processes) m
  kernel_none (leaves m) first h = in_none s.discipline.gates (moved_to ready s pid d) m (gates_first s first) known
  kernel_none (delays m) first h = in_none s.discipline.gates (moved_to (delayed m) s pid d) m (gates_first s first) known
  kernel_none (continues m o going items) first h = subst None' (returns_at_once s pid d m o going items first) (continue_none (moved_to ready s pid d) m o first known)
  kernel_none (starts c e) first h = start_none (process_of c (moved_to ready s pid d).processes) c e h
  kernel_none (shows y) first h = show_none (length s.output == output_room) y
  kernel_none _ first h = known

settled_unknown : (p : Program) (s : State) (pid : ℕ) (o : Outcome Doing) → s.discipline ≡ book_discipline → AllFacts p s pid o → ProcessesUnknown p s → ProcessesUnknown p (settled p s pid o).state
settled_unknown p s pid (Ok d) first f old = kernel_none p s pid d f.known.0 old d.move first f.known.1
settled_unknown p s pid (Err e) first f old = old

pub unknown_step : (p : Program) (ok : IsWellFormed p) → StartsKnown p → (s : State) (pid : ℕ) → OwnedState (first_components p) s → OrderlyState s → s.discipline ≡ book_discipline → pid < length s.processes → (process_at s.processes pid).status ≡ ready → ProcessesUnknown p s → ProcessesUnknown p (step_of p s pid).state
unknown_step p ok rules s pid owned orderly first lt is_ready old = settled_unknown p s pid (done p s pid) first (facts p s pid ok owned orderly lt is_ready rules old) old
