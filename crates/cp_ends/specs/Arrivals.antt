-- The graph of a machine that shows nothing: its places are the states at due choices, its edges lead to the next due choice, or to an end.
use Rattle.std.specs.Prelude.{◌==◌, ◌&&◌, ◌||◌, ℕ, zero, suc, List, [], ◌∷◌, ◌++◌, Bool, true, false, if◌then◌else◌, Option, None, Some}
use Rattle.cp_machine.specs.declared.event.Event.{Event}
use Rattle.cp_machine.specs.declared.event.Event.TheVariants.{Kernel}
use Rattle.cp_machine.specs.declared.shown.Shown.{Shown}
use Rattle.cp_run.specs.declared.outcome.Halt.{Halt}
use Rattle.cp_run.specs.declared.outcome.Halt.TheVariants.{Choice, Ended}
use Rattle.cp_run.specs.declared.outcome.OutcomeKind.TheVariants.{StepLimit}
use Rattle.cp_run.specs.declared.outcome.Turn.{Turn}
use Rattle.cp_run.specs.declared.outcome.Turn.TheVariants as turn
use Rattle.cp_run.specs.System.{System}
use Rattle.cp_run.specs.Fold.{Fold}
use Rattle.cp_run.specs.Run.{Node, Halted, Choosing, may, turn_at, settled_turn, stretch}
use Rattle.cp_run.specs.Table.{each}
use Rattle.cp_endless_laws.specs.Forgetting.{forgetting_system}
use Rattle.cp_endless_laws.specs.Moments.{Moment, stretch_moments}
use Rattle.cp_endless_laws.specs.Rounds.{spot_after}
use Rattle.cp_endless_laws.specs.Shown.{shown_at}
use Rattle.cp_ends.specs.Graph.{Goal, Place, End, Arrival, Graph}
use Rattle.cp_ends.specs.declared.end.End as code
use Rattle.cp_ends.specs.declared.end.End.TheVariants.{Over, Alone, Spins}

-- ---- a stretch that the limit of steps cut

-- after how many steps more it is in this state before a step of this process again, if it is within so many
abbrev pub return_at : {S : Type 0} → (S → S → Bool) → S → ℕ → Option (S × ℕ) → Bool
return_at eq s p None = false
return_at eq s p (Some (t, q)) = (q == p) && eq t s

abbrev pub first_return : Option ℕ → Bool → ℕ → Option ℕ
first_return (Some k) b n = Some k
first_return None true n = Some n
first_return None false n = None

-- `Some n`: after suc n steps for the first time, of at most so many
unfoldable pub return_within : {S : Type 0} → System S → (S → S → Bool) → S → ℕ → ℕ → Option ℕ
return_within sys eq s p zero = None
return_within sys eq s p (suc n) = first_return (return_within sys eq s p n) (return_at eq s p (spot_after sys (suc n) s p)) n

-- whether a kernel call is made at one of these moments
abbrev pub is_call : Event → Bool
is_call (Kernel call) = true
is_call _ = false

abbrev pub has_call : {S : Type 0} → System S → List (Moment S) → Bool
has_call sys [] = false
has_call sys (m ∷ ms) = is_call (sys.event m.state m.mover) || has_call sys ms

-- it goes on for ever, or nothing is known of what follows
abbrev pub cut_arrival : {S : Type 0} → System S → System S → List Shown → S → ℕ → Option ℕ → Arrival S code.End Shown
cut_arrival sys quiet shown s p None = record { goal = End (Over StepLimit); shown = shown }
cut_arrival sys quiet shown s p (Some n) =
    record {
      goal = End (if has_call quiet (stretch_moments quiet (suc n) s p) then Alone p else Spins p);
      shown = shown ++ each (shown_at sys) (stretch_moments quiet (suc n) s p);
    }

-- ---- where a stretch comes to

abbrev pub goal_of : {S : Type 0} → Node S → Goal S code.End
goal_of (Halted kind s) = End (Over kind)
goal_of (Choosing s) = Place s

-- by where it stands after as many steps as the limit
abbrev pub stretch_by : {S : Type 0} → System S → System S → (S → S → Bool) → ℕ → S → ℕ → List Shown → Option (S × ℕ) → Arrival S code.End Shown
stretch_by sys quiet eq steps s p shown None = record { goal = goal_of (stretch quiet steps s p); shown = shown }
stretch_by sys quiet eq steps s p shown (Some (t, q)) = cut_arrival sys quiet shown t q (return_within quiet eq t q steps)

unfoldable pub stretch_arrival : {S : Type 0} → System S → (S → S) → (S → S → Bool) → ℕ → S → ℕ → Arrival S code.End Shown
stretch_arrival sys forget eq steps s p =
    let quiet = forgetting_system sys forget in
    stretch_by sys quiet eq steps s p (each (shown_at sys) (stretch_moments quiet steps s p)) (spot_after quiet steps s p)

abbrev pub arrival_by : {S : Type 0} → S → (ℕ → Arrival S code.End Shown) → Turn → Arrival S code.End Shown
arrival_by s on (turn.Over kind) = record { goal = End (Over kind); shown = [] }
arrival_by s on turn.Due = record { goal = Place s; shown = [] }
arrival_by s on (turn.Goes q) = on q

-- where it came to if it stands in this state after as many steps as the limit, this comes next, and so much was shown
abbrev pub halt_arrival : {S : Type 0} → System S → System S → (S → S → Bool) → ℕ → List Shown → S → Turn → Arrival S code.End Shown
halt_arrival sys quiet eq steps shown s (turn.Over kind) = record { goal = End (Over kind); shown = shown }
halt_arrival sys quiet eq steps shown s turn.Due = record { goal = Place s; shown = shown }
halt_arrival sys quiet eq steps shown s (turn.Goes q) = cut_arrival sys quiet shown s q (return_within quiet eq s q steps)

-- where the code came to, in this state
abbrev pub goal_at : {S : Type 0} → Halt code.End → S → Goal S code.End
goal_at Choice s = Place s
goal_at (Ended e) s = End e

-- what is told of a run: the values that are shown, and whether a kernel call is made
abbrev pub teller : {S : Type 0} → System S → Fold S (List Shown × Bool)
teller sys =
    record {
      on_step = λ s p event t x. (x.0 ++ shown_at sys (record { state = s; mover = p }), is_call event || x.1);
      on_admission = λ p t x. x;
      on_choice = λ s p x. x;
    }

-- ---- the graph

unfoldable pub first_arrival : {S : Type 0} → System S → (S → S) → (S → S → Bool) → ℕ → Arrival S code.End Shown
first_arrival sys forget eq steps =
    let quiet = forgetting_system sys forget in
    arrival_by quiet.start (stretch_arrival sys forget eq steps quiet.start) (turn_at quiet quiet.start false 0)

unfoldable pub next_arrival : {S : Type 0} → System S → (S → S) → (S → S → Bool) → ℕ → S → ℕ → Arrival S code.End Shown
next_arrival sys forget eq steps s p =
    let quiet = forgetting_system sys forget in
    if sys.is_pending s then arrival_by (sys.admit s p) (stretch_arrival sys forget eq steps (sys.admit s p)) (settled_turn quiet (sys.admit s p) true p) else stretch_arrival sys forget eq steps s p

-- `eq` says which states are one
abbrev pub ends_graph : {S : Type 0} → System S → (S → S) → (S → S → Bool) → ℕ → Graph S code.End Shown
ends_graph sys forget eq steps =
    record {
      below = sys.processes;
      start = first_arrival sys forget eq steps;
      may = may sys;
      on = next_arrival sys forget eq steps;
    }
