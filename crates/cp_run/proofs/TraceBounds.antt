-- How many lines a trace has.
use Rattle.std.proofs.Common.{◌≡◌, ℕ, zero, suc, ◌+◌, ◌*◌, ◌≤◌, Bool, true, false, if◌then◌else◌, List, [], ◌∷◌, ◌++◌, length, ap, arith}
use Rattle.std.proofs.lemmas.List.{length-append}
use Rattle.std.proofs.Math.Nat.{mul-le-mul_right}
use Rattle.cp_run.proofs.Words.{Event, Turn, Goes, System}
use Rattle.cp_machine.specs.declared.event.Event.TheVariants.{Local, Kernel, Ended, Fault, OutputFull}
use Rattle.cp_run.specs.declared.line.TraceLine.{TraceLine}
use Rattle.cp_run.specs.declared.line.TraceEvent.TheVariants.{Admit}
use Rattle.cp_run.specs.Run.{Node, Halted, Choosing, turn_after, turn_at, settled_turn, may, chosen, opened}
use Rattle.cp_run.specs.Trace.{holders_in, step_lines, lines_on, stretch_lines, opened_lines, chosen_lines, trace_from, trace}

step_few : {S : Type 0} (sys : System S) (t : S) (p : ℕ) (event : Event) → length (step_lines sys t p event) ≤ 1
step_few sys t p Local = omega arith
step_few sys t p (Kernel k) = omega arith
step_few sys t p Ended = omega arith
step_few sys t p (Fault e) = omega arith
step_few sys t p OutputFull = omega arith

on_few : (on : ℕ → List TraceLine) (n : ℕ) (turn : Turn) → ((q : ℕ) → length (on q) ≤ n) → length (lines_on on turn) ≤ n
on_few on n (Goes q) h = h q
on_few on n _ h = omega arith

stretch_few : {S : Type 0} (sys : System S) (steps : ℕ) (s : S) (p : ℕ) → length (stretch_lines sys steps s p) ≤ steps
unfolding stretch_lines
stretch_few sys zero s p = omega arith
stretch_few sys (suc left) s p =
    let t = sys.step s p in
    let a = step_few sys t p (sys.event s p) in
    let b = on_few (stretch_lines sys left t) left (turn_after sys t p (sys.event s p)) (λ q. stretch_few sys left t q) in
    let e = length-append (step_lines sys t p (sys.event s p)) (lines_on (stretch_lines sys left t) (turn_after sys t p (sys.event s p))) in
    omega (arith, a, b, e)

opened_few : {S : Type 0} (sys : System S) (steps : ℕ) → length (opened_lines sys steps) ≤ steps
unfolding opened_lines
opened_few sys steps = on_few (stretch_lines sys steps sys.start) steps (turn_at sys sys.start false 0) (λ q. stretch_few sys steps sys.start q)

gate_few : {S : Type 0} (sys : System S) (steps : ℕ) (s t : S) (p : ℕ) (b : Bool) (turn : Turn) (line : TraceLine) → length (if b then line ∷ lines_on (stretch_lines sys steps t) turn else stretch_lines sys steps s p) ≤ steps + 1
gate_few sys steps s t p true turn line = let h = on_few (stretch_lines sys steps t) steps turn (λ q. stretch_few sys steps t q) in omega (arith, h)
gate_few sys steps s t p false turn line = let h = stretch_few sys steps s p in omega (arith, h)

chosen_few : {S : Type 0} (sys : System S) (steps : ℕ) (s : S) (p : ℕ) → length (chosen_lines sys steps s p) ≤ steps + 1
unfolding chosen_lines
chosen_few sys steps s p = gate_few sys steps s (sys.admit s p) p (sys.is_pending s) (settled_turn sys (sys.admit s p) true p) (record { process = p; event = Admit; holders = holders_in sys (sys.admit s p) })

either_few : (b : Bool) (l : List TraceLine) (n : ℕ) → length l ≤ n → length (if b then l else []) ≤ n
either_few true l n h = h
either_few false l n h = omega arith

from_few : {S : Type 0} (sys : System S) (steps choices : ℕ) (word : List ℕ) (node : Node S) → length (trace_from sys steps choices word node) ≤ choices * (steps + 1)
unfolding trace_from
from_few sys steps zero word (Halted kind s) = omega arith
from_few sys steps (suc choices) word (Halted kind s) = omega arith
from_few sys steps zero word (Choosing s) = omega arith
from_few sys steps (suc choices) [] (Choosing s) = omega arith
from_few sys steps (suc choices) (p ∷ word) (Choosing s) =
    let a = chosen_few sys steps s p in
    let b = from_few sys steps choices word (chosen sys steps s p) in
    let e = length-append (chosen_lines sys steps s p) (trace_from sys steps choices word (chosen sys steps s p)) in
    either_few (may sys s p) (chosen_lines sys steps s p ++ trace_from sys steps choices word (chosen sys steps s p)) (suc choices * (steps + 1)) (omega (arith, a, b, e))

pub few_lines : {S : Type 0} (sys : System S) (steps choices : ℕ) (word : List ℕ) (lines : List TraceLine) → lines ≡ trace sys choices steps word → length lines ≤ (choices + 1) * steps + choices
few_lines sys steps choices word lines h =
    let a = opened_few sys steps in
    let b = from_few sys steps choices word (opened sys steps) in
    let e = length-append (opened_lines sys steps) (trace_from sys steps choices word (opened sys steps)) in
    omega (arith, a, b, e, ap length h)

-- Steps of as many stretches as a run may have, where there were fewer of them.
pub ticks_within : (now before place most steps : ℕ) → now ≤ before + (place + 1) * steps → place ≤ most → now ≤ before + (most + 1) * steps
ticks_within now before place most steps so_far within =
    let places : place + 1 ≤ most + 1 = omega (arith, within) in
    omega (arith, so_far, mul-le-mul_right steps places)
