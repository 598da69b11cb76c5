-- After a run error or a full output the state is as it was.
use Rattle.cp_machine_laws.proofs.Words.{◌≡◌, ℕ, Bool, true, false, ◌==◌, Option, Some, None, length, refl, Ok, Err, Program, Outcome, Environment, Status, unstarted, ready}
use Rattle.cp_machine_laws.proofs.Words.{process_at, Shown, State, takes, view_of, settled, Move, starts, shows, Doing}
use Rattle.cp_meaning.specs.Kernel.{output_room, kernel_step, starting_as, starting, displaying, process_of}
use Rattle.cp_meaning.specs.Kernel as kernel
use Rattle.cp_machine_laws.specs.Stopped.{is_stop, StateAsBeforeLaw}

module _ (p : Program) (s : State) (pid : ℕ) where
  abbrev Kept : kernel.Stepped → Type 0
  Kept t = is_stop t.event ≡ true → t.state ≡ s

  started_so : (d : Doing) (r : ℕ) (status : Status) (c : ℕ) (e : Environment) → Kept (starting_as p s pid d r status c e)
  started_so d r unstarted c e h = absurd (cc)
  started_so d r _ c e h = refl

  starting_so : (d : Doing) (o : Option ℕ) (c : ℕ) (e : Environment) → Kept (starting p s pid d o c e)
  starting_so d None c e h = absurd (cc)
  starting_so d (Some r) c e h = started_so d r (process_at (kernel.moved_to ready s pid d).processes r).status c e h

  displayed_so : (full : Bool) (d : Doing) (x : Shown) → Kept (displaying full s pid d x)
  displayed_so true d x h = refl
  displayed_so false d x h = absurd (cc)

  kernel_so : (d : Doing) (m : Move) → Kept (kernel_step p s pid d m)
  kernel_so d (starts c e) h = starting_so d (process_of c (kernel.moved_to ready s pid d).processes) c e h
  kernel_so d (shows x) h = displayed_so (length s.output == output_room) d x h
  kernel_so d x h = absurd (cc)

  settled_so : (o : Outcome Doing) → Kept (settled p s pid o)
  settled_so (Ok d) h = kernel_so d d.move h
  settled_so (Err e) h = refl

pub state_as_before : StateAsBeforeLaw
state_as_before p s pid h = settled_so p s pid (takes (view_of p s pid) pid (process_at s.processes pid).items) h
