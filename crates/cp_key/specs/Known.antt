-- What is known of a state: parts of its key.
use Rattle.std.specs.Prelude.{◌≡◌, ◌+◌, ◌-◌, ◌<◌, ◌≤◌, ◌++◌, ℕ, List, [], length, drop, false, slice_index_or}
use Rattle.cp_machine.specs.Bodies.{Body, body_of, has_moved}
use Rattle.cp_machine.specs.Machine.{Machine, Thread, thread_at, thread_of}
use Rattle.cp_machine.specs.declared.moved.Moved.{Moved}
use Rattle.cp_machine.specs.declared.process.ProcessState.{ProcessState}
use Rattle.cp_key.specs.declared.bodies.Bodies.{Bodies}
use Rattle.cp_key.specs.declared.bodies.Parts.{Parts}
use Rattle.cp_key.specs.Key.{body_key}
use Rattle.cp_key.specs.Numbers.{integer_key, list_key, number_key}

-- these bytes are the key of a list, where there are any
abbrev pub AreKeyOf : {A : Type 0} → (A → List ℕ) → List ℕ → List A → Type 0
AreKeyOf key bytes xs = 0 < length bytes → bytes ≡ list_key key xs

-- the key of a list tells where it ends
abbrev pub TellsItsEnd : {A : Type 0} → (A → List ℕ) → Type 0
TellsItsEnd {A} key = (xs ys : List A) (rest more : List ℕ) → list_key key xs ++ rest ≡ list_key key ys ++ more → (xs ≡ ys) × (rest ≡ more)

-- what is left of a key from the body of a process on
abbrev pub rest_at : Bodies → ℕ → List ℕ
rest_at known pid = drop (length known.key.now - slice_index_or known.rests.items pid 0) known.key.now

-- these are the bodies of threads, one after another
abbrev pub AreBodies : Bodies → List Thread → Type 0
AreBodies known ts = (pid : ℕ) → pid + 1 < length known.rests.items → rest_at known pid ≡ body_key (body_of (thread_at ts pid)) ++ rest_at known (pid + 1)

-- these are parts of the key of a machine
pub record ArePartsOf (known : Parts) (m : Machine) : Type 0 where
  pub permanents : AreKeyOf integer_key known.permanents.now m.permanents
  pub bindings : AreKeyOf number_key known.bindings.now m.bindings
  pub bodies : AreBodies known.bodies m.threads

-- the body of each process that did not move is among them
abbrev pub Cover : Bodies → Moved → Machine → Type 0
Cover known moved m = (pid : ℕ) → pid < length m.threads → has_moved moved pid ≡ false → pid + 1 < length known.rests.items

-- the body of each thread that did not move is known
pub record KnowUnmoved (known : Bodies) (moved : Moved) (ts : List Thread) : Type 0 where
  pub cover : (pid : ℕ) → pid < length ts → has_moved moved pid ≡ false → pid + 1 < length known.rests.items
  pub bodies : (pid : ℕ) → pid < length ts → has_moved moved pid ≡ false → rest_at known pid ≡ body_key (body_of (thread_at ts pid)) ++ rest_at known (pid + 1)

-- these bytes are the bodies of the processes from one on, up to another
pub record IsRun (known : Bodies) (first end : ℕ) (bytes : List ℕ) : Type 0 where
  pub none : end ≤ first → bytes ≡ []
  pub cover : first < end → end < length known.rests.items
  pub rest : rest_at known first ≡ bytes ++ rest_at known end

-- the body of a process
abbrev pub inside : ProcessState → Body
inside p = body_of (thread_of p)

-- these are the bodies of the first of these processes
abbrev pub AreBodiesIn : Bodies → List ProcessState → Type 0
AreBodiesIn known ps = (pid : ℕ) (d : ProcessState) → pid < length ps → pid + 1 < length known.rests.items → rest_at known pid ≡ body_key (inside (slice_index_or ps pid d)) ++ rest_at known (pid + 1)

-- two processes differ in their statuses at most
pub record AreSameInside (p q : ProcessState) : Type 0 where
  pub frame : p.frame ≡ q.frame
  pub stack : p.stack ≡ q.stack
  pub room : p.room ≡ q.room

-- the processes that did not move did not move before either, and have the same bodies
pub record KeepUnmoved (before after : Moved) (old new : List ProcessState) : Type 0 where
  pub moved : (pid : ℕ) → has_moved after pid ≡ false → has_moved before pid ≡ false
  pub bodies : (pid : ℕ) (d : ProcessState) → has_moved after pid ≡ false → inside (slice_index_or new pid d) ≡ inside (slice_index_or old pid d)
