-- Parts of a machine, and a machine with the parts that another one has.
use Rattle.std.specs.Prelude.{◌≡◌, ℕ, suc, Bool, List, [], ◌∷◌, if◌then◌else◌}
use Rattle.cp_machine.specs.Machine.{Machine, Thread}
use Rattle.cp_machine.specs.Statements.{Stepped}

-- what belongs to it: of permanent cells, with what is bound there; of the statuses of components and of processes; of monitors; of the bodies of processes
pub record Footprint : Type 0 where
  pub cells : ℕ → Bool
  pub components : ℕ → Bool
  pub monitors : ℕ → Bool
  pub statuses : ℕ → Bool
  pub bodies : ℕ → Bool

-- a list, and in other places what another one has
abbrev pub overlaid : {A : Type 0} → (ℕ → Bool) → List A → List A → List A
overlaid own [] ys = []
overlaid own (x ∷ xs) [] = x ∷ xs
overlaid own (x ∷ xs) (y ∷ ys) = (if own 0 then x else y) ∷ overlaid (λ k. own (suc k)) xs ys

-- the status of a thread and its body, or those of another one
abbrev pub thread_by : (status body : Bool) → Thread → Thread → Thread
thread_by status body t u =
    record {
      status = if status then t.status else u.status;
      frame = if body then t.frame else u.frame;
      stack = if body then t.stack else u.stack;
      cells = if body then t.cells else u.cells;
      references = if body then t.references else u.references;
    }

abbrev pub threads_by : (statuses bodies : ℕ → Bool) → List Thread → List Thread → List Thread
threads_by statuses bodies [] us = []
threads_by statuses bodies (t ∷ ts) [] = t ∷ ts
threads_by statuses bodies (t ∷ ts) (u ∷ us) = thread_by (statuses 0) (bodies 0) t u ∷ threads_by (λ k. statuses (suc k)) (λ k. bodies (suc k)) ts us

-- machine n with what machine m has in the footprint, and with its pending monitor, its discipline and what it displayed
abbrev pub laid_over : Footprint → Machine → Machine → Machine
laid_over f m n =
    record {
      permanents = overlaid f.cells m.permanents n.permanents;
      bindings = overlaid f.cells m.bindings n.bindings;
      phases = overlaid f.components m.phases n.phases;
      threads = threads_by f.statuses f.bodies m.threads n.threads;
      monitors = overlaid f.monitors m.monitors n.monitors;
      pending = m.pending;
      discipline = m.discipline;
      output = m.output;
    }

-- two machines agree on the footprint
abbrev pub AgreeOn : Footprint → Machine → Machine → Type 0
AgreeOn f m n = laid_over f m n ≡ n

-- what a step came to
abbrev pub step_over : Footprint → Stepped → Machine → Stepped
step_over f s n = record { machine = laid_over f s.machine n; event = s.event }
