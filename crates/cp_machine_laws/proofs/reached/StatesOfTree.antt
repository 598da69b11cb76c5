-- What is known of the states that a tree reaches which was read and breaks no rule.
use Rattle.cp_machine_laws.proofs.Words.{◌≡◌, ℕ, ◌<◌, true, length, Tree, plain, laid, Tables, IsRead, IsAccepted, process_at, delayed, entry_routine, current}
use Rattle.cp_machine_laws.proofs.Words.{Discipline, State, has_entry, IsReached, openings_of, layouts_of}
use Rattle.cp_machine_laws.specs.AllKnown.{StatesKnown}
use Rattle.cp_machine_laws.specs.StatesKnown.{IsContinuing}
use Rattle.cp_machine_laws.proofs.expressions.DesignatedTypes.{NamesTyped}
use Rattle.cp_machine_laws.proofs.reached.KnownEntries.{counted, entries_known}
use Rattle.cp_machine_laws.proofs.reached.KnownItems.{next_known}
use Rattle.cp_machine_laws.proofs.reached.KnownRoutines.{traits, routines_known}
use Rattle.cp_machine_laws.proofs.reached.NextInReached.{delayed_called, continues_in_entry}
use Rattle.cp_machine_laws.proofs.trees.ProgramOfTree.{program_known}
use Rattle.cp_machine_laws.proofs.starts.StartsKnown.{starts_known}

module _ (t : Tree) (read : IsRead t.program) (ok : IsAccepted t) (g : Discipline) (s : State) (before : IsReached t.program g s) where
  pub continuing_in_entry : (q : ℕ) → IsContinuing s q → (current (process_at s.processes q).calls).kind ≡ entry_routine
  continuing_in_entry q x = (continues_in_entry t ok (layouts_of t) (traits t) (routines_known t read ok) g s before q x.token x.name x.arguments x.items x.there x.ready_now x.next x.standard).0

  pub delayed_inside : (n q : ℕ) → q < length s.processes → (process_at s.processes q).status ≡ delayed n → has_entry n (process_at s.processes q).calls ≡ true
  delayed_inside = delayed_called t ok (layouts_of t) (traits t) (routines_known t read ok) g s before

module _ (t : Tree) (r : Tables) (read : IsRead t.program) (ok : IsAccepted t) (same : plain r ≡ laid t) where
  -- the types that names have in a routine
  names_typed : (n : ℕ) → n < length r.routines → NamesTyped (layouts_of t) n
  names_typed n less = (let x = (program_known t r read ok same).routines n less in record { fit = x.fit; result = x.result })

  many : length r.routines ≡ length (openings_of t.program)
  many = counted t read ok r same

  pub states_known : (g : Discipline) → StatesKnown t r (layouts_of t) g
  states_known g s m sim =
      record {
        next = next_known t r read ok (traits t) (routines_known t read ok) (entries_known t read ok) many names_typed g s m sim;
        continues = continuing_in_entry t read ok g s sim.reached;
        delayed = delayed_inside t read ok g s sim.reached;
        starts = starts_known t r read ok same (traits t) (routines_known t read ok) g s m sim;
      }
