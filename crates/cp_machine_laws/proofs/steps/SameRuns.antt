-- Where the meaning and the slot machine go in step, they have the same runs, table and traces.
use Rattle.cp_machine_laws.proofs.Words.{Tree, Tables, slots, Discipline, Layouts, GoInStep, Simulates, MeansTheSame, named, discipline_of}
use Rattle.cp_machine_laws.proofs.Alike.{run_same, table_same, trace_same}

pub same_runs : (t : Tree) (r : Tables) (l : Layouts) (g : Discipline) → GoInStep (named t g) (slots r (discipline_of g)) (Simulates t r l g) → MeansTheSame t r g
same_runs t r l g go choices steps =
    record {
      runs = run_same (named t g) (slots r (discipline_of g)) (Simulates t r l g) go choices steps;
      tables = table_same (named t g) (slots r (discipline_of g)) (Simulates t r l g) go choices steps;
      traces = trace_same (named t g) (slots r (discipline_of g)) (Simulates t r l g) go choices steps;
    }
