-- Two systems have the same runs in one way at most.
use Rattle.cp_machine_laws.proofs.Words.{props, Tree, Tables, Discipline, MeansTheSame}

pub means_once : (t : Tree) (r : Tables) (g : Discipline) → IsProp (MeansTheSame t r g)
means_once t r g = hlevel props
