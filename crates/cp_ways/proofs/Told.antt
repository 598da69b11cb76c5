-- How many ways lead on to an outcome, by what outcomes weigh.
use Rattle.std.proofs.Common.{◌≡◌, ◌∙◌, ℕ, List, length, sym, ap}
use Rattle.cp_run.specs.Run.{Choosing}
use Rattle.cp_ways.proofs.Given.{Outcome, Machine, System, Tables, Discipline, EndKey, slots, core_key, kept_walk, walk}
use Rattle.cp_ways.specs.Ways.{since, ways_to, AreWaysOn}
use Rattle.cp_ways.specs.Weights.{weight_of, WeighAs}
use Rattle.cp_ways.proofs.Sums.{is_it, told_weight, count_weight}
use Rattle.cp_ways.proofs.Steps.{same_weight}

ways_weight : (sys : System Machine) (steps left : ℕ) (s : Machine) (o : Outcome) → ways_to sys steps left s o ≡ weight_of (λ x. is_it o (since (length (sys.output s)) x)) (walk sys steps left (Choosing s))
ways_weight sys steps left s o =
    count_weight o (length (sys.output s)) (Rattle.cp_ways.specs.Ways.rows_on sys steps left s)
    ∙ ap (weight_of (λ x. is_it o (since (length (sys.output s)) x))) (kept_walk sys steps left (Choosing s))

-- states that differ in what was displayed before have the same ways on
pub ways_alike : (r : Tables) (discipline : Discipline) (steps left : ℕ) (m n : Machine) → core_key m ≡ core_key n → (o : Outcome) → ways_to (slots r discipline) steps left m o ≡ ways_to (slots r discipline) steps left n o
ways_alike r discipline steps left m n e o =
    let sys = slots r discipline in
    ways_weight sys steps left m o ∙ sym (same_weight r discipline steps left m n e (is_it o)) ∙ sym (ways_weight sys steps left n o)

-- ways that weigh what the rows weigh are told rightly, of each such state
pub are_ways : (r : Tables) (discipline : Discipline) (steps left : ℕ) (s : Machine) (ways : List (EndKey × ℕ)) → WeighAs (since (length s.output)) (walk (slots r discipline) steps left (Choosing s)) ways → (m : Machine) → core_key m ≡ core_key s → AreWaysOn (slots r discipline) steps left m ways
are_ways r discipline steps left s ways h m e o =
    told_weight o ways ∙ h (is_it o) ∙ sym (ways_weight (slots r discipline) steps left s o) ∙ sym (ways_alike r discipline steps left m s e o)
