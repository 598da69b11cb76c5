-- Where words stop to spell expectations.
use Rattle.std.proofs.Common.{◌≡◌, ◌||◌, Bool, true, false, List, [], ◌∷◌, ◌++◌, Option, Some, None, option_map, codes, if◌then◌else◌, refl, sym, ap, arith}
use Rattle.cp_expectation.specs.Plain.{Displays, Expected}
use Rattle.cp_expectation.specs.Reader.{Leads}
use Rattle.cp_expectation.specs.Spelling.{Words, Spells}
use Rattle.cp_expectation.specs.Steps.{Place, AtClaim, AtTopic, AtOutput, AtShown, After, State, at, behind, step, ended, start}
use Rattle.cp_expectation.specs.Values.{is_character, is_name, is_value, reserved}
use Rattle.cp_expectation.proofs.Read.{read_spelled}
use Rattle.cp_expectation.proofs.Spelled.{spelled_read}
use Rattle.cp_expectation.proofs.Valued.{not_integer}
use Rattle.cp_expectation.proofs.Walking.{IsReader, finish, run}

x_is_value : is_value (codes "x") ≡ true
unfolding is_value is_character is_name reserved
x_is_value = ap (λ b. b || true) (not_integer 120 [] refl (λ h. omega (arith, h)))

-- ---- each state can go on

completed : (done : List Expected) (place : Place) → (more : Words) × (es : List Expected) × (finish ended (run step (Some (at done place)) more) ≡ Some es)
unfolding step
completed done AtClaim = (codes "never" ∷ codes "finished" ∷ [], _, refl)
completed done (AtTopic e) = (codes "finished" ∷ [], _, refl)
completed done (AtOutput e end) = (codes "-" ∷ [], _, refl)
completed done (AtShown e) = (codes "x" ∷ [], _, ap (λ b. finish ended (run step (option_map (λ place. at done place) (option_map (λ v. After e (Displays v)) (if b then Some (codes "x") else None))) [])) x_is_value)
completed done (After e t) = ([], _, refl)

pub is_reader : IsReader step ended start Spells
is_reader = record { sound = read_spelled; complete = spelled_read; completed = λ s. completed s.done s.place }

-- ---- a word that fits, and one that does not

pub fits : (o : Option State) (b : Bool) (t : State) → b ≡ true → Leads o b t → o ≡ Some t
fits None b t is h = absurd (cc (is, h))
fits (Some u) b t is h = ap Some (sym h.1)

pub misfits : (o : Option State) (b : Bool) (t : State) → b ≡ false → Leads o b t → o ≡ None
misfits None b t is h = refl
misfits (Some u) b t is h = absurd (cc (is, h.0))

-- ---- the end

pub ended_some : (done : List Expected) (o : Option Expected) (t : State) → behind done o ≡ Some t → option_map (λ e. done ++ e ∷ []) o ≡ Some t.done
ended_some done None t h = absurd (cc)
ended_some done (Some e) t h = ap (option_map (λ (s : State). s.done)) h

pub ended_none : (done : List Expected) (o : Option Expected) → behind done o ≡ None → option_map (λ e. done ++ e ∷ []) o ≡ None
ended_none done None h = refl
ended_none done (Some e) h = absurd (cc)
