-- What is found of the slot machine is found of the meaning.
use Rattle.std.proofs.Common.{◌≡◌, ◌∙◌, ℕ, List, map, Option, None, Some, Result, Ok, Err, IfOk, ap, sym, subst}
use Rattle.std.specs.Prelude.{Contains, IfSome}
use Rattle.cp_slots.specs.Tables.{Tables}
use Rattle.cp_machine.specs.declared.discipline.Discipline.{Discipline}
use Rattle.cp_run.specs.Slots.{slots}
use Rattle.cp_run.specs.System.{System}
use Rattle.cp_run.specs.Table.{Line, table}
use Rattle.cp_walk.specs.Report.{same_outcome}
use Rattle.cp_merged.specs.Code.{tally_of}
use Rattle.cp_merged.specs.Tallies.{tally}
use Rattle.cp_merged.specs.TooMany.{HasTooManyOutcomes, MoreThan}
use Rattle.cp_machine_laws.proofs.Meaning.{runs_as_meant}
use Rattle.cp_outcomes.specs.Findings.{IsFoundOf, IsExcessOf, IsKnownOf}
use Rattle.cp_outcomes.specs.Meant.{IsExcessIn, IsFoundIn, IsMeantFinding}
use Rattle.cp_outcomes.specs.declared.known.Known.{Known}
use Rattle.cp_outcomes.specs.declared.subject.Excess.{Excess}
use Rattle.cp_outcomes.specs.declared.subject.Excess.TheVariants.{States, Outcomes}
use Rattle.cp_outcomes.specs.declared.telling.Finding.{Finding}
use Rattle.cp_outcomes.specs.declared.telling.Finding.TheVariants.{Whole, TooMany}

-- too many outcomes of words that are not too long are too many of all
in_rows : {S : Type 0} (sys : System S) (choices steps d : ℕ) → HasTooManyOutcomes sys choices steps d → MoreThan 50000 (λ o. (l : Line) × Contains (table sys choices steps) l × (l.outcome ≡ o))
in_rows sys choices steps d h = (h.0, h.1, h.2, λ k o lt. (let e = h.3 k o lt in (e.0, e.1, e.3)))

excess_in : {S : Type 0} (sys : System S) (choices steps : ℕ) (excess : Excess) (lines : List Line) → lines ≡ table sys choices steps → IsExcessOf sys choices steps excess → IsExcessIn lines excess
excess_in sys choices steps (States most) lines e h = tt
excess_in sys choices steps Outcomes lines e h = subst (λ ls. IsExcessIn ls Outcomes) (sym e) (in_rows sys choices steps h.1.0 h.1.4)

known_in : {S : Type 0} (sys : System S) (choices steps : ℕ) (rows : ℕ → List Line) → ((k : ℕ) → rows k ≡ table sys k steps) → (known : Option Known) → IfSome known (IsKnownOf sys choices steps) → IfSome known (λ k. map tally_of k.tallies ≡ tally same_outcome (rows k.choices))
known_in sys choices steps rows same None h = tt
known_in sys choices steps rows same (Some k) h = h.tallies ∙ ap (tally same_outcome) (sym (same k.choices))

found_in : {S : Type 0} (sys : System S) (choices steps : ℕ) (rows : ℕ → List Line) → ((k : ℕ) → rows k ≡ table sys k steps) → (f : Finding) → IsFoundOf sys choices steps f → IsFoundIn rows choices f
found_in sys choices steps rows same (Whole tallies) h = h ∙ ap (tally same_outcome) (sym (same choices))
found_in sys choices steps rows same (TooMany excess known) h = (excess_in sys choices steps excess (rows choices) (same choices) h.0, known_in sys choices steps rows same known h.1)

pub meant_finding : (r : Tables) (discipline : Discipline) (choices steps : ℕ) (f : Finding) → IsFoundOf (slots r discipline) choices steps f → IsMeantFinding r discipline choices steps f
meant_finding r discipline choices steps f h t read ok same = found_in (slots r discipline) choices steps _ (λ k. (runs_as_meant t r discipline read ok same k steps).tables) f h

-- where there is any
pub meant_answer : {E : Type 0} (answer : Result Finding E) (r : Tables) (discipline : Discipline) (choices steps : ℕ) → IfOk answer (λ f. IsFoundOf (slots r discipline) choices steps f) → IfOk answer (λ f. IsMeantFinding r discipline choices steps f)
meant_answer (Ok f) r discipline choices steps h = meant_finding r discipline choices steps f h
meant_answer (Err fault) r discipline choices steps h = tt
