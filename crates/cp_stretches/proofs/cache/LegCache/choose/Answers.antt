use Rattle.std.proofs.Common.{◌≡◌, ◌∙◌, true, ℕ}
use Rattle.cp_machine.specs.Machine.{Machine}
use Rattle.cp_parts.proofs.Keeping.{store_on}
use Rattle.cp_run.specs.declared.outcome.Halt.{Halt}
use Rattle.cp_run.specs.declared.outcome.OutcomeKind.{OutcomeKind}
use Rattle.cp_run.specs.Run.{may}
use Rattle.cp_run.specs.Slots.{slots}
use Rattle.cp_stretches.specs.Cached.{StandsFor}
use Rattle.cp_stretches.specs.Stretching.{GoesOn, LeadsTo, StandsAt, turn_of}
use Rattle.cp_stretches.proofs.Going.{leads}
use Rattle.cp_stretches.proofs.Knowing.{some_to}
use Rattle.cp_stretches.proofs.cache.LegCache.choose.Goals as goal

pub go-requires-clause-row : goal.go-requires-clause-row
go-requires-clause-row c = let b = c.in_ok-turn.ensures.begins c.requires.row.0 c.requires.row.1 c.requires.row.2 in (b.after, b.stands)

pub returns-clause-leads : goal.returns-clause-leads
returns-clause-leads c =
    let r = c.args.job.now.program.now in
    let discipline = c.args.job.now.limits.discipline in
    let old = c.args.self.now in
    let self = c.begin.new.self in
    let new = c.go.new.self in
    let turn = c.in_ok-turn.turn in
    let row = c.begin.new.row in
    let steps = c.args.job.now.limits.steps in
    let before = c.args.shown.now.items in
    some_to c.in_ok-halts.halts
    (λ (halt : Halt OutcomeKind). (m : Machine) → StandsAt r discipline self.store self.table m turn row → (rest : ℕ) × GoesOn r discipline new.store new.table m turn steps before (turn_of halt) rest c.go.new.row c.go.new.shown.items)
    (λ (halt : Halt OutcomeKind). (m : Machine) → StandsFor r discipline old.store old.table m c.args.row.now → may (slots r discipline) m c.args.process ≡ true → LeadsTo r discipline new.store new.table steps m c.args.process before halt c.go.new.row c.go.new.shown.items)
    (λ halt goes m stands is.
    (let b = c.in_ok-turn.ensures.begins m stands is in
    let g = goes b.after b.stands in
    leads r discipline self.store new.store self.table new.table m c.args.process steps turn g.0 row c.go.new.row before c.go.new.shown.items halt b g.1))
    c.in_ok-halts.ensures.goes

pub returns-clause-kept : goal.returns-clause-kept
returns-clause-kept c = store_on c.args.self.now.store c.begin.new.self.store c.go.new.self.store c.begin.ensures.kept c.go.ensures.kept

pub returns-in_err-halts-clause-kept : goal.returns-in_err-halts-clause-kept
returns-in_err-halts-clause-kept c = store_on c.args.self.now.store c.begin.new.self.store c.go.new.self.store c.begin.ensures.kept c.go.ensures.kept

pub returns-clause-table : goal.returns-clause-table
returns-clause-table c = c.go.ensures.table ∙ c.begin.ensures.table

pub returns-in_err-halts-clause-table : goal.returns-in_err-halts-clause-table
returns-in_err-halts-clause-table c = c.go.ensures.table ∙ c.begin.ensures.table
