use Rattle.std.proofs.Common.{◌∙◌, ap, arith, refl, sym}
use Rattle.cp_parts.specs.declared.placing.PlaceTable.{PlaceTable}
use Rattle.cp_ends.proofs.GoingOn.{ok_to}
use Rattle.cp_ends.specs.Halves.{width_of}
use Rattle.cp_at_once.proofs.Staying.{stays_on}
use Rattle.cp_at_once.proofs.leg.known_leg.Goals as goal

pub look-requires-clause-long : goal.look-requires-clause-long
look-requires-clause-long c = c.requires.row.1.is.long

pub returns-in_default : goal.returns-in_default
returns-in_default c =
    let r = c.args.job.now.program.now in
    record { kept = c.in_ok-looked.ensures.kept r; ahead = refl; told = λ e is. c.in_ok-looked.ensures.told r e c.requires.known is }

pub learn-requires-clause-known : goal.learn-requires-clause-known
learn-requires-clause-known c = (c.in_ok-looked.ensures.kept c.args.job.now.program.now).known c.requires.known

pub learn-requires-clause-ruled : goal.learn-requires-clause-ruled
learn-requires-clause-ruled c = (c.in_ok-looked.ensures.kept c.args.job.now.program.now).ruled ∙ c.requires.ruled

pub learn-requires-clause-row : goal.learn-requires-clause-row
learn-requires-clause-row c = (c.requires.row.0, (c.in_ok-looked.ensures.kept c.args.job.now.program.now).rows c.args.row.now c.requires.row.0 c.requires.row.1, c.requires.row.2)

pub look-requires-2-clause-pid : goal.look-requires-2-clause-pid
look-requires-2-clause-pid c =
    let first = c.in_ok-looked.ensures.kept c.args.job.now.program.now in
    let same = ap (λ (t : PlaceTable). t.processes) (c.in_ok-learn.ensures.kept.table ∙ first.table) in
    omega (arith, same, c.requires.pid)

pub look-requires-2-clause-long : goal.look-requires-2-clause-long
look-requires-2-clause-long c = c.requires.row.1.is.long ∙ ap width_of (sym (c.in_ok-learn.ensures.kept.table ∙ (c.in_ok-looked.ensures.kept c.args.job.now.program.now).table))

pub returns-clause-kept : goal.returns-clause-kept
returns-clause-kept c =
    let r = c.args.job.now.program.now in
    let old = c.args.rows.now in
    let first = c.in_ok-looked.ensures.kept r in
    ok_to c.look-2.result _ _ (c.look-2.ensures.kept r) (λ looked last. stays_on r old c.learn.new.rows _ (stays_on r old c.look.new.rows c.learn.new.rows first c.in_ok-learn.ensures.kept) last)

pub returns-clause-told : goal.returns-clause-told
returns-clause-told c =
    let r = c.args.job.now.program.now in
    let known = c.in_ok-learn.ensures.kept.known ((c.in_ok-looked.ensures.kept r).known c.requires.known) in
    ok_to c.look-2.result _ _ (c.look-2.ensures.told r) (λ looked told e is. told e known is)
