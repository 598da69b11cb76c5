use Rattle.std.proofs.Common.{◌≡◌, ◌∙◌, ap, sym, arith, length, Some, slice_get}
use Rattle.cp_walk.proofs.Words.{length-map, slots, rows_behind}
use Rattle.cp_walk.specs.Members.{lines_behind, row_of}
use Rattle.cp_walk.proofs.Errors.{ok_both, err_then}
use Rattle.cp_walk.proofs.MemberTables.{taken_whole, get_at}
use Rattle.cp_walk.proofs.tasks.CuttingWork.rows_of.Goals as goal

pub returns-clause-rows : goal.returns-clause-rows
returns-clause-rows g c =
    let r = c.args.self.now.job.program.now in
    let l = c.args.self.now.job.limits in
    let words = c.args.self.now.words.items in
    let look = c.in-Some.ensures.lookup in
    let at : slice_get words c.args.task ≡ Some c.in-Some.word.now = ap (λ ws. slice_get ws c.args.task) (sym c.deref.ensures.value) ∙ get_at c.deref.result.now c.args.task c.in-Some.word.now look.3.0 ∙ ap Some (sym look.1) in
    let same : rows_behind (slots r l.discipline) l.choices l.steps c.as_slice.result.now ≡ lines_behind r l (slice_get words c.args.task) = ap (rows_behind (slots r l.discipline) l.choices l.steps) c.as_slice.ensures.value ∙ ap (lines_behind r l) (sym at) in
    ok_both c.member_rows.result _ _ _ c.member_rows.ensures.rows c.member_rows.ensures.few (λ v lines few. taken_whole v.items (lines_behind r l (slice_get words c.args.task)) (lines ∙ same) few)

pub returns-clause-many : goal.returns-clause-many
returns-clause-many g c =
    let r = c.args.self.now.job.program.now in
    let l = c.args.self.now.job.limits in
    let words = c.args.self.now.words.items in
    let look = c.in-Some.ensures.lookup in
    let at : slice_get words c.args.task ≡ Some c.in-Some.word.now = ap (λ ws. slice_get ws c.args.task) (sym c.deref.ensures.value) ∙ get_at c.deref.result.now c.args.task c.in-Some.word.now look.3.0 ∙ ap Some (sym look.1) in
    let same : rows_behind (slots r l.discipline) l.choices l.steps c.as_slice.result.now ≡ lines_behind r l (slice_get words c.args.task) = ap (rows_behind (slots r l.discipline) l.choices l.steps) c.as_slice.ensures.value ∙ ap (lines_behind r l) (sym at) in
    err_then c.member_rows.result _ _ c.member_rows.ensures.many (λ e h many. let more = h many in let n = ap length same in let m = length-map (lines_behind r l (slice_get words c.args.task)) row_of in omega (arith, more, n, m))
