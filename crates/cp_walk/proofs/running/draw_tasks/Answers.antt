use Rattle.std.proofs.Common.{◌≡◌, ◌≤◌, ◌<◌, ◌++◌, ◌∷◌, [], cond, length, sym, ap, ◌∙◌, subst, arith, List}
use Rattle.cp_walk.proofs.Words.{length-take, View, view_of, TaskRows, IsDone, IsHonest, IsTooMany}
use Rattle.std.specs.Prelude.{Any}
use Rattle.cp_board.specs.Views.{noted_by, note, last_of, drew, rows_noted}
use Rattle.cp_walk.proofs.Doing.{one_more, honest, any_last, excess, noted_most}
use Rattle.cp_walk.proofs.running.draw_tasks.Goals as goal

pub overflow_cast-count : goal.overflow_cast-count
overflow_cast-count g c = omega (arith, c.len-count.ensures, ap length c.in-Ok.ensures.rows, length-take 50001 (g.W.Work.rows c.args.work.now c.in-Some.task))

pub note-total-requires-clause-rows : goal.note-total-requires-clause-rows
note-total-requires-clause-rows g c = omega (arith, c.len-count.ensures, ap length c.in-Ok.ensures.rows, length-take 50001 (g.W.Work.rows c.args.work.now c.in-Some.task))

pub returns-then-total-gt-MOST_NOTED : goal.returns-then-total-gt-MOST_NOTED
returns-then-total-gt-MOST_NOTED g c =
    let rows = g.W.Work.rows c.args.work.now in
    let old = view_of c.loop-task.seat in
    let p : TaskRows = record { task = c.in-Some.task; rows = c.in-Ok.rows } in
    let inv = c.loop-task.invariant in
    let count = c.len-count.result in
    let total = c.note-total.result in
    let some = c.in-Some.ensures.some in
    let now = c.note-total.ensures.noted ∙ ap (λ v. noted_by v count total) some.1 in
    let below : p.task < old.tasks = omega (arith, some.0, inv.own.1) in
    let is : count ≡ length p.rows.items = omega (arith, c.len-count.ensures) in
    let done = one_more rows old c.loop-task.parts.items p count total inv.done below c.in-Ok.ensures.rows is in
    let w : View = noted_by (drew old p.task) count total in (
      c.note-total.ensures.seat,
      (
        subst (IsHonest rows) (sym now) (honest rows w (c.loop-task.parts.items ++ p ∷ []) done),
        subst (λ (v : View). Any (λ n. 50000 < n.total) v.notes) (sym now) (any_last (λ n. 50000 < n.total) old.notes (note (last_of (old.drawn ++ p.task ∷ [])) count total) c.if-total-gt-MOST_NOTED.true),
      ),
    )

pub loop-task-preserved : goal.loop-task-preserved
loop-task-preserved g c =
    let rows = g.W.Work.rows c.args.work.now in
    let old = view_of c.loop-task.seat in
    let p : TaskRows = record { task = c.in-Some.task; rows = c.in-Ok.rows } in
    let inv = c.loop-task.invariant in
    let count = c.len-count.result in
    let total = c.note-total.result in
    let some = c.in-Some.ensures.some in
    let now = c.note-total.ensures.noted ∙ ap (λ v. noted_by v count total) some.1 in
    let below : p.task < old.tasks = omega (arith, some.0, inv.own.1) in
    let ps = c.loop-task.parts.items in
    let is : count ≡ length p.rows.items = omega (arith, c.len-count.ensures) in
    let done = one_more rows old ps p count total inv.done below c.in-Ok.ensures.rows is in
    let pushed = c.push.ensures.items ∙ ap (λ b. cond b (ps ++ p ∷ []) ps) c.if-is_err.ensures.negation in
    record {
      own = c.note-total.ensures.seat;
      open_yet = ap (λ v. v.spent) now ∙ inv.open_yet;
      done = subst (λ (v : View). IsDone rows v c.push.new.self.items) (sym now) (subst (λ (l : List TaskRows). IsDone rows (noted_by (drew old p.task) count total) l) (sym pushed) done);
    }

pub returns-in-Err-TooManyRows : goal.returns-in-Err-TooManyRows
returns-in-Err-TooManyRows g c =
    let rows = g.W.Work.rows c.args.work.now in
    let old = view_of c.loop-task.seat in
    let task = c.in-Some.task in
    let inv = c.loop-task.invariant in
    let total = c.note.result in
    let some = c.in-Some.ensures.some in
    let now = c.note.ensures.noted ∙ ap (λ v. noted_by v 50001 total) some.1 in
    let over : 50000 < length (rows task) = c.in-Err-TooManyRows.ensures.many (subst IsTooMany (sym c.in-Err-TooManyRows.field-0-is) tt) in
    let told : rows_noted (noted_by (drew old task) 50001 total).notes ≤ total = subst (λ (v : View). rows_noted v.notes ≤ total) now c.note.ensures.own_rows in
    let most : 50000 < total = noted_most old task total told in (
      c.note.ensures.seat,
      (
        subst (IsHonest rows) (sym now) (excess rows old c.loop-task.parts.items task total inv.done over),
        subst (λ (v : View). Any (λ n. 50000 < n.total) v.notes) (sym now) (any_last (λ n. 50000 < n.total) old.notes (note (last_of (old.drawn ++ task ∷ [])) 50001 total) most),
      ),
    )
