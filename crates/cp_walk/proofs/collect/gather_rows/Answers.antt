use Rattle.cp_walk.proofs.Words.{Row, ◌≡◌, List, flat_map, ap, ◌∙◌, sym, table_of, rows_at}
use Rattle.std.proofs.lemmas.Result.{IfOk-weaker}
use Rattle.cp_walk.proofs.Gathering.{flat_map-map}
use Rattle.cp_walk.proofs.collect.gather_rows.Goals as goal

pub returns : goal.returns
returns c =
    let rows = rows_at c.args.parts.items in
    let slots = c.in_ok-slots.slots.items in
    let range = Rattle.std.specs.List.range_with_len 0 c.args.tasks in
    let whole : flat_map (λ r. r.items) slots ≡ table_of rows c.args.tasks = flat_map-map (λ r. r.items) slots ∙ ap (flat_map (λ (l : List Row). l)) c.in_ok-slots.ensures ∙ sym (flat_map-map rows range) in
    IfOk-weaker c.join_rows.result _ _ (λ v e. e ∙ whole) c.join_rows.ensures
