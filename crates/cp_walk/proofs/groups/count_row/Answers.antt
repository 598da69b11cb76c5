use Rattle.std.proofs.Common.{rules, ◌∙◌, ◌+◌, refl, ap, unwrap_or}
use Rattle.std.specs.Map.{lookup}
use Rattle.cp_walk.specs.Report.{same_outcome}
use Rattle.cp_walk.specs.declared.groups.RowGroup.{RowGroup}
use Rattle.cp_walk.proofs.Grouping.{counted_one}
use Rattle.cp_walk.proofs.groups.count_row.Goals as goal

pub returns : goal.returns
returns c =
    let now = c.or_insert-group.result.now in
    let more : RowGroup = record { first = now.first; count = now.count + 1 } in
    let put = c.in_ok-groups.ensures.update.1 more in
    let known = lookup (λ k. same_outcome c.args.row.now.outcome k.row.now.outcome) c.args.groups.now.entries in
    let counted = counted_one known c.args.row now more (c.or_insert-group.ensures.value ∙ ap (λ o. unwrap_or o (record { first = c.args.row; count = 0 })) c.in_ok-groups.ensures.value) refl in
    (more, (search (rules, put), counted))
