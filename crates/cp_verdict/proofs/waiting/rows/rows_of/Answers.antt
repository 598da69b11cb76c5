use Rattle.std.proofs.Common.{◌∙◌, ◌++◌, ap, map}
use Rattle.cp_verdict.specs.waiting.Rows.{end_row, other_row, others_in, row_seen}
use Rattle.cp_verdict.proofs.who.Rows.{are_rows, moved_short, none_long}
use Rattle.cp_verdict.proofs.waiting.rows.rows_of.Goals as goal

pub returns-clause-short : goal.returns-clause-short
returns-clause-short c = moved_short c.push_ends.new.rows.items c.sort_unstable_by.new.self.items c.sort_unstable_by.ensures.permutation (c.in_ok-push_ends.ensures.short (c.in_ok-push_others.ensures.short (none_long c.new-rows.result.items c.new-rows.ensures.items)))

pub returns-clause-rows : goal.returns-clause-rows
returns-clause-rows c = λ who lines same ends.
    are_rows who lines c.args.seen.now c.args.ends.now same ends c.push_ends.new.rows.items c.sort_unstable_by.new.self.items
    (c.in_ok-push_ends.ensures.rows ∙ ap (λ l. l ++ map end_row c.args.ends.now.known.entries) (c.in_ok-push_others.ensures.rows ∙ ap (λ l. map row_seen l ++ map other_row (others_in c.args.seen.now)) c.new-rows.ensures.items))
    c.sort_unstable_by.ensures.permutation
