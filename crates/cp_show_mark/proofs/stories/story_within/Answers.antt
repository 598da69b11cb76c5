use Rattle.std.proofs.Common.{length}
use Rattle.cp_run.proofs.Tracing.{ok_as}
use Rattle.cp_tool.proofs.Using.{used_within, uses_at_most}
use Rattle.cp_show_mark.proofs.StoryClauses.{story_within}
use Rattle.cp_show_mark.proofs.stories.story_within.Goals as goal

pub returns-clause-used : goal.returns-clause-used
returns-clause-used c = ok_as c.tell.result _ _ c.tell.ensures.answer (λ s is. used_within s.end (length c.args.word.now) _ is (uses_at_most _ _ _ _ _))

pub returns-clause-so : goal.returns-clause-so
returns-clause-so c =
    let told = c.tell.ensures in
    story_within c.args.options.now c.limits.result _ _ c.args.choices _ c.tell.result c.limits.ensures told.lines told.told told.choice told.waits told.answer told.stop told.left
