use Rattle.std.proofs.Common.{subst, sym}
use Rattle.std.specs.Prelude.{Contains}
use Rattle.std.proofs.lemmas.List.Elements.{Contains-get_or}
use Rattle.cp_verdict.proofs.judging.first_settling.Goals as goal

pub row-requires : goal.row-requires
row-requires c = c.requires c.one-item.result (subst (Contains c.args.rows.now) (sym c.one-item.is) (Contains-get_or c.args.rows.now c.loop-one.one-index c.one-item.result c.loop-one-test.true))
