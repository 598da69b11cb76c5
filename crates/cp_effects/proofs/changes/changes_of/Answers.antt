use Rattle.std.proofs.Common.{◌≡◌, arith, length}
use Rattle.cp_effects.proofs.Changing.{below_all}
use Rattle.cp_effects.proofs.changes.changes_of.Goals as goal

pub returns : goal.returns
returns c =
    let all : c.loop-position.position ≡ length c.args.before.now = omega arith in
    below_all c.args.table.now c.args.touched.now.places.items c.args.before.now c.args.after.now c.loop-position.writes.items c.loop-position.position c.requires all c.loop-position.invariant
