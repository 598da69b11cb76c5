use Rattle.std.proofs.Common.{◌≡◌, ◌∙◌, ◌<◌, rules, ap, arith, length, subst, sym}
use Rattle.std.specs.List.{list_any}
use Rattle.cp_ends.proofs.Looks.{inside_in_row, leaves, own, part}
use Rattle.cp_ends.proofs.look.RowLookLook.is_inside.Goals as goal

pub body_numbers_of-requires : goal.body_numbers_of-requires
body_numbers_of-requires c =
    let x = c.requires in
    let long = (own x.0 _ _ _ x.1 _ x.2 c.args.pid x.3).long in
    search (rules, long, c.at-part.ensures)

pub at-requires : goal.at-requires
at-requires c =
    let x = c.requires in
    let stack = (own x.0 _ _ _ x.1 _ x.2 c.args.pid x.3).body.stack.within in
    search (rules, stack, c.at-part.ensures, c.body_numbers_of.ensures)

pub returns : goal.returns
returns c = λ r m look.
    (let lt : c.args.pid < length r.processes = omega (arith, c.requires.3, c.requires.2.placed.processes, look.placed.processes) in
    let stack = (own r _ _ _ m _ look c.args.pid lt).body.stack.is in
    c.is_inside.ensures ∙ inside_in_row r _ _ _ m _ look c.args.pid lt _ (c.at.ensures ∙ search (rules, stack, c.at-part.ensures, c.body_numbers_of.ensures)))
