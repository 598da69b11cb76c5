use Rattle.std.proofs.Common.{◌≡◌, drop}
use Rattle.std.specs.List.{list_all}
use Rattle.cp_show_mark.specs.Given.{item_can_be_shown}
use Rattle.cp_show_mark.proofs.asking.undeclared_among.Given as goal

abbrev pub invariant-loop-item : goal.invariant-loop-item
invariant-loop-item l = list_all (item_can_be_shown l.examinee.program.now.names) l.items ≡ list_all (item_can_be_shown l.examinee.program.now.names) (drop l.item-index l.items)
