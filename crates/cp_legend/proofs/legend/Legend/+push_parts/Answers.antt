use Rattle.std.proofs.Common.{map, arith}
use Rattle.std.specs.String.{string_bytes}
use Rattle.cp_legend.specs.Values.{types_seen}
use Rattle.cp_legend.proofs.Placing.{parts_none, parts_small, parts_step}
use Rattle.cp_legend.proofs.legend.Legend.+push_parts.Goals as goal

pub returns-then-steps-eq0 : goal.returns-then-steps-eq0
returns-then-steps-eq0 t c = parts_none (map string_bytes c.args.self.now.constants.items) (types_seen c.args.self.now.shapes) c.args.cells (string_bytes c.args.text.now) c.args.steps c.args.part c.if-steps-eq0.true

pub returns-then-cells_of-cells : goal.returns-then-cells_of-cells
returns-then-cells_of-cells t c = parts_small (map string_bytes c.args.self.now.constants.items) (types_seen c.args.self.now.shapes) c.args.cells (string_bytes c.args.text.now) c.args.steps c.cells_of.result c.args.part c.cells_of.ensures c.if-cells_of-cells.true

pub returns : goal.returns
returns t c =
    parts_step (map string_bytes c.args.self.now.constants.items) (types_seen c.args.self.now.shapes) c.args.cells (string_bytes c.args.text.now) c.args.steps c.cells_of.result c.args.part
    c.cells_of.ensures c.if-cells_of-cells.false (omega (arith, c.if-steps-eq0.false)) c.inner_part.result c.inner_part.ensures
    (string_bytes c.push_step.new.text) (string_bytes c.push_parts.new.text) c.in_ok-push_step.ensures c.in_ok-push_parts.ensures
