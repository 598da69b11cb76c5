use Rattle.std.proofs.Common.{◌≡◌, length, arith}
use Rattle.std.specs.Prelude.{min}
use Rattle.std.specs.String.{string_bytes}
use Rattle.cp_legend.proofs.Naming.{result_added}
use Rattle.cp_legend.proofs.legend.LegendRoutine.add_result.Goals as goal

pub returns : goal.returns
returns c =
    let place : c.min-at.result ≡ min (length c.args.self.now.parameters.items) (length c.args.self.now.variables.items) = grind (arith, c.min-at.ensures, c.len.ensures, c.len-2.ensures) in
    result_added c.args.returned (string_bytes c.args.self.now.name) c.args.self.now.parameters.items c.args.self.now.result c.args.self.now.variables.items c.insert.new.self.items c.in_ok-variable.variable c.min-at.result place c.in_ok-insert.ensures.items c.in_ok-variable.ensures
