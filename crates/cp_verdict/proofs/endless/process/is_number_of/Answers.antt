use Rattle.std.proofs.Common.{sym, arith}
use Rattle.cp_verdict.proofs.any_length.Processes.{number_read, no_number}
use Rattle.cp_verdict.proofs.endless.process.is_number_of.Goals as goal

pub returns-in-Ok : goal.returns-in-Ok
returns-in-Ok c = sym (number_read c.args.process c.args.name.now c.in-Ok.number c.parse.result c.in-Ok.is c.parse.ensures.value.0)

pub returns-in-Err : goal.returns-in-Err
returns-in-Err c = sym (no_number c.args.process c.args.name.now c.in-Err.field-0 c.parse.result (omega (arith, c.ranges.process.fits)) c.in-Err.is c.parse.ensures.value.0)
