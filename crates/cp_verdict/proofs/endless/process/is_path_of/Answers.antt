use Rattle.std.proofs.Common.{lit<, sym}
use Rattle.cp_verdict.proofs.any_length.Processes.{element_path, no_path, whole_path}
use Rattle.cp_verdict.proofs.endless.process.is_path_of.Goals as goal

pub returns-then-is_empty : goal.returns-then-is_empty
returns-then-is_empty c = whole_path c.args.name.now c.args.path.now c.in-Some.rest.now c.is_empty.result c.in-Some.ensures.cases c.is_empty.ensures c.if-is_empty.true

pub returns-else-is_empty : goal.returns-else-is_empty
returns-else-is_empty c = element_path c.args.name.now c.args.path.now c.in-Some.rest.now c.is_empty.result c.starts_with.result c.in-Some.ensures.cases c.is_empty.ensures c.if-is_empty.false (c.starts_with.ensures.byte (lit< tt) (lit< tt) (λ w o h. h))

pub returns-in-None : goal.returns-in-None
returns-in-None c = sym (no_path c.args.name.now c.args.path.now c.in-None.ensures.cases)
