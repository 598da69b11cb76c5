use Rattle.std.proofs.Common.{◌≡◌, ◌∙◌, ◌<◌, ◌-◌, length, vec_len, ap, arith}
use Rattle.cp_machine.proofs.Overwriting.{overwritten}
use Rattle.cp_machine.proofs.stack.put_instead.Goals as goal

pub returns-clause-entries : goal.returns-clause-entries
returns-clause-entries c =
    let len : vec_len c.args.stack.now ≡ length c.args.stack.now.items = c.args.stack.now.ok.0 in
    let some : 0 < length c.args.stack.now.items = omega (arith, len, c.requires) in
    let at : c.len-last.result - 1 ≡ length c.args.stack.now.items - 1 = ap (λ n. n - 1) (c.len-last.ensures ∙ len) in
    rw at (overwritten c.args.stack.now.items c.args.entry some)
