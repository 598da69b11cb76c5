use Rattle.std.proofs.Common.{codes, string_bytes}
use Rattle.cp_verdict.proofs.Written.{limits_joined}
use Rattle.cp_verdict.proofs.program.Stops.push_to.Goals as goal

pub returns : goal.returns
returns c =
    let s = c.args.self.now in
    limits_joined s.choices s.steps s.output c.in_ok-begun.begun c.in_ok-begun-2.begun (codes "choice-limit") (codes "step-limit") (codes "output-limit") (string_bytes c.args.text.now) (string_bytes c.push_limit.new.text) (string_bytes c.push_limit-2.new.text) (string_bytes c.push_limit-3.new.text) c.in_ok-begun.ensures.begun c.in_ok-begun-2.ensures.begun c.in_ok-begun.ensures.text c.in_ok-begun-2.ensures.text c.in_ok-push_limit.ensures.text
