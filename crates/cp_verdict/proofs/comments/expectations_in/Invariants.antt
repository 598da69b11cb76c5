use Rattle.std.proofs.Common.{map}
use Rattle.std.specs.String.{string_bytes}
use Rattle.cp_verdict.proofs.Commenting.{HeldUpTo}
use Rattle.cp_verdict.proofs.comments.expectations_in.Given as goal

abbrev pub invariant-loop-comment : goal.invariant-loop-comment
invariant-loop-comment l = HeldUpTo (map (λ c. c.items) l.comment-items) l.comment-index (string_bytes l.joined)
