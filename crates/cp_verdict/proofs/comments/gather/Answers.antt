use Rattle.std.proofs.Common.{◌≡◌, ◌∙◌, ◌++◌, inl, inr, ap, subst}
use Rattle.std.specs.String.{string_bytes}
use Rattle.cp_verdict.specs.Comments.{Holds, HoldsNone}
use Rattle.cp_verdict.proofs.comments.gather.Goals as goal
use Rattle.cp_verdict.proofs.comments.gather.Goals.{in-Some+in_ok-separate+in_ok-push_str, in_default}

pub returns : goal.returns
returns c =
    let made = c.in_ok-push_readable.ensures in
    let same : c.as_str.result.now ≡ made.0 = c.as_str.ensures.value ∙ made.2 ∙ ap (λ l. l ++ made.0) c.new-text.ensures.bytes in (
      made.0,
      made.1,
      elim c.match-expectation_of.branch [
        | in-Some+in_ok-separate+in_ok-push_str w ↦
            inl (w.in-Some.rest.now, subst (λ l. Holds l w.in-Some.rest.now) same w.in-Some.ensures, ap (λ s. string_bytes s) w.joined-is ∙ w.in_ok-push_str.ensures.bytes ∙ ap (λ l. l ++ w.in-Some.rest.now) w.in_ok-separate.ensures)
        | in_default w ↦ inr (subst HoldsNone same w.in_default.ensures, ap (λ s. string_bytes s) w.joined-is)
      ],
    )
