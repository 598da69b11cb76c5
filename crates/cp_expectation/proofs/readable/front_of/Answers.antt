use Rattle.std.proofs.Common.{◌∙◌, inl, inr, ap, sym, arith}
use Rattle.std.specs.List.{slice_get}
use Rattle.std.specs.Str.{chars}
use Rattle.cp_expectation.proofs.Fronts.{more_lengths, begins_none, begins_with, first_scalar}
use Rattle.cp_expectation.proofs.readable.front_of.Goals as goal

pub returns-in_default : goal.returns-in_default
returns-in_default c = begins_none c.args.bytes.now c.loop-len.len c.loop-len.invariant (elim c.in_default.ensures.lookup.0 [ inl less ↦ absurd (omega (arith, less)) | inr less ↦ inl less ])

pub returns-in-Some-next : goal.returns-in-Some-next
returns-in-Some-next c =
    let front = c.in-Some.front.now in
    begins_with c.args.bytes.now front _ c.loop-len.len c.in-Some-next.character c.in-Some.ensures.lookup.0.1 c.loop-len.invariant c.in-Some.ensures.lookup.0.2 (first_scalar front c.in-Some-next.character c.in-Ok.ensures.cases.1 (c.in-Some-next.ensures.steps.2 ∙ ap (λ l. slice_get (chars l) 0) (c.chars.ensures.rest ∙ c.in-Ok.ensures.cases.0))) (sym c.in-Ok.ensures.cases.0 ∙ sym c.chars.ensures.rest ∙ c.in-Some-next.ensures.steps.0)

pub loop-len-preserved : goal.loop-len-preserved
loop-len-preserved c = more_lengths c.args.bytes.now c.in-Some.front.now c.loop-len.len c.loop-len.invariant c.in-Some.ensures.lookup.0.2 c.in_default-from_utf8.ensures.cases.0

pub returns : goal.returns
returns c = begins_none c.args.bytes.now c.loop-len.len c.loop-len.invariant (inr (omega arith))
