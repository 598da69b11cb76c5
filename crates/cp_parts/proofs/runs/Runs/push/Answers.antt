use Rattle.std.proofs.Common.{rules, ◌≡◌, ◌∷◌, ◌++◌, ◌+◌, [], arith, length, refl, subst, sym}
use Rattle.std.specs.Prelude.{slice_set}
use Rattle.cp_parts.specs.declared.span.Span.{Span}
use Rattle.cp_parts.specs.Runs.{AreRuns, IsOpen, span_at}
use Rattle.cp_parts.proofs.Pushing.{open_more, runs_more, span_goes}
use Rattle.cp_parts.proofs.runs.Runs.push.Goals as goal

pub invariant_of-self-2 : goal.invariant_of-self-2
invariant_of-self-2 c =
    let s = c.args.self.now in
    let new : Span = record { first = c.first_with-first.result; end = c.len-count.result + 1 } in
    let labels : c.push_reserved.new.self.items ≡ s.labels.items ++ c.args.label ∷ [] = search rules in
    let count : c.len-count.result ≡ length s.labels.items = omega arith in
    let goes = span_goes s.labels.items (span_at s.spans.items c.args.label) c.span-old.result new c.len-count.result c.span-old.ensures.is count c.first_with-first.ensures.empty c.first_with-first.ensures.some refl in
    record { runs = subst (λ ls. AreRuns ls (slice_set s.spans.items c.args.label new)) (sym labels) (runs_more s.labels.items s.spans.items c.args.label new s.runs c.requires.label c.requires.open goes) }

pub returns-clause-open : goal.returns-clause-open
returns-clause-open c =
    let s = c.args.self.now in
    let new : Span = record { first = c.first_with-first.result; end = c.len-count.result + 1 } in
    let labels : c.push_reserved.new.self.items ≡ s.labels.items ++ c.args.label ∷ [] = search rules in
    let count : c.len-count.result ≡ length s.labels.items = omega arith in
    let goes = span_goes s.labels.items (span_at s.spans.items c.args.label) c.span-old.result new c.len-count.result c.span-old.ensures.is count c.first_with-first.ensures.empty c.first_with-first.ensures.some refl in
    subst (λ ls. IsOpen ls (slice_set s.spans.items c.args.label new) c.args.label) (sym labels) (open_more s.labels.items s.spans.items c.args.label new s.runs c.requires.label c.requires.open goes)
