use Rattle.std.proofs.Common.{◌≤◌, length, subst, sym}
use Rattle.std.proofs.lemmas.List.{get_or_read}
use Rattle.cp_parts.specs.declared.span.Span.{Span}
use Rattle.cp_parts.specs.Runs.{no_span}
use Rattle.cp_parts.proofs.runs.Runs.span.Goals as goal

pub returns-clause-is : goal.returns-clause-is
returns-clause-is c = get_or_read c.args.self.now.spans.items c.args.label c.index.result.now c.requires c.index.ensures no_span

pub returns-clause-rising : goal.returns-clause-rising
returns-clause-rising c =
    let s = c.args.self.now in
    subst (λ (z : Span). z.first ≤ z.end) (sym (get_or_read s.spans.items c.args.label c.index.result.now c.requires c.index.ensures no_span)) (s.runs.rising c.args.label)

pub returns-clause-within : goal.returns-clause-within
returns-clause-within c =
    let s = c.args.self.now in
    subst (λ (z : Span). z.end ≤ length s.labels.items) (sym (get_or_read s.spans.items c.args.label c.index.result.now c.requires c.index.ensures no_span)) (s.runs.within c.args.label)
