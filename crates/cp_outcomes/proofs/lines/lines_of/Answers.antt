use Rattle.std.proofs.Common.{map, string_bytes, subst}
use Rattle.std.proofs.lemmas.List.{take_rest}
use Rattle.cp_outcomes.specs.Lines.{AreLinesShown}
use Rattle.cp_outcomes.proofs.Reading.{lines_on, lines_to_the_end, one_more}
use Rattle.cp_outcomes.proofs.lines.lines_of.Goals as goal

pub loop-end-preserved : goal.loop-end-preserved
loop-end-preserved c = λ texts left.
    let rest = c.loop-end.rest.now in
    let found = c.in-Some.ensures in
    let parts = c.split_at in
    lines_on c.args.source.now rest parts.result.0.now parts.result.1.now (map string_bytes c.loop-end.lines.items) (map string_bytes c.push.new.self.items) c.in-Some.end (string_bytes c.in_ok-line_of.field-0) c.loop-end.invariant found.0 found.1 found.2 parts.ensures.front parts.ensures.back c.in_ok-line_of.ensures
    (one_more c.loop-end.lines.items c.push.new.self.items c.in_ok-line_of.field-0 c.in_ok-push.ensures.items) texts
    (subst (λ l. AreLinesShown l texts) (take_rest parts.result.1.now 1) left)

pub returns : goal.returns
returns c =
    lines_to_the_end c.args.source.now c.loop-end.rest.now (map string_bytes c.loop-end.lines.items) (map string_bytes c.push-2.new.self.items) (string_bytes c.in_ok-line_of-2.field-0) c.loop-end.invariant c.in_default.ensures c.in_ok-line_of-2.ensures
    (one_more c.loop-end.lines.items c.push-2.new.self.items c.in_ok-line_of-2.field-0 c.in_ok-push-2.ensures.items)
