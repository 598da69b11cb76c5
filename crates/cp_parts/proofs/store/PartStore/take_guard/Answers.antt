use Rattle.std.proofs.Common.{◌∙◌, ◌<◌, ap, arith, length, subst, sym}
use Rattle.cp_states.specs.Numbers.{number_at}
use Rattle.cp_states.specs.Pieces.{piece_at}
use Rattle.cp_parts.specs.Parts.{part_at}
use Rattle.cp_parts.proofs.Becoming.{guard_made}
use Rattle.cp_parts.proofs.store.PartStore.take_guard.Goals as goal

pub guard_numbers_of-numbers-requires : goal.guard_numbers_of-numbers-requires
guard_numbers_of-numbers-requires c = ap length c.at.ensures ∙ c.requires.part.1.long

pub at-requires-2 : goal.at-requires-2
at-requires-2 c =
    let is = c.guard_numbers_of-numbers.ensures.holder ∙ ap (λ l. number_at l 4) c.at.ensures in
    subst (λ k. k < length c.args.self.now.lines.ends.items) (sym is) c.requires.part.1.holder.within

pub at-requires-3 : goal.at-requires-3
at-requires-3 c =
    let is = c.guard_numbers_of-numbers.ensures.line ∙ ap (λ l. number_at l 5) c.at.ensures in
    subst (λ k. k < length c.args.self.now.lines.ends.items) (sym is) c.requires.part.1.line.within

pub line_of-guard-requires : goal.line_of-guard-requires
line_of-guard-requires c =
    let lines = c.args.self.now.lines in
    let is = c.guard_numbers_of-numbers.ensures.line ∙ ap (λ l. number_at l 5) c.at.ensures in
    let line = c.at-3.ensures ∙ ap (piece_at lines.items.items lines.ends.items) is ∙ c.requires.part.1.line.is in
    omega (arith, ap length line, c.requires.part.2)

pub returns-then-number-known : goal.returns-then-number-known
returns-then-number-known c = λ x is same. same c.if-number-known.true

pub returns : goal.returns
returns c = λ x is same.
    (let part = part_at c.args.self.now c.args.number in
    let numbers = c.guard_numbers_of-numbers in
    guard_made c.args.self.now x part is numbers.result.holder numbers.result.line c.at-2.result.now c.at-3.result.now
    (numbers.ensures.holder ∙ ap (λ l. number_at l 4) c.at.ensures) (numbers.ensures.line ∙ ap (λ l. number_at l 5) c.at.ensures) c.at-2.ensures c.at-3.ensures
    c.holder_of-guard.result c.line_of-guard.result.items (c.holder_of-guard.ensures x.holder) c.line_of-guard.ensures)
