use Rattle.std.proofs.Common.{◌≡◌, ◌∙◌, ◌+◌, ◌≤◌, ℕ, List, ap, arith, length, subst, sym}
use Rattle.std.specs.List.{AllPass}
use Rattle.cp_refusal.specs.Excerpts.{is_plain}
use Rattle.cp_refusal.specs.Lines.{text_before}
use Rattle.cp_refusal.proofs.Fronts.{front_got, length_front, start_of}
use Rattle.cp_refusal.proofs.page.column.Goals as goal

pub returns : goal.returns
returns c = λ within plain.
    let s = c.args.source.now in
    let at = c.args.at in
    let begins = start_of s c.line_number.result at c.line_start.result c.min-start.result c.line_number.ensures c.line_start.ensures c.min-start.ensures in
    let before : c.unwrap_or-before.result.now ≡ text_before s at = front_got s at c.min-start.result c.get.result _ c.unwrap_or-before.result within begins c.get.ensures.lookup c.unwrap_or-before.ensures in
    let number : c.length.result ≡ length (text_before s at) = c.length.ensures (subst (λ (l : List ℕ). AllPass is_plain l) (sym before) plain) ∙ ap length before in
    let long : length (text_before s at) + 1 ≤ 18446744073709551615 = omega (arith, length_front s at c.min-start.result begins) in
    omega arith
