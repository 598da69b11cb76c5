use Rattle.std.proofs.Common.{◌≡◌, ◌∙◌, ◌-◌, ap, arith, length, min, refl, subst}
use Rattle.std.specs.Prelude.{slice_get}
use Rattle.cp_text.specs.Lines.{line_of}
use Rattle.cp_text.specs.Places.{StandsAt, ranges}
use Rattle.cp_refusal.specs.Explaining.{token_line}
use Rattle.cp_refusal.proofs.Places.{end_on_a_line, no_tokens}
use Rattle.cp_refusal.proofs.explain.end_of.Goals as goal

pub returns-in-Some : goal.returns-in-Some
returns-in-Some c = λ h.
    let source = c.args.source.now in
    let tokens = c.args.tokens.now in
    let before : c.saturating_sub.result ≡ length tokens - 1 = c.saturating_sub.ensures ∙ ap (λ n. n - 1) c.count-count.ensures.value in
    let stands = subst (λ n. StandsAt source (line_of tokens n) c.in-Some.last) before (c.in-Some.ensures.stands source h) in
    let on = end_on_a_line source tokens c.args.at c.in-Some.last c.requires stands in
    let e : c.line-line.result ≡ token_line tokens c.args.at = c.line-line.ensures ∙ ap (line_of tokens) (c.min.ensures ∙ ap (min c.args.at) c.count-count.ensures.value) in
    let place = c.in_line.ensures (omega (arith, stands.within, c.after.ensures)) (omega (arith, on, e)) (omega (arith, on, e)) in
    (place.0, place.1 ∙ e)

pub returns-in-None : goal.returns-in-None
returns-in-None c = λ h.
    let tokens = c.args.tokens.now in
    let before = c.saturating_sub.ensures ∙ ap (λ n. n - 1) c.count-count.ensures.value in
    no_tokens c.args.source.now tokens c.args.at (record { from = 0; len = 1 }) refl (c.in-None.ensures.value ∙ ap (λ n. slice_get (ranges tokens) n) before)
