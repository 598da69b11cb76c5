use Rattle.std.proofs.Common.{◌≡◌, take, arith, ap, sym, ◌∙◌, subst, inl, inr}
use Rattle.std.specs.List.{slice_get}
use Rattle.std.specs.Option.{unwrap_or}
use Rattle.std.specs.Str.{IsUtf8, chars}
use Rattle.cp_outcomes.proofs.Fronts.{first_char, front_of_none, front_of_text, from_start, grown}
use Rattle.cp_outcomes.proofs.lines.wide_front.Goals as goal
use Rattle.cp_outcomes.proofs.lines.wide_front.Goals.{in-Some+in_default-from_utf8, in_default}

pub returns-clause-front : goal.returns-clause-front
returns-clause-front c = front_of_none c.args.bytes.now c.requires.first (λ k two less inside utf8. c.loop-length.invariant k two (omega (arith, less, c.loop-length-test.false)) inside utf8)

pub returns-in-Ok-clause-front : goal.returns-in-Ok-clause-front
returns-in-Ok-clause-front c =
    let bytes = c.args.bytes.now in
    let n = c.loop-length.length in
    let found = c.in-Some.ensures.lookup.0 in
    let front : c.in-Some.front.now ≡ take n bytes = found.2 ∙ from_start bytes n in
    let text : c.chars.result.rest.now ≡ take n bytes = c.chars.ensures.rest ∙ c.in-Ok.ensures.cases.0 ∙ front in
    front_of_text bytes n c.unwrap_or.result c.shown_char.result c.requires.first c.loop-length.auto.length found.1 (subst IsUtf8 front c.in-Ok.ensures.cases.1) c.loop-length.invariant
    (λ char scalar is. c.unwrap_or.ensures ∙ ap (λ o. unwrap_or o 63) (c.next.ensures.steps.2 ∙ ap (λ l. slice_get (chars l) 0) (text ∙ is) ∙ first_char char scalar))
    c.shown_char.ensures

pub loop-length-preserved : goal.loop-length-preserved
loop-length-preserved c =
    grown c.args.bytes.now c.loop-length.length c.loop-length.invariant
    (λ inside utf8.
    elim c.match-get.branch [
      | in-Some+in_default-from_utf8 w ↦ w.in_default-from_utf8.ensures.cases.0 (subst IsUtf8 (sym (w.in-Some.ensures.lookup.0.2 ∙ from_start c.args.bytes.now c.loop-length.length)) utf8)
      | in_default w ↦ elim w.in_default.ensures.lookup.0 [ inl low ↦ omega (arith, low) | inr high ↦ omega (arith, high, inside) ]
    ])
