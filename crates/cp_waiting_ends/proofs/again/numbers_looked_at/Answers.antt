use Rattle.std.proofs.Common.{◌≡◌, ◌∙◌, ℕ, Option, Some, length, sym, ap, subst}
use Rattle.cp_ends.specs.Holds.{IsWordOf}
use Rattle.cp_ends.specs.Told.{IsDepth}
use Rattle.cp_ends.proofs.Listing.{origin_here}
use Rattle.cp_waiting_ends.proofs.again.numbers_looked_at.Goals as goal

pub returns : goal.returns
returns c = λ r f other h is.
    (let by : IsDepth f (Some c.in-Some.stopped) other = subst (λ (s : Option ℕ). IsDepth f s other) c.in-Some.is is in
    let x = by.0 in
    let here = origin_here r c.args.found.now.states f.states c.in-Some.stopped x h.states by.1 in
    let word = c.in_ok-word.ensures r f.states x.1 h.states (subst (λ o. IsWordOf f.states o x.1) (sym c.origin.ensures) here) in
    let count : c.len.result ≡ length x.1 = c.len.ensures ∙ c.in_ok-word.word.ok.0 ∙ ap length word in
    ap (λ (n : ℕ). Some n) count ∙ sym by.2)
