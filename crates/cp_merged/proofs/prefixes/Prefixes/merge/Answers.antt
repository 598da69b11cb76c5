use Rattle.cp_merged.proofs.Words.{◌≡◌, ◌∙◌, not, ap, up_to}
use Rattle.cp_merged.proofs.Adding.{lesser_after, lesser_up_to}
use Rattle.cp_merged.proofs.prefixes.Prefixes.merge.Goals as goal

pub returns-then-is_after-clause-first : goal.returns-then-is_after-clause-first
returns-then-is_after-clause-first c =
    let mine = c.args.self.now.first.items in
    let theirs = c.args.other.now.first.items in
    let compared : c.is_after.result ≡ not (up_to mine theirs) = c.is_after.ensures ∙ ap (λ v. not (up_to v c.as_slice-2.result.now)) c.as_slice.ensures.value ∙ ap (λ w. not (up_to mine w)) c.as_slice-2.ensures.value in
    c.word_of-self.ensures ∙ c.as_slice-then-is_after.ensures.value ∙ lesser_after mine theirs c.is_after.result compared c.if-is_after.true

pub returns-else-is_after-clause-first : goal.returns-else-is_after-clause-first
returns-else-is_after-clause-first c =
    let mine = c.args.self.now.first.items in
    let theirs = c.args.other.now.first.items in
    let compared : c.is_after.result ≡ not (up_to mine theirs) = c.is_after.ensures ∙ ap (λ v. not (up_to v c.as_slice-2.result.now)) c.as_slice.ensures.value ∙ ap (λ w. not (up_to mine w)) c.as_slice-2.ensures.value in
    lesser_up_to mine theirs c.is_after.result compared c.if-is_after.false
