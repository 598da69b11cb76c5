use Rattle.std.proofs.Common.{◌≡◌, ◌≢◌, ◌++◌, ℕ, List, MatchOption, codes, refl, subst}
use Rattle.std.proofs.lemmas.Str.Ascii.{trim_ascii_is}
use Rattle.cp_verdict.specs.Comments.{behind_white}
use Rattle.cp_verdict.proofs.comments.behind_opening.Goals as goal

pub returns : goal.returns
returns c =
    let text = c.args.comment.now in
    let same = trim_ascii_is text c.trim_ascii.result.now (behind_white text) refl c.trim_ascii.ensures.value in
    subst (λ t. MatchOption c.behind_word.result ((v : List ℕ) → t ≢ codes "(* expect" ++ v) (λ v. t ≡ codes "(* expect" ++ v.now)) same c.behind_word.ensures
