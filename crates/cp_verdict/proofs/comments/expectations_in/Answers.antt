use Rattle.std.proofs.Common.{◌∙◌, ℕ, Vec, Global, map, ap, subst, arith}
use Rattle.std.specs.String.{string_bytes}
use Rattle.std.proofs.lemmas.List.{length-map}
use Rattle.cp_verdict.specs.Comments.{AreHeld}
use Rattle.cp_verdict.specs.Gathering.{IsGathered}
use Rattle.cp_verdict.proofs.Commenting.{comments_gathered, held_more, all_held, gathered_at}
use Rattle.cp_verdict.proofs.comments.expectations_in.Goals as goal

pub loop-comment-preserved : goal.loop-comment-preserved
loop-comment-preserved c =
    let items = c.deref-comment-items.result.now in
    let before = string_bytes c.loop-comment.joined in
    let now = string_bytes c.gather.new.joined in
    let all = map (λ (v : Vec ℕ Global). v.items) items in
    let same = c.deref.ensures.value ∙ ap (λ (v : Vec ℕ Global). v.items) c.comment-item.is in
    held_more all c.loop-comment.comment-index _ before now (omega (arith, length-map items (λ (v : Vec ℕ Global). v.items))) c.loop-comment.invariant (gathered_at (λ (v : Vec ℕ Global). v.items) items c.loop-comment.comment-index c.comment-item.result before now (subst (λ l. IsGathered l before now) same c.in_ok-gather.ensures))

pub returns : goal.returns
returns c = λ parts cut is.
    let all = map (λ (v : Vec ℕ Global). v.items) c.deref-comment-items.result.now in
    let are = ap (map (λ (v : Vec ℕ Global). v.items)) c.deref-comment-items.ensures.value ∙ c.in_ok-all.ensures ∙ comments_gathered c.args.source.now parts cut is in
    let held = all_held all c.loop-comment.comment-index (string_bytes c.loop-comment.joined) (omega (arith, length-map c.deref-comment-items.result.now (λ (v : Vec ℕ Global). v.items))) c.loop-comment.invariant in
    (held.0, subst (λ l. AreHeld l held.0) are held.1, held.2)
