use Rattle.std.proofs.Common.{rules, ◌≡◌, ◌∙◌, ◌<◌, ◌++◌, ap, length, sym}
use Rattle.std.specs.Ordering.{int_eq}
use Rattle.std.specs.Prelude.{is_ok, if◌then◌else◌}
use Rattle.std.proofs.lemmas.Bool.Decides.{Decides-int_eq}
use Rattle.std.proofs.lemmas.Slice.Eq.{slice_eq-Decides}
use lib.Pointwise.{pointwise}
use Rattle.cp_key.specs.Numbers.{integer_key, list_key}
use Rattle.cp_key.proofs.Lists.{when_ok}
use Rattle.cp_key.proofs.writing.freeze_permanents.Goals as goal

pub returns-then-eq : goal.returns-then-eq
returns-then-eq c =
    let mine = c.args.state.now.permanents.items in
    let theirs = c.args.before.now.permanents.items in
    let compared = c.eq.ensures ∙ ap (λ xs. pointwise int_eq xs c.as_slice-then-not-is_empty.result.now) c.as_slice.ensures.value ∙ ap (λ ys. pointwise int_eq mine ys) c.as_slice-then-not-is_empty.ensures.value in
    let same : mine ≡ theirs = (slice_eq-Decides Decides-int_eq mine theirs c.eq.result compared).0 c.if-eq.true in
    let some : 0 < length c.args.known.now = search rules in
    let known = c.requires some ∙ ap (list_key integer_key) (sym same) in
    when_ok c.extend_from_slice.result _ _ _ (c.extend_from_slice.ensures.items ∙ ap (λ ks. if is_ok c.extend_from_slice.result then c.args.key.now.items ++ ks else c.args.key.now.items) known)
