use Rattle.std.proofs.Common.{◌≡◌, ℕ, rules, arith, sym, ◌∙◌}
use Rattle.std.proofs.lemmas.List.{length-take, length-drop}
use Rattle.std.proofs.lemmas.Option.{IfSome_then}
use Rattle.cp_text.specs.declared.piece.Shape.TheVariants.{Comment}
use Rattle.cp_text.proofs.FrontLaws.{comment_long}
use Rattle.cp_text.proofs.front.annotation_at.Goals as goal

pub slice_bounds-annotation_in-count : goal.slice_bounds-annotation_in-count
slice_bounds-annotation_in-count c =
    let comment : c.in-Ok-Comment.field-0.shape ≡ Comment = first_of (cc, search rules) in
    let long = comment_long c.args.text.now c.in-Ok-Comment.field-0 c.requires.some (sym c.first_piece.ensures.value ∙ c.in-Ok-Comment.is) comment in
    omega arith

pub slice_bounds-annotation_in-start : goal.slice_bounds-annotation_in-start
slice_bounds-annotation_in-start c =
    let comment : c.in-Ok-Comment.field-0.shape ≡ Comment = first_of (cc, search rules) in
    let long = comment_long c.args.text.now c.in-Ok-Comment.field-0 c.requires.some (sym c.first_piece.ensures.value ∙ c.in-Ok-Comment.is) comment in
    first_of (search rules, omega arith)

pub returns-in-Ok-Comment-clause-within : goal.returns-in-Ok-Comment-clause-within
returns-in-Ok-Comment-clause-within c =
    let comment : c.in-Ok-Comment.field-0.shape ≡ Comment = first_of (cc, search rules) in
    let long = comment_long c.args.text.now c.in-Ok-Comment.field-0 c.requires.some (sym c.first_piece.ensures.value ∙ c.in-Ok-Comment.is) comment in
    let within = c.in-Ok-Comment.ensures.within in
    IfSome_then c.annotation_in.result c.annotation_in.ensures.within (λ a h. omega (arith, h, long, within.1, length-take {A = ℕ}, length-drop {A = ℕ}))
