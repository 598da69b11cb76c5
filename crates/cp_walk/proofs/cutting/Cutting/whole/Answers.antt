use Rattle.std.proofs.Common.{◌≡◌, ◌∙◌, ap, ◌++◌, ◌∷◌, []}
use Rattle.cp_walk.specs.Members.{words_of}
use Rattle.cp_walk.proofs.Starting.{whole_cutting}
use Rattle.cp_walk.proofs.cutting.Cutting.whole.Goals as goal

pub invariant_of-result : goal.invariant_of-result
invariant_of-result c =
    let words : words_of c.push.new.self.items ≡ [] ∷ [] = ap words_of (c.in_ok-push.ensures.items ∙ ap (λ l. l ++ c.new.result ∷ []) c.new-words.ensures.items) ∙ ap (λ w. w ∷ []) c.new.ensures in
    record { few_choices = c.requires; cuts = whole_cutting c.args.job.program.now c.args.job.limits c.push.new.self.items words }
