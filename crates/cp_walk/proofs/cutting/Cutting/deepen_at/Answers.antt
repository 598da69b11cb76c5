use Rattle.std.proofs.Common.{◌≡◌, ◌∙◌, ◌<◌, ◌≤◌, ◌+◌, ap, sym, arith, subst, length, List, [], ℕ, Some, Err}
use Rattle.cp_walk.proofs.Words.{length-map, get_or-map, slots, Advanced, words_of}
use Rattle.cp_walk.specs.declared.fault.SplitFault.TheVariants.{Leaf, Full}
use Rattle.cp_walk.specs.Cutting.{word_at, split_of, IsSplitFault}
use Rattle.cp_walk.proofs.Deepened.{passed, not_short, leaf_settled, full_ends, split_goes_on}
use Rattle.cp_walk.proofs.cutting.Cutting.deepen_at.Goals as goal

pub returns-then-len-depth-clause-advanced : goal.returns-then-len-depth-clause-advanced
returns-then-len-depth-clause-advanced c =
    let job = c.args.self.now.job in
    let sys = slots job.program.now job.limits.discipline in
    let items = c.args.self.now.words.items in
    let words = words_of items in
    let lt : c.args.at < length words = omega (arith, c.requires.member, length-map items (λ v. v.items)) in
    let word = ap length (get_or-map (λ v. v.items) items c.args.at c.index.result.now [] c.requires.member ∙ ap (λ v. v.items) (sym c.index.ensures)) in
    let long : c.args.depth ≤ length (word_at words c.args.at) = omega (arith, word, c.len.ensures.value, c.if-len-depth.true) in
    passed sys job.limits.choices job.limits.steps c.args.depth words c.args.at lt c.requires.settled (not_short sys job.limits.choices job.limits.steps c.args.depth words c.args.at long)

pub returns-in-Ok-clause-advanced : goal.returns-in-Ok-clause-advanced
returns-in-Ok-clause-advanced c =
    let job = c.args.self.now.job in
    let sys = slots job.program.now job.limits.discipline in
    let items = c.args.self.now.words.items in
    let words = words_of items in
    let lt : c.args.at < length words = omega (arith, c.requires.member, length-map items (λ v. v.items)) in
    let word = ap length (get_or-map (λ v. v.items) items c.args.at c.index.result.now [] c.requires.member ∙ ap (λ v. v.items) (sym c.index.ensures)) in
    let short : length (word_at words c.args.at) < c.args.depth = omega (arith, word, c.len.ensures.value, c.if-len-depth.false) in
    split_goes_on sys job.limits.choices job.limits.steps c.args.depth words (words_of c.split.new.self.words.items) c.args.at c.args.self.now.few_choices lt short c.requires.settled c.in-Ok.ensures.split

pub returns-in-Err-Leaf-clause-advanced : goal.returns-in-Err-Leaf-clause-advanced
returns-in-Err-Leaf-clause-advanced c =
    let job = c.args.self.now.job in
    let sys = slots job.program.now job.limits.discipline in
    let items = c.args.self.now.words.items in
    let words = words_of items in
    let lt : c.args.at < length words = omega (arith, c.requires.member, length-map items (λ v. v.items)) in
    let word = ap length (get_or-map (λ v. v.items) items c.args.at c.index.result.now [] c.requires.member ∙ ap (λ v. v.items) (sym c.index.ensures)) in
    let short : length (word_at words c.args.at) < c.args.depth = omega (arith, word, c.len.ensures.value, c.if-len-depth.false) in
    let leaf : split_of sys job.limits.choices job.limits.steps words c.args.at ≡ Err Leaf = c.in-Err-Leaf.ensures.fault (subst IsSplitFault (sym c.in-Err-Leaf.field-0-is) tt) ∙ ap Err c.in-Err-Leaf.field-0-is in
    subst (λ (ws : List (List ℕ)). Advanced sys job.limits.choices job.limits.steps c.args.depth words c.args.at ws (Some (c.args.at + 1))) (sym (ap words_of c.in-Err-Leaf.ensures.unchanged)) (passed sys job.limits.choices job.limits.steps c.args.depth words c.args.at lt c.requires.settled (leaf_settled sys job.limits.choices job.limits.steps c.args.depth words c.args.at short leaf))

pub returns-in-Err-Full-clause-advanced : goal.returns-in-Err-Full-clause-advanced
returns-in-Err-Full-clause-advanced c =
    let job = c.args.self.now.job in
    let sys = slots job.program.now job.limits.discipline in
    let items = c.args.self.now.words.items in
    let words = words_of items in
    let lt : c.args.at < length words = omega (arith, c.requires.member, length-map items (λ v. v.items)) in
    let word = ap length (get_or-map (λ v. v.items) items c.args.at c.index.result.now [] c.requires.member ∙ ap (λ v. v.items) (sym c.index.ensures)) in
    let short : length (word_at words c.args.at) < c.args.depth = omega (arith, word, c.len.ensures.value, c.if-len-depth.false) in
    let full : split_of sys job.limits.choices job.limits.steps words c.args.at ≡ Err Full = c.in-Err-Full.ensures.fault (subst IsSplitFault (sym c.in-Err-Full.field-0-is) tt) ∙ ap Err c.in-Err-Full.field-0-is in
    (ap words_of c.in-Err-Full.ensures.unchanged, full_ends sys job.limits.choices job.limits.steps c.args.depth words c.args.at lt short c.requires.settled full)
