use Rattle.cp_walk.proofs.Words.{◌∙◌, ◌<◌, ◌+◌, ap, sym, arith, subst, length, List, take, drop, ◌++◌, ArrayVec, word_at, children, words_of}
use Rattle.std.specs.Prelude.{option_map}
use Rattle.cp_walk.proofs.Placing.{split_cuts, short_member, wanted_at}
use Rattle.cp_walk.proofs.cutting.Cutting.split.Goals as goal

pub with_children-requires-clause-short : goal.with_children-requires-clause-short
with_children-requires-clause-short c =
    let r = c.args.self.now.job.program.now in
    let l = c.args.self.now.job.limits in
    let words = c.args.self.now.words.items in
    let wants = wanted_at r l words c.args.i c.index.result.now c.as_slice.result.now c.in-Ok-Some.ready.items c.requires.member c.index.ensures c.as_slice.ensures.value (ap (option_map (λ v. v.items)) (sym c.in-Ok-Some.field-0-is) ∙ c.in-Ok-Some.ensures) in
    subst (λ (ws : List (ArrayVec _)). length (word_at (words_of ws) c.args.i) < 20) (sym c.as_slice-2.ensures.value) (short_member r l (words_of words) c.args.i c.in-Ok-Some.ready.items c.args.self.now.few_choices wants)

pub invariant_of-self : goal.invariant_of-self
invariant_of-self c =
    let r = c.args.self.now.job.program.now in
    let l = c.args.self.now.job.limits in
    let words = c.args.self.now.words.items in
    let wants = wanted_at r l words c.args.i c.index.result.now c.as_slice.result.now c.in-Ok-Some.ready.items c.requires.member c.index.ensures c.as_slice.ensures.value (ap (option_map (λ v. v.items)) (sym c.in-Ok-Some.field-0-is) ∙ c.in-Ok-Some.ensures) in
    record { few_choices = c.args.self.now.few_choices; cuts = split_cuts r l words c.in-Ok.words.items c.args.i c.in-Ok-Some.ready.items c.requires.member (omega (arith, c.if-len.false, c.len.ensures, c.args.self.now.words.ok.0, c.len-2.ensures.value)) wants (c.in-Ok.ensures ∙ ap (λ (ws : List (ArrayVec _)). take c.args.i (words_of ws) ++ (children (word_at (words_of ws) c.args.i) c.as_slice-3.result.now ++ drop (c.args.i + 1) (words_of ws))) c.as_slice-2.ensures.value ∙ ap (λ ready. take c.args.i (words_of words) ++ (children (word_at (words_of words) c.args.i) ready ++ drop (c.args.i + 1) (words_of words))) c.as_slice-3.ensures.value) c.args.self.now.cuts }
