use Rattle.std.proofs.Common.{◌≡◌, ◌∙◌, ap, sym, ◌≤◌, length, [], ◌∷◌, ◌++◌, codes, get_or, take, arith, rules, lit<}
use Rattle.std.proofs.lemmas.Bool.{false≢true}
use Rattle.std.proofs.lemmas.Fmt.{parse-decimal}
use Rattle.std.proofs.lemmas.Slice.Eq.{bytes_eq-Decides}
use Rattle.std.proofs.lemmas.List.{length_push}
use Rattle.std.proofs.lemmas.List.Elements.{All-push, All-same}
use Rattle.std.proofs.lemmas.Iterator.Consumers.{YieldsList-at, YieldsList-turn, YieldsList-end}
use Rattle.std.proofs.lemmas.Iterator.Splits.{YieldsList-from_str_split}
use Rattle.cp_tool.proofs.WordLemmas.{all_parts, below_wide, empty_from_none, next_part}
use Rattle.cp_tool.proofs.schedule.numbers_of.Goals as goal
use Rattle.cp_tool.proofs.schedule.numbers_of.Goals.{then-number-gt15-via-then-number-gt15, then-number-gt15-via-else-number-gt15+then-len-most}

pub returns-then-eq-clause-reads : goal.returns-then-eq-clause-reads
returns-then-eq-clause-reads c w word e =
    let none : c.args.text.now ≡ codes "none" = (bytes_eq-Decides c.args.text.now (codes "none")).0 (sym c.if-eq.ensures) in
    c.new-word.ensures ∙ sym (empty_from_none w word.1 (e ∙ none))

pub returns-in_default-clause-reads : goal.returns-in_default-clause-reads
returns-in_default-clause-reads c w word e =
    let text = c.args.text.now in
    let other : text ≡ codes "none" → ⊥ = λ none. false≢true (c.if-eq.ensures ∙ (bytes_eq-Decides text (codes "none")).1 none) in
    let split = YieldsList-at c.into_iter-part-iterator.ensures.into_iter_gives (YieldsList-from_str_split 46 text (lit< tt) c.split-part-items.ensures.text c.split-part-items.ensures.has_more c.split-part-items.ensures.pattern) in
    let turn = YieldsList-turn split c.loop-part.yielded _ c.loop-part.yielded_by _ _ c.in-Some.part c.in-Some.is c.next.ensures.steps in
    let next = next_part text other _ _ turn w word.1 e in
    let read = parse-decimal 8 _ _ c.parse.result (omega (arith, next.1)) (below_wide _ next.1) next.2 c.parse.ensures.value.0 in
    c.in_default.not-Ok _ read

pub returns-then-number-gt15-clause-reads : goal.returns-then-number-gt15-clause-reads
returns-then-number-gt15-clause-reads c w word e =
    let text = c.args.text.now in
    let other : text ≡ codes "none" → ⊥ = λ none. false≢true (c.if-eq.ensures ∙ (bytes_eq-Decides text (codes "none")).1 none) in
    let split = YieldsList-at c.into_iter-part-iterator.ensures.into_iter_gives (YieldsList-from_str_split 46 text (lit< tt) c.split-part-items.ensures.text c.split-part-items.ensures.has_more c.split-part-items.ensures.pattern) in
    let turn = YieldsList-turn split c.loop-part.yielded _ c.loop-part.yielded_by _ _ c.in-Some.part c.in-Some.is c.next.ensures.steps in
    let next = next_part text other _ _ turn w word.1 e in
    let read = parse-decimal 8 _ _ c.parse.result (omega (arith, next.1)) (below_wide _ next.1) next.2 c.parse.ensures.value.0 in
    let same : c.in-Ok.number ≡ get_or w (length c.loop-part.yielded) 0 = cc in
    let count = c.loop-part.invariant.1 in
    let room = word.0 in
    elim c.then-number-gt15.branch [
      | then-number-gt15-via-then-number-gt15 b ↦ omega (arith, b.if-number-gt15.true, same, next.1)
      | then-number-gt15-via-else-number-gt15+then-len-most b ↦ omega (arith, b.if-len-most.true, b.len.ensures.value, count, room, next.0)
    ]

pub loop-part-init : goal.loop-part-init
loop-part-init c = (search rules, search rules, λ w word e. sym c.new-word.ensures)

pub loop-part-preserved : goal.loop-part-preserved
loop-part-preserved c =
    let text = c.args.text.now in
    let other : text ≡ codes "none" → ⊥ = λ none. false≢true (c.if-eq.ensures ∙ (bytes_eq-Decides text (codes "none")).1 none) in
    let split = YieldsList-at c.into_iter-part-iterator.ensures.into_iter_gives (YieldsList-from_str_split 46 text (lit< tt) c.split-part-items.ensures.text c.split-part-items.ensures.has_more c.split-part-items.ensures.pattern) in
    let turn = YieldsList-turn split c.loop-part.yielded _ c.loop-part.yielded_by _ _ c.in-Some.part c.in-Some.is c.next.ensures.steps in
    let more = length_push c.loop-part.yielded c.in-Some.part in
    let small : c.in-Ok.number ≤ 15 = omega (arith, c.if-number-gt15.false) in
    let fits = c.loop-part.invariant.0.0 in
    let items = c.push.ensures.items in
    let len = c.push.ensures.len in
    let count = c.loop-part.invariant.1 in (
      (omega (arith, len, fits, c.if-len-most.false, c.len.ensures.value), All-same (λ n. n ≤ 15) _ _ items (All-push (λ n. n ≤ 15) _ _ c.loop-part.invariant.0.1 small)),
      omega (arith, more, len, count),
      λ w word e.
          let next = next_part text other _ _ turn w word.1 e in
          let read = parse-decimal 8 _ _ c.parse.result (omega (arith, next.1)) (below_wide _ next.1) next.2 c.parse.ensures.value.0 in
          let same : get_or w (length c.loop-part.yielded) 0 ≡ c.in-Ok.number = cc in
          let before = c.loop-part.invariant.2 w word e in
          ap (λ j. take j w) more ∙ next.3 ∙ ap (λ xs. xs ++ get_or w (length c.loop-part.yielded) 0 ∷ []) before
          ∙ ap (λ n. c.loop-part.word.items ++ n ∷ []) same ∙ sym items,
    )

pub returns-clause-reads : goal.returns-clause-reads
returns-clause-reads c w word e =
    let text = c.args.text.now in
    let other : text ≡ codes "none" → ⊥ = λ none. false≢true (c.if-eq.ensures ∙ (bytes_eq-Decides text (codes "none")).1 none) in
    let split = YieldsList-at c.into_iter-part-iterator.ensures.into_iter_gives (YieldsList-from_str_split 46 text (lit< tt) c.split-part-items.ensures.text c.split-part-items.ensures.has_more c.split-part-items.ensures.pattern) in
    let end = YieldsList-end split c.loop-part.yielded _ c.loop-part.yielded_by _ _ c.in-None.is c.next.ensures.steps in
    sym (c.loop-part.invariant.2 w word e) ∙ all_parts text other w word.1 e _ end.1
