use Rattle.cp_walk.proofs.Words.{Row, ◌∷◌, [], ◌++◌, List, map, ℕ, ap, ◌∙◌, sym, arith, map-append}
use Rattle.std.proofs.lemmas.List.FromFn.{map-range_with_len_more}
use Rattle.cp_walk.proofs.collect.empty_slots.Goals as goal

pub loop-preserved : goal.loop-preserved
loop-preserved c =
    let none : ℕ → List Row = λ _. [] in
    ap (map (λ r. r.items)) c.in_ok-push.ensures.items ∙ map-append (λ r. r.items) c.loop.slots.items (c.new.result ∷ []) ∙ ap (λ l. l ++ c.new.result.items ∷ []) c.loop.invariant
    ∙ ap (λ x. map none (Rattle.std.specs.List.range_with_len 0 c.loop.counter) ++ x ∷ []) c.new.ensures.items ∙ sym (map-range_with_len_more none 0 c.loop.counter c.loop.counter (omega arith))
