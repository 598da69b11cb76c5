use Rattle.std.proofs.Common.{◌≡◌, ◌∙◌, ◌+◌, ℕ, ap, drop, Err, Ok, Result, rules, of_z, subst, sym, to_z, w16}
use Rattle.cp_slots.specs.declared.place.OrdinalExpression.TheViews.{the_lemmas}
use Rattle.cp_store.specs.declared.error.ErrorName.{ErrorName}
use Rattle.cp_store.specs.Inside.{CanGoThrough}
use Rattle.cp_store.specs.Memory.{memory_of}
use Rattle.cp_store.specs.Places.{element_offset, element_address}
use Rattle.cp_store.proofs.Reaches.{address_there, address_through, begins, goes_on, index_fails, index_goes, index_moves, index_spans, index_steps, moves, reached, reached_in}
use Rattle.cp_store.proofs.evaluation.+evaluate.Goals as goal

pub address-element_address-requires : goal.address-element_address-requires
address-element_address-requires t c =
    (search (rules, the_lemmas), (c.requires.0, goes_on (memory_of c.args.permanents.now c.args.room.now) c.args.frame.now c.args.place.now c.requires.0 c.requires.1 c.origin_address.result c.plus-start.result c.as_slice.result.now c.origin_address.ensures c.plus-start.ensures c.as_slice.ensures.value))

pub address-returns-in-empty-clause-value : goal.address-returns-in-empty-clause-value
address-returns-in-empty-clause-value t c =
    address_there (memory_of c.args.permanents.now c.args.room.now) c.args.frame.now c.args.place.now c.origin_address.result c.plus-start.result c.as_slice.result.now c.origin_address.ensures c.plus-start.ensures c.as_slice.ensures.value c.in-empty.len_below

pub address-returns-in-empty-clause-cells : goal.address-returns-in-empty-clause-cells
address-returns-in-empty-clause-cells t c =
    let there = address_there (memory_of c.args.permanents.now c.args.room.now) c.args.frame.now c.args.place.now c.origin_address.result c.plus-start.result c.as_slice.result.now c.origin_address.ensures c.plus-start.ensures c.as_slice.ensures.value c.in-empty.len_below in
    λ cells can. reached_in (memory_of c.args.permanents.now c.args.room.now) c.args.frame.now c.args.place.now cells can (Ok c.plus-start.result) there

pub address-returns-in_default-clause-cells : goal.address-returns-in_default-clause-cells
address-returns-in_default-clause-cells t c =
    let through = address_through (memory_of c.args.permanents.now c.args.room.now) c.args.frame.now c.args.place.now c.origin_address.result c.plus-start.result c.as_slice.result.now c.origin_address.ensures c.plus-start.ensures c.as_slice.ensures.value in
    λ cells can. reached_in (memory_of c.args.permanents.now c.args.room.now) c.args.frame.now c.args.place.now cells can c.element_address.result (c.element_address.ensures ∙ through)

pub through-element_offset-requires : goal.through-element_offset-requires
through-element_offset-requires t c =
    let spans = index_spans (memory_of c.args.permanents.now c.args.room.now) c.args.frame.now c.loop-index.at c.args.indices.now c.loop-index.index-index c.index-item.result c.loop-index-test.true c.index-item.is c.loop-index.invariant.goes in
    search (rules, spans)

pub through-plus-at-requires : goal.through-plus-at-requires
through-plus-at-requires t c =
    let low_is : to_z w16 (of_z w16 c.index-item.result.low) ≡ c.index-item.result.low = search rules in
    let high_is : to_z w16 (of_z w16 c.index-item.result.high) ≡ c.index-item.result.high = search rules in
    let value_is : to_z w16 (of_z w16 c.in_ok-value.value) ≡ c.in_ok-value.value = search rules in
    let far_is : ◌≡◌ {A = Result ℕ ErrorName} (element_offset c.index-item.result.low c.index-item.result.high c.index-item.result.size c.in_ok-value.value) (Ok c.in_ok-element_offset.field-0) =
    cc (low_is, high_is, value_is, c.element_offset.ensures, c.in_ok-element_offset.was {u = tt}) in
    index_moves (memory_of c.args.permanents.now c.args.room.now) c.args.frame.now c.loop-index.at c.args.indices.now c.loop-index.index-index c.index-item.result c.loop-index-test.true c.index-item.is c.loop-index.invariant.goes c.in_ok-value.value c.in_ok-element_offset.field-0 far_is

pub through-loop-index-preserved : goal.through-loop-index-preserved
through-loop-index-preserved t c =
    let low_is : to_z w16 (of_z w16 c.index-item.result.low) ≡ c.index-item.result.low = search rules in
    let high_is : to_z w16 (of_z w16 c.index-item.result.high) ≡ c.index-item.result.high = search rules in
    let value_is : to_z w16 (of_z w16 c.in_ok-value.value) ≡ c.in_ok-value.value = search rules in
    let far_is : ◌≡◌ {A = Result ℕ ErrorName} (element_offset c.index-item.result.low c.index-item.result.high c.index-item.result.size c.in_ok-value.value) (Ok c.in_ok-element_offset.field-0) =
    cc (low_is, high_is, value_is, c.element_offset.ensures, c.in_ok-element_offset.was {u = tt}) in
    let steps = index_steps (memory_of c.args.permanents.now c.args.room.now) c.args.frame.now c.loop-index.at c.args.indices.now c.loop-index.index-index c.index-item.result c.loop-index-test.true c.index-item.is c.in_ok-value.value c.in_ok-element_offset.field-0 (sym c.evaluate.ensures ∙ c.in_ok-value.was {u = tt}) far_is in
    let goes = index_goes (memory_of c.args.permanents.now c.args.room.now) c.args.frame.now c.loop-index.at c.args.indices.now c.loop-index.index-index c.index-item.result c.loop-index-test.true c.index-item.is c.loop-index.invariant.goes c.in_ok-value.value c.in_ok-element_offset.field-0 far_is in
    record {
      value = c.loop-index.invariant.value ∙ steps ∙ ap (λ a. element_address (memory_of c.args.permanents.now c.args.room.now) c.args.frame.now a (drop (c.loop-index.index-index + 1) c.args.indices.now)) (sym c.plus-at.ensures);
      goes = subst (λ a. (cells : ℕ) × CanGoThrough (memory_of c.args.permanents.now c.args.room.now) c.args.frame.now a (drop (c.loop-index.index-index + 1) c.args.indices.now) cells) (sym c.plus-at.ensures) goes;
    }

pub through-returns-in_err-element_offset : goal.through-returns-in_err-element_offset
through-returns-in_err-element_offset t c =
    let low_is : to_z w16 (of_z w16 c.index-item.result.low) ≡ c.index-item.result.low = search rules in
    let high_is : to_z w16 (of_z w16 c.index-item.result.high) ≡ c.index-item.result.high = search rules in
    let value_is : to_z w16 (of_z w16 c.in_ok-value.value) ≡ c.in_ok-value.value = search rules in
    let far_is : ◌≡◌ {A = Result ℕ ErrorName} (element_offset c.index-item.result.low c.index-item.result.high c.index-item.result.size c.in_ok-value.value) (Err c.in_err-element_offset.field-0.0) =
    cc (low_is, high_is, value_is, c.element_offset.ensures, c.in_err-element_offset.was {u = tt}) in
    let fails : element_address (memory_of c.args.permanents.now c.args.room.now) c.args.frame.now c.args.start c.args.indices.now ≡ Err c.in_err-element_offset.field-0.0 =
    c.loop-index.invariant.value ∙ index_fails (memory_of c.args.permanents.now c.args.room.now) c.args.frame.now c.loop-index.at c.args.indices.now c.loop-index.index-index c.index-item.result c.loop-index-test.true c.index-item.is c.in_ok-value.value c.in_err-element_offset.field-0.0 (sym c.evaluate.ensures ∙ c.in_ok-value.was {u = tt}) far_is in
    rw fails (search rules)

pub element-through-requires : goal.element-through-requires
element-through-requires t c =
    (search (rules, the_lemmas), (1, goes_on (memory_of c.args.permanents.now c.args.room.now) c.args.frame.now c.args.place.now 1 c.requires c.origin_address.result c.plus-start.result c.as_slice.result.now c.origin_address.ensures c.plus-start.ensures c.as_slice.ensures.value))

pub element-cell-requires : goal.element-cell-requires
element-cell-requires t c =
    let at_is = address_through (memory_of c.args.permanents.now c.args.room.now) c.args.frame.now c.args.place.now c.origin_address.result c.plus-start.result c.as_slice.result.now c.origin_address.ensures c.plus-start.ensures c.as_slice.ensures.value in
    reached (memory_of c.args.permanents.now c.args.room.now) c.args.frame.now c.args.place.now 1 c.requires c.in-Ok.at (sym at_is ∙ sym c.through.ensures ∙ c.in-Ok.is)

pub address-origin_address-requires : goal.address-origin_address-requires
address-origin_address-requires t c = begins (memory_of c.args.permanents.now c.args.room.now) c.args.frame.now c.args.place.now c.requires.0 c.requires.1

pub address-plus-start-requires : goal.address-plus-start-requires
address-plus-start-requires t c = rw c.origin_address.ensures (moves (memory_of c.args.permanents.now c.args.room.now) c.args.frame.now c.args.place.now c.requires.0 c.requires.1)

pub element-origin_address-requires : goal.element-origin_address-requires
element-origin_address-requires t c = begins (memory_of c.args.permanents.now c.args.room.now) c.args.frame.now c.args.place.now 1 c.requires

pub element-plus-start-requires : goal.element-plus-start-requires
element-plus-start-requires t c = rw c.origin_address.ensures (moves (memory_of c.args.permanents.now c.args.room.now) c.args.frame.now c.args.place.now 1 c.requires)

pub load_value-origin_address-requires : goal.load_value-origin_address-requires
load_value-origin_address-requires t c = begins (memory_of c.args.permanents.now c.args.room.now) c.args.frame.now c.args.place.now 1 c.requires

pub load_value-plus-at-requires : goal.load_value-plus-at-requires
load_value-plus-at-requires t c = rw c.origin_address.ensures (moves (memory_of c.args.permanents.now c.args.room.now) c.args.frame.now c.args.place.now 1 c.requires)

pub load_value-cell-requires : goal.load_value-cell-requires
load_value-cell-requires t c =
    let there = address_there (memory_of c.args.permanents.now c.args.room.now) c.args.frame.now c.args.place.now c.origin_address.result c.plus-at.result c.as_slice.result.now c.origin_address.ensures c.plus-at.ensures c.as_slice.ensures.value c.in-empty.len_below in
    reached (memory_of c.args.permanents.now c.args.room.now) c.args.frame.now c.args.place.now 1 c.requires c.plus-at.result (sym there)
