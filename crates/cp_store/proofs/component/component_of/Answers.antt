use Rattle.std.proofs.Common.{◌≡◌, ◌∙◌, ℕ, ◌+◌, ◌*◌, ◌^◌, ◌<◌, ◌≤◌, ℤ, Ok, Result, ap, arith, of_z, rules, subst, sym, to_z, w16}
use Rattle.std.specs.Prelude.{◌-ℤ◌, unsigned_abs}
use Rattle.cp_store.specs.declared.error.ErrorName.{ErrorName}
use Rattle.cp_store.specs.Inside.{CanFind}
use Rattle.cp_store.specs.Memory.{memory_of, onward}
use Rattle.cp_store.specs.Places.{element_offset, value_at}
use Rattle.cp_store.specs.Values.{then_with}
use Rattle.cp_store.proofs.Reaches.{not_further, onward_exact}
use Rattle.cp_store.proofs.component.component_of.Goals as goal

-- a product is no larger than a sum that holds it
product_few : (before further : ℕ) → before + further < 2 ^ 64 → further < 2 ^ 64
product_few before further few = omega (arith, few)

-- the first element's number, and that of the element of an index
first_few : (before further all : ℕ) → further ≤ all → before + all < 2 ^ 64 → (before < 2 ^ 64) × (before + further < 2 ^ 64)
first_few before further all le few = (omega (arith, few), omega (arith, le, few))

both_exact : (component first further : ℕ) → component + first < 2 ^ 64 → component + first + further < 2 ^ 64 → onward (onward component first) further ≡ component + first + further
both_exact component first further few all_few =
    ap (λ k. onward k further) (onward_exact component first few) ∙ onward_exact (component + first) further all_few

pub evaluate-requires : goal.evaluate-requires
evaluate-requires c =
    let found = subst (λ k. CanFind (memory_of c.args.permanents.now c.args.room.now) c.args.bindings.now c.args.frame k) c.in-Element.is c.requires in
    rw c.deref.ensures (found.0, found.1, found.2.0)

pub element_offset-requires : goal.element_offset-requires
element_offset-requires c =
    let low_is : to_z w16 (of_z w16 c.in-Element.low) ≡ c.in-Element.low = search rules in
    let high_is : to_z w16 (of_z w16 c.in-Element.high) ≡ c.in-Element.high = search rules in
    let found = subst (λ k. CanFind (memory_of c.args.permanents.now c.args.room.now) c.args.bindings.now c.args.frame k) c.in-Element.is c.requires in
    rw (low_is, high_is) (product_few (c.args.frame.component + c.in-Element.first) (unsigned_abs (c.in-Element.high -ℤ c.in-Element.low) * c.in-Element.stride) found.2.1)

pub overflow_add-result-in-Element : goal.overflow_add-result-in-Element
overflow_add-result-in-Element c =
    let low_is : to_z w16 (of_z w16 c.in-Element.low) ≡ c.in-Element.low = search rules in
    let high_is : to_z w16 (of_z w16 c.in-Element.high) ≡ c.in-Element.high = search rules in
    let index_is : to_z w16 (of_z w16 c.in_ok-index-in-Element.index) ≡ c.in_ok-index-in-Element.index = search rules in
    let far_is : ◌≡◌ {A = Result ℕ ErrorName} (element_offset c.in-Element.low c.in-Element.high c.in-Element.stride c.in_ok-index-in-Element.index) (Ok c.in_ok-further-in-Element.further) =
    cc (low_is, high_is, index_is, c.element_offset.ensures, c.in_ok-further-in-Element.was {u = tt}) in
    let found = subst (λ k. CanFind (memory_of c.args.permanents.now c.args.room.now) c.args.bindings.now c.args.frame k) c.in-Element.is c.requires in
    let near = not_further c.in-Element.low c.in-Element.high c.in_ok-index-in-Element.index c.in-Element.stride c.in_ok-further-in-Element.further far_is in
    let few = first_few (c.args.frame.component + c.in-Element.first) c.in_ok-further-in-Element.further (unsigned_abs (c.in-Element.high -ℤ c.in-Element.low) * c.in-Element.stride) near found.2.1 in
    omega (arith, few.0)

pub overflow_add-result-in-Element-2 : goal.overflow_add-result-in-Element-2
overflow_add-result-in-Element-2 c =
    let low_is : to_z w16 (of_z w16 c.in-Element.low) ≡ c.in-Element.low = search rules in
    let high_is : to_z w16 (of_z w16 c.in-Element.high) ≡ c.in-Element.high = search rules in
    let index_is : to_z w16 (of_z w16 c.in_ok-index-in-Element.index) ≡ c.in_ok-index-in-Element.index = search rules in
    let far_is : ◌≡◌ {A = Result ℕ ErrorName} (element_offset c.in-Element.low c.in-Element.high c.in-Element.stride c.in_ok-index-in-Element.index) (Ok c.in_ok-further-in-Element.further) =
    cc (low_is, high_is, index_is, c.element_offset.ensures, c.in_ok-further-in-Element.was {u = tt}) in
    let found = subst (λ k. CanFind (memory_of c.args.permanents.now c.args.room.now) c.args.bindings.now c.args.frame k) c.in-Element.is c.requires in
    let near = not_further c.in-Element.low c.in-Element.high c.in_ok-index-in-Element.index c.in-Element.stride c.in_ok-further-in-Element.further far_is in
    let few = first_few (c.args.frame.component + c.in-Element.first) c.in_ok-further-in-Element.further (unsigned_abs (c.in-Element.high -ℤ c.in-Element.low) * c.in-Element.stride) near found.2.1 in
    omega (arith, few.1)

pub returns-in_ok-further-in-Element : goal.returns-in_ok-further-in-Element
returns-in_ok-further-in-Element c =
    let low_is : to_z w16 (of_z w16 c.in-Element.low) ≡ c.in-Element.low = search rules in
    let high_is : to_z w16 (of_z w16 c.in-Element.high) ≡ c.in-Element.high = search rules in
    let index_is : to_z w16 (of_z w16 c.in_ok-index-in-Element.index) ≡ c.in_ok-index-in-Element.index = search rules in
    let far_is : ◌≡◌ {A = Result ℕ ErrorName} (element_offset c.in-Element.low c.in-Element.high c.in-Element.stride c.in_ok-index-in-Element.index) (Ok c.in_ok-further-in-Element.further) =
    cc (low_is, high_is, index_is, c.element_offset.ensures, c.in_ok-further-in-Element.was {u = tt}) in
    let found = subst (λ k. CanFind (memory_of c.args.permanents.now c.args.room.now) c.args.bindings.now c.args.frame k) c.in-Element.is c.requires in
    let near = not_further c.in-Element.low c.in-Element.high c.in_ok-index-in-Element.index c.in-Element.stride c.in_ok-further-in-Element.further far_is in
    let few = first_few (c.args.frame.component + c.in-Element.first) c.in_ok-further-in-Element.further (unsigned_abs (c.in-Element.high -ℤ c.in-Element.low) * c.in-Element.stride) near found.2.1 in
    let value_is : ◌≡◌ {A = Result ℤ ErrorName} (value_at (memory_of c.args.permanents.now c.args.room.now) c.args.frame c.in-Element.index.value) (Ok c.in_ok-index-in-Element.index) =
    cc (c.deref.ensures, c.evaluate.ensures, c.in_ok-index-in-Element.was {u = tt}) in
    let exact : onward (onward c.args.frame.component c.in-Element.first) c.in_ok-further-in-Element.further ≡ c.args.frame.component + c.in-Element.first + c.in_ok-further-in-Element.further =
    both_exact c.args.frame.component c.in-Element.first c.in_ok-further-in-Element.further few.0 few.1 in
    rw c.in-Element.is
    (sym (ap (λ r. then_with r (λ i. then_with (element_offset c.in-Element.low c.in-Element.high c.in-Element.stride i) (λ further. Ok (onward (onward c.args.frame.component c.in-Element.first) further)))) value_is
    ∙ ap (λ r. then_with r (λ further. Ok (onward (onward c.args.frame.component c.in-Element.first) further))) far_is
    ∙ ap Ok exact))
