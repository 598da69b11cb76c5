use Rattle.std.proofs.Common.{◌≡◌, Ok, Result, ℤ, arith, of_z, rules, to_z, unsigned_abs, w16}
use Rattle.std.specs.Prelude.{◌-ℤ◌}
use Rattle.cp_store.specs.declared.error.ErrorName.{ErrorName}
use Rattle.cp_store.specs.Values.{check_range}
use Rattle.cp_store.proofs.Reaches.{distance_is, nearer}
use Rattle.cp_store.proofs.evaluation.element_offset.Goals as goal

pub returns : goal.returns
returns c =
    let low_is : to_z w16 (of_z w16 c.args.low) ≡ c.args.low = search rules in
    let high_is : to_z w16 (of_z w16 c.args.high) ≡ c.args.high = search rules in
    let index_is : to_z w16 (of_z w16 c.args.index) ≡ c.args.index = search rules in
    let value_is : to_z w16 (of_z w16 c.in_ok-index.index) ≡ c.in_ok-index.index = search rules in
    let ranged_is : ◌≡◌ {A = Result ℤ ErrorName} (check_range c.args.low c.args.high c.args.index) (Ok c.in_ok-index.index) =
    cc (low_is, high_is, index_is, c.check_range.ensures, c.in_ok-index.was {u = tt}) in
    let elements_are : c.abs_diff-elements.result ≡ unsigned_abs (c.in_ok-index.index -ℤ c.args.low) = cc (low_is, value_is, c.abs_diff-elements.ensures) in
    let near = nearer c.args.low c.args.high c.args.index c.in_ok-index.index c.args.size ranged_is in
    distance_is c.args.low c.args.high c.args.index c.in_ok-index.index c.args.size c.abs_diff-elements.result ranged_is elements_are (rw elements_are (omega (arith, near, c.requires)))

pub overflow_mul-result : goal.overflow_mul-result
overflow_mul-result c =
    let low_is : to_z w16 (of_z w16 c.args.low) ≡ c.args.low = search rules in
    let high_is : to_z w16 (of_z w16 c.args.high) ≡ c.args.high = search rules in
    let index_is : to_z w16 (of_z w16 c.args.index) ≡ c.args.index = search rules in
    let value_is : to_z w16 (of_z w16 c.in_ok-index.index) ≡ c.in_ok-index.index = search rules in
    let ranged_is : ◌≡◌ {A = Result ℤ ErrorName} (check_range c.args.low c.args.high c.args.index) (Ok c.in_ok-index.index) =
    cc (low_is, high_is, index_is, c.check_range.ensures, c.in_ok-index.was {u = tt}) in
    let elements_are : c.abs_diff-elements.result ≡ unsigned_abs (c.in_ok-index.index -ℤ c.args.low) = cc (low_is, value_is, c.abs_diff-elements.ensures) in
    let near = nearer c.args.low c.args.high c.args.index c.in_ok-index.index c.args.size ranged_is in
    rw elements_are (omega (arith, near, c.requires))
