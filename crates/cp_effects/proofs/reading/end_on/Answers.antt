use Rattle.std.proofs.Common.{◌≡◌, ◌∙◌, ◌+◌, ◌-◌, ◌<◌, ℕ, List, arith, drop, length, reverse, sym}
use Rattle.std.specs.Prelude.{slice_index_or}
use Rattle.std.proofs.lemmas.List.{get_or-reverse, get_or_default, length-reverse}
use Rattle.cp_machine.specs.declared.process.Entry.{Entry}
use Rattle.cp_machine.specs.declared.process.Entry.TheVariants.{Rest}
use Rattle.cp_machine.specs.Stack.{from_end}
use Rattle.cp_effects.proofs.Touching.{found_end, headed, passed_over}
use Rattle.cp_effects.proofs.reading.end_on.Goals as goal

-- what stands so far below the topmost entry
below : (es : List Entry) (passed : ℕ) → passed < length es → slice_index_or es (length es - 1 - passed) (Rest 0) ≡ slice_index_or (reverse es) passed (slice_index_or es (length es - 1 - passed) (Rest 0))
below es passed lt = same (slice_index_or es (length es - 1 - passed) (Rest 0))
  where
    same : (d : Entry) → slice_index_or es (length es - 1 - passed) (Rest 0) ≡ slice_index_or (reverse es) passed d
    same d = get_or_default es (length es - 1 - passed) (Rest 0) d (omega (arith, lt)) ∙ sym (get_or-reverse es passed d lt)

pub returns-then-is_end : goal.returns-then-is_end
returns-then-is_end c =
    let es = c.args.stack.now in
    let k = c.loop-passed.passed in
    let e = slice_index_or es (length es - 1 - k) (Rest 0) in
    let lt : k < length es = omega arith in
    let there : k < length (reverse es) = omega (arith, lt, length-reverse es) in
    headed (from_end (reverse es)) (drop (k + 1) (reverse es)) e (sym c.loop-passed.invariant ∙ found_end (reverse es) k e there (below es k lt) (sym c.is_end.ensures ∙ c.if-is_end.true))

pub loop-passed-preserved : goal.loop-passed-preserved
loop-passed-preserved c =
    let es = c.args.stack.now in
    let k = c.loop-passed.passed in
    let e = slice_index_or es (length es - 1 - k) (Rest 0) in
    let lt : k < length es = omega arith in
    let there : k < length (reverse es) = omega (arith, lt, length-reverse es) in
    passed_over (reverse es) k e there (below es k lt) (sym c.is_end.ensures ∙ c.if-is_end.false) ∙ c.loop-passed.invariant
