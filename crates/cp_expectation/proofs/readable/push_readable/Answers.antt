use Rattle.std.proofs.Common.{◌+◌, ◌-◌, ap, subst, arith}
use Rattle.std.specs.String.{string_bytes}
use Rattle.cp_expectation.specs.Readable.{ShowsFront}
use Rattle.cp_expectation.proofs.Fronts.{front_more, all_shown, rest_of, shown_moved}
use Rattle.cp_expectation.proofs.readable.push_readable.Goals as goal
use Rattle.cp_expectation.proofs.readable.push_readable.Goals.{then-left-eq0+in_ok-left, else-left-eq0}

pub loop-at-preserved : goal.loop-at-preserved
loop-at-preserved c =
    let bytes = c.args.bytes.now in
    let at = c.loop-at.at in
    let old = string_bytes c.args.text.now in
    elim c.if-left-eq0.branch [
      | then-left-eq0+in_ok-left w ↦
          let n = w.in_ok-left.left in
          let new = string_bytes w.push_front.new.text in
          let shows = subst (λ l. ShowsFront l n (string_bytes c.loop-at.text) new) (rest_of bytes at) w.in_ok-left.ensures in
          shown_moved bytes (at + n) (at + 1 + (c.if-left-eq0.left - 1)) old new (string_bytes c.if-left-eq0.text) (omega (arith, w.left-is, w.in_ok-left.ensures.1)) (ap (λ s. string_bytes s) w.text-is) (front_more bytes at c.loop-at.left n (at + n) old (string_bytes c.loop-at.text) new w.if-left-eq0.true (omega arith) c.loop-at.invariant shows)
      | else-left-eq0 w ↦
          shown_moved bytes (at + c.loop-at.left) (at + 1 + (c.if-left-eq0.left - 1)) old (string_bytes c.loop-at.text) (string_bytes c.if-left-eq0.text) (omega (arith, w.left-is, w.if-left-eq0.false)) (ap (λ s. string_bytes s) w.text-is) c.loop-at.invariant
    ]

pub returns : goal.returns
returns c = all_shown c.args.bytes.now _ (string_bytes c.args.text.now) (string_bytes c.loop-at.text) (omega arith) c.loop-at.invariant
