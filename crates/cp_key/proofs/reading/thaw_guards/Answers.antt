use Rattle.cp_key.proofs.Words.{◌≡◌, ◌∙◌, ◌+◌, ◌<◌, ◌++◌, ap, arith, drop, length, slice_index_or, flat_map, monitor_of, no_monitor, set_each, monitor_key}
use Rattle.cp_key.proofs.Words.{number_key}
use Rattle.std.proofs.lemmas.List.{append_assoc, drop_all, length-set}
use Rattle.cp_key.proofs.Lists.{next_of}
use Rattle.cp_key.proofs.Places.{monitors_seen}
use Rattle.cp_key.proofs.reading.thaw_guards.Goals as goal

pub loop-at-preserved : goal.loop-at-preserved
loop-at-preserved c = λ ms more e count short.
    (let long = length-set c.loop-at.guards c.loop-at.at c.thaw_guard.result in
    let at = c.loop-at.at in
    let old = c.loop-at.invariant ms more e (omega (arith, count, long)) short in
    let here : c.loop-at.at < length c.loop-at.guards = omega arith in
    let lt : c.loop-at.at < length ms = omega (arith, count, long) in
    let got = c.thaw_guard.ensures (slice_index_or ms at no_monitor) (flat_map monitor_key (drop (at + 1) ms) ++ more) (old.1 ∙ next_of monitor_key ms at no_monitor more lt) (short at) in
    (set_each (λ k d g. monitor_of g ≡ slice_index_or ms k no_monitor) c.loop-at.guards at c.thaw_guard.result here (λ d. got.0) (at + 1) (λ k d l ne. old.0 k d (omega arith)), got.1))

pub returns : goal.returns
returns c = λ ms more e count short.
    (let counted = c.thaw.ensures (length ms) (flat_map monitor_key ms ++ more) (e ∙ append_assoc (number_key (length ms)) (flat_map monitor_key ms) more) in
    let all = c.loop-at.invariant ms more counted.1 (omega (arith, count)) short in
    let done = drop_all c.loop-at.at ms (omega (arith, count)) in
    (monitors_seen c.loop-at.guards ms (omega (arith, count)) (λ k d lt. all.0 k d (omega arith)), all.1 ∙ ap (λ us. flat_map monitor_key us ++ more) done))
