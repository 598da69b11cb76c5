use Rattle.std.proofs.Common.{rules, ◌≡◌, ◌≤◌, ◌<◌, ◌+◌, ◌-◌, ◌^◌, ◌∙◌, ◌∷◌, ℕ, true, [], refl, sym, ap, subst, arith, length, take, take_all, get_or, IfOk}
use Rattle.std.specs.Prelude.{sum_by}
use Rattle.cp_machine.specs.System.{machine_of}
use Rattle.cp_key.specs.Key.{core_key}
use Rattle.cp_run.specs.Code.{node_of}
use Rattle.cp_run.specs.Run.{those_below, Halted, Choosing, may, chosen}
use Rattle.cp_merged.proofs.Choosing.{may_those}
use Rattle.cp_ways.proofs.Given.{Outcome, Machine, slots, walk}
use Rattle.cp_ways.specs.Ways.{since}
use Rattle.cp_ways.specs.Weights.{after, total, weight, weight_of, Adds, AreKnown, IsKnown, WeighAs}
use Rattle.cp_ways.proofs.Counted.{choice_later, choice_more, choice_small, choices_all, limit_one, limit_told, ok_as, over_one, over_told, remembered, weigh_total}
use Rattle.cp_ways.proofs.Remembered.{known_ways}
use Rattle.cp_ways.proofs.counting.Counting.+add_ways.Goals as goal

-- ---- one choice

pub add_choice-add_end-requires : goal.add_choice-add_end-requires
add_choice-add_end-requires t c =
    let sys = slots c.args.job.now.program.now c.args.job.now.limits.discipline in
    let steps = c.args.job.now.limits.steps in
    let next = machine_of c.choose-halt.new.state in
    let node = ap (λ m. chosen sys steps m c.args.process) (sym c.in_ok-next.ensures.same) ∙ c.choose-halt.ensures.node ∙ ap (λ h. node_of h next) c.in-Ended.is in
    let one = over_one sys steps c.args.left (chosen sys steps (machine_of c.args.state.now) c.args.process) c.in-Ended.kind next node in
    let small = c.requires.small in
    record { small = omega (arith, one, small) }

pub add_choice-returns-in-Ended-clause-added : goal.add_choice-returns-in-Ended-clause-added
add_choice-returns-in-Ended-clause-added t c = λ f.
    (let sys = slots c.args.job.now.program.now c.args.job.now.limits.discipline in
    let steps = c.args.job.now.limits.steps in
    let s = machine_of c.args.state.now in
    let next = machine_of c.choose-halt.new.state in
    let node = ap (λ m. chosen sys steps m c.args.process) (sym c.in_ok-next.ensures.same) ∙ c.choose-halt.ensures.node ∙ ap (λ h. node_of h next) c.in-Ended.is in
    c.in_ok-add_end-in-Ended.ensures.added f
    ∙ ap (λ n. weight f c.args.ways.now.list.entries + n) (sym (over_told sys steps c.args.left (chosen sys steps s c.args.process) c.in-Ended.kind (length s.output) next c.shown_since-shown.result.now f node c.shown_since-shown.ensures)))

pub add_choice-returns-clause-added : goal.add_choice-returns-clause-added
add_choice-returns-clause-added t c =
    let r = c.args.job.now.program.now in
    let discipline = c.args.job.now.limits.discipline in
    let sys = slots r discipline in
    let steps = c.args.job.now.limits.steps in
    let s = machine_of c.args.state.now in
    let next = machine_of c.choose-halt.new.state in
    let shown = c.shown_since-shown.result.now in
    let old = c.args.ways.now.list.entries in
    let new = c.add_ways.new.sum.list.entries in
    let node = ap (λ m. chosen sys steps m c.args.process) (sym c.in_ok-next.ensures.same) ∙ c.choose-halt.ensures.node ∙ ap (λ h. node_of h next) c.in-Choice.is in
    ok_as c.add_ways.result (λ _. Adds (λ o. after shown (since (length next.output) o)) (walk sys steps c.args.left (Choosing next)) old new) (λ _. Adds (since (length s.output)) (walk sys steps c.args.left (chosen sys steps s c.args.process)) old new) c.add_ways.ensures.added (λ _ h f. h f ∙ ap (λ n. weight f old + n) (choice_later r discipline steps c.args.left s next c.args.process shown f node c.shown_since-shown.ensures))

-- ---- all choices of a state

pub count-loop-process-init : goal.count-loop-process-init
count-loop-process-init t c =
    record {
      known = c.requires.known;
      ways = λ f. ap (weight f) c.new-ways.ensures;
    }

pub count-add_choice-requires : goal.count-add_choice-requires
count-add_choice-requires t c =
    let sys = slots c.args.job.now.program.now c.args.job.now.limits.discipline in
    let steps = c.args.job.now.limits.steps in
    let s = machine_of c.args.state.now in
    let i = c.loop-process.process-index in
    let all = c.as_slice-process-items.result.now in
    let p = get_or all i 0 in
    let listed : all ≡ those_below sys.processes (may sys s) = c.as_slice-process-items.ensures.value ∙ c.candidates-numbers.ensures in
    let lt : i < length all = omega arith in
    let on : may sys s p ≡ true = may_those sys s all listed i lt in
    let within = choice_small sys steps c.args.left s all i c.loop-process.ways.list.entries listed lt (c.loop-process.invariant.ways (λ _. 1)) in
    let small = c.requires.small in
    let fits : total c.loop-process.ways.list.entries + length (walk sys steps c.args.left (chosen sys steps s p)) < 10 ^ 126 = omega (arith, within, small) in
    search (rules, on, fits)

pub count-loop-process-preserved : goal.count-loop-process-preserved
count-loop-process-preserved t c =
    let sys = slots c.args.job.now.program.now c.args.job.now.limits.discipline in
    let steps = c.args.job.now.limits.steps in
    let s = machine_of c.args.state.now in
    let i = c.loop-process.process-index in
    let all = c.as_slice-process-items.result.now in
    let lt : i < length all = omega arith in
    record {
      known = c.add_choice.ensures.known;
      ways = λ f.
          (let h : Outcome → ℕ = λ o. f (since (length s.output) o) in
          c.in_ok-add_choice.ensures.added f
          ∙ ap (λ n. n + weight_of h (walk sys steps c.args.left (chosen sys steps s (get_or all i 0)))) (c.loop-process.invariant.ways f)
          ∙ sym (choice_more sys steps h c.args.left s all i lt));
    }

pub count-returns : goal.count-returns
count-returns t c =
    let sys = slots c.args.job.now.program.now c.args.job.now.limits.discipline in
    let steps = c.args.job.now.limits.steps in
    let s = machine_of c.args.state.now in
    let i = c.loop-process.process-index in
    let all = c.as_slice-process-items.result.now in
    let listed : all ≡ those_below sys.processes (may sys s) = c.as_slice-process-items.ensures.value ∙ c.candidates-numbers.ensures in
    let whole : take i all ≡ all = take_all i all (omega arith) in
    record {
      known = c.loop-process.invariant.known;
      ways = λ f.
          (let h : Outcome → ℕ = λ o. f (since (length s.output) o) in
          c.loop-process.invariant.ways f
          ∙ ap (sum_by (λ p. weight_of h (walk sys steps c.args.left (chosen sys steps s p)))) whole
          ∙ choices_all sys steps h c.args.left s all listed);
    }

-- ---- a state

pub add_ways-add_end-requires : goal.add_ways-add_end-requires
add_ways-add_end-requires t c =
    let sys = slots c.args.job.now.program.now c.args.job.now.limits.discipline in
    let none : c.args.left ≡ 0 = omega arith in
    let one = limit_one sys c.args.job.now.limits.steps c.args.left (machine_of c.args.state.now) none in
    let small = c.requires.small in
    record { small = omega (arith, one, small) }

pub add_ways-returns-then-left-eq0-clause-added : goal.add_ways-returns-then-left-eq0-clause-added
add_ways-returns-then-left-eq0-clause-added t c = λ f.
    (let sys = slots c.args.job.now.program.now c.args.job.now.limits.discipline in
    let none : c.args.left ≡ 0 = omega arith in
    c.in_ok-add_end.ensures.added f
    ∙ ap (λ n. weight f c.args.sum.now.list.entries + n) (sym (limit_told sys c.args.job.now.limits.steps c.args.left (machine_of c.args.state.now) c.args.shown.now f none)))

pub add_ways-add_behind-requires : goal.add_ways-add_behind-requires
add_ways-add_behind-requires t c =
    let r = c.args.job.now.program.now in
    let discipline = c.args.job.now.limits.discipline in
    let steps = c.args.job.now.limits.steps in
    let s = machine_of c.args.state.now in
    let ways = c.in-Some.ways.now in
    let h = known_ways r discipline steps c.args.left s c.args.self.now.known.entries c.in_ok-key.key.bytes.items ways c.requires.known c.in_ok-key.ensures (sym c.in-Some.ensures.value) in
    let count = weigh_total (since (length s.output)) (walk (slots r discipline) steps c.args.left (Choosing s)) ways.list.entries h in
    let small = c.requires.small in
    record { small = omega (arith, count, small) }

pub add_ways-returns-in-Some-clause-added : goal.add_ways-returns-in-Some-clause-added
add_ways-returns-in-Some-clause-added t c = λ f.
    (let r = c.args.job.now.program.now in
    let discipline = c.args.job.now.limits.discipline in
    let steps = c.args.job.now.limits.steps in
    let s = machine_of c.args.state.now in
    let h = known_ways r discipline steps c.args.left s c.args.self.now.known.entries c.in_ok-key.key.bytes.items c.in-Some.ways.now c.requires.known c.in_ok-key.ensures (sym c.in-Some.ensures.value) in
    c.in_ok-add_behind.ensures.added f
    ∙ ap (λ n. weight f c.args.sum.now.list.entries + n) (h (λ o. f (after c.args.shown.now o))))

pub add_ways-add_behind-requires-2 : goal.add_ways-add_behind-requires-2
add_ways-add_behind-requires-2 t c =
    let sys = slots c.args.job.now.program.now c.args.job.now.limits.discipline in
    let steps = c.args.job.now.limits.steps in
    let s = machine_of c.args.state.now in
    let ways = c.in_ok-ways.ways.list.entries in
    let whole : c.args.left - 1 + 1 ≡ c.args.left = omega arith in
    let h = subst (λ k. WeighAs (since (length s.output)) (walk sys steps k (Choosing s)) ways) whole c.in_ok-ways.ensures.ways in
    let count = weigh_total (since (length s.output)) (walk sys steps c.args.left (Choosing s)) ways h in
    let small = c.requires.small in
    record { small = omega (arith, count, small) }

pub add_ways-returns-clause-known : goal.add_ways-returns-clause-known
add_ways-returns-clause-known t c =
    let sys = slots c.args.job.now.program.now c.args.job.now.limits.discipline in
    let steps = c.args.job.now.limits.steps in
    let s = machine_of c.args.state.now in
    let ways = c.in_ok-ways.ways in
    let key = c.in_ok-key.key in
    let whole : c.args.left - 1 + 1 ≡ c.args.left = omega arith in
    let h : WeighAs (since (length s.output)) (walk sys steps c.args.left (Choosing s)) ways.list.entries = subst (λ k. WeighAs (since (length s.output)) (walk sys steps k (Choosing s)) ways.list.entries) whole c.in_ok-ways.ensures.ways in
    let is : IsKnown sys steps (key, ways) = record { state = s; left = c.args.left; key = c.in_ok-key.ensures; ways = h } in
    remembered sys steps c.count.new.self.known.entries c.remember.new.self.known.entries key ways c.count.ensures.known is c.remember.ensures.known

pub add_ways-returns-in_err-remember-clause-known : goal.add_ways-returns-in_err-remember-clause-known
add_ways-returns-in_err-remember-clause-known t c =
    let sys = slots c.args.job.now.program.now c.args.job.now.limits.discipline in
    let steps = c.args.job.now.limits.steps in
    let s = machine_of c.args.state.now in
    let ways = c.in_ok-ways.ways in
    let key = c.in_ok-key.key in
    let whole : c.args.left - 1 + 1 ≡ c.args.left = omega arith in
    let h : WeighAs (since (length s.output)) (walk sys steps c.args.left (Choosing s)) ways.list.entries = subst (λ k. WeighAs (since (length s.output)) (walk sys steps k (Choosing s)) ways.list.entries) whole c.in_ok-ways.ensures.ways in
    let is : IsKnown sys steps (key, ways) = record { state = s; left = c.args.left; key = c.in_ok-key.ensures; ways = h } in
    remembered sys steps c.count.new.self.known.entries c.remember.new.self.known.entries key ways c.count.ensures.known is c.remember.ensures.known
