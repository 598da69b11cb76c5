use Rattle.std.proofs.Common.{◌∙◌, ◌++◌, length, map, ap, arith, sym, take}
use Rattle.std.proofs.lemmas.List.{length-map, take_all}
use Rattle.cp_machine.specs.Machine.{thread_of}
use Rattle.cp_key.proofs.KnownBodies.{after_body, after_run, bodies_key, run_of, still_more}
use Rattle.cp_key.proofs.Lists.{if_ok}
use Rattle.cp_key.proofs.writing.freeze_bodies.Goals as goal
use Rattle.cp_key.proofs.writing.freeze_bodies.Goals.{then-has+in_ok-freeze_known+in_ok-freeze_body, else-has}

pub freeze_known-requires : goal.freeze_known-requires
freeze_known-requires c =
    let long = length-map c.args.processes.now thread_of in
    let got = run_of c.args.known.now c.args.moved.now (map thread_of c.args.processes.now) c.loop-pid.first c.loop-pid.pid c.requires c.loop-pid.invariant.bound (omega (arith, long)) c.loop-pid.invariant.unmoved in
    (got.0, got.1.run)

pub loop-pid-preserved : goal.loop-pid-preserved
loop-pid-preserved c = elim c.if-has.branch [
  | then-has+in_ok-freeze_known+in_ok-freeze_body w ↦
      let ps = c.args.processes.now in
      let long = length-map ps thread_of in
      let start = c.args.key.now.items in
      let got = run_of c.args.known.now c.args.moved.now (map thread_of ps) c.loop-pid.first c.loop-pid.pid c.requires c.loop-pid.invariant.bound (omega (arith, long)) c.loop-pid.invariant.unmoved in
      let run = after_run (map thread_of ps) c.args.known.now c.loop-pid.first c.loop-pid.pid start c.loop-pid.key.items w.freeze_known.new.key.items got.0 got.1 c.loop-pid.invariant.items (w.in_ok-freeze_known.ensures got.0 got.1.run) in
      let all = after_body ps c.loop-pid.pid w.index-processes-pid.result start w.freeze_known.new.key.items w.freeze_body.new.key.items (omega arith) w.index-processes-pid.is run w.in_ok-freeze_body.ensures in
      record {
        bound = omega (arith, w.first-is);
        items = ap (λ k. k.items) w.key-is ∙ all ∙ ap (λ n. start ++ bodies_key (take n (map thread_of ps))) (sym w.first-is);
        unmoved = λ q a b. absurd (omega (arith, a, b, w.first-is));
      }
  | else-has w ↦
      record {
        bound = omega (arith, w.first-is, c.loop-pid.invariant.bound);
        items = ap (λ k. k.items) w.key-is ∙ c.loop-pid.invariant.items ∙ ap (λ n. c.args.key.now.items ++ bodies_key (take n (map thread_of c.args.processes.now))) (sym w.first-is);
        unmoved = λ q a b. still_more c.args.moved.now c.loop-pid.first c.loop-pid.pid (sym c.has.ensures ∙ w.if-has.false) c.loop-pid.invariant.unmoved q (omega (arith, a, w.first-is)) b;
      }
]

pub freeze_known-requires-2 : goal.freeze_known-requires-2
freeze_known-requires-2 c =
    let long = length-map c.args.processes.now thread_of in
    let got = run_of c.args.known.now c.args.moved.now (map thread_of c.args.processes.now) c.loop-pid.first (length c.args.processes.now) c.requires (omega (arith, c.loop-pid.invariant.bound)) (omega (arith, long)) (λ q a b. c.loop-pid.invariant.unmoved q a (omega (arith, b))) in
    (got.0, got.1.run)

pub returns : goal.returns
returns c =
    let ps = c.args.processes.now in
    let long = length-map ps thread_of in
    let start = c.args.key.now.items in
    let got = run_of c.args.known.now c.args.moved.now (map thread_of ps) c.loop-pid.first (length ps) c.requires (omega (arith, c.loop-pid.invariant.bound)) (omega (arith, long)) (λ q a b. c.loop-pid.invariant.unmoved q a (omega (arith, b))) in
    if_ok c.freeze_known-2.result (λ x h. after_run (map thread_of ps) c.args.known.now c.loop-pid.first (length ps) start c.loop-pid.key.items c.freeze_known-2.new.key.items got.0 got.1 c.loop-pid.invariant.items (h got.0 got.1.run) ∙ ap (λ ts. start ++ bodies_key ts) (take_all (length ps) (map thread_of ps) (omega (arith, long)))) c.freeze_known-2.ensures
