use Rattle.std.proofs.Common.{◌≡◌, ◌∙◌, refl, subst, sym, ℕ}
use Rattle.std.specs.Prelude.{IfSome}
use Rattle.cp_machine.specs.Machine.{Machine}
use Rattle.cp_parts.proofs.Keeping.{store_on, store_same}
use Rattle.cp_run.specs.declared.outcome.Halt.{Halt}
use Rattle.cp_run.specs.declared.outcome.OutcomeKind.{OutcomeKind}
use Rattle.cp_run.specs.declared.outcome.Turn.{Turn}
use Rattle.cp_stretches.specs.Stretching.{GoesOn, MakesLeg, MayGo, StandsAt, turn_of}
use Rattle.cp_stretches.proofs.Going.{gone_further, gone_nowhere, gone_on, may_go}
use Rattle.cp_stretches.proofs.Knowing.{some_to}
use Rattle.cp_stretches.proofs.cache.LegCache.go.Goals as goal

pub loop-init : goal.loop-init
loop-init c =
    let r = c.args.job.now.program.now in
    let discipline = c.args.job.now.limits.discipline in
    let self = c.args.self.now in
    record {
      cache = c.requires.cache;
      standing = c.requires.standing;
      kept = store_same self.store;
      table = refl;
      goes = λ m stands. gone_nowhere r discipline self.table m c.args.first c.args.job.now.limits.steps c.args.shown.now.items self.store c.args.row.now stands;
    }

pub advance-requires : goal.advance-requires
advance-requires c =
    let r = c.args.job.now.program.now in
    let discipline = c.args.job.now.limits.discipline in
    let self = c.loop.self in
    let m = c.requires.row.0 in
    let g = c.loop.invariant.goes m c.requires.row.1 in
    record {
      cache = c.loop.invariant.cache;
      standing = c.loop.invariant.standing;
      row = (g.after, may_go r discipline self.table m c.args.first c.args.job.now.limits.steps c.args.shown.now.items self.store c.loop.turn c.loop.left c.loop.row c.loop.shown.items c.in-Goes.pid g c.in-Goes.is);
    }

pub loop-preserved : goal.loop-preserved
loop-preserved c =
    let r = c.args.job.now.program.now in
    let discipline = c.args.job.now.limits.discipline in
    let old = c.loop.self in
    let new = c.advance.new.self in
    let q = c.in-Goes.pid in
    let next = c.in-Some.next in
    let table : new.table ≡ old.table = c.advance.ensures.table in
    record {
      cache = c.in_ok-next.ensures.cache;
      standing = c.in_ok-next.ensures.standing;
      kept = store_on c.args.self.now.store old.store new.store c.loop.invariant.kept c.advance.ensures.kept;
      table = table ∙ c.loop.invariant.table;
      goes = λ m stands.
          (let g = c.loop.invariant.goes m stands in
          let makes = subst (λ o. IfSome o (λ (turn : Turn). (n : Machine) → MayGo r discipline old.store old.table n c.loop.row q → MakesLeg r discipline new.store new.table n q c.loop.left c.loop.shown.items turn c.advance.new.left c.advance.new.row c.advance.new.shown.items)) c.in-Some.is c.in_ok-next.ensures.makes in
          gone_further r discipline new.table m c.args.first c.args.job.now.limits.steps c.args.shown.now.items old.store new.store c.loop.turn next c.loop.left c.advance.new.left c.loop.row c.advance.new.row c.loop.shown.items c.advance.new.shown.items q
          (subst (λ t. GoesOn r discipline old.store t m c.args.first c.args.job.now.limits.steps c.args.shown.now.items c.loop.turn c.loop.left c.loop.row c.loop.shown.items) (sym table) g) c.in-Goes.is
          (λ n there. (let may = subst (λ t. MayGo r discipline old.store t n c.loop.row q) table there in gone_on r discipline old.store new.store old.table new.table n c.loop.row c.advance.new.row q c.loop.left c.advance.new.left c.loop.shown.items c.advance.new.shown.items next c.loop.invariant.cache.sound may (makes n may))));
    }

pub returns-clause-goes : goal.returns-clause-goes
returns-clause-goes c =
    let r = c.args.job.now.program.now in
    let discipline = c.args.job.now.limits.discipline in
    let self = c.loop.self in
    let first = c.args.first in
    let steps = c.args.job.now.limits.steps in
    let before = c.args.shown.now.items in
    some_to c.halt_of.result
    (λ (halt : Halt OutcomeKind). c.loop.turn ≡ turn_of halt)
    (λ (halt : Halt OutcomeKind). (m : Machine) → StandsAt r discipline c.args.self.now.store c.args.self.now.table m first c.args.row.now → (rest : ℕ) × GoesOn r discipline self.store self.table m first steps before (turn_of halt) rest c.loop.row c.loop.shown.items)
    (λ halt is m stands. (c.loop.left, subst (λ turn. GoesOn r discipline self.store self.table m first steps before turn c.loop.left c.loop.row c.loop.shown.items) is (c.loop.invariant.goes m stands)))
    c.halt_of.ensures

pub returns-in_err-next-clause-kept : goal.returns-in_err-next-clause-kept
returns-in_err-next-clause-kept c = store_on c.args.self.now.store c.loop.self.store c.advance.new.self.store c.loop.invariant.kept c.advance.ensures.kept

pub returns-in_default-2-clause-kept : goal.returns-in_default-2-clause-kept
returns-in_default-2-clause-kept c = store_on c.args.self.now.store c.loop.self.store c.advance.new.self.store c.loop.invariant.kept c.advance.ensures.kept
