use Rattle.std.proofs.Common.{◌≡◌, ◌∙◌, List, ap, refl, subst, sym, ℕ}
use Rattle.std.specs.Prelude.{IfSome}
use Rattle.cp_parts.proofs.Keeping.{store_on, store_same}
use Rattle.cp_machine.specs.declared.shown.Shown.{Shown}
use Rattle.cp_run.specs.declared.outcome.Halt.{Halt}
use Rattle.cp_run.specs.declared.outcome.OutcomeKind.{OutcomeKind}
use Rattle.cp_run.specs.declared.outcome.Turn.{Turn}
use Rattle.cp_run.specs.declared.outcome.Turn.TheVariants.{Goes}
use Rattle.cp_stretches.specs.Stretching.{GoesOn, MakesLeg, MayGo, StandsAt, turn_of}
use Rattle.cp_stretches.proofs.Going.{gone_further, gone_nowhere, gone_on, may_go}
use Rattle.cp_stretches.proofs.Growing.{can_read}
use Rattle.cp_stretches.proofs.Knowing.{some_to}
use Rattle.cp_endless_laws.specs.Moments.{moments_by, stretch_moments}
use Rattle.cp_ends.specs.Legs.{moment_at}
use Rattle.cp_ends.proofs.Vocabulary.{Machine, silent_slots, without_output}
use Rattle.cp_ends.proofs.Seen.{SeenTo, seen_further, seen_nowhere, seen_whole, to_go}
use Rattle.cp_ends.proofs.seeing.follow_legs.Goals as goal

pub loop-init : goal.loop-init
loop-init g c =
    let r = c.args.job.now.program.now in
    let discipline = c.args.job.now.limits.discipline in
    let steps = c.args.job.now.limits.steps in
    let cache = c.args.cache.now in
    record {
      cache = c.requires.cache;
      standing = c.requires.standing;
      kept = store_same cache.store;
      table = refl;
      again = refl;
      goes = λ m stands. gone_nowhere r discipline cache.table m c.args.first steps c.args.told.now.values.items cache.store c.args.row.now stands;
      sees = λ m due stands seen. seen_nowhere r discipline (λ w. g.P.Sight.sees w r discipline) (λ w. g.met.P.Sight.alike w r discipline) cache.table steps m c.args.first due cache.store c.args.told.now.seen c.args.row.now stands seen;
    }

pub advance-requires : goal.advance-requires
advance-requires g c =
    let r = c.args.job.now.program.now in
    let discipline = c.args.job.now.limits.discipline in
    let cache = c.loop.cache in
    let m = c.requires.row.0 in
    let goes = c.loop.invariant.goes m c.requires.row.1 in
    record {
      cache = c.loop.invariant.cache;
      standing = c.loop.invariant.standing;
      row = (goes.after, may_go r discipline cache.table m c.args.first c.args.job.now.limits.steps c.args.told.now.values.items cache.store c.loop.turn c.loop.left c.loop.row c.loop.told.values.items c.in-Goes.pid goes c.in-Goes.is);
    }

pub see_next-requires : goal.see_next-requires
see_next-requires g c =
    let r = c.args.job.now.program.now in
    let discipline = c.args.job.now.limits.discipline in
    let old = c.loop.cache in
    let new = c.advance.new.self in
    let q = c.in-Goes.pid in
    let m = c.requires.row.0 in
    let goes = c.loop.invariant.goes m c.requires.row.1 in
    let makes = subst (λ o. IfSome o (λ (turn : Turn). (n : Machine) → MayGo r discipline old.store old.table n c.loop.row q → MakesLeg r discipline new.store new.table n q c.loop.left c.loop.told.values.items turn c.advance.new.left c.advance.new.row c.advance.new.shown.items)) c.in-Some.is c.in_ok-next.ensures.makes in
    let made = makes goes.after (may_go r discipline old.table m c.args.first c.args.job.now.limits.steps c.args.told.now.values.items old.store c.loop.turn c.loop.left c.loop.row c.loop.told.values.items q goes c.in-Goes.is) in
    (r, without_output made.last.machine, can_read r discipline new (without_output made.last.machine) c.advance.new.row c.in_ok-next.ensures.cache made.stands.machine)

pub loop-preserved : goal.loop-preserved
loop-preserved g c =
    let r = c.args.job.now.program.now in
    let discipline = c.args.job.now.limits.discipline in
    let steps = c.args.job.now.limits.steps in
    let first = c.args.first in
    let old = c.loop.cache in
    let new = c.advance.new.self in
    let row = c.loop.row in
    let after = c.advance.new.row in
    let turn = c.loop.turn in
    let left = c.loop.left in
    let rest = c.advance.new.left in
    let told = c.loop.told in
    let shown = c.advance.new.shown.items in
    let seen_now = c.see_next.new.self in
    let q = c.in-Goes.pid in
    let next = c.in-Some.next in
    let table : new.table ≡ old.table = c.advance.ensures.table in
    let sound = c.loop.invariant.cache.sound in
    let before = c.args.told.now.values.items in
    let values : seen_now.values.items ≡ shown = ap (λ v. v.items) c.see_next.ensures.values in
    let makes = subst (λ o. IfSome o (λ (turn : Turn). (n : Machine) → MayGo r discipline old.store old.table n row q → MakesLeg r discipline new.store new.table n q left told.values.items turn rest after shown)) c.in-Some.is c.in_ok-next.ensures.makes in
    let made_by = λ (n : Machine) (there : MayGo r discipline old.store new.table n row q). makes n (subst (λ t. MayGo r discipline old.store t n row q) table there) in
    record {
      cache = c.in_ok-next.ensures.cache;
      standing = c.in_ok-next.ensures.standing;
      kept = store_on c.args.cache.now.store old.store new.store c.loop.invariant.kept c.advance.ensures.kept;
      table = table ∙ c.loop.invariant.table;
      again = c.see_next.ensures.again ∙ c.loop.invariant.again;
      goes = λ m stands.
          (let to = subst (λ t. GoesOn r discipline old.store t m first steps before turn left row told.values.items) (sym table) (c.loop.invariant.goes m stands) in
          subst (λ (l : List Shown). GoesOn r discipline new.store new.table m first steps before next rest after l) (sym values)
          (gone_further r discipline new.table m first steps before old.store new.store turn next left rest row after told.values.items shown q to c.in-Goes.is
          (λ n there. gone_on r discipline old.store new.store new.table new.table n row after q left rest told.values.items shown next sound there (made_by n there))));
      sees = λ m due stands seen.
          (let x = subst (λ t. SeenTo r discipline (λ w. g.P.Sight.sees w r discipline) (λ w. g.met.P.Sight.alike w r discipline) t steps m first due old.store told.seen turn left row) (sym table) (c.loop.invariant.sees m due stands seen) in
          let made = made_by x.after (to_go r discipline (λ w. g.P.Sight.sees w r discipline) (λ w. g.met.P.Sight.alike w r discipline) new.table steps m first due old.store told.seen turn left row q x c.in-Goes.is) in
          let there = without_output made.last.machine in
          seen_further r discipline (λ w. g.P.Sight.sees w r discipline) (λ w. g.met.P.Sight.alike w r discipline) new.table steps m first due old.store new.store told.seen seen_now.seen turn next left rest row after q told.values.items shown sound x c.in-Goes.is made
          (λ ms sees. c.see_next.ensures.sees r discipline due ms there (can_read r discipline new there after c.in_ok-next.ensures.cache made.stands.machine) sees));
    }

pub returns-clause-goes : goal.returns-clause-goes
returns-clause-goes g c =
    let r = c.args.job.now.program.now in
    let discipline = c.args.job.now.limits.discipline in
    let cache = c.loop.cache in
    let first = c.args.first in
    let steps = c.args.job.now.limits.steps in
    let before = c.args.told.now.values.items in
    some_to c.halt_of.result
    (λ (halt : Halt OutcomeKind). c.loop.turn ≡ turn_of halt)
    (λ (halt : Halt OutcomeKind). (m : Machine) → StandsAt r discipline c.args.cache.now.store c.args.cache.now.table m first c.args.row.now → (rest : ℕ) × GoesOn r discipline cache.store cache.table m first steps before (turn_of halt) rest c.loop.row c.loop.told.values.items)
    (λ halt is m stands. (c.loop.left, subst (λ turn. GoesOn r discipline cache.store cache.table m first steps before turn c.loop.left c.loop.row c.loop.told.values.items) is (c.loop.invariant.goes m stands)))
    c.halt_of.ensures

pub returns-clause-sees : goal.returns-clause-sees
returns-clause-sees g c =
    let r = c.args.job.now.program.now in
    let discipline = c.args.job.now.limits.discipline in
    let cache = c.loop.cache in
    let first = c.args.first in
    let steps = c.args.job.now.limits.steps in
    some_to c.halt_of.result
    (λ (halt : Halt OutcomeKind). c.loop.turn ≡ turn_of halt)
    (λ (halt : Halt OutcomeKind). (m : Machine) (due : List Machine) → StandsAt r discipline c.args.cache.now.store c.args.cache.now.table m first c.args.row.now → g.P.Sight.sees c.args.told.now.seen r discipline due (moment_at m first) → g.P.Sight.sees c.loop.told.seen r discipline due (moments_by (stretch_moments (silent_slots r discipline) steps m) first))
    (λ halt is m due stands seen. seen_whole r discipline (λ w. g.P.Sight.sees w r discipline) (λ w. g.met.P.Sight.alike w r discipline) cache.table steps m first due cache.store c.loop.told.seen c.loop.turn c.loop.left c.loop.row halt is (c.loop.invariant.sees m due stands seen))
    c.halt_of.ensures

pub returns-in_err-next-clause-kept : goal.returns-in_err-next-clause-kept
returns-in_err-next-clause-kept g c = store_on c.args.cache.now.store c.loop.cache.store c.advance.new.self.store c.loop.invariant.kept c.advance.ensures.kept

pub returns-in_default-2-clause-kept : goal.returns-in_default-2-clause-kept
returns-in_default-2-clause-kept g c = store_on c.args.cache.now.store c.loop.cache.store c.advance.new.self.store c.loop.invariant.kept c.advance.ensures.kept
