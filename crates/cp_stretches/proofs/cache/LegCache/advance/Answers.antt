use Rattle.std.proofs.Common.{◌≡◌, ◌+◌, ◌-◌, ◌<◌, List, arith, length, subst, sym}
use Rattle.std.specs.Prelude.{IfSome}
use Rattle.std.proofs.lemmas.List.Elements.{All-weaker}
use Rattle.cp_machine.specs.declared.shown.Shown.{Shown}
use Rattle.cp_run.specs.declared.outcome.Turn.TheVariants.{Goes}
use Rattle.cp_effects.specs.declared.changes.Write.{Write}
use Rattle.cp_effects.specs.declared.table.KnownLeg.{KnownLeg}
use Rattle.cp_effects.specs.Changes.{written}
use Rattle.cp_effects.specs.Known.{writes_of}
use Rattle.cp_stretches.specs.Numbers.{CanRead}
use Rattle.cp_stretches.specs.Stretching.{MakesLeg, MayGo}
use Rattle.cp_stretches.specs.Telling.{IsTold}
use Rattle.cp_stretches.proofs.Going.{after, makes_leg, not_local, stands_after}
use Rattle.cp_stretches.proofs.Growing.{can_read, stands_at_on}
use Rattle.cp_stretches.proofs.Knowing.{row_long}
use Rattle.cp_stretches.proofs.cache.LegCache.advance.Goals as goal

pub pass-requires : goal.pass-requires
pass-requires c =
    let r = c.args.job.now.program.now in
    let discipline = c.args.job.now.limits.discipline in
    let self = c.leg.new.self in
    let row = c.args.row.now in
    let known = c.in-Some.known in
    let told : IsTold self.store self.table r discipline self.legs.effects row c.args.pid known = subst (λ o. IfSome o (λ (e : KnownLeg). IsTold self.store self.table r discipline self.legs.effects row c.args.pid e)) c.in-Some.is c.in_ok-known.ensures.told in
    let long : length row ≡ self.table.processes + 1 + (self.table.processes + self.table.monitors) =
    subst (λ t. length row ≡ t.processes + 1 + (t.processes + t.monitors)) (sym c.leg.ensures.table) (row_long r discipline c.args.self.now c.requires.row.0 row c.args.pid c.requires.cache c.requires.row.1) in
    record {
      long = omega (arith, long);
      rising = told.rising;
      within = told.within;
      inside = All-weaker (λ (w : Write). w.position < self.table.processes + 1 + (self.table.processes + self.table.monitors)) (λ (w : Write). w.position < length row) (λ w lt. subst (λ n. w.position < n) (sym long) lt) (writes_of self.legs.effects.writes.items known) told.inside;
    }

pub returns-clause-makes : goal.returns-clause-makes
returns-clause-makes c = λ m may.
    (let r = c.args.job.now.program.now in
    let discipline = c.args.job.now.limits.discipline in
    let old = c.args.self.now in
    let self = c.leg.new.self in
    let s = self.store in
    let t = self.table in
    let row = c.args.row.now in
    let pid = c.args.pid in
    let known = c.in-Some.known in
    let cache = c.in_ok-known.ensures.cache in
    let told : IsTold s t r discipline self.legs.effects row pid known = subst (λ o. IfSome o (λ (e : KnownLeg). IsTold s t r discipline self.legs.effects row pid e)) c.in-Some.is c.in_ok-known.ensures.told in
    let may_now : MayGo r discipline s t m row pid = subst (λ u. MayGo r discipline s u m row pid) (sym c.leg.ensures.table) (stands_at_on old.store s c.leg.ensures.kept r discipline old.table m (Goes pid) row may) in
    let new = written (writes_of self.legs.effects.writes.items known) row in
    let there = after r discipline s t m row pid self.legs.effects known cache.sound may_now told in
    let stands = stands_after r discipline s t m row pid self.legs.effects known cache.sound may_now told in
    let told_by = not_local r discipline s t m row pid self.legs.effects known cache.sound may_now told in
    let shows = c.in_ok-turn.ensures.shown in
    let written_row = c.pass.ensures.row in
    let read : CanRead r s t self.numbers there c.pass.new.row = subst (CanRead r s t self.numbers there) (sym written_row) (can_read r discipline self there new cache stands) in
    let left = c.args.left.now in
    let some : known.leg.steps + (left - known.leg.steps) ≡ left = omega arith in
    let on = makes_leg r discipline s t m row pid self.legs.effects known cache.sound may_now told left (left - known.leg.steps) c.args.shown.now.items c.in_ok-turn.turn some (c.in_ok-turn.ensures.turn r s there discipline read told_by) in
    subst (λ xs. MakesLeg r discipline s t m pid left c.args.shown.now.items c.in_ok-turn.turn (left - known.leg.steps) xs c.pass.new.shown.items) (sym written_row)
    (subst (λ (ys : List Shown). MakesLeg r discipline s t m pid left c.args.shown.now.items c.in_ok-turn.turn (left - known.leg.steps) new ys) (sym shows) on))
