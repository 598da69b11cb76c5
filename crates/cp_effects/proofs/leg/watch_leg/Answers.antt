use Rattle.std.proofs.Common.{◌≡◌, ◌∙◌, false, subst, sym, true}
use Rattle.cp_machine.specs.declared.event.Event.{Event}
use Rattle.cp_machine.specs.Machine.{Machine, is_pending, is_ready, machine_of}
use Rattle.cp_effect_laws.specs.Effects.{LegWithin}
use Rattle.cp_effect_laws.specs.Parts.{status_at}
use Rattle.cp_parts.specs.Placed.{places_of}
use Rattle.cp_effects.specs.Touching.{noted_by}
use Rattle.cp_effects.specs.Watching.{IsStepWithin}
use Rattle.cp_effects.proofs.Watching.{leads_end, leads_more, local_event, may_go_on, may_step, same_more}
use Rattle.cp_effects.proofs.leg.watch_leg.Goals as goal

pub returns-then-not-is_local : goal.returns-then-not-is_local
returns-then-not-is_local c =
    let r = c.args.program.now in
    let l = places_of c.args.table.now in
    let m = machine_of c.loop-count.state in
    let n = machine_of c.watch_step.new.state in
    let inv = c.loop-count.invariant in
    record {
      own = c.watch_step.ensures.own;
      leg = leads_end l r c.args.pid (machine_of c.args.state.now) c.loop-count.touched.places.items c.watch_step.new.touched.places.items c.loop-count.count m n c.in-Some.event inv.same c.watch_step.ensures.kept inv.leads c.in-Some.ensures.step (sym c.is_local.ensures ∙ c.if-not-is_local.true);
      kept = λ place h. c.watch_step.ensures.kept place (inv.kept place h);
    }

pub loop-count-preserved : goal.loop-count-preserved
loop-count-preserved c =
    let r = c.args.program.now in
    let l = places_of c.args.table.now in
    let pid = c.args.pid in
    let first = machine_of c.args.state.now in
    let m = machine_of c.loop-count.state in
    let n = machine_of c.watch_step.new.state in
    let before = c.loop-count.touched.places.items in
    let after = c.watch_step.new.touched.places.items in
    let inv = c.loop-count.invariant in
    let is = c.leave_output.ensures.state in
    let step = subst (λ (e : Event). IsStepWithin l r after m pid e n) (local_event c.in-Some.event (sym c.is_local.ensures ∙ c.if-not-is_local.false)) c.in-Some.ensures.step in
    let go = may_go_on l r after m n pid (may_step r c.loop-count.state pid inv.own inv.ready inv.free) step in
    record {
      own = c.leave_output.ensures.own;
      ready = subst (λ (x : Machine). is_ready x pid ≡ true) (sym is) go.ready;
      free = subst (λ (x : Machine). is_pending x ≡ false) (sym is) go.free;
      same = λ q. subst (λ (x : Machine). status_at x q ≡ status_at first q) (sym is) (same_more l r pid first after m n inv.same step q);
      leads = λ places keep k last leg. leads_more l r pid first before after c.loop-count.count m n inv.same c.watch_step.ensures.kept inv.leads step places keep k last (subst (λ (x : Machine). LegWithin (noted_by l places first pid) r x pid k last) is leg);
      kept = λ place h. c.watch_step.ensures.kept place (inv.kept place h);
    }
