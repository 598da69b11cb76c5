use Rattle.std.proofs.Common.{◌≡◌, true, false}
use Rattle.cp_machine.specs.Fits.{IsStateOf}
use Rattle.cp_machine.specs.Machine.{is_pending, is_ready, machine_of}
use Rattle.cp_parts.specs.Placed.{places_of}
use Rattle.cp_effects.specs.Noting.{KeepNoted}
use Rattle.cp_effects.proofs.Watching.{Leads, SameAsFirst}
use Rattle.cp_effects.proofs.leg.watch_leg.Given as goal

-- What goes on from here within more places, is a leg of the first machine within these.
abbrev pub invariant-loop-count : goal.invariant-loop-count
invariant-loop-count l =
    let first = machine_of l.fn.state in
    let m = machine_of l.state in
    let at = places_of l.table in
    record {
      own : IsStateOf l.program l.state;
      ready : is_ready m l.pid ≡ true;
      free : is_pending m ≡ false;
      same : SameAsFirst at l.program l.pid first m;
      leads : Leads at l.program l.pid first l.touched.places.items l.count m;
      kept : KeepNoted l.fn.touched.places.items l.touched.places.items;
    }
