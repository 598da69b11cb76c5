use Rattle.cp_machine.proofs.Words.{next_turn, successor_step, length, ◌≡◌, ◌∙◌, ap, of_z, rules, sym, to_z, w16, For, Successor, machine_of, under}
use Rattle.cp_machine.proofs.frames.ReadLemmas.{item_reads}
use Rattle.cp_machine.proofs.rooms.RoomLemmas.{is_busy, successor_stands}
use Rattle.cp_machine.proofs.TakeLemmas.{turn_room, turn_taken}
use Rattle.cp_machine.proofs.take.perform_successor.Goals as goal

pub returns-in-For-clause-reserved : goal.returns-in-For-clause-reserved
returns-in-For-clause-reserved c = c.successor.ensures.reserved

pub returns-in-For-clause-after : goal.returns-in-For-clause-after
returns-in-For-clause-after c =
    let m = machine_of c.args.state.now in
    let below = under m c.args.pid in
    let low_is : to_z w16 (of_z w16 c.in-For.low) ≡ c.in-For.low = search rules in
    let high_is : to_z w16 (of_z w16 c.in-For.high) ≡ c.in-For.high = search rules in
    let value_is : to_z w16 (of_z w16 c.args.value) ≡ c.args.value = search rules in
    let last_is : to_z w16 (of_z w16 c.args.last) ≡ c.args.last = search rules in
    ap (λ a. successor_step m c.args.pid c.args.at c.args.item.now a below c.args.value c.args.last) c.in-For.is ∙ ap (λ z. next_turn m c.args.pid c.args.item.now.line c.args.at c.in-For.variable z c.in-For.high c.in-For.down c.in-For.body c.args.item.now.next below c.args.value c.args.last) (sym low_is) ∙ ap (λ z. next_turn m c.args.pid c.args.item.now.line c.args.at c.in-For.variable (to_z w16 (of_z w16 c.in-For.low)) z c.in-For.down c.in-For.body c.args.item.now.next below c.args.value c.args.last) (sym high_is) ∙ ap (λ z. next_turn m c.args.pid c.args.item.now.line c.args.at c.in-For.variable (to_z w16 (of_z w16 c.in-For.low)) (to_z w16 (of_z w16 c.in-For.high)) c.in-For.down c.in-For.body c.args.item.now.next below z c.args.last) (sym value_is) ∙ ap (λ z. next_turn m c.args.pid c.args.item.now.line c.args.at c.in-For.variable (to_z w16 (of_z w16 c.in-For.low)) (to_z w16 (of_z w16 c.in-For.high)) c.in-For.down c.in-For.body c.args.item.now.next below (to_z w16 (of_z w16 c.args.value)) z) (sym last_is) ∙ c.successor.ensures.after

pub successor-requires : goal.successor-requires
successor-requires c =
    let r = c.requires.0 in
    let s = c.args.state.now in
    let below = under (machine_of s) c.args.pid in
    let stands = successor_stands r s c.args.pid c.args.at c.args.value c.args.last below c.requires.1.within c.requires.1.own.fits c.requires.1.top in
    record {
      replaces = record {
        within = c.requires.1.within;
        busy = is_busy c.args.state.now c.args.pid (Successor c.args.at c.args.value c.args.last) (under (machine_of c.args.state.now) c.args.pid) c.requires.1.within c.requires.1.top;
        room = turn_room r s c.args.pid c.args.at c.args.value c.args.last below c.args.item.now c.requires.1.within c.requires.1.own c.requires.1.top c.requires.1.same c.in-For.body
            (turn_taken r s c.args.pid c.args.at c.args.value c.args.last below c.args.item.now c.requires.1.within c.requires.1.own c.requires.1.top c.requires.1.same (For c.in-For.variable c.in-For.low c.in-For.high c.in-For.from c.in-For.to c.in-For.down c.in-For.body) c.in-For.is);
      };
      name = (item_reads r s c.args.pid c.args.at (length below) c.args.item.now c.requires.1.within c.requires.1.own stands c.requires.1.same (For c.in-For.variable c.in-For.low c.in-For.high c.in-For.from c.in-For.to c.in-For.down c.in-For.body) c.in-For.is).0;
    }

pub replace-requires : goal.replace-requires
replace-requires c = record { within = c.requires.1.within; busy = is_busy c.args.state.now c.args.pid (Successor c.args.at c.args.value c.args.last) (under (machine_of c.args.state.now) c.args.pid) c.requires.1.within c.requires.1.top; room = tt }
