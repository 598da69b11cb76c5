use Rattle.std.proofs.Common.{◌∷◌, [], length, length-append, refl, ap, arith, sym, subst}
use Rattle.cp_at_once.proofs.Words.{◌≡◌, ◌+◌, ℕ, true, Machine, may, slots, slot_graph, goal_at, ok_to, HasLeg, OriginAtOnce}
use Rattle.cp_ends.specs.ByRows.{Goes}
use Rattle.cp_ends.specs.Rows.{IsRowFor}
use Rattle.cp_ends.proofs.Rowwise.{some_of}
use Rattle.std.specs.declared.alloc.Global.{Global}
use Rattle.std.specs.declared.vec.Vec.{Vec}
use Rattle.cp_at_once.proofs.Following.{at_end, at_kept, at_leg, going_first, going_stored, kept_from, leads_to, stored}
use Rattle.cp_at_once.proofs.Keeping.{word_longer}
use Rattle.cp_at_once.proofs.Staying.{known_beside, room_beside, row_beside, stays_on, stays_same, store_beside}
use Rattle.cp_at_once.proofs.search.SearchAtOnce.follow.Goals as goal

pub loop-made-init : goal.loop-made-init
loop-made-init c =
    let job = c.args.job.now in
    let r = job.run.program.now in
    let gr = slot_graph r job.run.limits.discipline job.run.limits.steps in
    record {
      room = c.requires.room;
      known = c.requires.known;
      row = c.requires.row;
      numbers = c.requires.numbers;
      store = stays_same r c.args.self.now.found.kept.store;
      found = λ states word a m h is arrives stands to shown. (m, stands, going_first r gr (HasLeg r job.run.limits.discipline) job.most c.args.self.now.found states a (goal_at c.args.arrival m) c.args.self.now.told.values.items c.args.origin word h is arrives to shown);
    }

pub push-requires : goal.push-requires
push-requires c = let few = c.loop-made.invariant.numbers in omega (arith, few)

pub process_at_once-requires-clause-room : goal.process_at_once-requires-clause-room
process_at_once-requires-clause-room c = room_beside c.args.job.now.run.program.now c.args.job.now.run.limits.discipline c.loop-made.self c.note.new.self c.note.ensures.rest c.loop-made.invariant.room

pub process_at_once-requires-clause-known : goal.process_at_once-requires-clause-known
process_at_once-requires-clause-known c = known_beside c.args.job.now.run.program.now c.args.job.now.run.limits.discipline c.loop-made.self c.note.new.self c.note.ensures.rest c.loop-made.invariant.known

pub process_at_once-requires-clause-row : goal.process_at_once-requires-clause-row
process_at_once-requires-clause-row c =
    let w = c.loop-made.invariant.row c.in-Choice.is in
    (w.0, row_beside c.args.job.now.run.program.now c.args.job.now.run.limits.discipline c.loop-made.self c.note.new.self c.note.ensures.rest w.0 w.1)

pub keep-requires : goal.keep-requires
keep-requires c = record { room = c.in_ok-pid.ensures.room }

pub go_at_once-requires-clause-room : goal.go_at_once-requires-clause-room
go_at_once-requires-clause-room c = record { ruled = c.in_ok-pid.ensures.room.ruled; row = c.in_ok-pid.ensures.room.row; from = c.in_ok-pid.ensures.room.from }

pub go_at_once-requires-clause-known : goal.go_at_once-requires-clause-known
go_at_once-requires-clause-known c = c.in_ok-pid.ensures.store.known (known_beside c.args.job.now.run.program.now c.args.job.now.run.limits.discipline c.loop-made.self c.note.new.self c.note.ensures.rest c.loop-made.invariant.known)

pub go_at_once-requires-clause-row : goal.go_at_once-requires-clause-row
go_at_once-requires-clause-row c =
    let r = c.args.job.now.run.program.now in
    let w = c.loop-made.invariant.row c.in-Choice.is in
    let k = w.0 in
    let here = row_beside r c.args.job.now.run.limits.discipline c.loop-made.self c.note.new.self c.note.ensures.rest k w.1 in
    let leg = some_of _ c.in-Some.pid _ c.in-Some.is c.in_ok-pid.ensures.leg k here in
    let next = c.process_at_once.new.self in
    (k, subst (λ (v : Vec ℕ Global). IsRowFor r next.found.kept.store v.items k) (sym c.process_at_once.ensures.same) (c.in_ok-pid.ensures.store.rows c.note.new.self.row.items k here), leg.1)

pub loop-made-preserved : goal.loop-made-preserved
loop-made-preserved c =
    let job = c.args.job.now in
    let r = job.run.program.now in
    let discipline = job.run.limits.discipline in
    let gr = slot_graph r discipline job.run.limits.steps in
    let Leg = HasLeg r discipline in
    let l = c.loop-made in
    let noted = c.note.new.self in
    let next = c.process_at_once.new.self in
    let last = c.go_at_once.new.self in
    let p = c.in-Some.pid in
    let goes : (k : Machine) → IsRowFor r l.self.found.kept.store l.self.row.items k → (Leg k p × (may (slots r discipline) k p ≡ true)) × Goes r discipline job.run.limits.steps k p c.in_ok-arrival.arrival (IsRowFor r last.found.kept.store last.row.items) last.told.values.items = λ k is.
    (let here = row_beside r discipline l.self noted c.note.ensures.rest k is in
    let leg = some_of _ p _ c.in-Some.is c.in_ok-pid.ensures.leg k here in
    (leg, c.in_ok-arrival.ensures.goes k (subst (λ (v : Vec ℕ Global). IsRowFor r next.found.kept.store v.items k) (sym c.process_at_once.ensures.same) (c.in_ok-pid.ensures.store.rows noted.row.items k here)) leg.1)) in
    record {
      room = c.in_ok-arrival.ensures.room;
      known = c.in_ok-arrival.ensures.store.known (c.in_ok-pid.ensures.store.known (known_beside r discipline l.self noted c.note.ensures.rest l.invariant.known));
      row = λ due. (let w = l.invariant.row c.in-Choice.is in let g = (goes w.0 w.1).1 in (g.after, g.is due));
      numbers = (let few = l.invariant.numbers in let more = ap length c.push.ensures.items in let long = length-append l.origin.numbers.items (p ∷ []) in omega (arith, few, more, long));
      store = stays_on r c.args.self.now.found.kept.store l.self.found.kept.store last.found.kept.store l.invariant.store (stays_on r l.self.found.kept.store noted.found.kept.store last.found.kept.store (store_beside r discipline l.self noted c.note.ensures.rest) (stays_on r noted.found.kept.store next.found.kept.store last.found.kept.store c.in_ok-pid.ensures.store c.in_ok-arrival.ensures.store));
      found = λ states word a m h is arrives stands to shown.
          (let x = l.invariant.found states word a m h is arrives stands to shown in
          let k = x.0 in
          let g = x.2 in
          let n = c.in_ok-note.ensures.found r gr job.most g.more g.word g.here k g.holds g.is_word g.arrives g.to g.shows in
          let both = goes k (x.1 c.in-Choice.is) in
          let there = both.1 in
          let o : OriginAtOnce = record { state = l.origin.state; numbers = c.push.new.self } in
          let going = at_leg r gr Leg job.most c.args.self.now.found states l.self.found noted.found a (goal_at l.arrival k) l.self.told.values.items l.origin l.made g n k (ap (λ v. goal_at v k) c.in-Choice.is) p both.0.1 both.0.0 (omega arith)
          o (goal_at c.in_ok-arrival.arrival there.after) last.told.values.items (word_longer g.more l.origin o p g.word g.is_word refl c.push.ensures.items) there.goal there.shown in (
            there.after,
            there.is,
            going_stored r gr Leg job.most c.args.self.now.found states next.found a _ _ o (l.made + 1) last.found.kept.store last.found c.in_ok-arrival.ensures.found c.in_ok-arrival.ensures.store
                (going_stored r gr Leg job.most c.args.self.now.found states noted.found a _ _ o (l.made + 1) next.found.kept.store next.found c.in_ok-pid.ensures.found c.in_ok-pid.ensures.store going),
          ));
    }

pub returns-in-Ended-clause-room : goal.returns-in-Ended-clause-room
returns-in-Ended-clause-room c = room_beside c.args.job.now.run.program.now c.args.job.now.run.limits.discipline c.loop-made.self c.note.new.self c.note.ensures.rest c.loop-made.invariant.room

pub returns-in-Ended-clause-store : goal.returns-in-Ended-clause-store
returns-in-Ended-clause-store c =
    let r = c.args.job.now.run.program.now in
    stays_on r c.args.self.now.found.kept.store c.loop-made.self.found.kept.store _ c.loop-made.invariant.store (store_beside r c.args.job.now.run.limits.discipline c.loop-made.self c.note.new.self c.note.ensures.rest)

pub returns-in-Ended-clause-found : goal.returns-in-Ended-clause-found
returns-in-Ended-clause-found c = λ states word a m h is arrives stands to shown.
    (let job = c.args.job.now in
    let r = job.run.program.now in
    let gr = slot_graph r job.run.limits.discipline job.run.limits.steps in
    let l = c.loop-made in
    let x = l.invariant.found states word a m h is arrives stands to shown in
    let g = x.2 in
    let n = c.in_ok-note.ensures.found r gr job.most g.more g.word g.here x.0 g.holds g.is_word g.arrives g.to g.shows in
    at_end r gr (HasLeg r job.run.limits.discipline) job.most c.args.self.now.found states l.self.found c.note.new.self.found a (goal_at l.arrival x.0) l.self.told.values.items l.origin l.made g n _ (ap (λ v. goal_at v x.0) c.in-Ended.is))

pub returns-in_default-clause-store : goal.returns-in_default-clause-store
returns-in_default-clause-store c =
    let r = c.args.job.now.run.program.now in
    let l = c.loop-made in
    let noted = c.note.new.self in
    let next = c.process_at_once.new.self in
    ok_to c.keep.result _ _ c.keep.ensures.store (λ is_room last. stays_on r c.args.self.now.found.kept.store l.self.found.kept.store _ l.invariant.store (stays_on r l.self.found.kept.store noted.found.kept.store _ (store_beside r c.args.job.now.run.limits.discipline l.self noted c.note.ensures.rest) (stays_on r noted.found.kept.store next.found.kept.store _ c.in_ok-pid.ensures.store last)))

pub returns-in_default-clause-found : goal.returns-in_default-clause-found
returns-in_default-clause-found c =
    ok_to c.keep.result _ _ c.keep.ensures.found (λ is_room on states word a m h is arrives stands to shown.
    (let job = c.args.job.now in
    let r = job.run.program.now in
    let discipline = job.run.limits.discipline in
    let gr = slot_graph r discipline job.run.limits.steps in
    let Leg = HasLeg r discipline in
    let l = c.loop-made in
    let noted = c.note.new.self in
    let next = c.process_at_once.new.self in
    let x = l.invariant.found states word a m h is arrives stands to shown in
    let k = x.0 in
    let g = x.2 in
    let n = c.in_ok-note.ensures.found r gr job.most g.more g.word g.here k g.holds g.is_word g.arrives g.to g.shows in
    let place = ap (λ v. goal_at v k) c.in-Choice.is in
    let here = row_beside r discipline l.self noted c.note.ensures.rest k (x.1 c.in-Choice.is) in
    let row = subst (λ (v : Vec ℕ Global). IsRowFor r next.found.kept.store v.items k) (sym c.process_at_once.ensures.same) (c.in_ok-pid.ensures.store.rows noted.row.items k here) in
    let holds = stored r gr job.most noted.found next.found.kept.store next.found c.in_ok-pid.ensures.found c.in_ok-pid.ensures.store g.more n.0 in
    let kept = on gr g.more g.word k holds g.is_word (leads_to r gr Leg job.most c.args.self.now.found states l.self.found a (goal_at l.arrival k) l.self.told.values.items l.origin l.made g k place) row in
    at_kept r gr Leg job.most c.args.self.now.found states l.self.found noted.found a (goal_at l.arrival k) l.self.told.values.items l.origin l.made g n k place c.keep.new.self.found is_room
    (kept_from r gr job.most noted.found next.found.kept.store next.found c.in_ok-pid.ensures.found g.more c.keep.new.self.found k is_room kept)))

pub keep-requires-in-Choice-arrival : goal.keep-requires-in-Choice-arrival
keep-requires-in-Choice-arrival c = record { room = room_beside c.args.job.now.run.program.now c.args.job.now.run.limits.discipline c.loop-made.self c.note-2.new.self c.note-2.ensures.rest c.loop-made.invariant.room }

pub returns-in-Ended-arrival-clause-room : goal.returns-in-Ended-arrival-clause-room
returns-in-Ended-arrival-clause-room c = room_beside c.args.job.now.run.program.now c.args.job.now.run.limits.discipline c.loop-made.self c.note-2.new.self c.note-2.ensures.rest c.loop-made.invariant.room

pub returns-in-Ended-arrival-clause-store : goal.returns-in-Ended-arrival-clause-store
returns-in-Ended-arrival-clause-store c =
    let r = c.args.job.now.run.program.now in
    stays_on r c.args.self.now.found.kept.store c.loop-made.self.found.kept.store _ c.loop-made.invariant.store (store_beside r c.args.job.now.run.limits.discipline c.loop-made.self c.note-2.new.self c.note-2.ensures.rest)

pub returns-in-Ended-arrival-clause-found : goal.returns-in-Ended-arrival-clause-found
returns-in-Ended-arrival-clause-found c = λ states word a m h is arrives stands to shown.
    (let job = c.args.job.now in
    let r = job.run.program.now in
    let gr = slot_graph r job.run.limits.discipline job.run.limits.steps in
    let l = c.loop-made in
    let x = l.invariant.found states word a m h is arrives stands to shown in
    let g = x.2 in
    let n = c.in_ok-note-2.ensures.found r gr job.most g.more g.word g.here x.0 g.holds g.is_word g.arrives g.to g.shows in
    at_end r gr (HasLeg r job.run.limits.discipline) job.most c.args.self.now.found states l.self.found c.note-2.new.self.found a (goal_at l.arrival x.0) l.self.told.values.items l.origin l.made g n _ (ap (λ v. goal_at v x.0) c.in-Ended-arrival.is))

pub returns-in-Choice-arrival-clause-store : goal.returns-in-Choice-arrival-clause-store
returns-in-Choice-arrival-clause-store c =
    let r = c.args.job.now.run.program.now in
    let l = c.loop-made in
    let noted = c.note-2.new.self in
    ok_to c.keep-in-Choice-arrival.result _ _ c.keep-in-Choice-arrival.ensures.store (λ is_room last. stays_on r c.args.self.now.found.kept.store l.self.found.kept.store _ l.invariant.store (stays_on r l.self.found.kept.store noted.found.kept.store _ (store_beside r c.args.job.now.run.limits.discipline l.self noted c.note-2.ensures.rest) last))

pub returns-in-Choice-arrival-clause-found : goal.returns-in-Choice-arrival-clause-found
returns-in-Choice-arrival-clause-found c =
    ok_to c.keep-in-Choice-arrival.result _ _ c.keep-in-Choice-arrival.ensures.found (λ is_room on states word a m h is arrives stands to shown.
    (let job = c.args.job.now in
    let r = job.run.program.now in
    let discipline = job.run.limits.discipline in
    let gr = slot_graph r discipline job.run.limits.steps in
    let Leg = HasLeg r discipline in
    let l = c.loop-made in
    let noted = c.note-2.new.self in
    let x = l.invariant.found states word a m h is arrives stands to shown in
    let k = x.0 in
    let g = x.2 in
    let n = c.in_ok-note-2.ensures.found r gr job.most g.more g.word g.here k g.holds g.is_word g.arrives g.to g.shows in
    let place = ap (λ v. goal_at v k) c.in-Choice-arrival.is in
    let row = row_beside r discipline l.self noted c.note-2.ensures.rest k (x.1 c.in-Choice-arrival.is) in
    let kept = on gr g.more g.word k n.0 g.is_word (leads_to r gr Leg job.most c.args.self.now.found states l.self.found a (goal_at l.arrival k) l.self.told.values.items l.origin l.made g k place) row in
    at_kept r gr Leg job.most c.args.self.now.found states l.self.found noted.found a (goal_at l.arrival k) l.self.told.values.items l.origin l.made g n k place c.keep-in-Choice-arrival.new.self.found is_room kept))
