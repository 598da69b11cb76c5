use Rattle.std.proofs.Common.{◌∙◌, ◌<◌, ap, arith, refl, sym}
use Rattle.cp_machine.specs.Bodies.{body_of}
use Rattle.cp_machine.specs.Machine.{Thread, thread_at, thread_of}
use Rattle.cp_parts.specs.Placed.{place_count}
use Rattle.cp_parts.proofs.Rows.{thread_made}
use Rattle.cp_parts.proofs.Becoming.{number_there, place_same, process_there, status_byte, status_same}
use Rattle.cp_parts.proofs.store.PartStore.take_process.Goals as goal

pub part_position-part-requires : goal.part_position-part-requires
part_position-part-requires c = omega (arith, c.requires.at)

pub bounds-row-part : goal.bounds-row-part
bounds-row-part c = omega (arith, c.requires.at, c.part_position-part.ensures, c.requires.can.3.row_is.long)

pub bounds-known-part : goal.bounds-known-part
bounds-known-part c = omega (arith, c.requires.at, c.part_position-part.ensures, c.requires.can.3.known_is.long)

pub bounds-row-at : goal.bounds-row-at
bounds-row-at c = omega (arith, c.requires.at, c.requires.can.3.row_is.long)

pub bounds-known-at : goal.bounds-known-at
bounds-known-at c = omega (arith, c.requires.at, c.requires.can.3.known_is.long)

pub take_own_body-requires-clause-within : goal.take_own_body-requires-clause-within
take_own_body-requires-clause-within c =
    (number_there c.requires.can.0 c.args.self.now c.args.table.now c.args.row.now c.args.known.now c.requires.can.1 c.requires.can.2 c.requires.can.3 c.args.at c.part_position-part.result c.part_position-part.ensures (omega (arith, c.requires.at))).within

pub take_own_body-requires-clause-part : goal.take_own_body-requires-clause-part
take_own_body-requires-clause-part c = (
  thread_at c.requires.can.1.threads c.args.at,
  process_there c.requires.can.0 c.args.self.now c.args.table.now c.args.row.now c.args.known.now c.requires.can.1 c.requires.can.2 c.requires.can.3 c.args.at c.part_position-part.result c.part_position-part.ensures c.requires.at,
  c.requires.can.4,
)

pub take_status-requires : goal.take_status-requires
take_status-requires c = (
  (thread_at c.requires.can.1.threads c.args.at).status,
  c.requires.can.3.row_is.statuses c.args.at c.requires.at,
  status_byte c.requires.can.0 c.args.self.now c.args.table.now c.args.row.now c.args.known.now c.requires.can.1 c.requires.can.2 c.requires.can.3 c.args.at,
)

pub returns-clause-same : goal.returns-clause-same
returns-clause-same c = λ r m n can was.
    (let s = c.args.self.now in
    let t = c.args.table.now in
    let row = c.args.row.now in
    let known = c.args.known.now in
    let q = c.args.at in
    let at = c.part_position-part.result in
    let within : q < place_count t = omega (arith, c.requires.at) in
    thread_made (thread_of c.take_status.new.process) (thread_at m.threads q)
    (c.take_status.ensures.status (thread_at m.threads q).status (can.row_is.statuses q c.requires.at)
    (λ e. c.take_own_body.ensures.status ∙ ap (λ (x : Thread). x.status) was ∙ status_same r s t row known m n can q c.requires.at e))
    (sym (c.take_status.ensures.body ∙ c.take_own_body.ensures.body (thread_at m.threads q) (process_there r s t row known m n can q at c.part_position-part.ensures c.requires.at)
    (λ e. ap body_of was ∙ (place_same r s t row known m n can q at c.part_position-part.ensures within e).bodies q refl))))

pub returns-clause-room : goal.returns-clause-room
returns-clause-room c =
    record {
      stack = omega (arith, c.take_own_body.ensures.room.stack, c.take_status.ensures.room.stack);
      cells = omega (arith, c.take_own_body.ensures.room.cells, c.take_status.ensures.room.cells);
      references = omega (arith, c.take_own_body.ensures.room.references, c.take_status.ensures.room.references);
    }
