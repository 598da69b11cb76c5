use Rattle.std.proofs.Common.{◌+◌, ◌<◌, arith, length, subst, sym, take}
use Rattle.std.specs.Prelude.{slice_index_or, slice_set}
use Rattle.std.proofs.lemmas.List.{take_all, take_more}
use Rattle.cp_machine.specs.Machine.{machine_of}
use Rattle.cp_parts.specs.Placed.{place_count}
use Rattle.cp_parts.proofs.Keeping.{store_on, store_same}
use Rattle.cp_effects.specs.Changes.{part_position}
use Rattle.cp_effects.specs.Renewing.{HasNewParts}
use Rattle.cp_effects.proofs.Renewed.{noted_at, parts_next, parts_none}
use Rattle.cp_effects.proofs.renewing.renew_parts.Goals as goal

pub loop-at-init : goal.loop-at-init
loop-at-init c = record { kept = store_same c.args.store.now; has = parts_none c.args.store.now c.args.table.now (machine_of c.args.state.now) c.args.row.now }

pub number_part-requires-clause-place : goal.number_part-requires-clause-place
number_part-requires-clause-place c =
    let places = c.args.places.now in
    let at = c.loop-at.at in
    c.requires.inside (slice_index_or places at 0) (noted_at places at (omega arith))

pub part_position-requires : goal.part_position-requires
part_position-requires c =
    let places = c.args.places.now in
    let at = c.loop-at.at in
    let inside : slice_index_or places at 0 < place_count c.args.table.now = c.requires.inside (slice_index_or places at 0) (noted_at places at (omega arith)) in
    omega (arith, inside)

pub bounds-row-part_position : goal.bounds-row-part_position
bounds-row-part_position c =
    let places = c.args.places.now in
    let at = c.loop-at.at in
    let inside : slice_index_or places at 0 < place_count c.args.table.now = c.requires.inside (slice_index_or places at 0) (noted_at places at (omega arith)) in
    omega (arith, inside, c.requires.long, c.loop-at.invariant.has.long, c.part_position.ensures)

pub offset_bounds-row-part_position : goal.offset_bounds-row-part_position
offset_bounds-row-part_position c =
    let places = c.args.places.now in
    let at = c.loop-at.at in
    let inside : slice_index_or places at 0 < place_count c.args.table.now = c.requires.inside (slice_index_or places at 0) (noted_at places at (omega arith)) in
    omega (arith, inside, c.part_position.ensures, c.args.table.now.few)

pub loop-at-preserved : goal.loop-at-preserved
loop-at-preserved c =
    let t = c.args.table.now in
    let places = c.args.places.now in
    let l = c.loop-at in
    let at = l.at in
    let u = c.number_part.new.self in
    let m = machine_of c.args.state.now in
    let place = slice_index_or places at 0 in
    let n = c.in_ok-number.number in
    let lt : at < length places = omega arith in
    let inside : place < place_count t = c.requires.inside place (noted_at places at lt) in
    let there : part_position t place < length l.row = omega (arith, inside, c.requires.long, l.invariant.has.long) in
    let more = parts_next l.store u t m (take at places) c.args.row.now l.row place n c.number_part.ensures.kept there c.in_ok-number.ensures.number l.invariant.has in
    record {
      kept = store_on c.args.store.now l.store u l.invariant.kept c.number_part.ensures.kept;
      has =
          subst (λ k. HasNewParts u t m (take (at + 1) places) c.args.row.now (slice_set l.row k n)) (sym c.part_position.ensures)
          (subst (λ xs. HasNewParts u t m xs c.args.row.now (slice_set l.row (part_position t place) n)) (sym (take_more places at 0 lt)) more);
    }

pub returns-clause-parts : goal.returns-clause-parts
returns-clause-parts c =
    let places = c.args.places.now in
    subst (λ xs. HasNewParts c.loop-at.store c.args.table.now (machine_of c.args.state.now) xs c.args.row.now c.loop-at.row) (take_all c.loop-at.at places (omega arith)) c.loop-at.invariant.has

pub returns-in_err-number-clause-kept : goal.returns-in_err-number-clause-kept
returns-in_err-number-clause-kept c = store_on c.args.store.now c.loop-at.store c.number_part.new.self c.loop-at.invariant.kept c.number_part.ensures.kept
