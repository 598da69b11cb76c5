use Rattle.std.proofs.Common.{◌≡◌, ◌∙◌, ◌<◌, ap, arith, length, subst, sym, true}
use Rattle.std.specs.Prelude.{All}
use Rattle.cp_effects.specs.Changes.{written}
use Rattle.cp_effects.specs.Known.{writes_of}
use Rattle.cp_parts.specs.Parts.{IsPartRow}
use Rattle.cp_at_once.specs.ByRows.{phases_number}
use Rattle.cp_at_once.proofs.Legs.{has_leg, leg_after}
use Rattle.cp_at_once.proofs.Staying.{stays_same}
use Rattle.cp_at_once.proofs.leg.has_quiet_leg.Goals as goal

pub part_position-requires : goal.part_position-requires
part_position-requires c = omega (arith, c.requires.pid)

pub bounds-row-part_position : goal.bounds-row-part_position
bounds-row-part_position c = omega (arith, c.requires.pid, c.requires.row.1.is.long, c.part_position.ensures)

pub returns-then-has-clause-kept : goal.returns-then-has-clause-kept
returns-then-has-clause-kept c = stays_same c.args.job.now.program.now c.args.rows.now

pub returns-in_default : goal.returns-in_default
returns-in_default c = record { kept = c.in_ok-known.ensures.kept; ahead = c.known_leg.ensures.ahead; leg = λ yes. absurd (cc) }

pub known_leg-requires-clause-row : goal.known_leg-requires-clause-row
known_leg-requires-clause-row c = (c.requires.row.0, c.requires.row.1, c.requires.row.2)

pub copy_from_slice-requires : goal.copy_from_slice-requires
copy_from_slice-requires c = c.known_leg.ensures.ahead ∙ c.requires.ahead

pub write_leg-requires-clause-rising : goal.write_leg-requires-clause-rising
write_leg-requires-clause-rising c = (c.in_ok-known.ensures.told c.in-Leg.known c.in-Leg.is).rising

pub write_leg-requires-clause-within : goal.write_leg-requires-clause-within
write_leg-requires-clause-within c = (c.in_ok-known.ensures.told c.in-Leg.known c.in-Leg.is).within

pub write_leg-requires-clause-inside : goal.write_leg-requires-clause-inside
write_leg-requires-clause-inside c =
    let rows = c.known_leg.new.rows in
    let long = (c.in_ok-known.ensures.kept.rows c.args.row.now c.requires.row.0 c.requires.row.1).is.long in
    subst (λ n. All (λ w. w.position < n) (writes_of rows.cache.legs.effects.writes.items c.in-Leg.known)) (sym (ap length c.copy_from_slice.ensures.after ∙ long)) (c.in_ok-known.ensures.told c.in-Leg.known c.in-Leg.is).inside

pub has_same_phases-requires : goal.has_same_phases-requires
has_same_phases-requires c =
    let r = c.args.job.now.program.now in
    let discipline = c.args.job.now.limits.discipline in
    let rows = c.known_leg.new.rows in
    let m = c.requires.row.0 in
    let here = c.in_ok-known.ensures.kept.rows c.args.row.now m c.requires.row.1 in
    let leg = c.in-Leg.known in
    let after = leg_after r discipline rows c.args.row.now c.args.pid leg m (c.in_ok-known.ensures.kept.known c.requires.known) (c.in_ok-known.ensures.kept.ruled ∙ c.requires.ruled) (c.in_ok-known.ensures.told leg c.in-Leg.is) here c.requires.row.2 c.requires.row.3 in
    let same = c.write_leg.ensures ∙ ap (written (writes_of rows.cache.legs.effects.writes.items leg)) c.copy_from_slice.ensures.after in
    (m, after.0.machine, here.is, subst (IsPartRow rows.cache.store rows.cache.table after.0.machine) (sym same) after.1.comes)

pub returns-clause-leg : goal.returns-clause-leg
returns-clause-leg c = λ yes m is may free.
    (let r = c.args.job.now.program.now in
    let discipline = c.args.job.now.limits.discipline in
    let rows = c.known_leg.new.rows in
    let here = c.in_ok-known.ensures.kept.rows c.args.row.now m is in
    let leg = c.in-Leg.known in
    let quiet : c.is_quiet.result ≡ true = search in
    let same = c.write_leg.ensures ∙ ap (written (writes_of rows.cache.legs.effects.writes.items leg)) c.copy_from_slice.ensures.after in
    has_leg r discipline rows c.args.row.now c.args.pid leg m (c.in_ok-known.ensures.kept.known c.requires.known) (c.in_ok-known.ensures.kept.ruled ∙ c.requires.ruled) (c.in_ok-known.ensures.told leg c.in-Leg.is) here may free (sym c.is_quiet.ensures ∙ quiet)
    (λ place lt. c.has_same_phases.ensures yes place lt ∙ ap (λ l. phases_number rows.cache.store rows.cache.table l place) same))
