use Rattle.std.proofs.Common.{◌≡◌, ◌∙◌, ◌<◌, ℕ, true, arith, length, subst, sym}
use Rattle.std.specs.Prelude.{slice_set}
use Rattle.std.proofs.lemmas.Result.{IfOk-weaker}
use Rattle.cp_machine.specs.Machine.{machine_of}
use Rattle.cp_parts.specs.Coded.{option_code}
use Rattle.cp_parts.specs.Placed.{place_count}
use Rattle.cp_parts.proofs.Keeping.{store_on}
use Rattle.cp_effects.specs.Noting.{among}
use Rattle.cp_effects.specs.Renewing.{HasNewParts, HasNewStatuses}
use Rattle.cp_effects.proofs.Renewed.{renewed}
use Rattle.cp_effects.proofs.renewing.renew_numbers.Goals as goal

pub renew_statuses-requires : goal.renew_statuses-requires
renew_statuses-requires c = omega (arith, c.requires.long, c.requires.placed.1.processes, c.requires.placed.2.threads)

pub renew_parts-requires-clause-inside : goal.renew_parts-requires-clause-inside
renew_parts-requires-clause-inside c = subst (λ xs. (place : ℕ) → among xs place ≡ true → place < place_count c.args.table.now) (sym c.as_slice.ensures.value) c.requires.inside

pub returns-clause-row : goal.returns-clause-row
returns-clause-row c =
    let t = c.args.table.now in
    let m = machine_of c.args.state.now in
    let u = c.renew_statuses.new.store in
    let v = c.renew_parts.new.store in
    let first = c.renew_statuses.new.row in
    let places = c.args.touched.now.places.items in
    let count : length m.threads ≡ t.processes = c.requires.placed.2.threads ∙ sym c.requires.placed.1.processes in
    IfOk-weaker c.renew_parts.result _ _ (λ _ parts. renewed u v t m places c.args.row.now first c.renew_parts.new.row c.renew_parts.ensures.kept c.requires.long
    (subst (HasNewStatuses u m c.args.row.now first) count c.in_ok-renew_statuses.ensures.statuses)
    (subst (λ k. HasNewParts v t m places (slice_set first k (option_code m.pending)) c.renew_parts.new.row) c.pending_position.ensures
    (subst (λ n. HasNewParts v t m places (slice_set first c.pending_position.result n) c.renew_parts.new.row) c.option_number.ensures
    (subst (λ xs. HasNewParts v t m xs (slice_set first c.pending_position.result c.option_number.result) c.renew_parts.new.row) c.as_slice.ensures.value parts)))) c.renew_parts.ensures.parts

pub returns-clause-kept : goal.returns-clause-kept
returns-clause-kept c = store_on c.args.store.now c.renew_statuses.new.store c.renew_parts.new.store c.renew_statuses.ensures.kept c.renew_parts.ensures.kept
