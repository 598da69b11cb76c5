use Rattle.std.proofs.Common.{rules, ◌≡◌, ◌∙◌, ◌∷◌, ◌++◌, [], ap, arith, length}
use Rattle.std.proofs.lemmas.List.{length-append}
use Rattle.cp_machine.specs.Machine.{machine_of}
use Rattle.cp_parts.proofs.Keeping.{store_on, store_same}
use Rattle.cp_parts.proofs.Making.{row_made}
use Rattle.cp_parts.proofs.store.PartStore.row_of.Goals as goal

pub returns-clause-row : goal.returns-clause-row
returns-clause-row c =
    let first = c.add_statuses.new.row.items in
    let pushed : c.push.new.self.items ≡ first ++ c.option_number.result ∷ [] = search rules in
    row_made c.requires.0 c.add_statuses.new.self c.add_parts.new.self c.args.table.now (machine_of c.args.state.now) c.add_statuses.new.row.items c.push.new.self.items c.add_parts.new.row.items
    c.requires.1 c.requires.2 c.add_parts.ensures.kept c.in_ok-add_statuses.ensures.statuses (pushed ∙ ap (λ n. first ++ n ∷ []) c.option_number.ensures) c.in_ok-add_parts.ensures.parts

pub returns-clause-kept : goal.returns-clause-kept
returns-clause-kept c = store_on c.args.self.now c.add_statuses.new.self c.add_parts.new.self c.add_statuses.ensures.kept c.add_parts.ensures.kept

pub add_parts-requires-clause-long : goal.add_parts-requires-clause-long
add_parts-requires-clause-long c =
    let first = c.add_statuses.new.row.items in
    let pushed : c.push.new.self.items ≡ first ++ c.option_number.result ∷ [] = search rules in
    omega (arith, ap length pushed, length-append first (c.option_number.result ∷ []), c.in_ok-add_statuses.ensures.statuses.long, c.requires.1.processes, c.requires.2.threads)

pub returns-in_err-row-clause-kept : goal.returns-in_err-row-clause-kept
returns-in_err-row-clause-kept c = store_same c.args.self.now

pub returns-in_err-add_parts-clause-kept : goal.returns-in_err-add_parts-clause-kept
returns-in_err-add_parts-clause-kept c = store_on c.args.self.now c.add_statuses.new.self c.add_parts.new.self c.add_statuses.ensures.kept c.add_parts.ensures.kept
