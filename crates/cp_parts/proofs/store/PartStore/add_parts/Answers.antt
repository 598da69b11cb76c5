use Rattle.std.proofs.Common.{rules, ◌≡◌, ◌+◌, ◌++◌, ◌∷◌, [], arith, refl, subst, sym}
use Rattle.cp_machine.specs.Machine.{machine_of}
use Rattle.cp_parts.specs.Parts.{HasParts}
use Rattle.cp_parts.proofs.Keeping.{parts_more, store_on, store_same}
use Rattle.cp_parts.proofs.store.PartStore.add_parts.Goals as goal

pub loop-place-init : goal.loop-place-init
loop-place-init c = record { kept = store_same c.args.self.now; has = record { long = omega (arith, c.requires.long); kept = λ k lt. refl; each = λ place lt. absurd (omega (arith, lt)) } }

pub loop-place-preserved : goal.loop-place-preserved
loop-place-preserved c =
    let l = c.loop-place in
    let u = c.number_part.new.self in
    let pushed : c.push.new.self.items ≡ l.row.items ++ c.in_ok-number.number ∷ [] = search rules in
    record {
      kept = store_on c.args.self.now l.self u l.invariant.kept c.number_part.ensures.kept;
      has = subst (λ xs. HasParts u c.args.table.now (machine_of c.args.state.now) c.args.row.now.items xs (l.place + 1)) (sym pushed) (parts_more l.self u c.args.table.now (machine_of c.args.state.now) c.args.row.now.items l.row.items l.place c.in_ok-number.number c.number_part.ensures.kept c.requires.long l.invariant.has c.in_ok-number.ensures.number);
    }

pub returns-clause-parts : goal.returns-clause-parts
returns-clause-parts c = subst (HasParts c.loop-place.self c.args.table.now (machine_of c.args.state.now) c.args.row.now.items c.loop-place.row.items) (omega arith) c.loop-place.invariant.has

pub returns-in_err-number-clause-kept : goal.returns-in_err-number-clause-kept
returns-in_err-number-clause-kept c = store_on c.args.self.now c.loop-place.self c.number_part.new.self c.loop-place.invariant.kept c.number_part.ensures.kept

pub returns-in_err-push-clause-kept : goal.returns-in_err-push-clause-kept
returns-in_err-push-clause-kept c = store_on c.args.self.now c.loop-place.self c.number_part.new.self c.loop-place.invariant.kept c.number_part.ensures.kept
