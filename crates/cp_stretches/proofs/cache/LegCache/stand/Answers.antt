use Rattle.std.proofs.Common.{◌∙◌, refl, subst, sym}
use Rattle.cp_machine.specs.Machine.{machine_of}
use Rattle.cp_parts.specs.Parts.{IsPartRow}
use Rattle.cp_parts.specs.Taken.{CanTake}
use Rattle.cp_stretches.proofs.Becoming.{can_take, own_like}
use Rattle.cp_stretches.proofs.cache.LegCache.stand.Goals as goal

pub take_row-requires : goal.take_row-requires
take_row-requires c =
    let r = c.args.job.now.program.now in
    let discipline = c.args.job.now.limits.discipline in
    let self = c.args.self.now in
    let x = c.args.standing.now in
    let m = c.requires.row.0 in
    let can = can_take r discipline self x c.requires.cache c.requires.standing m c.args.row.now c.requires.row.1 in
    record { own = (r, m, own_like r x.state _ discipline refl refl refl refl c.requires.standing.own, subst (λ known. CanTake r self.store self.table c.args.row.now known m (machine_of (record x.state { discipline = discipline }))) (sym c.deref.ensures.value) can) }

pub copy_from_slice-requires : goal.copy_from_slice-requires
copy_from_slice-requires c = c.args.standing.now.row.ok.0 ∙ c.requires.standing.row.long ∙ sym c.requires.row.1.stands.long

pub returns-clause-state : goal.returns-clause-state
returns-clause-state c = λ m stands.
    (let r = c.args.job.now.program.now in
    let discipline = c.args.job.now.limits.discipline in
    let self = c.args.self.now in
    let x = c.args.standing.now in
    let can = can_take r discipline self x c.requires.cache c.requires.standing m c.args.row.now stands in
    c.take_row.ensures.same r m (own_like r x.state _ discipline refl refl refl refl c.requires.standing.own) (subst (λ known. CanTake r self.store self.table c.args.row.now known m (machine_of (record x.state { discipline = discipline }))) (sym c.deref.ensures.value) can) stands.quiet stands.ruled)

pub returns-clause-standing : goal.returns-clause-standing
returns-clause-standing c =
    let r = c.args.job.now.program.now in
    let discipline = c.args.job.now.limits.discipline in
    let self = c.args.self.now in
    let x = c.args.standing.now in
    let m = c.requires.row.0 in
    let stands = c.requires.row.1 in
    let can = can_take r discipline self x c.requires.cache c.requires.standing m c.args.row.now stands in
    let taken = subst (λ known. CanTake r self.store self.table c.args.row.now known m (machine_of (record x.state { discipline = discipline }))) (sym c.deref.ensures.value) can in
    let same = c.take_row.ensures.same r m (own_like r x.state _ discipline refl refl refl refl c.requires.standing.own) taken stands.quiet stands.ruled in
    record {
      own = c.take_row.ensures.own r m (own_like r x.state _ discipline refl refl refl refl c.requires.standing.own) taken stands.quiet stands.ruled;
      row = subst (λ xs. IsPartRow self.store self.table (machine_of c.take_row.new.state) xs) (sym c.copy_from_slice.ensures.items) (subst (λ n. IsPartRow self.store self.table n c.args.row.now) (sym same) stands.stands);
    }

pub returns-clause-row : goal.returns-clause-row
returns-clause-row c = c.copy_from_slice.ensures.items
