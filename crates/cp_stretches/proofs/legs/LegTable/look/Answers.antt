use Rattle.std.proofs.Common.{◌≡◌, ◌∙◌, ap, sym}
use Rattle.cp_effects.specs.declared.table.Known.TheVariants.{Leg}
use Rattle.cp_effects.specs.Known.{known_at}
use Rattle.cp_stretches.proofs.Knowing.{told_by}
use Rattle.cp_stretches.proofs.legs.LegTable.look.Goals as goal

pub returns-in-Leg-clause-told : goal.returns-in-Leg-clause-told
returns-in-Leg-clause-told c = λ s r discipline e placed are is.
    (let table = c.number_key.new.self in
    let t = c.args.table.now in
    let key = c.in_ok-key.key in
    let same : c.in-Leg.leg ≡ e = cc in
    let here : known_at table.known.items key ≡ Leg e = sym c.at.ensures ∙ c.in-Leg.is ∙ ap Leg same in
    told_by s t r discipline table key c.args.pid c.in-Some.scope e c.args.row.now (c.number_key.ensures.known s t r discipline are) placed c.in_ok-key.ensures.key here)

pub returns-in-Nothing-clause-sought : goal.returns-in-Nothing-clause-sought
returns-in-Nothing-clause-sought c = c.in_ok-key.ensures.key
