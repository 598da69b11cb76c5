use Rattle.std.proofs.Common.{◌≡◌, ◌∙◌, ◌+◌, ◌++◌, ap, arith, length}
use Rattle.std.proofs.lemmas.List.{length-append}
use Rattle.cp_effects.specs.declared.table.KnownLeg.{KnownLeg}
use Rattle.cp_effects.proofs.Knowing.{legs_more}
use Rattle.cp_effects.proofs.table.EffectTable.remember.Goals as goal

pub returns-clause-here : goal.returns-clause-here
returns-clause-here c = c.in_ok-set.ensures.here

pub returns-clause-known : goal.returns-clause-known
returns-clause-known c = λ s t r discipline pid scope numbers are keyed is.
    (let table = c.args.self.now in
    let effect = c.args.effect.now in
    let old = table.writes.items in
    let writes = effect.writes.items in
    let more = c.extend_from_slice.new.self in
    let leg : KnownLeg = record { leg = effect.leg; shown = effect.shown; from = c.len-from.result; to = c.len.result } in
    let extended : more.items ≡ old ++ writes = c.in_ok-extend_from_slice.ensures.items ∙ ap (λ ws. old ++ ws) c.deref.ensures.value in
    let long = ap length extended in
    let rest = c.set.ensures.rest in
    let from : c.len-from.result ≡ length old = omega (arith, c.len-from.ensures) in
    let to : c.len.result ≡ length old + length writes = omega (arith, c.len.ensures, more.ok.0, long, length-append old writes) in
    legs_more s t r discipline table are c.set.new.self c.args.key pid scope numbers leg writes rest.0 rest.1 (ap (λ v. v.items) rest.2 ∙ extended) c.in_ok-set.ensures.here c.set.ensures.others from to keyed is)
