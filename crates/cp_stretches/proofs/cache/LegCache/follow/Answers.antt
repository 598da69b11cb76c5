use Rattle.std.proofs.Common.{◌≡◌, ◌∙◌, ◌++◌, ◌<◌, ap, drop, length, subst, sym, take}
use Rattle.std.specs.Prelude.{All, IfSome}
use Rattle.std.proofs.lemmas.List.{take_at}
use Rattle.cp_machine.specs.Machine.{machine_of}
use Rattle.cp_parts.specs.Parts.{IsPartRow}
use Rattle.cp_parts.proofs.Keeping.{store_same}
use Rattle.cp_effects.specs.declared.changes.Write.{Write}
use Rattle.cp_effects.specs.declared.effect.Effect.{Effect}
use Rattle.cp_effects.specs.Changes.{written}
use Rattle.cp_effects.proofs.Written.{written_long}
use Rattle.cp_stretches.proofs.cache.LegCache.follow.Goals as goal

pub write_row-requires : goal.write_row-requires
write_row-requires c =
    let x = c.args.standing.now in
    let effect = c.in-Some.effect in
    let inside : All (λ (w : Write). w.position < length x.row.items) effect.writes.items = subst (λ o. IfSome o (λ (e : Effect). All (λ (w : Write). w.position < length x.row.items) e.writes.items)) c.in-Some.is c.requires.inside in
    subst (λ ws. All (λ (w : Write). w.position < length c.deref_mut.result.now) ws) (sym c.deref.ensures.value)
    (subst (λ xs. All (λ (w : Write). w.position < length xs) effect.writes.items) (sym c.deref_mut.ensures.value) inside)

pub returns-clause-standing : goal.returns-clause-standing
returns-clause-standing c =
    let s = c.args.self.now.store in
    let t = c.args.self.now.table in
    let x = c.args.standing.now in
    let m = machine_of x.state in
    let effect = c.in-Some.effect in
    let row = c.write_row.new.row in
    let comes : IsPartRow s t m (written effect.writes.items x.row.items) = subst (λ o. IfSome o (λ (e : Effect). IsPartRow s t m (written e.writes.items x.row.items))) c.in-Some.is c.requires.row in
    let is : row ≡ written effect.writes.items x.row.items = c.write_row.ensures ∙ ap (λ ws. written ws c.deref_mut.result.now) c.deref.ensures.value ∙ ap (written effect.writes.items) c.deref_mut.ensures.value in
    let long : length row ≡ x.row.len = ap length is ∙ written_long effect.writes.items x.row.items ∙ sym x.row.ok.0 in
    let whole : take x.row.len (row ++ drop (length row) x.row.items) ≡ row = take_at row (drop (length row) x.row.items) x.row.len long in
    record { own = c.requires.own; row = subst (IsPartRow s t m) (sym (whole ∙ is)) comes }

pub returns-clause-kept : goal.returns-clause-kept
returns-clause-kept c = store_same c.args.self.now.store
