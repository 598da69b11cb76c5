use Rattle.std.proofs.Common.{◌∙◌, subst, sym}
use Rattle.cp_stretches.proofs.Growing.{can_read}
use Rattle.cp_ends.proofs.Halves.{width_is}
use Rattle.cp_ends.proofs.Keeping.{no_state, state_of}
use Rattle.cp_ends.proofs.Rowwise.{stands_for}
use Rattle.cp_ends.proofs.Thawing.{row_short, row_told}
use Rattle.cp_ends.specs.Rows.{IsHalved}
use Rattle.cp_ends.proofs.states.States.state_at.Goals as goal

pub row_with-row-requires : goal.row_with-row-requires
row_with-row-requires g c =
    let x = state_of c.requires.0 c.args.self.now c.requires.1 c.requires.2 c.args.number _ (sym c.in-Some.ensures.entry) in
    (x.2.row.row, x.2.row.halved, width_is c.args.self.now x.0.0 x.2.row.row x.2.row.is, row_short c.requires.0 c.args.self.now c.requires.1 c.requires.2 x.0.0 x.2.row.row x.2.row.is)

pub look-seen-requires : goal.look-seen-requires
look-seen-requires g c =
    let r = c.requires.0 in
    let kept = c.args.self.now in
    let h = c.requires.2 in
    let x = state_of r kept c.requires.1 h c.args.number _ (sym c.in-Some.ensures.entry) in
    let is = row_told r kept c.requires.1 h x.0.0 _ x.2 (c.as_slice.ensures.value ∙ c.row_with-row.ensures x.2.row.row x.2.row.halved (width_is kept x.0.0 x.2.row.row x.2.row.is)) in
    (r, x.0.0, can_read r kept.discipline kept.cache x.0.0 _ h.cached (stands_for r kept _ x.0.0 is))

pub returns-clause-found : goal.returns-clause-found
returns-clause-found g c = λ r states h.
    (let kept = c.args.self.now in
    let x = state_of r kept states h c.args.number _ (sym c.in-Some.ensures.entry) in
    let same = c.row_with-row.ensures x.2.row.row x.2.row.halved (width_is kept x.0.0 x.2.row.row x.2.row.is) in
    let is = row_told r kept states h x.0.0 _ x.2 same in
    let seen = row_told r kept states h x.0.0 _ x.2 (c.as_slice.ensures.value ∙ same) in
    (x.0, x.1, is, subst (IsHalved kept _) (sym same) x.2.row.halved, c.look-seen.ensures r x.0.0 (can_read r kept.discipline kept.cache x.0.0 _ h.cached (stands_for r kept _ x.0.0 seen))))

pub returns-in_default-clause-none : goal.returns-in_default-clause-none
returns-in_default-clause-none g c = λ r states h. no_state r c.args.self.now states h c.args.number (sym c.in_default.ensures.entry)
