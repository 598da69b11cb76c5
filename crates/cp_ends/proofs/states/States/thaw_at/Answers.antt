use Rattle.std.proofs.Common.{◌∙◌, refl, sym}
use Rattle.cp_ends.proofs.Halves.{width_is}
use Rattle.cp_ends.proofs.Keeping.{no_state, state_of}
use Rattle.cp_stretches.proofs.Becoming.{own_like}
use Rattle.cp_ends.proofs.Thawing.{can_thaw, row_short}
use Rattle.cp_ends.proofs.states.States.thaw_at.Goals as goal

pub row_with-row-requires : goal.row_with-row-requires
row_with-row-requires c =
    let x = state_of c.requires.0 c.args.self.now c.requires.1 c.requires.3 c.args.number _ (sym c.in-Some.ensures.entry) in
    (x.2.row.row, x.2.row.halved, width_is c.args.self.now x.0.0 x.2.row.row x.2.row.is, row_short c.requires.0 c.args.self.now c.requires.1 c.requires.3 x.0.0 x.2.row.row x.2.row.is)

pub take_row_anew-requires : goal.take_row_anew-requires
take_row_anew-requires c =
    let r = c.requires.0 in
    let x = state_of r c.args.self.now c.requires.1 c.requires.3 c.args.number _ (sym c.in-Some.ensures.entry) in
    record { own = (r, x.0.0, own_like r c.args.state.now _ c.args.self.now.discipline refl refl refl refl c.requires.2, can_thaw r c.args.self.now c.requires.1 c.requires.3 x.0.0 _ x.2 (c.as_slice.ensures.value ∙ c.row_with-row.ensures x.2.row.row x.2.row.halved (width_is c.args.self.now x.0.0 x.2.row.row x.2.row.is))) }

pub returns-clause-own : goal.returns-clause-own
returns-clause-own c = λ r states own h.
    (let x = state_of r c.args.self.now states h c.args.number _ (sym c.in-Some.ensures.entry) in
    c.take_row_anew.ensures.own r x.0.0 (own_like r c.args.state.now _ c.args.self.now.discipline refl refl refl refl own) (can_thaw r c.args.self.now states h x.0.0 _ x.2 (c.as_slice.ensures.value ∙ c.row_with-row.ensures x.2.row.row x.2.row.halved (width_is c.args.self.now x.0.0 x.2.row.row x.2.row.is))) x.2.it.quiet x.2.it.ruled)

pub returns-clause-at : goal.returns-clause-at
returns-clause-at c = λ r states own h.
    (let x = state_of r c.args.self.now states h c.args.number _ (sym c.in-Some.ensures.entry) in
    (x.0, x.1, c.take_row_anew.ensures.same r x.0.0 (own_like r c.args.state.now _ c.args.self.now.discipline refl refl refl refl own) (can_thaw r c.args.self.now states h x.0.0 _ x.2 (c.as_slice.ensures.value ∙ c.row_with-row.ensures x.2.row.row x.2.row.halved (width_is c.args.self.now x.0.0 x.2.row.row x.2.row.is))) x.2.it.quiet x.2.it.ruled))

pub returns-in_default-clause-at : goal.returns-in_default-clause-at
returns-in_default-clause-at c = λ r states own h. no_state r c.args.self.now states h c.args.number (sym c.in_default.ensures.entry)
