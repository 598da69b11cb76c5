use Rattle.std.proofs.Common.{◌≡◌, ◌∙◌, ◌-◌, ℕ, List, zero, suc, ap, arith, refl, sym}
use Rattle.std.proofs.lemmas.List.{get_or_read}
use Rattle.std.specs.Prelude.{slice_index_or}
use Rattle.cp_states.specs.Pieces.{begin_of}
use Rattle.cp_states.proofs.lists.ListStore.at.Given.{Over}
use Rattle.cp_states.proofs.lists.ListStore.at.Goals as goal
use Rattle.cp_states.proofs.lists.ListStore.at.Goals.{Joined-number-eq0, then-number-eq0, else-number-eq0}

later : (ends : List ℕ) (n : ℕ) → (n ≡ 0 → ⊥) → begin_of ends n ≡ slice_index_or ends (n - 1) 0
later ends zero not = absurd (not refl)
later ends (suc n) not = ap (λ k. slice_index_or ends k 0) (omega arith)

begins : (g : Over) (c : Joined-number-eq0 g) → c.if-number-eq0.from ≡ begin_of c.args.self.now.ends.items c.args.number
begins g c = elim c.if-number-eq0.branch [
  | then-number-eq0 w ↦ w.from-is ∙ ap (begin_of c.args.self.now.ends.items) (sym w.if-number-eq0.true)
  | else-number-eq0 w ↦ w.from-is ∙ get_or_read c.args.self.now.ends.items _ _ (omega (arith, c.requires)) w.index.ensures 0 ∙ sym (later c.args.self.now.ends.items c.args.number w.if-number-eq0.false)
]

pub offset_bounds-deref-from : goal.offset_bounds-deref-from
offset_bounds-deref-from g c = omega (arith, begins g (goal.at.offset_bounds-deref-from g c).Joined-number-eq0, c.args.self.now.inside.rising c.args.number c.requires, c.args.self.now.inside.within c.args.number c.requires)

pub slice_bounds-result-count : goal.slice_bounds-result-count
slice_bounds-result-count g c =
    let to = get_or_read c.args.self.now.ends.items _ _ c.requires c.index-2.ensures 0 in
    omega (arith, begins g (goal.at.slice_bounds-result-count g c).Joined-number-eq0, to, c.args.self.now.inside.rising c.args.number c.requires)

pub slice_bounds-result-start : goal.slice_bounds-result-start
slice_bounds-result-start g c =
    let to = get_or_read c.args.self.now.ends.items _ _ c.requires c.index-2.ensures 0 in
    omega (arith, begins g (goal.at.slice_bounds-result-start g c).Joined-number-eq0, to, c.args.self.now.inside.rising c.args.number c.requires, c.args.self.now.inside.within c.args.number c.requires)

pub slice_bounds-result-end : goal.slice_bounds-result-end
slice_bounds-result-end g c =
    let to = get_or_read c.args.self.now.ends.items _ _ c.requires c.index-2.ensures 0 in
    omega (arith, to, c.args.self.now.inside.within c.args.number c.requires)

pub returns : goal.returns
returns g c =
    let to = get_or_read c.args.self.now.ends.items _ _ c.requires c.index-2.ensures 0 in
    rw (begins g (goal.at.returns g c).Joined-number-eq0, to, c.deref.ensures.value) refl
