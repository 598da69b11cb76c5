use Rattle.std.proofs.Common.{◌≡◌, ℕ, List, ◌++◌, ◌∷◌, [], map, ap, sym, ◌∙◌}
use Rattle.std.proofs.lemmas.List.{map-append}
use Rattle.std.specs.String.{string_bytes}
use Rattle.cp_symbols.specs.Kinds.{plus}
use Rattle.cp_legend.specs.Values.{Value, types_seen, value_seen, value_by, compound_below, elements_below}
use Rattle.cp_legend.proofs.Gathering.{compound_none, elements_step}
use Rattle.cp_legend.proofs.legend.Legend.+values.Goals as goal

pub elements-loop-place-preserved : goal.elements-loop-place-preserved
elements-loop-place-preserved t c =
    let names : List (List ℕ) = map string_bytes c.args.self.now.constants.items in
    let compound : ℕ → ℕ → Value = compound_below names (types_seen c.args.self.now.shapes) c.args.cells.now c.args.bound in
    let place : c.saturating_add-at.result ≡ plus c.args.at c.saturating_mul-further.result = c.saturating_add-at.ensures in
    let at = place ∙ ap (plus c.args.at) c.saturating_mul-further.ensures in
    ap (map value_seen) c.in_ok-push.ensures.items
    ∙ map-append value_seen c.loop-place.items.items (c.in_ok-value_below.field-0 ∷ [])
    ∙ ap (λ (vs : List Value). vs ++ value_seen c.in_ok-value_below.field-0 ∷ []) c.loop-place.invariant
    ∙ ap (λ (v : Value). elements_below names c.args.cells.now compound c.args.array c.args.at c.loop-place.place ++ v ∷ []) (c.in_ok-value_below.ensures ∙ ap (λ (n : ℕ). value_by names c.args.cells.now compound c.args.array.element n) at)
    ∙ elements_step names c.args.cells.now compound c.args.at c.args.array c.loop-place.place

pub value_below-returns-else-number-bound : goal.value_below-returns-else-number-bound
value_below-returns-else-number-bound t c =
    c.no_elements.ensures ∙ sym (compound_none (map string_bytes c.args.self.now.constants.items) (types_seen c.args.self.now.shapes) c.args.cells.now c.args.bound c.in-Array.number c.args.at c.args.shape c.if-number-bound.false c.in-Array.is)
