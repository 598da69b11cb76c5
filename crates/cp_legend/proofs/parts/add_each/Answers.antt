use Rattle.std.proofs.Common.{◌++◌, ◌∷◌, [], List, ℕ, map, ap, sym, ◌∙◌}
use Rattle.std.specs.String.{string_bytes}
use Rattle.cp_legend.specs.Names.{Part, part_seen, part, elements_below}
use Rattle.cp_legend.proofs.Naming.{elements_step, elements_none}
use Rattle.cp_legend.proofs.parts.add_each.Goals as goal

pub loop-place-init : goal.loop-place-init
loop-place-init c = sym (elements_none (map string_bytes c.args.constants.now) c.args.name.now c.args.index c.args.system (map part_seen c.args.parts.now.items))

pub loop-place-preserved : goal.loop-place-preserved
loop-place-preserved c =
    c.in_ok-add_part.ensures
    ∙ ap (λ (xs : List Part). xs ++ part (string_bytes c.in_ok-text.text) c.args.system ∷ []) c.loop-place.invariant
    ∙ ap (λ (x : List ℕ). (map part_seen c.args.parts.now.items ++ elements_below (map string_bytes c.args.constants.now) c.args.name.now c.args.index c.args.system c.loop-place.place) ++ part x c.args.system ∷ []) c.in_ok-text.ensures
    ∙ elements_step (map string_bytes c.args.constants.now) c.args.name.now c.args.index c.args.system (map part_seen c.args.parts.now.items) c.loop-place.place
