-- Where the variables of a place lie: that of the place itself, and those of its indices.
use Rattle.std.proofs.Common.{◌≡◌, ◌++◌, ◌∷◌, [], map, ap, sym, append_assoc, ◌∙◌, rules}
use Rattle.std.proofs.lemmas.List.Folds.{flat_map-map}
use Rattle.std.specs.Prelude.{flat_map}
use Rattle.cp_slots.specs.declared.place.OrdinalExpression.{the_lemmas}
use Rattle.cp_slots.specs.declared.place.Place as code_place
use Rattle.cp_story.specs.Annotations.{Origins, index_origins, place_origins}

place_shown : (p : code_place.Place) → place_origins p ≡ (code_place.out-Place p).origin ∷ flat_map (λ (os : Origins). os) (map index_origins (code_place.out-Place p).indices.items)
place_shown p = search (rules, the_lemmas)

-- those of the indices, behind that of the place
pub place_added : (found : Origins) (p : code_place.Place) → (found ++ (code_place.out-Place p).origin ∷ []) ++ flat_map index_origins (code_place.out-Place p).indices.items ≡ found ++ place_origins p
place_added found p =
    append_assoc found ((code_place.out-Place p).origin ∷ []) (flat_map index_origins (code_place.out-Place p).indices.items)
    ∙ ap (λ (os : Origins). found ++ (code_place.out-Place p).origin ∷ os) (sym (flat_map-map (λ (os : Origins). os) index_origins (code_place.out-Place p).indices.items))
    ∙ ap (λ (os : Origins). found ++ os) (sym (place_shown p))
