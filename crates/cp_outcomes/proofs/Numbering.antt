-- Texts of outcomes, one after another.
use Rattle.std.proofs.Common.{◌≡◌, ◌∙◌, ℕ, suc, ◌+◌, ◌<◌, List, [], ◌∷◌, ◌++◌, length, take, get_or, map, sym, ap, arith, take-suc}
use Rattle.std.proofs.lemmas.List.{append_assoc, append-nil, map-append, length-map, length-take}
use Rattle.cp_outcomes.specs.Text.{told_text, numbered_text}
use Rattle.cp_outcomes.specs.Told.{Setting, Told}

-- one more at the end
numbered_push : (s : Setting) (width whole number : ℕ) (ts : List Told) (t : Told) → numbered_text s width whole number (ts ++ t ∷ []) ≡ numbered_text s width whole number ts ++ told_text s width whole (number + length ts) t
numbered_push s width whole number [] t =
    let same : number ≡ number + 0 = omega arith in
    append-nil (told_text s width whole number t) ∙ ap (λ n. told_text s width whole n t) same
numbered_push s width whole number (u ∷ us) t =
    let same : number + 1 + length us ≡ number + suc (length us) = omega arith in
    ap (λ l. told_text s width whole number u ++ l) (numbered_push s width whole (number + 1) us t) ∙ sym (append_assoc (told_text s width whole number u) (numbered_text s width whole (number + 1) us) (told_text s width whole (number + 1 + length us) t)) ∙ ap (λ n. (told_text s width whole number u ++ numbered_text s width whole (number + 1) us) ++ told_text s width whole n t) same

pub numbered_more : {X : Type 0} (s : Setting) (width whole k : ℕ) (f : X → Told) (xs : List X) (d : X) (old now new : List ℕ) → k < length xs → now ≡ old ++ numbered_text s width whole 1 (map f (take k xs)) → new ≡ now ++ told_text s width whole (k + 1) (f (get_or xs k d)) → new ≡ old ++ numbered_text s width whole 1 (map f (take (k + 1) xs))
numbered_more s width whole k f xs d old now new lt h e =
    let mapped = length-map (take k xs) f in
    let whole_front = length-take k xs in
    let len : length (map f (take k xs)) ≡ k = omega (arith, mapped, whole_front) in
    let next : k + 1 ≡ suc k = omega arith in
    let more = ap (map f) (ap (λ j. take j xs) next ∙ take-suc xs k d lt) ∙ map-append f (take k xs) (get_or xs k d ∷ []) in
    let number : k + 1 ≡ 1 + length (map f (take k xs)) = omega arith in
    e ∙ ap (λ n. now ++ told_text s width whole n (f (get_or xs k d))) number ∙ ap (λ l. l ++ told_text s width whole (1 + length (map f (take k xs))) (f (get_or xs k d))) h ∙ append_assoc old (numbered_text s width whole 1 (map f (take k xs))) (told_text s width whole (1 + length (map f (take k xs))) (f (get_or xs k d))) ∙ ap (λ l. old ++ l) (sym (numbered_push s width whole 1 (map f (take k xs)) (f (get_or xs k d))) ∙ ap (numbered_text s width whole 1) (sym more))
