-- Parts that are written into slots.
use Rattle.cp_walk.proofs.Words.{Row, range_with_len, TaskRows, rows_at}
use Rattle.std.proofs.Common.{◌≡◌, ℕ, ◌<◌, cond, List, [], ◌∷◌, ◌++◌, length, get_or, set, map, flat_map, sym, refl, ap, ◌∙◌, ⊎_elim, arith}
use Rattle.std.proofs.lemmas.List.{get_or-set_same, get_or-set_other}
use Rattle.std.proofs.Math.ListN.{length-set}
use Rattle.std.proofs.lemmas.List.FromFn.{fill_by_all, get_or-map-range_with_len, length-map-range_with_len}
use Rattle.std.proofs.lemmas.Bool.{eq-eqb, ne_eqb, cases_eq}

pub one_slot : (ps : List TaskRows) (p : TaskRows) (tasks : ℕ) → p.task < tasks → set (map (rows_at ps) (range_with_len 0 tasks)) p.task p.rows.items ≡ map (rows_at (p ∷ ps)) (range_with_len 0 tasks)
one_slot ps p tasks lt =
    let old = map (rows_at ps) (range_with_len 0 tasks) in
    let new = set old p.task p.rows.items in
    let len : length old ≡ tasks = length-map-range_with_len (rows_at ps) 0 tasks in
    fill_by_all (rows_at (p ∷ ps)) new tasks [] (length-set old p.task p.rows.items ∙ len) (λ k h. ⊎_elim
    (λ (e : k ≡ p.task). ap (λ j. get_or new j []) e ∙ get_or-set_same old p.task p.rows.items [] (omega (arith, len, lt)) ∙ sym (ap (λ b. cond b p.rows.items (rows_at ps k)) (eq-eqb p.task k (sym e))))
    (λ (ne : k ≡ p.task → ⊥). get_or-set_other old p.task k p.rows.items [] ne ∙ get_or-map-range_with_len (rows_at ps) 0 tasks k k [] h (omega arith) ∙ sym (ap (λ b. cond b p.rows.items (rows_at ps k)) (ne_eqb p.task k (λ e. ne (sym e)))))
    (cases_eq k p.task))

pub flat_map-map : {X : Type 0} (f : X → List Row) (xs : List X) → flat_map f xs ≡ flat_map (λ (l : List Row). l) (map f xs)
flat_map-map f [] = refl
flat_map-map f (x ∷ xs) = ap (λ l. f x ++ l) (flat_map-map f xs)
