-- The cutting of one empty word.
use Rattle.cp_walk.proofs.Words.{◌≡◌, ◌∙◌, ℕ, List, [], ◌∷◌, ◌++◌, length, refl, sym, ap, subst, arith, length-map, ArrayVec, Tables, Limits, System, opened}
use Rattle.cp_walk.proofs.Words.{run, slots, table, Each, IsUsed, Parts, rows_behind, words_of, CutsTable}
use Rattle.cp_walk.proofs.Parting.{parts_cut, rows_empty, used_empty}
use Rattle.cp_walk.proofs.Walks.{table_walk}

append_none : {A : Type 0} (l : List A) → l ++ [] ≡ l
append_none [] = refl
append_none (x ∷ xs) = ap (λ l. x ∷ l) (append_none xs)

whole_cuts : {S : Type 0} (sys : System S) (choices steps : ℕ) → rows_behind sys choices steps [] ≡ table sys choices steps
unfolding rows_behind
whole_cuts sys choices steps = rows_empty sys steps choices (opened sys steps) ∙ sym (table_walk sys choices steps)

whole_parts : {S : Type 0} (sys : System S) (choices steps : ℕ) → Parts sys choices steps ([] ∷ [])
whole_parts sys choices steps = record { apart = (tt, tt); rows = append_none (rows_behind sys choices steps []) ∙ whole_cuts sys choices steps }

-- the one empty word is a cutting
pub whole_cutting : (r : Tables) (l : Limits) (words : List (ArrayVec ℕ)) → words_of words ≡ [] ∷ [] → CutsTable r l words
whole_cutting r l words e =
    let sys = slots r l.discipline in
    let used : Each (λ w. IsUsed w (run sys l.choices l.steps w)) (words_of words) = subst (Each (λ w. IsUsed w (run sys l.choices l.steps w))) (sym e) (used_empty sys l.steps l.choices (opened sys l.steps), tt) in
    let parts = subst (Parts sys l.choices l.steps) (sym e) (whole_parts sys l.choices l.steps) in
    record {
      few = let n = ap length e in let m = length-map words (λ (v : ArrayVec ℕ). v.items) in omega (arith, n, m);
      cutting = parts_cut sys l.choices l.steps (words_of words) used parts;
      parts = parts;
    }
