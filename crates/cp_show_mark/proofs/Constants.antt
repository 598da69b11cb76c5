-- Whether a word is the name of a constant, one name after the other.
use Rattle.std.proofs.Common.{◌≡◌, ◌∙◌, ◌+◌, ◌<◌, ◌≤◌, ◌==◌, ◌&&◌, ◌||◌, not, ℕ, List, [], true, false, length, length-take, take, drop, get_or, sym, ap, arith, true≢false, inl, inr}
use Rattle.std.specs.Str.{bytes_eq}
use Rattle.std.proofs.lemmas.Bool.{cases_lt}
use Rattle.std.proofs.lemmas.List.{at_drop_more, at_drop_all, get_or-take, get_or_past}
use Rattle.cp_walk.specs.Text.{Spellings}
use Rattle.cp_show_mark.specs.MarkText.{is_among, is_declared, most_constants}

below_most : (k : ℕ) → k < 65535 → k < most_constants
unfolding most_constants
below_most k lt = lt

-- what is left is decided by its first name
next : (names : Spellings) (word : List ℕ) (k : ℕ) → k < length names → is_among (drop k names) word ≡ (not (length (get_or names k []) == 0) && (bytes_eq (get_or names k []) word || is_among (drop (k + 1) names) word))
next names word k lt = at_drop_more (λ l. is_among l word) names k [] lt

pub found : (names : Spellings) (word : List ℕ) (k : ℕ) → k < 65535 → (length (get_or names k []) == 0) ≡ false → bytes_eq (get_or names k []) word ≡ true → is_declared names word ≡ is_among (drop k (take most_constants names)) word → true ≡ is_declared names word
found names word k lt some is h =
    let xs = take most_constants names in
    let same : get_or xs k [] ≡ get_or names k [] = get_or-take most_constants names k [] (below_most k lt) in
    let rest = is_among (drop (k + 1) xs) word in
    elim (cases_lt k (length xs)) as (λ _. true ≡ is_declared names word) [ inl l ↦ sym (h ∙ next xs word k l ∙ ap (λ (n : List ℕ). not (length n == 0) && (bytes_eq n word || rest)) same ∙ ap (λ b. not b && (bytes_eq (get_or names k []) word || rest)) some ∙ ap (λ b. b || rest) is) | inr le ↦ absurd (true≢false (sym (ap (λ (n : List ℕ). length n == 0) (sym same ∙ get_or_past xs k [] le)) ∙ some)) ]

above_most : (k : ℕ) → 65535 ≤ k → most_constants ≤ k
unfolding most_constants
above_most k le = le

pub none_found : (names : Spellings) (word : List ℕ) (k : ℕ) → 65535 ≤ k → is_declared names word ≡ is_among (drop k (take most_constants names)) word → false ≡ is_declared names word
none_found names word k le h =
    let xs = take most_constants names in
    sym (h ∙ at_drop_all (λ l. is_among l word) xs k (omega (arith, length-take most_constants names, above_most k le)))
