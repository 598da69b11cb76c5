-- Texts joined by a byte.
use Rattle.std.proofs.Common.{◌≡◌, ◌∙◌, ℕ, suc, ◌+◌, ◌<◌, List, [], ◌∷◌, ◌++◌, length, take, get_or, refl, sym, ap, arith, take-suc, map}
use Rattle.cp_walk.proofs.Words.{append_assoc, each, behind_each}
use Rattle.cp_walk.proofs.Walks.{each_map}

behind_append : {A : Type 0} (sign : ℕ) (text : A → List ℕ) (xs ys : List A) → behind_each sign text (xs ++ ys) ≡ behind_each sign text xs ++ behind_each sign text ys
behind_append sign text [] ys = refl
behind_append sign text (x ∷ xs) ys = ap (λ l. (sign ∷ text x) ++ l) (behind_append sign text xs ys) ∙ sym (append_assoc (sign ∷ text x) (behind_each sign text xs) (behind_each sign text ys))

whole : {A : Type 0} (xs : List A) → take (length xs) xs ≡ xs
whole [] = refl
whole (x ∷ xs) = ap (λ l. x ∷ l) (whole xs)

append_none : {A : Type 0} (l : List A) → l ++ [] ≡ l
append_none [] = refl
append_none (x ∷ xs) = ap (λ l. x ∷ l) (append_none xs)

-- one element more: a sign, and then its text
pub behind_more : {A : Type 0} (sign k : ℕ) (text : A → List ℕ) (xs : List A) (d : A) (old now signed new : List ℕ) → k < length xs → now ≡ old ++ behind_each sign text (take k xs) → signed ≡ now ++ sign ∷ [] → new ≡ signed ++ text (get_or xs k d) → new ≡ old ++ behind_each sign text (take (k + 1) xs)
behind_more sign k text xs d old now signed new lt h s e =
    let more : take (k + 1) xs ≡ take k xs ++ get_or xs k d ∷ [] = (let n : k + 1 ≡ suc k = omega arith in ap (λ j. take j xs) n ∙ take-suc xs k d lt) in
    e ∙ ap (λ l. l ++ text (get_or xs k d)) (s ∙ ap (λ l. l ++ sign ∷ []) h) ∙ append_assoc (old ++ behind_each sign text (take k xs)) (sign ∷ []) (text (get_or xs k d)) ∙ append_assoc old (behind_each sign text (take k xs)) (sign ∷ text (get_or xs k d)) ∙ ap (λ l. old ++ l) (ap (λ l. behind_each sign text (take k xs) ++ l) (sym (append_none (sign ∷ text (get_or xs k d)))) ∙ sym (behind_append sign text (take k xs) (get_or xs k d ∷ [])) ∙ ap (behind_each sign text) (sym more))

-- the texts of one element more
each_append_one : {A : Type 0} (text : A → List ℕ) (xs : List A) (x : A) → each text (xs ++ x ∷ []) ≡ each text xs ++ text x
each_append_one text [] x = append_none (text x)
each_append_one text (y ∷ ys) x = ap (λ l. text y ++ l) (each_append_one text ys x) ∙ sym (append_assoc (text y) (each text ys) (text x))

pub each_more : {A : Type 0} (k : ℕ) (text : A → List ℕ) (xs : List A) (d : A) (old now new : List ℕ) → k < length xs → now ≡ old ++ each text (take k xs) → new ≡ now ++ text (get_or xs k d) → new ≡ old ++ each text (take (k + 1) xs)
each_more k text xs d old now new lt h e =
    let more : take (k + 1) xs ≡ take k xs ++ get_or xs k d ∷ [] = (let n : k + 1 ≡ suc k = omega arith in ap (λ j. take j xs) n ∙ take-suc xs k d lt) in
    e ∙ ap (λ l. l ++ text (get_or xs k d)) h ∙ append_assoc old (each text (take k xs)) (text (get_or xs k d)) ∙ ap (λ l. old ++ l) (sym (each_append_one text (take k xs) (get_or xs k d)) ∙ ap (each text) (sym more))

pub take_whole : {A : Type 0} (xs : List A) (k : ℕ) → k ≡ length xs → take k xs ≡ xs
take_whole xs k e = ap (λ j. take j xs) e ∙ whole xs

-- the texts of all, seen through a map
pub each_whole : {A B : Type 0} (k : ℕ) (text : B → List ℕ) (h : A → B) (xs : List A) (old new : List ℕ) → k ≡ length xs → new ≡ old ++ each (λ x. text (h x)) (take k xs) → new ≡ old ++ each text (map h xs)
each_whole k text h xs old new done e = e ∙ ap (λ l. old ++ each (λ x. text (h x)) l) (take_whole xs k done) ∙ ap (λ l. old ++ l) (sym (each_map text h xs))
