-- Texts to which one piece after another is appended, where memory may be refused.
use Rattle.std.proofs.Common.{◌≡◌, ◌∙◌, ◌+◌, ◌<◌, ℕ, List, [], ◌∷◌, ◌++◌, Bool, true, false, cond, length, map, take, get_or, Option, Some, None, Result, Ok, Err, IfOk, MatchResult, inl, inr, refl, sym, ap, subst, true≢false}
use Rattle.std.specs.List.{filter}
use Rattle.std.proofs.lemmas.List.{append_assoc, append-nil, take_more}
use Rattle.std.proofs.lemmas.List.Elements.{filter_more}
use Rattle.cp_prose.specs.Telling.{UnlessRefused, appended}
use Rattle.cp_run.specs.Table.{each}

-- nothing is appended
pub nothing : (old : Option (List ℕ)) → UnlessRefused old (appended old [])
nothing None = inl refl
nothing (Some l) = inr (ap (λ t. Some t) (sym (append-nil l)))

twice : (old : Option (List ℕ)) (a b : List ℕ) → appended (appended old a) b ≡ appended old (a ++ b)
twice None a b = refl
twice (Some l) a b = ap (λ t. Some t) (append_assoc l a b)

-- a piece, and then another
pub two : (old mid new : Option (List ℕ)) (a b : List ℕ) → UnlessRefused mid (appended old a) → UnlessRefused new (appended mid b) → UnlessRefused new (appended old (a ++ b))
two old mid new a b h (inl e) = inl e
two old mid new a b (inl m) (inr e) = inl (e ∙ ap (λ t. appended t b) m)
two old mid new a b (inr m) (inr e) = inr (e ∙ ap (λ t. appended t b) m ∙ twice old a b)

-- a piece, in other words
pub also : (old new : Option (List ℕ)) {a b : List ℕ} → a ≡ b → UnlessRefused new (appended old a) → UnlessRefused new (appended old b)
also old new e h = subst (λ l. UnlessRefused new (appended old l)) e h

pub three : (old one two_ new : Option (List ℕ)) (a b c : List ℕ) → UnlessRefused one (appended old a) → UnlessRefused two_ (appended one b) → UnlessRefused new (appended two_ c) → UnlessRefused new (appended old (a ++ b ++ c))
three old one two_ new a b c e f g = two old two_ new (a ++ b) c (two old one two_ a b e f) g

pub five : (old one two_ three_ four new : Option (List ℕ)) (a b c d e : List ℕ) → UnlessRefused one (appended old a) → UnlessRefused two_ (appended one b) → UnlessRefused three_ (appended two_ c) → UnlessRefused four (appended three_ d) → UnlessRefused new (appended four e) → UnlessRefused new (appended old (a ++ b ++ c ++ d ++ e))
five old one two_ three_ four new a b c d e p1 p2 p3 p4 p5 = three old three_ four new (a ++ b ++ c) d e (three old one two_ three_ a b c p1 p2 p3) p4 p5

-- ---- pieces of a list

each_append : {A : Type 0} (f : A → List ℕ) (xs ys : List A) → each f (xs ++ ys) ≡ each f xs ++ each f ys
each_append f [] ys = refl
each_append f (x ∷ xs) ys = ap (λ l. f x ++ l) (each_append f xs ys) ∙ sym (append_assoc (f x) (each f xs) (each f ys))

each_if : {A : Type 0} (f : A → List ℕ) (b : Bool) (x : A) → each f (cond b (x ∷ []) []) ≡ cond b (f x) []
each_if f true x = append-nil (f x)
each_if f false x = refl

each_so_more : {A : Type 0} (f : A → List ℕ) (is_so : A → Bool) (xs : List A) (k : ℕ) (d : A) → k < length xs → each f (filter is_so (take (k + 1) xs)) ≡ each f (filter is_so (take k xs)) ++ cond (is_so (get_or xs k d)) (f (get_or xs k d)) []
each_so_more f is_so xs k d lt = ap (each f) (filter_more is_so xs k d lt) ∙ each_append f (filter is_so (take k xs)) (cond (is_so (get_or xs k d)) (get_or xs k d ∷ []) []) ∙ ap (λ l. each f (filter is_so (take k xs)) ++ l) (each_if f (is_so (get_or xs k d)) (get_or xs k d))

-- those that are so, with one element more, which is so
pub one_taken : {A : Type 0} (f : A → List ℕ) (is_so : A → Bool) (xs : List A) (k : ℕ) (d : A) (old now new : Option (List ℕ)) → k < length xs → is_so (get_or xs k d) ≡ true → UnlessRefused now (appended old (each f (filter is_so (take k xs)))) → UnlessRefused new (appended now (f (get_or xs k d))) → UnlessRefused new (appended old (each f (filter is_so (take (k + 1) xs))))
one_taken f is_so xs k d old now new lt passes h e =
    let more = each_so_more f is_so xs k d lt ∙ ap (λ b. each f (filter is_so (take k xs)) ++ cond b (f (get_or xs k d)) []) passes in
    also old new (sym more) (two old now new (each f (filter is_so (take k xs))) (f (get_or xs k d)) h e)

-- the same where it is not
pub one_left : {A : Type 0} (f : A → List ℕ) (is_so : A → Bool) (xs : List A) (k : ℕ) (d : A) (old now : Option (List ℕ)) → k < length xs → is_so (get_or xs k d) ≡ false → UnlessRefused now (appended old (each f (filter is_so (take k xs)))) → UnlessRefused now (appended old (each f (filter is_so (take (k + 1) xs))))
one_left f is_so xs k d old now lt fails h =
    let more = each_so_more f is_so xs k d lt ∙ ap (λ b. each f (filter is_so (take k xs)) ++ cond b (f (get_or xs k d)) []) fails ∙ append-nil (each f (filter is_so (take k xs))) in
    also old now (sym more) h

each_map_one : {A B : Type 0} (f : B → List ℕ) (g : A → B) (xs : List A) (x : A) → each f (map g (xs ++ x ∷ [])) ≡ each f (map g xs) ++ f (g x)
each_map_one f g [] x = append-nil (f (g x))
each_map_one f g (y ∷ ys) x = ap (λ l. f (g y) ++ l) (each_map_one f g ys x) ∙ sym (append_assoc (f (g y)) (each f (map g ys)) (f (g x)))

-- those of a list that is seen so, with one element more
pub one_more : {A B : Type 0} (f : B → List ℕ) (g : A → B) (xs : List A) (k : ℕ) (d : A) (old now new : Option (List ℕ)) → k < length xs → UnlessRefused now (appended old (each f (map g (take k xs)))) → UnlessRefused new (appended now (f (g (get_or xs k d)))) → UnlessRefused new (appended old (each f (map g (take (k + 1) xs))))
one_more f g xs k d old now new lt h e =
    let more = ap (λ l. each f (map g l)) (take_more xs k d lt) ∙ each_map_one f g (take k xs) (get_or xs k d) in
    also old new (sym more) (two old now new (each f (map g (take k xs))) (f (g (get_or xs k d))) h e)

-- one piece more
pub one_piece : {A : Type 0} (f : A → List ℕ) (xs : List A) (k : ℕ) (x : A) (old now new : Option (List ℕ)) → k < length xs → x ≡ get_or xs k x → UnlessRefused now (appended old (each f (take k xs))) → UnlessRefused new (appended now (f x)) → UnlessRefused new (appended old (each f (take (k + 1) xs)))
one_piece f xs k x old now new lt here h e =
    let more = ap (each f) (take_more xs k x lt) ∙ each_append f (take k xs) (get_or xs k x ∷ []) ∙ ap (λ l. each f (take k xs) ++ l) (append-nil (f (get_or xs k x))) in
    also old new (sym more) (two old now new (each f (take k xs)) (f (get_or xs k x)) h (also now new (ap f here) e))

-- ---- a text that is made, and one that is finished

-- a piece that was made before
pub made : {T E : Type 0} (bytes : T → List ℕ) (r : Result T E) (old new : Option (List ℕ)) (a : List ℕ) → MatchResult r (λ text. UnlessRefused new (appended old (bytes text))) (λ _. new ≡ None) → IfOk r (λ text. bytes text ≡ a) → UnlessRefused new (appended old a)
made bytes (Ok text) old new a h is = also old new is h
made bytes (Err e) old new a h is = inl h

held : Option (List ℕ) → List ℕ
held None = []
held (Some l) = l

is_there : Option (List ℕ) → Bool
is_there None = false
is_there (Some l) = true

same_text : (l a : List ℕ) (text begun : Option (List ℕ)) → begun ≡ Some [] → text ≡ Some l → UnlessRefused text (appended begun a) → l ≡ a
unfolding held is_there
same_text l a text begun e h (inl none) = absurd (true≢false (ap is_there (sym h ∙ none)))
same_text l a text begun e h (inr is) = ap held (sym h ∙ is ∙ ap (λ o. appended o a) e)

-- a text that began empty
pub finished : {T E : Type 0} (bytes : T → List ℕ) (r : Result T E) (begun text : Option (List ℕ)) (a : List ℕ) → begun ≡ Some [] → UnlessRefused text (appended begun a) → MatchResult r (λ t. text ≡ Some (bytes t)) (λ _. text ≡ None) → IfOk r (λ t. bytes t ≡ a)
finished bytes (Ok t) begun text a e h is = same_text (bytes t) a text begun e is h
finished bytes (Err x) begun text a e h is = tt
