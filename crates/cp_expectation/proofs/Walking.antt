-- Words that are read one by one: where they lead, and where they stop to spell something.
use Rattle.std.proofs.Common.{Bor, map, zero, suc, ◌≡◌, ◌∙◌, ◌+◌, ◌<◌, ◌≤◌, ℕ, List, [], ◌∷◌, ◌++◌, length, take, drop, get_or, Option, Some, None, refl, sym, ap, subst, arith}
use Rattle.std.proofs.lemmas.List.{length-map, take-append-drop, take_all, take_more}
use Rattle.cp_expectation.specs.Misread.{CanGoOn, StopsAt}
use Rattle.cp_expectation.specs.Spelling.{Words}

-- where some words lead
abbrev pub run : {S : Type 0} → (S → List ℕ → Option S) → Option S → Words → Option S
run step None ws = None
run step (Some s) [] = Some s
run step (Some s) (w ∷ ws) = run step (step s w) ws

-- what is read, if the words may end there
abbrev pub finish : {S E : Type 0} → (S → Option E) → Option S → Option E
finish ended None = None
finish ended (Some s) = ended s

pub run_append : {S : Type 0} (step : S → List ℕ → Option S) (o : Option S) (xs ys : Words) → run step o (xs ++ ys) ≡ run step (run step o xs) ys
run_append step None xs ys = refl
run_append step (Some s) [] ys = refl
run_append step (Some s) (x ∷ xs) ys = run_append step (step s x) xs ys

run_none : {S : Type 0} (step : S → List ℕ → Option S) (o : Option S) → run step o [] ≡ o
run_none step None = refl
run_none step (Some s) = refl

-- What is read is what the words spell, and from each state some words lead to an end.
pub record IsReader {S E : Type 0} (step : S → List ℕ → Option S) (ended : S → Option E) (start : S) (spells : Words → E → Type 0) : Type 0 where
  pub sound : (ws : Words) (e : E) → finish ended (run step (Some start) ws) ≡ Some e → spells ws e
  pub complete : (ws : Words) (e : E) → spells ws e → finish ended (run step (Some start) ws) ≡ Some e
  pub completed : (s : S) → (more : Words) × (e : E) × (finish ended (run step (Some s) more) ≡ Some e)

goes_on : {S E : Type 0} (step : S → List ℕ → Option S) (ended : S → Option E) (start : S) (spells : Words → E → Type 0) → IsReader step ended start spells → (ws : Words) (s : S) → run step (Some start) ws ≡ Some s → CanGoOn spells ws
goes_on step ended start spells r ws s h =
    let c = r.completed s in
    (c.0, c.1, r.sound (ws ++ c.0) c.1 (ap (finish ended) (run_append step (Some start) ws c.0 ∙ ap (λ o. run step o c.0) h) ∙ c.2))

stuck : {S E : Type 0} (step : S → List ℕ → Option S) (ended : S → Option E) (start : S) (spells : Words → E → Type 0) → IsReader step ended start spells → (ws : Words) → run step (Some start) ws ≡ None → ¬ (CanGoOn spells ws)
stuck step ended start spells r ws h (more, e, spelled) =
    let some = r.complete (ws ++ more) e spelled in
    let none : finish ended (run step (Some start) (ws ++ more)) ≡ None = ap (finish ended) (run_append step (Some start) ws more ∙ ap (λ o. run step o more) h) in
    absurd (cc (some, none))

-- ---- one word more

one_word : {S : Type 0} (step : S → List ℕ → Option S) (start : S) (ws : Words) (k : ℕ) (d : List ℕ) (s : S) → k < length ws → run step (Some start) (take k ws) ≡ Some s → run step (Some start) (take (k + 1) ws) ≡ step s (get_or ws k d)
one_word step start ws k d s less h =
    ap (run step (Some start)) (take_more ws k d less) ∙ run_append step (Some start) (take k ws) (get_or ws k d ∷ []) ∙ ap (λ o. run step o (get_or ws k d ∷ [])) h ∙ run_none step (step s (get_or ws k d))

word_at : (items : List (Bor (List ℕ))) (k : ℕ) (d : Bor (List ℕ)) → k < length items → get_or (map (λ w. w.now) items) k (get_or items k d).now ≡ (get_or items k d).now
word_at [] k d less = absurd (omega arith)
word_at (x ∷ xs) zero d less = refl
word_at (x ∷ xs) (suc k) d less = word_at xs k d (omega arith)

pub word_read : {S : Type 0} (step : S → List ℕ → Option S) (start : S) (items : List (Bor (List ℕ))) (k : ℕ) (d : Bor (List ℕ)) (s : S) (o : Option S) → k < length items → step s (get_or items k d).now ≡ o → run step (Some start) (take k (map (λ w. w.now) items)) ≡ Some s → run step (Some start) (take (k + 1) (map (λ w. w.now) items)) ≡ o
word_read step start items k d s o less leads h =
    let long = length-map items (λ x. x.now) in
    one_word step start (map (λ x. x.now) items) k (get_or items k d).now s (omega (arith, long)) h ∙ ap (step s) (word_at items k d less) ∙ leads

pub word_refused : {S E : Type 0} (step : S → List ℕ → Option S) (ended : S → Option E) (start : S) (spells : Words → E → Type 0) → IsReader step ended start spells → (items : List (Bor (List ℕ))) (k : ℕ) (d : Bor (List ℕ)) (s : S) → k < length items → step s (get_or items k d).now ≡ None → run step (Some start) (take k (map (λ w. w.now) items)) ≡ Some s → StopsAt spells (map (λ w. w.now) items) k
word_refused step ended start spells r items k d s less misfits h =
    let ws = map (λ (x : Bor (List ℕ)). x.now) items in
    let long = length-map items (λ x. x.now) in
    (omega (arith, long), goes_on step ended start spells r (take k ws) s h, λ _. stuck step ended start spells r (take (k + 1) ws) (word_read step start items k d s None less misfits h))

pub stopped : {E : Type 0} (spells : Words → E → Type 0) (ws : Words) (k : ℕ) → k < length ws → StopsAt spells ws k → (e : E) → ¬ (spells ws e)
stopped spells ws k less stops e spelled = stops.2 less (drop (k + 1) ws, e, subst (λ l. spells l e) (sym (take-append-drop (k + 1) ws)) spelled)

-- ---- the end

all_run : {S : Type 0} (step : S → List ℕ → Option S) (start : S) (ws : Words) (k : ℕ) (s : S) → length ws ≤ k → run step (Some start) (take k ws) ≡ Some s → run step (Some start) ws ≡ Some s
all_run step start ws k s le h = ap (run step (Some start)) (sym (take_all k ws le)) ∙ h

pub spelled_at_end : {S E : Type 0} (step : S → List ℕ → Option S) (ended : S → Option E) (start : S) (spells : Words → E → Type 0) → IsReader step ended start spells → (ws : Words) (k : ℕ) (s : S) (e : E) → length ws ≤ k → run step (Some start) (take k ws) ≡ Some s → ended s ≡ Some e → spells ws e
spelled_at_end step ended start spells r ws k s e le h whole = r.sound ws e (ap (finish ended) (all_run step start ws k s le h) ∙ whole)

pub unended : {S E : Type 0} (step : S → List ℕ → Option S) (ended : S → Option E) (start : S) (spells : Words → E → Type 0) → IsReader step ended start spells → (ws : Words) (k : ℕ) (s : S) → length ws ≤ k → run step (Some start) (take k ws) ≡ Some s → ended s ≡ None → (e : E) → ¬ (spells ws e)
unended step ended start spells r ws k s le h none_here e spelled =
    let some = r.complete ws e spelled in
    let none : finish ended (run step (Some start) ws) ≡ None = ap (finish ended) (all_run step start ws k s le h) ∙ none_here in
    absurd (cc (some, none))

pub stops_at_end : {S E : Type 0} (step : S → List ℕ → Option S) (ended : S → Option E) (start : S) (spells : Words → E → Type 0) → IsReader step ended start spells → (ws : Words) (k n : ℕ) (s : S) → length ws ≤ k → n ≡ length ws → run step (Some start) (take k ws) ≡ Some s → StopsAt spells ws n
stops_at_end step ended start spells r ws k n s le is h =
    (omega arith, goes_on step ended start spells r (take n ws) s (ap (run step (Some start)) (take_all n ws (omega arith)) ∙ all_run step start ws k s le h), λ less. absurd (omega arith))
