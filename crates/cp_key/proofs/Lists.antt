-- Lists that are read element by element.
use Rattle.std.proofs.Common.{◌≡◌, ◌∙◌, ℕ, ◌+◌, ◌<◌, List, [], ◌∷◌, ◌++◌, length, drop, take, get_or, reverse, ap, sym}
use Rattle.std.specs.Prelude.{Result, Ok, Err, IfOk, IsOk, OnOk, is_ok, true, if◌then◌else◌}
use Rattle.std.specs.List.{flat_map}
use Rattle.std.proofs.lemmas.List.{append_assoc, drop_more, reverse-reverse, take_more}

-- what is left of a list begins with its next element
pub next_of : {A : Type 0} (key : A → List ℕ) (xs : List A) (at : ℕ) (d : A) (more : List ℕ) → at < length xs → flat_map key (drop at xs) ++ more ≡ key (get_or xs at d) ++ (flat_map key (drop (at + 1) xs) ++ more)
next_of key xs at d more lt = ap (λ ys. flat_map key ys ++ more) (drop_more xs at d lt) ∙ append_assoc (key (get_or xs at d)) (flat_map key (drop (at + 1) xs)) more

-- one element more
pub pushed : {A E : Type 0} (old new xs : List A) (at : ℕ) (x d : A) (done : Result (Unit {0}) E) → IsOk done → new ≡ (if is_ok done then old ++ x ∷ [] else old) → at < length xs → old ≡ take at xs → x ≡ get_or xs at d → new ≡ take (at + 1) xs
pushed old new xs at x d done ok is lt same read = is ∙ ap (λ b. if b then old ++ x ∷ [] else old) ok ∙ ap (λ ys. ys ++ x ∷ []) same ∙ ap (λ y. take at xs ++ y ∷ []) read ∙ sym (take_more xs at d lt)

-- the stack of a process, turned twice
pub turned_twice : {A : Type 0} (stack : List A) → reverse (reverse stack) ≡ stack
turned_twice stack = reverse-reverse stack

-- what holds of a call that succeeds
pub on_ok : {T E P : Type 0} (r : Result T E) → is_ok r ≡ true → OnOk r P → P
on_ok (Ok x) ok h = h
on_ok (Err e) ok h = absurd (cc)

-- what follows where a call succeeds
pub if_ok : {T E : Type 0} {P Q : T → Type 0} (r : Result T E) → ((x : T) → P x → Q x) → IfOk r P → IfOk r Q
if_ok (Ok x) f h = f x h
if_ok (Err e) f h = h

-- what a list is where a call succeeds
pub when_ok : {T E : Type 0} (r : Result T E) (new more same : List ℕ) → new ≡ (if is_ok r then more else same) → IfOk r (λ _. new ≡ more)
when_ok (Ok x) new more same h = h
when_ok (Err e) new more same h = tt
