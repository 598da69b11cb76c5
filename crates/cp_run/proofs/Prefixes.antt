-- No word of a table begins another word of it.
use Rattle.std.proofs.Common.{◌≡◌, ℕ, zero, suc, Bool, true, false, ◌==◌, if◌then◌else◌, List, [], ◌∷◌, ◌++◌, length, sym, refl, ap, subst, arith}
use Rattle.std.proofs.lemmas.List.{length-append}
use Rattle.std.proofs.lemmas.Bool.{eqb-true}
use Rattle.cp_run.specs.System.{System}
use Rattle.cp_run.specs.Run.{Node, Halted, Choosing, Answer, Ended, NotReady, later, may, chosen, opened, run_from, run}
use Rattle.cp_run.specs.Table.{Line, words, lines_of, each, table, IsAmong, Here, There, IsPrefixFree}

-- the word is wholly used
abbrev pub UsesWholly : List ℕ → Answer → Type 0
UsesWholly word (Ended outcome used) = used ≡ length word
UsesWholly word _ = ⊥

later_uses : (p : ℕ) (word : List ℕ) (a : Answer) → UsesWholly (p ∷ word) (later a) → UsesWholly word a
later_uses p word (Ended outcome used) h = omega (arith, h)
later_uses p word _ h = h

-- a run that ends with its word ends with each longer one too, and uses no more
pub goes_no_further : {S : Type 0} (sys : System S) (steps choices : ℕ) (word rest : List ℕ) (node : Node S) → UsesWholly word (run_from sys steps choices word node) → run_from sys steps choices (word ++ rest) node ≡ run_from sys steps choices word node
unfolding run_from
goes_no_further sys steps choices word rest (Halted kind s) h = refl
goes_no_further sys steps zero word rest (Choosing s) h = refl
goes_no_further sys steps (suc choices) [] rest (Choosing s) h = absurd h
goes_no_further sys steps (suc choices) (p ∷ word) rest (Choosing s) h =
    elim (may sys s p) as (λ b. UsesWholly (p ∷ word) (if b then later (run_from sys steps choices word (chosen sys steps s p)) else NotReady 0) → (if b then later (run_from sys steps choices (word ++ rest) (chosen sys steps s p)) else NotReady 0) ≡ (if b then later (run_from sys steps choices word (chosen sys steps s p)) else NotReady 0)) [
      | true ↦ λ u. ap later (goes_no_further sys steps choices word rest (chosen sys steps s p) (later_uses p word (run_from sys steps choices word (chosen sys steps s p)) u))
      | false ↦ λ u. refl
    ] h

among_append : {A : Type 0} (P : A → Type 0) (x : A) (xs ys : List A) → (IsAmong x xs → P x) → (IsAmong x ys → P x) → IsAmong x (xs ++ ys) → P x
among_append P x [] ys h k i = k i
among_append P x (y ∷ xs) ys h k (Here _) = h (Here xs)
among_append P x (y ∷ xs) ys h k (There _ _ i) = among_append P x xs ys (λ j. h (There y xs j)) k i

among_each : {A B : Type 0} (P : B → Type 0) (f : A → List B) (x : B) (ys : List A) → ((y : A) → IsAmong x (f y) → P x) → IsAmong x (each f ys) → P x
among_each P f x [] h i = elim i [ ]
among_each P f x (y ∷ ys) h i = among_append P x (f y) (each f ys) (h y) (among_each P f x ys h) i

among_one : (P : Line → Type 0) (l m : Line) (b : Bool) → (b ≡ true → P m) → IsAmong l (if b then m ∷ [] else []) → P l
among_one P l m true h (Here _) = h refl
among_one P l m true h (There _ _ i) = elim i [ ]
among_one P l m false h i = elim i [ ]

-- a row is of a word that is wholly used
of_lines : {S : Type 0} (sys : System S) (choices steps : ℕ) (l : Line) (word : List ℕ) (a : Answer) → run sys choices steps word ≡ a → IsAmong l (lines_of word a) → UsesWholly l.word (run sys choices steps l.word)
of_lines sys choices steps l word (Ended outcome used) e i =
    among_one (λ m. UsesWholly m.word (run sys choices steps m.word)) l (record { word = word; outcome = outcome }) (used == length word) (λ h. subst (UsesWholly word) (sym e) (eqb-true used (length word) h)) i
of_lines sys choices steps l word _ e i = elim i [ ]

pub of_table : {S : Type 0} (sys : System S) (choices steps : ℕ) (l : Line) → IsAmong l (table sys choices steps) → UsesWholly l.word (run sys choices steps l.word)
unfolding table
of_table sys choices steps l i = among_each (λ m. UsesWholly m.word (run sys choices steps m.word)) (λ word. lines_of word (run sys choices steps word)) l (words sys.processes choices) (λ word j. of_lines sys choices steps l word (run sys choices steps word) refl j) i

none_left : (rest : List ℕ) → length rest ≡ 0 → rest ≡ []
none_left [] h = refl
none_left (p ∷ rest) h = absurd (omega (arith, h))

both_use : (word rest : List ℕ) (a : Answer) → UsesWholly word a → UsesWholly (word ++ rest) a → rest ≡ []
both_use word rest (Ended outcome used) h k = none_left rest (omega (arith, h, k, length-append word rest))
both_use word rest _ h k = absurd h

pub prefix_free : {S : Type 0} (sys : System S) (choices steps : ℕ) → IsPrefixFree (table sys choices steps)
prefix_free sys choices steps l m rest i j e =
    let h = of_table sys choices steps l i in
    let k = subst (λ (w : List ℕ). UsesWholly w (run sys choices steps w)) e (of_table sys choices steps m j) in
    both_use l.word rest (run sys choices steps l.word) h (subst (UsesWholly (l.word ++ rest)) (goes_no_further sys steps choices l.word rest (opened sys steps) h) k)
