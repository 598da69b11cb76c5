-- The filter of all words is what the walk collects.
use Rattle.std.proofs.Common.{◌≡◌, ℕ, zero, suc, Bool, true, false, ◌==◌, if◌then◌else◌, List, [], ◌∷◌, ◌++◌, length, map, sym, refl, ap, ◌∙◌, ⊎_elim, ◌≢◌, eqb, arith}
use Rattle.std.proofs.lemmas.Bool.{eq-eqb, ne_eqb}
use Rattle.std.proofs.lemmas.Bool.Decides.{eqb_tells}
use Rattle.std.proofs.lemmas.List.{append_assoc, map-append}
use Rattle.cp_run.specs.declared.outcome.Outcome.{Outcome}
use Rattle.cp_endless_laws.proofs.Words.{ChoiceLimit, System, Line, words, lines_of, each, table}
use Rattle.cp_run.specs.Run.{joined_below, Node, Halted, Choosing, Answer, Ended, NotReady, later, may, chosen, opened, run_from}
use Rattle.cp_machine_laws.proofs.Alike.{each_same}

-- a row, one number further
abbrev pub behind : ℕ → Line → Line
behind p l = record { word = p ∷ l.word; outcome = l.outcome }

-- the rows from where a run stands, with this many choices left
unfoldable pub walk : {S : Type 0} → System S → ℕ → ℕ → Node S → List Line
walk sys steps choices (Halted kind s) = record { word = []; outcome = record { kind = kind; output = sys.output s } } ∷ []
walk sys steps zero (Choosing s) = record { word = []; outcome = record { kind = ChoiceLimit; output = sys.output s } } ∷ []
walk sys steps (suc choices) (Choosing s) = joined_below sys.processes (λ p. if may sys s p then map (behind p) (walk sys steps choices (chosen sys steps s p)) else [])

pub each_append : {A B : Type 0} (f : A → List B) (xs ys : List A) → each f (xs ++ ys) ≡ each f xs ++ each f ys
each_append f [] ys = refl
each_append f (x ∷ xs) ys = ap (λ l. f x ++ l) (each_append f xs ys) ∙ sym (append_assoc (f x) (each f xs) (each f ys))

each_joined : {A B : Type 0} (f : A → List B) (n : ℕ) (g : ℕ → List A) → each f (joined_below n g) ≡ joined_below n (λ p. each f (g p))
each_joined f zero g = refl
each_joined f (suc n) g = each_append f (joined_below n g) (g n) ∙ ap (λ l. l ++ each f (g n)) (each_joined f n g)

joined_same : {A : Type 0} (n : ℕ) (f g : ℕ → List A) → ((p : ℕ) → f p ≡ g p) → joined_below n f ≡ joined_below n g
joined_same zero f g h = refl
joined_same (suc n) f g h = ap (λ l. l ++ f n) (joined_same n f g h) ∙ ap (λ l. joined_below n g ++ l) (h n)

pub each_map : {A B C : Type 0} (f : B → List C) (h : A → B) (xs : List A) → each f (map h xs) ≡ each (λ x. f (h x)) xs
each_map f h [] = refl
each_map f h (x ∷ xs) = ap (λ l. f (h x) ++ l) (each_map f h xs)

map_each : {A B C : Type 0} (h : B → C) (f : A → List B) (xs : List A) → each (λ x. map h (f x)) xs ≡ map h (each f xs)
map_each h f [] = refl
map_each h f (x ∷ xs) = ap (λ l. map h (f x) ++ l) (map_each h f xs) ∙ sym (map-append h (f x) (each f xs))

each_none : {A B : Type 0} (xs : List A) → each {A = A} {B = B} (λ x. []) xs ≡ []
each_none [] = refl
each_none (x ∷ xs) = each_none xs

joined_none : {A : Type 0} (n : ℕ) → joined_below {A = A} n (λ p. []) ≡ []
joined_none zero = refl
joined_none (suc n) = ap (λ l. l ++ []) (joined_none n)

suc_eqb : (a b : ℕ) → (suc a == suc b) ≡ (a == b)
suc_eqb a b =
    ⊎_elim
    (λ (t : (eqb a b ≡ true) × (a ≡ b)). eq-eqb (suc a) (suc b) (ap suc t.1) ∙ sym t.0)
    (λ (t : (eqb a b ≡ false) × (a ≢ b)). ne_eqb (suc a) (suc b) (λ e. t.1 (omega (arith, e))) ∙ sym t.0)
    (eqb_tells a b)

shown_line : (p : ℕ) (word : List ℕ) (outcome : Outcome) (b : Bool) → (if b then record { word = p ∷ word; outcome = outcome } ∷ [] else []) ≡ map (behind p) (if b then record { word = word; outcome = outcome } ∷ [] else [])
shown_line p word outcome true = refl
shown_line p word outcome false = refl

over_lines : (p : ℕ) (word : List ℕ) (outcome : Outcome) → lines_of (p ∷ word) (Ended outcome 0) ≡ []
over_lines p word outcome = ap (λ b. if b then record { word = p ∷ word; outcome = outcome } ∷ [] else []) (ne_eqb 0 (suc (length word)) (λ e. omega (arith, e)))

-- the row of a word, one number further
pub later_lines : (p : ℕ) (word : List ℕ) (a : Answer) → lines_of (p ∷ word) (later a) ≡ map (behind p) (lines_of word a)
later_lines p word (Ended outcome used) = ap (λ b. if b then record { word = p ∷ word; outcome = outcome } ∷ [] else []) (suc_eqb used (length word)) ∙ shown_line p word outcome (used == length word)
later_lines p word _ = refl

-- the rows of all words, from a node
abbrev pub kept : {S : Type 0} → System S → ℕ → ℕ → Node S → List Line
kept sys steps choices node = each (λ word. lines_of word (run_from sys steps choices word node)) (words sys.processes choices)

-- nothing is kept of a longer word, where the run is over
over_none : {S : Type 0} (sys : System S) (steps choices : ℕ) (node : Node S) (n : ℕ) (ws : List (List ℕ)) → ((p : ℕ) (word : List ℕ) → lines_of (p ∷ word) (run_from sys steps choices (p ∷ word) node) ≡ []) → joined_below n (λ p. each (λ word. lines_of word (run_from sys steps choices word node)) (map (λ w. p ∷ w) ws)) ≡ []
over_none sys steps choices node n ws none =
    let f = λ (word : List ℕ). lines_of word (run_from sys steps choices word node) in
    joined_same n (λ p. each f (map (λ w. p ∷ w) ws)) (λ p. []) (λ p. each_map f (λ w. p ∷ w) ws ∙ each_same (λ w. f (p ∷ w)) (λ w. []) ws (λ w. none p w) ∙ each_none ws) ∙ joined_none n

-- after one number: what is kept at the child, or nothing where the number may not be
behind_one : {S : Type 0} (sys : System S) (steps choices : ℕ) (s : S) (p : ℕ) (b : Bool) (ws : List (List ℕ)) → each (λ word. lines_of (p ∷ word) (if b then later (run_from sys steps choices word (chosen sys steps s p)) else NotReady 0)) ws ≡ (if b then map (behind p) (each (λ word. lines_of word (run_from sys steps choices word (chosen sys steps s p))) ws) else [])
behind_one sys steps choices s p true ws =
    let f = λ (word : List ℕ). lines_of word (run_from sys steps choices word (chosen sys steps s p)) in
    each_same (λ word. lines_of (p ∷ word) (later (run_from sys steps choices word (chosen sys steps s p)))) (λ word. map (behind p) (f word)) ws (λ word. later_lines p word (run_from sys steps choices word (chosen sys steps s p))) ∙ map_each (behind p) f ws
behind_one sys steps choices s p false ws = each_none ws

pub kept_walk : {S : Type 0} (sys : System S) (steps choices : ℕ) (node : Node S) → kept sys steps choices node ≡ walk sys steps choices node
unfolding words run_from walk
kept_walk sys steps zero (Halted kind s) = refl
kept_walk sys steps zero (Choosing s) = refl
kept_walk sys steps (suc choices) (Halted kind s) =
    let f = λ (word : List ℕ). lines_of word (run_from sys steps (suc choices) word (Halted kind s)) in
    let ws = words sys.processes choices in
    ap (λ l. record { word = []; outcome = record { kind = kind; output = sys.output s } } ∷ l) (each_joined f sys.processes (λ p. map (λ w. p ∷ w) ws) ∙ over_none sys steps (suc choices) (Halted kind s) sys.processes ws (λ p word. over_lines p word (record { kind = kind; output = sys.output s })))
kept_walk sys steps (suc choices) (Choosing s) =
    let f = λ (word : List ℕ). lines_of word (run_from sys steps (suc choices) word (Choosing s)) in
    let ws = words sys.processes choices in
    each_joined f sys.processes (λ p. map (λ w. p ∷ w) ws) ∙ joined_same sys.processes (λ p. each f (map (λ w. p ∷ w) ws)) (λ p. if may sys s p then map (behind p) (walk sys steps choices (chosen sys steps s p)) else [])
    (λ p. each_map f (λ w. p ∷ w) ws ∙ behind_one sys steps choices s p (may sys s p) ws ∙ ap (λ l. if may sys s p then map (behind p) l else []) (kept_walk sys steps choices (chosen sys steps s p)))

pub table_walk : {S : Type 0} (sys : System S) (choices steps : ℕ) → table sys choices steps ≡ walk sys steps choices (opened sys steps)
unfolding table
table_walk sys choices steps = kept_walk sys steps choices (opened sys steps)
