-- The rows that begin with a word, number by number.
use Rattle.std.proofs.Common.{◌≡◌, ℕ, zero, suc, ◌+◌, ◌-◌, ◌<◌, true, false, if◌then◌else◌, List, [], ◌∷◌, ◌++◌, length, map, take, drop, get_or, refl, sym, ap, ◌∙◌, arith, take-suc}
use Rattle.cp_walk.proofs.Words.{append_assoc, Halt, OutcomeKind, System, Node, Halted, Choosing, may, chosen, opened, Line, behind, walk, rows_from, rows_behind}
use Rattle.cp_walk.proofs.Words.{eqb-true}
use Rattle.cp_run.specs.declared.outcome.Halt.TheVariants.{Choice, Ended as HasEnded}
use Rattle.cp_run.specs.Code.{node_of, is_over}
use Rattle.cp_run.proofs.Running.{drop_next, drop_all}
use Rattle.cp_run.proofs.TraceRuns.{not_over, some_left}
use Rattle.cp_walk.proofs.Whole.{behind_none}
use Rattle.cp_walk.proofs.Joining.{take_whole}

pub none_over : {S : Type 0} (sys : System S) (steps k p : ℕ) (word rest : List ℕ) (h : Halt OutcomeKind) (s : S) → word ≡ p ∷ rest → is_over k h ≡ true → rows_from sys steps k word (node_of h s) ≡ []
unfolding rows_from
none_over sys steps zero p word rest Choice s e o = ap (λ w. rows_from sys steps zero w (Choosing s)) e
none_over sys steps (suc k) p word rest Choice s e o = absurd (omega (arith, eqb-true (suc k) 0 o))
none_over sys steps zero p word rest (HasEnded kind) s e o = ap (λ w. rows_from sys steps zero w (Halted kind s)) e
none_over sys steps (suc k) p word rest (HasEnded kind) s e o = ap (λ w. rows_from sys steps (suc k) w (Halted kind s)) e

none_refused : {S : Type 0} (sys : System S) (steps j p : ℕ) (rest : List ℕ) (s : S) → may sys s p ≡ false → rows_from sys steps (suc j) (p ∷ rest) (Choosing s) ≡ []
unfolding rows_from
none_refused sys steps j p rest s off = ap (λ b. if b then map (behind (p ∷ [])) (rows_from sys steps j rest (chosen sys steps s p)) else []) off

pub refused_rows : {S : Type 0} (sys : System S) (steps k p : ℕ) (word rest : List ℕ) (h : Halt OutcomeKind) (s : S) → word ≡ p ∷ rest → is_over k h ≡ false → may sys s p ≡ false → rows_from sys steps k word (node_of h s) ≡ []
refused_rows sys steps k p word rest h s e o off =
    let more = some_left k h o in
    let m : k ≡ suc (k - 1) = omega (arith, more) in
    ap (λ x. rows_from sys steps k word (node_of x s)) (not_over k h o) ∙ ap (λ w. rows_from sys steps k w (Choosing s)) e ∙ ap (λ i. rows_from sys steps i (p ∷ rest) (Choosing s)) m ∙ none_refused sys steps (k - 1) p rest s off

some_rows : {S : Type 0} (sys : System S) (steps j p : ℕ) (rest : List ℕ) (s : S) → may sys s p ≡ true → rows_from sys steps (suc j) (p ∷ rest) (Choosing s) ≡ map (behind (p ∷ [])) (rows_from sys steps j rest (chosen sys steps s p))
unfolding rows_from
some_rows sys steps j p rest s on = ap (λ b. if b then map (behind (p ∷ [])) (rows_from sys steps j rest (chosen sys steps s p)) else []) on

behind_twice : (word : List ℕ) (p : ℕ) (lines : List Line) → map (behind word) (map (behind (p ∷ [])) lines) ≡ map (behind (word ++ p ∷ [])) lines
behind_twice word p [] = refl
behind_twice word p (l ∷ ls) = ap (λ w. record { word = w; outcome = l.outcome } ∷ map (behind word) (map (behind (p ∷ [])) ls)) (sym (append_assoc word (p ∷ []) l.word)) ∙ ap (λ m. behind (word ++ p ∷ []) l ∷ m) (behind_twice word p ls)

-- one number of the word further
pub replayed : {S : Type 0} (sys : System S) (steps choices n : ℕ) (word : List ℕ) (h : Halt OutcomeKind) (s : S) (node : Node S) → n < length word → is_over (choices - n) h ≡ false → may sys s (get_or word n 0) ≡ true → chosen sys steps s (get_or word n 0) ≡ node → map (behind (take n word)) (rows_from sys steps (choices - n) (drop n word) (node_of h s)) ≡ map (behind (take (n + 1) word)) (rows_from sys steps (choices - (n + 1)) (drop (n + 1) word) node)
replayed sys steps choices n word h s node lt o on at =
    let p = get_or word n 0 in
    let rest = drop (n + 1) word in
    let more = some_left (choices - n) h o in
    let m : choices - n ≡ suc (choices - (n + 1)) = omega (arith, more) in
    let i : n + 1 ≡ suc n = omega arith in
    ap (λ x. map (behind (take n word)) (rows_from sys steps (choices - n) (drop n word) (node_of x s))) (not_over (choices - n) h o)
    ∙ ap (λ w. map (behind (take n word)) (rows_from sys steps (choices - n) w (Choosing s))) (drop_next word n lt)
    ∙ ap (λ j. map (behind (take n word)) (rows_from sys steps j (p ∷ rest) (Choosing s))) m
    ∙ ap (map (behind (take n word))) (some_rows sys steps (choices - (n + 1)) p rest s on ∙ ap (λ x. map (behind (p ∷ [])) (rows_from sys steps (choices - (n + 1)) rest x)) at)
    ∙ behind_twice (take n word) p (rows_from sys steps (choices - (n + 1)) rest node)
    ∙ ap (λ w. map (behind w) (rows_from sys steps (choices - (n + 1)) rest node)) (sym (ap (λ j. take j word) i ∙ take-suc word n 0 lt))

rows_empty : {S : Type 0} (sys : System S) (steps k : ℕ) (node : Node S) → rows_from sys steps k [] node ≡ walk sys steps k node
unfolding rows_from
rows_empty sys steps zero node = refl
rows_empty sys steps (suc k) node = refl

-- all of the word is replayed
pub replayed_all : {S : Type 0} (sys : System S) (steps k n : ℕ) (word : List ℕ) (node : Node S) → n ≡ length word → map (behind (take n word)) (rows_from sys steps k (drop n word) node) ≡ map (behind word) (walk sys steps k node)
replayed_all sys steps k n word node e =
    ap (λ w. map (behind (take n word)) (rows_from sys steps k w node)) (drop_all word n e) ∙ ap (map (behind (take n word))) (rows_empty sys steps k node) ∙ ap (λ j. map (behind (take j word)) (walk sys steps k node)) e ∙ ap (λ w. map (behind w) (walk sys steps k node)) (take_whole word (length word) refl)

-- nothing is replayed yet
pub nothing_replayed : {S : Type 0} (sys : System S) (choices steps : ℕ) (word : List ℕ) (node : Node S) → opened sys steps ≡ node → rows_behind sys choices steps word ≡ map (behind []) (rows_from sys steps choices word node)
unfolding rows_behind
nothing_replayed sys choices steps word node at = ap (rows_from sys steps choices word) at ∙ sym (behind_none (rows_from sys steps choices word node))
