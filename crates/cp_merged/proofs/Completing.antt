-- A table without choice-limit stays as it is with more choices; and closed states bound all tables.
use Rattle.std.proofs.Common.{◌≡◌, ◌∙◌, ◌+◌, ℕ, zero, suc, Bool, true, false, if◌then◌else◌, List, [], ◌∷◌, ◌++◌, map, refl, sym, ap, subst}
use native.Mathlib.Numerals.{unary_clauses}
use Rattle.cp_merged.proofs.Words.{OutcomeKind, ChoiceLimit, System, joined_below, Node, Halted, Choosing, may}
use Rattle.cp_merged.proofs.Words.{chosen, opened, Line, table, behind, walk, table_walk, All-from_recursion, recursion_from_All}
use Rattle.std.specs.List.{AllByRecursion as Each}
use Rattle.std.specs.Prelude.{All}
use Rattle.cp_merged.specs.Complete.{IsOver, IsComplete, IsIn, IsClosed, IsKnown}

-- IsComplete by recursion
abbrev Completes : List Line → Type 0
Completes lines = Each (λ l. IsOver l.outcome.kind) lines

each_parts : {A : Type 0} (P : A → Type 0) (xs ys : List A) → Each P (xs ++ ys) → Each P xs × Each P ys
each_parts P [] ys e = (tt, e)
each_parts P (x ∷ xs) ys e = let rest = each_parts P xs ys e.1 in ((e.0, rest.0), rest.1)

each_append : {A : Type 0} (P : A → Type 0) (xs ys : List A) → Each P xs → Each P ys → Each P (xs ++ ys)
each_append P [] ys e f = f
each_append P (x ∷ xs) ys e f = (e.0, each_append P xs ys e.1 f)

unmapped : (p : ℕ) (ls : List Line) → Completes (map (behind (p ∷ [])) ls) → Completes ls
unmapped p [] h = tt
unmapped p (l ∷ ls) h = (h.0, unmapped p ls h.1)

same_below : (n : ℕ) (f g : ℕ → List Line) → ((p : ℕ) → Completes (f p) → g p ≡ f p) → Completes (joined_below n f) → joined_below n g ≡ joined_below n f
same_below zero f g h c = refl
same_below (suc n) f g h c = let parts = each_parts (λ l. IsOver l.outcome.kind) (joined_below n f) (f n) c in ap (λ l. l ++ g n) (same_below n f g h parts.0) ∙ ap (λ l. joined_below n f ++ l) (h n parts.1)

one_branch : (p : ℕ) (b : Bool) (xs ys : List Line) → (Completes xs → ys ≡ xs) → Completes (if b then map (behind (p ∷ [])) xs else []) → (if b then map (behind (p ∷ [])) ys else []) ≡ (if b then map (behind (p ∷ [])) xs else [])
one_branch p true xs ys h c = ap (map (behind (p ∷ []))) (h (unmapped p xs c))
one_branch p false xs ys h c = refl

-- with one choice more
walk_more : {S : Type 0} (sys : System S) (steps choices : ℕ) (node : Node S) → Completes (walk sys steps choices node) → walk sys steps (suc choices) node ≡ walk sys steps choices node
unfolding walk
walk_more sys steps zero (Halted kind s) c = refl
walk_more sys steps zero (Choosing s) c = absurd c.0
walk_more sys steps (suc choices) (Halted kind s) c = refl
walk_more sys steps (suc choices) (Choosing s) c =
    same_below sys.processes
    (λ p. if may sys s p then map (behind (p ∷ [])) (walk sys steps choices (chosen sys steps s p)) else [])
    (λ p. if may sys s p then map (behind (p ∷ [])) (walk sys steps (suc choices) (chosen sys steps s p)) else [])
    (λ p. one_branch p (may sys s p) (walk sys steps choices (chosen sys steps s p)) (walk sys steps (suc choices) (chosen sys steps s p)) (walk_more sys steps choices (chosen sys steps s p)))
    c

table_more : {S : Type 0} (sys : System S) (choices steps : ℕ) → IsComplete (table sys choices steps) → table sys (suc choices) steps ≡ table sys choices steps
table_more sys choices steps c = table_walk sys (suc choices) steps ∙ walk_more sys steps choices (opened sys steps) (subst Completes (table_walk sys choices steps) (recursion_from_All (λ l. IsOver l.outcome.kind) (table sys choices steps) c)) ∙ sym (table_walk sys choices steps)

-- with more choices
pub complete : {S : Type 0} (sys : System S) (choices steps more : ℕ) → IsComplete (table sys choices steps) → table sys (choices + more) steps ≡ table sys choices steps
complete sys choices steps zero c = ap (λ k. table sys k steps) (simp unary_clauses refl)
complete sys choices steps (suc more) c =
    let rest = complete sys choices steps more c in
    ap (λ k. table sys k steps) (simp unary_clauses refl) ∙ table_more sys (choices + more) steps (subst IsComplete (sym rest) c) ∙ rest

known_of : (known : OutcomeKind → Type 0) (kind : OutcomeKind) → known kind → IsKnown known kind
known_of known ChoiceLimit k = tt
known_of known _ k = k

all_below : (P : Line → Type 0) (n : ℕ) (f : ℕ → List Line) → ((p : ℕ) → Each P (f p)) → Each P (joined_below n f)
all_below P zero f h = tt
all_below P (suc n) f h = each_append P (joined_below n f) (f n) (all_below P n f h) (h n)

known_behind : (known : OutcomeKind → Type 0) (p : ℕ) (ls : List Line) → Each (λ l. IsKnown known l.outcome.kind) ls → Each (λ l. IsKnown known l.outcome.kind) (map (behind (p ∷ [])) ls)
known_behind known p [] h = tt
known_behind known p (l ∷ ls) h = (h.0, known_behind known p ls h.1)

walk_known : {S : Type 0} (sys : System S) (steps : ℕ) (among : S → Type 0) (known : OutcomeKind → Type 0) → IsClosed sys steps among known → (choices : ℕ) (node : Node S) → IsIn among known node → Each (λ l. IsKnown known l.outcome.kind) (walk sys steps choices node)
unfolding walk
walk_known sys steps among known closed zero (Halted kind s) i = (known_of known kind i, tt)
walk_known sys steps among known closed zero (Choosing s) i = (tt, tt)
walk_known sys steps among known closed (suc choices) (Halted kind s) i = (known_of known kind i, tt)
walk_known sys steps among known closed (suc choices) (Choosing s) i =
    all_below (λ l. IsKnown known l.outcome.kind) sys.processes (λ p. if may sys s p then map (behind (p ∷ [])) (walk sys steps choices (chosen sys steps s p)) else [])
    (λ p. by p (may sys s p) refl (λ m. walk_known sys steps among known closed choices (chosen sys steps s p) (closed.on s p i m)))
  where
    by : (p : ℕ) (b : Bool) → may sys s p ≡ b → (may sys s p ≡ true → Each (λ l. IsKnown known l.outcome.kind) (walk sys steps choices (chosen sys steps s p))) → Each (λ l. IsKnown known l.outcome.kind) (if b then map (behind (p ∷ [])) (walk sys steps choices (chosen sys steps s p)) else [])
    by p true e h = known_behind known p (walk sys steps choices (chosen sys steps s p)) (h e)
    by p false e h = tt

-- however many choices there are, no schedule ends otherwise
pub closed_table : {S : Type 0} (sys : System S) (steps : ℕ) (among : S → Type 0) (known : OutcomeKind → Type 0) → IsClosed sys steps among known → (choices : ℕ) → All (λ l. IsKnown known l.outcome.kind) (table sys choices steps)
closed_table sys steps among known closed choices = All-from_recursion (λ l. IsKnown known l.outcome.kind) (table sys choices steps) (subst (Each (λ l. IsKnown known l.outcome.kind)) (sym (table_walk sys choices steps)) (walk_known sys steps among known closed choices (opened sys steps) closed.start))
