-- From two nodes that are alike the walk collects the same rows, up to what was displayed.
use Rattle.std.proofs.Common.{◌≡◌, ℕ, zero, suc, Bool, true, false, if◌then◌else◌, List, [], ◌∷◌, ◌++◌, map, refl, sym, ap, ◌∙◌}
use Rattle.cp_walk.proofs.Words.{map-append, Shown, OutcomeKind, ChoiceLimit, System, joined_below, Node, Halted, Choosing, may, chosen, Line}
use Rattle.cp_run.proofs.Alike.{Simulates, NodesAlike, chosen_alike, may_alike}
use Rattle.cp_walk.specs.Walk.{behind, shown_by, walk}

-- what was displayed is changed before or after more numbers come in front
pub shown_behind : (g : List Shown → List Shown) (word : List ℕ) (lines : List Line) → map (behind word) (map (shown_by g) lines) ≡ map (shown_by g) (map (behind word) lines)
shown_behind g word [] = refl
shown_behind g word (l ∷ ls) = ap (λ m. behind word (shown_by g l) ∷ m) (shown_behind g word ls)

-- lists one after the other, each of which is changed element by element
pub joined_map : {A B : Type 0} (h : A → B) (n : ℕ) (f : ℕ → List A) (k : ℕ → List B) → ((p : ℕ) → k p ≡ map h (f p)) → joined_below n k ≡ map h (joined_below n f)
joined_map h zero f k e = refl
joined_map h (suc n) f k e = ap (λ l. l ++ k n) (joined_map h n f k e) ∙ ap (λ l. map h (joined_below n f) ++ l) (e n) ∙ sym (map-append h (joined_below n f) (f n))

-- one row, of a run that is over
over_alike : (g : List Shown → List Shown) (j k : OutcomeKind) (before after : List Shown) → j ≡ k → after ≡ g before → record { word = []; outcome = record { kind = j; output = after } } ∷ [] ≡ map (shown_by g) (record { word = []; outcome = record { kind = k; output = before } } ∷ [])
over_alike g j k before after e d = rw (e, d) refl

-- the rows that begin with one number
branch_alike : (g : List Shown → List Shown) (word : List ℕ) (b c : Bool) (before after : List Line) → c ≡ b → after ≡ map (shown_by g) before → (if c then map (behind word) after else []) ≡ map (shown_by g) (if b then map (behind word) before else [])
branch_alike g word true true before after e h = ap (map (behind word)) h ∙ shown_behind g word before
branch_alike g word true false before after e h = absurd (cc)
branch_alike g word false true before after e h = absurd (cc)
branch_alike g word false false before after e h = refl

-- from two nodes that are alike the rows are the same, with what was displayed changed as between the states
pub walk_alike : {S : Type 0} (sys : System S) (R : S → S → Type 0) → Simulates sys R → (g : List Shown → List Shown) → ((s t : S) → R s t → sys.output t ≡ g (sys.output s)) → (steps left : ℕ) (x y : Node S) → NodesAlike R x y → walk sys steps left y ≡ map (shown_by g) (walk sys steps left x)
unfolding walk
walk_alike sys R sim g out steps zero (Halted k s) (Halted j t) h = over_alike g j k (sys.output s) (sys.output t) h.0 (out s t h.1)
walk_alike sys R sim g out steps (suc left) (Halted k s) (Halted j t) h = over_alike g j k (sys.output s) (sys.output t) h.0 (out s t h.1)
walk_alike sys R sim g out steps left (Halted k s) (Choosing t) h = absurd h
walk_alike sys R sim g out steps left (Choosing s) (Halted j t) h = absurd h
walk_alike sys R sim g out steps zero (Choosing s) (Choosing t) h = over_alike g ChoiceLimit ChoiceLimit (sys.output s) (sys.output t) refl (out s t h)
walk_alike sys R sim g out steps (suc left) (Choosing s) (Choosing t) h =
    joined_map (shown_by g) sys.processes
    (λ p. if may sys s p then map (behind (p ∷ [])) (walk sys steps left (chosen sys steps s p)) else [])
    (λ p. if may sys t p then map (behind (p ∷ [])) (walk sys steps left (chosen sys steps t p)) else [])
    (λ p. branch_alike g (p ∷ []) (may sys s p) (may sys t p) (walk sys steps left (chosen sys steps s p)) (walk sys steps left (chosen sys steps t p)) (may_alike sys R sim s t p h) (walk_alike sys R sim g out steps left (chosen sys steps s p) (chosen sys steps t p) (chosen_alike sys R sim steps s t p h)))
