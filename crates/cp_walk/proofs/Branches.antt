-- The rows that begin with one number after the other.
use Rattle.std.proofs.Common.{◌≡◌, ℕ, zero, suc, ◌+◌, true, false, if◌then◌else◌, List, [], ◌∷◌, ◌++◌, map, sym, refl, ap, ◌∙◌, subst, arith, Result, Ok, Err, IfOk, take, length, All, ◌≤◌, ◌<◌, ◌⊎◌, ⊎_elim}
use Rattle.std.proofs.lemmas.Bool.{cases_order}
use Rattle.std.proofs.Math.Seq.{take-append_seam}
use Rattle.std.proofs.lemmas.List.Elements.{All-push}
use Rattle.cp_walk.proofs.Words.{length-append, length-map, append_assoc, map-append, OutcomeKind, Outcome, ChoiceLimit, Halt, System, joined_below, Node}
use Rattle.cp_walk.proofs.Words.{Halted, Choosing, may, chosen, Line, behind, walk}
use Rattle.cp_run.specs.declared.outcome.Halt.TheVariants.{Choice, Ended}

-- the rows that begin with one number
abbrev pub branch : {S : Type 0} → System S → ℕ → ℕ → S → ℕ → List Line
branch sys steps choices s p = if may sys s p then map (behind (p ∷ [])) (walk sys steps choices (chosen sys steps s p)) else []

pub walk_over : {S : Type 0} (sys : System S) (steps choices : ℕ) (kind : OutcomeKind) (s : S) → walk sys steps choices (Halted kind s) ≡ record { word = []; outcome = record { kind = kind; output = sys.output s } } ∷ []
unfolding walk
walk_over sys steps zero kind s = refl
walk_over sys steps (suc choices) kind s = refl

pub walk_limit : {S : Type 0} (sys : System S) (steps choices : ℕ) (s : S) → choices ≡ 0 → walk sys steps choices (Choosing s) ≡ record { word = []; outcome = record { kind = ChoiceLimit; output = sys.output s } } ∷ []
unfolding walk
walk_limit sys steps zero s h = refl
walk_limit sys steps (suc choices) s h = absurd (omega (arith, h))

pub walk_due : {S : Type 0} (sys : System S) (steps choices left : ℕ) (s : S) → left ≡ choices + 1 → walk sys steps left (Choosing s) ≡ joined_below sys.processes (branch sys steps choices s)
unfolding walk
walk_due sys steps choices left s h =
    let e : left ≡ suc choices = omega (arith, h) in
    ap (λ n. walk sys steps n (Choosing s)) e

pub append_none : {A : Type 0} (l : List A) → l ++ [] ≡ l
append_none [] = refl
append_none (x ∷ xs) = ap (λ l. x ∷ l) (append_none xs)

-- a row that begins with a word
pub one_behind : {E : Type 0} (word shown : List ℕ) (outcome : Outcome) (old new : List Line) (lines : List Line) (r : Result (Unit {0}) E) → shown ≡ word → lines ≡ record { word = []; outcome = outcome } ∷ [] → IfOk r (λ _. new ≡ old ++ record { word = shown; outcome = outcome } ∷ []) → IfOk r (λ _. new ≡ old ++ map (behind word) lines)
one_behind word shown outcome old new lines (Err e) same is h = h
one_behind word shown outcome old new lines (Ok x) same is h =
    h ∙ ap (λ w. old ++ record { word = w; outcome = outcome } ∷ []) (same ∙ sym (append_none word)) ∙ ap (λ l. old ++ map (behind word) l) (sym is)

pub not_ended : (h : Halt OutcomeKind) → ((kind : OutcomeKind) → h ≡ Ended kind → ⊥) → h ≡ Choice
not_ended Choice never = refl
not_ended (Ended kind) never = absurd (never kind refl)

behind_more : (word : List ℕ) (p : ℕ) (lines : List Line) → map (behind (word ++ p ∷ [])) lines ≡ map (behind word) (map (behind (p ∷ [])) lines)
behind_more word p [] = refl
behind_more word p (l ∷ ls) =
    ap (λ w. record { word = w; outcome = l.outcome } ∷ map (behind (word ++ p ∷ [])) ls) (append_assoc word (p ∷ []) l.word) ∙ ap (λ m. behind word (behind (p ∷ []) l) ∷ m) (behind_more word p ls)

joined_one_more : {A : Type 0} (p : ℕ) (f : ℕ → List A) → joined_below (p + 1) f ≡ joined_below p f ++ f p
joined_one_more p f = let e : p + 1 ≡ suc p = omega arith in ap (λ n. joined_below n f) e

one_more : (word : List ℕ) (p : ℕ) (f : ℕ → List Line) (old rows new lines : List Line) → rows ≡ old ++ map (behind word) (joined_below p f) → new ≡ rows ++ map (behind word) lines → f p ≡ lines → new ≡ old ++ map (behind word) (joined_below (p + 1) f)
one_more word p f old rows new lines h k e =
    k ∙ ap (λ l. l ++ map (behind word) lines) h ∙ append_assoc old (map (behind word) (joined_below p f)) (map (behind word) lines) ∙ ap (λ l. old ++ l) (sym (map-append (behind word) (joined_below p f) lines) ∙ ap (λ l. map (behind word) (joined_below p f ++ l)) (sym e) ∙ ap (map (behind word)) (sym (joined_one_more p f)))

-- the number may be: the rows of the child are added
pub taken : {S : Type 0} (sys : System S) (steps choices : ℕ) (s : S) (p : ℕ) (word : List ℕ) (old rows new : List Line) (node : Node S) → may sys s p ≡ true → chosen sys steps s p ≡ node → rows ≡ old ++ map (behind word) (joined_below p (branch sys steps choices s)) → new ≡ rows ++ map (behind (word ++ p ∷ [])) (walk sys steps choices node) → new ≡ old ++ map (behind word) (joined_below (p + 1) (branch sys steps choices s))
taken sys steps choices s p word old rows new node is at h k =
    let lines = map (behind (p ∷ [])) (walk sys steps choices node) in
    let here : branch sys steps choices s p ≡ lines = ap (λ b. if b then map (behind (p ∷ [])) (walk sys steps choices (chosen sys steps s p)) else []) is ∙ ap (λ n. map (behind (p ∷ [])) (walk sys steps choices n)) at in
    one_more word p (branch sys steps choices s) old rows new lines h (k ∙ ap (λ l. rows ++ l) (behind_more word p (walk sys steps choices node))) here

-- the number may not be: none is added
pub passed : {S : Type 0} (sys : System S) (steps choices : ℕ) (s : S) (p : ℕ) (word : List ℕ) (old rows : List Line) → may sys s p ≡ false → rows ≡ old ++ map (behind word) (joined_below p (branch sys steps choices s)) → rows ≡ old ++ map (behind word) (joined_below (p + 1) (branch sys steps choices s))
passed sys steps choices s p word old rows is h =
    let here : branch sys steps choices s p ≡ [] = ap (λ b. if b then map (behind (p ∷ [])) (walk sys steps choices (chosen sys steps s p)) else []) is in
    one_more word p (branch sys steps choices s) old rows rows [] h (sym (append_none rows)) here

pub cut_back : (word : List ℕ) (n p : ℕ) → n ≡ length word → take n (word ++ p ∷ []) ≡ word
cut_back word n p e = ap (λ k. take k (word ++ p ∷ [])) e ∙ take-append_seam word (p ∷ [])

joined_grows : {A : Type 0} (n p : ℕ) (f : ℕ → List A) → p ≤ n → length (joined_below p f) ≤ length (joined_below n f)
joined_grows zero p f le = let e : p ≡ 0 = omega (arith, le) in omega (arith, ap (λ k. length (joined_below k f)) e)
joined_grows (suc n) p f le =
    ⊎_elim
    (λ (e : p ≡ suc n). omega (arith, ap (λ k. length (joined_below k f)) e))
    (λ (apart : (p < suc n) ⊎ (suc n < p)). ⊎_elim (λ (lt : p < suc n). omega (arith, joined_grows n p f (omega (arith, lt)), length-append (joined_below n f) (f n))) (λ (gt : suc n < p). absurd (omega (arith, gt, le))) apart)
    (cases_order p (suc n))

-- the rows of one number, and those before it, are no more than all
pub too_many : {S : Type 0} (sys : System S) (steps choices left p : ℕ) (s : S) (word : List ℕ) (old rows : List Line) (node : Node S) → left ≡ choices + 1 → p < sys.processes → may sys s p ≡ true → chosen sys steps s p ≡ node → rows ≡ old ++ map (behind word) (joined_below p (branch sys steps choices s)) → length rows + length (walk sys steps choices node) ≤ length old + length (walk sys steps left (Choosing s))
too_many sys steps choices left p s word old rows node deep lt is at h =
    let f = branch sys steps choices s in
    let lines = map (behind (p ∷ [])) (walk sys steps choices node) in
    let here : f p ≡ lines = ap (λ b. if b then map (behind (p ∷ [])) (walk sys steps choices (chosen sys steps s p)) else []) is ∙ ap (λ n. map (behind (p ∷ [])) (walk sys steps choices n)) at in
    let a : length rows ≡ length old + length (joined_below p f) = ap length h ∙ length-append old (map (behind word) (joined_below p f)) ∙ ap (λ k. length old + k) (length-map (joined_below p f) (behind word)) in
    let b : length (joined_below (p + 1) f) ≡ length (joined_below p f) + length (walk sys steps choices node) = ap length (joined_one_more p f) ∙ length-append (joined_below p f) (f p) ∙ ap (λ k. length (joined_below p f) + k) (ap length here ∙ length-map (walk sys steps choices node) (behind (p ∷ []))) in
    let d = joined_grows sys.processes (p + 1) f (omega (arith, lt)) in
    let e : length (walk sys steps left (Choosing s)) ≡ length (joined_below sys.processes f) = ap length (walk_due sys steps choices left s deep) in
    omega (arith, a, b, d, e)

-- what holds of all holds of the first and of the rest
pub all_parts : {A : Type 0} (P : A → Type 0) (xs : List A) (x : A) (rest : List A) → xs ≡ x ∷ rest → All P xs → P x × All P rest
all_parts P xs x rest e h =
    let whole : All P (x ∷ rest) = subst (All P) e h in
    (whole 0 x (omega arith), λ k d lt. whole (suc k) d (omega (arith, lt)))

-- what holds of all and of one more
pub all_more : {A : Type 0} (P : A → Type 0) (xs : List A) (x : A) (ys : List A) → ys ≡ xs ++ x ∷ [] → All P xs → P x → All P ys
all_more P xs x ys e h p = subst (All P) (sym e) (All-push P xs x h p)
