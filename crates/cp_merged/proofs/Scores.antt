-- Layers find of each outcome what the table has of it.
use Rattle.std.proofs.Common.{◌≡◌, ◌+◌, ◌*◌, ℕ, zero, suc, Bool, true, false, if◌then◌else◌, List, [], ◌∷◌, ◌++◌, map, length, Option, None, Some, sym, refl, ap, ◌∙◌, arith}
use Rattle.cp_merged.proofs.Words.{append_assoc, length-append, Outcome, ChoiceLimit, System, Line, table, behind, walk, Tally, Sameness, IsSameness, table_walk}
use Rattle.cp_run.specs.Run.{joined_below, Node, Halted, Choosing, may, chosen, opened}
use Rattle.cp_merged.specs.Layers.{lesser, Lead, IsSound, merged_lead, with_lead, with_tally, Front, arrived, after_choices, after_layer, at_limit, front_at, by_layers}
use Rattle.cp_merged.proofs.Basics.{Score, joined, plus, score, score_in}
use Rattle.cp_merged.proofs.Order.{lesser_flips, lesser_joins, lesser_behind, lesser_before, lesser_length}

-- ---- scores add up in any order

abbrev pub scored : ℕ → List ℕ → Score
scored n w = record { count = n; first = w }

joins : (a b c : Score) → joined (joined a b) c ≡ joined a (joined b c)
joins a b c = ap (λ n. scored n (lesser (lesser a.first b.first) c.first)) (omega arith) ∙ ap (λ w. scored (a.count + (b.count + c.count)) w) (lesser_joins a.first b.first c.first)

flips : (a b : Score) → joined a b ≡ joined b a
flips a b = ap (λ n. scored n (lesser a.first b.first)) (omega arith) ∙ ap (λ w. scored (b.count + a.count) w) (lesser_flips a.first b.first)

pub plus_none : (a : Option Score) → plus a None ≡ a
plus_none None = refl
plus_none (Some a) = refl

pub plus_joins : (a b c : Option Score) → plus (plus a b) c ≡ plus a (plus b c)
plus_joins None b c = refl
plus_joins (Some a) None c = refl
plus_joins (Some a) (Some b) None = refl
plus_joins (Some a) (Some b) (Some c) = ap (λ x. Some x) (joins a b c)

pub plus_flips : (a b : Option Score) → plus a b ≡ plus b a
plus_flips None b = sym (plus_none b)
plus_flips (Some a) None = refl
plus_flips (Some a) (Some b) = ap (λ x. Some x) (flips a b)

-- the first two of three change places
pub turned : (a b c : Option Score) → plus a (plus b c) ≡ plus b (plus a c)
turned a b c = sym (plus_joins a b c) ∙ ap (λ x. plus x c) (plus_flips a b) ∙ plus_joins b a c

-- ---- behind the words that lead to a state

-- the score behind a word, of so many words
abbrev led : List ℕ → ℕ → Option Score → Option Score
led w n None = None
led w n (Some a) = Some (record { count = n * a.count; first = w ++ a.first })

led_plus : (w : List ℕ) (n : ℕ) (a b : Option Score) → led w n (plus a b) ≡ plus (led w n a) (led w n b)
led_plus w n None b = refl
led_plus w n (Some a) None = refl
led_plus w n (Some a) (Some b) = ap (λ m. Some (scored m (w ++ lesser a.first b.first))) (times n a.count b.count) ∙ ap (λ v. Some (scored (n * a.count + n * b.count) v)) (sym (lesser_behind w a.first b.first))
  where
    times : (n a b : ℕ) → n * (a + b) ≡ n * a + n * b
    times n a b = grind arith

-- two leads to one state are one, with their sum
led_both : (v w : List ℕ) (m n : ℕ) (a : Option Score) → length v ≡ length w → plus (led v m a) (led w n a) ≡ led (lesser v w) (m + n) a
led_both v w m n None e = refl
led_both v w m n (Some a) e = ap (λ k. Some (scored k (lesser (v ++ a.first) (w ++ a.first)))) (times m n a.count) ∙ ap (λ x. Some (scored ((m + n) * a.count) x)) (lesser_before v w a.first e)
  where
    times : (m n a : ℕ) → m * a + n * a ≡ (m + n) * a
    times m n a = grind arith

-- one number further
led_on : (w : List ℕ) (n p : ℕ) (a : Option Score) → led w n (led (p ∷ []) 1 a) ≡ led (w ++ p ∷ []) n a
led_on w n p None = refl
led_on w n p (Some a) = ap (λ k. Some (scored k (w ++ p ∷ a.first))) (times n a.count) ∙ ap (λ x. Some (scored (n * a.count) x)) (sym (append_assoc w (p ∷ []) a.first))
  where
    times : (n a : ℕ) → n * (1 * a) ≡ n * a
    times n a = grind arith

led_once : (a : Option Score) → led [] 1 a ≡ a
led_once None = refl
led_once (Some a) = ap (λ k. Some (scored k a.first)) (omega arith)

-- ---- scores of rows

pub score_append : (same : Sameness) (o : Outcome) (xs ys : List Line) → score same o (xs ++ ys) ≡ plus (score same o xs) (score same o ys)
score_append same o [] ys = refl
score_append same o (x ∷ xs) ys =
    let here = if same x.outcome o then Some (scored 1 x.word) else None in
    ap (λ r. plus here r) (score_append same o xs ys) ∙ sym (plus_joins here (score same o xs) (score same o ys))

score_behind : (same : Sameness) (o : Outcome) (p : ℕ) (xs : List Line) → score same o (map (behind (p ∷ [])) xs) ≡ led (p ∷ []) 1 (score same o xs)
score_behind same o p [] = refl
score_behind same o p (x ∷ xs) =
    ap (λ r. plus (if same x.outcome o then Some (scored 1 (p ∷ x.word)) else None) r) (score_behind same o p xs) ∙ ap (λ h. plus h (led (p ∷ []) 1 (score same o xs))) (by (same x.outcome o)) ∙ sym (led_plus (p ∷ []) 1 (if same x.outcome o then Some (scored 1 x.word) else None) (score same o xs))
  where
    by : (b : Bool) → (if b then Some (scored 1 (p ∷ x.word)) else None) ≡ led (p ∷ []) 1 (if b then Some (scored 1 x.word) else None)
    by true = refl
    by false = refl

-- ---- scores of tallies

abbrev pub score_one : Sameness → Outcome → Tally → Option Score
score_one same o t = if same t.first.outcome o then Some (scored t.count t.first.word) else None

score_found : (same : Sameness) → IsSameness same → (o : Outcome) (ts : List Tally) (t : Tally) → score_in same o (with_tally same ts t) ≡ plus (score_one same o t) (score_in same o ts)
score_found same is o [] t = refl
score_found same is o (u ∷ us) t = by (same u.first.outcome t.first.outcome) refl (score_found same is o us t)
  where
    sum : (b c : Bool) → b ≡ c → plus (if b then Some (scored (u.count + t.count) (lesser u.first.word t.first.word)) else None) (score_in same o us) ≡ plus (if c then Some (scored t.count t.first.word) else None) (plus (if b then Some (scored u.count u.first.word) else None) (score_in same o us))
    sum true true e = sym (sym (plus_joins (Some (scored t.count t.first.word)) (Some (scored u.count u.first.word)) (score_in same o us)) ∙ ap (λ s. plus (Some s) (score_in same o us)) (flips (scored t.count t.first.word) (scored u.count u.first.word)))
    sum true false e = absurd (cc)
    sum false true e = absurd (cc)
    sum false false e = refl

    by : (a : Bool) → same u.first.outcome t.first.outcome ≡ a → score_in same o (with_tally same us t) ≡ plus (score_one same o t) (score_in same o us) → score_in same o (with_tally same (u ∷ us) t) ≡ plus (score_one same o t) (score_in same o (u ∷ us))
    by true e on = simp (e) (sum (same u.first.outcome o) (same t.first.outcome o) (is.alike u.first.outcome t.first.outcome o e))
    by false e on = simp (e) (ap (λ r. plus (score_one same o u) r) on ∙ turned (score_one same o u) (score_one same o t) (score_in same o us))

-- ---- scores of a layer

-- what a lead will come to, with so many choices left
abbrev worth : {S : Type 0} → System S → Sameness → Outcome → ℕ → ℕ → Lead S → Option Score
worth sys same o steps k x = led x.first x.count (score same o (walk sys steps k (Choosing x.state)))

abbrev worth_all : {S : Type 0} → System S → Sameness → Outcome → ℕ → ℕ → List (Lead S) → Option Score
worth_all sys same o steps k [] = None
worth_all sys same o steps k (x ∷ xs) = plus (worth sys same o steps k x) (worth_all sys same o steps k xs)

abbrev worth_front : {S : Type 0} → System S → Sameness → Outcome → ℕ → ℕ → Front S → Option Score
worth_front sys same o steps k f = plus (score_in same o f.ended) (worth_all sys same o steps k f.layer)

-- all words of a layer have one length
abbrev Level : {S : Type 0} → ℕ → List (Lead S) → Type 0
Level d [] = Unit {0}
Level d (x ∷ xs) = (length x.first ≡ d) × Level d xs

level_met : {S : Type 0} (eq : S → S → Bool) (d : ℕ) (xs : List (Lead S)) (x : Lead S) → Level d xs → length x.first ≡ d → Level d (with_lead eq xs x)
level_met eq d [] x h e = (e, tt)
level_met eq d (y ∷ ys) x h e = by (eq y.state x.state) (level_met eq d ys x h.1 e)
  where
    by : (b : Bool) → Level d (with_lead eq ys x) → Level d (if b then merged_lead y x ∷ ys else y ∷ with_lead eq ys x)
    by true on = (lesser_length y.first x.first d h.0 e, h.1)
    by false on = (h.0, on)

worth_met : {S : Type 0} (sys : System S) (same : Sameness) (o : Outcome) (steps k d : ℕ) (eq : S → S → Bool) → IsSound eq → (xs : List (Lead S)) (x : Lead S) → Level d xs → length x.first ≡ d → worth_all sys same o steps k (with_lead eq xs x) ≡ plus (worth sys same o steps k x) (worth_all sys same o steps k xs)
worth_met sys same o steps k d eq sound [] x h e = refl
worth_met sys same o steps k d eq sound (y ∷ ys) x h e = by (eq y.state x.state) refl (worth_met sys same o steps k d eq sound ys x h.1 e)
  where
    by : (b : Bool) → eq y.state x.state ≡ b → worth_all sys same o steps k (with_lead eq ys x) ≡ plus (worth sys same o steps k x) (worth_all sys same o steps k ys) → worth_all sys same o steps k (with_lead eq (y ∷ ys) x) ≡ plus (worth sys same o steps k x) (worth_all sys same o steps k (y ∷ ys))
    by true f on =
        let s : y.state ≡ x.state = sound y.state x.state f in
        simp (f) (ap (λ a. plus a (worth_all sys same o steps k ys)) (sym (led_both y.first x.first y.count x.count (score same o (walk sys steps k (Choosing y.state))) (h.0 ∙ sym e)) ∙ ap (λ t. plus (worth sys same o steps k y) (led x.first x.count (score same o (walk sys steps k (Choosing t))))) s ∙ plus_flips (worth sys same o steps k y) (worth sys same o steps k x)) ∙ plus_joins (worth sys same o steps k x) (worth sys same o steps k y) (worth_all sys same o steps k ys))
    by false f on = simp (f) (ap (λ r. plus (worth sys same o steps k y) r) on ∙ turned (worth sys same o steps k y) (worth sys same o steps k x) (worth_all sys same o steps k ys))

led_row : (w : List ℕ) (n : ℕ) (b : Bool) → led w n (plus (if b then Some (scored 1 []) else None) None) ≡ (if b then Some (scored n w) else None)
led_row w n true = ap (λ k. Some (scored k (w ++ []))) (omega arith) ∙ ap (λ v. Some (scored n v)) (nothing w)
  where
    nothing : (w : List ℕ) → w ++ [] ≡ w
    nothing [] = refl
    nothing (p ∷ w) = ap (λ l. p ∷ l) (nothing w)
led_row w n false = refl

-- a node that so many words lead to adds what its rows are, behind the first of these
worth_arrived : {S : Type 0} (sys : System S) (same : Sameness) → IsSameness same → (o : Outcome) (steps k d : ℕ) (eq : S → S → Bool) → IsSound eq → (w : List ℕ) (n : ℕ) (node : Node S) (f : Front S) → Level d f.layer → length w ≡ d → worth_front sys same o steps k (arrived sys same eq w n node f) ≡ plus (led w n (score same o (walk sys steps k node))) (worth_front sys same o steps k f)
unfolding walk
worth_arrived sys same is o steps k d eq sound w n (Halted kind s) f h e =
    let t : Tally = record { first = record { word = w; outcome = record { kind = kind; output = sys.output s } }; count = n } in
    ap (λ x. plus x (worth_all sys same o steps k f.layer)) (score_found same is o f.ended t) ∙ plus_joins (score_one same o t) (score_in same o f.ended) (worth_all sys same o steps k f.layer) ∙ ap (λ x. plus x (worth_front sys same o steps k f)) (sym (led_row w n (same (record { kind = kind; output = sys.output s }) o)))
worth_arrived {S} sys same is o steps k d eq sound w n (Choosing s) f h e =
    let x : Lead S = record { state = s; first = w; count = n } in
    ap (λ r. plus (score_in same o f.ended) r) (worth_met sys same o steps k d eq sound f.layer x h e) ∙ turned (score_in same o f.ended) (worth sys same o steps k x) (worth_all sys same o steps k f.layer)

level_arrived : {S : Type 0} (sys : System S) (same : Sameness) (d : ℕ) (eq : S → S → Bool) (w : List ℕ) (n : ℕ) (node : Node S) (f : Front S) → Level d f.layer → length w ≡ d → Level d (arrived sys same eq w n node f).layer
level_arrived sys same d eq w n (Halted kind s) f h e = h
level_arrived sys same d eq w n (Choosing s) f h e = level_met eq d f.layer (record { state = s; first = w; count = n }) h e

-- the rows behind the choices below n
abbrev rows_below : {S : Type 0} → System S → ℕ → ℕ → S → ℕ → List Line
rows_below sys steps k s n = joined_below n (λ p. if may sys s p then map (behind (p ∷ [])) (walk sys steps k (chosen sys steps s p)) else [])

one_longer : (w : List ℕ) (p d : ℕ) → length w ≡ d → length (w ++ p ∷ []) ≡ suc d
one_longer w p d e = let h = length-append w (p ∷ []) in omega (arith, h, e)

level_on : {S : Type 0} (sys : System S) (same : Sameness) (steps d : ℕ) (eq : S → S → Bool) (x : Lead S) (n : ℕ) (f : Front S) → Level (suc d) f.layer → length x.first ≡ d → Level (suc d) (after_choices sys same eq steps x n f).layer
level_on sys same steps d eq x zero f h e = h
level_on {S} sys same steps d eq x (suc n) f h e = by (may sys x.state n) (after_choices sys same eq steps x n f) (level_on sys same steps d eq x n f h e)
  where
    by : (b : Bool) (g : Front S) → Level (suc d) g.layer → Level (suc d) (if b then arrived sys same eq (x.first ++ n ∷ []) x.count (chosen sys steps x.state n) g else g).layer
    by true g l = level_arrived sys same (suc d) eq (x.first ++ n ∷ []) x.count (chosen sys steps x.state n) g l (one_longer x.first n d e)
    by false g l = l

worth_on : {S : Type 0} (sys : System S) (same : Sameness) → IsSameness same → (o : Outcome) (steps k d : ℕ) (eq : S → S → Bool) → IsSound eq → (x : Lead S) (n : ℕ) (f : Front S) → Level (suc d) f.layer → length x.first ≡ d → worth_front sys same o steps k (after_choices sys same eq steps x n f) ≡ plus (led x.first x.count (score same o (rows_below sys steps k x.state n))) (worth_front sys same o steps k f)
worth_on sys same is o steps k d eq sound x zero f h e = refl
worth_on {S} sys same is o steps k d eq sound x (suc n) f h e =
    by (may sys x.state n) (after_choices sys same eq steps x n f) (level_on sys same steps d eq x n f h e) ∙ ap (λ r. plus (led x.first x.count (score same o here)) r) (worth_on sys same is o steps k d eq sound x n f h e) ∙ turned (led x.first x.count (score same o here)) (led x.first x.count (score same o before)) (worth_front sys same o steps k f) ∙ sym (plus_joins (led x.first x.count (score same o before)) (led x.first x.count (score same o here)) (worth_front sys same o steps k f)) ∙ ap (λ r. plus r (worth_front sys same o steps k f)) (sym (led_plus x.first x.count (score same o before) (score same o here)) ∙ ap (λ r. led x.first x.count r) (sym (score_append same o before here)))
  where
    before : List Line
    before = rows_below sys steps k x.state n

    node : Node S
    node = chosen sys steps x.state n

    here : List Line
    here = if may sys x.state n then map (behind (n ∷ [])) (walk sys steps k node) else []

    by : (b : Bool) (g : Front S) → Level (suc d) g.layer → worth_front sys same o steps k (if b then arrived sys same eq (x.first ++ n ∷ []) x.count node g else g) ≡ plus (led x.first x.count (score same o (if b then map (behind (n ∷ [])) (walk sys steps k node) else []))) (worth_front sys same o steps k g)
    by true g l = worth_arrived sys same is o steps k (suc d) eq sound (x.first ++ n ∷ []) x.count node g l (one_longer x.first n d e) ∙ ap (λ r. plus r (worth_front sys same o steps k g)) (sym (ap (λ r. led x.first x.count r) (score_behind same o n (walk sys steps k node)) ∙ led_on x.first x.count n (score same o (walk sys steps k node))))
    by false g l = refl

level_all : {S : Type 0} (sys : System S) (same : Sameness) (steps d : ℕ) (eq : S → S → Bool) (xs : List (Lead S)) (f : Front S) → Level (suc d) f.layer → Level d xs → Level (suc d) (after_layer sys same eq steps xs f).layer
level_all sys same steps d eq [] f h l = h
level_all sys same steps d eq (x ∷ xs) f h l = level_all sys same steps d eq xs (after_choices sys same eq steps x sys.processes f) (level_on sys same steps d eq x sys.processes f h l.0) l.1

worth_next : {S : Type 0} (sys : System S) (same : Sameness) → IsSameness same → (o : Outcome) (steps k d : ℕ) (eq : S → S → Bool) → IsSound eq → (xs : List (Lead S)) (f : Front S) → Level (suc d) f.layer → Level d xs → worth_front sys same o steps k (after_layer sys same eq steps xs f) ≡ plus (worth_all sys same o steps (suc k) xs) (worth_front sys same o steps k f)
unfolding walk
worth_next sys same is o steps k d eq sound [] f h l = refl
worth_next sys same is o steps k d eq sound (x ∷ xs) f h l =
    let here = worth sys same o steps (suc k) x in
    let g = after_choices sys same eq steps x sys.processes f in
    worth_next sys same is o steps k d eq sound xs g (level_on sys same steps d eq x sys.processes f h l.0) l.1 ∙ ap (λ r. plus (worth_all sys same o steps (suc k) xs) r) (worth_on sys same is o steps k d eq sound x sys.processes f h l.0) ∙ turned (worth_all sys same o steps (suc k) xs) here (worth_front sys same o steps k f) ∙ sym (plus_joins here (worth_all sys same o steps (suc k) xs) (worth_front sys same o steps k f))

worth_stopped : {S : Type 0} (sys : System S) (same : Sameness) → IsSameness same → (o : Outcome) (steps : ℕ) (xs : List (Lead S)) (ts : List Tally) → score_in same o (at_limit sys same xs ts) ≡ plus (score_in same o ts) (worth_all sys same o steps zero xs)
unfolding walk
worth_stopped sys same is o steps [] ts = sym (plus_none (score_in same o ts))
worth_stopped sys same is o steps (x ∷ xs) ts =
    let t : Tally = record { first = record { word = x.first; outcome = record { kind = ChoiceLimit; output = sys.output x.state } }; count = x.count } in
    worth_stopped sys same is o steps xs (with_tally same ts t) ∙ ap (λ r. plus r (worth_all sys same o steps zero xs)) (score_found same is o ts t ∙ plus_flips (score_one same o t) (score_in same o ts)) ∙ plus_joins (score_in same o ts) (score_one same o t) (worth_all sys same o steps zero xs) ∙ ap (λ r. plus (score_in same o ts) (plus r (worth_all sys same o steps zero xs))) (sym (led_row x.first x.count (same (record { kind = ChoiceLimit; output = sys.output x.state }) o)))

-- all words of the layer after d choices have d numbers
pub level_at : {S : Type 0} (sys : System S) (same : Sameness) (eq : S → S → Bool) (steps d : ℕ) → Level d (front_at sys same eq steps d).layer
unfolding front_at
level_at sys same eq steps zero = level_arrived sys same zero eq [] 1 (opened sys steps) (record { ended = []; layer = [] }) tt refl
level_at sys same eq steps (suc d) = let f = front_at sys same eq steps d in level_all sys same steps d eq f.layer (record { ended = f.ended; layer = [] }) tt (level_at sys same eq steps d)

-- one choice further changes no sum
worth_at : {S : Type 0} (sys : System S) (same : Sameness) → IsSameness same → (o : Outcome) (steps : ℕ) (eq : S → S → Bool) → IsSound eq → (d k : ℕ) → worth_front sys same o steps k (front_at sys same eq steps d) ≡ score same o (walk sys steps (k + d) (opened sys steps))
unfolding front_at
worth_at {S} sys same is o steps eq sound zero k =
    let none : Front S = record { ended = []; layer = [] } in
    let node = opened sys steps in
    worth_arrived sys same is o steps k zero eq sound [] 1 node none tt refl ∙ plus_none (led [] 1 (score same o (walk sys steps k node))) ∙ led_once (score same o (walk sys steps k node)) ∙ ap (λ n. score same o (walk sys steps n node)) (omega arith)
worth_at {S} sys same is o steps eq sound (suc d) k =
    let f = front_at sys same eq steps d in
    let g : Front S = record { ended = f.ended; layer = [] } in
    worth_next sys same is o steps k d eq sound f.layer g tt (level_at sys same eq steps d) ∙ ap (λ r. plus (worth_all sys same o steps (suc k) f.layer) r) (plus_none (score_in same o f.ended)) ∙ plus_flips (worth_all sys same o steps (suc k) f.layer) (score_in same o f.ended) ∙ worth_at sys same is o steps eq sound d (suc k) ∙ ap (λ n. score same o (walk sys steps n (opened sys steps))) (omega arith)

-- the layers find of each outcome how many rows of the table have it, and the first of their words
pub layers_score : {S : Type 0} (sys : System S) (same : Sameness) → IsSameness same → (eq : S → S → Bool) → IsSound eq → (choices steps : ℕ) (o : Outcome) → score_in same o (by_layers sys same eq choices steps) ≡ score same o (table sys choices steps)
unfolding by_layers
layers_score sys same is eq sound choices steps o =
    let f = front_at sys same eq steps choices in
    worth_stopped sys same is o steps f.layer f.ended ∙ worth_at sys same is o steps eq sound choices zero ∙ ap (λ n. score same o (walk sys steps n (opened sys steps))) (omega arith) ∙ ap (λ ls. score same o ls) (sym (table_walk sys choices steps))
