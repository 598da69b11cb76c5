-- The tallies of a table are the only ones that tell its outcomes.
use Rattle.std.proofs.Common.{◌≡◌, ◌+◌, ◌<◌, ℕ, zero, suc, Bool, true, false, if◌then◌else◌, List, [], ◌∷◌, ◌++◌, map, Option, None, Some, sym, refl, ap, subst, ◌∙◌, arith}
use Rattle.cp_merged.proofs.Words.{Outcome, System, joined_below, Node, Halted, Choosing, may, chosen, opened, Line, table, behind, walk, Tally, up_to, table_walk}
use Rattle.cp_merged.specs.Tallies.{Sameness, IsSameness, IsExact, one, more, noted, tally_onto, tally}
use Rattle.std.specs.List.{AllByRecursion as Each}
use Rattle.cp_merged.proofs.Basics.{Score, plus, score, score_in, Ordered, Apart, Tells}
use Rattle.cp_merged.proofs.Order.{total, up_after, up_equal}
use Rattle.cp_merged.proofs.Scores.{scored, score_one, plus_none, plus_joins, plus_flips}

-- the second word comes before the first
abbrev Later : List ℕ → List ℕ → Type 0
Later w v = up_to w v ≡ false

pub each_to : {A : Type 0} (P Q : A → Type 0) (xs : List A) → ((x : A) → P x → Q x) → Each P xs → Each Q xs
each_to P Q [] h e = tt
each_to P Q (x ∷ xs) h e = (h x e.0, each_to P Q xs h e.1)

each_append : {A : Type 0} (P : A → Type 0) (xs ys : List A) → Each P xs → Each P ys → Each P (xs ++ ys)
each_append P [] ys e f = f
each_append P (x ∷ xs) ys e f = (e.0, each_append P xs ys e.1 f)

each_map : {A B : Type 0} (P : A → Type 0) (Q : B → Type 0) (f : A → B) (xs : List A) → ((x : A) → P x → Q (f x)) → Each P xs → Each Q (map f xs)
each_map P Q f [] h e = tt
each_map P Q f (x ∷ xs) h e = (h x e.0, each_map P Q f xs h e.1)

each_all : {A : Type 0} (P : A → Type 0) (xs : List A) → ((x : A) → P x) → Each P xs
each_all P [] h = tt
each_all P (x ∷ xs) h = (h x, each_all P xs h)

-- ---- rows come in dictionary order

abbrev Climbing : List Line → Type 0
Climbing [] = Unit {0}
Climbing (l ∷ ls) = Each (λ m. Later m.word l.word) ls × Climbing ls

climbing_append : (xs ys : List Line) → Climbing xs → Climbing ys → Each (λ x. Each (λ y. Later y.word x.word) ys) xs → Climbing (xs ++ ys)
climbing_append [] ys h k e = k
climbing_append (x ∷ xs) ys h k e = (each_append (λ m. Later m.word x.word) xs ys h.0 e.0, climbing_append xs ys h.1 k e.1)

later_behind : (p : ℕ) (v w : List ℕ) → Later w v → Later (p ∷ w) (p ∷ v)
later_behind p v w h = up_equal p p w v refl ∙ h

climbing_behind : (p : ℕ) (ls : List Line) → Climbing ls → Climbing (map (behind (p ∷ [])) ls)
climbing_behind p [] h = tt
climbing_behind p (l ∷ ls) h = (each_map (λ m. Later m.word l.word) (λ m. Later m.word (p ∷ l.word)) (behind (p ∷ [])) ls (λ m k. later_behind p l.word m.word k) h.0, climbing_behind p ls h.1)

-- a word that begins with a number below n, and one that begins with n
abbrev Low : ℕ → List ℕ → Type 0
Low n [] = ⊥
Low n (p ∷ w) = p < n

abbrev At : ℕ → List ℕ → Type 0
At n [] = ⊥
At n (p ∷ w) = p ≡ n

low_more : (n : ℕ) (w : List ℕ) → Low n w → Low (suc n) w
low_more n [] h = h
low_more n (p ∷ w) h = omega (arith, h)

at_low : (n : ℕ) (w : List ℕ) → At n w → Low (suc n) w
at_low n [] h = h
at_low n (p ∷ w) h = omega (arith, h)

later_low : (n : ℕ) (v w : List ℕ) → Low n v → At n w → Later w v
later_low n [] w h k = absurd h
later_low n (p ∷ v) [] h k = absurd k
later_low n (p ∷ v) (q ∷ w) h k = up_after q p w v (omega (arith, h, k))

low_joined : (n : ℕ) (f : ℕ → List Line) → ((p : ℕ) → Each (λ l. At p l.word) (f p)) → Each (λ l. Low n l.word) (joined_below n f)
low_joined zero f h = tt
low_joined (suc n) f h = each_append (λ l. Low (suc n) l.word) (joined_below n f) (f n) (each_to (λ l. Low n l.word) (λ l. Low (suc n) l.word) (joined_below n f) (λ l. low_more n l.word) (low_joined n f h)) (each_to (λ l. At n l.word) (λ l. Low (suc n) l.word) (f n) (λ l. at_low n l.word) (h n))

climbing_joined : (n : ℕ) (f : ℕ → List Line) → ((p : ℕ) → Each (λ l. At p l.word) (f p)) → ((p : ℕ) → Climbing (f p)) → Climbing (joined_below n f)
climbing_joined zero f h k = tt
climbing_joined (suc n) f h k =
    climbing_append (joined_below n f) (f n) (climbing_joined n f h k) (k n)
    (each_to (λ l. Low n l.word) (λ x. Each (λ y. Later y.word x.word) (f n)) (joined_below n f) (λ x low. each_to (λ l. At n l.word) (λ y. Later y.word x.word) (f n) (λ y at. later_low n x.word y.word low at) (h n)) (low_joined n f h))

climbing_walk : {S : Type 0} (sys : System S) (steps choices : ℕ) (node : Node S) → Climbing (walk sys steps choices node)
unfolding walk
climbing_walk sys steps zero (Halted kind s) = (tt, tt)
climbing_walk sys steps zero (Choosing s) = (tt, tt)
climbing_walk sys steps (suc choices) (Halted kind s) = (tt, tt)
climbing_walk sys steps (suc choices) (Choosing s) =
    climbing_joined sys.processes (λ p. if may sys s p then map (behind (p ∷ [])) (walk sys steps choices (chosen sys steps s p)) else [])
    (λ p. begins p (may sys s p) (walk sys steps choices (chosen sys steps s p)))
    (λ p. climbs p (may sys s p) (walk sys steps choices (chosen sys steps s p)) (climbing_walk sys steps choices (chosen sys steps s p)))
  where
    begins : (p : ℕ) (b : Bool) (ls : List Line) → Each (λ l. At p l.word) (if b then map (behind (p ∷ [])) ls else [])
    begins p true ls = each_map (λ l. Unit {0}) (λ l. At p l.word) (behind (p ∷ [])) ls (λ l u. refl) (each_all (λ l. Unit {0}) ls (λ l. tt))
    begins p false ls = tt

    climbs : (p : ℕ) (b : Bool) (ls : List Line) → Climbing ls → Climbing (if b then map (behind (p ∷ [])) ls else [])
    climbs p true ls h = climbing_behind p ls h
    climbs p false ls h = tt

-- ---- the tallies of such rows

abbrev Rising : List Tally → Type 0
Rising [] = Unit {0}
Rising (t ∷ ts) = Each (λ u. Later u.first.word t.first.word) ts × Rising ts

each_two : {A : Type 0} (P Q R : A → Type 0) (xs : List A) → ((x : A) → P x → Q x → R x) → Each P xs → Each Q xs → Each R xs
each_two P Q R [] h e f = tt
each_two P Q R (x ∷ xs) h e f = (h x e.0 f.0, each_two P Q R xs h e.1 f.1)

-- a fact of first rows stays, where it is one of the new row
each_noted : (same : Sameness) (Q : Line → Type 0) (ts : List Tally) (l : Line) → Each (λ u. Q u.first) ts → Q l → Each (λ u. Q u.first) (noted same ts (one l))
each_noted same Q [] l h q = (q, tt)
each_noted same Q (u ∷ us) l h q = by (same u.first.outcome l.outcome) (each_noted same Q us l h.1 q)
  where
    by : (b : Bool) → Each (λ v. Q v.first) (noted same us (one l)) → Each (λ v. Q v.first) (if b then more u (one l) ∷ us else u ∷ noted same us (one l))
    by true on = h
    by false on = (h.0, on)

rising_noted : (same : Sameness) (ts : List Tally) (l : Line) → Rising ts → Each (λ u. Later l.word u.first.word) ts → Rising (noted same ts (one l))
rising_noted same [] l h e = (tt, tt)
rising_noted same (u ∷ us) l h e = by (same u.first.outcome l.outcome) (rising_noted same us l h.1 e.1)
  where
    by : (b : Bool) → Rising (noted same us (one l)) → Rising (if b then more u (one l) ∷ us else u ∷ noted same us (one l))
    by true on = h
    by false on = (each_noted same (λ m. Later m.word u.first.word) us l h.0 e.0, on)

apart_noted : (same : Sameness) (ts : List Tally) (l : Line) → Apart same ts → Apart same (noted same ts (one l))
apart_noted same [] l h = (tt, tt)
apart_noted same (u ∷ us) l h = by (same u.first.outcome l.outcome) refl (apart_noted same us l h.1)
  where
    by : (b : Bool) → same u.first.outcome l.outcome ≡ b → Apart same (noted same us (one l)) → Apart same (if b then more u (one l) ∷ us else u ∷ noted same us (one l))
    by true e on = h
    by false e on = (each_noted same (λ m. same u.first.outcome m.outcome ≡ false) us l h.0 e, on)

turned_last : (a b c : Option Score) → plus (plus a b) c ≡ plus (plus a c) b
turned_last a b c = plus_joins a b c ∙ ap (λ x. plus a x) (plus_flips b c) ∙ sym (plus_joins a c b)

score_noted : (same : Sameness) → IsSameness same → (o : Outcome) (ts : List Tally) (l : Line) → Each (λ u. Later l.word u.first.word) ts → score_in same o (noted same ts (one l)) ≡ plus (score_in same o ts) (score_one same o (one l))
score_noted same is o [] l e = plus_none (score_one same o (one l))
score_noted same is o (u ∷ us) l e = by (same u.first.outcome l.outcome) refl (score_noted same is o us l e.1)
  where
    sum : (b c : Bool) → b ≡ c → plus (if b then Some (scored (u.count + 1) u.first.word) else None) (score_in same o us) ≡ plus (plus (if b then Some (scored u.count u.first.word) else None) (score_in same o us)) (if c then Some (scored 1 l.word) else None)
    sum true true f = sym (turned_last (Some (scored u.count u.first.word)) (score_in same o us) (Some (scored 1 l.word)) ∙ ap (λ b. plus (Some (scored (u.count + 1) (if b then u.first.word else l.word))) (score_in same o us)) (total l.word u.first.word e.0))
    sum true false f = absurd (cc)
    sum false true f = absurd (cc)
    sum false false f = sym (plus_none (score_in same o us))

    by : (b : Bool) → same u.first.outcome l.outcome ≡ b → score_in same o (noted same us (one l)) ≡ plus (score_in same o us) (score_one same o (one l)) → score_in same o (noted same (u ∷ us) (one l)) ≡ plus (score_in same o (u ∷ us)) (score_one same o (one l))
    by true f on = simp (f) (sum (same u.first.outcome o) (same l.outcome o) (is.alike u.first.outcome l.outcome o f))
    by false f on = simp (f) (ap (λ r. plus (score_one same o u) r) on ∙ sym (plus_joins (score_one same o u) (score_in same o us) (score_one same o (one l))))

-- each of the rows comes behind the first rows of the tallies
abbrev Behind : List Tally → List Line → Type 0
Behind ts ls = Each (λ l. Each (λ u. Later l.word u.first.word) ts) ls

behind_noted : (same : Sameness) (ts : List Tally) (l : Line) (ls : List Line) → Behind ts ls → Each (λ m. Later m.word l.word) ls → Behind (noted same ts (one l)) ls
behind_noted same ts l ls h e = each_two (λ m. Each (λ u. Later m.word u.first.word) ts) (λ m. Later m.word l.word) (λ m. Each (λ u. Later m.word u.first.word) (noted same ts (one l))) ls (λ m f g. each_noted same (λ x. Later m.word x.word) ts l f g) h e

rising_onto : (same : Sameness) (ts : List Tally) (ls : List Line) → Rising ts → Climbing ls → Behind ts ls → Rising (tally_onto same ts ls)
rising_onto same ts [] r c b = r
rising_onto same ts (l ∷ ls) r c b = rising_onto same (noted same ts (one l)) ls (rising_noted same ts l r b.0) c.1 (behind_noted same ts l ls b.1 c.0)

apart_onto : (same : Sameness) (ts : List Tally) (ls : List Line) → Apart same ts → Apart same (tally_onto same ts ls)
apart_onto same ts [] a = a
apart_onto same ts (l ∷ ls) a = apart_onto same (noted same ts (one l)) ls (apart_noted same ts l a)

score_onto : (same : Sameness) → IsSameness same → (o : Outcome) (ts : List Tally) (ls : List Line) → Climbing ls → Behind ts ls → score_in same o (tally_onto same ts ls) ≡ plus (score_in same o ts) (score same o ls)
score_onto same is o ts [] c b = sym (plus_none (score_in same o ts))
score_onto same is o ts (l ∷ ls) c b = score_onto same is o (noted same ts (one l)) ls c.1 (behind_noted same ts l ls b.1 c.0) ∙ ap (λ r. plus r (score same o ls)) (score_noted same is o ts l b.0) ∙ plus_joins (score_in same o ts) (score_one same o (one l)) (score same o ls)

-- ---- what tells the outcomes is one list

abbrev Holds : (List ℕ → Type 0) → Option Score → Type 0
Holds P None = Unit {0}
Holds P (Some s) = P s.first

holds_plus : (P : List ℕ → Type 0) (a b : Option Score) → Holds P a → Holds P b → Holds P (plus a b)
holds_plus P None b p q = q
holds_plus P (Some a) None p q = p
holds_plus P (Some a) (Some b) p q = by (up_to a.first b.first)
  where
    by : (c : Bool) → P (if c then a.first else b.first)
    by true = p
    by false = q

-- the word of a score is one that some tally has
score_has : (same : Sameness) (P : List ℕ → Type 0) (o : Outcome) (ts : List Tally) → Each (λ t. P t.first.word) ts → Holds P (score_in same o ts)
score_has same P o [] h = tt
score_has same P o (t ∷ ts) h = holds_plus P (score_one same o t) (score_in same o ts) (by (same t.first.outcome o)) (score_has same P o ts h.1)
  where
    by : (b : Bool) → Holds P (if b then Some (scored t.count t.first.word) else None)
    by true = h.0
    by false = tt

-- no score where no tally is of the outcome
pub no_score : (same : Sameness) (o : Outcome) (ts : List Tally) → Each (λ u. same u.first.outcome o ≡ false) ts → score_in same o ts ≡ None
no_score same o [] h = refl
no_score same o (t ∷ ts) h = ap (λ b. plus (if b then Some (scored t.count t.first.word) else None) (score_in same o ts)) h.0 ∙ no_score same o ts h.1

-- those behind a tally that is apart from them have no score of what is its outcome
none_behind : (same : Sameness) → IsSameness same → (t : Tally) (ts : List Tally) (o : Outcome) → Each (λ u. same t.first.outcome u.first.outcome ≡ false) ts → same t.first.outcome o ≡ true → score_in same o ts ≡ None
none_behind same is t ts o h e = no_score same o ts (each_to (λ u. same t.first.outcome u.first.outcome ≡ false) (λ u. same u.first.outcome o ≡ false) ts (λ u f. is.flip u.first.outcome o ∙ sym (is.alike t.first.outcome o u.first.outcome e) ∙ f) h)

pub first_score : (same : Sameness) → IsSameness same → (t : Tally) (ts : List Tally) (o : Outcome) → Each (λ u. same t.first.outcome u.first.outcome ≡ false) ts → same t.first.outcome o ≡ true → score_in same o (t ∷ ts) ≡ Some (scored t.count t.first.word)
first_score same is t ts o h e = ap (λ b. plus (if b then Some (scored t.count t.first.word) else None) (score_in same o ts)) e ∙ ap (λ r. plus (Some (scored t.count t.first.word)) r) (none_behind same is t ts o h e)

pub other_score : (same : Sameness) (t : Tally) (ts : List Tally) (o : Outcome) → same t.first.outcome o ≡ false → score_in same o (t ∷ ts) ≡ score_in same o ts
other_score same t ts o e = ap (λ b. plus (if b then Some (scored t.count t.first.word) else None) (score_in same o ts)) e

abbrev of_score : Score → Outcome → Tally
of_score s o = record { first = record { word = s.first; outcome = o }; count = s.count }

abbrev got : Option Score → Score
got None = scored 0 []
got (Some s) = s

-- the foremost of two lists with one score for each outcome
foremost : (same : Sameness) → IsExact same → (t u : Tally) (ts us : List Tally) → Ordered (t ∷ ts) → Apart same (t ∷ ts) → Rising (u ∷ us) → Apart same (u ∷ us) → ((o : Outcome) → score_in same o (t ∷ ts) ≡ score_in same o (u ∷ us)) → t ≡ u
foremost same ex t u ts us h a k b e = by (same u.first.outcome t.first.outcome) refl
  where
    by : (c : Bool) → same u.first.outcome t.first.outcome ≡ c → t ≡ u
    by true f =
        let o : u.first.outcome ≡ t.first.outcome = ex.exact u.first.outcome t.first.outcome f in
        let s : Some (scored t.count t.first.word) ≡ Some (scored u.count u.first.word) = sym (first_score same ex.is t ts t.first.outcome a.0 (ex.own t.first.outcome)) ∙ e t.first.outcome ∙ first_score same ex.is u us t.first.outcome b.0 f in
        ap (λ x. of_score (got x) t.first.outcome) s ∙ ap (λ x. of_score (scored u.count u.first.word) x) (sym o)
    by false f =
        let later = subst (Holds (λ w. Later w u.first.word)) (sym (other_score same u us t.first.outcome f) ∙ sym (e t.first.outcome) ∙ first_score same ex.is t ts t.first.outcome a.0 (ex.own t.first.outcome)) (score_has same (λ w. Later w u.first.word) t.first.outcome us k.0) in
        let g : same t.first.outcome u.first.outcome ≡ false = ex.is.flip t.first.outcome u.first.outcome ∙ f in
        let before = subst (Holds (λ w. up_to t.first.word w ≡ true)) (sym (other_score same t ts u.first.outcome g) ∙ e u.first.outcome ∙ first_score same ex.is u us u.first.outcome b.0 (ex.own u.first.outcome)) (score_has same (λ w. up_to t.first.word w ≡ true) u.first.outcome ts h.0) in
        (let bad : true ≡ false = sym before ∙ later in absurd (cc))

only_one : (same : Sameness) → IsExact same → (ts us : List Tally) → Ordered ts → Apart same ts → Rising us → Apart same us → ((o : Outcome) → score_in same o ts ≡ score_in same o us) → ts ≡ us
only_one same ex [] [] h a k b e = refl
only_one same ex [] (u ∷ us) h a k b e = (let bad : None ≡ Some (scored u.count u.first.word) = e u.first.outcome ∙ first_score same ex.is u us u.first.outcome b.0 (ex.own u.first.outcome) in absurd (cc))
only_one same ex (t ∷ ts) [] h a k b e = (let bad : None ≡ Some (scored t.count t.first.word) = sym (e t.first.outcome) ∙ first_score same ex.is t ts t.first.outcome a.0 (ex.own t.first.outcome) in absurd (cc))
only_one same ex (t ∷ ts) (u ∷ us) h a k b e = ap (λ x. x ∷ ts) front ∙ ap (λ l. u ∷ l) (only_one same ex ts us h.1 a.1 k.1 b.1 (λ o. rest o (same t.first.outcome o) refl))
  where
    front : t ≡ u
    front = foremost same ex t u ts us h a k b e

    rest : (o : Outcome) (c : Bool) → same t.first.outcome o ≡ c → score_in same o ts ≡ score_in same o us
    rest o true f = none_behind same ex.is t ts o a.0 f ∙ sym (none_behind same ex.is u us o b.0 (subst (λ (x : Tally). same x.first.outcome o ≡ true) front f))
    rest o false f = sym (other_score same t ts o f) ∙ e o ∙ other_score same u us o (subst (λ (x : Tally). same x.first.outcome o ≡ false) front f)

-- what tells the outcomes of a table is its tallies, in their order
pub tells_tally : {S : Type 0} (sys : System S) (same : Sameness) → IsExact same → (choices steps : ℕ) (ts : List Tally) → Tells sys same choices steps ts → ts ≡ tally same (table sys choices steps)
tells_tally sys same ex choices steps ts tells =
    let rows = table sys choices steps in
    let climbing = subst Climbing (sym (table_walk sys choices steps)) (climbing_walk sys steps choices (opened sys steps)) in
    let behind = each_all (λ (l : Line). Each (λ (u : Tally). Later l.word u.first.word) []) rows (λ l. tt) in
    only_one same ex ts (tally same rows) tells.ordered tells.apart (rising_onto same [] rows tt climbing behind) (apart_onto same [] rows tt) (λ o. tells.scores o ∙ sym (score_onto same ex.is o [] rows climbing behind))
