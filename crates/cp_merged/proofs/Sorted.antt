-- What the layers find, in the order of its first words, is what the report of the table tells.
use Rattle.std.proofs.Common.{◌≡◌, ℕ, zero, suc, Bool, true, false, if◌then◌else◌, List, [], ◌∷◌, ◌++◌, refl, ap, ◌∙◌}
use Rattle.cp_merged.proofs.Words.{Outcome, ChoiceLimit, System, Node, Halted, Choosing, may, chosen, opened, table, Tally, Sameness, IsSameness, IsExact, tally}
use Rattle.cp_merged.specs.Layers.{up_to, Lead, IsSound, merged_tally, with_tally, Front, arrived, after_choices, after_layer, at_limit, front_at, by_layers, placed, by_first}
use Rattle.std.specs.List.{AllByRecursion as Each}
use Rattle.cp_merged.proofs.Basics.{plus, score_in, Ordered, Apart}
use Rattle.cp_merged.proofs.Order.{total, transitive}
use Rattle.cp_merged.proofs.Scores.{score_one, turned, layers_score}
use Rattle.cp_merged.proofs.Unique.{each_to, tells_tally}

each_placed : (P : Tally → Type 0) (t : Tally) (ts : List Tally) → Each P ts → P t → Each P (placed t ts)
each_placed P t [] h p = (p, tt)
each_placed P t (u ∷ us) h p = by (up_to t.first.word u.first.word) (each_placed P t us h.1 p)
  where
    by : (b : Bool) → Each P (placed t us) → Each P (if b then t ∷ u ∷ us else u ∷ placed t us)
    by true on = (p, h)
    by false on = (h.0, on)

ordered_placed : (t : Tally) (ts : List Tally) → Ordered ts → Ordered (placed t ts)
ordered_placed t [] h = (tt, tt)
ordered_placed t (u ∷ us) h = by (up_to t.first.word u.first.word) refl (ordered_placed t us h.1)
  where
    by : (b : Bool) → up_to t.first.word u.first.word ≡ b → Ordered (placed t us) → Ordered (if b then t ∷ u ∷ us else u ∷ placed t us)
    by true e on = ((e, each_to (λ v. up_to u.first.word v.first.word ≡ true) (λ v. up_to t.first.word v.first.word ≡ true) us (λ v f. transitive t.first.word u.first.word v.first.word e f) h.0), h)
    by false e on = (each_placed (λ v. up_to u.first.word v.first.word ≡ true) t us h.0 (total t.first.word u.first.word e), on)

ordered_first : (ts : List Tally) → Ordered (by_first ts)
ordered_first [] = tt
ordered_first (t ∷ ts) = ordered_placed t (by_first ts) (ordered_first ts)

abbrev Other : Sameness → Tally → Tally → Type 0
Other same t u = same t.first.outcome u.first.outcome ≡ false

apart_placed : (same : Sameness) → IsSameness same → (t : Tally) (ts : List Tally) → Each (Other same t) ts → Apart same ts → Apart same (placed t ts)
apart_placed same is t [] h a = (tt, tt)
apart_placed same is t (u ∷ us) h a = by (up_to t.first.word u.first.word) (apart_placed same is t us h.1 a.1)
  where
    by : (b : Bool) → Apart same (placed t us) → Apart same (if b then t ∷ u ∷ us else u ∷ placed t us)
    by true on = (h, a)
    by false on = (each_placed (Other same u) t us a.0 (is.flip u.first.outcome t.first.outcome ∙ h.0), on)

each_first : (P : Tally → Type 0) (ts : List Tally) → Each P ts → Each P (by_first ts)
each_first P [] h = tt
each_first P (t ∷ ts) h = each_placed P t (by_first ts) (each_first P ts h.1) h.0

apart_first : (same : Sameness) → IsSameness same → (ts : List Tally) → Apart same ts → Apart same (by_first ts)
apart_first same is [] a = tt
apart_first same is (t ∷ ts) a = apart_placed same is t (by_first ts) (each_first (Other same t) ts a.0) (apart_first same is ts a.1)

score_placed : (same : Sameness) (o : Outcome) (t : Tally) (ts : List Tally) → score_in same o (placed t ts) ≡ plus (score_one same o t) (score_in same o ts)
score_placed same o t [] = refl
score_placed same o t (u ∷ us) = by (up_to t.first.word u.first.word) (score_placed same o t us)
  where
    by : (b : Bool) → score_in same o (placed t us) ≡ plus (score_one same o t) (score_in same o us) → score_in same o (if b then t ∷ u ∷ us else u ∷ placed t us) ≡ plus (score_one same o t) (score_in same o (u ∷ us))
    by true on = refl
    by false on = ap (λ r. plus (score_one same o u) r) on ∙ turned (score_one same o u) (score_one same o t) (score_in same o us)

score_first : (same : Sameness) (o : Outcome) (ts : List Tally) → score_in same o (by_first ts) ≡ score_in same o ts
score_first same o [] = refl
score_first same o (t ∷ ts) = score_placed same o t (by_first ts) ∙ ap (λ r. plus (score_one same o t) r) (score_first same o ts)

-- ---- the layers keep outcomes apart

each_found : (same : Sameness) (x : Outcome) (ts : List Tally) (t : Tally) → Each (λ u. same x u.first.outcome ≡ false) ts → same x t.first.outcome ≡ false → Each (λ u. same x u.first.outcome ≡ false) (with_tally same ts t)
each_found same x [] t h e = (e, tt)
each_found same x (u ∷ us) t h e = by (same u.first.outcome t.first.outcome) (each_found same x us t h.1 e)
  where
    by : (b : Bool) → Each (λ v. same x v.first.outcome ≡ false) (with_tally same us t) → Each (λ v. same x v.first.outcome ≡ false) (if b then merged_tally u t ∷ us else u ∷ with_tally same us t)
    by true on = h
    by false on = (h.0, on)

apart_found : (same : Sameness) (ts : List Tally) (t : Tally) → Apart same ts → Apart same (with_tally same ts t)
apart_found same [] t a = (tt, tt)
apart_found same (u ∷ us) t a = by (same u.first.outcome t.first.outcome) refl (apart_found same us t a.1)
  where
    by : (b : Bool) → same u.first.outcome t.first.outcome ≡ b → Apart same (with_tally same us t) → Apart same (if b then merged_tally u t ∷ us else u ∷ with_tally same us t)
    by true e on = a
    by false e on = (each_found same u.first.outcome us t a.0 e, on)

apart_arrived : {S : Type 0} (sys : System S) (same : Sameness) (eq : S → S → Bool) (w : List ℕ) (n : ℕ) (node : Node S) (f : Front S) → Apart same f.ended → Apart same (arrived sys same eq w n node f).ended
apart_arrived sys same eq w n (Halted kind s) f a = apart_found same f.ended (record { first = record { word = w; outcome = record { kind = kind; output = sys.output s } }; count = n }) a
apart_arrived sys same eq w n (Choosing s) f a = a

apart_on : {S : Type 0} (sys : System S) (same : Sameness) (eq : S → S → Bool) (steps : ℕ) (x : Lead S) (n : ℕ) (f : Front S) → Apart same f.ended → Apart same (after_choices sys same eq steps x n f).ended
apart_on sys same eq steps x zero f a = a
apart_on {S} sys same eq steps x (suc n) f a = by (may sys x.state n) (after_choices sys same eq steps x n f) (apart_on sys same eq steps x n f a)
  where
    by : (b : Bool) (g : Front S) → Apart same g.ended → Apart same (if b then arrived sys same eq (x.first ++ n ∷ []) x.count (chosen sys steps x.state n) g else g).ended
    by true g h = apart_arrived sys same eq (x.first ++ n ∷ []) x.count (chosen sys steps x.state n) g h
    by false g h = h

apart_all : {S : Type 0} (sys : System S) (same : Sameness) (eq : S → S → Bool) (steps : ℕ) (xs : List (Lead S)) (f : Front S) → Apart same f.ended → Apart same (after_layer sys same eq steps xs f).ended
apart_all sys same eq steps [] f a = a
apart_all sys same eq steps (x ∷ xs) f a = apart_all sys same eq steps xs (after_choices sys same eq steps x sys.processes f) (apart_on sys same eq steps x sys.processes f a)

apart_stopped : {S : Type 0} (sys : System S) (same : Sameness) (xs : List (Lead S)) (ts : List Tally) → Apart same ts → Apart same (at_limit sys same xs ts)
apart_stopped sys same [] ts a = a
apart_stopped sys same (x ∷ xs) ts a =
    let t : Tally = record { first = record { word = x.first; outcome = record { kind = ChoiceLimit; output = sys.output x.state } }; count = x.count } in
    apart_stopped sys same xs (with_tally same ts t) (apart_found same ts t a)

pub apart_at : {S : Type 0} (sys : System S) (same : Sameness) (eq : S → S → Bool) (steps d : ℕ) → Apart same (front_at sys same eq steps d).ended
unfolding front_at
apart_at sys same eq steps zero = apart_arrived sys same eq [] 1 (opened sys steps) (record { ended = []; layer = [] }) tt
apart_at sys same eq steps (suc d) = let f = front_at sys same eq steps d in apart_all sys same eq steps f.layer (record { ended = f.ended; layer = [] }) (apart_at sys same eq steps d)

pub apart_by : {S : Type 0} (sys : System S) (same : Sameness) (eq : S → S → Bool) (choices steps : ℕ) → Apart same (by_layers sys same eq choices steps)
unfolding by_layers
apart_by sys same eq choices steps = let f = front_at sys same eq steps choices in apart_stopped sys same f.layer f.ended (apart_at sys same eq steps choices)

-- the layers tell what the rows tell
pub layers_tally : {S : Type 0} (sys : System S) (same : Sameness) → IsExact same → (eq : S → S → Bool) → IsSound eq → (choices steps : ℕ) → by_first (by_layers sys same eq choices steps) ≡ tally same (table sys choices steps)
layers_tally sys same ex eq sound choices steps =
    let all = by_layers sys same eq choices steps in
    tells_tally sys same ex choices steps (by_first all)
    (record {
      ordered = ordered_first all;
      apart = apart_first same ex.is all (apart_by sys same eq choices steps);
      scores = λ o. score_first same o all ∙ layers_score sys same ex.is eq sound choices steps o;
    })
