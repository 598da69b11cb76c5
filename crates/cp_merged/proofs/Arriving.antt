-- What is added to a frontier of the code arrives at the front that it stands for.
use Rattle.std.proofs.Common.{◌≡◌, ◌∙◌, inl, inr, ◌+◌, ◌<◌, ◌≤◌, ◌^◌, ℕ, Bool, true, false, cond, if◌then◌else◌, List, [], ◌∷◌, ◌++◌, length, map, Some, refl, sym, ap, subst, arith}
use Rattle.std.specs.Prelude.{nat_eq, IfSome}
use Rattle.cp_merged.proofs.Words.{lookup, length-map, Tables, Machine, Discipline, Shown, slots, node_of, Node, may, chosen, OutcomeKind, Halt, System}
use Rattle.cp_merged.proofs.Words.{IsMachineOf, IsRowFor, KeepKnown, KnownStates, Tally, same_outcome, keyed, end_of, EndKey, nat_list_eq_equiv}
use lib.Pointwise.{pointwise}
use Rattle.cp_run.specs.declared.outcome.Halt.TheVariants.{Choice, Ended as HasEnded}
use Rattle.cp_key.specs.Key.{key_of}
use Rattle.cp_key.proofs.Keys.{key_tells}
use Rattle.cp_merged.specs.Layers.{Lead, Front, IsSound, lesser, merged_lead, with_lead, merged_tally, with_tally, arrived, after_choice}
use Rattle.cp_merged.specs.Holds.{same_key, IsLeadTo, AreLeadsTo, AreLeads, AreEnds, Holds, words_of, counts, total}
use Rattle.cp_merged.specs.declared.prefixes.Prefixes as code
use Rattle.cp_merged.proofs.Exact.{one_list}
use Rattle.cp_merged.proofs.KnownRows.{one_machine, one_row, row_for_on}

pub key_sound : IsSound same_key
unfolding same_key
key_sound m n h = key_tells m n (one_list (key_of m) (key_of n) h)

pub key_own : (m : Machine) → same_key m m ≡ true
unfolding same_key
key_own m = nat_list_eq_equiv.refl (key_of m)

-- ---- ends

longer_with : (ts : List Tally) (t : Tally) → length ts ≤ length (with_tally same_outcome ts t)
longer_with [] t = omega arith
longer_with (u ∷ us) t = by (same_outcome u.first.outcome t.first.outcome) (longer_with us t)
  where
    by : (b : Bool) → length us ≤ length (with_tally same_outcome us t) → length (u ∷ us) ≤ length (if b then merged_tally u t ∷ us else u ∷ with_tally same_outcome us t)
    by true l = omega arith
    by false l = omega (arith, l)

-- too many outcomes stay as they are
pub ends_full : (es : List (EndKey × code.Prefixes)) (ts : List Tally) (t : Tally) → 50000 < length es → AreEnds es ts → AreEnds es (with_tally same_outcome ts t)
ends_full es ts t l (inl e) =
    let a = ap length e in
    let b = length-map es end_of in
    let c = longer_with ts t in
    inr (l, omega (arith, l, a, b, c))
ends_full es ts t l (inr m) = let c = longer_with ts t in let n = m.1 in inr (l, omega (arith, c, n))

pub ends_more : (es new : List (EndKey × code.Prefixes)) (ts : List Tally) (t : Tally) → length es ≤ 50000 → map end_of new ≡ with_tally same_outcome (map end_of es) t → AreEnds es ts → AreEnds new (with_tally same_outcome ts t)
ends_more es new ts t l put (inl e) = inl (put ∙ ap (λ us. with_tally same_outcome us t) e)
ends_more es new ts t l put (inr m) = let n = m.0 in absurd (omega (arith, l, n))

-- the entries are the tallies, where there are not too many
pub ends_are : (es : List (EndKey × code.Prefixes)) (ts : List Tally) → length es ≤ 50000 → AreEnds es ts → map end_of es ≡ ts
ends_are es ts l (inl e) = e
ends_are es ts l (inr m) = let n = m.0 in absurd (omega (arith, l, n))

pub ends_few : (es : List (EndKey × code.Prefixes)) (ts : List Tally) → length es ≤ 50000 → AreEnds es ts → length ts ≤ 50000
ends_few es ts l h = let e = ap length (ends_are es ts l h) in let m = length-map es end_of in omega (arith, l, e, m)

pub ends_many : (es : List (EndKey × code.Prefixes)) (ts : List Tally) → 50000 < length es → AreEnds es ts → 50000 < length ts
ends_many es ts l (inl e) = let a = ap length e in let m = length-map es end_of in omega (arith, l, a, m)
ends_many es ts l (inr m) = m.1

-- what is known of an outcome is no more than all
known_end : (es : List (EndKey × code.Prefixes)) (p : EndKey → Bool) (n bound : ℕ) → counts (map end_of es) + n < bound → IfSome (lookup p es) (λ y. y.count + n < bound)
known_end [] p n bound l = tt
known_end (e ∷ es) p n bound l = by (p e.0) (known_end es p n bound (omega (arith, l)))
  where
    by : (b : Bool) → IfSome (lookup p es) (λ y. y.count + n < bound) → IfSome (cond b (Some e.1) (lookup p es)) (λ y. y.count + n < bound)
    by true h = omega (arith, l)
    by false h = h

pub room_for_end : (es : List (EndKey × code.Prefixes)) (ts : List Tally) (p : EndKey → Bool) (n bound : ℕ) → length es ≤ 50000 → AreEnds es ts → counts ts + n < bound → IfSome (lookup p es) (λ y. y.count + n < bound)
room_for_end es ts p n bound few h l = known_end es p n bound (let e = ap counts (ends_are es ts few h) in omega (arith, l, e))

-- ---- states

leads_words : (r : Tables) (known : KnownStates) (ys : List (Lead (List ℕ))) (xs : List (Lead Machine)) → AreLeadsTo r known ys xs → words_of ys ≡ words_of xs
leads_words r known [] [] h = refl
leads_words r known [] (x ∷ xs) h = absurd h
leads_words r known (y ∷ ys) [] h = absurd h
leads_words r known (y ∷ ys) (x ∷ xs) h = let rest = leads_words r known ys xs h.1 in let here = h.0.count in omega (arith, rest, here)

pub room_for_row : (r : Tables) (known : KnownStates) (es : List (List ℕ × code.Prefixes)) (xs : List (Lead Machine)) (n bound : ℕ) → AreLeads r known es xs → words_of xs + n < bound → words_of (map keyed es) + n < bound
room_for_row r known es xs n bound h l = let w = leads_words r known (map keyed es) xs h in omega (arith, l, w)

both_true : (a b : Bool) → (a ≡ true → b ≡ true) → (b ≡ true → a ≡ true) → a ≡ b
both_true true b on back = sym (on refl)
both_true false true on back = back refl
both_true false false on back = refl

-- rows are the same exactly where the machines of a program are
same_rows : (r : Tables) (known : KnownStates) (row other : List ℕ) (m n : Machine) → IsMachineOf r m → IsMachineOf r n → IsRowFor r known row m → IsRowFor r known other n → pointwise nat_eq row other ≡ same_key m n
same_rows r known row other m n mine theirs a b = both_true (pointwise nat_eq row other) (same_key m n) on back
  where
    on : pointwise nat_eq row other ≡ true → same_key m n ≡ true
    on h =
        let e : row ≡ other = one_list row other h in
        let same : m ≡ n = one_machine r known row m n mine theirs a (subst (λ l. IsRowFor r known l n) (sym e) b) in
        ap (same_key m) (sym same) ∙ key_own m

    back : same_key m n ≡ true → pointwise nat_eq row other ≡ true
    back h =
        let same : m ≡ n = key_sound m n h in
        let e : row ≡ other = one_row r known row other m a (subst (IsRowFor r known other) (sym same) b) in
        ap (pointwise nat_eq row) (sym e) ∙ nat_list_eq_equiv.refl row

lead_row : (r : Tables) (known : KnownStates) (row : List ℕ) (m : Machine) (word : List ℕ) (count : ℕ) → IsRowFor r known row m → IsMachineOf r m → IsLeadTo r known (record { state = row; first = word; count = count }) (record { state = m; first = word; count = count })
lead_row r known row m word count is own = record { row = is; first = refl; count = refl; own = own }

merged_row : (r : Tables) (known : KnownStates) (row : List ℕ) (m : Machine) (word : List ℕ) (count : ℕ) (y : Lead (List ℕ)) (x : Lead Machine) → IsLeadTo r known y x → IsLeadTo r known (merged_lead y (record { state = row; first = word; count = count })) (merged_lead x (record { state = m; first = word; count = count }))
merged_row r known row m word count y x h = record { row = h.row; first = ap (λ w. lesser w word) h.first; count = ap (λ k. k + count) h.count; own = h.own }

with_row : (r : Tables) (known : KnownStates) (ys : List (Lead (List ℕ))) (xs : List (Lead Machine)) (row : List ℕ) (m : Machine) (word : List ℕ) (count : ℕ) → IsRowFor r known row m → IsMachineOf r m → AreLeadsTo r known ys xs → AreLeadsTo r known (with_lead (pointwise nat_eq) ys (record { state = row; first = word; count = count })) (with_lead same_key xs (record { state = m; first = word; count = count }))
with_row r known [] [] row m word count is own h = (lead_row r known row m word count is own, tt)
with_row r known [] (x ∷ xs) row m word count is own h = absurd h
with_row r known (y ∷ ys) [] row m word count is own h = absurd h
with_row r known (y ∷ ys) (x ∷ xs) row m word count is own h =
    let same = same_rows r known y.state row x.state m h.0.own own h.0.row is in
    subst (λ c. AreLeadsTo r known (if c then merged_lead y low ∷ ys else y ∷ with_lead (pointwise nat_eq) ys low) (with_lead same_key (x ∷ xs) high)) (sym same) (by (same_key x.state m) (with_row r known ys xs row m word count is own h.1))
  where
    low : Lead (List ℕ)
    low = record { state = row; first = word; count = count }

    high : Lead Machine
    high = record { state = m; first = word; count = count }

    by : (b : Bool) → AreLeadsTo r known (with_lead (pointwise nat_eq) ys low) (with_lead same_key xs high) → AreLeadsTo r known (if b then merged_lead y low ∷ ys else y ∷ with_lead (pointwise nat_eq) ys low) (if b then merged_lead x high ∷ xs else x ∷ with_lead same_key xs high)
    by true on = (merged_row r known row m word count y x h.0, h.1)
    by false on = (h.0, on)

-- leads stay where more is known
pub leads_on : (r : Tables) (s t : KnownStates) (ys : List (Lead (List ℕ))) (xs : List (Lead Machine)) → KeepKnown s t → AreLeadsTo r s ys xs → AreLeadsTo r t ys xs
leads_on r s t [] [] kept h = tt
leads_on r s t [] (x ∷ xs) kept h = absurd h
leads_on r s t (y ∷ ys) [] kept h = absurd h
leads_on r s t (y ∷ ys) (x ∷ xs) kept h = (record { row = row_for_on r s t kept y.state x.state h.0.row; first = h.0.first; count = h.0.count; own = h.0.own }, leads_on r s t ys xs kept h.1)

-- ---- fronts

pub counts_small : (f : Front Machine) (n : ℕ) → total f + n < 10 ^ 126 → counts f.ended + n < 10 ^ 126
counts_small f n l = omega (arith, l)

pub words_small : (f : Front Machine) (n : ℕ) → total f + n < 10 ^ 126 → words_of f.layer + n < 10 ^ 126
words_small f n l = omega (arith, l)

pub holds_on : (r : Tables) (s t : KnownStates) (es : List (EndKey × code.Prefixes)) (ss : List (List ℕ × code.Prefixes)) (f : Front Machine) → KeepKnown s t → Holds r s es ss f → Holds r t es ss f
holds_on r s t es ss f kept h = record { ended = h.ended; layer = leads_on r s t (map keyed ss) f.layer kept h.layer }

module _ (r : Tables) (discipline : Discipline) where
  abbrev sys : System Machine
  sys = slots r discipline

  -- words end at a machine
  pub ended_holds : (known : KnownStates) (es new_es : List (EndKey × code.Prefixes)) (ss new_ss : List (List ℕ × code.Prefixes)) (kind : OutcomeKind) (x : code.Prefixes) (m : Machine) (output : List Shown) (halt : Halt OutcomeKind) (f : Front Machine) → halt ≡ HasEnded kind → output ≡ m.output → new_ss ≡ ss →
      ((ts : List Tally) → AreEnds es ts → AreEnds new_es (with_tally same_outcome ts (record { first = record { word = x.first.items; outcome = record { kind = kind; output = output } }; count = x.count }))) →
      Holds r known es ss f → Holds r known new_es new_ss (arrived sys same_outcome same_key x.first.items x.count (node_of halt m) f)
  ended_holds known es new_es ss new_ss kind x m output halt f is told same go h =
      subst (λ (y : Halt OutcomeKind). Holds r known new_es new_ss (arrived sys same_outcome same_key x.first.items x.count (node_of y m) f)) (sym is)
      (record {
        ended = subst (λ (out : List Shown). AreEnds new_es (with_tally same_outcome f.ended (record { first = record { word = x.first.items; outcome = record { kind = kind; output = out } }; count = x.count }))) told (go f.ended h.ended);
        layer = subst (λ (l : List (List ℕ × code.Prefixes)). AreLeads r known l f.layer) (sym same) h.layer;
      })

  -- a choice is due at a machine
  pub waits_holds : (s t : KnownStates) (es new_es : List (EndKey × code.Prefixes)) (ss new_ss : List (List ℕ × code.Prefixes)) (row : List ℕ) (x : code.Prefixes) (m : Machine) (halt : Halt OutcomeKind) (f : Front Machine) → halt ≡ Choice → new_es ≡ es → KeepKnown s t → IsRowFor r t row m → IsMachineOf r m →
      map keyed new_ss ≡ with_lead (pointwise nat_eq) (map keyed ss) (keyed (row, x)) → Holds r s es ss f → Holds r t new_es new_ss (arrived sys same_outcome same_key x.first.items x.count (node_of halt m) f)
  waits_holds s t es new_es ss new_ss row x m halt f is same kept row_is own put h =
      let high : Lead Machine = record { state = m; first = x.first.items; count = x.count } in
      subst (λ (y : Halt OutcomeKind). Holds r t new_es new_ss (arrived sys same_outcome same_key x.first.items x.count (node_of y m) f)) (sym is)
      (record {
        ended = subst (λ (l : List (EndKey × code.Prefixes)). AreEnds l f.ended) (sym same) h.ended;
        layer = subst (λ ys. AreLeadsTo r t ys (with_lead same_key f.layer high)) (sym put) (with_row r t (map keyed ss) f.layer row m x.first.items x.count row_is own (leads_on r s t (map keyed ss) f.layer kept h.layer));
      })

  -- words go one choice on
  pub choice_holds : (steps : ℕ) (t : KnownStates) (es : List (EndKey × code.Prefixes)) (ss : List (List ℕ × code.Prefixes)) (m : Machine) (word longer : List ℕ) (count p : ℕ) (node : Node Machine) (f : Front Machine) → may sys m p ≡ true → chosen sys steps m p ≡ node → longer ≡ word ++ p ∷ [] →
      Holds r t es ss (arrived sys same_outcome same_key longer count node f) → Holds r t es ss (after_choice sys same_outcome same_key steps (record { state = m; first = word; count = count }) p f)
  choice_holds steps t es ss m word longer count p node f is to long h =
      subst (λ (b : Bool). Holds r t es ss (if b then arrived sys same_outcome same_key (word ++ p ∷ []) count (chosen sys steps m p) f else f)) (sym is)
      (subst (λ (n : Node Machine). Holds r t es ss (arrived sys same_outcome same_key (word ++ p ∷ []) count n f)) (sym to)
      (subst (λ (w : List ℕ). Holds r t es ss (arrived sys same_outcome same_key w count node f)) long h))
