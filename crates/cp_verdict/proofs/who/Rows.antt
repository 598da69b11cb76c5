-- The rows of a table by who waits at their ends, from its outcomes and the ends at which all wait.
use Rattle.std.proofs.Common.{◌≡◌, ⊎_elim, ◌∙◌, ℕ, ◌+◌, Bool, true, false, not, if◌then◌else◌, List, [], ◌∷◌, ◌++◌, ◌≤◌, length, map, take, refl, sym, ap, subst, arith, append_assoc}
use Rattle.std.specs.Prelude.{Contains, Option, None, Some, option_map, slice_get}
use Rattle.std.specs.List.Sorted.{IsPermutation}
use Rattle.std.proofs.lemmas.List.{map-append}
use Rattle.std.proofs.lemmas.List.Elements.{Contains-append_cases, Contains-append_left, Contains-append_right, Contains-push_cases}
use Rattle.std.proofs.lemmas.List.Sorted.{Contains-permutation, IsPermutation-sym}
use Rattle.std.specs.declared.alloc.Global.{Global}
use Rattle.std.specs.declared.vec.Vec.{Vec}
use Rattle.cp_run.specs.Table.{Line, IsAmong}
use Rattle.cp_run.specs.declared.outcome.Outcome.{Outcome}
use Rattle.cp_walk.specs.Report.{outcomes_of}
use Rattle.cp_ends.proofs.Searching.Lists.{contains_at}
use Rattle.cp_ends.proofs.named.Kinds.{contains_map}
use Rattle.cp_waiting_ends.proofs.Waits.{take_one}
use Rattle.cp_waiting_ends.specs.Waiting.{WaitsSo, ends_words, entry_word, those_in}
use Rattle.cp_waiting_ends.specs.declared.end.WaitingEnd.{WaitingEnd}
use Rattle.cp_waiting_ends.specs.declared.ends.WaitingEnds.{WaitingEnds}
use Rattle.cp_verdict.specs.Judged.{line_of}
use Rattle.cp_verdict.specs.waiting.Matching.{is_waiting}
use Rattle.cp_verdict.specs.waiting.Rows.{AreEndsIn, AreRowsOf, HaveShortEnds, HaveShortWords, end_row, other_row, others_in, row_seen, who_of}
use Rattle.cp_verdict.specs.declared.seen.Seen.{Seen}
use Rattle.cp_verdict.specs.declared.waiting.rows.SeenWaiting.{SeenWaiting}
use Rattle.cp_verdict.proofs.any_length.Finding.{some_same}
use Rattle.cp_verdict.proofs.who.Lists.{among, contained, in_filter, in_map, of_filter, of_map}
use Rattle.cp_verdict.proofs.who.Outcomes.{first_among, outcome_first}

-- who waits, the outcome, and the schedule
abbrev pub RowSeen : Type 0
RowSeen = (List ℕ × Outcome) × List ℕ

module _ (who : List ℕ → List ℕ) (lines : List Line) (seen : List Seen) (ends : WaitingEnds) (same : map line_of seen ≡ outcomes_of lines) (are : AreEndsIn who lines ends) where
  -- it is so of a row
  abbrev IsOf : RowSeen → Type 0
  IsOf y = (l : Line) × IsAmong l lines × (l.word ≡ y.1) × (y.0.1 ≡ l.outcome) × (y.0.0 ≡ who_of who l)

  not_waiting : (l : Line) → is_waiting l.outcome ≡ false → who_of who l ≡ []
  not_waiting l h = ap (λ b. if b then who l.word else []) h

  waiting : (l : Line) → is_waiting l.outcome ≡ true → who_of who l ≡ who l.word
  waiting l h = ap (λ b. if b then who l.word else []) h

  no_more : (b : Bool) → not b ≡ true → b ≡ false
  no_more true h = absurd (cc)
  no_more false h = refl

  other_of : (s : Seen) → Contains (others_in seen) s → IsOf (other_row s)
  other_of s c =
      let f = of_filter (λ (x : Seen). not (is_waiting x.outcome.now)) seen s c in
      let l = line_of s in
      let here = first_among lines l (among (outcomes_of lines) l (subst (λ (ls : List Line). Contains ls l) same (in_map line_of seen s f.0))) in
      (l, here, refl, refl, sym (not_waiting l (no_more (is_waiting s.outcome.now) f.1)))

  end_of : (e : WaitingEnd × Vec ℕ Global) → Contains ends.known.entries e → IsOf (end_row e)
  end_of e c = let l = are.each e c in (l.0, l.1, l.2, sym l.4, sym l.5 ∙ sym (waiting l.0 l.3))

  module _ (rows sorted : List SeenWaiting) (gathered : map row_seen rows ≡ map other_row (others_in seen) ++ map end_row ends.known.entries) (moved : IsPermutation rows sorted) where
    of_one : (y : RowSeen) → Contains (map other_row (others_in seen) ++ map end_row ends.known.entries) y → IsOf y
    of_one y c = ⊎_elim
        (λ (o : Contains (map other_row (others_in seen)) y). (let s = of_map other_row (others_in seen) y o in subst IsOf s.2 (other_of s.0 s.1)))
        (λ (o : Contains (map end_row ends.known.entries) y). (let e = of_map end_row ends.known.entries y o in subst IsOf e.2 (end_of e.0 e.1)))
        (Contains-append_cases (map other_row (others_in seen)) (map end_row ends.known.entries) y c)

    each : (x : SeenWaiting) → Contains sorted x → IsOf (row_seen x)
    each x c = of_one (row_seen x) (subst (λ (ys : List RowSeen). Contains ys (row_seen x)) gathered (in_map row_seen rows x (Contains-permutation sorted rows x (IsPermutation-sym rows sorted moved) c)))

    Has : Line → Type 0
    Has l = (x : SeenWaiting) × Contains sorted x × (x.outcome.now ≡ l.outcome) × (x.who.now ≡ who_of who l)

    has : (l : Line) (y : RowSeen) → Contains (map other_row (others_in seen) ++ map end_row ends.known.entries) y → y.0.1 ≡ l.outcome → y.0.0 ≡ who_of who l → Has l
    unfolding Has
    has l y c outcome waits =
        let x = of_map row_seen rows y (subst (λ (ys : List RowSeen). Contains ys y) (sym gathered) c) in
        (x.0, Contains-permutation rows sorted x.0 moved x.1, ap (λ (z : RowSeen). z.0.1) x.2 ∙ outcome, ap (λ (z : RowSeen). z.0.0) x.2 ∙ waits)

    all : (l : Line) → IsAmong l lines → Has l
    all l i = by (is_waiting l.outcome) refl
      where
        by : (b : Bool) → is_waiting l.outcome ≡ b → Has l
        by true h =
            let e = are.all l i h in
            has l (end_row e.0) (Contains-append_right (map other_row (others_in seen)) (map end_row ends.known.entries) (end_row e.0) (in_map end_row ends.known.entries e.0 e.1)) e.2 (e.3 ∙ sym (waiting l h))
        by false h =
            let m = outcome_first lines l i in
            let s = of_map line_of seen m.0 (subst (λ (ls : List Line). Contains ls m.0) (sym same) (contained (outcomes_of lines) m.0 m.1)) in
            let outcome : s.0.outcome.now ≡ l.outcome = ap (λ (x : Line). x.outcome) s.2 ∙ m.2 in
            let c = in_filter (λ (x : Seen). not (is_waiting x.outcome.now)) seen s.0 s.1 (ap (λ (o : Outcome). not (is_waiting o)) outcome ∙ ap not h) in
            has l (other_row s.0) (Contains-append_left (map other_row (others_in seen)) (map end_row ends.known.entries) (other_row s.0) (in_map other_row (others_in seen) s.0 c)) outcome (sym (not_waiting l h))

    pub are_rows : AreRowsOf who lines sorted
    unfolding Has
    are_rows = record { each = λ x c. (let l = each x c in (l.0, l.1, l.2, (l.3, l.4))); all = λ l i. (let x = all l i in (x.0, x.1, (x.2, x.3))) }

-- ---- short words

pub none_long : (xs : List SeenWaiting) → xs ≡ [] → HaveShortWords xs
none_long xs is = subst HaveShortWords (sym is) (λ x c. (let less = c.1 in absurd (omega (arith, less))))

pub none_short : (ends : WaitingEnds) → ends_words ends ≡ [] → HaveShortEnds ends
none_short ends is = λ e c. (let none = subst (λ l. Contains l (entry_word e)) is (contains_map entry_word ends.known.entries e c) in let less = none.1 in absurd (omega (arith, less)))

pub one_short : (xs ys : List SeenWaiting) (x : SeenWaiting) → ys ≡ xs ++ x ∷ [] → length x.first.now ≤ 100 → HaveShortWords xs → HaveShortWords ys
one_short xs ys x is short h = subst HaveShortWords (sym is) (λ y c. ⊎_elim (λ (l : Contains xs y). h y l) (λ (e : x ≡ y). subst (λ (z : SeenWaiting). length z.first.now ≤ 100) e short) (Contains-push_cases xs x y c))

pub moved_short : (xs ys : List SeenWaiting) → IsPermutation xs ys → HaveShortWords xs → HaveShortWords ys
moved_short xs ys moved h = λ x c. h x (Contains-permutation ys xs x (IsPermutation-sym xs ys moved) c)

-- ---- the ends, one after the other

abbrev pub told : WaitsSo × List ℕ → RowSeen
told p = ((p.0.who, p.0.outcome), p.1)

row_told : (o : Option (WaitingEnd × Vec ℕ Global)) (p : Option (WaitsSo × List ℕ)) → p ≡ option_map entry_word o → those_in (option_map told p) ≡ those_in (option_map end_row o)
row_told None p is = ap (λ (q : Option (WaitsSo × List ℕ)). those_in (option_map told q)) is
row_told (Some e) p is = ap (λ (q : Option (WaitsSo × List ℕ)). those_in (option_map told q)) is

-- the end of this number, if there is one, comes behind those before it
pub one_end : (old xs ys : List SeenWaiting) (ends : WaitingEnds) (n : ℕ) (p : Option (WaitsSo × List ℕ)) → map row_seen xs ≡ map row_seen old ++ map end_row (take n ends.known.entries) → p ≡ option_map entry_word (slice_get ends.known.entries n) →
    map row_seen ys ≡ map row_seen xs ++ those_in (option_map told p) → map row_seen ys ≡ map row_seen old ++ map end_row (take (n + 1) ends.known.entries)
one_end old xs ys ends n p before is more =
    let entries = ends.known.entries in
    more ∙ ap (λ l. l ++ those_in (option_map told p)) before ∙ append_assoc (map row_seen old) (map end_row (take n entries)) (those_in (option_map told p))
    ∙ ap (λ l. map row_seen old ++ l) (ap (λ l. map end_row (take n entries) ++ l) (row_told (slice_get entries n) p is) ∙ sym (take_one end_row entries n))

pub row_pushed : (xs ys : List SeenWaiting) (x : SeenWaiting) (p : WaitsSo × List ℕ) → ys ≡ xs ++ x ∷ [] → row_seen x ≡ told p → map row_seen ys ≡ map row_seen xs ++ those_in (option_map told (Some p))
row_pushed xs ys x p pushed row = ap (map row_seen) pushed ∙ map-append row_seen xs (x ∷ []) ∙ ap (λ y. map row_seen xs ++ y ∷ []) row

pub end_short : (ends : WaitingEnds) (n : ℕ) (p : WaitsSo × List ℕ) → HaveShortEnds ends → Some p ≡ option_map entry_word (slice_get ends.known.entries n) → length p.1 ≤ 100
end_short ends n p short is = by (slice_get ends.known.entries n) refl is
  where
    by : (o : Option (WaitingEnd × Vec ℕ Global)) → slice_get ends.known.entries n ≡ o → Some p ≡ option_map entry_word o → length p.1 ≤ 100
    by None at e = absurd (cc)
    by (Some x) at e = subst (λ (q : WaitsSo × List ℕ). length q.1 ≤ 100) (sym (some_same p (entry_word x) e)) (short x (contains_at ends.known.entries n x at))
