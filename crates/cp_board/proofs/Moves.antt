-- Each kind of step keeps the rule of the board.
use Rattle.std.proofs.Common.{◌≡◌, ◌≢◌, ℕ, suc, ◌+◌, ◌*◌, ◌%◌, ◌<◌, ◌≤◌, min, cond, eqb, nat_le, List, [], ◌∷◌, ◌++◌, length, set, sum_by, All, sym, refl, ap, ◌∙◌, subst, ⊎_elim, arith, length-append, mod-eq_of_lt, mul-le-mul_right}
use mathlib.Core.Option.{some}
use lib.ListN.{get_elem?}
use Rattle.cp_board.proofs.Words.{range_with_len, Note, View}
use Rattle.std.proofs.lemmas.List.Sums.{sum_by-cons, sum_by-append, sum_by_push, sum_by-le}
use Rattle.std.proofs.lemmas.List.Elements.{All-set, All-push, All-weaker, All-append, All-nil, All-head, All-tail}
use Rattle.std.proofs.lemmas.List.FromFn.{length-range_with_len}
use Rattle.std.proofs.lemmas.Bool.{cases_lt, le-leb, lt-leb}
use Rattle.atomic_table.specs.Table.{State, Me, Act, Step, step, keeps, Allows, Splits, Joins, Valid, stepped}
use Rattle.atomic_table.proofs.Lists.{at_set}
use Rattle.cp_board.specs.declared.views.Terms.{Terms}
use Rattle.cp_board.specs.Views.{note, rows_noted, rows_until, times_noted, last_of, NotesOnce, HasOpenTask, IsTotal, drew, ran_dry, noted_by}
use Rattle.cp_board.specs.Rule.{IsFair, Keeps, IsRuled, opening_view, claims, notes, keeper, dealt, together, nobody}
use Rattle.cp_board.proofs.Lists.{sum_set, at_all, at_sum, sum_ones, sum_same, sum_le, sum_scaled, sum_range, none_below, sum_without}

-- a total stays one where the rows up to each total stay
pub totals_same : (noted : ℕ) (views views' : List View) → ((t : ℕ) → sum_by (λ u. rows_until t u.notes) views' ≡ sum_by (λ u. rows_until t u.notes) views) → (u : View) → All (IsTotal noted views) u.notes → All (IsTotal noted views') u.notes
totals_same noted views views' e u = All-weaker (IsTotal noted views) (IsTotal noted views') (λ n t. (t.0, t.1 ∙ sym (e n.total))) u.notes

module _ {tasks seats next noted : ℕ} {views : List View} (k : Keeps tasks seats next noted views) where
  pub lengths : sum_by (λ u. length u.drawn) views ≡ min next tasks
  lengths = (λ i. sum_by (λ (u : View). sym (sum_ones u.drawn) i) views) ∙ k.drawn (λ _. 1) ∙ sum_ones (range_with_len 0 (min next tasks)) ∙ length-range_with_len 0 (min next tasks)

  pub next_fits : next ≤ 4112
  next_fits =
      let s : sum_by (λ u. u.spent) views ≤ sum_by (λ u. u.parts) views = sum_le (λ (u : View). u.spent) (λ u. u.parts) views (All-weaker (IsFair tasks) (λ u. u.spent ≤ u.parts) (λ u f. f.spent) views k.fair) in
      omega (arith, s, k.parts, k.few_seats, k.few_tasks, lengths, k.count)

  -- a view has fewer notes than draws, of at most 50,001 rows each
  rows_of_one : (u : View) → IsFair tasks u → rows_noted u.notes ≤ length u.drawn * 50001
  rows_of_one u f =
      let many : sum_by (λ _. 1) u.notes ≤ sum_by (λ _. 1) u.drawn = f.once (λ _. 1) in
      let fewer : length u.notes ≤ length u.drawn = omega (arith, many, sum_ones u.notes, sum_ones u.drawn) in
      let a = sum_by-le (λ (n : Note). n.rows) 50001 u.notes f.short in
      let b : length u.notes * 50001 ≤ length u.drawn * 50001 = mul-le-mul_right 50001 fewer in
      omega (arith, a, b)

  pub rows_fit : noted ≤ 204804096
  rows_fit =
      let a : sum_by (λ u. rows_noted u.notes) views ≤ sum_by (λ u. length u.drawn * 50001) views = sum_le (λ (u : View). rows_noted u.notes) (λ u. length u.drawn * 50001) views (All-weaker (IsFair tasks) (λ u. rows_noted u.notes ≤ length u.drawn * 50001) rows_of_one views k.fair) in
      let b : sum_by (λ u. length u.drawn * 50001) views ≡ sum_by (λ u. length u.drawn) views * 50001 = sum_scaled (λ (u : View). length u.drawn) 50001 views in
      omega (arith, a, b, lengths, k.rows, k.few_tasks)

  module _ (id : ℕ) (v : View) (at : get_elem? views id ≡ some v) where
    pub mine : IsFair tasks v
    mine = at_all (IsFair tasks) views id v k.fair at

    pub my_totals : All (IsTotal noted views) v.notes
    my_totals = at_all (λ (u : View). All (IsTotal noted views) u.notes) views id v k.totals at

    -- a number that is not given out yet was not noted
    pub fresh : next < tasks → times_noted next v.notes ≡ 0
    fresh lt =
        let h : ℕ → ℕ = λ y. cond (eqb y next) 1 0 in
        let m : min next tasks ≡ next = omega arith in
        let a : times_noted next v.notes ≤ sum_by h v.drawn = mine.once h in
        let b : sum_by h v.drawn ≤ sum_by (λ u. sum_by h u.drawn) views = at_sum (λ (u : View). sum_by h u.drawn) views id v at in
        let z : sum_by h (range_with_len 0 (min next tasks)) ≡ 0 = ap (λ n. sum_by h (range_with_len 0 n)) m ∙ none_below next next (omega arith) in
        omega (arith, a, b, k.drawn h, z)

    pub claim_keeps : next < tasks → 0 < v.parts → v.spent ≡ 0 → Keeps tasks seats (next + 1) noted (set views id (drew v next))
    claim_keeps lt some_part not_spent =
        let w : View = drew v next in
        let now : List View = set views id w in
        let spents = sum_set (λ (u : View). u.spent) views id v w at in
        record {
          few_tasks = k.few_tasks;
          few_seats = k.few_seats;
          drawn = λ h.
              let s = sum_set (λ (u : View). sum_by h u.drawn) views id v w at in
              let m : min next tasks ≡ next = omega arith in
              let m' : min (next + 1) tasks ≡ suc next = omega arith in
              let e = ap (λ n. sum_by h (range_with_len 0 n)) m in
              let e' = ap (λ n. sum_by h (range_with_len 0 n)) m' in
              omega (arith, s, sum_by_push h v.drawn next, k.drawn h, e, e', sum_range h next);
          count =
              let s = sum_set (λ (u : View). length u.drawn) views id v w at in
              omega (arith, s, spents, k.count, length-append v.drawn (next ∷ []));
          late = λ p. let t : tasks ≤ next = k.late (omega (arith, p, spents)) in omega (arith, t);
          fair = All-set (IsFair tasks) views id w record {
            tasks_are = mine.tasks_are;
            idle = λ none. absurd (omega (arith, none, some_part));
            spent = mine.spent;
            once = λ h. let a = mine.once h in omega (arith, a, sum_by_push h v.drawn next);
            short = mine.short;
          } k.fair;
          rows = omega (arith, k.rows, sum_set (λ (u : View). rows_noted u.notes) views id v w at);
          totals =
              let e : (t : ℕ) → sum_by (λ (u : View). rows_until t u.notes) now ≡ sum_by (λ (u : View). rows_until t u.notes) views = λ t. omega (arith, sum_set (λ (u : View). rows_until t u.notes) views id v w at) in
              let one = totals_same noted views now e in
              All-set (λ (u : View). All (IsTotal noted now) u.notes) views id w (one v my_totals) (All-weaker (λ (u : View). All (IsTotal noted views) u.notes) (λ u. All (IsTotal noted now) u.notes) one views k.totals);
          parts = omega (arith, k.parts, sum_set (λ (u : View). u.parts) views id v w at);
        }

    pub dry_keeps : tasks ≤ next → 0 < v.parts → v.spent ≡ 0 → Keeps tasks seats (next + 1) noted (set views id (ran_dry v))
    dry_keeps ge some_part not_spent =
        let w : View = ran_dry v in
        let now : List View = set views id w in
        let spents = sum_set (λ (u : View). u.spent) views id v w at in
        record {
          few_tasks = k.few_tasks;
          few_seats = k.few_seats;
          drawn = λ h.
              let s = sum_set (λ (u : View). sum_by h u.drawn) views id v w at in
              let m : min next tasks ≡ min (next + 1) tasks = omega arith in
              let e = ap (λ n. sum_by h (range_with_len 0 n)) m in
              omega (arith, s, k.drawn h, e);
          count =
              let s = sum_set (λ (u : View). length u.drawn) views id v w at in
              omega (arith, s, spents, k.count, not_spent);
          late = λ p. omega (arith, ge);
          fair = All-set (IsFair tasks) views id w record {
            tasks_are = mine.tasks_are;
            idle = λ none. absurd (omega (arith, none, some_part));
            spent = omega (arith, some_part);
            once = mine.once;
            short = mine.short;
          } k.fair;
          rows = omega (arith, k.rows, sum_set (λ (u : View). rows_noted u.notes) views id v w at);
          totals =
              let e : (t : ℕ) → sum_by (λ (u : View). rows_until t u.notes) now ≡ sum_by (λ (u : View). rows_until t u.notes) views = λ t. omega (arith, sum_set (λ (u : View). rows_until t u.notes) views id v w at) in
              let one = totals_same noted views now e in
              All-set (λ (u : View). All (IsTotal noted now) u.notes) views id w (one v my_totals) (All-weaker (λ (u : View). All (IsTotal noted views) u.notes) (λ u. All (IsTotal noted now) u.notes) one views k.totals);
          parts = omega (arith, k.parts, sum_set (λ (u : View). u.parts) views id v w at);
        }

-- a claim keeps the rule, and tells what it should
pub claim_allows : (k : Terms) (slots id : ℕ) (me : Me (Unit {0}) View) (st : Step (Unit {0})) → me.0.parts ≡ 1 → me.0.spent ≡ 0 → me.0.tasks ≡ k.tasks → Allows (IsRuled k) slots id me 0 (λ n. (n + 1) % 18446744073709551616) (claims st me)
claim_allows k slots id me st one_part not_spent same s (next, noted, words, keep) homes at small =
    let P : List ℕ → Type 0 = λ ws. (w : View) × (a : Act (Unit {0})) × Valid s.homes me.1 a × IsRuled k (stepped record { words = ws; homes = s.homes; views = s.views } 0 ((Rattle.std.specs.Prelude.slice_index ws 0 + 1) % 18446744073709551616) id me.1 w a) × claims st me (Rattle.std.specs.Prelude.slice_index ws 0) (w, Rattle.atomic_table.specs.Table.carried_after me.1 a) in
    let fits = next_fits keep in
    let wrap : (next + 1) % 18446744073709551616 ≡ next + 1 = mod-eq_of_lt (omega (arith, fits)) in
    let new_words : ((next + 1) % 18446744073709551616) ∷ noted ∷ k.tasks ∷ [] ≡ (next + 1) ∷ noted ∷ k.tasks ∷ [] = ap (λ n. n ∷ noted ∷ k.tasks ∷ []) wrap in
    subst P (sym words) (⊎_elim
    (λ (lt : next < k.tasks). (drew me.0 next, keeps, tt, (next + 1, noted, new_words, claim_keeps keep id me.0 at lt (omega arith) not_spent), (omega (arith, fits), (λ _. (refl, fresh keep id me.0 at lt, omega (arith, at_sum (λ (u : View). length u.drawn) s.views id me.0 at, lengths keep, lt, same))), λ ge. absurd (omega (arith, ge, lt, same)))))
    (λ (ge : k.tasks ≤ next). (ran_dry me.0, keeps, tt, (next + 1, noted, new_words, dry_keeps keep id me.0 at ge (omega arith) not_spent), (omega (arith, fits), (λ lt. absurd (omega (arith, ge, lt, same))), λ _. refl)))
    (cases_lt next k.tasks))

pub last_of-push : (xs : List ℕ) (x : ℕ) → last_of (xs ++ x ∷ []) ≡ x
last_of-push (y ∷ z ∷ xs) x = last_of-push (z ∷ xs) x
last_of-push _ x = refl

-- a draw that was not noted is open
pub opens : (v : View) (t : ℕ) → v.spent ≡ 0 → times_noted t v.notes ≡ 0 → HasOpenTask (drew v t)
opens v t not_spent none = record {
  drew = omega (arith, length-append v.drawn (t ∷ []));
  claimed = not_spent;
  open_yet = ap (λ n. times_noted n v.notes) (last_of-push v.drawn t) ∙ none;
}

-- of notes whose totals are at most t, the rows up to t are all rows
until_all : (t : ℕ) (ns : List Note) → All (λ n. n.total ≤ t) ns → rows_until t ns ≡ rows_noted ns
until_all t ns h = sum_same (λ (n : Note). cond (nat_le n.total t) n.rows 0) (λ n. n.rows) ns (All-weaker (λ (n : Note). n.total ≤ t) (λ n. cond (nat_le n.total t) n.rows 0 ≡ n.rows) (λ n le. ap (λ b. cond b n.rows 0) (le-leb n.total t le)) ns h)

-- the rows of a note whose total is r more than some total, as seen from no more than that total
no_more : (noted r t : ℕ) → t ≤ noted → cond (nat_le (noted + r) t) r 0 ≡ 0
no_more noted r t le = ⊎_elim
    (λ (lt : t < noted + r). ap (λ b. cond b r 0) (lt-leb (noted + r) t lt))
    (λ (ge : noted + r ≤ t). ap (λ b. cond b r 0) (le-leb (noted + r) t ge) ∙ (omega arith))
    (cases_lt t (noted + r))

-- the draws but for the last one, and the last one
last_apart : (h : ℕ → ℕ) (xs : List ℕ) → 0 < length xs → sum_by (λ y. cond (eqb y (last_of xs)) 0 (h y)) xs + h (last_of xs) ≤ sum_by h xs
last_apart h [] has = absurd (omega (arith, has))
last_apart h (x ∷ []) has =
    let f : ℕ → ℕ = λ y. cond (eqb y x) 0 (h y) in
    let z : f x ≡ 0 = ap (λ b. cond b 0 (h x)) (Rattle.std.proofs.lemmas.Bool.eq-eqb x x refl) in
    omega (arith, sum_by-cons f x [], sum_by-cons h x [], z)
last_apart h (x ∷ y ∷ ys) has =
    let t = last_of (y ∷ ys) in
    let f : ℕ → ℕ = λ z. cond (eqb z t) 0 (h z) in
    let le : f x ≤ h x = Rattle.std.proofs.lemmas.Bool.cond_both (eqb x t) 0 (h x) (λ n. n ≤ h x) (λ _. omega arith) (λ _. omega arith) in
    omega (arith, sum_by-cons f x (y ∷ ys), sum_by-cons h x (y ∷ ys), le, last_apart h (y ∷ ys) (omega arith))

pub note_once : (v : View) (rows total : ℕ) → NotesOnce v → HasOpenTask v → NotesOnce (noted_by v rows total)
note_once v rows total once has h =
    let t = last_of v.drawn in
    let h' : ℕ → ℕ = λ y. cond (eqb y t) 0 (h y) in
    let a : sum_by (λ n. h' n.task) v.notes ≤ sum_by h' v.drawn = once h' in
    let b : sum_by (λ n. h' n.task) v.notes ≡ sum_by (λ n. h n.task) v.notes = sum_without h (λ (n : Note). n.task) t v.notes has.open_yet in
    let c = sum_by_push (λ (n : Note). h n.task) v.notes (note t rows total) in
    omega (arith, a, b, c, last_apart h v.drawn has.drew)

module _ {tasks seats next noted : ℕ} {views : List View} (k : Keeps tasks seats next noted views) (id : ℕ) (v : View) (at : get_elem? views id ≡ some v) where
  -- no total is above the rows so far, and the seat's own rows are among them
  pub told : (rows_noted v.notes ≤ noted) × All (λ n. n.total ≤ noted) v.notes
  told = (
    (let a = at_sum (λ (u : View). rows_noted u.notes) views id v at in omega (arith, a, k.rows)),
    All-weaker (IsTotal noted views) (λ n. n.total ≤ noted) (λ n t. t.0) v.notes (my_totals k id v at),
  )

  pub note_keeps : (r : ℕ) → r ≤ 50001 → 0 < v.parts → HasOpenTask v → Keeps tasks seats next (noted + r) (set views id (noted_by v r (noted + r)))
  note_keeps r few some_part has =
      let w : View = noted_by v r (noted + r) in
      let new : Note = note (last_of v.drawn) r (noted + r) in
      let now : List View = set views id w in
      let own = mine k id v at in
      let until : (t : ℕ) → sum_by (λ (u : View). rows_until t u.notes) now ≡ sum_by (λ (u : View). rows_until t u.notes) views + cond (nat_le (noted + r) t) r 0 = λ t.
      omega (arith, sum_set (λ (u : View). rows_until t u.notes) views id v w at, sum_by_push (λ (n : Note). cond (nat_le n.total t) n.rows 0) v.notes new) in
      let Old : Note → Type 0 = IsTotal noted views in
      let New : Note → Type 0 = IsTotal (noted + r) now in
      let kept : (n : Note) → Old n → New n = λ n t. (omega (arith, t.0), (let z = no_more noted r n.total t.0 in let u = until n.total in omega (arith, t.1, z, u))) in
      let everything : sum_by (λ (u : View). rows_until (noted + r) u.notes) views ≡ noted =
      sum_same (λ (u : View). rows_until (noted + r) u.notes) (λ u. rows_noted u.notes) views
      (All-weaker (λ (u : View). All Old u.notes) (λ u. rows_until (noted + r) u.notes ≡ rows_noted u.notes) (λ u all. until_all (noted + r) u.notes (All-weaker Old (λ n. n.total ≤ noted + r) (λ n t. omega (arith, t.0)) u.notes all)) views k.totals)
      ∙ sym k.rows in
      let itself : cond (nat_le (noted + r) (noted + r)) r 0 ≡ r = ap (λ b. cond b r 0) (le-leb (noted + r) (noted + r) (omega arith)) in
      let made : New new = (omega arith, (let u = until (noted + r) in omega (arith, u, everything, itself))) in
      record {
        few_tasks = k.few_tasks;
        few_seats = k.few_seats;
        drawn = λ h. omega (arith, k.drawn h, sum_set (λ (u : View). sum_by h u.drawn) views id v w at);
        count = omega (arith, k.count, sum_set (λ (u : View). length u.drawn) views id v w at, sum_set (λ (u : View). u.spent) views id v w at);
        late = λ p. k.late (omega (arith, p, sum_set (λ (u : View). u.spent) views id v w at));
        fair = All-set (IsFair tasks) views id w record {
          tasks_are = own.tasks_are;
          idle = λ none. absurd (omega (arith, none, some_part));
          spent = own.spent;
          once = note_once v r (noted + r) own.once has;
          short = All-push (λ (n : Note). n.rows ≤ 50001) v.notes new own.short few;
        } k.fair;
        rows = omega (arith, k.rows, sum_set (λ (u : View). rows_noted u.notes) views id v w at, sum_by_push (λ (n : Note). n.rows) v.notes new);
        totals = All-set (λ (u : View). All New u.notes) views id w (All-push New v.notes new (All-weaker Old New kept v.notes (my_totals k id v at)) made) (All-weaker (λ (u : View). All Old u.notes) (λ u. All New u.notes) (λ u. All-weaker Old New kept u.notes) views k.totals);
        parts = omega (arith, k.parts, sum_set (λ (u : View). u.parts) views id v w at);
      }

-- a note keeps the rule, and tells what it should
pub note_allows : (k : Terms) (slots id : ℕ) (me : Me (Unit {0}) View) (st : Step (Unit {0})) → st.first ≤ 50001 → 0 < me.0.parts → HasOpenTask me.0 → Allows (IsRuled k) slots id me 1 (λ n. (n + st.first) % 18446744073709551616) (notes st me)
note_allows k slots id me st few some_part has s (next, noted, words, keep) homes at small =
    let r = st.first in
    let P : List ℕ → Type 0 = λ ws. (w : View) × (a : Act (Unit {0})) × Valid s.homes me.1 a × IsRuled k (stepped record { words = ws; homes = s.homes; views = s.views } 1 ((Rattle.std.specs.Prelude.slice_index ws 1 + r) % 18446744073709551616) id me.1 w a) × notes st me (Rattle.std.specs.Prelude.slice_index ws 1) (w, Rattle.atomic_table.specs.Table.carried_after me.1 a) in
    let fits = rows_fit keep in
    let wrap : (noted + r) % 18446744073709551616 ≡ noted + r = mod-eq_of_lt (omega (arith, fits, few)) in
    let new_words : next ∷ ((noted + r) % 18446744073709551616) ∷ k.tasks ∷ [] ≡ next ∷ (noted + r) ∷ k.tasks ∷ [] = ap (λ n. next ∷ n ∷ k.tasks ∷ []) wrap in
    let t = told keep id me.0 at in
    subst P (sym words) (noted_by me.0 r (noted + r), keeps, tt, (next, noted + r, new_words, note_keeps keep id me.0 at r few some_part has), (omega (arith, fits, few), refl, t.0, t.1))

-- a part of a view that is split off keeps the rule
pub split_keeps : {tasks seats next noted : ℕ} {views : List View} (k : Keeps tasks seats next noted views) (id : ℕ) (v : View) (at : get_elem? views id ≡ some v) → 1 < v.parts → v.spent ≡ 0 → Keeps tasks seats next noted (set views id (keeper v) ++ dealt v ∷ [])
split_keeps {tasks} {seats} {next} {noted} {views} k id v at two not_spent =
    let w : View = keeper v in
    let mid : List View = set views id w in
    let u0 : View = dealt v in
    let now : List View = mid ++ u0 ∷ [] in
    let own = mine k id v at in
    let sums : (f : View → ℕ) → sum_by f now + f v ≡ sum_by f views + f w + f u0 = λ f. omega (arith, sum_set f views id v w at, sum_by_push f mid u0) in
    let e : (t : ℕ) → sum_by (λ (u : View). rows_until t u.notes) now ≡ sum_by (λ (u : View). rows_until t u.notes) views = λ t. omega (arith, sums (λ (u : View). rows_until t u.notes)) in
    let one = totals_same noted views now e in
    let Q : View → Type 0 = λ u. All (IsTotal noted now) u.notes in
    record {
      few_tasks = k.few_tasks;
      few_seats = k.few_seats;
      drawn = λ h. omega (arith, k.drawn h, sums (λ (u : View). sum_by h u.drawn));
      count = omega (arith, k.count, sums (λ (u : View). length u.drawn), sums (λ (u : View). u.spent));
      late = λ p. k.late (omega (arith, p, sums (λ (u : View). u.spent)));
      fair = All-push (IsFair tasks) mid u0 (All-set (IsFair tasks) views id w record {
        tasks_are = λ _. own.tasks_are (omega (arith, two));
        idle = λ none. absurd (omega (arith, none, two));
        spent = omega (arith, two, not_spent);
        once = own.once;
        short = own.short;
      } k.fair) record {
        tasks_are = λ _. own.tasks_are (omega (arith, two));
        idle = λ _. (refl, refl);
        spent = omega arith;
        once = λ h. omega arith;
        short = All-nil (λ (n : Note). n.rows ≤ 50001);
      };
      rows = omega (arith, k.rows, sums (λ (u : View). rows_noted u.notes));
      totals = All-push Q mid u0 (All-set Q views id w (one v (my_totals k id v at)) (All-weaker (λ (u : View). All (IsTotal noted views) u.notes) Q one views k.totals)) (All-nil (IsTotal noted now));
      parts = omega (arith, k.parts, two, sums (λ (u : View). u.parts));
    }

pub splits : (k : Terms) (id : ℕ) (v : View) → 1 < v.parts → v.spent ≡ 0 → Splits (IsRuled k) id v (keeper v) (dealt v)
splits k id v two not_spent s (next, noted, words, keep) at = (next, noted, words, split_keeps keep id v at two not_spent)

-- two views that are joined keep the rule
pub join_keeps : {tasks seats next noted : ℕ} {views : List View} (k : Keeps tasks seats next noted views) (id : ℕ) (v : View) (other : ℕ) (w : View) → get_elem? views id ≡ some v → ¬ (other ≡ id) → get_elem? (set views id (together v w)) other ≡ some w → 0 < v.parts → Keeps tasks seats next noted (set (set views id (together v w)) other nobody)
join_keeps {tasks} {seats} {next} {noted} {views} k id v other w at apart there some_part =
    let b : View = together v w in
    let mid : List View = set views id b in
    let now : List View = set mid other nobody in
    let was : get_elem? views other ≡ some w = ⊎_elim (λ (x : (other ≡ id) × (b ≡ w)). absurd (apart x.0)) (λ (x : (other ≢ id) × (get_elem? views other ≡ some w)). x.1) (at_set views id other b w there) in
    let a = mine k id v at in
    let c = mine k other w was in
    let sums : (f : View → ℕ) → sum_by f now + f v + f w ≡ sum_by f views + f b + f nobody = λ f. omega (arith, sum_set f views id v b at, sum_set f mid other w nobody there) in
    let drawns : (h : ℕ → ℕ) → sum_by (λ (u : View). sum_by h u.drawn) now ≡ sum_by (λ (u : View). sum_by h u.drawn) views = λ h. omega (arith, sums (λ (u : View). sum_by h u.drawn), sum_by-append h v.drawn w.drawn) in
    let noteds : (h : Note → ℕ) → sum_by (λ (u : View). sum_by h u.notes) now ≡ sum_by (λ (u : View). sum_by h u.notes) views = λ h. omega (arith, sums (λ (u : View). sum_by h u.notes), sum_by-append h v.notes w.notes) in
    let spents : sum_by (λ (u : View). u.spent) now ≡ sum_by (λ (u : View). u.spent) views = omega (arith, sums (λ (u : View). u.spent)) in
    let one = totals_same noted views now (λ t. noteds (λ (n : Note). cond (nat_le n.total t) n.rows 0)) in
    let Q : View → Type 0 = λ u. All (IsTotal noted now) u.notes in
    record {
      few_tasks = k.few_tasks;
      few_seats = k.few_seats;
      drawn = λ h. omega (arith, k.drawn h, drawns h);
      count = omega (arith, k.count, sums (λ (u : View). length u.drawn), length-append v.drawn w.drawn, spents);
      late = λ p. k.late (omega (arith, p, spents));
      fair = All-set (IsFair tasks) mid other nobody record {
        tasks_are = λ h. absurd (omega (arith, h));
        idle = λ _. (refl, refl);
        spent = omega arith;
        once = λ h. omega arith;
        short = All-nil (λ (n : Note). n.rows ≤ 50001);
      } (All-set (IsFair tasks) views id b record {
        tasks_are = λ _. a.tasks_are some_part;
        idle = λ none. absurd (omega (arith, none, some_part));
        spent = omega (arith, a.spent, c.spent);
        once = λ h. omega (arith, a.once h, c.once h, sum_by-append h v.drawn w.drawn, sum_by-append (λ (n : Note). h n.task) v.notes w.notes);
        short = All-append (λ (n : Note). n.rows ≤ 50001) v.notes w.notes a.short c.short;
      } k.fair);
      rows = omega (arith, k.rows, noteds (λ (n : Note). n.rows));
      totals = All-set Q mid other nobody (All-nil (IsTotal noted now)) (All-set Q views id b (All-append (IsTotal noted now) v.notes w.notes (one v (my_totals k id v at)) (one w (my_totals k other w was))) (All-weaker (λ (u : View). All (IsTotal noted views) u.notes) Q one views k.totals));
      parts = omega (arith, k.parts, sums (λ (u : View). u.parts));
    }

pub joins : (k : Terms) (id : ℕ) (v : View) (other : ℕ) (w : View) → 0 < v.parts → Joins (IsRuled k) id v other w (together v w) nobody
joins k id v other w some_part s (next, noted, words, keep) at apart there = (next, noted, words, join_keeps keep id v other w at apart there some_part)

-- the board at the start
pub begins : (k : Terms) (homes : List (mathlib.Core.Option.Option (Unit {0}))) → k.tasks ≤ 4096 → k.seats ≤ 16 → IsRuled k record { words = 0 ∷ 0 ∷ k.tasks ∷ []; homes = homes; views = opening_view k ∷ [] }
begins k homes few_tasks few_seats = (
  0,
  0,
  refl,
  record {
    few_tasks = few_tasks;
    few_seats = few_seats;
    drawn = λ h. let m : min 0 k.tasks ≡ 0 = omega arith in sym (ap (λ n. sum_by h (range_with_len 0 n)) m);
    count = refl;
    late = λ p. absurd (omega (arith, p));
    fair = Rattle.std.proofs.lemmas.List.Elements.All-cons (IsFair k.tasks) (opening_view k) [] record {
      tasks_are = λ _. refl;
      idle = λ _. (refl, refl);
      spent = omega arith;
      once = λ h. omega arith;
      short = All-nil (λ (n : Note). n.rows ≤ 50001);
    } (All-nil (IsFair k.tasks));
    rows = refl;
    totals = Rattle.std.proofs.lemmas.List.Elements.All-cons (λ (u : View). All (IsTotal 0 (opening_view k ∷ [])) u.notes) (opening_view k) [] (All-nil (IsTotal 0 (opening_view k ∷ []))) (All-nil (λ (u : View). All (IsTotal 0 (opening_view k ∷ [])) u.notes));
    parts = omega arith;
  },
)
