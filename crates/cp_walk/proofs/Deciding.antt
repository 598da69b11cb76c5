-- What the workers' parts and the closed board decide.
use Rattle.cp_walk.proofs.Words.{Row, range_with_len, length-take, take_all, eq-eqb, eqb-true, View, view_of, IsSeatOf, TaskRows, table_of, rows_at}
use Rattle.std.proofs.Common.{◌≡◌, ℕ, zero, suc, ◌+◌, ◌<◌, ◌≤◌, min, Bool, true, false, cond, eqb, List, [], ◌∷◌, ◌++◌, length, get_or, map, take, flat_map, sum_by, count_by, All, Any, sym, refl, ap, ◌∙◌, subst, arith}
use Rattle.std.proofs.lemmas.List.Concat.{length-flat_map}
use Rattle.std.proofs.lemmas.List.FromFn.{length-range_with_len, get_or-range_with_len}
use Rattle.std.proofs.lemmas.List.Sums.{sum_by-cons, sum_by-append, get_or-le-sum_by}
use Rattle.std.proofs.lemmas.List.Elements.{All-nil, All-cons, All-head, All-tail, All-append, All-weaker}
use Rattle.cp_board.specs.declared.views.Note.{Note}
use Rattle.cp_board.specs.declared.seats.Board.{Board}
use Rattle.cp_board.specs.declared.seats.Seat.{Seat}
use Rattle.cp_board.specs.Views.{rows_noted, NotesOnce, IsTotal, Settles}
use Rattle.cp_board.proofs.Lists.{sum_ones, sum_same, sum_le, sum_range}
use Rattle.cp_walk.specs.declared.worker.Worked.{Worked}
use Rattle.cp_walk.specs.declared.worker.WorkerEnd.{WorkerEnd}
use Rattle.cp_walk.specs.declared.worker.WorkerEnd.TheVariants.{Dry, Excess, Refused}
use Rattle.cp_walk.specs.Ends.{IsDone, IsHonest, EndsAs, IsKept, HasWorked}
use Rattle.cp_walk.proofs.Doing.{honest}

sum_map : {A B : Type 0} (f : B → ℕ) (g : A → B) (xs : List A) → sum_by f (map g xs) ≡ sum_by (λ x. f (g x)) xs
sum_map f g [] = refl
sum_map {A} f g (x ∷ xs) = let h : A → ℕ = λ y. f (g y) in omega (arith, sum_by-cons f (g x) (map g xs), sum_by-cons h x xs, sum_map f g xs)

sum_flat : {A B : Type 0} (f : B → ℕ) (g : A → List B) (xs : List A) → sum_by f (flat_map g xs) ≡ sum_by (λ x. sum_by f (g x)) xs
sum_flat f g [] = refl
sum_flat {A} f g (x ∷ xs) = let h : A → ℕ = λ y. sum_by f (g y) in omega (arith, sum_by-append f (g x) (flat_map g xs), sum_by-cons h x xs, sum_flat f g xs)

unmapped : {A B : Type 0} (P : B → Type 0) (g : A → B) (xs : List A) → All P (map g xs) → All (λ x. P (g x)) xs
unmapped P g [] h = All-nil (λ x. P (g x))
unmapped P g (x ∷ xs) h = All-cons (λ y. P (g y)) x xs (All-head P (g x) (map g xs) h) (unmapped P g xs (All-tail P (g x) (map g xs) h))

all_flat : {A B : Type 0} (P : B → Type 0) (g : A → List B) (xs : List A) → All (λ x. All P (g x)) xs → All P (flat_map g xs)
all_flat P g [] h = All-nil P
all_flat {A} P g (x ∷ xs) h = let Q : A → Type 0 = λ y. All P (g y) in All-append P (g x) (flat_map g xs) (All-head Q x xs h) (all_flat P g xs (All-tail Q x xs h))

range_le : (h : ℕ → ℕ) (a b : ℕ) → a ≤ b → sum_by h (range_with_len 0 a) ≤ sum_by h (range_with_len 0 b)
range_le h a zero le = let z : a ≡ 0 = omega (arith, le) in let e = ap (λ n. sum_by h (range_with_len 0 n)) z in omega (arith, e)
range_le h a (suc b) le = Rattle.std.proofs.Common.⊎_elim
    (λ (lt : a < suc b). omega (arith, range_le h a b (omega (arith, lt)), sum_range h b))
    (λ (ge : suc b ≤ a). let z : a ≡ suc b = omega (arith, le, ge) in let e = ap (λ n. sum_by h (range_with_len 0 n)) z in omega (arith, e))
    (Rattle.std.proofs.lemmas.Bool.cases_lt a (suc b))

in_range : (h : ℕ → ℕ) (t m : ℕ) → t < m → h t ≤ sum_by h (range_with_len 0 m)
in_range h t m lt = subst (λ n. h n ≤ sum_by h (range_with_len 0 m)) (get_or-range_with_len 0 m t 0 lt ∙ (omega arith)) (get_or-le-sum_by h (range_with_len 0 m) t 0 (omega (arith, lt, length-range_with_len 0 m)))

same_from : (f g : ℕ → List Row) (a n : ℕ) → ((t : ℕ) → a ≤ t → t < a + n → f t ≡ g t) → flat_map f (range_with_len a n) ≡ flat_map g (range_with_len a n)
same_from f g a zero h = refl
same_from f g a (suc n) h = λ i. h a (omega arith) (omega arith) i ++ same_from f g (a + 1) n (λ t low high. h t (omega (arith, low)) (omega (arith, high))) i

pub same_table : (f g : ℕ → List Row) (m : ℕ) → ((t : ℕ) → t < m → f t ≡ g t) → table_of f m ≡ table_of g m
same_table f g m h = same_from f g 0 m (λ t low high. h t (omega (arith, high)))

-- a piece of the task that is there is found
found : (rows : ℕ → List Row) (t : ℕ) (ps : List TaskRows) → All (λ p. p.rows.items ≡ take 50001 (rows p.task)) ps → 0 < count_by (λ p. eqb p.task t) ps → rows_at ps t ≡ take 50001 (rows t)
found rows t [] cut some = absurd (omega (arith, some))
found rows t (p ∷ ps) cut has =
    let P : TaskRows → Type 0 = λ q. q.rows.items ≡ take 50001 (rows q.task) in
    let c : TaskRows → ℕ = λ q. cond (eqb q.task t) 1 0 in
    let n = sum_by-cons c p ps in
    let cases = λ (b : Bool) (is : eqb p.task t ≡ b). elim b as (λ b. eqb p.task t ≡ b → cond (eqb p.task t) p.rows.items (rows_at ps t) ≡ take 50001 (rows t)) [
      | true ↦ λ e. ap (λ b. cond b p.rows.items (rows_at ps t)) e ∙ All-head P p ps cut ∙ ap (λ k. take 50001 (rows k)) (eqb-true p.task t e)
      | false ↦ λ e. let z : c p ≡ 0 = ap (λ b. cond b 1 0) e in ap (λ b. cond b p.rows.items (rows_at ps t)) e ∙ found rows t ps (All-tail P p ps cut) (omega (arith, has, n, z))
    ] is in
    cases (eqb p.task t) refl

honest_of : (rows : ℕ → List Row) (v : View) (ps : List TaskRows) (e : WorkerEnd) → EndsAs rows v ps e → IsKept e → IsHonest rows v
honest_of rows v ps Dry h kept = honest rows v ps h.1
honest_of rows v ps Excess h kept = h.0
honest_of rows v ps Refused h kept = absurd kept

done_of : (rows : ℕ → List Row) (v : View) (ps : List TaskRows) (e : WorkerEnd) (total : ℕ) → EndsAs rows v ps e → IsKept e → All (λ n. n.total ≤ total) v.notes → total ≤ 50000 → (v.spent ≡ 1) × IsDone rows v ps
done_of rows v ps Dry total h kept most few = h
done_of rows v ps Excess total (low, (k, n, at, is, over)) kept most few =
    let le : n.total ≤ total = subst (λ (m : Note). m.total ≤ total) is (most k n at) in
    absurd (omega (arith, le, over, few))
done_of rows v ps Refused total h kept most few = absurd kept

module _ (rows : ℕ → List Row) (b : Board) (tasks : ℕ) (ws : List Worked) (claimed total : ℕ)
    (settled : Settles tasks claimed total (map view_of (map (λ w. w.seat) ws)))
    (each : All (HasWorked rows b) ws) (kept : All (λ w. IsKept w.end) ws) where
  abbrev V : Worked → View
  V w = view_of w.seat

  sums : (f : View → ℕ) → sum_by f (map view_of (map (λ (w : Worked). w.seat) ws)) ≡ sum_by (λ w. f (V w)) ws
  sums f = sum_map f view_of (map (λ (w : Worked). w.seat) ws) ∙ sum_map (λ (s : Seat). f (view_of s)) (λ (w : Worked). w.seat) ws

  alls : (P : View → Type 0) → All P (map view_of (map (λ (w : Worked). w.seat) ws)) → All (λ w. P (V w)) ws
  alls P h = unmapped (λ (s : Seat). P (view_of s)) (λ (w : Worked). w.seat) ws (unmapped P view_of (map (λ (w : Worked). w.seat) ws) h)

  draws : (h : ℕ → ℕ) → sum_by (λ w. sum_by h (V w).drawn) ws ≡ sum_by h (range_with_len 0 claimed)
  draws h = sym (sums (λ (v : View). sum_by h v.drawn)) ∙ settled.drawn h

  abbrev L : ℕ → ℕ
  L t = length (rows t)

  abbrev K : ℕ → ℕ
  K t = length (take 50001 (rows t))

  -- no more was noted than the table has
  pub total-le-table : total ≤ length (table_of rows tasks)
  total-le-table =
      let once = alls NotesOnce settled.once in
      let one : All (λ w. rows_noted (V w).notes ≤ sum_by L (V w).drawn) ws = λ k d h.
      let w = get_or ws k d in
      let low = honest_of rows (V w) w.parts.items w.end (each k d h).1 (kept k d h) in
      let a : sum_by (λ n. n.rows) (V w).notes ≤ sum_by (λ n. L n.task) (V w).notes = sum_le (λ (n : Note). n.rows) (λ n. L n.task) (V w).notes low in
      omega (arith, a, once k d h L) in
      let a = sum_le (λ (w : Worked). rows_noted (V w).notes) (λ w. sum_by L (V w).drawn) ws one in
      omega (arith, a, settled.rows, sums (λ (v : View). rows_noted v.notes), draws L, range_le L claimed tasks settled.within, length-flat_map rows (range_with_len 0 tasks))

  module _ (few : total ≤ 50000) where
    done : All (λ w. ((V w).spent ≡ 1) × IsDone rows (V w) w.parts.items) ws
    done k d h =
        let w = get_or ws k d in
        let totals = alls (λ (v : View). All (IsTotal total (map view_of (map (λ (w : Worked). w.seat) ws))) v.notes) settled.totals in
        let most : All (λ n. n.total ≤ total) (V w).notes = All-weaker (IsTotal total (map view_of (map (λ (w : Worked). w.seat) ws))) (λ n. n.total ≤ total) (λ n t. t.0) (V w).notes (totals k d h) in
        done_of rows (V w) w.parts.items w.end total (each k d h).1 (kept k d h) most few

    abbrev parts : List TaskRows
    parts = flat_map (λ w. w.parts.items) ws

    pub all_below : ((w : Worked) → IsSeatOf b w.seat → (V w).tasks ≡ tasks) → All (λ p. p.task < tasks) parts
    all_below same = all_flat (λ (p : TaskRows). p.task < tasks) (λ (w : Worked). w.parts.items) ws (λ k d h.
        let w = get_or ws k d in
        All-weaker (λ (p : TaskRows). p.task < (V w).tasks) (λ p. p.task < tasks) (λ p lt. omega (arith, lt, same w (each k d h).0)) w.parts.items (done k d h).1.below)

    module _ (some_worker : 0 < length ws) where
      everything : claimed ≡ tasks
      everything =
          let one = sum_same (λ (w : Worked). (V w).spent) (λ _. 1) ws (λ k d h. (done k d h).0) in
          settled.all_drawn (omega (arith, sums (λ (v : View). v.spent), one, sum_ones ws, some_worker))

      drawn_all : (h : ℕ → ℕ) → sum_by (λ w. sum_by h (V w).drawn) ws ≡ sum_by h (range_with_len 0 tasks)
      drawn_all h = draws h ∙ ap (λ n. sum_by h (range_with_len 0 n)) everything

      total-is : total ≡ sum_by K (range_with_len 0 tasks)
      total-is =
          let one : All (λ w. rows_noted (V w).notes ≡ sum_by K (V w).drawn) ws = λ k d h.
          let w = get_or ws k d in
          let f = (done k d h).1 in
          sum_same (λ (n : Note). n.rows) (λ n. K n.task) (V w).notes f.counted ∙ sym (sum_map K (λ (n : Note). n.task) (V w).notes) ∙ ap (sum_by K) f.noted in
          settled.rows ∙ sums (λ (v : View). rows_noted v.notes) ∙ sum_same (λ (w : Worked). rows_noted (V w).notes) (λ w. sum_by K (V w).drawn) ws one ∙ drawn_all K

      whole : (t : ℕ) → t < tasks → take 50001 (rows t) ≡ rows t
      whole t lt = take_all 50001 (rows t) (omega (arith, in_range K t tasks lt, total-is, few, length-take 50001 (rows t)))

      at_task : (t : ℕ) → t < tasks → rows_at parts t ≡ rows t
      at_task t lt =
          let h : ℕ → ℕ = λ y. cond (eqb y t) 1 0 in
          let cut : All (λ p. p.rows.items ≡ take 50001 (rows p.task)) parts = all_flat (λ (p : TaskRows). p.rows.items ≡ take 50001 (rows p.task)) (λ (w : Worked). w.parts.items) ws (λ k d i. (done k d i).1.cut) in
          let one : All (λ w. sum_by (λ p. h p.task) w.parts.items ≡ sum_by h (V w).drawn) ws = λ k d i.
          let w = get_or ws k d in
          sym (sum_map h (λ (p : TaskRows). p.task) w.parts.items) ∙ ap (sum_by h) (done k d i).1.parts in
          let a = sum_flat (λ (p : TaskRows). h p.task) (λ (w : Worked). w.parts.items) ws in
          let e = sum_same (λ (w : Worked). sum_by (λ p. h p.task) w.parts.items) (λ w. sum_by h (V w).drawn) ws one in
          let itself : h t ≡ 1 = ap (λ b. cond b 1 0) (eq-eqb t t refl) in
          found rows t parts cut (omega (arith, a, e, drawn_all h, in_range h t tasks lt, itself)) ∙ whole t lt

      -- the parts give the table of one thread
      pub table-from_parts : table_of (rows_at parts) tasks ≡ table_of rows tasks
      table-from_parts = same_table (rows_at parts) rows tasks at_task

      -- which has as many rows as were noted
      pub length-table : length (table_of rows tasks) ≡ total
      length-table = ap length (sym (same_table (λ t. take 50001 (rows t)) rows tasks whole)) ∙ length-flat_map (λ t. take 50001 (rows t)) (range_with_len 0 tasks) ∙ sym total-is
