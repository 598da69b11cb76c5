-- One more task keeps what a worker has done.
use Rattle.cp_walk.proofs.Words.{Row, View, TaskRows, IsDone, IsHonest}
use Rattle.std.proofs.Common.{◌≡◌, ℕ, ◌<◌, ◌≤◌, List, [], ◌∷◌, ◌++◌, length, take, Any, sym, refl, ap, ◌∙◌, arith, length-append}
use Rattle.std.proofs.lemmas.List.{map-append, length-take, get_or_at}
use Rattle.std.proofs.lemmas.List.Elements.{All-push, All-weaker, All-nil}
use Rattle.std.proofs.lemmas.List.Sums.{sum_by-cons, sum_by-append}
use Rattle.cp_board.specs.declared.views.Note.{Note}
use Rattle.cp_board.specs.Views.{note, view, last_of, drew, noted_by, rows_noted}
use Rattle.cp_board.proofs.Moves.{last_of-push}

pub nothing_done : (rows : ℕ → List Row) (tasks : ℕ) → IsDone rows (view 1 tasks [] [] 0) []
nothing_done rows tasks = record {
  parts = refl;
  below = All-nil (λ (p : TaskRows). p.task < tasks);
  cut = All-nil (λ (p : TaskRows). p.rows.items ≡ take 50001 (rows p.task));
  noted = refl;
  counted = All-nil (λ (n : Note). n.rows ≡ length (take 50001 (rows n.task)));
}

pub one_more : (rows : ℕ → List Row) (v : View) (ps : List TaskRows) (p : TaskRows) (count total : ℕ) → IsDone rows v ps → p.task < v.tasks → p.rows.items ≡ take 50001 (rows p.task) → count ≡ length p.rows.items → IsDone rows (noted_by (drew v p.task) count total) (ps ++ p ∷ [])
one_more rows v ps p count total done below cut is =
    let last = last_of-push v.drawn p.task in
    let new : Note = note (last_of (v.drawn ++ p.task ∷ [])) count total in
    let counted : count ≡ length (take 50001 (rows (last_of (v.drawn ++ p.task ∷ [])))) = is ∙ ap length cut ∙ ap (λ t. length (take 50001 (rows t))) (sym last) in
    record {
      parts = map-append (λ (q : TaskRows). q.task) ps (p ∷ []) ∙ ap (λ l. l ++ p.task ∷ []) done.parts;
      below = All-push (λ (q : TaskRows). q.task < v.tasks) ps p done.below below;
      cut = All-push (λ (q : TaskRows). q.rows.items ≡ take 50001 (rows q.task)) ps p done.cut cut;
      noted = map-append (λ (n : Note). n.task) v.notes (new ∷ []) ∙ (λ i. done.noted i ++ last i ∷ []);
      counted = All-push (λ (n : Note). n.rows ≡ length (take 50001 (rows n.task))) v.notes new done.counted counted;
    }

pub honest : (rows : ℕ → List Row) (v : View) (ps : List TaskRows) → IsDone rows v ps → IsHonest rows v
honest rows v ps done = All-weaker (λ (n : Note). n.rows ≡ length (take 50001 (rows n.task))) (λ n. n.rows ≤ length (rows n.task)) (λ n e. omega (arith, e, length-take 50001 (rows n.task))) v.notes done.counted

-- a note at the end
pub any_last : (P : Note → Type 0) (ns : List Note) (n : Note) → P n → Any P (ns ++ n ∷ [])
any_last P ns n h = (length ns, n, omega (arith, length-append ns (n ∷ [])), get_or_at ns n [] n (length ns) refl, h)

-- a task that has more rows than a table may have
pub excess : (rows : ℕ → List Row) (v : View) (ps : List TaskRows) (task total : ℕ) → IsDone rows v ps → 50000 < length (rows task) → IsHonest rows (noted_by (drew v task) 50001 total)
excess rows v ps task total done over =
    let last = last_of-push v.drawn task in
    let new : Note = note (last_of (v.drawn ++ task ∷ [])) 50001 total in
    let here : 50001 ≤ length (rows (last_of (v.drawn ++ task ∷ []))) = (let e = ap (λ t. length (rows t)) last in omega (arith, over, e)) in
    All-push (λ (n : Note). n.rows ≤ length (rows n.task)) v.notes new (honest rows v ps done) here

pub noted_most : (v : View) (task total : ℕ) → rows_noted (noted_by (drew v task) 50001 total).notes ≤ total → 50000 < total
noted_most v task total h =
    let new : Note = note (last_of (v.drawn ++ task ∷ [])) 50001 total in
    let e = sum_by-append (λ (n : Note). n.rows) v.notes (new ∷ []) in
    let one = sum_by-cons (λ (n : Note). n.rows) new [] in
    omega (arith, h, e, one)
