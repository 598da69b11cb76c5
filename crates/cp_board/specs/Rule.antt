-- The Board rule, which ties the views of all seats to the board's three words, and the kinds of atomic step.
use Rattle.std.specs.Prelude.{◌≡◌, ℕ, ◌+◌, ◌-◌, ◌<◌, ◌≤◌, ◌^◌, min, List, [], ◌∷◌, ◌++◌, length, All, sum_by}
use Rattle.atomic_table.specs.Table.{State, Me, Step}
use Rattle.cp_board.specs.declared.views.View.{View}
use Rattle.cp_board.specs.declared.views.Terms.{Terms}
use Rattle.cp_board.specs.Views.{view, rows_noted, times_noted, drew, ran_dry, noted_by, NotesOnce, DrawsBelow, IsTotal}

-- what holds of each view alone
pub record IsFair (tasks : ℕ) (v : View) : Type 0 where
  -- Number of tasks: each view of at least one part has it
  pub tasks_are : 0 < v.parts → v.tasks ≡ tasks
  -- Parts: a view of no parts has empty lists and nothing spent; the spent claims are at most the parts
  pub idle : v.parts ≡ 0 → (v.drawn ≡ []) × (v.notes ≡ [])
  pub spent : v.spent ≤ v.parts
  -- Own notes: only what was drawn, each task once, with at most 50,001 rows
  pub once : NotesOnce v
  pub short : All (λ n. n.rows ≤ 50001) v.notes

-- what holds of the next task, the rows noted and all views
pub record Keeps (tasks seats next noted : ℕ) (views : List View) : Type 0 where
  -- Number of tasks, and how many seats there are at most
  pub few_tasks : tasks ≤ 4096
  pub few_seats : seats ≤ 16
  -- Draws: the numbers below the next task and the number of tasks, each once
  pub drawn : DrawsBelow (min next tasks) views
  -- Next task: the count of all draws and of the spent claims; where there is a spent claim, no task is left
  pub count : next ≡ sum_by (λ v. length v.drawn) views + sum_by (λ v. v.spent) views
  pub late : 0 < sum_by (λ v. v.spent) views → tasks ≤ next
  -- Own notes, and Number of tasks and Parts of each view
  pub fair : All (IsFair tasks) views
  -- Rows noted: the sum of all notes, and each total is a sum over all views
  pub rows : noted ≡ sum_by (λ v. rows_noted v.notes) views
  pub totals : All (λ v. All (IsTotal noted views) v.notes) views
  -- Parts: they add up to the number of seats
  pub parts : sum_by (λ v. v.parts) views ≡ seats

-- word 0 is the next task, word 1 the rows noted, word 2 the number of tasks
abbrev pub IsRuled : Terms → State (Unit {0}) View → Type 0
IsRuled k s = (next : ℕ) × (noted : ℕ) × (s.words ≡ next ∷ noted ∷ k.tasks ∷ []) × Keeps k.tasks k.seats next noted s.views

-- the view of the first seat, which stands for all
abbrev pub opening_view : Terms → View
opening_view k = view k.seats k.tasks [] [] 0

-- A claim step finds the next task: one that is left is drawn, was not noted by this seat, and the seat had drawn fewer
-- than there are; else the claim is spent.
abbrev pub claims : Step (Unit {0}) → Me (Unit {0}) View → ℕ → Me (Unit {0}) View → Type 0
claims s me found after =
    (found < 2 ^ 32)
    × (found < me.0.tasks → (after ≡ (drew me.0 found, me.1)) × (times_noted found me.0.notes ≡ 0) × (length me.0.drawn < me.0.tasks))
    × (me.0.tasks ≤ found → after ≡ (ran_dry me.0, me.1))

-- A note step finds the rows noted so far: the note's total is their sum with its rows, and they are no less than what the
-- seat had noted and was told.
abbrev pub notes : Step (Unit {0}) → Me (Unit {0}) View → ℕ → Me (Unit {0}) View → Type 0
notes s me found after =
    (found + s.first < 2 ^ 64)
    × (after ≡ (noted_by me.0 s.first (found + s.first), me.1))
    × (rows_noted me.0.notes ≤ found)
    × All (λ n. n.total ≤ found) me.0.notes

-- A split step leaves one part to the new seat, which has drawn nothing, and the other parts to the old one.
abbrev pub keeper : View → View
keeper v = view (v.parts - 1) v.tasks v.drawn v.notes v.spent

abbrev pub dealt : View → View
dealt v = view 1 v.tasks [] [] 0

-- A join step gives one seat both lists and the sums of the parts and of the spent claims, and has nothing left itself.
abbrev pub together : View → View → View
together v w = view (v.parts + w.parts) v.tasks (v.drawn ++ w.drawn) (v.notes ++ w.notes) (v.spent + w.spent)

abbrev pub nobody : View
nobody = view 0 0 [] [] 0
