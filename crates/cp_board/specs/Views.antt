-- What the seats of a board have drawn and noted, and what holds of the views of all seats together.
use Rattle.std.specs.Prelude.{◌≡◌, ℕ, ◌<◌, ◌≤◌, cond, nat_le, nat_lt, ◌==◌, List, [], ◌∷◌, ◌++◌, length, All, sum_by, count_by}
use Rattle.std.specs.List.{range_with_len}
use Rattle.cp_board.specs.declared.views.Note.{Note}
use Rattle.cp_board.specs.declared.views.View.{View}

abbrev pub note : ℕ → ℕ → ℕ → Note
note task rows total = record { task = task; rows = rows; total = total }

abbrev pub view : ℕ → ℕ → List ℕ → List Note → ℕ → View
view parts tasks drawn notes spent = record { parts = parts; tasks = tasks; drawn = drawn; notes = notes; spent = spent }

-- the rows of these notes
abbrev pub rows_noted : List Note → ℕ
rows_noted ns = sum_by (λ n. n.rows) ns

-- the rows of those notes whose total is at most this
abbrev pub rows_until : ℕ → List Note → ℕ
rows_until total ns = sum_by (λ n. cond (nat_le n.total total) n.rows 0) ns

-- how often the task was noted
abbrev pub times_noted : ℕ → List Note → ℕ
times_noted task ns = count_by (λ n. n.task == task) ns

-- how often the task was drawn
abbrev pub times_drawn : ℕ → List ℕ → ℕ
times_drawn task drawn = count_by (λ t. t == task) drawn

-- the number that was drawn last
abbrev pub last_of : List ℕ → ℕ
last_of [] = 0
last_of (x ∷ []) = x
last_of (x ∷ y ∷ ys) = last_of (y ∷ ys)

-- the view after a claim that gave a task, after one that gave none, and after a note
abbrev pub drew : View → ℕ → View
drew v task = view v.parts v.tasks (v.drawn ++ task ∷ []) v.notes v.spent

abbrev pub ran_dry : View → View
ran_dry v = view v.parts v.tasks v.drawn v.notes 1

abbrev pub noted_by : View → ℕ → ℕ → View
noted_by v rows total = view v.parts v.tasks v.drawn (v.notes ++ note (last_of v.drawn) rows total ∷ []) v.spent

-- the last claim gave a task that is not noted yet
pub record HasOpenTask (v : View) : Type 0 where
  pub drew : 0 < length v.drawn
  pub claimed : v.spent ≡ 0
  pub open_yet : times_noted (last_of v.drawn) v.notes ≡ 0

-- Draws: the drawn lists are disjoint, without repeats, and together the numbers below the count. Each of these
-- numbers is drawn once, by one view alone, and no other number is drawn.
abbrev pub DrawsEachBelow : ℕ → List View → Type 0
DrawsEachBelow count views = (x : ℕ) → sum_by (λ v. times_drawn x v.drawn) views ≡ cond (nat_lt x count) 1 0

-- The same by weights: however the numbers are weighed, all that were drawn weigh what those below the count weigh.
abbrev pub DrawsBelow : ℕ → List View → Type 0
DrawsBelow count views = (h : ℕ → ℕ) → sum_by (λ v. sum_by h v.drawn) views ≡ sum_by h (range_with_len 0 count)

-- Own notes: a view notes only what it drew, and no task more often than it drew it, which by Draws is once.
abbrev pub NotesEachOnce : View → Type 0
NotesEachOnce v = (x : ℕ) → times_noted x v.notes ≤ times_drawn x v.drawn

-- The same by weights: however the tasks are weighed, those noted weigh no more than those drawn.
abbrev pub NotesOnce : View → Type 0
NotesOnce v = (h : ℕ → ℕ) → sum_by (λ n. h n.task) v.notes ≤ sum_by h v.drawn

-- Rows noted, of one note: its total is not above the rows noted, and it is the sum of the rows of all notes, of all
-- views, whose total is not above it.
abbrev pub IsTotal : ℕ → List View → Note → Type 0
IsTotal noted views n = (n.total ≤ noted) × (n.total ≡ sum_by (λ v. rows_until n.total v.notes) views)

-- what a closed board of these tasks says of the views of all its seats
pub record Settles (tasks claimed total : ℕ) (views : List View) : Type 0 where
  -- Draws
  pub within : claimed ≤ tasks
  pub drawn : DrawsBelow claimed views
  -- Next task: the count of all draws, and all tasks where a claim was spent
  pub count : claimed ≡ sum_by (λ v. length v.drawn) views
  pub all_drawn : 0 < sum_by (λ v. v.spent) views → claimed ≡ tasks
  -- Own notes
  pub once : All NotesOnce views
  pub short : All (λ v. All (λ n. n.rows ≤ 50001) v.notes) views
  -- Rows noted
  pub rows : total ≡ sum_by (λ v. rows_noted v.notes) views
  pub totals : All (λ v. All (IsTotal total views) v.notes) views
