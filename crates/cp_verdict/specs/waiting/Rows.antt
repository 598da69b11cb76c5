-- The rows of a table by who waits at their ends.
use Rattle.std.specs.Prelude.{◌≡◌, ◌≤◌, ℕ, List, [], true, not, filter, length, Contains, if◌then◌else◌}
use Rattle.std.specs.declared.alloc.Global.{Global}
use Rattle.std.specs.declared.vec.Vec.{Vec}
use Rattle.cp_run.specs.declared.outcome.Outcome.{Outcome}
use Rattle.cp_run.specs.Table.{IsAmong, Line}
use Rattle.cp_waiting_ends.specs.declared.end.WaitingEnd.{WaitingEnd}
use Rattle.cp_waiting_ends.specs.declared.ends.WaitingEnds.{WaitingEnds}
use Rattle.cp_verdict.specs.waiting.Matching.{is_waiting}
use Rattle.cp_verdict.specs.declared.seen.Seen.{Seen}
use Rattle.cp_verdict.specs.declared.waiting.rows.SeenWaiting.{SeenWaiting}

-- if all wait at the end of a row, those who do
abbrev pub who_of : (List ℕ → List ℕ) → Line → List ℕ
who_of who l = if is_waiting l.outcome then who l.word else []

-- a row has this outcome, and these wait at its end
abbrev pub IsRowOf : (List ℕ → List ℕ) → Line → SeenWaiting → Type 0
IsRowOf who l x = (x.outcome.now ≡ l.outcome) × (x.who.now ≡ who_of who l)

abbrev pub waiting_line : SeenWaiting → Line
waiting_line x = record { word = x.first.now; outcome = x.outcome.now }

-- each is so of a row with its word, and of each row there is one
pub record AreRowsOf (who : List ℕ → List ℕ) (lines : List Line) (rows : List SeenWaiting) : Type 0 where
  pub each : (x : SeenWaiting) → Contains rows x → (l : Line) × IsAmong l lines × (l.word ≡ x.first.now) × IsRowOf who l x
  pub all : (l : Line) → IsAmong l lines → (x : SeenWaiting) × Contains rows x × IsRowOf who l x

-- each end is that of a row with its word, and the end of each row at which all wait is among them
pub record AreEndsIn (who : List ℕ → List ℕ) (lines : List Line) (ends : WaitingEnds) : Type 0 where
  pub each : (e : WaitingEnd × Vec ℕ Global) → Contains ends.known.entries e → (l : Line) × IsAmong l lines × (l.word ≡ e.1.items) × (is_waiting l.outcome ≡ true) × (l.outcome ≡ e.0.key.outcome) × (who l.word ≡ e.0.who.items)
  pub all : (l : Line) → IsAmong l lines → is_waiting l.outcome ≡ true → (e : WaitingEnd × Vec ℕ Global) × Contains ends.known.entries e × (e.0.key.outcome ≡ l.outcome) × (e.0.who.items ≡ who l.word)

-- no schedule has more than 100 numbers
abbrev pub HaveShortWords : List SeenWaiting → Type 0
HaveShortWords rows = (x : SeenWaiting) → Contains rows x → length x.first.now ≤ 100

abbrev pub HaveShortEnds : WaitingEnds → Type 0
HaveShortEnds ends = (e : WaitingEnd × Vec ℕ Global) → Contains ends.known.entries e → length e.1.items ≤ 100

-- ---- how they are gathered

-- who waits, the outcome, and the schedule
abbrev pub row_seen : SeenWaiting → (List ℕ × Outcome) × List ℕ
row_seen x = ((x.who.now, x.outcome.now), x.first.now)

-- those of some outcomes at whose ends not all wait
abbrev pub others_in : List Seen → List Seen
others_in seen = filter (λ s. not (is_waiting s.outcome.now)) seen

abbrev pub other_row : Seen → (List ℕ × Outcome) × List ℕ
other_row s = (([], s.outcome.now), s.first.now.items)

abbrev pub end_row : WaitingEnd × Vec ℕ Global → (List ℕ × Outcome) × List ℕ
end_row e = ((e.0.who.items, e.0.key.outcome), e.1.items)
