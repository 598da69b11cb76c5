-- A step of a process needs nothing of others: from what it holds and what its call concerns.
use Rattle.std.proofs.Common.{◌≡◌, ℕ, ◌<◌, ◌≤◌, ◌∙◌, ◌⊎◌, inl, inr, Bool, true, false, List, [], ◌∷◌, length, Ok, Err, ap, sym, refl, subst, length-set}
use Rattle.cp_at_once_laws.proofs.Words.{Program, Outcome, View, Doing, takes, moved_to, first_components, status_at, HeldBy, HeldCalls, OrderlyState, OwnedState}
use Rattle.cp_meaning.specs.State.{initialised, initial_statement, CallKind, Call, Item, init_end, ready, Process, process_at, book_discipline, State}
use Rattle.cp_meaning.proofs.Frames.{Frame, frames, TopStarts, ItemsFit}
use Rattle.cp_at_once_laws.proofs.reading.Reading.{OwnCalls}
use Rattle.cp_at_once_laws.proofs.reading.Taking.{LeavesOthers, EndsOwn}
use Rattle.cp_at_once_laws.proofs.pairs.Changes.{replaced_at, left_by}
use Rattle.cp_at_once_laws.proofs.pairs.Facts.{Open, done, Facts, AllFacts}
use Rattle.cp_at_once_laws.proofs.pairs.Holding.{calls_own}
use Rattle.cp_at_once_laws.proofs.pairs.Merging.{SameOwners, MoveOwn, Fitting, DoneOwn, IsApart, IsTaken}

started_top : (m n : ℕ) (k : CallKind) (fs : List Frame) → TopStarts m ((k, n) ∷ fs) → n ≡ m
started_top m n initial_statement fs h = h
started_top m n _ fs h = absurd h

-- ---- the state of the other, and what is flagged

-- the other state has the same processes and components, and a component that is initialised is so in both
pub record Other (s x : State) : Type 0 where
  pub many : length s.processes ≡ length x.processes
  pub size : length s.components ≡ length x.components
  pub owners : SameOwners s.processes x.processes
  pub told : (n : ℕ) → (status_at x.components n ≡ status_at s.components n) ⊎ (status_at s.components n ≡ initialised → ⊥)

pub itself : (s : State) → Other s s
itself s = record { many = refl; size = refl; owners = λ n. refl; told = λ n. inl refl }

module _ (procs own ln : ℕ → Bool) (x : State) (p : Program) (s : State) (pid : ℕ) where
  abbrev me : Process
  me = process_at s.processes pid

  pub record Flagged : Type 0 where
    pub mine : procs pid ≡ true
    pub held : (n : ℕ) → HeldBy (first_components p) me.component (frames me.calls) n → own n ≡ true

  -- a component whose status the item changes is flagged; a run error has seen the same statuses
  abbrev pub Leaves : Outcome Doing → Type 0
  Leaves (Ok d) = (n : ℕ) → own n ≡ false → status_at d.components n ≡ status_at s.components n
  Leaves (Err e) = (n : ℕ) → own n ≡ false → status_at x.components n ≡ status_at s.components n

  -- and so is what the kernel looks at
  abbrev pub Moves : Outcome Doing → Type 0
  Moves (Ok d) = MoveOwn procs own ln x s pid d d.move
  Moves (Err e) = Unit {0}

  module _ (first : s.discipline ≡ book_discipline) (owned : OwnedState (first_components p) s) (orderly : OrderlyState s) (lt : pid < length s.processes) (o : Open p s pid) (other : Other s x) (flagged : Flagged) where
    held_calls : OwnCalls own (o.call ∷ o.calls)
    held_calls = subst (OwnCalls own) o.are (calls_own own (first_components p) me.component me.calls flagged.held (owned.processes pid lt).held)

    told : (n : ℕ) → own n ≡ false → (status_at x.components n ≡ status_at s.components n) ⊎ (status_at s.components n ≡ initialised → ⊥)
    told n h = other.told n

    ends_of : (items : List Item) → ItemsFit (frames (o.call ∷ o.calls)) items → own o.call.component ≡ true → EndsOwn own ln x.components p o.call o.calls s.components pid other.size held_calls told items
    ends_of (init_end k ∷ items) f h = subst (λ j. own j ≡ true) (started_top k o.call.component o.call.kind (frames o.calls) f.0) h
    ends_of _ f h = tt

    top_held : (calls : List Call) → calls ≡ o.call ∷ o.calls → HeldCalls (first_components p) me.component calls → HeldBy (first_components p) me.component (frames calls) o.call.component
    top_held [] e h = absurd (let bad : [] ≡ o.call ∷ o.calls = e in cc)
    top_held (c ∷ calls) e h = subst (HeldBy (first_components p) me.component (frames (c ∷ calls))) (ap (λ l. top l) e) h.0
      where
        top : List Call → ℕ
        top [] = 0
        top (c ∷ calls) = c.component

    fitting : (d : Doing) → Facts p s pid d → Fitting procs own ln x s pid d
    fitting d f =
        record {
          first = first;
          processes = other.many;
          processes_after = λ status. length-set s.processes pid (left_by me d status) ∙ other.many;
          components = f.owned.tree.size ∙ sym owned.tree.size ∙ other.size;
          owners = λ n. other.owners n ∙ go n (replaced_at s.processes pid n (left_by me d ready));
          mine = flagged.mine;
        }
      where
        go : (n : ℕ) → ((n ≡ pid) × (pid < length s.processes) × (process_at (moved_to ready s pid d).processes n ≡ left_by me d ready)) ⊎ ((n ≡ pid → length s.processes ≤ pid) × (process_at (moved_to ready s pid d).processes n ≡ process_at s.processes n)) →
            (process_at s.processes n).component ≡ (process_at (moved_to ready s pid d).processes n).component
        go n (inl h) = ap (λ j. (process_at s.processes j).component) h.0 ∙ sym (ap (λ y. y.component) h.2)
        go n (inr h) = sym (ap (λ y. y.component) h.1)

    leaves_of : (out : Outcome Doing) → Leaves out → LeavesOthers own ln x.components p o.call o.calls s.components pid other.size held_calls told out
    leaves_of (Ok d) h = h
    leaves_of (Err e) h = h

    done_of : (out : Outcome Doing) → AllFacts p s pid out → Moves out → DoneOwn procs own ln x s pid out
    done_of (Ok d) f h = (fitting d f, h)
    done_of (Err e) f h = tt

    pub taken : Leaves (done p s pid) → IsTaken procs own ln x p s pid
    taken leaves =
        let here : List Call → Outcome Doing = λ k. takes (let v : View = record { program = p; calls = k; components = s.components } in v) pid me.items in
        record {
          call = o.call;
          calls = o.calls;
          open_calls = o.are;
          held = held_calls;
          many = other.many;
          size = other.size;
          told = told;
          mine = flagged.mine;
          ends = ends_of me.items (subst (λ k. ItemsFit (frames k) me.items) o.are (orderly.orderly.processes pid lt).fits) (flagged.held o.call.component (top_held me.calls o.are (owned.processes pid lt).held));
          leaves = subst (λ k. LeavesOthers own ln x.components p o.call o.calls s.components pid other.size held_calls told (here k)) o.are (leaves_of (done p s pid) leaves);
        }

    pub apart : AllFacts p s pid (done p s pid) → Leaves (done p s pid) → Moves (done p s pid) → IsApart procs own ln x p s pid
    apart facts leaves moves = record { taken = taken leaves; does = done_of (done p s pid) facts moves }
