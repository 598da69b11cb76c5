-- The step of the successor of a value in a `for`, and what a process sees whose next item is none of a list.
use Rattle.cp_machine_laws.proofs.Words.{◌≡◌, ℕ, List, [], ◌∷◌, ◌++◌, subst, ℤ, slice_index, Tree, Program, Frame, Entry, Successor, StackFits, MachineFits, Machine, thread_at}
use Rattle.cp_machine_laws.proofs.Words.{memory_at, step_at, Call, Item, State, view_of, step_of, ordinal, Layouts, here, Ground, Tables, Sees, ground_of, Prepared}
use Rattle.cp_meaning.specs.State as named
use Rattle.cp_slots.specs.Code as code
use Rattle.cp_machine_laws.specs.Represents.{StackIs, CallsHold, own_memory, frames_of, TurnIs}
use Rattle.cp_machine_laws.proofs.control.Control.{Goes, StepIs, top_frame}
use Rattle.cp_machine_laws.proofs.control.Counting.{next_step}
use Rattle.cp_machine_laws.proofs.expressions.DesignatedTypes.{range_known, IsGood, counted_good}
use Rattle.cp_machine_laws.proofs.steps.Executed.{executes, names_typed, variables_apart}
use Rattle.cp_machine_laws.proofs.steps.Going.{Going}
use Rattle.cp_machine_laws.proofs.expressions.Reading.{AllLie}
use Rattle.cp_machine_laws.proofs.control.Running.{Executes, all_lie}
use Rattle.cp_machine_laws.proofs.expressions.Seeing.{sees}
use Rattle.cp_machine_laws.proofs.assignments.Storing.{stores_known}

-- the frames of the process below the innermost one
abbrev pub lower_frames : Machine → ℕ → List Entry → List Frame
lower_frames m q es = (top_frame (thread_at m.threads q).frame es).0

pub sees_going : (g : Ground) (p : Program) (l : Layouts) (s : State) (m : Machine) (q : ℕ) (es : List Entry) → Goes g p l s m q es → Executes g p l m q →
    Sees g.tables l ((thread_at m.threads q).frame ∷ lower_frames m q es) (view_of p s q) (memory_at m q) (thread_at m.threads q).frame (here p l (thread_at m.threads q).frame.routine)
sees_going g p l s m q es k ex =
    by_calls (named.process_at s.processes q).calls (lower_frames m q es)
    (all_lie g p l s m q ((thread_at m.threads q).frame ∷ lower_frames m q es) k.rep (subst (λ fs. CallsHold g.tables l (own_memory (thread_at m.threads q)) (named.process_at s.processes q).calls fs) (top_frame (thread_at m.threads q).frame es).1 k.calls))
  where
    by_calls : (calls : List Call) (fs : List Frame) → AllLie g.tables l ((thread_at m.threads q).frame ∷ fs) (record { program = p; calls = calls; components = s.components }) (memory_at m q) →
        Sees g.tables l ((thread_at m.threads q).frame ∷ fs) (record { program = p; calls = calls; components = s.components }) (memory_at m q) (thread_at m.threads q).frame (here p l (thread_at m.threads q).frame.routine)
    by_calls [] fs all = absurd all.calls
    by_calls (c ∷ cs) fs all = sees g p l s.components c cs (thread_at m.threads q).frame fs (memory_at m q) all ex.routine ex.few ex.numbered

module _ (t : Tree) (r : Tables) (l : Layouts) (prepared : Prepared t r l) (s : State) (m : Machine) (q : ℕ) (fits : MachineFits r m) (k : Going (ground_of t r) t.program l s m q) where
  abbrev g : Ground
  g = ground_of t r

  abbrev p : Program
  p = t.program

  pub next_so : (at : ℕ) (z last : ℤ) (es : List Entry) → (thread_at m.threads q).stack ≡ Successor at z last ∷ es → (first : Item) (xs ys : List Item) → (named.process_at s.processes q).items ≡ first ∷ (xs ++ ys) →
      (turn : TurnIs g (here p l (thread_at m.threads q).frame.routine) at z last first xs) → StackIs g p l (thread_at m.threads q).frame (named.process_at s.processes q).calls ys es →
      StepIs g p l q (slice_index t.lines turn.token) (step_of p s q) (step_at r m q)
  next_so at z last es e first xs ys is turn below =
      next_step g p l s m q at z last first es xs ys goes_now e is turn below ((thread_at m.threads q).frame ∷ lower_frames m q es) (sees_going g p l s m q es goes_now (executes t r l prepared m q fits k.many))
      (λ place a there. stores_known g p l s m q (slice_index t.lines turn.token) es goes_now turn.item.range
      (variables_apart t r l prepared m q fits k.many es (subst (λ us. StackFits r (thread_at m.threads q).frame us) e (fits.each q k.many).stack).1 (ordinal turn.item.range) good) (range_known (ordinal turn.item.range) good)
      ((thread_at m.threads q).frame ∷ lower_frames m q es) (top_frame (thread_at m.threads q).frame es).1 place a there)
    where
      goes_now : Goes g p l s m q es
      goes_now =
          record {
            rep = k.rep;
            there = k.there;
            was = k.was;
            was_slot = k.was_slot;
            calls = subst (λ us. CallsHold r l (own_memory (thread_at m.threads q)) (named.process_at s.processes q).calls (frames_of (thread_at m.threads q).frame us)) e k.calls;
          }

      good : IsGood (ordinal turn.item.range)
      good = counted_good p l (thread_at m.threads q).frame.routine (names_typed t r l prepared m q fits k.many) turn.name.name (code.place turn.item.origin 0 code.no_indices) (ordinal turn.item.range) turn.item.variable
