-- The step of a ready process goes on slots as on names: what it does next is said by its control stack.
use Rattle.cp_machine_laws.proofs.Words.{◌≡◌, ℕ, List, [], ◌∷◌, ◌++◌, ap, sym, refl, subst, slice_index, Tree, Program, Tables, Entry, Rest, Successor, Return, InitEnd}
use Rattle.cp_machine_laws.proofs.Words.{MachineFits, Machine, thread_at, Reaches, step_at, Item, State, Layouts, Ground, ground_of, Prepared, StackIs, StateKnown}
use Rattle.cp_meaning.specs.State as named
use Rattle.cp_meaning.specs.Steps.{step_of, at_item, at_items, line_at}
use Rattle.cp_machine_laws.proofs.control.Control.{StepIs}
use Rattle.cp_machine_laws.proofs.steps.Going.{Going, takes_one}
use Rattle.cp_machine_laws.proofs.HoldsInReached.{HoldsInReached}
use Rattle.cp_machine_laws.proofs.reached.ReadyInReached.{ReadyInReached}
use Rattle.cp_machine_laws.proofs.steps.StepOfEnd.{return_so, initial_end_so, end_so}
use Rattle.cp_machine_laws.proofs.steps.StepOfItem.{item_so}
use Rattle.cp_machine_laws.proofs.steps.StepOfSuccessor.{next_so}

module _ (t : Tree) (r : Tables) (l : Layouts) (prepared : Prepared t r l) (s : State) (known : HoldsInReached t.program s) (m : Machine) (ready : ReadyInReached (ground_of t r) t.program s m) (fits : MachineFits r m) (reach : Reaches r m) (states : StateKnown t r l s m) (q : ℕ) (going : Going (ground_of t r) t.program l s m q) where
  abbrev g : Ground
  g = ground_of t r

  abbrev p : Program
  p = t.program

  -- the line is that of the next item
  at_line : (i : Item) (items : List Item) → (named.process_at s.processes q).items ≡ i ∷ items → StepIs g p l q (slice_index t.lines (at_item i)) (step_of p s q) (step_at r m q) → StepIs g p l q (line_at t s q) (step_of p s q) (step_at r m q)
  at_line i items e h = subst (λ n. StepIs g p l q (slice_index t.lines n) (step_of p s q) (step_at r m q)) (sym (ap at_items e)) h

  by_stack : (es : List Entry) → (thread_at m.threads q).stack ≡ es → StackIs g p l (thread_at m.threads q).frame (named.process_at s.processes q).calls (named.process_at s.processes q).items es → StepIs g p l q (line_at t s q) (step_of p s q) (step_at r m q)
  by_stack [] e is = end_so t r l prepared s m ready fits q going (line_at t s q) e
  by_stack (Rest at ∷ es) e is =
      let one = takes_one g p l s m q going at es e in
      at_line one.item (one.xs ++ one.ys) one.taken.items
      (item_so t r l prepared s known m ready fits reach states q going at one.mid es one.xs one.ys one.item one.taken (states.next q one.item (one.xs ++ one.ys) going.there going.was one.taken.items))
  by_stack (Successor at z last ∷ es) e is =
      at_line is.0 (is.1 ++ is.2) is.3
      (subst (λ (i : Item). StepIs g p l q (slice_index t.lines (at_item i)) (step_of p s q) (step_at r m q)) (sym is.4.same) (next_so t r l prepared s m q fits going at z last es e is.0 is.1 is.2 is.3 is.4 is.5))
  by_stack (Return caller slot monitor ∷ es) e is = return_so t r l prepared s m ready fits q going caller slot monitor es e (line_at t s q)
  by_stack (InitEnd caller n ∷ es) e is = initial_end_so t r l prepared s m ready fits q going caller n es e (line_at t s q)

  pub process_so : StepIs g p l q (line_at t s q) (step_of p s q) (step_at r m q)
  process_so = by_stack (thread_at m.threads q).stack refl going.stack
