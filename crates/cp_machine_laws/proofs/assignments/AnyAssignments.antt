-- The whole step of an assignment, of whatever type the target is.
use Rattle.std.proofs.Common.{◌≡◌, ◌∙◌, ℕ, true, List, ◌∷◌, ◌++◌, Option, Some, ap, sym, refl, subst}
use Rattle.cp_machine_laws.proofs.Words.{ℤ, pos, int_le, slice_index, Program, Expression, Designator, assign, Address, Frame, put_number, Entry, Machine}
use Rattle.cp_machine_laws.proofs.Words.{thread_at, with_stack, memory_at, number_put, rest_of, step_at, Range, Ty, ordinal, set_over, array_over, record_with, is_within}
use Rattle.cp_machine_laws.proofs.Words.{number_value, Place, Item, statement_item, State, stored, becomes, view_of, step_of, settled, cells_of, Layouts, here, HasType, Sees}
use Rattle.cp_machine_laws.proofs.Words.{PlaceAt, Form, as_ordinal, as_set, as_place, a_variable, expression_form, designator_form}
use Rattle.cp_slots.specs.Code as code
use Rattle.cp_machine.specs.Statements as statements
use Rattle.cp_resolved.specs.Stands.{Ground, ItemAt, AssignedBy}
use Rattle.cp_machine_laws.proofs.assignments.Assignments.{assign_runs}
use Rattle.cp_machine_laws.proofs.assignments.Blocks.{number_writes}
use Rattle.cp_machine_laws.proofs.assignments.BlockStores.{VariablesApart, block_success}
use Rattle.cp_machine_laws.proofs.control.Control.{Taken, StepIs, top_frame}
use Rattle.cp_machine_laws.proofs.assignments.CopyAssignments.{copy_runs}
use Rattle.cp_machine_laws.proofs.control.Running.{Executes, frames_below, sees_now}
use Rattle.cp_machine_laws.proofs.assignments.SetAssignments.{set_assign_runs}

-- a subrange is inside its base, and the greatest value of a set's base is no negative number
abbrev pub RangeKnown : Ty → Type 0
RangeKnown (ordinal r) = (z : ℤ) → is_within r z ≡ true → HasType (ordinal r) (number_value z)
RangeKnown (set_over r) = int_le (pos 0) r.high ≡ true
RangeKnown t = Unit {0}

module _ (g : Ground) (p : Program) (l : Layouts) (s : State) (m : Machine) (q at token : ℕ) (d : Designator) (e : Expression) (mid : Option ℕ) (es : List Entry) (xs ys : List Item) (k : Taken g p l s m q at (statement_item (assign token d e)) mid es xs ys) (ex : Executes g p l m q) where
  abbrev fs : List Frame
  fs = (thread_at m.threads q).frame ∷ frames_below g p l s m q at (statement_item (assign token d e)) mid es xs ys k ex

  seen : Sees g.tables l fs (view_of p s q) (memory_at m q) (thread_at m.threads q).frame (here p l (thread_at m.threads q).frame.routine)
  seen = sees_now g p l s m q at (statement_item (assign token d e)) mid es xs ys k ex

  number_stored : (range : Range) → VariablesApart g l m q es (ordinal range) → RangeKnown (ordinal range) → (w : Place) (a : Address) (z : ℤ) (o : Option ℕ) → o ≡ mid → PlaceAt g.tables l fs w (ordinal range) a → is_within range z ≡ true →
      StepIs g p l q (slice_index g.lines token) (settled p s q (becomes (stored (view_of p s q) w (number_value z)) (xs ++ ys))) (statements.local (number_put (with_stack m q (rest_of o es)) q a z))
  number_stored range known base w a z o n h inside =
      block_success g p l s m q at (slice_index g.lines token) (statement_item (assign token d e)) mid es xs ys k (ordinal range) known w a (number_value z) o n
      (subst (λ hs. PlaceAt g.tables l hs w (ordinal range) a) (sym (top_frame (thread_at m.threads q).frame es).1) h) (base z inside) (λ x. put_number x a z) (number_writes (memory_at m q) a z (seen.lies w (ordinal range) a h).cells)

  by_type : (u : Ty) (spot : code.Place) (t : Ty) (f : Form) (a : code.Action) → VariablesApart g l m q es u → RangeKnown u → AssignedBy u spot t f a → ItemAt g at token mid a → designator_form (here p l (thread_at m.threads q).frame.routine) d ≡ Some (a_variable spot u) →
      expression_form (here p l (thread_at m.threads q).frame.routine) e ≡ Some (record { ty = t; form = f }) → StepIs g p l q (slice_index g.lines token) (step_of p s q) (step_at g.tables m q)
  by_type (ordinal r) spot t (as_ordinal c) a known base is item target formed =
      assign_runs g p l s m q at token d e mid es xs ys k ex r t c spot (subst (ItemAt g at token mid) is item) target formed (number_stored r known base)
  by_type (set_over r) spot t (as_set b) a known base is item target formed =
      set_assign_runs g p l s m q at token d e mid es xs ys k ex r known base t b spot (subst (ItemAt g at token mid) is item) target formed
  by_type (array_over r u) spot t (as_place c) a known base is item target formed =
      copy_runs g p l s m q at token d e mid es xs ys k ex (array_over r u) known (λ w. refl) spot c (subst (ItemAt g at token mid) (is.1 ∙ ap (λ v. code.copy_cells spot c (cells_of v)) is.0) item) target (formed ∙ ap (λ v. Some (record { ty = v; form = as_place c })) is.0)
  by_type (record_with ts) spot t (as_place c) a known base is item target formed =
      copy_runs g p l s m q at token d e mid es xs ys k ex (record_with ts) known (λ w. refl) spot c (subst (ItemAt g at token mid) (is.1 ∙ ap (λ v. code.copy_cells spot c (cells_of v)) is.0) item) target (formed ∙ ap (λ v. Some (record { ty = v; form = as_place c })) is.0)
  by_type _ spot t _ a known base is item target formed = absurd is

  -- the whole step
  pub assignment_runs : VariablesApart g l m q es k.own.ty → RangeKnown k.own.ty → StepIs g p l q (slice_index g.lines token) (step_of p s q) (step_at g.tables m q)
  assignment_runs known base = by_type k.own.ty k.own.place k.own.value.ty k.own.value.form k.own.act known base k.own.assigned k.own.item k.own.target k.own.formed
