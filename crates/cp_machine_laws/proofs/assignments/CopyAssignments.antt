-- The whole step of an assignment of an array or a record.
use Rattle.cp_machine_laws.proofs.Words.{◌≡◌, ◌∙◌, ℕ, List, ◌∷◌, ◌++◌, Option, Some, ap, sym, refl, subst, arith, Result, Ok, Err, slice_index, Program, Expression, Designator}
use Rattle.cp_machine_laws.proofs.Words.{assign, Action, item_at, Address, Frame, Entry, Machine, thread_at, with_stack, rest_of, step_at, Outcome, ◌>>=◌, Ty, Value, Place}
use Rattle.cp_machine_laws.proofs.Words.{Item, statement_item, State, Typed, checked, Target, value_at, stored, value, target_value, Stepped, expression_calls}
use Rattle.cp_machine_laws.proofs.Words.{designator_calls, assigned, becomes, view_of, step_of, settled, cells_of, Layouts, Here, here, as_place, a_variable, expression_form}
use Rattle.cp_machine_laws.proofs.Words.{designator_form, encode, Ground, ItemAt, TargetAgrees, Sees, plain_address, PlaceAt, CallsHold, own_memory, put_copy}
use Rattle.cp_slots.specs.declared.item.Action.TheVariants as action
use Rattle.cp_slots.specs.declared.place.Place as code_place
use Rattle.cp_store.specs.declared.error.ErrorName as slots
use Rattle.cp_machine.specs.Memory.{memory_at, cells_put, address_of}
use Rattle.cp_machine.specs.Statements as statements
use Rattle.cp_meaning.specs.State as named
use Rattle.cp_slots.specs.Code as code
use Rattle.cp_machine_laws.proofs.assignments.Blocks.{WritesFirst, WritesBlock, copy_writes}
use Rattle.cp_machine_laws.proofs.assignments.BlockStores.{VariablesApart, block_success}
use Rattle.cp_machine_laws.proofs.control.Control.{Taken, StepIs, takes_item, acts, fails, top_frame}
use Rattle.cp_machine_laws.proofs.expressions.Expressions.{designator_ok}
use Rattle.cp_machine_laws.proofs.calls.Kept.{kept_left, kept_right}
use Rattle.cp_machine_laws.proofs.assignments.Overlaps.{SameOrApart, reads_first}
use Rattle.cp_machine_laws.proofs.expressions.Parts.{encode_length}
use Rattle.cp_machine_laws.proofs.assignments.PlacesApart.{places_apart}
use Rattle.cp_machine_laws.proofs.expressions.Reading.{AllLie}
use Rattle.cp_machine_laws.proofs.control.Running.{Executes, all_lie, frames_below, sees_now}
use Rattle.cp_machine_laws.proofs.expressions.VariableExpressions.{of_variable, place_found}
use Rattle.cp_machine_laws.proofs.expressions.Views.{views_agree}
use Rattle.cp_machine_laws.proofs.assignments.BlocksInCalls.{FramesApart}

is_copy : (a : Action) (p b : code.Place) (size : ℕ) → code.action_seen a ≡ code.copy_cells p b size → (t : code_place.Place) × (x : code_place.Place) × (a ≡ action.Copy t x size) × (code.place_seen t ≡ p) × (code.place_seen x ≡ b)
is_copy (action.Copy t x n) p b size e = (t, x, cc, cc, cc)
is_copy a p b size e = absurd (cc)

module _ (g : Ground) (p : Program) (l : Layouts) (s : State) (m : Machine) (q at token : ℕ) (d : Designator) (e : Expression) (mid : Option ℕ) (es : List Entry) (xs ys : List Item) (k : Taken g p l s m q at (statement_item (assign token d e)) mid es xs ys) (ex : Executes g p l m q)
    (t : Ty) (known : VariablesApart g l m q es t)
    -- a value of the type is in each range
    (free : (w : Value) → checked t w ≡ Ok w) where
  abbrev line : ℕ
  line = slice_index g.lines token

  abbrev fs : List Frame
  fs = (thread_at m.threads q).frame ∷ frames_below g p l s m q at (statement_item (assign token d e)) mid es xs ys k ex

  abbrev this : Here
  this = here p l (thread_at m.threads q).frame.routine

  seen : Sees g.tables l fs (view_of p s q) (memory_at m q) (thread_at m.threads q).frame this
  seen = sees_now g p l s m q at (statement_item (assign token d e)) mid es xs ys k ex

  all : AllLie g.tables l fs (view_of p s q) (memory_at m q)
  all = all_lie g p l s m q fs k.rep (subst (λ hs. CallsHold g.tables l (own_memory (thread_at m.threads q)) (named.process_at s.processes q).calls hs) (top_frame (thread_at m.threads q).frame es).1 k.calls)

  beside : (a b : Place) (to from : Address) → PlaceAt g.tables l fs a t to → PlaceAt g.tables l fs b t from → SameOrApart from to (cells_of t)
  beside a b to from h i = places_apart g.tables l fs (view_of p s q) (memory_at m q) all known.calls.size known.calls.apart (subst (FramesApart known.calls.size) (top_frame (thread_at m.threads q).frame es).1 known.calls.frames) known.permanents.apart t b a from to i h

  written : (a b : Place) (to from : Address) → PlaceAt g.tables l fs a t to → PlaceAt g.tables l fs b t from → WritesBlock (memory_at m q) (put_copy (memory_at m q) to from (cells_of t)) to (encode (value_at (view_of p s q) b))
  written a b to from h i =
      let target = seen.lies a t to h in
      let source = seen.lies b t from i in
      let len = encode_length t (value_at (view_of p s q) b) source.typed in
      subst (λ n. WritesFirst (memory_at m q) (put_copy (memory_at m q) to from (cells_of t)) to (encode (value_at (view_of p s q) b)) n) (sym len)
      (copy_writes (memory_at m q) to from (encode (value_at (view_of p s q) b)) (cells_of t) (cells_of t) ex.few target.cells source.cells (λ j less. source.block j (omega (arith, less, len))) (reads_first from to (cells_of t) (beside a b to from h i)) (omega arith))

  success : (a b : Place) (to from : Address) (o : Option ℕ) → o ≡ mid → PlaceAt g.tables l fs a t to → PlaceAt g.tables l fs b t from →
      StepIs g p l q line (settled p s q (becomes (stored (view_of p s q) a (value_at (view_of p s q) b)) (xs ++ ys))) (statements.local (cells_put (with_stack m q (rest_of o es)) q to from (cells_of t)))
  success a b to from o n h i =
      block_success g p l s m q at line (statement_item (assign token d e)) mid es xs ys k t known a to (value_at (view_of p s q) b) o n
      (subst (λ hs. PlaceAt g.tables l hs a t to) (sym (top_frame (thread_at m.threads q).frame es).1) h) (seen.lies b t from i).typed (λ x. put_copy x to from (cells_of t)) (written a b to from h i)

  outcomes : (o w : Outcome Target) (b a : Result Address slots.ErrorName) (n : Option ℕ) → n ≡ mid → TargetAgrees g.tables l fs o t b → TargetAgrees g.tables l fs w t a →
      StepIs g p l q line (settled p s q (of_variable (view_of p s q) o >>= λ x. w >>= λ y. assigned (view_of p s q) y x.value >>= λ u. becomes u (xs ++ ys)))
      (statements.with_value b (statements.fault m q line) (λ from. statements.with_value a (statements.fault m q line) (λ to. statements.local (cells_put (with_stack m q (rest_of n es)) q to from (cells_of t)))))
  outcomes (Err c) w (Err b) a n i h j = fails g p l s m q at (statement_item (assign token d e)) mid es xs ys k line c b h
  outcomes (Err c) w (Ok b) a n i h j = absurd h
  outcomes (Ok x) w (Err b) a n i h j = absurd h
  outcomes (Ok x) (Err c) (Ok from) (Err b) n i h j = fails g p l s m q at (statement_item (assign token d e)) mid es xs ys k line c b j
  outcomes (Ok x) (Ok y) (Ok from) (Ok to) n i h j =
      subst (λ (u : Ty). StepIs g p l q line (settled p s q (assigned (view_of p s q) (record { place = y.place; ty = u }) (value_at (view_of p s q) x.place) >>= λ v. becomes v (xs ++ ys))) (statements.local (cells_put (with_stack m q (rest_of n es)) q to from (cells_of t)))) (sym j.0)
      (subst (λ (o : Outcome Value). StepIs g p l q line (settled p s q ((o >>= λ v. Ok (stored (view_of p s q) y.place v)) >>= λ v. becomes v (xs ++ ys))) (statements.local (cells_put (with_stack m q (rest_of n es)) q to from (cells_of t)))) (sym (free (value_at (view_of p s q) x.place)))
      (success y.place x.place to from n i j.1 h.1))
  outcomes (Ok x) _ (Ok from) _ n i h j = absurd j

  abbrev after_value : Outcome Typed → Stepped
  after_value o = settled p s q (o >>= λ x. target_value (view_of p s q) d >>= λ y. assigned (view_of p s q) y x.value >>= λ u. becomes u (xs ++ ys))

  -- the whole step, for any variables that are found
  pub copy_runs : (spot source : code.Place) → ItemAt g at token mid (code.copy_cells spot source (cells_of t)) →
      designator_form this d ≡ Some (a_variable spot t) → expression_form this e ≡ Some (record { ty = t; form = as_place source }) → StepIs g p l q line (step_of p s q) (step_at g.tables m q)
  copy_runs spot source item target formed =
      takes_item g p l s m q at (statement_item (assign token d e)) mid es xs ys k line
      (let a = is_copy (item_at g.tables at).action spot source (cells_of t) item.action in
      let found = place_found g.tables l fs (view_of p s q) (memory_at m q) (thread_at m.threads q).frame this seen e (record { ty = t; form = as_place source }) source (kept_right this (designator_calls this.scope d) (expression_calls this.scope e) k.kept) formed refl in
      acts g p l s m q at (statement_item (assign token d e)) mid es xs ys k line token (code.copy_cells spot source (cells_of t)) (action.Copy a.0 a.1 (cells_of t)) _ item a.2
      (λ it n w.
      subst (λ (j : ℕ). StepIs g p l q line (after_value (value (view_of p s q) e)) (statements.copy m q j a.0 a.1 (cells_of t) (rest_of it.next es))) (sym w)
      (subst (λ (r : Result Address slots.ErrorName). StepIs g p l q line (after_value (value (view_of p s q) e)) (statements.with_value r (statements.fault m q line) (λ from. statements.with_value (address_of m q a.0) (statements.fault m q line) (λ to. statements.local (cells_put (with_stack m q (rest_of it.next es)) q to from (cells_of t))))))
      (sym (views_agree.place (memory_at m q) (thread_at m.threads q).frame a.1 ∙ ap (plain_address (memory_at m q) (thread_at m.threads q).frame) a.4))
      (subst (λ (r : Result Address slots.ErrorName). StepIs g p l q line (after_value (value (view_of p s q) e)) (statements.with_value (plain_address (memory_at m q) (thread_at m.threads q).frame source) (statements.fault m q line) (λ from. statements.with_value r (statements.fault m q line) (λ to. statements.local (cells_put (with_stack m q (rest_of it.next es)) q to from (cells_of t))))))
      (sym (views_agree.place (memory_at m q) (thread_at m.threads q).frame a.0 ∙ ap (plain_address (memory_at m q) (thread_at m.threads q).frame) a.3))
      (subst (λ (o : Outcome Typed). StepIs g p l q line (after_value o) (statements.with_value (plain_address (memory_at m q) (thread_at m.threads q).frame source) (statements.fault m q line) (λ from. statements.with_value (plain_address (memory_at m q) (thread_at m.threads q).frame spot) (statements.fault m q line) (λ to. statements.local (cells_put (with_stack m q (rest_of it.next es)) q to from (cells_of t)))))) (sym found.1)
      (outcomes (target_value (view_of p s q) found.0) (target_value (view_of p s q) d) (plain_address (memory_at m q) (thread_at m.threads q).frame source) (plain_address (memory_at m q) (thread_at m.threads q).frame spot) it.next n found.2
      (designator_ok g.tables l fs (view_of p s q) (memory_at m q) (thread_at m.threads q).frame this seen d (a_variable spot t) (kept_left this (designator_calls this.scope d) (expression_calls this.scope e) k.kept) target)))))))
