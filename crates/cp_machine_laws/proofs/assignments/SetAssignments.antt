-- The whole step of an assignment of a set.
use Rattle.std.proofs.Common.{◌≡◌, ◌∙◌, ℕ, Bool, true, false, if◌then◌else◌, List, ◌∷◌, ◌++◌, Option, Some, ap, sym, refl, subst, arith}
use Rattle.cp_machine_laws.proofs.Words.{pos, int_le, Result, Ok, Err, slice_index, Program, Expression, Designator, assign, Action, item_at, Address, Frame, SetValue, Memory}
use Rattle.cp_machine_laws.proofs.Words.{Entry, Machine, thread_at, with_stack, rest_of, step_at, Outcome, out_of_range, ◌>>=◌, Range, Ty, set_over, natural_of, Value}
use Rattle.cp_machine_laws.proofs.Words.{set_value, Place, Item, statement_item, State, Typed, Target, stored, value, target_value, Stepped, expression_calls, designator_calls}
use Rattle.cp_machine_laws.proofs.Words.{assigned, becomes, view_of, step_of, settled, Layouts, Here, here, as_set, a_variable, expression_form, designator_form, bits_of}
use Rattle.cp_machine_laws.proofs.Words.{set_cells, AreMembers, Ground, ItemAt, SetAgrees, TargetAgrees, Sees, plain_set, plain_address, PlaceAt}
use Rattle.cp_slots.specs.declared.item.Action.TheVariants as action
use Rattle.cp_slots.specs.declared.place.SetExpression as code_set
use Rattle.cp_slots.specs.declared.place.Place as code_place
use Rattle.cp_store.specs.declared.error.ErrorName as slots
use Rattle.cp_store.specs.declared.error.ErrorName.TheVariants as error
use Rattle.cp_store.specs.Sets as sets
use Rattle.cp_machine.specs.Memory.{memory_at, set_put, set_written, address_of}
use Rattle.cp_machine.specs.Statements as statements
use Rattle.cp_meaning.specs.Operations as names
use Rattle.cp_slots.specs.Code as code
use Rattle.cp_machine_laws.proofs.assignments.Blocks.{WritesBlock, set_writes}
use Rattle.cp_machine_laws.proofs.assignments.BlockStores.{VariablesApart, block_success}
use Rattle.cp_machine_laws.proofs.control.Control.{Taken, StepIs, takes_item, acts, fails, top_frame}
use Rattle.cp_machine_laws.proofs.expressions.Expressions.{expression_ok, designator_ok}
use Rattle.cp_machine_laws.proofs.calls.Kept.{kept_left, kept_right}
use Rattle.cp_machine_laws.proofs.expressions.Members.{bits_below, set_with}
use Rattle.cp_machine_laws.proofs.control.Running.{Executes, frames_below, sees_now}
use Rattle.cp_machine_laws.proofs.expressions.SetRanges.{set_range_same}
use Rattle.cp_machine_laws.proofs.expressions.Sets.{members_of_type}
use Rattle.cp_machine_laws.proofs.expressions.Views.{views_agree}

is_assign_set : (a : Action) (p : code.Place) (b : code.SetExpression) (low high : ℕ) → code.action_seen a ≡ code.assign_set p b low high → (t : code_place.Place) × (x : code_set.SetExpression) × (a ≡ action.AssignSet t x low high) × (code.place_seen t ≡ p) × (code.set_seen x ≡ b)
is_assign_set (action.AssignSet t x l h) p b low high e = (t, x, cc, cc, cc)
is_assign_set a p b low high e = absurd (cc)

-- a set is written as a block
set_written_is : (m : Memory) (a : Address) (s : SetValue) → set_written m a s ≡ sets.put_set m a s
unfolding set_written
set_written_is m a s = refl

module _ (g : Ground) (p : Program) (l : Layouts) (s : State) (m : Machine) (q at token : ℕ) (d : Designator) (e : Expression) (mid : Option ℕ) (es : List Entry) (xs ys : List Item) (k : Taken g p l s m q at (statement_item (assign token d e)) mid es xs ys) (ex : Executes g p l m q)
    (range : Range) (known : VariablesApart g l m q es (set_over range))
    -- the greatest value of the set's base is no negative number
    (base : int_le (pos 0) range.high ≡ true) where
  abbrev line : ℕ
  line = slice_index g.lines token

  abbrev fs : List Frame
  fs = (thread_at m.threads q).frame ∷ frames_below g p l s m q at (statement_item (assign token d e)) mid es xs ys k ex

  abbrev this : Here
  this = here p l (thread_at m.threads q).frame.routine

  seen : Sees g.tables l fs (view_of p s q) (memory_at m q) (thread_at m.threads q).frame this
  seen = sees_now g p l s m q at (statement_item (assign token d e)) mid es xs ys k ex

  success : (place : Place) (a : Address) (ns : List ℕ) (o : Option ℕ) → o ≡ mid → PlaceAt g.tables l fs place (set_over range) a → AreMembers 0 ns →
      StepIs g p l q line (settled p s q (becomes (stored (view_of p s q) place (set_value ns)) (xs ++ ys))) (statements.local (set_put (with_stack m q (rest_of o es)) q a (set_with (bits_of ns))))
  success place a ns o n h typed =
      block_success g p l s m q at line (statement_item (assign token d e)) mid es xs ys k (set_over range) known place a (set_value ns) o n
      (subst (λ hs. PlaceAt g.tables l hs place (set_over range) a) (sym (top_frame (thread_at m.threads q).frame es).1) h) typed (λ x. set_written x a (set_with (bits_of ns)))
      (subst (λ (x : Memory). WritesBlock (memory_at m q) x a (set_cells (bits_of ns))) (sym (set_written_is (memory_at m q) a (set_with (bits_of ns))))
      (set_writes (memory_at m q) a (bits_of ns) ex.few (seen.lies place (set_over range) a h).cells (let w = bits_below 0 ns (omega arith) typed in omega (arith, w))))

  in_range : (place : Place) (a : Address) (ns : List ℕ) (o : Option ℕ) → o ≡ mid → PlaceAt g.tables l fs place (set_over range) a → AreMembers 0 ns →
      StepIs g p l q line (settled p s q (assigned (view_of p s q) (record { place = place; ty = set_over range }) (set_value ns) >>= λ u. becomes u (xs ++ ys))) (statements.assign_set_value m q line (natural_of range.low) (natural_of range.high) (rest_of o es) (set_with (bits_of ns)) a)
  in_range place a ns o n h typed =
      subst (λ (c : Bool). StepIs g p l q line (settled p s q (assigned (view_of p s q) (record { place = place; ty = set_over range }) (set_value ns) >>= λ u. becomes u (xs ++ ys)))
      (statements.with_value (if c then Ok (set_with (bits_of ns)) else Err error.Range) (statements.fault m q line) (λ w. statements.local (set_put (with_stack m q (rest_of o es)) q a w)))) (set_range_same range ns typed base) (go (names.are_within range ns))
    where
      go : (b : Bool) →
          StepIs g p l q line (settled p s q (((if b then Ok (set_value ns) else Err out_of_range) >>= λ x. Ok (stored (view_of p s q) place x)) >>= λ u. becomes u (xs ++ ys)))
          (statements.with_value (if b then Ok (set_with (bits_of ns)) else Err error.Range) (statements.fault m q line) (λ w. statements.local (set_put (with_stack m q (rest_of o es)) q a w)))
      go true = success place a ns o n h typed
      go false = fails g p l s m q at (statement_item (assign token d e)) mid es xs ys k line out_of_range error.Range refl

  outcomes : (t : Ty) (o : Outcome Typed) (r : Result SetValue slots.ErrorName) (w : Outcome Target) (a : Result Address slots.ErrorName) (n : Option ℕ) → n ≡ mid → SetAgrees o t r → TargetAgrees g.tables l fs w (set_over range) a →
      StepIs g p l q line (settled p s q (o >>= λ x. w >>= λ y. assigned (view_of p s q) y x.value >>= λ u. becomes u (xs ++ ys)))
      (statements.with_value r (statements.fault m q line) (λ v. statements.with_value a (statements.fault m q line) (statements.assign_set_value m q line (natural_of range.low) (natural_of range.high) (rest_of n es) v)))
  outcomes t (Err b) (Err c) w a n i h j = fails g p l s m q at (statement_item (assign token d e)) mid es xs ys k line b c h
  outcomes t (Ok x) (Ok z) (Err b) (Err c) n i h j = fails g p l s m q at (statement_item (assign token d e)) mid es xs ys k line b c j
  outcomes t (Ok x) (Ok z) (Err b) (Ok a) n i h j = absurd j
  outcomes t (Ok x) (Ok z) (Ok y) (Err c) n i h j = absurd j
  outcomes t (Ok x) (Ok z) (Ok y) (Ok a) n i h j =
      subst (λ (v : SetValue). StepIs g p l q line (settled p s q (assigned (view_of p s q) y x.value >>= λ u. becomes u (xs ++ ys))) (statements.assign_set_value m q line (natural_of range.low) (natural_of range.high) (rest_of n es) v a)) (ap set_with (sym h.1.3))
      (subst (λ (v : Value). StepIs g p l q line (settled p s q (assigned (view_of p s q) y v >>= λ u. becomes u (xs ++ ys))) (statements.assign_set_value m q line (natural_of range.low) (natural_of range.high) (rest_of n es) (set_with (bits_of h.1.0)) a)) (sym h.1.1)
      (subst (λ (u : Ty). StepIs g p l q line (settled p s q (assigned (view_of p s q) (record { place = y.place; ty = u }) (set_value h.1.0) >>= λ v. becomes v (xs ++ ys))) (statements.assign_set_value m q line (natural_of range.low) (natural_of range.high) (rest_of n es) (set_with (bits_of h.1.0)) a)) (sym j.0)
      (in_range y.place a h.1.0 n i j.1 (members_of_type t h.1.0 h.1.2))))
  outcomes t _ _ w a n i h j = absurd h

  abbrev result : Stepped
  result = settled p s q (value (view_of p s q) e >>= λ x. target_value (view_of p s q) d >>= λ y. assigned (view_of p s q) y x.value >>= λ u. becomes u (xs ++ ys))

  -- the whole step, for any variable that is found
  pub set_assign_runs : (t : Ty) (c : code.SetExpression) (spot : code.Place) → ItemAt g at token mid (code.assign_set spot c (natural_of range.low) (natural_of range.high)) →
      designator_form this d ≡ Some (a_variable spot (set_over range)) → expression_form this e ≡ Some (record { ty = t; form = as_set c }) →
      StepIs g p l q line (step_of p s q) (step_at g.tables m q)
  set_assign_runs t c spot item target formed =
      takes_item g p l s m q at (statement_item (assign token d e)) mid es xs ys k line
      (let a = is_assign_set (item_at g.tables at).action spot c (natural_of range.low) (natural_of range.high) item.action in
      acts g p l s m q at (statement_item (assign token d e)) mid es xs ys k line token (code.assign_set spot c (natural_of range.low) (natural_of range.high)) (action.AssignSet a.0 a.1 (natural_of range.low) (natural_of range.high)) _ item a.2
      (λ it n w.
      subst (λ (j : ℕ). StepIs g p l q line result (statements.assign_set m q j a.0 a.1 (natural_of range.low) (natural_of range.high) (rest_of it.next es))) (sym w)
      (subst (λ (r : Result SetValue slots.ErrorName). StepIs g p l q line result (statements.with_value r (statements.fault m q line) (λ v. statements.with_value (address_of m q a.0) (statements.fault m q line) (statements.assign_set_value m q line (natural_of range.low) (natural_of range.high) (rest_of it.next es) v))))
      (sym (views_agree.set (memory_at m q) (thread_at m.threads q).frame a.1 ∙ ap (plain_set (memory_at m q) (thread_at m.threads q).frame) a.4))
      (subst (λ (r : Result Address slots.ErrorName). StepIs g p l q line result (statements.with_value (plain_set (memory_at m q) (thread_at m.threads q).frame c) (statements.fault m q line) (λ v. statements.with_value r (statements.fault m q line) (statements.assign_set_value m q line (natural_of range.low) (natural_of range.high) (rest_of it.next es) v))))
      (sym (views_agree.place (memory_at m q) (thread_at m.threads q).frame a.0 ∙ ap (plain_address (memory_at m q) (thread_at m.threads q).frame) a.3))
      (outcomes t (value (view_of p s q) e) (plain_set (memory_at m q) (thread_at m.threads q).frame c) (target_value (view_of p s q) d) (plain_address (memory_at m q) (thread_at m.threads q).frame spot) it.next n
      (expression_ok g.tables l fs (view_of p s q) (memory_at m q) (thread_at m.threads q).frame this seen e (record { ty = t; form = as_set c }) (kept_right this (designator_calls this.scope d) (expression_calls this.scope e) k.kept) formed)
      (designator_ok g.tables l fs (view_of p s q) (memory_at m q) (thread_at m.threads q).frame this seen d (a_variable spot (set_over range)) (kept_left this (designator_calls this.scope d) (expression_calls this.scope e) k.kept) target))))))
