-- The whole step of an assignment of an ordinal, and that to a variable of an open call.
use Rattle.std.proofs.Common.{◌≡◌, ◌∙◌, ℕ, Bool, true, false, if◌then◌else◌, List, ◌∷◌, ◌++◌, Option, Some, ap, sym, refl, subst}
use Rattle.cp_machine_laws.proofs.Words.{ℤ, Result, Ok, Err, slice_index, Program, Expression, Designator, assign, Action, item_at, Address, Frame, Entry, Machine, thread_at}
use Rattle.cp_machine_laws.proofs.Words.{with_stack, memory_at, number_put, address_of, rest_of, step_at, Outcome, out_of_range, ◌>>=◌, Range, Ty, ordinal, is_within, Value}
use Rattle.cp_machine_laws.proofs.Words.{number_value, Place, Item, statement_item, State, Typed, Target, stored, value, target_value, Stepped, assigned, becomes, view_of}
use Rattle.cp_machine_laws.proofs.Words.{step_of, settled, plain_value, plain_address, Layouts, Here, here, as_ordinal, a_variable, expression_form, designator_form, Ground}
use Rattle.cp_machine_laws.proofs.Words.{ItemAt, PlaceAt, OrdinalAgrees, TargetAgrees, Sees, expression_calls, designator_calls}
use Rattle.cp_slots.specs.declared.item.Action.TheVariants as action
use Rattle.cp_slots.specs.declared.place.OrdinalExpression as code_expression
use Rattle.cp_slots.specs.declared.place.Place as code_place
use Rattle.cp_store.specs.declared.error.ErrorName as slots
use Rattle.cp_store.specs.declared.error.ErrorName.TheVariants as error
use Rattle.cp_machine.specs.Statements as statements
use Rattle.cp_slots.specs.Code as code
use Rattle.cp_machine_laws.proofs.control.Control.{Taken, StepIs, takes_item, acts, fails}
use Rattle.cp_machine_laws.proofs.expressions.Expressions.{expression_ok, designator_ok}
use Rattle.cp_machine_laws.proofs.calls.Kept.{kept_left, kept_right}
use Rattle.cp_machine_laws.proofs.expressions.Views.{views_agree}
use Rattle.cp_machine_laws.proofs.control.Running.{Executes, frames_below, sees_now}

is_assign : (a : Action) (p : code.Place) (c : code.OrdinalExpression) (low high : ℤ) → code.action_seen a ≡ code.assign p c low high → (t : code_place.Place) × (x : code_expression.OrdinalExpression) × (a ≡ action.Assign t x low high) × (code.place_seen t ≡ p) × (code.expression_seen x ≡ c)
is_assign (action.Assign t x l h) p c low high e = (t, x, cc, cc, cc)
is_assign a p c low high e = absurd (cc)

module _ (g : Ground) (p : Program) (l : Layouts) (s : State) (m : Machine) (q at token : ℕ) (d : Designator) (e : Expression) (mid : Option ℕ) (es : List Entry) (xs ys : List Item) (k : Taken g p l s m q at (statement_item (assign token d e)) mid es xs ys)
    (range : Range) (fs : List Frame)
    -- where the place is found and the number is in the range, the step is made
    (success : (place : Place) (a : Address) (z : ℤ) (o : Option ℕ) → o ≡ mid → PlaceAt g.tables l fs place (ordinal range) a → is_within range z ≡ true →
    StepIs g p l q (slice_index g.lines token) (settled p s q (becomes (stored (view_of p s q) place (number_value z)) (xs ++ ys))) (statements.local (number_put (with_stack m q (rest_of o es)) q a z))) where
  abbrev line : ℕ
  line = slice_index g.lines token

  in_range : (place : Place) (a : Address) (z : ℤ) (o : Option ℕ) → o ≡ mid → PlaceAt g.tables l fs place (ordinal range) a →
      StepIs g p l q line (settled p s q (assigned (view_of p s q) (record { place = place; ty = ordinal range }) (number_value z) >>= λ u. becomes u (xs ++ ys))) (statements.assign_number m q line range.low range.high (rest_of o es) z a)
  in_range place a z o n h = go (is_within range z) refl
    where
      go : (b : Bool) → is_within range z ≡ b →
          StepIs g p l q line (settled p s q (((if b then Ok (number_value z) else Err out_of_range) >>= λ x. Ok (stored (view_of p s q) place x)) >>= λ u. becomes u (xs ++ ys)))
          (statements.with_value (if b then Ok z else Err error.Range) (statements.fault m q line) (λ w. statements.local (number_put (with_stack m q (rest_of o es)) q a w)))
      go true w = success place a z o n h w
      go false w = fails g p l s m q at (statement_item (assign token d e)) mid es xs ys k line out_of_range error.Range refl

  outcomes : (t : Ty) (o : Outcome Typed) (r : Result ℤ slots.ErrorName) (w : Outcome Target) (a : Result Address slots.ErrorName) (n : Option ℕ) → n ≡ mid → OrdinalAgrees o t r → TargetAgrees g.tables l fs w (ordinal range) a →
      StepIs g p l q line (settled p s q (o >>= λ x. w >>= λ y. assigned (view_of p s q) y x.value >>= λ u. becomes u (xs ++ ys)))
      (statements.with_value r (statements.fault m q line) (λ v. statements.with_value a (statements.fault m q line) (statements.assign_number m q line range.low range.high (rest_of n es) v)))
  outcomes t (Err b) (Err c) w a n i h j = fails g p l s m q at (statement_item (assign token d e)) mid es xs ys k line b c h
  outcomes t (Ok x) (Ok z) (Err b) (Err c) n i h j = fails g p l s m q at (statement_item (assign token d e)) mid es xs ys k line b c j
  outcomes t (Ok x) (Ok z) (Err b) (Ok a) n i h j = absurd j
  outcomes t (Ok x) (Ok z) (Ok y) (Err c) n i h j = absurd j
  outcomes t (Ok x) (Ok z) (Ok y) (Ok a) n i h j =
      subst (λ (v : Value). StepIs g p l q line (settled p s q (assigned (view_of p s q) y v >>= λ u. becomes u (xs ++ ys))) (statements.assign_number m q line range.low range.high (rest_of n es) z a)) (sym h.1)
      (subst (λ (u : Ty). StepIs g p l q line (settled p s q (assigned (view_of p s q) (record { place = y.place; ty = u }) (number_value z) >>= λ v. becomes v (xs ++ ys))) (statements.assign_number m q line range.low range.high (rest_of n es) z a)) (sym j.0) (in_range y.place a z n i j.1))
  outcomes t _ _ w a n i h j = absurd h

-- the whole step, for any variable that is found
pub assign_runs : (g : Ground) (p : Program) (l : Layouts) (s : State) (m : Machine) (q at token : ℕ) (d : Designator) (e : Expression) (mid : Option ℕ) (es : List Entry) (xs ys : List Item) → (k : Taken g p l s m q at (statement_item (assign token d e)) mid es xs ys) → (ex : Executes g p l m q) →
    (range : Range) (t : Ty) (c : code.OrdinalExpression) (place : code.Place) → ItemAt g at token mid (code.assign place c range.low range.high) →
    designator_form (here p l (thread_at m.threads q).frame.routine) d ≡ Some (a_variable place (ordinal range)) → expression_form (here p l (thread_at m.threads q).frame.routine) e ≡ Some (record { ty = t; form = as_ordinal c }) →
    ((w : Place) (a : Address) (z : ℤ) (o : Option ℕ) → o ≡ mid → PlaceAt g.tables l ((thread_at m.threads q).frame ∷ frames_below g p l s m q at (statement_item (assign token d e)) mid es xs ys k ex) w (ordinal range) a → is_within range z ≡ true →
    StepIs g p l q (slice_index g.lines token) (settled p s q (becomes (stored (view_of p s q) w (number_value z)) (xs ++ ys))) (statements.local (number_put (with_stack m q (rest_of o es)) q a z))) →
    StepIs g p l q (slice_index g.lines token) (step_of p s q) (step_at g.tables m q)
assign_runs g p l s m q at token d e mid es xs ys k ex range t c spot item target formed success =
    takes_item g p l s m q at (statement_item (assign token d e)) mid es xs ys k (slice_index g.lines token)
    (let a = is_assign (item_at g.tables at).action spot c range.low range.high item.action in
    acts g p l s m q at (statement_item (assign token d e)) mid es xs ys k (slice_index g.lines token) token (code.assign spot c range.low range.high) (action.Assign a.0 a.1 range.low range.high) _ item a.2
    (λ it n w.
    subst (λ (j : ℕ). StepIs g p l q (slice_index g.lines token) result (statements.assign m q j a.0 a.1 range.low range.high (rest_of it.next es))) (sym w)
    (subst (λ (r : Result ℤ slots.ErrorName). StepIs g p l q (slice_index g.lines token) result (statements.with_value r (statements.fault m q (slice_index g.lines token)) (λ v. statements.with_value (address_of m q a.0) (statements.fault m q (slice_index g.lines token)) (statements.assign_number m q (slice_index g.lines token) range.low range.high (rest_of it.next es) v))))
    (sym (views_agree.value (memory_at m q) (thread_at m.threads q).frame a.1 ∙ ap (plain_value (memory_at m q) (thread_at m.threads q).frame) a.4))
    (subst (λ (r : Result Address slots.ErrorName). StepIs g p l q (slice_index g.lines token) result (statements.with_value (plain_value (memory_at m q) (thread_at m.threads q).frame c) (statements.fault m q (slice_index g.lines token)) (λ v. statements.with_value r (statements.fault m q (slice_index g.lines token)) (statements.assign_number m q (slice_index g.lines token) range.low range.high (rest_of it.next es) v))))
    (sym (views_agree.place (memory_at m q) (thread_at m.threads q).frame a.0 ∙ ap (plain_address (memory_at m q) (thread_at m.threads q).frame) a.3))
    (outcomes g p l s m q at token d e mid es xs ys k range fs success t (value (view_of p s q) e) (plain_value (memory_at m q) (thread_at m.threads q).frame c) (target_value (view_of p s q) d) (plain_address (memory_at m q) (thread_at m.threads q).frame spot) it.next n
    (expression_ok g.tables l fs (view_of p s q) (memory_at m q) (thread_at m.threads q).frame this sees e (record { ty = t; form = as_ordinal c }) (kept_right this (designator_calls this.scope d) (expression_calls this.scope e) k.kept) formed)
    (designator_ok g.tables l fs (view_of p s q) (memory_at m q) (thread_at m.threads q).frame this sees d (a_variable spot (ordinal range)) (kept_left this (designator_calls this.scope d) (expression_calls this.scope e) k.kept) target))))))
  where
    fs : List Frame
    fs = (thread_at m.threads q).frame ∷ frames_below g p l s m q at (statement_item (assign token d e)) mid es xs ys k ex

    this : Here
    this = here p l (thread_at m.threads q).frame.routine

    sees : Sees g.tables l fs (view_of p s q) (memory_at m q) (thread_at m.threads q).frame this
    sees = sees_now g p l s m q at (statement_item (assign token d e)) mid es xs ys k ex

    result : Stepped
    result = settled p s q (value (view_of p s q) e >>= λ x. target_value (view_of p s q) d >>= λ y. assigned (view_of p s q) y x.value >>= λ u. becomes u (xs ++ ys))
