-- The step of `display`: the value comes at the end of the output, if there is room for it.
use Rattle.std.proofs.Common.{◌≡◌, ◌∙◌, ℕ, ◌+◌, ◌<◌, ◌==◌, Bool, true, false, if◌then◌else◌, List, [], ◌∷◌, ◌++◌, Option, Some, None, ap, sym, refl, subst, arith, length, map}
use Rattle.cp_machine_laws.proofs.Words.{ℤ, pos, negsuc, ◌-◌, Result, Ok, Err, slice_index, ints, Program, Expression, Expressions, more_expressions, Designator, invoke}
use Rattle.cp_machine_laws.proofs.Words.{Action, item_at, Entry, memory_at, rest_of, act, step_at, Outcome, ◌>>=◌, Value, number_value, Meaning}
use Rattle.cp_machine_laws.proofs.Words.{standard_meaning, display_procedure, find, Stepped, displaying, moved_to, output_room, Doing, value, name_of, expression_calls}
use Rattle.cp_machine_laws.proofs.Words.{expressions_calls, designator_calls, Typed, range_of_base, view_of, step_of, settled, Layouts, Here, here, as_ordinal, plain_value}
use Rattle.cp_machine_laws.proofs.Words.{Represents, OrdinalAgrees, MOST_SHOWN, Base, integers, booleans, characters, enumerated, Range, Ty}
use Rattle.cp_machine_laws.proofs.Words.{ordinal, is_within, ready, Item, statement_item, Shown, State}
use Rattle.std.proofs.lemmas.List.{map-append, length-map}
use Rattle.cp_slots.specs.declared.item.Action.TheVariants as action
use Rattle.cp_slots.specs.declared.item.ShownKind.{ShownKind}
use Rattle.cp_slots.specs.declared.place.OrdinalExpression as code_expression
use Rattle.cp_slots.specs.Code as code
use Rattle.cp_store.specs.declared.error.ErrorName as slots
use Rattle.cp_machine.specs.declared.event.Event.TheVariants as event
use Rattle.cp_machine.specs.declared.event.Kernel.TheVariants as kernel
use Rattle.cp_machine.specs.declared.shown.Shown as slot_shown
use Rattle.cp_machine.specs.declared.shown.Shown.TheVariants as shown_variant
use Rattle.cp_machine.specs.Machine.{Machine, thread_at, with_stack, with_output}
use Rattle.cp_machine.specs.Statements as statements
use Rattle.cp_machine.specs.Statements.{shown_as}
use Rattle.cp_meaning.specs.LocalRules.{invoked, shown}
use Rattle.cp_resolved.specs.Stands.{Ground, DisplayItem, InvokedBy, kind_of}
use Rattle.cp_machine_laws.specs.Named.{shown_by, shown_of}
use Rattle.cp_machine_laws.proofs.control.Control.{Taken, StepIs, takes_item, acts, fails, goes_on_to, scope_is}
use Rattle.cp_machine_laws.proofs.expressions.Expressions.{expression_ok}
use Rattle.cp_machine_laws.proofs.control.Moving.{represents_with}
use Rattle.cp_machine_laws.proofs.calls.Kept.{kept_left, kept_right}
use Rattle.cp_machine_laws.proofs.expressions.Numbers.{is_true_same}
use Rattle.cp_machine_laws.proofs.control.Running.{Executes, frames_below, sees_now}
use Rattle.cp_machine_laws.proofs.expressions.Views.{views_agree}

is_display : (a : Action) (c : code.OrdinalExpression) (k : ShownKind) → code.action_seen a ≡ code.display c k → (x : code_expression.OrdinalExpression) × (a ≡ action.Display x k) × (code.expression_seen x ≡ c)
is_display (action.Display x k) c j e = (x, cc, cc)
is_display a c k e = absurd (cc)

-- ---- the value that is shown

-- the last constant of an enumeration has a number below 65,536, which is what the machine shows of one
abbrev pub FewConstants : Ground → Base → Type 0
FewConstants g (enumerated at xs) = g.firsts at + (length xs - 1) < 65536
FewConstants g b = Unit {0}

below_same : (limit n : ℕ) → n < limit → statements.below limit (pos n) ≡ n
below_same limit n h = grind (arith, h)

pub shown_same : (g : Ground) (b : Base) (z : ℤ) → is_within (range_of_base b) z ≡ true → FewConstants g b → shown_as (kind_of g.firsts b) z ≡ shown_by g.firsts b z
shown_same g integers z h few = refl
shown_same g booleans z h few = ap shown_variant.Truth (sym (is_true_same z h))
shown_same g characters (pos n) h few = ap shown_variant.Char (below_same 256 n (grind (arith, ints, h)))
shown_same g (enumerated at xs) (pos n) h few = ap shown_variant.Constant (below_same 65536 (g.firsts at + n) (grind (arith, ints, h, few)))
shown_same g x (negsuc n) h few = absurd (grind (arith, ints, h))

abbrev typed_as : Ty → Value → Typed
typed_as t w = record { ty = t; value = w }

pub output_is : (g : Ground) (p : Program) (l : Layouts) (s : State) (m : Machine) (os : List Shown) (us : List slot_shown.Shown) → us ≡ map (shown_of g.firsts) os → Represents g p l s m → Represents g p l (record s { output = os }) (record m { output = us })
output_is g p l s m os us e rep = represents_with g p l s m os us s.pending m.pending e rep.pending rep

-- ---- the step

module _ (g : Ground) (p : Program) (l : Layouts) (s : State) (m : Machine) (q at token : ℕ) (d : Designator) (e : Expression) (more : Expressions) (mid : Option ℕ) (es : List Entry) (xs ys : List Item) (k : Taken g p l s m q at (statement_item (invoke token d (more_expressions e more))) mid es xs ys) where
  abbrev item_here : Item
  item_here = statement_item (invoke token d (more_expressions e more))

  abbrev line : ℕ
  line = slice_index g.lines token

  -- a value that is shown
  shows : (range : Range) (x : Typed) (z : ℤ) (o : Option ℕ) → o ≡ mid → x.ty ≡ ordinal range → x.value ≡ number_value z → is_within (range_of_base range.base) z ≡ true → FewConstants g range.base →
      StepIs g p l q line (settled p s q (Ok (shown (view_of p s q) (xs ++ ys) x))) (statements.show m q (rest_of o es) (shown_as (kind_of g.firsts range.base) z))
  shows range x z o n t w h few =
      subst (λ (j : Option ℕ). StepIs g p l q line (settled p s q (Ok (shown (view_of p s q) (xs ++ ys) x))) (statements.show m q (rest_of j es) (shown_as (kind_of g.firsts range.base) z))) (sym n)
      (subst (λ (y : slot_shown.Shown). StepIs g p l q line (settled p s q (Ok (shown (view_of p s q) (xs ++ ys) x))) (statements.show m q (rest_of mid es) y)) (sym (shown_same g range.base z h few))
      (subst (λ (y : Typed). StepIs g p l q line (settled p s q (Ok (shown (view_of p s q) (xs ++ ys) y))) (statements.show m q (rest_of mid es) (shown_by g.firsts range.base z))) (sym typed)
      (go (length s.output == output_room) (length m.output == MOST_SHOWN) (ap (λ j. j == output_room) count))))
    where
      typed : x ≡ record { ty = ordinal range; value = number_value z }
      typed = ap (λ (u : Ty). typed_as u x.value) t ∙ ap (λ (v : Value). typed_as (ordinal range) v) w

      count : length s.output ≡ length m.output
      count = sym (ap length k.rep.output ∙ length-map s.output (shown_of g.firsts))

      value_shown : Shown
      value_shown = record { base = range.base; number = z }

      shown_so : slot_shown.Shown
      shown_so = shown_by g.firsts range.base z

      appended : m.output ++ shown_so ∷ [] ≡ map (shown_of g.firsts) (s.output ++ value_shown ∷ [])
      appended = ap (λ us. us ++ shown_so ∷ []) k.rep.output ∙ sym (map-append (shown_of g.firsts) s.output (value_shown ∷ []))

      doing : Doing
      doing = shown (view_of p s q) (xs ++ ys) (record { ty = ordinal range; value = number_value z })

      go : (b c : Bool) → b ≡ c → StepIs g p l q line (displaying b s q doing value_shown)
          (if c then record { machine = m; event = event.OutputFull } else record { machine = with_output (with_stack m q (rest_of mid es)) (m.output ++ shown_so ∷ []); event = event.Kernel kernel.Display })
      go true true f = record { state = k.rep; event = refl }
      go false false f =
          record {
            state = output_is g p l (moved_to ready s q doing) (with_stack m q (rest_of mid es)) (s.output ++ value_shown ∷ []) (m.output ++ shown_so ∷ []) appended (goes_on_to g p l s m q at item_here mid es xs ys k None [] refl);
            event = refl;
          }
      go x y f = absurd (cc)

  outcomes : (range : Range) → FewConstants g range.base → (o : Outcome Typed) (r : Result ℤ slots.ErrorName) → OrdinalAgrees o (ordinal range) r → (n : Option ℕ) → n ≡ mid →
      StepIs g p l q line (settled p s q (o >>= λ x. Ok (shown (view_of p s q) (xs ++ ys) x))) (statements.with_value r (statements.fault m q line) (λ v. statements.show m q (rest_of n es) (shown_as (kind_of g.firsts range.base) v)))
  outcomes range few (Err b) (Err c) h n i = fails g p l s m q at item_here mid es xs ys k line b c h
  outcomes range few (Ok x) (Ok z) h n i = shows range x z n i h.0 h.1 h.2 few
  outcomes range few _ _ h n i = absurd h

  abbrev pub this : Here
  this = here p l (thread_at m.threads q).frame.routine

  module _ (standard : find (name_of d) this.scope ≡ Some (standard_meaning display_procedure)) where
    -- what the item does
    abbrev pub own_display : DisplayItem g this at token e mid
    own_display = subst (λ (w : Option Meaning). InvokedBy g this at token w d (more_expressions e more) mid) standard k.own

    pub display_step : (ex : Executes g p l m q) → FewConstants g own_display.range.base → StepIs g p l q line (step_of p s q) (step_at g.tables m q)
    display_step ex few =
        takes_item g p l s m q at item_here mid es xs ys k line
        (subst (λ (w : Option Meaning). StepIs g p l q line (settled p s q (invoked (view_of p s q) q w d (more_expressions e more) (xs ++ ys))) (act g.tables m q at (item_at g.tables at) (item_at g.tables at).action es))
        (sym (ap (find (name_of d)) (scope_is g p l s m q at item_here mid es xs ys k) ∙ standard))
        (let a = is_display (item_at g.tables at).action own_display.cell (kind_of g.firsts own_display.range.base) own_display.item.action in
        acts g p l s m q at item_here mid es xs ys k line token (code.display own_display.cell (kind_of g.firsts own_display.range.base)) (action.Display a.0 (kind_of g.firsts own_display.range.base)) _ own_display.item a.1
        (λ item n w.
        subst (λ (j : ℕ). StepIs g p l q line result (statements.display m q j a.0 (kind_of g.firsts own_display.range.base) (rest_of item.next es))) (sym w)
        (subst (λ (r : Result ℤ slots.ErrorName). StepIs g p l q line result (statements.with_value r (statements.fault m q line) (λ v. statements.show m q (rest_of item.next es) (shown_as (kind_of g.firsts own_display.range.base) v))))
        (sym (views_agree.value (memory_at m q) (thread_at m.threads q).frame a.0 ∙ ap (plain_value (memory_at m q) (thread_at m.threads q).frame) a.2))
        (outcomes own_display.range few (value (view_of p s q) e) (plain_value (memory_at m q) (thread_at m.threads q).frame own_display.cell)
        (expression_ok g.tables l ((thread_at m.threads q).frame ∷ frames_below g p l s m q at item_here mid es xs ys k ex) (view_of p s q) (memory_at m q) (thread_at m.threads q).frame this (sees_now g p l s m q at item_here mid es xs ys k ex) e (record { ty = ordinal own_display.range; form = as_ordinal own_display.cell })
        (kept_left this (expression_calls this.scope e) (expressions_calls this.scope more) (kept_right this (designator_calls this.scope d) (expression_calls this.scope e ++ expressions_calls this.scope more) k.kept)) own_display.formed) item.next n)))))
      where
        result : Stepped
        result = settled p s q (value (view_of p s q) e >>= λ x. Ok (shown (view_of p s q) (xs ++ ys) x))
