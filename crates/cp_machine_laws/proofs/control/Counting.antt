-- Steps of `for` and of the successor of its value.
use Rattle.std.proofs.Common.{◌≡◌, ◌∙◌, ℕ, Bool, true, false, if◌then◌else◌, List, ◌∷◌, ◌++◌, Option, None, ap, sym, refl, subst, arith}
use Rattle.cp_machine_laws.proofs.Words.{ℤ, pos, negsuc, ◌+ℤ◌, ◌-ℤ◌, int_le, int_lt, ◌&&◌, Result, Ok, Err, slice_index, ints, Identifier, Direction, Program, Expression}
use Rattle.cp_machine_laws.proofs.Words.{Statement, for_do, Action, item_at, Address, Permanent, Local, HasCells, Memory, address_onward, Entry, Successor, Machine, thread_at}
use Rattle.cp_machine_laws.proofs.Words.{with_stack, rest_of, act, take_top, step_at, Outcome, out_of_range, ◌>>=◌, Scope, Range, Ty, ordinal, is_within, Value, number_value}
use Rattle.cp_machine_laws.proofs.Words.{number_of, current, Place, Item, statement_item, successor, State, Typed, same_integer, View, target_named, stored, value, Stepped}
use Rattle.cp_machine_laws.proofs.Words.{Doing, expression_calls, items_of, view_of, step_of, settled, Layouts, Here, here, Designated, as_ordinal, plain_value, OrdinalAgrees}
use Rattle.cp_machine_laws.proofs.Words.{TargetAgrees, BegunAgrees, Few, Sees, ItemsAre, Frame, PlaceOrigin, PlaceAt, StackIs, TurnIs, CallsHold, own_memory, frames_of}
use Rattle.cp_tree.specs.declared.statement.Direction.TheVariants.{To, Downto}
use Rattle.cp_slots.specs.declared.item.Action.TheVariants as action
use Rattle.cp_slots.specs.declared.place.OrdinalExpression as code_expression
use Rattle.cp_slots.specs.Code as code
use Rattle.cp_store.specs.declared.error.ErrorName as slots
use Rattle.cp_store.specs.declared.error.ErrorName.TheVariants as error
use Rattle.cp_machine.specs.Memory.{memory_at, value_of, origin_of, number_put}
use Rattle.cp_machine.specs.Statements as statements
use Rattle.cp_meaning.specs.State as named
use Rattle.cp_meaning.specs.LocalRules.{takes, assigned, becomes, is_beyond, next_value}
use Rattle.cp_resolved.specs.Stands.{Ground, ForItem, StatementIs, is_down}
use Rattle.cp_machine_laws.proofs.control.Control.{Taken, Goes, goes, goes_still, StepIs, takes_item, acts, fails, scope_is, top_frame, call_scope}
use Rattle.cp_machine_laws.proofs.expressions.Expressions.{expression_ok}
use Rattle.cp_machine_laws.proofs.expressions.Numbers.{same_is_equal}
use Rattle.cp_machine_laws.proofs.calls.Kept.{kept_left, kept_right}
use Rattle.cp_machine_laws.proofs.control.Lists.{statement_items, stack_rest, frames_rest}
use Rattle.cp_machine_laws.proofs.control.Running.{Executes, frames_below, sees_now}
use Rattle.cp_machine_laws.proofs.expressions.Views.{views_agree}

is_for : (a : Action) (o : PlaceOrigin) (low high : ℤ) (c d : code.OrdinalExpression) (down : Bool) (list : Option ℕ) → code.action_seen a ≡ code.for_do o low high c d down list →
    (x : code_expression.OrdinalExpression) × (y : code_expression.OrdinalExpression) × (a ≡ action.For o low high x y down list) × (code.expression_seen x ≡ c) × (code.expression_seen y ≡ d)
is_for (action.For o low high x y down list) p l h c d b k e = (x, y, cc, cc, cc)
is_for a o low high c d down list e = absurd (cc)

-- an address that has a cell was not moved at all
moved_back : (m : Memory) (b : Address) → Few m → HasCells m (address_onward b 0) 1 → address_onward b 0 ≡ b
moved_back m (Permanent n) few h = ap Permanent (let p = few.permanents in omega (arith, p, h))
moved_back m (Local n) few h = ap Local (let p = few.cells in omega (arith, p, h))

-- the next value of one in a range
further_in : (low high z : ℤ) → int_le low z && int_le z high ≡ true → int_lt z high ≡ true → int_le low (z +ℤ pos 1) && int_le (z +ℤ pos 1) high ≡ true
further_in low high z h k = grind (arith, ints, h, k)

further_out : (low high z : ℤ) → int_le low z && int_le z high ≡ true → int_lt z high ≡ false → int_le low (z +ℤ pos 1) && int_le (z +ℤ pos 1) high ≡ false
further_out low high z h k = grind (arith, ints, h, k)

back_in : (low high z : ℤ) → int_le low z && int_le z high ≡ true → int_lt low z ≡ true → int_le low (z +ℤ negsuc 0) && int_le (z +ℤ negsuc 0) high ≡ true
back_in low high z h k = grind (arith, ints, h, k)

back_out : (low high z : ℤ) → int_le low z && int_le z high ≡ true → int_lt low z ≡ false → int_le low (z +ℤ negsuc 0) && int_le (z +ℤ negsuc 0) high ≡ false
back_out low high z h k = grind (arith, ints, h, k)

beyond_same : (d : Direction) (a b : ℤ) → statements.is_beyond (is_down d) a b ≡ is_beyond d a b
beyond_same To a b = refl
beyond_same Downto a b = refl

-- a number in the range is stored in the variable of the loop, and the process goes on with other items
abbrev pub StoresIn : Ground → Program → Layouts → State → Machine → (q line : ℕ) → List Entry → Range → Place → Address → Type 0
StoresIn g p l s m q line es range place a = (z : ℤ) (zs : List Item) (gs : List Entry) → StackIs g p l (thread_at m.threads q).frame (named.process_at s.processes q).calls zs gs → frames_of (thread_at m.threads q).frame gs ≡ frames_of (thread_at m.threads q).frame es → is_within range z ≡ true →
    StepIs g p l q line (settled p s q (becomes (stored (view_of p s q) place (number_value z)) zs)) (statements.local (number_put (with_stack m q gs) q a z))

-- Of a `for` whose item has this number: `xs` and `ys` come after it, and `fs` are the frames of the process.
module _ (g : Ground) (p : Program) (l : Layouts) (s : State) (m : Machine) (q at token : ℕ) (i : Identifier) (e : Expression) (d : Direction) (f : Expression) (t : Statement) (mid : Option ℕ) (es : List Entry) (xs ys : List Item)
    (k : Goes g p l s m q es) (own : ForItem g (here p l (thread_at m.threads q).frame.routine) (λ list. StatementIs g (here p l (thread_at m.threads q).frame.routine) list t None) at token i e d f mid)
    (follows : ItemsAre g (here p l (thread_at m.threads q).frame.routine) mid xs None) (below : StackIs g p l (thread_at m.threads q).frame (named.process_at s.processes q).calls ys es)
    (fs : List Frame) (sees : Sees g.tables l fs (view_of p s q) (memory_at m q) (thread_at m.threads q).frame (here p l (thread_at m.threads q).frame.routine))
    -- each place of the variable can be stored in
    (stores : (place : Place) (a : Address) → PlaceAt g.tables l fs place (ordinal own.range) a → StoresIn g p l s m q (slice_index g.lines token) es own.range place a) where
  abbrev line : ℕ
  line = slice_index g.lines token

  abbrev this : Here
  this = here p l (thread_at m.threads q).frame.routine

  -- the variable stands at the address of its origin
  variable : TargetAgrees g.tables l fs (Ok (target_named (view_of p s q) i.name)) (ordinal own.range) (Ok (origin_of m q own.origin))
  variable = (
    found.0,
    subst (λ a. PlaceAt g.tables l fs (target_named (view_of p s q) i.name).place (ordinal own.range) a)
        (moved_back (memory_at m q) (origin_of m q own.origin) sees.few (sees.lies (target_named (view_of p s q) i.name).place (ordinal own.range) (address_onward (origin_of m q own.origin) 0) found.1).cells) found.1,
  )
    where
      found : TargetAgrees g.tables l fs (Ok (target_named (view_of p s q) i.name)) (ordinal own.range) (Ok (address_onward (origin_of m q own.origin) 0))
      found = subst (λ (o : Option Designated). BegunAgrees g.tables l fs (memory_at m q) (thread_at m.threads q).frame (target_named (view_of p s q) i.name) o) own.variable (sees.begins i.name)

  -- the statement, the successor of the value, and what is after the item
  abbrev later : ℤ → ℤ → List Item
  later z last = items_of this.scope t ++ successor token i z d last t ∷ (xs ++ ys)

  later_stack : (z last : ℤ) → is_within own.range z ≡ true → StackIs g p l (thread_at m.threads q).frame (named.process_at s.processes q).calls (later z last) (rest_of own.body (Successor at z last ∷ es))
  later_stack z last within =
      stack_rest g p l (thread_at m.threads q).frame (named.process_at s.processes q).calls own.body (items_of this.scope t) (successor token i z d last t ∷ (xs ++ ys)) (Successor at z last ∷ es)
      (statement_items g this own.body None t own.list)
      (successor token i z d last t, xs, ys, refl, record { token = token; name = i; from = e; to = f; direction = d; statement = t; next = mid; item = own; within = within; same = refl; after = follows }, below)

  abbrev stored_now : (z last : ℤ) → Stepped
  stored_now z last = settled p s q (assigned (view_of p s q) (target_named (view_of p s q) i.name) (number_value z) >>= λ u. becomes u (later z last))

  -- the variable becomes a value of its range
  stores_value : (z last : ℤ) → is_within own.range z ≡ true → StepIs g p l q line (stored_now z last) (statements.local (statements.gone_on m q at own.origin own.body es last z))
  stores_value z last within =
      subst (λ (u : Ty). StepIs g p l q line (settled p s q (assigned (view_of p s q) (record { place = (target_named (view_of p s q) i.name).place; ty = u }) (number_value z) >>= λ v. becomes v (later z last))) (statements.local (statements.gone_on m q at own.origin own.body es last z))) (sym variable.0)
      (subst (λ (b : Bool). StepIs g p l q line (settled p s q (((if b then Ok (number_value z) else Err out_of_range) >>= λ x. Ok (stored (view_of p s q) (target_named (view_of p s q) i.name).place x)) >>= λ u. becomes u (later z last))) (statements.local (statements.gone_on m q at own.origin own.body es last z))) (sym within)
      (stores (target_named (view_of p s q) i.name).place (origin_of m q own.origin) variable.1 z (later z last) (rest_of own.body (Successor at z last ∷ es)) (later_stack z last within) (frames_rest (thread_at m.threads q).frame own.body (Successor at z last ∷ es)) within))

  -- a value outside of its range is a run error
  refuses : (z last : ℤ) → is_within own.range z ≡ false → StepIs g p l q line (stored_now z last) (statements.fault m q line error.Range)
  refuses z last outside =
      subst (λ (u : Ty). StepIs g p l q line (settled p s q (assigned (view_of p s q) (record { place = (target_named (view_of p s q) i.name).place; ty = u }) (number_value z) >>= λ v. becomes v (later z last))) (statements.fault m q line error.Range)) (sym variable.0)
      (subst (λ (b : Bool). StepIs g p l q line (settled p s q (((if b then Ok (number_value z) else Err out_of_range) >>= λ x. Ok (stored (view_of p s q) (target_named (view_of p s q) i.name).place x)) >>= λ u. becomes u (later z last))) (statements.fault m q line error.Range)) (sym outside)
      (record { state = k.rep; event = refl }))

  -- the loop is over
  is_over : StepIs g p l q line (settled p s q (becomes (view_of p s q) (xs ++ ys))) (statements.local (with_stack m q (rest_of mid es)))
  is_over =
      record {
        state = goes_still g p l s m q es k (xs ++ ys) (rest_of mid es) (stack_rest g p l (thread_at m.threads q).frame (named.process_at s.processes q).calls mid xs ys es follows below) (frames_rest (thread_at m.threads q).frame mid es);
        event = refl;
      }

  -- from the first value, by both bounds
  from_first : (a last : ℤ) → StepIs g p l q line (settled p s q (if is_beyond d a last then becomes (view_of p s q) (xs ++ ys) else (assigned (view_of p s q) (target_named (view_of p s q) i.name) (number_value a) >>= λ u. becomes u (later a last))))
      (statements.for_from m q line at own.origin own.range.low own.range.high (is_down d) own.body mid es a last)
  from_first a last =
      subst (λ (c : Bool). StepIs g p l q line (settled p s q (if is_beyond d a last then becomes (view_of p s q) (xs ++ ys) else (assigned (view_of p s q) (target_named (view_of p s q) i.name) (number_value a) >>= λ u. becomes u (later a last))))
      (if c then statements.local (with_stack m q (rest_of mid es)) else statements.with_value (if is_within own.range a then Ok a else Err error.Range) (statements.fault m q line) (λ v. statements.local (statements.gone_on m q at own.origin own.body es last v)))) (sym (beyond_same d a last))
      (go (is_beyond d a last))
    where
      ranged : (b : Bool) → is_within own.range a ≡ b → StepIs g p l q line (stored_now a last) (statements.with_value (if b then Ok a else Err error.Range) (statements.fault m q line) (λ v. statements.local (statements.gone_on m q at own.origin own.body es last v)))
      ranged true w = stores_value a last w
      ranged false w = refuses a last w

      go : (b : Bool) → StepIs g p l q line (settled p s q (if b then becomes (view_of p s q) (xs ++ ys) else (assigned (view_of p s q) (target_named (view_of p s q) i.name) (number_value a) >>= λ u. becomes u (later a last))))
          (if b then statements.local (with_stack m q (rest_of mid es)) else statements.with_value (if is_within own.range a then Ok a else Err error.Range) (statements.fault m q line) (λ v. statements.local (statements.gone_on m q at own.origin own.body es last v)))
      go true = is_over
      go false = ranged (is_within own.range a) refl

  -- the value after one of the range is in the range, or both refuse
  next_stored : (z last : ℤ) → is_within own.range z ≡ true → StepIs g p l q line (stored_now (next_value d z) last)
      (statements.with_value (statements.next_value (is_down d) own.range.low own.range.high z) (statements.fault m q line) (λ v. statements.local (statements.gone_on m q at own.origin own.body es last v)))
  next_stored z last within = by_direction d (next_value d z) refl
    where
      by_direction : (c : Direction) (w : ℤ) → next_value c z ≡ w → StepIs g p l q line (stored_now w last)
          (statements.with_value (statements.next_value (is_down c) own.range.low own.range.high z) (statements.fault m q line) (λ v. statements.local (statements.gone_on m q at own.origin own.body es last v)))
      by_direction To w n = go (int_lt z own.range.high) refl
        where
          go : (b : Bool) → int_lt z own.range.high ≡ b → StepIs g p l q line (stored_now w last) (statements.with_value (if b then Ok (z +ℤ pos 1) else Err error.Range) (statements.fault m q line) (λ v. statements.local (statements.gone_on m q at own.origin own.body es last v)))
          go true less = subst (λ v. StepIs g p l q line (stored_now w last) (statements.local (statements.gone_on m q at own.origin own.body es last v))) (sym n) (stores_value w last (subst (λ v. is_within own.range v ≡ true) n (further_in own.range.low own.range.high z within less)))
          go false less = refuses w last (subst (λ v. is_within own.range v ≡ false) n (further_out own.range.low own.range.high z within less))
      by_direction Downto w n = go (int_lt own.range.low z) refl
        where
          go : (b : Bool) → int_lt own.range.low z ≡ b → StepIs g p l q line (stored_now w last) (statements.with_value (if b then Ok (z -ℤ pos 1) else Err error.Range) (statements.fault m q line) (λ v. statements.local (statements.gone_on m q at own.origin own.body es last v)))
          go true less = subst (λ v. StepIs g p l q line (stored_now w last) (statements.local (statements.gone_on m q at own.origin own.body es last v))) (sym n) (stores_value w last (subst (λ v. is_within own.range v ≡ true) n (back_in own.range.low own.range.high z within less)))
          go false less = refuses w last (subst (λ v. is_within own.range v ≡ false) n (back_out own.range.low own.range.high z within less))

  -- after a value
  from_value : (z last : ℤ) → is_within own.range z ≡ true → StepIs g p l q line (settled p s q (if same_integer z last then becomes (view_of p s q) (xs ++ ys) else (assigned (view_of p s q) (target_named (view_of p s q) i.name) (number_value (next_value d z)) >>= λ u. becomes u (later (next_value d z) last))))
      (statements.next_turn m q line at own.origin own.range.low own.range.high (is_down d) own.body mid es z last)
  from_value z last within =
      subst (λ (c : Bool). StepIs g p l q line (settled p s q (if same_integer z last then becomes (view_of p s q) (xs ++ ys) else (assigned (view_of p s q) (target_named (view_of p s q) i.name) (number_value (next_value d z)) >>= λ u. becomes u (later (next_value d z) last))))
      (if c then statements.local (with_stack m q (rest_of mid es)) else statements.with_value (statements.next_value (is_down d) own.range.low own.range.high z) (statements.fault m q line) (λ v. statements.local (statements.gone_on m q at own.origin own.body es last v)))) (same_is_equal z last)
      (go (same_integer z last))
    where
      go : (b : Bool) → StepIs g p l q line (settled p s q (if b then becomes (view_of p s q) (xs ++ ys) else (assigned (view_of p s q) (target_named (view_of p s q) i.name) (number_value (next_value d z)) >>= λ u. becomes u (later (next_value d z) last))))
          (if b then statements.local (with_stack m q (rest_of mid es)) else statements.with_value (statements.next_value (is_down d) own.range.low own.range.high z) (statements.fault m q line) (λ v. statements.local (statements.gone_on m q at own.origin own.body es last v)))
      go true = is_over
      go false = next_stored z last within

-- ---- the step of a `for`

module _ (g : Ground) (p : Program) (l : Layouts) (s : State) (m : Machine) (q at token : ℕ) (i : Identifier) (e : Expression) (d : Direction) (f : Expression) (t : Statement) (mid : Option ℕ) (es : List Entry) (xs ys : List Item)
    (k : Taken g p l s m q at (statement_item (for_do token i e d f t)) mid es xs ys) (ex : Executes g p l m q)
    (stores : (place : Place) (a : Address) → PlaceAt g.tables l ((thread_at m.threads q).frame ∷ frames_below g p l s m q at (statement_item (for_do token i e d f t)) mid es xs ys k ex) place (ordinal k.own.range) a → StoresIn g p l s m q (slice_index g.lines token) es k.own.range place a) where
  abbrev for_item : Item
  for_item = statement_item (for_do token i e d f t)

  abbrev for_line : ℕ
  for_line = slice_index g.lines token

  abbrev inside : Here
  inside = here p l (thread_at m.threads q).frame.routine

  abbrev frames_now : List Frame
  frames_now = (thread_at m.threads q).frame ∷ frames_below g p l s m q at for_item mid es xs ys k ex

  abbrev view : View
  view = view_of p s q

  seen : Sees g.tables l frames_now view (memory_at m q) (thread_at m.threads q).frame inside
  seen = sees_now g p l s m q at for_item mid es xs ys k ex

  -- what the item does in a scope, with both bounds
  abbrev with_bounds : Scope → Typed → Typed → Outcome Doing
  with_bounds c a b =
      if is_beyond d (number_of a.value) (number_of b.value) then becomes view (xs ++ ys)
      else (assigned view (target_named view i.name) (number_value (number_of a.value)) >>= λ u. becomes u (items_of c t ++ successor token i (number_of a.value) d (number_of b.value) t ∷ (xs ++ ys)))

  outcomes : (ta tb : Ty) (oa ob : Outcome Typed) (ra rb : Result ℤ slots.ErrorName) → OrdinalAgrees oa ta ra → OrdinalAgrees ob tb rb →
      StepIs g p l q for_line (settled p s q (oa >>= λ a. ob >>= λ b. with_bounds inside.scope a b))
      (statements.with_value ra (statements.fault m q for_line) (λ a. statements.with_value rb (statements.fault m q for_line) (statements.for_from m q for_line at k.own.origin k.own.range.low k.own.range.high (is_down d) k.own.body mid es a)))
  outcomes ta tb (Err x) ob (Err y) rb h j = fails g p l s m q at for_item mid es xs ys k for_line x y h
  outcomes ta tb (Err x) ob (Ok z) rb h j = absurd h
  outcomes ta tb (Ok x) ob (Err y) rb h j = absurd h
  outcomes ta tb (Ok x) (Err y) (Ok z) (Err w) h j = fails g p l s m q at for_item mid es xs ys k for_line y w j
  outcomes ta tb (Ok x) (Ok y) (Ok z) (Ok w) h j =
      subst (λ (v : Value). StepIs g p l q for_line (settled p s q (with_bounds inside.scope (record { ty = x.ty; value = v }) y)) (statements.for_from m q for_line at k.own.origin k.own.range.low k.own.range.high (is_down d) k.own.body mid es z w)) (sym h.1)
      (subst (λ (v : Value). StepIs g p l q for_line (settled p s q (with_bounds inside.scope (record { ty = x.ty; value = number_value z }) (record { ty = y.ty; value = v }))) (statements.for_from m q for_line at k.own.origin k.own.range.low k.own.range.high (is_down d) k.own.body mid es z w)) (sym j.1)
      (from_first g p l s m q at token i e d f t mid es xs ys (goes g p l s m q at for_item mid es xs ys k) k.own k.after k.below frames_now seen stores z w))
  outcomes ta tb (Ok x) _ (Ok z) _ h j = absurd j

  pub for_step : StepIs g p l q for_line (step_of p s q) (step_at g.tables m q)
  for_step =
      takes_item g p l s m q at for_item mid es xs ys k for_line
      (subst (λ (c : Scope). StepIs g p l q for_line (settled p s q (value view e >>= λ a. value view f >>= λ b. with_bounds c a b)) (act g.tables m q at (item_at g.tables at) (item_at g.tables at).action es)) (sym (scope_is g p l s m q at for_item mid es xs ys k))
      (let a = is_for (item_at g.tables at).action k.own.origin k.own.range.low k.own.range.high k.own.from k.own.to (is_down d) k.own.body k.own.item.action in
      acts g p l s m q at for_item mid es xs ys k for_line token (code.for_do k.own.origin k.own.range.low k.own.range.high k.own.from k.own.to (is_down d) k.own.body) (action.For k.own.origin k.own.range.low k.own.range.high a.0 a.1 (is_down d) k.own.body) _ k.own.item a.2
      (λ item n w.
      subst (λ (j : ℕ). StepIs g p l q for_line result (statements.for_do m q j at k.own.origin k.own.range.low k.own.range.high a.0 a.1 (is_down d) k.own.body item.next es)) (sym w)
      (subst (λ (o : Option ℕ). StepIs g p l q for_line result (statements.for_do m q for_line at k.own.origin k.own.range.low k.own.range.high a.0 a.1 (is_down d) k.own.body o es)) (sym n)
      (subst (λ (r : Result ℤ slots.ErrorName). StepIs g p l q for_line result (statements.with_value r (statements.fault m q for_line) (λ x. statements.with_value (value_of m q a.1) (statements.fault m q for_line) (statements.for_from m q for_line at k.own.origin k.own.range.low k.own.range.high (is_down d) k.own.body mid es x))))
      (sym (views_agree.value (memory_at m q) (thread_at m.threads q).frame a.0 ∙ ap (plain_value (memory_at m q) (thread_at m.threads q).frame) a.3))
      (subst (λ (r : Result ℤ slots.ErrorName). StepIs g p l q for_line result (statements.with_value (plain_value (memory_at m q) (thread_at m.threads q).frame k.own.from) (statements.fault m q for_line) (λ x. statements.with_value r (statements.fault m q for_line) (statements.for_from m q for_line at k.own.origin k.own.range.low k.own.range.high (is_down d) k.own.body mid es x))))
      (sym (views_agree.value (memory_at m q) (thread_at m.threads q).frame a.1 ∙ ap (plain_value (memory_at m q) (thread_at m.threads q).frame) a.4))
      (outcomes k.own.from_ty k.own.to_ty (value view e) (value view f) (plain_value (memory_at m q) (thread_at m.threads q).frame k.own.from) (plain_value (memory_at m q) (thread_at m.threads q).frame k.own.to)
      (expression_ok g.tables l frames_now view (memory_at m q) (thread_at m.threads q).frame inside seen e (record { ty = k.own.from_ty; form = as_ordinal k.own.from }) (kept_left inside (expression_calls inside.scope e) (expression_calls inside.scope f) k.kept) k.own.first)
      (expression_ok g.tables l frames_now view (memory_at m q) (thread_at m.threads q).frame inside seen f (record { ty = k.own.to_ty; form = as_ordinal k.own.to }) (kept_right inside (expression_calls inside.scope e) (expression_calls inside.scope f) k.kept) k.own.last))))))))
    where
      result : Stepped
      result = settled p s q (value view e >>= λ a. value view f >>= λ b. with_bounds inside.scope a b)

-- ---- the step of the successor of a value

pub next_step : (g : Ground) (p : Program) (l : Layouts) (s : State) (m : Machine) (q at : ℕ) (z last : ℤ) (first : Item) (es : List Entry) (xs ys : List Item) (k : Goes g p l s m q es) → (thread_at m.threads q).stack ≡ Successor at z last ∷ es → (named.process_at s.processes q).items ≡ first ∷ (xs ++ ys) →
    (turn : TurnIs g (here p l (thread_at m.threads q).frame.routine) at z last first xs) → StackIs g p l (thread_at m.threads q).frame (named.process_at s.processes q).calls ys es →
    (fs : List Frame) → Sees g.tables l fs (view_of p s q) (memory_at m q) (thread_at m.threads q).frame (here p l (thread_at m.threads q).frame.routine) →
    ((place : Place) (a : Address) → PlaceAt g.tables l fs place (ordinal turn.item.range) a → StoresIn g p l s m q (slice_index g.lines turn.token) es turn.item.range place a) →
    StepIs g p l q (slice_index g.lines turn.token) (step_of p s q) (step_at g.tables m q)
next_step g p l s m q at z last first es xs ys k stack items turn below fs sees stores =
    subst (λ (is : List Item). StepIs g p l q line_now (settled p s q (takes view_now q is)) (step_at g.tables m q)) (sym (items ∙ ap (λ j. j ∷ (xs ++ ys)) turn.same))
    (subst (λ (us : List Entry). StepIs g p l q line_now (settled p s q (takes view_now q (successor turn.token turn.name z turn.direction last turn.statement ∷ (xs ++ ys)))) (take_top g.tables m q us)) (sym stack)
    (subst (λ (c : Scope). StepIs g p l q line_now (in_scope c) (statements.successor_step m q at (item_at g.tables at) (item_at g.tables at).action es z last)) scopes
    (let a = is_for (item_at g.tables at).action own.origin own.range.low own.range.high own.from own.to (is_down turn.direction) own.body own.item.action in
    subst (λ (b : Action). StepIs g p l q line_now (in_scope (l.meanings (thread_at m.threads q).frame.routine).scope) (statements.successor_step m q at (item_at g.tables at) b es z last)) (sym a.2)
    (subst (λ (j : ℕ). StepIs g p l q line_now (in_scope (l.meanings (thread_at m.threads q).frame.routine).scope) (statements.next_turn m q j at own.origin own.range.low own.range.high (is_down turn.direction) own.body (item_at g.tables at).next es z last)) (sym own.item.line)
    (subst (λ (o : Option ℕ). StepIs g p l q line_now (in_scope (l.meanings (thread_at m.threads q).frame.routine).scope) (statements.next_turn m q line_now at own.origin own.range.low own.range.high (is_down turn.direction) own.body o es z last)) (sym own.item.follows)
    (from_value g p l s m q at turn.token turn.name turn.from turn.direction turn.to turn.statement turn.next es xs ys k own turn.after below fs sees stores z last turn.within))))))
  where
    line_now : ℕ
    line_now = slice_index g.lines turn.token

    view_now : View
    view_now = view_of p s q

    own : ForItem g (here p l (thread_at m.threads q).frame.routine) (λ list. StatementIs g (here p l (thread_at m.threads q).frame.routine) list turn.statement None) at turn.token turn.name turn.from turn.direction turn.to turn.next
    own = turn.item

    in_scope : Scope → Stepped
    in_scope c =
        settled p s q (if same_integer z last then becomes view_now (xs ++ ys)
        else (assigned view_now (target_named view_now turn.name.name) (number_value (next_value turn.direction z)) >>= λ u. becomes u (items_of c turn.statement ++ successor turn.token turn.name (next_value turn.direction z) turn.direction last turn.statement ∷ (xs ++ ys))))

    scopes : (l.meanings (thread_at m.threads q).frame.routine).scope ≡ (current (named.process_at s.processes q).calls).scope
    scopes =
        let top = top_frame (thread_at m.threads q).frame es in
        sym (call_scope g.tables l (own_memory (thread_at m.threads q)) (named.process_at s.processes q).calls (thread_at m.threads q).frame top.0 (subst (λ hs. CallsHold g.tables l (own_memory (thread_at m.threads q)) (named.process_at s.processes q).calls hs) top.1 k.calls))
