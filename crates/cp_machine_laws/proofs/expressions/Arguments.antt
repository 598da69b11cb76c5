-- What arguments give: a value of any type, and a place for a `var` parameter, are on slots what they are on names.
use Rattle.std.proofs.Common.{◌≡◌, ◌∙◌, ℕ, ◌≤◌, Bool, true, false, if◌then◌else◌, List, [], ◌∷◌, ◌++◌, Option, Some, None, ap, sym, refl, subst, arith, length, append_assoc}
use Rattle.cp_machine_laws.proofs.Words.{ℤ, map, Result, Ok, Err, Expression, Expressions, no_expressions, more_expressions, Designator, Tables, Argument, ArgumentValue, Bound}
use Rattle.cp_machine_laws.proofs.Words.{Address, Permanent, Local, Frame, SetValue, HasCells, Memory, then_with, check_range, Name, Outcome, out_of_range, ◌>>=◌, Value}
use Rattle.cp_machine_laws.proofs.Words.{number_value, set_value, Parameter, Content, holds, refers, knows, Environment, Typed, checked, View, Target, value, target_value}
use Rattle.cp_machine_laws.proofs.Words.{variable_in, is_call, expression_calls, expressions_calls, cells_of, Layouts, Here, encode, bits_of, AreMembers, HasType}
use Rattle.cp_machine_laws.proofs.Words.{OrdinalAgrees, SetAgrees, PlaceAgrees, TargetAgrees, Sees, GivesValue, IsBound, AreBound, BoundsAgree, error_of, plain_value}
use Rattle.cp_machine_laws.proofs.Words.{plain_set, plain_address, AreKept, LiesAt, PlaceAt, Scalar, Set, Copy, Reference, refers_to, bound_variable, bound_value}
use Rattle.cp_machine_laws.proofs.Words.{bound_argument, bound, Form, as_ordinal, as_set, as_place, place_form, expression_form}
use Rattle.cp_slots.specs.Code as code
use Rattle.cp_slots.specs.declared.place.ArgumentValue.TheVariants as value_of
use Rattle.cp_store.specs.declared.error.ErrorName as slots
use Rattle.cp_store.specs.declared.error.ErrorName.TheVariants as error
use Rattle.cp_store.specs.Arguments.{evaluate_argument, bounds_after, bounds_at, put_value}
use Rattle.cp_store.specs.Sets as sets
use Rattle.cp_meaning.specs.Types.{Ty, Range, ordinal, set_over, array_over, record_with, component_of, natural_of, is_within}
use Rattle.cp_meaning.specs.Operations as names
use Rattle.cp_resolved.specs.Stands.{ValueGiven, PlaceGiven, GivenBy, IsGiven, AreGiven}
use Rattle.cp_machine_laws.proofs.assignments.AnyAssignments.{RangeKnown}
use Rattle.cp_machine_laws.proofs.assignments.Blocks.{WritesFirst, number_writes, puts_block, set_writes, copy_writes}
use Rattle.cp_machine_laws.proofs.expressions.Expressions.{expression_ok}
use Rattle.cp_machine_laws.proofs.calls.Kept.{kept_left, kept_right}
use Rattle.cp_machine_laws.proofs.expressions.Members.{bits_below, set_with}
use Rattle.cp_machine_laws.proofs.expressions.Parts.{encode_length}
use Rattle.cp_machine_laws.proofs.expressions.SetRanges.{set_range_same}
use Rattle.cp_machine_laws.proofs.expressions.Sets.{members_of_type}
use Rattle.cp_machine_laws.proofs.expressions.VariableExpressions.{variable_found}
use Rattle.cp_machine_laws.proofs.expressions.Views.{views_agree}

-- ---- what an argument gives by its view

pub scalar_bound : (m : Memory) (bindings : List ℕ) (f : Frame) (a : ArgumentValue) (c : code.OrdinalExpression) (low high : ℤ) → code.value_seen a ≡ code.scalar c low high → evaluate_argument m bindings f a ≡ then_with (plain_value m f c) (λ z. then_with (check_range low high z) (λ v. Ok (Scalar v)))
scalar_bound m bindings f (value_of.Scalar e l h) c low high k =
    let same : code.expression_seen e ≡ c = cc in
    let below : l ≡ low = cc in
    let above : h ≡ high = cc in
    ap (λ r. then_with r (λ z. then_with (check_range l h z) (λ v. Ok (Scalar v)))) (views_agree.value m f e ∙ ap (plain_value m f) same)
    ∙ (ap (λ n. then_with (plain_value m f c) (λ z. then_with (check_range n h z) (λ v. Ok (Scalar v)))) below ∙ ap (λ n. then_with (plain_value m f c) (λ z. then_with (check_range low n z) (λ v. Ok (Scalar v)))) above)
scalar_bound m bindings f a c low high k = absurd (cc)

pub set_bound : (m : Memory) (bindings : List ℕ) (f : Frame) (a : ArgumentValue) (c : code.SetExpression) (low high : ℕ) → code.value_seen a ≡ code.set c low high → evaluate_argument m bindings f a ≡ then_with (plain_set m f c) (λ z. then_with (sets.check_members low high z) (λ v. Ok (Set v)))
set_bound m bindings f (value_of.Set e l h) c low high k =
    let same : code.set_seen e ≡ c = cc in
    let below : l ≡ low = cc in
    let above : h ≡ high = cc in
    ap (λ r. then_with r (λ z. then_with (sets.check_members l h z) (λ v. Ok (Set v)))) (views_agree.set m f e ∙ ap (plain_set m f) same)
    ∙ (ap (λ n. then_with (plain_set m f c) (λ z. then_with (sets.check_members n h z) (λ v. Ok (Set v)))) below ∙ ap (λ n. then_with (plain_set m f c) (λ z. then_with (sets.check_members low n z) (λ v. Ok (Set v)))) above)
set_bound m bindings f a c low high k = absurd (cc)

pub copy_bound : (m : Memory) (bindings : List ℕ) (f : Frame) (a : ArgumentValue) (c : code.Place) (size : ℕ) → code.value_seen a ≡ code.copy c size → evaluate_argument m bindings f a ≡ then_with (plain_address m f c) (λ at. Ok (Copy at size))
copy_bound m bindings f (value_of.Copy e n) c size k =
    let same : code.place_seen e ≡ c = cc in
    let long : n ≡ size = cc in
    ap (λ r. then_with r (λ at. Ok (Copy at n))) (views_agree.place m f e ∙ ap (plain_address m f) same) ∙ ap (λ i. then_with (plain_address m f c) (λ at. Ok (Copy at i))) long
copy_bound m bindings f a c size k = absurd (cc)

reference_bound : (m : Memory) (bindings : List ℕ) (f : Frame) (a : ArgumentValue) (c : code.Place) → code.value_seen a ≡ code.reference c → evaluate_argument m bindings f a ≡ then_with (plain_address m f c) (λ at. Ok (Reference at))
reference_bound m bindings f (value_of.Reference e) c k =
    let same : code.place_seen e ≡ c = cc in
    ap (λ r. then_with r (λ at. Ok (Reference at))) (views_agree.place m f e ∙ ap (plain_address m f) same)
reference_bound m bindings f a c k = absurd (cc)

-- ---- values that are put wherever there are cells for them

number_given : (m : Memory) (r : Range) (z : ℤ) → HasType (ordinal r) (number_value z) → GivesValue m (ordinal r) (number_value z) (Scalar z)
number_given m r z typed = record { typed = typed; value = tt; puts = λ m2 a kept as_many more few has apart. puts_block m2 (put_value m2 a (Scalar z)) a (z ∷ []) (number_writes m2 a z has) }

set_given : (m : Memory) (r : Range) (ns : List ℕ) → AreMembers 0 ns → GivesValue m (set_over r) (set_value ns) (Set (set_with (bits_of ns)))
set_given m r ns typed =
    record {
      typed = typed;
      value = tt;
      puts = λ m2 a kept as_many more few has apart. puts_block m2 (put_value m2 a (Set (set_with (bits_of ns)))) a (encode (set_value ns)) (set_writes m2 a (bits_of ns) few has (let w = bits_below 0 ns (omega arith) typed in omega (arith, w)));
    }

has_more : (m m2 : Memory) (a : Address) (n : ℕ) → length m2.permanents ≡ length m.permanents → length m.cells ≤ length m2.cells → HasCells m a n → HasCells m2 a n
has_more m m2 (Permanent k) n e le h = omega (arith, e, h)
has_more m m2 (Local k) n e le h = omega (arith, le, h)

pub copy_given : (m : Memory) (t : Ty) (w : Value) (from : Address) → LiesAt m t w from → GivesValue m t w (Copy from (cells_of t))
copy_given m t w from lies =
    record {
      typed = lies.typed;
      value = lies.cells;
      puts = λ m2 a kept as_many more few has apart.
          puts_block m2 (put_value m2 a (Copy from (cells_of t))) a (encode w)
          (subst (λ n. WritesFirst m2 (put_value m2 a (Copy from (cells_of t))) a (encode w) n) (sym long)
          (copy_writes m2 a from (encode w) (cells_of t) (cells_of t) few has (has_more m m2 from (cells_of t) as_many more lies.cells) (λ k less. kept k less ∙ lies.block k (omega (arith, long, less)))
          (λ i k less small e. apart i k (omega (arith, less, small)) small (sym e)) (omega arith)));
    }
  where
    long : length (encode w) ≡ cells_of t
    long = encode_length t w lies.typed

-- a value, or the same error
abbrev pub ValueAgrees : Memory → Ty → Outcome Content → Result Bound slots.ErrorName → Type 0
ValueAgrees m t (Ok (holds w)) (Ok b) = GivesValue m t w b
ValueAgrees m t (Err e) (Err d) = error_of e ≡ d
ValueAgrees m t o r = ⊥

-- the value is bound where it is in the range
abbrev pub held : Ty → Outcome Typed → Outcome Content
held t o = o >>= λ x. checked t x.value >>= λ w. Ok (holds w)

number_bound : (m : Memory) (r : Range) (t : Ty) (o : Outcome Typed) (s : Result ℤ slots.ErrorName) → RangeKnown (ordinal r) → OrdinalAgrees o t s → ValueAgrees m (ordinal r) (held (ordinal r) o) (then_with s (λ z. then_with (check_range r.low r.high z) (λ v. Ok (Scalar v))))
number_bound m r t (Err e) (Err d) base h = h
number_bound m r t (Ok x) (Ok z) base h = subst (λ w. ValueAgrees m (ordinal r) (checked (ordinal r) w >>= λ v. Ok (holds v)) (then_with (check_range r.low r.high z) (λ v. Ok (Scalar v)))) (sym h.1) (go (is_within r z) refl)
  where
    go : (b : Bool) → is_within r z ≡ b → ValueAgrees m (ordinal r) ((if b then Ok (number_value z) else Err out_of_range) >>= λ v. Ok (holds v)) (then_with (if b then Ok z else Err error.Range) (λ v. Ok (Scalar v)))
    go true inside = number_given m r z (base z inside)
    go false inside = refl
number_bound m r t _ _ base h = absurd h

members_bound : (m : Memory) (r : Range) (t : Ty) (o : Outcome Typed) (s : Result SetValue slots.ErrorName) → RangeKnown (set_over r) → SetAgrees o t s →
    ValueAgrees m (set_over r) (held (set_over r) o) (then_with s (λ z. then_with (sets.check_members (natural_of r.low) (natural_of r.high) z) (λ v. Ok (Set v))))
members_bound m r t (Err e) (Err d) base h = h
members_bound m r t (Err e) (Ok z) base h = absurd h
members_bound m r t (Ok x) (Err d) base h = absurd h
members_bound m r t (Ok x) (Ok z) base h =
    subst (λ (v : SetValue). ValueAgrees m (set_over r) (held (set_over r) (Ok x)) (then_with (sets.check_members (natural_of r.low) (natural_of r.high) v) (λ i. Ok (Set i)))) (ap set_with (sym h.1.3))
    (subst (λ w. ValueAgrees m (set_over r) (checked (set_over r) w >>= λ v. Ok (holds v)) (then_with (sets.check_members (natural_of r.low) (natural_of r.high) (set_with (bits_of ns))) (λ v. Ok (Set v)))) (sym h.1.1)
    (subst (λ (c : Bool). ValueAgrees m (set_over r) (checked (set_over r) (set_value ns) >>= λ v. Ok (holds v)) (then_with (if c then Ok (set_with (bits_of ns)) else Err error.Range) (λ v. Ok (Set v)))) (set_range_same r ns typed base) (go (names.are_within r ns))))
  where
    ns : List ℕ
    ns = h.1.0

    typed : AreMembers 0 ns
    typed = members_of_type t h.1.0 h.1.2

    go : (b : Bool) → ValueAgrees m (set_over r) ((if b then Ok (set_value ns) else Err out_of_range) >>= λ v. Ok (holds v)) (then_with (if b then Ok (set_with (bits_of ns)) else Err error.Range) (λ v. Ok (Set v)))
    go true = set_given m r ns typed
    go false = refl

block_bound : (m : Memory) (t u : Ty) (o : Outcome Typed) (s : Result Address slots.ErrorName) → ((w : Value) → checked u w ≡ Ok w) → t ≡ u → PlaceAgrees m o t s → ValueAgrees m u (held u o) (then_with s (λ at. Ok (Copy at (cells_of t))))
block_bound m t u (Err e) (Err d) free same h = h
block_bound m t u (Ok x) (Ok a) free same h =
    subst (λ (o : Outcome Value). ValueAgrees m u (o >>= λ v. Ok (holds v)) (Ok (Copy a (cells_of t)))) (sym (free x.value))
    (subst (λ i. GivesValue m i x.value (Copy a (cells_of t))) same (copy_given m t x.value a h.1))
block_bound m t u _ _ free same h = absurd h

-- ---- one argument

-- the place that a `var` parameter has, or its value
abbrev BoundAgrees : Tables → Layouts → List Frame → Memory → Parameter → Outcome Content → Result Bound slots.ErrorName → Type 0
BoundAgrees r l fs m q (Ok c) (Ok b) = IsBound r l fs m q c b
BoundAgrees r l fs m q (Err e) (Err d) = error_of e ≡ d
BoundAgrees r l fs m q o s = ⊥

-- no parameter of a routine is a component
abbrev pub IsNoComponent : Ty → Type 0
IsNoComponent (component_of k) = ⊥
IsNoComponent t = Unit {0}

-- an argument for a `var` parameter is a variable, and a value parameter's type is one of values
pub record ArgumentKnown (h : Here) (q : Parameter) (e : Expression) : Type 0 where
  pub variable : q.is_var ≡ true → (d : Designator) × (variable_in e ≡ Some d) × (is_call h.scope d ≡ false)
  pub range : q.is_var ≡ false → RangeKnown q.ty × IsNoComponent q.ty

abbrev pub ArgumentsKnown : Here → List Parameter → Expressions → Type 0
ArgumentsKnown h [] es = Unit {0}
ArgumentsKnown h (q ∷ qs) no_expressions = Unit {0}
ArgumentsKnown h (q ∷ qs) (more_expressions e es) = ArgumentKnown h q e × ArgumentsKnown h qs es

module _ (r : Tables) (l : Layouts) (fs : List Frame) (v : View) (m : Memory) (f : Frame) (h : Here) (sees : Sees r l fs v m f h) (bindings : List ℕ) where
  pub value_given : (u t : Ty) (form : Form) (e : Expression) (a : ArgumentValue) (c : code.ArgumentValue) → code.value_seen a ≡ c → expression_form h e ≡ Some (record { ty = t; form = form }) → AreKept h (expression_calls h.scope e) → RangeKnown u → IsNoComponent u → ValueGiven u t form c →
      ValueAgrees m u (bound_value v u e) (evaluate_argument m bindings f a)
  value_given (ordinal q) t (as_ordinal x) e a c seen formed kept base plain given =
      subst (λ s. ValueAgrees m (ordinal q) (held (ordinal q) (value v e)) s) (sym (scalar_bound m bindings f a x q.low q.high (seen ∙ given)))
      (number_bound m q t (value v e) (plain_value m f x) base (expression_ok r l fs v m f h sees e (record { ty = t; form = as_ordinal x }) kept formed))
  value_given (set_over q) t (as_set x) e a c seen formed kept base plain given =
      subst (λ s. ValueAgrees m (set_over q) (held (set_over q) (value v e)) s) (sym (set_bound m bindings f a x (natural_of q.low) (natural_of q.high) (seen ∙ given)))
      (members_bound m q t (value v e) (plain_set m f x) base (expression_ok r l fs v m f h sees e (record { ty = t; form = as_set x }) kept formed))
  value_given (array_over q u) t (as_place x) e a c seen formed kept base plain given =
      subst (λ s. ValueAgrees m (array_over q u) (held (array_over q u) (value v e)) s) (sym (copy_bound m bindings f a x (cells_of t) (seen ∙ given.1)))
      (block_bound m t (array_over q u) (value v e) (plain_address m f x) (λ w. refl) given.0 (expression_ok r l fs v m f h sees e (record { ty = t; form = as_place x }) kept formed))
  value_given (record_with ts) t (as_place x) e a c seen formed kept base plain given =
      subst (λ s. ValueAgrees m (record_with ts) (held (record_with ts) (value v e)) s) (sym (copy_bound m bindings f a x (cells_of t) (seen ∙ given.1)))
      (block_bound m t (record_with ts) (value v e) (plain_address m f x) (λ w. refl) given.0 (expression_ok r l fs v m f h sees e (record { ty = t; form = as_place x }) kept formed))
  value_given (component_of k) t form e a c seen formed kept base plain given = absurd plain
  value_given _ t _ e a c seen formed kept base plain given = absurd given

  held_bound : (q : Parameter) → q.is_var ≡ false → (o : Outcome Content) (s : Result Bound slots.ErrorName) → ValueAgrees m q.ty o s → BoundAgrees r l fs m q o s
  held_bound q is (Ok (holds w)) (Ok b) k = (is, k)
  held_bound q is (Err e) (Err d) k = k
  held_bound q is (Ok (refers x)) (Ok b) k = absurd k
  held_bound q is (Ok (knows n)) (Ok b) k = absurd k
  held_bound q is _ _ k = absurd k

  place_bound : (q : Parameter) (t : Ty) → q.is_var ≡ true → t ≡ q.ty → (o : Outcome Target) (s : Result Address slots.ErrorName) → TargetAgrees r l fs o t s → BoundAgrees r l fs m q (refers_to o) (then_with s (λ at. Ok (Reference at)))
  place_bound q t is same (Ok x) (Ok a) k = (is, subst (λ u. PlaceAt r l fs x.place u a) same k.1)
  place_bound q t is same (Err e) (Err d) k = k
  place_bound q t is same _ _ k = absurd k

  one_given : (q : Parameter) (e : Expression) (a : ArgumentValue) (c : code.ArgumentValue) → code.value_seen a ≡ c → IsGiven h q e c → AreKept h (expression_calls h.scope e) → ArgumentKnown h q e → BoundAgrees r l fs m q (bound_argument v q e) (evaluate_argument m bindings f a)
  one_given q e a c seen given kept known = go q.is_var refl given.given
    where
      by_place : (o : Option code.Place) → place_form given.form.form ≡ o → q.is_var ≡ true → PlaceGiven q.ty given.form.ty o c → BoundAgrees r l fs m q (bound_variable v refers_to (variable_in e)) (evaluate_argument m bindings f a)
      by_place None k is g = absurd g
      by_place (Some p) k is g =
          let w = known.variable is in
          subst (λ i. BoundAgrees r l fs m q (bound_variable v refers_to i) (evaluate_argument m bindings f a)) (sym w.1)
          (subst (λ s. BoundAgrees r l fs m q (refers_to (target_value v w.0)) s) (sym (reference_bound m bindings f a p (seen ∙ g.1)))
          (place_bound q given.form.ty is g.0 (target_value v w.0) (plain_address m f p) (variable_found r l fs v m f h sees e w.0 given.form p kept w.1 w.2 given.formed k)))

      go : (b : Bool) → q.is_var ≡ b → GivenBy b q.ty given.form c → BoundAgrees r l fs m q (if b then bound_variable v refers_to (variable_in e) else bound_value v q.ty e) (evaluate_argument m bindings f a)
      go true is g = by_place (place_form given.form.form) refl is g
      go false is g = held_bound q is (bound_value v q.ty e) (evaluate_argument m bindings f a) (value_given q.ty given.form.ty given.form.form e a c seen given.formed kept (known.range is).0 (known.range is).1 g)

  -- ---- all arguments

  bounds_split : (acc : List Bound) (xs : List Argument) → bounds_after m bindings f acc xs ≡ then_with (bounds_after m bindings f [] xs) (λ bs. Ok (acc ++ bs))
  bounds_split acc [] = ap Ok (none_more acc)
    where
      none_more : (ys : List Bound) → ys ≡ ys ++ []
      none_more [] = refl
      none_more (y ∷ ys) = ap (λ zs. y ∷ zs) (none_more ys)
  bounds_split acc (x ∷ xs) = go (evaluate_argument m bindings f x.value) (λ b. bounds_split (acc ++ b ∷ []) xs) (λ b. bounds_split (b ∷ []) xs)
    where
      joined : (b : Bound) (s : Result (List Bound) slots.ErrorName) → then_with s (λ bs. Ok ((acc ++ b ∷ []) ++ bs)) ≡ then_with (then_with s (λ bs. Ok ((b ∷ []) ++ bs))) (λ bs. Ok (acc ++ bs))
      joined b (Ok bs) = ap Ok (append_assoc acc (b ∷ []) bs)
      joined b (Err e) = refl

      go : (s : Result Bound slots.ErrorName) → ((b : Bound) → bounds_after m bindings f (acc ++ b ∷ []) xs ≡ then_with (bounds_after m bindings f [] xs) (λ bs. Ok ((acc ++ b ∷ []) ++ bs))) → ((b : Bound) → bounds_after m bindings f (b ∷ []) xs ≡ then_with (bounds_after m bindings f [] xs) (λ bs. Ok ((b ∷ []) ++ bs))) →
          then_with s (λ b. bounds_after m bindings f (acc ++ b ∷ []) xs) ≡ then_with (then_with s (λ b. bounds_after m bindings f (b ∷ []) xs)) (λ bs. Ok (acc ++ bs))
      go (Err e) one two = refl
      go (Ok b) one two = one b ∙ (joined b (bounds_after m bindings f [] xs) ∙ ap (λ s. then_with s (λ bs. Ok (acc ++ bs))) (sym (two b)))

  pub first_bound : (x : Argument) (xs : List Argument) → bounds_at m bindings f (x ∷ xs) ≡ then_with (evaluate_argument m bindings f x.value) (λ b. then_with (bounds_at m bindings f xs) (λ bs. Ok (b ∷ bs)))
  first_bound x xs = go (evaluate_argument m bindings f x.value)
    where
      go : (s : Result Bound slots.ErrorName) → then_with s (λ b. bounds_after m bindings f (b ∷ []) xs) ≡ then_with s (λ b. then_with (bounds_at m bindings f xs) (λ bs. Ok (b ∷ bs)))
      go (Err e) = refl
      go (Ok b) = bounds_split (b ∷ []) xs

  abbrev Are : (Name → ℕ) → List Parameter → List Argument → Environment → List Bound → Type 0
  Are places qs xs = λ e bs. AreBound r l fs m places qs e xs bs

  more_bound : (places : Name → ℕ) (q : Parameter) (qs : List Parameter) (x : Argument) (xs : List Argument) (o : Outcome Content) (s : Result Bound slots.ErrorName) (p : Outcome Environment) (t : Result (List Bound) slots.ErrorName) → x.slot ≡ places q.name →
      BoundAgrees r l fs m q o s → BoundsAgree (Are places qs xs) p t → BoundsAgree (Are places (q ∷ qs) (x ∷ xs)) (o >>= λ c. p >>= λ rest. Ok ((q.name, c) ∷ rest)) (then_with s (λ b. then_with t (λ bs. Ok (b ∷ bs))))
  more_bound places q qs x xs (Err e) (Err d) p t at i j = i
  more_bound places q qs x xs (Ok c) (Ok b) (Err e) (Err d) at i j = j
  more_bound places q qs x xs (Ok c) (Ok b) (Err e) (Ok bs) at i j = absurd j
  more_bound places q qs x xs (Ok c) (Ok b) (Ok rest) (Err d) at i j = absurd j
  more_bound places q qs x xs (Ok c) (Ok b) (Ok rest) (Ok bs) at i j = (refl, at, i, j)
  more_bound places q qs x xs _ _ p t at i j = absurd i

  pub arguments_agree : (places : Name → ℕ) (qs : List Parameter) (es : Expressions) (cs : List code.Argument) (xs : List Argument) → map code.argument_seen xs ≡ cs → AreGiven h places qs es cs → AreKept h (expressions_calls h.scope es) → ArgumentsKnown h qs es →
      BoundsAgree (λ e bs. AreBound r l fs m places qs e xs bs) (bound v qs es) (bounds_at m bindings f xs)
  arguments_agree places [] no_expressions [] [] seen given kept known = tt
  arguments_agree places [] no_expressions [] (x ∷ xs) seen given kept known = absurd (cc)
  arguments_agree places (q ∷ qs) (more_expressions e es) (c ∷ cs) [] seen given kept known = absurd (cc)
  arguments_agree places (q ∷ qs) (more_expressions e es) (c ∷ cs) (x ∷ xs) seen given kept known =
      let first : code.argument_seen x ≡ c = cc in
      let rest : map code.argument_seen xs ≡ cs = cc in
      subst (λ s. BoundsAgree (Are places (q ∷ qs) (x ∷ xs)) (bound v (q ∷ qs) (more_expressions e es)) s) (sym (first_bound x xs))
      (more_bound places q qs x xs (bound_argument v q e) (evaluate_argument m bindings f x.value) (bound v qs es) (bounds_at m bindings f xs) (ap (λ (y : code.Argument). y.slot) first ∙ given.0)
      (one_given q e x.value c.value (ap (λ (y : code.Argument). y.value) first) given.1 (kept_left h (expression_calls h.scope e) (expressions_calls h.scope es) kept) known.0)
      (arguments_agree places qs es cs xs rest given.2 (kept_right h (expression_calls h.scope e) (expressions_calls h.scope es) kept) known.1))
  arguments_agree places _ _ _ xs seen given kept known = absurd given
