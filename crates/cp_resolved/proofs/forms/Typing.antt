-- What the type of an operand says of its form.
use Rattle.cp_resolved.proofs.Words.{◌≡◌, Bool, true, Option, Some, None, refl, sym, ap, subst, Range, same_base, values_of, whole, Ty, all_characters, ◌&&◌, ◌-◌, pos}
use Rattle.cp_resolved.proofs.Words.{length, Form, as_ordinal, as_set, as_place, Formed, then_form, integer_form, truth_form, set_form, is_integer_base, is_boolean_base}
use Rattle.cp_scope.specs.declared.types.Base as check_base
use Rattle.cp_scope.specs.declared.types.Base.TheVariants as base
use Rattle.cp_scope.specs.declared.types.ValueType.TheVariants as types
use Rattle.cp_slots.specs.Code as code
use Rattle.cp_meaning.specs.Types as named
use Rattle.cp_resolved.specs.Typed.{Tokens, Written, BaseIs, RangeIs, FormIs, Expressed}

abbrev pub formed : Ty → Form → Formed
formed t f = record { ty = t; form = f }

pub same_range : (r q : Range) → types.Ordinal r ≡ types.Ordinal q → r ≡ q
same_range r q h = cc

-- ---- bases

pub integer_base : (k : Tokens) (c : named.Base) (b : check_base.Base) → BaseIs k c b → same_base b base.Integer ≡ true → is_integer_base c ≡ true
integer_base k named.integers b h e = refl
integer_base k named.booleans b h e = absurd (let bad : same_base base.Boolean base.Integer ≡ true = subst (λ (x : check_base.Base). same_base x base.Integer ≡ true) h e in cc)
integer_base k named.characters b h e = absurd (let bad : same_base base.Char base.Integer ≡ true = subst (λ (x : check_base.Base). same_base x base.Integer ≡ true) h e in cc)
integer_base k (named.enumerated at xs) b h e = absurd (let bad : same_base (base.Enumeration at (pos (length xs - 1))) base.Integer ≡ true = subst (λ (x : check_base.Base). same_base x base.Integer ≡ true) h.0 e in cc)

pub boolean_base : (k : Tokens) (c : named.Base) (b : check_base.Base) → BaseIs k c b → same_base b base.Boolean ≡ true → is_boolean_base c ≡ true
boolean_base k named.booleans b h e = refl
boolean_base k named.integers b h e = absurd (let bad : same_base base.Integer base.Boolean ≡ true = subst (λ (x : check_base.Base). same_base x base.Boolean ≡ true) h e in cc)
boolean_base k named.characters b h e = absurd (let bad : same_base base.Char base.Boolean ≡ true = subst (λ (x : check_base.Base). same_base x base.Boolean ≡ true) h e in cc)
boolean_base k (named.enumerated at xs) b h e = absurd (let bad : same_base (base.Enumeration at (pos (length xs - 1))) base.Boolean ≡ true = subst (λ (x : check_base.Base). same_base x base.Boolean ≡ true) h.0 e in cc)

-- ---- forms of ordinals and sets

pub record OrdinalForm (k : Tokens) (r : Range) (o : Option Formed) : Type 0 where
  pub range : named.Range
  pub code : code.OrdinalExpression
  pub is : o ≡ Some (formed (named.ordinal range) (as_ordinal code))
  pub belongs : RangeIs k range r

pub record SetForm (o : Option Formed) : Type 0 where
  pub ty : Ty
  pub code : code.SetExpression
  pub is : o ≡ Some (formed ty (as_set code))

pub record QueueForm (o : Option Formed) : Type 0 where
  pub place : code.Place
  pub is : o ≡ Some (formed named.queue_type (as_place place))

module _ (w : Written) where
  ordinal_form_of : (r : Range) (t : Ty) (f : Form) → FormIs w (types.Ordinal r) t f → OrdinalForm w.tokens r (Some (formed t f))
  ordinal_form_of r (named.ordinal q) f h = record {
    range = q;
    code = h.0;
    is = ap (λ (x : Form). Some (formed (named.ordinal q) x)) h.1;
    belongs = subst (RangeIs w.tokens q) (sym (same_range r h.2.range h.2.is)) h.2.belongs;
  }
  ordinal_form_of r (named.set_over q) f h = absurd (let bad : types.Ordinal r ≡ types.Set h.2.0 = h.2.1 in cc)
  ordinal_form_of r (named.component_of n) f h = absurd (let bad : types.Ordinal r ≡ types.Component h.2.kind _ = h.2.is in cc)
  ordinal_form_of r named.queue_type f h = absurd (let bad : types.Ordinal r ≡ types.Queue = h.2 in cc)
  ordinal_form_of r (named.array_over q t) f h = absurd (let bad : types.Ordinal r ≡ types.Array h.2.token = h.2.is in cc)
  ordinal_form_of r (named.record_with ts) f h = absurd (let bad : types.Ordinal r ≡ types.Record h.2.token = h.2.is in cc)

  pub ordinal_found : (r : Range) (o : Option Formed) → Expressed w (types.Ordinal r) o → OrdinalForm w.tokens r o
  ordinal_found r (Some x) h = ordinal_form_of r x.ty x.form h
  ordinal_found r None h = absurd (let bad : types.Ordinal r ≡ types.Array h.belongs.token = h.belongs.is in cc)

  set_form_of : (s : Option Range) (t : Ty) (f : Form) → FormIs w (types.Set s) t f → SetForm (Some (formed t f))
  set_form_of s (named.set_over q) f h = record { ty = named.set_over q; code = h.0; is = ap (λ (x : Form). Some (formed (named.set_over q) x)) h.1 }
  set_form_of s (named.ordinal q) f h = absurd (let bad : types.Set s ≡ types.Ordinal h.2.range = h.2.is in cc)
  set_form_of s (named.component_of n) f h = absurd (let bad : types.Set s ≡ types.Component h.2.kind _ = h.2.is in cc)
  set_form_of s named.queue_type f h = absurd (let bad : types.Set s ≡ types.Queue = h.2 in cc)
  set_form_of s (named.array_over q t) f h = absurd (let bad : types.Set s ≡ types.Array h.2.token = h.2.is in cc)
  set_form_of s (named.record_with ts) f h = absurd (let bad : types.Set s ≡ types.Record h.2.token = h.2.is in cc)

  pub set_found : (s : Option Range) (o : Option Formed) → Expressed w (types.Set s) o → SetForm o
  set_found s (Some x) h = set_form_of s x.ty x.form h
  set_found s None h = absurd (let bad : types.Set s ≡ types.Array h.belongs.token = h.belongs.is in cc)

  queue_form_of : (t : Ty) (f : Form) → FormIs w types.Queue t f → QueueForm (Some (formed t f))
  queue_form_of named.queue_type f h = record { place = h.0; is = ap (λ (x : Form). Some (formed named.queue_type x)) h.1 }
  queue_form_of (named.set_over q) f h = absurd (let bad : types.Queue ≡ types.Set h.2.0 = h.2.1 in cc)
  queue_form_of (named.ordinal q) f h = absurd (let bad : types.Queue ≡ types.Ordinal h.2.range = h.2.is in cc)
  queue_form_of (named.component_of n) f h = absurd (let bad : types.Queue ≡ types.Component h.2.kind _ = h.2.is in cc)
  queue_form_of (named.array_over q t) f h = absurd (let bad : types.Queue ≡ types.Array h.2.token = h.2.is in cc)
  queue_form_of (named.record_with ts) f h = absurd (let bad : types.Queue ≡ types.Record h.2.token = h.2.is in cc)

  pub queue_found : (o : Option Formed) → Expressed w types.Queue o → QueueForm o
  queue_found (Some x) h = queue_form_of x.ty x.form h
  queue_found None h = absurd (let bad : types.Queue ≡ types.Array h.belongs.token = h.belongs.is in cc)

  -- ---- values that are made

  pub an_integer : (c : code.OrdinalExpression) → Expressed w (values_of base.Integer) (integer_form c)
  an_integer c = (c, refl, record { range = whole base.Integer; is = refl; belongs = record { base = refl; low = refl; high = refl } })

  pub a_truth : (c : code.OrdinalExpression) → Expressed w (values_of base.Boolean) (truth_form c)
  a_truth c = (c, refl, record { range = whole base.Boolean; is = refl; belongs = record { base = refl; low = refl; high = refl } })

  pub a_character : (c : code.OrdinalExpression) → Expressed w (values_of base.Char) (Some (formed (named.ordinal all_characters) (as_ordinal c)))
  a_character c = (c, refl, record { range = whole base.Char; is = refl; belongs = record { base = refl; low = refl; high = refl } })

  pub a_set : (s : Option Range) (c : code.SetExpression) → Expressed w (types.Set s) (set_form c)
  a_set s c = (c, refl, (s, refl))

-- ---- one and two forms that are there

pub then_one : (K : Option Formed → Type 0) (go : Formed → Option Formed) (o : Option Formed) (x : Formed) → o ≡ Some x → K (go x) → K (then_form o go)
then_one K go o x h k = subst (λ (p : Option Formed). K (then_form p go)) (sym h) k

pub then_two : (K : Option Formed → Type 0) (go : Formed → Formed → Option Formed) (o p : Option Formed) (x y : Formed) → o ≡ Some x → p ≡ Some y → K (go x y) → K (then_form o (λ a. then_form p (λ b. go a b)))
then_two K go o p x y h i k = then_one K (λ a. then_form p (λ b. go a b)) o x h (then_one K (go x) p y i k)

pub both_true : (K : Bool → Type 0) (m n : Bool) → m ≡ true → n ≡ true → K true → K (m && n)
both_true K true true h i k = k
both_true K x y h i k = absurd (cc)
