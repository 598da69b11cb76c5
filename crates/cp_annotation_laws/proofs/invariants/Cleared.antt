-- Values, contents and environments without what is in their queues.
use Rattle.std.proofs.Common.{◌≡◌, ◌∙◌, ℕ, zero, suc, Bool, true, false, if◌then◌else◌, List, [], ◌∷◌, Some, None, ap, sym, refl}
use Rattle.cp_tree.specs.declared.expression.Relation.{Relation}
use Rattle.cp_tree.specs.declared.expression.Addition.{Addition}
use Rattle.cp_tree.specs.declared.expression.Multiplication.{Multiplication}
use Rattle.cp_meaning.specs.Names.{Name, same_name}
use Rattle.cp_meaning.specs.Operations.{related_values, added_values, multiplied_values}
use Rattle.cp_meaning.specs.Values.{Value, number_value, array_value, record_value, set_value, queue_value, Values, no_values, more_values, FieldValues, no_field_values, more_field_values, Choice, the_field, the_element, element_at, field_at, part_of, part_at, with_element, with_field, with_one_part, with_part, number_of, members_of}
use Rattle.cp_meaning.specs.State.{Content, holds, refers, knows, Environment}
use Rattle.cp_meaning.specs.Places.{content_of, with_content, value_held}

-- ---- values

abbrev mutual
  pub cleared : Value → Value
  cleared (number_value z) = number_value z
  cleared (array_value vs) = array_value (all_cleared vs)
  cleared (record_value vs) = record_value (fields_cleared vs)
  cleared (set_value ns) = set_value ns
  cleared (queue_value o) = queue_value None

  pub all_cleared : Values → Values
  all_cleared no_values = no_values
  all_cleared (more_values v vs) = more_values (cleared v) (all_cleared vs)

  pub fields_cleared : FieldValues → FieldValues
  fields_cleared no_field_values = no_field_values
  fields_cleared (more_field_values x v vs) = more_field_values x (cleared v) (fields_cleared vs)

number_same : (a : Value) → number_of (cleared a) ≡ number_of a
number_same (number_value z) = refl
number_same (array_value vs) = refl
number_same (record_value vs) = refl
number_same (set_value ns) = refl
number_same (queue_value o) = refl

members_same : (a : Value) → members_of (cleared a) ≡ members_of a
members_same (number_value z) = refl
members_same (array_value vs) = refl
members_same (record_value vs) = refl
members_same (set_value ns) = refl
members_same (queue_value o) = refl

related_same : (r : Relation) (a b : Value) → related_values r (cleared a) (cleared b) ≡ related_values r a b
related_same r (set_value ns) b = rw (members_same b) refl
related_same r (number_value z) (set_value ns) = refl
related_same r (number_value z) (number_value y) = refl
related_same r (number_value z) (array_value vs) = refl
related_same r (number_value z) (record_value vs) = refl
related_same r (number_value z) (queue_value o) = refl
related_same r (array_value vs) b = refl
related_same r (record_value vs) b = refl
related_same r (queue_value o) b = refl

added_same : (op : Addition) (a b : Value) → added_values op (cleared a) (cleared b) ≡ added_values op a b
added_same op (set_value ns) b = rw (members_same b) refl
added_same op (number_value z) b = rw (number_same b) refl
added_same op (array_value vs) b = rw (number_same b) refl
added_same op (record_value vs) b = rw (number_same b) refl
added_same op (queue_value o) b = rw (number_same b) refl

multiplied_same : (op : Multiplication) (a b : Value) → multiplied_values op (cleared a) (cleared b) ≡ multiplied_values op a b
multiplied_same op (set_value ns) b = rw (members_same b) refl
multiplied_same op (number_value z) b = rw (number_same b) refl
multiplied_same op (array_value vs) b = rw (number_same b) refl
multiplied_same op (record_value vs) b = rw (number_same b) refl
multiplied_same op (queue_value o) b = rw (number_same b) refl

two : {A B : Type 0} (f : A → A → B) (a b c d : A) → a ≡ c → b ≡ d → f a b ≡ f c d
two f a b c d h k = rw (h, k) refl

pub numbers_same : (a b : Value) → cleared a ≡ cleared b → number_of a ≡ number_of b
numbers_same a b e = sym (number_same a) ∙ (ap number_of e ∙ number_same b)

pub relations_same : (r : Relation) (a b c d : Value) → cleared a ≡ cleared c → cleared b ≡ cleared d → related_values r a b ≡ related_values r c d
relations_same r a b c d h k = sym (related_same r a b) ∙ (two (related_values r) (cleared a) (cleared b) (cleared c) (cleared d) h k ∙ related_same r c d)

pub additions_same : (op : Addition) (a b c d : Value) → cleared a ≡ cleared c → cleared b ≡ cleared d → added_values op a b ≡ added_values op c d
additions_same op a b c d h k = sym (added_same op a b) ∙ (two (added_values op) (cleared a) (cleared b) (cleared c) (cleared d) h k ∙ added_same op c d)

pub products_same : (op : Multiplication) (a b c d : Value) → cleared a ≡ cleared c → cleared b ≡ cleared d → multiplied_values op a b ≡ multiplied_values op c d
products_same op a b c d h k = sym (multiplied_same op a b) ∙ (two (multiplied_values op) (cleared a) (cleared b) (cleared c) (cleared d) h k ∙ multiplied_same op c d)

-- ---- parts

element_same : (vs : Values) (n : ℕ) → element_at (all_cleared vs) n ≡ cleared (element_at vs n)
element_same no_values n = refl
element_same (more_values v vs) zero = refl
element_same (more_values v vs) (suc n) = element_same vs n

field_same : (vs : FieldValues) (x : Name) → field_at (fields_cleared vs) x ≡ cleared (field_at vs x)
field_same no_field_values x = refl
field_same (more_field_values y v vs) x = go (same_name x y) (field_same vs x)
  where
    go : (b : Bool) → field_at (fields_cleared vs) x ≡ cleared (field_at vs x) → (if b then cleared v else field_at (fields_cleared vs) x) ≡ cleared (if b then v else field_at vs x)
    go true rest = refl
    go false rest = rest

part_same : (v : Value) (c : Choice) → part_of (cleared v) c ≡ cleared (part_of v c)
part_same (array_value vs) (the_element n) = element_same vs n
part_same (record_value vs) (the_field x) = field_same vs x
part_same (array_value vs) (the_field x) = refl
part_same (record_value vs) (the_element n) = refl
part_same (number_value z) c = refl
part_same (set_value ns) c = refl
part_same (queue_value o) c = refl

pub parts_same : (v : Value) (cs : List Choice) → part_at (cleared v) cs ≡ cleared (part_at v cs)
parts_same v [] = refl
parts_same v (c ∷ cs) = ap (λ w. part_at w cs) (part_same v c) ∙ parts_same (part_of v c) cs

-- ---- a queue that is put where a queue is

with_element_same : (vs : Values) (n : ℕ) (w : Value) → cleared w ≡ cleared (element_at vs n) → all_cleared (with_element vs n w) ≡ all_cleared vs
with_element_same no_values n w e = refl
with_element_same (more_values v vs) zero w e = ap (λ x. more_values x (all_cleared vs)) e
with_element_same (more_values v vs) (suc n) w e = ap (more_values (cleared v)) (with_element_same vs n w e)

with_field_same : (vs : FieldValues) (x : Name) (w : Value) → cleared w ≡ cleared (field_at vs x) → fields_cleared (with_field vs x w) ≡ fields_cleared vs
with_field_same no_field_values x w e = refl
with_field_same (more_field_values y v vs) x w e = go (same_name x y) e (with_field_same vs x w)
  where
    go : (b : Bool) → cleared w ≡ cleared (if b then v else field_at vs x) → (cleared w ≡ cleared (field_at vs x) → fields_cleared (with_field vs x w) ≡ fields_cleared vs) → fields_cleared (if b then more_field_values y w vs else more_field_values y v (with_field vs x w)) ≡ more_field_values y (cleared v) (fields_cleared vs)
    go true h rest = ap (λ z. more_field_values y z (fields_cleared vs)) h
    go false h rest = ap (more_field_values y (cleared v)) (rest h)

with_one_same : (v : Value) (c : Choice) (w : Value) → cleared w ≡ cleared (part_of v c) → cleared (with_one_part v c w) ≡ cleared v
with_one_same (array_value vs) (the_element n) w e = ap array_value (with_element_same vs n w e)
with_one_same (record_value vs) (the_field x) w e = ap record_value (with_field_same vs x w e)
with_one_same (array_value vs) (the_field x) w e = refl
with_one_same (record_value vs) (the_element n) w e = refl
with_one_same (number_value z) c w e = refl
with_one_same (set_value ns) c w e = refl
with_one_same (queue_value o) c w e = refl

pub with_part_same : (v : Value) (cs : List Choice) (w : Value) → cleared w ≡ cleared (part_at v cs) → cleared (with_part v cs w) ≡ cleared v
with_part_same v [] w e = e
with_part_same v (c ∷ cs) w e = with_one_same v c (with_part (part_of v c) cs w) (with_part_same (part_of v c) cs w e)

-- ---- environments

abbrev pub content_cleared : Content → Content
content_cleared (holds w) = holds (cleared w)
content_cleared (refers q) = refers q
content_cleared (knows n) = knows n

abbrev pub environment_cleared : Environment → Environment
environment_cleared [] = []
environment_cleared (b ∷ bs) = (b.0, content_cleared b.1) ∷ environment_cleared bs

held_same : (x : Name) (bs : Environment) → value_held (content_of x (environment_cleared bs)) ≡ cleared (value_held (content_of x bs))
held_same x [] = refl
held_same x (b ∷ bs) = go (same_name x b.0) (held_same x bs)
  where
    one : (k : Content) → value_held (Some (content_cleared k)) ≡ cleared (value_held (Some k))
    one (holds w) = refl
    one (refers q) = refl
    one (knows n) = refl

    go : (t : Bool) → value_held (content_of x (environment_cleared bs)) ≡ cleared (value_held (content_of x bs)) → value_held (if t then Some (content_cleared b.1) else content_of x (environment_cleared bs)) ≡ cleared (value_held (if t then Some b.1 else content_of x bs))
    go true rest = one b.1
    go false rest = rest

pub values_held_same : (x : Name) (a b : Environment) → environment_cleared a ≡ environment_cleared b → cleared (value_held (content_of x a)) ≡ cleared (value_held (content_of x b))
values_held_same x a b e = sym (held_same x a) ∙ (ap (λ z. value_held (content_of x z)) e ∙ held_same x b)

-- a value with the same but for queues, in place of one that is there
pub stored_same : (x : Name) (w v : Value) (bs : Environment) → content_of x bs ≡ Some (holds v) → cleared w ≡ cleared v → environment_cleared (with_content x (holds w) bs) ≡ environment_cleared bs
stored_same x w v [] h e = absurd (let bad : None ≡ Some (holds v) = h in cc)
stored_same x w v (b ∷ bs) h e = go (same_name x b.0) h (stored_same x w v bs)
  where
    go : (t : Bool) → (if t then Some b.1 else content_of x bs) ≡ Some (holds v) → (content_of x bs ≡ Some (holds v) → cleared w ≡ cleared v → environment_cleared (with_content x (holds w) bs) ≡ environment_cleared bs) →
        environment_cleared (if t then (b.0, holds w) ∷ bs else b ∷ with_content x (holds w) bs) ≡ (b.0, content_cleared b.1) ∷ environment_cleared bs
    go true k rest = (let same : b.1 ≡ holds v = cc in ap (λ z. (b.0, z) ∷ environment_cleared bs) (ap holds e ∙ ap content_cleared (sym same)))
    go false k rest = ap (λ z. (b.0, content_cleared b.1) ∷ z) (rest k e)
