-- In no least value does a process wait, nor in a part of one.
use Rattle.cp_machine_laws.proofs.Words.{ℕ, zero, suc, Bool, true, false, if◌then◌else◌, List, [], ◌∷◌, ◌++◌, Some, Name, same_name, Variable, holds, Environment, content_of}
use Rattle.cp_machine_laws.proofs.Words.{value_held, least_of, Ty, array_over, record_with, FieldTypes, no_field_types, more_field_types, has_components, length_of_range}
use Rattle.cp_meaning.specs.Values.{Value, array_value, record_value, queue_value, Values, no_values, more_values, FieldValues, no_field_values, more_field_values, Choice, the_field, the_element, copies, least, least_fields, element_at, field_at, part_of, part_at}

abbrev mutual
  -- nobody waits in a queue of the value
  pub IsFree : Value → Type 0
  IsFree (array_value vs) = AreFree vs
  IsFree (record_value fs) = FieldsFree fs
  IsFree (queue_value (Some q)) = ⊥
  IsFree _ = Unit {0}

  pub AreFree : Values → Type 0
  AreFree no_values = Unit {0}
  AreFree (more_values v vs) = IsFree v × AreFree vs

  pub FieldsFree : FieldValues → Type 0
  FieldsFree no_field_values = Unit {0}
  FieldsFree (more_field_values x v fs) = IsFree v × FieldsFree fs

-- ---- least values

copies_free : (n : ℕ) (v : Value) → IsFree v → AreFree (copies n v)
copies_free zero v h = tt
copies_free (suc n) v h = (h, copies_free n v h)

mutual
  pub least_free : (t : Ty) → IsFree (least t)
  least_free (array_over r t) = copies_free (length_of_range r) (least t) (least_free t)
  least_free (record_with ts) = fields_free ts
  least_free _ = tt

  fields_free : (ts : FieldTypes) → FieldsFree (least_fields ts)
  fields_free no_field_types = tt
  fields_free (more_field_types x t ts) = (least_free t, fields_free ts)

-- ---- parts

element_free : (vs : Values) (n : ℕ) → AreFree vs → IsFree (element_at vs n)
element_free no_values n h = tt
element_free (more_values v vs) zero h = h.0
element_free (more_values v vs) (suc n) h = element_free vs n h.1

field_free : (fs : FieldValues) (x : Name) → FieldsFree fs → IsFree (field_at fs x)
field_free no_field_values x h = tt
field_free (more_field_values y v fs) x h = go (same_name x y) (field_free fs x h.1)
  where
    go : (b : Bool) → IsFree (field_at fs x) → IsFree (if b then v else field_at fs x)
    go true ih = h.0
    go false ih = ih

one_free : (v : Value) (c : Choice) → IsFree v → IsFree (part_of v c)
one_free (array_value vs) (the_element n) h = element_free vs n h
one_free (record_value fs) (the_field x) h = field_free fs x h
one_free _ _ h = h

pub part_free : (v : Value) (cs : List Choice) → IsFree v → IsFree (part_at v cs)
part_free v [] h = h
part_free v (c ∷ cs) h = part_free (part_of v c) cs (one_free v c h)

-- ---- environments

abbrev pub HoldsFree : Environment → Type 0
HoldsFree [] = Unit {0}
HoldsFree (b ∷ bs) = IsFree (value_held (Some b.1)) × HoldsFree bs

pub append_free : (a b : Environment) → HoldsFree a → HoldsFree b → HoldsFree (a ++ b)
append_free [] b h k = k
append_free (x ∷ a) b h k = (h.0, append_free a b h.1 k)

pub least_of_free : (vs : List Variable) → HoldsFree (least_of vs)
least_of_free [] = tt
least_of_free (v ∷ vs) = go (has_components v.ty) (least_of_free vs)
  where
    go : (b : Bool) → HoldsFree (least_of vs) → HoldsFree (if b then least_of vs else (v.name, holds (least v.ty)) ∷ least_of vs)
    go true ih = ih
    go false ih = (least_free v.ty, ih)

pub content_free : (x : Name) (e : Environment) → HoldsFree e → IsFree (value_held (content_of x e))
content_free x [] h = tt
content_free x (b ∷ bs) h = go (same_name x b.0) (content_free x bs h.1)
  where
    go : (c : Bool) → IsFree (value_held (content_of x bs)) → IsFree (value_held (if c then Some b.1 else content_of x bs))
    go true ih = h.0
    go false ih = ih
