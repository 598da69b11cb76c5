-- What a statement sees without annotations: the same values at the same places.
use Rattle.std.proofs.Common.{◌≡◌, ◌∙◌, ℕ, suc, ◌==◌, ◌-◌, Bool, true, false, if◌then◌else◌, List, [], ◌∷◌, length, Option, Some, None, Ok, Err, ap, refl}
use Rattle.cp_meaning.specs.Outcome.{Outcome, ◌>>=◌}
use Rattle.cp_meaning.specs.Values.{Value, part_at, with_part}
use Rattle.cp_meaning.specs.Components.{step_down}
use Rattle.cp_meaning.specs.State.{Holder, in_call, in_component, Place, Content, holds, refers, knows, Environment, component_at, Call, current, callers}
use Rattle.cp_meaning.specs.Places.{View, call_above, with_environment, with_call_environment, environment_of, with_environment_of, this_call, this_component, value_held, value_at, stored, content_of, with_content, component_with, element_chosen, around_of, component_known, component_by, component_there}
use Rattle.cp_annotation_laws.specs.Plain.{plain_program}
use Rattle.cp_annotation_laws.proofs.annotations.Scopes.{plain_scope}

abbrev pub plain_call : Call → Call
plain_call c = record { component = c.component; kind = c.kind; scope = plain_scope c.scope; environment = c.environment }

abbrev pub plain_calls : List Call → List Call
plain_calls [] = []
plain_calls (c ∷ cs) = plain_call c ∷ plain_calls cs

abbrev pub plain_view : View → View
plain_view v = record { program = plain_program v.program; calls = plain_calls v.calls; components = v.components }

-- ---- outcomes that go on alike

same_on : {A B : Type 0} (o : Outcome A) (f g : A → Outcome B) → ((a : A) → f a ≡ g a) → (o >>= f) ≡ (o >>= g)
same_on (Ok a) f g h = h a
same_on (Err e) f g h = refl

pub binds : {A B : Type 0} (o u : Outcome A) (f g : A → Outcome B) → o ≡ u → ((a : A) → f a ≡ g a) → (o >>= f) ≡ (u >>= g)
binds o u f g e h = ap (λ w. w >>= f) e ∙ same_on u f g h

-- ---- calls

pub current_plain : (cs : List Call) → current (plain_calls cs) ≡ plain_call (current cs)
current_plain [] = refl
current_plain (c ∷ cs) = refl

pub callers_plain : (cs : List Call) → callers (plain_calls cs) ≡ plain_calls (callers cs)
callers_plain [] = refl
callers_plain (c ∷ cs) = refl

pub length_plain : (cs : List Call) → length (plain_calls cs) ≡ length cs
length_plain [] = refl
length_plain (c ∷ cs) = ap suc (length_plain cs)

above_plain : (cs : List Call) (below : ℕ) → call_above (plain_calls cs) below ≡ plain_call (call_above cs below)
above_plain [] below = refl
above_plain (c ∷ cs) below = ap (λ (n : ℕ). if n == below then plain_call c else call_above (plain_calls cs) below) (length_plain cs) ∙ go (length cs == below) (above_plain cs below)
  where
    go : (b : Bool) → call_above (plain_calls cs) below ≡ plain_call (call_above cs below) → (if b then plain_call c else call_above (plain_calls cs) below) ≡ plain_call (if b then c else call_above cs below)
    go true e = refl
    go false e = e

with_plain : (cs : List Call) (below : ℕ) (e : Environment) → with_call_environment (plain_calls cs) below e ≡ plain_calls (with_call_environment cs below e)
with_plain [] below e = refl
with_plain (c ∷ cs) below e =
    ap (λ (n : ℕ). if n == below then plain_call (with_environment c e) ∷ plain_calls cs else plain_call c ∷ with_call_environment (plain_calls cs) below e) (length_plain cs)
    ∙ go (length cs == below) (with_plain cs below e)
  where
    go : (b : Bool) → with_call_environment (plain_calls cs) below e ≡ plain_calls (with_call_environment cs below e) →
        (if b then plain_call (with_environment c e) ∷ plain_calls cs else plain_call c ∷ with_call_environment (plain_calls cs) below e) ≡ plain_calls (if b then with_environment c e ∷ cs else c ∷ with_call_environment cs below e)
    go true h = refl
    go false h = ap (λ (ds : List Call). plain_call c ∷ ds) h

pub this_call_plain : (v : View) → this_call (plain_view v) ≡ this_call v
this_call_plain v = ap (λ (n : ℕ). in_call (n - 1)) (length_plain v.calls)

pub this_component_plain : (v : View) → this_component (plain_view v) ≡ this_component v
this_component_plain v = ap (λ (c : Call). c.component) (current_plain v.calls)

-- ---- values at places

pub environment_plain : (v : View) (h : Holder) → environment_of (plain_view v) h ≡ environment_of v h
environment_plain v (in_call below) = ap (λ (c : Call). c.environment) (above_plain v.calls below)
environment_plain v (in_component n) = refl

with_environment_plain : (v : View) (h : Holder) (e : Environment) → with_environment_of (plain_view v) h e ≡ plain_view (with_environment_of v h e)
with_environment_plain v (in_call below) e = ap (λ (cs : List Call). (let u : View = record { program = plain_program v.program; calls = cs; components = v.components } in u)) (with_plain v.calls below e)
with_environment_plain v (in_component n) e = refl

pub value_at_plain : (v : View) (q : Place) → value_at (plain_view v) q ≡ value_at v q
value_at_plain v q = ap (λ (e : Environment). part_at (value_held (content_of q.name e)) q.choices) (environment_plain v q.holder)

pub stored_plain : (v : View) (q : Place) (w : Value) → stored (plain_view v) q w ≡ plain_view (stored v q w)
stored_plain v q w =
    ap (λ (e : Environment). with_environment_of (plain_view v) q.holder (with_content q.name (holds (with_part (value_held (content_of q.name e)) q.choices w)) e)) (environment_plain v q.holder)
    ∙ with_environment_plain v q.holder (with_content q.name (holds (with_part (value_held (content_of q.name (environment_of v q.holder))) q.choices w)) (environment_of v q.holder))

-- ---- components

around_plain : (v : View) (h : Holder) → around_of (plain_view v) h ≡ around_of v h
around_plain v (in_component n) = refl
around_plain v (in_call below) = refl

known_plain : (v : View) (q : Place) (o : Option Content) → component_known (plain_view v) q o ≡ component_known v q o
known_plain v q (Some (knows n)) = refl
known_plain v q (Some (holds w)) = ap (λ path. component_with (step_down path q.name (element_chosen q.choices)) v.components) (around_plain v q.holder)
known_plain v q (Some (refers x)) = ap (λ path. component_with (step_down path q.name (element_chosen q.choices)) v.components) (around_plain v q.holder)
known_plain v q None = ap (λ path. component_with (step_down path q.name (element_chosen q.choices)) v.components) (around_plain v q.holder)

by_plain : (v : View) (q : Place) (h : Holder) → component_by (plain_view v) q h ≡ component_by v q h
by_plain v q (in_call below) = refl
by_plain v q (in_component n) =
    let c : Option Content = content_of q.name (component_at v.components n).environment in
    ap (λ (m : ℕ). if n == m then component_known (plain_view v) q c else length v.components) (this_component_plain v)
    ∙ ap (λ (k : ℕ). if n == this_component v then k else length v.components) (known_plain v q c)

pub there_plain : (v : View) (q : Place) → component_there (plain_view v) q ≡ component_there v q
there_plain v q = by_plain v q q.holder
