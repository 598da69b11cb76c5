-- The frame that a call opens holds the environment of the call: its parameters, and first values for all else.
use Rattle.std.proofs.Common.{◌≡◌, ◌∙◌, ℕ, ◌+◌, ◌^◌, ◌<◌, Bool, true, false, if◌then◌else◌, List, [], ◌∷◌, ◌++◌, Option, Some, None, ap, sym, refl, subst, arith, length}
use Rattle.cp_machine_laws.proofs.Words.{some_same, pos, replicate, slice_index_or, bytes_eq-Decides, Program, Argument, routine_at, Bound, Reference, Local, Frame, bind_frame}
use Rattle.cp_machine_laws.proofs.Words.{reference_at, size_of, Name, same_name, Ty, has_components, Variable, Parameter, RoutineMeaning, Content, holds, refers, knows, Place}
use Rattle.cp_machine_laws.proofs.Words.{Environment, Call, content_of, value_held, parameter_variables, Ground, IsBound, AreBound, IsOther, AreDifferent, LiesAt, PlaceAt}
use Rattle.cp_machine_laws.proofs.Words.{CallHolds, content_second, least, least_of, least_result, Layouts, FrameLayout, cell_named, look}
use Rattle.std.proofs.lemmas.List.{get_or_append_left, get_or-append-add, length-append, length-replicate}
use Rattle.cp_slots.specs.declared.place.PlaceOrigin.TheVariants.{Reference as reference_origin}
use Rattle.cp_store.specs.Memory.{Memory, nowhere, open_frame}
use Rattle.cp_resolved.specs.Resolved.{first_values, first_value, FrameIs, ParameterIs, ParametersAre, RoutineIs}
use Rattle.cp_machine_laws.proofs.calls.Binding.{Binds, OneLies, AllLie, AllBound, all_bound, free_cells}
use Rattle.cp_machine_laws.proofs.expressions.Parts.{encode_length}

-- ---- environments

pub content_first : (x : Name) (a b : Environment) (c : Content) → content_of x a ≡ Some c → content_of x (a ++ b) ≡ Some c
content_first x [] b c e = absurd (cc)
content_first x (d ∷ a) b c e = go (same_name x d.0) (λ k. content_first x a b c k) e
  where
    go : (w : Bool) → (content_of x a ≡ Some c → content_of x (a ++ b) ≡ Some c) → (if w then Some d.1 else content_of x a) ≡ Some c → (if w then Some d.1 else content_of x (a ++ b)) ≡ Some c
    go true ih e = e
    go false ih e = ih e

-- first values are no places
abbrev AreHeld : Environment → Type 0
AreHeld [] = Unit {0}
AreHeld (d ∷ e) = ((y : Place) → d.1 ≡ refers y → ⊥) × AreHeld e

held_append : (a b : Environment) → AreHeld a → AreHeld b → AreHeld (a ++ b)
held_append [] b h k = k
held_append (d ∷ a) b h k = (h.0, held_append a b h.1 k)

least_held : (vs : List Variable) → AreHeld (least_of vs)
least_held [] = tt
least_held (v ∷ vs) = go (has_components v.ty) (least_held vs)
  where
    go : (w : Bool) → AreHeld (least_of vs) → AreHeld (if w then least_of vs else (v.name, holds (least v.ty)) ∷ least_of vs)
    go true ih = ih
    go false ih = (λ y e. cc, ih)

result_held : (o : Option Ty) → AreHeld (least_result o)
result_held None = tt
result_held (Some t) = (λ y e. cc, tt)

no_place : (x : Name) (e : Environment) (y : Place) → AreHeld e → content_of x e ≡ Some (refers y) → ⊥
no_place x [] y h e = cc
no_place x (d ∷ a) y h e = go (same_name x d.0) (no_place x a y h.1) e
  where
    go : (w : Bool) → (content_of x a ≡ Some (refers y) → ⊥) → (if w then Some d.1 else content_of x a) ≡ Some (refers y) → ⊥
    go true ih e = h.0 y (cc)
    go false ih e = ih e

-- ---- parameters by their names

pub others_named : (x : Name) (qs : List Parameter) → look x (parameter_variables qs) ≡ None → IsOther x qs
others_named x [] e = tt
others_named x (q ∷ qs) e = go (same_name x q.name) refl (others_named x qs) e
  where
    go : (w : Bool) → same_name x q.name ≡ w → (look x (parameter_variables qs) ≡ None → IsOther x qs) → (if w then Some q.ty else look x (parameter_variables qs)) ≡ None → (same_name x q.name ≡ false) × IsOther x qs
    go true s ih e = absurd (cc)
    go false s ih e = (s, ih e)

-- what has to be known of a call's frame
pub record CanOpen (g : Ground) (p : Program) (l : Layouts) (m : Memory) (f : Frame) : Type 0 where
  pub routine : RoutineIs g p l f.routine
  pub base : f.base ≡ length m.cells
  pub first : f.references ≡ length m.references
  pub few : f.base + size_of g.tables f.routine < 2 ^ 64
  pub few_permanents : length m.permanents < 2 ^ 64
  pub few_references : f.references + (routine_at g.tables f.routine).references < 2 ^ 64
  -- parameters have different names, and each `var` parameter of the frame is one of them
  pub different : AreDifferent (l.meanings f.routine).parameters
  pub closed : (x : Name) (t : Ty) → look x (l.frames f.routine).references ≡ Some t → look x (parameter_variables (l.meanings f.routine).parameters) ≡ Some t

module _ (g : Ground) (p : Program) (l : Layouts) (fs : List Frame) (m : Memory) (f : Frame) (can : CanOpen g p l m f) where
  abbrev lay : FrameLayout
  lay = l.frames f.routine

  abbrev meaning : RoutineMeaning
  meaning = l.meanings f.routine

  abbrev size : ℕ
  size = size_of g.tables f.routine

  abbrev count : ℕ
  count = (routine_at g.tables f.routine).references

  pub frame : FrameIs lay (routine_at g.tables f.routine) meaning
  frame = can.routine.frame

  abbrev pub new_memory : Memory
  new_memory = open_frame m (routine_at g.tables f.routine).image count

  abbrev BindsHere : Memory → Type 0
  BindsHere n = Binds g.tables l fs lay m f size count can.base can.first frame.cells frame.apart (λ x t e. (frame.numbered x t e).0) frame.different can.few can.few_permanents can.few_references n

  binds_open : BindsHere new_memory
  binds_open =
      record {
        permanents = refl;
        below = λ k less. get_or_append_left m.cells (routine_at g.tables f.routine).image (pos 0) k (let b = can.base in omega (arith, b, less));
        before = λ k less. get_or_append_left m.references (replicate count nowhere) nowhere k (let b = can.first in omega (arith, b, less));
        many = length-append m.cells (routine_at g.tables f.routine).image ∙ ap (λ n. n + size) (sym can.base);
        places = length-append m.references (replicate count nowhere) ∙ (ap (λ n. length m.references + n) (length-replicate count nowhere) ∙ ap (λ n. n + count) (sym can.first));
      }

  abbrev OneHere : Memory → Parameter → Content → Type 0
  OneHere n q c = OneLies g.tables l fs lay m f size count can.base can.first frame.cells frame.apart (λ x t e. (frame.numbered x t e).0) frame.different can.few can.few_permanents can.few_references n q c

  abbrev AllHere : Memory → List Parameter → Environment → Type 0
  AllHere n qs e = AllLie g.tables l fs lay m f size count can.base can.first frame.cells frame.apart (λ x t e. (frame.numbered x t e).0) frame.different can.few can.few_permanents can.few_references n qs e

  abbrev pub Given : List Parameter → Environment → List Argument → List Bound → Type 0
  Given qs e xs bs = AreBound g.tables l fs m (cell_named lay) qs e xs bs

  -- ---- a parameter by its name

  record Found (x : Name) (u : Ty) (n : Memory) : Type 0 where
    parameter : Parameter
    content : Content
    bound : Bound
    named : parameter.name ≡ x
    typed : parameter.ty ≡ u
    lies : OneHere n parameter content
    known : ParameterIs lay parameter.is_var parameter
    given : IsBound g.tables l fs m parameter content bound

  found : (x : Name) (u : Ty) (qs : List Parameter) (e : Environment) (xs : List Argument) (bs : List Bound) (n : Memory) → Given qs e xs bs → ParametersAre lay qs → AllHere n qs e → look x (parameter_variables qs) ≡ Some u → (w : Found x u n) × (content_of x e ≡ Some w.content)
  found x u [] e xs bs n is h a k = absurd (cc)
  found x u (q ∷ qs) (d ∷ e) (y ∷ xs) (b ∷ bs) n is h a k = go (same_name x q.name) refl (found x u qs e xs bs n is.3 h.1 a.1) k
    where
      go : (w : Bool) → same_name x q.name ≡ w → (look x (parameter_variables qs) ≡ Some u → (f : Found x u n) × (content_of x e ≡ Some f.content)) → (if w then Some q.ty else look x (parameter_variables qs)) ≡ Some u → (f : Found x u n) × (content_of x (d ∷ e) ≡ Some f.content)
      go true s ih k = (
        record { parameter = q; content = d.1; bound = b; named = sym ((bytes_eq-Decides x q.name).0 s); typed = cc; lies = a.0; known = h.0; given = is.2 },
        ap (λ (w : Bool). if w then Some d.1 else content_of x e) (ap (same_name x) is.0 ∙ s),
      )
      go false s ih k = (let f = ih k in (f.0, ap (λ (v : Bool). if v then Some d.1 else content_of x e) (ap (same_name x) is.0 ∙ s) ∙ f.1))
  found x u (q ∷ qs) _ _ _ n is h a k = absurd is

  not_found : (x : Name) (qs : List Parameter) (e : Environment) (xs : List Argument) (bs : List Bound) → Given qs e xs bs → look x (parameter_variables qs) ≡ None → content_of x e ≡ None
  not_found x [] [] xs bs is k = refl
  not_found x (q ∷ qs) (d ∷ e) (y ∷ xs) (b ∷ bs) is k = go (same_name x q.name) refl (not_found x qs e xs bs is.3) k
    where
      go : (w : Bool) → same_name x q.name ≡ w → (look x (parameter_variables qs) ≡ None → content_of x e ≡ None) → (if w then Some q.ty else look x (parameter_variables qs)) ≡ None → content_of x (d ∷ e) ≡ None
      go true s ih k = absurd (cc)
      go false s ih k = ap (λ (v : Bool). if v then Some d.1 else content_of x e) (ap (same_name x) is.0 ∙ s) ∙ ih k
  not_found x _ _ _ _ is k = absurd is

  -- no name is a variable and a `var` parameter
  not_both : (x y : Name) (t u : Ty) → y ≡ x → look x lay.variables ≡ Some t → look y lay.references ≡ Some u → ⊥
  not_both x y t u same a b =
      let place = frame.local x t a in
      let reference = subst (λ z. lay.origins z ≡ reference_origin (cell_named lay z)) same (frame.reference y u b) in
      cc

  -- what a parameter is by its kind
  value_known : (q : Parameter) → q.is_var ≡ false → ParameterIs lay q.is_var q → look q.name lay.variables ≡ Some q.ty
  value_known q e h = subst (λ b. ParameterIs lay b q) e h

  place_known : (q : Parameter) → q.is_var ≡ true → ParameterIs lay q.is_var q → look q.name lay.references ≡ Some q.ty
  place_known q e h = subst (λ b. ParameterIs lay b q) e h

  -- ---- the frame

  module _ (e : Environment) (xs : List Argument) (bs : List Bound) (given : Given meaning.parameters e xs bs) where
    abbrev pub bound_memory : Memory
    bound_memory = bind_frame new_memory f xs bs

    all : AllBound g.tables l fs lay m f size count can.base can.first frame.cells frame.apart (λ x t e. (frame.numbered x t e).0) frame.different can.few can.few_permanents can.few_references meaning.parameters e new_memory bound_memory
    all = all_bound g.tables l fs lay m f size count can.base can.first frame.cells frame.apart (λ x t e. (frame.numbered x t e).0) frame.different can.few can.few_permanents can.few_references meaning.parameters e xs bs new_memory binds_open frame.parameters can.different given

    -- what was there before stays, and no permanent cell changes
    pub binds_all : BindsHere bound_memory
    binds_all = all.binds

    abbrev environment : Environment
    environment = e ++ first_values meaning

    first_lies : (x : Name) (t : Ty) → look x lay.variables ≡ Some t → look x (parameter_variables meaning.parameters) ≡ None → LiesAt bound_memory t (first_value meaning x) (Local (f.base + cell_named lay x))
    first_lies x t known none =
        let typed = frame.typed x t known none in
        let len = encode_length t (first_value meaning x) typed in
        let first = frame.first x t known none in
        record {
          typed = typed;
          cells = (let a = all.binds.many in let b = frame.cells x t known in omega (arith, a, b));
          block = λ k less.
              (let free = free_cells g.tables l fs lay m f size count can.base can.first frame.cells frame.apart (λ x t e. (frame.numbered x t e).0) frame.different can.few can.few_permanents can.few_references x t k meaning.parameters e xs bs known (omega (arith, less, len)) (others_named x meaning.parameters none) frame.parameters given in
              let at : f.base + cell_named lay x + k ≡ length m.cells + (cell_named lay x + k) = (let b = can.base in omega (arith, b)) in
              all.cell (f.base + cell_named lay x + k) free ∙ (ap (λ n. slice_index_or new_memory.cells n (pos 0)) at ∙ (get_or-append-add m.cells (routine_at g.tables f.routine).image (cell_named lay x + k) (pos 0) ∙ first.same k less)));
        }

    -- a value parameter lies in its cells
    value_lies : (x : Name) (t : Ty) (q : Parameter) (c : Content) (b : Bound) → look x lay.variables ≡ Some t → q.name ≡ x → ParameterIs lay q.is_var q → OneHere bound_memory q c → IsBound g.tables l fs m q c b → LiesAt bound_memory t (value_held (Some c)) (Local (f.base + cell_named lay x))
    value_lies x t q (holds w) b known same h lies is =
        let ty : q.ty ≡ t = some_same q.ty t (sym (value_known q is.0 h) ∙ (ap (λ z. look z lay.variables) same ∙ known)) in
        subst (λ z. LiesAt bound_memory t w (Local (f.base + cell_named lay z))) same (subst (λ u. LiesAt bound_memory u w (Local (f.base + cell_named lay q.name))) ty lies)
    value_lies x t q (refers y) (Reference a) known same h lies is = absurd (not_both x q.name t q.ty same known (place_known q is.0 h))
    value_lies x t q (refers y) b known same h lies is = absurd is
    value_lies x t q (knows n) b known same h lies is = absurd lies

    variable_lies : (x : Name) (t : Ty) → look x lay.variables ≡ Some t → (o : Option Ty) → look x (parameter_variables meaning.parameters) ≡ o → LiesAt bound_memory t (value_held (content_of x environment)) (Local (f.base + cell_named lay x))
    variable_lies x t known None k =
        subst (λ (w : Option Content). LiesAt bound_memory t (value_held w) (Local (f.base + cell_named lay x))) (sym (content_second x e (first_values meaning) (not_found x meaning.parameters e xs bs given k))) (first_lies x t known k)
    variable_lies x t known (Some u) k =
        let named = found x u meaning.parameters e xs bs bound_memory given frame.parameters all.lies k in let w = named.0 in
        subst (λ (v : Option Content). LiesAt bound_memory t (value_held v) (Local (f.base + cell_named lay x))) (sym (content_first x e (first_values meaning) w.content named.1)) (value_lies x t w.parameter w.content w.bound known w.named w.known w.lies w.given)

    -- a variable is no place
    value_plain : (x : Name) (t : Ty) (q : Parameter) (c : Content) (b : Bound) (y : Place) → look x lay.variables ≡ Some t → q.name ≡ x → ParameterIs lay q.is_var q → IsBound g.tables l fs m q c b → c ≡ refers y → ⊥
    value_plain x t q (refers z) (Reference a) y known same h is e = not_both x q.name t q.ty same known (place_known q is.0 h)
    value_plain x t q (refers z) b y known same h is e = is
    value_plain x t q z b y known same h is e = cc

    variable_plain : (x : Name) (t : Ty) (y : Place) → look x lay.variables ≡ Some t → (o : Option Ty) → look x (parameter_variables meaning.parameters) ≡ o → content_of x environment ≡ Some (refers y) → ⊥
    variable_plain x t y known None k d =
        no_place x (first_values meaning) y (held_append (least_of meaning.variables) (least_result meaning.result) (least_held meaning.variables) (result_held meaning.result)) (sym (content_second x e (first_values meaning) (not_found x meaning.parameters e xs bs given k)) ∙ d)
    variable_plain x t y known (Some u) k d =
        let named = found x u meaning.parameters e xs bs bound_memory given frame.parameters all.lies k in let w = named.0 in
        let same : Some w.content ≡ Some (refers y) = sym (content_first x e (first_values meaning) w.content named.1) ∙ d in
        value_plain x t w.parameter w.content w.bound y known w.named w.known w.given (cc)

    -- a `var` parameter has its place
    abbrev HasPlace : Name → Ty → Option Content → Type 0
    HasPlace x t o = (y : Place) × (o ≡ Some (refers y)) × PlaceAt g.tables l fs y t (reference_at bound_memory.references (f.references + cell_named lay x))

    place_lies : (x : Name) (t : Ty) (q : Parameter) (c : Content) (b : Bound) → look x lay.references ≡ Some t → q.name ≡ x → q.ty ≡ t → ParameterIs lay q.is_var q → OneHere bound_memory q c → IsBound g.tables l fs m q c b → HasPlace x t (Some c)
    place_lies x t q (holds w) b known same ty h lies is = absurd (not_both q.name x q.ty t (sym same) (value_known q is.0 h) known)
    place_lies x t q (refers y) b known same ty h lies is =
        (y, refl, subst (λ z. PlaceAt g.tables l fs y t (reference_at bound_memory.references (f.references + cell_named lay z))) same (subst (λ u. PlaceAt g.tables l fs y u (reference_at bound_memory.references (f.references + cell_named lay q.name))) ty lies))
    place_lies x t q (knows n) b known same ty h lies is = absurd lies

    reference_lies : (x : Name) (t : Ty) → look x lay.references ≡ Some t → HasPlace x t (content_of x environment)
    reference_lies x t known =
        let named = found x t meaning.parameters e xs bs bound_memory given frame.parameters all.lies (can.closed x t known) in let w = named.0 in
        subst (HasPlace x t) (sym (content_first x e (first_values meaning) w.content named.1)) (place_lies x t w.parameter w.content w.bound known w.named w.typed w.known w.lies w.given)

    pub holds_new : (c : Call) → c.environment ≡ environment → CallHolds g.tables l bound_memory c f fs
    holds_new c same =
        record {
          variables = λ x t known. subst (λ (v : Environment). LiesAt bound_memory t (value_held (content_of x v)) (Local (f.base + cell_named lay x))) (sym same) (variable_lies x t known (look x (parameter_variables meaning.parameters)) refl);
          plain = λ x t y known d. variable_plain x t y known (look x (parameter_variables meaning.parameters)) refl (sym (ap (content_of x) same) ∙ d);
          references = λ x t known. subst (λ (v : Environment). HasPlace x t (content_of x v)) (sym same) (reference_lies x t known);
        }
