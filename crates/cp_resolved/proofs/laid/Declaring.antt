-- What each small step of laying out declarations leads to, whole declarations lead to: R leads from a state to a later one, N is known of each state, T of each type in it and Q of fields.
use Rattle.cp_resolved.proofs.Words.{ℕ, ◌+◌, Bool, true, false, if◌then◌else◌, ℤ, List, [], ◌∷◌, length, Option, Some, Identifier, LayoutMeaning, Each, bytes_eq, CellBase, CellRange, CellType, Contained, Layer, as_integer}
use Rattle.cp_tree.specs.Syntax as syntax
use Rattle.cp_symbols.specs.declared.kinds.CellType.TheVariants as types
use Rattle.cp_symbols.specs.declared.names.LayoutMeaning.TheVariants as meaning
use Rattle.cp_symbols.specs.declared.kinds.CellBase.TheVariants as base
use Rattle.cp_symbols.specs.Kinds.{cells_of, values_of}
use Rattle.cp_layout.specs.Kinds.{Fields, no_fields}
use Rattle.cp_layout.specs.Layers.{Names, find_type, with_name}
use Rattle.cp_layout.specs.LaidTypes.{type_meant, type_of_name, with_constant, enumerate, enumeration_base, simple_type, range_of, fields_of_type, written_type, field_groups, field_group, with_array_type, with_record_type}
use Rattle.cp_layout.specs.LaidDeclarations.{Parameters, constant, constants, type_definition, type_definitions, components_of, variable_with, variable, variables_of, variable_group, variables, with_local, local, locals_of, local_group, local_variables, permanent_part, permanent_parts, local_part, local_parts, constant_parameter, constant_parameters_of, constant_group, constant_groups, var_parameter, var_parameters_of, var_group, parameter_group, parameter_groups, heading, system_parameter, system_parameters_of, system_group, system_groups}

-- ---- the latest type of a name

pub latest_type : (P : CellType → Type 0) (K : LayoutMeaning → Type 0) → ((v : CellType) → K (meaning.Kind v) → P v) → P (values_of base.Integer) → (x : List ℕ) (ns : Names) → Each (λ d. K d.1) ns → P (type_meant (find_type x ns))
latest_type P K is none x [] h = none
latest_type P K is none x ((y, meaning.Kind v) ∷ ds) h = go (bytes_eq y x) (latest_type P K is none x ds h.1)
  where
    go : (b : Bool) → P (type_meant (find_type x ds)) → P (type_meant (if b then Some v else find_type x ds))
    go true rest = is v h.0
    go false rest = rest
latest_type P K is none x ((y, meaning.Constant b z) ∷ ds) h = latest_type P K is none x ds h.1
latest_type P K is none x ((y, meaning.Variable o v) ∷ ds) h = latest_type P K is none x ds h.1
latest_type P K is none x ((y, meaning.Contained k v) ∷ ds) h = latest_type P K is none x ds h.1
latest_type P K is none x ((y, meaning.Bound k n) ∷ ds) h = latest_type P K is none x ds h.1
latest_type P K is none x ((y, meaning.Routine k) ∷ ds) h = latest_type P K is none x ds h.1
latest_type P K is none x ((y, meaning.Predeclared p) ∷ ds) h = latest_type P K is none x ds h.1

-- ---- the small steps

abbrev pub Makes : (Layer → Layer → Type 0) → (Layer → CellType → Type 0) → Layer → CellType × Layer → Type 0
Makes R T l x = R l x.1 × T x.1 x.0

-- of constants and types
pub record TypeSteps (R : Layer → Layer → Type 0) (N : Layer → Type 0) (T : Layer → CellType → Type 0) (Q : Layer → Fields → Type 0) : Type 0 where
  pub same : (l : Layer) → N l → R l l
  pub both : (l k m : Layer) → R l k → R k m → R l m
  pub after : (l m : Layer) → R l m → N m
  pub named : (l : Layer) (x : List ℕ) → N l → T l (type_of_name l x)
  pub ordinal : (l : Layer) (r : CellRange) → T l (types.Ordinal r)
  pub set : (l : Layer) (r : CellRange) → T l (types.Set r)
  pub element : (l : Layer) (x : List ℕ) (b : CellBase) (z : ℤ) → N l → R l (with_constant l x (meaning.Constant b z))
  pub array : (l : Layer) (r : CellRange) (t : CellType) → T l t → N l → Makes R T l (with_array_type l r t)
  pub none : (l : Layer) → Q l no_fields
  pub group : (l m : Layer) (r : Fields) (is : List Identifier) (t : CellType) → R l m → T m t → Q l r → Q m (fields_of_type r is t (cells_of m.types t))
  pub record_type : (l : Layer) (r : Fields) → Q l r → N l → Makes R T l (with_record_type l r)
  pub constant_name : (l : Layer) (x : List ℕ) (b : CellBase) (z : ℤ) → N l → R l (with_name l x (meaning.Constant b z))
  pub type_name : (l : Layer) (x : List ℕ) (t : CellType) → T l t → N l → R l (with_name l x (meaning.Kind t))

-- of what a frame has
pub record FrameSteps (R : Layer → Layer → Type 0) (N : Layer → Type 0) : Type 0 where
  pub local_cells : (l : Layer) (x : List ℕ) (t : CellType) → N l → R l (local l x t)
  pub reference : (l : Layer) (ps : Parameters) (x : List ℕ) (t : CellType) → N l → R l (var_parameter l ps x t).1
  pub result : (l : Layer) (t : CellType) → N l → R l (with_local l t).1

-- of what a system type has
pub record SystemSteps (R : Layer → Layer → Type 0) (N : Layer → Type 0) (T : Layer → CellType → Type 0) : Type 0 where
  pub still : (l m : Layer) (t : CellType) → R l m → T l t → T m t
  pub permanent : (l : Layer) (x : List ℕ) (t : CellType) (o : Option Contained) → T l t → N l → R l (variable_with l x t o)
  pub parameter : (l : Layer) (ps : Parameters) (x : List ℕ) (t : CellType) → T l t → N l → R l (system_parameter l ps x t).1

-- where nothing need be known
module _ (R : Layer → Layer → Type 0) where
  pub plain_types : ((l : Layer) → R l l) → ((l k m : Layer) → R l k → R k m → R l m) → ((l : Layer) (x : List ℕ) (b : CellBase) (z : ℤ) → R l (with_constant l x (meaning.Constant b z)))
      → ((l : Layer) (r : CellRange) (t : CellType) → R l (with_array_type l r t).1) → ((l : Layer) (r : Fields) → R l (with_record_type l r).1)
      → ((l : Layer) (x : List ℕ) (b : CellBase) (z : ℤ) → R l (with_name l x (meaning.Constant b z))) → ((l : Layer) (x : List ℕ) (t : CellType) → R l (with_name l x (meaning.Kind t)))
      → TypeSteps R (λ l. Unit {0}) (λ l t. Unit {0}) (λ l r. Unit {0})
  plain_types same both element array record_type constant_name type_name =
      record {
        same = λ l n. same l;
        both = both;
        after = λ l m h. tt;
        named = λ l x n. tt;
        ordinal = λ l r. tt;
        set = λ l r. tt;
        element = λ l x b z n. element l x b z;
        array = λ l r t i n. (array l r t, tt);
        none = λ l. tt;
        group = λ l m r is t h i q. tt;
        record_type = λ l r q n. (record_type l r, tt);
        constant_name = λ l x b z n. constant_name l x b z;
        type_name = λ l x t i n. type_name l x t;
      }

-- ---- constants and types

module _ {R : Layer → Layer → Type 0} {N : Layer → Type 0} {T : Layer → CellType → Type 0} {Q : Layer → Fields → Type 0} (s : TypeSteps R N T Q) where
  abbrev pub Groups : Layer → Fields × Layer → Type 0
  Groups l x = R l x.1 × Q x.1 x.0

  then_leads : (l k m : Layer) → R l k → (N k → R k m) → R l m
  then_leads l k m h f = s.both l k m h (f (s.after l k h))

  enumerated_leads : (l : Layer) (b : CellBase) (n : ℕ) (is : List Identifier) → N l → R l (enumerate l b n is)
  unfolding enumerate
  enumerated_leads l b n [] i = s.same l i
  enumerated_leads l b n (x ∷ xs) i =
      let k : Layer = with_constant l x.name (meaning.Constant b (as_integer n)) in
      then_leads l k (enumerate k b (n + 1) xs) (s.element l x.name b (as_integer n) i) (enumerated_leads k b (n + 1) xs)

  simple_leads : (l : Layer) (t : syntax.Simple) → N l → Makes R T l (simple_type l t)
  unfolding simple_type
  simple_leads l (syntax.type_name at x) i = (s.same l i, s.named l x i)
  simple_leads l (syntax.enumeration at is) i = (enumerated_leads l (enumeration_base (length l.constants) (length is)) 0 is i, s.ordinal (enumerate l (enumeration_base (length l.constants) (length is)) 0 is) _)
  simple_leads l (syntax.subrange at c d) i = (s.same l i, s.ordinal l _)

  mutual
    unfolding written_type field_groups field_group

    pub type_leads : (l : Layer) (t : syntax.TypeTerm) → N l → Makes R T l (written_type l t)
    type_leads l (syntax.simple at t) i = simple_leads l t i
    type_leads l (syntax.array_of at t u) i =
        let x = simple_type l t in
        let y = written_type x.1 u in
        let a : Makes R T l x = simple_leads l t i in
        let b : Makes R T x.1 y = type_leads x.1 u (s.after l x.1 a.0) in
        let c : Makes R T y.1 (with_array_type y.1 (range_of x.0) y.0) = s.array y.1 (range_of x.0) y.0 b.1 (s.after x.1 y.1 b.0) in
        (s.both l y.1 (with_array_type y.1 (range_of x.0) y.0).1 (s.both l x.1 y.1 a.0 b.0) c.0, c.1)
    type_leads l (syntax.set_type at t) i = let x = simple_type l t in ((simple_leads l t i).0, s.set x.1 (range_of x.0))
    type_leads l (syntax.record_of at gs b) i =
        let x = field_groups l no_fields gs in
        let a : Groups l x = groups_lead l no_fields gs (s.none l) i in
        let c : Makes R T x.1 (with_record_type x.1 x.0) = s.record_type x.1 x.0 a.1 (s.after l x.1 a.0) in
        (s.both l x.1 (with_record_type x.1 x.0).1 a.0 c.0, c.1)

    pub groups_lead : (l : Layer) (r : Fields) (gs : syntax.FieldGroups) → Q l r → N l → Groups l (field_groups l r gs)
    groups_lead l r syntax.no_fields q i = (s.same l i, q)
    groups_lead l r (syntax.more_fields g gs) q i =
        let x = field_group l r g in
        let a : Groups l x = group_leads l r g q i in
        let b : Groups x.1 (field_groups x.1 x.0 gs) = groups_lead x.1 x.0 gs a.1 (s.after l x.1 a.0) in
        (s.both l x.1 (field_groups x.1 x.0 gs).1 a.0 b.0, b.1)

    group_leads : (l : Layer) (r : Fields) (g : syntax.FieldGroup) → Q l r → N l → Groups l (field_group l r g)
    group_leads l r (syntax.fields is t) q i =
        let x = written_type l t in
        let a : Makes R T l x = type_leads l t i in
        (a.0, s.group l x.1 r is x.0 a.0 a.1 q)

  pub constants_lead : (l : Layer) (ds : List syntax.ConstantDefinition) → N l → R l (constants l ds)
  unfolding constants
  constants_lead l [] i = s.same l i
  constants_lead l (d ∷ ds) i = then_leads l (constant l d) (constants (constant l d) ds) (s.constant_name l d.name.name _ _ i) (constants_lead (constant l d) ds)

  pub definitions_lead : (l : Layer) (ds : List syntax.TypeDefinition) → N l → R l (type_definitions l ds)
  unfolding type_definitions
  definitions_lead l [] i = s.same l i
  definitions_lead l (d ∷ ds) i =
      let x = written_type l d.value in
      let k : Layer = type_definition l d in
      let a : Makes R T l x = type_leads l d.value i in
      then_leads l k (type_definitions k ds) (s.both l x.1 k a.0 (s.type_name x.1 d.name.name x.0 a.1 (s.after l x.1 a.0))) (definitions_lead k ds)

  -- ---- local variables and headings

  module _ (f : FrameSteps R N) where
    pub locals_of_lead : (l : Layer) (t : CellType) (is : List Identifier) → N l → R l (locals_of l t is)
    unfolding locals_of
    locals_of_lead l t [] i = s.same l i
    locals_of_lead l t (x ∷ xs) i = then_leads l (local l x.name t) (locals_of (local l x.name t) t xs) (f.local_cells l x.name t i) (locals_of_lead (local l x.name t) t xs)

    pub locals_lead : (l : Layer) (gs : List syntax.VariableGroup) → N l → R l (local_variables l gs)
    unfolding local_variables
    locals_lead l [] i = s.same l i
    locals_lead l (g ∷ gs) i =
        let x = written_type l g.variable_type in
        let k : Layer = local_group l g in
        then_leads l k (local_variables k gs) (then_leads l x.1 k (type_leads l g.variable_type i).0 (locals_of_lead x.1 x.0 g.names)) (locals_lead k gs)

    local_part_leads : (l : Layer) (p : syntax.Part) → N l → R l (local_part l p)
    local_part_leads l (syntax.constants at ds) i = constants_lead l ds i
    local_part_leads l (syntax.types at ds) i = definitions_lead l ds i
    local_part_leads l (syntax.variables at gs) i = locals_lead l gs i

    pub local_parts_lead : (l : Layer) (ps : List syntax.Part) → N l → R l (local_parts l ps)
    unfolding local_parts
    local_parts_lead l [] i = s.same l i
    local_parts_lead l (p ∷ ps) i = then_leads l (local_part l p) (local_parts (local_part l p) ps) (local_part_leads l p i) (local_parts_lead (local_part l p) ps)

    pub constant_parameters_lead : (l : Layer) (ps : Parameters) (t : CellType) (is : List Identifier) → N l → R l (constant_parameters_of l ps t is).1
    unfolding constant_parameters_of
    constant_parameters_lead l ps t [] i = s.same l i
    constant_parameters_lead l ps t (y ∷ ys) i = let x = constant_parameter l ps y.name t in then_leads l x.1 (constant_parameters_of x.1 x.0 t ys).1 (f.local_cells l y.name t i) (constant_parameters_lead x.1 x.0 t ys)

    pub constant_groups_lead : (l : Layer) (ps : Parameters) (gs : List syntax.Group) → N l → R l (constant_groups l ps gs).1
    unfolding constant_groups
    constant_groups_lead l ps [] i = s.same l i
    constant_groups_lead l ps (g ∷ gs) i = let x = constant_group l ps g in then_leads l x.1 (constant_groups x.1 x.0 gs).1 (constant_parameters_lead l ps (type_of_name l g.type_name.name) g.names i) (constant_groups_lead x.1 x.0 gs)

    var_parameters_lead : (l : Layer) (ps : Parameters) (t : CellType) (is : List Identifier) → N l → R l (var_parameters_of l ps t is).1
    unfolding var_parameters_of
    var_parameters_lead l ps t [] i = s.same l i
    var_parameters_lead l ps t (y ∷ ys) i = let x = var_parameter l ps y.name t in then_leads l x.1 (var_parameters_of x.1 x.0 t ys).1 (f.reference l ps y.name t i) (var_parameters_lead x.1 x.0 t ys)

    pub either_group_leads : (b : Bool) (l : Layer) (ps : Parameters) (g : syntax.Group) → N l → R l (if b then var_group l ps g else constant_group l ps g).1
    either_group_leads true l ps g i = var_parameters_lead l ps (type_of_name l g.type_name.name) g.names i
    either_group_leads false l ps g i = constant_parameters_lead l ps (type_of_name l g.type_name.name) g.names i

    pub parameter_groups_lead : (l : Layer) (ps : Parameters) (gs : List syntax.ParameterGroup) → N l → R l (parameter_groups l ps gs).1
    unfolding parameter_groups
    parameter_groups_lead l ps [] i = s.same l i
    parameter_groups_lead l ps (g ∷ gs) i = let x = parameter_group l ps g in then_leads l x.1 (parameter_groups x.1 x.0 gs).1 (either_group_leads g.is_var l ps g.group i) (parameter_groups_lead x.1 x.0 gs)

    pub heading_leads : (l : Layer) (x : List ℕ) (k : syntax.RoutineKind) → N l → R l (heading l x k).1
    unfolding heading
    heading_leads l x (syntax.procedure gs) i = parameter_groups_lead l [] gs i
    heading_leads l x (syntax.function gs y) i =
        let p = constant_groups l [] gs in
        then_leads l p.1 (heading l x (syntax.function gs y)).1 (constant_groups_lead l [] gs i) (f.result p.1 (type_of_name p.1 y.name))
    heading_leads l x syntax.invariants i = s.same l i

  -- ---- permanent variables and the parameters of system types

  module _ (p : SystemSteps R N T) where
    pub variables_of_lead : (l : Layer) (t : CellType) (is : List Identifier) → T l t → N l → R l (variables_of l t is)
    unfolding variables_of
    variables_of_lead l t [] h i = s.same l i
    variables_of_lead l t (x ∷ xs) h i =
        let k : Layer = variable l x.name t in
        let a : R l k = p.permanent l x.name t (components_of l.types t) h i in
        then_leads l k (variables_of k t xs) a (variables_of_lead k t xs (p.still l k t a h))

    pub variables_lead : (l : Layer) (gs : List syntax.VariableGroup) → N l → R l (variables l gs)
    unfolding variables
    variables_lead l [] i = s.same l i
    variables_lead l (g ∷ gs) i =
        let x = written_type l g.variable_type in
        let k : Layer = variable_group l g in
        let a : Makes R T l x = type_leads l g.variable_type i in
        then_leads l k (variables k gs) (then_leads l x.1 k a.0 (variables_of_lead x.1 x.0 g.names a.1)) (variables_lead k gs)

    permanent_part_leads : (l : Layer) (d : syntax.Part) → N l → R l (permanent_part l d)
    permanent_part_leads l (syntax.constants at ds) i = constants_lead l ds i
    permanent_part_leads l (syntax.types at ds) i = definitions_lead l ds i
    permanent_part_leads l (syntax.variables at gs) i = variables_lead l gs i

    pub permanent_parts_lead : (l : Layer) (ds : List syntax.Part) → N l → R l (permanent_parts l ds)
    unfolding permanent_parts
    permanent_parts_lead l [] i = s.same l i
    permanent_parts_lead l (d ∷ ds) i = then_leads l (permanent_part l d) (permanent_parts (permanent_part l d) ds) (permanent_part_leads l d i) (permanent_parts_lead (permanent_part l d) ds)

    pub system_parameters_lead : (l : Layer) (ps : Parameters) (t : CellType) (is : List Identifier) → T l t → N l → R l (system_parameters_of l ps t is).1
    unfolding system_parameters_of
    system_parameters_lead l ps t [] h i = s.same l i
    system_parameters_lead l ps t (y ∷ ys) h i =
        let x = system_parameter l ps y.name t in
        let a : R l x.1 = p.parameter l ps y.name t h i in
        then_leads l x.1 (system_parameters_of x.1 x.0 t ys).1 a (system_parameters_lead x.1 x.0 t ys (p.still l x.1 t a h))

    pub system_groups_lead : (l : Layer) (ps : Parameters) (gs : List syntax.Group) → N l → R l (system_groups l ps gs).1
    unfolding system_groups
    system_groups_lead l ps [] i = s.same l i
    system_groups_lead l ps (g ∷ gs) i =
        let x = system_group l ps g in
        let t : CellType = type_of_name l g.type_name.name in
        then_leads l x.1 (system_groups x.1 x.0 gs).1 (system_parameters_lead l ps t g.names (s.named l g.type_name.name i) i) (system_groups_lead x.1 x.0 gs)
