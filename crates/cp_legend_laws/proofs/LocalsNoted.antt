-- A routine notes its parameters and its local variables, in their order, under its number, and each variable of its frame that is visible in it is one of them.
use Rattle.std.specs.Str.{bytes_eq}
use Rattle.std.proofs.Common.{◌≡◌, ℕ, ◌+◌, Bool, true, false, if◌then◌else◌, List, [], ◌∷◌, ◌++◌, length, map, Option, Some, None, refl, sym, ap, subst, ◌∙◌, ◌⊎◌, inl, inr, append_assoc, append-nil, length-append, arith}
use Rattle.cp_legend_laws.proofs.Words.{map-append, Identifier, Name, CellType, LayoutMeaning, Layer, Noted, Variable, Block, Each, named_variables, names_of}
use Rattle.cp_tree.specs.Syntax as syntax
use Rattle.cp_slots.specs.declared.place.PlaceOrigin.TheVariants as origin
use Rattle.cp_symbols.specs.declared.names.LayoutMeaning.TheVariants as meaning
use Rattle.cp_layout.specs.Layers.{find, with_name}
use Rattle.cp_layout.specs.Layers as layers
use Rattle.cp_layout.specs.LaidTypes.{type_of_name, with_constant, written_type}
use Rattle.cp_layout.specs.LaidDeclarations.{Parameters, constant_group, constant_groups, constant_parameter, constant_parameters_of, constants, heading, local, local_group, local_part, local_parts, local_variables, locals_of, open_routine, parameter_group, parameter_groups, type_definitions, var_group, var_parameter, var_parameters_of, with_heading, with_local}
use Rattle.cp_meaning.specs.Types.{Ty}
use Rattle.cp_meaning.specs.Scopes.{Scope, local_variable}
use Rattle.cp_meaning.specs.Declarations as meant
use Rattle.cp_meaning.specs.Declarations.{Heading, Parameter, RoutineMeaning, parameters_named, routine_in}
use Rattle.cp_resolved.specs.Begun.{routine_begun}
use Rattle.cp_resolved.specs.Openings.{with_routine}
use Rattle.cp_resolved.proofs.frames.FrameCells.{same_is}
use Rattle.cp_resolved.proofs.laid.Declaring.{TypeSteps, FrameSteps, plain_types, type_leads, constants_lead, definitions_lead, local_parts_lead, heading_leads}
use Rattle.cp_resolved.proofs.names.PermanentNames.{found_cases}
use Rattle.cp_legend_laws.proofs.Noting.{each_both, note}
use Rattle.std.proofs.lemmas.List.{append_cancel_left}

-- ---- names that stand for parameters and variables of a routine

-- what has cells of a frame, or is a `var` parameter
abbrev pub is_held : LayoutMeaning → Bool
is_held (meaning.Variable (origin.Local n) t) = true
is_held (meaning.Variable (origin.Reference n) t) = true
is_held m = false

abbrev pub held : List Noted → List Noted
held [] = []
held (d ∷ ds) = if is_held d.meaning then d ∷ held ds else held ds

pub held_append : (ds es : List Noted) → held (ds ++ es) ≡ held ds ++ held es
held_append [] es = refl
held_append (d ∷ ds) es = go (is_held d.meaning) (held_append ds es)
  where
    go : (b : Bool) → held (ds ++ es) ≡ held ds ++ held es → (if b then d ∷ held (ds ++ es) else held (ds ++ es)) ≡ (if b then d ∷ held ds else held ds) ++ held es
    go true rest = ap (λ (xs : List Noted). d ∷ xs) rest
    go false rest = rest

-- one of these has this name and this meaning
abbrev pub IsNotedAs : Name → LayoutMeaning → List Noted → Type 0
IsNotedAs x n [] = ⊥
IsNotedAs x n (d ∷ ds) = ((d.name ≡ x) × (d.meaning ≡ n)) ⊎ IsNotedAs x n ds

noted_left : (x : Name) (n : LayoutMeaning) (ds es : List Noted) → IsNotedAs x n ds → IsNotedAs x n (ds ++ es)
noted_left x n [] es h = absurd h
noted_left x n (d ∷ ds) es (inl h) = inl h
noted_left x n (d ∷ ds) es (inr h) = inr (noted_left x n ds es h)

noted_right : (x : Name) (n : LayoutMeaning) (ds es : List Noted) → IsNotedAs x n es → IsNotedAs x n (ds ++ es)
noted_right x n [] es h = h
noted_right x n (d ∷ ds) es h = inr (noted_right x n ds es h)

pub noted_held : (x : Name) (n : LayoutMeaning) (ds : List Noted) → is_held n ≡ true → IsNotedAs x n ds → IsNotedAs x n (held ds)
noted_held x n [] e h = absurd h
noted_held x n (d ∷ ds) e (inl h) = subst (λ (b : Bool). IsNotedAs x n (if b then d ∷ held ds else held ds)) (sym (ap is_held h.1 ∙ e)) (inl h)
noted_held x n (d ∷ ds) e (inr h) = go (is_held d.meaning) (noted_held x n ds e h)
  where
    go : (b : Bool) → IsNotedAs x n (held ds) → IsNotedAs x n (if b then d ∷ held ds else held ds)
    go true rest = inr rest
    go false rest = rest

-- ---- steps inside a routine

pub record Inner (l m : Layer) : Type 0 where
  pub names : List Noted
  pub noted : m.noted ≡ l.noted ++ names
  pub own : Each (λ (d : Noted). d.routine ≡ length l.routines) names
  pub routines : m.routines ≡ l.routines
  pub covers : (x : Name) (n : LayoutMeaning) → is_held n ≡ true → find x m.names ≡ Some n → IsNotedAs x n names ⊎ (find x l.names ≡ Some n)

inner_trans : (l k m : Layer) → Inner l k → Inner k m → Inner l m
inner_trans l k m h i =
    record {
      names = h.names ++ i.names;
      noted = i.noted ∙ (ap (λ (ds : List Noted). ds ++ i.names) h.noted ∙ append_assoc l.noted h.names i.names);
      own = each_both (λ (d : Noted). d.routine ≡ length l.routines) h.names i.names h.own (subst (λ (n : ℕ). Each (λ (d : Noted). d.routine ≡ n) i.names) (ap (λ rs. length rs) h.routines) i.own);
      routines = i.routines ∙ h.routines;
      covers = λ x n e f. second x n e (i.covers x n e f);
    }
  where
    first : (x : Name) (n : LayoutMeaning) → IsNotedAs x n h.names ⊎ (find x l.names ≡ Some n) → IsNotedAs x n (h.names ++ i.names) ⊎ (find x l.names ≡ Some n)
    first x n (inl a) = inl (noted_left x n h.names i.names a)
    first x n (inr a) = inr a

    second : (x : Name) (n : LayoutMeaning) → is_held n ≡ true → IsNotedAs x n i.names ⊎ (find x k.names ≡ Some n) → IsNotedAs x n (h.names ++ i.names) ⊎ (find x l.names ≡ Some n)
    second x n e (inl a) = inl (noted_right x n h.names i.names a)
    second x n e (inr a) = first x n (h.covers x n e a)

inner_same : (l m : Layer) → m.noted ≡ l.noted → m.routines ≡ l.routines → m.names ≡ l.names → Inner l m
inner_same l m ds rs ns = record { names = []; noted = ds ∙ sym (append-nil l.noted); own = tt; routines = rs; covers = λ x n e f. inr (ap (find x) (sym ns) ∙ f) }

inner_note : (l m : Layer) (x : Name) (n : LayoutMeaning) → m.noted ≡ l.noted ++ note l x n ∷ [] → m.routines ≡ l.routines → m.names ≡ (x, n) ∷ l.names → Inner l m
inner_note l m x n ds rs ns = record { names = note l x n ∷ []; noted = ds; own = (refl, tt); routines = rs; covers = λ y q e f. go y q (found_cases (x, n) l.names y q (ap (find y) (sym ns) ∙ f)) }
  where
    go : (y : Name) (q : LayoutMeaning) → ((bytes_eq x y ≡ true) × (n ≡ q)) ⊎ (find y l.names ≡ Some q) → IsNotedAs y q (note l x n ∷ []) ⊎ (find y l.names ≡ Some q)
    go y q (inl w) = inl (inl (same_is x y w.0, w.1))
    go y q (inr f) = inr f

-- a name that is visible, and is not noted
inner_hidden : (l m : Layer) (x : Name) (n : LayoutMeaning) → is_held n ≡ false → m.noted ≡ l.noted → m.routines ≡ l.routines → m.names ≡ (x, n) ∷ l.names → Inner l m
inner_hidden l m x n un ds rs ns = record { names = []; noted = ds ∙ sym (append-nil l.noted); own = tt; routines = rs; covers = λ y q e f. go y q e (found_cases (x, n) l.names y q (ap (find y) (sym ns) ∙ f)) }
  where
    go : (y : Name) (q : LayoutMeaning) → is_held q ≡ true → ((bytes_eq x y ≡ true) × (n ≡ q)) ⊎ (find y l.names ≡ Some q) → IsNotedAs y q [] ⊎ (find y l.names ≡ Some q)
    go y q e (inl w) = absurd (let bad : false ≡ true = sym un ∙ (ap is_held w.1 ∙ e) in cc)
    go y q e (inr f) = inr f

inner_types : TypeSteps Inner (λ l. Unit {0}) (λ l t. Unit {0}) (λ l r. Unit {0})
inner_types =
    plain_types Inner (λ l. inner_same l l refl refl refl) inner_trans (λ l x b z. inner_hidden l (with_constant l x (meaning.Constant b z)) x (meaning.Constant b z) refl refl refl refl) (λ l r t. inner_same l _ refl refl refl) (λ l r. inner_same l _ refl refl refl)
    (λ l x b z. inner_note l (with_name l x (meaning.Constant b z)) x (meaning.Constant b z) refl refl refl) (λ l x t. inner_note l (with_name l x (meaning.Kind t)) x (meaning.Kind t) refl refl refl)

inner_frames : FrameSteps Inner (λ l. Unit {0})
inner_frames =
    record {
      local_cells = λ l x t n. inner_note l (local l x t) x (meaning.Variable (origin.Local (length l.frame.image)) t) refl refl refl;
      reference = λ l ps x t n. inner_note l (var_parameter l ps x t).1 x (meaning.Variable (origin.Reference (length l.frame.extents)) t) refl refl refl;
      result = λ l t n. inner_same l (with_local l t).1 refl refl refl;
    }

-- from its name to its statements
pub routine_inner : (l : Layer) (r : syntax.Routine) → Inner (open_routine l r.name.name).1 (routine_begun l r)
routine_inner l r =
    let x : Layer = (open_routine l r.name.name).1 in
    let h : layers.Heading × Layer = heading x r.name.name r.kind in
    let k : Layer = with_heading h.1 h.0 in
    let a : Inner x k = inner_trans x h.1 k (heading_leads inner_types inner_frames x r.name.name r.kind tt) (inner_same h.1 k refl refl refl) in
    inner_trans x k (routine_begun l r) a (local_parts_lead inner_types inner_frames k r.parts tt)

-- ---- notes in the order of parameters

abbrev pub PassedAs : (is_var : Bool) → LayoutMeaning → Type 0
PassedAs true m = (n : ℕ) × (t : CellType) × (m ≡ meaning.Variable (origin.Reference n) t)
PassedAs false m = (n : ℕ) × (t : CellType) × (m ≡ meaning.Variable (origin.Local n) t)

pub record IsNoteOf (q : Parameter) (d : Noted) : Type 0 where
  pub name : d.name ≡ q.name
  pub passed : PassedAs q.is_var d.meaning

abbrev pub InOrder : List Parameter → List Noted → Type 0
InOrder [] [] = Unit {0}
InOrder (q ∷ qs) (d ∷ ds) = IsNoteOf q d × InOrder qs ds
InOrder [] (d ∷ ds) = ⊥
InOrder (q ∷ qs) [] = ⊥

pub order_both : (qs us : List Parameter) (ds es : List Noted) → InOrder qs ds → InOrder us es → InOrder (qs ++ us) (ds ++ es)
order_both [] us [] es h i = i
order_both (q ∷ qs) us (d ∷ ds) es h i = (h.0, order_both qs us ds es h.1 i)
order_both _ us _ es h i = absurd h

-- local variables as parameters with values
abbrev pub as_value : Variable → Parameter
as_value v = record { name = v.name; ty = v.ty; is_var = false }

abbrev pub as_values : List Variable → List Parameter
as_values vs = map as_value vs

pub record Lists (l m : Layer) (qs : List Parameter) : Type 0 where
  pub names : List Noted
  pub noted : m.noted ≡ l.noted ++ names
  pub order : InOrder qs (held names)

lists_trans : (l k m : Layer) (qs us : List Parameter) → Lists l k qs → Lists k m us → Lists l m (qs ++ us)
lists_trans l k m qs us h i =
    record {
      names = h.names ++ i.names;
      noted = i.noted ∙ (ap (λ (ds : List Noted). ds ++ i.names) h.noted ∙ append_assoc l.noted h.names i.names);
      order = subst (λ (ds : List Noted). InOrder (qs ++ us) ds) (sym (held_append h.names i.names)) (order_both qs us (held h.names) (held i.names) h.order i.order);
    }

abbrev Quiet : Layer → Layer → Type 0
Quiet l m = Lists l m []

quiet_same : (l m : Layer) → m.noted ≡ l.noted → Quiet l m
quiet_same l m e = record { names = []; noted = e ∙ sym (append-nil l.noted); order = tt }

quiet_types : TypeSteps Quiet (λ l. Unit {0}) (λ l t. Unit {0}) (λ l r. Unit {0})
quiet_types =
    plain_types Quiet (λ l. quiet_same l l refl) (λ l k m h i. lists_trans l k m [] [] h i) (λ l x b z. quiet_same l (with_constant l x (meaning.Constant b z)) refl) (λ l r t. quiet_same l _ refl) (λ l r. quiet_same l _ refl)
    (λ l x b z. record { names = note l x (meaning.Constant b z) ∷ []; noted = refl; order = tt }) (λ l x t. record { names = note l x (meaning.Kind t) ∷ []; noted = refl; order = tt })

-- ---- local variables

locals_of_list : (l : Layer) (t : Ty) (v : CellType) (is : List Identifier) → Lists l (locals_of l v is) (as_values (named_variables (names_of is) t))
unfolding locals_of
locals_of_list l t v [] = quiet_same l l refl
locals_of_list l t v (x ∷ xs) =
    let m : Layer = local l x.name v in
    let q : Parameter = record { name = x.name; ty = t; is_var = false } in
    let n : ℕ = length l.frame.image in
    let a : Lists l m (q ∷ []) = record { names = note l x.name (meaning.Variable (origin.Local n) v) ∷ []; noted = refl; order = (record { name = refl; passed = (n, v, refl) }, tt) } in
    lists_trans l m (locals_of m v xs) (q ∷ []) (as_values (named_variables (names_of xs) t)) a (locals_of_list m t v xs)

-- more variables than before
record More (l m : Layer) (before after : List Variable) : Type 0 where
  variables : List Variable
  is : after ≡ before ++ variables
  lists : Lists l m (as_values variables)

more_trans : (l k m : Layer) (us vs ws : List Variable) → More l k us vs → More k m vs ws → More l m us ws
more_trans l k m us vs ws h i =
    record {
      variables = h.variables ++ i.variables;
      is = i.is ∙ (ap (λ (xs : List Variable). xs ++ i.variables) h.is ∙ append_assoc us h.variables i.variables);
      lists = subst (λ (qs : List Parameter). Lists l m qs) (sym (map-append as_value h.variables i.variables)) (lists_trans l k m (as_values h.variables) (as_values i.variables) h.lists i.lists);
    }

more_quiet : (l m : Layer) (vs : List Variable) → Quiet l m → More l m vs vs
more_quiet l m vs h = record { variables = []; is = sym (append-nil vs); lists = h }

locals_list : (l : Layer) (b : Block) (gs : List syntax.VariableGroup) → More l (local_variables l gs) b.variables (meant.variables_in local_variable b gs).variables
unfolding local_variables
locals_list l b [] = more_quiet l l b.variables (quiet_same l l refl)
locals_list l b (g ∷ gs) =
    let x : CellType × Layer = written_type l g.variable_type in
    let m : Layer = local_group l g in
    let c : Block = meant.variables_in local_variable b (g ∷ []) in
    let vs : List Variable = named_variables (names_of g.names) (meant.type_in b.scope g.variable_type).0 in
    let a : Lists l m (as_values vs) = lists_trans l x.1 m [] (as_values vs) (type_leads quiet_types l g.variable_type tt).0 (locals_of_list x.1 (meant.type_in b.scope g.variable_type).0 x.0 g.names) in
    more_trans l m (local_variables m gs) b.variables c.variables (meant.variables_in local_variable c gs).variables (record { variables = vs; is = refl; lists = a }) (locals_list m c gs)

part_list : (l : Layer) (b : Block) (p : syntax.Part) → More l (local_part l p) b.variables (meant.part_in local_variable b p).variables
part_list l b (syntax.constants at ds) = more_quiet l (constants l ds) b.variables (constants_lead quiet_types l ds tt)
part_list l b (syntax.types at ds) = more_quiet l (type_definitions l ds) b.variables (definitions_lead quiet_types l ds tt)
part_list l b (syntax.variables at gs) = locals_list l b gs

parts_list : (l : Layer) (b : Block) (ps : List syntax.Part) → More l (local_parts l ps) b.variables (meant.parts_in local_variable b ps).variables
unfolding local_parts
parts_list l b [] = more_quiet l l b.variables (quiet_same l l refl)
parts_list l b (p ∷ ps) =
    let m : Layer = local_part l p in
    let c : Block = meant.part_in local_variable b p in
    more_trans l m (local_parts m ps) b.variables c.variables (meant.parts_in local_variable c ps).variables (part_list l b p) (parts_list m c ps)

-- ---- parameters

-- more parameters, each with what a call gives it
abbrev Takes : Layer → Parameters → Parameters × Layer → List Parameter → Type 0
Takes l ps x qs = Lists l x.1 qs × (length x.0 ≡ length ps + length qs)

takes_none : (l : Layer) (ps : Parameters) → Takes l ps (ps, l) []
takes_none l ps = (quiet_same l l refl, omega arith)

takes_trans : (l : Layer) (ps : Parameters) (x y : Parameters × Layer) (qs us : List Parameter) → Takes l ps x qs → Takes x.1 x.0 y us → Takes l ps y (qs ++ us)
takes_trans l ps x y qs us h i = (lists_trans l x.1 y.1 qs us h.0 i.0, let a = h.1 in let b = i.1 in let c = length-append qs us in omega (arith, a, b, c))

abbrev one : Name → Ty → Bool → Parameter
one x t b = record { name = x; ty = t; is_var = b }

constants_of_take : (l : Layer) (ps : Parameters) (t : Ty) (v : CellType) (is : List Identifier) → Takes l ps (constant_parameters_of l ps v is) (parameters_named (names_of is) t false)
unfolding constant_parameters_of
constants_of_take l ps t v [] = takes_none l ps
constants_of_take l ps t v (y ∷ ys) =
    let x : Parameters × Layer = constant_parameter l ps y.name v in
    let n : ℕ = length l.frame.image in
    let a : Lists l x.1 (one y.name t false ∷ []) = record { names = note l y.name (meaning.Variable (origin.Local n) v) ∷ []; noted = refl; order = (record { name = refl; passed = (n, v, refl) }, tt) } in
    takes_trans l ps x (constant_parameters_of x.1 x.0 v ys) (one y.name t false ∷ []) (parameters_named (names_of ys) t false) (a, length-append ps _) (constants_of_take x.1 x.0 t v ys)

vars_of_take : (l : Layer) (ps : Parameters) (t : Ty) (v : CellType) (is : List Identifier) → Takes l ps (var_parameters_of l ps v is) (parameters_named (names_of is) t true)
unfolding var_parameters_of
vars_of_take l ps t v [] = takes_none l ps
vars_of_take l ps t v (y ∷ ys) =
    let x : Parameters × Layer = var_parameter l ps y.name v in
    let n : ℕ = length l.frame.extents in
    let a : Lists l x.1 (one y.name t true ∷ []) = record { names = note l y.name (meaning.Variable (origin.Reference n) v) ∷ []; noted = refl; order = (record { name = refl; passed = (n, v, refl) }, tt) } in
    takes_trans l ps x (var_parameters_of x.1 x.0 v ys) (one y.name t true ∷ []) (parameters_named (names_of ys) t true) (a, length-append ps _) (vars_of_take x.1 x.0 t v ys)

group_takes : (b : Bool) (l : Layer) (ps : Parameters) (t : Ty) (g : syntax.Group) → Takes l ps (if b then var_group l ps g else constant_group l ps g) (parameters_named (names_of g.names) t b)
group_takes true l ps t g = vars_of_take l ps t (type_of_name l g.type_name.name) g.names
group_takes false l ps t g = constants_of_take l ps t (type_of_name l g.type_name.name) g.names

record TakesMore (l : Layer) (ps : Parameters) (x : Parameters × Layer) (before after : List Parameter) : Type 0 where
  parameters : List Parameter
  is : after ≡ before ++ parameters
  takes : Takes l ps x parameters

more_takes : (l : Layer) (ps : Parameters) (x y : Parameters × Layer) (before qs after : List Parameter) → Takes l ps x qs → TakesMore x.1 x.0 y (before ++ qs) after → TakesMore l ps y before after
more_takes l ps x y before qs after h i = record { parameters = qs ++ i.parameters; is = i.is ∙ append_assoc before qs i.parameters; takes = takes_trans l ps x y qs i.parameters h i.takes }

constant_groups_take : (l : Layer) (j : Heading) (ps : Parameters) (gs : List syntax.Group) → TakesMore l ps (constant_groups l ps gs) j.parameters (meant.with_groups local_variable j gs).parameters
unfolding constant_groups
constant_groups_take l j ps [] = record { parameters = []; is = sym (append-nil j.parameters); takes = takes_none l ps }
constant_groups_take l j ps (g ∷ gs) =
    let x : Parameters × Layer = constant_group l ps g in
    let c : Heading = meant.with_group local_variable false j g in
    let t : Ty = meant.type_named j.scope g.type_name.name in
    more_takes l ps x (constant_groups x.1 x.0 gs) j.parameters (parameters_named (names_of g.names) t false) (meant.with_groups local_variable c gs).parameters (group_takes false l ps t g) (constant_groups_take x.1 c x.0 gs)

parameter_groups_take : (l : Layer) (j : Heading) (ps : Parameters) (gs : List syntax.ParameterGroup) → TakesMore l ps (parameter_groups l ps gs) j.parameters (meant.with_parameter_groups j gs).parameters
unfolding parameter_groups
parameter_groups_take l j ps [] = record { parameters = []; is = sym (append-nil j.parameters); takes = takes_none l ps }
parameter_groups_take l j ps (g ∷ gs) =
    let x : Parameters × Layer = parameter_group l ps g in
    let c : Heading = meant.with_group local_variable g.is_var j g.group in
    let t : Ty = meant.type_named j.scope g.group.type_name.name in
    more_takes l ps x (parameter_groups x.1 x.0 gs) j.parameters (parameters_named (names_of g.group.names) t g.is_var) (meant.with_parameter_groups c gs).parameters (group_takes g.is_var l ps t g.group) (parameter_groups_take x.1 c x.0 gs)

abbrev HeadTakes : Layer → layers.Heading × Layer → List Parameter → Type 0
HeadTakes l h qs = Lists l h.1 qs × (length h.0.parameters ≡ length qs)

heading_takes : (l : Layer) (s : Scope) (x : Name) (r : syntax.RoutineKind) → HeadTakes l (heading l x r) (meant.heading_of s r).parameters
unfolding heading
heading_takes l s x (syntax.procedure gs) =
    let p : Parameters × Layer = parameter_groups l [] gs in
    let a : TakesMore l [] p [] (meant.heading_of s (syntax.procedure gs)).parameters = parameter_groups_take l (record { parameters = []; scope = s }) [] gs in
    let long = a.takes.1 in
    subst (λ (qs : List Parameter). Lists l p.1 qs × (length p.0 ≡ length qs)) (sym a.is) (a.takes.0, omega (arith, long))
heading_takes l s x (syntax.function gs i) =
    let p : Parameters × Layer = constant_groups l [] gs in
    let h : layers.Heading × Layer = heading l x (syntax.function gs i) in
    let a : TakesMore l [] p [] (meant.heading_of s (syntax.function gs i)).parameters = constant_groups_take l (record { parameters = []; scope = s }) [] gs in
    let long = a.takes.1 in
    let all : Lists l h.1 a.parameters = subst (λ (qs : List Parameter). Lists l h.1 qs) (append-nil a.parameters) (lists_trans l p.1 h.1 a.parameters [] a.takes.0 (quiet_same p.1 h.1 refl)) in
    subst (λ (qs : List Parameter). Lists l h.1 qs × (length p.0 ≡ length qs)) (sym a.is) (all, omega (arith, long))
heading_takes l s x syntax.invariants = ((takes_none l []).0, refl)

-- ---- a function has no `var` parameters

abbrev pub AreValues : List Parameter → Type 0
AreValues qs = Each (λ (q : Parameter). q.is_var ≡ false) qs

abbrev pub AreValuesIf : Option Ty → List Parameter → Type 0
AreValuesIf None qs = Unit {0}
AreValuesIf (Some t) qs = AreValues qs

named_values : (xs : List Name) (t : Ty) → AreValues (parameters_named xs t false)
named_values [] t = tt
named_values (x ∷ xs) t = (refl, named_values xs t)

groups_valued : (j : Heading) (gs : List syntax.Group) → AreValues j.parameters → AreValues (meant.with_groups local_variable j gs).parameters
groups_valued j [] h = h
groups_valued j (g ∷ gs) h =
    let t : Ty = meant.type_named j.scope g.type_name.name in
    groups_valued (meant.with_group local_variable false j g) gs (each_both (λ (q : Parameter). q.is_var ≡ false) j.parameters (parameters_named (names_of g.names) t false) h (named_values (names_of g.names) t))

kind_valued : (s : Scope) (r : syntax.RoutineKind) → AreValuesIf (meant.result_of (meant.heading_of s r).scope r) (meant.heading_of s r).parameters
kind_valued s (syntax.procedure gs) = tt
kind_valued s (syntax.function gs i) = groups_valued (record { parameters = []; scope = s }) gs tt
kind_valued s syntax.invariants = tt

-- ---- a routine

pub record RoutineLists (l : Layer) (r : syntax.Routine) (m : RoutineMeaning) : Type 0 where
  -- of its parameters, and of its variables
  pub first : List Noted
  pub second : List Noted
  pub are : held (routine_inner l r).names ≡ first ++ second
  pub heads : InOrder m.parameters first
  pub locals : InOrder (as_values m.variables) second
  pub count : length (heading (open_routine l r.name.name).1 r.name.name r.kind).0.parameters ≡ length m.parameters
  pub values : AreValuesIf m.result m.parameters

pub routine_lists : (l : Layer) (s : Scope) (r : syntax.Routine) → RoutineLists l r (routine_in (with_routine s r) r)
routine_lists l s r =
    let x : Layer = (open_routine l r.name.name).1 in
    let h : layers.Heading × Layer = heading x r.name.name r.kind in
    let k : Layer = with_heading h.1 h.0 in
    let p : Layer = routine_begun l r in
    let t : Scope = with_routine s r in
    let m : RoutineMeaning = routine_in t r in
    let a : HeadTakes x h m.parameters = heading_takes x t r.name.name r.kind in
    let b : More k p [] m.variables = parts_list k (record { variables = []; scope = (meant.heading_of t r.kind).scope }) r.parts in
    let i : Inner x p = routine_inner l r in
    let all : p.noted ≡ x.noted ++ (a.0.names ++ b.lists.names) = b.lists.noted ∙ (ap (λ (ds : List Noted). ds ++ b.lists.names) a.0.noted ∙ append_assoc x.noted a.0.names b.lists.names) in
    record {
      first = held a.0.names;
      second = held b.lists.names;
      are = ap held (append_cancel_left x.noted i.names (a.0.names ++ b.lists.names) (sym i.noted ∙ all)) ∙ held_append a.0.names b.lists.names;
      heads = a.0.order;
      locals = subst (λ (vs : List Variable). InOrder (as_values vs) (held b.lists.names)) (sym b.is) b.lists.order;
      count = a.1;
      values = kind_valued t r.kind;
    }
