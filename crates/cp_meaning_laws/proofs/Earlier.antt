-- What is declared speaks of the system types before it alone.
use Rattle.std.proofs.Common.{◌≡◌, ℕ, zero, suc, ◌+◌, ◌<◌, ◌≤◌, ◌∙◌, ◌⊎◌, inl, inr, Bool, true, false, if◌then◌else◌, List, [], ◌∷◌, ◌++◌, length, slice_get, get_or, Option, Some, None, ap, sym, refl, subst, arith}
use Rattle.std.proofs.lemmas.Option.{slice_get_cases}
use Rattle.cp_tree.specs.Syntax.{Simple, type_name, enumeration, subrange, TypeTerm, simple, array_of, set_type, record_of, FieldGroups, no_fields, more_fields, FieldGroup, fields, ConstantDefinition, TypeDefinition, VariableGroup, Part, constants, types, variables, Group, System, Definition, type_definition, system_definition, SystemDefinition, ProgramPart, program_constants, program_types, program_variables, Program}
use Rattle.cp_meaning.specs.Names.{Name, same_name}
use Rattle.cp_meaning.specs.Types.{Base, Ty, ordinal, queue_type, set_over, array_over, record_with, component_of}
use Rattle.cp_meaning.specs.Scopes.{Meaning, constant_meaning, type_meaning, local_variable, permanent_variable, routine_meaning, standard_meaning, Scope, is_seen, seen_inside, predeclared}
use Rattle.cp_meaning.specs.Declarations.{type_named, names_of, with_constants, simple_in, type_in, fields_in, group_in, Variable, Block, constant_of, constants_in, types_in, named_variables, with_names, variables_in, part_in, parts_in, Parameter, Heading, parameters_named, with_group, with_groups}
use Rattle.cp_meaning.specs.Systems.{SystemMeaning, system_in, Declared, definition_in, definitions_in, program_part_in, program_parts_in, declared, own_meaning, or_own, system_of}
use Rattle.cp_meaning.specs.WellFormed.{HasEarlier}

-- ---- types, meanings and scopes that speak of system types below k

abbrev pub TyBelow : ℕ → Ty → Type 0
TyBelow k (ordinal r) = Unit {0}
TyBelow k queue_type = Unit {0}
TyBelow k (set_over r) = Unit {0}
TyBelow k (array_over r t) = TyBelow k t
TyBelow k (record_with ts) = Unit {0}
TyBelow k (component_of j) = j < k

abbrev MeaningBelow : ℕ → Meaning → Type 0
MeaningBelow k (type_meaning t) = TyBelow k t
MeaningBelow k _ = Unit {0}

abbrev ScopeBelow : ℕ → Scope → Type 0
ScopeBelow k [] = Unit {0}
ScopeBelow k (d ∷ ds) = MeaningBelow k d.1 × ScopeBelow k ds

more_ty : (k : ℕ) (t : Ty) → TyBelow k t → TyBelow (suc k) t
more_ty k (array_over r t) h = more_ty k t h
more_ty k (component_of j) h = omega arith
more_ty k _ h = tt

more_meaning : (k : ℕ) (m : Meaning) → MeaningBelow k m → MeaningBelow (suc k) m
more_meaning k (type_meaning t) h = more_ty k t h
more_meaning k _ h = tt

more_scope : (k : ℕ) (s : Scope) → ScopeBelow k s → ScopeBelow (suc k) s
more_scope k [] h = tt
more_scope k (d ∷ ds) h = (more_meaning k d.1 h.0, more_scope k ds h.1)

seen_below : (k : ℕ) (s : Scope) → ScopeBelow k s → ScopeBelow k (seen_inside s)
seen_below k [] h = tt
seen_below k (d ∷ ds) h = go (is_seen d.1) (seen_below k ds h.1)
  where
    go : (b : Bool) → ScopeBelow k (seen_inside ds) → ScopeBelow k (if b then d ∷ seen_inside ds else seen_inside ds)
    go true rest = (h.0, rest)
    go false rest = rest

found_below : (k : ℕ) (x : Name) (s : Scope) → ScopeBelow k s → TyBelow k (type_named s x)
found_below k x [] h = tt
found_below k x ((n, constant_meaning b z) ∷ ds) h = found_below k x ds h.1
found_below k x ((n, type_meaning t) ∷ ds) h = go (same_name x n) (found_below k x ds h.1)
  where
    go : (b : Bool) → TyBelow k (type_named ds x) → TyBelow k (if b then t else type_named ds x)
    go true rest = h.0
    go false rest = rest
found_below k x ((n, local_variable t) ∷ ds) h = found_below k x ds h.1
found_below k x ((n, permanent_variable t) ∷ ds) h = found_below k x ds h.1
found_below k x ((n, routine_meaning r) ∷ ds) h = found_below k x ds h.1
found_below k x ((n, standard_meaning s) ∷ ds) h = found_below k x ds h.1

-- ---- types as they are written

enumerated_below : (k : ℕ) (b : Base) (n : ℕ) (xs : List Name) (s : Scope) → ScopeBelow k s → ScopeBelow k (with_constants b n xs s)
enumerated_below k b n [] s h = h
enumerated_below k b n (x ∷ xs) s h = enumerated_below k b (suc n) xs _ (tt, h)

simple_below : (k : ℕ) (s : Scope) (t : Simple) → ScopeBelow k s → TyBelow k (simple_in s t).0 × ScopeBelow k (simple_in s t).1
simple_below k s (type_name at x) h = (found_below k x s h, h)
simple_below k s (enumeration at is) h = (tt, enumerated_below k _ 0 (names_of is) s h)
simple_below k s (subrange at c d) h = (tt, h)

mutual
  type_below : (k : ℕ) (s : Scope) (t : TypeTerm) → ScopeBelow k s → TyBelow k (type_in s t).0 × ScopeBelow k (type_in s t).1
  type_below k s (simple at t) h = simple_below k s t h
  type_below k s (array_of at i t) h = type_below k (simple_in s i).1 t (simple_below k s i h).1
  type_below k s (set_type at t) h = (tt, (simple_below k s t h).1)
  type_below k s (record_of at gs b) h = (tt, fields_below k s gs h)

  fields_below : (k : ℕ) (s : Scope) (gs : FieldGroups) → ScopeBelow k s → ScopeBelow k (fields_in s gs).1
  fields_below k s no_fields h = h
  fields_below k s (more_fields g gs) h = fields_below k (group_in s g).2 gs (group_below k s g h)

  group_below : (k : ℕ) (s : Scope) (g : FieldGroup) → ScopeBelow k s → ScopeBelow k (group_in s g).2
  group_below k s (fields is t) h = (type_below k s t h).1

-- ---- declarations

constants_below : (k : ℕ) (s : Scope) (ds : List ConstantDefinition) → ScopeBelow k s → ScopeBelow k (constants_in s ds)
constants_below k s [] h = h
constants_below k s (d ∷ ds) h = constants_below k ((d.name.name, constant_meaning (constant_of s d.value).0 (constant_of s d.value).1) ∷ s) ds (tt, h)

types_below : (k : ℕ) (s : Scope) (ds : List TypeDefinition) → ScopeBelow k s → ScopeBelow k (types_in s ds)
types_below k s [] h = h
types_below k s (d ∷ ds) h = types_below k ((d.name.name, type_meaning (type_in s d.value).0) ∷ (type_in s d.value).1) ds (type_below k s d.value h)

abbrev pub VariablesBelow : ℕ → List Variable → Type 0
VariablesBelow k [] = Unit {0}
VariablesBelow k (v ∷ vs) = TyBelow k v.ty × VariablesBelow k vs

more_variables : (k : ℕ) (vs : List Variable) → VariablesBelow k vs → VariablesBelow (suc k) vs
more_variables k [] h = tt
more_variables k (v ∷ vs) h = (more_ty k v.ty h.0, more_variables k vs h.1)

any_variables : (k : ℕ) (vs : List Variable) (j : ℕ) → k ≤ j → VariablesBelow k vs → VariablesBelow j vs
any_variables k [] j le h = tt
any_variables k (v ∷ vs) j le h = (go v.ty h.0, any_variables k vs j le h.1)
  where
    go : (t : Ty) → TyBelow k t → TyBelow j t
    go (ordinal r) below = tt
    go queue_type below = tt
    go (set_over r) below = tt
    go (array_over r t) below = go t below
    go (record_with ts) below = tt
    go (component_of i) below = omega arith

append_variables : (k : ℕ) (vs us : List Variable) → VariablesBelow k vs → VariablesBelow k us → VariablesBelow k (vs ++ us)
append_variables k [] us h g = g
append_variables k (v ∷ vs) us h g = (h.0, append_variables k vs us h.1 g)

named_below : (k : ℕ) (xs : List Name) (t : Ty) → TyBelow k t → VariablesBelow k (named_variables xs t)
named_below k [] t h = tt
named_below k (x ∷ xs) t h = (h, named_below k xs t h)

with_names_below : (k : ℕ) (xs : List Name) (m : Meaning) (s : Scope) → MeaningBelow k m → ScopeBelow k s → ScopeBelow k (with_names xs m s)
with_names_below k [] m s below h = h
with_names_below k (x ∷ xs) m s below h = with_names_below k xs m _ below (below, h)

abbrev BlockBelow : ℕ → Block → Type 0
BlockBelow k b = VariablesBelow k b.variables × ScopeBelow k b.scope

variables_below : (k : ℕ) (b : Block) (gs : List VariableGroup) → BlockBelow k b → BlockBelow k (variables_in permanent_variable b gs)
variables_below k b [] h = h
variables_below k b (g ∷ gs) h =
    let inner = type_below k b.scope g.variable_type h.1 in
    variables_below k (record { variables = b.variables ++ named_variables (names_of g.names) (type_in b.scope g.variable_type).0; scope = with_names (names_of g.names) (permanent_variable (type_in b.scope g.variable_type).0) (type_in b.scope g.variable_type).1 }) gs (append_variables k b.variables _ h.0 (named_below k (names_of g.names) _ inner.0), with_names_below k (names_of g.names) _ _ tt inner.1)

part_below : (k : ℕ) (b : Block) (p : Part) → BlockBelow k b → BlockBelow k (part_in permanent_variable b p)
part_below k b (constants at ds) h = (h.0, constants_below k b.scope ds h.1)
part_below k b (types at ds) h = (h.0, types_below k b.scope ds h.1)
part_below k b (variables at gs) h = variables_below k b gs h

parts_below : (k : ℕ) (b : Block) (ps : List Part) → BlockBelow k b → BlockBelow k (parts_in permanent_variable b ps)
parts_below k b [] h = h
parts_below k b (p ∷ ps) h = parts_below k (part_in permanent_variable b p) ps (part_below k b p h)

abbrev pub ParametersBelow : ℕ → List Parameter → Type 0
ParametersBelow k [] = Unit {0}
ParametersBelow k (q ∷ qs) = TyBelow k q.ty × ParametersBelow k qs

append_parameters : (k : ℕ) (qs rs : List Parameter) → ParametersBelow k qs → ParametersBelow k rs → ParametersBelow k (qs ++ rs)
append_parameters k [] rs h g = g
append_parameters k (q ∷ qs) rs h g = (h.0, append_parameters k qs rs h.1 g)

parameters_below : (k : ℕ) (xs : List Name) (t : Ty) (b : Bool) → TyBelow k t → ParametersBelow k (parameters_named xs t b)
parameters_below k [] t b h = tt
parameters_below k (x ∷ xs) t b h = (h, parameters_below k xs t b h)

groups_below : (k : ℕ) (h : Heading) (gs : List Group) → ParametersBelow k h.parameters → ScopeBelow k h.scope → ParametersBelow k (with_groups permanent_variable h gs).parameters × ScopeBelow k (with_groups permanent_variable h gs).scope
groups_below k h [] below scope = (below, scope)
groups_below k h (g ∷ gs) below scope =
    let named = found_below k g.type_name.name h.scope scope in
    groups_below k (with_group permanent_variable false h g) gs (append_parameters k h.parameters _ below (parameters_below k (names_of g.names) _ false named)) (with_names_below k (names_of g.names) _ h.scope tt scope)

-- ---- system types

abbrev pub SystemBelow : ℕ → SystemMeaning → Type 0
SystemBelow k m = ParametersBelow k m.parameters × VariablesBelow k m.variables

system_below : (k : ℕ) (s : Scope) (y : System) → ScopeBelow k s → SystemBelow k (system_in s y)
system_below k s y h =
    let heading = groups_below k (record { parameters = []; scope = s }) y.parameters tt h in
    (heading.0, (parts_below k (record { variables = []; scope = _ }) y.parts (tt, heading.1)).0)

-- each is below its own place, the first at n
abbrev EachBelow : ℕ → List SystemMeaning → Type 0
EachBelow n [] = Unit {0}
EachBelow n (m ∷ ms) = SystemBelow n m × EachBelow (suc n) ms

each_more : (n : ℕ) (ms : List SystemMeaning) (m : SystemMeaning) → EachBelow n ms → SystemBelow (length ms + n) m → EachBelow n (ms ++ m ∷ [])
each_more n [] m h last = (subst (λ k. SystemBelow k m) (omega arith) last, tt)
each_more n (x ∷ ms) m h last = (h.0, each_more (suc n) ms m h.1 (subst (λ k. SystemBelow k m) (omega arith) last))

abbrev some_or : SystemMeaning → Option SystemMeaning → SystemMeaning
some_or m None = m
some_or m (Some x) = x

each_at : (n : ℕ) (ms : List SystemMeaning) (k : ℕ) (m : SystemMeaning) → EachBelow n ms → slice_get ms k ≡ Some m → SystemBelow (k + n) m
each_at n [] k m h e = absurd (let bad : None ≡ Some m = e in cc)
each_at n (x ∷ ms) zero m h e = subst (λ y. SystemBelow (0 + n) y) (ap (some_or x) e) (subst (λ k. SystemBelow k x) (omega arith) h.0)
each_at n (x ∷ ms) (suc k) m h e = subst (λ j. SystemBelow j m) (omega arith) (each_at (suc n) ms k m h.1 e)

abbrev DeclaredBelow : Declared → Type 0
DeclaredBelow d = EachBelow 0 d.systems × VariablesBelow (length d.systems) d.variables × ScopeBelow (length d.systems) d.scope

one_more : (ms : List SystemMeaning) (m : SystemMeaning) → length (ms ++ m ∷ []) ≡ suc (length ms)
one_more [] m = refl
one_more (x ∷ ms) m = ap suc (one_more ms m)

definition_below : (d : Declared) (n : SystemDefinition) (v : Definition) → DeclaredBelow d → DeclaredBelow (definition_in d n v)
definition_below d n (type_definition t) h = let inner = type_below (length d.systems) d.scope t h.2 in (h.0, h.1, (inner.0, inner.1))
definition_below d n (system_definition y) h =
    let size = one_more d.systems (system_in (seen_inside d.scope) y) in
    let own = system_below (length d.systems) (seen_inside d.scope) y (seen_below (length d.systems) d.scope h.2) in (
      each_more 0 d.systems _ h.0 (subst (λ k. SystemBelow k (system_in (seen_inside d.scope) y)) (omega arith) own),
      subst (λ k. VariablesBelow k d.variables) (sym size) (more_variables _ d.variables h.1),
      subst (λ k. (length d.systems < k) × ScopeBelow k d.scope) (sym size) (omega arith, more_scope _ d.scope h.2),
    )

definitions_below : (d : Declared) (ns : List SystemDefinition) → DeclaredBelow d → DeclaredBelow (definitions_in d ns)
definitions_below d [] h = h
definitions_below d (n ∷ ns) h = definitions_below (definition_in d n n.value) ns (definition_below d n n.value h)

program_part_below : (d : Declared) (p : ProgramPart) → DeclaredBelow d → DeclaredBelow (program_part_in d p)
program_part_below d (program_constants at ds) h = (h.0, h.1, constants_below _ d.scope ds h.2)
program_part_below d (program_types at ns) h = definitions_below d ns h
program_part_below d (program_variables at gs) h =
    let block = variables_below (length d.systems) (record { variables = d.variables; scope = d.scope }) gs (h.1, h.2) in
    (h.0, block.0, block.1)

program_parts_below : (d : Declared) (ps : List ProgramPart) → DeclaredBelow d → DeclaredBelow (program_parts_in d ps)
program_parts_below d [] h = h
program_parts_below d (p ∷ ps) h = program_parts_below (program_part_in d p) ps (program_part_below d p h)

declared_below : (p : Program) → DeclaredBelow (declared p)
declared_below p = program_parts_below (record { systems = []; variables = []; scope = predeclared }) p.parts (tt, tt, (tt, (tt, (tt, (tt, (tt, (tt, (tt, (tt, (tt, (tt, (tt, (tt, (tt, (tt, (tt, tt))))))))))))))))

-- what a system type declares is of earlier types
pub systems_below : (p : Program) (k : ℕ) → SystemBelow k (system_of p k)
systems_below p k = go (slice_get (declared p).systems k) refl (slice_get_cases (declared p).systems k).1
  where
    own : length (declared p).systems ≤ k → SystemBelow k (own_meaning (declared p) p)
    own le = (tt, any_variables _ (declared p).variables k le (declared_below p).1)

    go : (o : Option SystemMeaning) → slice_get (declared p).systems k ≡ o → ((m : SystemMeaning) × (k < length (declared p).systems) × (slice_get (declared p).systems k ≡ Some m) × (get_or (declared p).systems k m ≡ m)) ⊎ ((length (declared p).systems ≤ k) × (slice_get (declared p).systems k ≡ None)) → SystemBelow k (or_own (own_meaning (declared p) p) o)
    go (Some m) e cases = subst (λ j. SystemBelow j m) (omega arith) (each_at 0 (declared p).systems k m (declared_below p).0 e)
    go None e (inl h) = absurd (let bad : None ≡ Some h.0 = sym e ∙ h.2 in cc)
    go None e (inr h) = own h.0

earlier_parameters : (k : ℕ) (qs : List Parameter) → ParametersBelow k qs → HasEarlier k qs
earlier_parameters k [] h = tt
earlier_parameters k (q ∷ qs) h = ((λ j e. subst (TyBelow k) e h.0), earlier_parameters k qs h.1)

pub parameters_earlier : (p : Program) (k : ℕ) → HasEarlier k (system_of p k).parameters
parameters_earlier p k = earlier_parameters k (system_of p k).parameters (systems_below p k).0
