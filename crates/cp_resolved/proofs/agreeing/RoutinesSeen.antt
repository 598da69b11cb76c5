-- Which routines are visible in the body of a routine: those around it, since what it declares itself are no routines.
use Rattle.cp_resolved.proofs.Words.{◌≡◌, ℕ, suc, Bool, true, false, if◌then◌else◌, List, [], ◌∷◌, ◌++◌, Some, refl, subst, Name, same_name, with_routine, is_entry_in}
use Rattle.cp_tree.specs.Syntax as syntax
use Rattle.cp_meaning.specs.Types.{Base, enumerated, Ty}
use Rattle.cp_meaning.specs.Scopes.{Meaning, Scope, local_variable, routine_meaning, find, since}
use Rattle.cp_meaning.specs.Declarations.{with_constants, simple_in, type_in, fields_in, names_of, constants_in, types_in, with_names, Block, named_variables, variables_in, part_in, parts_in, Heading, type_named, with_group, with_groups, with_parameter_groups, heading_of, routine_in}

abbrev pub IsNoRoutine : Meaning → Type 0
IsNoRoutine (routine_meaning r) = ⊥
IsNoRoutine d = Unit {0}

-- ---- what stays when no routine is declared

module _ (P : Scope → Type 0) (step : (x : Name) (d : Meaning) (s : Scope) → IsNoRoutine d → P s → P ((x, d) ∷ s)) where
  counted : (b : Base) (n : ℕ) (xs : List Name) (s : Scope) → P s → P (with_constants b n xs s)
  counted b n [] s h = h
  counted b n (x ∷ xs) s h = counted b (suc n) xs (_ ∷ s) (step x _ s tt h)

  simple : (s : Scope) (t : syntax.Simple) → P s → P (simple_in s t).1
  simple s (syntax.enumeration at is) h = counted (enumerated at (names_of is)) 0 (names_of is) s h
  simple s _ h = h

  mutual
    pub written : (s : Scope) (t : syntax.TypeTerm) → P s → P (type_in s t).1
    written s (syntax.simple at t) h = simple s t h
    written s (syntax.array_of at t u) h = written (simple_in s t).1 u (simple s t h)
    written s (syntax.set_type at t) h = simple s t h
    written s (syntax.record_of at gs b) h = fields s gs h

    fields : (s : Scope) (gs : syntax.FieldGroups) → P s → P (fields_in s gs).1
    fields s syntax.no_fields h = h
    fields s (syntax.more_fields (syntax.fields is t) gs) h = fields (type_in s t).1 gs (written s t h)

  pub constants : (s : Scope) (ds : List syntax.ConstantDefinition) → P s → P (constants_in s ds)
  constants s [] h = h
  constants s (d ∷ ds) h = constants (_ ∷ s) ds (step d.name.name _ s tt h)

  types : (s : Scope) (ds : List syntax.TypeDefinition) → P s → P (types_in s ds)
  types s [] h = h
  types s (d ∷ ds) h = types (_ ∷ (type_in s d.value).1) ds (step d.name.name _ (type_in s d.value).1 tt (written s d.value h))

  named : (xs : List Name) (m : Meaning) (s : Scope) → IsNoRoutine m → P s → P (with_names xs m s)
  named [] m s i h = h
  named (x ∷ xs) m s i h = named xs m ((x, m) ∷ s) i (step x m s i h)

  module _ (m : Ty → Meaning) (no : (t : Ty) → IsNoRoutine (m t)) where
    pub variables : (b : Block) (gs : List syntax.VariableGroup) → P b.scope → P (variables_in m b gs).scope
    variables b [] h = h
    variables b (g ∷ gs) h =
        let inner = type_in b.scope g.variable_type in
        variables (record { variables = b.variables ++ named_variables (names_of g.names) inner.0; scope = with_names (names_of g.names) (m inner.0) inner.1 }) gs (named (names_of g.names) (m inner.0) inner.1 (no inner.0) (written b.scope g.variable_type h))

    part : (b : Block) (p : syntax.Part) → P b.scope → P (part_in m b p).scope
    part b (syntax.constants at ds) h = constants b.scope ds h
    part b (syntax.types at ds) h = types b.scope ds h
    part b (syntax.variables at gs) h = variables b gs h

    pub parts : (b : Block) (ps : List syntax.Part) → P b.scope → P (parts_in m b ps).scope
    parts b [] h = h
    parts b (p ∷ ps) h = parts (part_in m b p) ps (part b p h)

    group : (v : Bool) (k : Heading) (g : syntax.Group) → P k.scope → P (with_group m v k g).scope
    group v k g h = named (names_of g.names) (m (type_named k.scope g.type_name.name)) k.scope (no (type_named k.scope g.type_name.name)) h

    pub groups : (k : Heading) (gs : List syntax.Group) → P k.scope → P (with_groups m k gs).scope
    groups k [] h = h
    groups k (g ∷ gs) h = groups (with_group m false k g) gs (group false k g h)

  parameters : (k : Heading) (gs : List syntax.ParameterGroup) → P k.scope → P (with_parameter_groups k gs).scope
  parameters k [] h = h
  parameters k (g ∷ gs) h = parameters (with_group local_variable g.is_var k g.group) gs (group local_variable (λ t. tt) g.is_var k g.group h)

  headed : (s : Scope) (k : syntax.RoutineKind) → P s → P (heading_of s k).scope
  headed s (syntax.procedure gs) h = parameters (record { parameters = []; scope = s }) gs h
  headed s (syntax.function gs i) h = groups local_variable (λ t. tt) (record { parameters = []; scope = s }) gs h
  headed s syntax.invariants h = parameters (record { parameters = []; scope = s }) [] h

  pub in_body : (s : Scope) (r : syntax.Routine) → P s → P (routine_in s r).scope
  in_body s r h = parts local_variable (λ t. tt) (record { variables = []; scope = (heading_of s r.kind).scope }) r.parts (headed s r.kind h)

-- ---- the latest routine

entry_step : (b : Bool) (x : Name) (d : Meaning) (s : Scope) → IsNoRoutine d → is_entry_in s ≡ b → is_entry_in ((x, d) ∷ s) ≡ b
entry_step b x (routine_meaning r) s i h = absurd i
entry_step b x _ s i h = h

-- in the scope of a routine's body it is the routine itself
pub body_entry : (m : Scope) (r : syntax.Routine) → is_entry_in (routine_in (with_routine m r) r).scope ≡ r.is_entry
body_entry m r = in_body (λ (s : Scope). is_entry_in s ≡ r.is_entry) (entry_step r.is_entry) (with_routine m r) r refl

-- ---- a routine that is found

-- what a scope finds as a routine another one finds too
abbrev pub FindsNoMore : Scope → Scope → Type 0
FindsNoMore k s = (y : Name) (r : syntax.Routine) → find y s ≡ Some (routine_meaning r) → (find y k ≡ Some (routine_meaning r)) × (since y s ≡ since y k)

found_step : (k : Scope) (x : Name) (d : Meaning) (s : Scope) → IsNoRoutine d → FindsNoMore k s → FindsNoMore k ((x, d) ∷ s)
found_step k x d s i h y r e = go (same_name y x) e
  where
    go : (b : Bool) → (if b then Some d else find y s) ≡ Some (routine_meaning r) → (find y k ≡ Some (routine_meaning r)) × ((if b then (x, d) ∷ s else since y s) ≡ since y k)
    go true f = absurd (subst IsNoRoutine (let g : d ≡ routine_meaning r = cc in g) i)
    go false f = h y r f

pub body_finds : (k : Scope) (r : syntax.Routine) → FindsNoMore k (routine_in k r).scope
body_finds k r = in_body (FindsNoMore k) (found_step k) k r (λ y q e. (e, refl))

-- with one routine more it is this or one of those before
pub routine_or : (m : Scope) (r : syntax.Routine) (y : Name) (q : syntax.Routine) → find y (with_routine m r) ≡ Some (routine_meaning q) →
    (U : Type 0) → (q ≡ r → since y (with_routine m r) ≡ with_routine m r → U) → (find y m ≡ Some (routine_meaning q) → since y (with_routine m r) ≡ since y m → U) → U
routine_or m r y q e U own other = go (same_name y r.name.name) e own other
  where
    go : (b : Bool) → (if b then Some (routine_meaning r) else find y m) ≡ Some (routine_meaning q) → (q ≡ r → (if b then with_routine m r else since y m) ≡ with_routine m r → U) → (find y m ≡ Some (routine_meaning q) → (if b then with_routine m r else since y m) ≡ since y m → U) → U
    go true f a b = a (let g : routine_meaning r ≡ routine_meaning q = cc in cc) refl
    go false f a b = b f refl

-- and what a routine declares leaves it so
pub body_scope_entry : (s : Scope) (r : syntax.Routine) → is_entry_in (routine_in s r).scope ≡ is_entry_in s
body_scope_entry s r = in_body (λ (k : Scope). is_entry_in k ≡ is_entry_in s) (entry_step (is_entry_in s)) s r refl
