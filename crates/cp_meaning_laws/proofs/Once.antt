-- What breaks no rule declares each variable of a system type once.
use Rattle.std.proofs.Common.{◌≡◌, ℕ, zero, suc, slice_get, ◌∙◌, ◌⊎◌, inl, inr, Bool, true, false, ◌||◌, if◌then◌else◌, List, [], ◌∷◌, ◌++◌, Option, Some, None, Ok, Err, is_some, ap, sym, refl, subst}
use Rattle.cp_meaning_laws.proofs.Words.{bytes_eq, Identifier, CheckFault, C2, Use, Judged, faults, ◌>>=◌, Spot, Ty, after_faults, statements}
use Rattle.std.proofs.lemmas.Slice.Eq.{bytes_eq-Decides}
use Rattle.cp_tree.specs.Syntax.{VariableGroup, Part, constants, types, variables, System, Definition, type_definition, system_definition, SystemDefinition, ProgramPart, program_constants, program_types, program_variables, Tree}
use Rattle.cp_scope.specs.declared.fault.CheckFault.TheVariants as check_fault
use Rattle.cp_scope.specs.declared.types.Meaning as checker
use Rattle.cp_scope.specs.Scopes.{Names, Scope, Scopes, find, is_among, is_declared, is_declared_in, with_name, with_pending, add, reserve, settle, enter, start}
use Rattle.cp_check.specs.declared.types.Spot.TheVariants as spot
use Rattle.cp_check.specs.Types.{then_step, nothing, typed}
use Rattle.cp_check.specs.Declarations.{reserve_name, reserve_names, add_names, add_all, meaning_or_none, to_kind, to_variable, variable_step, variable_steps, part_step, part_steps}
use Rattle.cp_check.specs.Systems as systems
use Rattle.cp_check.specs.Faults.{declarations, program_context, declarations_and_body, limit_faults, faults_of}
use Rattle.cp_check.specs.Routines.{routine_steps}
use Rattle.cp_scope.specs.Counts.{no_use}
use Rattle.cp_meaning.specs.Scopes as meant
use Rattle.cp_meaning.specs.Declarations.{Variable, Block, names_of, with_names, type_in, named_variables, variables_in, part_in, parts_in}
use Rattle.cp_meaning.specs.Systems.{SystemMeaning, system_in, Declared, definition_in, definitions_in, program_part_in, program_parts_in, declared, own_meaning, or_own}
use Rattle.cp_meaning_laws.proofs.Paths.{IsNamed, AreDistinct, HasDistinct}
use Rattle.cp_meaning_laws.proofs.Kept.{Keeps, names_added, variable_kept, constants_kept, types_kept, definition_kept}

-- ---- lists of faults

pub no_left : (fs gs : List CheckFault) → fs ++ gs ≡ [] → fs ≡ []
no_left [] gs h = refl
no_left (f ∷ fs) gs h = absurd (let bad : f ∷ (fs ++ gs) ≡ [] = h in cc)

pub no_right : (fs gs : List CheckFault) → fs ++ gs ≡ [] → gs ≡ []
no_right [] gs h = h
no_right (f ∷ fs) gs h = absurd (let bad : f ∷ (fs ++ gs) ≡ [] = h in cc)

pub no_first : {A B : Type 0} (j : Judged A) (f : A → Judged B) → faults (j >>= f) ≡ [] → faults j ≡ []
no_first (Ok a) f h = refl
no_first (Err fs) f h = h

pub none_before : {A : Type 0} (fs : List CheckFault) (j : Judged A) → faults (after_faults fs j) ≡ [] → fs ≡ []
none_before [] j h = refl
none_before (f ∷ fs) j h = absurd (let bad : f ∷ (fs ++ faults j) ≡ [] = h in cc)

-- ---- names that are declared

abbrev IsKnown : List ℕ → Names → Type 0
IsKnown x ds = is_some (find x ds) ≡ true

pub some_is : {A : Type 0} (o : Option A) → is_some o ≡ true → (a : A) × (o ≡ Some a)
some_is None h = absurd (let bad : false ≡ true = h in cc)
some_is (Some a) h = (a, refl)

known_kept : (s t : Scopes) → Keeps s t → (x : List ℕ) → IsKnown x s.inner.names → IsKnown x t.inner.names
known_kept s t h x e = let there = some_is (find x s.inner.names) e in ap is_some (h.names x there.0 there.1)

pub itself : (x : List ℕ) → bytes_eq x x ≡ true
itself x = (bytes_eq-Decides x x).1 refl

last_found : (x : List ℕ) (ds : Names) (m : Option checker.Meaning) → is_some (find x (ds ++ (x, m) ∷ [])) ≡ true
last_found x [] m = rw (itself x) refl
last_found x (d ∷ ds) m = go (bytes_eq x d.0) (last_found x ds m)
  where
    go : (b : Bool) → is_some (find x (ds ++ (x, m) ∷ [])) ≡ true → is_some (if b then Some d.1 else find x (ds ++ (x, m) ∷ [])) ≡ true
    go true rest = refl
    go false rest = rest

name_known : (c : Scope) (x : List ℕ) (m : Option checker.Meaning) → IsKnown x (with_name c x m).names
name_known c x m = go (is_some (find x c.names)) refl
  where
    go : (b : Bool) → is_some (find x c.names) ≡ b → is_some (find x (let e : Scope = (if b then c else record { names = c.names ++ (x, m) ∷ []; pending = c.pending; is_sealed = c.is_sealed }) in e.names)) ≡ true
    go true e = e
    go false e = last_found x c.names m

abbrev AreKnown : Names → List Identifier → Type 0
AreKnown ds [] = Unit {0}
AreKnown ds (n ∷ ns) = IsKnown n.name ds × AreKnown ds ns

added_known : (s : Scopes) (ns : List Identifier) (m : Option checker.Meaning) → AreKnown (add_names s ns m).inner.names ns
unfolding add_names add
added_known s [] m = tt
added_known s (n ∷ ns) m = (known_kept (add s n.name m) _ (names_added (add s n.name m) ns m) n.name (name_known s.inner n.name m), added_known (add s n.name m) ns m)

all_known : (s : Scopes) (ns : List Identifier) (m : Option checker.Meaning) → AreKnown (add_all s ns m).inner.names ns
unfolding add_all settle
all_known s ns m = added_known s ns m

-- ---- names that are being declared

abbrev AreNew : Scopes → List Identifier → Type 0
AreNew s [] = Unit {0}
AreNew s (n ∷ ns) = (is_declared s n.name ≡ false) × AreNew s ns

abbrev IsOther : List ℕ → List Identifier → Type 0
IsOther x [] = Unit {0}
IsOther x (n ∷ ns) = (x ≡ n.name → ⊥) × IsOther x ns

abbrev AreOthers : List Identifier → Type 0
AreOthers [] = Unit {0}
AreOthers (n ∷ ns) = IsOther n.name ns × AreOthers ns

pub or_left : (a b : Bool) → (a || b) ≡ false → a ≡ false
or_left true b h = h
or_left false b h = refl

pub or_right : (a b : Bool) → (a || b) ≡ false → b ≡ false
or_right true b h = absurd (let bad : true ≡ false = h in cc)
or_right false b h = h

or_both : (a b : Bool) → a ≡ false → b ≡ false → (a || b) ≡ false
or_both true b h g = h
or_both false b h g = g

not_last : (x n : List ℕ) (ms : List (List ℕ)) → is_among x (ms ++ n ∷ []) ≡ false → (is_among x ms ≡ false) × (n ≡ x → ⊥)
not_last x n [] h = (refl, λ e. go e)
  where
    go : n ≡ x → ⊥
    go e = let bad : true ≡ false = sym (rw ((bytes_eq-Decides x n).1 (sym e)) refl) ∙ h in absurd cc
not_last x n (m ∷ ms) h = go (bytes_eq x m) h (not_last x n ms)
  where
    go : (b : Bool) → (if b then true else is_among x (ms ++ n ∷ [])) ≡ false → (is_among x (ms ++ n ∷ []) ≡ false → (is_among x ms ≡ false) × (n ≡ x → ⊥)) → ((if b then true else is_among x ms) ≡ false) × (n ≡ x → ⊥)
    go true e rest = absurd (let bad : true ≡ false = e in cc)
    go false e rest = rest e

new_before : (c : Scope) (n x : List ℕ) → is_declared_in c n ≡ false → is_declared_in (with_pending c n) x ≡ false → (is_declared_in c x ≡ false) × (n ≡ x → ⊥)
new_before c n x fresh h = go (is_among n c.pending) (or_right _ _ fresh) h
  where
    go : (b : Bool) → b ≡ false → is_declared_in (if b then c else record { names = c.names; pending = c.pending ++ n ∷ []; is_sealed = c.is_sealed }) x ≡ false → (is_declared_in c x ≡ false) × (n ≡ x → ⊥)
    go true e k = absurd (let bad : true ≡ false = e in cc)
    go false e k =
        let other = not_last x n c.pending (or_right _ _ k) in
        (or_both (is_some (find x c.names)) (is_among x c.pending) (or_left _ _ k) other.0, other.1)

new_all : (s : Scopes) (n : Identifier) (ns : List Identifier) → is_declared s n.name ≡ false → AreNew (reserve s n.name) ns → AreNew s ns × IsOther n.name ns
unfolding reserve
new_all s n [] fresh h = (tt, tt)
new_all s n (m ∷ ns) fresh h =
    let here = new_before s.inner n.name m.name fresh h.0 in
    let rest = new_all s n ns fresh h.1 in
    ((here.0, rest.0), (here.1, rest.1))

names_new : (s : Scopes) (ns : List Identifier) → (reserve_names s ns).faults ≡ [] → AreNew s ns × AreOthers ns
unfolding reserve_names reserve_name
names_new s [] h = (tt, tt)
names_new s (n ∷ ns) h = go (is_declared s n.name) refl h (λ k. names_new (reserve s n.name) ns k)
  where
    go : (b : Bool) → is_declared s n.name ≡ b → (then_step (if b then record { faults = check_fault.Rule n.at C2 ∷ []; scopes = s } else nothing (reserve s n.name)) (λ t. reserve_names t ns)).faults ≡ [] → ((reserve_names (reserve s n.name) ns).faults ≡ [] → AreNew (reserve s n.name) ns × AreOthers ns) → AreNew s (n ∷ ns) × AreOthers (n ∷ ns)
    go true e k rest = absurd (let bad : check_fault.Rule n.at C2 ∷ (reserve_names s ns).faults ≡ [] = k in cc)
    go false e k rest =
        let inner = rest k in
        let both = new_all s n ns e inner.0 in
        ((e, both.0), (both.1, inner.1))

-- ---- variables

abbrev KnownVariables : Names → List Variable → Type 0
KnownVariables ds [] = Unit {0}
KnownVariables ds (v ∷ vs) = IsKnown v.name ds × KnownVariables ds vs

-- the variables so far have different names, all of them declared
abbrev Once : Scopes → List Variable → Type 0
Once s vs = AreDistinct vs × KnownVariables s.inner.names vs

variables_known : (s t : Scopes) → Keeps s t → (vs : List Variable) → KnownVariables s.inner.names vs → KnownVariables t.inner.names vs
variables_known s t h [] known = tt
variables_known s t h (v ∷ vs) known = (known_kept s t h v.name known.0, variables_known s t h vs known.1)

once_kept : (s t : Scopes) → Keeps s t → (vs : List Variable) → Once s vs → Once t vs
once_kept s t h vs once = (once.0, variables_known s t h vs once.1)

named_known : (ds : Names) (ns : List Identifier) (t : Ty) → AreKnown ds ns → KnownVariables ds (named_variables (names_of ns) t)
named_known ds [] t h = tt
named_known ds (n ∷ ns) t h = (h.0, named_known ds ns t h.1)

known_append : (ds : Names) (vs us : List Variable) → KnownVariables ds vs → KnownVariables ds us → KnownVariables ds (vs ++ us)
known_append ds [] us h g = g
known_append ds (v ∷ vs) us h g = (h.0, known_append ds vs us h.1 g)

named_either : (x : List ℕ) (vs us : List Variable) → IsNamed x (vs ++ us) → IsNamed x vs ⊎ IsNamed x us
named_either x [] us h = inr h
named_either x (v ∷ vs) us (inl e) = inl (inl e)
named_either x (v ∷ vs) us (inr h) = go (named_either x vs us h)
  where
    go : IsNamed x vs ⊎ IsNamed x us → IsNamed x (v ∷ vs) ⊎ IsNamed x us
    go (inl k) = inl (inr k)
    go (inr k) = inr k

not_new : (s : Scopes) (ns : List Identifier) (t : Ty) (x : List ℕ) → IsKnown x s.inner.names → AreNew s ns → IsNamed x (named_variables (names_of ns) t) → ⊥
not_new s [] t x known new h = h
not_new s (n ∷ ns) t x known new (inl e) = let bad : true ≡ false = sym known ∙ ap (λ y. is_some (find y s.inner.names)) e ∙ or_left _ _ new.0 in absurd cc
not_new s (n ∷ ns) t x known new (inr h) = not_new s ns t x known new.1 h

not_other : (ns : List Identifier) (t : Ty) (x : List ℕ) → IsOther x ns → IsNamed x (named_variables (names_of ns) t) → ⊥
not_other [] t x other h = h
not_other (n ∷ ns) t x other (inl e) = other.0 e
not_other (n ∷ ns) t x other (inr h) = not_other ns t x other.1 h

named_distinct : (ns : List Identifier) (t : Ty) → AreOthers ns → AreDistinct (named_variables (names_of ns) t)
named_distinct [] t h = tt
named_distinct (n ∷ ns) t h = ((λ k. not_other ns t n.name h.0 k), named_distinct ns t h.1)

distinct_append : (s : Scopes) (vs : List Variable) (ns : List Identifier) (t : Ty) → Once s vs → AreNew s ns → AreOthers ns → AreDistinct (vs ++ named_variables (names_of ns) t)
distinct_append s [] ns t once new others = named_distinct ns t others
distinct_append s (v ∷ vs) ns t once new others = ((λ k. go (named_either v.name vs _ k)), distinct_append s vs ns t (once.0.1, once.1.1) new others)
  where
    go : IsNamed v.name vs ⊎ IsNamed v.name (named_variables (names_of ns) t) → ⊥
    go (inl k) = once.0.0 k
    go (inr k) = not_new s ns t v.name once.1.0 new k

step_new : (p : Spot) (s : Scopes) (g : VariableGroup) → (variable_step p s g).faults ≡ [] → AreNew s g.names × AreOthers g.names
unfolding variable_step
step_new p s g h = names_new s g.names (no_left _ _ h)

step_known : (p : Spot) (s : Scopes) (g : VariableGroup) → AreKnown (variable_step p s g).scopes.inner.names g.names
unfolding variable_step
step_known p s g = all_known (typed (reserve_names s g.names).scopes p g.variable_type).scopes g.names (meaning_or_none ((typed (reserve_names s g.names).scopes p g.variable_type).type >>= to_variable))

variable_once : (p : Spot) (s : Scopes) (g : VariableGroup) (vs : List Variable) (t : Ty) → (variable_step p s g).faults ≡ [] → Once s vs → Once (variable_step p s g).scopes (vs ++ named_variables (names_of g.names) t)
variable_once p s g vs t h once =
    let new = step_new p s g h in
    (distinct_append s vs g.names t once new.0 new.1, known_append (variable_step p s g).scopes.inner.names vs (named_variables (names_of g.names) t) (variables_known s (variable_step p s g).scopes (variable_kept p s g) vs once.1) (named_known (variable_step p s g).scopes.inner.names g.names t (step_known p s g)))

variables_once : (p : Spot) (s : Scopes) (m : Ty → meant.Meaning) (b : Block) (gs : List VariableGroup) → (variable_steps p s gs).faults ≡ [] → Once s b.variables → Once (variable_steps p s gs).scopes (variables_in m b gs).variables
unfolding variable_steps
variables_once p s m b [] h once = once
variables_once p s m b (g ∷ gs) h once =
    variables_once p (variable_step p s g).scopes m (record { variables = b.variables ++ named_variables (names_of g.names) (type_in b.scope g.variable_type).0; scope = with_names (names_of g.names) (m (type_in b.scope g.variable_type).0) (type_in b.scope g.variable_type).1 }) gs (no_right _ _ h)
    (variable_once p s g b.variables (type_in b.scope g.variable_type).0 (no_left _ _ h) once)

part_once : (p : Spot) (s : Scopes) (m : Ty → meant.Meaning) (b : Block) (d : Part) → (part_step p s d).faults ≡ [] → Once s b.variables → Once (part_step p s d).scopes (part_in m b d).variables
unfolding part_step
part_once p s m b (constants at ds) h once = once_kept s _ (constants_kept s ds) b.variables once
part_once p s m b (types at ds) h once = once_kept s _ (types_kept s ds) b.variables once
part_once p s m b (variables at gs) h once = variables_once p s m b gs h once

parts_once : (p : Spot) (s : Scopes) (m : Ty → meant.Meaning) (b : Block) (ds : List Part) → (part_steps p s ds).faults ≡ [] → Once s b.variables → Once (part_steps p s ds).scopes (parts_in m b ds).variables
unfolding part_steps
parts_once p s m b [] h once = once
parts_once p s m b (d ∷ ds) h once = parts_once p (part_step p s d).scopes m (part_in m b d) ds (no_right _ _ h) (part_once p s m b d (no_left _ _ h) once)

-- ---- system types

system_distinct : (s : Scopes) (y : System) (around : meant.Scope) → (systems.inside s y).faults ≡ [] → AreDistinct (system_in around y).variables
unfolding systems.inside
system_distinct s y around h = (parts_once (spot.Permanent (Some y.kind)) (systems.group_steps y.kind s y.parameters).scopes meant.permanent_variable _ y.parts (no_left _ _ (no_right _ _ h)) (tt, tt)).0

abbrev AllDistinct : List SystemMeaning → Type 0
AllDistinct [] = Unit {0}
AllDistinct (m ∷ ms) = AreDistinct m.variables × AllDistinct ms

all_append : (ms : List SystemMeaning) (m : SystemMeaning) → AllDistinct ms → AreDistinct m.variables → AllDistinct (ms ++ m ∷ [])
all_append [] m h k = (k, tt)
all_append (x ∷ ms) m h k = (h.0, all_append ms m h.1 k)

-- a system type that breaks no rule is made of declarations that break none
pub inside_sound : (s : Scopes) (y : System) → faults (systems.type_of_definition s (system_definition y)).type ≡ [] → (systems.inside (enter true s) y).faults ≡ []
unfolding systems.type_of_definition systems.system_type systems.enter_system
inside_sound s y h = none_before (systems.inside (enter true s) y).faults (statements (systems.inside (enter true s) y).scopes (systems.initial_context y.kind) (Ok no_use) y.body.statements) (no_first (systems.enter_system (enter true s) y).uses (systems.to_component y.kind y.at) h)

definition_once : (s : Scopes) (d : Declared) (n : SystemDefinition) (v : Definition) → faults (systems.type_of_definition s v).type ≡ [] → AllDistinct d.systems → AllDistinct (definition_in d n v).systems
definition_once s d n (type_definition t) h all = all
definition_once s d n (system_definition y) h all = all_append d.systems _ all (system_distinct (enter true s) y _ (inside_sound s y h))

same_variables : (d : Declared) (n : SystemDefinition) (v : Definition) → (definition_in d n v).variables ≡ d.variables
same_variables d n (type_definition t) = refl
same_variables d n (system_definition y) = refl

pub defined_sound : (s : Scopes) (n : SystemDefinition) → (systems.definition_step s n).faults ≡ [] → faults (systems.type_of_definition (reserve_name s n.name).scopes n.value).type ≡ []
unfolding systems.definition_step
defined_sound s n h = no_first (systems.type_of_definition (reserve_name s n.name).scopes n.value).type to_kind (no_right (reserve_name s n.name).faults (faults ((systems.type_of_definition (reserve_name s n.name).scopes n.value).type >>= to_kind)) h)

abbrev ProgramOnce : Scopes → Declared → Type 0
ProgramOnce s d = AllDistinct d.systems × Once s d.variables

definitions_once : (s : Scopes) (d : Declared) (ns : List SystemDefinition) → (systems.definition_steps s ns).faults ≡ [] → ProgramOnce s d → ProgramOnce (systems.definition_steps s ns).scopes (definitions_in d ns)
unfolding systems.definition_steps
definitions_once s d [] h once = once
definitions_once s d (n ∷ ns) h once =
    definitions_once (systems.definition_step s n).scopes (definition_in d n n.value) ns (no_right _ _ h) (
      definition_once (reserve_name s n.name).scopes d n n.value (defined_sound s n (no_left _ _ h)) once.0,
      subst (Once (systems.definition_step s n).scopes) (sym (same_variables d n n.value)) (once_kept s _ (definition_kept s n) d.variables once.1),
    )

program_part_once : (s : Scopes) (d : Declared) (q : ProgramPart) → (systems.program_part_step s q).faults ≡ [] → ProgramOnce s d → ProgramOnce (systems.program_part_step s q).scopes (program_part_in d q)
unfolding systems.program_part_step
program_part_once s d (program_constants at ds) h once = (once.0, once_kept s _ (constants_kept s ds) d.variables once.1)
program_part_once s d (program_types at ns) h once = definitions_once s d ns h once
program_part_once s d (program_variables at gs) h once = (once.0, variables_once (spot.Permanent None) s meant.permanent_variable _ gs h once.1)

pub program_parts_once : (s : Scopes) (d : Declared) (qs : List ProgramPart) → (systems.program_part_steps s qs).faults ≡ [] → ProgramOnce s d → ProgramOnce (systems.program_part_steps s qs).scopes (program_parts_in d qs)
unfolding systems.program_part_steps
program_parts_once s d [] h once = once
program_parts_once s d (q ∷ qs) h once = program_parts_once (systems.program_part_step s q).scopes (program_part_in d q) qs (no_right _ _ h) (program_part_once s d q (no_left _ _ h) once)

-- ---- accepted programs

pub uses_sound : (at : ℕ) (s : Scopes) (j : Judged Use) → limit_faults at s j ≡ [] → faults j ≡ []
uses_sound at s (Ok u) k = refl
uses_sound at s (Err fs) k = k

pub declarations_sound : (t : Tree) → faults_of t ≡ [] → (declarations start t.program).faults ≡ []
unfolding faults_of declarations_and_body
declarations_sound t h = none_before (declarations start t.program).faults (statements (declarations start t.program).scopes program_context (Ok no_use) t.program.body.statements) (uses_sound t.program.period (declarations_and_body start t.program).scopes (declarations_and_body start t.program).uses h)

pub parts_sound : (t : Tree) → faults_of t ≡ [] → (systems.program_part_steps start t.program.parts).faults ≡ []
unfolding declarations
parts_sound t h = no_left (systems.program_part_steps start t.program.parts).faults (routine_steps None (systems.program_part_steps start t.program.parts).scopes t.program.routines).faults (declarations_sound t h)

distinct_at : (ms : List SystemMeaning) (k : ℕ) (own : SystemMeaning) → AllDistinct ms → AreDistinct own.variables → AreDistinct (or_own own (slice_get ms k)).variables
distinct_at [] k own all h = h
distinct_at (m ∷ ms) zero own all h = all.0
distinct_at (m ∷ ms) (suc k) own all h = distinct_at ms k own all.1 h

-- the variables of a system type have different names
pub accepted_distinct : (t : Tree) → faults_of t ≡ [] → HasDistinct t.program
accepted_distinct t h k =
    let once = program_parts_once start (record { systems = []; variables = []; scope = meant.predeclared }) t.program.parts (parts_sound t h) (tt, (tt, tt)) in
    distinct_at (declared t.program).systems k (own_meaning (declared t.program) t.program) once.0 once.1.0
