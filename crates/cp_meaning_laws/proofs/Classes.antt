-- What breaks no rule gives no class to a monitor or process.
use Rattle.std.proofs.Common.{◌≡◌, ℕ, zero, suc, ◌∙◌, Bool, true, false, if◌then◌else◌, List, [], ◌∷◌, ◌++◌, length, slice_get, Option, Some, None, Ok, Err, is_some, ap, sym, refl, subst, inl, inr}
use Rattle.std.specs.Prelude.{◌⊎◌}
use Rattle.cp_meaning_laws.proofs.Words.{bytes_eq, Identifier, SystemKind, Meaning, ValueType, Use, Judged, ◌>>=◌, faults, Step, nothing, typed, faults_of, Name, same_name}
use Rattle.std.proofs.lemmas.Slice.Eq.{bytes_eq-Decides}
use Rattle.cp_tree.specs.declared.declaration.SystemKind.TheVariants as system_kind
use Rattle.cp_tree.specs.Syntax.{Simple, type_name, enumeration, TypeTerm, simple, array_of, set_type, record_of, FieldGroups, no_fields, more_fields, FieldGroup, fields, ConstantDefinition, VariableGroup, Group, System, Definition, type_definition, system_definition, SystemDefinition, ProgramPart, program_constants, program_types, program_variables, Program, Tree}
use Rattle.cp_scope.specs.declared.types.Meaning.TheVariants.{Kind}
use Rattle.cp_scope.specs.declared.types.Meaning.TheVariants as stands
use Rattle.cp_scope.specs.declared.types.ValueType.TheVariants.{Component}
use Rattle.cp_scope.specs.declared.fault.CheckFault.TheVariants as check_fault
use Rattle.cp_scope.specs.declared.fault.Rule.TheVariants.{C1, C2, C4, C13, C14}
use Rattle.cp_scope.specs.Scopes.{Names, Scope, Scopes, find, is_among, is_declared, through_seal, look_in, or_else, look_outer, look, with_name, with_pending, sealed, add, reserve, settle, enter, start}
use Rattle.cp_check.specs.declared.types.Spot.TheVariants as spot
use Rattle.cp_check.specs.Names as names
use Rattle.cp_check.specs.Types as typing
use Rattle.cp_check.specs.Declarations.{meaning_or_none, to_kind, reserve_name, reserve_names, add_names, add_all, add_one, constant_steps, variable_steps}
use Rattle.cp_check.specs.Systems as systems
use Rattle.cp_meaning.specs.Types.{Base, Range, Ty, ordinal, queue_type, component_of, all_integers}
use Rattle.cp_meaning.specs.Scopes as meant
use Rattle.cp_meaning.specs.Scopes.{constant_meaning, type_meaning, permanent_variable, is_seen, seen_inside}
use Rattle.cp_meaning.specs.Declarations.{type_named, names_of, with_constants, simple_in, type_in, fields_in, group_in, constants_in, with_names, Block, variables_in, Parameter, parameters_named, Heading, with_group, with_groups}
use Rattle.cp_meaning.specs.Systems.{SystemMeaning, system_in, Declared, definition_in, definitions_in, program_part_in, program_parts_in, declared, own_meaning, or_own, system_of}
use Rattle.cp_meaning.specs.WellFormed.{HasNoClass}
use Rattle.cp_meaning_laws.proofs.Kept.{Keeps, pending_names, constants_kept, variables_kept, definition_kept, name_reserved}
use Rattle.cp_meaning_laws.proofs.Once.{no_left, no_right, no_first, inside_sound, defined_sound, parts_sound, or_left}
use Rattle.cp_meaning_laws.proofs.Loud.{Loud}
use Rattle.cp_meaning_laws.proofs.Told.{Told, heard, add_told, enter_told, names_reserved_told, system_parameter_loud, system_loud, system_names, name_reserved_told, constants_told, variables_told, definition_told, start_told}

-- ---- system types by their places

get_before : (ss : List SystemMeaning) (y : SystemMeaning) (k : ℕ) (m : SystemMeaning) → slice_get ss k ≡ Some m → slice_get (ss ++ y ∷ []) k ≡ Some m
get_before [] y k m h = absurd (let bad : None ≡ Some m = h in cc)
get_before (x ∷ ss) y zero m h = h
get_before (x ∷ ss) y (suc k) m h = get_before ss y k m h

get_last : (ss : List SystemMeaning) (y : SystemMeaning) → slice_get (ss ++ y ∷ []) (length ss) ≡ Some y
get_last [] y = refl
get_last (x ∷ ss) y = get_last ss y

-- ---- the checker knows a component type by the name by which the program means it

-- a component type that a name means, and the name among those that the checker has
abbrev Tells : List SystemMeaning → Scopes → Name × meant.Meaning → Type 0
Tells ss s d = (k : ℕ) → d.1 ≡ type_meaning (component_of k) → (y : SystemMeaning) × ((at : ℕ) × ((slice_get ss k ≡ Some y) × (find d.0 s.inner.names ≡ Some (Some (Kind (Component y.kind at))))))

abbrev AllTell : List SystemMeaning → Scopes → meant.Scope → Type 0
AllTell ss s [] = Unit {0}
AllTell ss s (d ∷ ds) = Tells ss s d × AllTell ss s ds

tell_kept : (ss : List SystemMeaning) (s t : Scopes) (m : meant.Scope) → Keeps s t → AllTell ss s m → AllTell ss t m
tell_kept ss s t [] h tell = tt
tell_kept ss s t (d ∷ ds) h tell = ((λ k e. (let r = tell.0 k e in (r.0, (r.1.0, (r.1.1.0, h.names d.0 _ r.1.1.1))))), tell_kept ss s t ds h tell.1)

tell_more : (ss : List SystemMeaning) (y : SystemMeaning) (s : Scopes) (m : meant.Scope) → AllTell ss s m → AllTell (ss ++ y ∷ []) s m
tell_more ss y s [] tell = tt
tell_more ss y s (d ∷ ds) tell = ((λ k e. (let r = tell.0 k e in (r.0, (r.1.0, (get_before ss y k r.0 r.1.1.0, r.1.1.1))))), tell_more ss y s ds tell.1)

tell_seen : (ss : List SystemMeaning) (s : Scopes) (m : meant.Scope) → AllTell ss s m → AllTell ss s (seen_inside m)
tell_seen ss s [] tell = tt
tell_seen ss s (d ∷ ds) tell = go (is_seen d.1) (tell_seen ss s ds tell.1)
  where
    go : (b : Bool) → AllTell ss s (seen_inside ds) → AllTell ss s (if b then d ∷ seen_inside ds else seen_inside ds)
    go true rest = (tell.0, rest)
    go false rest = rest

enumerated_tell : (ss : List SystemMeaning) (s : Scopes) (b : Base) (n : ℕ) (xs : List Name) (m : meant.Scope) → AllTell ss s m → AllTell ss s (with_constants b n xs m)
enumerated_tell ss s b n [] m tell = tell
enumerated_tell ss s b n (x ∷ xs) m tell = enumerated_tell ss s b (suc n) xs _ ((λ k e. absurd cc), tell)

simple_tell : (ss : List SystemMeaning) (s : Scopes) (m : meant.Scope) (t : Simple) → AllTell ss s m → AllTell ss s (simple_in m t).1
simple_tell ss s m (enumeration at is) tell = enumerated_tell ss s _ 0 (names_of is) m tell
simple_tell ss s m _ tell = tell

mutual
  type_tell : (ss : List SystemMeaning) (s : Scopes) (m : meant.Scope) (t : TypeTerm) → AllTell ss s m → AllTell ss s (type_in m t).1
  type_tell ss s m (simple at t) tell = simple_tell ss s m t tell
  type_tell ss s m (array_of at i t) tell = type_tell ss s (simple_in m i).1 t (simple_tell ss s m i tell)
  type_tell ss s m (set_type at t) tell = simple_tell ss s m t tell
  type_tell ss s m (record_of at gs b) tell = fields_tell ss s m gs tell

  fields_tell : (ss : List SystemMeaning) (s : Scopes) (m : meant.Scope) (gs : FieldGroups) → AllTell ss s m → AllTell ss s (fields_in m gs).1
  fields_tell ss s m no_fields tell = tell
  fields_tell ss s m (more_fields g gs) tell = fields_tell ss s (group_in m g).2 gs (group_tell ss s m g tell)

  group_tell : (ss : List SystemMeaning) (s : Scopes) (m : meant.Scope) (g : FieldGroup) → AllTell ss s m → AllTell ss s (group_in m g).2
  group_tell ss s m (fields is t) tell = type_tell ss s m t tell

constants_tell : (ss : List SystemMeaning) (s : Scopes) (ds : List ConstantDefinition) (m : meant.Scope) → AllTell ss s m → AllTell ss s (constants_in m ds)
constants_tell ss s [] m tell = tell
constants_tell ss s (d ∷ ds) m tell = constants_tell ss s ds _ ((λ k e. absurd cc), tell)

names_tell : (ss : List SystemMeaning) (s : Scopes) (xs : List Name) (t : Ty) (m : meant.Scope) → AllTell ss s m → AllTell ss s (with_names xs (permanent_variable t) m)
names_tell ss s [] t m tell = tell
names_tell ss s (x ∷ xs) t m tell = names_tell ss s xs t _ ((λ k e. absurd cc), tell)

variables_tell : (ss : List SystemMeaning) (s : Scopes) (gs : List VariableGroup) (b : Block) → AllTell ss s b.scope → AllTell ss s (variables_in permanent_variable b gs).scope
variables_tell ss s [] b tell = tell
variables_tell ss s (g ∷ gs) b tell = variables_tell ss s gs _ (names_tell ss s (names_of g.names) _ _ (type_tell ss s b.scope g.variable_type tell))

-- ---- a name that means a component type

abbrev type_meant : meant.Meaning → Ty
type_meant (type_meaning t) = t
type_meant m = ordinal all_integers

abbrev Known : List SystemMeaning → ℕ → (ℕ → SystemMeaning → Type 0) → Type 0
Known ss k P = (y : SystemMeaning) × ((at : ℕ) × ((slice_get ss k ≡ Some y) × P at y))

found_tell : (ss : List SystemMeaning) (s : Scopes) (x : Name) (m : meant.Scope) (k : ℕ) → AllTell ss s m → type_named m x ≡ component_of k → Known ss k (λ at y. find x s.inner.names ≡ Some (Some (Kind (Component y.kind at))))
found_tell ss s x [] k tell e = absurd (let bad : ordinal all_integers ≡ component_of k = e in cc)
found_tell ss s x ((n, constant_meaning b z) ∷ ds) k tell e = found_tell ss s x ds k tell.1 e
found_tell ss s x ((n, type_meaning t) ∷ ds) k tell e = go (same_name x n) refl e (λ f. found_tell ss s x ds k tell.1 f)
  where
    go : (b : Bool) → same_name x n ≡ b → (if b then t else type_named ds x) ≡ component_of k → (type_named ds x ≡ component_of k → Known ss k (λ at y. find x s.inner.names ≡ Some (Some (Kind (Component y.kind at))))) → Known ss k (λ at y. find x s.inner.names ≡ Some (Some (Kind (Component y.kind at))))
    go true same f rest =
        let r = tell.0 k (ap type_meaning f) in
        (r.0, (r.1.0, (r.1.1.0, subst (λ i. find i s.inner.names ≡ Some (Some (Kind (Component r.0.kind r.1.0)))) (sym ((bytes_eq-Decides x n).0 same)) r.1.1.1)))
    go false same f rest = rest f
found_tell ss s x ((n, meant.local_variable t) ∷ ds) k tell e = found_tell ss s x ds k tell.1 e
found_tell ss s x ((n, permanent_variable t) ∷ ds) k tell e = found_tell ss s x ds k tell.1 e
found_tell ss s x ((n, meant.routine_meaning r) ∷ ds) k tell e = found_tell ss s x ds k tell.1 e
found_tell ss s x ((n, meant.standard_meaning q) ∷ ds) k tell e = found_tell ss s x ds k tell.1 e

pub kind_through : (o : Option (Option Meaning)) (t : ValueType) → o ≡ Some (Some (Kind t)) → through_seal o ≡ Some (Some (Kind t))
kind_through o t e = ap through_seal e

pub look_in_kind : (n : List ℕ) (c : Scope) (t : ValueType) → find n c.names ≡ Some (Some (Kind t)) → look_in n c ≡ Some (Some (Kind t))
look_in_kind n c t e = go c.is_sealed
  where
    go : (b : Bool) → (if b then through_seal (find n c.names) else find n c.names) ≡ Some (Some (Kind t))
    go true = kind_through (find n c.names) t e
    go false = e

pub look_kind : (n : List ℕ) (s : Scopes) (t : ValueType) → find n s.inner.names ≡ Some (Some (Kind t)) → look n s ≡ Some (Some (Kind t))
look_kind n s t e = ap (λ o. or_else o (look_outer n s.outer)) (look_in_kind n s.inner t e)

-- ---- no type definition stands for a component type

named_component : (ss : List SystemMeaning) (s : Scopes) (m : meant.Scope) (at k : ℕ) (x : Name) → AllTell ss s m → faults (typing.type_at_spot s spot.Definition at x) ≡ [] → type_named m x ≡ component_of k → ⊥
unfolding typing.type_at_spot typing.type_named names.visible
named_component ss s m at k x tell h e =
    let there = found_tell ss s x m k tell e in
    let bad : check_fault.Rule at C13 ∷ [] ≡ [] = subst (λ o. faults (names.check_visible at o >>= typing.to_type at >>= typing.at_spot s spot.Definition at) ≡ []) (look_kind x s (Component there.0.kind there.1.0) there.1.1.1) h in
    cc

no_component : (ss : List SystemMeaning) (s : Scopes) (m : meant.Scope) (t : TypeTerm) (k : ℕ) → AllTell ss s m → faults (typed s spot.Definition t).type ≡ [] → (type_in m t).0 ≡ component_of k → ⊥
unfolding typed typing.simple_type
no_component ss s m (simple at (type_name n_at x)) k tell h e = named_component ss s m n_at k x tell h e
no_component ss s m x k tell h e = cc

-- ---- the name of a system type

pub reserved_names : (s : Scopes) (n : Identifier) → (reserve_name s n).scopes.inner.names ≡ s.inner.names
unfolding reserve_name reserve
reserved_names s n = go (is_declared s n.name)
  where
    go : (b : Bool) → (let t : Step = (if b then record { faults = check_fault.Rule n.at C2 ∷ []; scopes = s } else nothing (record { outer = s.outer; inner = with_pending s.inner n.name; shapes = s.shapes })) in t.scopes.inner.names) ≡ s.inner.names
    go true = refl
    go false = pending_names s.inner n.name

pub reserved_new : (s : Scopes) (n : Identifier) → (reserve_name s n).faults ≡ [] → is_some (find n.name s.inner.names) ≡ false
unfolding reserve_name
reserved_new s n h = go (is_declared s n.name) refl h
  where
    go : (b : Bool) → is_declared s n.name ≡ b → (let t : Step = (if b then record { faults = check_fault.Rule n.at C2 ∷ []; scopes = s } else nothing (reserve s n.name)) in t.faults) ≡ [] → is_some (find n.name s.inner.names) ≡ false
    go true e k = absurd (let bad : check_fault.Rule n.at C2 ∷ [] ≡ [] = k in cc)
    go false e k = or_left (is_some (find n.name s.inner.names)) (is_among n.name s.inner.pending) e

pub itself : (x : List ℕ) → bytes_eq x x ≡ true
itself x = (bytes_eq-Decides x x).1 refl

pub last_found : (x : List ℕ) (ds : Names) (m : Option Meaning) → is_some (find x ds) ≡ false → find x (ds ++ (x, m) ∷ []) ≡ Some m
last_found x [] m h = rw (itself x) refl
last_found x (d ∷ ds) m h = go (bytes_eq x d.0) h (last_found x ds m)
  where
    go : (b : Bool) → is_some (if b then Some d.1 else find x ds) ≡ false → (is_some (find x ds) ≡ false → find x (ds ++ (x, m) ∷ []) ≡ Some m) → (if b then Some d.1 else find x (ds ++ (x, m) ∷ [])) ≡ Some m
    go true e rest = absurd (let bad : true ≡ false = e in cc)
    go false e rest = rest e

pub new_found : (c : Scope) (x : List ℕ) (m : Option Meaning) → is_some (find x c.names) ≡ false → find x (with_name c x m).names ≡ Some m
new_found c x m h = go (is_some (find x c.names)) h
  where
    go : (b : Bool) → b ≡ false → find x (let e : Scope = (if b then c else record { names = c.names ++ (x, m) ∷ []; pending = c.pending; is_sealed = c.is_sealed }) in e.names) ≡ Some m
    go true e = absurd (let bad : true ≡ false = e in cc)
    go false e = last_found x c.names m h

pub one_found : (s : Scopes) (n : Identifier) (m : Option Meaning) → is_some (find n.name s.inner.names) ≡ false → find n.name (add_one s n m).inner.names ≡ Some m
unfolding add_one add settle
one_found s n m h = new_found s.inner n.name m h

kind_of_uses : (j : Judged Use) (k : SystemKind) (at : ℕ) → Loud (j >>= systems.to_component k at) → faults (j >>= systems.to_component k at) ≡ [] → meaning_or_none (j >>= systems.to_component k at >>= to_kind) ≡ Some (Kind (Component k at))
kind_of_uses (Ok u) k at loud h = refl
kind_of_uses (Err []) k at loud h = absurd loud
kind_of_uses (Err (f ∷ fs)) k at loud h = absurd (let bad : f ∷ fs ≡ [] = h in cc)

pub declared_kind : (s : Scopes) (y : System) → Told s → faults (systems.system_type s y).type ≡ [] → meaning_or_none ((systems.system_type s y).type >>= to_kind) ≡ Some (Kind (Component y.kind y.at))
unfolding systems.system_type
declared_kind s y told h = kind_of_uses (systems.enter_system (enter true s) y).uses y.kind y.at (system_loud s y told) h

-- after its definition a system type stands under its name
pub system_found : (s : Scopes) (n : Identifier) (y : System) → Told s → (reserve_name s n).faults ≡ [] → faults (systems.system_type (reserve_name s n).scopes y).type ≡ [] → find n.name (add_one (systems.system_type (reserve_name s n).scopes y).scopes n (meaning_or_none ((systems.system_type (reserve_name s n).scopes y).type >>= to_kind))).inner.names ≡ Some (Some (Kind (Component y.kind y.at)))
system_found s n y told reserved h =
    one_found (systems.system_type (reserve_name s n).scopes y).scopes n _ (ap (λ ds. is_some (find n.name ds)) (system_names (reserve_name s n).scopes y ∙ reserved_names s n) ∙ reserved_new s n reserved)
    ∙ ap Some (declared_kind (reserve_name s n).scopes y (name_reserved_told s n told) h)

-- ---- parameters

-- where the checker has a type by the name of a component type, it is that one
record Knows (ss : List SystemMeaning) (m : meant.Scope) (s : Scopes) : Type 0 where
  told : Told s
  is_open : s.inner.is_sealed ≡ false
  known : (x : Name) (k : ℕ) → type_named m x ≡ component_of k → (t : ValueType) → look x s ≡ Some (Some (Kind t)) → Known ss k (λ at y. t ≡ Component y.kind at)

pub outer_last : (n : List ℕ) (cs : List Scope) (c : Scope) (m : Option Meaning) → look_in n c ≡ Some m → look_outer n (cs ++ c ∷ []) ≡ Some m
outer_last n [] c m h = h
outer_last n (d ∷ cs) c m h = ap (λ o. or_else o (look_in n d)) (outer_last n cs c m h)

pub look_entered : (n : List ℕ) (s : Scopes) (t : ValueType) → find n s.inner.names ≡ Some (Some (Kind t)) → look n (enter true s) ≡ Some (Some (Kind t))
unfolding enter
look_entered n s t e = outer_last n s.outer (sealed true s.inner) (Some (Kind t)) (kind_through (find n s.inner.names) t e)

pub same_kind : (o : Option (Option Meaning)) (t u : ValueType) → o ≡ Some (Some (Kind t)) → o ≡ Some (Some (Kind u)) → t ≡ u
same_kind o t u h g = let e : Some (Some (Kind t)) ≡ Some (Some (Kind u)) = sym h ∙ g in cc

knows_entered : (ss : List SystemMeaning) (s : Scopes) (m : meant.Scope) → Told s → AllTell ss s m → Knows ss (seen_inside m) (enter true s)
unfolding enter
knows_entered ss s m told tell =
    record {
      told = enter_told true s told;
      is_open = refl;
      known = λ x k e t f. (let r = found_tell ss s x (seen_inside m) k (tell_seen ss s m tell) e in (r.0, (r.1.0, (r.1.1.0, same_kind (look x (enter true s)) t (Component r.0.kind r.1.0) f (look_entered x s (Component r.0.kind r.1.0) r.1.1.1)))));
    }

pub look_pending : (x n : List ℕ) (c : Scope) → look_in x (with_pending c n) ≡ look_in x c
look_pending x n c = go (is_among n c.pending)
  where
    go : (b : Bool) → look_in x (if b then c else record { names = c.names; pending = c.pending ++ n ∷ []; is_sealed = c.is_sealed }) ≡ look_in x c
    go true = refl
    go false = refl

look_reserve : (x n : List ℕ) (s : Scopes) → look x (reserve s n) ≡ look x s
unfolding reserve
look_reserve x n s = ap (λ o. or_else o (look_outer x s.outer)) (look_pending x n s.inner)

pub look_reserved : (x : List ℕ) (s : Scopes) (n : Identifier) → look x (reserve_name s n).scopes ≡ look x s
unfolding reserve_name
look_reserved x s n = go (is_declared s n.name)
  where
    go : (b : Bool) → look x (let t : Step = (if b then record { faults = check_fault.Rule n.at C2 ∷ []; scopes = s } else nothing (reserve s n.name)) in t.scopes) ≡ look x s
    go true = refl
    go false = look_reserve x n.name s

pub look_all_reserved : (x : List ℕ) (s : Scopes) (ns : List Identifier) → look x (reserve_names s ns).scopes ≡ look x s
unfolding reserve_names
look_all_reserved x s [] = refl
look_all_reserved x s (n ∷ ns) = look_all_reserved x (reserve_name s n).scopes ns ∙ look_reserved x s n

pub find_skip : (x n : List ℕ) (ds : Names) (m : Option Meaning) → bytes_eq x n ≡ false → find x (ds ++ (n, m) ∷ []) ≡ find x ds
find_skip x n [] m h = rw h refl
find_skip x n (d ∷ ds) m h = ap (λ o. if bytes_eq x d.0 then Some d.1 else o) (find_skip x n ds m h)

pub look_named : (x n : List ℕ) (c : Scope) (m : Option Meaning) → bytes_eq x n ≡ false → look_in x (with_name c n m) ≡ look_in x c
look_named x n c m h = go (is_some (find n c.names))
  where
    go : (b : Bool) → look_in x (if b then c else record { names = c.names ++ (n, m) ∷ []; pending = c.pending; is_sealed = c.is_sealed }) ≡ look_in x c
    go true = refl
    go false = ap (λ o. if c.is_sealed then through_seal o else o) (find_skip x n c.names m h)

pub look_added : (x n : List ℕ) (s : Scopes) (m : Option Meaning) → bytes_eq x n ≡ false → look x (add s n m) ≡ look x s
unfolding add
look_added x n s m h = ap (λ o. or_else o (look_outer x s.outer)) (look_named x n s.inner m h)

-- a name that is added stands for what it is added for, unless it stood there before
pub look_new : (n : List ℕ) (s : Scopes) (m : Meaning) (t : ValueType) → s.inner.is_sealed ≡ false → look n (add s n (Some m)) ≡ Some (Some (Kind t)) → (look n s ≡ Some (Some (Kind t))) ⊎ (m ≡ Kind t)
unfolding add
look_new n s m t h e = go (is_some (find n s.inner.names)) refl e
  where
    go : (b : Bool) → is_some (find n s.inner.names) ≡ b → or_else (look_in n (if b then s.inner else record { names = s.inner.names ++ (n, Some m) ∷ []; pending = s.inner.pending; is_sealed = s.inner.is_sealed })) (look_outer n s.outer) ≡ Some (Some (Kind t)) → (look n s ≡ Some (Some (Kind t))) ⊎ (m ≡ Kind t)
    go true same f = inl f
    go false same f =
        let there : look_in n (let c : Scope = record { names = s.inner.names ++ (n, Some m) ∷ []; pending = s.inner.pending; is_sealed = s.inner.is_sealed } in c) ≡ Some (Some m) =
        ap (λ b. if b then through_seal (find n (s.inner.names ++ (n, Some m) ∷ [])) else find n (s.inner.names ++ (n, Some m) ∷ [])) h ∙ last_found n s.inner.names (Some m) same in
        let met : Some (Some m) ≡ Some (Some (Kind t)) = sym (ap (λ o. or_else o (look_outer n s.outer)) there) ∙ f in
        inr cc

pub added_open : (s : Scopes) (n : List ℕ) (m : Option Meaning) → s.inner.is_sealed ≡ false → (add s n m).inner.is_sealed ≡ false
unfolding add
added_open s n m h = go (is_some (find n s.inner.names))
  where
    go : (b : Bool) → (let c : Scope = (if b then s.inner else record { names = s.inner.names ++ (n, m) ∷ []; pending = s.inner.pending; is_sealed = s.inner.is_sealed }) in c.is_sealed) ≡ false
    go true = h
    go false = h

knows_added : (ss : List SystemMeaning) (ns : List Identifier) (t : Ty) (u : ValueType) (m : meant.Scope) (s : Scopes) → Knows ss m s → Knows ss (with_names (names_of ns) (permanent_variable t) m) (add_names s ns (Some (stands.Parameter u)))
unfolding add_names
knows_added ss [] t u m s h = h
knows_added ss (n ∷ ns) t u m s h =
    knows_added ss ns t u ((n.name, permanent_variable t) ∷ m) (add s n.name (Some (stands.Parameter u)))
    (record { told = add_told s n.name (Some (stands.Parameter u)) h.told tt; is_open = added_open s n.name (Some (stands.Parameter u)) h.is_open; known = λ x k e v f. h.known x k e v (go x v (same_name x n.name) refl f) })
  where
    new : (v : ValueType) → (look n.name s ≡ Some (Some (Kind v))) ⊎ (stands.Parameter u ≡ Kind v) → look n.name s ≡ Some (Some (Kind v))
    new v (inl f) = f
    new v (inr bad) = absurd cc

    go : (x : Name) (v : ValueType) (b : Bool) → same_name x n.name ≡ b → look x (add s n.name (Some (stands.Parameter u))) ≡ Some (Some (Kind v)) → look x s ≡ Some (Some (Kind v))
    go x v true same f =
        let e : n.name ≡ x = sym ((bytes_eq-Decides x n.name).0 same) in
        subst (λ y. look y s ≡ Some (Some (Kind v))) e (new v (look_new n.name s (stands.Parameter u) v h.is_open (subst (λ y. look y (add s n.name (Some (stands.Parameter u))) ≡ Some (Some (Kind v))) (sym e) f)))
    go x v false same f = sym (look_added x n.name s (Some (stands.Parameter u)) same) ∙ f

knows_all_added : (ss : List SystemMeaning) (ns : List Identifier) (t : Ty) (u : ValueType) (m : meant.Scope) (s : Scopes) → Knows ss m s → Knows ss (with_names (names_of ns) (permanent_variable t) m) (add_all s ns (Some (stands.Parameter u)))
unfolding add_all settle
knows_all_added ss ns t u m s h = let k = knows_added ss ns t u m s h in record { told = k.told; is_open = k.is_open; known = k.known }

-- what breaks no rule as a type is one
pub parameter_is : (j : Judged ValueType) → Loud j → faults j ≡ [] → (u : ValueType) × (meaning_or_none (j >>= systems.to_parameter) ≡ Some (stands.Parameter u))
parameter_is (Ok u) loud e = (u, refl)
parameter_is (Err []) loud e = absurd loud
parameter_is (Err (f ∷ fs)) loud e = absurd (let bad : f ∷ fs ≡ [] = e in cc)

pub type_there : (o : Option (Option Meaning)) (at : ℕ) (f : ValueType → Judged ValueType) → Loud (names.check_visible at o) → faults (names.check_visible at o >>= typing.to_type at >>= f) ≡ [] → (t : ValueType) × (o ≡ Some (Some (Kind t)))
type_there None at f loud e = absurd (let bad : check_fault.Rule at C1 ∷ [] ≡ [] = e in cc)
type_there (Some None) at f loud e = absurd loud
type_there (Some (Some (Kind t))) at f loud e = (t, refl)
type_there x at f loud e = absurd (let bad : check_fault.Rule at C4 ∷ [] ≡ [] = e in cc)

-- a component parameter of a type that is no class is of no class
abbrev Admits : List SystemMeaning → SystemKind → Parameter → Type 0
Admits ss o q = (k : ℕ) → q.ty ≡ component_of k → (y : SystemMeaning) × ((slice_get ss k ≡ Some y) × ((o ≡ system_kind.Class → ⊥) → y.kind ≡ system_kind.Class → ⊥))

abbrev AllAdmit : List SystemMeaning → SystemKind → List Parameter → Type 0
AllAdmit ss o [] = Unit {0}
AllAdmit ss o (q ∷ qs) = Admits ss o q × AllAdmit ss o qs

admit_append : (ss : List SystemMeaning) (o : SystemKind) (qs rs : List Parameter) → AllAdmit ss o qs → AllAdmit ss o rs → AllAdmit ss o (qs ++ rs)
admit_append ss o [] rs h g = g
admit_append ss o (q ∷ qs) rs h g = (h.0, admit_append ss o qs rs h.1 g)

admit_named : (ss : List SystemMeaning) (o : SystemKind) (xs : List Name) (t : Ty) (b : Bool) → ((k : ℕ) → t ≡ component_of k → (y : SystemMeaning) × ((slice_get ss k ≡ Some y) × ((o ≡ system_kind.Class → ⊥) → y.kind ≡ system_kind.Class → ⊥))) → AllAdmit ss o (parameters_named xs t b)
admit_named ss o [] t b h = tt
admit_named ss o (x ∷ xs) t b h = (h, admit_named ss o xs t b h)

no_shared_class : (at : ℕ) (o k : SystemKind) (t : ValueType) → faults (systems.check_component_parameter at o k t) ≡ [] → (o ≡ system_kind.Class → ⊥) → k ≡ system_kind.Class → ⊥
no_shared_class at system_kind.Class system_kind.Class t h other e = other refl
no_shared_class at x system_kind.Class t h other e = absurd (let bad : check_fault.Rule at C14 ∷ [] ≡ [] = h in cc)
no_shared_class at o _ t h other e = cc

group_admits : (ss : List SystemMeaning) (o : SystemKind) (s : Scopes) (g : Group) (m : meant.Scope) → faults (systems.parameter_type o s g) ≡ [] → Knows ss m s → (k : ℕ) → type_named m g.type_name.name ≡ component_of k → (y : SystemMeaning) × ((slice_get ss k ≡ Some y) × ((o ≡ system_kind.Class → ⊥) → y.kind ≡ system_kind.Class → ⊥))
unfolding systems.parameter_type typing.type_named names.visible
group_admits ss o s g m h knows k e =
    let there = type_there (look g.type_name.name s) g.type_name.at (systems.check_parameter_type_in s g.type_name.at o) (heard s knows.told g.type_name.at g.type_name.name) h in
    let r = knows.known g.type_name.name k e there.0 there.1 in
    let met : look g.type_name.name s ≡ Some (Some (Kind (Component r.0.kind r.1.0))) = there.1 ∙ ap (λ t. Some (Some (Kind t))) r.1.1.1 in
    let admitted : faults (systems.check_component_parameter g.type_name.at o r.0.kind (Component r.0.kind r.1.0)) ≡ [] = subst (λ f. faults (names.check_visible g.type_name.at f >>= typing.to_type g.type_name.at >>= systems.check_parameter_type_in s g.type_name.at o) ≡ []) met h in
    (r.0, (r.1.1.0, λ other is. no_shared_class g.type_name.at o r.0.kind (Component r.0.kind r.1.0) admitted other is))

open_reserved : (s : Scopes) (n : Identifier) → (reserve_name s n).scopes.inner.is_sealed ≡ s.inner.is_sealed
unfolding reserve_name reserve
open_reserved s n = go (is_declared s n.name)
  where
    pending : (b : Bool) → (let c : Scope = (if b then s.inner else record { names = s.inner.names; pending = s.inner.pending ++ n.name ∷ []; is_sealed = s.inner.is_sealed }) in c.is_sealed) ≡ s.inner.is_sealed
    pending true = refl
    pending false = refl

    go : (b : Bool) → (let t : Step = (if b then record { faults = check_fault.Rule n.at C2 ∷ []; scopes = s } else nothing (record { outer = s.outer; inner = with_pending s.inner n.name; shapes = s.shapes })) in t.scopes.inner.is_sealed) ≡ s.inner.is_sealed
    go true = refl
    go false = pending (is_among n.name s.inner.pending)

pub open_all_reserved : (s : Scopes) (ns : List Identifier) → (reserve_names s ns).scopes.inner.is_sealed ≡ s.inner.is_sealed
unfolding reserve_names
open_all_reserved s [] = refl
open_all_reserved s (n ∷ ns) = open_all_reserved (reserve_name s n).scopes ns ∙ open_reserved s n

knows_reserved : (ss : List SystemMeaning) (m : meant.Scope) (s : Scopes) (ns : List Identifier) → Knows ss m s → Knows ss m (reserve_names s ns).scopes
knows_reserved ss m s ns h = record { told = names_reserved_told s ns h.told; is_open = open_all_reserved s ns ∙ h.is_open; known = λ x k e t f. h.known x k e t (sym (look_all_reserved x s ns) ∙ f) }

groups_admit : (ss : List SystemMeaning) (o : SystemKind) (gs : List Group) (s : Scopes) (h : Heading) → (systems.group_steps o s gs).faults ≡ [] → Knows ss h.scope s → AllAdmit ss o h.parameters → AllAdmit ss o (with_groups permanent_variable h gs).parameters
unfolding systems.group_steps systems.group_step
groups_admit ss o [] s h e knows all = all
groups_admit ss o (g ∷ gs) s h e knows all =
    let first : (systems.group_step o s g).faults ≡ [] = no_left (systems.group_step o s g).faults (systems.group_steps o (systems.group_step o s g).scopes gs).faults e in
    let typed_well : faults (systems.parameter_type o (reserve_names s g.names).scopes g) ≡ [] = no_first (systems.parameter_type o (reserve_names s g.names).scopes g) systems.to_parameter (no_right (reserve_names s g.names).faults (faults (systems.parameter_type o (reserve_names s g.names).scopes g >>= systems.to_parameter)) first) in
    let known : Knows ss h.scope (reserve_names s g.names).scopes = knows_reserved ss h.scope s g.names knows in
    let declares = parameter_is (systems.parameter_type o (reserve_names s g.names).scopes g) (system_parameter_loud o (reserve_names s g.names).scopes g known.told) typed_well in
    groups_admit ss o gs (systems.group_step o s g).scopes (with_group permanent_variable false h g)
    (no_right (systems.group_step o s g).faults (systems.group_steps o (systems.group_step o s g).scopes gs).faults e)
    (subst (λ p. Knows ss (with_group permanent_variable false h g).scope (add_all (reserve_names s g.names).scopes g.names p)) (sym declares.1) (knows_all_added ss g.names (type_named h.scope g.type_name.name) declares.0 h.scope (reserve_names s g.names).scopes known))
    (admit_append ss o h.parameters (parameters_named (names_of g.names) (type_named h.scope g.type_name.name) false) all (admit_named ss o (names_of g.names) (type_named h.scope g.type_name.name) false (group_admits ss o (reserve_names s g.names).scopes g h.scope typed_well known)))

system_admits : (ss : List SystemMeaning) (s : Scopes) (y : System) (m : meant.Scope) → (systems.inside s y).faults ≡ [] → Knows ss m s → AllAdmit ss y.kind (system_in m y).parameters
unfolding systems.inside
system_admits ss s y m e knows = groups_admit ss y.kind y.parameters s (record { parameters = []; scope = m }) (no_left (systems.group_steps y.kind s y.parameters).faults _ e) knows tt

-- ---- the program's declarations

more_admit : (ss : List SystemMeaning) (y : SystemMeaning) (o : SystemKind) (qs : List Parameter) → AllAdmit ss o qs → AllAdmit (ss ++ y ∷ []) o qs
more_admit ss y o [] h = tt
more_admit ss y o (q ∷ qs) h = ((λ k e. (let r = h.0 k e in (r.0, (get_before ss y k r.0 r.1.0, r.1.1)))), more_admit ss y o qs h.1)

abbrev SystemsAdmit : List SystemMeaning → List SystemMeaning → Type 0
SystemsAdmit ss [] = Unit {0}
SystemsAdmit ss (m ∷ ms) = AllAdmit ss m.kind m.parameters × SystemsAdmit ss ms

systems_more : (ss : List SystemMeaning) (y : SystemMeaning) (ms : List SystemMeaning) → SystemsAdmit ss ms → AllAdmit (ss ++ y ∷ []) y.kind y.parameters → SystemsAdmit (ss ++ y ∷ []) (ms ++ y ∷ [])
systems_more ss y [] h g = (g, tt)
systems_more ss y (m ∷ ms) h g = (more_admit ss y m.kind m.parameters h.0, systems_more ss y ms h.1 g)

abbrev place_in : meant.Meaning → ℕ
place_in (type_meaning (component_of j)) = j
place_in m = 0

record Sound (s : Scopes) (d : Declared) : Type 0 where
  told : Told s
  tell : AllTell d.systems s d.scope
  admit : SystemsAdmit d.systems d.systems

definition_tells : (s : Scopes) (d : Declared) (n : SystemDefinition) (v : Definition) → Sound s d → (t : Scopes) → Keeps s t → (reserve_name s n.name).faults ≡ [] → faults (systems.type_of_definition (reserve_name s n.name).scopes v).type ≡ [] → t ≡ add_one (systems.type_of_definition (reserve_name s n.name).scopes v).scopes n.name (meaning_or_none ((systems.type_of_definition (reserve_name s n.name).scopes v).type >>= to_kind)) → AllTell (definition_in d n v).systems t (definition_in d n v).scope × SystemsAdmit (definition_in d n v).systems (definition_in d n v).systems
unfolding systems.type_of_definition
definition_tells s d n (type_definition v) sound t keeps reserved h is = (
  (
    (λ k e. absurd (no_component d.systems (reserve_name s n.name).scopes d.scope v k (tell_kept d.systems s (reserve_name s n.name).scopes d.scope (name_reserved s n.name) sound.tell) h (ap type_meant e))),
    type_tell d.systems t d.scope v (tell_kept d.systems s t d.scope keeps sound.tell),
  ),
  sound.admit,
)
definition_tells s d n (system_definition y) sound t keeps reserved h is =
    let there : find n.name.name t.inner.names ≡ Some (Some (Kind (Component y.kind y.at))) = ap (λ (u : Scopes). find n.name.name u.inner.names) is ∙ system_found s n.name y sound.told reserved h in
    let knows = knows_entered d.systems (reserve_name s n.name).scopes d.scope (name_reserved_told s n.name sound.told) (tell_kept d.systems s (reserve_name s n.name).scopes d.scope (name_reserved s n.name) sound.tell) in
    let own = system_admits d.systems (enter true (reserve_name s n.name).scopes) y (seen_inside d.scope) (inside_sound (reserve_name s n.name).scopes y h) knows in (
      (
        (λ k e. (system_in (seen_inside d.scope) y, (y.at, (subst (λ j. slice_get (d.systems ++ system_in (seen_inside d.scope) y ∷ []) j ≡ Some (system_in (seen_inside d.scope) y)) (ap place_in e) (get_last d.systems (system_in (seen_inside d.scope) y)), there)))),
        tell_more d.systems (system_in (seen_inside d.scope) y) t d.scope (tell_kept d.systems s t d.scope keeps sound.tell),
      ),
      systems_more d.systems (system_in (seen_inside d.scope) y) d.systems sound.admit (more_admit d.systems (system_in (seen_inside d.scope) y) y.kind _ own),
    )

definition_sound : (s : Scopes) (d : Declared) (n : SystemDefinition) → (systems.definition_step s n).faults ≡ [] → Sound s d → Sound (systems.definition_step s n).scopes (definition_in d n n.value)
unfolding systems.definition_step
definition_sound s d n e sound =
    let both = definition_tells s d n n.value sound (systems.definition_step s n).scopes (definition_kept s n) (no_left (reserve_name s n.name).faults _ e) (defined_sound s n e) refl in
    record { told = definition_told s n e sound.told; tell = both.0; admit = both.1 }

definitions_sound : (s : Scopes) (d : Declared) (ns : List SystemDefinition) → (systems.definition_steps s ns).faults ≡ [] → Sound s d → Sound (systems.definition_steps s ns).scopes (definitions_in d ns)
unfolding systems.definition_steps
definitions_sound s d [] e sound = sound
definitions_sound s d (n ∷ ns) e sound =
    definitions_sound (systems.definition_step s n).scopes (definition_in d n n.value) ns (no_right (systems.definition_step s n).faults (systems.definition_steps (systems.definition_step s n).scopes ns).faults e)
    (definition_sound s d n (no_left (systems.definition_step s n).faults (systems.definition_steps (systems.definition_step s n).scopes ns).faults e) sound)

program_part_sound : (s : Scopes) (d : Declared) (q : ProgramPart) → (systems.program_part_step s q).faults ≡ [] → Sound s d → Sound (systems.program_part_step s q).scopes (program_part_in d q)
unfolding systems.program_part_step
program_part_sound s d (program_constants at ds) e sound =
    record { told = constants_told s ds e sound.told; tell = tell_kept d.systems s (constant_steps s ds).scopes (constants_in d.scope ds) (constants_kept s ds) (constants_tell d.systems s ds d.scope sound.tell); admit = sound.admit }
program_part_sound s d (program_types at ns) e sound = definitions_sound s d ns e sound
program_part_sound s d (program_variables at gs) e sound =
    record {
      told = variables_told (spot.Permanent None) s gs e sound.told;
      tell = tell_kept d.systems s (variable_steps (spot.Permanent None) s gs).scopes (variables_in permanent_variable (record { variables = d.variables; scope = d.scope }) gs).scope (variables_kept (spot.Permanent None) s gs) (variables_tell d.systems s gs (record { variables = d.variables; scope = d.scope }) sound.tell);
      admit = sound.admit;
    }

program_parts_sound : (s : Scopes) (d : Declared) (qs : List ProgramPart) → (systems.program_part_steps s qs).faults ≡ [] → Sound s d → Sound (systems.program_part_steps s qs).scopes (program_parts_in d qs)
unfolding systems.program_part_steps
program_parts_sound s d [] e sound = sound
program_parts_sound s d (q ∷ qs) e sound =
    program_parts_sound (systems.program_part_step s q).scopes (program_part_in d q) qs (no_right (systems.program_part_step s q).faults (systems.program_part_steps (systems.program_part_step s q).scopes qs).faults e)
    (program_part_sound s d q (no_left (systems.program_part_step s q).faults (systems.program_part_steps (systems.program_part_step s q).scopes qs).faults e) sound)

-- ---- accepted programs

other : (r : Range) (k : ℕ) → type_meaning (ordinal r) ≡ type_meaning (component_of k) → ⊥
other r k e = let bad : ordinal r ≡ component_of k = ap type_meant e in cc

predeclared_tell : AllTell [] start meant.predeclared
predeclared_tell = (
  (λ k e. absurd (other _ k e)),
  (
    (λ k e. absurd (other _ k e)),
    (
      (λ k e. absurd (other _ k e)),
      (
        (λ k e. absurd (let bad : queue_type ≡ component_of k = ap type_meant e in cc)),
        ((λ k e. absurd cc), ((λ k e. absurd cc), ((λ k e. absurd cc), ((λ k e. absurd cc), ((λ k e. absurd cc), ((λ k e. absurd cc), ((λ k e. absurd cc), ((λ k e. absurd cc), ((λ k e. absurd cc), ((λ k e. absurd cc), ((λ k e. absurd cc), tt))))))))))),
      ),
    ),
  ),
)

systems_sound : (t : Tree) → faults_of t ≡ [] → SystemsAdmit (declared t.program).systems (declared t.program).systems
systems_sound t h =
    (program_parts_sound start (record { systems = []; variables = []; scope = meant.predeclared }) t.program.parts (parts_sound t h) (record { told = start_told; tell = predeclared_tell; admit = tt })).admit

no_class : (p : Program) (o : SystemKind) (qs : List Parameter) → (o ≡ system_kind.Class → ⊥) → AllAdmit (declared p).systems o qs → HasNoClass p qs
no_class p o [] not h = tt
no_class p o (q ∷ qs) not h =
    ((λ j e is. (let r = h.0 j e in r.1.1 not (sym (ap (λ (y : Option SystemMeaning). (or_own (own_meaning (declared p) p) y).kind) r.1.0) ∙ is))), no_class p o qs not h.1)

admit_at : (ss ms : List SystemMeaning) (k : ℕ) (d : Declared) (p : Program) → SystemsAdmit ss ms → AllAdmit ss (or_own (own_meaning d p) (slice_get ms k)).kind (or_own (own_meaning d p) (slice_get ms k)).parameters
admit_at ss [] k d p h = tt
admit_at ss (m ∷ ms) zero d p h = h.0
admit_at ss (m ∷ ms) (suc k) d p h = admit_at ss ms k d p h.1

-- no parameter of a monitor or process is of a class type
pub class_parameters : (t : Tree) → faults_of t ≡ [] → (k : ℕ) → ((system_of t.program k).kind ≡ system_kind.Class → ⊥) → HasNoClass t.program (system_of t.program k).parameters
class_parameters t h k not = no_class t.program (system_of t.program k).kind (system_of t.program k).parameters not (admit_at (declared t.program).systems (declared t.program).systems k (declared t.program) t.program (systems_sound t h))
