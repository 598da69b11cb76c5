-- The parameters of functions are no `var` parameters.
use Rattle.cp_machine_laws.proofs.Words.{some_same, ◌≡◌, ◌∙◌, false, List, [], ◌∷◌, ◌++◌, Option, Some, None, ap, sym, refl, subst, Name, Ty, array_over, component_of, system_of, Each}
use Rattle.cp_machine_laws.proofs.Words.{Meaning, local_variable, permanent_variable, routine_meaning, Scope, find, since, last_field}
use Rattle.cp_tree.specs.Syntax.{Designator, designator, Group, RoutineKind, procedure, function, invariants, Routine, Program}
use Rattle.cp_meaning.specs.Declarations.{type_named, names_of, Parameter, Heading, parameters_named, with_group, with_groups, heading_of, result_of, RoutineMeaning, routine_in}
use Rattle.cp_meaning.specs.Expressions.{routine_of_system, routine_of_type, routine_meant, routine_called}

abbrev IsValue : Parameter → Type 0
IsValue q = q.is_var ≡ false

values_append : (qs rs : List Parameter) → Each IsValue qs → Each IsValue rs → Each IsValue (qs ++ rs)
values_append [] rs h k = k
values_append (q ∷ qs) rs h k = (h.0, values_append qs rs h.1 k)

named_values : (xs : List Name) (t : Ty) → Each IsValue (parameters_named xs t false)
named_values [] t = tt
named_values (x ∷ xs) t = (refl, named_values xs t)

groups_values : (m : Ty → Meaning) (h : Heading) (gs : List Group) → Each IsValue h.parameters → Each IsValue (with_groups m h gs).parameters
groups_values m h [] v = v
groups_values m h (g ∷ gs) v = groups_values m (with_group m false h g) gs (values_append h.parameters (parameters_named (names_of g.names) (type_named h.scope g.type_name.name) false) v (named_values (names_of g.names) (type_named h.scope g.type_name.name)))

heading_values : (s u : Scope) (k : RoutineKind) → (result_of u k ≡ None → ⊥) → Each IsValue (heading_of s k).parameters
heading_values s u (procedure gs) some = absurd (some refl)
heading_values s u invariants some = absurd (some refl)
heading_values s u (function gs i) some = groups_values local_variable (record { parameters = []; scope = s }) gs tt

-- a routine that is found is one that is declared
record IsDeclared (m : RoutineMeaning) : Type 0 where
  scope : Scope
  routine : Routine
  same : m ≡ routine_in scope routine

declared_values : (m : RoutineMeaning) → IsDeclared m → (m.result ≡ None → ⊥) → Each IsValue m.parameters
declared_values m d some = subst (λ (z : RoutineMeaning). Each IsValue z.parameters) (sym d.same) (heading_values d.scope (heading_of d.scope d.routine.kind).scope d.routine.kind (λ e. some (ap (λ (z : RoutineMeaning). z.result) d.same ∙ e)))

system_declared : (y : Name) (o : Option Meaning) (s : Scope) (m : RoutineMeaning) → routine_of_system y o s ≡ Some m → IsDeclared m
system_declared y (Some (routine_meaning r)) s m e = record { scope = since y s; routine = r; same = sym (some_same (routine_in (since y s) r) m e) }
system_declared y x s m e = absurd (cc)

type_declared : (p : Program) (t : Ty) (y : Name) (m : RoutineMeaning) → routine_of_type p t y ≡ Some m → IsDeclared m
type_declared p (component_of k) y m e = system_declared y (find y (system_of p k).scope) (system_of p k).scope m e
type_declared p (array_over r (component_of k)) y m e = system_declared y (find y (system_of p k).scope) (system_of p k).scope m e
type_declared p x y m e = absurd (cc)

meant_declared : (p : Program) (s : Scope) (x : Name) (w : Option Meaning) (o : Option Name) (m : RoutineMeaning) → routine_meant p s x w o ≡ Some m → IsDeclared m
meant_declared p s x (Some (routine_meaning r)) o m e = record { scope = since x s; routine = r; same = sym (some_same (routine_in (since x s) r) m e) }
meant_declared p s x (Some (permanent_variable t)) (Some y) m e = type_declared p t y m e
meant_declared p s x y z m e = absurd (cc)

pub called_values : (p : Program) (s : Scope) (d : Designator) (m : RoutineMeaning) → routine_called p s d ≡ Some m → (m.result ≡ None → ⊥) → Each (λ (q : Parameter). q.is_var ≡ false) m.parameters
called_values p s (designator i ss) m e some = declared_values m (meant_declared p s i.name (find i.name s) (last_field ss) m e) some
