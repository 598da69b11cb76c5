-- No parameter of a system type is a `var` parameter.
use Rattle.cp_resolved.proofs.Words.{◌≡◌, ℕ, zero, suc, false, List, [], ◌∷◌, slice_get, refl, Name, Ty, Scope, permanent_variable, predeclared, seen_inside, Each}
use Rattle.cp_resolved.proofs.Words.{IsValueParameter, Parameter, Heading, names_of, parameters_named, type_named, with_group, with_groups}
use Rattle.cp_tree.specs.Syntax.{Group, System, Definition, type_definition, system_definition, SystemDefinition, ProgramPart, program_types, Program}
use Rattle.cp_meaning.specs.Systems.{SystemMeaning, system_in, Declared, definition_in, definitions_in, program_part_in, program_parts_in, declared, own_meaning, or_own, system_of}
use Rattle.cp_resolved.proofs.frames.FrameCells.{each_both}

abbrev AreValues : SystemMeaning → Type 0
AreValues m = Each IsValueParameter m.parameters

named_values : (xs : List Name) (t : Ty) → Each IsValueParameter (parameters_named xs t false)
named_values [] t = tt
named_values (x ∷ xs) t = (refl, named_values xs t)

pub groups_values : (h : Heading) (gs : List Group) → Each IsValueParameter h.parameters → Each IsValueParameter (with_groups permanent_variable h gs).parameters
groups_values h [] i = i
groups_values h (g ∷ gs) i = groups_values (with_group permanent_variable false h g) gs (each_both IsValueParameter h.parameters (parameters_named (names_of g.names) (type_named h.scope g.type_name.name) false) i (named_values (names_of g.names) (type_named h.scope g.type_name.name)))

system_values : (s : Scope) (d : System) → AreValues (system_in s d)
system_values s d = groups_values (record { parameters = []; scope = s }) d.parameters tt

-- ---- all system types of a program

definition_values : (d : Declared) (n : SystemDefinition) (v : Definition) → Each AreValues d.systems → Each AreValues (definition_in d n v).systems
definition_values d n (type_definition t) h = h
definition_values d n (system_definition s) h = each_both AreValues d.systems (system_in (seen_inside d.scope) s ∷ []) h (system_values (seen_inside d.scope) s, tt)

definitions_values : (d : Declared) (ns : List SystemDefinition) → Each AreValues d.systems → Each AreValues (definitions_in d ns).systems
definitions_values d [] h = h
definitions_values d (n ∷ ns) h = definitions_values (definition_in d n n.value) ns (definition_values d n n.value h)

part_values : (d : Declared) (p : ProgramPart) → Each AreValues d.systems → Each AreValues (program_part_in d p).systems
part_values d (program_types at ns) h = definitions_values d ns h
part_values d _ h = h

parts_values : (d : Declared) (ps : List ProgramPart) → Each AreValues d.systems → Each AreValues (program_parts_in d ps).systems
parts_values d [] h = h
parts_values d (p ∷ ps) h = parts_values (program_part_in d p) ps (part_values d p h)

values_at : (own : SystemMeaning) (ms : List SystemMeaning) (k : ℕ) → AreValues own → Each AreValues ms → AreValues (or_own own (slice_get ms k))
values_at own [] k o h = o
values_at own (m ∷ ms) zero o h = h.0
values_at own (m ∷ ms) (suc k) o h = values_at own ms k o h.1

pub value_parameters : (p : Program) (k : ℕ) → Each (λ (q : Parameter). q.is_var ≡ false) (system_of p k).parameters
value_parameters p k = values_at (own_meaning (declared p) p) (declared p).systems k tt (parts_values (record { systems = []; variables = []; scope = predeclared }) p.parts tt)
