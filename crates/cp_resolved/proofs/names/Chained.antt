-- The states in which the statements of routines and initial statements begin come one after the other: each extends those before it.
use Rattle.std.proofs.Common.{◌≡◌, ◌≤◌, ℕ, zero, suc, List, [], ◌∷◌, ◌++◌, Some, None, slice_get, refl, subst, arith}
use Rattle.cp_resolved.proofs.Words.{none-some, same_Some, Layer, nothing_laid, no_frame, written_type, whole_laid, true}
use Rattle.cp_tree.specs.Syntax as syntax
use Rattle.cp_layout.specs.LaidDeclarations.{Parameters, heading_with, with_new_frame, enter_system, system_groups, body, initial_statement, routine, routines, system, with_type_name, definition, system_definition, system_definitions, program_part, program_parts, program}
use Rattle.cp_resolved.specs.Begun.{routine_begun, routines_begun, initial_begun, parameters_of, parts_begun, system_begun, definition_begun, definitions_begun, part_begun, program_parts_begun, all_begun}
use Rattle.cp_resolved.proofs.laid.Declares.{type_declares, permanent_parts_declare, system_groups_declare}
use Rattle.cp_resolved.proofs.laid.Extends.{longer_trans, Extends, extends_trans, extends_with, extends_same, declared_extends, heading_extends, body_extends, begun_extends, program_part_extends}

-- from a state through others to a last one
abbrev pub Chain : Layer → List Layer → Layer → Type 0
Chain l [] m = Extends l m
Chain l (x ∷ xs) m = Extends l x × Chain x xs m

chain_after : (j l : Layer) (xs : List Layer) (m : Layer) → Extends j l → Chain l xs m → Chain j xs m
chain_after j l [] m e h = extends_trans j l m e h
chain_after j l (x ∷ xs) m e h = (extends_trans j l x e h.0, h.1)

chain_both : (l k m : Layer) (xs ys : List Layer) → Chain l xs k → Chain k ys m → Chain l (xs ++ ys) m
chain_both l k m [] ys h g = chain_after l k ys m h g
chain_both l k m (x ∷ xs) ys h g = (h.0, chain_both x k m xs ys h.1 g)

chain_to : (l : Layer) (xs : List Layer) (m : Layer) (j : ℕ) (b : Layer) → Chain l xs m → slice_get xs j ≡ Some b → Extends l b
chain_to l [] m j b h e = absurd (none-some b e)
chain_to l (x ∷ xs) m zero b h e = subst (Extends l) (same_Some x b e) h.0
chain_to l (x ∷ xs) m (suc j) b h e = extends_trans l x b h.0 (chain_to x xs m j b h.1 e)

-- each extends those before it
pub chain_between : (l : Layer) (xs : List Layer) (m : Layer) (i j : ℕ) (a b : Layer) → Chain l xs m → i ≤ j → slice_get xs i ≡ Some a → slice_get xs j ≡ Some b → Extends a b
chain_between l [] m i j a b h le e f = absurd (none-some a e)
chain_between l (x ∷ xs) m zero zero a b h le e f = subst (λ y. Extends y b) (same_Some x a e) (subst (Extends x) (same_Some x b f) (extends_same x))
chain_between l (x ∷ xs) m zero (suc j) a b h le e f = subst (λ y. Extends y b) (same_Some x a e) (chain_to x xs m j b h.1 f)
chain_between l (x ∷ xs) m (suc i) zero a b h le e f = absurd (omega (arith, le))
chain_between l (x ∷ xs) m (suc i) (suc j) a b h le e f = chain_between x xs m i j a b h.1 (omega (arith, le)) e f

-- ---- routines and system types

closed_extends : (l : Layer) (r : syntax.Routine) → Extends (routine_begun l r) (routine l r)
closed_extends l r =
    let k : Layer = routine_begun l r in
    let e : Extends k (body k r.body r.is_entry) = body_extends k r.body r.is_entry in
    record { lines = e.lines; types = e.types; constants = e.constants; items = e.items; headings = e.headings; routines = e.routines; systems = e.systems }

routines_chain : (l : Layer) (rs : List syntax.Routine) → Chain l (routines_begun l rs) (routines l rs)
unfolding routines
routines_chain l [] = extends_same l
routines_chain l (r ∷ rs) = (begun_extends l r, chain_after (routine_begun l r) (routine l r) (routines_begun (routine l r) rs) (routines (routine l r) rs) (closed_extends l r) (routines_chain (routine l r) rs))

parts_extend : (l : Layer) (s : syntax.System) → Extends l (parts_begun l s)
parts_extend l s =
    let x : Layer = (enter_system l).1 in
    let y : Layer = (system_groups x [] s.parameters).1 in
    let a : Extends x y = declared_extends x y (system_groups_declare x [] s.parameters) in
    let b : Extends l y = record { lines = a.lines; types = a.types; constants = a.constants; items = a.items; headings = a.headings; routines = a.routines; systems = a.systems } in
    extends_trans l y (parts_begun l s) b (declared_extends y (parts_begun l s) (permanent_parts_declare y s.parts))

initial_before : (l : Layer) (ps : Parameters) → Extends l (initial_begun l ps)
initial_before l ps = extends_trans l (with_new_frame l) (initial_begun l ps) (extends_with l l.names l.owned no_frame l.noted) (heading_extends (with_new_frame l) (heading_with [] ps None))

initial_after : (l : Layer) (ps : Parameters) (b : syntax.Body) → Extends (initial_begun l ps) (initial_statement l ps b)
initial_after l ps b = body_extends (initial_begun l ps) b true

left_extends : (l : Layer) (s : syntax.System) → Extends (initial_begun (system_begun l s) (parameters_of l s)) (system l s).1
unfolding system
left_extends l s =
    let k : Layer = initial_begun (system_begun l s) (parameters_of l s) in
    let m : Layer = initial_statement (system_begun l s) (parameters_of l s) s.body in
    let e : Extends k m = initial_after (system_begun l s) (parameters_of l s) s.body in
    record {
      lines = e.lines;
      types = e.types;
      constants = e.constants;
      items = e.items;
      headings = e.headings;
      routines = e.routines;
      systems = longer_trans k.systems m.systems (system l s).1.systems e.systems (_ ∷ [], refl);
    }

system_chain : (l : Layer) (s : syntax.System) → Chain l (definition_begun l (syntax.system_definition s)) (system l s).1
system_chain l s =
    let z : Layer = parts_begun l s in
    let b : Layer = system_begun l s in
    let i : Layer = initial_begun b (parameters_of l s) in
    chain_both l b (system l s).1 (routines_begun z s.routines) (i ∷ []) (chain_after l z (routines_begun z s.routines) b (parts_extend l s) (routines_chain z s.routines)) (initial_before b (parameters_of l s), left_extends l s)

-- ---- the program

chain_then : (l k m : Layer) (xs : List Layer) → Chain l xs k → Extends k m → Chain l xs m
chain_then l k m [] h e = extends_trans l k m h e
chain_then l k m (x ∷ xs) h e = (h.0, chain_then x k m xs h.1 e)

definition_chain : (l : Layer) (n : syntax.SystemDefinition) (v : syntax.Definition) → Chain l (definition_begun l v) (with_type_name n.name.name (definition l v))
definition_chain l n (syntax.type_definition t) =
    let x : Layer = (written_type l t).1 in
    extends_trans l x (with_type_name n.name.name (written_type l t)) (declared_extends l x (type_declares l t)) (extends_with x _ x.owned x.frame _)
definition_chain l n (syntax.system_definition s) =
    let x : Layer = (system l s).1 in
    chain_then l x (with_type_name n.name.name (system l s)) (definition_begun l (syntax.system_definition s)) (system_chain l s) (extends_with x _ x.owned x.frame _)

definitions_chain : (l : Layer) (ns : List syntax.SystemDefinition) → Chain l (definitions_begun l ns) (system_definitions l ns)
unfolding system_definitions
definitions_chain l [] = extends_same l
definitions_chain l (n ∷ ns) =
    let m : Layer = system_definition l n in
    chain_both l m (system_definitions m ns) (definition_begun l n.value) (definitions_begun m ns) (definition_chain l n n.value) (definitions_chain m ns)

part_chain : (l : Layer) (q : syntax.ProgramPart) → Chain l (part_begun l q) (program_part l q)
part_chain l (syntax.program_constants at ds) = program_part_extends l (syntax.program_constants at ds)
part_chain l (syntax.program_types at ns) = definitions_chain l ns
part_chain l (syntax.program_variables at gs) = program_part_extends l (syntax.program_variables at gs)

parts_chain : (l : Layer) (qs : List syntax.ProgramPart) → Chain l (program_parts_begun l qs) (program_parts l qs)
unfolding program_parts
parts_chain l [] = extends_same l
parts_chain l (q ∷ qs) =
    let m : Layer = program_part l q in
    chain_both l m (program_parts m qs) (part_begun l q) (program_parts_begun m qs) (part_chain l q) (parts_chain m qs)

pub all_chain : (t : syntax.Tree) → Chain (nothing_laid t.lines) (all_begun t) (whole_laid t)
unfolding program
all_chain t =
    let p : syntax.Program = t.program in
    let l : Layer = nothing_laid t.lines in
    let m : Layer = program_parts l p.parts in
    let b : Layer = routines m p.routines in
    let i : Layer = initial_begun b [] in
    chain_both l m (whole_laid t) (program_parts_begun l p.parts) (routines_begun m p.routines ++ i ∷ []) (parts_chain l p.parts)
    (chain_both m b (whole_laid t) (routines_begun m p.routines) (i ∷ []) (routines_chain m p.routines) (initial_before b [], initial_after b [] p.body))
