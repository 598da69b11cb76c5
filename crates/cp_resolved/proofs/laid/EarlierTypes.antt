-- The arrays and records of a program hold earlier ones alone.
use Rattle.std.proofs.Common.{◌≡◌, ◌+◌, ◌≤◌, ◌⊎◌, inl, inr, ℕ, Bool, true, false, if◌then◌else◌, List, [], ◌∷◌, ◌++◌, length, Option, Some, None, slice_get, refl, sym, ap, subst, arith, length-append}
use Rattle.cp_resolved.proofs.Words.{none-some, Identifier, CellType, Contained, LayoutMeaning, routine_begun, system_begun, Each}
use Rattle.cp_tree.specs.Syntax as syntax
use Rattle.cp_symbols.specs.declared.kinds.CellType.TheVariants as types
use Rattle.cp_symbols.specs.declared.names.LayoutMeaning.TheVariants as meaning
use Rattle.cp_symbols.specs.Kinds.{Field, Compound, array, record_with, Compounds, cells_of}
use Rattle.cp_layout.specs.Kinds.{array_type, Fields, with_field}
use Rattle.cp_layout.specs.Layers.{Names, Layer, find_type, seen_inside, is_open, with_name, nothing_laid}
use Rattle.cp_layout.specs.LaidTypes.{type_meant, with_constant, fields_of_type}
use Rattle.cp_layout.specs.LaidDeclarations.{with_local, variable_with, permanent_parts, local, Parameters, var_parameter, heading, heading_with, body, with_new_frame, with_heading, open_routine, routine, routines, enter_system, system_parameter, system_groups, system, definition, system_definition, system_definitions, program_part, program_parts, program}
use Rattle.cp_resolved.proofs.names.Entries.{last_or_before}
use Rattle.cp_resolved.proofs.laid.Extends.{Longer, routine_extends, routine_names, system_extends}
use Rattle.cp_resolved.proofs.laid.Grown.{body_grew}
use Rattle.cp_resolved.proofs.frames.EncodedCells.{IsBelow, AreBelow, HoldsBelow, HoldEarlier}
use Rattle.cp_resolved.proofs.laid.Declaring.{latest_type, TypeSteps, FrameSteps, SystemSteps, type_leads, constants_lead, variables_lead, permanent_parts_lead, local_parts_lead, heading_leads, system_groups_lead}
use Rattle.cp_resolved.proofs.frames.FrameCells.{each_both}

-- ---- names of types

abbrev KindBelow : ℕ → LayoutMeaning → Type 0
KindBelow n (meaning.Kind v) = IsBelow n v
KindBelow n m = Unit {0}

abbrev KindsBelow : ℕ → Names → Type 0
KindsBelow n ns = Each (λ d. KindBelow n d.1) ns

-- what is written, and each name of a type, is there
record Orderly (l : Layer) : Type 0 where
  names : KindsBelow (length l.types) l.names
  types : HoldEarlier l.types

-- a state after another one
record Later (l m : Layer) : Type 0 where
  orderly : Orderly m
  longer : length l.types ≤ length m.types

later_same : (l m : Layer) → m.types ≡ l.types → KindsBelow (length m.types) m.names → Orderly l → Later l m
later_same l m e names o = let f : length m.types ≡ length l.types = ap (λ (ts : Compounds). length ts) e in record { orderly = record { names = names; types = subst HoldEarlier (sym e) o.types }; longer = omega (arith, f) }

-- ---- more types

type_higher : (m n : ℕ) (v : CellType) → m ≤ n → IsBelow m v → IsBelow n v
type_higher m n (types.Array k) le h = omega (arith, le, h)
type_higher m n (types.Record k) le h = omega (arith, le, h)
type_higher m n _ le h = tt

fields_higher : (m n : ℕ) (fs : List Field) → m ≤ n → AreBelow m fs → AreBelow n fs
fields_higher m n [] le h = tt
fields_higher m n (f ∷ fs) le h = (type_higher m n f.value_type le h.0, fields_higher m n fs le h.1)

kind_higher : (m n : ℕ) (p : LayoutMeaning) → m ≤ n → KindBelow m p → KindBelow n p
kind_higher m n (meaning.Kind v) le h = type_higher m n v le h
kind_higher m n _ le h = tt

kinds_higher : (m n : ℕ) (ns : Names) → m ≤ n → KindsBelow m ns → KindsBelow n ns
kinds_higher m n [] le h = tt
kinds_higher m n (d ∷ ds) le h = (kind_higher m n d.1 le h.0, kinds_higher m n ds le h.1)

longer_length : {A : Type 0} → (xs ys : List A) → Longer xs ys → length xs ≤ length ys
longer_length xs ys h = let a = length-append xs h.0 in let e : length ys ≡ length (xs ++ h.0) = ap (λ zs. length zs) h.1 in omega (arith, a, e)

one_more : (ts : Compounds) (c : Compound) → length (ts ++ c ∷ []) ≡ length ts + 1
one_more ts c = length-append ts (c ∷ [])

with_compound : (ts : Compounds) (c : Compound) → HoldsBelow (length ts) c → HoldEarlier ts → HoldEarlier (ts ++ c ∷ [])
with_compound ts c h g n d e = go (last_or_before ts c n d e)
  where
    go : (slice_get ts n ≡ Some d) ⊎ ((n ≡ length ts) × (d ≡ c)) → HoldsBelow n d
    go (inl f) = g n d f
    go (inr f) = rw (f.0, f.1) h

orderly_compound : (l : Layer) (c : Compound) → HoldsBelow (length l.types) c → Orderly l → Orderly (record l { types = l.types ++ c ∷ [] })
orderly_compound l c h o = record { names = (let e = one_more l.types c in kinds_higher (length l.types) (length (l.types ++ c ∷ [])) l.names (omega (arith, e)) o.names); types = with_compound l.types c h o.types }

-- ---- types

find_below : (n : ℕ) (x : List ℕ) (ns : Names) → KindsBelow n ns → IsBelow n (type_meant (find_type x ns))
find_below n x ns h = latest_type (IsBelow n) (KindBelow n) (λ v i. i) tt x ns h

fields_of_below : (n : ℕ) (r : Fields) (is : List Identifier) (v : CellType) (cells : ℕ) → IsBelow n v → AreBelow n r.fields → AreBelow n (fields_of_type r is v cells).fields
unfolding fields_of_type
fields_of_below n r [] v cells b h = h
fields_of_below n r (i ∷ is) v cells b h = fields_of_below n (with_field r i.name v cells) is v cells b (each_both (λ (f : Field). IsBelow n f.value_type) r.fields (_ ∷ []) h (b, tt))

-- ---- the small steps

compound_later : (l : Layer) (c : Compound) → HoldsBelow (length l.types) c → Orderly l → Later l (record l { types = l.types ++ c ∷ [] })
compound_later l c h o = let e = one_more l.types c in record { orderly = orderly_compound l c h o; longer = omega (arith, e) }

orderly_types : TypeSteps Later Orderly (λ l v. IsBelow (length l.types) v) (λ l r. AreBelow (length l.types) r.fields)
orderly_types =
    record {
      same = λ l o. later_same l l refl o.names o;
      both = λ l k m h i. (let a = h.longer in let b = i.longer in record { orderly = i.orderly; longer = omega (arith, a, b) });
      after = λ l m h. h.orderly;
      named = λ l x o. find_below (length l.types) x l.names o.names;
      ordinal = λ l r. tt;
      set = λ l r. tt;
      element = λ l x b z o. later_same l (with_constant l x (meaning.Constant b z)) refl (tt, o.names) o;
      array = λ l r v h o. (let e = one_more l.types (array (array_type l.types r v)) in (compound_later l (array (array_type l.types r v)) h o, omega (arith, e)));
      none = λ l. tt;
      group = λ l m r is v h b q. fields_of_below (length m.types) r is v (cells_of m.types v) b (fields_higher (length l.types) (length m.types) r.fields h.longer q);
      record_type = λ l r q o. (let e = one_more l.types (record_with r.fields r.cells) in (compound_later l (record_with r.fields r.cells) q o, omega (arith, e)));
      constant_name = λ l x b z o. later_same l (with_name l x (meaning.Constant b z)) refl (tt, o.names) o;
      type_name = λ l x v h o. later_same l (with_name l x (meaning.Kind v)) refl (h, o.names) o;
    }

orderly_frames : FrameSteps Later Orderly
orderly_frames =
    record {
      local_cells = λ l x v o. later_same l (local l x v) refl (tt, o.names) o;
      reference = λ l ps x v o. later_same l (var_parameter l ps x v).1 refl (tt, o.names) o;
      result = λ l v o. later_same l (with_local l v).1 refl o.names o;
    }

variable_later : (l : Layer) (x : List ℕ) (v : CellType) (o : Option Contained) → Orderly l → Later l (variable_with l x v o)
variable_later l x v None h = later_same l (variable_with l x v None) refl (tt, h.names) h
variable_later l x v (Some c) h = later_same l (variable_with l x v (Some c)) refl (tt, h.names) h

parameter_later : (l : Layer) (ps : Parameters) (x : List ℕ) (v : CellType) → Orderly l → Later l (system_parameter l ps x v).1
parameter_later l ps x (types.System k) o = later_same l (system_parameter l ps x (types.System k)).1 refl (tt, o.names) o
parameter_later l ps x v o = later_same l (system_parameter l ps x v).1 refl (tt, o.names) o

orderly_systems : SystemSteps Later Orderly (λ l v. IsBelow (length l.types) v)
orderly_systems = record { still = λ l m v h i. type_higher (length l.types) (length m.types) v h.longer i; permanent = λ l x v o b h. variable_later l x v o h; parameter = λ l ps x v b o. parameter_later l ps x v o }

orderly_name : (l : Layer) (x : List ℕ) (m : LayoutMeaning) → KindBelow (length l.types) m → Orderly l → Orderly (with_name l x m)
orderly_name l x m h o = record { names = (h, o.names); types = o.types }

-- ---- routines

body_types : (l : Layer) (b : syntax.Body) (c : Bool) → (body l b c).types ≡ l.types
body_types l b c = ap (λ (j : Layer). j.types) (body_grew l b.statements c).1

routine_orderly : (l : Layer) (r : syntax.Routine) → Orderly l → Orderly (routine l r)
routine_orderly l r o =
    let x : Layer = (open_routine l r.name.name).1 in
    let h = heading x r.name.name r.kind in
    let a : Orderly x = record { names = (tt, o.names); types = o.types } in
    let b : Orderly h.1 = (heading_leads orderly_types orderly_frames x r.name.name r.kind a).orderly in
    let c : Orderly (routine_begun l r) = (local_parts_lead orderly_types orderly_frames (with_heading h.1 h.0) r.parts (record { names = b.names; types = b.types })).orderly in
    let e : Longer l.types (routine l r).types = (routine_extends l r).types in
    record {
      names = subst (λ (ns : Names). KindsBelow (length (routine l r).types) ns) (sym (routine_names l r)) (tt, kinds_higher (length l.types) (length (routine l r).types) l.names (longer_length l.types (routine l r).types e) o.names);
      types = subst HoldEarlier (sym (body_types (routine_begun l r) r.body r.is_entry)) c.types;
    }

routines_orderly : (l : Layer) (rs : List syntax.Routine) → Orderly l → Orderly (routines l rs)
unfolding routines
routines_orderly l [] o = o
routines_orderly l (r ∷ rs) o = routines_orderly (routine l r) rs (routine_orderly l r o)

-- ---- system types

inside_below : (n : ℕ) (ns : Names) → KindsBelow n ns → KindsBelow n (seen_inside ns)
inside_below n [] h = tt
inside_below n (d ∷ ds) h = go (is_open d.1) (inside_below n ds h.1)
  where
    go : (b : Bool) → KindsBelow n (seen_inside ds) → KindsBelow n (if b then d ∷ seen_inside ds else seen_inside ds)
    go true rest = (h.0, rest)
    go false rest = rest

system_orderly : (l : Layer) (s : syntax.System) → Orderly l → Orderly (system l s).1
unfolding system
system_orderly l s o =
    let x : Layer = (enter_system l).1 in
    let y : Parameters × Layer = system_groups x [] s.parameters in
    let a : Orderly x = record { names = inside_below (length l.types) l.names o.names; types = o.types } in
    let b : Orderly (system_begun l s) = routines_orderly (permanent_parts y.1 s.parts) s.routines (permanent_parts_lead orderly_types orderly_systems y.1 s.parts (system_groups_lead orderly_types orderly_systems x [] s.parameters a).orderly).orderly in
    let e : Longer l.types (system l s).1.types = (system_extends l s).types in
    let le : length l.types ≤ length (system l s).1.types = longer_length l.types (system l s).1.types e in
    record {
      names = kinds_higher (length l.types) (length (system l s).1.types) l.names le o.names;
      types = subst HoldEarlier (sym (body_types (with_heading (with_new_frame (system_begun l s)) (heading_with [] y.0 None)) s.body true)) b.types;
    }

-- ---- the program

definition_orderly : (l : Layer) (d : syntax.Definition) → Orderly l → Orderly (definition l d).1 × IsBelow (length (definition l d).1.types) (definition l d).0
unfolding system
definition_orderly l (syntax.type_definition t) o = let a = type_leads orderly_types l t o in (a.0.orderly, a.1)
definition_orderly l (syntax.system_definition s) o = (system_orderly l s o, tt)

system_definitions_orderly : (l : Layer) (ds : List syntax.SystemDefinition) → Orderly l → Orderly (system_definitions l ds)
unfolding system_definitions
system_definitions_orderly l [] o = o
system_definitions_orderly l (d ∷ ds) o = let x = definition l d.value in let a = definition_orderly l d.value o in system_definitions_orderly (system_definition l d) ds (orderly_name x.1 d.name.name (meaning.Kind x.0) a.1 a.0)

part_orderly : (l : Layer) (p : syntax.ProgramPart) → Orderly l → Orderly (program_part l p)
part_orderly l (syntax.program_constants at ds) o = (constants_lead orderly_types l ds o).orderly
part_orderly l (syntax.program_types at ds) o = system_definitions_orderly l ds o
part_orderly l (syntax.program_variables at gs) o = (variables_lead orderly_types orderly_systems l gs o).orderly

parts_orderly : (l : Layer) (ps : List syntax.ProgramPart) → Orderly l → Orderly (program_parts l ps)
unfolding program_parts
parts_orderly l [] o = o
parts_orderly l (p ∷ ps) o = parts_orderly (program_part l p) ps (part_orderly l p o)

pub program_earlier : (lines : List ℕ) (p : syntax.Program) → HoldEarlier (program (nothing_laid lines) p).types
unfolding program
program_earlier lines p =
    let m : Layer = program_parts (nothing_laid lines) p.parts in
    let a : Orderly (nothing_laid lines) = record { names = (tt, (tt, (tt, (tt, (tt, (tt, (tt, (tt, (tt, (tt, (tt, (tt, (tt, (tt, (tt, tt))))))))))))))); types = λ n c e. absurd (none-some c e) } in
    let b : Orderly (routines m p.routines) = routines_orderly m p.routines (parts_orderly (nothing_laid lines) p.parts a) in
    subst HoldEarlier (sym (body_types (with_heading (with_new_frame (routines m p.routines)) (heading_with [] [] None)) p.body true)) b.types
