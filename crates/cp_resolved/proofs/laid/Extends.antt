-- What routines, system types and the program leave of the state: its lists only grow. The names after a routine or a system type are those before it.
use Rattle.std.proofs.Common.{◌≡◌, ℕ, ◌-◌, List, [], ◌∷◌, ◌++◌, length, drop, Option, None, refl, sym, ap, ◌∙◌, append_assoc, arith, length-append}
use Rattle.std.proofs.lemmas.List.{append-nil}
use Rattle.std.proofs.Math.Seq.{drop-append_seam}
use Rattle.cp_tree.specs.Syntax as syntax
use Rattle.cp_symbols.specs.declared.names.LayoutMeaning.TheVariants as meaning
use Rattle.cp_symbols.specs.Symbols.{Noted}
use Rattle.cp_layout.specs.Layers.{Names, Layer, Heading, Owned, Frame, no_frame, with_routine}
use Rattle.cp_resolved.proofs.Words.{routine_begun, system_begun, Bool, true}
use Rattle.cp_layout.specs.LaidDeclarations.{Parameters, heading, heading_with, body, with_new_frame, with_heading, open_routine, close, routine, routines, initial_statement, enter_system, system_groups, permanent_parts, system, definition, system_definition, system_definitions, program_part, program_parts, constants, variables}
use Rattle.cp_resolved.proofs.laid.Grown.{Grew, body_grew}
use Rattle.cp_resolved.proofs.laid.Declares.{Declares, heading_declares, local_parts_declare, permanent_parts_declare, system_groups_declare, type_declares, constants_declare, variables_declare}
use Rattle.cp_resolved.specs.ItemsStand.{body_items}

abbrev pub Longer : {A : Type 0} → List A → List A → Type 0
Longer {A} xs ys = (more : List A) × (ys ≡ xs ++ more)

pub longer_trans : {A : Type 0} → (xs ys zs : List A) → Longer xs ys → Longer ys zs → Longer xs zs
longer_trans xs ys zs h i = (h.0 ++ i.0, i.1 ∙ ap (λ us. us ++ i.0) h.1 ∙ append_assoc xs h.0 i.0)

longer_same : {A : Type 0} → (xs : List A) → Longer xs xs
longer_same xs = ([], sym (append-nil xs))

pub record Extends (l m : Layer) : Type 0 where
  pub lines : m.lines ≡ l.lines
  pub types : Longer l.types m.types
  pub constants : Longer l.constants m.constants
  pub items : Longer l.items m.items
  pub headings : Longer l.headings m.headings
  pub routines : Longer l.routines m.routines
  pub systems : Longer l.systems m.systems

pub extends_trans : (l k m : Layer) → Extends l k → Extends k m → Extends l m
extends_trans l k m h i =
    record {
      lines = i.lines ∙ h.lines;
      types = longer_trans l.types k.types m.types h.types i.types;
      constants = longer_trans l.constants k.constants m.constants h.constants i.constants;
      items = longer_trans l.items k.items m.items h.items i.items;
      headings = longer_trans l.headings k.headings m.headings h.headings i.headings;
      routines = longer_trans l.routines k.routines m.routines h.routines i.routines;
      systems = longer_trans l.systems k.systems m.systems h.systems i.systems;
    }

-- other names and cells
pub extends_with : (l : Layer) (ns : Names) (o : Owned) (f : Frame) (d : List Noted) → Extends l (record l { names = ns; owned = o; frame = f; noted = d })
extends_with l ns o f d =
    record {
      lines = refl;
      types = longer_same l.types;
      constants = longer_same l.constants;
      items = longer_same l.items;
      headings = longer_same l.headings;
      routines = longer_same l.routines;
      systems = longer_same l.systems;
    }

pub extends_same : (l : Layer) → Extends l l
extends_same l = extends_with l l.names l.owned l.frame l.noted

pub declared_extends : (l m : Layer) → Declares l m → Extends l m
declared_extends l m h =
    record {
      lines = ap (λ (j : Layer). j.lines) h.same;
      types = (h.types, ap (λ (j : Layer). j.types) h.same);
      constants = (h.constants, ap (λ (j : Layer). j.constants) h.same);
      items = ([], ap (λ (j : Layer). j.items) h.same ∙ sym (append-nil l.items));
      headings = ([], ap (λ (j : Layer). j.headings) h.same ∙ sym (append-nil l.headings));
      routines = ([], ap (λ (j : Layer). j.routines) h.same ∙ sym (append-nil l.routines));
      systems = ([], ap (λ (j : Layer). j.systems) h.same ∙ sym (append-nil l.systems));
    }

pub grew_extends : (l m : Layer) → Grew l m → Extends l m
grew_extends l m h =
    record {
      lines = ap (λ (j : Layer). j.lines) h.1;
      types = ([], ap (λ (j : Layer). j.types) h.1 ∙ sym (append-nil l.types));
      constants = ([], ap (λ (j : Layer). j.constants) h.1 ∙ sym (append-nil l.constants));
      items = (h.0, ap (λ (j : Layer). j.items) h.1);
      headings = ([], ap (λ (j : Layer). j.headings) h.1 ∙ sym (append-nil l.headings));
      routines = ([], ap (λ (j : Layer). j.routines) h.1 ∙ sym (append-nil l.routines));
      systems = ([], ap (λ (j : Layer). j.systems) h.1 ∙ sym (append-nil l.systems));
    }

-- ---- a body

pub heading_extends : (l : Layer) (h : Heading) → Extends l (with_heading l h)
heading_extends l h =
    record {
      lines = refl;
      types = longer_same l.types;
      constants = longer_same l.constants;
      items = longer_same l.items;
      headings = (h ∷ [], refl);
      routines = longer_same l.routines;
      systems = longer_same l.systems;
    }

whole_extends : (l : Layer) (o : Option ℕ) → Extends l (with_routine l o)
whole_extends l o =
    record {
      lines = refl;
      types = longer_same l.types;
      constants = longer_same l.constants;
      items = longer_same l.items;
      headings = longer_same l.headings;
      routines = (_ ∷ [], refl);
      systems = longer_same l.systems;
    }

pub body_extends : (l : Layer) (b : syntax.Body) (c : Bool) → Extends l (body l b c)
body_extends l b c =
    let x : Option ℕ × Layer = body_items l b.statements c in
    extends_trans l x.1 (body l b c) (grew_extends l x.1 (body_grew l b.statements c)) (whole_extends x.1 x.0)

pub body_names : (l : Layer) (b : syntax.Body) (c : Bool) → (body l b c).names ≡ l.names
body_names l b c = ap (λ (j : Layer). j.names) (body_grew l b.statements c).1

pub initial_extends : (l : Layer) (ps : Parameters) (b : syntax.Body) → Extends l (initial_statement l ps b)
initial_extends l ps b =
    let k : Layer = with_heading (with_new_frame l) (heading_with [] ps None) in
    let e : Extends l k = extends_trans l (with_new_frame l) k (extends_with l l.names l.owned no_frame l.noted) (heading_extends (with_new_frame l) (heading_with [] ps None)) in
    extends_trans l k (initial_statement l ps b) e (body_extends k b true)

-- ---- routines

pub begun_extends : (l : Layer) (r : syntax.Routine) → Extends l (routine_begun l r)
begun_extends l r =
    let x : Layer = (open_routine l r.name.name).1 in
    let h : Heading × Layer = heading x r.name.name r.kind in
    let k : Layer = with_heading h.1 h.0 in
    extends_trans l h.1 (routine_begun l r) (extends_trans l x h.1 (extends_with l x.names l.owned no_frame x.noted) (declared_extends x h.1 (heading_declares x r.name.name r.kind)))
    (extends_trans h.1 k (routine_begun l r) (heading_extends h.1 h.0) (declared_extends k (routine_begun l r) (local_parts_declare k r.parts)))

pub routine_extends : (l : Layer) (r : syntax.Routine) → Extends l (routine l r)
routine_extends l r =
    let k : Layer = routine_begun l r in
    let e : Extends l (body k r.body r.is_entry) = extends_trans l k (body k r.body r.is_entry) (begun_extends l r) (body_extends k r.body r.is_entry) in
    record { lines = e.lines; types = e.types; constants = e.constants; items = e.items; headings = e.headings; routines = e.routines; systems = e.systems }

taken_off : (ns xs : Names) → drop (length (ns ++ xs) - length xs) (ns ++ xs) ≡ xs
taken_off ns xs =
    let e : length (ns ++ xs) - length xs ≡ length ns = omega (arith, length-append ns xs) in
    rw e (drop-append_seam ns xs)

closed_names : (l : Layer) (ns xs : Names) → l.names ≡ ns ++ xs → (close l (length xs)).names ≡ xs
closed_names l ns xs h = rw h (taken_off ns xs)

-- the names after a routine are its own name and those before it
pub routine_names : (l : Layer) (r : syntax.Routine) → (routine l r).names ≡ (r.name.name, meaning.Routine (length l.routines)) ∷ l.names
routine_names l r =
    let x : Layer = (open_routine l r.name.name).1 in
    let h : Heading × Layer = heading x r.name.name r.kind in
    let k : Layer = with_heading h.1 h.0 in
    let d : Declares x h.1 = heading_declares x r.name.name r.kind in
    let e : Declares k (routine_begun l r) = local_parts_declare k r.parts in
    let n : (routine_begun l r).names ≡ e.names ++ (d.names ++ x.names) = ap (λ (j : Layer). j.names) e.same ∙ ap (λ (ns : Names). e.names ++ ns) (ap (λ (j : Layer). j.names) d.same) in
    closed_names (body (routine_begun l r) r.body r.is_entry) (e.names ++ d.names) x.names (body_names (routine_begun l r) r.body r.is_entry ∙ n ∙ sym (append_assoc e.names d.names x.names))

pub routines_extend : (l : Layer) (rs : List syntax.Routine) → Extends l (routines l rs)
unfolding routines
routines_extend l [] = extends_same l
routines_extend l (r ∷ rs) = extends_trans l (routine l r) (routines (routine l r) rs) (routine_extends l r) (routines_extend (routine l r) rs)

-- ---- system types

pub system_begun_extends : (l : Layer) (s : syntax.System) → Extends l (system_begun l s)
system_begun_extends l s =
    let x : Layer = (enter_system l).1 in
    let y : Layer = (system_groups x [] s.parameters).1 in
    let z : Layer = permanent_parts y s.parts in
    let a : Extends x y = declared_extends x y (system_groups_declare x [] s.parameters) in
    let b : Extends l y = record { lines = a.lines; types = a.types; constants = a.constants; items = a.items; headings = a.headings; routines = a.routines; systems = a.systems } in
    extends_trans l z (system_begun l s) (extends_trans l y z b (declared_extends y z (permanent_parts_declare y s.parts))) (routines_extend z s.routines)

pub system_extends : (l : Layer) (s : syntax.System) → Extends l (system l s).1
unfolding system
system_extends l s =
    let ps : Parameters = (system_groups (enter_system l).1 [] s.parameters).0 in
    let k : Layer = system_begun l s in
    let m : Layer = initial_statement k ps s.body in
    let e : Extends l m = extends_trans l k m (system_begun_extends l s) (initial_extends k ps s.body) in
    record {
      lines = e.lines;
      types = e.types;
      constants = e.constants;
      items = e.items;
      headings = e.headings;
      routines = e.routines;
      systems = longer_trans l.systems m.systems (system l s).1.systems e.systems (_ ∷ [], refl);
    }

-- the names after a system type are those before it
pub system_names : (l : Layer) (s : syntax.System) → (system l s).1.names ≡ l.names
unfolding system
system_names l s = refl

-- ---- the program

definition_extends : (l : Layer) (d : syntax.Definition) → Extends l (definition l d).1
definition_extends l (syntax.type_definition t) = declared_extends l (definition l (syntax.type_definition t)).1 (type_declares l t)
definition_extends l (syntax.system_definition s) = system_extends l s

pub system_definition_extends : (l : Layer) (d : syntax.SystemDefinition) → Extends l (system_definition l d)
system_definition_extends l d =
    let e : Extends l (definition l d.value).1 = definition_extends l d.value in
    record { lines = e.lines; types = e.types; constants = e.constants; items = e.items; headings = e.headings; routines = e.routines; systems = e.systems }

pub system_definitions_extend : (l : Layer) (ds : List syntax.SystemDefinition) → Extends l (system_definitions l ds)
unfolding system_definitions
system_definitions_extend l [] = extends_same l
system_definitions_extend l (d ∷ ds) = extends_trans l (system_definition l d) (system_definitions (system_definition l d) ds) (system_definition_extends l d) (system_definitions_extend (system_definition l d) ds)

pub program_part_extends : (l : Layer) (p : syntax.ProgramPart) → Extends l (program_part l p)
program_part_extends l (syntax.program_constants at ds) = declared_extends l (constants l ds) (constants_declare l ds)
program_part_extends l (syntax.program_types at ds) = system_definitions_extend l ds
program_part_extends l (syntax.program_variables at gs) = declared_extends l (variables l gs) (variables_declare l gs)

pub program_parts_extend : (l : Layer) (ps : List syntax.ProgramPart) → Extends l (program_parts l ps)
unfolding program_parts
program_parts_extend l [] = extends_same l
program_parts_extend l (p ∷ ps) = extends_trans l (program_part l p) (program_parts (program_part l p) ps) (program_part_extends l p) (program_parts_extend (program_part l p) ps)
