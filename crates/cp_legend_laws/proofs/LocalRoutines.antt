-- For each routine and initial statement of a tree: among all names that are noted, its parameters and local variables are those that were noted under its number.
use Rattle.std.proofs.Common.{◌≡◌, ℕ, zero, suc, ◌<◌, ◌≤◌, ◌==◌, Bool, true, false, if◌then◌else◌, List, [], ◌∷◌, ◌++◌, length, take, Option, Some, None, slice_get, refl, sym, ap, subst, ◌∙◌, ◌⊎◌, inl, inr, append_assoc, append-nil, arith}
use Rattle.std.proofs.Math.Seq.{take-append_seam}
use Rattle.std.proofs.lemmas.List.Concat.{flat_map-append}
use Rattle.std.proofs.lemmas.Option.{same_Some}
use Rattle.std.specs.Str.{bytes_eq}
use Rattle.cp_legend_laws.proofs.Words.{eq-eqb, eqb-true, flat_map, none-some, Contained, CellType, Each, LayoutMeaning, Layer, Name, Noted, Tree, nothing_laid}
use Rattle.cp_tree.specs.Syntax as syntax
use Rattle.cp_slots.specs.declared.place.PlaceOrigin.TheVariants as origin
use Rattle.cp_symbols.specs.declared.kinds.CellType.TheVariants as types
use Rattle.cp_symbols.specs.declared.names.LayoutMeaning.TheVariants as meaning
use Rattle.cp_layout.specs.Laid.{whole}
use Rattle.cp_layout.specs.Layers.{Names, Heading, find, is_open, seen_inside, with_name}
use Rattle.cp_layout.specs.LaidTypes.{with_constant}
use Rattle.cp_layout.specs.LaidDeclarations.{Parameters, body, definition, enter_system, heading_with, initial_statement, open_routine, program, program_part, program_parts, routine, routines, system, system_definition, system_definitions, system_groups, system_parameter, with_type_name, variable_with}
use Rattle.cp_legend.specs.Names as legend
use Rattle.cp_legend.specs.Names.{local_meant, local_named, parameter_meant, parameter_named}
use Rattle.cp_legend.specs.declared.legend.LegendParameter.{LegendParameter}
use Rattle.cp_meaning.specs.Declarations.{Parameter, routine_in}
use Rattle.cp_meaning.specs.Scopes as scopes
use Rattle.cp_meaning.specs.Scopes.{Scope}
use Rattle.cp_meaning.specs.Systems.{Declared, SystemMeaning, declared, definition_in, own_meaning, program_part_in, program_system, system_in}
use Rattle.cp_resolved.specs.Begun.{all_begun, definition_begun, definitions_begun, initial_begun, parameters_of, part_begun, parts_begun, program_parts_begun, routine_begun, routines_begun, system_begun}
use Rattle.cp_resolved.specs.Fit.{nothing_declared}
use Rattle.cp_resolved.specs.Openings.{Opening, definition_openings, definitions_openings, initial_opening, openings_of, part_openings, parts_openings, parts_scope, routine_openings, with_routine}
use Rattle.cp_resolved.proofs.laid.Declaring.{TypeSteps, SystemSteps, plain_types, type_leads, constants_lead, permanent_parts_lead, system_groups_lead, variables_lead}
use Rattle.cp_resolved.proofs.laid.Extends.{Extends, Longer, body_extends, initial_extends, longer_trans, program_parts_extend, routine_names, routines_extend, system_definitions_extend, system_names}
use Rattle.cp_resolved.proofs.laid.Grown.{body_grew}
use Rattle.cp_resolved.proofs.names.EntriesKnown.{begun_headings, heading_of}
use Rattle.cp_resolved.proofs.names.PermanentNames.{found_cases}
use Rattle.cp_resolved.proofs.names.StepsOfRoutines.{body_count, routine_count}
use Rattle.cp_resolved.proofs.systems.SystemsStand.{each_map}
use Rattle.cp_legend_laws.proofs.LocalsNoted.{AreValuesIf, InOrder, Inner, IsNotedAs, PassedAs, RoutineLists, as_values, held, held_append, is_held, noted_held, routine_inner, routine_lists}
use Rattle.cp_legend_laws.proofs.Noting.{each_both, note}

-- ---- what a legend takes of notes

abbrev pub all_locals : List Noted → List legend.Variable
all_locals [] = []
all_locals (d ∷ ds) = local_meant d.name d.meaning ++ all_locals ds

abbrev pub all_parameters : List Noted → List LegendParameter
all_parameters [] = []
all_parameters (d ∷ ds) = parameter_meant d.meaning ++ all_parameters ds

pub locals_append : (ds es : List Noted) → all_locals (ds ++ es) ≡ all_locals ds ++ all_locals es
locals_append [] es = refl
locals_append (d ∷ ds) es = ap (λ (vs : List legend.Variable). local_meant d.name d.meaning ++ vs) (locals_append ds es) ∙ sym (append_assoc (local_meant d.name d.meaning) (all_locals ds) (all_locals es))

parameters_append : (ds es : List Noted) → all_parameters (ds ++ es) ≡ all_parameters ds ++ all_parameters es
parameters_append [] es = refl
parameters_append (d ∷ ds) es = ap (λ (ps : List LegendParameter). parameter_meant d.meaning ++ ps) (parameters_append ds es) ∙ sym (append_assoc (parameter_meant d.meaning) (all_parameters ds) (all_parameters es))

pub parameters_many : (qs : List Parameter) (ds : List Noted) → InOrder qs ds → length (all_parameters ds) ≡ length qs
parameters_many [] [] h = refl
parameters_many (q ∷ qs) (d ∷ ds) h = go q.is_var h.0.passed (parameters_many qs ds h.1)
  where
    go : (b : Bool) → PassedAs b d.meaning → length (all_parameters ds) ≡ length qs → length (parameter_meant d.meaning ++ all_parameters ds) ≡ suc (length qs)
    go true p rest = ap (λ (n : LayoutMeaning). length (parameter_meant n ++ all_parameters ds)) p.2 ∙ ap suc rest
    go false p rest = ap (λ (n : LayoutMeaning). length (parameter_meant n ++ all_parameters ds)) p.2 ∙ ap suc rest
parameters_many _ _ h = absurd h

take_nothing : (n : ℕ) → take n (let ps : List LegendParameter = [] in ps) ≡ []
take_nothing zero = refl
take_nothing (suc n) = refl

-- as many of them as there are parameters
first_taken : (n : ℕ) (qs : List Parameter) (ds es : List Noted) → n ≡ length qs → InOrder qs ds → take n (all_parameters (ds ++ es)) ≡ all_parameters ds
first_taken n qs ds es e h =
    ap (λ (j : ℕ). take j (all_parameters (ds ++ es))) (e ∙ sym (parameters_many qs ds h)) ∙ (ap (take (length (all_parameters ds))) (parameters_append ds es) ∙ take-append_seam (all_parameters ds) (all_parameters es))

-- ---- the notes of a routine

pub record Picked (n : ℕ) (ds hs : List Noted) : Type 0 where
  pub locals : flat_map (local_named n) ds ≡ all_locals hs
  pub parameters : flat_map (parameter_named n) ds ≡ all_parameters hs

picked_both : (n : ℕ) (ds es hs js : List Noted) → Picked n ds hs → Picked n es js → Picked n (ds ++ es) (hs ++ js)
picked_both n ds es hs js h i =
    record {
      locals = flat_map-append (local_named n) ds es ∙ (ap (λ (vs : List legend.Variable). vs ++ flat_map (local_named n) es) h.locals ∙ (ap (λ (vs : List legend.Variable). all_locals hs ++ vs) i.locals ∙ sym (locals_append hs js)));
      parameters = flat_map-append (parameter_named n) ds es ∙ (ap (λ (ps : List LegendParameter). ps ++ flat_map (parameter_named n) es) h.parameters ∙ (ap (λ (ps : List LegendParameter). all_parameters hs ++ ps) i.parameters ∙ sym (parameters_append hs js)));
    }

not_held : (x : Name) (n : LayoutMeaning) → is_held n ≡ false → (local_meant x n ≡ []) × (parameter_meant n ≡ [])
not_held x (meaning.Variable (origin.Local j) t) e = absurd (let bad : true ≡ false = e in cc)
not_held x (meaning.Variable (origin.Reference j) t) e = absurd (let bad : true ≡ false = e in cc)
not_held x _ e = (refl, refl)

-- of another routine, or of none
one_other : (n : ℕ) (d : Noted) → (d.routine == n) ≡ false → Picked n (d ∷ []) []
one_other n d e = record { locals = ap (λ (b : Bool). (if b then local_meant d.name d.meaning else []) ++ []) e; parameters = ap (λ (b : Bool). (if b then parameter_meant d.meaning else []) ++ []) e }

-- with neither cells nor a number
one_quiet : (n : ℕ) (d : Noted) → is_held d.meaning ≡ false → Picked n (d ∷ []) []
one_quiet n d f = record { locals = first (d.routine == n); parameters = second (d.routine == n) }
  where
    first : (b : Bool) → (if b then local_meant d.name d.meaning else []) ++ [] ≡ []
    first true = ap (λ (vs : List legend.Variable). vs ++ []) (not_held d.name d.meaning f).0
    first false = refl

    second : (b : Bool) → (if b then parameter_meant d.meaning else []) ++ [] ≡ []
    second true = ap (λ (ps : List LegendParameter). ps ++ []) (not_held d.name d.meaning f).1
    second false = refl

abbrev IsOther : ℕ → Noted → Type 0
IsOther n d = is_held d.meaning ≡ true → d.routine ≡ n → ⊥

picked_none : (n : ℕ) (ds : List Noted) → Each (IsOther n) ds → Picked n ds []
picked_none n [] h = record { locals = refl; parameters = refl }
picked_none n (d ∷ ds) h = picked_both n (d ∷ []) ds [] [] (go (is_held d.meaning) (d.routine == n) refl refl) (picked_none n ds h.1)
  where
    go : (b c : Bool) → is_held d.meaning ≡ b → (d.routine == n) ≡ c → Picked n (d ∷ []) []
    go true true e f = absurd (h.0 e (eqb-true d.routine n f))
    go true false e f = one_other n d f
    go false c e f = one_quiet n d e

picked_own : (n : ℕ) (ds : List Noted) → Each (λ (d : Noted). d.routine ≡ n) ds → Picked n ds (held ds)
picked_own n [] h = record { locals = refl; parameters = refl }
picked_own n (d ∷ ds) h = subst (λ (hs : List Noted). Picked n (d ∷ ds) hs) (sym (held_append (d ∷ []) ds)) (picked_both n (d ∷ []) ds (held (d ∷ [])) (held ds) (go (is_held d.meaning) refl) (picked_own n ds h.1))
  where
    mine : (d.routine == n) ≡ true
    mine = eq-eqb d.routine n h.0

    go : (b : Bool) → is_held d.meaning ≡ b → Picked n (d ∷ []) (if b then d ∷ [] else [])
    go true e = record { locals = ap (λ (c : Bool). (if c then local_meant d.name d.meaning else []) ++ []) mine; parameters = ap (λ (c : Bool). (if c then parameter_meant d.meaning else []) ++ []) mine }
    go false e = one_quiet n d e

-- ---- no variable of a frame is visible outside of routines

abbrev pub AreNone : Names → Type 0
AreNone ns = Each (λ (d : List ℕ × LayoutMeaning). is_held d.1 ≡ false) ns

none_found : (x : Name) (n : LayoutMeaning) (ns : Names) → AreNone ns → is_held n ≡ true → find x ns ≡ Some n → ⊥
none_found x n [] h e f = none-some n f
none_found x n (d ∷ ns) h e f = go (found_cases d ns x n f) (none_found x n ns h.1 e)
  where
    go : ((bytes_eq d.0 x ≡ true) × (d.1 ≡ n)) ⊎ (find x ns ≡ Some n) → (find x ns ≡ Some n → ⊥) → ⊥
    go (inl w) rest = absurd (let bad : false ≡ true = sym h.0 ∙ (ap is_held w.1 ∙ e) in cc)
    go (inr g) rest = rest g

none_inside : (ns : Names) → AreNone ns → AreNone (seen_inside ns)
none_inside [] h = tt
none_inside (d ∷ ns) h = go (is_open d.1) (none_inside ns h.1)
  where
    go : (b : Bool) → AreNone (seen_inside ns) → AreNone (if b then d ∷ seen_inside ns else seen_inside ns)
    go true rest = (h.0, rest)
    go false rest = rest

-- ---- what is laid out notes variables of frames under the numbers of the routines that it lays out

abbrev pub IsWithin : (low high : ℕ) → Noted → Type 0
IsWithin low high d = is_held d.meaning ≡ true → (low ≤ d.routine) × (d.routine < high)

pub record Spans (l m : Layer) : Type 0 where
  pub names : List Noted
  pub noted : m.noted ≡ l.noted ++ names
  pub count : length l.routines ≤ length m.routines
  pub within : Each (IsWithin (length l.routines) (length m.routines)) names
  pub clear : AreNone l.names → AreNone m.names

spans_trans : (l k m : Layer) → Spans l k → Spans k m → Spans l m
spans_trans l k m h i =
    record {
      names = h.names ++ i.names;
      noted = i.noted ∙ (ap (λ (ds : List Noted). ds ++ i.names) h.noted ∙ append_assoc l.noted h.names i.names);
      count = (let a = h.count in let b = i.count in omega (arith, a, b));
      within = each_both (IsWithin (length l.routines) (length m.routines)) h.names i.names
          (each_map (IsWithin (length l.routines) (length k.routines)) (IsWithin (length l.routines) (length m.routines)) h.names (λ d f e. (let w = f e in (w.0, (let a = w.1 in let b = i.count in omega (arith, a, b))))) h.within)
          (each_map (IsWithin (length k.routines) (length m.routines)) (IsWithin (length l.routines) (length m.routines)) i.names (λ d f e. (let w = f e in ((let a = w.0 in let b = h.count in omega (arith, a, b)), w.1))) i.within);
      clear = λ c. i.clear (h.clear c);
    }

never : (low high : ℕ) (d : Noted) → is_held d.meaning ≡ false → IsWithin low high d
never low high d f e = absurd (let bad : false ≡ true = sym f ∙ e in cc)

same_count : (l m : Layer) → m.routines ≡ l.routines → length l.routines ≤ length m.routines
same_count l m e = let a = ap (λ rs. length rs) e in omega (arith, a)

spans_clear : (l m : Layer) → m.noted ≡ l.noted → m.routines ≡ l.routines → (AreNone l.names → AreNone m.names) → Spans l m
spans_clear l m ds rs c = record { names = []; noted = ds ∙ sym (append-nil l.noted); count = same_count l m rs; within = tt; clear = c }

spans_same : (l m : Layer) → m.noted ≡ l.noted → m.routines ≡ l.routines → m.names ≡ l.names → Spans l m
spans_same l m ds rs ns = spans_clear l m ds rs (λ h. subst AreNone (sym ns) h)

spans_note : (l m : Layer) (x : Name) (n : LayoutMeaning) → is_held n ≡ false → m.noted ≡ l.noted ++ note l x n ∷ [] → m.routines ≡ l.routines → m.names ≡ (x, n) ∷ l.names → Spans l m
spans_note l m x n f ds rs ns = record { names = note l x n ∷ []; noted = ds; count = same_count l m rs; within = (never (length l.routines) (length m.routines) (note l x n) f, tt); clear = λ h. subst AreNone (sym ns) (f, h) }

spans_types : TypeSteps Spans (λ l. Unit {0}) (λ l t. Unit {0}) (λ l r. Unit {0})
spans_types =
    plain_types Spans (λ l. spans_same l l refl refl refl) spans_trans (λ l x b z. spans_clear l (with_constant l x (meaning.Constant b z)) refl refl (λ h. (refl, h))) (λ l r t. spans_same l _ refl refl refl) (λ l r. spans_same l _ refl refl refl)
    (λ l x b z. spans_note l (with_name l x (meaning.Constant b z)) x (meaning.Constant b z) refl refl refl refl) (λ l x t. spans_note l (with_name l x (meaning.Kind t)) x (meaning.Kind t) refl refl refl refl)

permanent_spans : (l : Layer) (x : List ℕ) (t : CellType) (o : Option Contained) → Spans l (variable_with l x t o)
permanent_spans l x t None = spans_note l (variable_with l x t None) x _ refl refl refl refl
permanent_spans l x t (Some c) = spans_note l (variable_with l x t (Some c)) x _ refl refl refl refl

parameter_spans : (l : Layer) (ps : Parameters) (x : List ℕ) (t : CellType) → Spans l (system_parameter l ps x t).1
parameter_spans l ps x (types.System j) = spans_note l (system_parameter l ps x (types.System j)).1 x _ refl refl refl refl
parameter_spans l ps x _ = spans_note l _ x _ refl refl refl refl

spans_systems : SystemSteps Spans (λ l. Unit {0}) (λ l t. Unit {0})
spans_systems = record { still = λ l m t h i. tt; permanent = λ l x t o i n. permanent_spans l x t o; parameter = λ l ps x t i n. parameter_spans l ps x t }

-- ---- routines and initial statements

-- its name, and what it notes after it
routine_notes : (l : Layer) (r : syntax.Routine) → (routine l r).noted ≡ (l.noted ++ note l r.name.name (meaning.Routine (length l.routines)) ∷ []) ++ (routine_inner l r).names
routine_notes l r = ap (λ (j : Layer). j.noted) (body_grew (routine_begun l r) r.body.statements r.is_entry).1 ∙ (routine_inner l r).noted

routine_spans : (l : Layer) (r : syntax.Routine) → Spans l (routine l r)
routine_spans l r =
    let m : Layer = routine l r in
    let n : Noted = note l r.name.name (meaning.Routine (length l.routines)) in
    let i : Inner (open_routine l r.name.name).1 (routine_begun l r) = routine_inner l r in
    let count : length m.routines ≡ suc (length l.routines) = routine_count l r in
    record {
      names = n ∷ i.names;
      noted = routine_notes l r ∙ append_assoc l.noted (n ∷ []) i.names;
      count = omega (arith, count);
      within = (
        never (length l.routines) (length m.routines) n refl,
        each_map (λ (d : Noted). d.routine ≡ length l.routines) (IsWithin (length l.routines) (length m.routines)) i.names (λ d f e. (omega (arith, f), omega (arith, f, count))) i.own,
      );
      clear = λ h. subst AreNone (sym (routine_names l r)) (refl, h);
    }

routines_span : (l : Layer) (rs : List syntax.Routine) → Spans l (routines l rs)
unfolding routines
routines_span l [] = spans_same l l refl refl refl
routines_span l (r ∷ rs) = spans_trans l (routine l r) (routines (routine l r) rs) (routine_spans l r) (routines_span (routine l r) rs)

initial_notes : (l : Layer) (ps : Parameters) (b : syntax.Body) → (initial_statement l ps b).noted ≡ l.noted
initial_notes l ps b = ap (λ (j : Layer). j.noted) (body_grew (initial_begun l ps) b.statements true).1

initial_spans : (l : Layer) (ps : Parameters) (b : syntax.Body) → Spans l (initial_statement l ps b)
initial_spans l ps b =
    let m : Layer = initial_statement l ps b in
    let count : length m.routines ≡ suc (length l.routines) = body_count (initial_begun l ps) b true in
    record {
      names = [];
      noted = initial_notes l ps b ∙ sym (append-nil l.noted);
      count = omega (arith, count);
      within = tt;
      clear = λ h. subst AreNone (sym (ap (λ (j : Layer). j.names) (body_grew (initial_begun l ps) b.statements true).1)) h;
    }

-- ---- system types, and the program

parts_span : (l : Layer) (s : syntax.System) → Spans l (parts_begun l s)
parts_span l s =
    let e : Layer = (enter_system l).1 in
    let y : Layer = (system_groups e [] s.parameters).1 in
    let a : Spans l e = spans_clear l e refl refl (none_inside l.names) in
    spans_trans l y (parts_begun l s) (spans_trans l e y a (system_groups_lead spans_types spans_systems e [] s.parameters tt)) (permanent_parts_lead spans_types spans_systems y s.parts tt)

system_spans : (l : Layer) (s : syntax.System) → Spans l (system l s).1
unfolding system
system_spans l s =
    let z : Layer = parts_begun l s in
    let b : Layer = system_begun l s in
    let m : Layer = initial_statement b (parameters_of l s) s.body in
    let a : Spans l m = spans_trans l b m (spans_trans l z b (parts_span l s) (routines_span z s.routines)) (initial_spans b (parameters_of l s) s.body) in
    record { names = a.names; noted = a.noted; count = a.count; within = a.within; clear = λ h. subst AreNone (sym (system_names l s)) h }

definition_spans : (l : Layer) (v : syntax.Definition) → Spans l (definition l v).1
definition_spans l (syntax.type_definition t) = (type_leads spans_types l t tt).0
definition_spans l (syntax.system_definition s) = system_spans l s

named_spans : (l : Layer) (x : List ℕ) (v : syntax.Definition) → Spans (definition l v).1 (with_type_name x (definition l v))
named_spans l x v = spans_note (definition l v).1 (with_type_name x (definition l v)) x (meaning.Kind (definition l v).0) refl refl refl refl

definitions_span : (l : Layer) (ns : List syntax.SystemDefinition) → Spans l (system_definitions l ns)
unfolding system_definitions
definitions_span l [] = spans_same l l refl refl refl
definitions_span l (n ∷ ns) =
    let x : Layer = (definition l n.value).1 in
    let m : Layer = system_definition l n in
    spans_trans l m (system_definitions m ns) (spans_trans l x m (definition_spans l n.value) (named_spans l n.name.name n.value)) (definitions_span m ns)

part_spans : (l : Layer) (q : syntax.ProgramPart) → Spans l (program_part l q)
part_spans l (syntax.program_constants at ds) = constants_lead spans_types l ds tt
part_spans l (syntax.program_types at ns) = definitions_span l ns
part_spans l (syntax.program_variables at gs) = variables_lead spans_types spans_systems l gs tt

program_parts_span : (l : Layer) (qs : List syntax.ProgramPart) → Spans l (program_parts l qs)
unfolding program_parts
program_parts_span l [] = spans_same l l refl refl refl
program_parts_span l (q ∷ qs) = spans_trans l (program_part l q) (program_parts (program_part l q) qs) (part_spans l q) (program_parts_span (program_part l q) qs)

-- ---- up to a state

record Before (l : Layer) : Type 0 where
  notes : Each (IsWithin 0 (length l.routines)) l.noted
  clear : AreNone l.names

before_then : (l m : Layer) → Before l → Spans l m → Before m
before_then l m h i =
    record {
      notes = subst (λ (ds : List Noted). Each (IsWithin 0 (length m.routines)) ds) (sym i.noted)
          (each_both (IsWithin 0 (length m.routines)) l.noted i.names
          (each_map (IsWithin 0 (length l.routines)) (IsWithin 0 (length m.routines)) l.noted (λ d f e. (let w = f e in (w.0, (let a = w.1 in let b = i.count in omega (arith, a, b))))) h.notes)
          (each_map (IsWithin (length l.routines) (length m.routines)) (IsWithin 0 (length m.routines)) i.names (λ d f e. (let w = f e in (omega arith, w.1))) i.within));
      clear = i.clear h.clear;
    }

-- ---- from a state up to the end

module _ (end : Layer) where
  record After (l : Layer) : Type 0 where
    spans : Spans l end
    types : Longer l.types end.types
    headings : Longer l.headings end.headings

  after_before : (l m : Layer) → Spans l m → Extends l m → After m → After l
  after_before l m h e a = record { spans = spans_trans l m end h a.spans; types = longer_trans l.types m.types end.types e.types a.types; headings = longer_trans l.headings m.headings end.headings e.headings a.headings }

  -- the statements of a routine begin in this state
  pub record Given (l : Layer) (o : Opening) : Type 0 where
    -- the notes of its parameters, and those of its variables
    pub first : List Noted
    pub second : List Noted
    pub picked : Picked (length l.routines) end.noted (first ++ second)
    pub covers : (x : Name) (n : LayoutMeaning) → is_held n ≡ true → find x l.names ≡ Some n → IsNotedAs x n (first ++ second)
    pub heads : InOrder o.meaning.parameters first
    pub locals : InOrder (as_values o.meaning.variables) second
    pub values : AreValuesIf o.meaning.result o.meaning.parameters
    -- its own heading is the last
    pub before : List Heading
    pub heading : Heading
    pub own : l.headings ≡ before ++ heading ∷ []
    pub taken : take (length heading.parameters) (all_parameters (first ++ second)) ≡ all_parameters first
    pub types : Longer l.types end.types
    pub headings : Longer l.headings end.headings

  abbrev pub AreGiven : List Layer → List Opening → Type 0
  AreGiven [] [] = Unit {0}
  AreGiven (l ∷ ls) (o ∷ os) = Given l o × AreGiven ls os
  AreGiven [] (o ∷ os) = ⊥
  AreGiven (l ∷ ls) [] = ⊥

  given_append : (ls ms : List Layer) (os qs : List Opening) → AreGiven ls os → AreGiven ms qs → AreGiven (ls ++ ms) (os ++ qs)
  given_append [] ms [] qs h i = i
  given_append (l ∷ ls) ms (o ∷ os) qs h i = (h.0, given_append ls ms os qs h.1 i)
  given_append _ ms _ qs h i = absurd h

  earlier : (n : ℕ) (d : Noted) → IsWithin 0 n d → IsOther n d
  earlier n d f e g = let w = (f e).1 in absurd (omega (arith, w, g))

  later : (n m top : ℕ) (d : Noted) → n < m → IsWithin m top d → IsOther n d
  later n m top d lt f e g = let w = (f e).0 in absurd (omega (arith, w, g, lt))

  routine_given : (l : Layer) (s : Scope) (owner : ℕ) (r : syntax.Routine) → Before l → After (routine l r) → Given (routine_begun l r) (let o : Opening = record { meaning = routine_in (with_routine s r) r; owner = owner; name = Some r.name.name } in o)
  routine_given l s owner r b a =
      let m : Layer = routine l r in
      let k : Layer = routine_begun l r in
      let n : ℕ = length l.routines in
      let d : Noted = note l r.name.name (meaning.Routine n) in
      let i : Inner (open_routine l r.name.name).1 k = routine_inner l r in
      let x : RoutineLists l r (routine_in (with_routine s r) r) = routine_lists l s r in
      let count : length m.routines ≡ suc n = routine_count l r in
      let all : end.noted ≡ ((l.noted ++ d ∷ []) ++ i.names) ++ a.spans.names = a.spans.noted ∙ ap (λ (ds : List Noted). ds ++ a.spans.names) (routine_notes l r) in
      let mine : Picked n i.names (held i.names) = picked_own n i.names i.own in
      let old : Picked n l.noted [] = picked_none n l.noted (each_map (IsWithin 0 n) (IsOther n) l.noted (earlier n) b.notes) in
      let new : Picked n a.spans.names [] = picked_none n a.spans.names (each_map (IsWithin (length m.routines) (length end.routines)) (IsOther n) a.spans.names (λ e f. later n (length m.routines) (length end.routines) e (omega (arith, count)) f) a.spans.within) in
      let whole_of : Picked n (((l.noted ++ d ∷ []) ++ i.names) ++ a.spans.names) (held i.names ++ []) =
      picked_both n ((l.noted ++ d ∷ []) ++ i.names) a.spans.names (held i.names) [] (picked_both n (l.noted ++ d ∷ []) i.names [] (held i.names) (picked_both n l.noted (d ∷ []) [] [] old (one_quiet n d refl)) mine) new in
      let same : held i.names ++ [] ≡ x.first ++ x.second = append-nil (held i.names) ∙ x.are in
      let number : n ≡ length k.routines = sym (ap (λ rs. length rs) i.routines) in
      let e : Extends k (body k r.body r.is_entry) = body_extends k r.body r.is_entry in
      record {
        first = x.first;
        second = x.second;
        picked = subst (λ (j : ℕ). Picked j end.noted (x.first ++ x.second)) number (subst (λ (ds : List Noted). Picked n ds (x.first ++ x.second)) (sym all) (subst (λ (hs : List Noted). Picked n (((l.noted ++ d ∷ []) ++ i.names) ++ a.spans.names) hs) same whole_of));
        covers = λ z q f g. go i x z q f (i.covers z q f g);
        heads = x.heads;
        locals = x.locals;
        values = x.values;
        before = l.headings;
        heading = heading_of l r;
        own = begun_headings l r;
        taken = first_taken (length (heading_of l r).parameters) (routine_in (with_routine s r) r).parameters x.first x.second x.count x.heads;
        types = longer_trans k.types m.types end.types e.types a.types;
        headings = longer_trans k.headings m.headings end.headings e.headings a.headings;
      }
    where
      go : (i : Inner (open_routine l r.name.name).1 (routine_begun l r)) (x : RoutineLists l r (routine_in (with_routine s r) r)) (z : Name) (q : LayoutMeaning) → is_held q ≡ true → IsNotedAs z q (routine_inner l r).names ⊎ (find z (open_routine l r.name.name).1.names ≡ Some q) → IsNotedAs z q (x.first ++ x.second)
      go i x z q f (inl h) = subst (λ (hs : List Noted). IsNotedAs z q hs) x.are (noted_held z q (routine_inner l r).names f h)
      go i x z q f (inr h) = absurd (none_found z q (open_routine l r.name.name).1.names (refl, b.clear) f h)

  routines_given : (l : Layer) (s : Scope) (owner : ℕ) (rs : List syntax.Routine) → Before l → After (routines l rs) → AreGiven (routines_begun l rs) (routine_openings owner s rs)
  unfolding routines
  routines_given l s owner [] b a = tt
  routines_given l s owner (r ∷ rs) b a =
      let m : Layer = routine l r in
      let y : After m = after_before m (routines m rs) (routines_span m rs) (routines_extend m rs) a in
      (routine_given l s owner r b y, routines_given m (with_routine s r) owner rs (before_then l m b (routine_spans l r)) a)

  initial_given : (l : Layer) (ps : Parameters) (body_of : syntax.Body) (owner : ℕ) (m : SystemMeaning) → Before l → After (initial_statement l ps body_of) → Given (initial_begun l ps) (initial_opening owner m)
  initial_given l ps body_of owner m b a =
      let k : Layer = initial_begun l ps in
      let z : Layer = initial_statement l ps body_of in
      let n : ℕ = length l.routines in
      let count : length z.routines ≡ suc n = body_count k body_of true in
      let all : end.noted ≡ l.noted ++ a.spans.names = a.spans.noted ∙ ap (λ (ds : List Noted). ds ++ a.spans.names) (initial_notes l ps body_of) in
      let old : Picked n l.noted [] = picked_none n l.noted (each_map (IsWithin 0 n) (IsOther n) l.noted (earlier n) b.notes) in
      let new : Picked n a.spans.names [] = picked_none n a.spans.names (each_map (IsWithin (length z.routines) (length end.routines)) (IsOther n) a.spans.names (λ e f. later n (length z.routines) (length end.routines) e (omega (arith, count)) f) a.spans.within) in
      let e : Extends k z = body_extends k body_of true in
      record {
        first = [];
        second = [];
        picked = subst (λ (ds : List Noted). Picked n ds []) (sym all) (picked_both n l.noted a.spans.names [] [] old new);
        covers = λ x q f g. absurd (none_found x q l.names b.clear f g);
        heads = tt;
        locals = tt;
        values = tt;
        before = l.headings;
        heading = heading_with [] ps None;
        own = refl;
        taken = take_nothing (length ps);
        types = longer_trans k.types z.types end.types e.types a.types;
        headings = longer_trans k.headings z.headings end.headings e.headings a.headings;
      }

  -- ---- system types

  definition_given : (l : Layer) (d : Declared) (v : syntax.Definition) → Before l → After (definition l v).1 → AreGiven (definition_begun l v) (definition_openings d v)
  unfolding system
  definition_given l d (syntax.type_definition t) b a = tt
  definition_given l d (syntax.system_definition s) b a =
      let u : Scope = scopes.seen_inside d.scope in
      let owner : ℕ = length d.systems in
      let z : Layer = parts_begun l s in
      let x : Layer = system_begun l s in
      let ps : Parameters = parameters_of l s in
      let m : Layer = initial_statement x ps s.body in
      let q : Layer = (system l s).1 in
      let y : After m = record { spans = spans_trans m q end (spans_clear m q refl refl (λ h. b.clear)) a.spans; types = a.types; headings = a.headings } in
      let w : After x = after_before x m (initial_spans x ps s.body) (initial_extends x ps s.body) y in
      let c : Before z = before_then l z b (parts_span l s) in
      given_append (routines_begun z s.routines) (initial_begun x ps ∷ []) (routine_openings owner (parts_scope u s) s.routines) (initial_opening owner (system_in u s) ∷ []) (routines_given z (parts_scope u s) owner s.routines c w)
      (initial_given x ps s.body owner (system_in u s) (before_then z x c (routines_span z s.routines)) y, tt)

  definitions_given : (l : Layer) (d : Declared) (ns : List syntax.SystemDefinition) → Before l → After (system_definitions l ns) → AreGiven (definitions_begun l ns) (definitions_openings d ns)
  unfolding system_definitions
  definitions_given l d [] b a = tt
  definitions_given l d (n ∷ ns) b a =
      let x : Layer = (definition l n.value).1 in
      let m : Layer = system_definition l n in
      let c : Declared = definition_in d n n.value in
      let y : After m = after_before m (system_definitions m ns) (definitions_span m ns) (system_definitions_extend m ns) a in
      let w : After x = record { spans = spans_trans x m end (named_spans l n.name.name n.value) y.spans; types = y.types; headings = y.headings } in
      let later_on : Before m = before_then x m (before_then l x b (definition_spans l n.value)) (named_spans l n.name.name n.value) in
      given_append (definition_begun l n.value) (definitions_begun m ns) (definition_openings d n.value) (definitions_openings c ns) (definition_given l d n.value b w) (definitions_given m c ns later_on a)

  part_given : (l : Layer) (d : Declared) (q : syntax.ProgramPart) → Before l → After (program_part l q) → AreGiven (part_begun l q) (part_openings d q)
  part_given l d (syntax.program_constants at ds) b a = tt
  part_given l d (syntax.program_types at ns) b a = definitions_given l d ns b a
  part_given l d (syntax.program_variables at gs) b a = tt

  parts_given : (l : Layer) (d : Declared) (qs : List syntax.ProgramPart) → Before l → After (program_parts l qs) → AreGiven (program_parts_begun l qs) (parts_openings d qs)
  unfolding program_parts
  parts_given l d [] b a = tt
  parts_given l d (q ∷ qs) b a =
      let m : Layer = program_part l q in
      let c : Declared = program_part_in d q in
      given_append (part_begun l q) (program_parts_begun m qs) (part_openings d q) (parts_openings c qs) (part_given l d q b (after_before m (program_parts m qs) (program_parts_span m qs) (program_parts_extend m qs) a)) (parts_given m c qs (before_then l m b (part_spans l q)) a)

  -- ---- one of them

  pub record GivenAt (os : List Opening) (n : ℕ) (l : Layer) : Type 0 where
    pub opening : Opening
    pub there : slice_get os n ≡ Some opening
    pub given : Given l opening

  pub given_at : (ls : List Layer) (os : List Opening) (n : ℕ) (l : Layer) → AreGiven ls os → slice_get ls n ≡ Some l → GivenAt os n l
  given_at [] os n l h e = absurd (none-some l e)
  given_at (m ∷ ls) [] n l h e = absurd h
  given_at (m ∷ ls) (o ∷ os) zero l h e = record { opening = o; there = refl; given = subst (λ (j : Layer). Given j o) (same_Some m l e) h.0 }
  given_at (m ∷ ls) (o ∷ os) (suc n) l h e = let w = given_at ls os n l h.1 e in record { opening = w.opening; there = w.there; given = w.given }

-- ---- all of a tree

nothing_before : (lines : List ℕ) → Before (nothing_laid lines)
nothing_before lines = record { notes = tt; clear = (refl, (refl, (refl, (refl, (refl, (refl, (refl, (refl, (refl, (refl, (refl, (refl, (refl, (refl, (refl, tt))))))))))))))) }

pub all_given : (t : Tree) → AreGiven (whole t) (all_begun t) (openings_of t.program)
unfolding program
all_given t =
    let p : syntax.Program = t.program in
    let l : Layer = nothing_laid t.lines in
    let m : Layer = program_parts l p.parts in
    let x : Layer = routines m p.routines in
    let end : Layer = whole t in
    let d : Declared = declared p in
    let owner : ℕ = program_system p in
    let own : Opening = initial_opening owner (own_meaning d p) in
    let last : After end end = record { spans = spans_same end end refl refl refl; types = ([], sym (append-nil end.types)); headings = ([], sym (append-nil end.headings)) } in
    let y : After end x = after_before end x end (initial_spans x [] p.body) (initial_extends x [] p.body) last in
    let w : After end m = after_before end m x (routines_span m p.routines) (routines_extend m p.routines) y in
    let b : Before m = before_then l m (nothing_before t.lines) (program_parts_span l p.parts) in
    given_append end (program_parts_begun l p.parts) (routines_begun m p.routines ++ initial_begun x [] ∷ []) (parts_openings nothing_declared p.parts) (routine_openings owner d.scope p.routines ++ own ∷ []) (parts_given end l nothing_declared p.parts (nothing_before t.lines) w)
    (given_append end (routines_begun m p.routines) (initial_begun x [] ∷ []) (routine_openings owner d.scope p.routines) (own ∷ []) (routines_given end m d.scope owner p.routines b y) (initial_given end x [] p.body owner (own_meaning d p) (before_then m x b (routines_span m p.routines)) last, tt))
