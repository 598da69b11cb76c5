-- What declarations of constants and types, routines and initial statements note is no permanent variable.
use Rattle.std.proofs.Common.{Bool, true, ◌≡◌, ℕ, List, [], ◌∷◌, ◌++◌, length, None, refl, sym, ap, ◌∙◌, append_assoc, append-nil}
use Rattle.cp_legend_laws.proofs.Words.{LayoutMeaning, Noted, Layer}
use Rattle.cp_tree.specs.Syntax as syntax
use Rattle.cp_slots.specs.declared.place.PlaceOrigin.TheVariants as origin
use Rattle.cp_symbols.specs.declared.names.LayoutMeaning.TheVariants as meaning
use Rattle.cp_layout.specs.Layers.{Heading, with_name}
use Rattle.cp_layout.specs.LaidTypes.{with_constant, written_type}
use Rattle.cp_layout.specs.LaidDeclarations.{Parameters, body, constants, heading, heading_with, initial_statement, local, local_parts, open_routine, routine, routines, type_definitions, var_parameter, with_heading, with_local, with_new_frame}
use Rattle.cp_legend.specs.Names.{Variable, permanent_meant}
use Rattle.cp_resolved.proofs.laid.Declaring.{TypeSteps, FrameSteps, plain_types, type_leads, constants_lead, definitions_lead, local_parts_lead, heading_leads}
use Rattle.cp_resolved.proofs.laid.Grown.{body_grew}
use Rattle.cp_legend_laws.proofs.Noting.{note}

-- ---- the permanent variables among names

abbrev pub all_permanents : List Noted → List Variable
all_permanents [] = []
all_permanents (d ∷ ds) = permanent_meant d.name d.meaning ++ all_permanents ds

pub permanents_append : (ds es : List Noted) → all_permanents (ds ++ es) ≡ all_permanents ds ++ all_permanents es
permanents_append [] es = refl
permanents_append (d ∷ ds) es = ap (λ vs. permanent_meant d.name d.meaning ++ vs) (permanents_append ds es) ∙ sym (append_assoc (permanent_meant d.name d.meaning) (all_permanents ds) (all_permanents es))

-- ---- steps that note none

pub record Quiet (l m : Layer) : Type 0 where
  pub names : List Noted
  pub noted : m.noted ≡ l.noted ++ names
  pub none : all_permanents names ≡ []

pub quiet_trans : (l k m : Layer) → Quiet l k → Quiet k m → Quiet l m
quiet_trans l k m h i =
    record {
      names = h.names ++ i.names;
      noted = i.noted ∙ (ap (λ (ds : List Noted). ds ++ i.names) h.noted ∙ append_assoc l.noted h.names i.names);
      none = permanents_append h.names i.names ∙ (ap (λ (vs : List Variable). vs ++ all_permanents i.names) h.none ∙ i.none);
    }

pub quiet_same : (l m : Layer) → m.noted ≡ l.noted → Quiet l m
quiet_same l m e = record { names = []; noted = e ∙ sym (append-nil l.noted); none = refl }

pub quiet_note : (l m : Layer) (x : List ℕ) (n : LayoutMeaning) → m.noted ≡ l.noted ++ note l x n ∷ [] → permanent_meant x n ≡ [] → Quiet l m
quiet_note l m x n e p = record { names = note l x n ∷ []; noted = e; none = ap (λ (vs : List Variable). vs ++ []) p }

quiet_types : TypeSteps Quiet (λ l. Unit {0}) (λ l t. Unit {0}) (λ l r. Unit {0})
quiet_types =
    plain_types Quiet (λ l. quiet_same l l refl) quiet_trans (λ l x b z. quiet_same l (with_constant l x (meaning.Constant b z)) refl) (λ l r t. quiet_same l _ refl) (λ l r. quiet_same l _ refl)
    (λ l x b z. quiet_note l (with_name l x (meaning.Constant b z)) x (meaning.Constant b z) refl refl) (λ l x t. quiet_note l (with_name l x (meaning.Kind t)) x (meaning.Kind t) refl refl)

quiet_frames : FrameSteps Quiet (λ l. Unit {0})
quiet_frames =
    record {
      local_cells = λ l x t n. quiet_note l (local l x t) x (meaning.Variable (origin.Local (length l.frame.image)) t) refl refl;
      reference = λ l ps x t n. quiet_note l (var_parameter l ps x t).1 x (meaning.Variable (origin.Reference (length l.frame.extents)) t) refl refl;
      result = λ l t n. quiet_same l (with_local l t).1 refl;
    }

pub type_quiet : (l : Layer) (t : syntax.TypeTerm) → Quiet l (written_type l t).1
type_quiet l t = (type_leads quiet_types l t tt).0

pub constants_quiet : (l : Layer) (ds : List syntax.ConstantDefinition) → Quiet l (constants l ds)
constants_quiet l ds = constants_lead quiet_types l ds tt

pub definitions_quiet : (l : Layer) (ds : List syntax.TypeDefinition) → Quiet l (type_definitions l ds)
definitions_quiet l ds = definitions_lead quiet_types l ds tt

-- ---- routines and initial statements

body_quiet : (l : Layer) (b : syntax.Body) (checks : Bool) → Quiet l (body l b checks)
body_quiet l b checks = quiet_same l (body l b checks) (ap (λ (j : Layer). j.noted) (body_grew l b.statements checks).1)

pub initial_quiet : (l : Layer) (ps : Parameters) (b : syntax.Body) → Quiet l (initial_statement l ps b)
initial_quiet l ps b =
    let k : Layer = with_heading (with_new_frame l) (heading_with [] ps None) in
    quiet_trans l k (initial_statement l ps b) (quiet_same l k refl) (body_quiet k b true)

routine_quiet : (l : Layer) (r : syntax.Routine) → Quiet l (routine l r)
routine_quiet l r =
    let x : Layer = (open_routine l r.name.name).1 in
    let h : Heading × Layer = heading x r.name.name r.kind in
    let k : Layer = with_heading h.1 h.0 in
    let p : Layer = local_parts k r.parts in
    let b : Layer = body p r.body r.is_entry in
    let a : Quiet l h.1 = quiet_trans l x h.1 (quiet_note l x r.name.name (meaning.Routine (length l.routines)) refl refl) (heading_leads quiet_types quiet_frames x r.name.name r.kind tt) in
    let c : Quiet h.1 p = quiet_trans h.1 k p (quiet_same h.1 k refl) (local_parts_lead quiet_types quiet_frames k r.parts tt) in
    quiet_trans l b (routine l r) (quiet_trans l p b (quiet_trans l h.1 p a c) (body_quiet p r.body r.is_entry)) (quiet_same b (routine l r) refl)

pub routines_quiet : (l : Layer) (rs : List syntax.Routine) → Quiet l (routines l rs)
unfolding routines
routines_quiet l [] = quiet_same l l refl
routines_quiet l (r ∷ rs) = quiet_trans l (routine l r) (routines (routine l r) rs) (routine_quiet l r) (routines_quiet (routine l r) rs)
