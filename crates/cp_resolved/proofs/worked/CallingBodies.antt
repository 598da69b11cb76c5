-- The law of bodies is not empty: of the procedure of a program, which calls a function with its `var` parameter, what is wanted holds.
use Rattle.std.proofs.Common.{◌≡◌, ◌≤◌, ◌∙◌, ◌⊎◌, inl, inr, ℕ, Bool, true, false, [], ◌∷◌, length, Option, Some, None, slice_get, refl, sym, ap, subst, arith}
use Rattle.cp_resolved.proofs.Words.{codes, bytes_eq, none-some, LayoutMeaning, Names, Layer, outermost, nothing_laid, Tables, routine_at, plain, laid}
use Rattle.cp_resolved.proofs.Words.{simple_type, written_type, statements, statement, assign, Name, ordinal, RoutineMeaning, routine_of_type}
use Rattle.cp_resolved.proofs.Words.{routine_begun, all_begun, ground_of, BodyFormed, Numbering, Here, is_own, place_of, meaning_at, numbering_of, BodyIs, KnowsStarts}
use Rattle.cp_tree.specs.Syntax as syntax
use Rattle.cp_slots.specs.declared.place.PlaceOrigin.TheVariants as origin
use Rattle.cp_symbols.specs.declared.kinds.CellBase.TheVariants as base
use Rattle.cp_symbols.specs.declared.names.LayoutMeaning.TheVariants as meaning
use Rattle.cp_slots.specs.Code as code
use Rattle.cp_symbols.specs.Kinds.{most, values_of}
use Rattle.cp_layout.specs.Kinds.{least, copies, compound_below}
use Rattle.cp_layout.specs.Layers as layers
use Rattle.cp_layout.specs.LaidExpressions.{expression, sum, more_terms, term, more_factors, factor, elements, first_value, arguments_from, designator, selectors, selector}
use Rattle.cp_layout.specs.LaidDeclarations.{variables, variables_of, local_parts, heading, parameter_groups, var_parameters_of, constant_groups, constant_parameters_of, routine, program_parts}
use Rattle.cp_meaning.specs.Scopes as scopes
use Rattle.cp_resolved.specs.Compiled.{as_ordinal, then_form, Designated, a_variable, a_component, result_begun, begun_form, ordinal_form, with_index_form, with_element_form, expression_form, selected_form}
use Rattle.cp_resolved.specs.FormedParts.{HeadingIs, KnowsHeadings}
use Rattle.cp_resolved.proofs.names.Alike.{same_inside}
use Rattle.cp_resolved.proofs.items.BodiesStand.{bodies_law}
use Rattle.cp_resolved.proofs.worked.CallingPlaced.{calling_placed}
use Rattle.cp_resolved.proofs.worked.CallingProgram.{Says, found, calling, f, p, integer, parameter_b, called_f, lowest, highest}
use Rattle.cp_resolved.proofs.items.Expressions.{inside}
use Rattle.cp_resolved.proofs.names.PermanentNames.{found_cases, no_name}

abbrev begun_p : Layer
begun_p = routine_begun (routine (program_parts (nothing_laid calling.lines) calling.program.parts) f) p

begun_is : slice_get (all_begun calling) 1 ≡ Some begun_p
begun_is = refl

abbrev k : Numbering
k = numbering_of calling.program

abbrev h : Here
h = place_of calling 1

abbrev names_here : Names
names_here = (codes "b", meaning.Variable (origin.Reference 0) (values_of base.Integer)) ∷ (codes "p", meaning.Routine 1) ∷ (codes "f", meaning.Routine 0) ∷ (codes "n", meaning.Variable (origin.Permanent 0) (values_of base.Integer)) ∷ outermost

names_p : begun_p.names ≡ names_here
unfolding simple_type written_type expression sum more_terms term more_factors factor elements first_value arguments_from designator selectors selector statements statement assign variables variables_of local_parts heading parameter_groups var_parameters_of constant_groups constant_parameters_of program_parts least copies compound_below
names_p = refl

-- ---- routines that are visible

abbrev OfRoutine : (ℕ → Type 0) → LayoutMeaning → Type 0
OfRoutine P (meaning.Routine n) = P n
OfRoutine P m = Unit {0}

abbrev AllRoutines : (ℕ → Type 0) → Names → Type 0
AllRoutines P [] = Unit {0}
AllRoutines P (d ∷ ds) = OfRoutine P d.1 × AllRoutines P ds

routine_found : (P : ℕ → Type 0) (x : Name) (ns : Names) (n : ℕ) → AllRoutines P ns → layers.find x ns ≡ Some (meaning.Routine n) → P n
routine_found P x [] n a e = absurd (no_name x (meaning.Routine n) e)
routine_found P x (d ∷ ds) n a e = go (found_cases d ds x (meaning.Routine n) e) (routine_found P x ds n a.1)
  where
    go : ((bytes_eq d.0 x ≡ true) × (d.1 ≡ meaning.Routine n)) ⊎ (layers.find x ds ≡ Some (meaning.Routine n)) → (layers.find x ds ≡ Some (meaning.Routine n) → P n) → P n
    go (inl w) rest = subst (OfRoutine P) w.1 a.0
    go (inr i) rest = rest i

abbrev Known : ℕ → Type 0
Known n = (h.layouts.owners n ≡ h.system) × HeadingIs k h begun_p n (k.routines n)

knows_p : Known 1
unfolding simple_type written_type expression sum more_terms term more_factors factor elements first_value arguments_from designator selectors selector statements statement assign variables variables_of local_parts heading parameter_groups var_parameters_of constant_groups constant_parameters_of program_parts least copies compound_below
knows_p = (refl, record { same = refl; parameters = (refl, refl, tt) })

knows_f : Known 0
unfolding simple_type written_type expression sum more_terms term more_factors factor elements first_value arguments_from designator selectors selector statements statement assign variables variables_of local_parts heading parameter_groups var_parameters_of constant_groups constant_parameters_of program_parts least copies compound_below
knows_f = (refl, record { same = refl; parameters = (refl, (values_of base.Integer, refl, refl), tt) })

all_known : AllRoutines Known names_here
all_known = (tt, (knows_p, (knows_f, (tt, (tt, (tt, (tt, (tt, (tt, (tt, (tt, (tt, (tt, (tt, (tt, (tt, (tt, (tt, (tt, tt)))))))))))))))))))

-- ---- what the scope says

-- no variable is a component
abbrev HasNone : Name → scopes.Meaning → Type 0
HasNone x (scopes.permanent_variable t) = (y : Name) (r : RoutineMeaning) → routine_of_type calling.program t y ≡ Some r → ⊥
HasNone x m = Unit {0}

none_here : Says HasNone h.scope
none_here = (tt, (tt, (tt, ((λ y r e. none-some r e), (tt, (tt, (tt, (tt, (tt, (tt, (tt, (tt, (tt, (tt, (tt, (tt, (tt, (tt, (tt, tt)))))))))))))))))))

headings_known : KnowsHeadings k h begun_p
headings_known =
    record {
      own = λ x n e. routine_found Known x names_here n all_known (ap (layers.find x) (sym names_p) ∙ e);
      entry = λ x y t r n e g i. absurd (found HasNone x h.scope (scopes.permanent_variable t) none_here e y r g);
    }

-- ---- nothing is a component

abbrev IsNumber : Designated → Type 0
IsNumber (a_variable q (ordinal r)) = Unit {0}
IsNumber d = ⊥

abbrev BeginsPlain : Name → scopes.Meaning → Type 0
BeginsPlain x m = (d : Designated) → begun_form h x (Some m) ≡ Some d → IsNumber d

own_plain : (b : Bool) (d : Designated) → result_begun h b ≡ Some d → IsNumber d
own_plain true d e = subst IsNumber (same_inside _ d e) tt
own_plain false d e = absurd (none-some d e)

plain_here : Says BeginsPlain h.scope
plain_here = (
  (λ d e. subst IsNumber (same_inside _ d e) tt),
  (
    (λ d e. own_plain (is_own h (codes "p")) d e),
    (
      (λ d e. own_plain (is_own h (codes "f")) d e),
      (
        (λ d e. subst IsNumber (same_inside _ d e) tt),
        ((λ d e. absurd (none-some d e)), ((λ d e. absurd (none-some d e)), ((λ d e. absurd (none-some d e)), ((λ d e. absurd (none-some d e)), ((λ d e. absurd (none-some d e)), ((λ d e. absurd (none-some d e)), ((λ d e. absurd (none-some d e)), ((λ d e. absurd (none-some d e)), ((λ d e. absurd (none-some d e)), ((λ d e. absurd (none-some d e)), ((λ d e. absurd (none-some d e)), ((λ d e. absurd (none-some d e)), ((λ d e. absurd (none-some d e)), ((λ d e. absurd (none-some d e)), ((λ d e. absurd (none-some d e)), tt))))))))))))))),
      ),
    ),
  ),
)

begins_plain : (x : Name) (o : Option scopes.Meaning) (d : Designated) → scopes.find x h.scope ≡ o → begun_form h x o ≡ Some d → IsNumber d
begins_plain x None d e i = absurd (none-some d i)
begins_plain x (Some m) d e i = found BeginsPlain x h.scope m plain_here e d i

no_component : (ss : syntax.Selectors) (d : Designated) (c : code.ComponentPlace) (n : ℕ) → IsNumber d → selected_form h ss d ≡ Some (a_component c n) → ⊥
no_component syntax.no_selectors (a_variable q (ordinal r)) c n i e = cc
no_component (syntax.more_selectors (syntax.field x) ss) (a_variable q (ordinal r)) c n i e = none-some (a_component c n) e
no_component (syntax.more_selectors (syntax.index o) ss) (a_variable q (ordinal r)) c n i e =
    let w = inside (then_form (expression_form h o) (with_index_form h (a_variable q (ordinal r)))) _ (a_component c n) e in
    let v = inside (expression_form h o) _ w.0 w.1 in
    let u = inside (ordinal_form v.0.form) (with_element_form h (a_variable q (ordinal r))) w.0 v.2 in
    none-some w.0 u.2
no_component ss (a_variable q t) c n i e = absurd i
no_component ss _ c n i e = absurd i

starts_known : KnowsStarts k h begun_p
starts_known (syntax.designator x ss) c n e =
    let w = inside (begun_form h x.name (scopes.find x.name h.scope)) (selected_form h ss) (a_component c n) e in
    absurd (no_component ss w.0 c n (begins_plain x.name (scopes.find x.name h.scope) w.0 refl w.1) w.2)

-- ---- its statement

one_cell : 1 ≤ most
one_cell = omega arith

pub body_formed : BodyFormed calling 1 begun_p
unfolding simple_type written_type expression sum more_terms term more_factors factor elements first_value arguments_from designator selectors selector statements statement assign variables variables_of local_parts heading parameter_groups var_parameters_of constant_groups constant_parameters_of program_parts least copies compound_below
body_formed =
    record {
      headings = headings_known;
      starts = starts_known;
      formed = (
        record {
          place = parameter_b;
          ty = integer;
          value = record { ty = integer; form = as_ordinal (code.load called_f) };
          act = code.assign parameter_b (code.load called_f) lowest highest;
          target = refl;
          formed = refl;
          assigned = refl;
          moved = one_cell;
          named = tt;
          chosen = tt;
          used = (((tt, ((((tt, tt, tt), tt), tt), tt), (tt, tt, (((record { ty = integer; form = as_ordinal (code.load parameter_b) }), refl), tt))), tt), tt);
        },
        tt,
      );
      calls = (
        record {
          routine = meaning_at calling.program 0;
          called = refl;
          arguments = (record { value = code.scalar (code.load parameter_b) lowest highest; given = record { form = record { ty = integer; form = as_ordinal (code.load parameter_b) }; formed = refl; given = refl }; moved = one_cell }, tt);
        },
        tt,
      );
    }

-- so in tables that are laid out of the program, its items stand for its statement
pub calling_body : (r : Tables) → plain r ≡ laid calling → length r.items ≤ most → BodyIs (ground_of r calling) h (meaning_at calling.program 1).body [] (routine_at r 1).body
calling_body r e few = bodies_law calling r e few calling_placed 1 begun_p begun_is body_formed
