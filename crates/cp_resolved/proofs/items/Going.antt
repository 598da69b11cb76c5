-- Through an expression: its function calls take the next cells of the frame, and what is laid out of each is an item that stands for the call.
use Rattle.std.proofs.Common.{◌≡◌, ◌+◌, ℕ, suc, Bool, true, false, List, [], ◌∷◌, ◌++◌, length, Option, Some, None, slice_get, slice_index, refl, sym, ap, subst, ◌∙◌, arith, append_assoc, append-nil, length-append}
use Rattle.cp_resolved.proofs.Words.{pos, same_Some, Identifier, LayoutMeaning, FunctionResult, RoutineView, Name, temporary, Ty, Item, function_call, Parameter}
use Rattle.cp_resolved.proofs.Words.{RoutineMeaning, routine_in, result_type, name_of, routine_called, routine_meant, result_called, Here, frame_here, cell_named}
use Rattle.cp_resolved.proofs.Words.{slot_of, look, Numbering, base_of, FoundIs, predeclared_as, Knows, AreHeld, ValueIs, DesignatedIs}
use Rattle.cp_tree.specs.Syntax as syntax
use Rattle.cp_symbols.specs.declared.names.LayoutMeaning.TheVariants as meaning
use Rattle.cp_layout.specs.declared.layer.ParameterLayout as code_parameter
use Rattle.cp_slots.specs.Code as code
use Rattle.cp_layout.specs.Values as values
use Rattle.cp_layout.specs.Values.{Value, ordinal_of, number_value}
use Rattle.cp_layout.specs.Layers as layers
use Rattle.cp_layout.specs.Layers.{Layer, Pending, parameter_at, parameter_of, result_of}
use Rattle.cp_layout.specs.LaidExpressions as laid
use Rattle.cp_layout.specs.LaidExpressions.{name_meaning, element_of_designated, field_of_designated, entry_found, argument_for, value_of_meaning, function_as, call_value, with_their_count, expression, sum, more_terms, term, more_factors, factor, elements, first_value, arguments_from, designator, selectors, selector}
use Rattle.cp_meaning.specs.Scopes as scopes
use Rattle.cp_meaning.specs.Lifting.{last_field, is_call_meant, own_call, expression_calls, sum_calls, terms_calls, term_calls, factors_calls, factor_calls, expressions_calls, designator_calls, selectors_calls}
use Rattle.cp_resolved.specs.Compiled.{compared_forms, Formed, then_form, Designated, a_variable, some_components, a_component, named_form, valued_form, with_index_form, with_field_form, permanent_begun, begun_form, signed_form, added_forms, multiplied_forms, not_form, applied_form, with_member_form, set_form, expression_form, sum_form, terms_form, term_form, factors_form, factor_form, members_form, first_form, designator_form, selected_form}
use Rattle.cp_resolved.specs.FormedParts.{CanGive, CanGiveAll, CallFormed, IsReady, AreReady, PassedBy, ParametersAre, parameters_in, HeadingIs, KnowsHeadings}
use Rattle.cp_resolved.specs.Stands.{AreGiven, IsGiven, CalleeIs, IsCalled, ResultGoes, result_cell}
use Rattle.cp_resolved.specs.Used.{AreNext, AreEntry, IsOne, HasResult, IsFunction, UsedAs, IsUsed, SumUsed, TermsUsed, TermUsed, FactorsUsed, FactorUsed, AreUsed, SelectorsUsed, ResultsAre, system_type, KnowsCalls}
use Rattle.cp_resolved.proofs.forms.Designating.{IsNoRoutine, begun_same}
use Rattle.cp_resolved.proofs.items.Expressions as known
use Rattle.cp_resolved.proofs.items.Expressions.{inside, cells, TakesFrom, takes_none, takes_both, NoEntry, regrouped}
use Rattle.cp_resolved.proofs.laid.Kept.{Kept, kept_trans, expression_kept, sum_kept, term_kept, factor_kept, designator_kept, arguments_kept}
use Rattle.cp_resolved.proofs.forms.Moved.{given_same}
use Rattle.cp_resolved.proofs.names.Steps.{found_in}

-- ---- what is to come

-- an item that stands for a function call
pub record CallPending (lines : List ℕ) (h : Here) (at : ℕ) (d : syntax.Designator) (es : syntax.Expressions) (p : Pending) : Type 0 where
  pub number : ℕ
  pub part : code.ComponentPlace
  pub is_entry : Bool
  pub arguments : List code.Argument
  pub called : IsCalled h d es number part is_entry arguments
  pub taken : ResultGoes h (Some (temporary at)) (h.layouts.meanings number).result
  pub action : p.action ≡ code.call number part is_entry arguments (result_cell h (Some (temporary at)))
  pub line : p.line ≡ slice_index lines at
  pub chosen : AreHeld h (designator_calls h.scope d)
  pub held : AreHeld h (expressions_calls h.scope es)

abbrev pub PendingAre : List ℕ → Here → List Pending → List Item → Type 0
PendingAre lines h [] [] = Unit {0}
PendingAre lines h (p ∷ ps) (function_call at d es ∷ is) = CallPending lines h at d es p × PendingAre lines h ps is
PendingAre lines h ps is = ⊥

pending_both : (lines : List ℕ) (h : Here) (ps qs : List Pending) (is js : List Item) → PendingAre lines h ps is → PendingAre lines h qs js → PendingAre lines h (ps ++ qs) (is ++ js)
pending_both lines h [] qs [] js a c = c
pending_both lines h (p ∷ ps) qs (function_call at d es ∷ is) js a c = (a.0, pending_both lines h ps qs is js a.1 c)
pending_both lines h _ qs _ js a c = absurd a

-- From one state to another the frame has a cell more for each call, and there is an item to come for each.
pub record Goes (lines : List ℕ) (h : Here) (l m : Layer) (is : List Item) : Type 0 where
  pub taken : TakesFrom (cells l) m is
  pub new : List Pending
  pub pending : m.pending ≡ l.pending ++ new
  pub stand : PendingAre lines h new is

pub goes_none : (lines : List ℕ) (h : Here) (l : Layer) → Goes lines h l l []
goes_none lines h l = record { taken = takes_none l; new = []; pending = sym (append-nil l.pending); stand = tt }

pub goes_both : (lines : List ℕ) (h : Here) (l m o : Layer) (is js : List Item) → Goes lines h l m is → Goes lines h m o js → Goes lines h l o (is ++ js)
goes_both lines h l m o is js a c =
    record {
      taken = takes_both (cells l) m o is js a.taken c.taken;
      new = a.new ++ c.new;
      pending = c.pending ∙ ap (λ ps. ps ++ c.new) a.pending ∙ append_assoc l.pending a.new c.new;
      stand = pending_both lines h a.new c.new is js a.stand c.stand;
    }

module _ (h : Here) where
  pub ready_next : (n : ℕ) (is : List Item) → AreReady h n is → AreNext h n is
  ready_next n [] a = tt
  ready_next n (function_call at d es ∷ is) a = (a.0.cell, ready_next (suc n) is a.1)
  ready_next n _ a = absurd a

  pub ready_held : (n : ℕ) (is : List Item) → AreReady h n is → AreHeld h is
  ready_held n [] a = tt
  ready_held n (function_call at d es ∷ is) a = (a.0.held, ready_held (suc n) is a.1)
  ready_held n _ a = absurd a

  pub ready_first : (n : ℕ) (is js : List Item) → AreReady h n (is ++ js) → AreReady h n is
  ready_first n [] js a = tt
  ready_first n (function_call at d es ∷ is) js a = (a.0, ready_first (suc n) is js a.1)
  ready_first n _ js a = absurd a

  ready_after : (n : ℕ) (is js : List Item) → AreReady h n (is ++ js) → AreReady h (n + length is) js
  ready_after n [] js a = subst (λ m. AreReady h m js) (omega arith) a
  ready_after n (function_call at d es ∷ is) js a = subst (λ m. AreReady h m js) (omega arith) (ready_after (suc n) is js a.1)
  ready_after n _ js a = absurd a

  pub ready_rest : (n : ℕ) (m : Layer) (is js : List Item) → TakesFrom n m is → AreReady h n (is ++ js) → AreReady h (cells m) js
  ready_rest n m is js e a = subst (λ c. AreReady h c js) (sym e) (ready_after n is js a)

module _ (k : Numbering) (h : Here) (b : Layer) (g : Knows k h b) (calls : KnowsCalls k h b) (headings : KnowsHeadings k h b) (lines : List ℕ) (same_lines : b.lines ≡ lines) where
  abbrev GoesOn : Layer → Layer → List Item → Type 0
  GoesOn l m is = Goes lines h l m is

  -- ---- calls

  kept_lines : (l : Layer) → Kept b l → l.lines ≡ lines
  kept_lines l s = ap (λ (j : Layer). j.lines) s ∙ same_lines

  same_parameter : (l : Layer) (r n : ℕ) → Kept b l → parameter_of l r n ≡ parameter_of b r n
  same_parameter l r n s = ap (λ (j : Layer). parameter_of j r n) s

  result_there : (x : Name) (o : Option Ty) → HasResult o → look x (frame_here h).variables ≡ Some (result_type o) → ResultGoes h (Some x) o
  result_there x None i e = absurd i
  result_there x (Some t) i e = e

  abbrev ArgumentsGo : Layer → ℕ → ℕ → syntax.Expressions → (Name → ℕ) → List Parameter → Type 0
  ArgumentsGo l r n es slots qs = GoesOn l (arguments_from l r n es).1 (expressions_calls h.scope es) × AreGiven h slots qs es (arguments_from l r n es).0

  -- what arguments do, where expressions do as they are to
  abbrev Argues : syntax.Expressions → Type 0
  Argues es = (l : Layer) (r n : ℕ) (slots : Name → ℕ) (qs : List Parameter) (ps : List code_parameter.ParameterLayout) → Kept b l → AreReady h (cells l) (expressions_calls h.scope es) → ParametersAre k b.types slots qs ps → ((i : ℕ) → parameter_of b r (n + i) ≡ slice_get ps i) → CanGiveAll h qs es → ArgumentsGo l r n es slots qs

  pub grown_room : (f : layers.Frame) (o : Option RoutineView) → length (layers.frame_with f o).image ≡ length f.image
  grown_room f None = refl
  grown_room f (Some r) = refl

  pub heading_parameters : (r n i : ℕ) → n ≡ 0 → parameter_of b r (n + i) ≡ slice_get (parameters_in (slice_get b.headings r)) i
  heading_parameters r n i z = ap (λ j. parameter_of b r (j + i)) z ∙ (let e : 0 + i ≡ i = omega arith in ap (parameter_of b r) e) ∙ go (slice_get b.headings r)
    where
      go : (o : Option layers.Heading) → parameter_at o i ≡ slice_get (parameters_in o) i
      go None = refl
      go (Some q) = refl

  -- a call of a function takes the cell after those of its arguments, and stands in an item after theirs
  call_goes : (m : Layer) (at : ℕ) (d : syntax.Designator) (es : syntax.Expressions) (part : code.ComponentPlace) (e : Bool) (number : ℕ) (routine : RoutineMeaning) (o : Option FunctionResult) → ResultsAre k b.types (Some (result_type routine.result)) o → Kept b m → routine_called h.program h.scope d ≡ Some routine →
      HasResult routine.result → CalleeIs h d (scopes.find (name_of d) h.scope) part e number → HeadingIs k h b number routine → Argues es → AreHeld h (designator_calls h.scope d) → AreReady h (cells m) (expressions_calls h.scope es ++ function_call at d es ∷ []) →
      GoesOn m (function_as m at part e number o (λ l i. arguments_from l i 0 es)).1 (expressions_calls h.scope es ++ function_call at d es ∷ [])
  call_goes m at d es part e number routine None v s met has callee heading argues chosen ready = absurd v
  call_goes m at d es part e number routine (Some w) v s met has callee heading argues chosen ready =
      let is : List Item = expressions_calls h.scope es in
      let j : Layer = (arguments_from m number 0 es).1 in
      let given : List code.Argument = (arguments_from m number 0 es).0 in
      let x : List code.Argument × Layer = with_their_count (arguments_from m number 0 es) in
      let z : Layer = (call_value x.1 at part e number w x.0).1 in
      let last : (n : ℕ) → AreReady h n (function_call at d es ∷ []) → IsReady h n at d es = λ n a. a.0 in
      let before : ArgumentsGo m number 0 es (cell_named (h.layouts.frames number)) routine.parameters → GoesOn m z (is ++ function_call at d es ∷ []) = λ a.
      (let own : IsReady h (cells j) at d es = last (cells j) (ready_rest h (cells m) j is (function_call at d es ∷ []) a.0.taken ready) in
      let p : Pending = record { action = code.call number part e given (Some (length j.frame.image)); line = slice_index j.lines at; need = layers.call_need (layers.with_cell x.1) number } in
      let there : CallPending lines h at d es p = record {
        number = number;
        part = part;
        is_entry = e;
        arguments = given;
        called = record { routine = routine; called = met; same = sym heading.same; callee = callee; given = a.1 };
        taken = subst (λ (q : RoutineMeaning). ResultGoes h (Some (temporary at)) q.result) (sym heading.same) (result_there (temporary at) routine.result has (own.held ∙ ap (λ q. Some (result_called q)) met));
        action = ap (λ q. code.call number part e given (Some (slot_of q))) (sym own.cell);
        line = ap (λ ls. slice_index ls at) (kept_lines j (kept_trans b m j s (arguments_kept m number 0 es)));
        chosen = chosen;
        held = ready_held h (cells m) is (ready_first h (cells m) is (function_call at d es ∷ []) ready);
      } in
      goes_both lines h m j z is (function_call at d es ∷ []) a.0 (record {
        taken = grown_room (layers.with_cell x.1).frame (slice_get x.1.routines number) ∙ length-append j.frame.image (pos 0 ∷ []);
        new = p ∷ [];
        pending = refl;
        stand = (there, tt);
      })) in
      let ready_call : (n : ℕ) → AreReady h n (is ++ function_call at d es ∷ []) → CallFormed h d es = λ n a. (ready_after h n is (function_call at d es ∷ []) a).0.formed in
      let formed : CallFormed h d es = ready_call (cells m) ready in
      let fits : CanGiveAll h routine.parameters es = subst (λ (q : RoutineMeaning). CanGiveAll h q.parameters es) (same_Some formed.routine routine (sym formed.called ∙ met)) formed.arguments in
      before (argues m number 0 (cell_named (h.layouts.frames number)) routine.parameters (parameters_in (slice_get b.headings number)) s (ready_first h (cells m) is (function_call at d es ∷ []) ready) heading.parameters (λ i. heading_parameters number 0 i refl) fits)

  -- ---- names

  -- what is known of the parts of a name
  abbrev Selects : Layer → syntax.Selectors → Type 0
  Selects l ss = (d q : Designated) (x : values.Designated) → AreReady h (cells l) (selectors_calls h.scope ss) → selected_form h ss d ≡ Some q → GoesOn l (selectors l x ss).1 (selectors_calls h.scope ss)

  abbrev First : Layer → syntax.Expressions → Type 0
  First l es = (z : Formed) → IsOne es → AreReady h (cells l) (expressions_calls h.scope es) → first_form h es ≡ Some z → GoesOn l (first_value l es).1 (expressions_calls h.scope es)

  -- the value of a name that is no call changes nothing
  plain_kept : (m : Layer) (at : ℕ) (q : Designated) (x : values.Designated) (first : Layer → Value × Layer) (as' : Layer → ℕ → List code.Argument × Layer) (z : Formed) → DesignatedIs k b.types q x → valued_form q ≡ Some z → (value_of_meaning m at x first as').1 ≡ m
  plain_kept m at (a_variable w t) x first as' z i f = ap (λ y. (value_of_meaning m at y first as').1) i.is
  plain_kept m at (a_component c o) x first as' z i f = ap (λ y. (value_of_meaning m at y first as').1) i
  plain_kept m at (some_components c r o) x first as' z i f = absurd (cc)

  goes_same : (l m n : Layer) (is : List Item) → n ≡ m → GoesOn l m is → GoesOn l n (is ++ [])
  goes_same l m n is e a = subst (λ js. GoesOn l n js) (sym (append-nil is)) (subst (λ o. GoesOn l o is) (sym e) a)

  variable_goes : (l : Layer) (at : ℕ) (x : Identifier) (ss : syntax.Selectors) (d : Designated) (z : Formed) → IsNoRoutine (scopes.find x.name h.scope) → begun_form h x.name (scopes.find x.name h.scope) ≡ Some d → Kept b l → SelectorsUsed h ss → Selects l ss → NoEntry d ss →
      AreReady h (cells l) (selectors_calls h.scope ss ++ []) → then_form (designator_form h (syntax.designator x ss)) valued_form ≡ Some z →
      GoesOn l (factor l (syntax.named at (syntax.designator x ss) syntax.no_expressions)).1 (selectors_calls h.scope ss ++ [])
  unfolding factor first_value arguments_from designator
  variable_goes l at x ss d z r e s us go ne n f =
      let first : Layer → Value × Layer = λ m. first_value m syntax.no_expressions in
      let as' : Layer → ℕ → List code.Argument × Layer = λ m i. arguments_from m i 0 syntax.no_expressions in
      let q : (y : Designated) × (designator_form h (syntax.designator x ss) ≡ Some y) × (valued_form y ≡ Some z) = inside (designator_form h (syntax.designator x ss)) valued_form z f in
      let target : selected_form h ss d ≡ Some q.0 = ap (λ w. then_form w (selected_form h ss)) (sym e) ∙ q.1 in
      let begins : DesignatedIs k b.types d (name_meaning l x.name) = subst (λ w. DesignatedIs k b.types d w) (sym (known.same_begun k h b g calls l x.name s)) (begun_same k h b g x.name d r e) in
      let m : Layer = (selectors l (name_meaning l x.name) ss).1 in
      let ready : AreReady h (cells l) (selectors_calls h.scope ss) = ready_first h (cells l) (selectors_calls h.scope ss) [] n in
      let j : known.Selected k h b g calls q.0 (cells l) (selectors l (name_meaning l x.name) ss) (selectors_calls h.scope ss) = known.selected_is k h b g calls l d q.0 (name_meaning l x.name) ss s us begins ne (ready_next h (cells l) (selectors_calls h.scope ss) ready) target in
      goes_same l m (value_of_meaning m at (selectors l (name_meaning l x.name) ss).0 first as').1 (selectors_calls h.scope ss) (plain_kept m at q.0 (selectors l (name_meaning l x.name) ss).0 first as' z j.leads q.2) (go d q.0 (name_meaning l x.name) ready target)

  -- the routine of a component
  pub entry_heading : (x : Name) (t : Ty) (o : Option Name) (routine : RoutineMeaning) (n : ℕ) → is_call_meant (Some (scopes.permanent_variable t)) o ≡ true → scopes.find x h.scope ≡ Some (scopes.permanent_variable t) → routine_meant h.program h.scope x (Some (scopes.permanent_variable t)) o ≡ Some routine →
      known.entry_named k h b g calls (system_type t) o ≡ Some n → (h.layouts.owners n ≡ system_type t) × HeadingIs k h b n routine
  entry_heading x t None routine n c e m i = absurd (let w : false ≡ true = c in cc)
  entry_heading x t (Some y) routine n c e m i = headings.entry x y t routine n e m i

  own_goes : (l : Layer) (at : ℕ) (x : Identifier) (es : syntax.Expressions) (r : syntax.Routine) (p : Option LayoutMeaning) → scopes.find x.name h.scope ≡ Some (scopes.routine_meaning r) → layers.find x.name b.names ≡ p → FoundIs k b.types p (Some (scopes.routine_meaning r)) (scopes.since x.name h.scope) → Kept b l → Argues es →
      IsFunction (routine_called h.program h.scope (syntax.designator x syntax.no_selectors)) → AreReady h (cells l) (expressions_calls h.scope es ++ function_call at (syntax.designator x syntax.no_selectors) es ∷ []) →
      GoesOn l (factor l (syntax.named at (syntax.designator x syntax.no_selectors) es)).1 (expressions_calls h.scope es ++ function_call at (syntax.designator x syntax.no_selectors) es ∷ [])
  unfolding factor first_value arguments_from designator selectors
  own_goes l at x es r None me pe fi s ar u n = absurd fi
  own_goes l at x es r (Some y) me pe fi s ar u n =
      let d : syntax.Designator = syntax.designator x syntax.no_selectors in
      let as' : Layer → ℕ → List code.Argument × Layer = λ m i. arguments_from m i 0 es in
      let number : ℕ = fi.0 in
      let q : RoutineMeaning = routine_in (scopes.since x.name h.scope) r in
      let there : layers.find x.name b.names ≡ Some (meaning.Routine number) = pe ∙ ap (λ w. Some w) fi.1 in
      let met : routine_called h.program h.scope d ≡ Some q = ap (λ m. routine_meant h.program h.scope x.name m None) me in
      let has : HasResult q.result = subst IsFunction met u in
      let given : (h.layouts.owners number ≡ h.system) × HeadingIs k h b number (k.routines number) = headings.own x.name number there in
      let results : ResultsAre k b.types q.result (result_of b number) = subst (λ (w : RoutineMeaning). ResultsAre k b.types w.result (result_of b number)) fi.2 (calls.own x.name number there) in
      let v : ResultsAre k b.types (Some (result_type q.result)) (result_of l number) =
      subst (λ w. ResultsAre k b.types (Some (result_type q.result)) w) (sym (known.same_result k h b g calls l number s)) (known.result_given k h b g calls q q.result (result_of b number) refl has results) in
      let callee : CalleeIs h d (scopes.find x.name h.scope) code.own false number = subst (λ m. CalleeIs h d m code.own false number) (sym me) (refl, refl, given.0) in
      let begins : name_meaning l x.name ≡ values.a_routine number = known.same_begun k h b g calls l x.name s ∙ ap laid.meaning_of there in
      subst (λ w. GoesOn l (value_of_meaning l at w (λ m. first_value m es) as').1 (expressions_calls h.scope es ++ function_call at d es ∷ [])) (sym begins)
      (call_goes l at d es code.own false number q (result_of l number) v s met has callee (subst (HeadingIs k h b number) fi.2 given.1) ar tt n)

  component_goes : (l : Layer) (at : ℕ) (x : Identifier) (ss : syntax.Selectors) (es : syntax.Expressions) (t : Ty) → is_call_meant (Some (scopes.permanent_variable t)) (last_field ss) ≡ true → scopes.find x.name h.scope ≡ Some (scopes.permanent_variable t) → Kept b l → SelectorsUsed h ss → Selects l ss → Argues es →
      AreEntry ss → IsFunction (routine_called h.program h.scope (syntax.designator x ss)) → ((q : Designated) × (designator_form h (syntax.designator x ss) ≡ Some q)) → AreReady h (cells l) (selectors_calls h.scope ss ++ (expressions_calls h.scope es ++ function_call at (syntax.designator x ss) es ∷ [])) →
      GoesOn l (factor l (syntax.named at (syntax.designator x ss) es)).1 (selectors_calls h.scope ss ++ (expressions_calls h.scope es ++ function_call at (syntax.designator x ss) es ∷ []))
  unfolding factor first_value arguments_from designator
  component_goes l at x ss es t ce me s us go ar en u form n =
      let d : syntax.Designator = syntax.designator x ss in
      let as' : Layer → ℕ → List code.Argument × Layer = λ m i. arguments_from m i 0 es in
      let rest : List Item = expressions_calls h.scope es ++ function_call at d es ∷ [] in
      let first : Designated = permanent_begun h x.name t in
      let begins_form : begun_form h x.name (scopes.find x.name h.scope) ≡ Some first = ap (begun_form h x.name) me in
      let target : selected_form h ss first ≡ Some form.0 = ap (λ w. then_form w (selected_form h ss)) (sym begins_form) ∙ form.1 in
      let begins : DesignatedIs k b.types first (name_meaning b x.name) = begun_same k h b g x.name first (subst IsNoRoutine (sym me) tt) begins_form in
      let begins_here : DesignatedIs k b.types first (name_meaning l x.name) = subst (λ w. DesignatedIs k b.types first w) (sym (known.same_begun k h b g calls l x.name s)) begins in
      let ready : AreReady h (cells l) (selectors_calls h.scope ss) = ready_first h (cells l) (selectors_calls h.scope ss) rest n in
      let m : Layer = (selectors l (name_meaning l x.name) ss).1 in
      let e : known.Entered k h b g calls form.0 (system_type t) (last_field ss) (cells l) (selectors l (name_meaning l x.name) ss) (selectors_calls h.scope ss) =
      known.entered_is k h b g calls l (system_type t) first form.0 (name_meaning l x.name) ss s us begins_here (known.parts_begun k h b g calls x.name t (known.has_parts k h b g calls t (last_field ss) ce)) en (ready_next h (cells l) (selectors_calls h.scope ss) ready) target in
      let moved : GoesOn l m (selectors_calls h.scope ss) = go first form.0 (name_meaning l x.name) ready target in
      let met : routine_called h.program h.scope d ≡ routine_meant h.program h.scope x.name (Some (scopes.permanent_variable t)) (last_field ss) = ap (λ w. routine_meant h.program h.scope x.name w (last_field ss)) me in
      let r : known.Reached k h b g calls t (last_field ss) (routine_meant h.program h.scope x.name (Some (scopes.permanent_variable t)) (last_field ss)) = known.reached_by k h b g calls x.name t (last_field ss) ce me (subst IsFunction met u) in
      let kept : Kept b m = kept_trans b l m s (designator_kept l d) in
      let v : ResultsAre k b.types (Some (result_type r.routine.result)) (result_of m r.number) = subst (λ w. ResultsAre k b.types (Some (result_type r.routine.result)) w) (sym (known.same_result k h b g calls m r.number kept)) r.results in
      let heading : (h.layouts.owners r.number ≡ system_type t) × HeadingIs k h b r.number r.routine = entry_heading x.name t (last_field ss) r.routine r.number ce me r.called r.there in
      let has : HasResult r.routine.result = subst IsFunction (met ∙ r.called) u in
      let part_is : designator_form h d ≡ Some (a_component e.part (h.layouts.owners r.number)) = form.1 ∙ ap (λ w. Some w) e.is_part ∙ ap (λ c. Some (a_component e.part c)) (sym heading.0) in
      let callee : CalleeIs h d (scopes.find x.name h.scope) e.part true r.number = subst (λ w. CalleeIs h d w e.part true r.number) (sym me) (part_is, refl) in
      let called_there : GoesOn m (function_as m at e.part true r.number (result_of m r.number) as').1 rest =
      call_goes m at d es e.part true r.number r.routine (result_of m r.number) v kept (met ∙ r.called) has callee heading.1 ar (ready_held h (cells l) (selectors_calls h.scope ss) ready) (ready_rest h (cells l) m (selectors_calls h.scope ss) rest moved.taken n) in
      let all : GoesOn m (value_of_meaning m at (selectors l (name_meaning l x.name) ss).0 (λ m. first_value m es) as').1 rest =
      subst (λ y. GoesOn m (value_of_meaning m at y (λ m. first_value m es) as').1 rest) (sym (e.leads ∙ ap (entry_found e.part) r.there)) called_there in
      goes_both lines h l m (value_of_meaning m at (selectors l (name_meaning l x.name) ss).0 (λ m. first_value m es) as').1 (selectors_calls h.scope ss) rest moved all

  -- a name in an expression
  named_goes : (l : Layer) (at : ℕ) (x : Identifier) (ss : syntax.Selectors) (es : syntax.Expressions) (z : Formed) (c : Bool) (m : Option scopes.Meaning) (p : Option LayoutMeaning) → is_call_meant m (last_field ss) ≡ c → scopes.find x.name h.scope ≡ m → layers.find x.name b.names ≡ p →
      FoundIs k b.types p m (scopes.since x.name h.scope) → Kept b l → SelectorsUsed h ss → Selects l ss → Argues es → First l es → UsedAs h (syntax.designator x ss) es c m →
      AreReady h (cells l) (selectors_calls h.scope ss ++ (expressions_calls h.scope es ++ own_call c at (syntax.designator x ss) es)) →
      named_form h at (syntax.designator x ss) c m (designator_form h (syntax.designator x ss)) (first_form h es) ≡ Some z →
      GoesOn l (factor l (syntax.named at (syntax.designator x ss) es)).1 (selectors_calls h.scope ss ++ (expressions_calls h.scope es ++ own_call c at (syntax.designator x ss) es))
  unfolding factor first_value arguments_from designator selectors
  named_goes l at x syntax.no_selectors es z true (Some (scopes.routine_meaning r)) p ce me pe fi s us go ar fs u n f = own_goes l at x es r p me pe fi s ar u.1 n
  named_goes l at x (syntax.more_selectors y ss) es z true (Some (scopes.routine_meaning r)) p ce me pe fi s us go ar fs u n f = absurd u.0
  named_goes l at x ss es z true (Some (scopes.permanent_variable t)) p ce me pe fi s us go ar fs u n f = component_goes l at x ss es t ce me s us go ar u.0 u.1 u.3 n
  named_goes l at x syntax.no_selectors syntax.no_expressions z false (Some (scopes.constant_meaning a v)) p ce me pe fi s us go ar fs u n f =
      let first : Layer → Value × Layer = λ m. first_value m syntax.no_expressions in
      let as' : Layer → ℕ → List code.Argument × Layer = λ m i. arguments_from m i 0 syntax.no_expressions in
      let met : name_meaning l x.name ≡ values.a_value (number_value v (base_of k a)) = known.same_begun k h b g calls l x.name s ∙ known.constant_found k h b g calls x.name p a v (scopes.since x.name h.scope) pe fi in
      subst (λ w. GoesOn l (value_of_meaning l at w first as').1 []) (sym met) (goes_none lines h l)
  named_goes l at x (syntax.more_selectors y ss) es z false (Some (scopes.constant_meaning a v)) p ce me pe fi s us go ar fs u n f = absurd u.0
  named_goes l at x syntax.no_selectors (syntax.more_expressions e es) z false (Some (scopes.constant_meaning a v)) p ce me pe fi s us go ar fs u n f = absurd u.1
  named_goes l at x syntax.no_selectors es z false (Some (scopes.standard_meaning q)) p ce me pe fi s us go ar fs u n f =
      let first : Layer → Value × Layer = λ m. first_value m es in
      let as' : Layer → ℕ → List code.Argument × Layer = λ m i. arguments_from m i 0 es in
      let met : name_meaning l x.name ≡ values.a_standard (predeclared_as q) = known.same_begun k h b g calls l x.name s ∙ known.standard_found k h b g calls x.name p q (scopes.since x.name h.scope) pe fi in
      let c : List Item = expressions_calls h.scope es in
      let w : (y : Formed) × (first_form h es ≡ Some y) × (applied_form q y ≡ Some z) = inside (first_form h es) (applied_form q) z f in
      let i : GoesOn l (first_value l es).1 c = fs w.0 u.1 (ready_first h (cells l) c [] n) w.1 in
      subst (λ y. GoesOn l (value_of_meaning l at y first as').1 (c ++ [])) (sym met) (goes_same l (first_value l es).1 (first_value l es).1 c refl i)
  named_goes l at x (syntax.more_selectors y ss) es z false (Some (scopes.standard_meaning q)) p ce me pe fi s us go ar fs u n f = absurd u.0
  named_goes l at x ss syntax.no_expressions z false (Some (scopes.local_variable t)) p ce me pe fi s us go ar fs u n f =
      variable_goes l at x ss (a_variable (code.place ((frame_here h).origins x.name) 0 code.no_indices) t) z (subst IsNoRoutine (sym me) tt) (ap (begun_form h x.name) me) s us go tt n f
  named_goes l at x ss syntax.no_expressions z false (Some (scopes.permanent_variable t)) p ce me pe fi s us go ar fs u n f =
      variable_goes l at x ss (permanent_begun h x.name t) z (subst IsNoRoutine (sym me) tt) (ap (begun_form h x.name) me) s us go (known.no_entry_of k h b g calls x.name t ss (last_field ss) refl ce) n f
  named_goes l at x ss (syntax.more_expressions e es) z false (Some (scopes.local_variable t)) p ce me pe fi s us go ar fs u n f = absurd u
  named_goes l at x ss (syntax.more_expressions e es) z false (Some (scopes.permanent_variable t)) p ce me pe fi s us go ar fs u n f = absurd u
  named_goes l at x ss es z false (Some (scopes.type_meaning t)) p ce me pe fi s us go ar fs u n f = absurd (known.nothing_begun k h b g calls x.name ss (Some (scopes.type_meaning t)) z me refl f)
  named_goes l at x ss es z false None p ce me pe fi s us go ar fs u n f = absurd (known.nothing_begun k h b g calls x.name ss None z me refl f)
  named_goes l at x ss es z y v p ce me pe fi s us go ar fs u n f = absurd (cc)

  -- ---- expressions

  mutual
    unfolding expression sum more_terms term more_factors factor elements first_value arguments_from selectors selector

    pub expression_goes : (l : Layer) (e : syntax.Expression) (z : Formed) → Kept b l → IsUsed h e → AreReady h (cells l) (expression_calls h.scope e) → expression_form h e ≡ Some z → GoesOn l (expression l e).1 (expression_calls h.scope e)
    expression_goes l (syntax.alone at a) z s u n f = sum_goes l a z s u n f
    expression_goes l (syntax.related at a r c) z s u n f =
        let p : (x : Formed) × (sum_form h a ≡ Some x) × (then_form (sum_form h c) (λ y. compared_forms r x.form y.form) ≡ Some z) = inside (sum_form h a) _ z f in
        let q : (y : Formed) × (sum_form h c ≡ Some y) × (compared_forms r p.0.form y.form ≡ Some z) = inside (sum_form h c) _ z p.2 in
        let m : Layer = (sum l a).1 in
        let i : GoesOn l m (sum_calls h.scope a) = sum_goes l a p.0 s u.0 (ready_first h (cells l) (sum_calls h.scope a) (sum_calls h.scope c) n) p.1 in
        goes_both lines h l m (sum m c).1 (sum_calls h.scope a) (sum_calls h.scope c) i (sum_goes m c q.0 (kept_trans b l m s (sum_kept l a)) u.1 (ready_rest h (cells l) m (sum_calls h.scope a) (sum_calls h.scope c) i.taken n) q.1)

    sum_goes : (l : Layer) (a : syntax.Sum) (z : Formed) → Kept b l → SumUsed h a → AreReady h (cells l) (sum_calls h.scope a) → sum_form h a ≡ Some z → GoesOn l (sum l a).1 (sum_calls h.scope a)
    sum_goes l (syntax.sum at o t ts) z s u n f =
        let p : (x : Formed) × (term_form h t ≡ Some x) × (then_form (signed_form o x) (λ y. terms_form h ts y) ≡ Some z) = inside (term_form h t) _ z f in
        let q : (y : Formed) × (signed_form o p.0 ≡ Some y) × (terms_form h ts y ≡ Some z) = inside (signed_form o p.0) _ z p.2 in
        let m : Layer = (term l t).1 in
        let v : Value = laid.with_sign o (term l t).0 in
        let i : GoesOn l m (term_calls h.scope t) = term_goes l t p.0 s u.0 (ready_first h (cells l) (term_calls h.scope t) (terms_calls h.scope ts) n) p.1 in
        goes_both lines h l m (more_terms m v ts).1 (term_calls h.scope t) (terms_calls h.scope ts) i (terms_goes m v q.0 ts z (kept_trans b l m s (term_kept l t)) u.1 (ready_rest h (cells l) m (term_calls h.scope t) (terms_calls h.scope ts) i.taken n) q.2)

    terms_goes : (l : Layer) (v : Value) (x : Formed) (ts : syntax.Terms) (z : Formed) → Kept b l → TermsUsed h ts → AreReady h (cells l) (terms_calls h.scope ts) → terms_form h ts x ≡ Some z → GoesOn l (more_terms l v ts).1 (terms_calls h.scope ts)
    terms_goes l v x syntax.no_terms z s u n f = goes_none lines h l
    terms_goes l v x (syntax.more_terms o t ts) z s u n f =
        let p : (y : Formed) × (term_form h t ≡ Some y) × (then_form (added_forms o x y x.form y.form) (λ q. terms_form h ts q) ≡ Some z) = inside (term_form h t) _ z f in
        let q : (y : Formed) × (added_forms o x p.0 x.form p.0.form ≡ Some y) × (terms_form h ts y ≡ Some z) = inside (added_forms o x p.0 x.form p.0.form) _ z p.2 in
        let m : Layer = (term l t).1 in
        let c : Value = values.sum_of o v (term l t).0 in
        let i : GoesOn l m (term_calls h.scope t) = term_goes l t p.0 s u.0 (ready_first h (cells l) (term_calls h.scope t) (terms_calls h.scope ts) n) p.1 in
        goes_both lines h l m (more_terms m c ts).1 (term_calls h.scope t) (terms_calls h.scope ts) i (terms_goes m c q.0 ts z (kept_trans b l m s (term_kept l t)) u.1 (ready_rest h (cells l) m (term_calls h.scope t) (terms_calls h.scope ts) i.taken n) q.2)

    term_goes : (l : Layer) (t : syntax.Term) (z : Formed) → Kept b l → TermUsed h t → AreReady h (cells l) (term_calls h.scope t) → term_form h t ≡ Some z → GoesOn l (term l t).1 (term_calls h.scope t)
    term_goes l (syntax.term at a fs) z s u n f =
        let p : (x : Formed) × (factor_form h a ≡ Some x) × (factors_form h fs x ≡ Some z) = inside (factor_form h a) _ z f in
        let m : Layer = (factor l a).1 in
        let i : GoesOn l m (factor_calls h.scope a) = factor_goes l a p.0 s u.0 (ready_first h (cells l) (factor_calls h.scope a) (factors_calls h.scope fs) n) p.1 in
        goes_both lines h l m (more_factors m (factor l a).0 fs).1 (factor_calls h.scope a) (factors_calls h.scope fs) i (factors_goes m (factor l a).0 p.0 fs z (kept_trans b l m s (factor_kept l a)) u.1 (ready_rest h (cells l) m (factor_calls h.scope a) (factors_calls h.scope fs) i.taken n) p.2)

    factors_goes : (l : Layer) (v : Value) (x : Formed) (fs : syntax.Factors) (z : Formed) → Kept b l → FactorsUsed h fs → AreReady h (cells l) (factors_calls h.scope fs) → factors_form h fs x ≡ Some z → GoesOn l (more_factors l v fs).1 (factors_calls h.scope fs)
    factors_goes l v x syntax.no_factors z s u n f = goes_none lines h l
    factors_goes l v x (syntax.more_factors o a fs) z s u n f =
        let p : (y : Formed) × (factor_form h a ≡ Some y) × (then_form (multiplied_forms o x y x.form y.form) (λ q. factors_form h fs q) ≡ Some z) = inside (factor_form h a) _ z f in
        let q : (y : Formed) × (multiplied_forms o x p.0 x.form p.0.form ≡ Some y) × (factors_form h fs y ≡ Some z) = inside (multiplied_forms o x p.0 x.form p.0.form) _ z p.2 in
        let m : Layer = (factor l a).1 in
        let c : Value = values.product_of o v (factor l a).0 in
        let i : GoesOn l m (factor_calls h.scope a) = factor_goes l a p.0 s u.0 (ready_first h (cells l) (factor_calls h.scope a) (factors_calls h.scope fs) n) p.1 in
        goes_both lines h l m (more_factors m c fs).1 (factor_calls h.scope a) (factors_calls h.scope fs) i (factors_goes m c q.0 fs z (kept_trans b l m s (factor_kept l a)) u.1 (ready_rest h (cells l) m (factor_calls h.scope a) (factors_calls h.scope fs) i.taken n) q.2)

    factor_goes : (l : Layer) (a : syntax.Factor) (z : Formed) → Kept b l → FactorUsed h a → AreReady h (cells l) (factor_calls h.scope a) → factor_form h a ≡ Some z → GoesOn l (factor l a).1 (factor_calls h.scope a)
    factor_goes l (syntax.named at (syntax.designator x ss) es) z s u n f =
        let own : List Item = own_call (is_call_meant (scopes.find x.name h.scope) (last_field ss)) at (syntax.designator x ss) es in
        let same : selectors_calls h.scope ss ++ expressions_calls h.scope es ++ own ≡ selectors_calls h.scope ss ++ (expressions_calls h.scope es ++ own) = regrouped (selectors_calls h.scope ss) (expressions_calls h.scope es) own in
        subst (λ is. GoesOn l (factor l (syntax.named at (syntax.designator x ss) es)).1 is) (sym same)
        (named_goes l at x ss es z (is_call_meant (scopes.find x.name h.scope) (last_field ss)) (scopes.find x.name h.scope) (layers.find x.name b.names) refl refl refl
        (found_in k b.types x.name b.names h.scope g.names) s u.0 (λ d q y m w. selectors_go l d q y ss s u.0 m w)
        (λ m r i slots qs ps t o a d c. arguments_go m r i es slots qs ps t u.1 o a d c) (λ y i m w. first_goes l es y s u.1 i m w) u.2 (subst (λ is. AreReady h (cells l) is) same n) f)
    factor_goes l (syntax.group at e) z s u n f = expression_goes l e z s u n f
    factor_goes l (syntax.negated at a) z s u n f =
        let p : (x : Formed) × (factor_form h a ≡ Some x) × (not_form x ≡ Some z) = inside (factor_form h a) _ z f in
        factor_goes l a p.0 s u n p.1
    factor_goes l (syntax.set_of at es) z s u n f =
        let p : (x : code.SetExpression) × (members_form h es code.empty_set ≡ Some x) × (set_form x ≡ Some z) = inside (members_form h es code.empty_set) _ z f in
        members_go l code.empty_set code.empty_set es p.0 s u n p.1
    factor_goes l _ z s u n f = goes_none lines h l

    members_go : (l : Layer) (y c : code.SetExpression) (es : syntax.Expressions) (z : code.SetExpression) → Kept b l → AreUsed h es → AreReady h (cells l) (expressions_calls h.scope es) → members_form h es c ≡ Some z → GoesOn l (elements l y es).1 (expressions_calls h.scope es)
    members_go l y c syntax.no_expressions z s u n f = goes_none lines h l
    members_go l y c (syntax.more_expressions e es) z s u n f =
        let p : (x : Formed) × (expression_form h e ≡ Some x) × (then_form (with_member_form c x.form) (λ q. members_form h es q) ≡ Some z) = inside (expression_form h e) _ z f in
        let q : (y : code.SetExpression) × (with_member_form c p.0.form ≡ Some y) × (members_form h es y ≡ Some z) = inside (with_member_form c p.0.form) _ z p.2 in
        let m : Layer = (expression l e).1 in
        let d : code.SetExpression = code.with_element y (ordinal_of (expression l e).0) in
        let i : GoesOn l m (expression_calls h.scope e) = expression_goes l e p.0 s u.0 (ready_first h (cells l) (expression_calls h.scope e) (expressions_calls h.scope es) n) p.1 in
        goes_both lines h l m (elements m d es).1 (expression_calls h.scope e) (expressions_calls h.scope es) i (members_go m d q.0 es z (kept_trans b l m s (expression_kept l e)) u.1 (ready_rest h (cells l) m (expression_calls h.scope e) (expressions_calls h.scope es) i.taken n) q.2)

    -- arguments, by the parameters from a place on
    pub arguments_go : (l : Layer) (r n : ℕ) (es : syntax.Expressions) (slots : Name → ℕ) (qs : List Parameter) (ps : List code_parameter.ParameterLayout) → Kept b l → AreUsed h es → AreReady h (cells l) (expressions_calls h.scope es) → ParametersAre k b.types slots qs ps → ((i : ℕ) → parameter_of b r (n + i) ≡ slice_get ps i) →
        CanGiveAll h qs es → ArgumentsGo l r n es slots qs
    arguments_go l r n syntax.no_expressions slots [] ps s u a w d c = (goes_none lines h l, tt)
    arguments_go l r n (syntax.more_expressions e es) slots (q ∷ qs) [] s u a w d c = absurd w
    arguments_go l r n (syntax.more_expressions e es) slots (q ∷ qs) (p ∷ ps) s u a w d c =
        let f : CanGive h q e = c.0 in
        let m : Layer = (expression l e).1 in
        let is : List Item = expression_calls h.scope e in
        let js : List Item = expressions_calls h.scope es in
        let first : AreReady h (cells l) is = ready_first h (cells l) is js a in
        let i : GoesOn l m is = expression_goes l e f.given.form s u.0 first f.given.formed in
        let value : known.Is k h b g calls f.given.form (cells l) (expression l e) is = known.expression_is k h b g calls l e f.given.form s u.0 (ready_next h (cells l) is first) f.given.formed in
        let kept : Kept b m = kept_trans b l m s (expression_kept l e) in
        let later : (j : ℕ) → parameter_of b r (n + 1 + j) ≡ slice_get ps j = λ j. (let z : n + 1 + j ≡ n + suc j = omega arith in ap (parameter_of b r) z ∙ d (suc j)) in
        let rest : ArgumentsGo m r (n + 1) es slots qs = arguments_go m r (n + 1) es slots qs ps kept u.1 (ready_rest h (cells l) m is js i.taken a) w.2 later c.1 in
        let here : parameter_of m r n ≡ Some p = same_parameter m r n kept ∙ (let z : n ≡ n + 0 = omega arith in ap (parameter_of b r) z) ∙ d 0 in
        let types : m.types ≡ b.types = ap (λ (j : Layer). j.types) kept in
        let same : argument_for m p.passing (expression l e).0 ≡ f.value = given_same k m q.is_var q.ty f.given.form (expression l e).0 p.passing f.value (subst (λ ts. ValueIs k ts f.given.form (expression l e).0) (sym types) value.value) (subst (λ ts. PassedBy k ts q.is_var q.ty p.passing) (sym types) w.1) f.given.given f.moved in
        let own : AreGiven h slots (q ∷ qs) (syntax.more_expressions e es) (laid.with_argument m (Some p) (expression l e).0 (arguments_from m r (n + 1) es).0) = (w.0, subst (IsGiven h q e) (sym same) f.given, rest.1) in
        (goes_both lines h l m (arguments_from m r (n + 1) es).1 is js i rest.0, subst (λ o. AreGiven h slots (q ∷ qs) (syntax.more_expressions e es) (laid.with_argument m o (expression l e).0 (arguments_from m r (n + 1) es).0)) (sym here) own)
    arguments_go l r n _ slots _ ps s u a w d c = absurd c

    -- selectors
    pub selectors_go : (l : Layer) (d q : Designated) (x : values.Designated) (ss : syntax.Selectors) → Kept b l → SelectorsUsed h ss → AreReady h (cells l) (selectors_calls h.scope ss) → selected_form h ss d ≡ Some q → GoesOn l (selectors l x ss).1 (selectors_calls h.scope ss)
    selectors_go l d q x syntax.no_selectors s u n f = goes_none lines h l
    selectors_go l d q x (syntax.more_selectors (syntax.field y) ss) s u n f =
        let p : (c : Designated) × (with_field_form d y.name ≡ Some c) × (selected_form h ss c ≡ Some q) = inside (with_field_form d y.name) _ q f in
        selectors_go l p.0 q (field_of_designated l x y.name) ss s u.1 n p.2
    selectors_go l d q x (syntax.more_selectors (syntax.index o) ss) s u n f =
        let p : (c : Designated) × (then_form (expression_form h o) (with_index_form h d) ≡ Some c) × (selected_form h ss c ≡ Some q) = inside (then_form (expression_form h o) (with_index_form h d)) _ q f in
        let a : (y : Formed) × (expression_form h o ≡ Some y) × (with_index_form h d y ≡ Some p.0) = inside (expression_form h o) _ p.0 p.1 in
        let m : Layer = (expression l o).1 in
        let i : GoesOn l m (expression_calls h.scope o) = expression_goes l o a.0 s u.0 (ready_first h (cells l) (expression_calls h.scope o) (selectors_calls h.scope ss) n) a.1 in
        let w : values.Designated = element_of_designated m x (ordinal_of (expression l o).0) in
        goes_both lines h l m (selectors m w ss).1 (expression_calls h.scope o) (selectors_calls h.scope ss) i (selectors_go m p.0 q w ss (kept_trans b l m s (expression_kept l o)) u.1 (ready_rest h (cells l) m (expression_calls h.scope o) (selectors_calls h.scope ss) i.taken n) p.2)

    -- the one argument of a standard function
    pub first_goes : (l : Layer) (es : syntax.Expressions) (z : Formed) → Kept b l → AreUsed h es → IsOne es → AreReady h (cells l) (expressions_calls h.scope es) → first_form h es ≡ Some z → GoesOn l (first_value l es).1 (expressions_calls h.scope es)
    first_goes l (syntax.more_expressions e syntax.no_expressions) z s u i n f =
        goes_same l (expression l e).1 (expression l e).1 (expression_calls h.scope e) refl (expression_goes l e z s u.0 (ready_first h (cells l) (expression_calls h.scope e) [] n) f)
    first_goes l _ z s u i n f = absurd i
