-- The items that are laid out of statements stand for these statements.
use Rattle.std.proofs.Common.{◌≡◌, ◌+◌, ◌<◌, ◌≤◌, min, max, ℕ, Bool, true, false, List, [], ◌∷◌, ◌++◌, length, Option, Some, None, slice_get, refl, sym, ap, subst, ◌∙◌, arith, append-nil}
use Rattle.cp_resolved.proofs.Words.{none-some, same_Some, Constant, Identifier, Direction, LayoutMeaning, most, Name, Ty, Item}
use Rattle.cp_resolved.proofs.Words.{system_of, name_of, routine_of_type, routine_meant, routine_called, Here, cell_named, Each}
use Rattle.cp_resolved.proofs.Words.{IsSmallConstant, ValueIs, DesignatedIs, Layer, add_item, again, settle_items, need_inside, pending_need, without_pending}
use Rattle.cp_resolved.proofs.Words.{starts_calls, calls_laid, all_calls_laid, arms_calls_laid, arm_calls_laid, AreHeld, IsCell, Assigns, Means}
use Rattle.cp_tree.specs.declared.statement.AssertionKind.{AssertionKind}
use Rattle.cp_tree.specs.declared.statement.AssertionKind.TheVariants as kinds
use Rattle.cp_tree.specs.declared.statement.Direction.TheVariants as direction
use Rattle.cp_tree.specs.Syntax as syntax
use Rattle.cp_slots.specs.declared.item.ShownKind.TheVariants as shown
use Rattle.cp_symbols.specs.declared.kinds.CellType.TheVariants as types
use Rattle.cp_symbols.specs.declared.names.LayoutMeaning.TheVariants as meaning
use Rattle.cp_slots.specs.Code as code
use Rattle.cp_layout.specs.Values as values
use Rattle.cp_layout.specs.Values.{place_of, ordinal_of}
use Rattle.cp_layout.specs.Layers as layers
use Rattle.cp_layout.specs.LaidTypes as laid_types
use Rattle.cp_layout.specs.LaidExpressions.{meaning_of, name_meaning, entry_found, with_their_count, arguments_from, arguments, expression, designator, selectors, first_value}
use Rattle.cp_layout.specs.LaidStatements as laid
use Rattle.cp_layout.specs.LaidStatements.{check_invariants, assertion, statement, statements, arms, one_arm, arms_need, choose, while_item, until_item, select, for_item, block_item, repeat_items, assign, call_statement, standard, procedure, begin_component, start_statement, starts, Target, target_of, low_of, high_of, origin_of, token_of}
use Rattle.cp_meaning.specs.Types as named
use Rattle.cp_meaning.specs.Scopes as scopes
use Rattle.cp_meaning.specs.Declarations as meant
use Rattle.cp_meaning.specs.Lifting.{check_items, last_field, designator_calls, expression_calls, expressions_calls, selectors_calls}
use Rattle.cp_meaning.specs.Steps.{at_expression}
use Rattle.cp_meaning.specs.Calls.{last_checks}
use Rattle.cp_layout.specs.LaidDeclarations.{end_of_body}
use Rattle.cp_resolved.specs.Compiled.{Form, as_ordinal, as_set, as_place, Formed, then_form, Designated, a_variable, a_component, permanent_begun, begun_form, expression_form, designator_form, selected_form}
use Rattle.cp_resolved.specs.FormedParts.{CanGiveAll, CallFormed, AreReady, parameters_in, HeadingIs}
use Rattle.cp_resolved.specs.FormedStatements.{PerformFormed, StartFormed, StartIs, EntryFormed, InvokeFormed, TestFormed, OrdinalFormed, AssignFormed, ForFormed, IsNotRoutine, StatementFormed, AllFormed, ArmsFormed, ArmFormed}
use Rattle.cp_resolved.specs.InStep.{Numbering, base_of, range_on, predeclared_as, FoundIs, TypeIs}
use Rattle.cp_resolved.specs.ItemsStand.{Surroundings, CanStand, body_items, StatementsLaw}
use Rattle.cp_resolved.specs.Stands.{ChecksAre, BodyIs, said_of, AssignedBy, StartItem, StartsAre, Ground, ItemAt, CalleeIs, CallItem, CallsAre, kind_of, first_of, Performed, InvokedBy, IsOrdinal, labels_of, is_down, OwnAll, OwnArms, OwnArm, StatementIs}
use Rattle.cp_resolved.specs.Used.{IsUsed, AreUsed, SelectorsUsed, system_type}
use Rattle.cp_resolved.proofs.forms.Designating.{IsNoRoutine, begun_same}
use Rattle.cp_resolved.proofs.items.Expressions as known
use Rattle.cp_resolved.proofs.items.Expressions.{cells, TakesFrom, takes_none, takes_both}
use Rattle.cp_resolved.proofs.items.ChecksStand.{kept_lines, checks_of, checks_go, before_go}
use Rattle.cp_resolved.proofs.items.Targets.{TargetIs, own_target}
use Rattle.cp_resolved.proofs.items.Going.{Goes, goes_none, goes_both, ready_next, ready_held, ready_first, ready_rest, grown_room, heading_parameters, expression_goes, arguments_go, selectors_go}
use Rattle.cp_resolved.proofs.laid.Grown.{Grew, grew_trans, kept_grew, settled_grew, with_more}
use Rattle.cp_resolved.proofs.items.ItemsMean.{NewItems, none_new, both_new, ended_new, checked_new, end_new}
use Rattle.cp_resolved.proofs.laid.Kept.{Kept, kept_trans, checked_kept, before_kept, expression_kept, designator_kept, arguments_kept}
use Rattle.cp_resolved.proofs.forms.Moved.{assigned_same}
use Rattle.cp_resolved.proofs.laid.SettledItems.{ChecksGo, checks_none, LedChecked, finish_checked, checks_end, all_frame, all_pending, Holds, holds_first, Led, ended, finish, again_first}
use Rattle.cp_resolved.proofs.names.Steps.{found_in}
use Rattle.cp_resolved.proofs.names.StepsOfTypes.{constant_same}

no_sum_stops : (n : ℕ) → n ≤ most → min n most ≡ n
no_sum_stops n h = omega (arith, h)

not_routine : (o : Option scopes.Meaning) → IsNotRoutine o → IsNoRoutine o
not_routine (Some (scopes.routine_meaning r)) h = h
not_routine _ h = tt

range_inside : (r s : named.Range) → named.ordinal r ≡ named.ordinal s → r ≡ s
range_inside r s e = cc

down_same : (d : Direction) → laid.is_down d ≡ is_down d
down_same direction.To = refl
down_same direction.Downto = refl

token_same : (e : syntax.Expression) → token_of e ≡ at_expression e
token_same (syntax.alone at a) = refl
token_same (syntax.related at a r b) = refl

module _ (p : syntax.Program) where
  -- an entry is one of a component
  pub parts_of : (t : Ty) (y : Name) (r : meant.RoutineMeaning) → routine_of_type p t y ≡ Some r → named.has_components t ≡ true
  parts_of (named.component_of n) y r e = refl
  parts_of (named.array_over s (named.component_of n)) y r e = refl
  parts_of _ y r e = absurd (none-some r e)

module _ (k : Numbering) (h : Here) (g : Ground) (few : length g.tables.items ≤ most) (numbered : (at : ℕ) → g.firsts at ≡ k.firsts at) where
  abbrev World : Layer → Type 0
  World l = Surroundings k h g l

  more_world : (l m : Layer) (more : List code.Item) → World l → World (with_more l more m)
  more_world l m more w =
      record {
        names = record { names = w.names.names; frame = w.names.frame; slot = w.names.slot; first = w.names.first; bound = w.names.bound; count = w.names.count; local = w.names.local; permanent = w.names.permanent };
        calls = record { own = w.calls.own; entry = λ x y t r e f. (let i = w.calls.entry x y t r e f in record { number = i.number; there = i.there; result = i.result }) };
        headings = record {
          own = λ x n e. (let i = w.headings.own x n e in (i.0, record { same = i.1.same; parameters = i.1.parameters }));
          entry = λ x y t r n e f d. (let i = w.headings.entry x y t r n e f d in (i.0, record { same = i.1.same; parameters = i.1.parameters }));
        };
        result = λ x r e f a. (let i = w.result x r e f a in record { number = i.number; there = i.there; own = i.own; result = i.result; held = i.held; cell = i.cell; belongs = i.belongs });
        starts = λ d c n e. (let i = w.starts d c n e in record { initial = i.initial; parameters = i.parameters });
        lines = w.lines;
        checks = w.checks;
      }

  -- it is known after statements too
  pub world_grown : (l m : Layer) → Grew l m → World l → World m
  world_grown l m e w = subst World (sym e.1) (more_world l m e.0 w)

  -- ---- what statements do

  pub record Does (l m : Layer) (is : List Item) (Is : Type 0) : Type 0 where
    pub taken : TakesFrom (cells l) m is
    pub pending : m.pending ≡ []
    pub grew : Grew l m
    pub means : NewItems h l m
    pub stands : Holds g h m.items → Is

  grew_holds : (l m : Layer) → Grew l m → Holds g h m.items → Holds g h l.items
  grew_holds l m e b = holds_first g h l.items e.0 (subst (Holds g h) (ap (λ (j : Layer). j.items) e.1) b)

  both_do : (l m o : Layer) (is js : List Item) (A B C : Type 0) → Does l m is A → Does m o js B → (A → B → C) → Does l o (is ++ js) C
  both_do l m o is js A B C a c f =
      record {
        taken = takes_both (cells l) m o is js a.taken c.taken;
        pending = c.pending;
        grew = grew_trans l m o a.grew c.grew;
        means = both_new h l m o a.means c.means;
        stands = λ b. f (a.stands (grew_holds m o c.grew b)) (c.stands b);
      }

  then_does : (l m : Layer) (is : List Item) (A B : Type 0) → (A → B) → Does l m is A → Does l m is B
  then_does l m is A B f a = record { taken = a.taken; pending = a.pending; grew = a.grew; means = a.means; stands = λ b. f (a.stands b) }

  -- the calls of a statement and its own item
  own_does : (l m : Layer) (is : List Item) (at : ℕ) (a : code.Action) (need : ℕ) (next : Option ℕ) → World l → l.pending ≡ [] → Kept l m → Goes g.lines h l m is → Means h a → Does l (ended g h m at a need next).1 is (Led g h (ended g h m at a need next).0 is at a next)
  own_does l m is at a need next w none s i x =
      let j : Layer = add_item m at a need in
      record {
        taken = ap (λ (f : layers.Frame). length f.image) (all_frame (without_pending j) j.pending next) ∙ i.taken;
        pending = all_pending (without_pending j) j.pending next;
        grew = grew_trans l j (ended g h m at a need next).1 (kept_grew l j (kept_trans l m j s refl)) (settled_grew j next);
        means = ended_new g h l m is at a need next none s i x;
        stands = λ b. finish g h l m is at a need next none i (kept_lines k h g l m w s) b;
      }

  -- the calls of a statement, the checks before it, and its own item
  checked_does : (l m o : Layer) (is cs : List Item) (at : ℕ) (a : code.Action) (need : ℕ) (next : Option ℕ) → World l → l.pending ≡ [] → Kept l o → Goes g.lines h l m is → ChecksGo g h m o cs → Means h a → Does l (ended g h o at a need next).1 is (LedChecked g h (ended g h o at a need next).0 is cs at a next)
  checked_does l m o is cs at a need next w none s i c x =
      let j : Layer = add_item o at a need in
      record {
        taken = ap (λ (f : layers.Frame). length f.image) (all_frame (without_pending j) j.pending next) ∙ c.image ∙ i.taken;
        pending = all_pending (without_pending j) j.pending next;
        grew = grew_trans l j (ended g h o at a need next).1 (kept_grew l j (kept_trans l o j s refl)) (settled_grew j next);
        means = checked_new g h l m o is cs at a need next none s i c x;
        stands = λ b. finish_checked g h l m o is cs at a need next none i c (kept_lines k h g l o w s) b;
      }

  -- with no calls
  alone_does : (l : Layer) (at : ℕ) (a : code.Action) (need : ℕ) (next : Option ℕ) → World l → l.pending ≡ [] → Means h a → Does l (ended g h l at a need next).1 [] (Led g h (ended g h l at a need next).0 [] at a next)
  alone_does l at a need next w none x = own_does l l [] at a need next w none refl (goes_none g.lines h l) x

  led_as : (first : Option ℕ) (is : List Item) (at : ℕ) (a c : code.Action) (next : Option ℕ) → a ≡ c → Led g h first is at a next → Led g h first is at c next
  led_as first is at a c next e x = subst (λ y. Led g h first is at y next) e x

  -- ---- expressions

  goes : (l : Layer) (e : syntax.Expression) (t : Ty) (c : code.OrdinalExpression) → World l → IsOrdinal h e t c → IsUsed h e → AreReady h (cells l) (expression_calls h.scope e) → Goes g.lines h l (expression l e).1 (expression_calls h.scope e)
  goes l e t c w f u r = expression_goes k h l w.names w.calls w.headings g.lines w.lines l e _ refl u r f

  cell_is : (l : Layer) (e : syntax.Expression) (t : Ty) (c : code.OrdinalExpression) → World l → IsOrdinal h e t c → IsUsed h e → AreReady h (cells l) (expression_calls h.scope e) → ordinal_of (expression l e).0 ≡ c
  cell_is l e t c w f u r =
      let i = known.expression_is k h l w.names w.calls l e _ refl u (ready_next h (cells l) (expression_calls h.scope e) r) f in
      known.ordinal_is k h l w.names w.calls t (as_ordinal c) (expression l e).0 c i.value refl

  expression_does : (l : Layer) (e : syntax.Expression) (t : Ty) (c : code.OrdinalExpression) (at : ℕ) (a : code.OrdinalExpression → code.Action) (need : ℕ) (next : Option ℕ) → (IsCell h c → Means h (a c)) → World l → l.pending ≡ [] → IsOrdinal h e t c → IsUsed h e → AreReady h (cells l) (expression_calls h.scope e) →
      Does l (ended g h (expression l e).1 at (a (ordinal_of (expression l e).0)) need next).1 (expression_calls h.scope e) (Led g h (ended g h (expression l e).1 at (a (ordinal_of (expression l e).0)) need next).0 (expression_calls h.scope e) at (a c) next)
  expression_does l e t c at a need next means w none f u r =
      let m : Layer = (expression l e).1 in
      let b : code.Action = a (ordinal_of (expression l e).0) in
      let is : List Item = expression_calls h.scope e in
      then_does l (ended g h m at b need next).1 is (Led g h (ended g h m at b need next).0 is at b next) (Led g h (ended g h m at b need next).0 is at (a c) next)
      (led_as (ended g h m at b need next).0 is at b (a c) next (ap a (cell_is l e t c w f u r))) (own_does l m is at b need next w none (expression_kept l e) (goes l e t c w f u r)
      (subst (Means h) (sym (ap a (cell_is l e t c w f u r))) (means (record { expression = e; ty = t; formed = f; held = ready_held h (cells l) is r }))))

  -- ---- statements

  abbrev After : Layer → Option ℕ × Layer → syntax.Statement → Option ℕ → Type 0
  After l x s next = Does l x.1 (calls_laid h.scope s) (StatementIs g h x.0 s next)

  -- a test before or after a list
  test_does : (l : Layer) (e : syntax.Expression) (f : TestFormed h e) (at : ℕ) (a : code.OrdinalExpression → code.Action) (need : ℕ) (next : Option ℕ) → (IsCell h f.cell → Means h (a f.cell)) → World l → l.pending ≡ [] → AreReady h (cells l) (expression_calls h.scope e) →
      Does l (ended g h (expression l e).1 at (a (ordinal_of (expression l e).0)) need next).1 (expression_calls h.scope e) (Led g h (ended g h (expression l e).1 at (a (ordinal_of (expression l e).0)) need next).0 (expression_calls h.scope e) at (a f.cell) next)
  test_does l e f at a need next means w none r = expression_does l e f.test.ty f.cell at a need next means w none f.test.cell f.used r

  -- the first item of a loop's test, where it begins again
  again_is : (l m : Layer) (is : List Item) (at : ℕ) (a : code.Action) (need : ℕ) (next : Option ℕ) → l.pending ≡ [] → Goes g.lines h l m is → Holds g h (ended g h m at a need next).1.items → (ended g h m at a need next).0 ≡ Some (again m)
  again_is l m is at a need next none i b =
      let x = again_first g h l m is at a need next none i b in
      let low : length m.items + length m.pending < length g.tables.items = x.1 in
      x.0 ∙ ap (λ n. Some n) (sym (no_sum_stops (length m.items + length m.pending) (omega (arith, low, few))))

  -- ---- assignments

  designator_goes : (l : Layer) (x : Identifier) (ss : syntax.Selectors) (q : Designated) → World l → SelectorsUsed h ss → AreReady h (cells l) (selectors_calls h.scope ss) → designator_form h (syntax.designator x ss) ≡ Some q → Goes g.lines h l (designator l (syntax.designator x ss)).1 (selectors_calls h.scope ss)
  unfolding designator
  designator_goes l x ss q w u n f =
      let p : (d : Designated) × (begun_form h x.name (scopes.find x.name h.scope) ≡ Some d) × (selected_form h ss d ≡ Some q) = known.inside (begun_form h x.name (scopes.find x.name h.scope)) (selected_form h ss) q f in
      selectors_go k h l w.names w.calls w.headings g.lines w.lines l p.0 q (name_meaning l x.name) ss refl u n p.2

  assigns_mean : (t u : Ty) (y : Form) (p : code.Place) (a : code.Action) → AssignedBy t p u y a → Assigns h a → Means h a
  assigns_mean (named.ordinal q) u (as_ordinal c) p a e x = subst (λ b. Assigns h b → Means h b) (sym e) (λ y. y) x
  assigns_mean (named.set_over q) u (as_set c) p a e x = subst (λ b. Assigns h b → Means h b) (sym e) (λ y. y) x
  assigns_mean (named.array_over q t) u (as_place c) p a e x = subst (λ b. Assigns h b → Means h b) (sym e.1) (λ y. y) x
  assigns_mean (named.record_with us) u (as_place c) p a e x = subst (λ b. Assigns h b → Means h b) (sym e.1) (λ y. y) x
  assigns_mean _ u _ p a e x = absurd e

  assign_does : (l : Layer) (at : ℕ) (x : Identifier) (ss : syntax.Selectors) (e : syntax.Expression) (next : Option ℕ) → World l → l.pending ≡ [] → AssignFormed h (syntax.designator x ss) e → AreReady h (cells l) (selectors_calls h.scope ss ++ expression_calls h.scope e) →
      After l (settle_items (assign l at (syntax.designator x ss) e) next) (syntax.assign at (syntax.designator x ss) e) next
  unfolding assign
  assign_does l at x ss e next w none f n =
      let d : syntax.Designator = syntax.designator x ss in
      let is : List Item = selectors_calls h.scope ss in
      let js : List Item = expression_calls h.scope e in
      let first : AreReady h (cells l) is = ready_first h (cells l) is js n in
      let m : Layer = (designator l d).1 in
      let o : Layer = (expression m e).1 in
      let kept : Kept l m = designator_kept l d in
      let i : Goes g.lines h l m is = designator_goes l x ss (a_variable f.place f.ty) w f.chosen first f.target in
      let rest : AreReady h (cells m) js = ready_rest h (cells l) m is js i.taken n in
      let j : Goes g.lines h m o js = expression_goes k h l w.names w.calls w.headings g.lines w.lines m e f.value kept f.used rest f.formed in
      let v = known.expression_is k h l w.names w.calls m e f.value kept f.used (ready_next h (cells m) js rest) f.formed in
      let t : TargetIs k l f.place f.ty (target_of m (designator l d).0) = own_target k h g l x ss f.place f.ty (scopes.find x.name h.scope) w refl f.named f.chosen first f.target in
      let whole : Kept l o = kept_trans l m o kept (expression_kept m e) in
      let types : o.types ≡ l.types = ap (λ (j : Layer). j.types) whole in
      let value : ValueIs k o.types f.value (expression m e).0 = subst (λ ts. ValueIs k ts f.value (expression m e).0) (sym types) v.value in
      let belongs : TypeIs k o.types f.ty (target_of m (designator l d).0).value_type = subst (λ ts. TypeIs k ts f.ty (target_of m (designator l d).0).value_type) (sym types) t.belongs in
      let same : laid.assignment o (target_of m (designator l d).0) (expression m e).0 ≡ f.act =
      ap (λ p. laid.assign_by_type o p (expression m e).0 (target_of m (designator l d).0).value_type) t.place_is
      ∙ assigned_same k o f.ty f.value.ty f.value.form (expression m e).0 f.place (target_of m (designator l d).0).value_type f.act value belongs f.assigned f.moved in
      let a : code.Action = laid.assignment o (target_of m (designator l d).0) (expression m e).0 in
      let meant : Assigns h f.act = record { target = d; expression = e; place = f.place; ty = f.ty; value = f.value; aimed = f.target; formed = f.formed; assigned = f.assigned; chosen = ready_held h (cells l) is first; held = ready_held h (cells m) js rest } in
      let done : Does l (ended g h o at a 0 next).1 (is ++ js) (Led g h (ended g h o at a 0 next).0 (is ++ js) at a next) = own_does l o (is ++ js) at a 0 next w none whole (goes_both g.lines h l m o is js i j) (subst (Means h) (sym same) (assigns_mean f.ty f.value.ty f.value.form f.place f.act f.assigned meant)) in
      then_does l (ended g h o at a 0 next).1 (is ++ js) (Led g h (ended g h o at a 0 next).0 (is ++ js) at a next) (StatementIs g h (ended g h o at a 0 next).0 (syntax.assign at d e) next)
      (λ y. (let z = led_as (ended g h o at a 0 next).0 (is ++ js) at a f.act next same y in (z.number, z.calls, record { place = f.place; ty = f.ty; value = f.value; act = f.act; target = f.target; formed = f.formed; assigned = f.assigned; item = z.item }))) done

  led_checked_as : (first : Option ℕ) (is cs : List Item) (at : ℕ) (a c : code.Action) (next : Option ℕ) → a ≡ c → LedChecked g h first is cs at a next → LedChecked g h first is cs at c next
  led_checked_as first is cs at a c next e x = subst (λ y. LedChecked g h first is cs at y next) e x

  -- ---- the standard procedures

  shown_same : (c : code.OrdinalExpression) (b : named.Base) → laid.shown_kind (values.ordinal_value c (base_of k b)) ≡ kind_of g.firsts b
  shown_same c (named.enumerated at xs) = ap shown.Constant (sym (numbered at))
  shown_same c _ = refl

  performed_does : (l : Layer) (at : ℕ) (p : scopes.Standard) (e : syntax.Expression) (z : Formed) (a : code.Action) (next : Option ℕ) → World l → l.pending ≡ [] → expression_form h e ≡ Some z → IsUsed h e → AreReady h (cells l) (expression_calls h.scope e ++ []) → (ValueIs k l.types z (expression l e).0 → laid.standard_action (predeclared_as p) (expression l e).0 ≡ a) → Means h a →
      Does l (settle_items (standard l at (predeclared_as p) (syntax.more_expressions e syntax.no_expressions)) next).1 (expression_calls h.scope e ++ []) (LedChecked g h (settle_items (standard l at (predeclared_as p) (syntax.more_expressions e syntax.no_expressions)) next).0 (expression_calls h.scope e ++ []) (checks_of h at (Some (scopes.standard_meaning p))) at a next)
  unfolding standard first_value
  performed_does l at p e z a next w none f u n same means =
      let is : List Item = expression_calls h.scope e in
      let cs : List Item = checks_of h at (Some (scopes.standard_meaning p)) in
      let m : Layer = (expression l e).1 in
      let o : Layer = laid.check_before m at (predeclared_as p) in
      let c : code.Action = laid.standard_action (predeclared_as p) (expression l e).0 in
      let r : AreReady h (cells l) is = ready_first h (cells l) is [] n in
      let i : Goes g.lines h l m is = expression_goes k h l w.names w.calls w.headings g.lines w.lines l e z refl u r f in
      let v = known.expression_is k h l w.names w.calls l e z refl u (ready_next h (cells l) is r) f in
      let all : Goes g.lines h l m (is ++ []) = subst (Goes g.lines h l m) (sym (append-nil is)) i in
      then_does l (ended g h o at c 0 next).1 (is ++ []) (LedChecked g h (ended g h o at c 0 next).0 (is ++ []) cs at c next) (LedChecked g h (ended g h o at c 0 next).0 (is ++ []) cs at a next)
      (led_checked_as (ended g h o at c 0 next).0 (is ++ []) cs at c a next (same v.value)) (checked_does l m o (is ++ []) cs at c 0 next w none (kept_trans l m o (expression_kept l e) (before_kept m at (predeclared_as p))) all (before_go k h g l m at p w (expression_kept l e)) (subst (Means h) (sym (same v.value)) means))

  abbrev Performs : Layer → ℕ → scopes.Standard → syntax.Expressions → Option ℕ → Type 0
  Performs l at s es next =
      Does l (settle_items (standard l at (predeclared_as s) es) next).1 (expressions_calls h.scope es)
      ((n : ℕ) × (check : Option ℕ) × CallsAre g h (settle_items (standard l at (predeclared_as s) es) next).0 (expressions_calls h.scope es) check × ChecksAre g h check (checks_of h at (Some (scopes.standard_meaning s))) (Some n) × Performed g h n at s (first_of es) next)

  standard_does : (l : Layer) (at : ℕ) (s : scopes.Standard) (e : syntax.Expression) (next : Option ℕ) → World l → l.pending ≡ [] → PerformFormed h s (Some e) → AreReady h (cells l) (expression_calls h.scope e ++ []) → Performs l at s (syntax.more_expressions e syntax.no_expressions) next
  standard_does l at scopes.display_procedure e next w none f n =
      then_does l _ (expression_calls h.scope e ++ []) _ _ (λ y. (y.number, y.check, y.calls, y.checks, record { range = f.range; cell = f.cell; formed = f.formed; item = y.item }))
      (performed_does l at scopes.display_procedure e _ (code.display f.cell (kind_of g.firsts f.range.base)) next w none f.formed f.used n (λ v.
      ap laid.display v.2 ∙ ap (code.display f.cell) (shown_same f.cell v.0.base) ∙ ap (λ (r : named.Range). code.display f.cell (kind_of g.firsts r.base)) (range_inside v.0 f.range (sym v.1)))
      (record { expression = e; ty = named.ordinal f.range; formed = f.formed; held = ready_held h (cells l) (expression_calls h.scope e) (ready_first h (cells l) (expression_calls h.scope e) [] n) }))
  standard_does l at scopes.delay_procedure e next w none f n =
      then_does l _ (expression_calls h.scope e ++ []) _ _ (λ y. (y.number, y.check, y.calls, y.checks, record { place = f.place; formed = f.formed; item = y.item }))
      (performed_does l at scopes.delay_procedure e _ (code.delay f.place) next w none f.formed f.used n (λ v. ap (λ y. code.delay (place_of y)) v.1) (record { expression = e; formed = f.formed; held = ready_held h (cells l) (expression_calls h.scope e) (ready_first h (cells l) (expression_calls h.scope e) [] n) }))
  standard_does l at scopes.continue_procedure e next w none f n =
      then_does l _ (expression_calls h.scope e ++ []) _ _ (λ y. (y.number, y.check, y.calls, y.checks, record { place = f.place; formed = f.formed; item = y.item }))
      (performed_does l at scopes.continue_procedure e _ (code.continue_at f.place) next w none f.formed f.used n (λ v. ap (λ y. code.continue_at (place_of y)) v.1) (record { expression = e; formed = f.formed; held = ready_held h (cells l) (expression_calls h.scope e) (ready_first h (cells l) (expression_calls h.scope e) [] n) }))
  standard_does l at _ e next w none f n = absurd f

  -- ---- calls of procedures

  abbrev Calls : Layer → ℕ → Option ℕ × Layer → syntax.Designator → syntax.Expressions → List Item → Option ℕ → Type 0
  Calls l at x d es is next = Does l x.1 is ((n : ℕ) × CallsAre g h x.0 is (Some n) × CallItem g h n at d es None next)

  procedure_does : (l m : Layer) (is : List Item) (at : ℕ) (d : syntax.Designator) (es : syntax.Expressions) (part : code.ComponentPlace) (b : Bool) (number : ℕ) (routine : meant.RoutineMeaning) (next : Option ℕ) → World l → l.pending ≡ [] → Kept l m → Goes g.lines h l m is → routine_called h.program h.scope d ≡ Some routine →
      CalleeIs h d (scopes.find (name_of d) h.scope) part b number → HeadingIs k h l number routine → CallFormed h d es → AreUsed h es → AreHeld h (designator_calls h.scope d) → AreReady h (cells m) (expressions_calls h.scope es) → Calls l at (settle_items (procedure m at part b number es) next) d es (is ++ expressions_calls h.scope es) next
  unfolding procedure arguments
  procedure_does l m is at d es part b number routine next w none s i met callee heading formed u choose n =
      let js : List Item = expressions_calls h.scope es in
      let fits : CanGiveAll h routine.parameters es = subst (λ (q : meant.RoutineMeaning). CanGiveAll h q.parameters es) (same_Some formed.routine routine (sym formed.called ∙ met)) formed.arguments in
      let a = arguments_go k h l w.names w.calls w.headings g.lines w.lines m number 0 es (cell_named (h.layouts.frames number)) routine.parameters (parameters_in (slice_get l.headings number)) s u n heading.parameters (λ j. heading_parameters k h l w.names w.calls w.headings g.lines w.lines number 0 j refl) fits in
      let j : Layer = (arguments_from m number 0 es).1 in
      let given : List code.Argument = (arguments_from m number 0 es).0 in
      let c : List code.Argument × Layer = with_their_count (arguments_from m number 0 es) in
      let o : Layer = layers.with_room c.1 number in
      let act : code.Action = code.call number part b given None in
      let need : ℕ = layers.call_need c.1 number in
      let rest : Goes g.lines h m o js = record { taken = grown_room k h l w.names w.calls w.headings g.lines w.lines c.1.frame (slice_get c.1.routines number) ∙ a.0.taken; new = a.0.new; pending = a.0.pending; stand = a.0.stand } in
      let whole : Kept l o = kept_trans l j o (kept_trans l m j s (arguments_kept m number 0 es)) refl in
      then_does l (ended g h o at act need next).1 (is ++ js) _ _ (λ y. (
        y.number,
        y.calls,
        record { number = number; part = part; is_entry = b; arguments = given; called = record { routine = routine; called = met; same = sym heading.same; callee = callee; given = a.1 }; item = y.item; taken = tt },
      )) (own_does l o (is ++ js) at act need next w none whole (goes_both g.lines h l m o is js i rest)
      (record { designator = d; expressions = es; name = None; called = record { routine = routine; called = met; same = sym heading.same; callee = callee; given = a.1 }; goes = tt; cell = refl; chosen = choose; held = ready_held h (cells m) js n }))

  abbrev InvokeDoes : Layer → ℕ → Identifier → syntax.Selectors → syntax.Expressions → Option scopes.Meaning → Option ℕ → Type 0
  InvokeDoes l at x ss es m next =
      Does l (settle_items (call_statement l at (syntax.designator x ss) es) next).1 (selectors_calls h.scope ss ++ expressions_calls h.scope es) ((n : ℕ) × (check : Option ℕ) × CallsAre g h (settle_items (call_statement l at (syntax.designator x ss) es) next).0 (selectors_calls h.scope ss ++ expressions_calls h.scope es) check × ChecksAre g h check (checks_of h at m) (Some n) × InvokedBy g h n at m (syntax.designator x ss) es next)

  invoke_standard : (l : Layer) (at : ℕ) (x : Identifier) (ss : syntax.Selectors) (es : syntax.Expressions) (q : scopes.Standard) (next : Option ℕ) → World l → l.pending ≡ [] → scopes.find x.name h.scope ≡ Some (scopes.standard_meaning q) → InvokeFormed h (Some (scopes.standard_meaning q)) (syntax.designator x ss) es →
      AreReady h (cells l) (selectors_calls h.scope ss ++ expressions_calls h.scope es) → InvokeDoes l at x ss es (Some (scopes.standard_meaning q)) next
  unfolding call_statement designator selectors
  invoke_standard l at x syntax.no_selectors (syntax.more_expressions e syntax.no_expressions) q next w none me f n =
      let es : syntax.Expressions = syntax.more_expressions e syntax.no_expressions in
      let is : List Item = expressions_calls h.scope es in
      let found = subst (λ m. FoundIs k l.types (layers.find x.name l.names) m (scopes.since x.name h.scope)) me (found_in k l.types x.name l.names h.scope w.names.names) in
      let begins : name_meaning l x.name ≡ values.a_standard (predeclared_as q) = known.standard_found k h l w.names w.calls x.name (layers.find x.name l.names) q (scopes.since x.name h.scope) refl found in
      subst (λ y. Does l (settle_items (laid.call_of l at (laid.callee_of y) es) next).1 is ((n : ℕ) × (check : Option ℕ) × CallsAre g h (settle_items (laid.call_of l at (laid.callee_of y) es) next).0 is check × ChecksAre g h check (checks_of h at (Some (scopes.standard_meaning q))) (Some n) × Performed g h n at q (Some e) next)) (sym begins) (standard_does l at q e next w none f.2 n)
  invoke_standard l at x (syntax.more_selectors s ss) es q next w none me f n = absurd f.0
  invoke_standard l at x syntax.no_selectors _ q next w none me f n = absurd f.1

  invoke_own : (l : Layer) (at : ℕ) (x : Identifier) (ss : syntax.Selectors) (es : syntax.Expressions) (r : syntax.Routine) (p : Option LayoutMeaning) (next : Option ℕ) → World l → l.pending ≡ [] → scopes.find x.name h.scope ≡ Some (scopes.routine_meaning r) → layers.find x.name l.names ≡ p →
      FoundIs k l.types p (Some (scopes.routine_meaning r)) (scopes.since x.name h.scope) → InvokeFormed h (Some (scopes.routine_meaning r)) (syntax.designator x ss) es → AreReady h (cells l) (selectors_calls h.scope ss ++ expressions_calls h.scope es) → InvokeDoes l at x ss es (Some (scopes.routine_meaning r)) next
  unfolding call_statement designator selectors
  invoke_own l at x (syntax.more_selectors s ss) es r p next w none me pe fi f n = absurd f.0
  invoke_own l at x syntax.no_selectors es r None next w none me pe fi f n = absurd fi
  invoke_own l at x syntax.no_selectors es r (Some y) next w none me pe fi f n =
      let d : syntax.Designator = syntax.designator x syntax.no_selectors in
      let is : List Item = expressions_calls h.scope es in
      let number : ℕ = fi.0 in
      let q : meant.RoutineMeaning = meant.routine_in (scopes.since x.name h.scope) r in
      let there : layers.find x.name l.names ≡ Some (meaning.Routine number) = pe ∙ ap (λ z. Some z) fi.1 in
      let met : routine_called h.program h.scope d ≡ Some q = ap (λ m. routine_meant h.program h.scope x.name m None) me in
      let given = w.headings.own x.name number there in
      let callee : CalleeIs h d (scopes.find x.name h.scope) code.own false number = subst (λ m. CalleeIs h d m code.own false number) (sym me) (refl, refl, given.0) in
      then_does l (settle_items (call_statement l at d es) next).1 is ((n : ℕ) × CallsAre g h (settle_items (call_statement l at d es) next).0 is (Some n) × CallItem g h n at d es None next) _ (λ c. (c.0, Some c.0, c.1, refl, c.2))
      (subst (λ z. Does l (settle_items (laid.call_of l at (laid.callee_of z) es) next).1 is ((n : ℕ) × CallsAre g h (settle_items (laid.call_of l at (laid.callee_of z) es) next).0 is (Some n) × CallItem g h n at d es None next)) (sym (ap meaning_of there))
      (procedure_does l l [] at d es code.own false number q next w none refl (goes_none g.lines h l) met callee (subst (HeadingIs k h l number) fi.2 given.1) f.2 f.1 tt n))

  invoke_entry : (l : Layer) (at : ℕ) (x : Identifier) (ss : syntax.Selectors) (es : syntax.Expressions) (t : Ty) (o : Option Name) (next : Option ℕ) → World l → l.pending ≡ [] → scopes.find x.name h.scope ≡ Some (scopes.permanent_variable t) → last_field ss ≡ o → EntryFormed h (syntax.designator x ss) es →
      AreReady h (cells l) (selectors_calls h.scope ss ++ expressions_calls h.scope es) → InvokeDoes l at x ss es (Some (scopes.permanent_variable t)) next
  unfolding call_statement designator
  invoke_entry l at x ss es t None next w none me last f n =
      absurd (none-some f.call.routine (sym (ap (λ m. routine_meant h.program h.scope x.name m (last_field ss)) me ∙ ap (routine_meant h.program h.scope x.name (Some (scopes.permanent_variable t))) last) ∙ f.call.called))
  invoke_entry l at x ss es t (Some y) next w none me last f n =
      let d : syntax.Designator = syntax.designator x ss in
      let is : List Item = selectors_calls h.scope ss in
      let js : List Item = expressions_calls h.scope es in
      let routine : meant.RoutineMeaning = f.call.routine in
      let called_there : routine_of_type h.program t y ≡ Some routine = sym (ap (λ m. routine_meant h.program h.scope x.name m (last_field ss)) me ∙ ap (routine_meant h.program h.scope x.name (Some (scopes.permanent_variable t))) last) ∙ f.call.called in
      let entry = w.calls.entry x.name y t routine me called_there in
      let heading = w.headings.entry x.name y t routine entry.number me called_there entry.there in
      let first : AreReady h (cells l) is = ready_first h (cells l) is js n in
      let start : Designated = permanent_begun h x.name t in
      let begins_form : begun_form h x.name (scopes.find x.name h.scope) ≡ Some start = ap (begun_form h x.name) me in
      let target : selected_form h ss start ≡ Some f.part = ap (λ z. then_form z (selected_form h ss)) (sym begins_form) ∙ f.formed in
      let begins : DesignatedIs k l.types start (name_meaning l x.name) = begun_same k h l w.names x.name start (subst IsNoRoutine (sym me) tt) begins_form in
      let m : Layer = (selectors l (name_meaning l x.name) ss).1 in
      let e = known.entered_is k h l w.names w.calls l (system_type t) start f.part (name_meaning l x.name) ss refl f.chosen begins (known.parts_begun k h l w.names w.calls x.name t (parts_of h.program t y routine called_there)) f.entry (ready_next h (cells l) is first) target in
      let moved : Goes g.lines h l m is = designator_goes l x ss f.part w f.chosen first f.formed in
      let part_is : designator_form h d ≡ Some (a_component e.part (h.layouts.owners entry.number)) = f.formed ∙ ap (λ z. Some z) e.is_part ∙ ap (λ c. Some (a_component e.part c)) (sym heading.0) in
      let callee : CalleeIs h d (scopes.find x.name h.scope) e.part true entry.number = subst (λ z. CalleeIs h d z e.part true entry.number) (sym me) (part_is, refl) in
      let leads : (selectors l (name_meaning l x.name) ss).0 ≡ values.an_entry e.part entry.number = e.leads ∙ ap (λ z. entry_found e.part (known.entry_named k h l w.names w.calls (system_type t) z)) last ∙ ap (entry_found e.part) entry.there in
      then_does l (settle_items (call_statement l at d es) next).1 (is ++ js) ((n : ℕ) × CallsAre g h (settle_items (call_statement l at d es) next).0 (is ++ js) (Some n) × CallItem g h n at d es None next) _ (λ c. (c.0, Some c.0, c.1, refl, c.2))
      (subst (λ z. Does l (settle_items (laid.call_of m at (laid.callee_of z) es) next).1 (is ++ js) ((n : ℕ) × CallsAre g h (settle_items (laid.call_of m at (laid.callee_of z) es) next).0 (is ++ js) (Some n) × CallItem g h n at d es None next)) (sym leads)
      (procedure_does l m is at d es e.part true entry.number routine next w none (designator_kept l d) moved f.call.called callee heading.1 f.call f.used (ready_held h (cells l) is first) (ready_rest h (cells l) m is js moved.taken n)))

  no_call : (l : Layer) (x : Identifier) (ss : syntax.Selectors) (es : syntax.Expressions) (m : Option scopes.Meaning) → scopes.find x.name h.scope ≡ m → routine_meant h.program h.scope x.name m (last_field ss) ≡ None → EntryFormed h (syntax.designator x ss) es → ⊥
  no_call l x ss es m me e f = none-some f.call.routine (sym e ∙ sym (ap (λ z. routine_meant h.program h.scope x.name z (last_field ss)) me) ∙ f.call.called)

  invoke_does : (l : Layer) (at : ℕ) (x : Identifier) (ss : syntax.Selectors) (es : syntax.Expressions) (next : Option ℕ) → World l → l.pending ≡ [] → (m : Option scopes.Meaning) → scopes.find x.name h.scope ≡ m → InvokeFormed h m (syntax.designator x ss) es → AreReady h (cells l) (selectors_calls h.scope ss ++ expressions_calls h.scope es) →
      InvokeDoes l at x ss es m next
  invoke_does l at x ss es next w none (Some (scopes.standard_meaning q)) me f n = invoke_standard l at x ss es q next w none me f n
  invoke_does l at x ss es next w none (Some (scopes.routine_meaning r)) me f n =
      invoke_own l at x ss es r (layers.find x.name l.names) next w none me refl (subst (λ m. FoundIs k l.types (layers.find x.name l.names) m (scopes.since x.name h.scope)) me (found_in k l.types x.name l.names h.scope w.names.names)) f n
  invoke_does l at x ss es next w none (Some (scopes.permanent_variable t)) me f n = invoke_entry l at x ss es t (last_field ss) next w none me refl f n
  invoke_does l at x ss es next w none (Some (scopes.local_variable t)) me f n = absurd (no_call l x ss es (Some (scopes.local_variable t)) me refl f)
  invoke_does l at x ss es next w none (Some (scopes.constant_meaning a z)) me f n = absurd (no_call l x ss es (Some (scopes.constant_meaning a z)) me refl f)
  invoke_does l at x ss es next w none (Some (scopes.type_meaning t)) me f n = absurd (no_call l x ss es (Some (scopes.type_meaning t)) me refl f)
  invoke_does l at x ss es next w none None me f n = absurd (no_call l x ss es None me refl f)

  -- ---- `for`

  for_does : (l : Layer) (at : ℕ) (i : Identifier) (e : syntax.Expression) (d : Direction) (f : syntax.Expression) (body : Option ℕ) (next : Option ℕ) (w : World l) → l.pending ≡ [] → (x : ForFormed h i e f) → AreReady h (cells l) (expression_calls h.scope e ++ expression_calls h.scope f) →
      Does l (settle_items (for_item l at i.name e d f body) next).1 (expression_calls h.scope e ++ expression_calls h.scope f)
      (Led g h (settle_items (for_item l at i.name e d f body) next).0 (expression_calls h.scope e ++ expression_calls h.scope f) at (code.for_do x.origin x.range.low x.range.high x.first.cell x.last.cell (is_down d) body) next)
  unfolding for_item designator selectors
  for_does l at i e d f body next w none x n =
      let is : List Item = expression_calls h.scope e in
      let js : List Item = expression_calls h.scope f in
      let first : AreReady h (cells l) is = ready_first h (cells l) is js n in
      let m : Layer = (expression l e).1 in
      let o : Layer = (expression m f).1 in
      let kept : Kept l m = expression_kept l e in
      let whole : Kept l o = kept_trans l m o kept (expression_kept m f) in
      let a : Goes g.lines h l m is = goes l e x.first.ty x.first.cell w x.first.formed x.first.used first in
      let rest : AreReady h (cells m) js = ready_rest h (cells l) m is js a.taken n in
      let b : Goes g.lines h m o js = expression_goes k h l w.names w.calls w.headings g.lines w.lines m f _ kept x.last.used rest x.last.formed in
      let v = known.expression_is k h l w.names w.calls m f _ kept x.last.used (ready_next h (cells m) js rest) x.last.formed in
      let to : ordinal_of (expression m f).0 ≡ x.last.cell = known.ordinal_is k h l w.names w.calls x.last.ty (as_ordinal x.last.cell) (expression m f).0 x.last.cell v.value refl in
      let from : ordinal_of (expression l e).0 ≡ x.first.cell = cell_is l e x.first.ty x.first.cell w x.first.formed x.first.used first in
      let t : Target = target_of l (name_meaning l i.name) in
      let counts : TargetIs k l (code.place x.origin 0 code.no_indices) (named.ordinal x.range) t =
      own_target k h g l i syntax.no_selectors (code.place x.origin 0 code.no_indices) (named.ordinal x.range) (scopes.find i.name h.scope) w refl x.named tt tt (ap (λ q. then_form q (selected_form h syntax.no_selectors)) x.variable) in
      let ty : t.value_type ≡ types.Ordinal (range_on k x.range) = counts.belongs in
      let place : origin_of t.place ≡ x.origin = ap origin_of counts.place_is in
      let need : ℕ = need_inside o.items body in
      let act : code.Action = code.for_do (origin_of t.place) (low_of t.value_type) (high_of t.value_type) (ordinal_of (expression l e).0) (ordinal_of (expression m f).0) (laid.is_down d) body in
      let same : act ≡ code.for_do x.origin x.range.low x.range.high x.first.cell x.last.cell (is_down d) body =
      ap (λ p. code.for_do p (low_of t.value_type) (high_of t.value_type) (ordinal_of (expression l e).0) (ordinal_of (expression m f).0) (laid.is_down d) body) place
      ∙ ap (λ u. code.for_do x.origin (low_of u) (high_of u) (ordinal_of (expression l e).0) (ordinal_of (expression m f).0) (laid.is_down d) body) ty
      ∙ ap (λ c. code.for_do x.origin x.range.low x.range.high c (ordinal_of (expression m f).0) (laid.is_down d) body) from
      ∙ ap (λ c. code.for_do x.origin x.range.low x.range.high x.first.cell c (laid.is_down d) body) to
      ∙ ap (λ c. code.for_do x.origin x.range.low x.range.high x.first.cell x.last.cell c body) (down_same d) in
      then_does l (ended g h o at act need next).1 (is ++ js) (Led g h (ended g h o at act need next).0 (is ++ js) at act next) (Led g h (ended g h o at act need next).0 (is ++ js) at (code.for_do x.origin x.range.low x.range.high x.first.cell x.last.cell (is_down d) body) next)
      (led_as (ended g h o at act need next).0 (is ++ js) at act (code.for_do x.origin x.range.low x.range.high x.first.cell x.last.cell (is_down d) body) next same) (own_does l o (is ++ js) at act need next w none whole (goes_both g.lines h l m o is js a b) (subst (Means h) (sym same) (
        record { name = i; range = x.range; variable = x.variable },
        record { expression = e; ty = x.first.ty; formed = x.first.formed; held = ready_held h (cells l) is first },
        record { expression = f; ty = x.last.ty; formed = x.last.formed; held = ready_held h (cells m) js rest },
      )))

  -- ---- labels

  labels_same : (l : Layer) (cs : List Constant) → World l → Each (λ (c : Constant). IsSmallConstant c.kind) cs → laid_types.labels_of l.names cs ≡ labels_of h.scope cs
  labels_same l [] w s = refl
  labels_same l (c ∷ cs) w s = ap (λ x. x.1 ∷ laid_types.labels_of l.names cs) (constant_same k l.types l.names h.scope c s.0 w.names.names).0 ∙ ap (λ zs. (meant.constant_of h.scope c).1 ∷ zs) (labels_same l cs w s.1)

  -- ---- starts

  start_by : (l : Layer) (x : Identifier) (ss : syntax.Selectors) (es : syntax.Expressions) (next : Option ℕ) → World l → l.pending ≡ [] → StartFormed h (record { target = syntax.designator x ss; arguments = es }) → AreReady h (cells l) (selectors_calls h.scope ss ++ expressions_calls h.scope es) →
      Does l (settle_items (start_statement l (record { target = syntax.designator x ss; arguments = es })) next).1 (selectors_calls h.scope ss ++ expressions_calls h.scope es)
      ((n : ℕ) × CallsAre g h (settle_items (start_statement l (record { target = syntax.designator x ss; arguments = es })) next).0 (selectors_calls h.scope ss ++ expressions_calls h.scope es) (Some n) × StartItem g h n (record { target = syntax.designator x ss; arguments = es }) next)
  unfolding start_statement begin_component arguments designator
  start_by l x ss es next w none f n =
      let t : syntax.Start = record { target = syntax.designator x ss; arguments = es } in
      let d : syntax.Designator = syntax.designator x ss in
      let is : List Item = selectors_calls h.scope ss in
      let js : List Item = expressions_calls h.scope es in
      let first : AreReady h (cells l) is = ready_first h (cells l) is js n in
      let m : Layer = (selectors l (name_meaning l x.name) ss).1 in
      let p : (y : Designated) × (begun_form h x.name (scopes.find x.name h.scope) ≡ Some y) × (selected_form h ss y ≡ Some (a_component f.part f.system)) = known.inside (begun_form h x.name (scopes.find x.name h.scope)) (selected_form h ss) (a_component f.part f.system) f.target in
      let begins : DesignatedIs k l.types p.0 (name_meaning l x.name) = begun_same k h l w.names x.name p.0 (not_routine (scopes.find x.name h.scope) f.named) p.1 in
      let part = known.selected_is k h l w.names w.calls l p.0 (a_component f.part f.system) (name_meaning l x.name) ss refl f.chosen begins (known.no_entry p.0 ss f.whole) (ready_next h (cells l) is first) p.2 in
      let leads : (selectors l (name_meaning l x.name) ss).0 ≡ values.a_component f.part f.system = part.leads in
      let s : StartIs k h l f.system = w.starts d f.part f.system f.target in
      let number : ℕ = laid.initial_of l f.system in
      let kept : Kept l m = designator_kept l d in
      let same : laid.initial_of m f.system ≡ number = ap (λ (j : Layer). laid.initial_of j f.system) kept in
      let i : Goes g.lines h l m is = designator_goes l x ss (a_component f.part f.system) w f.chosen first f.target in
      let rest : AreReady h (cells m) js = ready_rest h (cells l) m is js i.taken n in
      let a = arguments_go k h l w.names w.calls w.headings g.lines w.lines m number 0 es (h.layouts.systems f.system).slots (system_of h.program f.system).parameters (parameters_in (slice_get l.headings number)) kept f.used rest s.parameters
      (λ j. heading_parameters k h l w.names w.calls w.headings g.lines w.lines number 0 j refl) f.arguments in
      let j : Layer = (arguments_from m number 0 es).1 in
      let given : List code.Argument = (arguments_from m number 0 es).0 in
      let c : List code.Argument × Layer = with_their_count (arguments_from m number 0 es) in
      let o : Layer = layers.with_room c.1 number in
      let act : code.Action = code.start f.part number given in
      let wanted : code.Action = code.start f.part (h.layouts.systems f.system).initial given in
      let need : ℕ = layers.call_need c.1 number in
      let goes_there : Goes g.lines h m o js = record { taken = grown_room k h l w.names w.calls w.headings g.lines w.lines c.1.frame (slice_get c.1.routines number) ∙ a.0.taken; new = a.0.new; pending = a.0.pending; stand = a.0.stand } in
      let whole : Kept l o = kept_trans l j o (kept_trans l m j kept (arguments_kept m number 0 es)) refl in
      let done : Does l (ended g h o x.at act need next).1 (is ++ js) ((z : ℕ) × CallsAre g h (ended g h o x.at act need next).0 (is ++ js) (Some z) × StartItem g h z t next) =
      then_does l (ended g h o x.at act need next).1 (is ++ js) (Led g h (ended g h o x.at act need next).0 (is ++ js) x.at act next) ((z : ℕ) × CallsAre g h (ended g h o x.at act need next).0 (is ++ js) (Some z) × StartItem g h z t next)
      (λ y. (let z = led_as (ended g h o x.at act need next).0 (is ++ js) x.at act wanted next (ap (λ r. code.start f.part r given) s.initial) y in
      (z.number, z.calls, record { part = f.part; system = f.system; arguments = given; target = f.target; given = a.1; item = z.item })))
      (own_does l o (is ++ js) x.at act need next w none whole (goes_both g.lines h l m o is js i goes_there)
      (record { target = d; expressions = es; system = f.system; aimed = f.target; given = a.1; initial = s.initial; chosen = ready_held h (cells l) is first; held = ready_held h (cells m) js rest })) in
      let numbered_so : Does l (settle_items (laid.start_of m x.at (Some (f.part, f.system)) es) next).1 (is ++ js) ((z : ℕ) × CallsAre g h (settle_items (laid.start_of m x.at (Some (f.part, f.system)) es) next).0 (is ++ js) (Some z) × StartItem g h z t next) =
      subst (λ r. Does l (settle_items (begin_component m x.at f.part r es) next).1 (is ++ js) ((z : ℕ) × CallsAre g h (settle_items (begin_component m x.at f.part r es) next).0 (is ++ js) (Some z) × StartItem g h z t next)) (sym same) done in
      subst (λ y. Does l (settle_items (laid.start_of m x.at (laid.component_place_of y) es) next).1 (is ++ js) ((z : ℕ) × CallsAre g h (settle_items (laid.start_of m x.at (laid.component_place_of y) es) next).0 (is ++ js) (Some z) × StartItem g h z t next)) (sym leads) numbered_so

  start_does : (l : Layer) (d : syntax.Designator) (es : syntax.Expressions) (next : Option ℕ) → World l → l.pending ≡ [] → StartFormed h (record { target = d; arguments = es }) → AreReady h (cells l) (designator_calls h.scope d ++ expressions_calls h.scope es) →
      Does l (settle_items (start_statement l (record { target = d; arguments = es })) next).1 (designator_calls h.scope d ++ expressions_calls h.scope es)
      ((n : ℕ) × CallsAre g h (settle_items (start_statement l (record { target = d; arguments = es })) next).0 (designator_calls h.scope d ++ expressions_calls h.scope es) (Some n) × StartItem g h n (record { target = d; arguments = es }) next)
  start_does l (syntax.designator x ss) es next w none f n = start_by l x ss es next w none f n

  starts_do : (l : Layer) (ts : List syntax.Start) (next : Option ℕ) → World l → l.pending ≡ [] → Each (StartFormed h) ts → AreReady h (cells l) (starts_calls h.scope ts) → Does l (starts l ts next).1 (starts_calls h.scope ts) (StartsAre g h (starts l ts next).0 ts next)
  unfolding starts
  starts_do l [] next w none f n = record { taken = takes_none l; pending = none; grew = kept_grew l l refl; means = none_new h l; stands = λ b. refl }
  starts_do l (t ∷ ts) next w none f n =
      let rest : Option ℕ × Layer = starts l ts next in
      let is : List Item = starts_calls h.scope ts in
      let js : List Item = designator_calls h.scope t.target ++ expressions_calls h.scope t.arguments in
      let a = starts_do l ts next w none f.1 (ready_first h (cells l) is js n) in
      let c = start_does rest.1 t.target t.arguments rest.0 (world_grown l rest.1 a.grew w) a.pending f.0 (ready_rest h (cells l) rest.1 is js a.taken n) in
      both_do l rest.1 (settle_items (start_statement rest.1 t) rest.0).1 is js (StartsAre g h rest.0 ts next) _ (StartsAre g h (settle_items (start_statement rest.1 t) rest.0).0 (t ∷ ts) next) a c (λ y z. (z.0, rest.0, z.1, z.2, y))

  -- ---- all statements

  repeat_does : (l m : Layer) (at : ℕ) (body : Option ℕ) (ss : syntax.Statements) (e : syntax.Expression) (next : Option ℕ) → World m → l.pending ≡ [] → TestFormed h e → Does l m (all_calls_laid h.scope ss) (OwnAll g h ss body None) → AreReady h (cells m) (expression_calls h.scope e) →
      Does l (repeat_items m at body e next).1 (all_calls_laid h.scope ss ++ expression_calls h.scope e) (StatementIs g h (repeat_items m at body e next).0 (syntax.repeat_until at ss e) next)
  unfolding until_item
  repeat_does l m at body ss e next w none f before n =
      let is : List Item = expression_calls h.scope e in
      let o : Layer = (expression m e).1 in
      let need : ℕ = max (need_inside o.items body) (pending_need o) in
      let act : code.OrdinalExpression → code.Action = λ c. code.until c body (again o) in
      let y : Option ℕ × Layer = ended g h o (token_of e) (act (ordinal_of (expression m e).0)) need next in
      let first : Does m y.1 is (Led g h y.0 is (token_of e) (act f.cell) next) = test_does m e f (token_of e) act need next (λ c. c) w before.pending n in
      let looped : Does m y.1 is (Led g h y.0 is (token_of e) (act f.cell) next × (y.0 ≡ Some (again o))) = record {
        taken = first.taken;
        pending = first.pending;
        grew = first.grew;
        means = first.means;
        stands = λ b. (first.stands b, again_is m o is (token_of e) (act (ordinal_of (expression m e).0)) need next before.pending (goes m e f.test.ty f.cell w f.test.cell f.used n) b);
      } in
      let z : Option ℕ × Layer = settle_items (block_item y.1 at body) y.0 in
      let last : Does y.1 z.1 [] (Led g h z.0 [] at (code.block body) y.0) = alone_does y.1 at (code.block body) (need_inside y.1.items body) y.0 (world_grown m y.1 first.grew w) first.pending tt in
      let both : Does m z.1 (is ++ []) (Led g h z.0 [] at (code.block body) y.0 × (Led g h y.0 is (token_of e) (act f.cell) next × (y.0 ≡ Some (again o)))) =
      both_do m y.1 z.1 is [] _ (Led g h z.0 [] at (code.block body) y.0) (Led g h z.0 [] at (code.block body) y.0 × (Led g h y.0 is (token_of e) (act f.cell) next × (y.0 ≡ Some (again o)))) looped last (λ a c. (c, a)) in
      let all : Does m z.1 is (Led g h z.0 [] at (code.block body) y.0 × (Led g h y.0 is (token_of e) (act f.cell) next × (y.0 ≡ Some (again o)))) = subst (λ js. Does m z.1 js (Led g h z.0 [] at (code.block body) y.0 × (Led g h y.0 is (token_of e) (act f.cell) next × (y.0 ≡ Some (again o))))) (append-nil is) both in
      both_do l m z.1 (all_calls_laid h.scope ss) is (OwnAll g h ss body None) _ (StatementIs g h z.0 (syntax.repeat_until at ss e) next) before all (λ a c. (
        c.0.number,
        c.0.calls,
        record {
          body = body;
          test = y.0;
          until = c.1.0.number;
          list = a;
          calls = c.1.0.calls;
          own = record { test = f.cell; body = body; again = again o; formed = f.test; list = a; calls = subst (λ q. CallsAre g h q is (Some c.1.0.number)) c.1.1 c.1.0.calls; item = subst (λ j. ItemAt g c.1.0.number j next (act f.cell)) (token_same e) c.1.0.item };
          item = c.0.item;
        },
      ))

  while_does : (l : Layer) (at : ℕ) (e : syntax.Expression) (body : Option ℕ) (next : Option ℕ) → World l → l.pending ≡ [] → (f : TestFormed h e) → AreReady h (cells l) (expression_calls h.scope e) →
      Does l (settle_items (while_item l at e body) next).1 (expression_calls h.scope e) (Led g h (settle_items (while_item l at e body) next).0 (expression_calls h.scope e) at (code.while_do f.cell body (again (expression l e).1)) next × ((settle_items (while_item l at e body) next).0 ≡ Some (again (expression l e).1)))
  unfolding while_item
  while_does l at e body next w none f n =
      let is : List Item = expression_calls h.scope e in
      let o : Layer = (expression l e).1 in
      let need : ℕ = max (need_inside o.items body) (pending_need o) in
      let act : code.OrdinalExpression → code.Action = λ c. code.while_do c body (again o) in
      let first : Does l (ended g h o at (act (ordinal_of (expression l e).0)) need next).1 is (Led g h (ended g h o at (act (ordinal_of (expression l e).0)) need next).0 is at (act f.cell) next) = test_does l e f at act need next (λ c. c) w none n in
      record {
        taken = first.taken;
        pending = first.pending;
        grew = first.grew;
        means = first.means;
        stands = λ b. (first.stands b, again_is l o is at (act (ordinal_of (expression l e).0)) need next none (goes l e f.test.ty f.cell w f.test.cell f.used n) b);
      }

  choose_does : (l : Layer) (at : ℕ) (e : syntax.Expression) (first other : Option ℕ) (next : Option ℕ) → World l → l.pending ≡ [] → (f : TestFormed h e) → AreReady h (cells l) (expression_calls h.scope e) →
      Does l (settle_items (choose l at e first other) next).1 (expression_calls h.scope e) (Led g h (settle_items (choose l at e first other) next).0 (expression_calls h.scope e) at (code.choose f.cell first other) next)
  unfolding choose
  choose_does l at e first other next w none f n = test_does l e f at (λ c. code.choose c first other) (max (need_inside (expression l e).1.items first) (need_inside (expression l e).1.items other)) next (λ c. c) w none n

  said_same : (kind : AssertionKind) → laid.said_of kind ≡ said_of kind
  said_same kinds.Assertion = refl
  said_same kinds.Invariant = refl

  assert_does : (l : Layer) (at : ℕ) (kind : AssertionKind) (e : syntax.Expression) (next : Option ℕ) → World l → l.pending ≡ [] → (f : TestFormed h e) → AreReady h (cells l) (expression_calls h.scope e) →
      Does l (settle_items (assertion l at kind e) next).1 (expression_calls h.scope e) (Led g h (settle_items (assertion l at kind e) next).0 (expression_calls h.scope e) at (code.assert_that f.cell (said_of kind)) next)
  unfolding assertion
  assert_does l at kind e next w none f n =
      let done = test_does l e f at (λ c. code.assert_that c (laid.said_of kind)) 0 next (λ c. c) w none n in
      subst (λ y. Does l (settle_items (assertion l at kind e) next).1 (expression_calls h.scope e) (Led g h (settle_items (assertion l at kind e) next).0 (expression_calls h.scope e) at (code.assert_that f.cell y) next)) (said_same kind) done

  select_does : (l : Layer) (at : ℕ) (e : syntax.Expression) (as' : List code.Arm) (next : Option ℕ) → World l → l.pending ≡ [] → (f : OrdinalFormed h e) → AreReady h (cells l) (expression_calls h.scope e) →
      Does l (settle_items (select l at e as') next).1 (expression_calls h.scope e) (Led g h (settle_items (select l at e as') next).0 (expression_calls h.scope e) at (code.select f.cell as') next)
  unfolding select
  select_does l at e as' next w none f n = expression_does l e f.ty f.cell at (λ c. code.select c as') (arms_need (expression l e).1 0 as') next (λ c. c) w none f.formed f.used n

  mutual
    unfolding statements statement arms one_arm

    pub statement_does : (l : Layer) (s : syntax.Statement) (next : Option ℕ) → World l → l.pending ≡ [] → StatementFormed h s → AreReady h (cells l) (calls_laid h.scope s) → After l (statement l s next) s next
    statement_does l (syntax.empty at) next w none f n =
        let x = alone_does l at code.nothing 0 next w none tt in
        then_does l (statement l (syntax.empty at) next).1 [] _ (StatementIs g h (statement l (syntax.empty at) next).0 (syntax.empty at) next) (λ y. (y.number, y.calls, y.item)) x
    statement_does l (syntax.assign at (syntax.designator x ss) e) next w none f n = assign_does l at x ss e next w none f n
    statement_does l (syntax.invoke at (syntax.designator x ss) es) next w none f n = invoke_does l at x ss es next w none (scopes.find x.name h.scope) refl f n
    statement_does l (syntax.block at ss) next w none f n =
        let x : Option ℕ × Layer = statements l ss None in
        let a = statements_do l ss None w none f n in
        let c = alone_does x.1 at (code.block x.0) (need_inside x.1.items x.0) next (world_grown l x.1 a.grew w) a.pending tt in
        subst (λ is. Does l (statement l (syntax.block at ss) next).1 is (StatementIs g h (statement l (syntax.block at ss) next).0 (syntax.block at ss) next)) (append-nil (all_calls_laid h.scope ss))
        (both_do l x.1 (statement l (syntax.block at ss) next).1 (all_calls_laid h.scope ss) [] _ _ (StatementIs g h (statement l (syntax.block at ss) next).0 (syntax.block at ss) next) a c (λ y z. (z.number, z.calls, (x.0, y, z.item))))
    statement_does l (syntax.cycle at ss) next w none f n =
        let x : Option ℕ × Layer = statements l ss None in
        let a = statements_do l ss None w none f n in
        let c = alone_does x.1 at (code.cycle x.0) (need_inside x.1.items x.0) next (world_grown l x.1 a.grew w) a.pending tt in
        subst (λ is. Does l (statement l (syntax.cycle at ss) next).1 is (StatementIs g h (statement l (syntax.cycle at ss) next).0 (syntax.cycle at ss) next)) (append-nil (all_calls_laid h.scope ss))
        (both_do l x.1 (statement l (syntax.cycle at ss) next).1 (all_calls_laid h.scope ss) [] _ _ (StatementIs g h (statement l (syntax.cycle at ss) next).0 (syntax.cycle at ss) next) a c (λ y z. (z.number, z.calls, (x.0, y, z.item))))
    statement_does l (syntax.if_then at e s) next w none f n =
        let x : Option ℕ × Layer = statement l s None in
        let is : List Item = calls_laid h.scope s in
        let js : List Item = expression_calls h.scope e in
        let a = statement_does l s None w none f.1 (ready_first h (cells l) is js n) in
        let c = choose_does x.1 at e x.0 None next (world_grown l x.1 a.grew w) a.pending f.0 (ready_rest h (cells l) x.1 is js a.taken n) in
        both_do l x.1 (statement l (syntax.if_then at e s) next).1 is js _ _ (StatementIs g h (statement l (syntax.if_then at e s) next).0 (syntax.if_then at e s) next) a c (λ y z. (z.number, z.calls, (f.0.cell, x.0, f.0.test, y, z.item)))
    statement_does l (syntax.if_else at e s t) next w none f n =
        let x : Option ℕ × Layer = statement l s None in
        let y : Option ℕ × Layer = statement x.1 t None in
        let is : List Item = calls_laid h.scope s in
        let js : List Item = calls_laid h.scope t in
        let ks : List Item = expression_calls h.scope e in
        let a = statement_does l s None w none f.1 (ready_first h (cells l) is (js ++ ks) n) in
        let wa : World x.1 = world_grown l x.1 a.grew w in
        let na : AreReady h (cells x.1) (js ++ ks) = ready_rest h (cells l) x.1 is (js ++ ks) a.taken n in
        let b = statement_does x.1 t None wa a.pending f.2 (ready_first h (cells x.1) js ks na) in
        let c = choose_does y.1 at e x.0 y.0 next (world_grown x.1 y.1 b.grew wa) b.pending f.0 (ready_rest h (cells x.1) y.1 js ks b.taken na) in
        let o : Option ℕ × Layer = statement l (syntax.if_else at e s t) next in
        let bc : Does x.1 o.1 (js ++ ks) (StatementIs g h y.0 t None × Led g h o.0 ks at (code.choose f.0.cell x.0 y.0) next) = both_do x.1 y.1 o.1 js ks _ _ (StatementIs g h y.0 t None × Led g h o.0 ks at (code.choose f.0.cell x.0 y.0) next) b c (λ u v. (u, v)) in
        both_do l x.1 o.1 is (js ++ ks) _ _ (StatementIs g h o.0 (syntax.if_else at e s t) next) a bc (λ u v. (v.1.number, v.1.calls, (f.0.cell, x.0, y.0, f.0.test, u, v.0, v.1.item)))
    statement_does l (syntax.case_of at e as' b) next w none f n =
        let x : List code.Arm × Layer = arms l as' in
        let is : List Item = arms_calls_laid h.scope as' in
        let js : List Item = expression_calls h.scope e in
        let a = arms_do l as' w none f.1 (ready_first h (cells l) is js n) in
        let c = select_does x.1 at e x.0 next (world_grown l x.1 a.grew w) a.pending f.0 (ready_rest h (cells l) x.1 is js a.taken n) in
        both_do l x.1 (statement l (syntax.case_of at e as' b) next).1 is js _ _ (StatementIs g h (statement l (syntax.case_of at e as' b) next).0 (syntax.case_of at e as' b) next) a c (λ y z. (z.number, z.calls, (f.0.cell, f.0.ty, x.0, f.0.formed, y, z.item)))
    statement_does l (syntax.while_do at e s) next w none f n =
        let x : Option ℕ × Layer = statement l s None in
        let is : List Item = calls_laid h.scope s in
        let js : List Item = expression_calls h.scope e in
        let a = statement_does l s None w none f.1 (ready_first h (cells l) is js n) in
        let c = while_does x.1 at e x.0 next (world_grown l x.1 a.grew w) a.pending f.0 (ready_rest h (cells l) x.1 is js a.taken n) in
        both_do l x.1 (statement l (syntax.while_do at e s) next).1 is js _ _ (StatementIs g h (statement l (syntax.while_do at e s) next).0 (syntax.while_do at e s) next) a c (λ y z. (
          z.0.number,
          z.0.calls,
          record { test = f.0.cell; body = x.0; again = again (expression x.1 e).1; formed = f.0.test; list = y; calls = subst (λ q. CallsAre g h q js (Some z.0.number)) z.1 z.0.calls; item = z.0.item },
        ))
    statement_does l (syntax.repeat_until at ss e) next w none f n =
        let x : Option ℕ × Layer = statements l ss None in
        let is : List Item = all_calls_laid h.scope ss in
        let js : List Item = expression_calls h.scope e in
        let a = statements_do l ss None w none f.0 (ready_first h (cells l) is js n) in
        repeat_does l x.1 at x.0 ss e next (world_grown l x.1 a.grew w) none f.1 a (ready_rest h (cells l) x.1 is js a.taken n)
    statement_does l (syntax.for_do at i e d f s) next w none x n =
        let y : Option ℕ × Layer = statement l s None in
        let is : List Item = calls_laid h.scope s in
        let js : List Item = expression_calls h.scope e ++ expression_calls h.scope f in
        let a = statement_does l s None w none x.1 (ready_first h (cells l) is js n) in
        let c = for_does y.1 at i e d f y.0 next (world_grown l y.1 a.grew w) a.pending x.0 (ready_rest h (cells l) y.1 is js a.taken n) in
        both_do l y.1 (statement l (syntax.for_do at i e d f s) next).1 is js _ _ (StatementIs g h (statement l (syntax.for_do at i e d f s) next).0 (syntax.for_do at i e d f s) next) a c (λ u v. (
          v.number,
          v.calls,
          record { origin = x.0.origin; range = x.0.range; from_ty = x.0.first.ty; to_ty = x.0.last.ty; from = x.0.first.cell; to = x.0.last.cell; body = y.0; variable = x.0.variable; first = x.0.first.formed; last = x.0.last.formed; list = u; item = v.item },
        ))
    statement_does l (syntax.init at ts) next w none f n = starts_do l ts next w none f n
    statement_does l (syntax.asserted at kind e s) next w none f n =
        let x : Option ℕ × Layer = statement l s next in
        let is : List Item = calls_laid h.scope s in
        let js : List Item = expression_calls h.scope e in
        let a = statement_does l s next w none f.1 (ready_first h (cells l) is js n) in
        let c = assert_does x.1 at kind e x.0 (world_grown l x.1 a.grew w) a.pending f.0 (ready_rest h (cells l) x.1 is js a.taken n) in
        both_do l x.1 (statement l (syntax.asserted at kind e s) next).1 is js _ _ (StatementIs g h (statement l (syntax.asserted at kind e s) next).0 (syntax.asserted at kind e s) next) a c (λ y z. (z.number, z.calls, (f.0.cell, x.0, f.0.test, y, z.item)))

    pub statements_do : (l : Layer) (ss : syntax.Statements) (after : Option ℕ) → World l → l.pending ≡ [] → AllFormed h ss → AreReady h (cells l) (all_calls_laid h.scope ss) → Does l (statements l ss after).1 (all_calls_laid h.scope ss) (OwnAll g h ss (statements l ss after).0 after)
    statements_do l syntax.no_statements after w none f n = record { taken = takes_none l; pending = none; grew = kept_grew l l refl; means = none_new h l; stands = λ b. refl }
    statements_do l (syntax.more_statements s ss) after w none f n =
        let rest : Option ℕ × Layer = statements l ss after in
        let is : List Item = all_calls_laid h.scope ss in
        let js : List Item = calls_laid h.scope s in
        let a = statements_do l ss after w none f.1 (ready_first h (cells l) is js n) in
        let c = statement_does rest.1 s rest.0 (world_grown l rest.1 a.grew w) a.pending f.0 (ready_rest h (cells l) rest.1 is js a.taken n) in
        both_do l rest.1 (statement rest.1 s rest.0).1 is js _ _ (OwnAll g h (syntax.more_statements s ss) (statement rest.1 s rest.0).0 after) a c (λ y z. (rest.0, z, y))

    arms_do : (l : Layer) (as' : syntax.Arms) → World l → l.pending ≡ [] → ArmsFormed h as' → AreReady h (cells l) (arms_calls_laid h.scope as') → Does l (arms l as').1 (arms_calls_laid h.scope as') (OwnArms g h as' (arms l as').0)
    arms_do l syntax.no_arms w none f n = record { taken = takes_none l; pending = none; grew = kept_grew l l refl; means = none_new h l; stands = λ b. tt }
    arms_do l (syntax.more_arms a as') w none f n =
        let x : code.Arm × Layer = one_arm l a in
        let is : List Item = arm_calls_laid h.scope a in
        let js : List Item = arms_calls_laid h.scope as' in
        let b = arm_does l a w none f.0 (ready_first h (cells l) is js n) in
        let c = arms_do x.1 as' (world_grown l x.1 b.grew w) b.pending f.1 (ready_rest h (cells l) x.1 is js b.taken n) in
        both_do l x.1 (arms x.1 as').1 is js _ _ (OwnArms g h (syntax.more_arms a as') (x.0 ∷ (arms x.1 as').0)) b c (λ y z. (y, z))

    arm_does : (l : Layer) (a : syntax.Arm) → World l → l.pending ≡ [] → ArmFormed h a → AreReady h (cells l) (arm_calls_laid h.scope a) → Does l (one_arm l a).1 (arm_calls_laid h.scope a) (OwnArm g h a (one_arm l a).0)
    arm_does l (syntax.arm cs s) w none f n =
        let x : Option ℕ × Layer = statement l s None in
        let a = statement_does l s None w none f.1 n in
        then_does l x.1 (calls_laid h.scope s) _ (OwnArm g h (syntax.arm cs s) (one_arm l (syntax.arm cs s)).0) (λ y. (labels_same x.1 cs (world_grown l x.1 a.grew w) f.0, y)) a

  -- ---- bodies

  -- the checks at the end
  ended_does : (l : Layer) (checks : Bool) → World l → l.pending ≡ [] → Does l (end_of_body l checks).1 [] (ChecksAre g h (end_of_body l checks).0 (last_checks checks h.scope) None)
  ended_does l true w none =
      let m : Layer = check_invariants l 0 in
      let c : ChecksGo g h l m (check_items 0 h.scope) = checks_go k h g l l 0 w refl in
      let e : cells (settle_items m None).1 ≡ cells l = ap (λ (f : layers.Frame). length f.image) (all_frame (without_pending m) m.pending None) ∙ c.image in
      record {
        taken = omega (arith, e);
        pending = all_pending (without_pending m) m.pending None;
        grew = grew_trans l m (settle_items m None).1 (kept_grew l m (checked_kept l 0)) (settled_grew m None);
        means = end_new g h l m (check_items 0 h.scope) none (checked_kept l 0) c;
        stands = λ b. checks_end g h l m (check_items 0 h.scope) none c b;
      }
  ended_does l false w none =
      let c : ChecksGo g h l l [] = checks_none g h l in
      let e : cells (settle_items l None).1 ≡ cells l = ap (λ (f : layers.Frame). length f.image) (all_frame (without_pending l) l.pending None) in
      record {
        taken = omega (arith, e);
        pending = all_pending (without_pending l) l.pending None;
        grew = settled_grew l None;
        means = end_new g h l l [] none refl c;
        stands = λ b. checks_end g h l l [] none c b;
      }

  pub body_does : (l : Layer) (ss : syntax.Statements) (checks : Bool) → World l → l.pending ≡ [] → AllFormed h ss → AreReady h (cells l) (all_calls_laid h.scope ss) → Does l (body_items l ss checks).1 (all_calls_laid h.scope ss) (BodyIs g h ss (last_checks checks h.scope) (body_items l ss checks).0)
  body_does l ss checks w none f n =
      let end : Option ℕ × Layer = end_of_body l checks in
      let is : List Item = all_calls_laid h.scope ss in
      let a = ended_does l checks w none in
      let c = statements_do end.1 ss end.0 (world_grown l end.1 a.grew w) a.pending f (ready_rest h (cells l) end.1 [] is a.taken n) in
      both_do l end.1 (body_items l ss checks).1 [] is _ _ (BodyIs g h ss (last_checks checks h.scope) (body_items l ss checks).0) a c (λ y z. (end.0, z, y))

-- the items of a whole body
pub statements_law : StatementsLaw
statements_law k h g l ss checks few numbered w c =
    let d = body_does k h g few numbered l ss checks w c.pending c.formed c.calls in
    record { stand = d.stands; cells = d.taken }

-- and each of them means something
pub statements_mean : (k : Numbering) (h : Here) (g : Ground) (l : Layer) (ss : syntax.Statements) (checks : Bool) → length g.tables.items ≤ most → ((at : ℕ) → g.firsts at ≡ k.firsts at) → Surroundings k h g l → CanStand h l ss → NewItems h l (body_items l ss checks).1
statements_mean k h g l ss checks few numbered w c = (body_does k h g few numbered l ss checks w c.pending c.formed c.calls).means
