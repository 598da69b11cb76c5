-- One step of a process: an annotation ends the run, or the step is one of the program with annotations alone, or it is one of both.
use Rattle.std.proofs.Common.{◌≡◌, ◌∙◌, ◌⊎◌, inl, inr, ℕ, Bool, true, false, if◌then◌else◌, List, [], ◌∷◌, ◌++◌, Option, Some, None, Ok, Err, ap, sym, refl, subst}
use Rattle.cp_tree.specs.Read.{IsRead}
use Rattle.cp_tree.specs.declared.statement.AssertionKind.{AssertionKind}
use Rattle.cp_tree.specs.Syntax.{Expression, Expressions, no_expressions, Designator, designator, no_selectors, Statement, empty, assign, invoke, block, if_then, if_else, case_of, while_do, repeat_until, for_do, cycle, init, asserted, nameless, Statements, no_statements, more_statements, Routine, Program, Tree}
use Rattle.cp_meaning_laws.specs.Accepted.{IsAccepted}
use Rattle.cp_meaning.specs.Outcome.{ErrorName, Outcome, ◌>>=◌}
use Rattle.cp_meaning.specs.Scopes.{Meaning, routine_meaning, Scope, find, since}
use Rattle.cp_meaning.specs.Declarations.{Parameter, RoutineMeaning, routine_in}
use Rattle.cp_meaning.specs.State.{Environment, Component, component_at, CallKind, local_routine, Call, current, Item, statement_item, function_call, start_item, until, successor, return, init_end, end, is_entry_kind}
use Rattle.cp_meaning.specs.Places.{View}
use Rattle.cp_meaning.specs.Operations.{Typed, is_true}
use Rattle.cp_meaning.specs.Expressions.{value, routine_meant}
use Rattle.cp_meaning.specs.Lifting.{is_routine_meant, has_invariants, check_statement, items_of, items_of_all}
use Rattle.cp_meaning.specs.Move.{Doing, stays}
use Rattle.cp_meaning.specs.Calls.{bound, opened, last_checks, called_as, with_items}
use Rattle.cp_meaning.specs.LocalRules.{becomes, broken_as, invoked, leaving_move, returned, takes}
use Rattle.cp_meaning.specs.Steps.{at_statement, at_item, at_items}
use Rattle.cp_meaning.proofs.Frames.{frames, ItemsFit as FramesFit}
use Rattle.cp_resolved.proofs.declarations.Nameless.{IsSaid, SaysSome, IsNameless}
use Rattle.cp_resolved.proofs.declarations.WordsOfTrees.{read_nameless}
use Rattle.cp_resolved.specs.Openings.{meaning_at}
use Rattle.cp_resolved.specs.TreeLayouts.{layouts_of}
use Rattle.cp_machine_laws.specs.Bodies.{IsWithin, IsCheck, ItemStands}
use Rattle.cp_machine_laws.specs.RoutinesKnown.{ItemsFit, RoutinesKnown}
use Rattle.cp_machine_laws.proofs.reached.KnownRoutines.{traits, routines_known}
use Rattle.cp_annotation_laws.specs.Annotations.{IsAnnotation}
use Rattle.cp_annotation_laws.specs.Plain.{plain_program}
use Rattle.cp_annotation_laws.proofs.annotations.Spoken.{IsFine, AreFine}
use Rattle.cp_annotation_laws.proofs.annotations.Views.{plain_calls}
use Rattle.cp_annotation_laws.proofs.annotations.Items.{plain_one, scopes_of, items_become, not_check}
use Rattle.cp_annotation_laws.proofs.annotations.Doings.{bare, plain_result, CalleeFine}
use Rattle.cp_annotation_laws.proofs.annotations.Taking.{IsUnasserted, CallsFine, ItemFine, takes_same}
use Rattle.cp_annotation_laws.proofs.annotations.States.{AreSaid, IsChecking, StandsFor}
use Rattle.cp_annotation_laws.proofs.annotations.Kernels.{BodiesFine}
use Rattle.cp_annotation_laws.proofs.annotations.Facts.{Facts, within_fine, start_fine, call_spoken}

module _ (p : Program) (cs : List Component) (pid : ℕ) where
  abbrev pub seen : List Call → View
  seen calls = record { program = p; calls = calls; components = cs }

  abbrev pub seen_without : List Call → View
  seen_without calls = record { program = plain_program p; calls = calls; components = cs }

  -- an annotation can't be evaluated, or is false
  pub record EndsHere (calls : List Call) (items : List Item) : Type 0 where
    pub error : ErrorName
    pub fails : takes (seen calls) pid items ≡ Err error
    pub annotation : IsAnnotation items

  -- a step of the program with annotations alone
  pub record StepsAlone (calls : List Call) (items : List Item) (other_calls : List Call) (other_items : List Item) : Type 0 where
    pub doing : Doing
    pub does_so : takes (seen calls) pid items ≡ Ok doing
    pub local : doing.move ≡ stays
    pub components : doing.components ≡ cs
    pub stack : StandsFor doing.calls doing.items other_calls other_items

  pub record StepsBoth (calls : List Call) (items : List Item) (other_calls : List Call) (other_items : List Item) : Type 0 where
    pub same : takes (seen_without other_calls) pid other_items ≡ plain_result (takes (seen calls) pid items)
    pub at : at_items other_items ≡ at_items items

  abbrev pub Stepped : List Call → List Item → List Call → List Item → Type 0
  Stepped calls items other_calls other_items = EndsHere calls items ⊎ StepsAlone calls items other_calls other_items ⊎ StepsBoth calls items other_calls other_items

  -- ---- an annotation

  annotation_steps : (calls : List Call) (items : List Item) (at : ℕ) (k : AssertionKind) (e : Expression) (t : Statement) (other_calls : List Call) (other_items : List Item) →
      StandsFor calls (items_of (current calls).scope t ++ items) other_calls other_items → Stepped calls (statement_item (asserted at k e t) ∷ items) other_calls other_items
  annotation_steps calls items at k e t other_calls other_items stands = go (value (seen calls) e) refl
    where
      chosen : (x : Typed) (b : Bool) → value (seen calls) e ≡ Ok x → is_true x ≡ b → Stepped calls (statement_item (asserted at k e t) ∷ items) other_calls other_items
      chosen x true is holds =
          inr (inl (record {
            doing = with_items (seen calls) (items_of (current calls).scope t ++ items);
            does_so = ap (λ (o : Outcome Typed). o >>= λ y. if is_true y then becomes (seen calls) (items_of (current calls).scope t ++ items) else Err (broken_as k)) is ∙ ap (λ (b : Bool). if b then becomes (seen calls) (items_of (current calls).scope t ++ items) else Err (broken_as k)) holds;
            local = refl;
            components = refl;
            stack = stands;
          }))
      chosen x false is holds =
          inl (record {
            error = broken_as k;
            fails = ap (λ (o : Outcome Typed). o >>= λ y. if is_true y then becomes (seen calls) (items_of (current calls).scope t ++ items) else Err (broken_as k)) is ∙ ap (λ (b : Bool). if b then becomes (seen calls) (items_of (current calls).scope t ++ items) else Err (broken_as k)) holds;
            annotation = tt;
          })

      go : (o : Outcome Typed) → value (seen calls) e ≡ o → Stepped calls (statement_item (asserted at k e t) ∷ items) other_calls other_items
      go (Ok x) is = chosen x (is_true x) is refl
      go (Err f) is = inl (record { error = f; fails = ap (λ (o : Outcome Typed). o >>= λ y. if is_true y then becomes (seen calls) (items_of (current calls).scope t ++ items) else Err (broken_as k)) is; annotation = tt })

-- ---- tokens

pub same_token : (s : Scope) (ss : List Scope) (t : Statement) (items : List Item) → IsFine s t → IsUnasserted t → at_items (plain_one s t ++ items) ≡ at_statement t
same_token s ss (invoke at d es) items h k = ap (λ (b : Bool). at_items ((if b then [] else statement_item (invoke at d es) ∷ []) ++ items)) (not_check s ss d h.0)
same_token s ss (asserted at j e t) items h k = absurd k
same_token s ss (empty at) items h k = refl
same_token s ss (assign at d e) items h k = refl
same_token s ss (block at ts) items h k = refl
same_token s ss (if_then at e t) items h k = refl
same_token s ss (if_else at e t u) items h k = refl
same_token s ss (case_of at e as' b) items h k = refl
same_token s ss (while_do at e t) items h k = refl
same_token s ss (repeat_until at ts e) items h k = refl
same_token s ss (for_do at i e d f t) items h k = refl
same_token s ss (cycle at ts) items h k = refl
same_token s ss (init at ts) items h k = refl

-- a said statement is one item
said_items : (s : Scope) (t : Statement) → IsSaid t → IsFine s t → items_of s t ≡ statement_item t ∷ []
said_items s (empty at) h fine = refl
said_items s (asserted at k e t) h fine = ap (λ (xs : List Item). xs ++ statement_item (asserted at k e t) ∷ []) fine.1
said_items s _ h fine = absurd h

module _ (t : Tree) (read : IsRead t.program) (ok : IsAccepted t) (facts : Facts t.program) (cs : List Component) (bodies : BodiesFine t.program cs) (pid : ℕ) where
  abbrev p : Program
  p = t.program

  known : RoutinesKnown p (layouts_of t) (traits t)
  known = routines_known t read ok

  -- a call that executes the routine of a number
  abbrev pub call_of : ℕ → CallKind → Environment → ℕ → Call
  call_of component kind environment n = record { component = component; kind = kind; scope = (meaning_at p n).scope; environment = environment }

  module _ (component : ℕ) (kind : CallKind) (environment : Environment) (below : List Call) (n : ℕ) where
    abbrev c : Call
    c = call_of component kind environment n

    abbrev s : Scope
    s = (meaning_at p n).scope

    abbrev v : View
    v = seen p cs pid (c ∷ below)

    abbrev Steps : List Item → Type 0
    Steps items = Stepped p cs pid (c ∷ below) items (plain_calls (c ∷ below)) (bare (c ∷ below) items)

    -- ---- a check

    check_bound : (qs : List Parameter) → bound v qs no_expressions ≡ Ok []
    check_bound [] = refl
    check_bound (q ∷ qs) = refl

    last_none : (u : Scope) (b : Bool) → b ≡ false → last_checks b u ≡ []
    last_none u b e = ap (λ (x : Bool). last_checks x u) e

    said_body : (u : Scope) (ss : Statements) → SaysSome ss → AreFine u ss → (a : Statement) × IsSaid a × (items_of_all u ss ≡ statement_item a ∷ [])
    said_body u (more_statements (asserted at k e x) no_statements) h fine = (asserted at k e x, h, ap (λ (xs : List Item). (xs ++ statement_item (asserted at k e x) ∷ []) ++ []) fine.0.1)
    said_body u _ h fine = absurd h

    abbrev checking : Routine → RoutineMeaning
    checking q = routine_in (since nameless s) q

    check_fine : (at : ℕ) (q : Routine) → has_invariants s ≡ true → find nameless s ≡ Some (routine_meaning q) → AreFine (checking q).scope (checking q).body
    check_fine at q has is =
        let k = known.checks n at (checking q) has (ap (λ (m : Option Meaning). routine_meant p s nameless m None) is) in
        subst (λ (m : RoutineMeaning). AreFine m.scope m.body) (sym k.same) (facts.bodies k.number)

    abbrev check_doing : Routine → List Item → Doing
    check_doing q items = opened v component local_routine (checking q) None items []

    check_stack : (at : ℕ) (q : Routine) (items : List Item) → IsNameless q → (a : Statement) × IsSaid a × (items_of_all (checking q).scope (checking q).body ≡ statement_item a ∷ []) → IsChecking (check_doing q items).calls (check_doing q items).items (plain_calls (c ∷ below)) (bare (c ∷ below) (statement_item (check_statement at) ∷ items))
    check_stack at q items is body =
        record {
          call = current (check_doing q items).calls;
          below = c ∷ below;
          said = statement_item body.0 ∷ [];
          rest = items;
          calls_are = refl;
          local = refl;
          items_are = ap (λ (xs : List Item). xs ++ last_checks (checking q).checks (checking q).scope ++ return None ∷ items) body.2 ∙ ap (λ (xs : List Item). statement_item body.0 ∷ [] ++ xs ++ return None ∷ items) (last_none (checking q).scope (checking q).checks is.no_entry);
          says = body.1;
          other_calls_are = refl;
          other_items_are = refl;
        }

    check_called : (at : ℕ) (items : List Item) (q : Routine) → has_invariants s ≡ true → find nameless s ≡ Some (routine_meaning q) → Steps (statement_item (check_statement at) ∷ items)
    check_called at items q has is =
        inr (inl (record {
          doing = check_doing q items;
          does_so =
              ap (λ (m : Option Meaning). invoked v pid m (designator (record { at = at; name = nameless }) no_selectors) no_expressions items) is
              ∙ (ap (λ (m : Option Meaning). called_as v m (designator (record { at = at; name = nameless }) no_selectors) (routine_meant p s nameless m None) None no_expressions items) is
              ∙ ap (λ (o : Outcome Environment). o >>= λ e. Ok (opened v component local_routine (checking q) None items e)) (check_bound (checking q).parameters));
          local = refl;
          components = refl;
          stack = inr (check_stack at q items (read_nameless p read n q is) (said_body (checking q).scope (checking q).body (read_nameless p read n q is).says (check_fine at q has is)));
        }))

    check_steps : (at : ℕ) (items : List Item) → has_invariants s ≡ true → Steps (statement_item (check_statement at) ∷ items)
    check_steps at items has = go (find nameless s) refl has
      where
        go : (m : Option Meaning) → find nameless s ≡ m → is_routine_meant m ≡ true → Steps (statement_item (check_statement at) ∷ items)
        go (Some (routine_meaning q)) is it = check_called at items q has is
        go _ is it = absurd (let bad : false ≡ true = it in cc)

    -- ---- items of both programs

    fine_at : (x : Statement) → IsWithin (meaning_at p n).body x → IsFine s x
    fine_at x k = within_fine s (meaning_at p n).body x (facts.bodies n) k

    callee_fine : (at : ℕ) (d : Designator) (es : Expressions) → IsWithin (meaning_at p n).body (invoke at d es) → CalleeFine p s d
    callee_fine at d es k r e = let x = known.procedures n at d es r k e in subst (λ (m : RoutineMeaning). AreFine m.scope m.body) (sym x.same) (facts.bodies x.number)

    function_fine : (at : ℕ) (d : Designator) (es : Expressions) → ItemStands s (meaning_at p n).body (function_call at d es) → CalleeFine p s d
    function_fine at d es k r e = let x = (known.functions n at d es r k e).0 in subst (λ (m : RoutineMeaning). AreFine m.scope m.body) (sym x.same) (facts.bodies x.number)

    calls_fine : (x : Statement) → IsWithin (meaning_at p n).body x → CallsFine p s x
    calls_fine (invoke at d es) k = callee_fine at d es k
    calls_fine (empty at) k = tt
    calls_fine (assign at d e) k = tt
    calls_fine (block at ts) k = tt
    calls_fine (if_then at e x) k = tt
    calls_fine (if_else at e x y) k = tt
    calls_fine (case_of at e as' b) k = tt
    calls_fine (while_do at e x) k = tt
    calls_fine (repeat_until at ts e) k = tt
    calls_fine (for_do at i e d f x) k = tt
    calls_fine (cycle at ts) k = tt
    calls_fine (init at ts) k = tt
    calls_fine (asserted at j e x) k = tt

    both_step : (i : Item) (items : List Item) → ItemFine p s i → FramesFit (frames (c ∷ below)) (i ∷ items) → at_items (bare (c ∷ below) (i ∷ items)) ≡ at_item i → Steps (i ∷ items)
    both_step i items fine fit at = inr (inr (record { same = takes_same p facts.spoken facts.visible c below cs bodies (facts.scopes n) pid i items fine fit; at = at }))

    plainly : (x : Statement) (items : List Item) → IsWithin (meaning_at p n).body x → IsUnasserted x → FramesFit (frames (c ∷ below)) items → Steps (statement_item x ∷ items)
    plainly x items k u fit = both_step (statement_item x) items (fine_at x k, u, calls_fine x k) fit (same_token s (scopes_of below) x (bare (c ∷ below) items) (fine_at x k) u)

    said_or_both : (x : Statement) (items : List Item) → IsWithin (meaning_at p n).body x → FramesFit (frames (c ∷ below)) items → Steps (statement_item x ∷ items)
    said_or_both (asserted at j e x) items k fit = annotation_steps p cs pid (c ∷ below) items at j e x (plain_calls (c ∷ below)) (bare (c ∷ below) (statement_item (asserted at j e x) ∷ items)) (inl (record { other_calls_are = refl; other_items_are = sym ((items_become s (scopes_of below) x (fine_at (asserted at j e x) k).2).on items) }))
    said_or_both (empty at) items k fit = plainly (empty at) items k tt fit
    said_or_both (assign at d e) items k fit = plainly (assign at d e) items k tt fit
    said_or_both (invoke at d es) items k fit = plainly (invoke at d es) items k tt fit
    said_or_both (block at ts) items k fit = plainly (block at ts) items k tt fit
    said_or_both (if_then at e x) items k fit = plainly (if_then at e x) items k tt fit
    said_or_both (if_else at e x y) items k fit = plainly (if_else at e x y) items k tt fit
    said_or_both (case_of at e as' b) items k fit = plainly (case_of at e as' b) items k tt fit
    said_or_both (while_do at e x) items k fit = plainly (while_do at e x) items k tt fit
    said_or_both (repeat_until at ts e) items k fit = plainly (repeat_until at ts e) items k tt fit
    said_or_both (for_do at i e d f x) items k fit = plainly (for_do at i e d f x) items k tt fit
    said_or_both (cycle at ts) items k fit = plainly (cycle at ts) items k tt fit
    said_or_both (init at ts) items k fit = plainly (init at ts) items k tt fit

    pub outside_steps : (ns : List ℕ) (items : List Item) → ItemsFit (layouts_of t) (n ∷ ns) items → FramesFit (frames (c ∷ below)) items → Steps items
    outside_steps ns [] h fit = inr (inr (record { same = refl; at = refl }))
    outside_steps ns (statement_item x ∷ items) h fit = go h.0
      where
        go : IsWithin (meaning_at p n).body x ⊎ IsCheck s x → Steps (statement_item x ∷ items)
        go (inl k) = said_or_both x items k fit
        go (inr k) = subst (λ (y : Statement). Steps (statement_item y ∷ items)) (sym k.2) (check_steps k.0 items k.1)
    outside_steps ns (function_call at d es ∷ items) h fit = let u = call_spoken s (meaning_at p n).body at d es (facts.bodies n) h.0 in both_step (function_call at d es) items (u.0, u.1, function_fine at d es h.0) fit refl
    outside_steps ns (start_item x ∷ items) h fit = both_step (start_item x) items (start_fine s x h.0.1 (fine_at (init h.0.0 h.0.1) h.0.2) h.0.3) fit refl
    outside_steps ns (until ts e ∷ items) h fit = both_step (until ts e) items (fine_at (repeat_until h.0.0 ts e) h.0.1) fit refl
    outside_steps ns (successor at i z d b x ∷ items) h fit = let u = fine_at (for_do at i h.0.0 d h.0.1 x) h.0.2 in both_step (successor at i z d b x) items (u.0, u.3) fit refl
    outside_steps ns (return o ∷ items) h fit = both_step (return o) items tt fit refl
    outside_steps ns (init_end m ∷ items) h fit = both_step (init_end m) items tt fit refl
    outside_steps ns (end ∷ items) h fit = both_step end items tt fit refl

    -- ---- in a check

    abbrev CheckSteps : List Item → List Item → Type 0
    CheckSteps said rest = Stepped p cs pid (c ∷ below) (said ++ return None ∷ rest) (plain_calls below) (bare below rest)

    -- what is left of a check
    checks_on : (said rest items : List Item) → kind ≡ local_routine → AreSaid said → items ≡ said ++ return None ∷ rest → IsChecking (c ∷ below) items (plain_calls below) (bare below rest)
    checks_on said rest items local says e = record { call = c; below = below; said = said; rest = rest; calls_are = refl; local = local; items_are = e; says = says; other_calls_are = refl; other_items_are = refl }

    pub check_goes_on : (ns : List ℕ) (said rest : List Item) → kind ≡ local_routine → AreSaid said → ItemsFit (layouts_of t) (n ∷ ns) (said ++ return None ∷ rest) → CheckSteps said rest
    check_goes_on ns [] rest local says h =
        inr (inl (record {
          doing = returned v None rest;
          does_so = refl;
          local = ap (λ (k : CallKind). if is_entry_kind k then leaving_move (component_at cs component).kind component else stays) local;
          components = refl;
          stack = inl (record { other_calls_are = refl; other_items_are = refl });
        }))
    check_goes_on ns (statement_item (empty at) ∷ []) rest local says h =
        inr (inl (record { doing = with_items v (return None ∷ rest); does_so = refl; local = refl; components = refl; stack = inr (checks_on [] rest (return None ∷ rest) local tt refl) }))
    check_goes_on ns (statement_item (asserted at j e x) ∷ []) rest local says h =
        annotation_steps p cs pid (c ∷ below) (return None ∷ rest) at j e x (plain_calls below) (bare below rest)
        (inr (checks_on (statement_item x ∷ []) rest (items_of s x ++ return None ∷ rest) local says (ap (λ (xs : List Item). xs ++ return None ∷ rest) (said_items s x says (fine h.0)))))
      where
        fine : IsWithin (meaning_at p n).body (asserted at j e x) ⊎ IsCheck s (asserted at j e x) → IsFine s x
        fine (inl k) = (fine_at (asserted at j e x) k).2
        fine (inr k) = absurd (let bad : asserted at j e x ≡ check_statement k.0 = k.2 in cc)
    check_goes_on ns (statement_item x ∷ j ∷ said) rest local says h = absurd says
    check_goes_on ns (statement_item x ∷ []) rest local says h = absurd says
    check_goes_on ns _ rest local says h = absurd says
