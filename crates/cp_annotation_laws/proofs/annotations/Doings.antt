-- What one item does without annotations: calls, starts and what they begin with.
use Rattle.std.proofs.Common.{◌≡◌, ◌∙◌, ℕ, ◌==◌, Bool, true, false, if◌then◌else◌, List, [], ◌∷◌, ◌++◌, length, Option, Some, None, Ok, Err, ap, sym, refl}
use Rattle.cp_tree.specs.declared.declaration.SystemKind.{SystemKind}
use Rattle.cp_tree.specs.declared.declaration.SystemKind.TheVariants as system_kind
use Rattle.cp_tree.specs.Syntax.{Expression, alone, related, Sum, sum, no_terms, Term, term, no_factors, Factor, named, group, Expressions, no_expressions, more_expressions, Designator, Start, Program}
use Rattle.cp_meaning.specs.Names.{Name}
use Rattle.cp_meaning.specs.Outcome.{Outcome, ◌>>=◌, not_init, init_twice}
use Rattle.cp_meaning.specs.Types.{Ty, ordinal, queue_type, set_over, array_over, record_with, component_of}
use Rattle.cp_meaning.specs.Scopes.{Meaning, constant_meaning, type_meaning, local_variable, permanent_variable, routine_meaning, standard_meaning, Scope}
use Rattle.cp_meaning.specs.Declarations.{Parameter, RoutineMeaning}
use Rattle.cp_meaning.specs.Systems.{SystemMeaning, system_of}
use Rattle.cp_meaning.specs.State.{Content, holds, knows, Environment, Component, component_at, CallKind, initial_statement, local_routine, entry_routine, Call, current, Item, return, init_end, initialising}
use Rattle.cp_meaning.specs.Places.{View, Target, component_there, this_component}
use Rattle.cp_meaning.specs.Operations.{checked}
use Rattle.cp_meaning.specs.Expressions.{value, target_value, variable_in, variable_in_sum, variable_in_term, variable_in_factor, routine_called, meaning_here}
use Rattle.cp_meaning.specs.Lifting.{items_of_all}
use Rattle.cp_meaning.specs.Move.{Move, Doing, stays, enters, continues}
use Rattle.cp_meaning.specs.Calls.{refers_to, knows_of, bound_variable, bound_value, bound_argument, bound, least_of, least_result, last_checks, opened, is_initialised, is_uninitialised, with_move, entered_as, entered, called_as, called, with_status, initial, initialised_in, started_as, started_at, started}
use Rattle.cp_annotation_laws.specs.Plain.{plain_program, plain_statements}
use Rattle.cp_annotation_laws.proofs.annotations.Scopes.{plain_scope, plain_found}
use Rattle.cp_annotation_laws.proofs.annotations.Spoken.{SpokenExpression, SpokenSum, SpokenTerm, SpokenFactor, SpokenExpressions, SpokenDesignator, SpokenStart, SpokenScope, SpokenProgram, AreFine}
use Rattle.cp_annotation_laws.proofs.annotations.Types.{plain_routine_meaning}
use Rattle.cp_annotation_laws.proofs.annotations.Systems.{plain_system_meaning, system_of_plain}
use Rattle.cp_annotation_laws.proofs.annotations.Views.{plain_calls, plain_view, binds, this_component_plain, there_plain}
use Rattle.cp_annotation_laws.proofs.annotations.Values.{plain_called, called_plain, scope_plain, meaning_plain, value_plain, target_plain}
use Rattle.cp_annotation_laws.proofs.annotations.Items.{bare_items, scopes_of, become_both, all_become, last_becomes, check_becomes}

-- ---- what is done

abbrev pub bare : List Call → List Item → List Item
bare calls items = bare_items (scopes_of calls) items

abbrev pub plain_move : Move → Move
plain_move (continues m o calls items) = continues m o (plain_calls calls) (bare calls items)
plain_move m = m

abbrev pub plain_doing : Doing → Doing
plain_doing d = record { calls = plain_calls d.calls; items = bare d.calls d.items; components = d.components; move = plain_move d.move }

abbrev pub plain_result : Outcome Doing → Outcome Doing
plain_result (Ok d) = Ok (plain_doing d)
plain_result (Err e) = Err e

result_on : {A : Type 0} (o : Outcome A) (f g : A → Outcome Doing) → ((a : A) → g a ≡ plain_result (f a)) → (o >>= g) ≡ plain_result (o >>= f)
result_on (Ok a) f g h = h a
result_on (Err e) f g h = refl

pub results : {A : Type 0} (o u : Outcome A) (f g : A → Outcome Doing) → u ≡ o → ((a : A) → g a ≡ plain_result (f a)) → (u >>= g) ≡ plain_result (o >>= f)
results o u f g e h = ap (λ w. w >>= g) e ∙ result_on o f g h

-- ---- variables as arguments

abbrev pub SpokenVariable : Option Designator → Type 0
SpokenVariable None = Unit {0}
SpokenVariable (Some d) = SpokenDesignator d

mutual
  pub variable_spoken : (e : Expression) → SpokenExpression e → SpokenVariable (variable_in e)
  variable_spoken (alone at a) h = sum_spoken a h
  variable_spoken (related at a r b) h = tt

  sum_spoken : (a : Sum) → SpokenSum a → SpokenVariable (variable_in_sum a)
  sum_spoken (sum at None t no_terms) h = term_spoken t h.0
  sum_spoken _ h = tt

  term_spoken : (t : Term) → SpokenTerm t → SpokenVariable (variable_in_term t)
  term_spoken (term at f no_factors) h = factor_spoken f h.0
  term_spoken _ h = tt

  factor_spoken : (f : Factor) → SpokenFactor f → SpokenVariable (variable_in_factor f)
  factor_spoken (named at d no_expressions) h = h.0
  factor_spoken (group at e) h = variable_spoken e h
  factor_spoken _ h = tt

-- what the bodies that are begun have
abbrev pub CalleeFine : Program → Scope → Designator → Type 0
CalleeFine p s d = (r : RoutineMeaning) → routine_called p s d ≡ Some r → AreFine r.scope r.body

module _ (p : Program) (spoken : SpokenProgram p) (visible : (k : ℕ) → SpokenScope (system_of p k).scope)
    (calls : List Call) (cs : List Component) (bodies : (n : ℕ) → AreFine (system_of p (component_at cs n).system).scope (system_of p (component_at cs n).system).body) (here : SpokenScope (current calls).scope) where
  abbrev pub v : View
  v = record { program = p; calls = calls; components = cs }

  abbrev pub w : View
  w = plain_view v

  abbrev Same : Outcome Doing → Outcome Doing → Type 0
  Same o u = u ≡ plain_result o

  -- ---- arguments

  target_same : (d : Designator) → SpokenDesignator d → target_value w d ≡ target_value v d
  target_same d h = target_plain p spoken visible calls cs here d h

  value_same : (e : Expression) → SpokenExpression e → value w e ≡ value v e
  value_same e h = value_plain p spoken visible calls cs here e h

  knows_plain : (k : ℕ) (o u : Outcome Target) → u ≡ o → knows_of w k u ≡ knows_of v k o
  knows_plain k o u e = binds u o _ _ e (λ t. ap (λ n. Ok (knows (if (component_at cs n).system == k then n else length cs))) (there_plain v t.place))

  bound_variable_plain : (f g : Outcome Target → Outcome Content) (o : Option Designator) → SpokenVariable o → ((x y : Outcome Target) → y ≡ x → g y ≡ f x) → bound_variable w g o ≡ bound_variable v f o
  bound_variable_plain f g None h k = refl
  bound_variable_plain f g (Some d) h k = k (target_value v d) (target_value w d) (target_same d h)

  plain_bound_value : (t : Ty) (e : Expression) → SpokenExpression e → (value w e >>= λ x. checked t x.value >>= λ y. Ok (holds y)) ≡ (value v e >>= λ x. checked t x.value >>= λ y. Ok (holds y))
  plain_bound_value t e h = binds (value w e) (value v e) _ _ (value_same e h) (λ x. refl)

  bound_value_plain : (t : Ty) (e : Expression) → SpokenExpression e → bound_value w t e ≡ bound_value v t e
  bound_value_plain (component_of k) e h = bound_variable_plain (knows_of v k) (knows_of w k) (variable_in e) (variable_spoken e h) (λ x y same. knows_plain k x y same)
  bound_value_plain (ordinal r) e h = plain_bound_value (ordinal r) e h
  bound_value_plain queue_type e h = plain_bound_value queue_type e h
  bound_value_plain (set_over r) e h = plain_bound_value (set_over r) e h
  bound_value_plain (array_over r t) e h = plain_bound_value (array_over r t) e h
  bound_value_plain (record_with ts) e h = plain_bound_value (record_with ts) e h

  argument_plain : (q : Parameter) (e : Expression) → SpokenExpression e → bound_argument w q e ≡ bound_argument v q e
  argument_plain q e h = go q.is_var
    where
      go : (b : Bool) → (if b then bound_variable w refers_to (variable_in e) else bound_value w q.ty e) ≡ (if b then bound_variable v refers_to (variable_in e) else bound_value v q.ty e)
      go true = bound_variable_plain refers_to refers_to (variable_in e) (variable_spoken e h) (λ x y same. ap refers_to same)
      go false = bound_value_plain q.ty e h

  pub bound_plain : (qs : List Parameter) (es : Expressions) → SpokenExpressions es → bound w qs es ≡ bound v qs es
  bound_plain [] es h = refl
  bound_plain (q ∷ qs) no_expressions h = refl
  bound_plain (q ∷ qs) (more_expressions e es) h = binds (bound_argument w q e) (bound_argument v q e) _ _ (argument_plain q e h.0) (λ c. binds (bound w qs es) (bound v qs es) _ _ (bound_plain qs es h.1) (λ rest. refl))

  -- ---- calls

  abbrev ss : List Scope
  ss = scopes_of calls

  opened_items : (s : Scope) (b : Bool) (r : RoutineMeaning) (o : Option Name) (items : List Item) → AreFine r.scope r.body →
      bare_items (r.scope ∷ ss) (items_of_all r.scope r.body ++ last_checks b r.scope ++ return o ∷ items) ≡ items_of_all (plain_scope r.scope) (plain_statements r.body) ++ last_checks b (plain_scope r.scope) ++ return o ∷ bare_items ss items
  opened_items s b r o items fine = (become_both r.scope ss _ _ _ _ (all_become r.scope ss r.body fine) (last_becomes r.scope ss b)).on (return o ∷ items)

  pub opened_plain : (d : ℕ) (kind : CallKind) (r : RoutineMeaning) (o : Option Name) (items : List Item) (e : Environment) → AreFine r.scope r.body → opened w d kind (plain_routine_meaning r) o (bare_items ss items) e ≡ plain_doing (opened v d kind r o items e)
  opened_plain d kind r o items e fine =
      ap (λ (xs : List Item). (let x : Doing = record {
        calls = (let c : Call = record { component = d; kind = kind; scope = plain_scope r.scope; environment = e ++ least_of r.variables ++ least_result r.result } in c) ∷ plain_calls calls;
        items = xs;
        components = cs;
        move = stays;
      } in x)) (sym (opened_items (current calls).scope r.checks r o items fine))

  entered_as_plain : (kind : SystemKind) (d : ℕ) (r : RoutineMeaning) (o : Option Name) (items : List Item) (e : Environment) → AreFine r.scope r.body → entered_as kind w d (plain_routine_meaning r) o (bare_items ss items) e ≡ plain_doing (entered_as kind v d r o items e)
  entered_as_plain system_kind.Monitor d r o items e fine = ap (λ (x : Doing). with_move x (enters d)) (opened_plain d entry_routine r o items e fine)
  entered_as_plain system_kind.Class d r o items e fine = opened_plain d entry_routine r o items e fine
  entered_as_plain system_kind.Process d r o items e fine = refl

  entered_plain : (d : ℕ) (r : RoutineMeaning) (o : Option Name) (es : Expressions) (items : List Item) → SpokenExpressions es → AreFine r.scope r.body → Same (entered v d r o es items) (entered w d (plain_routine_meaning r) o es (bare_items ss items))
  entered_plain d r o es items h fine = results (bound v r.parameters es) (bound w r.parameters es) _ _ (bound_plain r.parameters es h) (λ e. go (is_initialised (component_at cs d).status) e)
    where
      go : (b : Bool) (e : Environment) → (if b then Ok (entered_as (component_at cs d).kind w d (plain_routine_meaning r) o (bare_items ss items) e) else Err not_init) ≡ plain_result (if b then Ok (entered_as (component_at cs d).kind v d r o items e) else Err not_init)
      go true e = ap (λ (x : Doing). Ok x) (entered_as_plain (component_at cs d).kind d r o items e fine)
      go false e = refl

  there_entered : (d : Designator) (r : RoutineMeaning) (o : Option Name) (es : Expressions) (items : List Item) → SpokenDesignator d → SpokenExpressions es → AreFine r.scope r.body →
      Same (target_value v d >>= λ t. entered v (component_there v t.place) r o es items) (target_value w d >>= λ t. entered w (component_there w t.place) (plain_routine_meaning r) o es (bare_items ss items))
  there_entered d r o es items h k fine =
      results (target_value v d) (target_value w d) _ _ (target_same d h)
      (λ t. ap (λ (n : ℕ). entered w n (plain_routine_meaning r) o es (bare_items ss items)) (there_plain v t.place) ∙ entered_plain (component_there v t.place) r o es items k fine)

  called_as_plain : (m : Option Meaning) (d : Designator) (r : Option RoutineMeaning) (o : Option Name) (es : Expressions) (items : List Item) → SpokenDesignator d → SpokenExpressions es → ((x : RoutineMeaning) → r ≡ Some x → AreFine x.scope x.body) →
      Same (called_as v m d r o es items) (called_as w (plain_found m) d (plain_called r) o es (bare_items ss items))
  called_as_plain None d None o es items h k fine = refl
  called_as_plain (Some (constant_meaning b z)) d None o es items h k fine = refl
  called_as_plain (Some (type_meaning t)) d None o es items h k fine = refl
  called_as_plain (Some (local_variable t)) d None o es items h k fine = refl
  called_as_plain (Some (permanent_variable t)) d None o es items h k fine = refl
  called_as_plain (Some (routine_meaning q)) d None o es items h k fine = refl
  called_as_plain (Some (standard_meaning t)) d None o es items h k fine = refl
  called_as_plain (Some (routine_meaning q)) d (Some r) o es items h k fine =
      results (bound v r.parameters es) (bound w r.parameters es) _ _ (bound_plain r.parameters es k)
      (λ e. ap (λ (n : ℕ). Ok (opened w n local_routine (plain_routine_meaning r) o (bare_items ss items) e)) (this_component_plain v) ∙ ap (λ (x : Doing). Ok x) (opened_plain (this_component v) local_routine r o items e (fine r refl)))
  called_as_plain None d (Some r) o es items h k fine = there_entered d r o es items h k (fine r refl)
  called_as_plain (Some (constant_meaning b z)) d (Some r) o es items h k fine = there_entered d r o es items h k (fine r refl)
  called_as_plain (Some (type_meaning t)) d (Some r) o es items h k fine = there_entered d r o es items h k (fine r refl)
  called_as_plain (Some (local_variable t)) d (Some r) o es items h k fine = there_entered d r o es items h k (fine r refl)
  called_as_plain (Some (permanent_variable t)) d (Some r) o es items h k fine = there_entered d r o es items h k (fine r refl)
  called_as_plain (Some (standard_meaning t)) d (Some r) o es items h k fine = there_entered d r o es items h k (fine r refl)

  pub calls_plain : (d : Designator) (es : Expressions) (o : Option Name) (items : List Item) → SpokenDesignator d → SpokenExpressions es → CalleeFine p (current calls).scope d → Same (called v d es o items) (called w d es o (bare_items ss items))
  calls_plain d es o items h k fine =
      ap (λ (m : Option Meaning). called_as w m d (routine_called (plain_program p) (current (plain_calls calls)).scope d) o es (bare_items ss items)) (meaning_plain p spoken visible calls cs here d h)
      ∙ (ap (λ (u : Scope). called_as w (plain_found (meaning_here v d)) d (routine_called (plain_program p) u d) o es (bare_items ss items)) (scope_plain p spoken visible calls cs here)
      ∙ (ap (λ (r : Option RoutineMeaning). called_as w (plain_found (meaning_here v d)) d r o es (bare_items ss items)) (called_plain p spoken visible (current calls).scope d here h)
      ∙ called_as_plain (meaning_here v d) d (routine_called p (current calls).scope d) o es items h k fine))

  -- ---- starts

  initial_plain : (d : ℕ) (m : SystemMeaning) (items : List Item) (e : Environment) → AreFine m.scope m.body → initial w d (plain_system_meaning m) (bare_items ss items) e ≡ plain_doing (initial v d m items e)
  initial_plain d m items e fine =
      ap (λ (xs : List Item). (let x : Doing = record {
        calls = (let c : Call = record { component = d; kind = initial_statement; scope = plain_scope m.scope; environment = [] } in c) ∷ plain_calls calls;
        items = xs;
        components = with_status cs d initialising (e ++ (component_at cs d).environment);
        move = stays;
      } in x))
      (sym ((become_both m.scope ss _ _ _ _ (all_become m.scope ss m.body fine) (check_becomes m.scope ss 0)).on (init_end d ∷ items)))

  initialised_plain : (d : ℕ) (m : SystemMeaning) (items : List Item) (e : Environment) → AreFine m.scope m.body → Same (initialised_in v d m items e) (initialised_in w d (plain_system_meaning m) (bare_items ss items) e)
  initialised_plain d m items e fine = go (is_uninitialised (component_at cs d).status)
    where
      go : (b : Bool) → (if b then Ok (initial w d (plain_system_meaning m) (bare_items ss items) e) else Err init_twice) ≡ plain_result (if b then Ok (initial v d m items e) else Err init_twice)
      go true = ap (λ (x : Doing). Ok x) (initial_plain d m items e fine)
      go false = refl

  started_as_plain : (kind : SystemKind) (d : ℕ) (m : SystemMeaning) (items : List Item) (e : Environment) → AreFine m.scope m.body → Same (started_as kind v d m items e) (started_as kind w d (plain_system_meaning m) (bare_items ss items) e)
  started_as_plain system_kind.Class d m items e fine = initialised_plain d m items e fine
  started_as_plain system_kind.Monitor d m items e fine = initialised_plain d m items e fine
  started_as_plain system_kind.Process d m items e fine = refl

  started_at_plain : (d : ℕ) (m : SystemMeaning) (es : Expressions) (items : List Item) → SpokenExpressions es → AreFine m.scope m.body → Same (started_at v d m es items) (started_at w d (plain_system_meaning m) es (bare_items ss items))
  started_at_plain d m es items h fine = results (bound v m.parameters es) (bound w m.parameters es) _ _ (bound_plain m.parameters es h) (λ e. started_as_plain (component_at cs d).kind d m items e fine)

  pub starts_plain : (t : Start) (items : List Item) → SpokenStart t → Same (started v t items) (started w t (bare_items ss items))
  starts_plain t items h =
      results (target_value v t.target) (target_value w t.target) _ _ (target_same t.target h.0)
      (λ u. ap (λ (n : ℕ). started_at w n (system_of (plain_program p) (component_at cs n).system) t.arguments (bare_items ss items)) (there_plain v u.place)
      ∙ (ap (λ (m : SystemMeaning). started_at w (component_there v u.place) m t.arguments (bare_items ss items)) (system_of_plain p spoken (component_at cs (component_there v u.place)).system)
      ∙ started_at_plain (component_there v u.place) (system_of p (component_at cs (component_there v u.place)).system) t.arguments items h.1 (bodies (component_there v u.place))))
