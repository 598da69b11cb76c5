-- What a process does next in a reached state: it stands in the body of a routine, `continue` in that of an entry procedure.
use Rattle.std.proofs.Common.{◌≡◌, ◌∙◌, ℕ, ◌<◌, true, false, List, [], ◌∷◌, length, Some, None, ap, sym, refl, subst}
use Rattle.cp_machine_laws.proofs.Words.{Designator, Expressions, invoke, Program, Tree, name_of, standard_meaning, continue_procedure, find, IsReached, IsAccepted}
use Rattle.cp_machine_laws.proofs.Words.{well_formed, frames, FramesFit, reached, Layouts, Traits, scope_of, body_of, RoutinesKnown, KindFits, CallsFit, ItemsFit, Scope, IsWithin, ItemStands, inl, inr}
use Rattle.cp_tree.specs.Syntax.{Statements}
use Rattle.cp_meaning.specs.Lifting.{is_routine_meant, check_statement}
use Rattle.cp_meaning.specs.Scopes.{Standard}
use Rattle.cp_machine_laws.specs.Bodies.{check_name}
use Rattle.cp_meaning.specs.State.{CallKind, local_routine, entry_routine, Call, current, Item, statement_item, function_call, start_item, until, successor, return, init_end, end, unstarted, ready, delayed, process_at, Discipline, State, has_entry, Status}
use Rattle.cp_machine_laws.proofs.reached.BodiesInReached.{WaitsInside, AllStand, reached_in_bodies}
use Rattle.cp_machine_laws.proofs.HoldsInReached.{HoldsInReached, reached_stands}

-- the innermost call ends without a result
abbrev pub ReturnsNothing : List Item → Type 0
ReturnsNothing [] = Unit {0}
ReturnsNothing (return o ∷ items) = o ≡ None
ReturnsNothing (i ∷ items) = ReturnsNothing items

returns_nothing : (l : Layouts) (m n : ℕ) (ns : List ℕ) (fs : _) (items : List Item) → (l.meanings n).result ≡ None → FramesFit ((entry_routine, m) ∷ fs) items → ItemsFit l (n ∷ ns) items → ReturnsNothing items
returns_nothing l m n ns fs [] none g h = tt
returns_nothing l m n ns fs (return o ∷ items) none g h = h.0 none
returns_nothing l m n ns fs (init_end j ∷ items) none g h = absurd g.0
returns_nothing l m n ns fs (end ∷ items) none g h = returns_nothing l m n ns fs items none g h
returns_nothing l m n ns fs (statement_item t ∷ items) none g h = returns_nothing l m n ns fs items none g h.1
returns_nothing l m n ns fs (function_call at d es ∷ items) none g h = returns_nothing l m n ns fs items none g h.1
returns_nothing l m n ns fs (start_item t ∷ items) none g h = returns_nothing l m n ns fs items none g h.1
returns_nothing l m n ns fs (until ss e ∷ items) none g h = returns_nothing l m n ns fs items none g h.1
returns_nothing l m n ns fs (successor at i z d b t ∷ items) none g h = returns_nothing l m n ns fs items none g h.1

-- a standard procedure is no check
no_check : (s : Scope) (body : Statements) (at : ℕ) (d : Designator) (es : Expressions) (f : Standard) → ItemStands s body (statement_item (invoke at d es)) → find (name_of d) s ≡ Some (standard_meaning f) → IsWithin body (invoke at d es)
no_check s body at d es f (inl w) e = w
no_check s body at d es f (inr k) e =
    let same : invoke at d es ≡ check_statement k.0 = k.2 in
    let named : d ≡ check_name k.0 = cc in
    let bad : true ≡ false = sym k.1 ∙ ap is_routine_meant (ap (λ (c : Designator). find (name_of c) s) (sym named) ∙ e) in
    absurd cc

-- ---- reached states

module _ (t : Tree) (ok : IsAccepted t) (l : Layouts) (f : Traits) (known : RoutinesKnown t.program l f) (g : Discipline) (s : State) (before : IsReached t.program g s) where
  abbrev p : Program
  p = t.program

  all : AllStand p l f s.processes
  all = reached_in_bodies p l f known (well_formed t ok) g s before

  holds : HoldsInReached p s
  holds = reached_stands t ok g s before

  -- who is delayed in a queue of a component has an open entry call of it
  pub delayed_called : (n q : ℕ) → q < length s.processes → (process_at s.processes q).status ≡ delayed n → has_entry n (process_at s.processes q).calls ≡ true
  delayed_called n q less e = subst (λ (u : Status). WaitsInside u (process_at s.processes q).calls) e (all q less).waits

  -- the routine whose body a process executes
  pub record Executed (q : ℕ) (items : List Item) : Type 0 where
    pub number : ℕ
    pub numbers : List ℕ
    pub scope : (current (process_at s.processes q).calls).scope ≡ scope_of l number
    pub kind : KindFits f (current (process_at s.processes q).calls).kind number
    pub remains : ItemsFit l (number ∷ numbers) items

  pub executed : (q : ℕ) → q < length s.processes → (process_at s.processes q).status ≡ ready → Executed q (process_at s.processes q).items
  executed q less was =
      let w = holds.open_call q less (λ e. (let bad : ready ≡ unstarted = sym was ∙ e in cc)) in
      go (process_at s.processes q).calls w.0 w.1 w.2 (all q less).stands.numbers (all q less).stands.executes (all q less).stands.remains refl
    where
      go : (calls : List Call) (c : Call) (cs : List Call) → calls ≡ c ∷ cs → (ns : List ℕ) → CallsFit l f calls ns → ItemsFit l ns (process_at s.processes q).items → (process_at s.processes q).calls ≡ calls → Executed q (process_at s.processes q).items
      go [] c cs e ns fits rest same = absurd (let bad : [] ≡ c ∷ cs = e in cc)
      go (a ∷ calls) c cs e [] fits rest same = absurd fits
      go (a ∷ calls) c cs e (n ∷ ns) fits rest same =
          record {
            number = n;
            numbers = ns;
            scope = ap (λ (xs : List Call). (current xs).scope) same ∙ fits.0.scope;
            kind = subst (λ (xs : List Call). KindFits f (current xs).kind n) (sym same) fits.0.kind;
            remains = rest;
          }

  entry_kind : (k : CallKind) (n : ℕ) → KindFits f k n → f.entry n ≡ true → k ≡ entry_routine
  entry_kind entry_routine n h e = refl
  entry_kind local_routine n h e = absurd (let bad : true ≡ false = sym e ∙ h in cc)
  entry_kind x n h e = absurd (let bad : true ≡ false = sym e ∙ h.0 in cc)

  -- `continue` is executed in an entry procedure
  pub continues_in_entry : (q at : ℕ) (d : Designator) (es : Expressions) (items : List Item) → q < length s.processes → (process_at s.processes q).status ≡ ready → (process_at s.processes q).items ≡ statement_item (invoke at d es) ∷ items →
      find (name_of d) (current (process_at s.processes q).calls).scope ≡ Some (standard_meaning continue_procedure) → ((current (process_at s.processes q).calls).kind ≡ entry_routine) × ReturnsNothing items
  continues_in_entry q at d es items less was e is =
      let x = executed q less was in
      let rest = subst (λ (is : List Item). ItemsFit l (x.number ∷ x.numbers) is) e x.remains in
      let standard = ap (find (name_of d)) (sym x.scope) ∙ is in
      let said = known.continues x.number at d es (no_check (scope_of l x.number) (body_of l x.number) at d es continue_procedure rest.0 standard) standard in
      let kind = entry_kind (current (process_at s.processes q).calls).kind x.number x.kind said.0 in
      let w = holds.open_call q less (λ e. (let bad : ready ≡ unstarted = sym was ∙ e in cc)) in
      let fits = subst (λ (is : List Item). FramesFit (frames (process_at s.processes q).calls) is) e ((reached p (well_formed t ok) g s before).1.orderly.processes q less).fits in (
        kind,
        returns_nothing l w.0.component x.number x.numbers (frames w.1) items said.1
            (subst (λ (k : CallKind). FramesFit ((k, w.0.component) ∷ frames w.1) items) (sym (ap (λ (xs : List Call). (current xs).kind) w.2) ∙ kind) (subst (λ (xs : List Call). FramesFit (frames xs) items) w.2 fits)) rest.1,
      )
