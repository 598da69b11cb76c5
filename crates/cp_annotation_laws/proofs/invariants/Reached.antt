-- The opening state, each step and each admission keep the invariants of the components that nobody is inside.
use Rattle.std.proofs.Common.{◌≡◌, ◌∙◌, ◌⊎◌, inl, inr, ℕ, zero, suc, ◌<◌, true, false, List, [], ◌∷◌, length, map, Option, Some, None, Ok, Err, sym, refl, subst, arith}
use Rattle.cp_tree.specs.declared.declaration.SystemKind.{SystemKind}
use Rattle.cp_tree.specs.declared.declaration.SystemKind.TheVariants as system_kind
use Rattle.cp_tree.specs.Syntax.{Program}
use Rattle.cp_meaning.specs.Components.{Listed, components_of}
use Rattle.cp_meaning.specs.Outcome.{Outcome}
use Rattle.cp_meaning.specs.Systems.{SystemMeaning, system_of}
use Rattle.cp_meaning.specs.State.{refers, uninitialised, initialised, Component, component_at, Call, unstarted, ready, Process, process_at, Place, Discipline, State}
use Rattle.cp_meaning.specs.Move.{Doing}
use Rattle.cp_meaning.specs.Kernel.{begun, line_of, with_line_of, made_ready}
use Rattle.cp_meaning.specs.Steps.{first_component, unstarted_process, process_first, processes_from, own_begun, first_components, opening, settled, step_of, view_of, without, admitted_to, admitted, IsReached, at_first, by_step, by_admission, by_forgetting}
use Rattle.cp_meaning.specs.LocalRules.{takes}
use Rattle.cp_meaning.specs.Places.{View, component_there}
use Rattle.cp_meaning.specs.WellFormed.{IsWellFormed}
use Rattle.cp_meaning.proofs.Frames.{frames, entry_in, entry-frames, ItemsFit}
use Rattle.cp_meaning.proofs.Good.{GoodOutcome}
use Rattle.cp_meaning.proofs.OwnershipLemmas.{both, reached}
use Rattle.cp_meaning.proofs.Taken.{AllOf}
use Rattle.cp_annotation_laws.specs.Invariants.{InvariantsHold}
use Rattle.cp_annotation_laws.proofs.invariants.Changing.{CallsWithin, Changes, takes_changes}
use Rattle.cp_annotation_laws.proofs.invariants.Checking.{check_goes_on}
use Rattle.cp_annotation_laws.proofs.invariants.Guarded.{outlines, Guarded, own_guarded}
use Rattle.cp_annotation_laws.proofs.invariants.Keeping.{CallKnown, StateKnown, Keeps, kept_state, stepped}
use Rattle.cp_annotation_laws.proofs.invariants.Kept.{KeptState, kept_itself, same_but_lines, state_itself, state_after, goes_kept, pending_kept}
use Rattle.cp_annotation_laws.proofs.invariants.Kernel.{Done, kernel_done}
use Rattle.cp_annotation_laws.proofs.invariants.Standing.{BlocksKnown, Standing, InCheck}
use Rattle.cp_annotation_laws.proofs.invariants.Stepping.{Steps, takes_steps}

-- ---- the opening state

record IsNew (x : Process) : Type 0 where
  guarded : Guarded false (outlines x.calls) x.items
  within : CallsWithin x.calls
  closed : x.status ≡ unstarted → x.calls ≡ []

AllNew : List Process → Type 0
AllNew ps = (q : ℕ) → q < length ps → IsNew (process_at ps q)

unstarted_new : (n : ℕ) → IsNew (unstarted_process n)
unstarted_new n = record { guarded = tt; within = tt; closed = λ h. refl }

begun_new : (n : ℕ) (m : SystemMeaning) → IsNew (begun n m)
begun_new n m = record { guarded = own_guarded m.scope m.body; within = ((λ x q h. absurd (let bad : None ≡ Some (refers q) = h in cc)), tt); closed = λ h. absurd (let bad : ready ≡ unstarted = h in cc) }

new_more : (x : Process) (ps : List Process) → IsNew x → AllNew ps → AllNew (x ∷ ps)
unfolding AllNew
new_more x ps h k zero lt = h
new_more x ps h k (suc q) lt = k q (omega arith)

new_first : (k : SystemKind) (n : ℕ) (ps : List Process) → AllNew ps → AllNew (process_first k n ps)
new_first system_kind.Process n ps h = new_more (unstarted_process n) ps (unstarted_new n) h
new_first system_kind.Class n ps h = h
new_first system_kind.Monitor n ps h = h

new_from : (ds : List Component) (n : ℕ) → AllNew (processes_from n ds)
unfolding AllNew
new_from [] n = λ q lt. absurd (omega arith)
new_from (d ∷ ds) n = new_first d.kind n (processes_from (suc n) ds) (new_from ds (suc n))

new_tail : (x : Process) (ps : List Process) → AllNew (x ∷ ps) → AllNew ps
unfolding AllNew
new_tail x ps h = λ q lt. h (suc q) (omega arith)

new_begun : (p : Program) (ds : List Component) (ps : List Process) → AllNew ps → AllNew (own_begun p ds ps)
new_begun p (d ∷ ds) (q ∷ ps) h = new_more (begun 0 (system_of p d.system)) ps (begun_new 0 (system_of p d.system)) (new_tail q ps h)
new_begun p [] ps h = h
new_begun p (d ∷ ds) [] h = h

no_status : (p : Program) (ls : List Listed) (n : ℕ) → (component_at (map (first_component p) ls) n).status ≡ uninitialised
no_status p [] n = refl
no_status p (l ∷ ls) zero = refl
no_status p (l ∷ ls) (suc n) = no_status p ls n

opening_keeps : (p : Program) (g : Discipline) → Keeps p (opening p g)
unfolding AllNew
opening_keeps p g =
    let all : AllNew (opening p g).processes = new_begun p (first_components p) (processes_from 0 (first_components p)) (new_from (first_components p) 0) in
    record {
      stands = λ q lt. inl (all q lt).guarded;
      within = λ q lt. (all q lt).within;
      closed = λ q lt. (all q lt).closed;
      holds = λ n e nobody. absurd (let bad : uninitialised ≡ initialised = sym (no_status p (components_of p) n) ∙ e in cc);
    }

-- ---- steps

module _ (p : Program) (known : BlocksKnown p) (ok : IsWellFormed p) (g : Discipline) (each : (s : State) → IsReached p g s → StateKnown p s) where
  module _ (s : State) (pid : ℕ) (before : IsReached p g s) (none : s.pending ≡ None) (lt : pid < length s.processes) (was : (process_at s.processes pid).status ≡ ready) (old : Keeps p s) where
    abbrev cs : List Component
    cs = s.components

    abbrev x : Process
    x = process_at s.processes pid

    k : StateKnown p s
    k = each s before

    never : {A : Type 0} → false ≡ true → A
    never h = absurd (let bad : false ≡ true = h in cc)

    module _ (c : Call) (rest : List Call) (e : (process_at s.processes pid).calls ≡ c ∷ rest) where
      abbrev v : View
      v = record { program = p; calls = c ∷ rest; components = cs }

      kc : CallKnown p s c rest (process_at s.processes pid).items
      kc = k.calls pid c rest lt was e

      fits : ItemsFit (frames (c ∷ rest)) (process_at s.processes pid).items
      fits = subst (λ ks. ItemsFit (frames ks) (process_at s.processes pid).items) e (k.orderly.orderly.processes pid lt).fits

      fresh : (q : Place) → ((component_at cs (component_there v q)).kind ≡ system_kind.Process → ⊥) → entry_in (component_there v q) (frames (c ∷ rest)) ≡ false
      fresh q = subst (λ ks. ((component_at cs (component_there (record { program = p; calls = ks; components = cs }) q)).kind ≡ system_kind.Process → ⊥) → entry_in (component_there (record { program = p; calls = ks; components = cs }) q) (frames ks) ≡ false) e
          (λ h. sym (entry-frames (component_there (view_of p s pid) q) (process_at s.processes pid).calls) ∙ k.fresh pid q lt was h)

      by_check : InCheck p cs (c ∷ rest) (process_at s.processes pid).items → AllOf (Steps p cs (frames (c ∷ rest))) (takes v pid (process_at s.processes pid).items)
      by_check y =
          subst (λ ks. AllOf (Steps p cs (frames ks)) (takes (record { program = p; calls = ks; components = cs }) pid (process_at s.processes pid).items)) (sym y.calls_are)
          (check_goes_on p cs pid y.component y.around y.after y.top y.guarded (process_at s.processes pid).items y.next)

      steps_by : Standing p (process_at s.processes pid).status cs (c ∷ rest) (process_at s.processes pid).items → AllOf (Steps p cs (frames (c ∷ rest))) (takes v pid (process_at s.processes pid).items)
      steps_by (inl y) = takes_steps p known c rest cs pid kc.of_block fresh false (λ h. never h) (process_at s.processes pid).items kc.asked fits y
      steps_by (inr (z, inl y)) = takes_steps p known c rest cs pid kc.of_block fresh true (λ h. y.1) (process_at s.processes pid).items kc.asked fits y.0
      steps_by (inr (z, inr y)) = by_check y

      steps_there : AllOf (Steps p cs (frames (c ∷ rest))) (takes v pid (process_at s.processes pid).items)
      steps_there = steps_by (subst (λ ks. Standing p (process_at s.processes pid).status cs ks (process_at s.processes pid).items) e (old.stands pid lt))

      changes_there : AllOf (Changes cs (frames (c ∷ rest))) (takes v pid (process_at s.processes pid).items)
      changes_there = takes_changes p c rest cs pid (subst CallsWithin e (old.within pid lt)) (process_at s.processes pid).items

      all_steps : AllOf (Steps p cs (frames (process_at s.processes pid).calls)) (takes (view_of p s pid) pid (process_at s.processes pid).items)
      all_steps = subst (λ ks. AllOf (Steps p cs (frames ks)) (takes (record { program = p; calls = ks; components = cs }) pid (process_at s.processes pid).items)) (sym e) steps_there

      all_changes : AllOf (Changes cs (frames (process_at s.processes pid).calls)) (takes (view_of p s pid) pid (process_at s.processes pid).items)
      all_changes = subst (λ ks. AllOf (Changes cs (frames ks)) (takes (record { program = p; calls = ks; components = cs }) pid (process_at s.processes pid).items)) (sym e) changes_there

    good : GoodOutcome cs (frames x.calls) (takes (view_of p s pid) pid x.items)
    good =
        let r = reached p ok g s before in
        let some = (r.1.orderly.processes pid lt).open_calls (λ h. (let bad : ready ≡ unstarted = sym was ∙ h in cc)) in
        (both p ok s pid r.0 r.1 lt was x.calls x.items refl refl some (r.0.processes pid lt).held (r.0.processes pid lt).bottom).0

    settled_keeps : (o : Outcome Doing) → takes (view_of p s pid) pid x.items ≡ o → AllOf (Steps p cs (frames x.calls)) o → AllOf (Changes cs (frames x.calls)) o → GoodOutcome cs (frames x.calls) o → Keeps p (settled p s pid o).state
    settled_keeps (Err e) is steps changes fine = old
    settled_keeps (Ok d) is steps changes fine = go (kernel_done p s pid lt was d steps changes d.move refl)
      where
        t : State
        t = (settled p s pid (Ok d)).state

        met : IsReached p g (settled p s pid (Ok d)).state
        met = subst (λ o. IsReached p g (settled p s pid o).state) is (by_step s pid before none lt was)

        sizes : length (settled p s pid (Ok d)).state.components ≡ length cs
        sizes = (let w = each (settled p s pid (Ok d)).state met in w.size ∙ sym k.size)

        silent : (n : ℕ) → n < length cs → (component_at cs n).kind ≡ system_kind.Process → InvariantsHold p (settled p s pid (Ok d)).state.components n
        silent n l e = (let w = each (settled p s pid (Ok d)).state met in w.silent n (subst (λ m. n < m) (sym sizes) l) (w.kinds n ∙ (sym (k.kinds n) ∙ e)))

        go : ((settled p s pid (Ok d)).state ≡ s) ⊎ Done p s pid lt was d.components (settled p s pid (Ok d)).state → Keeps p (settled p s pid (Ok d)).state
        go (inl e) = subst (Keeps p) (sym e) old
        go (inr done) = stepped p known s k pid lt was old d steps changes fine.layout.system fine.layout.kind (settled p s pid (Ok d)).state sizes silent done

    step_keeps : Keeps p (step_of p s pid).state
    step_keeps =
        let w = k.open_call pid lt (λ h. (let bad : ready ≡ unstarted = sym was ∙ h in cc)) in
        settled_keeps (takes (view_of p s pid) pid x.items) refl (all_steps w.0 w.1 w.2) (all_changes w.0 w.1 w.2) good

  -- ---- admissions

  admitted_kept : (s : State) (q : ℕ) (o : Option ℕ) → KeptState s (admitted_to o s q)
  admitted_kept s q None = state_itself s
  admitted_kept s q (Some m) =
      let t : State = with_line_of (made_ready s q) m (without q (line_of s m)) in
      state_after s t (admitted_to (Some m) s q) (goes_kept s m q (without q (line_of s m))) (pending_kept t None)

  forgotten : (s : State) → KeptState s (record s { output = [] })
  forgotten s = record { processes = λ q. kept_itself (process_at s.processes q); count = refl; components = same_but_lines s.components }

  pub reached_keeps : (s : State) → IsReached p g s → Keeps p s
  reached_keeps _ at_first = opening_keeps p g
  reached_keeps _ (by_step s pid before none lt was) = step_keeps s pid before none lt was (reached_keeps s before)
  reached_keeps _ (by_admission s m q before is member) = kept_state p known s (each s before) (admitted s q) (admitted_kept s q s.pending) (reached_keeps s before)
  reached_keeps _ (by_forgetting s before) = kept_state p known s (each s before) (record s { output = [] }) (forgotten s) (reached_keeps s before)
