-- In every step each changed variable is one that the process holds.
use Rattle.std.proofs.Common.{◌≡◌, ℕ, ◌<◌, ◌≤◌, ◌==◌, ◌∙◌, ◌⊎◌, inl, inr, Bool, true, false, ◌&&◌, List, [], ◌∷◌, length, Option, Some, None, Ok, Err, ap, sym, refl, subst, arith, eqb-true}
use Rattle.cp_tree.specs.declared.declaration.SystemKind.TheVariants as system_kind
use Rattle.cp_meaning.proofs.Words.{Program, Outcome, content_of, Move, starts, Doing, takes, line_of, IsExclusive, IsWellFormed}
use Rattle.cp_meaning.specs.State.{Holder, in_call, in_component, Component, component_at, CallKind, own_statement, local_routine, Call, Item, ready, unstarted, Process, process_at, Discipline, State, has_entry, initialises}
use Rattle.cp_meaning.specs.Steps.{first_components, opening, settled, step_of, without, admitted_to, admitted, IsReached, at_first, by_step, by_admission, by_forgetting}
use Rattle.cp_meaning.specs.Ownership.{owner_of, HoldsComponent, HoldsPlace, HoldsCalls, below_or_same, CallsDescend, IsLawfulProcess, IsLawful, VariablesKept}
use Rattle.cp_meaning.specs.OwnershipLaw.{Ownership}
use Rattle.cp_meaning.proofs.Frames.{Frame, frames, entry_in, initial_in, entry-frames, fit-initial, Above, Descends}
use Rattle.cp_meaning.proofs.Good.{NonEmpty, Good, GoodOutcome, or_cases}
use Rattle.cp_meaning.proofs.Orderly.{ProcessFits}
use Rattle.cp_meaning.proofs.LineLaw.{OrderlyState}
use Rattle.cp_meaning.proofs.Exclusion.{opening_orderly, outcome_law, item_law, admitted_law, orderly_exclusive}
use Rattle.cp_meaning.proofs.ComponentTree.{owner_same, Distinct, ContainedEarlier}
use Rattle.cp_meaning.proofs.Held.{HeldBy, HeldPlace, HeldCalls, Bottom, held_more, length-frames}
use Rattle.cp_meaning.proofs.OwnLocal.{OwnedBy, there_below, takes_owned}
use Rattle.cp_meaning.proofs.OwnKernel.{OwnedProcess, OwnedState, Keeps, keeps_all, goes_in, StartsProcess, kernel_step_owned}
use Rattle.cp_meaning.proofs.OwnChanges.{step_changes}
use Rattle.cp_meaning.proofs.OwnOpening.{first_kinds, opening_owned}

-- ---- from what is held to the definition

module _ (base : List Component) (s : State) (owned : OwnedState base s) (x : Process) (fits : ProcessFits s.components x) where
  holds_from : (n : ℕ) → HeldBy base x.component (frames x.calls) n → HoldsComponent s x n
  holds_from n h =
      subst (λ o. (o ≡ x.component) ⊎ (((component_at s.components o).kind ≡ system_kind.Monitor) × ((has_entry o x.calls ≡ true) ⊎ (initialises o x ≡ true)))) (sym (owner_same base s.components n owned.tree)) (go h)
    where
      o : ℕ
      o = owner_of base n

      inner : (entry_in (owner_of base n) (frames x.calls) ≡ true) ⊎ (initial_in (owner_of base n) (frames x.calls) ≡ true) → (has_entry (owner_of base n) x.calls ≡ true) ⊎ (initialises (owner_of base n) x ≡ true)
      inner (inl k) = inl (entry-frames (owner_of base n) x.calls ∙ k)
      inner (inr k) = inr (fit-initial (owner_of base n) (frames x.calls) x.items fits.fits ∙ k)

      go : HeldBy base x.component (frames x.calls) n → (owner_of base n ≡ x.component) ⊎ (((component_at s.components (owner_of base n)).kind ≡ system_kind.Monitor) × ((has_entry (owner_of base n) x.calls ≡ true) ⊎ (initialises (owner_of base n) x ≡ true)))
      go (inl k) = inl k
      go (inr k) = inr (owned.tree.kind (owner_of base n) ∙ k.0, inner k.1)

  place_from : (fs : List Frame) (h : Holder) → ((n : ℕ) → HeldBy base x.component fs n → HoldsComponent s x n) → length fs ≤ length x.calls → HeldPlace base x.component fs h → HoldsPlace s x h
  place_from fs (in_call b) lift size k = omega arith
  place_from fs (in_component n) lift size k = lift n k

  calls_from : (calls : List Call) → HeldCalls base x.component calls → ((n : ℕ) → HeldBy base x.component (frames calls) n → HoldsComponent s x n) → length (frames calls) ≤ length x.calls → HoldsCalls s x calls
  calls_from [] h lift size = tt
  calls_from (c ∷ calls) h lift size =
      let lift_rest : (n : ℕ) → HeldBy base x.component (frames calls) n → HoldsComponent s x n = λ n k. lift n (held_more base x.component (c.kind, c.component) (frames calls) n k) in
      (lift c.component h.0, (λ y q t. place_from (frames calls) q.holder lift_rest (omega arith) (h.2 y q t)), calls_from calls h.3 lift_rest (omega arith))

  and_right : (a b : Bool) → (a && b) ≡ true → b ≡ true
  and_right true b h = h
  and_right false b h = cc

  initial_held : (m : ℕ) (calls : List Call) → HeldCalls base x.component calls → initial_in m (frames calls) ≡ true → HeldBy base x.component (frames calls) m
  initial_held m [] h e = absurd (let bad : false ≡ true = e in cc)
  initial_held m (c ∷ calls) h e = go (or_cases _ (initial_in m (frames calls)) e) (initial_held m calls h.3)
    where
      go : ((Rattle.cp_meaning.proofs.Frames.is_initial_kind c.kind && c.component == m) ≡ true) ⊎ (initial_in m (frames calls) ≡ true) → (initial_in m (frames calls) ≡ true → HeldBy base x.component (frames calls) m) → HeldBy base x.component (frames (c ∷ calls)) m
      go (inl k) rest = subst (HeldBy base x.component (frames (c ∷ calls))) (eqb-true c.component m (and_right _ (c.component == m) k)) h.0
      go (inr k) rest = held_more base x.component (c.kind, c.component) (frames calls) m (rest k)

  above_or_same : (k : CallKind) (n outer : ℕ) → Above s.components k n outer → below_or_same s.components n outer
  above_or_same own_statement n outer h = absurd h
  above_or_same local_routine n outer h = inl h
  above_or_same _ n outer h = inr h

  descend_from : (calls : List Call) → Descends s.components (frames calls) → Bottom x.component (frames calls) → CallsDescend s.components x.component calls
  descend_from [] h b = tt
  descend_from (c ∷ []) h b = inl b
  descend_from (c ∷ d ∷ calls) h b = (above_or_same c.kind c.component d.component h.0, descend_from (d ∷ calls) h.1 b)

  lawful_process : OwnedProcess base x → IsLawfulProcess s x
  lawful_process o =
      record {
        calls = calls_from x.calls o.held holds_from (let same = length-frames x.calls in omega arith);
        started = λ m h. holds_from m (initial_held m x.calls o.held (sym (fit-initial m (frames x.calls) x.items fits.fits) ∙ h));
        order = descend_from x.calls fits.order o.bottom;
      }

lawful_from : (base : List Component) (s : State) → OwnedState base s → OrderlyState s → IsLawful s
lawful_from base s owned orderly =
    record {
      processes = λ q lt. lawful_process base s owned (process_at s.processes q) (orderly.orderly.processes q lt) (owned.processes q lt);
      classes = λ n d x t class. owner_same base s.components d owned.tree ∙ owned.classes n d x t (sym (owned.tree.kind d) ∙ class) ∙ sym (owner_same base s.components n owned.tree);
    }

-- ---- steps

module _ (p : Program) (ok : IsWellFormed p) where
  abbrev base : List Component
  base = first_components p

  pub distinct : Distinct base
  distinct n m = ok.paths n m

  pub contained : ContainedEarlier base
  contained n m t = ok.contained_earlier n m t

  module _ (s : State) (pid : ℕ) (owned : OwnedState base s) (orderly : OrderlyState s) (lt : pid < length s.processes) (is_ready : (process_at s.processes pid).status ≡ ready) where
    abbrev x : Process
    x = process_at s.processes pid

    pub both : (calls : List Call) (items : List Item) → x.calls ≡ calls → x.items ≡ items → NonEmpty (frames calls) → HeldCalls base x.component calls → Bottom x.component (frames calls) →
        GoodOutcome s.components (frames calls) (takes (record { program = p; calls = calls; components = s.components }) pid items) × OwnedBy base x.component (takes (record { program = p; calls = calls; components = s.components }) pid items)
    both [] items e i some held bottom = absurd some
    both (c ∷ calls) items e i some held bottom = (
      item_law p s.components c calls items pid x e i (orderly.orderly.processes pid lt) (there_below p c calls s.components pid x.component base owned.tree distinct (first_kinds p) ok.class_parameters contained ok.parameters_earlier owned.earlier held bottom owned.classes),
      takes_owned p c calls s.components pid x.component base owned.tree distinct (first_kinds p) ok.class_parameters contained ok.parameters_earlier owned.earlier held bottom owned.classes items,
    )

    -- what a step to t keeps
    record Result (t : State) : Type 0 where
      owned_after : OwnedState base t
      orderly_after : OrderlyState t

    pub starts_process : (d : Doing) (move : Move) → Good s.components (frames x.calls) (frames d.calls) d.components d.items move → StartsProcess p s pid base owned lt is_ready d move
    starts_process d (starts c e) good = good.layout.kind c ∙ good.moves.1
    starts_process d _ good = tt

    module _ (none : s.pending ≡ None) where
      settled_result : (o : Outcome Doing) → GoodOutcome s.components (frames x.calls) o × OwnedBy base x.component o → Result (settled p s pid o).state
      settled_result (Ok d) h = record { owned_after = kernel_step_owned p s pid base owned lt is_ready d d.move h.1 (starts_process d d.move h.0); orderly_after = outcome_law p s pid (Ok d) orderly none lt is_ready h.0 }
      settled_result (Err e) h = record { owned_after = owned; orderly_after = orderly }

      step_result : Result (step_of p s pid).state
      step_result =
          let f = orderly.orderly.processes pid lt in
          let some = f.open_calls (λ h. (let bad : ready ≡ unstarted = sym is_ready ∙ h in cc)) in
          let o = owned.processes pid lt in
          settled_result _ (both x.calls x.items refl refl some o.held o.bottom)

  admitted_keeps : (s : State) (q : ℕ) (o : Option ℕ) → Keeps base s (admitted_to o s q)
  admitted_keeps s q None = keeps_all base s
  admitted_keeps s q (Some m) =
      let k = goes_in base s m q (without q (line_of s m)) in
      record { owned = λ h. (let o = k.owned h in record { tree = o.tree; classes = o.classes; earlier = o.earlier; processes = o.processes }); variables = k.variables; calls = k.calls }

  admission_keeps : (s : State) (q : ℕ) → VariablesKept s (admitted s q)
  admission_keeps s q = let k = admitted_keeps s q s.pending in ((λ n y ne. ne (ap (content_of y) (sym (k.variables n).0))), k.calls)

  -- ---- reached states

  pub reached : (g : Discipline) (s : State) → IsReached p g s → OwnedState base s × OrderlyState s
  reached g _ at_first = (opening_owned p g, opening_orderly p g)
  reached g _ (by_step s pid before none lt is_ready) =
      let old = reached g s before in
      let r = step_result s pid old.0 old.1 lt is_ready none in
      (r.owned_after, r.orderly_after)
  reached g _ (by_admission s m q before is member) =
      let old = reached g s before in
      ((admitted_keeps s q s.pending).owned old.0, admitted_law s m q s.pending old.1 is is member)
  reached g _ (by_forgetting s before) =
      let old = reached g s before in
      (record { tree = old.0.tree; classes = old.0.classes; earlier = old.0.earlier; processes = old.0.processes }, record { orderly = old.1.orderly; pending = old.1.pending })

  pub lawful : (g : Discipline) (s : State) → IsReached p g s → IsLawful s
  lawful g s before = let old = reached g s before in lawful_from base s old.0 old.1

  pub exclusive : (g : Discipline) (s : State) → IsReached p g s → IsExclusive s
  exclusive g s before = orderly_exclusive s (reached g s before).1

  pub ownership : (g : Discipline) → Ownership p g
  ownership g =
      record {
        opening_lawful = lawful g (opening p g) at_first;
        steps_lawful = λ s pid before law none lt is_ready. lawful g _ (by_step s pid before none lt is_ready);
        admissions_lawful = λ s m q before law is member. lawful g _ (by_admission s m q before is member);
        changes_held = λ s pid law none lt is_ready. (step_changes p s pid lt (law.processes pid lt).calls).held;
        others_kept = λ s pid law none lt is_ready. (step_changes p s pid lt (law.processes pid lt).calls).others;
        admissions_keep = λ s m q law is member. admission_keeps s q;
      }
