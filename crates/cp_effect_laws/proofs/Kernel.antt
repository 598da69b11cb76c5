-- What the kernel does in an own monitor, for processes whose statuses are own.
use Rattle.std.proofs.Common.{◌≡◌, ◌∙◌, ℕ, suc, Bool, true, false, List, [], ◌∷◌, ◌++◌, map, Option, Some, None, ap, refl, sym, if◌then◌else◌}
use Rattle.std.specs.Prelude.{pos, slice_set, position}
use Rattle.std.proofs.lemmas.List.Quantifiers.{position-Some}
use Rattle.std.proofs.lemmas.Bool.{false≢true}
use Rattle.cp_machine.proofs.KernelLemmas.{position_map}
use Rattle.cp_machine.specs.declared.discipline.Gates.{Gates}
use Rattle.cp_machine.specs.declared.discipline.Gates.TheVariants.{First, Any}
use Rattle.cp_machine.specs.declared.discipline.Signals.{Signals}
use Rattle.cp_machine.specs.declared.discipline.Signals.TheVariants as signals
use Rattle.cp_machine.specs.declared.process.Status.{Status}
use Rattle.cp_machine.specs.declared.process.Status.TheVariants.{Ready, AtGate, Delayed}
use Rattle.cp_machine.specs.Kernel.{change_places, resume, delay_caller, enter_caller, enter_by, first_in, free, goes_in, join_line, let_in, let_in_by, one_in, go_on_inside, signal, signal_by, waits_in}
use Rattle.cp_machine.specs.Machine.{Machine, Thread, is_delayed_at, monitor_at, no_thread, thread_at, with_monitor, with_pending, with_permanents, with_status}
use Rattle.cp_effect_laws.specs.Footprint.{Footprint, laid_over, threads_by}
use Rattle.cp_effect_laws.proofs.Machines.{cell_laid, monitor_laid, monitor_read, status_laid}

-- each process of a line has an own status
abbrev pub AllOwn : (ℕ → Bool) → List ℕ → Type 0
AllOwn own [] = Unit {0}
AllOwn own (q ∷ qs) = (own q ≡ true) × AllOwn own qs

-- where nobody else waits at a cell, who waits there is the same
one_same : (cell : ℕ) (o : Bool) (x y : Status) → (is_delayed_at cell x ≡ true → o ≡ true) → (is_delayed_at cell y ≡ true → o ≡ true) → is_delayed_at cell (if o then x else y) ≡ is_delayed_at cell x
one_same cell true x y h k = refl
one_same cell false x y h k = both (is_delayed_at cell x) refl (is_delayed_at cell y) refl
  where
    both : (a : Bool) → is_delayed_at cell x ≡ a → (b : Bool) → is_delayed_at cell y ≡ b → is_delayed_at cell y ≡ is_delayed_at cell x
    both false e false g = g ∙ sym e
    both true e b g = absurd (false≢true (h e))
    both a e true g = absurd (false≢true (k g))

flags_same : (s b : ℕ → Bool) (cell : ℕ) (ts us : List Thread)
    → ((q : ℕ) → is_delayed_at cell (thread_at ts q).status ≡ true → s q ≡ true)
    → ((q : ℕ) → is_delayed_at cell (thread_at us q).status ≡ true → s q ≡ true)
    → map (λ t. is_delayed_at cell t.status) (threads_by s b ts us) ≡ map (λ t. is_delayed_at cell t.status) ts
flags_same s b cell [] us h k = refl
flags_same s b cell (t ∷ ts) [] h k = refl
flags_same s b cell (t ∷ ts) (u ∷ us) h k =
    ap (λ f. f ∷ map (λ t. is_delayed_at cell t.status) (threads_by (λ j. s (suc j)) (λ j. b (suc j)) ts us)) (one_same cell (s 0) t.status u.status (h 0) (k 0))
    ∙ ap (λ l. is_delayed_at cell t.status ∷ l) (flags_same (λ j. s (suc j)) (λ j. b (suc j)) cell ts us (λ q. h (suc q)) (λ q. k (suc q)))

pub waiter_same : (s b : ℕ → Bool) (cell : ℕ) (ts us : List Thread)
    → ((q : ℕ) → is_delayed_at cell (thread_at ts q).status ≡ true → s q ≡ true)
    → ((q : ℕ) → is_delayed_at cell (thread_at us q).status ≡ true → s q ≡ true)
    → position (λ t. is_delayed_at cell t.status) (threads_by s b ts us) ≡ position (λ t. is_delayed_at cell t.status) ts
waiter_same s b cell ts us h k =
    sym (position_map (λ (t : Thread). is_delayed_at cell t.status) (λ c. c) (threads_by s b ts us))
    ∙ ap (λ l. position (λ c. c) l) (flags_same s b cell ts us h k)
    ∙ position_map (λ (t : Thread). is_delayed_at cell t.status) (λ c. c) ts

-- ---- the kernel in an own monitor

module _ (f : Footprint) (n : Machine) (k : ℕ) (here : f.monitors k ≡ true) where
  abbrev laid : Machine → Machine
  laid m = laid_over f m n

  freed_laid : (m : Machine) (line : List ℕ) → free (laid m) k line ≡ laid (free m k line)
  freed_laid m line = monitor_laid f n m k (record { holder = None; line = line }) here

  pub goes_in_laid : (m : Machine) (q : ℕ) (line : List ℕ) → f.statuses q ≡ true → goes_in (laid m) k q line ≡ laid (goes_in m k q line)
  goes_in_laid m q line own =
      ap (λ x. with_monitor x k (record { holder = Some q; line = line })) (status_laid f n m q Ready own)
      ∙ monitor_laid f n (with_status m q Ready) k (record { holder = Some q; line = line }) here

  first_laid : (m : Machine) (line : List ℕ) → AllOwn f.statuses line → first_in (laid m) k line ≡ laid (first_in m k line)
  first_laid m [] own = freed_laid m []
  first_laid m (q ∷ line) own = goes_in_laid m q line own.0

  one_laid : (m : Machine) (line : List ℕ) → AllOwn f.statuses line → one_in (laid m) k line ≡ laid (one_in m k line)
  one_laid m [] own = freed_laid m []
  one_laid m (q ∷ []) own = goes_in_laid m q [] own.0
  one_laid m (p ∷ q ∷ line) own = ap (λ x. with_pending x (Some k)) (freed_laid m (p ∷ q ∷ line))

  by_laid : (g : Gates) (m : Machine) (line : List ℕ) → AllOwn f.statuses line → let_in_by g (laid m) k line ≡ laid (let_in_by g m k line)
  by_laid First m line own = first_laid m line own
  by_laid Any m line own = one_laid m line own

  pub let_in_laid : (m : Machine) → AllOwn f.statuses (monitor_at m k).line → let_in (laid m) k ≡ laid (let_in m k)
  let_in_laid m own = ap (λ x. let_in_by m.discipline.gates (laid m) k x.line) (monitor_read f n m k here) ∙ by_laid m.discipline.gates m (monitor_at m k).line own

  -- the caller's status is own
  module _ (p : ℕ) (status : f.statuses p ≡ true) where
    entered_by_laid : (m : Machine) (holder : Option ℕ) → enter_by holder (laid m) p k ≡ laid (enter_by holder m p k)
    entered_by_laid m None =
        ap (λ x. with_monitor (laid m) k (record { holder = Some p; line = x.line })) (monitor_read f n m k here)
        ∙ monitor_laid f n m k (record { holder = Some p; line = (monitor_at m k).line }) here
    entered_by_laid m (Some q) =
        ap (λ x. with_monitor (with_status (laid m) p (AtGate k)) k (record { holder = Some q; line = x.line ++ p ∷ [] })) (monitor_read f n m k here)
        ∙ ap (λ x. with_monitor x k (record { holder = Some q; line = (monitor_at m k).line ++ p ∷ [] })) (status_laid f n m p (AtGate k) status)
        ∙ monitor_laid f n (with_status m p (AtGate k)) k (record { holder = Some q; line = (monitor_at m k).line ++ p ∷ [] }) here

    pub entered_laid : (m : Machine) → enter_caller (laid m) p k ≡ laid (enter_caller m p k)
    entered_laid m = ap (λ x. enter_by x.holder (laid m) p k) (monitor_read f n m k here) ∙ entered_by_laid m (monitor_at m k).holder

    pub delayed_laid : (m : Machine) (cell : ℕ) → f.cells cell ≡ true → AllOwn f.statuses (monitor_at m k).line → delay_caller (laid m) p k cell ≡ laid (delay_caller m p k cell)
    delayed_laid m cell own line =
        let marked = with_permanents m (slice_set m.permanents cell (pos 1)) in
        ap (λ x. let_in (with_status x p (Delayed cell)) k) (cell_laid f n m cell (pos 1) own)
        ∙ ap (λ x. let_in x k) (status_laid f n marked p (Delayed cell) status)
        ∙ let_in_laid (with_status marked p (Delayed cell)) line

  -- who waits in a queue has an own status
  module _ (m : Machine) (cell : ℕ) (own : f.cells cell ≡ true)
      (mine : (q : ℕ) → is_delayed_at cell (thread_at m.threads q).status ≡ true → f.statuses q ≡ true)
      (theirs : (q : ℕ) → is_delayed_at cell (thread_at n.threads q).status ≡ true → f.statuses q ≡ true) where
    waits_laid : waits_in (laid m) cell ≡ waits_in m cell
    waits_laid = waiter_same f.statuses f.bodies cell m.threads n.threads mine theirs

    waiter_own : (q : ℕ) → waits_in m cell ≡ Some q → f.statuses q ≡ true
    waiter_own q is = mine q (position-Some (λ (t : Thread). is_delayed_at cell t.status) m.threads q no_thread is).1

    abbrev emptied : Machine
    emptied = with_permanents m (slice_set m.permanents cell (pos 0))

    resumed_laid : (w : Option ℕ) → waits_in m cell ≡ w → AllOwn f.statuses (monitor_at m k).line → go_on_inside w (laid emptied) k ≡ laid (go_on_inside w emptied k)
    resumed_laid None is line = let_in_laid emptied line
    resumed_laid (Some q) is line = ap (λ x. goes_in (laid emptied) k q x.line) (monitor_read f n emptied k here) ∙ goes_in_laid emptied q (monitor_at m k).line (waiter_own q is)

    pub continued_laid : AllOwn f.statuses (monitor_at m k).line → resume (laid m) k cell ≡ laid (resume m k cell)
    continued_laid line =
        ap (λ w. go_on_inside w (with_permanents (laid m) (slice_set (laid m).permanents cell (pos 0))) k) waits_laid
        ∙ ap (λ x. go_on_inside (waits_in m cell) x k) (cell_laid f n m cell (pos 0) own)
        ∙ resumed_laid (waits_in m cell) refl line

    module _ (p : ℕ) (status : f.statuses p ≡ true) where
      joined_laid : (q : ℕ) → f.statuses q ≡ true → join_line (laid emptied) k q ≡ laid (join_line emptied k q)
      joined_laid q own_status =
          ap (λ x. with_monitor (with_status (laid emptied) q (AtGate k)) k (record { holder = x.holder; line = x.line ++ q ∷ [] })) (monitor_read f n emptied k here)
          ∙ ap (λ x. with_monitor x k (record { holder = (monitor_at m k).holder; line = (monitor_at m k).line ++ q ∷ [] })) (status_laid f n emptied q (AtGate k) own_status)
          ∙ monitor_laid f n (with_status emptied q (AtGate k)) k (record { holder = (monitor_at m k).holder; line = (monitor_at m k).line ++ q ∷ [] }) here

      changed_laid : (q : ℕ) → f.statuses q ≡ true → change_places (laid emptied) k p q ≡ laid (change_places emptied k p q)
      changed_laid q own_status =
          ap (λ x. goes_in (with_status (laid emptied) p (AtGate k)) k q (p ∷ x.line)) (monitor_read f n emptied k here)
          ∙ ap (λ x. goes_in x k q (p ∷ (monitor_at m k).line)) (status_laid f n emptied p (AtGate k) status)
          ∙ goes_in_laid (with_status emptied p (AtGate k)) q (p ∷ (monitor_at m k).line) own_status

      signalled_by_laid : (g : Signals) (w : Option ℕ) → waits_in m cell ≡ w → signal_by g w (laid emptied) p k ≡ laid (signal_by g w emptied p k)
      signalled_by_laid g None is = refl
      signalled_by_laid signals.Wait (Some q) is = changed_laid q (waiter_own q is)
      signalled_by_laid signals.Return (Some q) is = joined_laid q (waiter_own q is)
      signalled_by_laid signals.Continue (Some q) is = joined_laid q (waiter_own q is)

      pub signalled_laid : signal (laid m) p k cell ≡ laid (signal m p k cell)
      signalled_laid =
          ap (λ w. signal_by m.discipline.signals w (with_permanents (laid m) (slice_set (laid m).permanents cell (pos 0))) p k) waits_laid
          ∙ ap (λ x. signal_by m.discipline.signals (waits_in m cell) x p k) (cell_laid f n m cell (pos 0) own)
          ∙ signalled_by_laid m.discipline.signals (waits_in m cell) refl
