-- The entry call that has just begun is the same on names and on slots, and its monitor has one number.
use Rattle.std.proofs.Common.{◌≡◌, ◌∙◌, ℕ, ◌<◌, ◌==◌, Bool, true, false, List, [], ◌∷◌, Option, ap, sym, refl, subst, arith, length, eq-eqb}
use Rattle.std.proofs.lemmas.Bool.{eqb-true}
use Rattle.std.proofs.lemmas.List.Sums.{position_or_len_is}
use Rattle.std.specs.Prelude.{slice_get, slice_index_or, unwrap_or}
use Rattle.cp_tree.specs.declared.declaration.SystemKind.{SystemKind}
use Rattle.cp_tree.specs.declared.declaration.SystemKind.TheVariants as system_kind
use Rattle.cp_tree.specs.Syntax.{Tree}
use Rattle.cp_slots.specs.declared.tables.ComponentKind.{ComponentKind}
use Rattle.cp_slots.specs.declared.tables.ComponentKind.TheVariants as kind
use Rattle.cp_slots.specs.Tables.{Tables, component_at}
use Rattle.cp_store.specs.declared.memory.Frame.{Frame}
use Rattle.cp_machine.specs.declared.process.Entry.{Entry}
use Rattle.cp_machine.specs.declared.process.Entry.TheVariants.{Rest, Successor, Return, InitEnd}
use Rattle.cp_machine.specs.declared.process.Status as slot_status
use Rattle.cp_machine.specs.declared.process.Status.TheVariants as status
use Rattle.cp_legend.specs.Names.{Legend, name_of_routine}
use Rattle.cp_machine.specs.Machine.{Machine, thread_at}
use Rattle.cp_meaning.specs.Names.{Name}
use Rattle.cp_meaning.specs.Readings.{monitors_of}
use Rattle.cp_meaning.specs.State as named
use Rattle.cp_meaning.specs.State.{CallKind, entry_routine, initial_statement, own_statement, Call, current, Item, Discipline, State, Status, unstarted, ready, at_gate, delayed, ended, Process, book_discipline}
use Rattle.cp_meaning.specs.Steps.{opening, first_components}
use Rattle.cp_meaning.proofs.LocalLaw.{within}
use Rattle.cp_meaning_laws.specs.Accepted.{IsAccepted}
use Rattle.cp_resolved.specs.Layouts.{Layouts}
use Rattle.cp_resolved.specs.Resolved.{KindIs, Stands}
use Rattle.cp_machine_laws.specs.Kinds.{SameKind}
use Rattle.cp_machine_laws.specs.Law.{Simulates, ground_of}
use Rattle.cp_machine_laws.specs.Represents as slots
use Rattle.cp_machine_laws.specs.Represents.{CallsHold, Runs, StackIs, StatusIs, own_memory}
use Rattle.cp_machine_laws.proofs.HoldsInReached.{HoldsInReached, reached_stands}
use Rattle.cp_machine_laws.proofs.ReachedKinds.{kinds_agree, monitor_there, monitor_known}
use Rattle.cp_machine_laws.proofs.control.Control.{call_scope, top_frame}
use Rattle.cp_machine_laws.proofs.gates.MonitorNumbers.{one_number}
use Rattle.cp_story.specs.Story as story
use Rattle.cp_story_laws.specs.Events.{EntryCall, call_begun}
use Rattle.cp_story_laws.specs.MonitorNumbers.{monitor_of}
use Rattle.cp_story_laws.specs.Routines.{routine_of}
use Rattle.cp_story_laws.specs.Statements.{call_told}

module _ (t : Tree) (r : Tables) (l : Layouts) (stands : Stands (ground_of t r) t l) where
  -- ---- the number of a monitor

  module _ (n j : ℕ) (e : (component_at r n).kind ≡ kind.Monitor j) where
    abbrev monitors : List ℕ
    monitors = monitors_of (opening t.program book_discipline)

    listed : slice_index_or monitors j (length r.components) ≡ n
    listed = go (named.component_at (first_components t.program) n).kind (subst (λ (k : ComponentKind). KindIs r t.program n (named.component_at (first_components t.program) n).kind k) e (stands.components n (monitor_there t r l stands n j e)).kind)
      where
        go : (a : SystemKind) → KindIs r t.program n a (kind.Monitor j) → slice_index_or monitors j (length r.components) ≡ n
        go system_kind.Monitor h = h
        go system_kind.Process h = absurd h
        go system_kind.Class h = absurd h

    below : j < length monitors
    below = let a = monitor_known t r l stands n j e in let b = stands.monitor_count in omega (arith, a, b)

    earlier : (k : ℕ) → k < j → (slice_index_or monitors k (length r.components) == n) ≡ false
    earlier k less = go (slice_index_or monitors k (length r.components) == n) refl
      where
        go : (b : Bool) → (slice_index_or monitors k (length r.components) == n) ≡ b → b ≡ false
        go false f = refl
        go true f =
            let lt = below in
            let one : k ≡ j = one_number (first_components t.program) 0 k j (length r.components) (omega (arith, lt, less)) lt (eqb-true (slice_index_or monitors k (length r.components)) n f ∙ sym listed) in
            absurd (omega (arith, one, less))

    pub number_is : (g : Discipline) → monitor_of t.program g n ≡ j
    number_is g = position_or_len_is (λ m. m == n) monitors j (length r.components) (let lt = below in omega (arith, lt)) earlier (λ lt. eq-eqb (slice_index_or monitors j (length r.components)) n listed)

  -- ---- the monitor on the control stack

  module _ (j : ℕ) where
    abbrev IsEntryOf : List Call → Type 0
    IsEntryOf calls = ((current calls).kind ≡ entry_routine) × ((component_at r (current calls).component).kind ≡ kind.Monitor j)

    left_by : (caller : Frame) (slot monitor : Option ℕ) (es : List Entry) (c : Call) → monitor ≡ slots.monitor_left r c c.kind (component_at r c.component).kind → c.kind ≡ entry_routine → (component_at r c.component).kind ≡ kind.Monitor j → story.monitor_left (Return caller slot monitor ∷ es) ≡ j
    left_by caller slot monitor es c is a b =
        ap (λ (o : Option ℕ). story.monitor_left (Return caller slot o ∷ es)) (is ∙ ap (λ (k : CallKind). slots.monitor_left r c k (component_at r c.component).kind) a ∙ ap (slots.monitor_left r c entry_routine) b)

    pub left_is : (es : List Entry) (f : Frame) (calls : List Call) (items : List Item) → StackIs (ground_of t r) t.program l f calls items es → IsEntryOf calls → story.monitor_left es ≡ j
    left_is [] f calls items is h = absurd (let bad : own_statement ≡ entry_routine = sym is.3 ∙ (sym (ap (λ (cs : List Call). (current cs).kind) is.1) ∙ h.0) in cc)
    left_is (Rest at ∷ es) f calls items is h = left_is es f calls is.1 is.4 h
    left_is (Successor at z last ∷ es) f calls items is h = left_is es f calls is.2 is.5 h
    left_is (Return caller slot monitor ∷ es) f calls items is h =
        left_by caller slot monitor es is.0 is.6.2 (sym (ap (λ (cs : List Call). (current cs).kind) is.4) ∙ h.0)
        (sym (ap (λ (cs : List Call). (component_at r (current cs).component).kind) is.4) ∙ h.1)
    left_is (InitEnd caller n ∷ es) f calls items is h = absurd (let bad : initial_statement ≡ entry_routine = sym is.5 ∙ (sym (ap (λ (cs : List Call). (current cs).kind) is.3) ∙ h.0) in cc)

  -- ---- the call

  module _ (g : Discipline) (ok : IsAccepted t) (s : State) (m : Machine) (sim : Simulates t r l g s m) (q : ℕ) (less : q < length s.processes) (line : Option ℕ) where
    holds : HoldsInReached t.program s
    holds = reached_stands t ok g s sim.reached

    abbrev mine : Process
    mine = named.process_at s.processes q

    runs_of : (u : Status) (w : slot_status.Status) → StatusIs (ground_of t r) t.program l q mine (thread_at m.threads q) u w → (current mine.calls).kind ≡ entry_routine → Runs (ground_of t r) t.program l mine (thread_at m.threads q)
    runs_of ready status.Ready h e = h
    runs_of (at_gate n) (status.AtGate k) h e = h.1
    runs_of (delayed n) (status.Delayed cell) h e = h
    runs_of unstarted status.Unstarted h e = absurd (let bad : own_statement ≡ entry_routine = sym (ap (λ (cs : List Call). (current cs).kind) h.0) ∙ e in cc)
    runs_of ended status.Ended h e = absurd (let bad : own_statement ≡ entry_routine = sym h.3 ∙ (sym (ap (λ (cs : List Call). (current cs).kind) h.1) ∙ e) in cc)
    runs_of u w h e = absurd h

    runs : (current mine.calls).kind ≡ entry_routine → Runs (ground_of t r) t.program l mine (thread_at m.threads q)
    runs entry = runs_of mine.status (thread_at m.threads q).status (sim.represents.processes q less).status entry

    -- the call has the scope of the routine of the frame
    pub scope_same : (current mine.calls).kind ≡ entry_routine → (current mine.calls).scope ≡ (l.meanings (thread_at m.threads q).frame.routine).scope
    scope_same entry =
        let thread = thread_at m.threads q in
        let top = top_frame thread.frame thread.stack in
        call_scope r l (own_memory thread) mine.calls thread.frame top.0 (subst (λ (fs : List Frame). CallsHold r l (own_memory thread) mine.calls fs) top.1 (runs entry).calls)

    numbered : (k : ComponentKind) → SameKind system_kind.Monitor k → (j : ℕ) × (k ≡ kind.Monitor j)
    numbered (kind.Monitor j) h = (j, refl)
    numbered k h = absurd h

    pub call_same : (legend : Legend) → name_of_routine (slice_get legend.routines (thread_at m.threads q).frame.routine) ≡ routine_of (current mine.calls) → (current mine.calls).kind ≡ entry_routine → (named.component_at s.components (current mine.calls).component).kind ≡ system_kind.Monitor →
        call_told legend (story.call_begun (thread_at m.threads q) line) ≡ call_begun t g s q line
    call_same legend executes entry monitor =
        let n : ℕ = (current mine.calls).component in
        let there : n < length s.components = within s.components n (λ h. (let bad : system_kind.Monitor ≡ system_kind.Process = sym monitor ∙ h in cc)) in
        let known : n < length r.components = (let a = sim.represents.component_count in omega (arith, a, there)) in
        let j = numbered (component_at r n).kind (subst (λ (k : SystemKind). SameKind k (component_at r n).kind) monitor (kinds_agree t r l stands s holds.kind n known)) in
        let left : story.monitor_left (thread_at m.threads q).stack ≡ j.0 = left_is j.0 (thread_at m.threads q).stack (thread_at m.threads q).frame mine.calls mine.items (runs entry).stack (entry, j.1) in
        let number : monitor_of t.program g n ≡ j.0 = number_is n j.0 j.1 g in
        ap (λ (k : ℕ). (let c : EntryCall = record { monitor = k; routine = name_of_routine (slice_get legend.routines (thread_at m.threads q).frame.routine); line = unwrap_or line 0 } in c)) (left ∙ sym number)
        ∙ ap (λ (x : Name). (let c : EntryCall = record { monitor = monitor_of t.program g n; routine = x; line = unwrap_or line 0 } in c)) executes
