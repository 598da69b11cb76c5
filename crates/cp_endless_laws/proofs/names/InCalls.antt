-- A process has an open call of an entry of a monitor on names where it has on slots.
use Rattle.std.proofs.Common.{◌≡◌, ◌∙◌, ◌⊎◌, inl, inr, ⊎_elim, ℕ, ◌<◌, ◌≤◌, Bool, false, ◌&&◌, ◌||◌, List, [], ◌∷◌, length, Option, Some, None, refl, sym, ap, subst, arith}
use Rattle.cp_endless_laws.proofs.Words.{cases_order, ComponentKind, Frame, Entry, Machine, Thread, thread_at, Program, rest_of, Layouts, Ground}
use Rattle.cp_tree.specs.declared.declaration.SystemKind.{SystemKind}
use Rattle.cp_slots.specs.Tables.{Tables, component_at, process_at}
use Rattle.cp_store.specs.Memory.{Memory}
use Rattle.cp_machine.specs.declared.process.Entry.TheVariants.{Rest, Successor, Return, InitEnd}
use Rattle.cp_meaning.specs.State.{State, Call, CallKind, own_statement, initial_statement, entry_routine, Item, Process, unstarted, ready, at_gate, delayed, ended}
use Rattle.cp_machine_laws.specs.Kinds.{SameKind, KindsAgree}
use Rattle.cp_machine_laws.specs.Represents.{frames_of, CallsHold, StackIs, StatusIs, Runs, own_memory, monitor_left, Represents}
use Rattle.cp_tree.specs.declared.declaration.SystemKind.TheVariants as system_kind
use Rattle.cp_slots.specs.Tables as tables
use Rattle.cp_slots.specs.declared.tables.ComponentKind.TheVariants as kind
use Rattle.cp_machine.specs.declared.process.Status as slot_status
use Rattle.cp_machine.specs.declared.process.Status.TheVariants as status
use Rattle.cp_meaning.specs.State as named
use Rattle.cp_endless_laws.specs.Silent.{has_monitor_call, has_monitor_return, in_call_on_names, in_call_on_slots, is_monitor, leaves_some}
use Rattle.cp_endless_laws.proofs.names.Processes.{no_process_there, no_thread_there}

-- a call of an entry of a monitor leaves that monitor as it returns
leaving : (r : Tables) (c : Call) (k : CallKind) (a : SystemKind) (b : ComponentKind) → SameKind a b → (named.is_entry_kind k && is_monitor a) ≡ leaves_some (monitor_left r c k b)
leaving r c entry_routine system_kind.Monitor (kind.Monitor m) h = refl
leaving r c entry_routine system_kind.Process (kind.Process q) h = refl
leaving r c entry_routine system_kind.Class kind.Class h = refl
leaving r c entry_routine a b h = absurd h
leaving r c _ a b h = refl

quiet_kind : (k : CallKind) (a : Bool) → (k ≡ own_statement) ⊎ (k ≡ initial_statement) → (named.is_entry_kind k && a) ≡ false
quiet_kind k a (inl e) = ap (λ j. named.is_entry_kind j && a) e
quiet_kind k a (inr e) = ap (λ j. named.is_entry_kind j && a) e

module _ (g : Ground) (p : Program) (l : Layouts) (s : State) (kinds : KindsAgree g.tables s) (memory : Memory) where
  calls_so : (f : Frame) (calls : List Call) (items : List Item) (es : List Entry) → StackIs g p l f calls items es → CallsHold g.tables l memory calls (frames_of f es) → has_monitor_call s.components calls ≡ has_monitor_return es
  calls_so f calls items [] h k =
      ap (has_monitor_call s.components) h.1 ∙ ap (λ (b : Bool). b || false) (quiet_kind h.0.kind (is_monitor (named.component_at s.components h.0.component).kind) (inl h.3))
  calls_so f calls items (Rest at ∷ es) h k = calls_so f calls h.1 es h.4 k
  calls_so f calls items (Successor at z last ∷ es) h k = calls_so f calls h.2 es h.5 k
  calls_so f calls items (Return caller slot monitor ∷ es) h k =
      let held = subst (λ (cs : List Call). CallsHold g.tables l memory cs (f ∷ frames_of caller es)) h.4 k in
      let there = subst (λ n. n < length g.tables.components) (sym held.0.component) held.0.there in
      let head = leaving g.tables h.0 h.0.kind (named.component_at s.components h.0.component).kind (component_at g.tables h.0.component).kind (kinds h.0.component there) ∙ ap leaves_some (sym h.6.2) in
      ap (has_monitor_call s.components) h.4
      ∙ ap (λ (b : Bool). b || has_monitor_call s.components h.1) head
      ∙ ap (λ (b : Bool). leaves_some monitor || b) (calls_so caller h.1 h.3 es h.7 held.2)
  calls_so f calls items (InitEnd caller component ∷ es) h k =
      let held = subst (λ (cs : List Call). CallsHold g.tables l memory cs (f ∷ frames_of caller es)) h.3 k in
      ap (has_monitor_call s.components) h.3
      ∙ ap (λ (b : Bool). b || has_monitor_call s.components h.1) (quiet_kind h.0.kind (is_monitor (named.component_at s.components h.0.component).kind) (inr h.5))
      ∙ calls_so caller h.1 h.2 es h.6 held.2

none_left : (o : Option ℕ) → has_monitor_return (rest_of o []) ≡ false
none_left None = refl
none_left (Some at) = refl

module _ (g : Ground) (p : Program) (l : Layouts) (s : State) (kinds : KindsAgree g.tables s) (q : ℕ) (x : Process) (t : Thread) where
  runs_so : Runs g p l x t → has_monitor_call s.components x.calls ≡ has_monitor_return t.stack
  runs_so h = calls_so g p l s kinds (own_memory t) t.frame x.calls x.items t.stack h.stack h.calls

  status_so : (a : named.Status) (u : slot_status.Status) → StatusIs g p l q x t a u → has_monitor_call s.components x.calls ≡ has_monitor_return t.stack
  status_so unstarted status.Unstarted h = ap (has_monitor_call s.components) h.0 ∙ sym (ap (λ (k : Thread). has_monitor_return k.stack) h.2 ∙ none_left (tables.routine_at g.tables (process_at g.tables q).routine).body)
  status_so ready status.Ready h = runs_so h
  status_so (at_gate m) (status.AtGate n) h = runs_so h.1
  status_so (delayed m) (status.Delayed cell) h = runs_so h
  status_so ended status.Ended h =
      ap (has_monitor_call s.components) h.1 ∙ ap (λ (b : Bool). b || false) (quiet_kind h.0.kind (is_monitor (named.component_at s.components h.0.component).kind) (inl h.3)) ∙ sym (ap has_monitor_return h.4)
  status_so a u h = absurd h

pub in_call_so : (g : Ground) (p : Program) (l : Layouts) (s : State) (m : Machine) (q : ℕ) → KindsAgree g.tables s → Represents g p l s m → in_call_on_names s q ≡ in_call_on_slots m q
in_call_so g p l s m q kinds h =
    ⊎_elim
    (λ (same : q ≡ length s.processes). beyond (omega (arith, same)))
    (λ (apart : (q < length s.processes) ⊎ (length s.processes < q)).
    ⊎_elim
    (λ (less : q < length s.processes). status_so g p l s kinds q (named.process_at s.processes q) (thread_at m.threads q) (named.process_at s.processes q).status (thread_at m.threads q).status (h.processes q less).status)
    (λ (more : length s.processes < q). beyond (omega (arith, more)))
    apart)
    (cases_order q (length s.processes))
  where
    beyond : length s.processes ≤ q → in_call_on_names s q ≡ in_call_on_slots m q
    beyond le =
        let count = h.process_count in
        ap (λ (x : Process). has_monitor_call s.components x.calls) (no_process_there s.processes q le) ∙ sym (ap (λ (t : Thread). has_monitor_return t.stack) (no_thread_there m.threads q (omega (arith, count, le))))
