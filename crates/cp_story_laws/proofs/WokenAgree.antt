-- Who waits in a queue that is continued is who was delayed before the step and is not after it.
use Rattle.std.proofs.Common.{◌≡◌, ◌∙◌, ℕ, ◌<◌, ◌==◌, Bool, true, false, List, [], ◌∷◌, Option, Some, None, Result, Ok, ap, sym, refl, arith, length}
use Rattle.std.proofs.lemmas.Bool.{eqb-false, eqb-true}
use Rattle.std.proofs.lemmas.List.Elements.{filter_agree}
use Rattle.std.proofs.lemmas.List.Quantifiers.{position-Some}
use Rattle.std.proofs.Math.ListN.{get_or-map}
use Rattle.std.specs.List.{filter, range_with_len}
use Rattle.std.specs.Option.{option_to_list}
use Rattle.std.specs.Prelude.{not, slice_index_or, ◌&&◌}
use Rattle.cp_slots.specs.declared.item.Action.{Action}
use Rattle.cp_slots.specs.declared.item.Action.TheVariants.{Continue}
use Rattle.cp_slots.specs.declared.item.Item.{Item}
use Rattle.cp_slots.specs.declared.tables.ComponentKind.{ComponentKind}
use Rattle.cp_slots.specs.declared.tables.ComponentKind.TheVariants as kind
use Rattle.cp_slots.specs.Tables.{Tables, component_at, item_at}
use Rattle.cp_store.specs.declared.error.ErrorName.{ErrorName}
use Rattle.cp_store.specs.declared.memory.Address.{Address}
use Rattle.cp_store.specs.declared.memory.Address.TheVariants.{Permanent}
use Rattle.cp_machine.specs.declared.event.Event.{Event}
use Rattle.cp_machine.specs.declared.event.Event.TheVariants.{Kernel, Ended as HasEnded}
use Rattle.cp_machine.specs.declared.event.Kernel.TheVariants as kernel
use Rattle.cp_machine.specs.declared.process.Entry.{Entry}
use Rattle.cp_machine.specs.declared.process.Entry.TheVariants.{Rest, Successor, Return, InitEnd}
use Rattle.cp_machine.specs.declared.process.Status as slot_status
use Rattle.cp_machine.specs.declared.process.Status.TheVariants as status
use Rattle.cp_machine.specs.declared.discipline.Signals.{Signals}
use Rattle.cp_machine.specs.declared.discipline.Signals.TheVariants as signals
use Rattle.cp_machine.specs.Calls.{continue_at, continue_by, continue_from, continue_in}
use Rattle.cp_machine.specs.Fits.{LinesFit}
use Rattle.cp_machine.specs.Machine.{Machine, Thread, is_delayed_at, is_ready, no_thread, thread_at, with_stack}
use Rattle.cp_machine.specs.Memory.{address_of}
use Rattle.cp_machine.specs.Stack.{from_end, rest_of}
use Rattle.cp_machine.specs.Statements.{Stepped, fault, with_value}
use Rattle.cp_machine.specs.Step.{act, step_at, take_top}
use Rattle.cp_story.specs.Aimed.{aim_in, aim_of_top, permanent_cell, queue_of, waiter_in, woken_by}
use Rattle.cp_story.specs.Story.{is_queued, statuses_in}
use Rattle.cp_story.proofs.Queued.{delayed_woken}
use Rattle.cp_story.proofs.Woken.{woken_left}
use Rattle.cp_story_laws.proofs.Lists.{none_pass, one_kept}

-- the processes that were delayed and are no longer
abbrev pub released_processes : List slot_status.Status → Machine → List ℕ
released_processes before t = filter (λ q. is_queued (slice_index_or before q status.Ended) && not (is_queued (thread_at t.threads q).status)) (range_with_len 0 (length t.threads))

-- ---- who is woken

-- a kernel call, or the end of a process
abbrev pub is_told : Event → Bool
is_told (Kernel call) = true
is_told HasEnded = true
is_told _ = false

abbrev Continues : Stepped → Type 0
Continues x = is_told x.event ≡ true → x.event ≡ Kernel kernel.Continue

module _ (r : Tables) (m : Machine) (pid w : ℕ) where
  from_end_continues : (n : Machine) (cell : ℕ) (es : List Entry) → Continues (continue_from r n pid cell es)
  from_end_continues n cell (Return caller result (Some monitor) ∷ es) = λ e. refl
  from_end_continues n cell [] = λ e. absurd (cc)
  from_end_continues n cell (Rest at ∷ es) = λ e. absurd (cc)
  from_end_continues n cell (Successor at z last ∷ es) = λ e. absurd (cc)
  from_end_continues n cell (InitEnd caller component ∷ es) = λ e. absurd (cc)
  from_end_continues n cell (Return caller result None ∷ es) = λ e. absurd (cc)

  in_place_continues : (cell : ℕ) (k : ComponentKind) (rest : List Entry) → Continues (continue_in m pid cell k rest)
  in_place_continues cell (kind.Monitor monitor) rest = λ e. refl
  in_place_continues cell kind.Class rest = λ e. absurd (cc)
  in_place_continues cell (kind.Process number) rest = λ e. absurd (cc)

  by_discipline : (s : Signals) (cell : ℕ) (next : Option ℕ) (es : List Entry) → Continues (continue_by s r m pid cell next es)
  by_discipline signals.Return cell next es = from_end_continues (with_stack m pid (from_end es)) cell (from_end es)
  by_discipline signals.Continue cell next es = in_place_continues cell (component_at r (thread_at m.threads pid).frame.component).kind (rest_of next es)
  by_discipline signals.Wait cell next es = in_place_continues cell (component_at r (thread_at m.threads pid).frame.component).kind (rest_of next es)

  address_continues : (line : ℕ) (next : Option ℕ) (es : List Entry) (at : Result Address ErrorName) → waiter_in m (permanent_cell at) ≡ Some w → Continues (with_value at (fault m pid line) (continue_at r m pid next es))
  address_continues line next es (Ok (Permanent cell)) k = by_discipline m.discipline.signals cell next es
  address_continues line next es _ k = absurd (cc)

  action_continues : (at : ℕ) (item : Item) (a : Action) (es : List Entry) → woken_by m a (queue_of m pid a) ≡ Some w → Continues (act r m pid at item a es)
  action_continues at item (Continue place) es k = address_continues item.line item.next es (address_of m pid place) k
  action_continues at item _ es k = absurd (cc)

  top_continues : (stack : List Entry) → (aim_of_top r m pid stack).wakes ≡ Some w → Continues (take_top r m pid stack)
  top_continues (Rest at ∷ es) k = action_continues at (item_at r at) (item_at r at).action es k
  top_continues [] k = absurd (cc)
  top_continues (Successor at z last ∷ es) k = absurd (cc)
  top_continues (InitEnd caller component ∷ es) k = absurd (cc)
  top_continues (Return caller result None ∷ es) k = absurd (cc)
  top_continues (Return caller result (Some monitor) ∷ es) k = absurd (cc)

  -- who is woken waits in a queue
  abbrev Waits : Type 0
  Waits = (w < length m.threads) × (is_queued (thread_at m.threads w).status ≡ true)

  delayed_queued : (cell : ℕ) (u : slot_status.Status) → is_delayed_at cell u ≡ true → is_queued u ≡ true
  delayed_queued cell (status.Delayed c) e = refl
  delayed_queued cell u e = absurd (cc)

  waiter_waits : (queue : Option ℕ) → waiter_in m queue ≡ Some w → Waits
  waiter_waits None k = absurd (cc)
  waiter_waits (Some cell) k =
      let found = position-Some (λ (x : Thread). is_delayed_at cell x.status) m.threads w no_thread k in
      (found.0, delayed_queued cell (thread_at m.threads w).status found.1)

  action_waits : (a : Action) → woken_by m a (queue_of m pid a) ≡ Some w → Waits
  action_waits (Continue place) k = waiter_waits (queue_of m pid (Continue place)) k
  action_waits _ k = absurd (cc)

  top_waits : (stack : List Entry) → (aim_of_top r m pid stack).wakes ≡ Some w → Waits
  top_waits (Rest at ∷ es) k = action_waits (item_at r at).action k
  top_waits [] k = absurd (cc)
  top_waits (Successor at z last ∷ es) k = absurd (cc)
  top_waits (InitEnd caller component ∷ es) k = absurd (cc)
  top_waits (Return caller result None ∷ es) k = absurd (cc)
  top_waits (Return caller result (Some monitor) ∷ es) k = absurd (cc)

module _ (r : Tables) (m : Machine) (pid : ℕ) (lines : LinesFit m) (may : is_ready m pid ≡ true) where
  abbrev after : Machine
  after = (step_at r m pid).machine

  -- was delayed, and is no longer
  abbrev IsBack : ℕ → Bool
  IsBack q = is_queued (slice_index_or (statuses_in m) q status.Ended) && not (is_queued (thread_at after.threads q).status)

  status_is : (q : ℕ) → slice_index_or (statuses_in m) q status.Ended ≡ (thread_at m.threads q).status
  status_is q = get_or-map (λ (x : Thread). x.status) m.threads q no_thread

  both_so : (a b : Bool) → (a && not b) ≡ true → (a ≡ true) × (b ≡ false)
  both_so true false e = (refl, refl)
  both_so true true e = absurd (cc)
  both_so false b e = absurd (cc)

  back_woken : (q : ℕ) → IsBack q ≡ true → (aim_in r m pid).wakes ≡ Some q
  back_woken q e =
      let k = both_so (is_queued (slice_index_or (statuses_in m) q status.Ended)) (is_queued (thread_at after.threads q).status) e in
      delayed_woken r m pid q lines may (sym (ap is_queued (status_is q)) ∙ k.0) k.1

  module _ (told : is_told (step_at r m pid).event ≡ true) (same : length m.threads ≡ length after.threads) where
    woken_back : (w : ℕ) → (aim_in r m pid).wakes ≡ Some w → IsBack w ≡ true
    woken_back w k =
        let event : (step_at r m pid).event ≡ Kernel kernel.Continue = top_continues r m pid w (thread_at m.threads pid).stack k told in
        let queued = (top_waits r m pid w (thread_at m.threads pid).stack k).1 in
        let a : is_queued (slice_index_or (statuses_in m) w status.Ended) ≡ true = ap is_queued (status_is w) ∙ queued in
        let b : is_queued (thread_at after.threads w).status ≡ false = woken_left r m after pid w (ap (λ (e : Event). (let z : Stepped = record { machine = after; event = e } in z)) event) k in
        rw (a, b) refl

    pub woken_same : option_to_list (aim_in r m pid).wakes ≡ released_processes (statuses_in m) after
    woken_same = go (aim_in r m pid).wakes refl
      where
        never : (q : ℕ) (b : Bool) → IsBack q ≡ b → (aim_in r m pid).wakes ≡ None → b ≡ false
        never q false e n = refl
        never q true e n = absurd (let bad : None ≡ Some q = sym n ∙ back_woken q e in cc)

        alone : (w q : ℕ) → (aim_in r m pid).wakes ≡ Some w → IsBack q ≡ q == w
        alone w q k = by (IsBack q) (q == w) refl refl
          where
            by : (a b : Bool) → IsBack q ≡ a → q == w ≡ b → a ≡ b
            by true true e f = refl
            by false false e f = refl
            by true false e f = absurd (eqb-false q w f (let same_one : Some w ≡ Some q = sym k ∙ back_woken q e in cc))
            by false true e f = absurd (let back : IsBack q ≡ true = ap IsBack (eqb-true q w f) ∙ woken_back w k in (let bad : false ≡ true = sym e ∙ back in cc))

        go : (o : Option ℕ) → (aim_in r m pid).wakes ≡ o → option_to_list o ≡ released_processes (statuses_in m) after
        go None k = sym (none_pass IsBack (λ q. never q (IsBack q) refl k) (range_with_len 0 (length after.threads)))
        go (Some w) k =
            let less = (top_waits r m pid w (thread_at m.threads pid).stack k).0 in
            sym (filter_agree IsBack (λ q. q == w) (λ q. alone w q k) (range_with_len 0 (length after.threads)) ∙ one_kept 0 (length after.threads) w (omega arith) (omega (arith, less, same)))
