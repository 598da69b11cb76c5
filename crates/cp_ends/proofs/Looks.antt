-- What looks at states and at their rows see.
use Rattle.std.proofs.Common.{◌≡◌, ◌∙◌, ◌<◌, ◌+◌, ℕ, Bool, true, false, List, [], ◌∷◌, length, map, reverse, None, refl, sym, subst, ap, arith}
use Rattle.std.proofs.lemmas.List.{length-map, reverse-append}
use Rattle.std.proofs.lemmas.List.Folds.{list_any-append}
use Rattle.std.specs.List.{list_any}
use Rattle.std.specs.Prelude.{◌||◌, not, slice_index_or}
use Rattle.cp_slots.specs.Tables.{Tables}
use Rattle.cp_machine.specs.Machine.{Machine, is_ready, is_waiting, thread_of, thread_at}
use Rattle.cp_machine.specs.declared.process.Entry.{Entry}
use Rattle.cp_machine.specs.declared.process.Entry.TheVariants.{Rest, Successor, Return, InitEnd}
use Rattle.cp_machine.specs.declared.process.ProcessState.{ProcessState}
use Rattle.cp_machine.specs.declared.state.State.{State}
use Rattle.cp_machine.specs.System.{IsStateOf}
use Rattle.cp_machine.proofs.CallerLemmas.{threads_count}
use Rattle.cp_states.specs.Numbers.{number_at}
use Rattle.cp_parts.specs.declared.placing.PlaceTable.{PlaceTable}
use Rattle.cp_parts.specs.declared.store.PartStore.{PartStore}
use Rattle.cp_parts.specs.Parts.{IsPartNumber, IsProcessPart, part_at}
use Rattle.cp_stretches.specs.declared.numbers.StatusNumbers.{StatusNumbers}
use Rattle.cp_stretches.specs.Numbers.{CanRead, rests_at}
use Rattle.cp_stretches.proofs.Statuses.{rests_rests, waits_waits}
use Rattle.cp_endless_laws.specs.Silent.{has_monitor_return, in_call_on_slots, waits_on_slots}

-- ---- control stacks

abbrev pub leaves : Entry → Bool
leaves e = has_monitor_return (e ∷ [])

inside_any : (es : List Entry) → has_monitor_return es ≡ list_any leaves es
inside_any (Rest at ∷ es) = inside_any es
inside_any (Successor at value last ∷ es) = inside_any es
inside_any (Return caller result None ∷ es) = inside_any es
inside_any (InitEnd caller component ∷ es) = inside_any es
inside_any _ = refl

backwards : (xs : List Entry) → list_any leaves (reverse xs) ≡ list_any leaves xs
backwards [] = refl
backwards (x ∷ xs) = ap (list_any leaves) (reverse-append (x ∷ []) xs) ∙ list_any-append leaves (reverse xs) (x ∷ []) ∙ ap (λ b. b || list_any leaves (x ∷ [])) (backwards xs) ∙ by (leaves x) (list_any leaves xs)
  where
    by : (a b : Bool) → (b || (a || false)) ≡ (a || b)
    by true true = refl
    by true false = refl
    by false true = refl
    by false false = refl

-- ---- states

pub inside_of : (p : ProcessState) → has_monitor_return (thread_of p).stack ≡ list_any leaves p.stack.items
inside_of p = inside_any (reverse p.stack.items) ∙ backwards p.stack.items

pub processes_in : (r : Tables) (state : State) → IsStateOf r state → length r.processes ≡ length state.processes.items
processes_in r state own = sym (threads_count r state own) ∙ length-map state.processes.items thread_of

-- ---- rows

module _ (r : Tables) (s : PartStore) (t : PlaceTable) (n : StatusNumbers) (m : Machine) (row : List ℕ) (can : CanRead r s t n m row) (pid : ℕ) (there : pid < length r.processes) where
  pub within : pid < t.processes
  within = omega (arith, there, can.placed.processes)

  pub waits_in_row : (b : Bool) → rests_at n (number_at row pid) ≡ b → not b ≡ waits_on_slots m pid
  waits_in_row true e = sym (rests_rests s r.monitors n _ (number_at row pid) can.numbers (can.stands.statuses pid within) e)
  waits_in_row false e = sym (waits_waits s r.monitors n _ (number_at row pid) can.numbers (can.stands.statuses pid within) e)

  pub part : IsPartNumber s t m pid (number_at row (t.processes + 1 + pid))
  part = can.stands.parts pid (let lt = within in omega (arith, lt))

  abbrev pub numbers : List ℕ
  numbers = part_at s (number_at row (t.processes + 1 + pid))

  pub own : IsProcessPart s (thread_at m.threads pid) numbers
  own = part.is.process within

  pub inside_in_row : (stack : List Entry) → stack ≡ reverse (thread_at m.threads pid).stack → list_any leaves stack ≡ in_call_on_slots m pid
  inside_in_row stack e = ap (list_any leaves) e ∙ backwards (thread_at m.threads pid).stack ∙ sym (inside_any (thread_at m.threads pid).stack)
