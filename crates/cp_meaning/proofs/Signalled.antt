-- The kernel calls of programs where somebody goes on after a continue, with who is inside the monitor after them, by computing.
use Rattle.std.specs.Prelude.{◌≡◌, [], ◌∷◌, refl, pos}
use Rattle.cp_meaning.proofs.Words.{Discipline, any_gates, first_gates, opening}
use Rattle.cp_meaning.specs.Kernel.{local_event, enter_event, leave_event, delay_event, continue_event, start_event, display_event, ended_event}
use Rattle.cp_meaning.specs.State.{continue_signals, wait_signals}
use Rattle.cp_meaning.proofs.Following.{goes, goes_in, traced}
use Rattle.cp_meaning.proofs.worked.SignalledPrograms.{goes_on_after_continue, two_signallers, queue_free_again}

-- ---- the disciplines under which the caller does not return

abbrev pub notifying : Discipline
notifying = record { gates = first_gates; signals = continue_signals }

abbrev notifying_any : Discipline
notifying_any = record { gates = any_gates; signals = continue_signals }

abbrev yielding : Discipline
yielding = record { gates = first_gates; signals = wait_signals }

-- ---- traces

-- the caller goes on inside, and who was resumed goes in after who entered before
pub caller_goes_on :
    traced goes_on_after_continue (1 ∷ []) (opening goes_on_after_continue notifying) (goes 0 ∷ goes 0 ∷ goes 0 ∷ goes 0 ∷ goes 1 ∷ goes 1 ∷ goes 2 ∷ goes 3 ∷ goes 2 ∷ goes 2 ∷ goes 2 ∷ goes 2 ∷ goes 3 ∷ goes 3 ∷ goes 1 ∷ goes 1 ∷ goes 1 ∷ goes 2 ∷ goes 3 ∷ []) ≡ (
      (
          (start_event, ([] ∷ [])) ∷
          (start_event, ([] ∷ [])) ∷
          (start_event, ([] ∷ [])) ∷
          (ended_event, ([] ∷ [])) ∷
          (enter_event, ((1 ∷ []) ∷ [])) ∷
          (delay_event, ([] ∷ [])) ∷
          (enter_event, ((2 ∷ []) ∷ [])) ∷
          (enter_event, ((2 ∷ []) ∷ [])) ∷
          (display_event, ((2 ∷ []) ∷ [])) ∷
          (continue_event, ((2 ∷ []) ∷ [])) ∷
          (display_event, ((2 ∷ []) ∷ [])) ∷
          (leave_event, ((3 ∷ []) ∷ [])) ∷
          (display_event, ((3 ∷ []) ∷ [])) ∷
          (leave_event, ((1 ∷ []) ∷ [])) ∷
          (display_event, ((1 ∷ []) ∷ [])) ∷
          (leave_event, ([] ∷ [])) ∷
          (ended_event, ([] ∷ [])) ∷
          (ended_event, ([] ∷ [])) ∷
          (ended_event, ([] ∷ [])) ∷
          []),
      pos 2 ∷ pos 4 ∷ pos 3 ∷ pos 1 ∷ [],
    )
caller_goes_on = refl

-- who was resumed goes on inside, and the caller goes in before who entered
pub resumed_goes_on :
    traced goes_on_after_continue (1 ∷ []) (opening goes_on_after_continue yielding) (goes 0 ∷ goes 0 ∷ goes 0 ∷ goes 0 ∷ goes 1 ∷ goes 1 ∷ goes 2 ∷ goes 3 ∷ goes 2 ∷ goes 2 ∷ goes 1 ∷ goes 1 ∷ goes 2 ∷ goes 2 ∷ goes 3 ∷ goes 3 ∷ goes 1 ∷ goes 2 ∷ goes 3 ∷ []) ≡ (
      (
          (start_event, ([] ∷ [])) ∷
          (start_event, ([] ∷ [])) ∷
          (start_event, ([] ∷ [])) ∷
          (ended_event, ([] ∷ [])) ∷
          (enter_event, ((1 ∷ []) ∷ [])) ∷
          (delay_event, ([] ∷ [])) ∷
          (enter_event, ((2 ∷ []) ∷ [])) ∷
          (enter_event, ((2 ∷ []) ∷ [])) ∷
          (display_event, ((2 ∷ []) ∷ [])) ∷
          (continue_event, ((1 ∷ []) ∷ [])) ∷
          (display_event, ((1 ∷ []) ∷ [])) ∷
          (leave_event, ((2 ∷ []) ∷ [])) ∷
          (display_event, ((2 ∷ []) ∷ [])) ∷
          (leave_event, ((3 ∷ []) ∷ [])) ∷
          (display_event, ((3 ∷ []) ∷ [])) ∷
          (leave_event, ([] ∷ [])) ∷
          (ended_event, ([] ∷ [])) ∷
          (ended_event, ([] ∷ [])) ∷
          (ended_event, ([] ∷ [])) ∷
          []),
      pos 2 ∷ pos 1 ∷ pos 4 ∷ pos 3 ∷ [],
    )
resumed_goes_on = refl

-- where nobody waits, the caller goes on inside
pub goes_on_alone :
    traced goes_on_after_continue (1 ∷ []) (opening goes_on_after_continue notifying) (goes 0 ∷ goes 0 ∷ goes 0 ∷ goes 0 ∷ goes 2 ∷ goes 3 ∷ goes 2 ∷ goes 2 ∷ goes 2 ∷ goes 2 ∷ goes 3 ∷ goes 3 ∷ goes 1 ∷ goes 1 ∷ goes 2 ∷ goes 3 ∷ []) ≡ (
      (
          (start_event, ([] ∷ [])) ∷
          (start_event, ([] ∷ [])) ∷
          (start_event, ([] ∷ [])) ∷
          (ended_event, ([] ∷ [])) ∷
          (enter_event, ((2 ∷ []) ∷ [])) ∷
          (enter_event, ((2 ∷ []) ∷ [])) ∷
          (display_event, ((2 ∷ []) ∷ [])) ∷
          (continue_event, ((2 ∷ []) ∷ [])) ∷
          (display_event, ((2 ∷ []) ∷ [])) ∷
          (leave_event, ((3 ∷ []) ∷ [])) ∷
          (display_event, ((3 ∷ []) ∷ [])) ∷
          (leave_event, ([] ∷ [])) ∷
          (enter_event, ((1 ∷ []) ∷ [])) ∷
          (delay_event, ([] ∷ [])) ∷
          (ended_event, ([] ∷ [])) ∷
          (ended_event, ([] ∷ [])) ∷
          []),
      pos 2 ∷ pos 4 ∷ pos 3 ∷ [],
    )
goes_on_alone = refl

-- the same, where the caller would wait for who was resumed
pub yields_to_nobody :
    traced goes_on_after_continue (1 ∷ []) (opening goes_on_after_continue yielding) (goes 0 ∷ goes 0 ∷ goes 0 ∷ goes 0 ∷ goes 2 ∷ goes 3 ∷ goes 2 ∷ goes 2 ∷ goes 2 ∷ goes 2 ∷ goes 3 ∷ goes 3 ∷ goes 1 ∷ goes 1 ∷ goes 2 ∷ goes 3 ∷ []) ≡ (
      (
          (start_event, ([] ∷ [])) ∷
          (start_event, ([] ∷ [])) ∷
          (start_event, ([] ∷ [])) ∷
          (ended_event, ([] ∷ [])) ∷
          (enter_event, ((2 ∷ []) ∷ [])) ∷
          (enter_event, ((2 ∷ []) ∷ [])) ∷
          (display_event, ((2 ∷ []) ∷ [])) ∷
          (continue_event, ((2 ∷ []) ∷ [])) ∷
          (display_event, ((2 ∷ []) ∷ [])) ∷
          (leave_event, ((3 ∷ []) ∷ [])) ∷
          (display_event, ((3 ∷ []) ∷ [])) ∷
          (leave_event, ([] ∷ [])) ∷
          (enter_event, ((1 ∷ []) ∷ [])) ∷
          (delay_event, ([] ∷ [])) ∷
          (ended_event, ([] ∷ [])) ∷
          (ended_event, ([] ∷ [])) ∷
          []),
      pos 2 ∷ pos 4 ∷ pos 3 ∷ [],
    )
yields_to_nobody = refl

-- who was resumed and who entered are in one line, of which any is admitted
pub admits_resumed :
    traced goes_on_after_continue (1 ∷ []) (opening goes_on_after_continue notifying_any) (goes 0 ∷ goes 0 ∷ goes 0 ∷ goes 0 ∷ goes 1 ∷ goes 1 ∷ goes 2 ∷ goes 3 ∷ goes 2 ∷ goes 2 ∷ goes 2 ∷ goes 2 ∷ goes_in 1 ∷ goes 1 ∷ goes 1 ∷ goes 3 ∷ goes 3 ∷ goes 1 ∷ goes 2 ∷ goes 3 ∷ []) ≡ (
      (
          (start_event, ([] ∷ [])) ∷
          (start_event, ([] ∷ [])) ∷
          (start_event, ([] ∷ [])) ∷
          (ended_event, ([] ∷ [])) ∷
          (enter_event, ((1 ∷ []) ∷ [])) ∷
          (delay_event, ([] ∷ [])) ∷
          (enter_event, ((2 ∷ []) ∷ [])) ∷
          (enter_event, ((2 ∷ []) ∷ [])) ∷
          (display_event, ((2 ∷ []) ∷ [])) ∷
          (continue_event, ((2 ∷ []) ∷ [])) ∷
          (display_event, ((2 ∷ []) ∷ [])) ∷
          (leave_event, ([] ∷ [])) ∷
          (local_event, ((1 ∷ []) ∷ [])) ∷
          (display_event, ((1 ∷ []) ∷ [])) ∷
          (leave_event, ((3 ∷ []) ∷ [])) ∷
          (display_event, ((3 ∷ []) ∷ [])) ∷
          (leave_event, ([] ∷ [])) ∷
          (ended_event, ([] ∷ [])) ∷
          (ended_event, ([] ∷ [])) ∷
          (ended_event, ([] ∷ [])) ∷
          []),
      pos 2 ∷ pos 4 ∷ pos 1 ∷ pos 3 ∷ [],
    )
admits_resumed = refl

-- of two callers that wait the last goes in first, and both before who entered
pub last_signaller_first :
    traced two_signallers (1 ∷ []) (opening two_signallers yielding) (goes 0 ∷ goes 0 ∷ goes 0 ∷ goes 0 ∷ goes 0 ∷ goes 1 ∷ goes 1 ∷ goes 2 ∷ goes 2 ∷ goes 3 ∷ goes 4 ∷ goes 3 ∷ goes 1 ∷ goes 2 ∷ goes 2 ∷ goes 1 ∷ goes 1 ∷ goes 3 ∷ goes 3 ∷ goes 4 ∷ goes 4 ∷ goes 1 ∷ goes 2 ∷ goes 3 ∷ goes 4 ∷ []) ≡ (
      (
          (start_event, ([] ∷ [])) ∷
          (start_event, ([] ∷ [])) ∷
          (start_event, ([] ∷ [])) ∷
          (start_event, ([] ∷ [])) ∷
          (ended_event, ([] ∷ [])) ∷
          (enter_event, ((1 ∷ []) ∷ [])) ∷
          (delay_event, ([] ∷ [])) ∷
          (enter_event, ((2 ∷ []) ∷ [])) ∷
          (delay_event, ([] ∷ [])) ∷
          (enter_event, ((3 ∷ []) ∷ [])) ∷
          (enter_event, ((3 ∷ []) ∷ [])) ∷
          (continue_event, ((1 ∷ []) ∷ [])) ∷
          (continue_event, ((2 ∷ []) ∷ [])) ∷
          (display_event, ((2 ∷ []) ∷ [])) ∷
          (leave_event, ((1 ∷ []) ∷ [])) ∷
          (display_event, ((1 ∷ []) ∷ [])) ∷
          (leave_event, ((3 ∷ []) ∷ [])) ∷
          (display_event, ((3 ∷ []) ∷ [])) ∷
          (leave_event, ((4 ∷ []) ∷ [])) ∷
          (display_event, ((4 ∷ []) ∷ [])) ∷
          (leave_event, ([] ∷ [])) ∷
          (ended_event, ([] ∷ [])) ∷
          (ended_event, ([] ∷ [])) ∷
          (ended_event, ([] ∷ [])) ∷
          (ended_event, ([] ∷ [])) ∷
          []),
      pos 2 ∷ pos 1 ∷ pos 3 ∷ pos 4 ∷ [],
    )
last_signaller_first = refl

-- the queue is free when who was resumed stands at the gate
pub queue_free_at_once :
    traced queue_free_again (1 ∷ []) (opening queue_free_again notifying) (goes 0 ∷ goes 0 ∷ goes 0 ∷ goes 1 ∷ goes 1 ∷ goes 2 ∷ goes 2 ∷ goes 2 ∷ goes 1 ∷ goes 1 ∷ goes 1 ∷ []) ≡ (
      (
          (start_event, ([] ∷ [])) ∷
          (start_event, ([] ∷ [])) ∷
          (ended_event, ([] ∷ [])) ∷
          (enter_event, ((1 ∷ []) ∷ [])) ∷
          (delay_event, ([] ∷ [])) ∷
          (enter_event, ((2 ∷ []) ∷ [])) ∷
          (continue_event, ((2 ∷ []) ∷ [])) ∷
          (delay_event, ((1 ∷ []) ∷ [])) ∷
          (display_event, ((1 ∷ []) ∷ [])) ∷
          (leave_event, ([] ∷ [])) ∷
          (ended_event, ([] ∷ [])) ∷
          []),
      pos 1 ∷ [],
    )
queue_free_at_once = refl
