use Rattle.cp_machine.proofs.Words.{◌≡◌, ◌∙◌, ◌<◌, ap, get_or-set_same, length, subst, sym, Thread, machine_of, no_thread, thread_at, under, from_end, Machine, continue_from}
use Rattle.cp_machine.specs.Calls.{continue_by, continue_in}
use Rattle.cp_machine.specs.declared.discipline.Signals.{Signals}
use Rattle.cp_machine.specs.declared.discipline.Signals.TheVariants as signals
use Rattle.std.proofs.Common.{◌⊎◌, inl, inr, ℕ, List, Option}
use Rattle.cp_machine.proofs.Words.{Tables, Entry, component_at, rest_of}
use Rattle.cp_machine.proofs.rooms.RoomLemmas.{within}
use Rattle.cp_machine.proofs.PremiseLemmas.{item_returns}
use Rattle.cp_machine.proofs.queue.continue_at.Goals as goal

by_going_on : (s : Signals) → (s ≡ signals.Continue) ⊎ (s ≡ signals.Wait) → (r : Tables) (m : Machine) (pid cell : ℕ) (next : Option ℕ) (es : List Entry) → continue_by s r m pid cell next es ≡ continue_in m pid cell (component_at r (thread_at m.threads pid).frame.component).kind (rest_of next es)
by_going_on s (inl e) r m pid cell next es = ap (λ t. continue_by t r m pid cell next es) e
by_going_on s (inr e) r m pid cell next es = ap (λ t. continue_by t r m pid cell next es) e

pub returns-in-Return-clause-reserved : goal.returns-in-Return-clause-reserved
returns-in-Return-clause-reserved c = λ r h. c.continue_from.ensures.reserved r (c.unwind.ensures.reserved r h)

pub unwind-requires : goal.unwind-requires
unwind-requires c = record { pid = c.requires.taken.1.within }

pub returns-in-Return-clause-after : goal.returns-in-Return-clause-after
returns-in-Return-clause-after c =
    let m = machine_of c.args.state.now in
    let r = c.args.program.now in
    let t = thread_at m.threads c.args.pid in
    let es = from_end (under m c.args.pid) in
    let after : Thread = record t { stack = es } in
    let same : thread_at (machine_of c.unwind.new.state).threads c.args.pid ≡ after = ap (λ n. thread_at n.threads c.args.pid) c.unwind.ensures.after ∙ get_or-set_same m.threads c.args.pid after no_thread (within c.args.state.now c.args.pid c.requires.taken.1.within) in
    ap (λ s. continue_by s r m c.args.pid c.args.cell c.args.item.now.next (under m c.args.pid)) c.in-Return.is ∙ ap (λ k. continue_from r k c.args.pid c.args.cell es) (sym c.unwind.ensures.after) ∙ ap (λ k. continue_from r (machine_of c.unwind.new.state) c.args.pid c.args.cell k.stack) (sym same) ∙ c.continue_from.ensures.after

pub returns-in-Continue-clause-after : goal.returns-in-Continue-clause-after
returns-in-Continue-clause-after c = by_going_on c.args.state.now.discipline.signals c.in-Continue.is c.args.program.now (machine_of c.args.state.now) c.args.pid c.args.cell c.args.item.now.next (under (machine_of c.args.state.now) c.args.pid) ∙ c.continue_on.ensures.after

pub continue_from-requires : goal.continue_from-requires
continue_from-requires c =
    record {
      ends = item_returns c.requires.taken.1 c.unwind.new.state c.unwind.ensures.after;
      cell = subst (λ (n : Machine). c.args.cell < length n.permanents) (sym c.unwind.ensures.after) c.requires.cell;
    }

pub continue_on-requires : goal.continue_on-requires
continue_on-requires c = record { taken = c.requires.taken; cell = c.requires.cell }
