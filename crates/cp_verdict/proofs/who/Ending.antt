-- The ends at which all wait that words of at most so many choices lead to are those of the rows of a table.
use Rattle.std.proofs.Common.{◌≡◌, ◌∙◌, ℕ, Bool, true, List, refl, sym, ap}
use Rattle.std.specs.Prelude.{Contains}
use Rattle.std.specs.declared.alloc.Global.{Global}
use Rattle.std.specs.declared.vec.Vec.{Vec}
use Rattle.cp_machine.specs.declared.shown.Shown.{Shown}
use Rattle.cp_run.specs.declared.outcome.Outcome.{Outcome}
use Rattle.cp_run.specs.declared.outcome.OutcomeKind.{OutcomeKind}
use Rattle.cp_run.specs.declared.outcome.OutcomeKind.TheVariants.{Finished, AllWaiting, RunError, ChoiceLimit, StepLimit, OutputLimit}
use Rattle.cp_run.specs.Run.{opened}
use Rattle.cp_run.specs.Stop.{last_state}
use Rattle.cp_run.specs.System.{System}
use Rattle.cp_run.specs.Table.{Line, IsAmong, table}
use Rattle.cp_waiting_ends.specs.Ending.{AreEndsWithin}
use Rattle.cp_waiting_ends.specs.Waiting.{WaitsSo, who_waits}
use Rattle.cp_waiting_ends.specs.declared.end.WaitingEnd.{WaitingEnd}
use Rattle.cp_waiting_ends.specs.declared.ends.WaitingEnds.{WaitingEnds}
use Rattle.cp_verdict.specs.waiting.Matching.{is_waiting, is_waiting_kind}
use Rattle.cp_verdict.specs.waiting.Rows.{AreEndsIn}
use Rattle.cp_verdict.specs.waiting.Who.{who_at}
use Rattle.cp_verdict.proofs.who.Leading.{in_table, row_leads, stops_in}

all_wait : (kind : OutcomeKind) → is_waiting_kind kind ≡ true → kind ≡ AllWaiting
all_wait AllWaiting h = refl
all_wait Finished h = absurd (cc)
all_wait (RunError name process line) h = absurd (cc)
all_wait ChoiceLimit h = absurd (cc)
all_wait StepLimit h = absurd (cc)
all_wait OutputLimit h = absurd (cc)

module _ {S : Type 0} (sys : System S) (waiting : S → ℕ → Bool) (steps choices : ℕ) (ends : WaitingEnds) (are : AreEndsWithin sys waiting steps choices ends) where
  abbrev who : List ℕ → List ℕ
  who word = who_at sys waiting choices steps word

  pub ends_in : AreEndsIn who (table sys choices steps) ends
  ends_in = record { each = one; all = row }
    where
      one : (e : WaitingEnd × Vec ℕ Global) → Contains ends.known.entries e → (l : Line) × IsAmong l (table sys choices steps) × (l.word ≡ e.1.items) × (is_waiting l.outcome ≡ true) × (l.outcome ≡ e.0.key.outcome) × (who l.word ≡ e.0.who.items)
      one e c =
          let x = are.each e c in
          let s = x.0.0 in
          let stop = stops_in sys steps e.1.items choices (opened sys steps) AllWaiting s x.1 x.0.1 in (
            record { word = e.1.items; outcome = record { kind = AllWaiting; output = sys.output s } },
            in_table sys steps choices e.1.items AllWaiting s x.1 x.0.1,
            refl,
            refl,
            sym (ap (λ (w : WaitsSo). w.outcome) x.0.2),
            ap (who_waits sys waiting) stop ∙ sym (ap (λ (w : WaitsSo). w.who) x.0.2),
          )

      row : (l : Line) → IsAmong l (table sys choices steps) → is_waiting l.outcome ≡ true → (e : WaitingEnd × Vec ℕ Global) × Contains ends.known.entries e × (e.0.key.outcome ≡ l.outcome) × (e.0.who.items ≡ who l.word)
      row l i h =
          let kind = all_wait l.outcome.kind h in
          let x = row_leads sys steps choices l i kind in
          let s = last_state sys choices steps l.word in
          let w : WaitsSo = record { who = who l.word; outcome = record { kind = AllWaiting; output = sys.output s } } in
          let e = are.all w l.word (s, x.leads, refl) x.short in
          let same : (let o : Outcome = record { kind = AllWaiting; output = sys.output s } in o) ≡ l.outcome = sym (ap (λ (k : OutcomeKind). (let o : Outcome = record { kind = k; output = l.outcome.output } in o)) kind ∙ ap (λ (out : List Shown). (let o : Outcome = record { kind = AllWaiting; output = out } in o)) x.output) in
          (e.0, e.1, ap (λ (v : WaitsSo). v.outcome) e.2 ∙ same, ap (λ (v : WaitsSo). v.who) e.2)
