-- What is told of the slot machine is told of the meaning: both have the same runs, table and traces, and by the laws of stories the same events, who waits and how it stops.
use Rattle.std.proofs.Common.{◌≡◌, ℕ, List, ◌∙◌, ap, map, subst, sym}
use Rattle.std.proofs.Math.Logic.{∥∥₁_map}
use Rattle.cp_tree.specs.Read.{IsRead}
use Rattle.cp_tree.specs.Syntax.{Tree}
use Rattle.cp_layout.specs.Laid.{plain, laid}
use Rattle.cp_slots.specs.Tables.{Tables}
use Rattle.cp_meaning_laws.specs.Accepted.{IsAccepted}
use Rattle.cp_legend.specs.declared.legend.Legend as code_legend
use Rattle.cp_legend.specs.Names.{legend_seen}
use Rattle.cp_machine.specs.declared.discipline.Discipline.{Discipline}
use Rattle.cp_resolved.proofs.Resolving.{read_names}
use Rattle.cp_run.specs.Slots.{slots}
use Rattle.cp_run.specs.Table.{table}
use Rattle.cp_machine_laws.specs.Law.{SameRuns}
use Rattle.cp_machine_laws.specs.Named.{named, named_discipline}
use Rattle.cp_machine_laws.proofs.Meaning.{runs_as_meant}
use Rattle.cp_story_laws.specs.Statements.{TellsEvents, TellsStop, TellsWaits, event_on_names, wait_on_names}
use Rattle.cp_story_laws.proofs.StoriesOfTrees.{events_law, stop_law, waits_law}
use Rattle.cp_outcomes.specs.Meant.{IsFoundIn}
use Rattle.cp_outcomes.specs.declared.subject.Format.{Format}
use Rattle.cp_show_mark.specs.declared.answer.ShowVerdict.{ShowVerdict}
use Rattle.cp_show_options.specs.declared.parts.Asked.{Asked}
use Rattle.cp_tool.specs.declared.options.Options.{Options}
use Rattle.cpx_show.specs.Schedules.{IsStoryText, IsTracedAs}
use Rattle.cpx_show.specs.Shown.{AreNamed, AreOutcomes, IsTraceInNames}
use Rattle.cpx_show.specs.Summaries.{AreOutcomesOf}
use Rattle.cpx_show.specs.declared.schedules.ScheduleForm.{ScheduleForm}
use Rattle.cpx_show.specs.declared.selecting.ChosenSchedule.{ChosenSchedule}

module _ (t : Tree) (r : Tables) (read : ∥ IsRead t.program ∥₁) (ok : IsAccepted t) (tables : plain r ≡ laid t) (o : Options) where
  same : SameRuns (named t (named_discipline o.discipline)) (slots r o.discipline) o.choices o.steps
  same = runs_as_meant t r o.discipline read ok tables o.choices o.steps

  module _ (l : code_legend.Legend) (is : AreNamed t r l) where
    events_agree : (word : List ℕ) → ∥ TellsEvents t r (legend_seen l) o.discipline o.choices o.steps word ∥₁
    events_agree word = ∥∥₁_map read (λ it. events_law t is.symbols r l o.discipline it ok is.noted tables is.legend o.choices o.steps word)

    waits_agree : (word : List ℕ) → ∥ TellsWaits t r (legend_seen l) o.discipline o.choices o.steps word ∥₁
    waits_agree word = ∥∥₁_map read (λ it. waits_law t is.symbols r l o.discipline it ok is.noted tables is.legend o.choices o.steps word)

    stop_agrees : (word : List ℕ) → ∥ TellsStop t r (legend_seen l) o.discipline o.choices o.steps word ∥₁
    stop_agrees word = ∥∥₁_map read (λ it. stop_law t is.symbols r l o.discipline it ok is.noted tables is.legend o.choices o.steps word)

    in_names : (f : ScheduleForm) (source : List (List ℕ)) (s : ChosenSchedule) (text : List ℕ) → IsStoryText f o r (legend_seen l) source s text → IsTraceInNames f o t r l source s text
    in_names f source s text h =
        let word = s.word.items in
        record {
          told = h;
          lines = h.so.lines ∙ sym (same.traces word);
          events = ∥∥₁_map (events_agree word) (λ agree. ap (map (event_on_names (legend_seen l))) h.so.told ∙ agree.events);
          last_choice = ∥∥₁_map (events_agree word) (λ agree. h.so.choice ∙ agree.last_choice);
          waits = ∥∥₁_map (waits_agree word) (λ agree. ap (map (wait_on_names (legend_seen l))) h.so.waits ∙ agree);
          stop = ∥∥₁_map (stop_agrees word) (λ agree. h.so.stop ∙ agree);
          end = h.so.end ∙ sym (same.runs word);
          constants = read_names t r read ok tables;
        }

  -- of the outcomes, whose finding is that of the limits that are asked for
  pub outcomes : (l : code_legend.Legend) (form : Format) (verdict : ShowVerdict) (text : List ℕ) → AreOutcomesOf form o r l verdict text → AreOutcomes form o t r l verdict text
  outcomes l form verdict text h =
      let asked = h.asked in
      let found = h.told.meant t read ok (subst (λ (x : Tables). plain x ≡ laid t) (sym asked.program) tables) in
      let by_discipline = subst (λ (g : Discipline). IsFoundIn (λ choices. table (named t (named_discipline g)) choices h.subject.limits.steps) h.subject.limits.choices h.told.finding) asked.discipline found in
      let by_steps = subst (λ (n : ℕ). IsFoundIn (λ choices. table (named t (named_discipline o.discipline)) choices n) h.subject.limits.choices h.told.finding) asked.steps by_discipline in
      record { so = h; found = subst (λ (n : ℕ). IsFoundIn (λ choices. table (named t (named_discipline o.discipline)) choices o.steps) n h.told.finding) asked.choices by_steps }

-- the schedule that is asked for
pub traced : (t : Tree) (r : Tables) (l : code_legend.Legend) (a : Asked) (f : ScheduleForm) (source : List (List ℕ)) (verdict : ShowVerdict) (text : List ℕ) → ∥ IsRead t.program ∥₁ → IsAccepted t → AreNamed t r l → IsTracedAs f (IsStoryText f a.options r (legend_seen l) source) a r verdict text → IsTracedAs f (IsTraceInNames f a.options t r l source) a r verdict text
traced t r l a f source verdict text read ok is h =
    record {
      given = h.given;
      told =
          λ reported.
          let it = h.told reported in
          (it.0, it.1, in_names t r read ok is.stands.laid a.options l is f source it.0 text it.2);
    }
