-- What a story tells, by what was told before.
use Rattle.std.specs.Option.{option_to_list}
use Rattle.std.proofs.Common.{◌≡◌, ◌∙◌, ◌++◌, ℕ, List, [], Option, ap, map, refl}
use Rattle.cp_slots.specs.Tables.{Tables}
use Rattle.cp_machine.specs.declared.event.Event.{Event}
use Rattle.cp_machine.specs.declared.discipline.Discipline.{Discipline}
use Rattle.cp_machine.specs.declared.process.Status.{Status}
use Rattle.cp_machine.specs.Machine.{Machine}
use Rattle.cp_machine.specs.Opening.{opening}
use Rattle.cp_legend.specs.Names.{Legend}
use Rattle.cp_story.specs.Aimed.{aim_in}
use Rattle.cp_story.specs.Changes.{Changed, changes_in}
use Rattle.cp_story.specs.Passed.{Given}
use Rattle.cp_story.specs.declared.aim.Aim.{Aim}
use Rattle.cp_story.specs.declared.event.StoryEvent.{StoryEvent}
use Rattle.cp_story.specs.declared.observer.Observer.{Observer}
use Rattle.cp_run.specs.declared.line.TraceEvent.{TraceEvent}
use Rattle.cp_run.specs.declared.line.TraceLine.{TraceLine}
use Rattle.cp_run.specs.Fold.{beside, fold_run}
use Rattle.cp_run.specs.Slots.{slots}
use Rattle.cp_run.specs.Trace.{step_lines, trace, tracer}
use Rattle.cp_run.proofs.FoldAlong.{fold_along}
use Rattle.cp_run.proofs.TraceFold.{is_traced}
use Rattle.cp_story.specs.Told.{lines_of}
use Rattle.cp_story.specs.Story.{Decision, Happened, Past, Telling, expecting, is_gated, line_told, nothing_told, past_before, resumed_processes, statuses_in, teller, telling, told_event, told_step, what_happened}
use Rattle.cp_story.specs.Views.{past_of, telling_of, told_of}

-- what is seen of a step before it is made changes what is remembered alone
pub step_expected : (o u : Observer) (es : List StoryEvent) (aim : Aim) (s : Machine) (p : ℕ) → past_of u ≡ past_before aim s p (past_of o) → telling_of u es ≡ expecting aim s p (telling_of o es)
step_expected o u es aim s p e = ap (λ (past : Past). record { events = map told_of es; past = past }) e

-- a step is told by what its process was about to do
step_told : (r : Tables) (discipline : Discipline) (p : ℕ) (s t : Machine) (event : Event) (aim : Aim) (x y z : Telling) → aim ≡ aim_in r s p → y ≡ expecting aim s p x → z ≡ told_step r discipline p aim event t y → z ≡ (teller r discipline).on_step s p event t x
step_told r discipline p s t event aim x y z about e h = h ∙ ap (told_step r discipline p aim event t) e ∙ ap (λ (a : Aim). told_step r discipline p a event t (expecting a s p x)) about

none_told : (o : Observer) (es : List StoryEvent) (l : Legend) (m : Machine) → es ≡ [] → past_of o ≡ (nothing_told l m).past → telling_of o es ≡ nothing_told l m
none_told o es l m none e = ap (λ (ts : List StoryEvent). telling_of o ts) none ∙ ap (λ (past : Past). record { events = []; past = past }) e

pub same_both : (x y : Telling) (now new : List TraceLine) → x ≡ y → now ≡ new → ◌≡◌ {A = Telling × List TraceLine} (x, now) (y, new)
same_both x y now new e h = ap (λ (u : Telling). (let both : Telling × List TraceLine = (u, now) in both)) e ∙ ap (λ (ls : List TraceLine). (let both : Telling × List TraceLine = (y, ls) in both)) h

module _ (r : Tables) (discipline : Discipline) where
  -- a step is told and has its line, by what was seen of it before it was made
  pub step_seen : (p : ℕ) (s t : Machine) (event : Event) (aim : Aim) (y z : Telling) (now new : List TraceLine) (x : Telling × List TraceLine) → z ≡ told_step r discipline p aim event t y → new ≡ now ++ step_lines (slots r discipline) t p event → (aim ≡ aim_in r s p) × (y ≡ expecting aim s p x.0) × (now ≡ x.1) → ◌≡◌ {A = Telling × List TraceLine} (z, new) ((beside (teller r discipline) (tracer (slots r discipline))).on_step s p event t x)
  step_seen p s t event aim y z now new x told line h =
      let z_is = step_told r discipline p s t event aim x.0 y z h.0 h.1 told in
      let new_is = line ∙ ap (λ ls. ls ++ step_lines (slots r discipline) t p event) h.2 in
      same_both z ((teller r discipline).on_step s p event t x.0) new (x.1 ++ step_lines (slots r discipline) t p event) z_is new_is

  -- what is told of a whole run, and its lines
  pub run_told : (choices steps : ℕ) (word : List ℕ) (l : Legend) (o : Observer) (es : List StoryEvent) (m : Machine) (x : Telling × List TraceLine) → es ≡ [] → m ≡ opening r discipline → past_of o ≡ (nothing_told l m).past → x ≡ fold_run (slots r discipline) (beside (teller r discipline) (tracer (slots r discipline))) choices steps word (telling_of o es, lines_of es) → record { told : x.0 ≡ telling l r discipline choices steps word; lines : x.1 ≡ trace (slots r discipline) choices steps word }
  run_told choices steps word l o es m x none start first h =
      let sys = slots r discipline in
      let both = beside (teller r discipline) (tracer sys) in
      let begun : Telling × List TraceLine = (telling_of o es, lines_of es) in
      record {
        told = ap (λ (x : Telling × List TraceLine). x.0) h ∙ fold_along sys both (teller r discipline) (λ x. x.0) (record { step = λ s p event t x. refl; admission = λ p t x. refl; choice = λ s p x. refl }) choices steps word begun ∙ ap (fold_run sys (teller r discipline) choices steps word) (none_told o es l m none first ∙ ap (nothing_told l) start);
        lines = ap (λ (x : Telling × List TraceLine). x.1) h ∙ fold_along sys both (tracer sys) (λ x. x.1) (record { step = λ s p event t x. refl; admission = λ p t x. refl; choice = λ s p x. refl }) choices steps word begun ∙ ap (λ (es : List StoryEvent). fold_run sys (tracer sys) choices steps word (lines_of es)) none ∙ is_traced sys choices steps word;
      }

-- an event is told as its parts are
pub told_as : (holders : List (Option ℕ)) (event : TraceEvent) (p : ℕ) (aim : Aim) (t : Machine) (past : Past) (happened : Happened) (line : Option ℕ) (returned : List Given) (choice : Option Decision) (woken let_in : List ℕ) (statuses : List Status) (changes : List Changed) → happened ≡ what_happened event p aim t past → line ≡ line_told happened aim.line → returned ≡ past.returned → choice ≡ past.choice → woken ≡ option_to_list aim.wakes → let_in ≡ resumed_processes is_gated past.statuses t p → statuses ≡ statuses_in t → changes ≡ changes_in past.legend past.cells t.permanents → told_event holders event p aim t past ≡ record { process = p; happened = happened; line = line; returned = returned; choice = choice; woken = woken; let_in = let_in; statuses = statuses; holders = holders; changes = changes }
told_as holders event p aim t past happened line returned choice woken let_in statuses changes is stands back after delayed gated all others = rw (stands, is, back, after, delayed, gated, all, others) refl
