-- What is told of a program within the limits that the options give.
use Rattle.std.proofs.Common.{◌≡◌, ◌∙◌, ◌&&◌, ℕ, Bool, true, false, List, Option, Some, ap, inl, inr, refl, subst, sym}
use Rattle.cp_slots.specs.Tables.{Tables}
use Rattle.cp_machine.specs.declared.discipline.Discipline.{Discipline}
use Rattle.cp_tree.specs.Read.{IsRead}
use Rattle.cp_tree.specs.Syntax.{Tree}
use Rattle.cp_meaning_laws.specs.Accepted.{IsAccepted}
use Rattle.cp_resolved.proofs.Resolving.{read_names}
use Rattle.cp_resolved.specs.Enumerations.{constant_names}
use Rattle.cp_resolved.specs.Resolving.{IsProgramOf}
use Rattle.cp_machine_laws.specs.Named.{named, named_discipline}
use Rattle.cp_endless_laws.specs.Silent.{waits_on_names}
use Rattle.cp_run.specs.Slots.{slots}
use Rattle.cp_run.specs.Table.{table}
use Rattle.cp_run.specs.declared.limits.Limits.{Limits}
use Rattle.cp_tool.specs.Analysis.{is_at_once}
use Rattle.cp_tool.specs.declared.options.Options.{Options}
use Rattle.cp_expectation.specs.declared.expectation.Expectation.{Expectation}
use Rattle.cp_verdict.specs.endless.AtOnce.{IsEndsMark, IsMarkAtOnce, can_be_at_once}
use Rattle.cp_verdict.specs.endless.Naming.{Processes, processes_of}
use Rattle.cp_verdict.specs.endless.Said.{IsSaid}
use Rattle.cp_verdict.specs.declared.endless.saying.MarkedEnds.{MarkedEnds}
use Rattle.cp_verdict.specs.declared.endless.verdict.EndsMark as ends_mark
use Rattle.cp_verdict.specs.waiting.Who.{who_at}
use Rattle.cp_outcomes.specs.Findings.{IsKnownOf}
use Rattle.cp_outcomes.specs.declared.known.Known.{Known}
use Rattle.cp_verdict.specs.declared.program.Marked.{Marked}
use Rattle.cp_walk.specs.Text.{Spellings}
use Rattle.cp_show_mark.specs.MarkText.{setting_of}
use Rattle.cp_show_mark.specs.Given.{TellsEnds, TellsEndsBy}
use Rattle.cp_show_mark.specs.Showing.{IsMarkBy, IsNamedMark, IsSlotMark, ShowVerdict, TellsEndsMark, TellsMarkAtOnce, ends_verdict_of, verdict_of}
use Rattle.cp_show_mark.specs.Told.{IsExcessTold, IsMarkTold, TellsKnown, excess_saying, saying}
use Rattle.cp_show_mark.specs.declared.examinee.Examinee.{Examinee}
use Rattle.cp_show_mark.specs.declared.excess.MarkExcess.{MarkExcess}

-- ---- limits

abbrev pub AreLimitsOf : Limits → Options → Type 0
AreLimitsOf l o = (l.choices ≡ o.choices) × (l.steps ≡ o.steps) × (l.discipline ≡ o.discipline)

-- what is so within the limits is so within those of the options
pub as_asked : (P : ℕ → ℕ → Discipline → Type 0) (o : Options) (l : Limits) → AreLimitsOf l o → P l.choices l.steps l.discipline → P o.choices o.steps o.discipline
as_asked P o l same h =
    let a = subst (λ (n : ℕ). P n l.steps l.discipline) same.0 h in
    let b = subst (λ (n : ℕ). P o.choices n l.discipline) same.1 a in
    subst (λ (g : Discipline). P o.choices o.steps g) same.2 b

-- ---- by a table

-- on the program's own names
pub named_mark : (t : Tree) (r : Tables) (ps : Processes) → ∥ IsRead t.program ∥₁ → IsAccepted t → IsProgramOf t r → (discipline : Discipline) (choices steps : ℕ) (es : List Expectation) (m : Marked) → IsNamedMark r ps discipline choices steps es m
    → IsMarkBy (constant_names t.program) ps (who_at (named t (named_discipline discipline)) waits_on_names choices steps) es (table (named t (named_discipline discipline)) choices steps) m.mark
named_mark t r ps read ok is discipline choices steps es m h =
    let g = named_discipline discipline in
    subst (λ (names : Spellings). IsMarkBy names ps (who_at (named t g) waits_on_names choices steps) es (table (named t g) choices steps) m.mark) (read_names t r read ok is.laid) ((h.0 t read ok is.laid).together, λ no. (h.1 no t read ok is.laid).together)

-- a mark within the limits of the options, and what is said of it
pub mark_told : (x : Examinee) (l : Limits) (es : List Expectation) (doubtful : Option (List ℕ)) (told : ShowVerdict) (said : List ℕ) (m : Marked) → AreLimitsOf l x.options.now → told ≡ verdict_of m.mark → said ≡ saying (setting_of x) es doubtful m
    → IsSlotMark x.program.now (processes_of x.legend.now) l.discipline l.choices l.steps es m → IsNamedMark x.program.now (processes_of x.legend.now) l.discipline l.choices l.steps es m → IsMarkTold (setting_of x) es doubtful told said m
mark_told x l es doubtful told said m same v t marked meaning =
    let r = x.program.now in
    let ps = processes_of x.legend.now in
    record {
      verdict = v;
      is = t;
      marked = as_asked (λ choices steps discipline. IsSlotMark r ps discipline choices steps es m) x.options.now l same marked;
      meaning = as_asked (λ choices steps discipline. IsNamedMark r ps discipline choices steps es m) x.options.now l same meaning;
    }

-- the mark by these outcomes, which are those of fewer choices
pub known_told : (x : Examinee) (l : Limits) (es : List Expectation) (doubtful : Option (List ℕ)) (e : MarkExcess) (k : Known) (said : List ℕ) → AreLimitsOf l x.options.now → IsKnownOf (slots x.program.now l.discipline) l.choices l.steps k → TellsKnown (setting_of x) es doubtful e k said → IsExcessTold (setting_of x) es doubtful said
known_told x l es doubtful e k said same known (inl is) = (e, inl is)
known_told x l es doubtful e k said same known (inr t) =
    let within = as_asked (λ choices steps discipline. IsKnownOf (slots x.program.now discipline) choices steps k) x.options.now l same known in
    (e, inr (record { choices = k.choices; marked = t.1.0; fewer = within.fewer; is_marked = t.1.2 within.tallies; is = t.2 ∙ ap (λ s. excess_saying (setting_of x) e (Some (k.choices, s))) t.1.1 }))

-- ---- by schedules of any length

pub said_so : (o : Options) (l : Limits) (r : Tables) (ps : Processes) (es : List Expectation) (m : MarkedEnds) {choices : ℕ} → (l.choices ≡ choices) × (l.steps ≡ o.steps) × (l.discipline ≡ o.discipline) → IsSaid r ps l.discipline l.steps o.states es m → IsSaid r ps o.discipline o.steps o.states es m
said_so o l r ps es m same h = subst (λ (g : Discipline). IsSaid r ps g o.steps o.states es m) same.2 (subst (λ (n : ℕ). IsSaid r ps l.discipline n o.states es m) same.1 h)

module _ (o : Options) (l : Limits) (r : Tables) (ps : Processes) (es : List Expectation) (m : ends_mark.EndsMark) (verdict : ShowVerdict) {choices : ℕ} (same : (l.choices ≡ choices) × (l.steps ≡ o.steps) × (l.discipline ≡ o.discipline)) (is : verdict ≡ ends_verdict_of m) where
  by_states : IsEndsMark r ps l.discipline l.steps o.states es m → TellsEndsMark r ps o.discipline o.steps o.states es verdict
  by_states h = (m, is, subst (λ (g : Discipline). IsEndsMark r ps g o.steps o.states es m) same.2 (subst (λ (n : ℕ). IsEndsMark r ps l.discipline n o.states es m) same.1 h))

  by_calls : IsMarkAtOnce r ps l.steps o.states es m → TellsMarkAtOnce r ps o.steps o.states es verdict
  by_calls h = (m, is, subst (λ (n : ℕ). IsMarkAtOnce r ps n o.states es m) same.1 h)

  tells_by : (at_once : Bool) → (at_once ≡ true → TellsMarkAtOnce r ps o.steps o.states es verdict) → (at_once ≡ false → TellsEndsMark r ps o.discipline o.steps o.states es verdict) → TellsEndsBy at_once r ps o es verdict
  tells_by true calls states = calls refl
  tells_by false calls states = states refl

  -- with calls at once, where these settle it
  pub judged_at_once : is_at_once o.analysis ≡ true → (can_be_at_once l.discipline es ≡ true → IsMarkAtOnce r ps l.steps o.states es m) → (can_be_at_once l.discipline es ≡ false → IsEndsMark r ps l.discipline l.steps o.states es m) → TellsEnds r ps o es verdict
  judged_at_once asked calls states =
      let here : (b : Bool) → can_be_at_once o.discipline es ≡ b → can_be_at_once l.discipline es ≡ b = λ b can. subst (λ (g : Discipline). can_be_at_once g es ≡ b) (sym same.2) can in
      subst (λ (b : Bool). TellsEndsBy (b && can_be_at_once o.discipline es) r ps o es verdict) (sym asked) (tells_by (can_be_at_once o.discipline es) (λ can. by_calls (calls (here true can))) (λ cannot. by_states (states (here false cannot))))

  -- by all states
  pub judged_in_turn : is_at_once o.analysis ≡ false → IsEndsMark r ps l.discipline l.steps o.states es m → TellsEnds r ps o es verdict
  judged_in_turn asked h = subst (λ (b : Bool). TellsEndsBy (b && can_be_at_once o.discipline es) r ps o es verdict) (sym asked) (by_states h)
