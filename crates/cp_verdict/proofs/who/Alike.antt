-- Who waits where a run stops is the same on slots and on the program's own names.
use Rattle.std.proofs.Common.{◌≡◌, ◌∙◌, ℕ, zero, suc, Bool, true, false, if◌then◌else◌, List, [], ◌∷◌, ◌++◌, length, refl, sym, ap, subst}
use Rattle.std.proofs.Math.Logic.{∥∥₁_elim}
use Rattle.std.proofs.Math.Path.{fun_ext}
use Rattle.std.specs.Coded.{Coded-set, coded_list, coded_ℕ}
use Rattle.cp_tree.specs.Read.{IsRead}
use Rattle.cp_tree.specs.Syntax.{Tree}
use Rattle.cp_layout.specs.Laid.{plain, laid}
use Rattle.cp_slots.specs.Tables.{Tables}
use Rattle.cp_meaning_laws.specs.Accepted.{IsAccepted}
use Rattle.cp_meaning.specs.State.{Discipline, State}
use Rattle.cp_machine.specs.System.{Machine}
use Rattle.cp_machine.specs.declared.discipline.Discipline as slot_discipline
use Rattle.cp_resolved.specs.TreeLayouts.{layouts_of}
use Rattle.cp_run.specs.Run.{Node, Halted, Choosing, may, chosen, opened, those_below}
use Rattle.cp_run.specs.Slots.{slots}
use Rattle.cp_run.specs.Stop.{last_state, last_state_from}
use Rattle.cp_run.specs.System.{System}
use Rattle.cp_run.specs.Table.{table}
use Rattle.cp_machine_laws.proofs.Alike.{NodesAlike}
use Rattle.cp_machine_laws.proofs.Forgetting.{forgets}
use Rattle.cp_machine_laws.proofs.Meaning.{goes_in_step}
use Rattle.cp_machine_laws.specs.InStep.{CanGo, GoInStep}
use Rattle.cp_machine_laws.specs.Law.{Simulates, ground_of}
use Rattle.cp_machine_laws.specs.Named.{named, named_discipline, discipline_of}
use Rattle.cp_machine_laws.proofs.Disciplines.{same_discipline}
use Rattle.cp_endless_laws.specs.Silent.{named_without_output, silent_named, silent_slots, waits_on_names, waits_on_slots, without_output}
use Rattle.cp_endless_laws.proofs.names.Going.{in_choices, silent_in_step}
use Rattle.cp_endless_laws.proofs.names.Meant.{leaves}
use Rattle.cp_endless_laws.proofs.names.Processes.{waits_so}
use Rattle.cp_endless_laws.proofs.names.Together.{ChoicesAlike}
use Rattle.cp_expectation.specs.declared.expectation.Expectation.{Expectation}
use Rattle.cp_verdict.specs.endless.Naming.{Processes}
use Rattle.cp_verdict.specs.waiting.Marked.{IsMarked}
use Rattle.cp_verdict.specs.waiting.Meant.{IsMeantMark, IsSlotMark}
use Rattle.cp_verdict.specs.waiting.Who.{who_at, who_on_names, who_on_slots}
use Rattle.cp_verdict.specs.declared.program.Marked.{Marked}
use Rattle.cp_verdict.proofs.Meant.{on_names}

same_those : (n : ℕ) (f g : ℕ → Bool) → ((p : ℕ) → f p ≡ g p) → those_below n f ≡ those_below n g
same_those zero f g h = refl
same_those (suc n) f g h = ap (λ l. l ++ (if f n then n ∷ [] else [])) (same_those n f g h) ∙ ap (λ b. those_below n g ++ (if b then n ∷ [] else [])) (h n)

-- ---- two systems whose choices lead to states that are related

module _ {S T : Type 0} (a : System S) (b : System T) (steps : ℕ) (R : S → T → Type 0) (V : S → T → ℕ → Type 0) (h : ChoicesAlike a b steps R V) where
  stops_from : (choices : ℕ) (word : List ℕ) (x : Node S) (y : Node T) → NodesAlike R x y → R (last_state_from a steps choices word x) (last_state_from b steps choices word y)
  unfolding last_state_from
  stops_from choices word (Halted k s) (Halted l t) n = n.1
  stops_from choices word (Halted k s) (Choosing t) n = absurd n
  stops_from choices word (Choosing s) (Halted l t) n = absurd n
  stops_from zero word (Choosing s) (Choosing t) n = n
  stops_from (suc choices) [] (Choosing s) (Choosing t) n = n
  stops_from (suc choices) (p ∷ word) (Choosing s) (Choosing t) n = by (may a s p) (may b t p) refl (h.same s t p n) (λ m. stops_from choices word (chosen a steps s p) (chosen b steps t p) (h.goes s t p n m))
    where
      by : (c d : Bool) → may a s p ≡ c → c ≡ d → (may a s p ≡ true → R (last_state_from a steps choices word (chosen a steps s p)) (last_state_from b steps choices word (chosen b steps t p))) →
          R (if c then last_state_from a steps choices word (chosen a steps s p) else s) (if d then last_state_from b steps choices word (chosen b steps t p) else t)
      by true true m e on = on m
      by false false m e on = n
      by true false m e on = absurd (cc)
      by false true m e on = absurd (cc)

  pub same_who : (wa : S → ℕ → Bool) (wb : T → ℕ → Bool) → ((s : S) (t : T) (q : ℕ) → R s t → wa s q ≡ wb t q) → (choices : ℕ) (word : List ℕ) → who_at a wa choices steps word ≡ who_at b wb choices steps word
  same_who wa wb waits choices word =
      let r = stops_from choices word (opened a steps) (opened b steps) h.begins in
      let s = last_state a choices steps word in
      let t = last_state b choices steps word in
      same_those a.processes (wa s) (wb t) (λ q. waits s t q r) ∙ ap (λ n. those_below n (wb t)) h.processes

-- ---- the slot machine and the meaning

module _ (t : Tree) (r : Tables) (g : Discipline) (read : IsRead t.program) (ok : IsAccepted t) (same : plain r ≡ laid t) where
  abbrev R : State → Machine → Type 0
  R = Simulates t r (layouts_of t) g

  go : GoInStep (named t g) (slots r (discipline_of g)) R
  go = goes_in_step t r g read ok same

  waits : (s : State) (m : Machine) (q : ℕ) → R s m → waits_on_names s q ≡ waits_on_slots m q
  waits s m q h = waits_so (ground_of t r) t.program (layouts_of t) s m q h.represents

  -- in a table
  same_at : (choices steps : ℕ) (word : List ℕ) → who_at (named t g) waits_on_names choices steps word ≡ who_at (slots r (discipline_of g)) waits_on_slots choices steps word
  same_at choices steps word = same_who (named t g) (slots r (discipline_of g)) steps R (λ s m p. R s m × CanGo (named t g) s p) (in_choices (named t g) (slots r (discipline_of g)) R go steps) waits_on_names waits_on_slots waits choices word

  -- of any length
  pub same_after : (steps : ℕ) (word : List ℕ) → who_on_names t g steps word ≡ who_on_slots r (discipline_of g) steps word
  same_after steps word =
      let a = silent_named t g in
      let b = silent_slots r (discipline_of g) in
      let keeps = λ (s : State) (m : Machine) (h : R s m). forgets t r (layouts_of t) g s m h in
      same_who a b steps R (λ s m p. R s m × CanGo a s p) (in_choices a b R (silent_in_step (named t g) (slots r (discipline_of g)) R go named_without_output without_output keeps (leaves t g)) steps) waits_on_names waits_on_slots waits (length word) word

-- where it is only known that the program was read
same_rows : (t : Tree) (r : Tables) (d : slot_discipline.Discipline) → ∥ IsRead t.program ∥₁ → IsAccepted t → plain r ≡ laid t → (choices steps : ℕ) → who_at (named t (named_discipline d)) waits_on_names choices steps ≡ who_at (slots r d) waits_on_slots choices steps
same_rows t r d read ok same choices steps =
    fun_ext (λ word.
    ∥∥₁_elim read (Coded-set (coded_list coded_ℕ) (who_at (named t (named_discipline d)) waits_on_names choices steps word) (who_at (slots r d) waits_on_slots choices steps word))
    (λ it. same_at t r (named_discipline d) it ok same choices steps word ∙ ap (λ (g : slot_discipline.Discipline). who_at (slots r g) waits_on_slots choices steps word) (same_discipline d)))

-- a mark by the rows of the slot machine is one by those of the meaning
pub meant_rows : (r : Tables) (ps : Processes) (d : slot_discipline.Discipline) (choices steps : ℕ) (es : List Expectation) (m : Marked) → IsSlotMark r ps d choices steps es m → IsMeantMark r ps d choices steps es m
meant_rows r ps d choices steps es m h = λ t read ok same.
    subst (λ (who : List ℕ → List ℕ). IsMarked r.names ps who es (table (named t (named_discipline d)) choices steps) m) (sym (same_rows t r d read ok same choices steps))
    (on_names (λ lines. IsMarked r.names ps (who_at (slots r d) waits_on_slots choices steps) es lines m) r d choices steps h t read ok same)
