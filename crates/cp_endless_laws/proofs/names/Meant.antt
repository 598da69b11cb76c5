-- What is said of the slot machine holds of the meaning of the program on its own names.
use Rattle.cp_endless_laws.proofs.Words.{◌≡◌, ◌∙◌, ℕ, List, refl, sym, subst, Tables, Machine, State, slots, GoInStep, CanGo, Line, Contains, System}
use Rattle.cp_tree.specs.Syntax.{Tree}
use Rattle.cp_tree.specs.Read.{IsRead}
use Rattle.cp_layout.specs.Laid.{plain, laid}
use Rattle.cp_meaning_laws.specs.Accepted.{IsAccepted}
use Rattle.cp_resolved.specs.TreeLayouts.{layouts_of}
use Rattle.cp_machine_laws.specs.Law.{ground_of, Simulates}
use Rattle.cp_machine_laws.specs.Named.{named, discipline_of}
use Rattle.cp_machine_laws.proofs.HoldsInReached.{reached_stands}
use Rattle.cp_machine_laws.proofs.Meaning.{it, goes_in_step, meaning_law}
use Rattle.cp_machine_laws.proofs.ReachedKinds.{kinds_agree}
use Rattle.cp_meaning.specs.State as named
use Rattle.cp_endless_laws.specs.Meaning.{EndlessMeaningLaw, MeansTheSame, SettledMeaningLaw}
use Rattle.cp_endless_laws.specs.Silent.{ShowsLess, in_call_on_names, in_call_on_slots, named_without_output, silent_named, silent_slots, waits_on_names, waits_on_slots, without_output}
use Rattle.cp_endless_laws.specs.Tables.{HasKnownEnds}
use Rattle.cp_machine_laws.proofs.Forgetting.{forgets}
use Rattle.cp_endless_laws.proofs.names.Going.{Leaves, in_choices, silent_in_step}
use Rattle.cp_endless_laws.proofs.names.InCalls.{in_call_so}
use Rattle.cp_endless_laws.proofs.names.Processes.{waits_so}
use Rattle.cp_endless_laws.proofs.names.Together.{ChoicesAlike, ends_the_same}
use Rattle.cp_endless_laws.proofs.names.Values.{shows_the_same}
use Rattle.cp_endless_laws.proofs.names.WaitTogether.{waits_the_same, lingers_the_same}
use Rattle.cp_endless_laws.proofs.possible.Settled.{settled}
use Rattle.cp_endless_laws.proofs.possible.Tables.{tables_known, witnesses}
use Rattle.cp_endless_laws.proofs.slots.Output.{slots_forget}

pub leaves : (t : Tree) (g : named.Discipline) → Leaves (named t g) named_without_output
leaves t g = record { ready = λ s p. refl; pending = λ s. refl }

module _ (t : Tree) (r : Tables) (g : named.Discipline) (read : IsRead t.program) (ok : IsAccepted t) (same : plain r ≡ laid t) where
  abbrev R : State → Machine → Type 0
  R = Simulates t r (layouts_of t) g

  abbrev a : System State
  a = silent_named t g

  abbrev b : System Machine
  b = silent_slots r (discipline_of g)

  go : GoInStep (named t g) (slots r (discipline_of g)) R
  go = goes_in_step t r g read ok same

  keeps : (s : State) (m : Machine) → R s m → R (named_without_output s) (without_output m)
  keeps s m h = forgets t r (layouts_of t) g s m h

  waits : (s : State) (m : Machine) (q : ℕ) → R s m → waits_on_names s q ≡ waits_on_slots m q
  waits s m q h = waits_so (ground_of t r) t.program (layouts_of t) s m q h.represents

  inside : (s : State) (m : Machine) (q : ℕ) → R s m → in_call_on_names s q ≡ in_call_on_slots m q
  inside s m q h = in_call_so (ground_of t r) t.program (layouts_of t) s m q (kinds_agree t r (layouts_of t) (it t r g read ok same).stands s (reached_stands t ok g s h.reached).kind) h.represents

  abbrev V : State → Machine → ℕ → Type 0
  V s m p = R s m × CanGo a s p

  alike : (steps : ℕ) → ChoicesAlike a b steps R V
  alike steps = in_choices a b R (silent_in_step (named t g) (slots r (discipline_of g)) R go named_without_output without_output keeps (leaves t g)) steps

  means : (steps : ℕ) → MeansTheSame t r g steps
  means steps =
      record {
        ends = ends_the_same a b steps R V (alike steps);
        values = shows_the_same (named t g) (slots r (discipline_of g)) R go named_without_output without_output keeps (leaves t g) steps;
        waits = waits_the_same a b steps R V (alike steps) waits_on_names waits_on_slots waits;
        lingers = lingers_the_same a b steps R V (alike steps) in_call_on_names waits_on_names in_call_on_slots waits_on_slots inside waits;
      }

pub endless_meaning : EndlessMeaningLaw
endless_meaning t r g read ok same steps = means t r g read ok same steps

pub settled_meaning : SettledMeaningLaw
settled_meaning t r g read ok same steps states ends h =
    let m = (means t r g read ok same steps).ends in
    let s = (settled (silent_slots r (discipline_of g)) steps states ends h).1 in
    let runs = meaning_law t r g read ok same in
    record {
      all = λ kind. (λ i. (s kind).0 (m.there kind i), λ c. m.back kind ((s kind).1 c));
      tables = λ choices. subst (λ (ls : List Line). HasKnownEnds ends ls) (sym (runs choices steps).tables)
          (tables_known (slots r (discipline_of g)) without_output ShowsLess (slots_forget r (discipline_of g)) (Contains states) steps ends h.closed choices);
      witness = λ word kind e choices le.
          (let w = witnesses (slots r (discipline_of g)) without_output ShowsLess (slots_forget r (discipline_of g)) steps word kind (m.after_there word kind e) choices le in
          (w.0, w.1, (runs choices steps).runs word ∙ w.2, w.3));
    }
