-- In each state that the machine reaches it stands for one that the program reaches, so that the laws of the language hold of it.
use Rattle.cp_machine_laws.proofs.Words.{◌≡◌, ◌∙◌, ℕ, ◌<◌, List, subst, sym, IsRead, Tree, plain, laid, Tables, IsAccepted, well_formed, Discipline, State, IsWellFormed}
use Rattle.cp_machine_laws.proofs.Words.{Machine, slots, System, Layouts, AreTablesOf, layouts_of, CanGo, CanEnter, GoInStep, Simulates, named, discipline_of, AllKnown}
use Rattle.cp_meaning.proofs.OwnershipLemmas.{exclusive, ownership}
use Rattle.cp_machine_laws.specs.Running.{Happening, IsMet, met_first, met_by_step, met_by_admission, StepsAsMeant, RunsAsMeant}
use Rattle.cp_machine_laws.proofs.steps.Beginning.{waiting_same}
use Rattle.cp_machine_laws.proofs.steps.GoingInStep.{there, goes_now, still, prepared}
use Rattle.cp_machine_laws.proofs.HoldsInReached.{reached_lawful}
use Rattle.cp_machine_laws.proofs.Meaning.{it, known, goes_in_step}

-- ---- two systems that go in step

module _ {S T : Type 0} (a : System S) (b : System T) (R : S → T → Type 0) (go : GoInStep a b R) where
  -- what may go in the one may go in the other
  goes_there : (s : S) (t : T) (p : ℕ) → R s t → CanGo b t p → CanGo a s p
  goes_there s t p x may =
      let below : p < a.processes = subst (λ (n : ℕ). p < n) (sym go.processes) may.below in
      record { below = below; ready = (go.alike s t x).ready p below ∙ may.ready; free = (go.alike s t x).pending ∙ may.free }

  enters_there : (s : S) (t : T) (p : ℕ) → R s t → CanEnter b t p → CanEnter a s p
  enters_there s t p x may =
      let below : p < a.processes = subst (λ (n : ℕ). p < n) (sym go.processes) may.below in
      record { below = below; due = (go.alike s t x).pending ∙ may.due; lined = (go.alike s t x).lined p below ∙ may.lined }

  -- each state that the one reaches is related to the one to which the same leads in the other
  abbrev IsRelated : List Happening → T → Type 0
  IsRelated hs t = (s : S) × IsMet a hs s × R s t

  related : (hs : List Happening) (t : T) → IsMet b hs t → IsRelated hs t
  related _ _ met_first = (a.start, met_first, go.start)
  related _ _ (met_by_step hs t p before may) =
      let x = related hs t before in
      let goes = goes_there x.0 t p x.2 may in
      (a.step x.0 p, met_by_step hs x.0 p x.1 goes, go.step x.0 t p x.2 goes)
  related _ _ (met_by_admission hs t p before may) =
      let x = related hs t before in
      let enters = enters_there x.0 t p x.2 may in
      (a.admit x.0 p, met_by_admission hs x.0 p x.1 enters, go.admit x.0 t p x.2 enters)

-- ---- a program that was read and is accepted

module _ (t : Tree) (r : Tables) (g : Discipline) (read : IsRead t.program) (ok : IsAccepted t) (same : plain r ≡ laid t) where
  abbrev l : Layouts
  l = layouts_of t

  tables : AreTablesOf t r
  tables = it t r g read ok same

  asked : AllKnown t r l g
  asked = known t r g read ok same

  go : GoInStep (named t g) (slots r (discipline_of g)) (Simulates t r l g)
  go = goes_in_step t r g read ok same

  well : IsWellFormed t.program
  well = well_formed t ok

  steps_so : (s : State) (m : Machine) (p : ℕ) → Simulates t r l g s m → CanGo (slots r (discipline_of g)) m p → StepsAsMeant t r g s m p
  steps_so s m p sim may =
      let goes : CanGo (named t g) s p = goes_there (named t g) (slots r (discipline_of g)) (Simulates t r l g) go s m p sim may in
      let own = ownership t.program well g in
      let lawful = reached_lawful t.program well g s sim.reached in
      let none = still t r l g ok tables.stands tables.sound asked s m p sim goes in
      let less = there t r l g ok tables.stands tables.sound asked s m p sim goes in
      let was = (goes_now t r l g ok tables.stands tables.sound asked s m p sim goes).was in
      record {
        event = go.event s m p sim goes;
        simulates = go.step s m p sim goes;
        held = own.changes_held s p lawful none less was;
        others = own.others_kept s p lawful none less was;
      }

  pub running_law : (hs : List Happening) (m : Machine) → IsMet (slots r (discipline_of g)) hs m → RunsAsMeant t r g hs m
  running_law hs m met =
      let x = related (named t g) (slots r (discipline_of g)) (Simulates t r l g) go hs m met in
      record {
        state = x.0;
        met = x.1;
        simulates = x.2;
        alike = go.alike x.0 m x.2;
        waiting = waiting_same t r l g (prepared t r l g ok tables.stands tables.sound asked) x.0 m x.2;
        exclusive = exclusive t.program well g x.0 x.2.reached;
        steps = λ p may. steps_so x.0 m p x.2 may;
      }
