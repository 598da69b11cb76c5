-- The meaning of a tree that was read and is accepted, and the slot machine of its tables, by the rule of admission that the machine has.
use Rattle.std.proofs.Common.{◌≡◌, ℕ, subst}
use Rattle.cp_tree.specs.Read.{IsRead}
use Rattle.cp_tree.specs.Syntax.{Tree}
use Rattle.cp_layout.specs.Laid.{plain, laid}
use Rattle.cp_slots.specs.Tables.{Tables}
use Rattle.cp_meaning_laws.specs.Accepted.{IsAccepted}
use Rattle.cp_machine.specs.declared.discipline.Discipline as slot_gates
use Rattle.cp_machine.specs.Machine.{Machine}
use Rattle.cp_meaning.specs.State.{State}
use Rattle.cp_run.specs.Slots.{slots}
use Rattle.cp_resolved.specs.Resolving.{AreTablesOf}
use Rattle.cp_resolved.specs.TreeLayouts.{layouts_of}
use Rattle.cp_machine_laws.specs.AllKnown.{AllKnown}
use Rattle.cp_machine_laws.specs.InStep.{CanGo, GoInStep}
use Rattle.cp_machine_laws.specs.Law.{Simulates, ground_of}
use Rattle.cp_machine_laws.specs.Named.{named, named_discipline}
use Rattle.cp_machine_laws.specs.Prepared.{Prepared}
use Rattle.cp_machine_laws.proofs.Disciplines.{same_discipline}
use Rattle.cp_machine_laws.proofs.Meaning.{goes_in_step, it, known}
use Rattle.cp_machine_laws.proofs.steps.Going.{Going}
use Rattle.cp_machine_laws.proofs.steps.GoingInStep.{goes_now}

module _ (t : Tree) (r : Tables) (g : slot_gates.Discipline) (read : IsRead t.program) (ok : IsAccepted t) (same : plain r ≡ laid t) where
  abbrev pub Related : State → Machine → Type 0
  Related = Simulates t r (layouts_of t) (named_discipline g)

  pub go : GoInStep (named t (named_discipline g)) (slots r g) Related
  go = subst (λ (k : slot_gates.Discipline). GoInStep (named t (named_discipline g)) (slots r k) Related) (same_discipline g) (goes_in_step t r (named_discipline g) read ok same)

  its : AreTablesOf t r
  its = it t r (named_discipline g) read ok same

  all_known : AllKnown t r (layouts_of t) (named_discipline g)
  all_known = known t r (named_discipline g) read ok same

  pub prepared : Prepared t r (layouts_of t)
  prepared = record { stands = its.stands; sound = its.sound; program = all_known.program }

  pub going : (s : State) (m : Machine) (p : ℕ) → Related s m → CanGo (named t (named_discipline g)) s p → Going (ground_of t r) t.program (layouts_of t) s m p
  going s m p sim can = goes_now t r (layouts_of t) (named_discipline g) ok its.stands its.sound all_known s m p sim can
