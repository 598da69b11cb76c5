-- The opening states, and that what is read of a state without annotations is the same.
use Rattle.std.proofs.Common.{◌≡◌, ◌∙◌, inl, ℕ, suc, List, [], ◌∷◌, length, Option, Some, None, ap, sym, refl, subst, arith}
use Rattle.std.specs.Prelude.{map, slice_index_or}
use Rattle.cp_tree.specs.Read.{IsRead}
use Rattle.cp_tree.specs.declared.declaration.SystemKind.{SystemKind}
use Rattle.cp_tree.specs.declared.declaration.SystemKind.TheVariants as system_kind
use Rattle.cp_tree.specs.Syntax.{Program, Tree}
use Rattle.cp_meaning_laws.specs.Accepted.{IsAccepted}
use Rattle.cp_meaning.specs.Components.{Listed, components_of}
use Rattle.cp_meaning.specs.Declarations.{RoutineMeaning}
use Rattle.cp_meaning.specs.Systems.{SystemMeaning}
use Rattle.cp_meaning.specs.State.{Component, Process, process_at, Discipline, State, uninitialised}
use Rattle.cp_meaning.specs.Readings.{is_ready, monitors_from, first_inside}
use Rattle.cp_meaning.specs.Steps.{first_environment, first_component, first_components, unstarted_process, process_first, processes_from, own_begun, opening}
use Rattle.cp_run.specs.System.{System}
use Rattle.cp_machine_laws.specs.InStep.{CanGo, LooksAlike}
use Rattle.cp_machine_laws.specs.Named.{named, shown_of, in_line_of, monitor_number}
use Rattle.cp_machine_laws.proofs.steps.OpeningState.{processes_are}
use Rattle.cp_machine_laws.proofs.reached.KnownRoutines.{routines_known}
use Rattle.cp_annotation_laws.specs.Plain.{plain_program, plain_tree}
use Rattle.cp_annotation_laws.proofs.annotations.Spoken.{SpokenProgram, AreFine}
use Rattle.cp_annotation_laws.proofs.annotations.Systems.{system_of_plain, components_plain, constants_before_plain}
use Rattle.cp_annotation_laws.proofs.annotations.States.{ProcessStandsFor, AllStandFor, StateStandsFor, at_stands, length_same, same_first_inside, same_waiting}
use Rattle.cp_annotation_laws.proofs.annotations.Kernels.{BodiesFine, begun_of}
use Rattle.cp_annotation_laws.proofs.annotations.Facts.{Facts}

-- ---- components

first_plain : (p : Program) → SpokenProgram p → (l : Listed) → first_component (plain_program p) l ≡ first_component p l
first_plain p spoken l = ap (λ (m : SystemMeaning). (let c : Component = record { path = l.path; system = l.system; kind = m.kind; status = uninitialised; environment = first_environment m; line = [] } in c)) (system_of_plain p spoken l.system)

all_first : (p : Program) → SpokenProgram p → (ls : List Listed) → map (first_component (plain_program p)) ls ≡ map (first_component p) ls
all_first p spoken [] = refl
all_first p spoken (l ∷ ls) =
    ap (λ (c : Component). c ∷ map (first_component (plain_program p)) ls) (first_plain p spoken l)
    ∙ ap (λ (cs : List Component). first_component p l ∷ cs) (all_first p spoken ls)

pub first_components_plain : (p : Program) → SpokenProgram p → first_components (plain_program p) ≡ first_components p
first_components_plain p spoken = ap (map (first_component (plain_program p))) (components_plain p spoken) ∙ all_first p spoken (components_of p)

-- ---- processes

unstarted_stands : (n : ℕ) → ProcessStandsFor (unstarted_process n) (unstarted_process n)
unstarted_stands n = record { component = refl; status = refl; stack = inl (record { other_calls_are = refl; other_items_are = refl }) }

first_stands : (k : SystemKind) (n : ℕ) (ps : List Process) → AllStandFor ps ps → AllStandFor (process_first k n ps) (process_first k n ps)
first_stands system_kind.Process n ps h = (unstarted_stands n, h)
first_stands system_kind.Class n ps h = h
first_stands system_kind.Monitor n ps h = h

all_unstarted : (n : ℕ) (cs : List Component) → AllStandFor (processes_from n cs) (processes_from n cs)
all_unstarted n [] = tt
all_unstarted n (c ∷ cs) = first_stands c.kind n (processes_from (suc n) cs) (all_unstarted (suc n) cs)

own_stands : (p : Program) → SpokenProgram p → (cs : List Component) (ps : List Process) → BodiesFine p cs → AllStandFor ps ps → AllStandFor (own_begun p cs ps) (own_begun (plain_program p) cs ps)
own_stands p spoken (c ∷ cs) (x ∷ ps) fine h = (begun_of p spoken 0 c.system (fine 0), h.1)
own_stands p spoken [] ps fine h = h
own_stands p spoken (c ∷ cs) [] fine h = tt

module _ (t : Tree) (g : Discipline) (read : IsRead t.program) (ok : IsAccepted t) (facts : Facts t.program) where
  abbrev p : Program
  p = t.program

  abbrev with_them : System State
  with_them = named t g

  abbrev without : System State
  without = named (plain_tree t) g

  pub first_fine : BodiesFine p (first_components p)
  first_fine n =
      let i = (routines_known t read ok).initials n in
      subst (λ (m : RoutineMeaning). AreFine m.scope m.body) i.same (facts.bodies i.number)

  pub opening_stands : StateStandsFor (opening p g) (opening (plain_program p) g)
  opening_stands =
      record {
        processes = own_begun (plain_program p) (first_components p) (processes_from 0 (first_components p));
        all = own_stands p facts.spoken (first_components p) (processes_from 0 (first_components p)) first_fine (all_unstarted 0 (first_components p));
        same = ap (λ (cs : List Component). (let s : State = record { processes = own_begun (plain_program p) cs (processes_from 0 cs); components = cs; output = []; discipline = g; pending = None } in s)) (first_components_plain p facts.spoken);
      }

  pub same_processes : with_them.processes ≡ without.processes
  same_processes =
      sym (ap (λ (s : State). length s.processes) opening_stands.same ∙ length_same (opening p g).processes opening_stands.processes opening_stands.all)

  pub first_goes : CanGo with_them (opening p g) 0
  first_goes =
      record {
        below = (let a = ap length (processes_are p g) in omega (arith, a));
        ready = ap (λ (ps : List Process). is_ready (process_at ps 0).status) (processes_are p g);
        free = refl;
      }

  -- ---- what is read

  same_monitor : (k : ℕ) → monitor_number (plain_program p) g k ≡ monitor_number p g k
  same_monitor k = ap (λ (cs : List Component). slice_index_or (monitors_from 0 cs) k (length cs)) (first_components_plain p facts.spoken)

  same_line : (o : Option ℕ) (s : State) (ys : List Process) (q : ℕ) → in_line_of o s q ≡ in_line_of o (record s { processes = ys }) q
  same_line None s ys q = refl
  same_line (Some m) s ys q = refl

  alike_with : (s : State) (ys : List Process) → AllStandFor s.processes ys → LooksAlike with_them without s (record s { processes = ys })
  alike_with s ys h =
      record {
        ready = λ q less. sym (ap is_ready (at_stands s.processes ys q h).status);
        pending = refl;
        lined = λ q less. same_line s.pending s ys q;
        waits = sym (same_waiting s.processes ys h);
        holder = λ m less. sym (ap (λ (n : ℕ). first_inside n ys) (same_monitor m) ∙ same_first_inside (monitor_number p g m) s.processes ys h);
        output = ap (λ (firsts : ℕ → ℕ). map (shown_of firsts) s.output) (sym (constants_before_plain p facts.spoken));
      }

  pub alike : (s u : State) → StateStandsFor s u → LooksAlike with_them without s u
  alike s u h = subst (LooksAlike with_them without s) (sym h.same) (alike_with s h.processes h.all)
