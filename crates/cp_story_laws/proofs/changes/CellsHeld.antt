-- The cells of a machine have the values of the variables of all components of the state that it stands for.
use Rattle.std.proofs.Common.{◌≡◌, ℕ, ◌+◌, ◌<◌, List, [], Some, arith, length}
use Rattle.std.specs.Prelude.{ℤ}
use Rattle.cp_tree.specs.Read.{IsRead}
use Rattle.cp_tree.specs.Syntax.{Tree}
use Rattle.cp_layout.specs.Laid.{plain, laid}
use Rattle.cp_meaning_laws.specs.Accepted.{IsAccepted}
use Rattle.cp_slots.specs.Tables.{Tables, component_at}
use Rattle.cp_symbols.specs.Kinds.{most}
use Rattle.cp_machine.specs.declared.discipline.Discipline as slot_gates
use Rattle.cp_machine.specs.Machine.{Machine}
use Rattle.cp_meaning.specs.Names.{Name}
use Rattle.cp_meaning.specs.Places.{content_of, value_held}
use Rattle.cp_meaning.specs.State as meaning
use Rattle.cp_meaning.specs.State.{Component, State}
use Rattle.cp_meaning.specs.Steps.{first_components}
use Rattle.cp_meaning.specs.Types.{Ty}
use Rattle.cp_meaning.proofs.ComponentTree.{SameTree}
use Rattle.cp_resolved.specs.Layouts.{look}
use Rattle.cp_resolved.specs.TreeLayouts.{layouts_of}
use Rattle.cp_resolved.proofs.counts.FewComponents.{accepted_few}
use Rattle.cp_machine_laws.specs.Named.{named_discipline}
use Rattle.cp_machine_laws.specs.Represents.{LiesAt}
use Rattle.cp_machine_laws.proofs.HoldsInReached.{HoldsInReached, reached_stands}
use Rattle.cp_store.specs.declared.memory.Address.TheVariants.{Permanent}
use Rattle.cp_store.specs.Memory.{Memory}
use Rattle.cp_story_laws.proofs.Together.{Related}

abbrev pub permanent_memory : List ℤ → Memory
permanent_memory cells = record { permanents = cells; cells = []; references = [] }

module _ (t : Tree) (r : Tables) where
  -- the variables of these components lie in these cells
  pub record CellsHold (cs : List Component) (cells : List ℤ) : Type 0 where
    pub few : length cells < most
    pub lies : (n : ℕ) (x : Name) (u : Ty) → n < length r.components → look x ((layouts_of t).systems (component_at r n).system).variables ≡ Some u →
        LiesAt (permanent_memory cells) u (value_held (content_of x (meaning.component_at cs n).environment)) (Permanent ((component_at r n).base + ((layouts_of t).systems (component_at r n).system).slots x))

  -- and these are the components of the program, as they are at some time
  pub record Held (cs : List Component) (cells : List ℤ) : Type 0 where
    pub values : CellsHold cs cells
    pub tree : SameTree (first_components t.program) cs

module _ (t : Tree) (r : Tables) (g : slot_gates.Discipline) (read : IsRead t.program) (ok : IsAccepted t) (same : plain r ≡ laid t) (s : State) (m : Machine) (sim : Related t r g read ok same s m) where
  pub cells_hold : CellsHold t r s.components m.permanents
  cells_hold =
      record {
        few = (let a = sim.fits.permanents in let b = (accepted_few t r same read ok).permanents in omega (arith, a, b));
        lies = λ n x u less found. (sim.represents.components n (let a = sim.represents.component_count in omega (arith, a, less))).variables x u found;
      }

  pub held : Held t r s.components m.permanents
  held =
      let reached : HoldsInReached t.program s = reached_stands t ok (named_discipline g) s sim.reached in
      record { values = cells_hold; tree = record { path = reached.path; kind = reached.kind; system = reached.system; find = reached.found; size = reached.count } }
