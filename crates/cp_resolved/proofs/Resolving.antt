-- The tables of a tree that was read and is accepted stand for it, and are sound.
use Rattle.cp_resolved.proofs.Words.{◌≡◌, ◌<◌, ◌≤◌, ℕ, length, refl, arith, IsRead, Tree, IsSound, most, plain, laid, Tables, system_at, IsAccepted, ground_of, AreFew}
use Rattle.cp_resolved.proofs.Words.{IsFramed, IsPlaced, Stands, layouts_of, constant_names, ItemsInside}
use Rattle.std.proofs.Math.Logic.{∥∥₁_elim, ∥∥₁_map}
use Rattle.std.proofs.Props.{props}
use Rattle.cp_resolved.specs.Resolving.{ResolvingLaw, IsProgramOf}
use Rattle.cp_resolved.specs.Soundness.{NamesHold}
use Rattle.cp_resolved.proofs.forms.BodiesFormed.{bodies_formed}
use Rattle.cp_resolved.proofs.counts.FewComponents.{accepted_few}
use Rattle.cp_resolved.proofs.declarations.FramedOfTrees.{accepted_framed}
use Rattle.cp_resolved.proofs.inside.HoldingTables.{can_hold}
use Rattle.cp_resolved.proofs.counts.ModestTables.{accepted_modest}
use Rattle.cp_resolved.proofs.declarations.Placed.{placed_law}
use Rattle.cp_resolved.proofs.sound.Propositions.{sound_once}
use Rattle.cp_resolved.proofs.frames.RoutinesStand.{routines_law}
use Rattle.cp_resolved.proofs.sound.SoundTables.{laid_sound}
use Rattle.cp_resolved.proofs.declarations.SystemVariables.{accepted_components}
use Rattle.cp_resolved.proofs.counts.FewItemsOfTables.{few_items_law}
use Rattle.cp_resolved.proofs.counts.FewCellsOfTables.{few_cells_law}
use Rattle.cp_resolved.proofs.sound.OwnCallsOfTables.{own_calls_law}
use Rattle.cp_resolved.proofs.systems.SystemsStand.{systems_law}
use Rattle.cp_resolved.proofs.components.ComponentsLaw.{components_law}
use Rattle.cp_resolved.proofs.inside.InsideOfTables.{inside_law}

module _ (t : Tree) (r : Tables) (read : IsRead t.program) (ok : IsAccepted t) (same : plain r ≡ laid t) where
  placed : IsPlaced t
  placed = placed_law t read ok

  framed : IsFramed t
  framed = accepted_framed t read ok

  few : AreFew r
  few = accepted_few t r same read ok

  few_items : length r.items ≤ 20000
  few_items = few_items_law r t same read

  items_below : length r.items ≤ most
  items_below = omega (arith, few_items)

  own_below : (k : ℕ) → (system_at r k).own < most
  own_below k = (let few = (few_cells_law r t same read ok).own k in omega arith)

  stands : Stands (ground_of r t) t (layouts_of t)
  stands =
      let parts = components_law (ground_of r t) t same (accepted_components t read ok) few in
      record {
        lines = refl;
        routines = routines_law t r same items_below placed framed (bodies_formed t read ok);
        systems = systems_law t r same placed framed own_below;
        components = parts.components;
        processes = parts.processes;
        names = parts.names;
        count = parts.count;
        process_count = parts.process_count;
        monitor_count = parts.monitor_count;
      }

  inside : ItemsInside r
  inside = inside_law t r same items_below stands (can_hold t r same ok placed framed (bodies_formed t read ok) stands)

  names_hold : NamesHold r
  names_hold = record { calls = own_calls_law r t same read ok; inside = inside.inside; actions = inside.actions }

  sound : IsSound r
  sound = laid_sound r t same (accepted_modest t r same read ok) names_hold

pub resolving_law : ResolvingLaw
resolving_law t r read ok same = record { stands = stands t r read ok same; sound = sound t r read ok same }

-- ---- of trees of which no more is known than that they were read

pub read_sound : (t : Tree) (r : Tables) → ∥ IsRead t.program ∥₁ → IsAccepted t → plain r ≡ laid t → IsSound r
read_sound t r read ok same = ∥∥₁_elim read (sound_once r) (λ it. sound t r it ok same)

pub read_program : (t : Tree) (r : Tables) → ∥ IsRead t.program ∥₁ → IsAccepted t → plain r ≡ laid t → IsProgramOf t r
read_program t r read ok same = record { laid = same; resolved = ∥∥₁_map read (λ it. (layouts_of t, stands t r it ok same)) }

pub read_names : (t : Tree) (r : Tables) → ∥ IsRead t.program ∥₁ → IsAccepted t → plain r ≡ laid t → r.names ≡ constant_names t.program
read_names t r read ok same = (let once : IsProp (r.names ≡ constant_names t.program) = hlevel props in ∥∥₁_elim read once (λ it. (stands t r it ok same).names))
