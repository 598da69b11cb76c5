-- A state that becomes the one of a row.
use Rattle.std.proofs.Common.{◌≡◌, ◌≤◌, List, ap, arith, length, subst, sym, ℕ}
use Rattle.std.specs.Prelude.{vec_capacity, vec_len}
use Rattle.cp_slots.specs.Tables.{Tables}
use Rattle.cp_machine.specs.declared.discipline.Discipline.{Discipline}
use Rattle.cp_machine.specs.declared.state.State.{State}
use Rattle.cp_machine.specs.declared.state.TheConstants.{MOST_SHOWN}
use Rattle.cp_machine.specs.Fits.{HaveCells, HaveReferences, HaveStacks, IsStateOf, LinesFit, MachineFits}
use Rattle.cp_machine.specs.Machine.{Machine, machine_of}
use Rattle.cp_machine.specs.Reach.{Reaches}
use Rattle.cp_parts.specs.Taken.{CanTake}
use Rattle.cp_parts.proofs.Anew.{known_row}
use Rattle.cp_stretches.specs.declared.cache.LegCache.{LegCache}
use Rattle.cp_stretches.specs.declared.cache.Standing.{Standing}
use Rattle.cp_stretches.specs.Cached.{IsCache, IsStanding, StandsFor}
use Rattle.cp_stretches.proofs.Ending.{other_row}

-- a state under another discipline
pub own_ruled : (r : Tables) (s : State) (discipline : Discipline) → IsStateOf r s → IsStateOf r (record s { discipline = discipline })
own_ruled r s discipline h =
    record {
      sound = h.sound;
      fits = record { threads = h.fits.threads; permanents = h.fits.permanents; bindings = h.fits.bindings; phases = h.fits.phases; monitors = h.fits.monitors; pending = h.fits.pending; each = h.fits.each };
      lines = record { gate = h.lines.gate; once = h.lines.once; pending = h.lines.pending };
      reach = record { frames = h.reach.frames; executes = h.reach.executes; ends = h.reach.ends; bound = h.reach.bound };
      reserved = record { stacks = h.reserved.stacks; cells = h.reserved.cells; references = h.reserved.references; output = h.reserved.output; shown = h.reserved.shown; bounds = h.reserved.bounds };
    }

-- a state that is another one but for its discipline
pub own_like : (r : Tables) (s u : State) (discipline : Discipline) → machine_of u ≡ machine_of (record s { discipline = discipline }) → u.processes ≡ s.processes → u.output ≡ s.output → u.bounds ≡ s.bounds → IsStateOf r s → IsStateOf r u
own_like r s u discipline same processes output bounds h =
    let k = own_ruled r s discipline h in
    record {
      sound = h.sound;
      fits = subst (MachineFits r) (sym same) k.fits;
      lines = subst LinesFit (sym same) k.lines;
      reach = subst (Reaches r) (sym same) k.reach;
      reserved = record {
        stacks = subst (λ ps. HaveStacks r.depth ps.items) (sym processes) h.reserved.stacks;
        cells = subst (λ ps. HaveCells r.cells ps.items) (sym processes) h.reserved.cells;
        references = subst (λ ps. HaveReferences r.references ps.items) (sym processes) h.reserved.references;
        output = subst (λ o. MOST_SHOWN ≤ vec_capacity o) (sym output) h.reserved.output;
        shown = subst (λ o. vec_len o ≤ MOST_SHOWN) (sym output) h.reserved.shown;
        bounds = subst (λ b. r.arguments ≤ vec_capacity b) (sym bounds) h.reserved.bounds;
      };
    }

module _ (r : Tables) (discipline : Discipline) (c : LegCache) (x : Standing) (cache : IsCache r discipline c) (standing : IsStanding r c.store c.table x) where
  abbrev pub ruled : State
  ruled = record x.state { discipline = discipline }

  pub own : IsStateOf r ruled
  own = own_ruled r x.state discipline standing.own

  pub can_take : (m : Machine) (row : List ℕ) → StandsFor r discipline c.store c.table m row → CanTake r c.store c.table row x.row.items m (machine_of ruled)
  can_take m row h =
      let nothing = ap length h.quiet in
      record {
        sound = cache.sound;
        placed = cache.placed;
        its = record { fits = h.kept.fits; lines = h.kept.lines; reach = h.kept.reach; shown = omega (arith, nothing) };
        was = own.fits;
        row_is = h.stands;
        known_is = known_row c.store c.table (machine_of ruled) row x.row.items (other_row c.store c.table (machine_of x.state) x.row.items discipline x.state.output.items standing.row);
      }
