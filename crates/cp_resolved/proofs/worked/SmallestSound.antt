-- The law of sound tables is not empty: the smallest program has what it asks.
use Rattle.std.proofs.Common.{◌≡◌, ℕ, zero, suc, ◌<◌, IsTrue, length, refl, arith}
use Rattle.cp_resolved.proofs.Words.{IsSound, most, plain, laid, tables_laid, room_from, components_of_program, add_contained, contents_least, program, program_parts, routines}
use Rattle.cp_resolved.proofs.Words.{check_invariants, statements, statement, ActionNames, item_at, routine_at, system_at, IsModest, IsOwnCall}
use Rattle.cp_slots.specs.Inside.{action_inside}
use Rattle.cp_resolved.proofs.worked.SmallestProgram.{smallest, tables}
use Rattle.cp_resolved.proofs.sound.SoundTables.{laid_sound}

smallest_laid : plain tables ≡ laid smallest
unfolding laid tables_laid room_from program program_parts routines check_invariants statements statement components_of_program add_contained contents_least
smallest_laid = refl

rooms : (number : ℕ) → number < length tables.routines → (routine_at tables number).room < most
rooms zero lt = omega arith
rooms (suc n) lt = absurd (omega (arith, lt))

reference_rooms : (number : ℕ) → number < length tables.routines → (routine_at tables number).reference_room < most
reference_rooms zero lt = omega arith
reference_rooms (suc n) lt = absurd (omega (arith, lt))

cells : (system : ℕ) → (system_at tables system).own < most
cells zero = omega arith
cells (suc n) = omega arith

calls : (at : ℕ) → at < length tables.items → IsOwnCall (item_at tables at).routine (item_at tables at).action → ⊥
calls zero lt h = h
calls (suc n) lt h = omega (arith, lt)

inside : (at : ℕ) → at < length tables.items → IsTrue (action_inside tables (routine_at tables (item_at tables at).routine) (item_at tables at).action)
inside zero lt = refl
inside (suc n) lt = absurd (omega (arith, lt))

actions : (at : ℕ) → at < length tables.items → ActionNames tables (routine_at tables (item_at tables at).routine).system (item_at tables at).action
actions zero lt = tt
actions (suc n) lt = absurd (omega (arith, lt))

modest : IsModest tables
modest =
    record {
      processes = omega arith;
      monitors = omega arith;
      held = record { items = omega arith; rooms = rooms; reference_rooms = reference_rooms };
      cells = cells;
      words = record { components = omega arith; permanents = omega arith; cells = omega arith; references = omega arith };
    }

pub smallest_sound : IsSound tables
smallest_sound = laid_sound tables smallest smallest_laid modest (record { calls = calls; inside = inside; actions = actions })
