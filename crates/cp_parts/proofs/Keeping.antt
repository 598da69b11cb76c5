-- Stores that keep all that has a number.
use Rattle.std.proofs.Common.{◌≡◌, ◌∙◌, ◌∷◌, ◌++◌, ◌+◌, ◌<◌, ◌⊎◌, inl, inr, ℕ, List, [], ap, arith, length, refl, subst, sym}
use Rattle.std.proofs.Math.Seq.{get_or-append_seam}
use Rattle.std.proofs.lemmas.Bool.{cases_eq}
use Rattle.std.proofs.lemmas.List.{get_or_append_left, length-append}
use Rattle.cp_machine.specs.Machine.{Machine, Thread}
use Rattle.cp_states.specs.Numbers.{number_at}
use Rattle.cp_effect_laws.specs.Parts.{status_at}
use Rattle.cp_parts.specs.declared.bodies.BodyNumbers.{BodyNumbers}
use Rattle.cp_parts.specs.declared.bodies.BodyStore.{BodyStore}
use Rattle.cp_parts.specs.declared.grounds.Ground.{Ground}
use Rattle.cp_parts.specs.declared.grounds.GroundStore.{GroundStore}
use Rattle.cp_parts.specs.declared.placing.PlaceTable.{PlaceTable}
use Rattle.cp_parts.specs.declared.store.PartStore.{PartStore}
use Rattle.cp_parts.specs.Parts.{HasParts, HasStatuses, IsBody, IsGround, IsPart, IsPartNumber, IsPartRow, IsStatusNumber, KeepBodyStore, KeepGroundStore, KeepStore, body_in, ground_in, part_at}
use Rattle.cp_parts.proofs.Pieces.{piece_on, pieces_on, pieces_same}

pub grounds_same : (s : GroundStore) → KeepGroundStore s s
grounds_same s =
    record {
      cells = pieces_same s.cells.items.items s.cells.ends.items;
      bindings = pieces_same s.bindings.items.items s.bindings.ends.items;
      phases = pieces_same s.phases.items.items s.phases.ends.items;
      waiting = pieces_same s.waiting.items.items s.waiting.ends.items;
    }

pub grounds_on : (s t u : GroundStore) → KeepGroundStore s t → KeepGroundStore t u → KeepGroundStore s u
grounds_on s t u a b =
    record {
      cells = pieces_on s.cells.items.items s.cells.ends.items t.cells.items.items t.cells.ends.items u.cells.items.items u.cells.ends.items a.cells b.cells;
      bindings = pieces_on s.bindings.items.items s.bindings.ends.items t.bindings.items.items t.bindings.ends.items u.bindings.items.items u.bindings.ends.items a.bindings b.bindings;
      phases = pieces_on s.phases.items.items s.phases.ends.items t.phases.items.items t.phases.ends.items u.phases.items.items u.phases.ends.items a.phases b.phases;
      waiting = pieces_on s.waiting.items.items s.waiting.ends.items t.waiting.items.items t.waiting.ends.items u.waiting.items.items u.waiting.ends.items a.waiting b.waiting;
    }

ground_on : (s u : GroundStore) (t : PlaceTable) (m : Machine) (place : ℕ) (g : Ground) → KeepGroundStore s u → IsGround s t m place g → IsGround u t m place g
ground_on s u t m place g kept is =
    record {
      cells = piece_on s.cells.items.items s.cells.ends.items u.cells.items.items u.cells.ends.items g.cells _ kept.cells is.cells;
      bindings = piece_on s.bindings.items.items s.bindings.ends.items u.bindings.items.items u.bindings.ends.items g.bindings _ kept.bindings is.bindings;
      phases = piece_on s.phases.items.items s.phases.ends.items u.phases.items.items u.phases.ends.items g.phases _ kept.phases is.phases;
      waiting = piece_on s.waiting.items.items s.waiting.ends.items u.waiting.items.items u.waiting.ends.items g.waiting _ kept.waiting is.waiting;
    }

pub bodies_same : (s : BodyStore) → KeepBodyStore s s
bodies_same s =
    record {
      frames = pieces_same s.frames.items.items s.frames.ends.items;
      stacks = pieces_same s.stacks.items.items s.stacks.ends.items;
      cells = pieces_same s.cells.items.items s.cells.ends.items;
      references = pieces_same s.references.items.items s.references.ends.items;
    }

bodies_on : (s t u : BodyStore) → KeepBodyStore s t → KeepBodyStore t u → KeepBodyStore s u
bodies_on s t u a b =
    record {
      frames = pieces_on s.frames.items.items s.frames.ends.items t.frames.items.items t.frames.ends.items u.frames.items.items u.frames.ends.items a.frames b.frames;
      stacks = pieces_on s.stacks.items.items s.stacks.ends.items t.stacks.items.items t.stacks.ends.items u.stacks.items.items u.stacks.ends.items a.stacks b.stacks;
      cells = pieces_on s.cells.items.items s.cells.ends.items t.cells.items.items t.cells.ends.items u.cells.items.items u.cells.ends.items a.cells b.cells;
      references = pieces_on s.references.items.items s.references.ends.items t.references.items.items t.references.ends.items u.references.items.items u.references.ends.items a.references b.references;
    }

body_on : (s u : BodyStore) (t : Thread) (b : BodyNumbers) → KeepBodyStore s u → IsBody s t b → IsBody u t b
body_on s u t b kept is =
    record {
      frame = piece_on s.frames.items.items s.frames.ends.items u.frames.items.items u.frames.ends.items b.frame _ kept.frames is.frame;
      stack = piece_on s.stacks.items.items s.stacks.ends.items u.stacks.items.items u.stacks.ends.items b.stack _ kept.stacks is.stack;
      cells = piece_on s.cells.items.items s.cells.ends.items u.cells.items.items u.cells.ends.items b.cells _ kept.cells is.cells;
      references = piece_on s.references.items.items s.references.ends.items u.references.items.items u.references.ends.items b.references _ kept.references is.references;
    }

pub store_same : (s : PartStore) → KeepStore s s
store_same s =
    record {
      grounds = grounds_same s.grounds;
      bodies = bodies_same s.bodies;
      lines = pieces_same s.lines.items.items s.lines.ends.items;
      statuses = pieces_same s.statuses.items.items s.statuses.ends.items;
      parts = pieces_same s.parts.items.items s.parts.ends.items;
      ready = refl;
    }

pub store_on : (s t u : PartStore) → KeepStore s t → KeepStore t u → KeepStore s u
store_on s t u a b =
    record {
      grounds = grounds_on s.grounds t.grounds u.grounds a.grounds b.grounds;
      bodies = bodies_on s.bodies t.bodies u.bodies a.bodies b.bodies;
      lines = pieces_on s.lines.items.items s.lines.ends.items t.lines.items.items t.lines.ends.items u.lines.items.items u.lines.ends.items a.lines b.lines;
      statuses = pieces_on s.statuses.items.items s.statuses.ends.items t.statuses.items.items t.statuses.ends.items u.statuses.items.items u.statuses.ends.items a.statuses b.statuses;
      parts = pieces_on s.parts.items.items s.parts.ends.items t.parts.items.items t.parts.ends.items u.parts.items.items u.parts.ends.items a.parts b.parts;
      ready = b.ready ∙ a.ready;
    }

pub status_on : (s u : PartStore) (m : Machine) (q n : ℕ) → KeepStore s u → IsStatusNumber s (status_at m q) n → IsStatusNumber u (status_at m q) n
status_on s u m q n kept is = piece_on s.statuses.items.items s.statuses.ends.items u.statuses.items.items u.statuses.ends.items n _ kept.statuses is

-- what has a number has it in a store that keeps it
pub part_on : (s u : PartStore) (t : PlaceTable) (m : Machine) (place n : ℕ) → KeepStore s u → IsPartNumber s t m place n → IsPartNumber u t m place n
part_on s u t m place n kept is =
    record {
      within = omega (arith, kept.parts.more, is.within);
      is = subst (IsPart u t m place) (sym (kept.parts.same n is.within)) (record {
        ground = ground_on s.grounds u.grounds t m place (ground_in (part_at s n)) kept.grounds is.is.ground;
        process = λ lt. let a = is.is.process lt in record { long = a.long; stage = a.stage; body = body_on s.bodies u.bodies _ (body_in (part_at s n)) kept.bodies a.body };
        monitor = λ le. let a = is.is.monitor le in record { long = a.long; holder = piece_on s.lines.items.items s.lines.ends.items u.lines.items.items u.lines.ends.items (number_at (part_at s n) 4) _ kept.lines a.holder; line = piece_on s.lines.items.items s.lines.ends.items u.lines.items.items u.lines.ends.items (number_at (part_at s n) 5) _ kept.lines a.line };
      });
    }

-- a row stays that of its machine
pub row_on : (s u : PartStore) (t : PlaceTable) (m : Machine) (row : List ℕ) → KeepStore s u → IsPartRow s t m row → IsPartRow u t m row
row_on s u t m row kept is =
    record {
      long = is.long;
      statuses = λ q lt. status_on s u m q (number_at row q) kept (is.statuses q lt);
      pending = is.pending;
      parts = λ place lt. part_on s u t m place (number_at row (t.processes + 1 + place)) kept (is.parts place lt);
    }

-- ---- a row that is being made

module _ (row : List ℕ) (n : ℕ) where
  pub old_number : (k : ℕ) → k < length row → number_at (row ++ n ∷ []) k ≡ number_at row k
  old_number k lt = get_or_append_left row (n ∷ []) 0 k lt

  pub new_number : (k : ℕ) → k ≡ length row → number_at (row ++ n ∷ []) k ≡ n
  new_number k e = ap (number_at (row ++ n ∷ [])) e ∙ get_or-append_seam row n [] 0

pub statuses_more : (s u : PartStore) (m : Machine) (row : List ℕ) (count n : ℕ) → KeepStore s u → HasStatuses s m row count → IsStatusNumber u (status_at m count) n → HasStatuses u m (row ++ n ∷ []) (count + 1)
statuses_more s u m row count n kept has is = record { long = length-append row (n ∷ []) ∙ ap (λ k. k + 1) has.long; each = λ q lt. each q lt (cases_eq q count) }
  where
    each : (q : ℕ) → q < count + 1 → (q ≡ count) ⊎ (q ≡ count → ⊥) → IsStatusNumber u (status_at m q) (number_at (row ++ n ∷ []) q)
    each q lt (inl e) = subst (λ x. IsStatusNumber u (status_at m x) (number_at (row ++ n ∷ []) x)) (sym e) (subst (IsStatusNumber u (status_at m count)) (sym (new_number row n count (sym has.long))) is)
    each q lt (inr ne) = let l : q < count = omega (arith, lt, ne) in subst (IsStatusNumber u (status_at m q)) (sym (old_number row n q (omega (arith, l, has.long)))) (status_on s u m q (number_at row q) kept (has.each q l))

pub parts_more : (s u : PartStore) (t : PlaceTable) (m : Machine) (old row : List ℕ) (count n : ℕ) → KeepStore s u → length old ≡ t.processes + 1 → HasParts s t m old row count → IsPartNumber u t m count n → HasParts u t m old (row ++ n ∷ []) (count + 1)
parts_more s u t m old row count n kept long has is =
    record {
      long = omega (arith, length-append row (n ∷ []), has.long);
      kept = λ k lt. old_number row n k (omega (arith, lt, long, has.long)) ∙ has.kept k lt;
      each = λ place lt. each place lt (cases_eq place count);
    }
  where
    each : (place : ℕ) → place < count + 1 → (place ≡ count) ⊎ (place ≡ count → ⊥) → IsPartNumber u t m place (number_at (row ++ n ∷ []) (t.processes + 1 + place))
    each place lt (inl e) = subst (λ x. IsPartNumber u t m x (number_at (row ++ n ∷ []) (t.processes + 1 + x))) (sym e) (subst (IsPartNumber u t m count) (sym (new_number row n (t.processes + 1 + count) (sym has.long))) is)
    each place lt (inr ne) =
        let l : place < count = omega (arith, lt, ne) in
        subst (IsPartNumber u t m place) (sym (old_number row n (t.processes + 1 + place) (omega (arith, l, has.long)))) (part_on s u t m place (number_at row (t.processes + 1 + place)) kept (has.each place l))
