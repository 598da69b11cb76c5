-- In one store, rows are equal exactly where machines are.
use Rattle.std.proofs.Common.{◌≡◌, ◌∙◌, ◌+◌, ◌-◌, ◌<◌, ◌≤◌, ◌⊎◌, inl, inr, ℕ, zero, suc, List, ap, arith, length, refl, subst, sym}
use Rattle.std.specs.Prelude.{pos}
use Rattle.std.proofs.lemmas.Bool.{cases_lt}
use Rattle.std.proofs.lemmas.List.{ext_get_or}
use Rattle.cp_slots.specs.Tables.{Tables}
use Rattle.cp_machine.specs.declared.state.Phase.TheVariants.{Uninitialised}
use Rattle.cp_machine.specs.Bodies.{Body, body_of}
use Rattle.cp_machine.specs.Fits.{MachineFits}
use Rattle.cp_machine.specs.Machine.{Machine, Thread, no_monitor, no_thread, thread_at}
use Rattle.cp_states.specs.Numbers.{number_at}
use Rattle.cp_effect_laws.specs.Parts.{HaveSame, status_at}
use Rattle.cp_parts.specs.declared.placing.PlaceTable.{PlaceTable}
use Rattle.cp_parts.specs.declared.store.PartStore.{PartStore}
use Rattle.cp_parts.specs.Coded.{status_code}
use Rattle.cp_parts.specs.Laws.{OneRowLaw, RowLaw}
use Rattle.cp_parts.specs.Parts.{IsPart, IsPartRow, part_at}
use Rattle.cp_parts.specs.Placed.{IsPlaced, place_count, places_of}
use Rattle.cp_parts.specs.Runs.{label_at}
use Rattle.cp_parts.proofs.Codes.{option_one, status_one}
use Rattle.cp_parts.proofs.Pieces.{one_number, one_piece}
use Rattle.cp_parts.proofs.Same.{part_law}

-- ---- machines of one row

pub thread_made : (t u : Thread) → t.status ≡ u.status → body_of u ≡ body_of t → t ≡ u
thread_made t u status body =
    ap (λ s. let z : Thread = record { status = s; frame = t.frame; stack = t.stack; cells = t.cells; references = t.references } in z) status
    ∙ ap (λ (b : Body). let z : Thread = record { status = u.status; frame = b.frame; stack = b.stack; cells = b.cells; references = b.references } in z) (sym body)

module _ (r : Tables) (s : PartStore) (t : PlaceTable) (m n : Machine) (row : List ℕ) (placed : IsPlaced r t) (fm : MachineFits r m) (fn : MachineFits r n)
    (discipline : n.discipline ≡ m.discipline) (output : n.output ≡ m.output) (a : IsPartRow s t m row) (b : IsPartRow s t n row) where
  there : (place : ℕ) → place < place_count t → HaveSame (places_of t) place m n
  there place lt = part_law r s t m n place (number_at row (t.processes + 1 + place)) placed fm fn lt (a.parts place lt) (b.parts place lt)

  cell_place : (k : ℕ) → k < length m.permanents → label_at t.cells.labels.items k < place_count t
  cell_place k lt = let known = t.cells.runs.known k (omega (arith, lt, placed.cells, fm.permanents)) in omega (arith, known, t.of_cells)

  component_place : (k : ℕ) → k < length m.phases → label_at t.components.labels.items k < place_count t
  component_place k lt = let known = t.components.runs.known k (omega (arith, lt, placed.components, fm.phases)) in omega (arith, known, t.of_components)

  permanents : m.permanents ≡ n.permanents
  permanents = ext_get_or (pos 0) m.permanents n.permanents (fm.permanents ∙ sym fn.permanents) (λ k lt. sym ((there (label_at t.cells.labels.items k) (cell_place k lt)).cells k refl))

  bindings : m.bindings ≡ n.bindings
  bindings = ext_get_or 0 m.bindings n.bindings (fm.bindings ∙ sym fn.bindings) (λ k lt. sym ((there (label_at t.cells.labels.items k) (cell_place k (omega (arith, lt, fm.bindings, fm.permanents)))).bindings k refl))

  phases : m.phases ≡ n.phases
  phases = ext_get_or Uninitialised m.phases n.phases (fm.phases ∙ sym fn.phases) (λ k lt. sym ((there (label_at t.components.labels.items k) (component_place k lt)).phases k refl))

  monitors : m.monitors ≡ n.monitors
  monitors = ext_get_or no_monitor m.monitors n.monitors (fm.monitors ∙ sym fn.monitors) (λ k lt. sym ((there (t.processes + k) (omega (arith, lt, fm.monitors, placed.monitors))).monitors k refl))

  threads : m.threads ≡ n.threads
  threads =
      ext_get_or no_thread m.threads n.threads (fm.threads ∙ sym fn.threads)
      (λ q lt.
      let own : q < t.processes = omega (arith, lt, fm.threads, placed.processes) in
      let statuses : status_at m q ≡ status_at n q = status_one (status_at m q) (status_at n q) (one_piece s.statuses.items.items s.statuses.ends.items (number_at row q) (status_code (status_at m q)) (status_code (status_at n q)) (a.statuses q own) (b.statuses q own)) in
      thread_made (thread_at m.threads q) (thread_at n.threads q) statuses ((there q (omega (arith, own))).bodies q refl))

  pending : m.pending ≡ n.pending
  pending = option_one m.pending n.pending (sym a.pending ∙ b.pending)

  pub one_machine : m ≡ n
  one_machine =
      ap (λ x. let z : Machine = record m { permanents = x } in z) permanents
      ∙ ap (λ x. let z : Machine = record m { permanents = n.permanents; bindings = x } in z) bindings
      ∙ ap (λ x. let z : Machine = record m { permanents = n.permanents; bindings = n.bindings; phases = x } in z) phases
      ∙ ap (λ x. let z : Machine = record m { permanents = n.permanents; bindings = n.bindings; phases = n.phases; threads = x } in z) threads
      ∙ ap (λ x. let z : Machine = record n { monitors = x; pending = m.pending; discipline = m.discipline; output = m.output } in z) monitors
      ∙ ap (λ x. let z : Machine = record n { pending = x; discipline = m.discipline; output = m.output } in z) pending
      ∙ ap (λ x. let z : Machine = record n { discipline = x; output = m.output } in z) (sym discipline)
      ∙ ap (λ x. let z : Machine = record n { output = x } in z) (sym output)

pub row_law : RowLaw
row_law r s t m n row placed fm fn discipline output a b = one_machine r s t m n row placed fm fn discipline output a b

-- ---- rows of one machine

module _ (s : PartStore) (t : PlaceTable) (m : Machine) (place : ℕ) (xs ys : List ℕ) (a : IsPart s t m place xs) (b : IsPart s t m place ys) where
  four : (k : ℕ) → k < 4 → number_at xs k ≡ number_at ys k
  four zero lt = one_number s.grounds.cells.items.items s.grounds.cells.ends.items (number_at xs 0) (number_at ys 0) _ s.grounds.cells.different a.ground.cells b.ground.cells
  four (suc zero) lt = one_number s.grounds.bindings.items.items s.grounds.bindings.ends.items (number_at xs 1) (number_at ys 1) _ s.grounds.bindings.different a.ground.bindings b.ground.bindings
  four (suc (suc zero)) lt = one_number s.grounds.phases.items.items s.grounds.phases.ends.items (number_at xs 2) (number_at ys 2) _ s.grounds.phases.different a.ground.phases b.ground.phases
  four (suc (suc (suc zero))) lt = one_number s.grounds.waiting.items.items s.grounds.waiting.ends.items (number_at xs 3) (number_at ys 3) _ s.grounds.waiting.different a.ground.waiting b.ground.waiting
  four (suc (suc (suc (suc k)))) lt = absurd (omega (arith, lt))

  nine : place < t.processes → (k : ℕ) → k < 9 → number_at xs k ≡ number_at ys k
  nine own zero lt = four 0 (omega arith)
  nine own (suc zero) lt = four 1 (omega arith)
  nine own (suc (suc zero)) lt = four 2 (omega arith)
  nine own (suc (suc (suc zero))) lt = four 3 (omega arith)
  nine own (suc (suc (suc (suc zero)))) lt = (a.process own).stage ∙ sym (b.process own).stage
  nine own (suc (suc (suc (suc (suc zero))))) lt = one_number s.bodies.frames.items.items s.bodies.frames.ends.items (number_at xs 5) (number_at ys 5) _ s.bodies.frames.different (a.process own).body.frame (b.process own).body.frame
  nine own (suc (suc (suc (suc (suc (suc zero)))))) lt = one_number s.bodies.stacks.items.items s.bodies.stacks.ends.items (number_at xs 6) (number_at ys 6) _ s.bodies.stacks.different (a.process own).body.stack (b.process own).body.stack
  nine own (suc (suc (suc (suc (suc (suc (suc zero))))))) lt = one_number s.bodies.cells.items.items s.bodies.cells.ends.items (number_at xs 7) (number_at ys 7) _ s.bodies.cells.different (a.process own).body.cells (b.process own).body.cells
  nine own (suc (suc (suc (suc (suc (suc (suc (suc zero)))))))) lt = one_number s.bodies.references.items.items s.bodies.references.ends.items (number_at xs 8) (number_at ys 8) _ s.bodies.references.different (a.process own).body.references (b.process own).body.references
  nine own (suc (suc (suc (suc (suc (suc (suc (suc (suc k))))))))) lt = absurd (omega (arith, lt))

  six : t.processes ≤ place → (k : ℕ) → k < 6 → number_at xs k ≡ number_at ys k
  six own zero lt = four 0 (omega arith)
  six own (suc zero) lt = four 1 (omega arith)
  six own (suc (suc zero)) lt = four 2 (omega arith)
  six own (suc (suc (suc zero))) lt = four 3 (omega arith)
  six own (suc (suc (suc (suc zero)))) lt = one_number s.lines.items.items s.lines.ends.items (number_at xs 4) (number_at ys 4) _ s.lines.different (a.monitor own).holder (b.monitor own).holder
  six own (suc (suc (suc (suc (suc zero))))) lt = one_number s.lines.items.items s.lines.ends.items (number_at xs 5) (number_at ys 5) _ s.lines.different (a.monitor own).line (b.monitor own).line
  six own (suc (suc (suc (suc (suc (suc k)))))) lt = absurd (omega (arith, lt))

  one_part : xs ≡ ys
  one_part = go (cases_lt place t.processes)
    where
      go : (place < t.processes) ⊎ (t.processes ≤ place) → xs ≡ ys
      go (inl own) = let long = (a.process own).long in ext_get_or 0 xs ys (long ∙ sym (b.process own).long) (λ k lt. nine own k (omega (arith, lt, long)))
      go (inr own) = let long = (a.monitor own).long in ext_get_or 0 xs ys (long ∙ sym (b.monitor own).long) (λ k lt. six own k (omega (arith, lt, long)))

module _ (s : PartStore) (t : PlaceTable) (m : Machine) (row other : List ℕ) (a : IsPartRow s t m row) (b : IsPartRow s t m other) where
  abbrev Same : ℕ → Type 0
  Same k = number_at row k ≡ number_at other k

  status_numbers : (q : ℕ) → q < t.processes → Same q
  status_numbers q lt = one_number s.statuses.items.items s.statuses.ends.items (number_at row q) (number_at other q) _ s.statuses.different (a.statuses q lt) (b.statuses q lt)

  part_numbers : (place : ℕ) → place < place_count t → Same (t.processes + 1 + place)
  part_numbers place lt =
      let x = a.parts place lt in
      let y = b.parts place lt in
      s.parts.different (number_at row (t.processes + 1 + place)) (number_at other (t.processes + 1 + place)) x.within y.within
      (one_part s t m place (part_at s (number_at row (t.processes + 1 + place))) (part_at s (number_at other (t.processes + 1 + place))) x.is y.is)

  each : (k : ℕ) → k < length row → (k < t.processes) ⊎ (t.processes ≤ k) → (t.processes < k) ⊎ (k ≤ t.processes) → Same k
  each k lt (inl own) c = status_numbers k own
  each k lt (inr le) (inl past) =
      let place = k - (t.processes + 1) in
      let at : t.processes + 1 + place ≡ k = omega (arith, past) in
      subst Same at (part_numbers place (omega (arith, lt, a.long, past)))
  each k lt (inr le) (inr here) = let at : t.processes ≡ k = omega (arith, le, here) in subst Same at (a.pending ∙ sym b.pending)

  pub one_row : row ≡ other
  one_row = ext_get_or 0 row other (a.long ∙ sym b.long) (λ k lt. each k lt (cases_lt k t.processes) (cases_lt t.processes k))

pub one_row_law : OneRowLaw
one_row_law s t m row other a b = one_row s t m row other a b
