-- What a row tells of its machine, and what is the same where a known row has the same numbers.
use Rattle.std.proofs.Common.{◌≡◌, ◌∙◌, ◌∷◌, ◌+◌, ◌-◌, ◌<◌, ◌≤◌, ◌⊎◌, inl, inr, ℕ, List, [], Option, Some, None, ap, arith, length, map, refl, reverse, subst, sym}
use Rattle.std.specs.Prelude.{slice_index_or, slice_set, ℤ, IfSome, eqb}
use Rattle.std.specs.List.{list_any}
use Rattle.std.proofs.lemmas.Bool.{cases_eq, cases_lt, eq-eqb}
use Rattle.std.proofs.lemmas.List.{ext_get_or, get_or-map, get_or-set_other, get_or-set_same, length-map, length-set, reverse-reverse}
use Rattle.cp_slots.specs.Tables.{Tables}
use Rattle.cp_store.specs.declared.memory.Address.{Address}
use Rattle.cp_store.specs.declared.memory.Frame.{Frame}
use Rattle.cp_machine.specs.declared.process.Entry.{Entry}
use Rattle.cp_machine.specs.declared.process.Status.{Status}
use Rattle.cp_machine.specs.declared.process.Status.TheVariants.{Unstarted, Ready, AtGate, Delayed, Ended}
use Rattle.cp_machine.specs.declared.state.Gate.{Gate}
use Rattle.cp_machine.specs.declared.state.Phase.{Phase}
use Rattle.cp_machine.specs.Bodies.{Body, body_of}
use Rattle.cp_machine.specs.Machine.{Machine, Monitor, Thread, is_at_gate, monitor_at, monitor_of, no_monitor, thread_at}
use Rattle.cp_machine.proofs.ListLemmas.{passes_within}
use Rattle.cp_key.proofs.Owned.{line_within}
use Rattle.cp_states.specs.Numbers.{number_at}
use Rattle.cp_states.specs.Pieces.{piece_at}
use Rattle.cp_effect_laws.specs.Parts.{HaveSame, status_at}
use Rattle.cp_parts.specs.declared.bodies.BodyNumbers.{BodyNumbers}
use Rattle.cp_parts.specs.declared.bodies.BodyStore.{BodyStore}
use Rattle.cp_parts.specs.declared.placing.PlaceTable.{PlaceTable}
use Rattle.cp_parts.specs.declared.store.PartStore.{PartStore}
use Rattle.cp_parts.specs.Coded.{frame_code, option_code, option_list, status_code}
use Rattle.cp_parts.specs.Parts.{IsBody, IsMonitorPart, IsPartNumber, IsProcessPart, IsStatusNumber, ground_in, part_at}
use Rattle.cp_parts.specs.Placed.{place_count, places_of}
use Rattle.cp_parts.specs.Taken.{AreGuardsTaken, AreLaid, CanLay, CanTake, IsByteStatus}
use Rattle.cp_parts.proofs.Codes.{status_one}
use Rattle.cp_parts.proofs.Pieces.{one_piece}
use Rattle.cp_parts.proofs.Same.{body_one, part_law}

-- ---- what lists and numbers tell

pub none_read : (x : Option ℕ) (l : List ℕ) → l ≡ option_list x → length l ≡ 0 → None ≡ x
none_read None l e h = refl
none_read (Some n) l e h = absurd (omega (arith, h, ap length e))

pub some_read : (x : Option ℕ) (l : List ℕ) → l ≡ option_list x → 0 < length l → Some (slice_index_or l 0 0) ≡ x
some_read None l e h = absurd (omega (arith, h, ap length e))
some_read (Some n) l e h = ap (λ xs. Some (slice_index_or xs 0 0)) e

pub some_code : (n : ℕ) → (n ≡ 0 → ⊥) → option_code (Some (n - 1)) ≡ n
some_code n ne = omega (arith, ne)

pub five_read : (l : List ℕ) → length l ≡ 5 → number_at l 0 ∷ number_at l 1 ∷ number_at l 2 ∷ number_at l 3 ∷ number_at l 4 ∷ [] ≡ l
five_read [] h = absurd (omega (arith, h))
five_read (a ∷ []) h = absurd (omega (arith, h))
five_read (a ∷ b ∷ []) h = absurd (omega (arith, h))
five_read (a ∷ b ∷ c ∷ []) h = absurd (omega (arith, h))
five_read (a ∷ b ∷ c ∷ d ∷ []) h = absurd (omega (arith, h))
five_read (a ∷ b ∷ c ∷ d ∷ e ∷ []) h = refl
five_read (a ∷ b ∷ c ∷ d ∷ e ∷ f ∷ l) h = absurd (omega (arith, h))

-- the lists of a body are that body
pub body_made : (s : BodyStore) (t : Thread) (b : BodyNumbers) → IsBody s t b → (f : Frame) (es : List Entry) (cells : List ℤ) (references : List Address) → frame_code f ≡ piece_at s.frames.items.items s.frames.ends.items b.frame → es ≡ piece_at s.stacks.items.items s.stacks.ends.items b.stack →
    cells ≡ piece_at s.cells.items.items s.cells.ends.items b.cells → references ≡ piece_at s.references.items.items s.references.ends.items b.references → (let z : Body = record { frame = f; stack = reverse es; cells = cells; references = references } in z) ≡ body_of t
body_made s t b is f es cells references frame_is stack_is cells_is references_is =
    let u : Thread = record { status = t.status; frame = f; stack = reverse es; cells = cells; references = references } in
    body_one s t u b is (record {
      frame = record { within = is.frame.within; is = sym frame_is };
      stack = record { within = is.stack.within; is = sym stack_is ∙ sym (reverse-reverse es) };
      cells = record { within = is.cells.within; is = sym cells_is };
      references = record { within = is.references.within; is = sym references_is };
    })

-- the holder and the line of a part are its monitor
pub guard_made : (s : PartStore) (x : Monitor) (part : List ℕ) → IsMonitorPart s x part → (a b : ℕ) (holder line : List ℕ) → a ≡ number_at part 4 → b ≡ number_at part 5 →
    holder ≡ piece_at s.lines.items.items s.lines.ends.items a → line ≡ piece_at s.lines.items.items s.lines.ends.items b →
    (h : Option ℕ) (l : List ℕ) → (holder ≡ option_list x.holder → h ≡ x.holder) → l ≡ line → (let z : Monitor = record { holder = h; line = l } in z) ≡ x
guard_made s x part is a b holder line a_is b_is holder_is line_is h l holder_read line_read =
    let mine = holder_is ∙ ap (piece_at s.lines.items.items s.lines.ends.items) a_is ∙ is.holder.is in
    let its = line_read ∙ line_is ∙ ap (piece_at s.lines.items.items s.lines.ends.items) b_is ∙ is.line.is in
    ap (λ y. let z : Monitor = record { holder = y; line = l } in z) (holder_read mine) ∙ ap (λ ns. let z : Monitor = record { holder = x.holder; line = ns } in z) its

-- ---- a machine of the program

module _ (r : Tables) (s : PartStore) (t : PlaceTable) (row known : List ℕ) (m n : Machine) (can : CanTake r s t row known m n) where
  pub gate_byte : (q k : ℕ) → status_at m q ≡ AtGate k → k < 256
  gate_byte q k e =
      let there : k < length m.monitors = passes_within (λ (x : Monitor). list_any (eqb q) x.line) m.monitors k no_monitor refl (sym (can.its.lines.gate k q) ∙ ap (is_at_gate k) e ∙ eq-eqb k k refl) in
      omega (arith, there, can.its.fits.monitors, can.sound.monitors)

  pub status_byte : (q : ℕ) → IsByteStatus (status_at m q)
  status_byte q = go (status_at m q) refl
    where
      go : (x : Status) → status_at m q ≡ x → IsByteStatus x
      go Unstarted e = tt
      go Ready e = tt
      go Ended e = tt
      go (AtGate k) e = gate_byte q k e
      go (Delayed k) e = tt

  -- no line is longer than there are processes
  pub line_short : (k : ℕ) → length (monitor_at m k).line ≤ 16
  line_short k = omega (arith, line_within m k can.its.lines, can.its.fits.threads, can.sound.few)

  pub pending_byte : number_at row t.processes ≤ 256
  pending_byte = go m.pending can.its.fits.pending can.row_is.pending
    where
      go : (x : Option ℕ) → IfSome x (λ monitor. monitor < r.monitors) → number_at row t.processes ≡ option_code x → number_at row t.processes ≤ 256
      go None h e = omega (arith, e)
      go (Some k) h e = omega (arith, e, h, can.sound.monitors)

  count_is : t.processes ≡ length r.processes
  count_is = can.placed.processes

  place_within : (place : ℕ) → place < place_count t → t.processes + 1 + place < length row
  place_within place lt = omega (arith, lt, can.row_is.long)

  -- ---- where the numbers are the same

  pub place_same : (place at : ℕ) → at ≡ t.processes + 1 + place → place < place_count t → number_at row at ≡ number_at known at → HaveSame (places_of t) place m n
  place_same place at is lt e =
      let here : number_at row (t.processes + 1 + place) ≡ number_at known (t.processes + 1 + place) = subst (λ k. number_at row k ≡ number_at known k) is e in
      part_law r s t m n place (number_at row (t.processes + 1 + place)) can.placed can.its.fits can.was lt (can.row_is.parts place lt) (subst (IsPartNumber s t n place) (sym here) (can.known_is.parts place lt here))

  pub status_same : (q : ℕ) → q < t.processes → number_at row q ≡ number_at known q → status_at n q ≡ status_at m q
  status_same q lt e =
      status_one (status_at n q) (status_at m q)
      (one_piece s.statuses.items.items s.statuses.ends.items (number_at row q) (status_code (status_at n q)) (status_code (status_at m q)) (subst (IsStatusNumber s (status_at n q)) (sym e) (can.known_is.statuses q lt e)) (can.row_is.statuses q lt))

  -- ---- the parts

  pub number_there : (place at : ℕ) → at ≡ t.processes + 1 + place → place < place_count t → IsPartNumber s t m place (number_at row at)
  number_there place at is lt = subst (λ k. IsPartNumber s t m place (number_at row k)) (sym is) (can.row_is.parts place lt)

  pub process_there : (q at : ℕ) → at ≡ t.processes + 1 + q → q < t.processes → IsProcessPart s (thread_at m.threads q) (part_at s (number_at row at))
  process_there q at is lt = (number_there q at is (omega (arith, lt))).is.process lt

  pub guard_there : (k at : ℕ) → at ≡ t.processes + 1 + (t.processes + k) → k < t.monitors → IsMonitorPart s (monitor_at m k) (part_at s (number_at row at))
  guard_there k at is lt =
      let back : t.processes + k - t.processes ≡ k = omega arith in
      subst (λ j. IsMonitorPart s (monitor_at m j) (part_at s (number_at row at))) back ((number_there (t.processes + k) at is (omega (arith, lt))).is.monitor (omega arith))

  -- a part has four numbers of its ground at least
  pub part_long : (place at : ℕ) → at ≡ t.processes + 1 + place → place < place_count t → 4 ≤ length (part_at s (number_at row at))
  part_long place at is lt = go (cases_lt place t.processes)
    where
      go : (place < t.processes) ⊎ (t.processes ≤ place) → 4 ≤ length (part_at s (number_at row at))
      go (inl own) = let long = ((number_there place at is lt).is.process own).long in omega (arith, long)
      go (inr own) = let long = ((number_there place at is lt).is.monitor own).long in omega (arith, long)

  pub can_lay : (place at : ℕ) → at ≡ t.processes + 1 + place → place < place_count t → (cells : List ℤ) (bindings : List ℕ) (phases : List Phase) →
      AreLaid t (λ x. x < place) m n.permanents n.bindings n.phases cells bindings phases → CanLay s.grounds t m place (ground_in (part_at s (number_at row at))) cells bindings phases
  can_lay place at is lt cells bindings phases a =
      record {
        within = lt;
        ground = (number_there place at is lt).is.ground;
        permanents = can.its.fits.permanents ∙ sym can.placed.cells;
        bindings_long = can.its.fits.bindings ∙ sym can.placed.cells;
        phases_long = can.its.fits.phases ∙ sym can.placed.components;
        cells_same = a.cells_laid.count ∙ can.was.permanents ∙ sym can.its.fits.permanents;
        bindings_same = a.bindings_laid.count ∙ can.was.bindings ∙ sym can.its.fits.bindings;
        phases_same = a.phases_laid.count ∙ can.was.phases ∙ sym can.its.fits.phases;
      }

-- ---- monitors, one by one

pub guards_none : (m n : Machine) (gs : List Gate) → map monitor_of gs ≡ n.monitors → AreGuardsTaken m n gs 0
guards_none m n gs e =
    record {
      taken = λ k d lt. absurd (omega (arith, lt));
      rest = λ k d le lt. sym (get_or-map monitor_of gs k d no_monitor lt) ∙ ap (λ xs. slice_index_or xs k no_monitor) e;
    }

pub guards_next : (m n : Machine) (gs : List Gate) (at : ℕ) (x : Gate) → at < length gs → monitor_of x ≡ monitor_at m at → AreGuardsTaken m n gs at → AreGuardsTaken m n (slice_set gs at x) (at + 1)
guards_next m n gs at x within is a =
    record {
      taken = λ k d lt l. taken k d lt (omega (arith, l, length-set gs at x)) (cases_eq k at);
      rest = λ k d le l. ap monitor_of (get_or-set_other gs at k x d (λ e. omega (arith, e, le))) ∙ a.rest k d (omega (arith, le)) (omega (arith, l, length-set gs at x));
    }
  where
    taken : (k : ℕ) (d : Gate) → k < at + 1 → k < length gs → (k ≡ at) ⊎ (k ≡ at → ⊥) → monitor_of (slice_index_or (slice_set gs at x) k d) ≡ monitor_at m k
    taken k d lt l (inl e) = ap (λ j. monitor_of (slice_index_or (slice_set gs at x) j d)) e ∙ ap monitor_of (get_or-set_same gs at x d within) ∙ is ∙ ap (monitor_at m) (sym e)
    taken k d lt l (inr ne) = ap monitor_of (get_or-set_other gs at k x d ne) ∙ a.taken k d (omega (arith, lt, ne)) l

some_gate : (gs : List Gate) (k : ℕ) → k < length gs → Gate
some_gate [] k lt = absurd (omega (arith, lt))
some_gate (g ∷ gs) k lt = g

pub guards_all : (m n : Machine) (gs : List Gate) → length gs ≡ length m.monitors → AreGuardsTaken m n gs (length gs) → map monitor_of gs ≡ m.monitors
guards_all m n gs long a =
    ext_get_or no_monitor (map monitor_of gs) m.monitors (length-map gs monitor_of ∙ long)
    (λ k lt.
    let there : k < length gs = omega (arith, lt, length-map gs monitor_of) in
    let d = some_gate gs k there in
    get_or-map monitor_of gs k d no_monitor there ∙ a.taken k d there there)
