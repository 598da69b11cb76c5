-- Machines that have the same in a place have one number there, and the other way round.
use Rattle.std.proofs.Common.{◌≡◌, ◌∙◌, ◌+◌, ◌-◌, ◌<◌, ◌≤◌, ◌⊎◌, inl, inr, ℕ, List, ap, arith, length, refl, reverse, subst, sym}
use Rattle.std.specs.Prelude.{pos}
use Rattle.std.proofs.lemmas.Bool.{cases_lt}
use Rattle.std.proofs.lemmas.List.{get_or_past, reverse-reverse}
use Rattle.cp_slots.specs.Tables.{Tables}
use Rattle.cp_machine.specs.declared.process.Entry.{Entry}
use Rattle.cp_machine.specs.declared.state.Phase.TheVariants.{Uninitialised}
use Rattle.cp_machine.specs.Bodies.{Body, body_at, body_of}
use Rattle.cp_machine.specs.Fits.{MachineFits}
use Rattle.cp_machine.specs.Machine.{Machine, Monitor, Thread, monitor_at, no_thread, thread_at}
use Rattle.cp_states.specs.Numbers.{number_at}
use Rattle.cp_states.specs.Pieces.{IsPiece}
use Rattle.cp_effect_laws.specs.Parts.{HaveSame, stage, status_at}
use Rattle.cp_parts.specs.declared.bodies.BodyNumbers.{BodyNumbers}
use Rattle.cp_parts.specs.declared.bodies.BodyStore.{BodyStore}
use Rattle.cp_parts.specs.declared.placing.PlaceTable.{PlaceTable}
use Rattle.cp_parts.specs.declared.store.PartStore.{PartStore}
use Rattle.cp_parts.specs.Coded.{frame_code, option_list, waiting_code}
use Rattle.cp_parts.specs.Laws.{PartLaw, SamePartLaw}
use Rattle.cp_parts.specs.Parts.{IsBody, IsGround, IsMonitorPart, IsPart, body_in, ground_in, part_at}
use Rattle.cp_parts.specs.Placed.{IsPlaced, places_of}
use Rattle.cp_parts.specs.Runs.{in_span, span_at}
use Rattle.cp_parts.proofs.Codes.{frame_one, option_list_one, waiting_one, waiting_same}
use Rattle.cp_parts.proofs.Pieces.{one_piece}
use Rattle.cp_parts.proofs.Spans.{label_same, same_label}

-- ---- bodies and monitors

pub stack_back : (es : List Entry) → reverse (reverse es) ≡ es
stack_back es = reverse-reverse es

pub body_one : (s : BodyStore) (t u : Thread) (b : BodyNumbers) → IsBody s t b → IsBody s u b → body_of u ≡ body_of t
body_one s t u b x y =
    ap (λ f. let z : Body = record { frame = f; stack = u.stack; cells = u.cells; references = u.references } in z) (frame_one u.frame t.frame (one_piece s.frames.items.items s.frames.ends.items b.frame (frame_code u.frame) (frame_code t.frame) y.frame x.frame))
    ∙ ap (λ f. let z : Body = record { frame = t.frame; stack = f; cells = u.cells; references = u.references } in z) (sym (stack_back u.stack) ∙ ap reverse (one_piece s.stacks.items.items s.stacks.ends.items b.stack (reverse u.stack) (reverse t.stack) y.stack x.stack) ∙ stack_back t.stack)
    ∙ ap (λ f. let z : Body = record { frame = t.frame; stack = t.stack; cells = f; references = u.references } in z) (one_piece s.cells.items.items s.cells.ends.items b.cells u.cells t.cells y.cells x.cells)
    ∙ ap (λ f. let z : Body = record { frame = t.frame; stack = t.stack; cells = t.cells; references = f } in z) (one_piece s.references.items.items s.references.ends.items b.references u.references t.references y.references x.references)

one_body : (s : BodyStore) (t u : Thread) (b : BodyNumbers) → body_of u ≡ body_of t → IsBody s t b → IsBody s u b
one_body s t u b e x =
    record {
      frame = subst (λ (z : Body). IsPiece s.frames.items.items s.frames.ends.items b.frame (frame_code z.frame)) (sym e) x.frame;
      stack = subst (λ (z : Body). IsPiece s.stacks.items.items s.stacks.ends.items b.stack (reverse z.stack)) (sym e) x.stack;
      cells = subst (λ (z : Body). IsPiece s.cells.items.items s.cells.ends.items b.cells z.cells) (sym e) x.cells;
      references = subst (λ (z : Body). IsPiece s.references.items.items s.references.ends.items b.references z.references) (sym e) x.references;
    }

pub monitor_one : (s : PartStore) (x y : Monitor) (part : List ℕ) → IsMonitorPart s x part → IsMonitorPart s y part → y ≡ x
monitor_one s x y part a b =
    ap (λ h. let z : Monitor = record { holder = h; line = y.line } in z) (option_list_one y.holder x.holder (one_piece s.lines.items.items s.lines.ends.items (number_at part 4) (option_list y.holder) (option_list x.holder) b.holder a.holder))
    ∙ ap (λ h. let z : Monitor = record { holder = x.holder; line = h } in z) (one_piece s.lines.items.items s.lines.ends.items (number_at part 5) y.line x.line b.line a.line)

module _ (r : Tables) (s : PartStore) (t : PlaceTable) (m n : Machine) (place : ℕ) (placed : IsPlaced r t) (fm : MachineFits r m) (fn : MachineFits r n) where
  cells_count : length t.cells.labels.items ≡ length m.permanents
  cells_count = placed.cells ∙ sym fm.permanents

  cells_long : length m.permanents ≡ length n.permanents
  cells_long = fm.permanents ∙ sym fn.permanents

  bindings_count : length t.cells.labels.items ≡ length m.bindings
  bindings_count = placed.cells ∙ sym fm.bindings

  bindings_long : length m.bindings ≡ length n.bindings
  bindings_long = fm.bindings ∙ sym fn.bindings

  phases_count : length t.components.labels.items ≡ length m.phases
  phases_count = placed.components ∙ sym fm.phases

  phases_long : length m.phases ≡ length n.phases
  phases_long = fm.phases ∙ sym fn.phases

  threads_long : length m.threads ≡ length n.threads
  threads_long = fm.threads ∙ sym fn.threads

  -- past the processes, and past the monitors, all have the same
  past : (q : ℕ) → t.processes ≤ q → thread_at n.threads q ≡ thread_at m.threads q
  past q le = get_or_past n.threads q no_thread (omega (arith, le, fn.threads, placed.processes)) ∙ sym (get_or_past m.threads q no_thread (omega (arith, le, fm.threads, placed.processes)))

  module _ (part : List ℕ) (a : IsPart s t m place part) (b : IsPart s t n place part) where
    span_cells : in_span (span_at t.cells.spans.items place) m.permanents ≡ in_span (span_at t.cells.spans.items place) n.permanents
    span_cells = sym a.ground.cells.is ∙ b.ground.cells.is

    span_bindings : in_span (span_at t.cells.spans.items place) m.bindings ≡ in_span (span_at t.cells.spans.items place) n.bindings
    span_bindings = sym a.ground.bindings.is ∙ b.ground.bindings.is

    span_phases : in_span (span_at t.components.spans.items place) m.phases ≡ in_span (span_at t.components.spans.items place) n.phases
    span_phases = sym a.ground.phases.is ∙ b.ground.phases.is

    waiting_codes : waiting_code (places_of t) place m.threads ≡ waiting_code (places_of t) place n.threads
    waiting_codes = sym a.ground.waiting.is ∙ b.ground.waiting.is

    body_there : (place < t.processes) ⊎ (t.processes ≤ place) → body_at n place ≡ body_at m place
    body_there (inl lt) = body_one s.bodies (thread_at m.threads place) (thread_at n.threads place) (body_in part) (a.process lt).body (b.process lt).body
    body_there (inr le) = ap body_of (past place le)

    stage_there : (place < t.processes) ⊎ (t.processes ≤ place) → stage (status_at n place) ≡ stage (status_at m place)
    stage_there (inl lt) = sym (b.process lt).stage ∙ (a.process lt).stage
    stage_there (inr le) = ap (λ (x : Thread). stage x.status) (past place le)

    monitor_there : (k : ℕ) → t.processes + k ≡ place → monitor_at n k ≡ monitor_at m k
    monitor_there k e =
        let le : t.processes ≤ place = omega (arith, e) in
        let at : place - t.processes ≡ k = omega (arith, e) in
        subst (λ j. monitor_at n j ≡ monitor_at m j) at (monitor_one s (monitor_at m (place - t.processes)) (monitor_at n (place - t.processes)) part (a.monitor le) (b.monitor le))

    pub have_same : HaveSame (places_of t) place m n
    have_same =
        record {
          cells = label_same t.cells m.permanents n.permanents (pos 0) place cells_count cells_long span_cells;
          bindings = label_same t.cells m.bindings n.bindings 0 place bindings_count bindings_long span_bindings;
          phases = label_same t.components m.phases n.phases Uninitialised place phases_count phases_long span_phases;
          monitors = monitor_there;
          waiting = λ q w. waiting_one (places_of t) place m.threads n.threads q threads_long waiting_codes w;
          others_wait = λ q w. sym (waiting_one (places_of t) place n.threads m.threads q (sym threads_long) (sym waiting_codes) w);
          bodies = λ q e. subst (λ j. body_at n j ≡ body_at m j) (sym e) (body_there (cases_lt place t.processes));
          stages = λ q e. subst (λ j. stage (status_at n j) ≡ stage (status_at m j)) (sym e) (stage_there (cases_lt place t.processes));
        }

  module _ (part : List ℕ) (same : HaveSame (places_of t) place m n) (a : IsPart s t m place part) where
    same_ground : IsGround s.grounds t n place (ground_in part)
    same_ground =
        record {
          cells = subst (IsPiece s.grounds.cells.items.items s.grounds.cells.ends.items (number_at part 0)) (same_label t.cells m.permanents n.permanents (pos 0) place cells_count cells_long same.cells) a.ground.cells;
          bindings = subst (IsPiece s.grounds.bindings.items.items s.grounds.bindings.ends.items (number_at part 1)) (same_label t.cells m.bindings n.bindings 0 place bindings_count bindings_long same.bindings) a.ground.bindings;
          phases = subst (IsPiece s.grounds.phases.items.items s.grounds.phases.ends.items (number_at part 2)) (same_label t.components m.phases n.phases Uninitialised place phases_count phases_long same.phases) a.ground.phases;
          waiting = subst (IsPiece s.grounds.waiting.items.items s.grounds.waiting.ends.items (number_at part 3)) (waiting_same (places_of t) place m.threads n.threads threads_long same.waiting same.others_wait) a.ground.waiting;
        }

    back : t.processes ≤ place → t.processes + (place - t.processes) ≡ place
    back le = omega (arith, le)

    pub same_part : IsPart s t n place part
    same_part =
        record {
          ground = same_ground;
          process = λ lt. record {
            long = (a.process lt).long;
            stage = (a.process lt).stage ∙ sym (same.stages place refl);
            body = one_body s.bodies (thread_at m.threads place) (thread_at n.threads place) (body_in part) (same.bodies place refl) (a.process lt).body;
          };
          monitor = λ le. subst (λ x. IsMonitorPart s x part) (sym (same.monitors (place - t.processes) (back le))) (a.monitor le);
        }

pub part_law : PartLaw
part_law r s t m n place k placed fm fn within a b = have_same r s t m n place placed fm fn (part_at s k) a.is b.is

pub same_part_law : SamePartLaw
same_part_law r s t m n place k placed fm fn within same a = record { within = a.within; is = same_part r s t m n place placed fm fn (part_at s k) same a.is }
