-- What the proofs of this crate cite of those below.
pub use Rattle.std.proofs.Common.{◌≡◌, ◌≤◌, ℕ, List, [], ◌++◌, drop, length, map, true}
use Rattle.std.proofs.Common.{refl, sym, ap, ◌∙◌, subst, arith}
use Rattle.std.proofs.lemmas.List.{append-nil, length-append}
pub use Rattle.cp_slots.specs.Tables.{Tables}
pub use Rattle.cp_machine.specs.System.{Machine}
pub use Rattle.cp_machine.specs.declared.discipline.Discipline.{Discipline}
pub use Rattle.cp_machine.specs.declared.shown.Shown.{Shown}
use Rattle.cp_machine.specs.Alike.{AreAlike}
use Rattle.cp_machine.proofs.Alike.{step_alike, step_event_alike, admitted_alike, ready_alike, pending_alike, in_line_alike, waits_alike}
pub use Rattle.cp_key.specs.Key.{core_key}
pub use Rattle.cp_key.proofs.Keys.{core_counts}
pub use Rattle.cp_run.specs.Slots.{slots}
pub use Rattle.cp_run.specs.System.{System}
pub use Rattle.cp_run.specs.Table.{Line}
pub use Rattle.cp_run.specs.declared.outcome.Outcome.{Outcome}
use Rattle.cp_run.specs.Run.{Choosing, Node, chosen}
use Rattle.cp_run.proofs.Alike.{Simulates, NodesAlike, chosen_alike}
pub use Rattle.cp_walk.specs.Report.{same_outcome}
pub use Rattle.cp_walk.specs.Walk.{behind, shown_by}
unfoldable pub use Rattle.cp_walk.specs.Walk.{walk}
pub use Rattle.cp_walk.proofs.Walks.{kept_walk}
use Rattle.cp_walk.proofs.Repeats as repeats
pub use Rattle.cp_merged.specs.declared.end_key.EndKey.{EndKey}
use Rattle.cp_merged.proofs.Exact.{exact_outcomes}

pub exact_same : (a b : Outcome) → same_outcome a b ≡ true → a ≡ b
exact_same a b e = exact_outcomes.exact a b e

pub walk_again : (r : Tables) (discipline : Discipline) (steps left : ℕ) (m n : Machine) → core_key m ≡ core_key n → walk (slots r discipline) steps left (Choosing n) ≡ map (shown_by (λ shown. n.output ++ drop (length n.output) shown)) (walk (slots r discipline) steps left (Choosing m))
walk_again r discipline steps left m n e = repeats.walk_again r discipline steps left m n e

-- a machine does the same, whatever was displayed before
simulates : (r : Tables) (discipline : Discipline) (before : List Shown) → Simulates (slots r discipline) (AreAlike before before)
simulates r discipline before =
    record {
      step = λ s t p h. step_alike r before before s t p refl h;
      event = λ s t p h. step_event_alike r before before s t p refl h;
      admit = λ s t p h. admitted_alike before before s t p h;
      is_ready = λ s t p h. ready_alike before before s t p h;
      is_pending = λ s t h. pending_alike before before s t h;
      in_line = λ s t p h. in_line_alike before before s t p h;
      waits = λ s t h. waits_alike before before s t h;
    }

-- a choice takes away nothing that was displayed
pub shown_grows : (r : Tables) (discipline : Discipline) (steps : ℕ) (s t : Machine) (p : ℕ) → chosen (slots r discipline) steps s p ≡ Choosing t → length s.output ≤ length t.output
shown_grows r discipline steps s t p e =
    let alike : AreAlike s.output s.output s s = record { same = refl; since = []; mine = sym (append-nil s.output); theirs = sym (append-nil s.output) } in
    let nodes = chosen_alike (slots r discipline) (AreAlike s.output s.output) (simulates r discipline s.output) steps s s p alike in
    let both : AreAlike s.output s.output t t = subst (λ n. NodesAlike (AreAlike s.output s.output) n n) e nodes in
    let long = ap length both.mine ∙ length-append s.output both.since in
    omega (arith, long)
