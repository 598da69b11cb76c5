-- What is counted, from what was counted before.
use Rattle.std.proofs.Common.{◌≡◌, ◌∙◌, ◌⊎◌, inl, inr, Result, Ok, Err, IfOk, ◌+◌, ◌-◌, ◌<◌, ◌≤◌, ◌^◌, ℕ, zero, suc, true, List, [], ◌∷◌, ◌++◌, length, take, take_all, drop, get_or, refl, sym, ap, subst, arith}
use Rattle.std.specs.Prelude.{nat_eq, sum_by}
use Rattle.std.proofs.lemmas.List.{append-nil, drop_all}
use Rattle.std.proofs.lemmas.List.Sums.{sum_by_more, sum_by_more_le}
use Rattle.indexmap.specs.IndexMap.{insert_entry}
use lib.Pointwise.{pointwise}
use Rattle.cp_run.specs.declared.outcome.OutcomeKind.{OutcomeKind}
use Rattle.cp_run.specs.declared.outcome.OutcomeKind.TheVariants.{ChoiceLimit}
use Rattle.cp_run.specs.Run.{those_below, Node, Halted, Choosing, may, chosen}
use Rattle.cp_ways.proofs.Given.{Outcome, Line, Machine, System, Tables, Discipline, Shown, EndKey, slots, core_key, walk, shown_grows}
use Rattle.cp_ways.specs.Ways.{since}
use Rattle.cp_ways.specs.Weights.{after, total, weight, weight_of, AreKnown, IsKnown, WeighAs}
use Rattle.cp_key.specs.declared.state_key.StateKey.{StateKey}
use Rattle.cp_ways.specs.declared.ways.Ways.{Ways}
use Rattle.cp_ways.proofs.Sums.{sum_ones, total_weight}
use Rattle.cp_ways.proofs.Steps.{choices_weight, later_weight, limit_weight, over_weight}
use Rattle.cp_ways.proofs.Remembered.{known_added}

-- what holds of an answer, from what holds of it
pub ok_as : {A E : Type 0} (r : Result A E) (P Q : A → Type 0) → IfOk r P → ((a : A) → P a → Q a) → IfOk r Q
ok_as (Ok a) P Q h f = f a h
ok_as (Err e) P Q h f = h

-- as many as there are rows
pub weigh_total : (told : Outcome → Outcome) (rows : List Line) (ways : List (EndKey × ℕ)) → WeighAs told rows ways → total ways ≡ length rows
weigh_total told rows ways h = total_weight ways ∙ h (λ _. 1) ∙ sum_ones rows

drop_whole : (xs : List Shown) → drop (length xs) xs ≡ []
drop_whole xs = drop_all (length xs) xs (omega arith)

module _ (sys : System Machine) (steps : ℕ) where
  -- ---- where no choice is left

  pub limit_one : (left : ℕ) (s : Machine) → left ≡ 0 → length (walk sys steps left (Choosing s)) ≡ 1
  limit_one left s e = sym (sum_ones (walk sys steps left (Choosing s))) ∙ limit_weight sys steps left s (λ _. 1) e

  pub limit_told : (left : ℕ) (s : Machine) (shown : List Shown) (f : Outcome → ℕ) → left ≡ 0 → weight_of (λ o. f (after shown (since (length (sys.output s)) o))) (walk sys steps left (Choosing s)) ≡ f (record { kind = ChoiceLimit; output = shown })
  limit_told left s shown f e =
      limit_weight sys steps left s (λ o. f (after shown (since (length (sys.output s)) o))) e
      ∙ ap (λ output. f (record { kind = ChoiceLimit; output = output })) (ap (λ rest. shown ++ rest) (drop_whole (sys.output s)) ∙ append-nil shown)

  -- ---- where a run ends after a choice

  pub over_one : (left : ℕ) (node : Node Machine) (kind : OutcomeKind) (t : Machine) → node ≡ Halted kind t → length (walk sys steps left node) ≡ 1
  over_one left node kind t e =
      ap (λ n. length (walk sys steps left n)) e
      ∙ sym (sum_ones (walk sys steps left (Halted kind t)))
      ∙ over_weight sys steps left kind t (λ _. 1)

  pub over_told : (left : ℕ) (node : Node Machine) (kind : OutcomeKind) (before : ℕ) (t : Machine) (shown : List Shown) (f : Outcome → ℕ) → node ≡ Halted kind t → shown ≡ drop before (sys.output t) → weight_of (λ o. f (since before o)) (walk sys steps left node) ≡ f (record { kind = kind; output = shown })
  over_told left node kind before t shown f e is =
      ap (λ n. weight_of (λ o. f (since before o)) (walk sys steps left n)) e
      ∙ over_weight sys steps left kind t (λ o. f (since before o))
      ∙ ap (λ output. f (record { kind = kind; output = output })) (sym is)

  -- ---- the choices of a state

  abbrev after_choice : (Outcome → ℕ) → ℕ → Machine → ℕ → ℕ
  after_choice g left s p = weight_of g (walk sys steps left (chosen sys steps s p))

  -- what the choices up to one weigh, and with it
  pub choice_more : (g : Outcome → ℕ) (left : ℕ) (s : Machine) (ps : List ℕ) (i : ℕ) → i < length ps → sum_by (after_choice g left s) (take (i + 1) ps) ≡ sum_by (after_choice g left s) (take i ps) + after_choice g left s (get_or ps i 0)
  choice_more g left s ps i lt = sum_by_more (after_choice g left s) ps i 0 lt

  -- and all
  pub choices_all : (g : Outcome → ℕ) (left : ℕ) (s : Machine) (ps : List ℕ) → ps ≡ those_below sys.processes (may sys s) → sum_by (after_choice g left s) ps ≡ weight_of g (walk sys steps (left + 1) (Choosing s))
  choices_all g left s ps is =
      ap (sum_by (after_choice g left s)) is
      ∙ sym (choices_weight sys steps left s g)
      ∙ ap (λ k. weight_of g (walk sys steps k (Choosing s))) (more left)
    where
      more : (n : ℕ) → suc n ≡ n + 1
      more n = omega arith

  -- one choice more is not too many
  pub choice_small : (left : ℕ) (s : Machine) (ps : List ℕ) (i : ℕ) (ways : List (EndKey × ℕ)) → ps ≡ those_below sys.processes (may sys s) → i < length ps → weight (λ _. 1) ways ≡ sum_by (after_choice (λ _. 1) left s) (take i ps) → total ways + length (walk sys steps left (chosen sys steps s (get_or ps i 0))) ≤ length (walk sys steps (left + 1) (Choosing s))
  choice_small left s ps i ways is lt h =
      let all = choices_all (λ _. 1) left s ps is in
      let part = sum_by_more_le (after_choice (λ _. 1) left s) ps i 0 lt in
      let one = sum_ones (walk sys steps left (chosen sys steps s (get_or ps i 0))) in
      let whole = sum_ones (walk sys steps (left + 1) (Choosing s)) in
      let told = total_weight ways in
      omega (arith, all, part, one, whole, told, h)

  -- ---- what is remembered

  pub remembered : (es new : List (StateKey × Ways)) (k : StateKey) (ways : Ways) → AreKnown sys steps es → IsKnown sys steps (k, ways) → (new ≡ es) ⊎ (new ≡ insert_entry (λ i j. pointwise nat_eq i.bytes.items j.bytes.items) es k ways) → AreKnown sys steps new
  remembered es new k ways h x (inl e) = subst (AreKnown sys steps) (sym e) h
  remembered es new k ways h x (inr e) = subst (AreKnown sys steps) (sym e) (known_added sys steps es k ways h x)

-- a choice that leads to a state where the next one is due
pub choice_later : (r : Tables) (discipline : Discipline) (steps left : ℕ) (s t : Machine) (p : ℕ) (shown : List Shown) (f : Outcome → ℕ) → chosen (slots r discipline) steps s p ≡ Choosing t → shown ≡ drop (length s.output) t.output → weight_of (λ o. f (after shown (since (length t.output) o))) (walk (slots r discipline) steps left (Choosing t)) ≡ weight_of (λ o. f (since (length s.output) o)) (walk (slots r discipline) steps left (chosen (slots r discipline) steps s p))
choice_later r discipline steps left s t p shown f e is =
    later_weight r discipline steps left s t (shown_grows r discipline steps s t p e) shown is f
    ∙ ap (λ n. weight_of (λ o. f (since (length s.output) o)) (walk (slots r discipline) steps left n)) (sym e)
