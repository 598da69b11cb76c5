-- From a state to those that its choices lead to.
use Rattle.std.proofs.Common.{◌≡◌, ◌∙◌, ◌+◌, ◌*◌, ◌^◌, ◌<◌, ◌≤◌, lit<, mul-le-mul_right, ℕ, zero, suc, Bool, true, false, if◌then◌else◌, List, [], ◌∷◌, ◌++◌, map, length, drop, get_or, refl, sym, ap, subst, arith}
use Rattle.std.specs.Prelude.{sum_by}
use Rattle.std.proofs.lemmas.List.Sums.{sum_by-append, sum_by-le}
use Rattle.std.proofs.lemmas.List.{drop-append-le, length-append}
use Rattle.std.proofs.Math.Nat.{pow-le-pow_right}
use Rattle.std.proofs.Math.Seq.{drop-append_seam}
use Rattle.cp_run.specs.Run.{joined_below, those_below, Node, Halted, Choosing, may, chosen}
use Rattle.cp_ways.proofs.Given.{Outcome, Line, Machine, System, Tables, Discipline, Shown, slots, core_key, behind, shown_by, core_counts, walk_again}
unfoldable use Rattle.cp_ways.proofs.Given.{walk}
use Rattle.cp_ways.specs.Ways.{since}
use Rattle.cp_ways.specs.Weights.{after, weight_of}
use Rattle.cp_ways.proofs.Sums.{sum_same, sum_map, sum_ones}

behind_weight : (g : Outcome → ℕ) (word : List ℕ) (rows : List Line) → weight_of g (map (behind word) rows) ≡ weight_of g rows
behind_weight g word rows = sum_map (λ l. g l.outcome) (behind word) rows

joined_weight : (g : Outcome → ℕ) (rows : ℕ → List Line) (on : ℕ → Bool) (n : ℕ) → weight_of g (joined_below n (λ p. if on p then map (behind (p ∷ [])) (rows p) else [])) ≡ sum_by (λ p. weight_of g (rows p)) (those_below n on)
joined_weight g rows on zero = refl
joined_weight g rows on (suc n) =
    sum_by-append (λ l. g l.outcome) (joined_below n (λ p. if on p then map (behind (p ∷ [])) (rows p) else [])) (if on n then map (behind (n ∷ [])) (rows n) else [])
    ∙ ap (λ k. k + weight_of g (if on n then map (behind (n ∷ [])) (rows n) else [])) (joined_weight g rows on n)
    ∙ ap (λ k. sum_by (λ p. weight_of g (rows p)) (those_below n on) + k) (by (on n))
    ∙ sym (sum_by-append (λ p. weight_of g (rows p)) (those_below n on) (if on n then n ∷ [] else []))
  where
    by : (b : Bool) → weight_of g (if b then map (behind (n ∷ [])) (rows n) else []) ≡ sum_by (λ p. weight_of g (rows p)) (if b then n ∷ [] else [])
    by true = behind_weight g (n ∷ []) (rows n) ∙ alone (weight_of g (rows n))
      where
        alone : (a : ℕ) → a ≡ 0 + a
        alone a = omega arith
    by false = refl

-- rows of a state where a choice is due weigh what those of its choices weigh together
pub choices_weight : (sys : System Machine) (steps left : ℕ) (s : Machine) (g : Outcome → ℕ) → weight_of g (walk sys steps (suc left) (Choosing s)) ≡ sum_by (λ p. weight_of g (walk sys steps left (chosen sys steps s p))) (those_below sys.processes (may sys s))
unfolding walk
choices_weight sys steps left s g = joined_weight g (λ p. walk sys steps left (chosen sys steps s p)) (may sys s) sys.processes

pub over_weight : (sys : System Machine) (steps left : ℕ) (kind : Rattle.cp_run.specs.declared.outcome.OutcomeKind.OutcomeKind) (t : Machine) (g : Outcome → ℕ) → weight_of g (walk sys steps left (Halted kind t)) ≡ g (record { kind = kind; output = sys.output t })
unfolding walk
over_weight sys steps zero kind t g = alone (g (record { kind = kind; output = sys.output t }))
  where
    alone : (a : ℕ) → 0 + a ≡ a
    alone a = omega arith
over_weight sys steps (suc left) kind t g = alone (g (record { kind = kind; output = sys.output t }))
  where
    alone : (a : ℕ) → 0 + a ≡ a
    alone a = omega arith

pub limit_weight : (sys : System Machine) (steps left : ℕ) (s : Machine) (g : Outcome → ℕ) → left ≡ 0 → weight_of g (walk sys steps left (Choosing s)) ≡ g (record { kind = Rattle.cp_run.specs.declared.outcome.OutcomeKind.TheVariants.ChoiceLimit; output = sys.output s })
unfolding walk
limit_weight sys steps zero s g e = alone (g (record { kind = Rattle.cp_run.specs.declared.outcome.OutcomeKind.TheVariants.ChoiceLimit; output = sys.output s }))
  where
    alone : (a : ℕ) → 0 + a ≡ a
    alone a = omega arith
limit_weight sys steps (suc left) s g e = absurd (omega (arith, e))

-- ---- how many rows there are

few_below : (n : ℕ) (on : ℕ → Bool) → length (those_below n on) ≤ n
few_below zero on = omega arith
few_below (suc n) on = by (on n) (few_below n on)
  where
    by : (b : Bool) → length (those_below n on) ≤ n → length (those_below n on ++ (if b then n ∷ [] else [])) ≤ suc n
    by true l = let a = length-append (those_below n on) (n ∷ []) in omega (arith, a, l)
    by false l = let a = length-append (those_below n on) [] in omega (arith, a, l)

sum_within : (f : ℕ → ℕ) (most : ℕ) → ((p : ℕ) → f p ≤ most) → (ps : List ℕ) → sum_by f ps ≤ length ps * most
sum_within f most h ps = sum_by-le f most ps (λ k d lt. h (get_or ps k d))

-- with n processes at most 16 ^ left rows
pub rows_few : (sys : System Machine) → sys.processes ≤ 16 → (steps left : ℕ) (node : Node Machine) → length (walk sys steps left node) ≤ 16 ^ left
unfolding walk
rows_few sys few steps zero (Halted kind s) = omega arith
rows_few sys few steps zero (Choosing s) = omega arith
rows_few sys few steps (suc left) (Halted kind s) = pow-le-pow_right {n = 16} (omega arith) {i = 0} {j = suc left} (omega arith)
rows_few sys few steps (suc left) (Choosing s) =
    let ps = those_below sys.processes (may sys s) in
    let f : ℕ → ℕ = λ p. weight_of (λ _. 1) (walk sys steps left (chosen sys steps s p)) in
    let most : (p : ℕ) → f p ≤ 16 ^ left = λ p. let l = rows_few sys few steps left (chosen sys steps s p) in let e = sum_ones (walk sys steps left (chosen sys steps s p)) in omega (arith, l, e) in
    let count = few_below sys.processes (may sys s) in
    let all : sum_by f ps ≤ length ps * 16 ^ left = sum_within f (16 ^ left) most ps in
    let same = sum_ones (walk sys steps (suc left) (Choosing s)) in
    let sum = joined_weight (λ _. 1) (λ p. walk sys steps left (chosen sys steps s p)) (may sys s) sys.processes in
    let bound : length ps * 16 ^ left ≤ 16 * 16 ^ left = times (length ps) (16 ^ left) (omega (arith, count, few)) in
    omega (arith, all, same, sum, bound)
  where
    times : (n m : ℕ) → n ≤ 16 → n * m ≤ 16 * m
    times n m l = mul-le-mul_right m l

pub all_few : (sys : System Machine) → sys.processes ≤ 16 → (steps left : ℕ) (node : Node Machine) → left ≤ 100 → length (walk sys steps left node) < 10 ^ 126
all_few sys few steps left node l =
    let a = rows_few sys few steps left node in
    let p : 16 ^ left ≤ 16 ^ 100 = pow-le-pow_right {n = 16} (omega arith) {i = left} {j = 100} l in
    let b : 16 ^ 100 < 10 ^ 126 = lit< tt in
    omega (arith, a, p, b)

-- ---- what was displayed before

module _ (r : Tables) (discipline : Discipline) (steps left : ℕ) where
  abbrev sys : System Machine
  sys = slots r discipline

  -- states that differ in what was displayed before alone
  pub same_weight : (m n : Machine) → core_key m ≡ core_key n → (f : Outcome → ℕ) → weight_of (λ o. f (since (length n.output) o)) (walk sys steps left (Choosing n)) ≡ weight_of (λ o. f (since (length m.output) o)) (walk sys steps left (Choosing m))
  same_weight m n e f =
      let rows = walk sys steps left (Choosing m) in
      ap (weight_of (λ o. f (since (length n.output) o))) (walk_again r discipline steps left m n e)
      ∙ sum_map (λ l. f (since (length n.output) l.outcome)) (shown_by (λ shown. n.output ++ drop (length n.output) shown)) rows
      ∙ sum_same (λ l. f (since (length n.output) (shown_by (λ shown. n.output ++ drop (length n.output) shown) l).outcome)) (λ l. f (since (length m.output) l.outcome)) (λ l. ap (λ output. f (record { kind = l.outcome.kind; output = output })) (drop-append_seam n.output (drop (length n.output) l.outcome.output) ∙ ap (λ k. drop k l.outcome.output) (sym (core_counts m n e)))) rows

  -- from a later state on, behind what was displayed meanwhile
  pub later_weight : (s t : Machine) → length s.output ≤ length t.output → (shown : List Shown) → shown ≡ drop (length s.output) t.output → (f : Outcome → ℕ) → weight_of (λ o. f (after shown (since (length t.output) o))) (walk sys steps left (Choosing t)) ≡ weight_of (λ o. f (since (length s.output) o)) (walk sys steps left (Choosing t))
  later_weight s t grown shown is f =
      let rows = walk sys steps left (Choosing t) in
      let told = λ (shown : List Shown). t.output ++ drop (length t.output) shown in
      let same : rows ≡ map (shown_by told) rows = walk_again r discipline steps left t t refl in
      ap (weight_of (λ o. f (after shown (since (length t.output) o)))) same
      ∙ sum_map (λ l. f (after shown (since (length t.output) l.outcome))) (shown_by told) rows
      ∙ sum_same (λ l. f (after shown (since (length t.output) (shown_by told l).outcome))) (λ l. f (since (length s.output) (shown_by told l).outcome)) (λ l. ap (λ output. f (record { kind = l.outcome.kind; output = output })) (
      ap (λ rest. shown ++ rest) (drop-append_seam t.output (drop (length t.output) l.outcome.output))
      ∙ ap (λ first. first ++ drop (length t.output) l.outcome.output) is
      ∙ sym (drop-append-le (length s.output) t.output (drop (length t.output) l.outcome.output) grown))) rows
      ∙ sym (sum_map (λ l. f (since (length s.output) l.outcome)) (shown_by told) rows)
      ∙ sym (ap (weight_of (λ o. f (since (length s.output) o))) same)
