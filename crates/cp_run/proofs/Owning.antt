-- Who is ready or in line in a program's own state.
use Rattle.std.proofs.Common.{◌≡◌, ◌∙◌, ℕ, zero, suc, ◌+◌, Bool, true, false, [], ◌∷◌, ◌++◌, length, Some, if◌then◌else◌, refl, ap, arith, filter}
use Rattle.std.specs.List.{range_with_len}
use Rattle.std.proofs.lemmas.List.Elements.{filter-append}
use Rattle.cp_slots.specs.Tables.{Tables}
use Rattle.cp_machine.specs.declared.state.State.{State}
use Rattle.cp_machine.specs.System.{machine_of, is_ready, ready_of, in_line, waiting_of, IsStateOf}
use Rattle.cp_machine.proofs.CallerLemmas.{threads_count, line_pending}
use Rattle.cp_run.specs.Run.{those_below}
use Rattle.cp_run.specs.Slots.{processes_of}

range_more : (a n : ℕ) → range_with_len a (suc n) ≡ range_with_len a n ++ (a + n) ∷ []
range_more a zero = let e : a ≡ a + 0 = omega arith in ap (λ k. k ∷ []) e
range_more a (suc n) =
    let e : a + 1 + n ≡ a + suc n = omega arith in
    ap (λ l. a ∷ l) (range_more (a + 1) n) ∙ ap (λ k. (a ∷ range_with_len (a + 1) n) ++ k ∷ []) e

filter_one : (f : ℕ → Bool) (k : ℕ) → filter f (k ∷ []) ≡ (if f k then k ∷ [] else [])
filter_one f k = elim (f k) as (λ b. (if b then k ∷ [] else []) ≡ (if b then k ∷ [] else [])) [ true ↦ refl | false ↦ refl ]

-- the numbers below n that pass a test
pub filtered : (f : ℕ → Bool) (n : ℕ) → filter f (range_with_len 0 n) ≡ those_below n f
filtered f zero = refl
filtered f (suc n) =
    let e : 0 + n ≡ n = omega arith in
    ap (filter f) (range_more 0 n ∙ ap (λ k. range_with_len 0 n ++ k ∷ []) e) ∙ filter-append f (range_with_len 0 n) (n ∷ []) ∙ ap (λ l. l ++ filter f (n ∷ [])) (filtered f n) ∙ ap (λ l. those_below n f ++ l) (filter_one f n)

pub own_ready : (r : Tables) (s : State) → IsStateOf r s → ready_of (machine_of s) ≡ those_below (processes_of r) (is_ready (machine_of s))
own_ready r s own =
    filtered (is_ready (machine_of s)) (length (machine_of s).threads) ∙ ap (λ n. those_below n (is_ready (machine_of s))) (threads_count r s own)

pub own_line : (r : Tables) (s : State) (monitor : ℕ) → IsStateOf r s → (machine_of s).pending ≡ Some monitor → waiting_of (machine_of s) monitor ≡ those_below (processes_of r) (in_line (machine_of s))
own_line r s monitor own e =
    let m = machine_of s in
    line_pending m monitor e ∙ filtered (in_line m) (length m.threads) ∙ ap (λ n. those_below n (in_line m)) (threads_count r s own)
