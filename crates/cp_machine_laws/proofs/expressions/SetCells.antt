-- A set that lies in cells is read as the set that it is: the eight words of its bits put together are these bits.
use Rattle.cp_machine_laws.proofs.Words.{◌≡◌, ◌∙◌, ℕ, ◌+◌, ◌*◌, ◌/◌, ◌%◌, ◌^◌, ◌<◌, ◌≤◌, List, ap, sym, refl, arith, pos, slice_index_or, Address, Permanent, Local, HasCells}
use Rattle.cp_machine_laws.proofs.Words.{Memory, cell_at, address_onward, Range, set_over, set_value, bits_of, set_cells, Few, further, LiesAt}
use Rattle.std.specs.Int.{cast_unsigned, cast_signed, w16}
use Rattle.std.proofs.lemmas.Int.{of_z-to_z}
use Rattle.std.proofs.Math.Nat.{div-div-eq-div-mul, mod-add-div'}
use Rattle.cp_store.specs.Sets.{word_at, pair_at, quad_at, load_set}
use Rattle.cp_machine_laws.proofs.expressions.Members.{bits_below}

-- ---- numbers by words

-- a number is its lowest word, and the others
word_and_more : (b n : ℕ) → (b / n) % 65536 + (b / (n * 65536)) * 65536 ≡ b / n
word_and_more b n = ap (λ k. (b / n) % 65536 + k * 65536) (sym (div-div-eq-div-mul b n 65536)) ∙ mod-add-div' (b / n) 65536

abbrev words : (w0 w1 w2 w3 w4 w5 w6 w7 : ℕ) → ℕ
words w0 w1 w2 w3 w4 w5 w6 w7 = (w0 + w1 * 2 ^ 16 + (w2 + w3 * 2 ^ 16) * 2 ^ 32) + (w4 + w5 * 2 ^ 16 + (w6 + w7 * 2 ^ 16) * 2 ^ 32) * 2 ^ 64

abbrev word : ℕ → ℕ → ℕ
word b k = (b / 2 ^ (16 * k)) % 2 ^ 16

words_are : (b : ℕ) → b < 2 ^ 128 → words (word b 0) (word b 1) (word b 2) (word b 3) (word b 4) (word b 5) (word b 6) (word b 7) ≡ b
words_are b small =
    let e0 = word_and_more b (2 ^ 0) in
    let e1 = word_and_more b (2 ^ 16) in
    let e2 = word_and_more b (2 ^ 32) in
    let e3 = word_and_more b (2 ^ 48) in
    let e4 = word_and_more b (2 ^ 64) in
    let e5 = word_and_more b (2 ^ 80) in
    let e6 = word_and_more b (2 ^ 96) in
    let e7 = word_and_more b (2 ^ 112) in
    omega arith

-- ---- where the words lie

pub no_further : (a : Address) → further a 0 ≡ a
no_further (Permanent n) = ap Permanent (omega arith)
no_further (Local n) = ap Local (omega arith)

-- to a cell that is there one moves by exactly that many cells
pub moved_on : (m : Memory) (a : Address) (all k : ℕ) → Few m → HasCells m a all → k ≤ all → address_onward a k ≡ further a k
moved_on m (Permanent n) all k few h le = ap Permanent (let p = few.permanents in omega (arith, p, h, le))
moved_on m (Local n) all k few h le = ap Local (let p = few.cells in omega (arith, p, h, le))

pub on_from : (m : Memory) (a : Address) (j k : ℕ) → Few m → HasCells m a 8 → j + k ≤ 8 → address_onward (further a j) k ≡ further a (j + k)
on_from m (Permanent n) j k few h le = ap Permanent (let p = few.permanents in omega (arith, p, h, le))
on_from m (Local n) j k few h le = ap Local (let p = few.cells in omega (arith, p, h, le))

module _ (m : Memory) (a : Address) (b : ℕ) (few : Few m) (has : HasCells m a 8) (block : (k : ℕ) → k < 8 → cell_at m (further a k) ≡ slice_index_or (set_cells b) k (pos 0)) where
  word_lies : (k : ℕ) → k < 8 → slice_index_or (set_cells b) k (pos 0) ≡ cast_signed w16 (word b k) → word_at m (further a k) ≡ word b k
  word_lies k less e = ap (cast_unsigned w16) (block k less ∙ e) ∙ of_z-to_z w16 (word b k) (omega arith)

  from : (j k n : ℕ) → j + k ≡ n → n ≤ 8 → address_onward (further a j) k ≡ further a n
  from j k n e le = on_from m a j k few has (omega (arith, e, le)) ∙ ap (further a) e

  pair_lies : (n : ℕ) → n + 2 ≤ 8 → (w0 w1 : ℕ) → word_at m (further a n) ≡ w0 → word_at m (further a (n + 1)) ≡ w1 → pair_at m (further a n) ≡ w0 + w1 * 2 ^ 16
  pair_lies n le w0 w1 e d = ap (λ x. word_at m (further a n) + word_at m x * 2 ^ 16) (from n 1 (n + 1) refl (omega (arith, le))) ∙ (ap (λ x. x + word_at m (further a (n + 1)) * 2 ^ 16) e ∙ ap (λ x. w0 + x * 2 ^ 16) d)

  quad_lies : (n : ℕ) → n + 4 ≤ 8 → (w0 w1 w2 w3 : ℕ) → word_at m (further a n) ≡ w0 → word_at m (further a (n + 1)) ≡ w1 → word_at m (further a (n + 2)) ≡ w2 → word_at m (further a (n + 2 + 1)) ≡ w3 →
      quad_at m (further a n) ≡ w0 + w1 * 2 ^ 16 + (w2 + w3 * 2 ^ 16) * 2 ^ 32
  quad_lies n le w0 w1 w2 w3 e0 e1 e2 e3 =
      ap (λ x. pair_at m (further a n) + pair_at m x * 2 ^ 32) (from n 2 (n + 2) refl (omega (arith, le)))
      ∙ (ap (λ x. x + pair_at m (further a (n + 2)) * 2 ^ 32) (pair_lies n (omega (arith, le)) w0 w1 e0 e1)
      ∙ ap (λ x. w0 + w1 * 2 ^ 16 + x * 2 ^ 32) (pair_lies (n + 2) (omega (arith, le)) w2 w3 e2 e3))

  -- the words in the cells are those of the number
  stored_from : (load_set m (further a 0)).members ≡ words (word b 0) (word b 1) (word b 2) (word b 3) (word b 4) (word b 5) (word b 6) (word b 7)
  stored_from =
      ap (λ x. quad_at m (further a 0) + quad_at m x * 2 ^ 64) (from 0 4 4 refl (omega arith))
      ∙ (ap (λ x. x + quad_at m (further a 4) * 2 ^ 64) (quad_lies 0 (omega arith) _ _ _ _ (word_lies 0 (omega arith) refl) (word_lies 1 (omega arith) refl) (word_lies 2 (omega arith) refl) (word_lies 3 (omega arith) refl))
      ∙ ap (λ x. (word b 0 + word b 1 * 2 ^ 16 + (word b 2 + word b 3 * 2 ^ 16) * 2 ^ 32) + x * 2 ^ 64) (quad_lies 4 (omega arith) _ _ _ _ (word_lies 4 (omega arith) refl) (word_lies 5 (omega arith) refl) (word_lies 6 (omega arith) refl) (word_lies 7 (omega arith) refl)))

  pub stored_is : b < 2 ^ 128 → (load_set m a).members ≡ b
  stored_is small = ap (λ x. (load_set m x).members) (sym (no_further a)) ∙ (stored_from ∙ words_are b small)

-- a set is read as it lies
pub set_lies : (m : Memory) (r : Range) (ns : List ℕ) (a : Address) → Few m → LiesAt m (set_over r) (set_value ns) a → (load_set m a).members ≡ bits_of ns
set_lies m r ns a few h =
    let below = bits_below 0 ns (omega arith) h.typed in
    stored_is m a (bits_of ns) few h.cells h.block (omega (arith, below))
