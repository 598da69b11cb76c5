-- Cells that are written one after the other: a set, and the copy of an array or a record.
use Rattle.std.proofs.Common.{◌≡◌, ◌≢◌, ◌∙◌, ℕ, zero, suc, ◌+◌, ◌*◌, ◌-◌, ◌/◌, ◌%◌, ◌^◌, ◌<◌, ◌≤◌, ◌⊎◌, inl, inr, List, [], ◌∷◌, Some, ap, sym, refl, subst, arith, length, get_or}
use Rattle.cp_machine_laws.proofs.Words.{ℤ, pos, slice_index_or, cases_lt, Address, Permanent, Local, HasCells, Ty, Value, Choice, with_part, cells_of, encode, set_cells}
use Rattle.cp_machine_laws.proofs.Words.{HasType, chosen_at, Few, further, LiesAt, Memory, cell_at, address_onward, put_number, put_copy}
use Rattle.std.specs.Int.{cast_signed, w16}
use Rattle.cp_store.specs.Sets.{put_word, put_pair, put_quad, put_set}
use Rattle.cp_machine_laws.specs.Given.{OthersKept, PutsBlock}
use Rattle.cp_machine_laws.proofs.control.Moving.{same_or_other}
use Rattle.cp_machine_laws.proofs.expressions.Parts.{encode_length}
use Rattle.cp_machine_laws.proofs.expressions.Reading.{further_further}
use Rattle.cp_machine_laws.proofs.assignments.Rewriting.{Outside, part_new}
use Rattle.cp_machine_laws.proofs.expressions.SetCells.{no_further, moved_on, on_from}
use Rattle.cp_machine_laws.proofs.assignments.Writing.{put_writes, further_apart}

-- ---- the first cells of a block

-- from an address on this many cells are those of the list, and all others are as they were
pub record WritesFirst (m m2 : Memory) (a : Address) (ws : List ℤ) (n : ℕ) : Type 0 where
  pub here : (k : ℕ) → k < n → cell_at m2 (further a k) ≡ slice_index_or ws k (pos 0)
  pub there : (b : Address) → ((k : ℕ) → k < n → b ≢ further a k) → cell_at m2 b ≡ cell_at m b
  pub permanents : length m2.permanents ≡ length m.permanents
  pub cells : length m2.cells ≡ length m.cells
  pub references : m2.references ≡ m.references
  pub others : OthersKept a m m2

abbrev pub WritesBlock : Memory → Memory → Address → List ℤ → Type 0
WritesBlock m m2 a ws = WritesFirst m m2 a ws (length ws)

-- as the word of specs is
pub puts_block : (m m2 : Memory) (a : Address) (ws : List ℤ) → WritesBlock m m2 a ws → PutsBlock m m2 a ws
puts_block m m2 a ws w = record { here = w.here; there = w.there; permanents = w.permanents; cells = w.cells; references = w.references; others = w.others }

pub others_same : (a : Address) (m : Memory) → OthersKept a m m
others_same (Permanent n) m = refl
others_same (Local n) m = refl

others_put : (a : Address) (m m2 : Memory) (k : ℕ) (z : ℤ) → OthersKept a m m2 → OthersKept a m (put_number m2 (further a k) z)
others_put (Permanent n) m m2 k z e = e
others_put (Local n) m m2 k z e = e

pub none_written : (m : Memory) (a : Address) (ws : List ℤ) → WritesFirst m m a ws 0
none_written m a ws = record { here = λ k less. absurd (omega (arith, less)); there = λ b out. refl; permanents = refl; cells = refl; references = refl; others = others_same a m }

has_one : (m m2 : Memory) (a : Address) (n cells : ℕ) → length m2.permanents ≡ length m.permanents → length m2.cells ≡ length m.cells → HasCells m a cells → n < cells → HasCells m2 (further a n) 1
has_one m m2 (Permanent j) n cells e d h less = omega (arith, e, h, less)
has_one m m2 (Local j) n cells e d h less = omega (arith, d, h, less)

-- one cell more
pub one_written : (m m2 : Memory) (a : Address) (ws : List ℤ) (n cells : ℕ) (z : ℤ) → WritesFirst m m2 a ws n → HasCells m a cells → n < cells → slice_index_or ws n (pos 0) ≡ z → WritesFirst m (put_number m2 (further a n) z) a ws (suc n)
one_written m m2 a ws n cells z h has less e =
    let w = put_writes m2 (further a n) z (has_one m m2 a n cells h.permanents h.cells has less) in
    record {
      here = λ k small. (let go : (k ≡ n) ⊎ (k ≢ n) → cell_at (put_number m2 (further a n) z) (further a k) ≡ slice_index_or ws k (pos 0) = here k small in go (same_or_other k n));
      there = λ b out. w.there b (out n (omega arith)) ∙ h.there b (λ k small. out k (omega (arith, small)));
      permanents = w.permanents ∙ h.permanents;
      cells = w.cells ∙ h.cells;
      references = w.references ∙ h.references;
      others = others_put a m m2 n z h.others;
    }
  where
    here : (k : ℕ) → k < suc n → (k ≡ n) ⊎ (k ≢ n) → cell_at (put_number m2 (further a n) z) (further a k) ≡ slice_index_or ws k (pos 0)
    here k small (inl same) = ap (λ j. cell_at (put_number m2 (further a n) z) (further a j)) same ∙ ((put_writes m2 (further a n) z (has_one m m2 a n cells h.permanents h.cells has less)).here ∙ (sym e ∙ ap (λ j. slice_index_or ws j (pos 0)) (sym same)))
    here k small (inr other) = (put_writes m2 (further a n) z (has_one m m2 a n cells h.permanents h.cells has less)).there (further a k) (further_apart a k n other) ∙ h.here k (omega (arith, small, other))

-- one cell is a block
pub number_writes : (m : Memory) (a : Address) (z : ℤ) → HasCells m a 1 → WritesBlock m (put_number m a z) a (z ∷ [])
number_writes m a z h = subst (λ b. WritesBlock m (put_number m b z) a (z ∷ [])) (no_further a) (one_written m m a (z ∷ []) 0 1 z (none_written m a (z ∷ [])) h (omega arith) refl)

-- ---- a copy

-- no cell is read after it was written
abbrev pub ReadsFirst : (from to : Address) → ℕ → Type 0
ReadsFirst from to n = (i k : ℕ) → i < k → k < n → further from k ≢ further to i

pub copy_writes : (m : Memory) (to from : Address) (ws : List ℤ) (size n : ℕ) → Few m → HasCells m to size → HasCells m from size → ((k : ℕ) → k < size → cell_at m (further from k) ≡ slice_index_or ws k (pos 0)) → ReadsFirst from to size → n ≤ size → WritesFirst m (put_copy m to from n) to ws n
copy_writes m to from ws size zero few has source lies reads le = none_written m to ws
copy_writes m to from ws size (suc n) few has source lies reads le =
    let ih = copy_writes m to from ws size n few has source lies reads (omega (arith, le)) in
    let read : cell_at (put_copy m to from n) (address_onward from n) ≡ slice_index_or ws n (pos 0) =
    ap (cell_at (put_copy m to from n)) (moved_on m from size n few source (omega (arith, le))) ∙ (ih.there (further from n) (λ i less. reads i n less (omega (arith, le))) ∙ lies n (omega (arith, le))) in
    subst (λ (b : Address). WritesFirst m (put_number (put_copy m to from n) b (cell_at (put_copy m to from n) (address_onward from n))) to ws (suc n)) (sym (moved_on m to size n few has (omega (arith, le))))
    (one_written m (put_copy m to from n) to ws n size (cell_at (put_copy m to from n) (address_onward from n)) ih has (omega (arith, le)) (sym read))

-- ---- a set

pair_put : (m : Memory) (at a0 a1 : Address) (x y0 y1 : ℕ) → at ≡ a0 → address_onward at 1 ≡ a1 → x % 2 ^ 16 ≡ y0 → x / 2 ^ 16 ≡ y1 → put_pair m at x ≡ put_word (put_word m a0 y0) a1 y1
pair_put m at a0 a1 x y0 y1 e0 e1 d0 d1 =
    ap (λ b. put_word (put_word m b (x % 2 ^ 16)) (address_onward at 1) (x / 2 ^ 16)) e0 ∙ (ap (λ b. put_word (put_word m a0 (x % 2 ^ 16)) b (x / 2 ^ 16)) e1
    ∙ (ap (λ y. put_word (put_word m a0 y) a1 (x / 2 ^ 16)) d0 ∙ ap (λ y. put_word (put_word m a0 y0) a1 y) d1))

abbrev four : Memory → (a0 a1 a2 a3 : Address) → (y0 y1 y2 y3 : ℕ) → Memory
four m a0 a1 a2 a3 y0 y1 y2 y3 = put_word (put_word (put_word (put_word m a0 y0) a1 y1) a2 y2) a3 y3

quad_put : (m : Memory) (at a0 a1 a2 a3 : Address) (x y0 y1 y2 y3 : ℕ) → at ≡ a0 → address_onward at 1 ≡ a1 → address_onward at 2 ≡ a2 → address_onward (address_onward at 2) 1 ≡ a3 →
    (x % 2 ^ 32) % 2 ^ 16 ≡ y0 → (x % 2 ^ 32) / 2 ^ 16 ≡ y1 → (x / 2 ^ 32) % 2 ^ 16 ≡ y2 → (x / 2 ^ 32) / 2 ^ 16 ≡ y3 → put_quad m at x ≡ four m a0 a1 a2 a3 y0 y1 y2 y3
quad_put m at a0 a1 a2 a3 x y0 y1 y2 y3 e0 e1 e2 e3 d0 d1 d2 d3 =
    ap (λ k. put_pair k (address_onward at 2) (x / 2 ^ 32)) (pair_put m at a0 a1 (x % 2 ^ 32) y0 y1 e0 e1 d0 d1) ∙ pair_put (put_word (put_word m a0 y0) a1 y1) (address_onward at 2) a2 a3 (x / 2 ^ 32) y2 y3 e2 e3 d2 d3

abbrev word : ℕ → ℕ → ℕ
word b k = (b / 2 ^ (16 * k)) % 2 ^ 16

module _ (m : Memory) (a : Address) (b : ℕ) (few : Few m) (has : HasCells m a 8) (small : b < 2 ^ 128) where
  from : (j k n : ℕ) → j + k ≡ n → n ≤ 8 → address_onward (further a j) k ≡ further a n
  from j k n e le = on_from m a j k few has (omega (arith, e, le)) ∙ ap (further a) e

  to_four : address_onward a 4 ≡ further a 4
  to_four = ap (λ c. address_onward c 4) (sym (no_further a)) ∙ from 0 4 4 refl (omega arith)

  abbrev lower : Memory
  lower = four m (further a 0) (further a 1) (further a 2) (further a 3) (word b 0) (word b 1) (word b 2) (word b 3)

  abbrev all : Memory
  all = four lower (further a 4) (further a 5) (further a 6) (further a 7) (word b 4) (word b 5) (word b 6) (word b 7)

  lower_is : put_quad m a (b % 2 ^ 64) ≡ lower
  lower_is =
      quad_put m a (further a 0) (further a 1) (further a 2) (further a 3) (b % 2 ^ 64) (word b 0) (word b 1) (word b 2) (word b 3) (sym (no_further a))
      (ap (λ c. address_onward c 1) (sym (no_further a)) ∙ from 0 1 1 refl (omega arith))
      (ap (λ c. address_onward c 2) (sym (no_further a)) ∙ from 0 2 2 refl (omega arith))
      (ap (λ c. address_onward (address_onward c 2) 1) (sym (no_further a)) ∙ (ap (λ c. address_onward c 1) (from 0 2 2 refl (omega arith)) ∙ from 2 1 3 refl (omega arith)))
      (omega arith) (omega arith) (omega arith) (omega arith)

  all_is : put_set m a (record { members = b }) ≡ all
  all_is =
      ap (λ k. put_quad k (address_onward a 4) (b / 2 ^ 64)) lower_is
      ∙ (ap (λ c. put_quad lower c (b / 2 ^ 64)) to_four
      ∙ quad_put lower (further a 4) (further a 4) (further a 5) (further a 6) (further a 7) (b / 2 ^ 64) (word b 4) (word b 5) (word b 6) (word b 7) refl (from 4 1 5 refl (omega arith)) (from 4 2 6 refl (omega arith))
      (ap (λ c. address_onward c 1) (from 4 2 6 refl (omega arith)) ∙ from 6 1 7 refl (omega arith)) (omega arith) (omega arith) (omega arith) (omega arith))

  lower_written : WritesFirst m lower a (set_cells b) 4
  lower_written =
      let w0 = one_written m m a (set_cells b) 0 8 (cast_signed w16 (word b 0)) (none_written m a (set_cells b)) has (omega arith) refl in
      let w1 = one_written m (put_word m (further a 0) (word b 0)) a (set_cells b) 1 8 (cast_signed w16 (word b 1)) w0 has (omega arith) refl in
      let w2 = one_written m (put_word (put_word m (further a 0) (word b 0)) (further a 1) (word b 1)) a (set_cells b) 2 8 (cast_signed w16 (word b 2)) w1 has (omega arith) refl in
      one_written m (put_word (put_word (put_word m (further a 0) (word b 0)) (further a 1) (word b 1)) (further a 2) (word b 2)) a (set_cells b) 3 8 (cast_signed w16 (word b 3)) w2 has (omega arith) refl

  all_written : WritesFirst m all a (set_cells b) 8
  all_written =
      let w4 = one_written m lower a (set_cells b) 4 8 (cast_signed w16 (word b 4)) lower_written has (omega arith) refl in
      let w5 = one_written m (put_word lower (further a 4) (word b 4)) a (set_cells b) 5 8 (cast_signed w16 (word b 5)) w4 has (omega arith) refl in
      let w6 = one_written m (put_word (put_word lower (further a 4) (word b 4)) (further a 5) (word b 5)) a (set_cells b) 6 8 (cast_signed w16 (word b 6)) w5 has (omega arith) refl in
      one_written m (put_word (put_word (put_word lower (further a 4) (word b 4)) (further a 5) (word b 5)) (further a 6) (word b 6)) a (set_cells b) 7 8 (cast_signed w16 (word b 7)) w6 has (omega arith) refl

  pub set_writes : WritesBlock m (put_set m a (record { members = b })) a (set_cells b)
  set_writes = subst (λ (k : Memory). WritesFirst m k a (set_cells b) 8) (sym all_is) all_written

-- ---- what lies there, and elsewhere

has_block : (m m2 : Memory) (a : Address) (ws : List ℤ) (n : ℕ) (b : Address) (cells : ℕ) → WritesFirst m m2 a ws n → HasCells m b cells → HasCells m2 b cells
has_block m m2 a ws n (Permanent j) cells w h = let e = w.permanents in omega (arith, e, h)
has_block m m2 a ws n (Local j) cells w h = let e = w.cells in omega (arith, e, h)

-- what lies elsewhere lies as it did
pub block_kept : (m m2 : Memory) (a : Address) (ws : List ℤ) (t : Ty) (v : Value) (b : Address) → WritesBlock m m2 a ws → LiesAt m t v b → ((k i : ℕ) → k < cells_of t → i < length ws → further b k ≢ further a i) → LiesAt m2 t v b
block_kept m m2 a ws t v b w h apart =
    let n = encode_length t v h.typed in
    record {
      typed = h.typed;
      cells = has_block m m2 a ws (length ws) b (cells_of t) w h.cells;
      block = λ k less. w.there (further b k) (λ i small. apart k i (omega (arith, n, less)) small) ∙ h.block k less;
    }

-- the variable has the value at its part
pub block_new : (m m2 : Memory) (t : Ty) (v : Value) (b : Address) (cs : List Choice) (offset : ℕ) (u : Ty) (y : Value) → WritesBlock m m2 (further b offset) (encode y) → LiesAt m t v b → chosen_at t cs ≡ Some (offset, u) → HasType u y → LiesAt m2 t (with_part v cs y) b
block_new m m2 t v b cs offset u y w h e k =
    let new = part_new t v cs (offset, u) y h.typed e k in
    let n = encode_length t v h.typed in
    let n2 = encode_length t (with_part v cs y) new.typed in
    record {
      typed = new.typed;
      cells = has_block m m2 (further b offset) (encode y) (length (encode y)) b (cells_of t) w h.cells;
      block = λ i less. by_place i (omega (arith, n, n2, less)) (cases_lt i offset) (cases_lt i (offset + length (encode y)));
    }
  where
    outer : (i : ℕ) → i < length (encode v) → Outside offset (length (encode y)) i → cell_at m2 (further b i) ≡ slice_index_or (encode (with_part v cs y)) i (pos 0)
    outer i less out = w.there (further b i) (λ j small d. further_apart b i (offset + j) (apart i j small out) (d ∙ further_further b offset j)) ∙ (h.block i less ∙ sym ((part_new t v cs (offset, u) y h.typed e k).cells.outer i out))
      where
        apart : (i j : ℕ) → j < length (encode y) → Outside offset (length (encode y)) i → i ≢ offset + j
        apart i j small (inl l) same = omega (arith, same, l)
        apart i j small (inr l) same = omega (arith, same, l, small)

    inner : (i j : ℕ) → offset + j ≡ i → j < length (encode y) → cell_at m2 (further b i) ≡ slice_index_or (encode (with_part v cs y)) i (pos 0)
    inner i j same less =
        ap (λ x. cell_at m2 (further b x)) (sym same) ∙ (ap (cell_at m2) (sym (further_further b offset j)) ∙ (w.here j less
        ∙ (sym ((part_new t v cs (offset, u) y h.typed e k).cells.inner j less) ∙ ap (λ x. get_or (encode (with_part v cs y)) x (pos 0)) same)))

    by_place : (i : ℕ) → i < length (encode v) → (i < offset) ⊎ (offset ≤ i) → (i < offset + length (encode y)) ⊎ (offset + length (encode y) ≤ i) → cell_at m2 (further b i) ≡ slice_index_or (encode (with_part v cs y)) i (pos 0)
    by_place i less (inl l) o = outer i less (inl l)
    by_place i less (inr l) (inr o) = outer i less (inr o)
    by_place i less (inr l) (inl o) = inner i (i - offset) (omega (arith, l)) (omega (arith, l, o))
