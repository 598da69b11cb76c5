-- Processes that become others one by one.
use Rattle.std.proofs.Common.{◌≡◌, ◌∙◌, ◌+◌, ◌<◌, ◌≤◌, ℕ, [], ◌∷◌, List, arith, length, map, refl, subst, sym}
use Rattle.std.specs.Prelude.{slice_index_or, slice_set}
use Rattle.std.proofs.lemmas.List.{ext_get_or, get_or-map, get_or-set_other, get_or_read, length-map, length-set}
use Rattle.cp_machine.specs.declared.process.ProcessState.{ProcessState}
use Rattle.cp_machine.specs.Fits.{HaveCells, HaveReferences, HaveStacks}
use Rattle.cp_machine.specs.Machine.{Thread, no_thread, thread_at, thread_of}
use Rattle.cp_machine.proofs.CopyLemmas.{set_each}
use Rattle.cp_parts.specs.Taking.{AreTaken, HasRoomFor, HasRoomOf}

pub taken_none : (threads : ℕ → Thread) (old : List ProcessState) → AreTaken threads old old 0
taken_none threads old =
    record {
      count = refl;
      taken = λ pid d lt. absurd (omega (arith, lt));
      rest = λ pid d le. refl;
      room = λ pid d lt. record { stack = omega arith; cells = omega arith; references = omega arith };
    }

pub taken_next : (threads : ℕ → Thread) (old mine : List ProcessState) (at : ℕ) (x was : ProcessState) → at < length mine → was ≡ slice_index_or mine at was → thread_of x ≡ threads at → HasRoomOf x was → AreTaken threads old mine at → AreTaken threads old (slice_set mine at x) (at + 1)
taken_next threads old mine at x was lm read same room h =
    record {
      count = length-set mine at x ∙ h.count;
      taken = set_each (λ q d p. thread_of p ≡ threads q) mine at x lm (λ d. same) (at + 1) (λ q d l ne. h.taken q d (omega (arith, l, ne)));
      rest = λ q d le. get_or-set_other mine at q x d (λ e. omega (arith, e, le)) ∙ h.rest q d (omega (arith, le));
      room = set_each (λ q d p. HasRoomOf p (slice_index_or old q d)) mine at x lm (λ d. subst (HasRoomOf x) (was_old d) room) (length old) (λ q d l ne. h.room q d l);
    }
  where
    was_old : (d : ProcessState) → was ≡ slice_index_or old at d
    was_old d = get_or_read mine at was lm read d ∙ h.rest at d (omega arith)

-- a process at a place that has not become another one yet
pub still_old : (threads : ℕ → Thread) (old mine : List ProcessState) (at : ℕ) (was : ProcessState) → at < length mine → was ≡ slice_index_or mine at was → AreTaken threads old mine at → was ≡ slice_index_or old at was
still_old threads old mine at was lm read h = get_or_read mine at was lm read was ∙ h.rest at was (omega arith)

-- ---- all of them

some_process : (ps : List ProcessState) (n : ℕ) → n < length ps → ProcessState
some_process [] n lt = absurd (omega (arith, lt))
some_process (p ∷ ps) n lt = p

-- processes that are threads one by one are all of them
pub threads_taken : (threads : ℕ → Thread) (old new : List ProcessState) (ts : List Thread) → length ts ≡ length old → ((pid : ℕ) → pid < length ts → threads pid ≡ thread_at ts pid) → AreTaken threads old new (length old) → map thread_of new ≡ ts
threads_taken threads old new ts count are h =
    ext_get_or no_thread (map thread_of new) ts (length-map new thread_of ∙ h.count ∙ sym count)
    (λ pid lt.
    let there : pid < length new = omega (arith, lt, length-map new thread_of) in
    let d = some_process new pid there in
    let before_ : pid < length old = omega (arith, there, h.count) in
    get_or-map thread_of new pid d no_thread there ∙ h.taken pid d before_ ∙ are pid (omega (arith, before_, count)))

-- the room of the processes is as great as it was
pub stacks_kept : (threads : ℕ → Thread) (old new : List ProcessState) (n depth : ℕ) → AreTaken threads old new n → HaveStacks depth old → HaveStacks depth new
stacks_kept threads old new n depth h few q d lt = let there : q < length old = omega (arith, lt, h.count) in let a = few q d there in let b = (h.room q d there).stack in omega (arith, a, b)

pub cells_kept : (threads : ℕ → Thread) (old new : List ProcessState) (n cells : ℕ) → AreTaken threads old new n → HaveCells cells old → HaveCells cells new
cells_kept threads old new n cells h few q d lt = let there : q < length old = omega (arith, lt, h.count) in let a = few q d there in let b = (h.room q d there).cells in omega (arith, a, b)

pub references_kept : (threads : ℕ → Thread) (old new : List ProcessState) (n references : ℕ) → AreTaken threads old new n → HaveReferences references old → HaveReferences references new
references_kept threads old new n references h few q d lt = let there : q < length old = omega (arith, lt, h.count) in let a = few q d there in let b = (h.room q d there).references in omega (arith, a, b)
