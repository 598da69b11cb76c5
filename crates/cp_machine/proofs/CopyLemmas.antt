-- Processes and monitors that are copied one by one.
use Rattle.std.proofs.Common.{◌≡◌, ℕ, ◌+◌, ◌<◌, ◌≤◌, ◌∙◌, ◌⊎◌, inl, inr, suc, subst, get_or-set_same, get_or-set_other, List, [], ◌∷◌, length, map, ap, sym, refl, arith}
use Rattle.cp_machine.proofs.Words.{slice_index_or, slice_set, vec_capacity, vec_len, cases_eq, Tables, IsSound, Frame, Entry, Rest, Successor, Return}
use Rattle.cp_machine.proofs.Words.{InitEnd, top_first, Gate, ProcessState, Machine, Thread, monitor_of, no_thread, thread_at, thread_of}
use Rattle.std.proofs.lemmas.List.{get_or-map, get_or_read, length-map, length-reverse, length-set}
use Rattle.cp_machine.specs.Bodies.{Body, body_of}
use Rattle.cp_machine.specs.Fits.{FrameFits, HaveCells, HaveReferences, HaveRoom, HaveStacks, MachineFits, StackFits, ThreadFits}

-- processes that are alike one by one
pub threads_same : (xs ys : List ProcessState) → length xs ≡ length ys → ((k : ℕ) (d : ProcessState) → k < length xs → thread_of (slice_index_or xs k d) ≡ thread_of (slice_index_or ys k d)) → map thread_of xs ≡ map thread_of ys
threads_same [] [] e h = refl
threads_same [] (y ∷ ys) e h = absurd (omega arith)
threads_same (x ∷ xs) [] e h = absurd (omega arith)
threads_same (x ∷ xs) (y ∷ ys) e h =
    let first : thread_of x ≡ thread_of y = h 0 x (omega arith) in
    let rest = threads_same xs ys (omega arith) (λ k d lt. h (suc k) d (omega arith)) in
    ap (λ t. t ∷ map thread_of xs) first ∙ ap (λ ts. thread_of y ∷ ts) rest

-- a fact of each element stays where one of them is replaced
pub set_each : {X : Type 0} (P : ℕ → X → X → Type 0) (xs : List X) (at : ℕ) (x : X) → at < length xs → ((d : X) → P at d x) → (n : ℕ) → ((q : ℕ) (d : X) → q < n → (q ≡ at → ⊥) → P q d (slice_index_or xs q d)) → (q : ℕ) (d : X) → q < n → P q d (slice_index_or (slice_set xs at x) q d)
set_each P xs at x within new n old q d lt = go (cases_eq q at)
  where
    go : (q ≡ at) ⊎ (q ≡ at → ⊥) → P q d (slice_index_or (slice_set xs at x) q d)
    go (inl e) =
        let R : ℕ → Type 0 = λ k. P k d (slice_index_or (slice_set xs at x) k d) in
        subst R (sym e) (subst (P at d) (sym (get_or-set_same xs at x d within)) (new d))
    go (inr ne) = subst (P q d) (sym (get_or-set_other xs at q x d ne)) (old q d lt ne)

pub copied_more : (mine theirs : List ProcessState) (at : ℕ) (x y : ProcessState) → at < length mine → at < length theirs → thread_of x ≡ thread_of y → y ≡ slice_index_or theirs at y → ((k : ℕ) (d : ProcessState) → k < at → thread_of (slice_index_or mine k d) ≡ thread_of (slice_index_or theirs k d)) → (k : ℕ) (d : ProcessState) → k < at + 1 → thread_of (slice_index_or (slice_set mine at x) k d) ≡ thread_of (slice_index_or theirs k d)
copied_more mine theirs at x y lm lt same read old =
    set_each (λ k d p. thread_of p ≡ thread_of (slice_index_or theirs k d)) mine at x lm (λ d. same ∙ ap thread_of (get_or_read theirs at y lt read d)) (at + 1) (λ k d l ne. old k d (omega arith))

-- a measure of each process is at least as great as before where one is replaced by one whose measure is
pub grown : (of : ProcessState → ℕ) (mine : List ProcessState) (at : ℕ) (x old : ProcessState) → at < length mine → old ≡ slice_index_or mine at old → of old ≤ of x → (n : ℕ → ProcessState → ℕ) → ((q : ℕ) (d : ProcessState) → q < length mine → n q d ≤ of (slice_index_or mine q d)) → (q : ℕ) (d : ProcessState) → q < length (slice_set mine at x) → n q d ≤ of (slice_index_or (slice_set mine at x) q d)
grown of mine at x old lm read more n h q d lt =
    let long = length-set mine at x in
    set_each (λ q d p. n q d ≤ of p) mine at x lm
    (λ d. (let e : of old ≡ of (slice_index_or mine at d) = ap of (get_or_read mine at old lm read d) in omega (arith, h at d lm, e, more)))
    (length mine) (λ q d l ne. h q d l) q d (omega (arith, long, lt))

-- the processes before a place are copied, those from it on are still the old ones, and all have room
pub record AreCopied (old mine theirs : List ProcessState) (at : ℕ) : Type 0 where
  pub copied : (k : ℕ) (d : ProcessState) → k < at → thread_of (slice_index_or mine k d) ≡ thread_of (slice_index_or theirs k d)
  pub rest : (k : ℕ) (d : ProcessState) → at ≤ k → slice_index_or mine k d ≡ slice_index_or old k d
  pub room : HaveRoom mine theirs
  pub stacks : (depth : ℕ) → HaveStacks depth old → HaveStacks depth mine
  pub cells : (cells : ℕ) → HaveCells cells old → HaveCells cells mine
  pub references : (references : ℕ) → HaveReferences references old → HaveReferences references mine

-- one process more is copied
pub copied_next : (old mine theirs : List ProcessState) (at : ℕ) (x was y : ProcessState) → at < length mine → at < length theirs → was ≡ slice_index_or mine at was → y ≡ slice_index_or theirs at y → thread_of x ≡ thread_of y → vec_capacity was.stack ≤ vec_capacity x.stack → vec_capacity was.room.cells ≤ vec_capacity x.room.cells → vec_capacity was.room.references ≤ vec_capacity x.room.references → AreCopied old mine theirs at → AreCopied old (slice_set mine at x) theirs (at + 1)
copied_next old mine theirs at x was y lm lt read_mine read same stack cells references h =
    let of_stack = grown (λ p. vec_capacity p.stack) mine at x was lm read_mine stack in
    let of_cells = grown (λ p. vec_capacity p.room.cells) mine at x was lm read_mine cells in
    let of_references = grown (λ p. vec_capacity p.room.references) mine at x was lm read_mine references in
    record {
      copied = copied_more mine theirs at x y lm lt same read h.copied;
      rest = λ k d le. get_or-set_other mine at k x d (λ e. omega (arith, e, le)) ∙ h.rest k d (omega (arith, le));
      room = record {
        count = length-set mine at x ∙ h.room.count;
        each = λ q d l. record {
          stack = of_stack (λ q d. vec_len (slice_index_or theirs q d).stack) (λ q d l. (h.room.each q d l).stack) q d l;
          cells = of_cells (λ q d. vec_len (slice_index_or theirs q d).room.cells) (λ q d l. (h.room.each q d l).cells) q d l;
          references = of_references (λ q d. vec_len (slice_index_or theirs q d).room.references) (λ q d l. (h.room.each q d l).references) q d l;
        };
      };
      stacks = λ depth few. of_stack (λ q d. depth) (h.stacks depth few);
      cells = λ n few. of_cells (λ q d. n) (h.cells n few);
      references = λ n few. of_references (λ q d. n) (h.references n few);
    }

-- a process that takes the status of one with the same body is like it
pub status_taken : (s t : Thread) → body_of s ≡ body_of t → record s { status = t.status } ≡ t
status_taken s t same =
    let with_body : Body → Thread = λ b. record { status = t.status; frame = b.frame; stack = b.stack; cells = b.cells; references = b.references } in
    ap with_body same

-- a process that is still the old one has the body of the other side's, where the old one has
pub body_kept : (old mine theirs : List ProcessState) (at : ℕ) (was y : ProcessState) → at < length old → at < length theirs → slice_index_or mine at was ≡ slice_index_or old at was → was ≡ slice_index_or mine at was → y ≡ slice_index_or theirs at y → body_of (thread_at (map thread_of old) at) ≡ body_of (thread_at (map thread_of theirs) at) → body_of (thread_of was) ≡ body_of (thread_of y)
body_kept old mine theirs at was y lo lt rest read_mine read kept =
    let mine_is : thread_of was ≡ thread_at (map thread_of old) at = ap thread_of (read_mine ∙ rest) ∙ sym (get_or-map thread_of old at was no_thread lo) in
    let theirs_is : thread_at (map thread_of theirs) at ≡ thread_of y = get_or-map thread_of theirs at y no_thread lt ∙ ap thread_of (sym read) in
    ap body_of mine_is ∙ kept ∙ ap body_of theirs_is

-- monitors that are alike one by one
pub guards_same : (xs ys : List Gate) → length xs ≡ length ys → ((k : ℕ) (d : Gate) → k < length xs → monitor_of (slice_index_or xs k d) ≡ monitor_of (slice_index_or ys k d)) → map monitor_of xs ≡ map monitor_of ys
guards_same [] [] e h = refl
guards_same [] (y ∷ ys) e h = absurd (omega arith)
guards_same (x ∷ xs) [] e h = absurd (omega arith)
guards_same (x ∷ xs) (y ∷ ys) e h =
    let first : monitor_of x ≡ monitor_of y = h 0 x (omega arith) in
    let rest = guards_same xs ys (omega arith) (λ k d lt. h (suc k) d (omega arith)) in
    ap (λ t. t ∷ map monitor_of xs) first ∙ ap (λ ts. monitor_of y ∷ ts) rest

frame_fits : (r : Tables) (f : Frame) (es : List Entry) → StackFits r f es → FrameFits r f
frame_fits r f [] h = h
frame_fits r f (Rest at ∷ es) h = frame_fits r f es h.1
frame_fits r f (Successor at value last ∷ es) h = frame_fits r f es h.1
frame_fits r f _ h = h.0.fits

stack_within : (r : Tables) (f : Frame) (es : List Entry) → StackFits r f es → length es ≤ r.depth
stack_within r f [] h = omega arith
stack_within r f (Return caller result monitor ∷ es) h = omega (arith, h.1)
stack_within r f (InitEnd caller component ∷ es) h = omega (arith, h.1)
stack_within r f _ h = omega (arith, h.0.deep)

-- what a thread that fits has is within what is reserved
pub thread_within : (r : Tables) (t : Thread) → IsSound r → ThreadFits r t → (length t.stack ≤ r.depth) × (length t.cells ≤ r.cells) × (length t.references ≤ r.references)
thread_within r t sound h =
    let frame = frame_fits r t.frame t.stack h.stack in
    let routine = sound.routines t.frame.routine frame.routine in
    (stack_within r t.frame t.stack h.stack, omega (arith, h.cells, frame.cells, routine.cells), omega (arith, h.references, frame.references, routine.references))

-- the processes of a state of the program have room for those of another
pub have_room : (r : Tables) (mine theirs : List ProcessState) (m : Machine) → map thread_of theirs ≡ m.threads → length mine ≡ length theirs → IsSound r → MachineFits r m → HaveStacks r.depth mine → HaveCells r.cells mine → HaveReferences r.references mine → HaveRoom mine theirs
have_room r mine theirs m same long sound fits stacks cells references = record {
  count = long;
  each = λ q d lt.
      (let within : q < length theirs = omega (arith, long, lt) in
      let p = slice_index_or theirs q d in
      let read : thread_at (map thread_of theirs) q ≡ thread_of p = get_or-map thread_of theirs q d no_thread within in
      let count : length (map thread_of theirs) ≡ length theirs = length-map theirs thread_of in
      let Q : List Thread → Type 0 = λ ts. (k : ℕ) → k < length ts → ThreadFits r (thread_at ts k) in
      let all : (k : ℕ) → k < length (map thread_of theirs) → ThreadFits r (thread_at (map thread_of theirs) k) = subst Q (sym same) fits.each in
      let few = thread_within r (thread_of p) sound (subst (ThreadFits r) read (all q (omega (arith, count, within)))) in
      let turned : length (top_first p.stack) ≡ length p.stack.items = length-reverse p.stack.items in
      let depth : vec_len p.stack ≡ length p.stack.items = p.stack.ok.0 in
      let size : vec_len p.room.cells ≡ length p.room.cells.items = p.room.cells.ok.0 in
      let named : vec_len p.room.references ≡ length p.room.references.items = p.room.references.ok.0 in
      record { stack = omega (arith, few.0, turned, depth, stacks q d lt); cells = omega (arith, few.1, size, cells q d lt); references = omega (arith, few.2, named, references q d lt) });
}
