-- Bodies that are known, one after another.
use Rattle.std.proofs.Common.{◌≡◌, ◌∙◌, ◌⊎◌, inl, inr, ℕ, zero, suc, ◌+◌, ◌-◌, ◌<◌, ◌≤◌, List, [], ◌∷◌, ◌++◌, false, length, map, take, drop, ap, refl, sym, subst, arith}
use Rattle.cp_key.proofs.Words.{slice_index_or, vec_capacity, flat_map, Thread, no_thread, thread_at, thread_of, ProcessState, body_key, HaveThreadRoom}
use Rattle.std.proofs.Math.Seq.{drop-append_seam, get_or-append_seam, take-append_seam}
use Rattle.std.proofs.lemmas.Grind.{flat_map-append}
use Rattle.std.proofs.lemmas.Bool.{cases_eq, cases_lt}
use Rattle.std.proofs.lemmas.List.{append_assoc, append-nil, get_or_append_left, get_or-map, length-append, length-drop, length-map, take_more, take-append-drop}
use Rattle.cp_machine.specs.Bodies.{Body, body_of, has_moved}
use Rattle.cp_machine.specs.declared.moved.Moved.{Moved}
use Rattle.cp_machine.specs.declared.process.Status.{Status}
use Rattle.cp_store.specs.declared.memory.Room.{Room}
use Rattle.cp_key.specs.declared.bodies.Bodies.{Bodies}
use Rattle.cp_key.specs.Known.{AreBodies, AreBodiesIn, AreSameInside, IsRun, KnowUnmoved, inside, rest_at}

-- what comes later in a key leaves no more of it
pub in_order : (key bytes : List ℕ) (from to : ℕ) → from ≤ length key → to ≤ length key → drop from key ≡ bytes ++ drop to key → from ≤ to
in_order key bytes from to a b e =
    let left = length-drop from key in
    let right = length-drop to key in
    let long = length-append bytes (drop to key) in
    omega (arith, a, b, left, right, long, ap length e)

-- what is between the one and the other
pub part_is : (key bytes : List ℕ) (from to : ℕ) → from ≤ length key → to ≤ length key → drop from key ≡ bytes ++ drop to key → take (to - from) (drop from key) ≡ bytes
part_is key bytes from to a b e =
    let left = length-drop from key in
    let right = length-drop to key in
    let long = length-append bytes (drop to key) in
    let n : to - from ≡ length bytes = omega (arith, a, b, left, right, long, ap length e) in
    ap (λ k. take k (drop from key)) n ∙ ap (take (length bytes)) e ∙ take-append_seam bytes (drop to key)

-- the bodies of threads
abbrev pub bodies_key : List Thread → List ℕ
bodies_key ts = flat_map (λ t. body_key (body_of t)) ts

bodies_more : (ts : List Thread) (at : ℕ) → at < length ts → bodies_key (take (at + 1) ts) ≡ bodies_key (take at ts) ++ body_key (body_of (thread_at ts at))
bodies_more ts at lt = ap (λ us. bodies_key us) (take_more ts at no_thread lt) ∙ flat_map-append (λ t. body_key (body_of t)) (take at ts) (thread_at ts at ∷ []) ∙ ap (λ ns. bodies_key (take at ts) ++ ns) (append-nil (body_key (body_of (thread_at ts at))))

-- a run of known bodies, and that it goes on what is written before it
pub record IsRunOf (known : Bodies) (ts : List Thread) (first end : ℕ) (bytes : List ℕ) : Type 0 where
  pub run : IsRun known first end bytes
  pub written : bodies_key (take first ts) ++ bytes ≡ bodies_key (take end ts)

runs : (known : Bodies) (moved : Moved) (ts : List Thread) (first n : ℕ) → KnowUnmoved known moved ts → first + n ≤ length ts → ((q : ℕ) → first ≤ q → q < first + n → has_moved moved q ≡ false) → (bytes : List ℕ) × IsRunOf known ts first (first + n) bytes
runs known moved ts first zero h le still =
    let whole : first ≡ first + 0 = omega arith in
    let nothing : IsRunOf known ts first first [] = record { run = record { none = λ l. refl; cover = λ l. absurd (omega (arith, l)); rest = refl }; written = append-nil (bodies_key (take first ts)) } in
    ([], subst (λ k. IsRunOf known ts first k []) whole nothing)
runs known moved ts first (suc n) h le still =
    let past = runs known moved ts first n h (omega (arith, le)) (λ q a b. still q a (omega (arith, b))) in
    let at = first + n in
    let bytes = past.0 in
    let next = body_key (body_of (thread_at ts at)) in
    let lt : first + n < length ts = omega (arith, le) in
    let quiet = still at (omega arith) (omega arith) in
    let on : at + 1 ≡ first + suc n = omega arith in (
      bytes ++ next,
      record {
        run = record {
          none = λ l. absurd (omega (arith, l));
          cover = λ l. (let few = h.cover at lt quiet in omega (arith, few));
          rest = past.1.run.rest ∙ ap (λ ns. bytes ++ ns) (h.bodies at lt quiet) ∙ sym (append_assoc bytes next (rest_at known (at + 1))) ∙ ap (λ k. (bytes ++ next) ++ rest_at known k) on;
        };
        written = sym (append_assoc (bodies_key (take first ts)) bytes next) ∙ ap (λ ns. ns ++ next) past.1.written ∙ sym (bodies_more ts at lt) ∙ ap (λ k. bodies_key (take k ts)) on;
      },
    )

pub run_of : (known : Bodies) (moved : Moved) (ts : List Thread) (first end : ℕ) → KnowUnmoved known moved ts → first ≤ end → end ≤ length ts → ((q : ℕ) → first ≤ q → q < end → has_moved moved q ≡ false) → (bytes : List ℕ) × IsRunOf known ts first end bytes
run_of known moved ts first end h order le still =
    let whole : first + (end - first) ≡ end = omega (arith, order) in
    let got = runs known moved ts first (end - first) h (omega (arith, whole, le)) (λ q a b. still q a (omega (arith, whole, b))) in
    (got.0, subst (λ k. IsRunOf known ts first k got.0) whole got.1)

-- the key after a run, and after one body more
pub after_run : (ts : List Thread) (known : Bodies) (first end : ℕ) (start old new bytes : List ℕ) → IsRunOf known ts first end bytes → old ≡ start ++ bodies_key (take first ts) → new ≡ old ++ bytes → new ≡ start ++ bodies_key (take end ts)
after_run ts known first end start old new bytes h e f = f ∙ ap (λ ns. ns ++ bytes) e ∙ append_assoc start (bodies_key (take first ts)) bytes ∙ ap (λ ns. start ++ ns) h.written

pub after_body : (ps : List ProcessState) (at : ℕ) (p : ProcessState) (start old new : List ℕ) → at < length ps → p ≡ slice_index_or ps at p → old ≡ start ++ bodies_key (take at (map thread_of ps)) → new ≡ old ++ body_key (inside p) → new ≡ start ++ bodies_key (take (at + 1) (map thread_of ps))
after_body ps at p start old new lt read e f =
    let ts = map thread_of ps in
    let long = length-map ps thread_of in
    let here : thread_at ts at ≡ thread_of p = get_or-map thread_of ps at p no_thread lt ∙ ap thread_of (sym read) in
    f ∙ ap (λ ns. ns ++ body_key (inside p)) e
    ∙ append_assoc start (bodies_key (take at ts)) (body_key (inside p))
    ∙ ap (λ t. start ++ (bodies_key (take at ts) ++ body_key (body_of t))) (sym here)
    ∙ ap (λ ns. start ++ ns) (sym (bodies_more ts at (omega (arith, long, lt))))

-- processes that are the same inside have the same body
pub inside_same : (p q : ProcessState) → AreSameInside p q → inside p ≡ inside q
inside_same p q h = rw (h.frame, h.stack, h.room) refl

-- one process more that did not move
pub still_more : (moved : Moved) (first pid : ℕ) → has_moved moved pid ≡ false → ((q : ℕ) → first ≤ q → q < pid → has_moved moved q ≡ false) → (q : ℕ) → first ≤ q → q < pid + 1 → has_moved moved q ≡ false
still_more moved first pid here before q a b = go (cases_eq q pid)
  where
    go : (q ≡ pid) ⊎ (q ≡ pid → ⊥) → has_moved moved q ≡ false
    go (inl e) = ap (has_moved moved) e ∙ here
    go (inr ne) = before q a (omega arith)

-- a process that is there has a body
pub some_bytes : (ps : List ProcessState) (at : ℕ) (rest more : List ℕ) → at < length ps → ((d : ProcessState) → rest ≡ body_key (inside (slice_index_or ps at d)) ++ more) → (bytes : List ℕ) × (rest ≡ bytes ++ more)
some_bytes [] at rest more lt h = absurd (omega arith)
some_bytes (p ∷ ps) at rest more lt h = (body_key (inside (slice_index_or (p ∷ ps) at p)), h p)

-- what is found among the known bodies is the body
pub found : (n at : ℕ) (bytes body : List ℕ) → (at < n → bytes ≡ body) → (n ≤ at → bytes ≡ []) → 0 < length bytes → bytes ≡ body
found n at bytes body some none lt = go (cases_lt at n)
  where
    go : (at < n) ⊎ (n ≤ at) → bytes ≡ body
    go (inl few) = some few
    go (inr le) = absurd (omega (arith, lt, ap length (none le)))

-- what is left of a key from a body on
end_of : (front rest : List ℕ) → drop (length (front ++ rest) - length rest) (front ++ rest) ≡ rest
end_of front rest =
    let long = length-append front rest in
    let n : length (front ++ rest) - length rest ≡ length front = omega (arith, long) in
    ap (λ k. drop k (front ++ rest)) n ∙ drop-append_seam front rest

pub rest_more : (old new : Bodies) (ts : List Thread) (more rest : List ℕ) (at : ℕ) → new.key.now ≡ old.key.now → new.rests.items ≡ old.rests.items ++ length rest ∷ [] → length old.rests.items ≡ at → old.key.now ≡ bodies_key ts ++ more → rest ≡ bodies_key (drop at ts) ++ more → ((q : ℕ) → q < at → rest_at old q ≡ bodies_key (drop q ts) ++ more) → (q : ℕ) → q ≤ at → rest_at new q ≡ bodies_key (drop q ts) ++ more
rest_more old new ts more rest at same added long whole left before q le = go (cases_lt q at)
  where
    xs : List ℕ
    xs = old.rests.items

    key : List ℕ
    key = old.key.now

    all : key ≡ bodies_key (take at ts) ++ rest
    all = whole ∙ ap (λ us. bodies_key us ++ more) (sym (take-append-drop at ts)) ∙ ap (λ ns. ns ++ more) (flat_map-append (λ t. body_key (body_of t)) (take at ts) (drop at ts)) ∙ append_assoc (bodies_key (take at ts)) (bodies_key (drop at ts)) more ∙ ap (λ ns. bodies_key (take at ts) ++ ns) (sym left)

    by : rest_at new q ≡ drop (length key - slice_index_or (xs ++ length rest ∷ []) q 0) key
    by = ap (λ (ns : List ℕ). drop (length ns - slice_index_or new.rests.items q 0) ns) same ∙ ap (λ (ns : List ℕ). drop (length key - slice_index_or ns q 0) key) added

    go : (q < at) ⊎ (at ≤ q) → rest_at new q ≡ bodies_key (drop q ts) ++ more
    go (inl lt) = by ∙ ap (λ n. drop (length key - n) key) (get_or_append_left xs (length rest ∷ []) 0 q (omega (arith, lt, long))) ∙ before q lt
    go (inr ge) =
        let here : q ≡ at = omega (arith, le, ge) in
        let last : q ≡ length xs = omega (arith, here, long) in
        by
        ∙ ap (λ n. drop (length key - n) key) (ap (λ k. slice_index_or (xs ++ length rest ∷ []) k 0) last ∙ get_or-append_seam xs (length rest) [] 0)
        ∙ ap (λ (ns : List ℕ). drop (length ns - length rest) ns) all
        ∙ end_of (bodies_key (take at ts)) rest
        ∙ left
        ∙ ap (λ k. bodies_key (drop k ts) ++ more) (sym here)

-- a process by its status and its body
thread_by : Status → Body → Thread
thread_by s b = record { status = s; frame = b.frame; stack = b.stack; cells = b.cells; references = b.references }

pub thread_is : (p : ProcessState) (t : Thread) → p.status ≡ t.status → inside p ≡ body_of t → thread_of p ≡ t
unfolding thread_by
thread_is p t s b = ap (λ x. thread_by x (inside p)) s ∙ ap (λ x. thread_by t.status x) b

-- the processes with room for threads, where they differ in their statuses at most
pub room_same : (ps qs : List ProcessState) (ts : List Thread) → length ps ≡ length qs → ((q : ℕ) (d : ProcessState) → AreSameInside (slice_index_or ps q d) (slice_index_or qs q d)) → HaveThreadRoom qs ts → HaveThreadRoom ps ts
room_same ps qs ts long same h =
    record {
      count = h.count ∙ sym long;
      each = λ q d lt.
          (let s = same q d in
          let r = h.each q d (omega (arith, lt, long)) in
          record { stack = subst (λ v. length (thread_at ts q).stack ≤ vec_capacity v) (sym s.stack) r.stack; cells = subst (λ (v : Room). length (thread_at ts q).cells ≤ vec_capacity v.cells) (sym s.room) r.cells; references = subst (λ (v : Room). length (thread_at ts q).references ≤ vec_capacity v.references) (sym s.room) r.references });
    }

-- the bodies of a machine are those of its processes
pub bodies_in : (known : Bodies) (ps : List ProcessState) → AreBodies known (map thread_of ps) → AreBodiesIn known ps
bodies_in known ps h = λ pid d lt few. h pid few ∙ ap (λ t. body_key (body_of t) ++ rest_at known (pid + 1)) (get_or-map thread_of ps pid d no_thread lt)

-- processes with the same bodies are threads with the same bodies
pub bodies_alike : (ps qs : List ProcessState) (pid : ℕ) → length ps ≡ length qs → ((d : ProcessState) → inside (slice_index_or ps pid d) ≡ inside (slice_index_or qs pid d)) → body_of (thread_at (map thread_of ps) pid) ≡ body_of (thread_at (map thread_of qs) pid)
bodies_alike [] [] pid e h = refl
bodies_alike [] (q ∷ qs) pid e h = absurd (omega arith)
bodies_alike (p ∷ ps) [] pid e h = absurd (omega arith)
bodies_alike (p ∷ ps) (q ∷ qs) zero e h = h p
bodies_alike (p ∷ ps) (q ∷ qs) (suc pid) e h = bodies_alike ps qs pid (omega arith) h
