-- One piece more.
use Rattle.std.proofs.Common.{◌≡◌, ◌∙◌, ◌+◌, ◌-◌, ◌<◌, ◌≤◌, ◌++◌, ◌∷◌, [], ◌⊎◌, inl, inr, ℕ, List, drop, length, take, ap, arith, subst, sym}
use Rattle.std.proofs.Math.Seq.{drop-append_seam, get_or-append_seam}
use Rattle.std.proofs.lemmas.Bool.{cases_eq}
use Rattle.std.proofs.lemmas.List.{drop-append-le, get_or_append_left, length-append, length-drop, take-append-le, take_all}
use Rattle.cp_states.specs.Hashing.{hash_of}
use Rattle.cp_states.specs.Pieces.{AreDifferent, AreHashed, AreInside, begin_of, end_of, KeepPieces, piece_at}
use Rattle.std.specs.Prelude.{slice_index_or}

-- pieces begin where they began
began : (ends : List ℕ) (end n : ℕ) → n ≤ length ends → begin_of (ends ++ end ∷ []) n ≡ begin_of ends n
began ends end n le = get_or_append_left (0 ∷ ends) (end ∷ []) 0 n (omega (arith, le))

ended : (ends : List ℕ) (end n : ℕ) → n < length ends → end_of (ends ++ end ∷ []) n ≡ end_of ends n
ended ends end n lt = get_or_append_left ends (end ∷ []) 0 n lt

-- a piece of the items is one of more items
within : {A : Type 0} (items list : List A) (from to : ℕ) → from ≤ to → to ≤ length items → take (to - from) (drop from (items ++ list)) ≡ take (to - from) (drop from items)
within items list from to rising inside =
    ap (take (to - from)) (drop-append-le from items list (omega (arith, rising, inside)))
    ∙ take-append-le (to - from) (drop from items) list (omega (arith, rising, inside, length-drop from items))

pub old_piece : {A : Type 0} (items list : List A) (ends : List ℕ) (end n : ℕ) → AreInside ends (length items) → n < length ends → piece_at (items ++ list) (ends ++ end ∷ []) n ≡ piece_at items ends n
old_piece items list ends end n inside lt =
    ap (λ b. take (end_of (ends ++ end ∷ []) n - b) (drop b (items ++ list))) (began ends end n (omega (arith, lt)))
    ∙ ap (λ e. take (e - begin_of ends n) (drop (begin_of ends n) (items ++ list))) (ended ends end n lt)
    ∙ within items list (begin_of ends n) (end_of ends n) (inside.rising n lt) (inside.within n lt)

pub new_piece : {A : Type 0} (items list : List A) (ends : List ℕ) (end : ℕ) → end ≡ length items + length list → AreInside ends (length items) → piece_at (items ++ list) (ends ++ end ∷ []) (length ends) ≡ list
new_piece items list ends end is inside =
    ap (λ b. take (end_of (ends ++ end ∷ []) (length ends) - b) (drop b (items ++ list))) (began ends end (length ends) (omega arith) ∙ inside.all)
    ∙ ap (take (end_of (ends ++ end ∷ []) (length ends) - length items)) (drop-append_seam items list)
    ∙ take_all (end_of (ends ++ end ∷ []) (length ends) - length items) list (omega (arith, is, get_or-append_seam ends end [] 0))

pub still_inside : (ends : List ℕ) (count end : ℕ) → count ≤ end → AreInside ends count → AreInside (ends ++ end ∷ []) end
still_inside ends count end le inside =
    record {
      rising = λ n lt. rising n (omega (arith, lt, length-append ends (end ∷ []))) (cases_eq n (length ends));
      within = λ n lt. within n (omega (arith, lt, length-append ends (end ∷ []))) (cases_eq n (length ends));
      all = subst (λ k. begin_of (ends ++ end ∷ []) k ≡ end) longer (get_or-append_seam (0 ∷ ends) end [] 0);
    }
  where
    longer : length (0 ∷ ends) ≡ length (ends ++ end ∷ [])
    longer = omega (arith, length-append ends (end ∷ []))

    rising : (n : ℕ) → n < length ends + 1 → (n ≡ length ends) ⊎ (n ≡ length ends → ⊥) → begin_of (ends ++ end ∷ []) n ≤ end_of (ends ++ end ∷ []) n
    rising n lt (inl e) = subst (λ k. begin_of (ends ++ end ∷ []) k ≤ end_of (ends ++ end ∷ []) k) (sym e) (omega (arith, began ends end (length ends) (omega arith), inside.all, get_or-append_seam ends end [] 0, le))
    rising n lt (inr not) = let below : n < length ends = omega (arith, lt, not) in omega (arith, began ends end n (omega (arith, below)), ended ends end n below, inside.rising n below)

    within : (n : ℕ) → n < length ends + 1 → (n ≡ length ends) ⊎ (n ≡ length ends → ⊥) → end_of (ends ++ end ∷ []) n ≤ end
    within n lt (inl e) = subst (λ k. end_of (ends ++ end ∷ []) k ≤ end) (sym e) (omega (arith, get_or-append_seam ends end [] 0))
    within n lt (inr not) = let below : n < length ends = omega (arith, lt, not) in omega (arith, ended ends end n below, inside.within n below, le)

-- a piece that is new, with its hash
pub still_hashed : {A : Type 0} (code : A → ℕ) (items list : List A) (ends hashes : List ℕ) (end hash : ℕ) → end ≡ length items + length list → hash ≡ hash_of code list → AreInside ends (length items) → AreHashed code items ends hashes → AreHashed code (items ++ list) (ends ++ end ∷ []) (hashes ++ hash ∷ [])
still_hashed code items list ends hashes end hash is e inside hashed =
    record {
      count = omega (arith, hashed.count, length-append ends (end ∷ []), length-append hashes (hash ∷ []));
      each = λ n lt. each n (omega (arith, lt, length-append ends (end ∷ []))) (cases_eq n (length ends));
    }
  where
    each : (n : ℕ) → n < length ends + 1 → (n ≡ length ends) ⊎ (n ≡ length ends → ⊥) → slice_index_or (hashes ++ hash ∷ []) n 0 ≡ hash_of code (piece_at (items ++ list) (ends ++ end ∷ []) n)
    each n lt (inl same) = ap (λ k. slice_index_or (hashes ++ hash ∷ []) k 0) (same ∙ sym hashed.count) ∙ get_or-append_seam hashes hash [] 0 ∙ e ∙ ap (hash_of code) (sym (new_piece items list ends end is inside)) ∙ ap (λ k. hash_of code (piece_at (items ++ list) (ends ++ end ∷ []) k)) (sym same)
    each n lt (inr not) = let below : n < length ends = omega (arith, lt, not) in get_or_append_left hashes (hash ∷ []) 0 n (omega (arith, below, hashed.count)) ∙ hashed.each n below ∙ ap (hash_of code) (sym (old_piece items list ends end n inside below))

pub still_different : {A : Type 0} (items list : List A) (ends : List ℕ) (end : ℕ) → end ≡ length items + length list → ((n : ℕ) → n < length ends → piece_at items ends n ≡ list → ⊥) → AreInside ends (length items) → AreDifferent items ends → AreDifferent (items ++ list) (ends ++ end ∷ [])
still_different items list ends end is new inside different m n mlt nlt e = go (cases_eq m (length ends)) (cases_eq n (length ends))
  where
    old : (k : ℕ) → k < length (ends ++ end ∷ []) → (k ≡ length ends → ⊥) → k < length ends
    old k lt not = omega (arith, lt, not, length-append ends (end ∷ []))

    at : (k : ℕ) → k ≡ length ends → piece_at (items ++ list) (ends ++ end ∷ []) k ≡ list
    at k same = ap (piece_at (items ++ list) (ends ++ end ∷ [])) same ∙ new_piece items list ends end is inside

    go : (m ≡ length ends) ⊎ (m ≡ length ends → ⊥) → (n ≡ length ends) ⊎ (n ≡ length ends → ⊥) → m ≡ n
    go (inl a) (inl b) = a ∙ sym b
    go (inl a) (inr b) = absurd (new n (old n nlt b) (sym (old_piece items list ends end n inside (old n nlt b)) ∙ sym e ∙ at m a))
    go (inr a) (inl b) = absurd (new m (old m mlt a) (sym (old_piece items list ends end m inside (old m mlt a)) ∙ e ∙ at n b))
    go (inr a) (inr b) = different m n (old m mlt a) (old n nlt b) (sym (old_piece items list ends end m inside (old m mlt a)) ∙ e ∙ old_piece items list ends end n inside (old n nlt b))

pub pieces_kept : {A : Type 0} (items list : List A) (ends : List ℕ) (end : ℕ) → AreInside ends (length items) → KeepPieces items ends (items ++ list) (ends ++ end ∷ [])
pieces_kept items list ends end inside =
    record {
      more = omega (arith, length-append ends (end ∷ []));
      same = λ n lt. old_piece items list ends end n inside lt;
    }
