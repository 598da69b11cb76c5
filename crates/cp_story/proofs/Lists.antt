-- Numbers that pass a test, the last of them, and statuses.
use Rattle.std.proofs.Common.{◌≡◌, ◌∙◌, ◌+◌, ◌-◌, ◌++◌, ◌∷◌, [], ℕ, Bool, true, false, List, length, map, ap, sym, refl, arith}
use Rattle.std.proofs.Math.Seq.{get_or-append_seam}
use Rattle.std.proofs.lemmas.List.{append-nil, length-append}
use Rattle.std.specs.List.{filter, range_with_len}
use Rattle.std.specs.Prelude.{slice_index_or}
use Rattle.cp_machine.proofs.ListLemmas.{filter_below_more}
use Rattle.cp_machine.specs.declared.process.ProcessState.{ProcessState}
use Rattle.cp_machine.specs.Machine.{Thread, thread_of}
use Rattle.cp_story.specs.Story.{last_or}

last_added : {A : Type 0} (d : A) (xs : List A) (x : A) → last_or d (xs ++ x ∷ []) ≡ x
last_added d xs x =
    let long : length (xs ++ x ∷ []) - 1 ≡ length xs = omega (arith, length-append xs (x ∷ [])) in
    ap (λ k. slice_index_or (xs ++ x ∷ []) k d) long ∙ get_or-append_seam xs x [] d

-- one more turn of a loop that keeps the last number that passes
pub last_kept : (f : ℕ → Bool) (n : ℕ) → f n ≡ true → n ≡ last_or 0 (filter f (range_with_len 0 (n + 1)))
last_kept f n e = sym (ap (last_or 0) (filter_below_more f n true e) ∙ last_added 0 (filter f (range_with_len 0 n)) n)

pub last_same : (f : ℕ → Bool) (n : ℕ) → f n ≡ false → last_or 0 (filter f (range_with_len 0 n)) ≡ last_or 0 (filter f (range_with_len 0 (n + 1)))
last_same f n e = ap (last_or 0) (sym (filter_below_more f n false e ∙ append-nil (filter f (range_with_len 0 n))))

-- the statuses of the processes are those of the threads
pub statuses_same : (ps : List ProcessState) → map (λ (t : Thread). t.status) (map thread_of ps) ≡ map (λ (p : ProcessState). p.status) ps
statuses_same [] = refl
statuses_same (p ∷ ps) = ap (λ l. p.status ∷ l) (statuses_same ps)
