-- A run of bytes at the front of a text.
use Rattle.std.proofs.Common.{◌≡◌, ℕ, ◌<◌, Bool, true, List, [], ◌∷◌, length, take, arith, get_or}
use Rattle.std.specs.Prelude.{slice_index}
use Rattle.std.specs.List.{prefix_len, All}
use Rattle.std.proofs.lemmas.Grind.{common_steps}
use Rattle.std.proofs.lemmas.List.{get_or-take}
use Rattle.std.proofs.lemmas.List.Folds.{length-prefix_len}
use Rattle.std.proofs.lemmas.List.Sums.{prefix_len_passes}
use Rattle.cp_text.specs.Pieces.{is_in}
use Rattle.cp_text.specs.declared.piece.Class.TheVariants.{Word}

pub run_begins : (p : ℕ → Bool) (text : List ℕ) → 0 < length text → p (slice_index text 0) ≡ true → 0 < prefix_len p text
run_begins p [] some e = absurd (omega arith)
run_begins p (b ∷ text) some e = rw e (omega arith)

word_ascii : (b : ℕ) → is_in Word b ≡ true → b < 128
word_ascii b e = grind (arith, common_steps)

pub run_ascii : (text : List ℕ) → All (λ b. b < 128) (take (prefix_len (is_in Word) text) text)
run_ascii text = λ k d h.
    let n = prefix_len (is_in Word) text in
    let below : k < n = omega (arith, length-prefix_len (is_in Word) text) in
    rw (get_or-take n text k d below) (word_ascii (get_or text k d) (prefix_len_passes (is_in Word) text k d below))
