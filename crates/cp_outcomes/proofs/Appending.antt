-- Texts to which one piece after another is appended.
use Rattle.std.proofs.Common.{◌≡◌, ◌∙◌, ℕ, List, ◌++◌, cond, Result, Ok, Err, IfOk, ap}
use Rattle.std.specs.Prelude.{is_ok}
use Rattle.std.proofs.lemmas.List.{append_assoc}
use Rattle.std.proofs.lemmas.Result.{IfOk-weaker}

-- the last piece
pub last_piece : {T E : Type 0} (r : Result T E) (old more new : List ℕ) → new ≡ cond (is_ok r) (old ++ more) old → IfOk r (λ _. new ≡ old ++ more)
last_piece (Ok x) old more new e = e
last_piece (Err y) old more new e = tt

pub three_pieces : {T E : Type 0} (r : Result T E) (a b c old one two new : List ℕ) → one ≡ old ++ a → two ≡ one ++ b → IfOk r (λ _. new ≡ two ++ c) → IfOk r (λ _. new ≡ old ++ ((a ++ b) ++ c))
three_pieces r a b c old one two new d e = IfOk-weaker r (λ _. new ≡ two ++ c) (λ _. new ≡ old ++ ((a ++ b) ++ c)) (λ _ h. h ∙ ap (λ l. l ++ c) (e ∙ ap (λ l. l ++ b) d ∙ append_assoc old a b) ∙ append_assoc old (a ++ b) c)

pub four_pieces : {T E : Type 0} (r : Result T E) (a b c d old one two three new : List ℕ) → one ≡ old ++ a → two ≡ one ++ b → three ≡ two ++ c → IfOk r (λ _. new ≡ three ++ d) → IfOk r (λ _. new ≡ old ++ (((a ++ b) ++ c) ++ d))
four_pieces r a b c d old one two three new e f g =
    three_pieces r (a ++ b) c d old two three new (f ∙ ap (λ l. l ++ b) e ∙ append_assoc old a b) g

-- those of an outcome
pub outcome_pieces : {T E : Type 0} (r : Result T E) (a b c d e f g h old one two three four five six seven new : List ℕ) → one ≡ old ++ a → two ≡ one ++ b → three ≡ two ++ c → four ≡ three ++ d → five ≡ four ++ e → six ≡ five ++ f → seven ≡ six ++ g → IfOk r (λ _. new ≡ seven ++ h) → IfOk r (λ _. new ≡ old ++ ((((a ++ b) ++ c) ++ ((d ++ (e ++ f)) ++ g)) ++ h))
outcome_pieces r a b c d e f g h old one two three four five six seven new p1 p2 p3 p4 p5 p6 p7 =
    let before : seven ≡ ((((((old ++ a) ++ b) ++ c) ++ d) ++ e) ++ f) ++ g = p7 ∙ ap (λ l. l ++ g) (p6 ∙ ap (λ l. l ++ f) (p5 ∙ ap (λ l. l ++ e) (p4 ∙ ap (λ l. l ++ d) (p3 ∙ ap (λ l. l ++ c) (p2 ∙ ap (λ l. l ++ b) p1))))) in
    let regrouped : (((((((old ++ a) ++ b) ++ c) ++ d) ++ e) ++ f) ++ g) ++ h ≡ old ++ ((((a ++ b) ++ c) ++ ((d ++ (e ++ f)) ++ g)) ++ h) = simp append_assoc in
    IfOk-weaker r (λ _. new ≡ seven ++ h) (λ _. new ≡ old ++ ((((a ++ b) ++ c) ++ ((d ++ (e ++ f)) ++ g)) ++ h)) (λ _ p. p ∙ ap (λ l. l ++ h) before ∙ regrouped)
