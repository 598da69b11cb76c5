-- The last line, written limit by limit.
use Rattle.std.proofs.Common.{◌≡◌, ◌∙◌, ℕ, Bool, true, false, not, ◌||◌, cond, List, [], ◌∷◌, ◌++◌, codes, ◌==◌, ap, sym, refl}
use Rattle.std.proofs.lemmas.List.{append_assoc, append-nil}
use Rattle.cp_run.specs.Table.{each}
use Rattle.cp_outcomes.specs.Text.{closing_text}
use Rattle.cp_outcomes.specs.declared.stopped.Limit.{Limit}
use Rattle.cp_outcomes.specs.declared.stopped.Limit.TheVariants.{Choices, Steps, Output}

-- the limits at which some ended, where none did at those with `true`
abbrev pub stopping : (a b c : Bool) → List Limit
stopping a b c = cond (not a) (Choices ∷ cond (not b) (Steps ∷ cond (not c) (Output ∷ []) []) (cond (not c) (Output ∷ []) [])) (cond (not b) (Steps ∷ cond (not c) (Output ∷ []) []) (cond (not c) (Output ∷ []) []))

-- the line of any four words
module _ (comma first close whole : List ℕ) (stop : Limit → List ℕ) where
  abbrev pub line : List Limit → List ℕ
  line [] = whole
  line (l ∷ ls) = first ++ stop l ++ each (λ m. comma ++ stop m) ls ++ close

  -- what is written of a limit at which none ended, or some
  abbrev pub piece : (begun none : Bool) → Limit → List ℕ
  piece begun none l = cond none [] (cond begun comma first ++ stop l)

  abbrev pub last : Bool → List ℕ
  last begun = cond begun close whole

  all_pieces : (a b c : Bool) (old : List ℕ) → (((old ++ piece false a Choices) ++ piece (not a) b Steps) ++ piece (not a || not b) c Output) ++ last ((not a || not b) || not c) ≡ old ++ line (stopping a b c)
  all_pieces true true true old = simp (append_assoc, append-nil)
  all_pieces true true false old = simp (append_assoc, append-nil)
  all_pieces true false true old = simp (append_assoc, append-nil)
  all_pieces true false false old = simp (append_assoc, append-nil)
  all_pieces false true true old = simp (append_assoc, append-nil)
  all_pieces false true false old = simp (append_assoc, append-nil)
  all_pieces false false true old = simp (append_assoc, append-nil)
  all_pieces false false false old = simp (append_assoc, append-nil)

  pub line_closed : (a b c one two three : Bool) (old s t u new : List ℕ) → one ≡ not a → two ≡ (one || not b) → three ≡ (two || not c) → s ≡ old ++ piece false a Choices → t ≡ s ++ piece one b Steps → u ≡ t ++ piece two c Output → new ≡ u ++ last three → new ≡ old ++ line (stopping a b c)
  line_closed a b c one two three old s t u new f g h d e k n =
      let second_is = g ∙ ap (λ v. v || not b) f in
      let third_is = h ∙ ap (λ v. v || not c) second_is in
      n ∙ ap (λ v. u ++ last v) third_is ∙ ap (λ l. l ++ last ((not a || not b) || not c)) (k ∙ ap (λ v. t ++ piece v c Output) second_is ∙ ap (λ l. l ++ piece (not a || not b) c Output) (e ∙ ap (λ v. s ++ piece v b Steps) f ∙ ap (λ l. l ++ piece (not a) b Steps) d)) ∙ all_pieces a b c old

same_line : (stop : Limit → List ℕ) (ls : List Limit) → line (codes ", ") (codes "\nnot complete: ") (codes "\n") (codes "\ncomplete: the same for every greater number of choices and of steps\n") stop ls ≡ closing_text stop ls
same_line stop [] = refl
same_line stop (l ∷ ls) = refl

-- what is written of a limit, and at the end
abbrev pub written : (begun none : Bool) → List ℕ → List ℕ
written begun none stop = cond none [] (cond begun (codes ", ") (codes "\nnot complete: ") ++ stop)

abbrev pub closing : Bool → List ℕ
closing begun = cond begun (codes "\n") (codes "\ncomplete: the same for every greater number of choices and of steps\n")

pub closed : (a b c one two three : Bool) (stop : Limit → List ℕ) (old s t u new : List ℕ) → one ≡ not a → two ≡ (one || not b) → three ≡ (two || not c) → s ≡ old ++ written false a (stop Choices) → t ≡ s ++ written one b (stop Steps) → u ≡ t ++ written two c (stop Output) → new ≡ u ++ closing three → new ≡ old ++ closing_text stop (stopping a b c)
closed a b c one two three stop old s t u new f g h d e k n =
    line_closed (codes ", ") (codes "\nnot complete: ") (codes "\n") (codes "\ncomplete: the same for every greater number of choices and of steps\n") stop a b c one two three old s t u new f g h d e k n ∙ ap (λ l. old ++ l) (same_line stop (stopping a b c))

-- what is written of a limit at which some ended
pub stop_written : (begun : Bool) (n m : ℕ) (stop : ℕ → List ℕ) (old one new : List ℕ) → m ≡ n → (m == 0) ≡ false → one ≡ old ++ cond begun (codes ", ") (codes "\nnot complete: ") → new ≡ one ++ stop m → new ≡ old ++ written begun (n == 0) (stop n)
stop_written begun n m stop old one new same some e f =
    f ∙ ap (λ l. l ++ stop m) e ∙ append_assoc old (cond begun (codes ", ") (codes "\nnot complete: ")) (stop m) ∙ ap (λ k. old ++ (cond begun (codes ", ") (codes "\nnot complete: ") ++ stop k)) same ∙ ap (λ b. old ++ written begun b (stop n)) (sym (ap (λ k. k == 0) (sym same) ∙ some))
