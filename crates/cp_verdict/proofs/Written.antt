-- The text of limits, piece by piece.
use Rattle.std.proofs.Common.{◌≡◌, ◌∙◌, ℕ, List, [], ◌++◌, Bool, true, false, ◌||◌, codes, if◌then◌else◌, refl, ap}
use Rattle.std.proofs.lemmas.List.{append_assoc, append-nil}
use Rattle.cp_verdict.specs.Written.{named_if, comma_text}

-- a limit's name, behind a comma where one was named before
abbrev pub behind_comma : (begun is_met : Bool) → List ℕ → List ℕ
behind_comma begun is_met name = if is_met then (if begun then codes ", " ++ name else name) else []

three_limits : (a b c : Bool) (x y z : List ℕ) → (behind_comma false a x ++ behind_comma a b y) ++ behind_comma (a || b) c z ≡ comma_text (named_if a x ++ named_if b y ++ named_if c z)
three_limits true true true x y z = simp (append_assoc, append-nil)
three_limits true true false x y z = simp (append_assoc, append-nil)
three_limits true false true x y z = simp (append_assoc, append-nil)
three_limits true false false x y z = simp append-nil
three_limits false true true x y z = simp (append_assoc, append-nil)
three_limits false true false x y z = simp (append_assoc, append-nil)
three_limits false false true x y z = simp append-nil
three_limits false false false x y z = refl

pub limits_joined : (a b c d e : Bool) (x y z old one two new : List ℕ) → d ≡ (false || a) → e ≡ (d || b) → one ≡ old ++ behind_comma false a x → two ≡ one ++ behind_comma d b y → new ≡ two ++ behind_comma e c z → new ≡ old ++ comma_text (named_if a x ++ named_if b y ++ named_if c z)
limits_joined a b c d e x y z old one two new is_d is_e h1 h2 h3 =
    h3 ∙ ap (λ f. two ++ behind_comma f c z) (is_e ∙ ap (λ f. f || b) is_d) ∙ ap (λ l. l ++ behind_comma (a || b) c z) (h2 ∙ ap (λ f. one ++ behind_comma f b y) is_d ∙ ap (λ l. l ++ behind_comma a b y) h1) ∙ regroup ∙ ap (λ l. old ++ l) (three_limits a b c x y z)
  where
    regroup : ((old ++ behind_comma false a x) ++ behind_comma a b y) ++ behind_comma (a || b) c z ≡ old ++ ((behind_comma false a x ++ behind_comma a b y) ++ behind_comma (a || b) c z)
    regroup = simp append_assoc
