-- A text that takes one piece after another takes the pieces together.
use Rattle.std.proofs.Common.{◌≡◌, ◌∙◌, ◌⊎◌, ℕ, ◌+◌, ◌-◌, List, [], ◌++◌, arith, length, replicate, Option, Some, None, ap, sym, subst, inl, inr, refl, append_assoc}
use Rattle.std.proofs.lemmas.List.{append-nil, length-append, replicate_more}
use Rattle.std.proofs.lemmas.Str.{encode_ascii}
use Rattle.std.specs.Prelude.{IfSome, encode_utf8}
use Rattle.cp_prose.specs.Telling.{UnlessRefused, appended}
use Rattle.cp_refusal.specs.Text.{Takes}

-- what is taken after memory was refused is nothing
refused_then : (c : Option (List ℕ)) (y : List ℕ) (b : Option (List ℕ)) → b ≡ None → UnlessRefused c (appended b y) → c ≡ None
refused_then c y b e h = elim (subst (λ (o : Option (List ℕ)). UnlessRefused c (appended o y)) e h) [ inl f ↦ f | inr f ↦ f ]

pub two_pieces : (a b c : Option (List ℕ)) (x y : List ℕ) → UnlessRefused b (appended a x) → UnlessRefused c (appended b y) → UnlessRefused c (appended a (x ++ y))
two_pieces None b c x y h k = elim h [ inl e ↦ inl (refused_then c y b e k) | inr e ↦ inl (refused_then c y b e k) ]
two_pieces (Some s) b c x y h k = elim h [
  | inl e ↦ inl (refused_then c y b e k)
  | inr e ↦ subst (λ (l : List ℕ). UnlessRefused c (Some l)) (append_assoc s x y) (subst (λ (o : Option (List ℕ)). UnlessRefused c (appended o y)) e k)
]

-- a text that has taken nothing
pub nothing_taken : (a : Option (List ℕ)) → UnlessRefused a (appended a [])
nothing_taken None = inl refl
nothing_taken (Some s) = inr (ap Some (sym (append-nil s)))

-- ---- blanks

pub one_more_blank : (n : ℕ) (piece : List ℕ) → piece ≡ replicate n 32 → piece ++ encode_utf8 32 ≡ replicate (n + 1) 32
one_more_blank n piece is = ap (λ (l : List ℕ). l ++ encode_utf8 32) is ∙ ap (λ (l : List ℕ). replicate n 32 ++ l) (encode_ascii 32 (omega arith)) ∙ replicate_more n 32

-- as many blanks as there are digits, which were counted by what the text held before them and after them
width_is : (a b : Option (List ℕ)) (digits : List ℕ) (before after width : ℕ) → IfSome a (λ bytes. before ≡ length bytes) → IfSome b (λ bytes. after ≡ length bytes) → UnlessRefused b (appended a digits) → width ≡ after - before → (b ≡ None) ⊎ (width ≡ length digits)
width_is a None digits before after width ha hb h is = inl refl
width_is None (Some t) digits before after width ha hb h is = elim h [ inl e ↦ absurd (cc e) | inr e ↦ absurd (cc e) ]
width_is (Some s) (Some t) digits before after width ha hb h is = elim h [
  | inl e ↦ absurd (cc e)
  | inr e ↦ let same : t ≡ s ++ digits = cc e in let long : length t ≡ length s + length digits = ap length same ∙ length-append s digits in inr (omega arith)
]

pub blanks_hold : (a b d e : Option (List ℕ)) (digits line : List ℕ) (before after width : ℕ) → IfSome a (λ bytes. before ≡ length bytes) → IfSome b (λ bytes. after ≡ length bytes) → UnlessRefused b (appended a digits) → width ≡ after - before → UnlessRefused d (appended b line) → Takes d e (λ piece. piece ≡ replicate width 32) → UnlessRefused e (appended d (replicate (length digits) 32))
blanks_hold a b d e digits line before after width ha hb h is hd blanks = let he : UnlessRefused e (appended d (replicate width 32)) = subst (λ (l : List ℕ). UnlessRefused e (appended d l)) blanks.is blanks.holds in elim (width_is a b digits before after width ha hb h is) [
  | inl none ↦ inl (refused_then e (replicate width 32) d (refused_then d line b none hd) he)
  | inr same ↦ subst (λ n. UnlessRefused e (appended d (replicate n 32))) same he
]

-- ---- pieces in a row

pub six_pieces : (a b c d e f g : Option (List ℕ)) (u v w x y z : List ℕ) → UnlessRefused b (appended a u) → UnlessRefused c (appended b v) → UnlessRefused d (appended c w) → UnlessRefused e (appended d x) → UnlessRefused f (appended e y) → UnlessRefused g (appended f z) → UnlessRefused g (appended a (u ++ (v ++ (w ++ (x ++ (y ++ z))))))
six_pieces a b c d e f g u v w x y z hu hv hw hx hy hz =
    two_pieces a b g u (v ++ (w ++ (x ++ (y ++ z)))) hu (two_pieces b c g v (w ++ (x ++ (y ++ z))) hv (two_pieces c d g w (x ++ (y ++ z)) hw (two_pieces d e g x (y ++ z) hx (two_pieces e f g y z hy hz))))

-- ---- a whole text

-- what an empty text has taken is what it holds, unless memory was refused
pub held : (p : Option (List ℕ)) (t : List ℕ) (Is : List ℕ → Type 0) → Takes (Some []) p Is → p ≡ Some t → Is t
held p t Is h e = elim h.holds [
  | inl none ↦ absurd (cc (sym none ∙ e))
  | inr some ↦ let same : h.piece ≡ t = cc (sym some ∙ e) in subst Is same h.is
]
