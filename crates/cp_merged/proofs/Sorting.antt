-- The outcomes that the layers find, in the order of their first words, are the tallies of the table.
use Rattle.std.proofs.Common.{◌≡◌, ◌∙◌, ◌⊎◌, inl, inr, ◌+◌, ℕ, suc, Bool, true, false, not, List, [], ◌∷◌, map, None, Some, refl, sym, ap, subst, arith, get_or}
use Rattle.std.specs.List.{IsDistinct, AllByRecursion as Each}
use Rattle.std.specs.List.Sorted.{IsPermutation, IsSortedBy}
use Rattle.cp_merged.proofs.Words.{nat_cmp, is_lt, slice_cmp, System, table, Outcome, Tally, same_outcome, IsSameness, tally, up_to, IsSound, by_layers, rows_in}
use Rattle.std.specs.Borrow.{Bor}
use Rattle.std.specs.Fn.{Called, ComparesAs}
use Rattle.std.specs.Cmp.{IsStrictWeakOrder}
use Rattle.std.specs.Cmp.Lexicographic.{nat_list_cmp_total}
use Rattle.std.specs.declared.cmp.Ordering.{Ordering}
use Rattle.std.proofs.lemmas.Fn.{always_returns_same}
use Rattle.std.proofs.lemmas.List.Sorted.{ranks_by}
use denote.Param.Members.{Mut}
use Rattle.std.proofs.lemmas.List.Elements.{All-from_recursion, recursion_from_All}
use Rattle.std.proofs.lemmas.List.Sorted.{All-permutation, Contains-permutation, sum_by-IsPermutation}
use Rattle.std.proofs.lemmas.Map.Keys.{IsDistinct-IsPermutation}
use Rattle.cp_merged.specs.Code.{tally_of, by_word}
use Rattle.cp_merged.specs.declared.tally.Tally as code
use Rattle.cp_merged.proofs.Adding.{is_less}
use Rattle.cp_merged.proofs.Anywhere.{Has, has_from_contains, contains_from_has, each_has}
use Rattle.cp_merged.proofs.Basics.{score_in, Ordered, Apart}
use Rattle.cp_merged.proofs.Exact.{exact_outcomes}
use Rattle.cp_merged.proofs.Order.{transitive}
use Rattle.cp_merged.proofs.Scores.{scored, layers_score}
use Rattle.cp_merged.proofs.Sorted.{apart_by}
use Rattle.cp_merged.proofs.Unique.{each_to, first_score, other_score, no_score, tells_tally}

not_less : (v w : List ℕ) → is_lt (slice_cmp nat_cmp w v) ≡ false → up_to v w ≡ true
not_less v w h = by (up_to v w) (sym (is_less w v) ∙ h)
  where
    by : (b : Bool) → not b ≡ false → b ≡ true
    by true e = refl
    by false e = absurd (cc)

one_more : (k : ℕ) → suc k + 1 ≡ suc (k + 1)
one_more k = omega arith

pub ordered_from : (ts : List code.Tally) → IsSortedBy by_word ts → Ordered (map tally_of ts)
ordered_from [] h = tt
ordered_from (t ∷ []) h = (tt, tt)
ordered_from (t ∷ u ∷ us) h =
    let rest = ordered_from (u ∷ us) (λ k d l m. subst (λ n. by_word (get_or (t ∷ u ∷ us) n d) (get_or (t ∷ u ∷ us) (suc k) d) ≡ false) (one_more k) (h (suc k) d (omega arith) (omega (arith, m)))) in
    let first : up_to t.first.items u.first.items ≡ true = not_less t.first.items u.first.items (h 0 t (omega arith) (omega arith)) in
    ((first, each_to (λ v. up_to u.first.items v.first.word ≡ true) (λ v. up_to t.first.items v.first.word ≡ true) (map tally_of us) (λ v e. transitive t.first.items u.first.items v.first.word first e) rest.0), rest)

-- ---- whatever the order

abbrev alike : Tally → Tally → Bool
alike t u = same_outcome t.first.outcome u.first.outcome

distinct_from : (ts : List Tally) → Apart same_outcome ts → IsDistinct alike ts
unfolding IsDistinct
distinct_from [] a = tt
distinct_from (t ∷ ts) a = (a.0, distinct_from ts a.1)

apart_from : (ts : List Tally) → IsDistinct alike ts → Apart same_outcome ts
unfolding IsDistinct
apart_from [] d = tt
apart_from (t ∷ ts) d = (d.0, apart_from ts d.1)

is : IsSameness same_outcome
is = exact_outcomes.is

apart_moved : (xs ys : List Tally) → IsPermutation xs ys → Apart same_outcome xs → Apart same_outcome ys
apart_moved xs ys p a = apart_from ys (IsDistinct-IsPermutation alike (λ t u. is.flip t.first.outcome u.first.outcome) xs ys p (distinct_from xs a))

abbrev Scored : Outcome → List Tally → Tally → Type 0
Scored o ts t = Has t ts × (same_outcome t.first.outcome o ≡ true) × (score_in same_outcome o ts ≡ Some (scored t.count t.first.word))

abbrev Unscored : Outcome → List Tally → Type 0
Unscored o ts = Each (λ u. same_outcome u.first.outcome o ≡ false) ts × (score_in same_outcome o ts ≡ None)

scored_or_not : (o : Outcome) (ts : List Tally) → Apart same_outcome ts → ((t : Tally) × Scored o ts t) ⊎ Unscored o ts
scored_or_not o [] a = inr (tt, refl)
scored_or_not o (t ∷ ts) a = by (same_outcome t.first.outcome o) refl (scored_or_not o ts a.1)
  where
    by : (b : Bool) → same_outcome t.first.outcome o ≡ b → ((u : Tally) × Scored o ts u) ⊎ Unscored o ts → ((u : Tally) × Scored o (t ∷ ts) u) ⊎ Unscored o (t ∷ ts)
    by true e on = inl (t, (inl refl, e, first_score same_outcome exact_outcomes.is t ts o a.0 e))
    by false e (inl f) = inl (f.0, (inr f.1.0, f.1.1, other_score same_outcome t ts o e ∙ f.1.2))
    by false e (inr n) = inr ((e, n.0), other_score same_outcome t ts o e ∙ n.1)

score_at : (o : Outcome) (t : Tally) (ts : List Tally) → Apart same_outcome ts → Has t ts → same_outcome t.first.outcome o ≡ true → score_in same_outcome o ts ≡ Some (scored t.count t.first.word)
score_at o t [] a h e = absurd h
score_at o t (u ∷ us) a (inl q) e = subst (λ (x : Tally). score_in same_outcome o (u ∷ us) ≡ Some (scored x.count x.first.word)) q (first_score same_outcome exact_outcomes.is u us o a.0 (ap (λ (x : Tally). same_outcome x.first.outcome o) q ∙ e))
score_at o t (u ∷ us) a (inr i) e =
    let apart : same_outcome u.first.outcome t.first.outcome ≡ false = each_has (λ v. same_outcome u.first.outcome v.first.outcome ≡ false) us t a.0 i in
    let other : same_outcome u.first.outcome o ≡ false = exact_outcomes.is.flip u.first.outcome o ∙ sym (exact_outcomes.is.alike t.first.outcome o u.first.outcome e) ∙ exact_outcomes.is.flip t.first.outcome u.first.outcome ∙ apart in
    other_score same_outcome u us o other ∙ score_at o t us a.1 i e

score_moved : (o : Outcome) (xs ys : List Tally) → IsPermutation xs ys → Apart same_outcome xs → score_in same_outcome o ys ≡ score_in same_outcome o xs
score_moved o xs ys p a = by (scored_or_not o xs a)
  where
    by : ((t : Tally) × Scored o xs t) ⊎ Unscored o xs → score_in same_outcome o ys ≡ score_in same_outcome o xs
    by (inl f) = score_at o f.0 ys (apart_moved xs ys p a) (has_from_contains ys f.0 (Contains-permutation xs ys f.0 p (contains_from_has xs f.0 f.1.0))) f.1.1 ∙ sym f.1.2
    by (inr n) = no_score same_outcome o ys (recursion_from_All (λ u. same_outcome u.first.outcome o ≡ false) ys (All-permutation (λ u. same_outcome u.first.outcome o ≡ false) xs ys p (All-from_recursion (λ u. same_outcome u.first.outcome o ≡ false) xs n.0))) ∙ sym n.1

-- what the layers find, in any order in which no tally comes before one with a lesser word
pub sorted_tally : {S : Type 0} (sys : System S) (eq : S → S → Bool) → IsSound eq → (choices steps : ℕ) (ys : List Tally) → IsPermutation (by_layers sys same_outcome eq choices steps) ys → Ordered ys → ys ≡ tally same_outcome (table sys choices steps)
sorted_tally sys eq sound choices steps ys p o =
    let xs = by_layers sys same_outcome eq choices steps in
    let a = apart_by sys same_outcome eq choices steps in
    tells_tally sys same_outcome exact_outcomes choices steps ys
    (record {
      ordered = o;
      apart = apart_moved xs ys p a;
      scores = λ q. score_moved q xs ys p a ∙ layers_score sys same_outcome exact_outcomes.is eq sound choices steps q;
    })

pub rows_moved : (xs ys : List Tally) → IsPermutation xs ys → rows_in ys ≡ rows_in xs
rows_moved xs ys p = sum_by-IsPermutation (λ (t : Tally). t.count) xs ys p

-- what a sort by first words leaves
pub sorted_by_word : {F : Type 0} {g : Mut F (Bor code.Tally × (Bor code.Tally × Unit {0})) Ordering} {f : F} (xs : List code.Tally)
    → ((lt : code.Tally → code.Tally → Bool) → IsStrictWeakOrder lt → ComparesAs g lt f → IsSortedBy lt xs)
    → ((a : Bor code.Tally × (Bor code.Tally × Unit {0})) (r : Ordering) (f' : F) → Called g f a r f' → (r ≡ slice_cmp nat_cmp a.0.now.first.items a.1.0.now.first.items) × (f' ≡ f)) → IsSortedBy by_word xs
sorted_by_word {g = g} {f = f} xs up h = up by_word (ranks_by nat_list_cmp_total (λ (t : code.Tally). t.first.items)) (always_returns_same g (λ a r. is_lt r ≡ by_word a.0.now a.1.0.now) f (λ a r f' k. (ap is_lt (h a r f' k).0, (h a r f' k).1)))
