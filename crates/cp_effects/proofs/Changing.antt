-- What changed of a row, position by position.
use Rattle.std.proofs.Common.{◌≡◌, ◌∙◌, ◌+◌, ◌++◌, ◌∷◌, ◌<◌, ◌⊎◌, inl, inr, ℕ, Bool, true, false, List, [], ap, arith, length, refl, sym, subst, get_or-set_same, get_or-set_other}
use Rattle.std.specs.Prelude.{◌==◌, ◌||◌, slice_set}
use Rattle.std.proofs.lemmas.Bool.{cases_eq, eqb-true, false≢true}
use Rattle.std.proofs.lemmas.List.{ext_get_or}
use Rattle.std.proofs.lemmas.List.Folds.{list_any-append}
use Rattle.cp_states.specs.Numbers.{number_at}
use Rattle.cp_parts.specs.declared.placing.PlaceTable.{PlaceTable}
use Rattle.cp_effects.specs.declared.changes.Write.{Write}
use Rattle.cp_effects.specs.Changes.{AreChanges, AreChangesBelow, is_written, part_position, written}
use Rattle.cp_effects.specs.Noting.{among}
use Rattle.cp_effects.proofs.Written.{written_elsewhere, written_long}

-- ---- one number more is written

pub written_push : (ws : List Write) (w : Write) (row : List ℕ) → written (ws ++ w ∷ []) row ≡ slice_set (written ws row) w.position w.number
written_push [] w row = refl
written_push (v ∷ ws) w row = written_push ws w (slice_set row v.position v.number)

either_false : (b : Bool) → (b || false) ≡ b
either_false true = refl
either_false false = refl

is_written_push : (ws : List Write) (w : Write) (k : ℕ) → is_written (ws ++ w ∷ []) k ≡ (is_written ws k || (w.position == k))
is_written_push ws w k = list_any-append (λ (v : Write). v.position == k) ws (w ∷ []) ∙ ap (λ b. is_written ws k || b) (either_false (w.position == k))

-- what is written with one more was so before, or is the new one
written_before : (ws : List Write) (w : Write) (k : ℕ) → is_written (ws ++ w ∷ []) k ≡ true → (is_written ws k ≡ true) ⊎ (w.position ≡ k)
written_before ws w k h = go (is_written ws k) refl (sym (is_written_push ws w k) ∙ h)
  where
    go : (b : Bool) → is_written ws k ≡ b → (is_written ws k || (w.position == k)) ≡ true → (is_written ws k ≡ true) ⊎ (w.position ≡ k)
    go true is e = inl is
    go false is e = inr (eqb-true w.position k (sym (ap (λ b. b || (w.position == k)) is) ∙ e))

not_true : (b : Bool) → (b ≡ true → ⊥) → b ≡ false
not_true true h = absurd (h refl)
not_true false h = refl

module _ (t : PlaceTable) (places before after : List ℕ) where
  pub below_none : AreChangesBelow t places before after [] 0
  below_none =
      record {
        same = λ k lt. absurd (omega (arith, lt));
        within = λ k h. absurd (false≢true h);
        others = λ k h. absurd (false≢true h);
        elsewhere = λ place no. refl;
      }

  module _ (ws : List Write) (count : ℕ) (below : AreChangesBelow t places before after ws count) where
    -- what stands at a position to come is as it was
    still : number_at (written ws before) count ≡ number_at before count
    still = written_elsewhere ws before count (not_true (is_written ws count) (λ h. let lt = below.within count h in omega (arith, lt)))

    pub below_same : number_at after count ≡ number_at before count → AreChangesBelow t places before after ws (count + 1)
    below_same same =
        record {
          same = λ k lt. at k lt (cases_eq k count);
          within = λ k h. let lt = below.within k h in omega (arith, lt);
          others = below.others;
          elsewhere = below.elsewhere;
        }
      where
        at : (k : ℕ) → k < count + 1 → (k ≡ count) ⊎ (k ≡ count → ⊥) → number_at (written ws before) k ≡ number_at after k
        at k lt (inl e) = subst (λ j. number_at (written ws before) j ≡ number_at after j) (sym e) (still ∙ sym same)
        at k lt (inr ne) = below.same k (omega (arith, lt, ne))

    pub below_more : (w : Write) → count < length before → w.position ≡ count → w.number ≡ number_at after count → (number_at after count ≡ number_at before count → ⊥) → ((place : ℕ) → count ≡ part_position t place → among places place ≡ true) →
        AreChangesBelow t places before after (ws ++ w ∷ []) (count + 1)
    below_more w lt here number other may =
        record {
          same = λ k l. subst (λ row. number_at row k ≡ number_at after k) (sym (written_push ws w before ∙ ap (λ j. slice_set (written ws before) j w.number) here)) (at k l (cases_eq k count));
          within = λ k h. within k (written_before ws w k h);
          others = λ k h. others k (written_before ws w k h);
          elsewhere = λ place not. not_true (is_written (ws ++ w ∷ []) (part_position t place)) (λ h. not_there place not (written_before ws w (part_position t place) h));
        }
      where
        new : List ℕ
        new = slice_set (written ws before) count w.number

        at : (k : ℕ) → k < count + 1 → (k ≡ count) ⊎ (k ≡ count → ⊥) → number_at new k ≡ number_at after k
        at k l (inl e) = subst (λ j. number_at new j ≡ number_at after j) (sym e) (get_or-set_same (written ws before) count w.number 0 (omega (arith, lt, written_long ws before)) ∙ number)
        at k l (inr ne) = get_or-set_other (written ws before) count k w.number 0 ne ∙ below.same k (omega (arith, l, ne))

        within : (k : ℕ) → (is_written ws k ≡ true) ⊎ (w.position ≡ k) → k < count + 1
        within k (inl h) = let l = below.within k h in omega (arith, l)
        within k (inr e) = omega (arith, e, here)

        others : (k : ℕ) → (is_written ws k ≡ true) ⊎ (w.position ≡ k) → number_at after k ≡ number_at before k → ⊥
        others k (inl h) = below.others k h
        others k (inr e) = subst (λ j. number_at after j ≡ number_at before j → ⊥) (sym here ∙ e) other

        not_there : (place : ℕ) → among places place ≡ false → (is_written ws (part_position t place) ≡ true) ⊎ (w.position ≡ part_position t place) → ⊥
        not_there place not (inl h) = false≢true (sym (below.elsewhere place not) ∙ h)
        not_there place not (inr e) = false≢true (sym not ∙ may place (sym here ∙ e))

  pub below_all : (ws : List Write) (count : ℕ) → length after ≡ length before → count ≡ length before → AreChangesBelow t places before after ws count → AreChanges t places before after ws
  below_all ws count long all below =
      record {
        row = ext_get_or 0 after (written ws before) (long ∙ sym (written_long ws before)) (λ k lt. sym (below.same k (omega (arith, lt, long, all))));
        others = below.others;
        elsewhere = λ place lt no. below.elsewhere place no;
      }
