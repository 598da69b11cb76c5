-- Marks that are added to others.
use Rattle.std.proofs.Common.{◌≡◌, inl, inr, ⊎_elim, Bool, true, false, if◌then◌else◌, List, [], ◌∷◌, ◌++◌, refl, sym, subst, arith}
use Rattle.std.specs.Prelude.{Contains}
use Rattle.std.specs.List.{list_any}
use Rattle.std.proofs.lemmas.List.Elements.{Contains-append_left, Contains-append_right, Contains-append_cases, Contains-push_cases}
use Rattle.indexmap.specs.IndexSet.{insert_key}
use Rattle.indexmap.proofs.CallerLemmas.{Contains-list_any}
use Rattle.cp_layers.specs.Adding.{Adds}

module _ {A : Type 0} where
  pub none_has : (mark : A) → Contains [] mark → ⊥
  none_has mark h = let lt = h.1 in absurd (omega (arith, lt))

  pub adds_none : (before : List A) → Adds before [] before
  adds_none before = record { kept = λ mark h. h; added = λ mark h. absurd (none_has mark h); only = λ mark h. inl h }

  -- marks are those that are added to none
  pub adds_itself : (marks : List A) → Adds [] marks marks
  adds_itself marks = record { kept = λ mark h. absurd (none_has mark h); added = λ mark h. h; only = λ mark h. inr h }

  pub adds_then : (a xs b ys c : List A) → Adds a xs b → Adds b ys c → Adds a (xs ++ ys) c
  adds_then a xs b ys c f g =
      record {
        kept = λ mark h. g.kept mark (f.kept mark h);
        added = λ mark h. ⊎_elim (λ (l : Contains xs mark). g.kept mark (f.added mark l)) (λ (r : Contains ys mark). g.added mark r) (Contains-append_cases xs ys mark h);
        only = λ mark h. ⊎_elim (λ (l : Contains b mark). ⊎_elim (λ (o : Contains a mark). inl o) (λ (n : Contains xs mark). inr (Contains-append_left xs ys mark n)) (f.only mark l)) (λ (r : Contains ys mark). inr (Contains-append_right xs ys mark r)) (g.only mark h);
      }

  -- those that were there and others are the others, added to those that were there
  pub adds_behind : (before more after : List A) → Adds [] (before ++ more) after → Adds before more after
  adds_behind before more after h =
      record {
        kept = λ mark k. h.added mark (Contains-append_left before more mark k);
        added = λ mark k. h.added mark (Contains-append_right before more mark k);
        only = λ mark k. ⊎_elim (λ (l : Contains [] mark). absurd (none_has mark l)) (λ (r : Contains (before ++ more) mark). Contains-append_cases before more mark r) (h.only mark k);
      }

  -- one key, where it is new
  pub adds_key : (eq : A → A → Bool) → ((a b : A) → eq a b ≡ true → a ≡ b) → (keys : List A) (key : A) → Adds keys (key ∷ []) (insert_key eq keys key)
  adds_key eq one keys key = by (list_any (eq key) keys) refl
    where
      is_one : (other : A) → Contains (key ∷ []) other → key ≡ other
      is_one other h = ⊎_elim (λ (c : Contains [] other). absurd (none_has other c)) (λ (e : key ≡ other). e) (Contains-push_cases [] key other h)

      by : (b : Bool) → list_any (eq key) keys ≡ b → Adds keys (key ∷ []) (if b then keys else keys ++ key ∷ [])
      by true e =
          record {
            kept = λ other h. h;
            added = λ other h. subst (Contains keys) (is_one other h) (Contains-list_any eq one keys key e);
            only = λ other h. inl h;
          }
      by false e =
          record {
            kept = λ other h. Contains-append_left keys (key ∷ []) other h;
            added = λ other h. Contains-append_right keys (key ∷ []) other h;
            only = λ other h. Contains-append_cases keys (key ∷ []) other h;
          }
