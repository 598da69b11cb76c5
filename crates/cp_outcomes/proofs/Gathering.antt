-- Values that are gathered one after another.
use Rattle.std.proofs.Common.{◌≡◌, ◌∙◌, ℕ, suc, ◌+◌, ◌<◌, ◌≤◌, List, [], ◌∷◌, ◌++◌, length, take, drop, get_or, map, sym, ap, arith, add-one, append_assoc, string_bytes, take-suc}
use Rattle.std.proofs.Math.Seq.{drop-cons}
use Rattle.std.proofs.lemmas.List.{append-nil, drop_all, map-append}
use Rattle.std.specs.declared.alloc.Global.{Global}
use Rattle.std.specs.declared.string.String.{String}
use Rattle.std.proofs.lemmas.Simd.{map-map}
use Rattle.cp_walk.proofs.Joining.{take_whole}

module _ {A B C : Type 0} (seen : B → C) (meant : A → C) (xs : List A) where
  -- one more, of the next element
  pub gathered_more : (d : A) (k : ℕ) (now new : List B) (b : B) → k < length xs → new ≡ now ++ b ∷ [] → seen b ≡ meant (get_or xs k d) → map seen now ≡ map meant (take k xs) → map seen new ≡ map meant (take (k + 1) xs)
  gathered_more d k now new b lt pushed is before =
      let next : k + 1 ≡ suc k = omega arith in
      ap (map seen) pushed ∙ map-append seen now (b ∷ []) ∙ ap (λ c. map seen now ++ c ∷ []) is ∙ ap (λ l. l ++ meant (get_or xs k d) ∷ []) before ∙ sym (map-append meant (take k xs) (get_or xs k d ∷ [])) ∙ ap (map meant) (sym (ap (λ j. take j xs) next ∙ take-suc xs k d lt))

-- all of them, seen through a map
pub gathered_all : {A B C D : Type 0} (seen : B → C) (meant : D → C) (h : A → D) (xs : List A) (k : ℕ) (now : List B) → k ≡ length xs → map seen now ≡ map (λ x. meant (h x)) (take k xs) → map seen now ≡ map meant (map h xs)
gathered_all seen meant h xs k now done e = e ∙ ap (map (λ x. meant (h x))) (take_whole xs k done) ∙ sym (map-map meant h xs)

-- behind what is there, one more of those that are left, and none
module _ {A B C : Type 0} (f : B → C) (h : A → B) (xs : List A) (i : ℕ) (now : List C) where
  pub left_step : (x : A) → i < length xs → x ≡ get_or xs i x → now ++ map f (map h (drop i xs)) ≡ (now ++ f (h x) ∷ []) ++ map f (map h (drop (i + 1) xs))
  left_step x within here = rw (add-one, drop-cons xs i x within, ← here) (sym (append_assoc now (f (h x) ∷ []) (map f (map h (drop (suc i) xs)))))

  pub left_none : length xs ≤ i → now ++ map f (map h (drop i xs)) ≡ now
  left_none none = rw (drop_all i xs none) (append-nil now)

pub line_more : (lines : List (String Global)) (line : String Global) → map string_bytes (lines ++ line ∷ []) ≡ map string_bytes lines ++ string_bytes line ∷ []
line_more lines line = map-append string_bytes lines (line ∷ [])
