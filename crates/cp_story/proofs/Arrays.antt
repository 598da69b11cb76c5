-- Arrays and objects of JSON that are gathered from lists: what is gathered, and the first of those that are left.
use Rattle.std.proofs.Common.{◌≡◌, ◌⊎◌, inl, inr, ℕ, suc, ◌+◌, ◌<◌, ◌≤◌, List, [], ◌∷◌, ◌++◌, length, get_or, map, drop, refl, sym, ap, ◌∙◌, add-one, append_assoc, rules}
use Rattle.std.proofs.Math.Seq.{drop-cons}
use Rattle.std.proofs.lemmas.List.{drop_all, append-nil, map-append}
use Rattle.std.specs.declared.alloc.Global.{Global}
use Rattle.std.specs.declared.vec.Vec.{Vec}
use Rattle.serde_json.specs.View.{view}
use Rattle.serde_json.specs.declared.value.Value as json
use Rattle.cp_legend.specs.Names.{at_each}
use Rattle.cp_legend.specs.declared.value.SourceValue as code_value
use Rattle.cp_legend.specs.Values.{Value, list, set, value_seen, values_of}
use Rattle.cp_story.specs.Objects.{array_of}
use Rattle.cp_story.specs.StoryData.{value_data, values_data}

module _ {A B C : Type 0} (f : B → C) (h : A → B) (xs : List A) (i : ℕ) (now : List C) where
  pub seen_step : (x : A) → i < length xs → x ≡ get_or xs i x → now ++ map f (map h (drop i xs)) ≡ (now ++ f (h x) ∷ []) ++ map f (map h (drop (i + 1) xs))
  seen_step x within here = rw (add-one, drop-cons xs i x within, ← here) (sym (append_assoc now (f (h x) ∷ []) (map f (map h (drop (suc i) xs)))))

  pub seen_none : length xs ≤ i → now ++ map f (map h (drop i xs)) ≡ now
  seen_none none = rw (drop_all i xs none) (append-nil now)

module _ {B : Type 0} (f : ℕ → B) (ns : List ℕ) (i : ℕ) (now : List B) where
  pub number_step : i < length ns → now ++ map f (drop i ns) ≡ (now ++ f (get_or ns i 0) ∷ []) ++ map f (drop (i + 1) ns)
  number_step within = rw (add-one, drop-cons ns i 0 within) (sym (append_assoc now (f (get_or ns i 0) ∷ []) (map f (drop (suc i) ns))))

  pub number_none : length ns ≤ i → now ++ map f (drop i ns) ≡ now
  number_none none = rw (drop_all i ns none) (append-nil now)

module _ {B : Type 0} (f : ℕ → B) where
  pub each_more : (n : ℕ) → at_each f (n + 1) ≡ at_each f n ++ f n ∷ []
  unfolding at_each
  each_more n = rw add-one refl

  pub each_none : at_each f 0 ≡ []
  unfolding at_each
  each_none = refl

pub view_more : (vs : List json.Value) (v : json.Value) → map view (vs ++ v ∷ []) ≡ map view vs ++ view v ∷ []
view_more vs v = map-append view vs (v ∷ [])

-- ---- values

values_are : (vs : List Value) → values_data (values_of vs) ≡ map value_data vs
values_are [] = refl
values_are (v ∷ vs) = ap (λ ds. value_data v ∷ ds) (values_are vs)

seen_list : (vs : Vec code_value.SourceValue Global) → value_seen (code_value.List vs) ≡ list (values_of (map value_seen vs.items))
seen_list vs = search (rules, code_value.the_lemmas)

seen_set : (vs : Vec code_value.SourceValue Global) → value_seen (code_value.Set vs) ≡ set (values_of (map value_seen vs.items))
seen_set vs = search (rules, code_value.the_lemmas)

-- an array and a set
pub list_is : (w : code_value.SourceValue) (vs : Vec code_value.SourceValue Global) → (w ≡ code_value.List vs) ⊎ (w ≡ code_value.Set vs) → value_data (value_seen w) ≡ array_of (map value_data (map value_seen vs.items))
list_is w vs (inl is) = ap (λ v. value_data (value_seen v)) is ∙ ap value_data (seen_list vs) ∙ ap array_of (values_are (map value_seen vs.items))
list_is w vs (inr is) = ap (λ v. value_data (value_seen v)) is ∙ ap value_data (seen_set vs) ∙ ap array_of (values_are (map value_seen vs.items))
