-- When the first n places were expanded: words lead to what was found, and the edges of those places are recorded.
use Rattle.std.proofs.Common.{◌≡◌, ◌⊎◌, inl, inr, ◌<◌, ◌≤◌, ℕ, zero, suc, true, List, [], ◌∷◌, ◌++◌, length, get_or, refl, ap, sym, ◌∙◌, subst, arith}
use Rattle.std.specs.Prelude.{◌≢◌, Option, Some, None, slice_get}
use Rattle.cp_ends.proofs.Vocabulary.{slice_get_cases, Graph, LeadsToPlace, LeadsToEnd, ShowsLast, is_up_to}
use Rattle.cp_ends.specs.Searched.{Findings, Tests, gone_on, gone_on_from, searched}
use Rattle.cp_ends.proofs.Searching.Words.{up_to_empty, up_to_push}
use Rattle.cp_ends.proofs.Searching.Lists.{all_at, pair_at}
use Rattle.cp_ends.proofs.Searching.Adding.{good_none}
use Rattle.cp_ends.proofs.Searching.Arrivals.{IsBounded, one_place}
use Rattle.cp_ends.proofs.Searching.Growing.{going_at, searched_at, searched_done, searched_extends, searched_on}
use Rattle.cp_ends.proofs.Searching.Going.{AreExact, IsRecorded, IsSound, arrived_recorded, arrived_sound, going_recorded, going_sound, recorded_stays, sound_later}

-- words lead to what was found, and the words of the places from the n-th on go on from these
pub record IsStage {S E V : Type 0} (g : Graph S E V) (t : Tests S E V) (n : ℕ) (f : Findings S E V) : Type 0 where
  pub last : List ℕ
  pub sound : IsSound g t f last
  pub next : (i : ℕ) (x : S × List ℕ) → n ≤ i → slice_get f.states i ≡ Some x → is_up_to last (x.1 ++ 0 ∷ []) ≡ true

module _ {S E V : Type 0} (g : Graph S E V) (t : Tests S E V) (exact : AreExact g t) where
  nothing : Findings S E V
  nothing = record { states = []; ends = []; values = [] }

  nothing_sound : IsSound g t nothing []
  unfolding nothing
  nothing_sound = record { states = good_none (LeadsToPlace g) []; ends = good_none (LeadsToEnd g) []; values = good_none (ShowsLast g) []; few = omega arith }

  -- the words of what was found come before the edges of a place that is still to be expanded
  stage_sound : (n : ℕ) (f : Findings S E V) (i : ℕ) (x : S × List ℕ) → IsStage g t n f → n ≤ i → slice_get f.states i ≡ Some x → IsSound g t f (x.1 ++ 0 ∷ [])
  stage_sound n f i x h le at = sound_later g t exact f h.last (x.1 ++ 0 ∷ []) (h.next i x le at) h.sound

  sound_leads : (f : Findings S E V) (w : List ℕ) (i : ℕ) (x : S × List ℕ) → IsSound g t f w → slice_get f.states i ≡ Some x → LeadsToPlace g x.0 x.1
  sound_leads f w i x h at = all_at (λ (e : S × List ℕ). LeadsToPlace g e.0 e.1) f.states i x h.states.holds at

  -- a later place has a later word, and so have its edges
  later_edges : (f : Findings S E V) (w : List ℕ) (i j : ℕ) (x y : S × List ℕ) (p q : ℕ) → IsSound g t f w → i < j → slice_get f.states i ≡ Some x → slice_get f.states j ≡ Some y → is_up_to (x.1 ++ p ∷ []) (y.1 ++ q ∷ []) ≡ true
  later_edges f w i j x y p q h lt at to =
      let other : x.1 ≢ y.1 = λ same. pair_at (λ (e k : S × List ℕ). e.0 ≢ k.0) f.states i j x y h.states.once lt at to (one_place g y.1 x.0 y.0 (subst (λ v. LeadsToPlace g x.0 v) same (sound_leads f w i x h at)) (sound_leads f w j y h to)) in
      up_to_push x.1 y.1 p q (pair_at (λ (e k : S × List ℕ). is_up_to e.1 k.1 ≡ true) f.states i j x y h.states.sorted lt at to) (inl other)

  stage_on : (n : ℕ) (f : Findings S E V) (x : S × List ℕ) → IsStage g t n f → slice_get f.states n ≡ Some x → IsStage g t (suc n) (gone_on g t x g.below f)
  stage_on n f x h at =
      let before : IsSound g t f (x.1 ++ 0 ∷ []) = stage_sound n f n x h (omega arith) at in
      let after = gone_on g t x g.below f in
      let sound : IsSound g t after (x.1 ++ g.below ∷ []) = going_sound g t exact x g.below f (sound_leads f (x.1 ++ 0 ∷ []) n x before at) before in
      let here : slice_get after.states n ≡ Some x = going_at g t x g.below f n x at in
      record {
        last = x.1 ++ g.below ∷ [];
        sound = sound;
        next = λ i y le to. later_edges after (x.1 ++ g.below ∷ []) n i x y g.below 0 sound (omega (arith, le)) here to;
      }

  pub searched_stage : (n : ℕ) → IsStage g t n (searched g t n)
  unfolding searched nothing
  searched_stage zero = record { last = []; sound = arrived_sound g t exact nothing [] g.start nothing_sound refl; next = λ i x le at. up_to_empty (x.1 ++ 0 ∷ []) }
  searched_stage (suc n) = by (slice_get (searched g t n).states n) refl (searched_stage n)
    where
      by : (o : Option (S × List ℕ)) → slice_get (searched g t n).states n ≡ o → IsStage g t n (searched g t n) → IsStage g t (suc n) (gone_on_from g t o (searched g t n))
      by (Some x) at h = stage_on n (searched g t n) x h at
      by None at h = record { last = h.last; sound = h.sound; next = λ i x le to. h.next i x (omega (arith, le)) to }

  -- ---- what is recorded

  start_recorded : IsRecorded t (searched g t 0) [] g.start
  unfolding searched nothing
  start_recorded = arrived_recorded g t exact nothing [] g.start nothing_sound refl

  pub searched_start : (n : ℕ) → IsRecorded t (searched g t n) [] g.start
  searched_start n = recorded_stays t (searched g t 0) (searched g t n) [] g.start (searched_extends g t 0 n (omega arith)) start_recorded

  pub searched_sound : (n i : ℕ) (x : S × List ℕ) → n ≤ i → slice_get (searched g t n).states i ≡ Some x → IsSound g t (searched g t n) (x.1 ++ 0 ∷ [])
  searched_sound n i x le at = stage_sound n (searched g t n) i x (searched_stage n) le at

  pub searched_leads : (n i : ℕ) (x : S × List ℕ) → slice_get (searched g t n).states i ≡ Some x → LeadsToPlace g x.0 x.1
  searched_leads n i x at = let h = searched_stage n in sound_leads (searched g t n) h.last i x h.sound at

  -- a place stood there when it was to be expanded
  stood : (n i : ℕ) (x : S × List ℕ) → i ≤ n → slice_get (searched g t n).states i ≡ Some x → slice_get (searched g t i).states i ≡ Some x
  stood n i x le at = by (slice_get_cases (searched g t i).states i).1
    where
      by : ((y : S × List ℕ) × (i < length (searched g t i).states) × (slice_get (searched g t i).states i ≡ Some y) × (get_or (searched g t i).states i y ≡ y)) ⊎ ((length (searched g t i).states ≤ i) × (slice_get (searched g t i).states i ≡ None)) → slice_get (searched g t i).states i ≡ Some x
      by (inl y) = y.2 ∙ sym (searched_at g t i n i y.0 le y.2) ∙ at
      by (inr none) = ap (λ (f : Findings S E V). slice_get f.states i) (sym (searched_done g t i n none.0 le)) ∙ at

  -- the edges of the first n places are
  pub searched_recorded : IsBounded g → (n i : ℕ) (x : S × List ℕ) (p : ℕ) → i < n → slice_get (searched g t n).states i ≡ Some x → g.may x.0 p ≡ true → IsRecorded t (searched g t n) (x.1 ++ p ∷ []) (g.on x.0 p)
  searched_recorded bounded n i x p lt at may =
      let here : slice_get (searched g t i).states i ≡ Some x = stood n i x (omega (arith, lt)) at in
      let gone : IsRecorded t (gone_on g t x g.below (searched g t i)) (x.1 ++ p ∷ []) (g.on x.0 p) = going_recorded g t exact x g.below (searched g t i) (searched_leads i i x here) (searched_sound i i x (omega arith) here) p (bounded x.0 p may) may in
      recorded_stays t (searched g t (suc i)) (searched g t n) (x.1 ++ p ∷ []) (g.on x.0 p) (searched_extends g t (suc i) n lt) (subst (λ f. IsRecorded t f (x.1 ++ p ∷ []) (g.on x.0 p)) (sym (searched_on g t i x here)) gone)
