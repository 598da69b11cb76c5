-- A list of items stays fit under more items.
use Rattle.cp_resolved.proofs.Words.{◌≡◌, ℕ, ◌<◌, ◌≤◌, List, ◌++◌, length, Option, Some, None, ap, sym, ◌∙◌, refl, arith, length-append, slice_get, need_of, item_need}
use Rattle.std.proofs.lemmas.List.{get_or_append_left}
use Rattle.std.proofs.lemmas.Option.{slice_get-get_or, slice_get_within, get_or_from_slice_get}
use Rattle.cp_slots.specs.Code.{Item}

-- an item of the routine, whose list needs at most this much
pub record Nests (is : List Item) (routine need at : ℕ) : Type 0 where
  pub item : Item
  pub there : slice_get is at ≡ Some item
  pub same : item.routine ≡ routine
  pub fits : item.need ≤ need

abbrev pub ListFits : List Item → (routine need : ℕ) → Option ℕ → Type 0
ListFits is routine need None = Unit {0}
ListFits is routine need (Some at) = Nests is routine need at

pub list_wider : (is : List Item) (r n m : ℕ) (o : Option ℕ) → n ≤ m → ListFits is r n o → ListFits is r m o
list_wider is r n m None h g = tt
list_wider is r n m (Some at) h g = record { item = g.item; there = g.there; same = g.same; fits = omega (arith, g.fits) }

-- ---- kept under more items

get_longer : (is more : List Item) (at : ℕ) (i : Item) → slice_get is at ≡ Some i → slice_get (is ++ more) at ≡ Some i
get_longer is more at i e =
    let h : at < length is = slice_get_within is at i e in
    slice_get-get_or (is ++ more) at i (grind (arith, length-append, h)) ∙ ap (λ (j : Item). Some j) (get_or_append_left is more i at h ∙ get_or_from_slice_get is at i i e)

pub list_longer : (is more : List Item) (r n : ℕ) (o : Option ℕ) → ListFits is r n o → ListFits (is ++ more) r n o
list_longer is more r n None g = tt
list_longer is more r n (Some at) g = record { item = g.item; there = get_longer is more at g.item g.there; same = g.same; fits = g.fits }

pub need_longer : (is more : List Item) (r n : ℕ) (o : Option ℕ) → ListFits is r n o → need_of (is ++ more) o ≡ need_of is o
need_longer is more r n None g = refl
need_longer is more r n (Some at) g = ap item_need (get_longer is more at g.item g.there ∙ sym g.there)
