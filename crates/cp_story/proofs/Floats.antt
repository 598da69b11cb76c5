-- Objects and arrays of JSON that have no floats; and objects whose members are put one part after the other.
use Rattle.std.proofs.Common.{◌≡◌, ◌||◌, ℕ, zero, suc, Bool, true, false, List, [], ◌∷◌, ◌++◌, map, refl, true≢false, Ordering, Less, Equal, Greater, Option, Some, None}
use Rattle.std.specs.List.{list_any}
use Rattle.std.specs.Cmp.Lexicographic.{slice_cmp}
use Rattle.std.specs.Ordering.{nat_cmp, match_ordering}
use Rattle.serde_json.specs.Data.{Data, Members, no_members, member, put}
use Rattle.serde_json.specs.Written.{has_float, members_have_float}
use Rattle.cp_legend.specs.Names.{at_each}
use Rattle.cp_story.specs.Objects.{Member, array_of, flag, number_data, numbers_data, object_with, optional, with_member, with_members}

-- ---- no float

abbrev pub is_float_member : Member → Bool
is_float_member m = has_float m.1

neither : (a b : Bool) → (a || b) ≡ false → (a ≡ false) × (b ≡ false)
neither true b free = absurd (true≢false free)
neither false b free = (refl, free)

pub both : {a b : Bool} → a ≡ false → b ≡ false → (a || b) ≡ false
both p q = rw (p, q) refl

no_float-put_at : (o : Ordering) (name l : List ℕ) (d e : Data) (ms : Members) → has_float d ≡ false → has_float e ≡ false → members_have_float ms ≡ false → members_have_float (put name d ms) ≡ false
    → members_have_float (match_ordering o (member name d (member l e ms)) (member l d ms) (member l e (put name d ms))) ≡ false
no_float-put_at Less name l d e ms free free_e none later = both free (both free_e none)
no_float-put_at Equal name l d e ms free free_e none later = both free none
no_float-put_at Greater name l d e ms free free_e none later = both free_e later

no_float-put : (name : List ℕ) (d : Data) (ms : Members) → has_float d ≡ false → members_have_float ms ≡ false → members_have_float (put name d ms) ≡ false
no_float-put name d no_members free none = both free refl
no_float-put name d (member l e ms) free none =
    let each = neither (has_float e) (members_have_float ms) none in
    no_float-put_at (slice_cmp nat_cmp name l) name l d e ms free each.0 each.1 (no_float-put name d ms free each.1)

no_float-with_members : (ms : Members) (xs : List Member) → members_have_float ms ≡ false → list_any is_float_member xs ≡ false → members_have_float (with_members ms xs) ≡ false
unfolding with_member
no_float-with_members ms [] none free = none
no_float-with_members ms (x ∷ xs) none free =
    let each = neither (has_float x.1) (list_any is_float_member xs) free in
    no_float-with_members (with_member ms x.0 x.1) xs (no_float-put x.0 x.1 ms each.0 none) each.1

pub no_float-object : (xs : List Member) → list_any is_float_member xs ≡ false → has_float (object_with xs) ≡ false
no_float-object xs free = no_float-with_members no_members xs refl free

pub no_float-array : {A : Type 0} (f : A → Data) (xs : List A) → ((x : A) → has_float (f x) ≡ false) → has_float (array_of (map f xs)) ≡ false
no_float-array f [] free = refl
no_float-array f (x ∷ xs) free = both (free x) (no_float-array f xs free)

items_free : (xs ys : List Data) → has_float (array_of xs) ≡ false → has_float (array_of ys) ≡ false → has_float (array_of (xs ++ ys)) ≡ false
items_free [] ys free more = more
items_free (x ∷ xs) ys free more =
    let each = neither (has_float x) (has_float (array_of xs)) free in
    both each.0 (items_free xs ys each.1 more)

pub no_float-at_each : (f : ℕ → Data) (n : ℕ) → ((k : ℕ) → has_float (f k) ≡ false) → has_float (array_of (at_each f n)) ≡ false
unfolding at_each
no_float-at_each f zero free = refl
no_float-at_each f (suc n) free = items_free (at_each f n) (f n ∷ []) (no_float-at_each f n free) (both (free n) refl)

pub no_float-numbers : (ns : List ℕ) → has_float (numbers_data ns) ≡ false
no_float-numbers ns = no_float-array number_data ns (λ n. refl)

-- of the members of two parts
pub none_of : (xs ys : List Member) → list_any is_float_member xs ≡ false → list_any is_float_member ys ≡ false → list_any is_float_member (xs ++ ys) ≡ false
none_of [] ys free none = none
none_of (x ∷ xs) ys free none =
    let each = neither (has_float x.1) (list_any is_float_member xs) free in
    both each.0 (none_of xs ys each.1 none)

pub no_float-optional : {A : Type 0} (name : List ℕ) (f : A → Data) (o : Option A) → ((x : A) → has_float (f x) ≡ false) → list_any is_float_member (optional name f o) ≡ false
no_float-optional name f None free = refl
no_float-optional name f (Some x) free = both (free x) refl

pub no_float-flag : (name : List ℕ) (b : Bool) → list_any is_float_member (flag name b) ≡ false
no_float-flag name true = refl
no_float-flag name false = refl

-- ---- parts

pub with_both : (ms : Members) (xs ys : List Member) → with_members ms (xs ++ ys) ≡ with_members (with_members ms xs) ys
with_both ms [] ys = refl
with_both ms (x ∷ xs) ys = with_both (with_member ms x.0 x.1) xs ys
