-- Names as they lie in memory, and as a scope that shows the latest first.
use Rattle.std.proofs.Common.{◌≡◌, ℕ, ◌+◌, ◌-◌, ◌<◌, ◌≤◌, List, [], ◌∷◌, ◌++◌, length, get_or, take, drop, refl, sym, ap, ◌∙◌, add-one, arith, append_assoc, length-drop}
use Rattle.std.proofs.Math.Seq.{take-suc, drop-append_seam}
use Rattle.std.proofs.lemmas.List.{take_all, take-append-drop}
use Rattle.cp_layout.specs.declared.names.DeclaredName.{DeclaredName}
use Rattle.cp_layout.specs.Layers.{Names, declared_seen, latest_first, seen_inside, with_open}

pub seen_push : (xs : List DeclaredName) (d : DeclaredName) (before : Names) → latest_first (xs ++ d ∷ []) before ≡ declared_seen d ∷ latest_first xs before
seen_push [] d before = refl
seen_push (x ∷ xs) d before = seen_push xs d (declared_seen x ∷ before)

length_before : (xs : List DeclaredName) (before : Names) → length (latest_first xs before) ≡ length xs + length before
length_before [] before = omega arith
length_before (x ∷ xs) before = let h = length_before xs (declared_seen x ∷ before) in grind (arith, h)

pub seen_length : (xs : List DeclaredName) → length (latest_first xs []) ≡ length xs
seen_length xs = let h = length_before xs [] in grind (arith, h)

-- the earlier ones stand after the later ones
shift : (xs : List DeclaredName) (before : Names) → latest_first xs before ≡ latest_first xs [] ++ before
shift [] before = refl
shift (x ∷ xs) before =
    shift xs (declared_seen x ∷ before) ∙ sym (append_assoc (latest_first xs []) (declared_seen x ∷ []) before) ∙ ap (λ (ds : Names). ds ++ before) (sym (shift xs (declared_seen x ∷ [])))

split_at : (xs ys : List DeclaredName) (before : Names) → latest_first (xs ++ ys) before ≡ latest_first ys (latest_first xs before)
split_at [] ys before = refl
split_at (x ∷ xs) ys before = split_at xs ys (declared_seen x ∷ before)

drop_later : (xs : List DeclaredName) (before : Names) → drop (length xs) (latest_first xs before) ≡ before
drop_later xs before = rw (shift xs before, ← seen_length xs) (drop-append_seam (latest_first xs []) before)

-- without the latest ones
first_of : (xs : List DeclaredName) (before : Names) (n : ℕ) → latest_first (take n xs) before ≡ drop (length xs - n) (latest_first xs before)
first_of xs before n =
    let e : latest_first xs before ≡ latest_first (drop n xs) (latest_first (take n xs) before) = ap (λ (ds : List DeclaredName). latest_first ds before) (sym (take-append-drop n xs)) ∙ split_at (take n xs) (drop n xs) before in
    let k : length (drop n xs) ≡ length xs - n = length-drop n xs in
    rw (e, ← k) (sym (drop_later (drop n xs) (latest_first (take n xs) before)))

pub seen_first : (xs : List DeclaredName) (n : ℕ) → latest_first (take n xs) [] ≡ drop (length (latest_first xs []) - n) (latest_first xs [])
seen_first xs n = rw (seen_length xs) (first_of xs [] n)

-- the last of this many
pub seen_last : (xs : List DeclaredName) (n : ℕ) (d : DeclaredName) → n < length xs → d ≡ get_or xs n d → latest_first (take (n + 1) xs) [] ≡ declared_seen d ∷ latest_first (take n xs) []
seen_last xs n d h e = rw (add-one, take-suc xs n d h, ← e) (seen_push (take n xs) d [])

pub seen_all : (xs : List DeclaredName) → latest_first (take (length xs) xs) [] ≡ latest_first xs []
seen_all xs = rw (take_all (length xs) xs (omega arith)) refl

pub seen_none : (xs : List DeclaredName) → latest_first (take 0 xs) [] ≡ []
seen_none xs = refl

pub open_more : (xs : List DeclaredName) (i : ℕ) (d : DeclaredName) → i < length xs → seen_inside (latest_first (take (i + 1) xs) []) ≡ with_open (declared_seen (get_or xs i d)) (seen_inside (latest_first (take i xs) []))
open_more xs i d h = rw (add-one, take-suc xs i d h, seen_push (take i xs) (get_or xs i d) []) refl

pub open_all : (xs : List DeclaredName) (i : ℕ) → length xs ≤ i → latest_first (take i xs) [] ≡ latest_first xs []
open_all xs i h = rw (take_all i xs h) refl
