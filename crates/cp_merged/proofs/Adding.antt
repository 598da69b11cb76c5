-- Tallies are added to the entries of a map, and the order of words.
use Rattle.std.proofs.Common.{◌≡◌, ◌∙◌, ◌+◌, ◌<◌, ◌⊎◌, inl, inr, ℕ, Bool, true, false, not, cond, if◌then◌else◌, List, [], ◌∷◌, map, None, Some, refl, sym, ap, unwrap_or, arith}
use Rattle.cp_merged.proofs.Words.{nat_cmp, is_lt, slice_cmp, nat_list_eq_equiv, insert_entry, Tally, outcome_numbers, same_outcome, up_to, lesser}
use Rattle.cp_merged.proofs.Words.{with_tally, end_of, EndKey}
use Rattle.std.specs.Map.{lookup, set_value}
use Rattle.std.proofs.lemmas.Bool.{lt-ltb, le-ltb, eq-eqb, ne_eqb, cases_order}
use Rattle.cp_merged.specs.declared.prefixes.Prefixes as code

-- the order of words by slices
pub is_less : (w v : List ℕ) → is_lt (slice_cmp nat_cmp w v) ≡ not (up_to v w)
is_less [] [] = refl
is_less [] (p ∷ v) = refl
is_less (q ∷ w) [] = refl
is_less (q ∷ w) (p ∷ v) = by (is_less w v) (cases_order q p)
  where
    by : is_lt (slice_cmp nat_cmp w v) ≡ not (up_to v w) → (q ≡ p) ⊎ ((q < p) ⊎ (p < q)) → is_lt (slice_cmp nat_cmp (q ∷ w) (p ∷ v)) ≡ not (up_to (p ∷ v) (q ∷ w))
    by on (inl e) = let a = le-ltb q p (omega (arith, e)) in let b = le-ltb p q (omega (arith, e)) in let c = eq-eqb q p e in let d = eq-eqb p q (sym e) in simp (a, b, c, d) on
    by on (inr (inl l)) = let a = lt-ltb q p l in let b = le-ltb p q (omega (arith, l)) in let d = ne_eqb p q (λ e. omega (arith, e, l)) in simp (a, b, d) refl
    by on (inr (inr l)) = let a = le-ltb q p (omega (arith, l)) in let b = lt-ltb p q l in let c = ne_eqb q p (λ e. omega (arith, e, l)) in simp (a, b, c) refl

-- the word that comes after another one is not the lesser of the two
pub lesser_after : (v w : List ℕ) (after : Bool) → after ≡ not (up_to v w) → after ≡ true → w ≡ lesser v w
lesser_after v w after is h = by (up_to v w) (sym is ∙ h)
  where
    by : (b : Bool) → not b ≡ true → w ≡ (if b then v else w)
    by true h = absurd (cc)
    by false h = refl

pub lesser_up_to : (v w : List ℕ) (after : Bool) → after ≡ not (up_to v w) → after ≡ false → v ≡ lesser v w
lesser_up_to v w after is h = by (up_to v w) (sym is ∙ h)
  where
    by : (b : Bool) → not b ≡ false → v ≡ (if b then v else w)
    by true h = refl
    by false h = absurd (cc)

lesser_self : (w : List ℕ) → lesser w w ≡ w
lesser_self w = by (up_to w w)
  where
    by : (b : Bool) → (if b then w else w) ≡ w
    by true = refl
    by false = refl

abbrev ended : EndKey → ℕ → List ℕ → Tally
ended k count word = record { first = record { word = word; outcome = k.outcome }; count = count }

-- what is known of a key, with more
abbrev Adds : code.Prefixes → code.Prefixes → code.Prefixes → Type 0
Adds now x v = (v.count ≡ now.count + x.count) × (v.first.items ≡ lesser now.first.items x.first.items)

-- nothing is known
abbrev IsNone : code.Prefixes → code.Prefixes → Type 0
IsNone z x = (z.count ≡ 0) × (z.first.items ≡ x.first.items)

none_first : (z now x v : code.Prefixes) → IsNone z x → now ≡ z → Adds now x v → (v.count ≡ x.count) × (v.first.items ≡ x.first.items)
none_first z now x v n e a =
    (let c = ap (λ (y : code.Prefixes). y.count) e in let f = a.0 in let g = n.0 in omega (arith, c, f, g), a.1 ∙ ap (λ w. lesser w x.first.items) (ap (λ (y : code.Prefixes). y.first.items) e ∙ n.1) ∙ lesser_self x.first.items)

pub added_end : (es new : List (EndKey × code.Prefixes)) (k : EndKey) (z now x v : code.Prefixes) → new ≡ insert_entry (λ a b. same_outcome a.outcome b.outcome) es k v → now ≡ unwrap_or (lookup (λ j. same_outcome k.outcome j.outcome) es) z → IsNone z x → Adds now x v → map end_of new ≡ with_tally same_outcome (map end_of es) (end_of (k, x))
added_end [] new k z now x v put is none adds =
    let f = none_first z now x v none is adds in
    ap (map end_of) put ∙ ap (λ c. ended k c v.first.items ∷ []) f.0 ∙ ap (λ w. ended k x.count w ∷ []) f.1
added_end (e ∷ es) new k z now x v put is none adds = ap (map end_of) put ∙ by (same_outcome k.outcome e.0.outcome) refl is (λ i. added_end es (insert_entry (λ a b. same_outcome a.outcome b.outcome) es k v) k z now x v refl i none adds)
  where
    by : (b : Bool) → same_outcome k.outcome e.0.outcome ≡ b → now ≡ unwrap_or (cond b (Some e.1) (lookup (λ j. same_outcome k.outcome j.outcome) es)) z → (now ≡ unwrap_or (lookup (λ j. same_outcome k.outcome j.outcome) es) z → map end_of (insert_entry (λ a b. same_outcome a.outcome b.outcome) es k v) ≡ with_tally same_outcome (map end_of es) (end_of (k, x))) → map end_of (insert_entry (λ a b. same_outcome a.outcome b.outcome) (e ∷ es) k v) ≡ with_tally same_outcome (map end_of (e ∷ es)) (end_of (k, x))
    by true q i on =
        let flip : same_outcome e.0.outcome k.outcome ≡ true = nat_list_eq_equiv.symm (outcome_numbers e.0.outcome) (outcome_numbers k.outcome) ∙ q in
        let count : v.count ≡ e.1.count + x.count = adds.0 ∙ ap (λ (y : code.Prefixes). y.count + x.count) i in
        let first : v.first.items ≡ lesser e.1.first.items x.first.items = adds.1 ∙ ap (λ (y : code.Prefixes). lesser y.first.items x.first.items) i in
        simp (q, flip) (ap (λ c. ended e.0 c v.first.items ∷ map end_of es) count ∙ ap (λ w. ended e.0 (e.1.count + x.count) w ∷ map end_of es) first)
    by false q i on =
        let flip : same_outcome e.0.outcome k.outcome ≡ false = nat_list_eq_equiv.symm (outcome_numbers e.0.outcome) (outcome_numbers k.outcome) ∙ q in
        simp (q, flip) (ap (λ l. end_of e ∷ l) (on i))

-- the end was known
pub known_end : (es : List (EndKey × code.Prefixes)) (k : EndKey) (now x v : code.Prefixes) → lookup (λ j. same_outcome k.outcome j.outcome) es ≡ Some now → Adds now x v → map end_of (set_value (λ j. same_outcome k.outcome j.outcome) es v) ≡ with_tally same_outcome (map end_of es) (end_of (k, x))
known_end [] k now x v is adds = absurd (cc)
known_end (e ∷ es) k now x v is adds = by (same_outcome k.outcome e.0.outcome) refl is (λ i. known_end es k now x v i adds)
  where
    others : List (EndKey × code.Prefixes)
    others = set_value (λ j. same_outcome k.outcome j.outcome) es v

    by : (b : Bool) → same_outcome k.outcome e.0.outcome ≡ b → cond b (Some e.1) (lookup (λ j. same_outcome k.outcome j.outcome) es) ≡ Some now → (lookup (λ j. same_outcome k.outcome j.outcome) es ≡ Some now → map end_of others ≡ with_tally same_outcome (map end_of es) (end_of (k, x))) → map end_of (cond b ((e.0, v) ∷ es) (e ∷ others)) ≡ with_tally same_outcome (map end_of (e ∷ es)) (end_of (k, x))
    by true q i on =
        let flip : same_outcome e.0.outcome k.outcome ≡ true = nat_list_eq_equiv.symm (outcome_numbers e.0.outcome) (outcome_numbers k.outcome) ∙ q in
        let same : e.1 ≡ now = ap (λ o. unwrap_or o e.1) i in
        let count : v.count ≡ e.1.count + x.count = adds.0 ∙ ap (λ (y : code.Prefixes). y.count + x.count) (sym same) in
        let first : v.first.items ≡ lesser e.1.first.items x.first.items = adds.1 ∙ ap (λ (y : code.Prefixes). lesser y.first.items x.first.items) (sym same) in
        simp flip (ap (λ c. ended e.0 c v.first.items ∷ map end_of es) count ∙ ap (λ w. ended e.0 (e.1.count + x.count) w ∷ map end_of es) first)
    by false q i on =
        let flip : same_outcome e.0.outcome k.outcome ≡ false = nat_list_eq_equiv.symm (outcome_numbers e.0.outcome) (outcome_numbers k.outcome) ∙ q in
        simp flip (ap (λ l. end_of e ∷ l) (on i))

-- the end is new
pub new_end : (es new : List (EndKey × code.Prefixes)) (k : EndKey) (x : code.Prefixes) → new ≡ insert_entry (λ a b. same_outcome a.outcome b.outcome) es k x → lookup (λ j. same_outcome k.outcome j.outcome) es ≡ None → map end_of new ≡ with_tally same_outcome (map end_of es) (end_of (k, x))
new_end es new k x put none =
    let z : code.Prefixes = record { count = 0; first = x.first } in
    let now : z ≡ unwrap_or (lookup (λ j. same_outcome k.outcome j.outcome) es) z = sym (ap (λ o. unwrap_or o z) none) in
    let count : x.count ≡ 0 + x.count = omega arith in
    added_end es new k z z x x put now (refl, refl) (count, sym (lesser_self x.first.items))
