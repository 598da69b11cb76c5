-- What words are read as is what they spell.
use Rattle.std.specs.Option.{option_or}
use Rattle.std.proofs.Common.{◌≡◌, ◌∙◌, ◌⊎◌, inl, inr, ℕ, Bool, true, false, ◌==◌, ◌&&◌, ◌||◌, not, List, [], ◌∷◌, ◌++◌, Option, Some, None, option_map, codes, if◌then◌else◌, refl, sym, ap, subst, arith}
use Rattle.std.proofs.lemmas.Bool.{eqb-true}
use Rattle.std.proofs.lemmas.List.{append_assoc, append-nil}
use Rattle.std.specs.Str.{bytes_eq}
use Rattle.cp_store.specs.declared.error.ErrorName.{ErrorName}
use Rattle.cp_walk.specs.Text.{error_text}
use Rattle.cp_expectation.specs.Plain.{Item, Printed, Any, Who, End, Finished, AnyError, Error, AllWaiting, Alone, Spins, Topic, Ends, Displays, Waits, Expected}
use Rattle.cp_expectation.specs.Spelling.{Words, SpellsProcess, SpellsProcesses, SpellsEnd, SpellsItem, SpellsItems, SpellsOutput, SpellsTopic, SpellsTopics, SpellsOne, SpellsJoined, Spells, ends_in_item, begins_as_value}
use Rattle.cp_expectation.specs.Steps.{Place, AtClaim, AtTopic, AtOutput, AtShown, After, State, at, Addition, Name, Process, Others, Output, Another, claims, errors, meant_by, before_closing, checked, value_in, process_in, item_in, with_topic, beginnings, begun, end_addition, who_addition, addition, one_who, with_process, with_others, added, joint, next, expected_at, behind, step, ended, start}
use Rattle.cp_expectation.specs.Values.{is_value, is_character, is_name, reserved, SpellsValue}
use Rattle.cp_expectation.specs.Written.{claim_text, is_doubtful, is_own, is_bare}
use Rattle.cp_expectation.specs.declared.expectation.Claim.{Claim}
use Rattle.cp_expectation.proofs.Valued.{same_words, not_integer}
use Rattle.cp_expectation.proofs.Walking.{run, finish}

-- ---- words that stand for something

abbrev pub Stands : {A : Type 0} → List (List ℕ × A) → List ℕ → A → Type 0
Stands [] w x = ⊥
Stands (y ∷ ys) w x = ((w ≡ y.0) × (x ≡ y.1)) ⊎ Stands ys w x

pub stands : {A : Type 0} (xs : List (List ℕ × A)) (w : List ℕ) (x : A) → meant_by xs w ≡ Some x → Stands xs w x
stands [] w x h = absurd (cc)
stands (y ∷ ys) w x h = split (bytes_eq w y.0) refl h (stands ys w x)
  where
    split : (b : Bool) → bytes_eq w y.0 ≡ b → (if b then Some y.1 else meant_by ys w) ≡ Some x → (meant_by ys w ≡ Some x → Stands ys w x) → ((w ≡ y.0) × (x ≡ y.1)) ⊎ Stands ys w x
    split true e k on = inl (same_words w y.0 e, cc)
    split false e k on = inr (on k)

pub claim_is : (w : List ℕ) (c : Claim) → meant_by claims w ≡ Some c → w ≡ claim_text c
claim_is w c h = elim (stands claims w c h) [ inl e ↦ e.0 ∙ ap claim_text (sym e.1) | inr g ↦ elim g [ inl e ↦ e.0 ∙ ap claim_text (sym e.1) | inr k ↦ elim k [ inl e ↦ e.0 ∙ ap claim_text (sym e.1) | inr none ↦ absurd none ] ] ]

pub error_is : (w : List ℕ) (name : ErrorName) → meant_by errors w ≡ Some name → w ≡ error_text name
error_is w name h =
    elim (stands errors w name h) [ inl e ↦ by e.0 e.1 | inr a ↦ elim a [ inl e ↦ by e.0 e.1 | inr b ↦ elim b [ inl e ↦ by e.0 e.1 | inr c ↦ elim c [ inl e ↦ by e.0 e.1 | inr d ↦ elim d [ inl e ↦ by e.0 e.1 | inr f ↦ elim f [ inl e ↦ by e.0 e.1 | inr g ↦ elim g [ inl e ↦ by e.0 e.1 | inr i ↦ elim i [ inl e ↦ by e.0 e.1 | inr j ↦ elim j [ inl e ↦ by e.0 e.1 | inr none ↦ absurd none ] ] ] ] ] ] ] ] ]
  where
    by : {n : ErrorName} → w ≡ error_text n → name ≡ n → w ≡ error_text name
    by e k = e ∙ ap error_text (sym k)

-- ---- values

closing_is : (cs v : List ℕ) → before_closing cs ≡ Some v → cs ≡ v ++ codes ")"
closing_is [] v h = absurd (cc)
closing_is (c ∷ []) v h = split (c == 41) refl h
  where
    split : (b : Bool) → (c == 41) ≡ b → (if b then Some [] else None) ≡ Some v → c ∷ [] ≡ v ++ codes ")"
    split true e k = ap (λ d. d ∷ []) (eqb-true c 41 e) ∙ ap (λ l. l ++ codes ")") (none v k)
      where
        none : (v : List ℕ) → Some [] ≡ Some v → [] ≡ v
        none v k = cc
    split false e k = absurd (cc)
closing_is (c ∷ d ∷ cs) v h = split (before_closing (d ∷ cs)) refl h (closing_is (d ∷ cs))
  where
    split : (o : Option (List ℕ)) → before_closing (d ∷ cs) ≡ o → option_map (λ x. c ∷ x) o ≡ Some v → ((x : List ℕ) → before_closing (d ∷ cs) ≡ Some x → d ∷ cs ≡ x ++ codes ")") → c ∷ d ∷ cs ≡ v ++ codes ")"
    split None e k on = absurd (cc)
    split (Some x) e k on = ap (λ l. c ∷ l) (on x e) ∙ ap (λ l. l ++ codes ")") (whole x k)
      where
        whole : (x : List ℕ) → Some (c ∷ x) ≡ Some v → c ∷ x ≡ v
        whole x k = cc

checked_is : (o : Option (List ℕ)) (v : List ℕ) → checked o ≡ Some v → (o ≡ Some v) × (is_value v ≡ true)
checked_is None v h = absurd (cc)
checked_is (Some x) v h = split (is_value x) refl h
  where
    split : (b : Bool) → is_value x ≡ b → (if b then Some x else None) ≡ Some v → (Some x ≡ Some v) × (is_value v ≡ true)
    split true e k = let same : x ≡ v = cc in (k, sym (ap is_value same) ∙ e)
    split false e k = absurd (cc)

pub value_spelled : (w v : List ℕ) → value_in w ≡ Some v → SpellsValue w v
value_spelled [] v h = absurd (cc)
value_spelled (c ∷ cs) v h = split (c == 40) refl h
  where
    alone : (b : Bool) → is_doubtful (c ∷ cs) ≡ b → (if b then None else checked (Some (c ∷ cs))) ≡ Some v → SpellsValue (c ∷ cs) v
    alone true e k = absurd (cc)
    alone false e k =
        let is = checked_is (Some (c ∷ cs)) v k in
        let same : c ∷ cs ≡ v = (let p : Some (c ∷ cs) ≡ Some v = is.0 in cc) in
        (is.1, inl (same, ap is_doubtful (sym same) ∙ e))

    split : (b : Bool) → (c == 40) ≡ b → (if b then checked (before_closing cs) else (if is_doubtful (c ∷ cs) then None else checked (Some (c ∷ cs)))) ≡ Some v → SpellsValue (c ∷ cs) v
    split true e k =
        let is = checked_is (before_closing cs) v k in
        (is.1, inr (ap (λ d. d ∷ cs) (eqb-true c 40 e) ∙ ap (λ l. 40 ∷ l) (closing_is cs v is.0)))
    split false e k = alone (is_doubtful (c ∷ cs)) refl k

pub none_spelled : (w : List ℕ) → ((v : List ℕ) → ¬ (SpellsValue w v)) → value_in w ≡ None
none_spelled w h = split (value_in w) refl
  where
    split : (o : Option (List ℕ)) → value_in w ≡ o → o ≡ None
    split None e = refl
    split (Some v) e = absurd (h v (value_spelled w v e))

item_spelled : (w : List ℕ) (i : Item) → item_in w (value_in w) ≡ Some i → SpellsItem w i
item_spelled w i h = split (value_in w) refl h
  where
    dots : (b : Bool) → bytes_eq w (codes "..") ≡ b → (if b then Some Any else None) ≡ Some i → SpellsItem w i
    dots true e k = let same : Any ≡ i = cc in subst (SpellsItem w) same (same_words w (codes "..") e)
    dots false e k = absurd (cc)

    split : (o : Option (List ℕ)) → value_in w ≡ o → item_in w o ≡ Some i → SpellsItem w i
    split (Some v) e k = let same : Printed v ≡ i = cc in subst (SpellsItem w) same (value_spelled w v e)
    split None e k = dots (bytes_eq w (codes "..")) refl k

-- ---- names of processes

process_spelled : (w v : List ℕ) → process_in w ≡ Some v → SpellsProcess w v
process_spelled [] v h = absurd (cc)
process_spelled (c ∷ cs) v h = split (c == 40) refl h
  where
    alone : (b : Bool) → is_own (c ∷ cs) ≡ b → (c == 40) ≡ false → (if b then None else Some (c ∷ cs)) ≡ Some v → SpellsProcess (c ∷ cs) v
    alone true e f k = absurd (cc)
    alone false e f k =
        let same : c ∷ cs ≡ v = cc in
        inl (same, subst (λ n. is_bare n ≡ true) same (ap (λ b. not b && not (c == 40)) e ∙ ap (λ b. not b) f))

    split : (b : Bool) → (c == 40) ≡ b → (if b then before_closing cs else (if is_own (c ∷ cs) then None else Some (c ∷ cs))) ≡ Some v → SpellsProcess (c ∷ cs) v
    split true e k = inr (ap (λ d. d ∷ cs) (eqb-true c 40 e) ∙ ap (λ l. 40 ∷ l) (closing_is cs v k))
    split false e k = alone (is_own (c ∷ cs)) refl e k

pub no_process : (w : List ℕ) → ((v : List ℕ) → ¬ (SpellsProcess w v)) → process_in w ≡ None
no_process w none = split (process_in w) refl
  where
    split : (o : Option (List ℕ)) → process_in w ≡ o → o ≡ None
    split None e = refl
    split (Some v) e = absurd (none v (process_spelled w v e))

some_same : {A : Type 0} (x y : A) → Some x ≡ Some y → x ≡ y
some_same x y e = cc

-- ---- what is joined

joined_more : {E : Type 0} (spells : Words → E → Type 0) (qs xs : Words) (es : List E) (e : E) → SpellsJoined spells qs es → spells xs e → SpellsJoined spells (qs ++ codes "and" ∷ xs) (es ++ e ∷ [])
joined_more spells qs xs [] e h k = absurd h
joined_more spells qs xs (d ∷ []) e h k = (qs, xs, h, k, refl)
joined_more spells qs xs (d ∷ f ∷ es) e h k =
    (h.0, h.1 ++ codes "and" ∷ xs, h.2, joined_more spells h.1 xs (f ∷ es) e h.3 k, ap (λ l. l ++ codes "and" ∷ xs) h.4 ∙ append_assoc h.0 (codes "and" ∷ h.1) (codes "and" ∷ xs))

-- the last of some topics ends in an item of an output
abbrev pub last_in_item : List Topic → Bool
last_in_item [] = false
last_in_item (t ∷ []) = ends_in_item t
last_in_item (t ∷ u ∷ ts) = last_in_item (u ∷ ts)

last_added : (ts : List Topic) (t : Topic) → last_in_item (ts ++ t ∷ []) ≡ ends_in_item t
last_added [] t = refl
last_added (a ∷ []) t = refl
last_added (a ∷ b ∷ ts) t = last_added (b ∷ ts) t

-- nothing, where the next topic's first word is no other value; or `or`
abbrev pub Parts : Words → (last value : Bool) → Type 0
Parts s last value = ((s ≡ []) × ((last && value) ≡ false)) ⊎ (s ≡ codes "or" ∷ [])

topics_more : (ws xs : Words) (ts : List Topic) (t : Topic) (s : Words) → SpellsTopics ws ts → SpellsTopic xs t → Parts s (last_in_item ts) (begins_as_value t) → SpellsTopics (ws ++ (s ++ xs)) (ts ++ t ∷ [])
topics_more ws xs [] t s h k p = absurd h
topics_more ws xs (a ∷ []) t s h k p = (ws, xs, h, k, elim p [ inl e ↦ inl (ap (λ l. ws ++ (l ++ xs)) e.0, e.1) | inr e ↦ inr (ap (λ l. ws ++ (l ++ xs)) e) ])
topics_more ws xs (a ∷ b ∷ ts) t s h k p =
    (h.0, h.1 ++ (s ++ xs), h.2, topics_more h.1 xs (b ∷ ts) t s h.3 k p, elim h.4 [ inl e ↦ inl (ap (λ l. l ++ (s ++ xs)) e.0 ∙ append_assoc h.0 h.1 (s ++ xs), e.1) | inr e ↦ inr (ap (λ l. l ++ (s ++ xs)) e ∙ append_assoc h.0 (codes "or" ∷ h.1) (s ++ xs)) ])

-- words behind which a topic may stand that begins as a value does, or otherwise
abbrev pub Opened : Words → Expected → Bool → Type 0
Opened ys e value = ((e.topics ≡ []) × (ys ≡ claim_text e.claim ∷ [])) ⊎ ((zs s : Words) × SpellsOne zs e × Parts s (last_in_item e.topics) value × (ys ≡ zs ++ s))

closed : (ys zs : Words) (e : Expected) (t : Topic) → Opened ys e (begins_as_value t) → SpellsTopic zs t → SpellsOne (ys ++ zs) (with_topic e t)
closed ys zs e t (inl h) k = (zs, ap (λ l. l ++ zs) h.1, subst (λ l. SpellsTopics zs (l ++ t ∷ [])) (sym h.0) k)
closed ys zs e t (inr (xs, s, (after, is, h), p, same)) k =
    (after ++ (s ++ zs), ap (λ l. l ++ zs) same ∙ ap (λ l. (l ++ s) ++ zs) is ∙ ap (λ l. claim_text e.claim ∷ l) (append_assoc after s zs), topics_more after zs e.topics t s h k p)

-- ---- the words so far of an expectation

abbrev pub Partial : Place → Words → Type 0
Partial AtClaim xs = xs ≡ []
Partial (AtTopic e) xs = (value : Bool) → Opened xs e value
Partial (AtOutput e end) xs = (ys zs : Words) × Opened ys e (begins_as_value (Ends end None)) × SpellsEnd zs end × (xs ≡ ys ++ (zs ++ codes "output" ∷ []))
Partial (AtShown e) xs = (ys : Words) × Opened ys e false × (xs ≡ ys ++ codes "shown" ∷ [])
Partial (After e t) xs = (ys zs : Words) × Opened ys e (begins_as_value t) × SpellsTopic zs t × (xs ≡ ys ++ zs)

after_spelled : (e : Expected) (t : Topic) (xs : Words) → Partial (After e t) xs → SpellsOne xs (with_topic e t)
after_spelled e t xs (ys, zs, o, h, is) = subst (λ l. SpellsOne l (with_topic e t)) (sym is) (closed ys zs e t o h)

-- ---- a topic begins

waiting_value : value_in (codes "waiting") ≡ Some (codes "waiting")
unfolding is_value is_character is_name reserved
waiting_value = ap (λ b. if b || true then Some (codes "waiting") else None) (not_integer 119 (codes "aiting") refl (λ h. omega (arith, h)))

alone_value : value_in (codes "alone") ≡ Some (codes "alone")
unfolding is_value is_character is_name reserved
alone_value = ap (λ b. if b || true then Some (codes "alone") else None) (not_integer 97 (codes "lone") refl (λ h. omega (arith, h)))

spins_value : value_in (codes "spins") ≡ Some (codes "spins")
unfolding is_value is_character is_name reserved
spins_value = ap (λ b. if b || true then Some (codes "spins") else None) (not_integer 115 (codes "pins") refl (λ h. omega (arith, h)))

-- behind these words a topic may stand; one that begins with a value, only if the word is one
abbrev pub OpenedBy : Words → Expected → List ℕ → Type 0
OpenedBy xs e w = (value : Bool) → (value ≡ true → value_in w ≡ Some w) → Opened xs e value

begun_sound : (e : Expected) (xs : Words) (w : List ℕ) (place : Place) → OpenedBy xs e w → begun e w ≡ Some place → Partial place (xs ++ w ∷ [])
begun_sound e xs w place o h =
    elim (stands (beginnings e) w place h) [ inl k ↦ by k.1 (xs, w ∷ [], plain, one k.0, refl) | inr a ↦ elim a [ inl k ↦ by k.1 (xs, w ∷ [], plain, one k.0, refl) | inr b ↦ elim b [ inl k ↦ by k.1 (xs, w ∷ [], plain, one k.0, refl) | inr c ↦ elim c [ inl k ↦ by k.1 (xs, plain, ap (λ x. xs ++ x ∷ []) k.0) | inr d ↦ elim d [ inl k ↦ by k.1 (xs, w ∷ [], o true (λ _. as_value k.0 alone_value), ([], one k.0, refl), refl) | inr f ↦ elim f [ inl k ↦ by k.1 (xs, w ∷ [], o true (λ _. as_value k.0 spins_value), ([], one k.0, refl), refl) | inr g ↦ elim g [ inl k ↦ by k.1 (xs, w ∷ [], o true (λ _. as_value k.0 waiting_value), ([], one k.0, refl), refl) | inr none ↦ absurd none ] ] ] ] ] ] ]
  where
    plain : Opened xs e false
    plain = o false (λ f. absurd (cc (f)))

    one : {v : List ℕ} → w ≡ v → w ∷ [] ≡ v ∷ []
    one k = ap (λ x. x ∷ []) k

    as_value : {v : List ℕ} → w ≡ v → value_in v ≡ Some v → value_in w ≡ Some w
    as_value k is = subst (λ x. value_in x ≡ Some x) (sym k) is

    by : {p : Place} → place ≡ p → Partial p (xs ++ w ∷ []) → Partial place (xs ++ w ∷ [])
    by k r = subst (λ q. Partial q (xs ++ w ∷ [])) (sym k) r

-- ---- a topic goes on

-- a word more makes this end of an end
abbrev pub Grows : Expected → End → Words → List ℕ → Addition → Type 0
Grows e end zs w a = (x : End) × (added e (Ends end None) a ≡ After e (Ends x None)) × SpellsEnd (zs ++ w ∷ []) x × (begins_as_value (Ends x None) ≡ begins_as_value (Ends end None))

process_named : (w : List ℕ) (a : Addition) → option_map Process (process_in w) ≡ Some a → (name : List ℕ) × SpellsProcess w name × (Process name ≡ a)
process_named w a h = split (process_in w) refl h
  where
    split : (o : Option (List ℕ)) → process_in w ≡ o → option_map Process o ≡ Some a → (name : List ℕ) × SpellsProcess w name × (Process name ≡ a)
    split None is k = absurd (cc)
    split (Some name) is k = (name, process_spelled w name is, some_same _ a k)

processes_more : (ws : Words) (ps : List (List ℕ)) (w n : List ℕ) → SpellsProcesses ws ps → SpellsProcess w n → SpellsProcesses (ws ++ w ∷ []) (ps ++ n ∷ [])
processes_more ws [] w n h k = absurd h
processes_more ws (p ∷ []) w n h k = (h.0, w ∷ [], ap (λ l. l ++ w ∷ []) h.1, h.2, (w, refl, k))
processes_more ws (p ∷ q ∷ ps) w n h k = (h.0, h.1 ++ w ∷ [], ap (λ l. l ++ w ∷ []) h.2, h.3, processes_more h.1 (q ∷ ps) w n h.4 k)

who_more : (e : Expected) (who : Who) (zs : Words) (w : List ℕ) (a : Addition) → SpellsEnd zs (AllWaiting (Some who)) → who_addition who w ≡ Some a → Grows e (AllWaiting (Some who)) zs w a
who_more e who zs w a (after, is, (names, h, same)) k = split who.others refl k
  where
    bare : who.others ≡ false → after ≡ names
    bare alone = same ∙ ap (λ b. names ++ (if b then codes ".." ∷ [] else [])) alone ∙ append-nil names

    longer : zs ++ w ∷ [] ≡ codes "all-waiting" ∷ (after ++ w ∷ [])
    longer = ap (λ l. l ++ w ∷ []) is

    third : who.others ≡ false → option_map Process (process_in w) ≡ Some a → Grows e (AllWaiting (Some who)) zs w a
    third alone l =
        let p = process_named w a l in
        subst (Grows e (AllWaiting (Some who)) zs w) p.2 (AllWaiting (Some (with_process who p.0)), refl, (after ++ w ∷ [], longer, (names ++ w ∷ [], processes_more names who.processes w p.0 h p.1, ap (λ l. l ++ w ∷ []) (bare alone) ∙ sym (append-nil (names ++ w ∷ [])) ∙ ap (λ b. (names ++ w ∷ []) ++ (if b then codes ".." ∷ [] else [])) (sym alone))), refl)

    second : (b : Bool) → bytes_eq w (codes "..") ≡ b → who.others ≡ false → (if b then Some Others else option_map Process (process_in w)) ≡ Some a → Grows e (AllWaiting (Some who)) zs w a
    second true dots alone l =
        subst (Grows e (AllWaiting (Some who)) zs w) (some_same _ a l) (AllWaiting (Some (with_others who)), refl, (after ++ w ∷ [], longer, (names, h, ap (λ l. l ++ w ∷ []) (bare alone) ∙ ap (λ x. names ++ x ∷ []) (same_words w (codes "..") dots))), refl)
    second false dots alone l = third alone l

    split : (b : Bool) → who.others ≡ b → (if b then None else (if bytes_eq w (codes "..") then Some Others else option_map Process (process_in w))) ≡ Some a → Grows e (AllWaiting (Some who)) zs w a
    split true alone l = absurd (cc)
    split false alone l = second (bytes_eq w (codes "..")) refl alone l

end_more : (e : Expected) (end : End) (zs : Words) (w : List ℕ) (a : Addition) → SpellsEnd zs end → end_addition end w ≡ Some a → Grows e end zs w a
end_more e Finished zs w a h k = absurd (cc)
end_more e (Error name) zs w a h k = absurd (cc)
end_more e AnyError zs w a h k = split (meant_by errors w) refl k
  where
    split : (o : Option ErrorName) → meant_by errors w ≡ o → option_map Name o ≡ Some a → Grows e AnyError zs w a
    split None is l = absurd (cc)
    split (Some name) is l = subst (Grows e AnyError zs w) (some_same _ a l) (Error name, refl, ap (λ x. x ++ w ∷ []) h ∙ ap (λ x. codes "run-error" ∷ x ∷ []) (error_is w name is), refl)
end_more e (AllWaiting None) zs w a h k =
    let p = process_named w a k in
    subst (Grows e (AllWaiting None) zs w) p.2 (AllWaiting (Some (one_who p.0)), refl, (w ∷ [], ap (λ l. l ++ w ∷ []) h, (w ∷ [], (w, refl, p.1), refl)), refl)
end_more e (AllWaiting (Some who)) zs w a h k = who_more e who zs w a h k
end_more e (Alone None) zs w a h k =
    let p = process_named w a k in
    subst (Grows e (Alone None) zs w) p.2 (Alone (Some p.0), refl, (w ∷ [], ap (λ l. l ++ w ∷ []) (h.1 ∙ ap (λ l. codes "alone" ∷ l) h.2), (w, refl, p.1)), refl)
end_more e (Alone (Some name)) zs w a h k = absurd (cc)
end_more e (Spins None) zs w a h k =
    let p = process_named w a k in
    subst (Grows e (Spins None) zs w) p.2 (Spins (Some p.0), refl, (w ∷ [], ap (λ l. l ++ w ∷ []) (h.1 ∙ ap (λ l. codes "spins" ∷ l) h.2), (w, refl, p.1)), refl)
end_more e (Spins (Some name)) zs w a h k = absurd (cc)

items_more : (ws : Words) (is : List Item) (w : List ℕ) (i : Item) → SpellsItems ws is → SpellsItem w i → SpellsItems (ws ++ w ∷ []) (is ++ i ∷ [])
items_more [] [] w i h k = (k, tt)
items_more (v ∷ ws) (j ∷ is) w i h k = (h.0, items_more ws is w i h.1 k)
items_more [] (j ∷ is) w i h k = absurd h
items_more (v ∷ ws) [] w i h k = absurd h

same_beginning : (end : End) (o p : Option (List Item)) → begins_as_value (Ends end o) ≡ begins_as_value (Ends end p)
same_beginning Finished o p = refl
same_beginning AnyError o p = refl
same_beginning (Error name) o p = refl
same_beginning (AllWaiting who) o p = refl
same_beginning (Alone process) o p = refl
same_beginning (Spins process) o p = refl

opened_so : (ys : Words) (e : Expected) (b c : Bool) → b ≡ c → Opened ys e c → Opened ys e b
opened_so ys e b c is o = subst (Opened ys e) (sym is) o

added_sound : (e : Expected) (t : Topic) (xs : Words) (w : List ℕ) (a : Addition) → Partial (After e t) xs → addition t w ≡ Some a → Partial (added e t a) (xs ++ w ∷ [])
added_sound e (Ends end None) xs w a (ys, zs, o, h, is) k = split (bytes_eq w (codes "output")) refl k
  where
    split : (b : Bool) → bytes_eq w (codes "output") ≡ b → (if b then Some Output else end_addition end w) ≡ Some a → Partial (added e (Ends end None) a) (xs ++ w ∷ [])
    split true out l = subst (λ b. Partial (added e (Ends end None) b) (xs ++ w ∷ [])) (some_same _ a l) (ys, zs, o, h, ap (λ l. l ++ w ∷ []) is ∙ append_assoc ys zs (w ∷ []) ∙ ap (λ x. ys ++ (zs ++ x ∷ [])) (same_words w (codes "output") out))
    split false out l =
        let g = end_more e end zs w a h l in
        subst (λ p. Partial p (xs ++ w ∷ [])) (sym g.1) (ys, zs ++ w ∷ [], opened_so ys e _ _ g.3 o, g.2, ap (λ l. l ++ w ∷ []) is ∙ append_assoc ys zs (w ∷ []))
added_sound e (Ends end (Some [])) xs w a p k = absurd (cc)
added_sound e (Ends end (Some (i ∷ is))) xs w a (ys, zs, o, (first, after, h, same, items), whole) k = split (item_in w (value_in w)) refl k
  where
    split : (m : Option Item) → item_in w (value_in w) ≡ m → option_map Another m ≡ Some a → Partial (added e (Ends end (Some (i ∷ is))) a) (xs ++ w ∷ [])
    split None found l = absurd (cc)
    split (Some j) found l =
        subst (λ b. Partial (added e (Ends end (Some (i ∷ is))) b) (xs ++ w ∷ [])) (some_same _ a l) (ys, zs ++ w ∷ [], opened_so ys e _ _ (same_beginning end (Some ((i ∷ is) ++ j ∷ [])) (Some (i ∷ is))) o, (first, after ++ w ∷ [], h, ap (λ l. l ++ w ∷ []) same ∙ append_assoc first (codes "output" ∷ after) (w ∷ []), items_more after (i ∷ is) w j items (item_spelled w j found)), ap (λ l. l ++ w ∷ []) whole ∙ append_assoc ys zs (w ∷ []))
added_sound e (Displays v) xs w a p k = absurd (cc)
added_sound e (Waits None) xs w a (ys, zs, o, h, is) k =
    let p = process_named w a k in
    subst (λ b. Partial (added e (Waits None) b) (xs ++ w ∷ [])) p.2 (ys, zs ++ w ∷ [], o, (w ∷ [], ap (λ l. l ++ w ∷ []) (h.1 ∙ ap (λ l. codes "waiting" ∷ l) h.2), (w, refl, p.1)), ap (λ l. l ++ w ∷ []) is ∙ append_assoc ys zs (w ∷ []))
added_sound e (Waits (Some name)) xs w a p k = absurd (cc)

-- ---- one word more

no_item : (t : Topic) (w : List ℕ) → addition t w ≡ None → value_in w ≡ Some w → ends_in_item t ≡ false
no_item (Ends end None) w h is = refl
no_item (Ends end (Some [])) w h is = refl
no_item (Ends end (Some (i ∷ is))) w h value = let none : option_map Another (item_in w (Some w)) ≡ None = ap (λ o. option_map Another (item_in w o)) (sym value) ∙ h in absurd (cc)
no_item (Displays v) w h is = refl
no_item (Waits process) w h is = refl

joint_sound : (e : Expected) (t : Topic) (xs : Words) (w : List ℕ) (place : Place) → Partial (After e t) xs → addition t w ≡ None → joint (with_topic e t) w ≡ Some place → Partial place (xs ++ w ∷ [])
joint_sound e t xs w place p none k = split (bytes_eq w (codes "or")) refl k
  where
    spelled : SpellsOne xs (with_topic e t)
    spelled = after_spelled e t xs p

    parted : (value : Bool) → (value ≡ true → value_in w ≡ Some w) → (last_in_item (e.topics ++ t ∷ []) && value) ≡ false
    parted false is = both_false (last_in_item (e.topics ++ t ∷ []))
      where
        both_false : (b : Bool) → (b && false) ≡ false
        both_false true = refl
        both_false false = refl
    parted true is = ap (λ b. b && true) (last_added e.topics t ∙ no_item t w none (is refl))

    split : (b : Bool) → bytes_eq w (codes "or") ≡ b → (if b then Some (AtTopic (with_topic e t)) else begun (with_topic e t) w) ≡ Some place → Partial place (xs ++ w ∷ [])
    split true or l = subst (λ q. Partial q (xs ++ w ∷ [])) (some_same _ place l) (λ value. inr (xs, w ∷ [], spelled, inr (ap (λ x. x ∷ []) (same_words w (codes "or") or)), refl))
    split false or l = begun_sound (with_topic e t) xs w place (λ value is. inr (xs, [], spelled, inl (refl, parted value is), sym (append-nil xs))) l

after_sound : (e : Expected) (t : Topic) (xs : Words) (w : List ℕ) (place : Place) → Partial (After e t) xs → (o : Option Addition) → addition t w ≡ o → option_or (option_map (added e t) o) (joint (with_topic e t) w) ≡ Some place → Partial place (xs ++ w ∷ [])
after_sound e t xs w place p (Some a) is k = subst (λ q. Partial q (xs ++ w ∷ [])) (some_same _ place k) (added_sound e t xs w a p is)
after_sound e t xs w place p None is k = joint_sound e t xs w place p is k

output_sound : (e : Expected) (end : End) (xs : Words) (w : List ℕ) (place : Place) → Partial (AtOutput e end) xs → next (AtOutput e end) w ≡ Some place → Partial place (xs ++ w ∷ [])
output_sound e end xs w place (ys, zs, o, h, is) k = split (bytes_eq w (codes "-")) refl k
  where
    whole : xs ++ w ∷ [] ≡ ys ++ (zs ++ codes "output" ∷ w ∷ [])
    whole = ap (λ l. l ++ w ∷ []) is ∙ append_assoc ys (zs ++ codes "output" ∷ []) (w ∷ []) ∙ ap (λ l. ys ++ l) (append_assoc zs (codes "output" ∷ []) (w ∷ []))

    begun_so : (items : List Item) → SpellsOutput (w ∷ []) items → Partial (After e (Ends end (Some items))) (xs ++ w ∷ [])
    begun_so items spelled = (ys, zs ++ codes "output" ∷ w ∷ [], opened_so ys e _ _ (same_beginning end (Some items) None) o, (zs, w ∷ [], h, refl, spelled), whole)

    item : (m : Option Item) → item_in w (value_in w) ≡ m → option_map (λ i. After e (Ends end (Some (i ∷ [])))) m ≡ Some place → Partial place (xs ++ w ∷ [])
    item None found l = absurd (cc)
    item (Some i) found l = subst (λ q. Partial q (xs ++ w ∷ [])) (some_same _ place l) (begun_so (i ∷ []) (item_spelled w i found, tt))

    split : (b : Bool) → bytes_eq w (codes "-") ≡ b → (if b then Some (After e (Ends end (Some []))) else option_map (λ i. After e (Ends end (Some (i ∷ [])))) (item_in w (value_in w))) ≡ Some place → Partial place (xs ++ w ∷ [])
    split true hyphen l = subst (λ q. Partial q (xs ++ w ∷ [])) (some_same _ place l) (begun_so [] (ap (λ x. x ∷ []) (same_words w (codes "-") hyphen)))
    split false hyphen l = item (item_in w (value_in w)) refl l

shown_sound : (e : Expected) (xs : Words) (w : List ℕ) (place : Place) → Partial (AtShown e) xs → next (AtShown e) w ≡ Some place → Partial place (xs ++ w ∷ [])
shown_sound e xs w place (ys, o, is) k = split (value_in w) refl k
  where
    split : (m : Option (List ℕ)) → value_in w ≡ m → option_map (λ v. After e (Displays v)) m ≡ Some place → Partial place (xs ++ w ∷ [])
    split None found l = absurd (cc)
    split (Some v) found l = subst (λ q. Partial q (xs ++ w ∷ [])) (some_same _ place l) (ys, codes "shown" ∷ w ∷ [], o, (w, refl, value_spelled w v found), ap (λ l. l ++ w ∷ []) is ∙ append_assoc ys (codes "shown" ∷ []) (w ∷ []))

claim_sound : (xs : Words) (w : List ℕ) (place : Place) → xs ≡ [] → next AtClaim w ≡ Some place → Partial place (xs ++ w ∷ [])
claim_sound xs w place h k = split (meant_by claims w) refl k
  where
    split : (m : Option Claim) → meant_by claims w ≡ m → option_map (λ c. AtTopic (record { claim = c; topics = [] })) m ≡ Some place → Partial place (xs ++ w ∷ [])
    split None is l = absurd (cc)
    split (Some c) is l = subst (λ q. Partial q (xs ++ w ∷ [])) (some_same _ place l) (λ value. inl (refl, ap (λ x. x ++ w ∷ []) h ∙ ap (λ x. x ∷ []) (claim_is w c is)))

next_sound : (from place : Place) (xs : Words) (w : List ℕ) → Partial from xs → next from w ≡ Some place → Partial place (xs ++ w ∷ [])
next_sound AtClaim place xs w h k = claim_sound xs w place h k
next_sound (AtTopic e) place xs w h k = begun_sound e xs w place (λ value _. h value) k
next_sound (AtOutput e end) place xs w h k = output_sound e end xs w place h k
next_sound (AtShown e) place xs w h k = shown_sound e xs w place h k
next_sound (After e t) place xs w h k = after_sound e t xs w place h (addition t w) refl k

-- ---- all words so far

abbrev pub Before : Words → List Expected → Type 0
Before pre done = ((done ≡ []) × (pre ≡ [])) ⊎ ((qs : Words) × Spells qs done × (pre ≡ qs ++ codes "and" ∷ []))

abbrev pub Reads : State → Words → Type 0
Reads s ws = (pre xs : Words) × Before pre s.done × (ws ≡ pre ++ xs) × Partial s.place xs

spelled_so_far : (done : List Expected) (pre xs : Words) (e : Expected) → Before pre done → SpellsOne xs e → Spells (pre ++ xs) (done ++ e ∷ [])
spelled_so_far done pre xs e (inl h) k = subst (λ l. Spells (pre ++ xs) (l ++ e ∷ [])) (sym h.0) (subst (λ l. SpellsOne (l ++ xs) e) (sym h.1) k)
spelled_so_far done pre xs e (inr (qs, h, is)) k =
    subst (λ l. Spells (l ++ xs) (done ++ e ∷ [])) (sym is) (subst (λ l. Spells l (done ++ e ∷ [])) (sym (append_assoc qs (codes "and" ∷ []) xs)) (joined_more SpellsOne qs xs done e h k))

whole_spelled : (place : Place) (xs : Words) (e : Expected) → Partial place xs → expected_at place ≡ Some e → SpellsOne xs e
whole_spelled (After d t) xs e h k = subst (SpellsOne xs) (some_same _ e k) (after_spelled d t xs h)
whole_spelled _ xs e h k = absurd (cc)

ended_spelled : (s : State) (ws : Words) (e : Expected) → Reads s ws → expected_at s.place ≡ Some e → Spells ws (s.done ++ e ∷ [])
ended_spelled s ws e (pre, xs, before, is, h) k = subst (λ l. Spells l (s.done ++ e ∷ [])) (sym is) (spelled_so_far s.done pre xs e before (whole_spelled s.place xs e h k))

step_sound : (s t : State) (ws : Words) (w : List ℕ) → Reads s ws → step s w ≡ Some t → Reads t (ws ++ w ∷ [])
unfolding step
step_sound s t ws w r k = split (bytes_eq w (codes "and")) refl k
  where
    over : (o : Option Expected) → expected_at s.place ≡ o → behind s.done o ≡ Some t → w ≡ codes "and" → Reads t (ws ++ w ∷ [])
    over None is l and = absurd (cc)
    over (Some e) is l and = subst (λ u. Reads u (ws ++ w ∷ [])) (some_same _ t l) (ws ++ w ∷ [], [], inr (ws, ended_spelled s ws e r is, ap (λ x. ws ++ x ∷ []) and), sym (append-nil (ws ++ w ∷ [])), refl)

    on : (o : Option Place) → next s.place w ≡ o → option_map (λ place. at s.done place) o ≡ Some t → Reads t (ws ++ w ∷ [])
    on None is l = absurd (cc)
    on (Some place) is l =
        subst (λ u. Reads u (ws ++ w ∷ [])) (some_same _ t l) (r.0, r.1 ++ w ∷ [], r.2, ap (λ x. x ++ w ∷ []) r.3 ∙ append_assoc r.0 r.1 (w ∷ []), next_sound s.place place r.1 w r.4 is)

    split : (b : Bool) → bytes_eq w (codes "and") ≡ b → (if b then behind s.done (expected_at s.place) else option_map (λ place. at s.done place) (next s.place w)) ≡ Some t → Reads t (ws ++ w ∷ [])
    split true is l = over (expected_at s.place) refl l (same_words w (codes "and") is)
    split false is l = on (next s.place w) refl l

run_sound : (ws pre : Words) (s t : State) → Reads s pre → run step (Some s) ws ≡ Some t → Reads t (pre ++ ws)
run_sound [] pre s t r h = subst (λ u. Reads u (pre ++ [])) (some_same s t h) (subst (Reads s) (sym (append-nil pre)) r)
run_sound (w ∷ ws) pre s t r h = split (step s w) refl h (λ u. run_sound ws (pre ++ w ∷ []) u t)
  where
    split : (o : Option State) → step s w ≡ o → run step o ws ≡ Some t → ((u : State) → Reads u (pre ++ w ∷ []) → run step (Some u) ws ≡ Some t → Reads t ((pre ++ w ∷ []) ++ ws)) → Reads t (pre ++ w ∷ ws)
    split None is k more = absurd (cc)
    split (Some u) is k more = subst (Reads t) (append_assoc pre (w ∷ []) ws) (more u (step_sound s u pre w r is) k)

pub read_spelled : (ws : Words) (es : List Expected) → finish ended (run step (Some start) ws) ≡ Some es → Spells ws es
read_spelled ws es h = split (run step (Some start) ws) refl h
  where
    over : (t : State) → Reads t ws → (o : Option Expected) → expected_at t.place ≡ o → option_map (λ e. t.done ++ e ∷ []) o ≡ Some es → Spells ws es
    over t r None is k = absurd (cc)
    over t r (Some e) is k = subst (Spells ws) (some_same _ es k) (ended_spelled t ws e r is)

    split : (o : Option State) → run step (Some start) ws ≡ o → finish ended o ≡ Some es → Spells ws es
    split None is k = absurd (cc)
    split (Some t) is k = over t (run_sound ws [] start t ([], [], inl (refl, refl), refl, refl) is) (expected_at t.place) refl k
