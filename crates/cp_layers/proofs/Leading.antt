-- Words that lead to the states of layers, and to marks.
use Rattle.std.proofs.Common.{◌≡◌, ◌⊎◌, inl, inr, ⊎_elim, ◌<◌, ◌≤◌, ◌+◌, ◌*◌, ℕ, zero, suc, Bool, true, false, not, if◌then◌else◌, List, [], ◌∷◌, ◌++◌, length, map, take, drop, Some, refl, sym, ap, subst, ◌∙◌, arith, mul-le-mul, suc-mul}
use Rattle.std.specs.Prelude.{Contains, slice_get, ◌-◌, ◌^◌, min, slice_range}
use lib.Seq.{take-append_seam, drop-append-add}
use Rattle.std.specs.List.{list_any}
use Rattle.indexmap.specs.IndexSet.{insert_key}
use Rattle.std.proofs.lemmas.List.{append-nil, append_assoc, length-append}
use Rattle.std.proofs.lemmas.List.Elements.{Contains-append_left, Contains-append_right, Contains-append_cases, Contains-push, Contains-push_cases}
use Rattle.std.proofs.lemmas.Option.{same_Some, slice_get_within}
use Rattle.cp_machine.specs.declared.discipline.Discipline.{Discipline}
use Rattle.cp_key.proofs.Keys.{key_tells}
use Rattle.cp_run.specs.Run.{Node, Choosing, may, chosen, opened}
use Rattle.cp_run.specs.Slots.{slots}
use Rattle.cp_layers.proofs.Words.{Tables, Machine, System, StateKey, Marking}
use Rattle.cp_layers.proofs.FromState.{same_key}
use Rattle.cp_layers.specs.Adding.{HasNoOthers}
use Rattle.cp_layers.specs.Layers.{IsKeyOf}
use Rattle.cp_layers.specs.Leading.{AreLeading, AreWords, HasWords, IsDueBy, IsReachedBy, KnowsWords, LeadsToKey, with_word}

none_in : {X : Type 0} (x : X) → Contains [] x → ⊥
none_in x h = let lt = h.1 in absurd (omega (arith, lt))

-- a mark that is there with a word
pub with_word_parts : {A : Type 0} (word : List ℕ) (marks : List A) (x : A × List ℕ) → Contains (with_word word marks) x → Contains marks x.0 × (x.1 ≡ word)
with_word_parts word [] x h = absurd (none_in x h)
with_word_parts {A} word (mark ∷ marks) x h = by (Contains-append_cases ((mark, word) ∷ []) (with_word word marks) x h) (with_word_parts word marks x)
  where
    first : Contains [] x ⊎ ((mark, word) ≡ x) → Contains (mark ∷ marks) x.0 × (x.1 ≡ word)
    first (inl none) = absurd (none_in x none)
    first (inr e) = (Contains-append_left (mark ∷ []) marks x.0 (subst (Contains (mark ∷ [])) (ap (λ (y : A × List ℕ). y.0) e) (Contains-push [] mark)), sym (ap (λ (y : A × List ℕ). y.1) e))

    by : Contains ((mark, word) ∷ []) x ⊎ Contains (with_word word marks) x → (Contains (with_word word marks) x → Contains marks x.0 × (x.1 ≡ word)) → Contains (mark ∷ marks) x.0 × (x.1 ≡ word)
    by (inl here) rest = first (Contains-push_cases [] (mark, word) x here)
    by (inr later) rest = let r = rest later in (Contains-append_right (mark ∷ []) marks x.0 r.0, r.1)

module _ (sys : System Machine) (steps : ℕ) where
  pub due_length : (d : ℕ) (word : List ℕ) (m : Machine) → IsDueBy sys steps d word m → length word ≡ d
  due_length zero word m h = ap length h.0
  due_length (suc d) word m h =
      let before = due_length d h.2 h.0 h.4 in
      let len = length-append h.2 (h.1 ∷ []) in
      let same = ap length h.3 in
      omega (arith, before, len, same)

  pub leads_to : (d : ℕ) (word : List ℕ) (key : StateKey) (m : Machine) → LeadsToKey sys steps d word key → IsKeyOf key m → IsDueBy sys steps d word m
  leads_to d word key m x is = subst (IsDueBy sys steps d word) (key_tells x.0 m (sym x.2 ∙ is)) x.1

  module _ (d : ℕ) where
    -- one word more, for one key more
    pub words_more : (keys : List StateKey) (key : StateKey) (words word : List ℕ) → AreWords sys steps d keys words → LeadsToKey sys steps d word key → AreWords sys steps d (keys ++ key ∷ []) (words ++ word)
    words_more [] key words word none leads = (word, [], ap (λ l. l ++ word) none ∙ sym (append-nil word), leads, refl)
    words_more (k ∷ keys) key words word h leads = (h.0, h.1 ++ word, ap (λ l. l ++ word) h.2 ∙ append_assoc h.0 h.1 word, h.3, words_more keys key h.1 word h.4 leads)

    -- a key that may be known
    pub words_new : (keys : List StateKey) (key : StateKey) (words word : List ℕ) (b : Bool) → b ≡ not (list_any (same_key key) keys) → b ≡ true → AreWords sys steps d keys words → LeadsToKey sys steps d word key → AreWords sys steps d (insert_key same_key keys key) (words ++ word)
    words_new keys key words word b is new h leads = by (list_any (same_key key) keys) refl
      where
        by : (a : Bool) → list_any (same_key key) keys ≡ a → AreWords sys steps d (if a then keys else keys ++ key ∷ []) (words ++ word)
        by true e = let wrong : true ≡ false = sym new ∙ is ∙ ap not e in absurd (cc)
        by false e = words_more keys key words word h leads

    pub words_known : (keys : List StateKey) (key : StateKey) (words : List ℕ) (b : Bool) → b ≡ not (list_any (same_key key) keys) → b ≡ false → AreWords sys steps d keys words → AreWords sys steps d (insert_key same_key keys key) words
    words_known keys key words b is known h = by (list_any (same_key key) keys) refl
      where
        by : (a : Bool) → list_any (same_key key) keys ≡ a → AreWords sys steps d (if a then keys else keys ++ key ∷ []) words
        by true e = h
        by false e = let wrong : false ≡ true = sym known ∙ is ∙ ap not e in absurd (cc)

    -- the word of a key stands behind those of the keys before it
    pub word_of_key : (keys : List StateKey) (words : List ℕ) (i at : ℕ) (key : StateKey) → at ≡ i * d → AreWords sys steps d keys words → slice_get keys i ≡ Some key → (at + d ≤ length words) × LeadsToKey sys steps d (take d (drop at words)) key
    word_of_key [] words i at key start h is = absurd (cc)
    word_of_key (k ∷ keys) words zero at key start h is =
        let long : length h.0 ≡ d = due_length d h.0 h.3.0 h.3.1 in
        let here : at ≡ 0 = omega (arith, start) in
        let len = ap length h.2 ∙ length-append h.0 h.1 in
        let read : take d (drop at words) ≡ h.0 = ap (λ n. take d (drop n words)) here ∙ ap (λ n. take n words) (sym long) ∙ ap (take (length h.0)) h.2 ∙ take-append_seam h.0 h.1 in
        (omega (arith, len, long, here), subst (LeadsToKey sys steps d (take d (drop at words))) (same_Some k key is) (subst (λ w. LeadsToKey sys steps d w k) (sym read) h.3))
    word_of_key (k ∷ keys) words (suc i) at key start h is =
        let long : length h.0 ≡ d = due_length d h.0 h.3.0 h.3.1 in
        let rest = word_of_key keys h.1 i (i * d) key refl h.4 is in
        let within = rest.0 in
        let more = suc-mul i d in
        let len = ap length h.2 ∙ length-append h.0 h.1 in
        let place : at ≡ length h.0 + i * d = omega (arith, start, more, long) in
        let read : drop at words ≡ drop (i * d) h.1 = ap (λ n. drop n words) place ∙ ap (drop (length h.0 + i * d)) h.2 ∙ drop-append-add h.0 h.1 (i * d) in
        (omega (arith, within, place, len, long), subst (λ w. LeadsToKey sys steps d (take d w) key) (sym read) rest.1)

    -- where numbers are small nothing is cut
    pub places_are : (i from to : ℕ) → i < 2 ^ 32 → d < 2 ^ 8 → from ≡ min (i * d) (2 ^ 64 - 1) → to ≡ min (from + d) (2 ^ 64 - 1) → (from ≡ i * d) × (to ≡ from + d)
    places_are i from to small short begin end =
        let bound : i * d ≤ 4294967295 * 255 = mul-le-mul {n₁ = i} {m₁ = d} {n₂ = 4294967295} {m₂ = 255} (omega (arith, small)) (omega (arith, short)) in
        (omega (arith, begin, bound), omega (arith, begin, bound, end, short))

    pub word_read : (keys : List StateKey) (words list word : List ℕ) (i from to : ℕ) (key : StateKey) (m : Machine) → list ≡ words → (from ≡ i * d) × (to ≡ from + d) → word ≡ slice_range list from to → AreWords sys steps d keys words → slice_get keys i ≡ Some key → IsKeyOf key m → IsDueBy sys steps d word m
    word_read keys words list word i from to key m same place read h at is =
        let long : to - from ≡ d = let end = place.1 in omega (arith, end) in
        let here : word ≡ take d (drop from words) = read ∙ ap (λ n. take n (drop from list)) long ∙ ap (λ l. take d (drop from l)) same in
        leads_to d word key m (subst (λ w. LeadsToKey sys steps d w key) (sym here) (word_of_key keys words i from key place.0 h at).1) is

    pub word_there : (keys : List StateKey) (words list : List ℕ) (i from to : ℕ) (key : StateKey) → list ≡ words → (from ≡ i * d) × (to ≡ from + d) → (to < from) ⊎ (length list < to) → AreWords sys steps d keys words → slice_get keys i ≡ Some key → ⊥
    word_there keys words list i from to key same place none h at =
        let within = (word_of_key keys words i from key place.0 h at).0 in
        let end = place.1 in
        let len = ap length same in
        ⊎_elim (λ (l : to < from). absurd (omega (arith, l, end))) (λ (m : length list < to). absurd (omega (arith, m, end, within, len))) none

-- ---- marks

pub leading_later : {A : Type 0} (marking : Marking A) (sys : System Machine) (steps d k : ℕ) (words : List (A × List ℕ)) → d ≤ k → AreLeading marking sys steps d words → AreLeading marking sys steps k words
leading_later marking sys steps d k words le h = λ x c. (let y = h x c in let len = y.1 in (y.0, omega (arith, len, le)))

pub leading_both : {A : Type 0} (marking : Marking A) (sys : System Machine) (steps d : ℕ) (a b c : List (A × List ℕ)) → AreLeading marking sys steps d a → AreLeading marking sys steps d b → HasNoOthers a b c → AreLeading marking sys steps d c
leading_both marking sys steps d a b c f g h = λ x i. ⊎_elim (λ (l : Contains a x). f x l) (λ (r : Contains b x). g x r) (h x i)

pub leading_none : {A : Type 0} (marking : Marking A) (sys : System Machine) (steps d : ℕ) → AreLeading marking sys steps d []
leading_none marking sys steps d = λ x c. absurd (none_in x c)

-- before the first choice
pub leading_opened : {A : Type 0} (marking : Marking A) (sys : System Machine) (steps : ℕ) → AreLeading marking sys steps 0 (with_word [] (marking.opened))
leading_opened marking sys steps = λ x c.
    (let y = with_word_parts [] (marking.opened) x c in
    let len = ap length y.1 in
    (inl (y.1, y.0), omega (arith, len)))

-- after a choice
pub leading_chosen : {A : Type 0} (marking : Marking A) (sys : System Machine) (steps d : ℕ) (before word : List ℕ) (m : Machine) (p : ℕ) → word ≡ before ++ p ∷ [] → IsDueBy sys steps d before m → may sys m p ≡ true → AreLeading marking sys steps (suc d) (with_word word (marking.chosen m p))
leading_chosen marking sys steps d before word m p is due may = λ x c.
    (let y = with_word_parts word (marking.chosen m p) x c in
    let long = due_length sys steps d before m due in
    let len = ap length y.1 ∙ ap length is ∙ length-append before (p ∷ []) in
    (inr (d, m, p, before, y.1 ∙ is, due, may, y.0), omega (arith, len, long)))

-- ---- in a search

-- the same limits
pub words_as : {A : Type 0} (marking : System Machine → ℕ → Marking A) (r : Tables) (discipline other : Discipline) (steps more d e : ℕ) (keys : List StateKey) (words : List ℕ) (marks : List (A × List ℕ)) → discipline ≡ other → steps ≡ more → d ≡ e → KnowsWords (marking (slots r discipline) steps) (slots r discipline) steps d keys words marks → KnowsWords (marking (slots r other) more) (slots r other) more e keys words marks
words_as marking r discipline other steps more d e keys words marks g s same h =
    subst
    (λ (x : Discipline). KnowsWords (marking (slots r x) more) (slots r x) more e keys words marks)
    g
    (subst
    (λ (x : ℕ). KnowsWords (marking (slots r discipline) x) (slots r discipline) x e keys words marks)
    s
    (subst (λ (x : ℕ). KnowsWords (marking (slots r discipline) steps) (slots r discipline) steps x keys words marks) same h))

module _ {A : Type 0} (marking : Marking A) (sys : System Machine) (steps : ℕ) where
  pub words_first : (keys : List StateKey) (words : List ℕ) (old marks : List (A × List ℕ)) → AreWords sys steps 0 keys words → old ≡ [] → HasNoOthers old (with_word [] (marking.opened)) marks → KnowsWords marking sys steps 0 keys words marks
  words_first keys words old marks layer none h =
      record {
        layer = layer;
        marks = leading_both marking sys steps 0 [] (with_word [] (marking.opened)) marks (leading_none marking sys steps 0) (leading_opened marking sys steps) (subst (λ l. HasNoOthers l (with_word [] (marking.opened)) marks) none h);
      }

  module _ (d : ℕ) where
    pub words_begun : (old layer next : List StateKey) (old_words words next_words : List ℕ) (marks : List (A × List ℕ)) → layer ≡ old → words ≡ old_words → next ≡ [] → next_words ≡ [] → KnowsWords marking sys steps d old old_words marks → HasWords marking sys steps d layer words next next_words marks
    words_begun old layer next old_words words next_words marks same same_words empty empty_words k =
        record {
          layer = subst (λ l. AreWords sys steps d l words) (sym same) (subst (AreWords sys steps d old) (sym same_words) k.layer);
          next = subst (λ l. AreWords sys steps (suc d) l next_words) (sym empty) empty_words;
          marks = leading_later marking sys steps d (suc d) marks (omega arith) k.marks;
        }

    pub words_after : (layer next : List StateKey) (words next_words : List ℕ) (marks : List (A × List ℕ)) → HasWords marking sys steps d layer words next next_words marks → KnowsWords marking sys steps (suc d) next next_words marks
    words_after layer next words next_words marks h = record { layer = h.next; marks = h.marks }

    pub words_taken : (layer next next2 : List StateKey) (words next_words next_words2 before word : List ℕ) (marks marks2 : List (A × List ℕ)) (m : Machine) (p : ℕ) → HasWords marking sys steps d layer words next next_words marks → IsDueBy sys steps d before m → may sys m p ≡ true → word ≡ before ++ p ∷ [] → HasNoOthers marks (with_word word (marking.chosen m p)) marks2 → AreWords sys steps (suc d) next2 next_words2 → HasWords marking sys steps d layer words next2 next_words2 marks2
    words_taken layer next next2 words next_words next_words2 before word marks marks2 m p h due may is only after =
        record {
          layer = h.layer;
          next = after;
          marks = leading_both marking sys steps (suc d) marks (with_word word (marking.chosen m p)) marks2 h.marks (leading_chosen marking sys steps d before word m p is due may) only;
        }
