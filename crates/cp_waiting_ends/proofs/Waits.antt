-- Ends at which all wait, as they are kept.
use Rattle.std.proofs.Common.{◌≡◌, ◌∙◌, inl, inr, ◌⊎◌, ⊎_elim, ℕ, zero, suc, ◌+◌, Bool, true, false, ◌&&◌, List, [], ◌∷◌, ◌++◌, map, take, None, Some, refl, sym, ap, subst, arith, if◌then◌else◌}
use Rattle.std.specs.Prelude.{Contains, Option, is_some, option_map, slice_get}
use Rattle.std.specs.Map.{lookup}
use Rattle.std.proofs.lemmas.Map.Entries.{place_from_lookup}
use Rattle.std.proofs.lemmas.Option.{same_Some}
use Rattle.std.specs.declared.alloc.Global.{Global}
use Rattle.std.specs.declared.vec.Vec.{Vec}
use Rattle.std.specs.Cmp.Lexicographic.{bytes_decides}
use Rattle.std.proofs.lemmas.List.Elements.{Contains-append_left, Contains-append_right, Contains-append_cases, Contains-push_cases}
use Rattle.indexmap.specs.IndexMap.{insert_entry}
use Rattle.cp_machine.specs.Machine.{Machine}
use Rattle.cp_machine.specs.declared.shown.Shown.{Shown}
use Rattle.cp_merged.proofs.Exact.{exact_outcomes}
use Rattle.cp_run.specs.Code.{node_of}
use Rattle.cp_run.specs.Run.{those_below}
use Rattle.cp_run.specs.System.{System}
use Rattle.cp_run.specs.declared.outcome.Halt.{Halt}
use Rattle.cp_run.specs.declared.outcome.Halt.TheVariants.{Choice, Ended}
use Rattle.cp_run.specs.declared.outcome.Outcome.{Outcome}
use Rattle.cp_run.specs.declared.outcome.OutcomeKind.{OutcomeKind}
use Rattle.cp_run.specs.declared.outcome.OutcomeKind.TheVariants.{Finished, AllWaiting, RunError, ChoiceLimit, StepLimit, OutputLimit}
use Rattle.cp_ends.proofs.named.Kinds.{contains_map}
use Rattle.cp_layers.specs.Adding.{Adds, HasNoOthers}
use Rattle.cp_layers.proofs.Adding.{adds_itself, none_has}
use Rattle.cp_layers.proofs.FromLayer.{contains_at}
use Rattle.cp_waiting_ends.specs.Waiting.{WaitsSo, end_seen, entry_seen, entry_word, is_waiting, those_in, waits_at, waits_so}
use Rattle.cp_waiting_ends.specs.contracts.end.WaitingEndPartialEq.TheImpl as end_eq
use Rattle.cp_waiting_ends.specs.declared.end.WaitingEnd.{WaitingEnd}

pub those_more : (n : ℕ) (f : ℕ → Bool) → those_below (n + 1) f ≡ those_below n f ++ (if f n then n ∷ [] else [])
those_more n f = let e : n + 1 ≡ suc n = omega arith in ap (λ k. those_below k f) e

abbrev pub so : List ℕ → Outcome → WaitsSo
so w o = record { who = w; outcome = o }

pub waits_as : (w v : List ℕ) (o p : Outcome) → w ≡ v → o ≡ p → so w o ≡ so v p
waits_as w v o p e f = ap (λ x. so x o) e ∙ ap (λ x. so v x) f

abbrev pub made : OutcomeKind → List Shown → Outcome
made kind output = record { kind = kind; output = output }

-- ---- equal ends

both : (a b : Bool) → (a && b) ≡ true → (a ≡ true) × (b ≡ true)
both true true h = (refl, refl)
both true false h = absurd (cc)
both false b h = absurd (cc)

pub same_seen : (x y : WaitingEnd) → (end_eq.ghosts).eq x y ≡ true → end_seen x ≡ end_seen y
same_seen x y h =
    let e = both _ _ h in
    waits_as x.who.items y.who.items x.key.outcome y.key.outcome ((bytes_decides x.who.items y.who.items).0 e.0) (exact_outcomes.exact x.key.outcome y.key.outcome e.1)

-- ---- one more

abbrev pub Entry : Type 0
Entry = WaitingEnd × Vec ℕ Global

adds_behind_first : (x : WaitsSo) (before more after : List WaitsSo) → Adds before more after → Adds (x ∷ before) more (x ∷ after)
adds_behind_first x before more after h =
    record {
      kept = λ mark c. ⊎_elim (λ (l : Contains (x ∷ []) mark). Contains-append_left (x ∷ []) after mark l) (λ (r : Contains before mark). Contains-append_right (x ∷ []) after mark (h.kept mark r)) (Contains-append_cases (x ∷ []) before mark c);
      added = λ mark c. Contains-append_right (x ∷ []) after mark (h.added mark c);
      only = λ mark c. ⊎_elim (λ (l : Contains (x ∷ []) mark). inl (Contains-append_left (x ∷ []) before mark l)) (λ (r : Contains after mark). ⊎_elim (λ (b : Contains before mark). inl (Contains-append_right (x ∷ []) before mark b)) (λ (m : Contains more mark). inr m) (h.only mark r)) (Contains-append_cases (x ∷ []) after mark c);
    }

adds_first : (x y : WaitsSo) (rest : List WaitsSo) → y ≡ x → Adds (x ∷ rest) (y ∷ []) (x ∷ rest)
adds_first x y rest e =
    record {
      kept = λ mark c. c;
      added = λ mark c. Contains-append_left (x ∷ []) rest mark (subst (λ z. Contains (z ∷ []) mark) e c);
      only = λ mark c. inl c;
    }

pub adds_entry : (es : List Entry) (key : WaitingEnd) (word : Vec ℕ Global) → Adds (map entry_seen es) (end_seen key ∷ []) (map entry_seen (insert_entry (end_eq.ghosts).eq es key word))
adds_entry [] key word = adds_itself (end_seen key ∷ [])
adds_entry (e ∷ es) key word = by ((end_eq.ghosts).eq key e.0) refl (adds_entry es key word)
  where
    by : (b : Bool) → (end_eq.ghosts).eq key e.0 ≡ b → Adds (map entry_seen es) (end_seen key ∷ []) (map entry_seen (insert_entry (end_eq.ghosts).eq es key word)) → Adds (entry_seen e ∷ map entry_seen es) (end_seen key ∷ []) (map entry_seen (if b then (e.0, word) ∷ es else e ∷ insert_entry (end_eq.ghosts).eq es key word))
    by true h rest = adds_first (entry_seen e) (end_seen key) (map entry_seen es) (same_seen key e.0 h)
    by false h rest = adds_behind_first (entry_seen e) (map entry_seen es) (end_seen key ∷ []) (map entry_seen (insert_entry (end_eq.ghosts).eq es key word)) rest

-- the words
pub words_entry : (es : List Entry) (key : WaitingEnd) (word : Vec ℕ Global) → HasNoOthers (map entry_word es) ((end_seen key, word.items) ∷ []) (map entry_word (insert_entry (end_eq.ghosts).eq es key word))
words_entry [] key word = λ x c. inr c
words_entry (e ∷ es) key word = by ((end_eq.ghosts).eq key e.0) refl (words_entry es key word)
  where
    later : (x : WaitsSo × List ℕ) → Contains (map entry_word es) x ⊎ Contains ((end_seen key, word.items) ∷ []) x → Contains (entry_word e ∷ map entry_word es) x ⊎ Contains ((end_seen key, word.items) ∷ []) x
    later x (inl b) = inl (Contains-append_right (entry_word e ∷ []) (map entry_word es) x b)
    later x (inr m) = inr m

    by : (b : Bool) → (end_eq.ghosts).eq key e.0 ≡ b → HasNoOthers (map entry_word es) ((end_seen key, word.items) ∷ []) (map entry_word (insert_entry (end_eq.ghosts).eq es key word)) → HasNoOthers (entry_word e ∷ map entry_word es) ((end_seen key, word.items) ∷ []) (map entry_word (if b then (e.0, word) ∷ es else e ∷ insert_entry (end_eq.ghosts).eq es key word))
    by true h rest = λ x c.
        ⊎_elim
        (λ (l : Contains ((end_seen e.0, word.items) ∷ []) x). inr (subst (λ k. Contains ((k, word.items) ∷ []) x) (sym (same_seen key e.0 h)) l))
        (λ (r : Contains (map entry_word es) x). inl (Contains-append_right (entry_word e ∷ []) (map entry_word es) x r))
        (Contains-append_cases ((end_seen e.0, word.items) ∷ []) (map entry_word es) x c)
    by false h rest = λ x c.
        ⊎_elim
        (λ (l : Contains (entry_word e ∷ []) x). inl (Contains-append_left (entry_word e ∷ []) (map entry_word es) x l))
        (λ (r : Contains (map entry_word (insert_entry (end_eq.ghosts).eq es key word)) x). later x (rest x r))
        (Contains-append_cases (entry_word e ∷ []) (map entry_word (insert_entry (end_eq.ghosts).eq es key word)) x c)

-- an end that is found is among them
pub found_end : (es : List Entry) (key : WaitingEnd) (v : Vec ℕ Global) → lookup ((end_eq.ghosts).eq key) es ≡ Some v → Contains (map entry_seen es) (end_seen key)
found_end es key v h =
    let at = place_from_lookup ((end_eq.ghosts).eq key) es v h in
    subst (Contains (map entry_seen es)) (sym (same_seen key at.1 at.3)) (contains_map entry_seen es (at.1, v) (contains_at es at.0 (at.1, v) at.2))

pub known_end : (es : List Entry) (key : WaitingEnd) (found : Option (Vec ℕ Global)) (b : Bool) → found ≡ lookup ((end_eq.ghosts).eq key) es → b ≡ is_some found → b ≡ true → Contains (map entry_seen es) (end_seen key)
known_end es key None b e is h = absurd (cc)
known_end es key (Some v) b e is h = found_end es key v (sym e)

-- what is there already is added
pub adds_known : (before : List WaitsSo) (x : WaitsSo) → Contains before x → Adds before (x ∷ []) before
adds_known before x there =
    record {
      kept = λ mark c. c;
      added = λ mark c. ⊎_elim (λ (n : Contains [] mark). absurd (none_has mark n)) (λ (e : x ≡ mark). subst (Contains before) e there) (Contains-push_cases [] x mark c);
      only = λ mark c. inl c;
    }

-- ---- one of a number

pub none_at : (o : Option Entry) → None ≡ option_map entry_word o → o ≡ None
none_at None e = refl
none_at (Some x) e = absurd (cc)

pub some_at : (o : Option Entry) (w : WaitsSo) (v : List ℕ) → Some (w, v) ≡ option_map entry_word o → (those_in (option_map entry_seen o) ≡ w ∷ []) × (those_in (option_map entry_word o) ≡ (w, v) ∷ [])
some_at None w v e = absurd (cc)
some_at (Some x) w v e = let same : entry_word x ≡ (w, v) = sym (same_Some (w, v) (entry_word x) e) in (ap (λ (y : WaitsSo × List ℕ). y.0 ∷ []) same, ap (λ (y : WaitsSo × List ℕ). y ∷ []) same)

-- ---- one after the other

-- one more of a list
take_suc : {A B : Type 0} (f : A → B) (xs : List A) (n : ℕ) → map f (take (suc n) xs) ≡ map f (take n xs) ++ those_in (option_map f (slice_get xs n))
take_suc f [] zero = refl
take_suc f [] (suc n) = refl
take_suc f (x ∷ xs) zero = refl
take_suc f (x ∷ xs) (suc n) = ap (λ l. f x ∷ l) (take_suc f xs n)

pub take_one : {A B : Type 0} (f : A → B) (xs : List A) (n : ℕ) → map f (take (n + 1) xs) ≡ map f (take n xs) ++ those_in (option_map f (slice_get xs n))
take_one f xs n = let e : n + 1 ≡ suc n = omega arith in ap (λ k. map f (take k xs)) e ∙ take_suc f xs n

pub others_then : {A : Type 0} (a xs b ys c : List A) → HasNoOthers a xs b → HasNoOthers b ys c → HasNoOthers a (xs ++ ys) c
others_then a xs b ys c f g = λ x h. ⊎_elim
    (λ (l : Contains b x). ⊎_elim (λ (o : Contains a x). inl o) (λ (n : Contains xs x). inr (Contains-append_left xs ys x n)) (f x l))
    (λ (r : Contains ys x). inr (Contains-append_right xs ys x r))
    (g x h)

-- ---- where a stretch halted

module _ (sys : System Machine) (waiting : Machine → ℕ → Bool) (m : Machine) where
  pub waits_there : (halt : Halt OutcomeKind) → is_waiting halt ≡ true → waits_at sys waiting (node_of halt m) ≡ waits_so sys waiting m ∷ []
  waits_there Choice h = absurd (cc)
  waits_there (Ended Finished) h = absurd (cc)
  waits_there (Ended AllWaiting) h = refl
  waits_there (Ended (RunError name process line)) h = absurd (cc)
  waits_there (Ended ChoiceLimit) h = absurd (cc)
  waits_there (Ended StepLimit) h = absurd (cc)
  waits_there (Ended OutputLimit) h = absurd (cc)

  pub waits_nowhere : (halt : Halt OutcomeKind) → is_waiting halt ≡ false → waits_at sys waiting (node_of halt m) ≡ []
  waits_nowhere Choice h = refl
  waits_nowhere (Ended Finished) h = refl
  waits_nowhere (Ended AllWaiting) h = absurd (cc)
  waits_nowhere (Ended (RunError name process line)) h = refl
  waits_nowhere (Ended ChoiceLimit) h = refl
  waits_nowhere (Ended StepLimit) h = refl
  waits_nowhere (Ended OutputLimit) h = refl

  -- the one that is there
  pub one_seen : (halt : Halt OutcomeKind) → is_waiting halt ≡ true → (x : WaitsSo) → x ≡ waits_so sys waiting m → x ∷ [] ≡ waits_at sys waiting (node_of halt m)
  one_seen halt on x is = ap (λ (y : WaitsSo). y ∷ []) is ∙ sym (waits_there halt on)
