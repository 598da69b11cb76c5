-- Ends that are met by going on once more from the states that a search of ends found.
use Rattle.std.proofs.Common.{◌≡◌, ◌∙◌, ◌<◌, ◌≤◌, ◌+◌, ◌⊎◌, inl, inr, ⊎_elim, ℕ, Bool, true, false, ◌&&◌, nat_lt, if◌then◌else◌, List, [], ◌∷◌, ◌++◌, length, map, None, Some, refl, sym, ap, subst, arith}
use Rattle.std.specs.Prelude.{Contains, Option, All, filter, slice_get}
use Rattle.std.proofs.lemmas.Bool.{cases_order, le-leb, leb-true, ltb-true}
use Rattle.std.proofs.lemmas.List.{length-append}
use Rattle.std.proofs.lemmas.List.Elements.{All-contains, All-contains_itself, All-filter, Contains-append_left, Contains-append_right, Contains-append_cases, Contains-push, Contains-push_cases}
use Rattle.std.proofs.lemmas.Option.{same_Some, slice_get_read}
use Rattle.cp_slots.specs.Tables.{Tables}
use Rattle.cp_machine.specs.Machine.{Machine}
use Rattle.cp_machine.specs.declared.discipline.Discipline.{Discipline}
use Rattle.cp_run.specs.Run.{Node, Halted, Choosing, chosen, may, opened, those_below}
use Rattle.cp_run.specs.Slots.{processes_of, slots}
use Rattle.cp_run.specs.declared.outcome.OutcomeKind.TheVariants.{AllWaiting}
use Rattle.cp_endless_laws.specs.Reachable.{LeadsTo, node_after}
use Rattle.cp_endless_laws.specs.Silent.{silent_slots, waits_on_slots}
use Rattle.cp_ends.specs.Firsts.{is_within, those_within}
use Rattle.cp_ends.specs.Holds.{IsAt, SlotFindings}
use Rattle.cp_ends.specs.Told.{IsDepth}
use Rattle.cp_ends.specs.Whole.{IsAnswerBy}
use Rattle.cp_ends.proofs.Searching.Words.{up_to_length}
use Rattle.cp_ends.proofs.named.Kinds.{contains_map, contains_unmap}
use Rattle.cp_layers.specs.Adding.{Adds, HasNoOthers}
use Rattle.cp_layers.specs.Leading.{with_word}
use Rattle.cp_layers.proofs.Adding.{none_has}
use Rattle.cp_layers.proofs.FromLayer.{contains_at, those_in}
use Rattle.cp_layers.proofs.Leading.{with_word_parts}
use Rattle.cp_waiting_ends.specs.Again.{AreEndsOf, EndsSo, HasMet, IsMet, before, is_looked_at, seen_at, within}
use Rattle.cp_waiting_ends.specs.Waiting.{WaitsSo, ends_seen, ends_words, entry_seen, entry_word, waits_at}
use Rattle.cp_waiting_ends.specs.declared.ends.WaitingEnds.{WaitingEnds}
use Rattle.cp_waiting_ends.proofs.Reaching.{ends_at, leads_last, leads_more, waits_in}

-- the numbers that may be chosen are those of the machine that shows nothing
pub quiet_may : (r : Tables) (discipline : Discipline) (m : Machine) (p : ℕ) → may (slots r discipline) m p ≡ may (silent_slots r discipline) m p
unfolding may
quiet_may r discipline m p = refl

quiet_mays : (r : Tables) (discipline : Discipline) (m : Machine) → may (slots r discipline) m ≡ may (silent_slots r discipline) m
quiet_mays r discipline m = λ i p. quiet_may r discipline m p i

-- who may be chosen is a process
first_of : (a b : Bool) → (a && b) ≡ true → a ≡ true
first_of true b h = refl
first_of false b h = h

may_below : (r : Tables) (discipline : Discipline) (m : Machine) (p : ℕ) → may (silent_slots r discipline) m p ≡ true → p < processes_of r
unfolding may
may_below r discipline m p h = let sys = silent_slots r discipline in ltb-true p sys.processes (first_of (nat_lt p sys.processes) (if sys.is_pending m then sys.in_line m p else sys.is_ready m p) h)

-- ---- which words were looked at

pub looked_shorter : (looked : Option ℕ) (v w : List ℕ) → length v ≤ length w → is_looked_at looked w ≡ true → is_looked_at looked v ≡ true
looked_shorter None v w le h = refl
looked_shorter (Some most) v w le h = let few = leb-true (length w) most h in le-leb (length v) most (omega (arith, le, few))

module _ (r : Tables) (discipline : Discipline) (steps : ℕ) (looked : Option ℕ) where
  seen_in : (word : List ℕ) (node : Node Machine) (w : WaitsSo) → Contains (seen_at r discipline looked word node) w → (is_looked_at looked word ≡ true) × Contains (waits_at (silent_slots r discipline) waits_on_slots node) w
  seen_in word node w = by (is_looked_at looked word) refl
    where
      by : (b : Bool) → is_looked_at looked word ≡ b → Contains (if b then waits_at (silent_slots r discipline) waits_on_slots node else []) w → (is_looked_at looked word ≡ true) × Contains (waits_at (silent_slots r discipline) waits_on_slots node) w
      by true e c = (e, c)
      by false e c = absurd (none_has w c)

  seen_there : (word : List ℕ) (node : Node Machine) (w : WaitsSo) → is_looked_at looked word ≡ true → Contains (waits_at (silent_slots r discipline) waits_on_slots node) w → Contains (seen_at r discipline looked word node) w
  seen_there word node w e c = subst (λ (b : Bool). Contains (if b then waits_at (silent_slots r discipline) waits_on_slots node else []) w) (sym e) c

  module _ (states : List (Machine × List ℕ)) where
    -- ---- in the loop

    abbrev seen_of : Machine × List ℕ → ℕ → List WaitsSo
    seen_of x p = seen_at r discipline looked (x.1 ++ p ∷ []) (chosen (silent_slots r discipline) steps x.0 p)

    pub met_first : (old ends : WaitingEnds) (node : Node Machine) → ends_seen old ≡ [] → ends_words old ≡ [] → opened (silent_slots r discipline) steps ≡ node → Adds (ends_seen old) (seen_at r discipline looked [] node) (ends_seen ends) → HasNoOthers (ends_words old) (with_word [] (seen_at r discipline looked [] node)) (ends_words ends) → HasMet r discipline steps looked states (before 0) ends
    met_first old ends node none no_words is adds only =
        record {
          begun = λ w c. adds.added w (subst (λ (n : Node Machine). Contains (seen_at r discipline looked [] n) w) is c);
          taken = λ i x p at can less w c. absurd (omega (arith, less));
          each = λ x c. ⊎_elim
              (λ (l : Contains (ends_words old) x). absurd (none_has x (subst (λ (l : List (WaitsSo × List ℕ)). Contains l x) no_words l)))
              (λ (m : Contains (with_word [] (seen_at r discipline looked [] node)) x).
              (let y = with_word_parts [] (seen_at r discipline looked [] node) x m in
              inl (y.1, subst (λ (n : Node Machine). Contains (seen_at r discipline looked x.1 n) x.0) (sym is) (subst (λ (v : List ℕ). Contains (seen_at r discipline looked v node) x.0) (sym y.1) y.0))))
              (only x c);
        }

    pub met_begin : (n : ℕ) (ends : WaitingEnds) → HasMet r discipline steps looked states (before n) ends → HasMet r discipline steps looked states (within n []) ends
    met_begin n ends h =
        record {
          begun = h.begun;
          taken = λ i x p at can done. h.taken i x p at can (⊎_elim (λ (less : i < n). less) (λ (o : (i ≡ n) × Contains [] p). absurd (none_has p o.1)) done);
          each = h.each;
        }

    pub met_none : (n : ℕ) (ends : WaitingEnds) → slice_get states n ≡ None → HasMet r discipline steps looked states (before n) ends → HasMet r discipline steps looked states (before (n + 1)) ends
    met_none n ends none h = record { begun = h.begun; taken = λ i x p at can less. h.taken i x p at can (smaller i x at less); each = h.each }
      where
        never : (i : ℕ) (x : Machine × List ℕ) → slice_get states i ≡ Some x → i ≡ n → ⊥
        never i x at e = let wrong : None ≡ Some x = sym none ∙ ap (slice_get states) (sym e) ∙ at in absurd (cc)

        smaller : (i : ℕ) (x : Machine × List ℕ) → slice_get states i ≡ Some x → i < n + 1 → i < n
        smaller i x at less =
            ⊎_elim
            (λ (e : i ≡ n). absurd (never i x at e))
            (λ (apart : (i < n) ⊎ (n < i)). ⊎_elim (λ (l : i < n). l) (λ (m : n < i). absurd (omega (arith, less, m))) apart)
            (cases_order i n)

    pub met_more : (at : ℕ) (y : Machine × List ℕ) (done : List ℕ) (p : ℕ) (node : Node Machine) (old ends : WaitingEnds) → slice_get states at ≡ Some y → may (silent_slots r discipline) y.0 p ≡ true → chosen (silent_slots r discipline) steps y.0 p ≡ node → Adds (ends_seen old) (seen_at r discipline looked (y.1 ++ p ∷ []) node) (ends_seen ends) → HasNoOthers (ends_words old) (with_word (y.1 ++ p ∷ []) (seen_at r discipline looked (y.1 ++ p ∷ []) node)) (ends_words ends) → HasMet r discipline steps looked states (within at done) old → HasMet r discipline steps looked states (within at (done ++ p ∷ [])) ends
    met_more at y done p node old ends is can goes adds only h =
        record {
          begun = λ w c. adds.kept w (h.begun w c);
          taken = λ i x q there ok gone w c. ⊎_elim (λ (less : i < at). adds.kept w (h.taken i x q there ok (inl less) w c)) (λ (o : (i ≡ at) × Contains (done ++ p ∷ []) q). here i x q there ok o w c) gone;
          each = λ x c. ⊎_elim
              (λ (l : Contains (ends_words old) x). h.each x l)
              (λ (m : Contains (with_word (y.1 ++ p ∷ []) (seen_at r discipline looked (y.1 ++ p ∷ []) node)) x).
              (let z = with_word_parts (y.1 ++ p ∷ []) (seen_at r discipline looked (y.1 ++ p ∷ []) node) x m in
              inr (at, y, p, is, can, z.1, subst (λ (n : Node Machine). Contains (seen_at r discipline looked x.1 n) x.0) (sym goes) (subst (λ (v : List ℕ). Contains (seen_at r discipline looked v node) x.0) (sym z.1) z.0))))
              (only x c);
        }
      where
        now : (x : Machine × List ℕ) (q : ℕ) (w : WaitsSo) → x ≡ y → p ≡ q → Contains (seen_of x q) w → Contains (ends_seen ends) w
        now x q w e f c = adds.added w (subst (λ (n : Node Machine). Contains (seen_at r discipline looked (y.1 ++ p ∷ []) n) w) goes (subst (λ (z : Machine × List ℕ). Contains (seen_of z p) w) e (subst (λ k. Contains (seen_of x k) w) (sym f) c)))

        here : (i : ℕ) (x : Machine × List ℕ) (q : ℕ) → slice_get states i ≡ Some x → may (silent_slots r discipline) x.0 q ≡ true → (i ≡ at) × Contains (done ++ p ∷ []) q → (w : WaitsSo) → Contains (seen_of x q) w → Contains (ends_seen ends) w
        here i x q there ok o w c =
            ⊎_elim
            (λ (earlier : Contains done q). adds.kept w (h.taken i x q there ok (inr (o.0, earlier)) w c))
            (λ (f : p ≡ q). now x q w (same_Some x y (sym there ∙ ap (slice_get states) o.0 ∙ is)) f c)
            (Contains-push_cases done p q o.1)

    pub met_end : (at : ℕ) (y : Machine × List ℕ) (ends : WaitingEnds) → slice_get states at ≡ Some y → HasMet r discipline steps looked states (within at (those_below (processes_of r) (may (silent_slots r discipline) y.0))) ends → HasMet r discipline steps looked states (before (at + 1)) ends
    met_end at y ends is h = record { begun = h.begun; taken = λ i x p there can less. h.taken i x p there can (gone i x p there can less); each = h.each }
      where
        here : (i : ℕ) (x : Machine × List ℕ) (p : ℕ) → slice_get states i ≡ Some x → may (silent_slots r discipline) x.0 p ≡ true → i ≡ at → Contains (those_below (processes_of r) (may (silent_slots r discipline) y.0)) p
        here i x p there can e =
            let same : x ≡ y = same_Some x y (sym there ∙ ap (slice_get states) e ∙ is) in
            let ok : may (silent_slots r discipline) y.0 p ≡ true = ap (λ (z : Machine × List ℕ). may (silent_slots r discipline) z.0 p) (sym same) ∙ can in
            those_in (may (silent_slots r discipline) y.0) (processes_of r) p (may_below r discipline y.0 p ok) ok

        gone : (i : ℕ) (x : Machine × List ℕ) (p : ℕ) → slice_get states i ≡ Some x → may (silent_slots r discipline) x.0 p ≡ true → i < at + 1 → within at (those_below (processes_of r) (may (silent_slots r discipline) y.0)) i p
        gone i x p there can less =
            ⊎_elim
            (λ (e : i ≡ at). inr (e, here i x p there can e))
            (λ (apart : (i < at) ⊎ (at < i)). ⊎_elim (λ (l : i < at). inl l) (λ (m : at < i). absurd (omega (arith, less, m))) apart)
            (cases_order i at)

    -- all that may be chosen
    pub met_all : (at : ℕ) (m : Machine) (done all : List ℕ) (ends : WaitingEnds) → IsAt states at true m → done ≡ all → all ≡ those_below (processes_of r) (may (slots r discipline) m) → HasMet r discipline steps looked states (within at done) ends → HasMet r discipline steps looked states (before (at + 1)) ends
    met_all at m done all ends here whole is h = met_end at here.0 ends here.1 (subst (λ (ps : List ℕ). HasMet r discipline steps looked states (within at ps) ends) (whole ∙ is ∙ ap (λ k. those_below (processes_of r) (may (slots r discipline) k)) here.2 ∙ ap (those_below (processes_of r)) (quiet_mays r discipline here.0.0)) h)

    -- ---- afterwards

    module _ (leads : (x : Machine × List ℕ) → Contains states x → is_looked_at looked x.1 ≡ true → LeadsTo (silent_slots r discipline) steps x.1 (Choosing x.0))
        (reaches : (word : List ℕ) (l : Machine) → LeadsTo (silent_slots r discipline) steps word (Choosing l) → is_looked_at looked word ≡ true → (v : List ℕ) × Contains states (l, v) × (length v ≤ length word)) where
      longer : (v : List ℕ) (p : ℕ) → length v ≤ length (v ++ p ∷ [])
      longer v p = let len = length-append v (p ∷ []) in omega (arith, len)

      pub met_ends : (w : WaitsSo) (word : List ℕ) → IsMet r discipline steps looked states w word → EndsSo r discipline steps w word × (is_looked_at looked word ≡ true)
      met_ends w word (inl x) =
          let c = seen_in word (opened (silent_slots r discipline) steps) w x.1 in
          (ends_at (silent_slots r discipline) steps waits_on_slots word (opened (silent_slots r discipline) steps) w (ap (λ v. node_after (silent_slots r discipline) steps (opened (silent_slots r discipline) steps) v) x.0) c.1, c.0)
      met_ends w word (inr x) =
          let node = chosen (silent_slots r discipline) steps x.1.0 x.2 in
          let c = seen_in word node w x.6 in
          let short : is_looked_at looked x.1.1 ≡ true = looked_shorter looked x.1.1 word (subst (λ v. length x.1.1 ≤ length v) (sym x.5) (longer x.1.1 x.2)) c.0 in
          let there = leads x.1 (contains_at states x.0 x.1 x.3) short in (
            ends_at (silent_slots r discipline) steps waits_on_slots word node w (ap (λ v. node_after (silent_slots r discipline) steps (opened (silent_slots r discipline) steps) v) x.5 ∙ leads_more (silent_slots r discipline) steps x.1.1 x.1.0 x.2 there x.4) c.1,
            c.0,
          )

      pub ends_met : (n : ℕ) (ends : WaitingEnds) → length states ≤ n → HasMet r discipline steps looked states (before n) ends → (w : WaitsSo) (word : List ℕ) → EndsSo r discipline steps w word → is_looked_at looked word ≡ true → Contains (ends_seen ends) w
      ends_met n ends all h w word so short = by (leads_last (silent_slots r discipline) steps word (Halted AllWaiting so.0) so.1)
        where
          by : ((word ≡ []) × (Halted AllWaiting so.0 ≡ opened (silent_slots r discipline) steps)) ⊎ ((stem : List ℕ) × (p : ℕ) × (l : Machine) × (word ≡ stem ++ p ∷ []) × LeadsTo (silent_slots r discipline) steps stem (Choosing l) × (may (silent_slots r discipline) l p ≡ true) × (Halted AllWaiting so.0 ≡ chosen (silent_slots r discipline) steps l p)) → Contains (ends_seen ends) w
          by (inl x) = h.begun w (seen_there [] (opened (silent_slots r discipline) steps) w (subst (λ v. is_looked_at looked v ≡ true) x.0 short) (waits_in (silent_slots r discipline) steps waits_on_slots (opened (silent_slots r discipline) steps) so.0 w (sym x.1) so.2))
          by (inr x) =
              let len = ap length x.3 ∙ length-append x.0 (x.1 ∷ []) in
              let there = reaches x.0 x.2 x.4 (looked_shorter looked x.0 word (omega (arith, len)) short) in
              let less = there.2 in
              let place = there.1 in
              let bound = place.1 in
              let more = length-append there.0 (x.1 ∷ []) in
              h.taken place.0 (x.2, there.0) x.1 (slice_get_read states (length states) place.0 (x.2, there.0) refl bound (sym place.2)) x.5 (omega (arith, bound, all)) w
              (seen_there (there.0 ++ x.1 ∷ []) (chosen (silent_slots r discipline) steps x.2 x.1) w (looked_shorter looked (there.0 ++ x.1 ∷ []) word (omega (arith, more, len, less)) short) (waits_in (silent_slots r discipline) steps waits_on_slots (chosen (silent_slots r discipline) steps x.2 x.1) so.0 w (sym x.6) so.2))

-- ---- of a search of ends

contains_within : (d : ℕ) (xs : List (Machine × List ℕ)) (x : Machine × List ℕ) → is_within d x ≡ true → Contains xs x → Contains (those_within d xs) x
contains_within d [] x short c = c
contains_within d (y ∷ xs) x short c = by (is_within d y) refl (Contains-append_cases (y ∷ []) xs x c) (contains_within d xs x short)
  where
    by : (b : Bool) → is_within d y ≡ b → Contains (y ∷ []) x ⊎ Contains xs x → (Contains xs x → Contains (those_within d xs) x) → Contains (if b then y ∷ those_within d xs else those_within d xs) x
    by true e (inl here) rest = Contains-append_left (y ∷ []) (those_within d xs) x here
    by true e (inr later) rest = Contains-append_right (y ∷ []) (those_within d xs) x (rest later)
    by false e (inl here) rest = ⊎_elim (λ (n : Contains [] x). absurd (none_has x n)) (λ (f : y ≡ x). let wrong : false ≡ true = sym e ∙ ap (is_within d) f ∙ short in absurd (cc)) (Contains-push_cases [] y x here)
    by false e (inr later) rest = rest later

within_contains : (d : ℕ) (xs : List (Machine × List ℕ)) (x : Machine × List ℕ) → Contains (those_within d xs) x → Contains xs x
within_contains d xs x c = All-contains (Contains xs) (those_within d xs) x (All-filter (is_within d) (Contains xs) xs (All-contains_itself xs)) c

module _ (r : Tables) (discipline : Discipline) (steps most : ℕ) (f : SlotFindings) (n : ℕ) (ends : WaitingEnds) (all : length f.states ≤ n) where
  pub ends_of : (stopped looked : Option ℕ) → ((depth : Option ℕ) → IsDepth f stopped depth → looked ≡ depth) → IsAnswerBy r discipline steps most f stopped → HasMet r discipline steps looked f.states (before n) ends → AreEndsOf r discipline steps f.states stopped ends
  ends_of None looked depth answer met = record { each = λ e c. (met_ends r discipline steps None f.states leads reaches (entry_seen e) e.1.items (has.each (entry_word e) (contains_map entry_word ends.known.entries e c))).0; all = λ w word so. contains_unmap entry_seen ends.known.entries w (ends_met r discipline steps None f.states leads reaches n ends all has w word so refl) }
    where
      has : HasMet r discipline steps None f.states (before n) ends
      has = subst (λ (l : Option ℕ). HasMet r discipline steps l f.states (before n) ends) (depth None refl) met

      leads : (x : Machine × List ℕ) → Contains f.states x → is_looked_at None x.1 ≡ true → LeadsTo (silent_slots r discipline) steps x.1 (Choosing x.0)
      leads x c short = (answer.states.first x.0 x.1 c).is

      reaches : (word : List ℕ) (l : Machine) → LeadsTo (silent_slots r discipline) steps word (Choosing l) → is_looked_at None word ≡ true → (v : List ℕ) × Contains f.states (l, v) × (length v ≤ length word)
      reaches word l there short = let x = answer.states.all l word there in (x.0, x.1, up_to_length x.0 word ((answer.states.first l x.0 x.1).first word there))
  ends_of (Some at) looked depth answer met =
      record {
        each = λ e c.
            (let y = met_ends r discipline steps (Some (length answer.0.1)) f.states leads reaches (entry_seen e) e.1.items (has.each (entry_word e) (contains_map entry_word ends.known.entries e c)) in
            (answer.0, answer.1, (y.0, leb-true (length e.1.items) (length answer.0.1) y.1)));
        all = λ w word so. contains_unmap entry_seen ends.known.entries w (ends_met r discipline steps (Some (length answer.0.1)) f.states leads reaches n ends all has w word so.2.0 (le-leb (length word) (length answer.0.1) (same_depth so.0 so.1 (length word) so.2.1)));
      }
    where
      same_depth : (x : Machine × List ℕ) → slice_get f.states at ≡ Some x → (k : ℕ) → k ≤ length x.1 → k ≤ length answer.0.1
      same_depth x is k le = let same = ap (λ (z : Machine × List ℕ). length z.1) (same_Some x answer.0 (sym is ∙ answer.1)) in omega (arith, le, same)

      has : HasMet r discipline steps (Some (length answer.0.1)) f.states (before n) ends
      has = subst (λ (l : Option ℕ). HasMet r discipline steps l f.states (before n) ends) (depth (Some (length answer.0.1)) (answer.0, answer.1, refl)) met

      leads : (x : Machine × List ℕ) → Contains f.states x → is_looked_at (Some (length answer.0.1)) x.1 ≡ true → LeadsTo (silent_slots r discipline) steps x.1 (Choosing x.0)
      leads x c short = (answer.2.states.first x.0 x.1 (contains_within (length answer.0.1) f.states x short c)).is.0

      reaches : (word : List ℕ) (l : Machine) → LeadsTo (silent_slots r discipline) steps word (Choosing l) → is_looked_at (Some (length answer.0.1)) word ≡ true → (v : List ℕ) × Contains f.states (l, v) × (length v ≤ length word)
      reaches word l there short =
          let few = leb-true (length word) (length answer.0.1) short in
          let x = answer.2.states.all l word (there, few) in
          (x.0, within_contains (length answer.0.1) f.states (l, x.0) x.1, up_to_length x.0 word ((answer.2.states.first l x.0 x.1).first word (there, few)))
