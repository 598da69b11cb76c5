-- What holds of a table is true of every table of more choices.
use Rattle.std.proofs.Common.{◌≡◌, ◌≢◌, ◌⊎◌, inl, inr, ◌∙◌, ◌+◌, ℕ, zero, suc, Bool, true, false, not, ◌&&◌, ◌||◌, if◌then◌else◌, List, [], ◌∷◌, ◌++◌, map, Option, None, Some, cond, refl, sym, ap, subst}
use Rattle.std.specs.Prelude.{find, string_bytes}
use Rattle.std.specs.List.{list_any, list_all, AllByRecursion as Each}
use Rattle.std.proofs.lemmas.List.Elements.{All-from_recursion}
use native.Mathlib.Numerals.{unary_clauses}
use Rattle.cp_walk.specs.Text.{Spellings}
use Rattle.cp_machine.specs.declared.shown.Shown.{Shown}
use Rattle.cp_run.specs.declared.outcome.Outcome.{Outcome}
use Rattle.cp_run.specs.declared.outcome.OutcomeKind.{OutcomeKind}
use Rattle.cp_run.specs.declared.outcome.OutcomeKind.TheVariants.{ChoiceLimit, StepLimit, OutputLimit}
use Rattle.cp_run.specs.System.{System}
use Rattle.cp_run.specs.Run.{joined_below, Node, Halted, Choosing, may, chosen, opened}
use Rattle.cp_run.specs.Table.{Line, table}
use Rattle.cp_walk.specs.Walk.{behind, walk}
use Rattle.cp_walk.proofs.Walks.{table_walk}
use Rattle.cp_merged.specs.Complete.{IsOver}
use Rattle.cp_merged.proofs.Completing.{complete}
use Rattle.cp_verdict.specs.Expectations.{is_limit, is_of_kind, has_output, fits, is_one_of, is_true_by, is_true_of}
use Rattle.cp_verdict.specs.Judged.{row_line, has_open, IsJudged, IsJudgedBy}
use Rattle.cp_verdict.specs.Lasting.{KeepsOutput, asks_values, is_of_values}
use Rattle.cp_verdict.specs.Limits.{ended_for_choices}
use Rattle.cp_verdict.specs.Outputs.{is_printed, value_text}
use Rattle.cp_verdict.specs.Marked.{HoldsOf}
use Rattle.cp_expectation.specs.declared.expectation.Claim.{Claim}
use Rattle.cp_expectation.specs.declared.expectation.Claim.TheVariants.{Never, Sometimes, Only}
use Rattle.cp_expectation.specs.declared.expectation.EndPattern.{EndPattern}
use Rattle.cp_expectation.specs.declared.expectation.EndPattern.TheVariants as end
use Rattle.cp_expectation.specs.declared.expectation.Topic.{Topic}
use Rattle.cp_expectation.specs.declared.expectation.Topic.TheVariants as topic
use Rattle.cp_expectation.specs.declared.expectation.Expectation.{Expectation}
use Rattle.cp_verdict.specs.declared.judging.Judgement.TheVariants as judgement
use Rattle.cp_verdict.specs.declared.seen.SeenRow.{SeenRow}
use Rattle.cp_verdict.proofs.Displayed.{any_on, chosen_keeps, output_at}
use Rattle.cp_verdict.proofs.Finding.{never_apart, only_apart}

-- ---- a whole table is complete

over : (kind : OutcomeKind) (rest : Bool) → (is_limit kind || rest) ≡ false → IsOver kind × (rest ≡ false)
over ChoiceLimit rest h = absurd (cc)
over StepLimit rest h = absurd (cc)
over OutputLimit rest h = absurd (cc)
over _ rest h = (tt, h)

all_over : (q : Outcome → Bool) (ls : List Line) → has_open Never q ls ≡ false → Each (λ l. IsOver l.outcome.kind) ls
all_over q [] h = tt
all_over q (l ∷ ls) h = let parts = over l.outcome.kind (has_open Never q ls) h in (parts.0, all_over q ls parts.1)

-- ---- a row that is there stays, unless it ended for want of choices

abbrev any : (Outcome → Bool) → List Line → Bool
any q ls = list_any (λ l. q l.outcome) ls

any_append : (q : Outcome → Bool) (xs ys : List Line) → any q (xs ++ ys) ≡ (any q xs || any q ys)
any_append q [] ys = refl
any_append q (x ∷ xs) ys = split (q x.outcome) (any_append q xs ys)
  where
    split : (b : Bool) → any q (xs ++ ys) ≡ (any q xs || any q ys) → (b || any q (xs ++ ys)) ≡ ((b || any q xs) || any q ys)
    split true h = refl
    split false h = h

any_behind : (q : Outcome → Bool) (word : List ℕ) (ls : List Line) → any q (map (behind word) ls) ≡ any q ls
any_behind q word [] = refl
any_behind q word (l ∷ ls) = ap (λ b. q l.outcome || b) (any_behind q word ls)

either : (a b c d : Bool) → (a ≡ true → c ≡ true) → (b ≡ true → d ≡ true) → (a || b) ≡ true → (c || d) ≡ true
either true b c d f g h = ap (λ x. x || d) (f refl)
either false b true d f g h = refl
either false b false d f g h = g h

some_below : (q : Outcome → Bool) (n : ℕ) (f g : ℕ → List Line) → ((p : ℕ) → any q (f p) ≡ true → any q (g p) ≡ true) → any q (joined_below n f) ≡ true → any q (joined_below n g) ≡ true
some_below q zero f g on h = h
some_below q (suc n) f g on h = any_append q (joined_below n g) (g n) ∙ either (any q (joined_below n f)) (any q (f n)) (any q (joined_below n g)) (any q (g n)) (some_below q n f g on) (on n) (sym (any_append q (joined_below n f) (f n)) ∙ h)

one_branch : (q : Outcome → Bool) (p : ℕ) (b : Bool) (xs ys : List Line) → (any q xs ≡ true → any q ys ≡ true) → any q (if b then map (behind (p ∷ [])) xs else []) ≡ true → any q (if b then map (behind (p ∷ [])) ys else []) ≡ true
one_branch q p true xs ys on h = any_behind q (p ∷ []) ys ∙ on (sym (any_behind q (p ∷ []) xs) ∙ h)
one_branch q p false xs ys on h = h

abbrev Skips : (Outcome → Bool) → Type 0
Skips q = (output : List Shown) → q (record { kind = ChoiceLimit; output = output }) ≡ false

no_more : (b : Bool) → b ≡ false → (b || false) ≡ true → ⊥
no_more true e h = absurd (cc)
no_more false e h = absurd (cc)

-- with one choice more
some_more : {S : Type 0} (q : Outcome → Bool) (sys : System S) (steps choices : ℕ) (node : Node S) → Skips q → any q (walk sys steps choices node) ≡ true → any q (walk sys steps (suc choices) node) ≡ true
unfolding walk
some_more q sys steps zero (Halted kind s) skips h = h
some_more q sys steps zero (Choosing s) skips h = absurd (no_more (q (record { kind = ChoiceLimit; output = sys.output s })) (skips (sys.output s)) h)
some_more q sys steps (suc choices) (Halted kind s) skips h = h
some_more q sys steps (suc choices) (Choosing s) skips h =
    some_below q sys.processes
    (λ p. if may sys s p then map (behind (p ∷ [])) (walk sys steps choices (chosen sys steps s p)) else [])
    (λ p. if may sys s p then map (behind (p ∷ [])) (walk sys steps (suc choices) (chosen sys steps s p)) else [])
    (λ p. one_branch q p (may sys s p) (walk sys steps choices (chosen sys steps s p)) (walk sys steps (suc choices) (chosen sys steps s p)) (some_more q sys steps choices (chosen sys steps s p) skips))
    h

table_more : {S : Type 0} (q : Outcome → Bool) (sys : System S) (choices steps : ℕ) → Skips q → any q (table sys choices steps) ≡ true → any q (table sys (suc choices) steps) ≡ true
table_more q sys choices steps skips h = ap (any q) (table_walk sys (suc choices) steps) ∙ some_more q sys steps choices (opened sys steps) skips (sym (ap (any q) (table_walk sys choices steps)) ∙ h)

-- with more choices
some_lasts : {S : Type 0} (q : Outcome → Bool) (sys : System S) (choices steps more : ℕ) → Skips q → any q (table sys choices steps) ≡ true → any q (table sys (choices + more) steps) ≡ true
some_lasts q sys choices steps zero skips h = ap (λ k. any q (table sys k steps)) (simp unary_clauses refl) ∙ h
some_lasts q sys choices steps (suc more) skips h = ap (λ k. any q (table sys k steps)) (simp unary_clauses refl) ∙ table_more q sys (choices + more) steps skips (some_lasts q sys choices steps more skips h)

-- ---- where all rows are so, those of more choices are, if what was so at the limit stays so

abbrev all : (Outcome → Bool) → List Line → Bool
all q ls = list_all (λ l. q l.outcome) ls

abbrev Stays : {S : Type 0} → System S → ℕ → (Outcome → Bool) → Type 0
Stays {S} sys steps q = (s : S) (p : ℕ) → q (record { kind = ChoiceLimit; output = sys.output s }) ≡ true → (kind : OutcomeKind) → q (record { kind = kind; output = output_at sys (chosen sys steps s p) }) ≡ true

all_parts : (q : Outcome → Bool) (xs ys : List Line) → all q (xs ++ ys) ≡ true → (all q xs ≡ true) × (all q ys ≡ true)
all_parts q [] ys h = (refl, h)
all_parts q (x ∷ xs) ys h = split (q x.outcome) h (all_parts q xs ys)
  where
    split : (b : Bool) → (b && all q (xs ++ ys)) ≡ true → (all q (xs ++ ys) ≡ true → (all q xs ≡ true) × (all q ys ≡ true)) → ((b && all q xs) ≡ true) × (all q ys ≡ true)
    split true h on = on h
    split false h on = absurd (cc)

all_append : (q : Outcome → Bool) (xs ys : List Line) → all q xs ≡ true → all q ys ≡ true → all q (xs ++ ys) ≡ true
all_append q [] ys g h = h
all_append q (x ∷ xs) ys g h = split (q x.outcome) g (λ k. all_append q xs ys k h)
  where
    split : (b : Bool) → (b && all q xs) ≡ true → (all q xs ≡ true → all q (xs ++ ys) ≡ true) → (b && all q (xs ++ ys)) ≡ true
    split true g on = on g
    split false g on = absurd (cc)

all_behind : (q : Outcome → Bool) (word : List ℕ) (ls : List Line) → all q (map (behind word) ls) ≡ all q ls
all_behind q word [] = refl
all_behind q word (l ∷ ls) = ap (λ b. q l.outcome && b) (all_behind q word ls)

all_below : (q : Outcome → Bool) (n : ℕ) (f g : ℕ → List Line) → ((p : ℕ) → all q (f p) ≡ true → all q (g p) ≡ true) → all q (joined_below n f) ≡ true → all q (joined_below n g) ≡ true
all_below q zero f g on h = refl
all_below q (suc n) f g on h = let parts = all_parts q (joined_below n f) (f n) h in all_append q (joined_below n g) (g n) (all_below q n f g on parts.0) (on n parts.1)

all_branch : (q : Outcome → Bool) (p : ℕ) (b : Bool) (xs ys : List Line) → (all q xs ≡ true → all q ys ≡ true) → all q (if b then map (behind (p ∷ [])) xs else []) ≡ true → all q (if b then map (behind (p ∷ [])) ys else []) ≡ true
all_branch q p true xs ys on h = all_behind q (p ∷ []) ys ∙ on (sym (all_behind q (p ∷ []) xs) ∙ h)
all_branch q p false xs ys on h = refl

-- rows that are all so, below a number for each
all_from : (q : Outcome → Bool) (n : ℕ) (g : ℕ → List Line) → ((p : ℕ) → all q (g p) ≡ true) → all q (joined_below n g) ≡ true
all_from q zero g on = refl
all_from q (suc n) g on = all_append q (joined_below n g) (g n) (all_from q n g on) (on n)

one_row : (b : Bool) → (b && true) ≡ true → b ≡ true
one_row true h = refl
one_row false h = h

one_so : (b : Bool) → b ≡ true → (b && true) ≡ true
one_so true h = refl
one_so false h = h

module _ {S : Type 0} (sys : System S) (steps : ℕ) (q : Outcome → Bool) (stays : Stays sys steps q) where
  -- the row of a node with no choice left
  row_after : (node : Node S) → ((kind : OutcomeKind) → q (record { kind = kind; output = output_at sys node }) ≡ true) → all q (walk sys steps zero node) ≡ true
  unfolding walk
  row_after (Halted kind s) h = one_so (q (record { kind = kind; output = sys.output s })) (h kind)
  row_after (Choosing s) h = one_so (q (record { kind = ChoiceLimit; output = sys.output s })) (h ChoiceLimit)

  all_more : (choices : ℕ) (node : Node S) → all q (walk sys steps choices node) ≡ true → all q (walk sys steps (suc choices) node) ≡ true
  unfolding walk
  all_more zero (Halted kind s) h = h
  all_more zero (Choosing s) h =
      all_from q sys.processes (λ p. if may sys s p then map (behind (p ∷ [])) (walk sys steps zero (chosen sys steps s p)) else [])
      (λ p. by p (may sys s p))
    where
      by : (p : ℕ) (b : Bool) → all q (if b then map (behind (p ∷ [])) (walk sys steps zero (chosen sys steps s p)) else []) ≡ true
      by p true = all_behind q (p ∷ []) (walk sys steps zero (chosen sys steps s p)) ∙ row_after (chosen sys steps s p) (stays s p (one_row (q (record { kind = ChoiceLimit; output = sys.output s })) h))
      by p false = refl
  all_more (suc choices) (Halted kind s) h = h
  all_more (suc choices) (Choosing s) h =
      all_below q sys.processes
      (λ p. if may sys s p then map (behind (p ∷ [])) (walk sys steps choices (chosen sys steps s p)) else [])
      (λ p. if may sys s p then map (behind (p ∷ [])) (walk sys steps (suc choices) (chosen sys steps s p)) else [])
      (λ p. all_branch q p (may sys s p) (walk sys steps choices (chosen sys steps s p)) (walk sys steps (suc choices) (chosen sys steps s p)) (all_more choices (chosen sys steps s p)))
      h

  all_table : (choices : ℕ) → all q (table sys choices steps) ≡ true → all q (table sys (suc choices) steps) ≡ true
  all_table choices h = ap (all q) (table_walk sys (suc choices) steps) ∙ all_more choices (opened sys steps) (sym (ap (all q) (table_walk sys choices steps)) ∙ h)

  all_lasts : (choices more : ℕ) → all q (table sys choices steps) ≡ true → all q (table sys (choices + more) steps) ≡ true
  all_lasts choices zero h = ap (λ k. all q (table sys k steps)) (simp unary_clauses refl) ∙ h
  all_lasts choices (suc more) h = ap (λ k. all q (table sys k steps)) (simp unary_clauses refl) ∙ all_table (choices + more) (all_lasts choices more h)

-- ---- which expectations name rows that a limit stopped

no_kind : (p : EndPattern) (rest : Bool) → (is_of_kind p ChoiceLimit && rest) ≡ false
no_kind end.Finished rest = refl
no_kind end.AnyError rest = refl
no_kind (end.Error name) rest = refl
no_kind (end.AllWaiting None) rest = refl
no_kind (end.AllWaiting (Some who)) rest = refl
no_kind (end.Alone process) rest = refl
no_kind (end.Spins process) rest = refl

no_limit : (names : Spellings) (ps : List Topic) → list_any is_of_values ps ≡ false → Skips (is_one_of names ps)
no_limit names [] none output = refl
no_limit names (topic.Shown text ∷ ps) none output = absurd (cc)
no_limit names (topic.Waiting process ∷ ps) none output = no_limit names ps none output
no_limit names (topic.End kind wanted ∷ ps) none output = ap (λ b. b || is_one_of names ps (record { kind = ChoiceLimit; output = output })) (no_kind kind (has_output names wanted output)) ∙ no_limit names ps none output

skipped : {S : Type 0} (sys : System S) (steps : ℕ) (q : Outcome → Bool) → Skips q → Stays sys steps q
skipped sys steps q skips s p h kind = absurd (let t : true ≡ false = sym h ∙ skips (sys.output s) in cc)

-- a row that is named at the limit shows a value, and so do those that go on from it
one_stays : (names : Spellings) (p : Topic) (output more : List Shown) (kind : OutcomeKind) → fits names (record { kind = ChoiceLimit; output = output }) p ≡ true → fits names (record { kind = kind; output = output ++ more }) p ≡ true
one_stays names (topic.Shown text) output more kind h = any_on (λ v. is_printed (string_bytes text) (value_text names v)) output more h
one_stays names (topic.Waiting process) output more kind h = absurd (cc)
one_stays names (topic.End wanted values) output more kind h = absurd (let t : true ≡ false = sym h ∙ no_kind wanted (has_output names values output) in cc)

named_stays : (names : Spellings) (ps : List Topic) (output more : List Shown) (kind : OutcomeKind) → is_one_of names ps (record { kind = ChoiceLimit; output = output }) ≡ true → is_one_of names ps (record { kind = kind; output = output ++ more }) ≡ true
named_stays names [] output more kind h = h
named_stays names (p ∷ ps) output more kind h =
    either (fits names (record { kind = ChoiceLimit; output = output }) p) (is_one_of names ps (record { kind = ChoiceLimit; output = output })) (fits names (record { kind = kind; output = output ++ more }) p) (is_one_of names ps (record { kind = kind; output = output ++ more }))
    (one_stays names p output more kind) (named_stays names ps output more kind) h

kept : {S : Type 0} (sys : System S) (steps : ℕ) (names : Spellings) (ps : List Topic) → KeepsOutput sys → Stays sys steps (is_one_of names ps)
kept sys steps names ps keeps s p h kind =
    let on = chosen_keeps sys keeps steps s p in
    subst (λ output. is_one_of names ps (record { kind = kind; output = output }) ≡ true) (sym on.1) (named_stays names ps (sys.output s) on.0 kind h)

-- ---- what holds

abbrev Told : {S : Type 0} → System S → (claim : Claim) → Bool → Type 0
Told sys claim values = (values ≡ false) ⊎ (KeepsOutput sys × (claim ≢ Sometimes))

stays_by : {S : Type 0} (sys : System S) (steps : ℕ) (names : Spellings) (ps : List Topic) (claim : Claim) → Told sys claim (list_any is_of_values ps) → Stays sys steps (is_one_of names ps)
stays_by sys steps names ps claim (inl none) = skipped sys steps (is_one_of names ps) (no_limit names ps none)
stays_by sys steps names ps claim (inr keeps) = kept sys steps names ps keeps.0

skips_by : {S : Type 0} (sys : System S) (names : Spellings) (ps : List Topic) → Told sys Sometimes (list_any is_of_values ps) → Skips (is_one_of names ps)
skips_by sys names ps (inl none) = no_limit names ps none
skips_by sys names ps (inr keeps) = absurd (keeps.1 refl)

never_by : {S : Type 0} (q : Outcome → Bool) (sys : System S) (choices steps more : ℕ) → is_true_by Never q (table sys choices steps) ≡ true → (has_open Never q (table sys choices steps) ≡ false) ⊎ (Never ≡ Sometimes) → is_true_by Never q (table sys (choices + more) steps) ≡ true
never_by q sys choices steps more h (inl whole) = ap (is_true_by Never q) (complete sys choices steps more (All-from_recursion (λ l. IsOver l.outcome.kind) (table sys choices steps) (all_over q (table sys choices steps) whole))) ∙ h
never_by q sys choices steps more h (inr same) = absurd (never_apart same)

by_claim : {S : Type 0} (names : Spellings) (ps : List Topic) (sys : System S) (choices steps more : ℕ) (claim : Claim) → Told sys claim (list_any is_of_values ps) → is_true_by claim (is_one_of names ps) (table sys choices steps) ≡ true → (has_open claim (is_one_of names ps) (table sys choices steps) ≡ false) ⊎ (claim ≡ Sometimes) → is_true_by claim (is_one_of names ps) (table sys (choices + more) steps) ≡ true
by_claim names ps sys choices steps more Never told h rest = never_by (is_one_of names ps) sys choices steps more h rest
by_claim names ps sys choices steps more Sometimes told h rest = some_lasts (is_one_of names ps) sys choices steps more (skips_by sys names ps told) h
by_claim names ps sys choices steps more Only told h rest = all_lasts sys steps (is_one_of names ps) (stays_by sys steps names ps Only told) choices more h

pub lasts : {S : Type 0} (names : Spellings) (sys : System S) (choices steps more : ℕ) (e : Expectation) → (asks_values e ≡ false) ⊎ (KeepsOutput sys × (e.claim ≢ Sometimes)) → HoldsOf names (table sys choices steps) e → is_true_of names e (table sys (choices + more) steps) ≡ true
lasts names sys choices steps more e told holds = by_claim names e.topics.items sys choices steps more e.claim told holds.0 holds.1

-- ---- what a row shows that did not end for want of choices

abbrev found_or : Line → Option Line → Line
found_or d None = d
found_or d (Some l) = l

abbrev Both : (Outcome → Bool) → (Outcome → Bool) → Outcome → Bool
Both q r o = q o && r o

found_so : (q r : Outcome → Bool) (ls : List Line) (l : Line) → r l.outcome ≡ true → find (λ x. q x.outcome) ls ≡ Some l → any (Both q r) ls ≡ true
found_so q r [] l k h = absurd (cc)
found_so q r (x ∷ xs) l k h = split (q x.outcome) h (found_so q r xs l k)
  where
    split : (b : Bool) → cond b (Some x) (find (λ y. q y.outcome) xs) ≡ Some l → (find (λ y. q y.outcome) xs ≡ Some l → any (Both q r) xs ≡ true) → ((b && r x.outcome) || any (Both q r) xs) ≡ true
    split true h on = ap (λ b. b || any (Both q r) xs) (ap (λ y. r y.outcome) (ap (found_or x) h) ∙ k)
    split false h on = on h

first_so : (q r : Outcome → Bool) (ls : List Line) → any (Both q r) ls ≡ true → any q ls ≡ true
first_so q r [] h = h
first_so q r (x ∷ xs) h = split (q x.outcome) (r x.outcome) h (first_so q r xs)
  where
    split : (b c : Bool) → ((b && c) || any (Both q r) xs) ≡ true → (any (Both q r) xs ≡ true → any q xs ≡ true) → (b || any q xs) ≡ true
    split true c h on = refl
    split false c h on = on h

abbrev goes_by : Outcome → Bool
goes_by o = not (ended_for_choices o.kind)

not_at_limit : (b : Bool) → (b && false) ≡ false
not_at_limit true = refl
not_at_limit false = refl

stays_shown : {S : Type 0} (q : Outcome → Bool) (sys : System S) (choices steps more : ℕ) (claim : Claim) (r : SeenRow) → ended_for_choices r.outcome.kind ≡ false →
    IsJudgedBy claim q (table sys choices steps) (judgement.Shown r) → is_true_by claim q (table sys (choices + more) steps) ≡ true
stays_shown q sys choices steps more Never r k j = absurd (never_apart j.0)
stays_shown q sys choices steps more Only r k j = absurd (only_apart j.0)
stays_shown q sys choices steps more Sometimes r k j =
    first_so q goes_by (table sys (choices + more) steps)
    (some_lasts (Both q goes_by) sys choices steps more (λ output. not_at_limit (q (record { kind = ChoiceLimit; output = output })))
    (found_so q goes_by (table sys choices steps) (row_line r) (ap not k) j.2))

pub stays : {S : Type 0} (names : Spellings) (sys : System S) (choices steps more : ℕ) (e : Expectation) (r : SeenRow) → ended_for_choices r.outcome.kind ≡ false →
    IsJudged names e (table sys choices steps) (judgement.Shown r) → is_true_of names e (table sys (choices + more) steps) ≡ true
stays names sys choices steps more e r k j = stays_shown (is_one_of names e.topics.items) sys choices steps more e.claim r k j
