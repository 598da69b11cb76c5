-- What a table says of an expectation by who waits at the ends of its rows, from what the code finds.
use Rattle.std.proofs.Common.{◌≡◌, ◌≢◌, ◌∙◌, ℕ, Bool, true, false, not, ◌&&◌, ◌||◌, List, [], ◌∷◌, map, cond, refl, sym, ap, subst}
use Rattle.std.specs.Prelude.{find, Option, None, Some, option_map}
use Rattle.std.specs.List.{list_any, list_all}
use Rattle.cp_run.specs.declared.outcome.Outcome.{Outcome}
use Rattle.cp_run.specs.declared.outcome.OutcomeKind.{OutcomeKind}
use Rattle.cp_run.specs.declared.outcome.OutcomeKind.TheVariants as outcome_kind
use Rattle.cp_run.specs.Table.{Line, IsAmong, Here, There}
use Rattle.cp_walk.specs.Report.{outcomes_of}
use Rattle.cp_walk.specs.Text.{Spellings}
use Rattle.cp_ends.proofs.Searching.Lists.{contains_at, place_of}
use Rattle.cp_expectation.specs.declared.expectation.Claim.{Claim}
use Rattle.cp_expectation.specs.declared.expectation.Claim.TheVariants.{Never, Sometimes, Only}
use Rattle.cp_expectation.specs.declared.expectation.Expectation.{Expectation}
use Rattle.cp_verdict.specs.Expectations as rows
use Rattle.cp_verdict.specs.Expectations.{is_limit, is_open_by, settles_by}
use Rattle.cp_verdict.specs.Judged as by_rows
use Rattle.cp_verdict.specs.Judged.{has_open, judgement_of, line_of, row_line}
use Rattle.cp_verdict.specs.endless.Naming.{Processes}
use Rattle.cp_expectation.specs.declared.expectation.Topic.{Topic}
use Rattle.cp_verdict.specs.waiting.Asking.{is_of_who, names_who}
use Rattle.cp_verdict.specs.waiting.Judged as spec
use Rattle.cp_verdict.specs.waiting.Judged.{IsJudged, IsJudgedAny, IsSettling}
use Rattle.cp_verdict.specs.waiting.Matching as matching
use Rattle.cp_verdict.specs.waiting.Rows.{AreRowsOf, waiting_line, who_of}
use Rattle.cp_verdict.specs.declared.judging.Judgement.{Judgement}
use Rattle.cp_verdict.specs.declared.judging.Judgement.TheVariants as judgement
use Rattle.cp_verdict.specs.declared.seen.Seen.{Seen}
use Rattle.cp_verdict.specs.declared.seen.SeenRow.{SeenRow}
use Rattle.cp_verdict.specs.declared.waiting.rows.SeenWaiting.{SeenWaiting}
use Rattle.cp_verdict.proofs.Finding.{any_of, never_apart, only_apart}
use Rattle.cp_verdict.proofs.any_length.Finding.{find_map, find_same, found_at, found_none}
use Rattle.cp_verdict.proofs.who.Lists.{some_passes}
use Rattle.cp_verdict.proofs.who.Tests.{all_same, any_same, neither, row_aside, row_unasked}

-- ---- lists of rows

-- none passes
none_passes : (t : Line → Bool) (ls : List Line) → ((l : Line) → IsAmong l ls → t l ≡ false) → list_any t ls ≡ false
none_passes t [] h = refl
none_passes t (l ∷ ls) h = ap (λ b. b || list_any t ls) (h l (Here ls)) ∙ none_passes t ls (λ m i. h m (There l ls i))

pub all_pass : (t : Line → Bool) (ls : List Line) → ((l : Line) → IsAmong l ls → t l ≡ true) → list_all t ls ≡ true
all_pass t [] h = refl
all_pass t (l ∷ ls) h = ap (λ b. b && list_all t ls) (h l (Here ls)) ∙ all_pass t ls (λ m i. h m (There l ls i))

-- one fails, so not all pass
not_all : (t : Line → Bool) (l : Line) (ls : List Line) → IsAmong l ls → t l ≡ false → list_all t ls ≡ false
not_all t l [] i h = elim i [ ]
not_all t l (_ ∷ ls) (Here _) h = ap (λ b. b && list_all t ls) h
not_all t l (m ∷ ls) (There _ _ i) h = split (t m) (not_all t l ls i h)
  where
    split : (b : Bool) → list_all t ls ≡ false → (b && list_all t ls) ≡ false
    split true e = e
    split false e = refl

pub none_of : (t : Line → Bool) (l : Line) (ls : List Line) → list_any t ls ≡ false → IsAmong l ls → t l ≡ false
none_of t l [] h i = elim i [ ]
none_of t l (_ ∷ ls) h (Here _) = (neither (t l) (list_any t ls) h).0
none_of t l (m ∷ ls) h (There _ _ i) = none_of t l ls (neither (t m) (list_any t ls) h).1 i

-- what is found is among them, and passes
pub found_line : (t : Line → Bool) (ls : List Line) (l : Line) → find t ls ≡ Some l → IsAmong l ls × (t l ≡ true)
found_line t [] l e = absurd (cc)
found_line t (m ∷ ls) l e = split (t m) refl e (λ f. found_line t ls l f)
  where
    one : (x y : Line) → Some x ≡ Some y → x ≡ y
    one x y f = cc

    split : (b : Bool) → t m ≡ b → cond b (Some m) (find t ls) ≡ Some l → (find t ls ≡ Some l → IsAmong l ls × (t l ≡ true)) → IsAmong l (m ∷ ls) × (t l ≡ true)
    split true is f on = subst (λ x. IsAmong x (m ∷ ls) × (t x ≡ true)) (one m l f) (Here ls, is)
    split false is f on = let r = on f in (There m ls r.0, r.1)

pub found_no_line : (t : Line → Bool) (ls : List Line) → find t ls ≡ None → list_any t ls ≡ false
found_no_line t [] e = refl
found_no_line t (l ∷ ls) e = split (t l) e (λ f. found_no_line t ls f)
  where
    split : (b : Bool) → cond b (Some l) (find t ls) ≡ None → (find t ls ≡ None → list_any t ls ≡ false) → (b || list_any t ls) ≡ false
    split true f on = absurd (cc)
    split false f on = on f

-- ---- what a limit stopped

limit_aside : (o : Outcome) → is_limit o.kind ≡ true → matching.is_waiting o ≡ false
limit_aside o h = by o.kind h
  where
    by : (k : OutcomeKind) → is_limit k ≡ true → matching.is_waiting_kind k ≡ false
    by outcome_kind.ChoiceLimit h = refl
    by outcome_kind.StepLimit h = refl
    by outcome_kind.OutputLimit h = refl
    by outcome_kind.Finished h = refl
    by outcome_kind.AllWaiting h = absurd (cc)
    by (outcome_kind.RunError name process line) h = refl

module _ (names : Spellings) (ps : Processes) (who : List ℕ → List ℕ) (e : Expectation) (lines : List Line) where
  abbrev named : Line → Bool
  named l = spec.is_named names ps who e l

  abbrev settles : Line → Bool
  settles l = spec.settles_at names ps who e l

  -- no row settles it, and none was stopped that might, so all are named
  only_all : e.claim ≡ Only → ((l : Line) → IsAmong l lines → settles l ≡ false) → spec.is_left_open names e lines ≡ false → list_all named lines ≡ true
  only_all only none stopped = all_pass named lines (λ l i. by l i)
    where
      by : (l : Line) → IsAmong l lines → named l ≡ true
      by l i = split (named l) (is_limit l.outcome.kind) refl refl
          (ap (λ c. settles_by c (matching.is_one_of names ps e.topics.items (who_of who l)) l.outcome) (sym only) ∙ none l i)
          (ap (λ c. is_open_by c (rows.is_one_of names e.topics.items) l.outcome) (sym only) ∙ none_of (λ m. is_open_by e.claim (rows.is_one_of names e.topics.items) m.outcome) l lines stopped i)
        where
          split : (b c : Bool) → named l ≡ b → is_limit l.outcome.kind ≡ c → (not (named l) && not (is_limit l.outcome.kind)) ≡ false → (is_limit l.outcome.kind && not (rows.is_one_of names e.topics.items l.outcome)) ≡ false → named l ≡ true
          split true c is lim none stopped = is
          split false true is lim none stopped =
              let same = row_aside names ps (who_of who l) e.topics.items l.outcome (limit_aside l.outcome lim) in
              let un : rows.is_one_of names e.topics.items l.outcome ≡ false = sym same ∙ is in
              absurd (cc (un, lim, stopped))
          split false false is lim none stopped = absurd (cc (is, lim, none))

  by_claim : (c : Claim) → e.claim ≡ c → spec.is_true_of names ps who e lines ≡ spec.is_true_by c named lines
  by_claim c is = ap (λ d. spec.is_true_by d named lines) is

  settles_claim : (c : Claim) (l : Line) → e.claim ≡ c → settles l ≡ settles_by c (matching.is_one_of names ps e.topics.items (who_of who l)) l.outcome
  settles_claim c l is = ap (λ d. settles_by d (matching.is_one_of names ps e.topics.items (who_of who l)) l.outcome) is

  not_only : (l : Line) → settles_by Only (matching.is_one_of names ps e.topics.items (who_of who l)) l.outcome ≡ true → named l ≡ false
  not_only l h = split (named l) (is_limit l.outcome.kind) h
    where
      split : (b c : Bool) → (not b && not c) ≡ true → b ≡ false
      split true c h = absurd (cc)
      split false c h = refl

  -- by a row that settles it, or none
  module _ (stopped : Bool) (same_open : spec.is_left_open names e lines ≡ stopped) where
    some_row : (c : Claim) → e.claim ≡ c → (r : SeenRow) → IsSettling names ps who e lines (row_line r) → IsJudged names ps who e lines (judgement_of c (Some r) stopped)
    some_row Never is r x = (subst (λ c. c ≢ Sometimes) (sym is) never_apart, by_claim Never is ∙ ap not (some_passes named (row_line r) lines x.0 (sym (settles_claim Never (row_line r) is) ∙ x.1)), x)
    some_row Sometimes is r x = (is, by_claim Sometimes is ∙ some_passes named (row_line r) lines x.0 (sym (settles_claim Sometimes (row_line r) is) ∙ x.1), x)
    some_row Only is r x = (subst (λ c. c ≢ Sometimes) (sym is) only_apart, by_claim Only is ∙ not_all named (row_line r) lines x.0 (not_only (row_line r) (sym (settles_claim Only (row_line r) is) ∙ x.1)), x)

    no_row : (c : Claim) (b : Bool) → stopped ≡ b → e.claim ≡ c → ((l : Line) → IsAmong l lines → settles l ≡ false) → IsJudged names ps who e lines (judgement_of c None b)
    no_row Never true o is none = (none_passes settles lines none, same_open ∙ o)
    no_row Sometimes true o is none = (none_passes settles lines none, same_open ∙ o)
    no_row Only true o is none = (none_passes settles lines none, same_open ∙ o)
    no_row Never false o is none = (by_claim Never is ∙ ap not (none_passes named lines (λ l i. sym (settles_claim Never l is) ∙ none l i)), same_open ∙ o)
    no_row Sometimes false o is none = (is, by_claim Sometimes is ∙ none_passes named lines (λ l i. sym (settles_claim Sometimes l is) ∙ none l i), same_open ∙ o)
    no_row Only false o is none = (by_claim Only is ∙ only_all is none (same_open ∙ o), same_open ∙ o)

  -- ---- by the rows that the code goes through

  abbrev passes : SeenWaiting → Bool
  passes x = matching.settles names ps e x.who.now x.outcome.now

  module _ (xs : List SeenWaiting) (are : AreRowsOf who lines xs) where
    same_test : (l : Line) (x : SeenWaiting) → x.outcome.now ≡ l.outcome → x.who.now ≡ who_of who l → passes x ≡ settles l
    same_test l x outcome waits = ap (λ w. matching.settles names ps e w x.outcome.now) waits ∙ ap (matching.settles names ps e (who_of who l)) outcome

    found_row : (r : SeenRow) (x : SeenWaiting) → row_line r ≡ waiting_line x → find passes xs ≡ Some x → IsSettling names ps who e lines (row_line r)
    found_row r x is found =
        let f = found_at passes xs x found in
        let l = are.each x (contains_at xs f.place x f.at) in
        let line : waiting_line x ≡ l.0 = ap (λ (o : Outcome). (let m : Line = record { word = x.first.now; outcome = o } in m)) l.3.0 ∙ ap (λ (w : List ℕ). (let m : Line = record { word = w; outcome = l.0.outcome } in m)) (sym l.2) in
        subst (IsSettling names ps who e lines) (sym (is ∙ line)) (l.1, sym (same_test l.0 x l.3.0 l.3.1) ∙ f.passes)

    found_no_row : find passes xs ≡ None → (l : Line) → IsAmong l lines → settles l ≡ false
    found_no_row found l i =
        let x = are.all l i in
        let at = place_of xs x.0 x.1 in
        sym (same_test l x.0 x.2.0 x.2.1) ∙ found_none passes xs found at.0 x.0 at.1

    by_found : (found : Option SeenRow) (o : Option SeenWaiting) (stopped : Bool) → option_map row_line found ≡ option_map waiting_line o → find passes xs ≡ o → spec.is_left_open names e lines ≡ stopped → IsJudged names ps who e lines (judgement_of e.claim found stopped)
    by_found None None stopped is f o = no_row stopped o e.claim stopped refl refl (found_no_row f)
    by_found (Some r) (Some x) stopped is f o = some_row stopped o e.claim refl r (found_row r x (cc) f)
    by_found None (Some x) stopped is f o = absurd (cc)
    by_found (Some r) None stopped is f o = absurd (cc)

    pub judged : (seen : List Seen) (found : Option SeenRow) (left : Bool) (j : Judgement) → option_map row_line found ≡ option_map waiting_line (find passes xs) → left ≡ spec.is_left_open names e (map line_of seen) → j ≡ judgement_of e.claim found left → map line_of seen ≡ outcomes_of lines → IsJudged names ps who e lines j
    judged seen found left j f w is same =
        let stopped : spec.is_left_open names e lines ≡ left = sym (any_of (is_open_by e.claim (rows.is_one_of names e.topics.items)) lines) ∙ ap (has_open e.claim (rows.is_one_of names e.topics.items)) (sym same) ∙ sym w in
        subst (IsJudged names ps who e lines) (sym is) (by_found found (find passes xs) left f refl stopped)

-- ---- where nobody is named

-- an outcome settles the same, whoever waits
row_settles : (c : Claim) (names : Spellings) (ps : Processes) (who : List ℕ) (ts : List Topic) (o : Outcome) → list_any is_of_who ts ≡ false → settles_by c (matching.is_one_of names ps ts who) o ≡ settles_by c (rows.is_one_of names ts) o
row_settles Never names ps who ts o none = row_unasked names ps who ts o none
row_settles Sometimes names ps who ts o none = row_unasked names ps who ts o none
row_settles Only names ps who ts o none = ap (λ b. not b && not (is_limit o.kind)) (row_unasked names ps who ts o none)

-- what the code finds is the first row of those that it goes through
pub found_plainly : (names : Spellings) (ps : Processes) (e : Expectation) (xs : List SeenWaiting) → names_who e ≡ false → option_map waiting_line (find (λ x. matching.settles names ps e x.who.now x.outcome.now) xs) ≡ by_rows.first_settling e.claim (rows.is_one_of names e.topics.items) (map waiting_line xs)
found_plainly names ps e xs none =
    ap (option_map waiting_line) (find_same (λ (x : SeenWaiting). matching.settles names ps e x.who.now x.outcome.now) (λ (x : SeenWaiting). settles_by e.claim (rows.is_one_of names e.topics.items) x.outcome.now) xs (λ x. row_settles e.claim names ps x.who.now e.topics.items x.outcome.now none)) ∙
    sym (find_map waiting_line (λ l. settles_by e.claim (rows.is_one_of names e.topics.items) l.outcome) xs)

module _ (names : Spellings) (ps : Processes) (who : List ℕ → List ℕ) (e : Expectation) (lines : List Line) (none : names_who e ≡ false) where
  same_named : (l : Line) → spec.is_named names ps who e l ≡ rows.is_one_of names e.topics.items l.outcome
  same_named l = row_unasked names ps (who_of who l) e.topics.items l.outcome none

  same_settles : (c : Claim) (l : Line) → settles_by c (matching.is_one_of names ps e.topics.items (who_of who l)) l.outcome ≡ settles_by c (rows.is_one_of names e.topics.items) l.outcome
  same_settles c l = row_settles c names ps (who_of who l) e.topics.items l.outcome none

  pub same_true : (c : Claim) → spec.is_true_by c (spec.is_named names ps who e) lines ≡ rows.is_true_by c (rows.is_one_of names e.topics.items) lines
  same_true Never = ap not (any_same (spec.is_named names ps who e) (λ l. rows.is_one_of names e.topics.items l.outcome) lines same_named)
  same_true Sometimes = any_same (spec.is_named names ps who e) (λ l. rows.is_one_of names e.topics.items l.outcome) lines same_named
  same_true Only = all_same (spec.is_named names ps who e) (λ l. rows.is_one_of names e.topics.items l.outcome) lines same_named

  pub settling : (l : Line) → by_rows.first_settling e.claim (rows.is_one_of names e.topics.items) lines ≡ Some l → IsSettling names ps who e lines l
  settling l f = let x = found_line (λ m. settles_by e.claim (rows.is_one_of names e.topics.items) m.outcome) lines l f in (x.0, same_settles e.claim l ∙ x.1)

  pub unsettled : by_rows.first_settling e.claim (rows.is_one_of names e.topics.items) lines ≡ None → list_any (spec.settles_at names ps who e) lines ≡ false
  unsettled f =
      any_same (spec.settles_at names ps who e) (λ l. settles_by e.claim (rows.is_one_of names e.topics.items) l.outcome) lines (same_settles e.claim) ∙
      found_no_line (λ m. settles_by e.claim (rows.is_one_of names e.topics.items) m.outcome) lines f

  weaker : (j : Judgement) → by_rows.IsJudged names e lines j → IsJudged names ps who e lines j
  weaker judgement.Holds h = (same_true e.claim ∙ h.0, h.1)
  weaker (judgement.Shown r) h = (h.0, same_true e.claim ∙ h.1, settling (row_line r) h.2)
  weaker (judgement.Against r) h = (h.0, same_true e.claim ∙ h.1, settling (row_line r) h.2)
  weaker judgement.Missing h = (h.0, same_true e.claim ∙ h.1, h.2)
  weaker judgement.Unsettled h = (unsettled h.0, h.1)

  pub judged_by_rows : (j : Judgement) → by_rows.IsJudged names e lines j → IsJudgedAny names ps who lines e j
  judged_by_rows j h = (weaker j h, λ same. h)
