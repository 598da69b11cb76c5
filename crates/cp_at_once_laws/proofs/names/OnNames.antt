-- What the search at once on the slot machine goes through leaves nothing out of the meaning of the program on its own names.
use Rattle.cp_at_once_laws.proofs.Words.{◌≡◌, ℕ, true, false, List, ap, subst, Contains, IsRead, Tree, plain, laid, Tables, IsAccepted, well_formed, Machine, by_the_book}
use Rattle.cp_at_once_laws.proofs.Words.{book_discipline, State, IsWellFormed, OutcomeKind, CanGo, GoInStep, Commutes, ShowsValue, names, IsSomewhere, IsQuietStep}
use Rattle.cp_at_once_laws.proofs.Words.{SearchesAtOnce, HasQuietLeg, IsPlain, slots, named, is_some, named_without_output, silent_slots}
use Rattle.cp_machine.specs.declared.shown.Shown.{Shown}
use Rattle.cp_machine_laws.proofs.Meaning.{goes_in_step}
use Rattle.cp_endless_laws.specs.Shown.{ShowsAfter}
use Rattle.cp_at_once_laws.specs.OnSlots.{IsQuietOnSlots, Tells, LeavesNone, LeavesNothingOut}
use Rattle.cp_at_once_laws.proofs.rules.StartsKnown.{StartsKnown}
use Rattle.cp_at_once_laws.proofs.limits.NothingLeft.{met_there, no_end_left}
use Rattle.cp_at_once_laws.proofs.limits.Whole.{IsShown, marks_told}
use Rattle.cp_at_once_laws.proofs.names.Commuting.{plain as is_plain, shows_there, shows_back}
use Rattle.cp_at_once_laws.proofs.names.Laws.{kept, beside_law, all_commute}
use Rattle.cp_at_once_laws.proofs.names.QuietLegs.{OnSlots, in_step, quiet_leg}
use Rattle.cp_at_once_laws.proofs.names.Reached.{unpending}
use Rattle.cp_at_once_laws.proofs.names.States.{known}
use Rattle.cp_at_once_laws.proofs.names.Values.{IsShownIn, shown_in, shows_call}
use Rattle.cp_at_once_laws.proofs.rules.Started.{starts_known}

module _ (t : Tree) (r : Tables) (read : IsRead t.program) (ok : IsAccepted t) (rules : StartsKnown t.program) (same : plain r ≡ laid t) where
  go : GoInStep (names t) (silent_slots r by_the_book) (OnSlots t r)
  go = in_step t r read ok rules same

  wf : IsWellFormed t.program
  wf = well_formed t ok

  free : (s : State) (m : Machine) → OnSlots t r s m → (names t).is_pending s ≡ false
  free s m h = ap is_some (unpending t.program wf rules s h.reached).none

  quick : (s : State) (m : Machine) (p : ℕ) → OnSlots t r s m → CanGo (names t) s p → IsQuietOnSlots r m p → HasQuietLeg (names t) (IsQuietStep t) s p
  quick = quiet_leg t r read ok rules same

  law : Commutes (names t) (IsSomewhere t) (IsQuietStep t)
  law = all_commute t wf rules

  plain_names : IsPlain (names t) (IsSomewhere t)
  plain_names = is_plain t wf (kept t wf rules) (beside_law t wf rules)

  module _ (steps most : ℕ) (states : Machine → Type 0) (told : OutcomeKind → Type 0) (alone spins : ℕ → Type 0) (told_value : Shown → Type 0) (search : SearchesAtOnce (silent_slots r by_the_book) steps most (IsQuietOnSlots r) states told alone spins (Tells r told_value)) where
    -- a step that shows the value on names, and is told on slots
    value_of : (v : Shown) → IsShown (names t) (silent_slots r by_the_book) (OnSlots t r) go free (IsQuietStep t) (IsQuietOnSlots r) quick (IsSomewhere t) law plain_names steps most states told alone spins (Tells r told_value) search (ShowsValue t v) → told_value v
    value_of v m =
        let can : CanGo (named t book_discipline) m.state m.process = record { below = m.can.below; ready = m.can.ready; free = m.can.free } in
        let there = (goes_in_step t r book_discipline read ok same).step m.state m.other m.process m.same can in
        let alike = ((goes_in_step t r book_discipline read ok same).alike ((named t book_discipline).step m.state m.process) ((slots r by_the_book).step m.other m.process) there).output in
        m.shows v (subst (λ (out : List Shown). Contains out v) alike m.mark)

    values_told : (limit : ℕ) (word : List ℕ) (v : Shown) → ShowsAfter (named t book_discipline) named_without_output limit word v → told_value v
    values_told limit word v h =
        let x : IsShownIn (named t book_discipline) named_without_output limit word v = shown_in (named t book_discipline) named_without_output limit word v h in
        let here = met_there (names t) (IsSomewhere t) (IsQuietStep t) law plain_names limit word x.begin x.first x.after x.state x.process x.sets_out x.stands in
        let none = (known t wf (kept t wf rules) here.0.happened x.state here.0.met).output in
        value_of v
        (marks_told (names t) (silent_slots r by_the_book) (OnSlots t r) go free (IsQuietStep t) (IsQuietOnSlots r) quick (IsSomewhere t) law plain_names steps most states told alone spins (Tells r told_value) search (ShowsValue t v)
        (shows_there t wf (kept t wf rules) (beside_law t wf rules) v) (shows_back t wf (kept t wf rules) (beside_law t wf rules) v) limit word x.begin x.first x.after x.state x.process x.sets_out x.stands (shows_call t x.state x.process v none x.shown) x.shown)

    pub none_left : LeavesNone t told alone spins told_value
    none_left =
        record {
          ends = no_end_left (names t) (silent_slots r by_the_book) (OnSlots t r) go free (IsQuietStep t) (IsQuietOnSlots r) quick (IsSomewhere t) law plain_names steps most states told alone spins (Tells r told_value) search;
          values = values_told;
        }

-- for predicates of any kind
pub leaves_none : (t : Tree) (r : Tables) → IsRead t.program → IsAccepted t → plain r ≡ laid t → (steps most : ℕ) (kept : Machine → Type 0) (known : OutcomeKind → Type 0) (alone spins : ℕ → Type 0) (told : Shown → Type 0) →
    SearchesAtOnce (silent_slots r by_the_book) steps most (IsQuietOnSlots r) kept known alone spins (Tells r told) → LeavesNone t known alone spins told
leaves_none t r read ok same steps most kept known alone spins told search = none_left t r read ok (starts_known t read ok) same steps most kept known alone spins told search

pub leaves_nothing_out : LeavesNothingOut
leaves_nothing_out t r read ok same steps most kept known alone spins told search =
    leaves_none t r read ok same steps most (λ m. kept m ≡ true) (λ k. known k ≡ true) (λ q. alone q ≡ true) (λ q. spins q ≡ true) (λ v. told v ≡ true) search
