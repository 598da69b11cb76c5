-- Quiet steps commute on the program's own names, and so the search that makes them at once finds all.
use Rattle.cp_at_once_laws.proofs.Words.{ℕ, Bool, Option, Tree, well_formed, State, IsWellFormed, Marks, Commutes, PicksQuiet}
use Rattle.cp_at_once_laws.specs.Found.{ShowsValue, FindsAll, AtOnceNames}
use Rattle.cp_at_once_laws.specs.Quiet.{names, IsSomewhere, IsQuietStep, CommutesLaw}
use Rattle.cp_at_once_laws.proofs.rules.StartsKnown.{StartsKnown}
use Rattle.cp_at_once_laws.proofs.names.Beside.{BesideLaw}
use Rattle.cp_at_once_laws.proofs.names.Commuting.{commutes, shows_there, shows_back}
use Rattle.cp_at_once_laws.proofs.names.States.{Kept}
use Rattle.cp_at_once_laws.proofs.pairs.Both.{beside}
use Rattle.cp_at_once_laws.proofs.pairs.Unknown.{unknown_opening, unknown_step}
use Rattle.cp_at_once_laws.proofs.pairs.Waits.{waiting_opening, waiting_step}
use Rattle.cp_at_once_laws.proofs.rules.Started.{starts_known}
use Rattle.cp_at_once_laws.proofs.search.Given.{found_of, errors_found, loops_found, alone_found}
use Rattle.cp_at_once_laws.proofs.search.Goals.{marks_stay, own_marks}

module _ (t : Tree) (ok : IsWellFormed t.program) (rules : StartsKnown t.program) where
  pub kept : Kept t.program
  kept =
      record {
        rules = rules;
        waiting_opening = waiting_opening t.program;
        waiting_step = λ s q owned orderly first free less r old. waiting_step t.program ok s q owned orderly first free less r old;
        unknown_opening = unknown_opening t.program;
        unknown_step = unknown_step t.program ok rules;
      }

  pub beside_law : BesideLaw t.program
  beside_law s a b f ne ra rb quiet = beside t.program ok rules s a b f ne ra rb quiet

  pub all_commute : Commutes (names t) (IsSomewhere t) (IsQuietStep t)
  all_commute = commutes t ok kept beside_law

  module _ (pick : State → Option ℕ) (picks : PicksQuiet (names t) (IsSomewhere t) (IsQuietStep t) pick) (row : ℕ → State → ℕ) (c : ℕ) (waiting : Bool) where
    pub all_found : FindsAll t pick row c waiting
    all_found =
        record {
          errors = λ e. errors_found t all_commute pick picks row c waiting e;
          loops = loops_found t all_commute pick picks row c waiting;
          alone = alone_found t all_commute pick picks row c waiting;
          values = λ v. found_of t all_commute pick picks row c waiting (Marks (names t) (ShowsValue t v))
              (marks_stay (names t) (IsSomewhere t) (IsQuietStep t) all_commute (ShowsValue t v) (shows_there t ok kept beside_law v) (shows_back t ok kept beside_law v))
              (own_marks (names t) (IsSomewhere t) (IsQuietStep t) all_commute (ShowsValue t v) (shows_there t ok kept beside_law v) (shows_back t ok kept beside_law v));
        }

pub commute_law : CommutesLaw
commute_law t read ok = all_commute t (well_formed t ok) (starts_known t read ok)

pub at_once_names : AtOnceNames
at_once_names t read ok pick picks row c waiting = all_found t (well_formed t ok) (starts_known t read ok) pick picks row c waiting
