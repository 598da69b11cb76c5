-- No monitor is pending in a reached state where the first of a line goes in, and no component knows a process.
use Rattle.cp_at_once_laws.proofs.Words.{◌≡◌, ◌∙◌, None, Some, sym, refl, Program, book_discipline, State, IsWellFormed, reached}
use Rattle.cp_meaning.specs.Steps.{IsReached, at_first, by_step, by_admission, by_forgetting}
use Rattle.cp_at_once_laws.proofs.rules.StartsKnown.{StartsKnown}
use Rattle.cp_at_once_laws.proofs.pairs.Facts.{facts}
use Rattle.cp_at_once_laws.proofs.pairs.Fit.{ProcessesUnknown}
use Rattle.cp_at_once_laws.proofs.pairs.Shape.{step_stands}
use Rattle.cp_at_once_laws.proofs.pairs.Unknown.{unknown_opening, unknown_step}

pub record Unpending (p : Program) (s : State) : Type 0 where
  pub discipline : s.discipline ≡ book_discipline
  pub none : s.pending ≡ None
  pub unknown : ProcessesUnknown p s

pub unpending : (p : Program) → IsWellFormed p → StartsKnown p → (s : State) → IsReached p book_discipline s → Unpending p s
unpending p ok rules _ at_first = record { discipline = refl; none = refl; unknown = unknown_opening p book_discipline }
unpending p ok rules _ (by_step s pid before none less is_ready) =
    let u = unpending p ok rules s before in
    let inv = reached p ok book_discipline s before in
    let st = step_stands p ok s pid u.discipline inv.0 inv.1 less is_ready (facts p s pid ok inv.0 inv.1 less is_ready rules u.unknown) in
    record { discipline = st.shape.discipline ∙ u.discipline; none = st.shape.pending ∙ u.none; unknown = unknown_step p ok rules s pid inv.0 inv.1 u.discipline less is_ready u.unknown }
unpending p ok rules _ (by_admission s m q before is member) = absurd (let u = unpending p ok rules s before in let bad : Some m ≡ None = sym is ∙ u.none in cc)
unpending p ok rules _ (by_forgetting s before) = let u = unpending p ok rules s before in record { discipline = u.discipline; none = u.none; unknown = u.unknown }
