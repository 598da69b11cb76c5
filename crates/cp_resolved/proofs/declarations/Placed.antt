-- A tree that was read and breaks no rule has what the laws on layouts and on bodies want of it.
use Rattle.cp_resolved.proofs.Words.{◌≤◌, ℕ, Option, Some, arith, most}
use Rattle.cp_resolved.proofs.Words.{cells_of, IsSizedMeaning, AreSized}
use Rattle.cp_resolved.proofs.Words.{IsFit, meaning_at}
use Rattle.cp_meaning.specs.Scopes.{Meaning, local_variable, permanent_variable, find}
use Rattle.cp_resolved.specs.Placed.{PlacedLaw}
use Rattle.cp_resolved.proofs.declarations.CallsOfTrees.{indexed_apart}
use Rattle.cp_resolved.proofs.counts.FewCells.{few_free, few_standing, full_free, full_standing}
use Rattle.cp_resolved.proofs.declarations.OnceOfTrees.{accepted_once}
use Rattle.cp_resolved.proofs.declarations.Plain.{plain_law}
use Rattle.cp_resolved.proofs.Words.{Tree, IsRead, IsAccepted, RoutineMeaning, sym, subst}
use Rattle.cp_resolved.proofs.statements.CalleesKnown.{At, at_number}
use Rattle.cp_resolved.proofs.declarations.WordsOfTrees.{read_words, read_checks}

-- ---- what fits has few cells

few_most : (n : ℕ) → n ≤ 8192 → n ≤ most
few_most n h = omega (arith, h)

fit_sized : (o : Option Meaning) → IsFit o → IsSizedMeaning o
fit_sized (Some (local_variable t)) h = (few_most (cells_of t) (few_free t h), full_free t h)
fit_sized (Some (permanent_variable t)) h = (few_most (cells_of t) (few_standing t h), full_standing t h)
fit_sized _ h = tt

sized_at : (t : Tree) → IsRead t.program → IsAccepted t → (n : ℕ) → AreSized (meaning_at t.program n).scope
sized_at t read accepted n =
    let a : At t n = at_number t read accepted n in
    subst (λ (m : RoutineMeaning). AreSized m.scope) (sym a.means) (λ y. fit_sized (find y a.opening.meaning.scope) (a.agreed.fit y))

pub placed_law : PlacedLaw
placed_law t read accepted =
    record {
      plain = plain_law t read accepted;
      once = accepted_once t accepted;
      sized = sized_at t read accepted;
      words = read_words t.program read;
      checks = read_checks t.program read;
      apart = indexed_apart t.program read.proper.indexed;
    }
