-- What the outcome of reading a whole program says about the trees that its tokens spell.
use Rattle.std.proofs.Common.{◌≡◌, ◌≢◌, ℕ, ◌<◌, ◌≤◌, true, false, cond, List, [], ◌∷◌, length, Result, Ok, Err, refl, sym, ap, subst, ◌∙◌, arith}
use Rattle.std.specs.Prelude.{IfOk, slice_get}
use Rattle.cp_text.specs.declared.token.Kind.{Kind}
use Rattle.cp_text.specs.declared.token.Kind.TheVariants as kind
use Rattle.cp_text.specs.declared.token.Mark.TheVariants as mark
use Rattle.cp_text.specs.declared.token.Token.{Token}
use Rattle.cp_text.specs.Kinds.{kinds}
use Rattle.cp_text.specs.Reading.{AreOfText}
use Rattle.cp_tree.specs.declared.fault.ParseFault.{ParseFault}
use Rattle.cp_tree.specs.declared.fault.ParseFault.TheVariants.{Unexpected, OutsideProfile, TooDeep, Memory}
use Rattle.cp_tree.specs.declared.tree.Tree as tree_tree
use Rattle.cp_tree.specs.Answer.{is_left_out, answer_of, answer, Answers}
use Rattle.cp_tree.specs.Read as read
use Rattle.cp_tree.specs.Input.{Outcome, Parser, ◌>>=◌, expect, start_of}
use Rattle.cp_tree.specs.Syntax.{Routine, Body, ProgramPart, Program}
use Rattle.cp_tree.specs.View.{program_view}
use Rattle.cp_tree.specs.Reading.{many}
use Rattle.cp_tree.specs.ReadingDeclarations.{body, routines, program_part_item, ended, program}
use Rattle.cp_tree.specs.Spelling.{put_all, put_routine, put_body, spell}
use Rattle.cp_tree.specs.SpellingIndexed.{IsIndexedProgram, IsIndexed}
use Rattle.cp_tree.specs.SpellingLevel.{body_depth, deepest, program_part_depth, routine_depth, program_depth, IsProper}
use Rattle.cp_tree.proofs.Steps.{Found}
use Rattle.cp_tree.proofs.FoundDeclarations.{IsRead, program_found}
use Rattle.cp_tree.proofs.Lands.{on, Lands, lands_then, expect_lands}
use Rattle.cp_tree.proofs.AgainDeclarations.{routines_start, body_lands, routines_land, program_parts_land}

-- ---- the tokens of a program are read as that program

pub program_lands : (p : Program) → IsIndexed p → Lands (length (spell p)) (50 < program_depth p) p [] (program (start_of (spell p)))
unfolding program
program_lands p indexed =
    let total = length (spell p) in
    let D = 50 < program_depth p in
    let period = kind.Mark mark.Period ∷ [] in
    let last = put_body p.body period in
    let most = put_all put_routine p.routines last in
    let made : List ProgramPart → List Routine → Body → ℕ → Program = λ ps rs d at. record { parts = ps; routines = rs; body = d; period = at } in
    let end : List ProgramPart → List Routine → Body → Parser Program = λ ps rs d m. (expect mark.Period >>= (λ u n. ended (made ps rs d m.at) n n.rest)) m in
    lands_then total (50 < deepest program_part_depth p.parts) D (many program_part_item (on 0 (spell p))) (λ ps. routines >>= (λ rs. body >>= (λ d. end ps rs d))) p.parts most p []
    (program_parts_land total p.parts 0 most (omega arith) (indexed.0, routines_start total p.routines last indexed.1 refl)) (λ d. omega arith) (λ k here.
    lands_then total (50 < deepest routine_depth p.routines) D (routines (on k most)) (λ rs. body >>= (λ d. end p.parts rs d)) p.routines last p [] (routines_land total p.routines k last here ((indexed.1, indexed.2), refl)) (λ d. omega arith) (λ l q.
    lands_then total (50 < body_depth p.body) D (body (on l last)) (end p.parts p.routines) p.body period p [] (body_lands total p.body l period q indexed.3) (λ d. omega arith) (λ m r.
    let same_period : m ≡ p.period = omega (arith, indexed.4) in
    lands_then total (50 < 0) D (expect mark.Period (on m period)) (λ u n. ended (made p.parts p.routines p.body m) n n.rest) tt [] p [] (expect_lands total 50 mark.Period tt m [] r tt) (λ d. absurd (omega arith)) (λ n s.
    (ap (made p.parts p.routines p.body) same_period, refl, s)))))

-- the outcome for the tokens of a tree
lands : (ks : List Kind) (other : Program) (outcome : Outcome Program) → IsIndexed other → ks ≡ spell other → program (start_of ks) ≡ outcome → Lands (length (spell other)) (50 < program_depth other) other [] outcome
lands ks other outcome indexed e is =
    let T : Outcome Program → Type 0 = Lands (length (spell other)) (50 < program_depth other) other [] in
    subst T (sym (ap (λ (l : List Kind). program (start_of l)) e) ∙ is) (program_lands other indexed)

-- ---- the outcome

proper_read : (ks : List Kind) (p : Program) → IsRead ks p → IsProper p × (ks ≡ spell p)
proper_read ks p r = (record { indexed = subst (λ (n : ℕ). IsIndexedProgram n p) (ap (λ (l : List Kind). length l) r.spelled) r.indexed; shallow = r.shallow }, r.spelled)

-- what an outcome says
pub record Says (ks : List Kind) (outcome : Outcome Program) : Type 0 where
  pub found : Found (length ks) (λ p j. IsRead ks p) outcome
  pub other : (q : Program) → IsIndexed q → ks ≡ spell q → Lands (length (spell q)) (50 < program_depth q) q [] outcome

says : (ks : List Kind) → Says ks (program (start_of ks))
says ks = record { found = program_found ks; other = λ q indexed e. lands ks q (program (start_of ks)) indexed e refl }

-- ---- what is answered

-- The answer is the tree that spells the tokens, or a fault that tells why there is none.
abbrev pub Answered : List Kind → Result Program ParseFault → Type 0
Answered ks (Ok p) = (IsProper p × (ks ≡ spell p)) × ((other : Program) → IsIndexed other → ks ≡ spell other → p ≡ other)
Answered ks (Err (Unexpected at)) = ((other : Program) → IsIndexed other → ks ≢ spell other) × (is_left_out (slice_get ks at) ≡ false) × (at ≤ length ks)
Answered ks (Err (OutsideProfile at)) = ((other : Program) → IsIndexed other → ks ≢ spell other) × (is_left_out (slice_get ks at) ≡ true)
Answered ks (Err (TooDeep at)) = (other : Program) → IsProper other → ks ≢ spell other
Answered ks (Err Memory) = Unit {0}

answered_of : (ks : List Kind) (outcome : Outcome Program) → Says ks outcome → Answered ks (answer_of ks outcome)
answered_of ks (Ok p) s = (proper_read ks p.0 s.found, λ other indexed is. (s.other other indexed is).0)
answered_of ks (Err (TooDeep n)) s = λ other proper is. (let deep : 50 < program_depth other = s.other other proper.indexed is in omega (arith, proper.shallow, deep))
answered_of ks (Err (Unexpected n)) s =
    elim (is_left_out (slice_get ks n)) as (λ c. is_left_out (slice_get ks n) ≡ c → Answered ks (Err (cond c (OutsideProfile n) (Unexpected n)))) [
      | true ↦ λ e. (λ other indexed is. s.other other indexed is, e)
      | false ↦ λ e. (λ other indexed is. s.other other indexed is, e, s.found)
    ] refl
answered_of ks _ s = absurd s.found

pub answered : (ks : List Kind) → Answered ks (answer ks)
answered ks = answered_of ks (program (start_of ks)) (says ks)

-- ---- the clauses of a parser that answers so, unless memory fails

not_memory : (ks : List Kind) (r : Result tree_tree.Tree ParseFault) (e : ParseFault) → Answers ks r → r ≡ Err e → e ≢ Memory → Answered ks (Err e)
not_memory ks r e h is known =
    let g : Answers ks (Err e) = subst (λ (r : Result tree_tree.Tree ParseFault). Answers ks r) is h in
    subst (λ (a : Result Program ParseFault). Answered ks a) (g known) (answered ks)

tree_answered : (ks : List Kind) (t : tree_tree.Tree) → Answers ks (Ok t) → Answered ks (Ok (program_view t.program))
tree_answered ks t h = subst (λ (a : Result Program ParseFault). Answered ks a) h (answered ks)

module _ (ks : List Kind) where
  pub proper : (r : Result tree_tree.Tree ParseFault) → Answers ks r → IfOk r (λ t. IsProper (program_view t.program) × (ks ≡ spell (program_view t.program)))
  proper (Ok t) h = (tree_answered ks t h).0
  proper (Err e) h = tt

  pub only : (r : Result tree_tree.Tree ParseFault) → Answers ks r → IfOk r (λ t. (other : Program) → IsIndexed other → ks ≡ spell other → program_view t.program ≡ other)
  only (Ok t) h = (tree_answered ks t h).1
  only (Err e) h = tt

  pub unexpected : (r : Result tree_tree.Tree ParseFault) → Answers ks r → (at : ℕ) → r ≡ Err (Unexpected at) → (other : Program) → IsIndexed other → ks ≢ spell other
  unexpected r h at is = (not_memory ks r (Unexpected at) h is (λ e. absurd cc)).0

  pub outside : (r : Result tree_tree.Tree ParseFault) → Answers ks r → (at : ℕ) → r ≡ Err (OutsideProfile at) → (other : Program) → IsIndexed other → ks ≢ spell other
  outside r h at is = (not_memory ks r (OutsideProfile at) h is (λ e. absurd cc)).0

  pub left_out : (r : Result tree_tree.Tree ParseFault) → Answers ks r → (at : ℕ) → r ≡ Err (OutsideProfile at) → is_left_out (slice_get ks at) ≡ true
  left_out r h at is = (not_memory ks r (OutsideProfile at) h is (λ e. absurd cc)).1

  pub not_left_out : (r : Result tree_tree.Tree ParseFault) → Answers ks r → (at : ℕ) → r ≡ Err (Unexpected at) → is_left_out (slice_get ks at) ≡ false
  not_left_out r h at is = (not_memory ks r (Unexpected at) h is (λ e. absurd cc)).1

  pub too_deep : (r : Result tree_tree.Tree ParseFault) → Answers ks r → (at : ℕ) → r ≡ Err (TooDeep at) → (other : Program) → IsProper other → ks ≢ spell other
  too_deep r h at is = not_memory ks r (TooDeep at) h is (λ e. absurd cc)

  pub within : (r : Result tree_tree.Tree ParseFault) → Answers ks r → (at : ℕ) → r ≡ Err (Unexpected at) → at ≤ length ks
  within r h at is = (not_memory ks r (Unexpected at) h is (λ e. absurd cc)).2

-- ---- trees and their spelling

both_land : (p q : Program) (n m : ℕ) (outcome : Outcome Program) → program_depth p ≤ 50 → Lands n (50 < program_depth p) p [] outcome → Lands m (50 < program_depth q) q [] outcome → p ≡ q
both_land p q n m (Ok x) shallow h g = sym h.0 ∙ g.0
both_land p q n m (Err (TooDeep k)) shallow h g = absurd (omega (arith, shallow, h))
both_land p q n m _ shallow h g = absurd h

-- Two proper trees with one spelling are equal.
pub one_tree : (p q : Program) → IsProper p → IsProper q → spell p ≡ spell q → p ≡ q
one_tree p q one two e =
    both_land p q (length (spell p)) (length (spell q)) (program (start_of (spell p))) one.shallow (program_lands p one.indexed) (lands (spell p) q (program (start_of (spell p))) two.indexed e refl)

-- ---- the tree

-- what is answered to the tokens of a text was read
pub read_of : (ts : List Token) → AreOfText ts → (p : Program) → answer (kinds ts) ≡ Ok p → read.IsRead p
read_of ts text p h =
    let both : IsProper p × (kinds ts ≡ spell p) = (subst (λ (r : Result Program ParseFault). Answered (kinds ts) r) h (answered (kinds ts))).0 in
    record { tokens = ts; text = text; spelled = both.1; proper = both.0 }
