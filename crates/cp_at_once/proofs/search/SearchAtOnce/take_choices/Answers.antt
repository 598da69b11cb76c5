use Rattle.std.proofs.Common.{◌≡◌, ◌∙◌, ◌+◌, ◌<◌, ℕ, List, suc, true, false, get_or, length, sym, take, ap, subst, arith, ◌∷◌, [], ◌++◌}
use Rattle.std.proofs.lemmas.List.{take_all, take_more}
use Rattle.cp_slots.specs.Tables.{Tables}
use Rattle.cp_machine.specs.declared.discipline.Discipline.{Discipline}
use Rattle.cp_machine.specs.System.{Machine}
use Rattle.cp_run.specs.Run.{may, those_below}
use Rattle.cp_run.specs.Slots.{processes_of, slots}
use Rattle.cp_run.proofs.Choosable.{At, at_those}
use Rattle.cp_stretches.specs.Cached.{IsCache, StandsFor}
use Rattle.cp_ends.proofs.Rowwise.{stands_for}
use Rattle.cp_at_once.proofs.Words.{slot_graph, HasLeg}
use Rattle.cp_at_once.specs.ByRows.{IsWithinRow}
use Rattle.cp_at_once.specs.Following.{GoesThrough}
use Rattle.cp_at_once.specs.declared.search.SearchAtOnce.{SearchAtOnce}
use Rattle.cp_at_once.proofs.Choices.{is_among, through_more}
use Rattle.cp_at_once.proofs.search.SearchAtOnce.take_choices.Goals as goal

-- the number at a place of those that may be chosen
listed : (f : ℕ → _) (n : ℕ) (all : List ℕ) (i : ℕ) → all ≡ those_below n f → i < length all → At f n i all
listed f n all i is lt = let e = ap length is in subst (At f n i) (sym is) (at_those f n i (omega (arith, lt, e)))

module _ (r : Tables) (discipline : Discipline) (steps most : ℕ) (s : SearchAtOnce) (row : List ℕ) (at : ℕ) (m : Machine) (done : List ℕ) (ruled : s.found.kept.store.discipline ≡ discipline) (h : IsWithinRow r discipline steps most s row at m done) where
  pub cache : IsCache r discipline s.found.kept.store.cache
  cache = subst (λ (d : Discipline). IsCache r d s.found.kept.store.cache) ruled h.within.holds.kept.known.cached

  pub stands : StandsFor r discipline s.found.kept.store.cache.store s.found.kept.store.cache.table m row
  stands = subst (λ (d : Discipline). StandsFor r d s.found.kept.store.cache.store s.found.kept.store.cache.table m row) ruled (stands_for r s.found.kept.store row m h.row_is)

pub candidates-candidates-requires : goal.candidates-candidates-requires
candidates-candidates-requires c =
    let job = c.args.job.now in
    let r = job.run.program.now in
    let discipline = job.run.limits.discipline in
    let w = c.requires.within in
    (r, discipline, w.0, cache r discipline job.run.limits.steps job.most c.args.self.now c.args.row.now c.args.at w.0 [] c.requires.room.ruled w.1, stands r discipline job.run.limits.steps job.most c.args.self.now c.args.row.now c.args.at w.0 [] c.requires.room.ruled w.1)

pub loop-process-init : goal.loop-process-init
loop-process-init c = record { room = c.requires.room; within = λ m h. h }

pub take-requires-clause-within : goal.take-requires-clause-within
take-requires-clause-within c =
    let job = c.args.job.now in
    let r = job.run.program.now in
    let discipline = job.run.limits.discipline in
    let steps = job.run.limits.steps in
    let w = c.requires.within in
    let all = c.as_slice-process-items.result.now in
    let i = c.loop-process.process-index in
    let numbers = c.candidates-candidates.ensures r discipline w.0 (cache r discipline steps job.most c.args.self.now c.args.row.now c.args.at w.0 [] c.requires.room.ruled w.1) (stands r discipline steps job.most c.args.self.now c.args.row.now c.args.at w.0 [] c.requires.room.ruled w.1) in
    let at = listed (may (slots r discipline) w.0) (processes_of r) all i (c.as_slice-process-items.ensures.value ∙ numbers) (omega arith) in
    (w.0, subst (λ ps. IsWithinRow r discipline steps job.most c.loop-process.self c.args.row.now c.args.at w.0 ps) at.0 (c.loop-process.invariant.within w.0 w.1), at.1)

pub loop-process-preserved : goal.loop-process-preserved
loop-process-preserved c =
    let job = c.args.job.now in
    let r = job.run.program.now in
    let discipline = job.run.limits.discipline in
    let steps = job.run.limits.steps in
    let all = c.as_slice-process-items.result.now in
    let i = c.loop-process.process-index in
    let p : ℕ = get_or all i 0 in
    let room : c.in_ok-take.field-0 ≡ true = search in
    record {
      room = c.in_ok-take.ensures.room;
      within = λ m h.
          (let numbers = c.candidates-candidates.ensures r discipline m (cache r discipline steps job.most c.args.self.now c.args.row.now c.args.at m [] c.requires.room.ruled h) (stands r discipline steps job.most c.args.self.now c.args.row.now c.args.at m [] c.requires.room.ruled h) in
          let at = listed (may (slots r discipline) m) (processes_of r) all i (c.as_slice-process-items.ensures.value ∙ numbers) (omega arith) in
          let here = subst (λ ps. IsWithinRow r discipline steps job.most c.loop-process.self c.args.row.now c.args.at m ps) at.0 (c.loop-process.invariant.within m h) in
          subst (λ ps. IsWithinRow r discipline steps job.most c.take.new.self c.args.row.now c.args.at m ps) (ap (λ ps. ps ++ p ∷ []) (sym at.0) ∙ sym (take_more all i 0 (omega arith))) (c.in_ok-take.ensures.within room m here at.1));
    }

pub returns-clause-taken : goal.returns-clause-taken
returns-clause-taken c =
    let job = c.args.job.now in
    let r = job.run.program.now in
    let discipline = job.run.limits.discipline in
    let steps = job.run.limits.steps in
    let gr = slot_graph r discipline steps in
    let w = c.requires.within in
    let m = w.0 in
    let found = c.loop-process.self.found in
    let all = c.as_slice-process-items.result.now in
    let n = c.args.at in
    let numbers = c.candidates-candidates.ensures r discipline m (cache r discipline steps job.most c.args.self.now c.args.row.now n m [] c.requires.room.ruled w.1) (stands r discipline steps job.most c.args.self.now c.args.row.now n m [] c.requires.room.ruled w.1) in
    let whole : take c.loop-process.process-index all ≡ those_below (processes_of r) (may (slots r discipline) m) = take_all c.loop-process.process-index all (omega arith) ∙ c.as_slice-process-items.ensures.value ∙ numbers in
    let done = subst (λ ps. IsWithinRow r discipline steps job.most c.loop-process.self c.args.row.now n m ps) whole (c.loop-process.invariant.within m w.1) in
    let next : n + 1 ≡ suc n = omega arith in
    subst (λ k. GoesThrough r gr (HasLeg r discipline) job.most 8 k found) next (through_more r gr (HasLeg r discipline) job.most found n m (those_below gr.below (gr.may m)) done.within (λ p is. is_among (slots r discipline) m p is))

pub returns-then-not-branch-clause-taken : goal.returns-then-not-branch-clause-taken
returns-then-not-branch-clause-taken c = let full : c.in_ok-take.field-0 ≡ false = search in c.in_ok-take.ensures.stops full
