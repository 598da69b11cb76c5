use Rattle.std.proofs.Common.{rules, ◌≡◌, ◌∙◌, ◌<◌, ◌==◌, ℕ, Bool, List, [], true, false, get_or, length, ap, arith, subst, sym}
use Rattle.std.proofs.lemmas.Bool.Decides.{Decides-eqb}
use Rattle.cp_slots.specs.Tables.{Tables}
use Rattle.cp_machine.specs.declared.discipline.Discipline.{Discipline}
use Rattle.cp_machine.specs.System.{Machine, is_pending}
use Rattle.cp_parts.specs.declared.placing.PlaceTable.{PlaceTable}
use Rattle.cp_states.specs.Numbers.{number_at}
use Rattle.cp_run.specs.Run.{may, those_below}
use Rattle.cp_run.specs.Slots.{slots, processes_of}
use Rattle.cp_run.proofs.Choosable.{at_those}
use Rattle.cp_stretches.proofs.Growing.{can_read}
use Rattle.cp_stretches.proofs.Statuses as statuses
use Rattle.cp_ends.specs.Holds.{AreStates}
use Rattle.cp_ends.specs.Rows.{IsRowFor}
use Rattle.cp_ends.specs.declared.states.States.{States}
use Rattle.cp_ends.proofs.Rowwise.{stands_for}
use Rattle.cp_at_once.proofs.Staying.{stays_on, stays_same}
use Rattle.cp_at_once.proofs.leg.process_at_once.Goals as goal

module _ (r : Tables) (rows : States) (row : List ℕ) (m : Machine) (known : AreStates r rows []) (is : IsRowFor r rows row m) where
  -- no monitor is pending
  pub nobody : number_at row rows.cache.table.processes ≡ 0 → is_pending m ≡ false
  nobody none = statuses.is_free r rows.cache.store rows.cache.table rows.cache.numbers m row (can_read r rows.discipline rows.cache m row known.cached (stands_for r rows row m is)) none

  -- who is listed may be chosen
  pub listed : (discipline : Discipline) (all : List ℕ) (i : ℕ) → rows.discipline ≡ discipline → all ≡ those_below (processes_of r) (may (slots r rows.discipline) m) → i < length all → (may (slots r discipline) m (get_or all i 0) ≡ true) × (get_or all i 0 < rows.cache.table.processes)
  listed discipline all i ruled told lt =
      let at = at_those (may (slots r rows.discipline) m) (processes_of r) i (subst (λ l. i < length l) told lt) in
      let same = ap (λ l. get_or l i 0) told in
      (subst (λ d. may (slots r d) m (get_or all i 0) ≡ true) ruled (ap (may (slots r rows.discipline) m) same ∙ at.1), omega (arith, at.2, same, known.cached.placed.processes))

zero_is : (n : ℕ) (b : Bool) → b ≡ (n == 0) → b ≡ true → n ≡ 0
zero_is n b is holds = (Decides-eqb n 0).0 (sym is ∙ holds)

pub is_free-requires : goal.is_free-requires
is_free-requires c = omega (arith, c.requires.row.1.is.long)

pub returns-then-not-is_free-clause-kept : goal.returns-then-not-is_free-clause-kept
returns-then-not-is_free-clause-kept c = stays_same c.args.job.now.program.now c.args.rows.now

pub returns-then-not-is_free-clause-leg : goal.returns-then-not-is_free-clause-leg
returns-then-not-is_free-clause-leg c = tt

pub candidates-candidates-requires : goal.candidates-candidates-requires
candidates-candidates-requires c =
    let r = c.args.job.now.program.now in
    let rows = c.args.rows.now in
    (r, rows.discipline, c.requires.row.0, c.requires.known.cached, stands_for r rows c.args.row.now c.requires.row.0 c.requires.row.1)

pub loop-pid-init : goal.loop-pid-init
loop-pid-init c = record { kept = stays_same c.args.job.now.program.now c.args.rows.now; ahead = c.requires.ahead }

pub has_quiet_leg-requires-clause-known : goal.has_quiet_leg-requires-clause-known
has_quiet_leg-requires-clause-known c = c.loop-pid.invariant.kept.known c.requires.known

pub has_quiet_leg-requires-clause-ruled : goal.has_quiet_leg-requires-clause-ruled
has_quiet_leg-requires-clause-ruled c = c.loop-pid.invariant.kept.ruled ∙ c.requires.ruled

pub has_quiet_leg-requires-clause-pid : goal.has_quiet_leg-requires-clause-pid
has_quiet_leg-requires-clause-pid c =
    let r = c.args.job.now.program.now in
    let rows = c.args.rows.now in
    let row = c.args.row.now in
    let m = c.requires.row.0 in
    let all = c.as_slice-pid-items.result.now in
    let i = c.loop-pid.pid-index in
    let told = c.as_slice-pid-items.ensures.value ∙ c.candidates-candidates.ensures r rows.discipline m c.requires.known.cached (stands_for r rows row m c.requires.row.1) in
    let on = listed r rows row m c.requires.known c.requires.row.1 c.args.job.now.limits.discipline all i c.requires.ruled told (omega arith) in
    let below : get_or all i 0 < c.loop-pid.rows.cache.table.processes = subst (λ (t : PlaceTable). get_or all i 0 < t.processes) (sym c.loop-pid.invariant.kept.table) on.1 in
    search (rules, below)

pub has_quiet_leg-requires-clause-row : goal.has_quiet_leg-requires-clause-row
has_quiet_leg-requires-clause-row c =
    let r = c.args.job.now.program.now in
    let rows = c.args.rows.now in
    let row = c.args.row.now in
    let m = c.requires.row.0 in
    let all = c.as_slice-pid-items.result.now in
    let i = c.loop-pid.pid-index in
    let told = c.as_slice-pid-items.ensures.value ∙ c.candidates-candidates.ensures r rows.discipline m c.requires.known.cached (stands_for r rows row m c.requires.row.1) in
    let on = listed r rows row m c.requires.known c.requires.row.1 c.args.job.now.limits.discipline all i c.requires.ruled told (omega arith) in
    let yes : c.is_free.result ≡ true = search in
    (m, c.loop-pid.invariant.kept.rows row m c.requires.row.1, on.0, nobody r rows row m c.requires.known c.requires.row.1 (zero_is _ c.is_free.result c.is_free.ensures yes))

pub has_quiet_leg-requires-clause-ahead : goal.has_quiet_leg-requires-clause-ahead
has_quiet_leg-requires-clause-ahead c = c.loop-pid.invariant.ahead

pub returns-then-branch-clause-kept : goal.returns-then-branch-clause-kept
returns-then-branch-clause-kept c = stays_on c.args.job.now.program.now c.args.rows.now c.loop-pid.rows c.has_quiet_leg.new.rows c.loop-pid.invariant.kept c.in_ok-has_quiet_leg.ensures.kept

pub returns-then-branch-clause-leg : goal.returns-then-branch-clause-leg
returns-then-branch-clause-leg c = λ m is.
    (let r = c.args.job.now.program.now in
    let rows = c.args.rows.now in
    let row = c.args.row.now in
    let all = c.as_slice-pid-items.result.now in
    let i = c.loop-pid.pid-index in
    let told = c.as_slice-pid-items.ensures.value ∙ c.candidates-candidates.ensures r rows.discipline m c.requires.known.cached (stands_for r rows row m is) in
    let on = listed r rows row m c.requires.known is c.args.job.now.limits.discipline all i c.requires.ruled told (omega arith) in
    let free : c.is_free.result ≡ true = search in
    let yes : c.in_ok-has_quiet_leg.field-0 ≡ true = search in
    let leg = c.in_ok-has_quiet_leg.ensures.leg yes m (c.loop-pid.invariant.kept.rows row m is) on.0 (nobody r rows row m c.requires.known is (zero_is _ c.is_free.result c.is_free.ensures free)) in
    (leg, on.0))

pub loop-pid-preserved : goal.loop-pid-preserved
loop-pid-preserved c =
    record {
      kept = stays_on c.args.job.now.program.now c.args.rows.now c.loop-pid.rows c.has_quiet_leg.new.rows c.loop-pid.invariant.kept c.in_ok-has_quiet_leg.ensures.kept;
      ahead = c.has_quiet_leg.ensures.ahead ∙ c.loop-pid.invariant.ahead;
    }

pub returns-clause-leg : goal.returns-clause-leg
returns-clause-leg c = tt
