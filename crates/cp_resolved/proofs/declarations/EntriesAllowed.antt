-- The word `entry` stands in classes and monitors alone.
use Rattle.std.proofs.Common.{◌≡◌, Bool, true, false, ◌&&◌, if◌then◌else◌, [], Option, Ok, refl, sym, ap, ◌∙◌}
use Rattle.cp_resolved.proofs.Words.{ℕ, ◌-◌, not, SystemKind, Routine, ValueType, Judged, enter, Step, fault, C9}
use Rattle.cp_check.specs.Headings.{after_faults, parameters_and_result, result_faults, may_enter, entry_faults, heading_faults, check_heading, heading}
use Rattle.cp_resolved.proofs.agreeing.Agreeing.{none_right}
use Rattle.cp_resolved.proofs.statements.CallsJudged.{unless_ok}
use Rattle.cp_resolved.proofs.agreeing.WithoutFaults.{Then, then_of}

allowed : (at : ℕ) (owner : Option SystemKind) → entry_faults at owner true ≡ [] → may_enter owner ≡ true
allowed at owner e = go (may_enter owner) e
  where
    go : (b : Bool) → (if true && not b then fault at C9 else []) ≡ [] → b ≡ true
    go true f = refl
    go false f = absurd (cc)

-- a routine whose heading breaks no rule
pub entry_allowed : (owner : Option SystemKind) (r : Routine) (d : Step) (v : Option ValueType) → (heading owner r d).result ≡ Ok v → r.is_entry ≡ true → may_enter owner ≡ true
unfolding heading
entry_allowed owner r d v is entry =
    let j : Judged (Option ValueType) = after_faults d.faults (parameters_and_result (enter false d.scopes) r.kind).result in
    let t : Then j (check_heading owner r) v = then_of j (check_heading owner r) v is in
    let none : heading_faults owner r t.value ≡ [] = (unless_ok (heading_faults owner r t.value) t.value v t.rest).0 in
    let last : entry_faults (r.name.at - 1) owner r.is_entry ≡ [] = none_right (result_faults r.at t.value) (entry_faults (r.name.at - 1) owner r.is_entry) none in
    allowed (r.name.at - 1) owner (ap (λ (b : Bool). entry_faults (r.name.at - 1) owner b) (sym entry) ∙ last)
