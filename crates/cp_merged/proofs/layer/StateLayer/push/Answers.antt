use Rattle.std.proofs.Common.{rules, ◌≡◌, ◌∙◌, ◌+◌, ◌*◌, ◌++◌, ◌∷◌, [], List, ap, length, map, subst, sym}
use Rattle.std.proofs.lemmas.List.{length-append}
use Rattle.cp_states.specs.Hashes.{hashes}
use Rattle.cp_merged.specs.Block.{AreDifferentRows, AreRowHashes}
use Rattle.cp_merged.specs.Code.{keyed}
use Rattle.cp_merged.specs.Layer.{rows_with}
use Rattle.cp_merged.specs.declared.prefixes.Prefixes as code
use Rattle.cp_merged.proofs.Rowing.{more_different, more_hashed, more_long, row_added}
use Rattle.cp_merged.proofs.layer.StateLayer.push.Goals as goal

pub invariant_of-self-2-clause-long : goal.invariant_of-self-2-clause-long
invariant_of-self-2-clause-long c =
    let self = c.args.self.now in
    let row = c.args.row.now in
    let numbers : c.extend_from_slice.new.self.items ≡ self.numbers.items ++ row = search rules in
    let leads : c.push_reserved.new.self.items ≡ self.leads.items ++ c.args.prefixes.now ∷ [] = search rules in
    ap length numbers ∙ more_long self.width self.numbers.items row self.leads.items c.args.prefixes.now self.long c.requires.width ∙ sym (ap (λ (xs : List code.Prefixes). length xs * self.width) leads)

pub invariant_of-self-2-clause-hashed : goal.invariant_of-self-2-clause-hashed
invariant_of-self-2-clause-hashed c =
    let self = c.args.self.now in
    let row = c.args.row.now in
    let numbers : c.extend_from_slice.new.self.items ≡ self.numbers.items ++ row = search rules in
    let leads : c.push_reserved.new.self.items ≡ self.leads.items ++ c.args.prefixes.now ∷ [] = search rules in
    let count : length c.push_reserved.new.self.items ≡ length self.leads.items + 1 = ap length leads ∙ length-append self.leads.items (c.args.prefixes.now ∷ []) in
    let one = more_hashed self.width self.numbers.items row (length self.leads.items) (hashes self.index) c.args.hash self.long c.requires.width c.requires.hash self.hashed in
    subst (λ ns. AreRowHashes self.width ns (length c.push_reserved.new.self.items) (hashes c.push.new.self)) (sym numbers) (subst (λ n. AreRowHashes self.width (self.numbers.items ++ row) n (hashes c.push.new.self)) (sym count) (subst (λ hs. AreRowHashes self.width (self.numbers.items ++ row) (length self.leads.items + 1) hs) (sym c.in_ok-push.ensures.more) one))

pub invariant_of-self-2-clause-different : goal.invariant_of-self-2-clause-different
invariant_of-self-2-clause-different c =
    let self = c.args.self.now in
    let row = c.args.row.now in
    let numbers : c.extend_from_slice.new.self.items ≡ self.numbers.items ++ row = search rules in
    let leads : c.push_reserved.new.self.items ≡ self.leads.items ++ c.args.prefixes.now ∷ [] = search rules in
    let count : length c.push_reserved.new.self.items ≡ length self.leads.items + 1 = ap length leads ∙ length-append self.leads.items (c.args.prefixes.now ∷ []) in
    let one = more_different self.width self.numbers.items row (length self.leads.items) self.long c.requires.width c.requires.new self.different in
    subst (λ ns. AreDifferentRows self.width ns (length c.push_reserved.new.self.items)) (sym numbers) (subst (λ n. AreDifferentRows self.width (self.numbers.items ++ row) n) (sym count) one)

pub returns-clause-rows : goal.returns-clause-rows
returns-clause-rows c =
    let self = c.args.self.now in
    let row = c.args.row.now in
    let numbers : c.extend_from_slice.new.self.items ≡ self.numbers.items ++ row = search rules in
    let leads : c.push_reserved.new.self.items ≡ self.leads.items ++ c.args.prefixes.now ∷ [] = search rules in
    ap (λ ns. map keyed (rows_with self.width ns c.push_reserved.new.self.items)) numbers
    ∙ ap (λ (xs : List code.Prefixes). map keyed (rows_with self.width (self.numbers.items ++ row) xs)) leads
    ∙ row_added self.width self.numbers.items row self.leads.items c.args.prefixes.now self.long c.requires.width c.requires.new
