use Rattle.std.proofs.Common.{rules, ◌≡◌, ◌∙◌, ◌+◌, ◌∷◌, [], ap, arith, refl}
use Rattle.std.proofs.lemmas.Result.{IfOk-weaker}
use Rattle.cp_states.specs.Numbers.{number_at}
use Rattle.cp_effects.specs.Admitting.{guard_position}
use Rattle.cp_effects.proofs.Admitted.{keys_more}
use Rattle.cp_effects.proofs.admissions.AdmissionTable.number_key.Goals as goal

pub returns-clause-key : goal.returns-clause-key
returns-clause-key c =
    let a = c.args in
    let at : c.pending_position.result + 1 + c.of_monitor.result ≡ guard_position a.table.now a.monitor = omega (arith, c.pending_position.ensures, c.of_monitor.ensures) in
    let number : c.number_in.result ≡ number_at a.row.now (guard_position a.table.now a.monitor) = c.number_in.ensures ∙ ap (number_at a.row.now) at in
    let process : c.from.result ≡ a.pid = search rules in
    let of_monitor : c.from-2.result ≡ a.monitor = search rules in
    let key : c.from.result ∷ c.from-2.result ∷ c.number_in.result ∷ [] ≡ a.pid ∷ a.monitor ∷ number_at a.row.now (guard_position a.table.now a.monitor) ∷ [] =
    ap (λ p. p ∷ c.from-2.result ∷ c.number_in.result ∷ []) process ∙ ap (λ m. a.pid ∷ m ∷ c.number_in.result ∷ []) of_monitor ∙ ap (λ n. a.pid ∷ a.monitor ∷ n ∷ []) number
    in
    IfOk-weaker c.number_of.result _ _ (λ k h. record { within = h.0; is = h.1 ∙ key }) c.number_of.ensures.number

pub returns-clause-known : goal.returns-clause-known
returns-clause-known c = λ s t r are.
    (let table = c.args.self.now in keys_more s t r table are (record table { keys = c.number_of.new.self }) c.number_of.ensures.kept refl)
