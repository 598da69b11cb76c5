use Rattle.std.proofs.Common.{◌≡◌, ◌∙◌, ◌⊎◌, inl, inr, ⊎_elim, sym, ap, subst, map, List, [], ◌∷◌, true}
use Rattle.std.proofs.lemmas.List.{take-map}
use Rattle.clap.specs.Words.{IsAmong, Kinds, Row, app_of, fault_of, is_simple, is_simple_and_free}
use Rattle.clap.specs.declared.error.kind.ErrorKind.{ErrorKind}
use Rattle.clap.specs.declared.error.kind.ErrorKind.TheVariants.{DisplayHelp, OutOfMemory}
use Rattle.cp_tool.specs.Options.{Gives, HasGiven, HasRefusedValue, IsFaultFor}
use Rattle.cp_tool.proofs.Matched.{rows_from, faults_from}
use Rattle.cp_tool.proofs.Obtaining.{err_by, fault_before_help, fault_of_value, options_by, refused_for, when_err, when_ok}
use Rattle.cp_tool.proofs.command_line.read_matches.Goals as goal

help_among : (ks : Kinds) (k : ErrorKind) → (k ≡ OutOfMemory) ⊎ IsAmong k ks → k ≡ DisplayHelp → IsAmong DisplayHelp ks
help_among ks k (inl o) h = let bad : OutOfMemory ≡ DisplayHelp = sym o ∙ h in absurd (cc)
help_among ks k (inr a) h = subst (λ (j : ErrorKind). IsAmong j ks) h a

not_help : (ks : Kinds) (k : ErrorKind) → (k ≡ OutOfMemory) ⊎ IsAmong k ks → (k ≡ DisplayHelp → ⊥) → (k ≡ OutOfMemory → ⊥) → ks ≡ DisplayHelp ∷ [] → ⊥
not_help ks k (inl o) h m e = m o
not_help ks k (inr a) h m e = ⊎_elim h (λ none. none) (subst (IsAmong k) e a)

some_fault : (ks : Kinds) (k : ErrorKind) → (k ≡ OutOfMemory) ⊎ IsAmong k ks → (k ≡ OutOfMemory → ⊥) → ks ≡ [] → ⊥
some_fault ks k (inl o) m e = m o
some_fault ks k (inr a) m e = subst (IsAmong k) e a

pub returns-in-Ok-clause-options : goal.returns-in-Ok-clause-options
returns-in-Ok-clause-options c =
    let words = map (λ s. s.now) c.args.words.now in
    let made = c.in_ok-command.ensures in
    let app = app_of c.in_ok-command.command in
    let simple : is_simple app ≡ true = ap is_simple made in
    let free : is_simple_and_free app ≡ true = ap is_simple_and_free made in
    let same = (c.in-Ok.ensures.matches simple).0 ∙ rows_from app words made in
    let own = c.own_words.ensures in
    when_ok _ (Gives words) c.options_of.result
    (λ o has. (sym (faults_from app words made) ∙ c.in-Ok.ensures.kinds free, subst (λ (rows : List Row). HasGiven rows o) same (options_by own.flags own.longest own.schedule o has)))
    c.options_of.ensures

pub returns-in-Ok-clause-fault : goal.returns-in-Ok-clause-fault
returns-in-Ok-clause-fault c =
    let words = map (λ s. s.now) c.args.words.now in
    let made = c.in_ok-command.ensures in
    let app = app_of c.in_ok-command.command in
    let simple : is_simple app ≡ true = ap is_simple made in
    let free : is_simple_and_free app ≡ true = ap is_simple_and_free made in
    let same = (c.in-Ok.ensures.matches simple).0 ∙ rows_from app words made in
    let own = c.own_words.ensures in
    when_err _ (IsFaultFor words) c.options_of.result
    (λ e refused. fault_of_value words e (sym (faults_from app words made) ∙ c.in-Ok.ensures.kinds free)
    (refused_for e (λ none o has. none o (options_by (sym own.flags) (sym own.longest) (sym own.schedule) o (subst (λ (rows : List Row). HasGiven rows o) (sym same) has))) refused))
    c.options_of.ensures

pub returns-in-DisplayHelp-clause-fault : goal.returns-in-DisplayHelp-clause-fault
returns-in-DisplayHelp-clause-fault c =
    let words = map (λ s. s.now) c.args.words.now in
    let made = c.in_ok-command.ensures in
    let app = app_of c.in_ok-command.command in
    let free : is_simple_and_free app ≡ true = ap is_simple_and_free made in
    subst (IsAmong DisplayHelp) (faults_from app words made) (help_among (fault_of app words) c.in-Err.error.kind (c.in-Err.ensures.kinds free) (sym c.kind.ensures ∙ c.in-DisplayHelp.is))

pub returns : goal.returns
returns c =
    let words = map (λ s. s.now) c.args.words.now in
    let made = c.in_ok-command.ensures in
    let app = app_of c.in_ok-command.command in
    let free : is_simple_and_free app ≡ true = ap is_simple_and_free made in
    let among = c.in-Err.ensures.kinds free in
    let enough : c.in-Err.error.kind ≡ OutOfMemory → ⊥ = λ m. c.in_default.not-OutOfMemory (c.kind.ensures ∙ m) in
    record {
      options = tt;
      fault = (
        λ asked. absurd (not_help (fault_of app words) c.in-Err.error.kind among (λ h. c.in_default.not-DisplayHelp (c.kind.ensures ∙ h)) enough (faults_from app words made ∙ asked)),
        λ o gives. some_fault (fault_of app words) c.in-Err.error.kind among enough (faults_from app words made ∙ gives.0),
      );
    }

pub returns-in_err-check_values-in-DisplayHelp-clause-fault : goal.returns-in_err-check_values-in-DisplayHelp-clause-fault
returns-in_err-check_values-in-DisplayHelp-clause-fault c =
    let words = map (λ s. s.now) c.args.words.now in
    let made = c.in_ok-command.ensures in
    let app = app_of c.in_ok-command.command in
    let free : is_simple_and_free app ≡ true = ap is_simple_and_free made in
    let enough : c.in-Err.error.kind ≡ OutOfMemory → ⊥ = λ m. let bad : DisplayHelp ≡ OutOfMemory = sym c.in-DisplayHelp.is ∙ c.kind.ensures ∙ m in absurd (cc) in
    let first = sym (take-map (λ s. s.now) c.before_help.result c.args.words.now) in
    err_by (IsFaultFor words) c.from_residual-in_err-check_values-in-DisplayHelp.result c.in_err-check_values-in-DisplayHelp.field-0.0 c.from_residual-in_err-check_values-in-DisplayHelp.ensures.1
    (fault_before_help words _ c.in_err-check_values-in-DisplayHelp.field-0.0
    (λ begun. record { count = c.before_help.result; begun = subst HasRefusedValue first begun })
    (λ o gives. some_fault (fault_of app words) c.in-Err.error.kind (c.in-Err.ensures.kinds free) enough (faults_from app words made ∙ gives.0))
    c.in_err-check_values-in-DisplayHelp.ensures)
