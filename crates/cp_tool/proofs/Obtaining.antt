-- What comes of an option that is obtained, and of one that is refused.
use Rattle.std.proofs.Common.{◌≡◌, ◌∙◌, Bool, List, [], ◌∷◌, Option, Some, Result, Ok, Err, IfOk, IfErr, ap, ap₂, codes, subst, sym}
use Rattle.std.specs.Prelude.{unwrap_or}
use Rattle.std.specs.Result.{IsErrAnd}
use Rattle.clap.specs.Words.{Row, Text, first_of}
use Rattle.clap.specs.declared.error.kind.ErrorKind.TheVariants.{DisplayHelp}
use Rattle.cp_machine.specs.declared.discipline.Discipline.{Discipline}
use Rattle.cp_machine.specs.declared.discipline.Gates.{Gates}
use Rattle.cp_machine.specs.declared.discipline.Gates.TheVariants.{First}
use Rattle.cp_machine.specs.declared.discipline.Signals.{Signals}
use Rattle.cp_machine.specs.declared.discipline.Signals.TheVariants.{Return}
use Rattle.cp_tool.specs.Command.{faults_for, rows_for}
use Rattle.cp_tool.specs.Finds.{Obtains, Refuses}
use Rattle.cp_tool.specs.Options.{BeginsRefused, Gives, HasGiven, HasOptions, HasRefusedValue, IsFaultFor, IsNamed, rules_for}
use Rattle.cp_tool.specs.declared.analysis.Analysis.{Analysis}
use Rattle.cp_tool.specs.declared.analysis.AnalysisFlags.{AnalysisFlags}
use Rattle.cp_tool.specs.declared.options.Options.{Options}
use Rattle.cp_tool.specs.declared.options.OptionFault.{OptionFault}
use Rattle.cp_tool.specs.declared.options.OptionFault.TheVariants.{Refused, Memory, Help, Version}

pub refused_for : {P Q : Type 0} → (e : OptionFault) → (P → Q) → Refuses e P → Refuses e Q
refused_for (Refused why) f h = f h
refused_for Memory f h = h
refused_for (Help text) f h = h
refused_for Version f h = h

-- an option is refused where a part of it is that it can't do without
pub refused_as : {S T : Type 0} {P : S → Type 0} (Q : T → Type 0) (r : Result T OptionFault) (e : OptionFault) → IsErrAnd r (λ f. f ≡ e) → Refuses e ((x : S) → ¬ P x) → ((y : T) → Q y → (x : S) × P x) → Obtains Q r
refused_as Q (Ok y) e so h part = absurd so
refused_as {S} {T} {P} Q (Err f) e so h part =
    refused_for f (λ none y holds. let had = part y holds in none had.0 had.1) (subst (λ (k : OptionFault). Refuses k ((x : S) → ¬ P x)) (sym so) h)

pub err_by : {T : Type 0} (Q : OptionFault → Type 0) (r : Result T OptionFault) (e : OptionFault) → IsErrAnd r (λ f. f ≡ e) → Q e → IfErr r Q
err_by Q (Ok y) e so h = tt
err_by Q (Err f) e so h = subst Q (sym so) h

pub when_ok : {T : Type 0} (P Q : T → Type 0) (r : Result T OptionFault) → ((x : T) → P x → Q x) → Obtains P r → IfOk r Q
when_ok P Q (Ok x) f h = f x h
when_ok P Q (Err e) f h = tt

pub when_err : {T : Type 0} (P : T → Type 0) (Q : OptionFault → Type 0) (r : Result T OptionFault) → ((e : OptionFault) → Refuses e ((x : T) → ¬ P x) → Q e) → Obtains P r → IfErr r Q
when_err P Q (Ok x) f h = tt
when_err P Q (Err e) f h = f e h

-- flags ask for one analysis at most
pub same_analysis : {asked : Option Analysis} {a b : Analysis} → asked ≡ Some a → asked ≡ Some b → a ≡ b
same_analysis {asked} {a} {b} one other = ap (λ (x : Option Analysis). unwrap_or x a) (sym one ∙ other)

abbrev rules_by : Gates → Signals → Discipline
rules_by gates signals = record { gates = gates; signals = signals }

-- rules that are named are those by which the analysis is made
pub rules_are : (rows : List Row) (d : Discipline) → IsNamed (first_of (codes "gates") rows) (first_of (codes "signals") rows) d → rules_for rows ≡ d
rules_are rows d named = ap₂ rules_by (ap (λ (x : Option Gates). unwrap_or x First) named.0) (ap (λ (x : Option Signals). unwrap_or x Return) named.1)

-- by equal flags and texts the same options are had
pub options_by : {f f' : AnalysisFlags} {l l' : Bool} {w w' : Option Text} {rows : List Row} → f ≡ f' → l ≡ l' → w ≡ w' → (o : Options) → HasOptions f l w rows o → HasOptions f' l' w' rows o
options_by {f} {f'} {l} {l'} {w} {w'} {rows} flags longest word o h =
    subst (λ (x : Option Text). HasOptions f' l' x rows o) word
    (subst (λ (x : Bool). HasOptions f' x w rows o) longest
    (subst (λ (x : AnalysisFlags). HasOptions x l w rows o) flags h))

-- words that are matched have no fault but that of a value
pub fault_of_value : (words : List Text) (e : OptionFault) → faults_for words ≡ [] → Refuses e ((o : Options) → ¬ HasGiven (rows_for words) o) → IsFaultFor words e
fault_of_value words (Refused why) matched none =
    (λ help. let bad : [] ≡ DisplayHelp ∷ [] = sym matched ∙ help in absurd (cc), λ o gives. none o gives.1)
fault_of_value words Memory matched none = tt
fault_of_value words (Help text) matched h = let bad : Help text ≡ Memory = h in absurd (cc)
fault_of_value words Version matched h = let bad : Version ≡ Memory = h in absurd (cc)

-- nor have words that ask for help, but that of a value before it
pub fault_before_help : (words first : List Text) (e : OptionFault) → (HasRefusedValue first → BeginsRefused words) → ((o : Options) → ¬ Gives words o) → Refuses e (HasRefusedValue first) → IsFaultFor words e
fault_before_help words first (Refused why) begins none h = (λ help. begins h, none)
fault_before_help words first Memory begins none h = tt
fault_before_help words first (Help text) begins none h = let bad : Help text ≡ Memory = h in absurd (cc)
fault_before_help words first Version begins none h = let bad : Version ≡ Memory = h in absurd (cc)
