-- What is told of the expectations that are given for a program.
use Rattle.std.proofs.Common.{◌≡◌, ◌∙◌, ◌⊎◌, ℕ, Bool, true, false, List, [], ◌∷◌, ◌++◌, ◌==◌, None, Some, ap, codes, if◌then◌else◌, inl, inr, length, map, refl, subst, sym, true≢false}
use Rattle.std.proofs.Math.Logic.{∥∥₁_map}
use Rattle.std.proofs.lemmas.Bool.{eqb-true}
use Rattle.std.proofs.lemmas.List.{nil_from_length}
use Rattle.std.proofs.lemmas.Str.{chars-nil}
use Rattle.std.specs.Prelude.{Option, is_some, not}
use Rattle.std.specs.Str.{encode_utf8_all}
use Rattle.cp_tree.specs.Read.{IsRead}
use Rattle.cp_tree.specs.Syntax.{Tree}
use Rattle.cp_slots.specs.Tables.{Tables}
use Rattle.cp_meaning_laws.specs.Accepted.{IsAccepted}
use Rattle.cp_resolved.proofs.Resolving.{read_names}
use Rattle.cp_resolved.specs.Enumerations.{constant_names}
use Rattle.cp_resolved.specs.Resolving.{IsProgramOf}
use Rattle.cp_machine_laws.specs.Named.{named_discipline}
use Rattle.cp_tool.specs.Analysis.{is_endless}
use Rattle.cp_tool.specs.declared.options.Options.{Options}
use Rattle.cp_walk.specs.Text.{Spellings}
use Rattle.cp_expectation.specs.Plain as plain
use Rattle.cp_expectation.specs.Spelling.{SpellsJoined, SpellsOne, Words}
use Rattle.cp_expectation.specs.Words.{words_behind, words_of}
use Rattle.cp_expectation.specs.declared.expectation.Expectation.{Expectation}
use Rattle.cp_verdict.specs.endless.AtOnce.{IsMarkInTurn, at_any_limit}
use Rattle.cp_verdict.specs.endless.Behaviour.{on_names}
use Rattle.cp_verdict.specs.endless.Marked.{IsTrueMark, with_tables}
use Rattle.cp_verdict.specs.endless.Naming.{Names, Processes}
use Rattle.cp_verdict.specs.declared.endless.verdict.EndsMark.{EndsMark}
use Rattle.cp_show_mark.specs.Given.{IsTrueBy, IsTrueInTurn, MeansEnds, Spells, TellsAsked, TellsBy, TellsEnds, TellsEndsBy, TellsIf, TellsSpelled, and_own, are_asked, are_at_once, names_with}
use Rattle.cp_show_mark.specs.Showing.{ends_verdict_of}
use Rattle.cp_show_mark.specs.declared.answer.ShowVerdict.{ShowVerdict}
use Rattle.cp_show_mark.specs.declared.answer.ShowVerdict.TheVariants.{Misread}

-- ---- on the program's own names

module _ (t : Tree) (r : Tables) (ps : Processes) (read : ∥ IsRead t.program ∥₁) (ok : IsAccepted t) (is : IsProgramOf t r) (o : Options) where
  names : r.names ≡ constant_names t.program
  names = read_names t r read ok is.laid

  pub same_asked : (es : List Expectation) → are_asked o (with_tables r ps) es ≡ are_asked o (names_with t ps) es
  same_asked es = ap (λ (values : Spellings). are_asked o (record { values = values; processes = ps }) es) names

  module _ (es : List Expectation) (verdict : ShowVerdict) where
    in_turn : (m : EndsMark) → IsRead t.program → IsMarkInTurn r ps o.discipline o.steps o.states es m → IsTrueMark (with_tables r ps) (on_names t (named_discipline o.discipline) o.steps) es m ⊎ IsTrueMark (with_tables r ps) (at_any_limit t) es m
    in_turn m it (inl h) = inl (h.1 t it ok is.laid)
    in_turn m it (inr h) = inr (h.2.meaning t it ok is.laid)

    meant_by : (at_once : Bool) → TellsEndsBy at_once r ps o es verdict → (m : EndsMark) × (verdict ≡ ends_verdict_of m) × ∥ IsTrueBy at_once t ps o es m ∥₁
    meant_by true (m, e, h) = (m, e, ∥∥₁_map read (λ it. subst (λ (values : Spellings). IsTrueMark (record { values = values; processes = ps }) (at_any_limit t) es m) names (h.meaning t it ok is.laid)))
    meant_by false (m, e, h) =
        let true_by : Spellings → Type 0 = λ values. IsTrueInTurn t (record { values = values; processes = ps }) o.discipline o.steps es m in
        (m, e, ∥∥₁_map read (λ it. subst true_by names (λ no. in_turn m it (h.0 no), λ named. (h.1 named).1 t it ok is.laid)))

    pub ends_meant : TellsEnds r ps o es verdict → MeansEnds t ps o es verdict
    ends_meant h = meant_by (are_at_once o es) h

-- ---- what can be asked

-- nothing is said against it, so it can
pub is_asked_when : {A : Type 0} (said : Option A) (can : Bool) → said ≡ None → is_some said ≡ not can → can ≡ true
is_asked_when said true none is = refl
is_asked_when said false none is = absurd (cc (ap is_some none, is))

pub is_refused_when : {A : Type 0} (said : Option A) (why : A) (can : Bool) → said ≡ Some why → is_some said ≡ not can → can ≡ false
is_refused_when said why true some is = absurd (cc (ap is_some some, is))
is_refused_when said why false some is = refl

pub told_when : (can : Bool) (told : Type 0) (verdict : ShowVerdict) → can ≡ true → told → TellsIf can told verdict
told_when can told verdict is h = subst (λ (b : Bool). TellsIf b told verdict) (sym is) h

pub misread_when : (can : Bool) (told : Type 0) (verdict : ShowVerdict) → can ≡ false → verdict ≡ Misread → TellsIf can told verdict
misread_when can told verdict is h = subst (λ (b : Bool). TellsIf b told verdict) (sym is) h

-- what is told tells more
pub told_more : (can : Bool) (told more : Type 0) (verdict : ShowVerdict) → (told → more) → TellsIf can told verdict → TellsIf can more verdict
told_more true told more verdict f h = f h
told_more false told more verdict f h = h

-- by schedules of any length, or by those within the limits
pub any_asked : (o : Options) (n : Names) (es : List Expectation) (within any : List Expectation → Type 0) (verdict : ShowVerdict) → are_asked o n es ≡ true → is_endless o.analysis ≡ true → any es → TellsAsked o n es within any verdict
any_asked o n es within any verdict can ends h = told_when (are_asked o n es) (TellsBy (is_endless o.analysis) within any es) verdict can (subst (λ (b : Bool). TellsBy b within any es) (sym ends) h)

pub within_asked : (o : Options) (n : Names) (es : List Expectation) (within any : List Expectation → Type 0) (verdict : ShowVerdict) → are_asked o n es ≡ true → is_endless o.analysis ≡ false → within es → TellsAsked o n es within any verdict
within_asked o n es within any verdict can ends h = told_when (are_asked o n es) (TellsBy (is_endless o.analysis) within any es) verdict can (subst (λ (b : Bool). TellsBy b within any es) (sym ends) h)

-- ---- no words spell nothing

abbrev is_nil : Words → Bool
is_nil [] = true
is_nil (w ∷ ws) = false

no_first : {w : List ℕ} {ws : Words} → [] ≡ w ∷ ws → ⊥
no_first e = true≢false (ap is_nil e)

no_middle : (ws : Words) (v : List ℕ) (vs : Words) → [] ≡ ws ++ v ∷ vs → ⊥
no_middle [] v vs e = no_first e
no_middle (w ∷ ws) v vs e = no_first e

joined_none : {E : Type 0} (spells : Words → E → Type 0) → ((e : E) → ¬ (spells [] e)) → (es : List E) → ¬ (SpellsJoined spells [] es)
joined_none spells none [] h = h
joined_none spells none (e ∷ []) h = none e h
joined_none spells none (e ∷ f ∷ es) (first, others, a, b, is) = no_middle first (codes "and") others is

one_none : (e : plain.Expected) → ¬ (SpellsOne [] e)
one_none e (after, is, h) = no_first is

nothing_spelled : (es : List plain.Expected) → ¬ (Spells [] es)
nothing_spelled = joined_none SpellsOne one_none

no_words : words_of [] ≡ []
no_words = ap (λ cs. map encode_utf8_all (words_behind [] cs)) chars-nil

-- an empty text is misread
pub empty_misread : (told : List Expectation → Type 0) (verdict : ShowVerdict) (text : List ℕ) → (length text == 0) ≡ true → verdict ≡ Misread → TellsSpelled (Spells (words_of text)) plain.expected_of told verdict
empty_misread told verdict text none e =
    let empty : words_of text ≡ [] = ap words_of (nil_from_length text (eqb-true (length text) 0 none)) ∙ no_words in
    subst (λ (ws : Words). TellsSpelled (Spells ws) plain.expected_of told verdict) (sym empty) (inr (nothing_spelled, e))

-- ---- texts

pub own_behind : (words own : List ℕ) → (length own == 0) ≡ false → and_own words own ≡ words ++ codes " and " ++ own
own_behind words own some = ap (λ b. if b then words else (words ++ codes " and " ++ own)) some
