-- What an outcome feeds a hasher, and the numbers of no value.
use Rattle.std.proofs.Common.{◌≡◌, ◌∙◌, ℕ, suc, ◌+◌, ◌<◌, arith, take, get_or, List, [], ◌∷◌, ◌++◌, Bool, ◌*◌, ◌-◌, length, fold, flat_map, map, nat_eq, ◌==◌, if◌then◌else◌, refl, sym, ap}
use Rattle.std.specs.Prelude.{unsigned_abs, ℤ, pos, negsuc}
use Rattle.std.specs.Int.{is_negative, cast_unsigned}
use mir.Syntax.{w16}
use Rattle.std.specs.Hash as fed
use Rattle.std.specs.Hash.{fed_then, fed_along}
use Rattle.std.specs.Cmp.Lexicographic.{pointwise}
use Rattle.std.proofs.hash.Loops.{each_more}
use Rattle.cp_walk.proofs.Words.{le-ltb, ne_eqb, Shown, each, OutcomeKind}
use Rattle.std.proofs.lemmas.Grind.{flat_map-append}
use Rattle.std.proofs.lemmas.List.{get_or_default}
use Rattle.cp_machine.specs.declared.shown.Shown.TheVariants.{Integer, Char, Truth, Constant}
use Rattle.cp_run.specs.declared.outcome.OutcomeKind.TheVariants.{Finished, AllWaiting, RunError, ChoiceLimit, StepLimit, OutputLimit}
use Rattle.cp_walk.specs.Hashing.{shown_code, codes_of, hashed}
use Rattle.cp_walk.specs.Report.{kind_numbers, shown_numbers}

each_fed : (values : List Shown) → flat_map (λ v. fed.u32 (shown_code v)) values ≡ flat_map fed.u32 (map shown_code values)
each_fed [] = refl
each_fed (v ∷ vs) = ap (λ l. fed.u32 (shown_code v) ++ l) (each_fed vs)

none_more : (n : ℕ) → 0 + n ≡ n
none_more n = omega arith

-- one number for an integer, from its two
integer_code : (z : ℤ) → (if (if is_negative z then 1 else 0) == 1 then 65536 - unsigned_abs z else (if is_negative z then 1 else 0) * 65536 + unsigned_abs z) ≡ cast_unsigned w16 z
integer_code (pos n) = ap (λ (b : Bool). if (if b then 1 else 0) == 1 then 65536 - n else (if b then 1 else 0) * 65536 + n) (le-ltb n 0 (omega arith)) ∙ none_more n
integer_code (negsuc n) = refl

coded : (values : List Shown) → codes_of (each shown_numbers values) ≡ map shown_code values
coded [] = refl
coded (Integer z ∷ vs) = ap (λ n. n ∷ codes_of (each shown_numbers vs)) (integer_code z) ∙ ap (λ l. shown_code (Integer z) ∷ l) (coded vs)
coded (Char c ∷ vs) = ap (λ l. shown_code (Char c) ∷ l) (coded vs)
coded (Truth b ∷ vs) = ap (λ l. shown_code (Truth b) ∷ l) (coded vs)
coded (Constant n ∷ vs) = ap (λ l. shown_code (Constant n) ∷ l) (coded vs)

no_values : (values : List Shown) → (length values == 0) ≡ pointwise nat_eq [] (each shown_numbers values)
no_values [] = refl
no_values (Integer z ∷ vs) = ne_eqb (suc (length vs)) 0 (λ e. omega (arith, e))
no_values (Char c ∷ vs) = ne_eqb (suc (length vs)) 0 (λ e. omega (arith, e))
no_values (Truth b ∷ vs) = ne_eqb (suc (length vs)) 0 (λ e. omega (arith, e))
no_values (Constant n ∷ vs) = ne_eqb (suc (length vs)) 0 (λ e. omega (arith, e))

-- only no values have the numbers of none
pub no_output : (none values : List Shown) → length none ≡ 0 → (length values == 0) ≡ pointwise nat_eq (each shown_numbers none) (each shown_numbers values)
no_output [] values h = no_values values
no_output (v ∷ vs) values h = absurd (omega (arith, h))

-- the numbers of an outcome, as they are fed
kind_hashed : (kind : OutcomeKind) (rest : List ℕ) → hashed (kind_numbers kind ++ rest) ≡ kind_numbers kind ++ codes_of rest
kind_hashed Finished rest = refl
kind_hashed AllWaiting rest = refl
kind_hashed (RunError name process line) rest = refl
kind_hashed ChoiceLimit rest = refl
kind_hashed StepLimit rest = refl
kind_hashed OutputLimit rest = refl

pub fed_outcome : {S : Type 0} (write : S → List ℕ → S) (s t u : S) (kind : OutcomeKind) (values : List Shown) → t ≡ fold write s (flat_map fed.u32 (kind_numbers kind)) → u ≡ fold write t (flat_map (λ v. fed.u32 (shown_code v)) values) → u ≡ fold write s (flat_map fed.u32 (hashed (kind_numbers kind ++ each shown_numbers values)))
fed_outcome write s t u kind values h k =
    let same : kind_numbers kind ++ map shown_code values ≡ hashed (kind_numbers kind ++ each shown_numbers values) = ap (λ l. kind_numbers kind ++ l) (sym (coded values)) ∙ sym (kind_hashed kind (each shown_numbers values)) in
    fed_along write s u (ap (λ l. flat_map fed.u32 (kind_numbers kind) ++ l) (each_fed values) ∙ sym (flat_map-append fed.u32 (kind_numbers kind) (map shown_code values)) ∙ ap (flat_map fed.u32) same) (fed_then write s t u (flat_map fed.u32 (kind_numbers kind)) (flat_map (λ v. fed.u32 (shown_code v)) values) h k)

-- one value more is fed
pub fed_more : {S : Type 0} (write : S → List ℕ → S) (start now new : S) (values : List Shown) (k : ℕ) (d : Shown) (code : ℕ) → k < length values → code ≡ shown_code (get_or values k d) → now ≡ fold write start (flat_map (λ v. fed.u32 (shown_code v)) (take k values)) → new ≡ fold write now (fed.u32 code) → new ≡ fold write start (flat_map (λ v. fed.u32 (shown_code v)) (take (k + 1) values))
fed_more write start now new values k d code lt is h n =
    let all = λ (v : Shown). fed.u32 (shown_code v) in
    n ∙ ap (λ s. fold write s (fed.u32 code)) h ∙ ap (λ m. fold write (fold write start (flat_map all (take k values))) (fed.u32 m)) is ∙ sym (each_more write all start values k (get_or values k d) lt (get_or_default values k d (get_or values k d) lt))
