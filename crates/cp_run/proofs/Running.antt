-- A run, number by number.
use Rattle.std.proofs.Common.{◌≡◌, ℕ, zero, suc, ◌+◌, true, false, if◌then◌else◌, List, [], ◌∷◌, refl, ap, ◌∙◌, arith, drop, length, get_or, ◌<◌}
use Rattle.std.proofs.Math.Seq.{drop-cons}
use Rattle.cp_run.specs.declared.outcome.OutcomeKind.{OutcomeKind}
use Rattle.cp_run.specs.declared.outcome.OutcomeKind.TheVariants.{ChoiceLimit}
use Rattle.cp_run.specs.System.{System}
use Rattle.cp_run.specs.Code.{further}
use Rattle.cp_run.specs.Run.{Halted, Choosing, Answer, Ended, Wants, NotReady, later, those_below, may, chosen, run_from}

further_later : (n : ℕ) (a : Answer) → further n (later a) ≡ further (n + 1) a
further_later n (Ended outcome used) = let e : n + suc used ≡ n + 1 + used = omega arith in ap (Ended outcome) e
further_later n (Wants ready) = refl
further_later n (NotReady place) = let e : n + suc place ≡ n + 1 + place = omega arith in ap NotReady e

pub further_none : (a : Answer) → a ≡ further 0 a
further_none (Ended outcome used) = let e : used ≡ 0 + used = omega arith in ap (Ended outcome) e
further_none (Wants ready) = refl
further_none (NotReady place) = let e : place ≡ 0 + place = omega arith in ap NotReady e

add_none : (n : ℕ) → n + 0 ≡ n
add_none n = omega arith

pub over_at : {S : Type 0} (sys : System S) (steps k n : ℕ) (word : List ℕ) (kind : OutcomeKind) (s : S) → further n (run_from sys steps k word (Halted kind s)) ≡ Ended (record { kind = kind; output = sys.output s }) n
unfolding run_from
over_at sys steps zero n word kind s = ap (Ended (record { kind = kind; output = sys.output s })) (add_none n)
over_at sys steps (suc k) n word kind s = ap (Ended (record { kind = kind; output = sys.output s })) (add_none n)

pub limit_at : {S : Type 0} (sys : System S) (steps k n : ℕ) (word : List ℕ) (s : S) → k ≡ 0 → further n (run_from sys steps k word (Choosing s)) ≡ Ended (record { kind = ChoiceLimit; output = sys.output s }) n
unfolding run_from
limit_at sys steps zero n word s h = ap (Ended (record { kind = ChoiceLimit; output = sys.output s })) (add_none n)
limit_at sys steps (suc k) n word s h = absurd (omega (arith, h))

pub wants_at : {S : Type 0} (sys : System S) (steps k j n : ℕ) (word : List ℕ) (s : S) → k ≡ j + 1 → word ≡ [] → further n (run_from sys steps k word (Choosing s)) ≡ Wants (those_below sys.processes (may sys s))
unfolding run_from
wants_at sys steps k j n word s h e = let m : k ≡ suc j = omega (arith, h) in ap (λ i. further n (run_from sys steps i word (Choosing s))) m ∙ ap (λ w. further n (run_from sys steps (suc j) w (Choosing s))) e

pub refused_at : {S : Type 0} (sys : System S) (steps k j n p : ℕ) (word rest : List ℕ) (s : S) → k ≡ j + 1 → word ≡ p ∷ rest → may sys s p ≡ false → further n (run_from sys steps k word (Choosing s)) ≡ NotReady n
unfolding run_from
refused_at sys steps k j n p word rest s h e off =
    let m : k ≡ suc j = omega (arith, h) in
    ap (λ i. further n (run_from sys steps i word (Choosing s))) m ∙ ap (λ w. further n (run_from sys steps (suc j) w (Choosing s))) e ∙ ap (λ b. further n (if b then later (run_from sys steps j rest (chosen sys steps s p)) else NotReady 0)) off ∙ ap NotReady (add_none n)

pub goes_at : {S : Type 0} (sys : System S) (steps k j n p : ℕ) (word rest : List ℕ) (s : S) → k ≡ j + 1 → word ≡ p ∷ rest → may sys s p ≡ true → further n (run_from sys steps k word (Choosing s)) ≡ further (n + 1) (run_from sys steps j rest (chosen sys steps s p))
unfolding run_from
goes_at sys steps k j n p word rest s h e on =
    let m : k ≡ suc j = omega (arith, h) in
    ap (λ i. further n (run_from sys steps i word (Choosing s))) m ∙ ap (λ w. further n (run_from sys steps (suc j) w (Choosing s))) e ∙ ap (λ b. further n (if b then later (run_from sys steps j rest (chosen sys steps s p)) else NotReady 0)) on ∙ further_later n (run_from sys steps j rest (chosen sys steps s p))

pub drop_next : (word : List ℕ) (n : ℕ) → n < length word → drop n word ≡ get_or word n 0 ∷ drop (n + 1) word
drop_next word n lt = let e : suc n ≡ n + 1 = omega arith in drop-cons word n 0 lt ∙ ap (λ i. get_or word n 0 ∷ drop i word) e

drop_whole : (word : List ℕ) → drop (length word) word ≡ []
drop_whole [] = refl
drop_whole (p ∷ word) = drop_whole word

pub drop_all : (word : List ℕ) (n : ℕ) → n ≡ length word → drop n word ≡ []
drop_all word n e = ap (λ i. drop i word) e ∙ drop_whole word
