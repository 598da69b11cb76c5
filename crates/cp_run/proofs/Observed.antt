-- A run that is observed: where its stretches halt, and what it has come to after some numbers of its word.
use Rattle.std.proofs.Common.{◌≡◌, ◌∙◌, ℕ, ◌-◌, ◌+◌, ◌<◌, List, [], true, false, ap, sym, refl, arith, drop, get_or, length}
use Rattle.cp_run.specs.declared.outcome.Halt.{Halt}
use Rattle.cp_run.specs.declared.outcome.OutcomeKind.{OutcomeKind}
use Rattle.cp_run.specs.declared.outcome.Halt.TheVariants.{Choice}
use Rattle.cp_run.specs.declared.outcome.Turn.{Turn}
use Rattle.cp_run.specs.declared.outcome.Turn.TheVariants.{Over, Due, Goes}
use Rattle.cp_run.specs.Code.{IfGoes, further, halt_at, is_over, node_of}
use Rattle.cp_run.specs.Fold.{Fold, blind, fold_chosen, fold_from, fold_opened, fold_run, fold_stretch, fold_turn}
use Rattle.cp_run.specs.Run.{Answer, Node, NotReady, chosen, may, node_at, opened, run, run_from, stretch}
use Rattle.cp_run.specs.Stop.{last_state, last_state_from}
use Rattle.cp_run.specs.System.{System}
use Rattle.cp_run.proofs.Folding.{fold_chosen_further, fold_no_word, fold_over, fold_refused, fold_used_up}
use Rattle.cp_run.proofs.Running.{drop_all, drop_next, further_none, goes_at, refused_at}
use Rattle.cp_run.proofs.Stops.{stops_further, stops_over, stops_refused, stops_with_word}
use Rattle.cp_run.proofs.Stretching.{used_up}
use Rattle.cp_run.proofs.TraceRuns.{not_over, over_run, some_left}

-- what holds whichever process goes on
pub goes_always : (turn : Turn) (P : Type 0) → P → IfGoes turn (λ q. P)
goes_always (Over kind) P h = tt
goes_always Due P h = tt
goes_always (Goes q) P h = h

pub goes_none : (turn : Turn) (P : Type 0) → ((q : ℕ) → turn ≡ Goes q → ⊥) → IfGoes turn (λ q. P)
goes_none (Over kind) P never = tt
goes_none Due P never = tt
goes_none (Goes q) P never = absurd (never q refl)

-- a stretch halts where no process goes on that has a step left, and no more is seen
pub halts_there : {S : Type 0} (sys : System S) (left : ℕ) (s : S) (turn : Turn) → IfGoes turn (λ q. left ≡ 0) → node_at s (stretch sys left s) turn ≡ node_of (halt_at turn) s
halts_there sys left s (Over kind) none = refl
halts_there sys left s Due none = refl
halts_there sys left s (Goes q) none = used_up sys left s q none

-- nothing is seen
abbrev pub unseen : {S : Type 0} → Fold S (Unit {0})
unseen = blind

module _ {S X : Type 0} (sys : System S) (w : Fold S X) where
  pub shows_no_more : (left : ℕ) (s : S) (turn : Turn) (x : X) → IfGoes turn (λ q. left ≡ 0) → fold_turn (fold_stretch sys w left s) turn x ≡ x
  shows_no_more left s (Over kind) x none = refl
  shows_no_more left s Due x none = refl
  shows_no_more left s (Goes q) x none = fold_used_up sys w left s q x none

  module _ (choices steps : ℕ) (word : List ℕ) (start : X) where
    -- after n numbers of the word a run stands at this node, and this was seen
    abbrev pub Reached : ℕ → Node S → X → Type 0
    Reached n node x =
        record {
          same : run sys choices steps word ≡ further n (run_from sys steps (choices - n) (drop n word) node);
          seen : fold_run sys w choices steps word start ≡ fold_from sys w steps (choices - n) (drop n word) node x;
          stop : last_state sys choices steps word ≡ last_state_from sys steps (choices - n) (drop n word) node;
        }

    -- the run stops with this answer in a state, and this was seen
    abbrev pub Stopped : Answer → X → S → Type 0
    Stopped answer x s =
        record {
          answer : answer ≡ run sys choices steps word;
          seen : x ≡ fold_run sys w choices steps word start;
          stop : s ≡ last_state sys choices steps word;
        }

    pub reached_first : (node : Node S) (x : X) → opened sys steps ≡ node → x ≡ fold_opened sys w steps start → Reached 0 node x
    reached_first node x is more =
        let k : choices ≡ choices - 0 = omega arith in
        let first = opened sys steps in
        record {
          same = further_none (run sys choices steps word) ∙ ap (λ n. further 0 (run_from sys steps n word first)) k ∙ ap (λ m. further 0 (run_from sys steps (choices - 0) word m)) is;
          seen = ap (λ n. fold_from sys w steps n word first (fold_opened sys w steps start)) k ∙ ap (λ m. fold_from sys w steps (choices - 0) word m (fold_opened sys w steps start)) is ∙ ap (fold_from sys w steps (choices - 0) word node) (sym more);
          stop = ap (λ n. last_state_from sys steps n word first) k ∙ ap (last_state_from sys steps (choices - 0) word) is;
        }

    module _ (n : ℕ) (h : Halt OutcomeKind) (s : S) (x : X) where
      pub stopped_there : is_over (choices - n) h ≡ true → Reached n (node_of h s) x → Stopped (further n (run_from sys steps (choices - n) [] (node_of h s))) x s
      stopped_there over r =
          let k = choices - n in
          let v = drop n word in
          record {
            answer = sym (r.same ∙ ap (further n) (over_run sys steps k v h s over));
            seen = sym (r.seen ∙ fold_over sys w steps k v h s x over);
            stop = sym (r.stop ∙ stops_over sys steps k v h s over);
          }

      pub stopped_behind : n ≡ length word → Reached n (node_of h s) x → Stopped (further (length word) (run_from sys steps (choices - length word) [] (node_of h s))) x s
      stopped_behind all r =
          let k = choices - n in
          let v = drop n word in
          let none = drop_all word n all in
          record {
            answer = sym (r.same ∙ ap (λ u. further n (run_from sys steps k u (node_of h s))) none ∙ ap (λ i. further i (run_from sys steps (choices - i) [] (node_of h s))) all);
            seen = sym (r.seen ∙ fold_no_word sys w steps k v (node_of h s) x none);
            stop = sym (r.stop ∙ stops_with_word sys steps k v h s none);
          }

      module _ (going : is_over (choices - n) h ≡ false) (within : n < length word) where
        due : h ≡ Choice
        due = not_over (choices - n) h going

        one_less : choices - n ≡ (choices - (n + 1)) + 1
        one_less = let more = some_left (choices - n) h going in omega (arith, more)

        pub stopped_refused : (y : X) → may sys s (get_or word n 0) ≡ false → y ≡ w.on_choice s (get_or word n 0) x → Reached n (node_of h s) x → Stopped (NotReady n) y s
        stopped_refused y off taken r =
            let k = choices - n in
            let j = choices - (n + 1) in
            let p = get_or word n 0 in
            let v = drop n word in
            let rest = drop (n + 1) word in
            let next = drop_next word n within in
            record {
              answer = sym (r.same ∙ ap (λ g. further n (run_from sys steps k v (node_of g s))) due ∙ refused_at sys steps k j n p v rest s one_less next off);
              seen = taken ∙ sym (r.seen ∙ ap (λ g. fold_from sys w steps k v (node_of g s) x) due ∙ fold_refused sys w steps k j p v rest s x one_less next off);
              stop = sym (r.stop ∙ ap (λ g. last_state_from sys steps k v (node_of g s)) due ∙ stops_refused sys steps k j p v rest s one_less next off);
            }

        pub reached_further : (node : Node S) (y z : X) → may sys s (get_or word n 0) ≡ true → y ≡ w.on_choice s (get_or word n 0) x → chosen sys steps s (get_or word n 0) ≡ node → z ≡ fold_chosen sys w steps s (get_or word n 0) y → Reached n (node_of h s) x → Reached (n + 1) node z
        reached_further node y z on taken is more r =
            let k = choices - n in
            let j = choices - (n + 1) in
            let p = get_or word n 0 in
            let v = drop n word in
            let rest = drop (n + 1) word in
            let next = drop_next word n within in
            let shown = ap (fold_chosen sys w steps s p) (sym taken) ∙ sym more in
            record {
              same = r.same ∙ ap (λ g. further n (run_from sys steps k v (node_of g s))) due ∙ goes_at sys steps k j n p v rest s one_less next on ∙ ap (λ m. further (n + 1) (run_from sys steps j rest m)) is;
              seen = r.seen ∙ ap (λ g. fold_from sys w steps k v (node_of g s) x) due ∙ fold_chosen_further sys w steps k j p v rest s x one_less next on ∙ ap (fold_from sys w steps j rest (chosen sys steps s p)) shown ∙ ap (λ m. fold_from sys w steps j rest m z) is;
              stop = r.stop ∙ ap (λ g. last_state_from sys steps k v (node_of g s)) due ∙ stops_further sys steps k j p v rest s one_less next on ∙ ap (last_state_from sys steps j rest) is;
            }
