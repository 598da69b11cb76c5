-- Where choices lead by rows.
use Rattle.std.proofs.Common.{◌≡◌, ◌∙◌, ◌++◌, ◌∷◌, ℕ, zero, suc, List, [], Bool, true, false, None, Some, if◌then◌else◌, drop, length, take, refl, sym, ap, subst, arith}
use Rattle.std.proofs.Math.Seq.{take-append_seam}
use Rattle.std.proofs.lemmas.List.{length-append, length-drop, length-take-le}
use Rattle.std.specs.Prelude.{IfSome, Option}
use Rattle.cp_ends.proofs.Vocabulary.{Tables, Machine, Shown, System, Discipline, Turn, States, goal_at, settled_turn, turn_after}
use Rattle.cp_run.specs.Fold.{Fold, fold_chosen, fold_stretch, fold_turn, walked, walked_chosen}
use Rattle.cp_run.specs.Silent.{silent_slots, without_output}
use Rattle.cp_run.specs.Slots.{slots}
use Rattle.cp_run.specs.declared.outcome.Halt.{Halt}
use Rattle.cp_run.specs.declared.outcome.Halt.TheVariants.{Choice, Ended}
use Rattle.cp_run.specs.declared.outcome.OutcomeKind.{OutcomeKind}
use Rattle.cp_run.specs.declared.outcome.Turn.TheVariants.{Over, Due, Goes as Onward}
use Rattle.cp_stretches.specs.Cached.{StandsFor}
use Rattle.cp_stretches.specs.Stretching.{LeadsTo, shower, turn_of}
use Rattle.cp_ends.specs.Arrivals.{halt_arrival, next_arrival, teller}
use Rattle.cp_endless_laws.specs.Moments.{Moment, moments}
use Rattle.cp_ends.specs.ByRows.{GoesAsTold, Seeing, end_of}
use Rattle.cp_ends.specs.Holds.{same_key}
use Rattle.cp_ends.specs.Rows.{IsRowFor}
use Rattle.cp_ends.specs.declared.end.End.{End}
use Rattle.cp_ends.specs.Legs.{ComesTo, Leg, choice_leg, turn_leg, with_round}
use Rattle.cp_ends.specs.declared.told.Told.{Told}
use Rattle.cp_ends.proofs.Halting.{choice_comes, comes_to, shows}
use Rattle.cp_ends.proofs.Legs.{SetsOutBy, choice_sets_out, comes_to_choice, comes_to_end}

-- a machine by its row is one that stands for a row
pub stands_for : (r : Tables) (kept : States) (row : List ℕ) (m : Machine) → IsRowFor r kept row m → StandsFor r kept.discipline kept.cache.store kept.cache.table m row
stands_for r kept row m is =
    record {
      stands = is.is;
      kept = record { fits = is.it.own.fits; lines = is.it.own.lines; reach = is.it.own.reach };
      quiet = is.it.quiet;
      ruled = is.it.ruled;
    }

pub row_for : (r : Tables) (kept : States) (row : List ℕ) (m : Machine) → StandsFor r kept.discipline kept.cache.store kept.cache.table m row → IsRowFor r kept row m
row_for r kept row m is =
    record {
      it = record { own = record { fits = is.kept.fits; lines = is.kept.lines; reach = is.kept.reach; shown = omega (arith, ap length is.quiet) }; quiet = is.quiet; ruled = is.ruled };
      is = is.stands;
    }

-- what an option has that is one
pub some_of : {A : Type 0} (o : Option A) (a : A) (P : A → Type 0) → o ≡ Some a → IfSome o P → P a
some_of o a P is h = subst (λ x. IfSome x P) is h

-- a list that was written over from its beginning
pub written_over : (old new : List ℕ) (n : ℕ) → length new ≡ n → take n (new ++ drop (length new) old) ≡ new
written_over old new n long = ap (λ k. take k (new ++ drop (length new) old)) (sym long) ∙ take-append_seam new (drop (length new) old)

pub written_long : (old new : List ℕ) (n : ℕ) → length old ≡ n → length (take n (new ++ drop (length new) old)) ≡ n
written_long old new n long = length-take-le n (new ++ drop (length new) old) (omega (arith, length-append new (drop (length new) old), length-drop (length new) old, long))

module _ (r : Tables) (discipline : Discipline) where
  abbrev quiet : System Machine
  quiet = silent_slots r discipline

  abbrev tell : Fold Machine (List Shown × Bool)
  tell = teller (slots r discipline)

  -- the values are the first half of what is told
  told_turn : (n : ℕ) (m : Machine) (turn : Turn) (x : List Shown × Bool) → ((p : ℕ) (y : List Shown × Bool) → (fold_stretch quiet tell n m p y).0 ≡ fold_stretch quiet (shower r) n m p y.0) → (fold_turn (fold_stretch quiet tell n m) turn x).0 ≡ fold_turn (fold_stretch quiet (shower r) n m) turn x.0
  told_turn n m (Onward p) x on = on p x
  told_turn n m (Over kind) x on = refl
  told_turn n m Due x on = refl

  told_stretch : (n : ℕ) (m : Machine) (p : ℕ) (x : List Shown × Bool) → (fold_stretch quiet tell n m p x).0 ≡ fold_stretch quiet (shower r) n m p x.0
  unfolding fold_stretch
  told_stretch zero m p x = refl
  told_stretch (suc n) m p x =
      let t : Machine = quiet.step m p in
      told_turn n t (turn_after quiet t p (quiet.event m p)) (tell.on_step m p (quiet.event m p) t x) (told_stretch n t)

  told_chosen : (n : ℕ) (m : Machine) (p : ℕ) (x : List Shown × Bool) → (fold_chosen quiet tell n m p x).0 ≡ fold_chosen quiet (shower r) n m p x.0
  unfolding fold_chosen
  told_chosen n m p x = by (quiet.is_pending m)
    where
      t : Machine
      t = quiet.admit m p

      by : (b : Bool) → (if b then fold_turn (fold_stretch quiet tell n t) (settled_turn quiet t true p) x else fold_stretch quiet tell n m p x).0 ≡ (if b then fold_turn (fold_stretch quiet (shower r) n t) (settled_turn quiet t true p) x.0 else fold_stretch quiet (shower r) n m p x.0)
      by true = told_turn n t (settled_turn quiet t true p) x (told_stretch n t)
      by false = told_stretch n m p x

  -- where a stretch halts by its row, the choice leads, and what is seen of it is so
  pub goes_so : {W : Type 0} (sees : Seeing W) (steps : ℕ) (m : Machine) (p : ℕ) (halt : Halt OutcomeKind) (kept : States) (row : List ℕ) (told : Told W) → kept.discipline ≡ discipline →
      LeadsTo r discipline kept.cache.store kept.cache.table steps m p [] halt row told.values.items → told.again ≡ None → sees told.seen r discipline (m ∷ []) (moments quiet steps m p) → GoesAsTold sees r discipline steps m p (end_of halt) (IsRowFor r kept row) told
  goes_so {W} sees steps m p halt kept row told ruled leads again seen =
      record {
        goes = record {
          after = leads.after;
          is = λ due. row_for r kept row leads.after (subst (λ (d : Discipline). StandsFor r d kept.cache.store kept.cache.table leads.after row) (sym ruled) leads.stands);
          goal = comes_to (slots r discipline) quiet same_key steps (next_arrival (slots r discipline) without_output same_key steps m p) (fold_chosen quiet tell steps m p) (walked_chosen quiet steps m p) leads.after (turn_of halt) leads.walked (choice_comes (slots r discipline) without_output same_key steps m p) ([], false) shown shown (goal_at (end_of halt) leads.after) all (cut halt);
          shown = shows (slots r discipline) quiet same_key steps (next_arrival (slots r discipline) without_output same_key steps m p) (fold_chosen quiet tell steps m p) (walked_chosen quiet steps m p) leads.after (turn_of halt) leads.walked (choice_comes (slots r discipline) without_output same_key steps m p) ([], false) shown shown (goal_at (end_of halt) leads.after) all (cut halt);
        };
        seen = subst (λ (a : Option W). ComesTo quiet now steps (choice_leg quiet steps m p) (m ∷ []) told.seen (with_round a (end_of halt)) leads.after) (sym again)
            (subst (λ (leg : Leg Machine). ComesTo quiet now steps leg (m ∷ []) told.seen (with_round None (end_of halt)) leads.after) (sym out.2)
            (comes halt (sym out.3 ∙ leads.walked) (subst (λ (leg : Leg Machine). now told.seen (m ∷ []) (leg.moments steps)) out.2 seen)));
      }
    where
      shown : List Shown
      shown = told.values.items

      now : W → List Machine → List (Moment Machine) → Type 0
      now w = sees w r discipline

      out : SetsOutBy quiet (choice_leg quiet steps m p) (walked_chosen quiet steps m p) steps
      out = choice_sets_out quiet steps m p

      comes : (h : Halt OutcomeKind) → walked quiet steps out.0 out.1 ≡ (leads.after, turn_of h) → now told.seen (m ∷ []) ((turn_leg quiet steps out.0 out.1).moments steps) →
          ComesTo quiet now steps (turn_leg quiet steps out.0 out.1) (m ∷ []) told.seen (with_round None (end_of h)) leads.after
      comes Choice there seen = comes_to_choice quiet now steps (m ∷ []) told.seen out.0 leads.after out.1 there seen
      comes (Ended kind) there seen = comes_to_end quiet now steps (m ∷ []) told.seen out.0 leads.after out.1 kind there seen

      all : shown ≡ (fold_chosen quiet tell steps m p ([], false)).0
      all = sym leads.told ∙ sym (told_chosen steps m p ([], false))

      cut : (h : Halt OutcomeKind) → halt_arrival (slots r discipline) quiet same_key steps shown leads.after (turn_of h) ≡ record { goal = goal_at (end_of h) leads.after; shown = shown }
      cut Choice = refl
      cut (Ended kind) = refl
