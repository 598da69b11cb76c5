-- Before the search nothing is found.
use Rattle.cp_at_once.proofs.Words.{◌≡◌, ℕ, [], refl, sym, subst, arith, All, Tables, LeadsToPlace, LeadsToEnd, ShowsLast, SlotGraph, AreStates, HasWord}
use Rattle.cp_at_once.proofs.Words.{Holds, FoundAtOnce}
use Rattle.std.proofs.lemmas.List.Elements.{All-nil}
use Rattle.cp_ends.specs.Holds as by_states
use Rattle.cp_at_once.specs.Holds.{AreKept, AreRows}
use Rattle.cp_at_once.specs.declared.kept.Kept.{Kept}

no_states : (r : Tables) → AreStates r [] []
no_states r = record { count = refl; own = All-nil _; quiet = All-nil _; words = λ i e x at to. cc; before = λ i e at. absurd (cc) }

pub nothing_kept : (r : Tables) (kept : Kept) → kept.known.entries ≡ [] → by_states.AreStates r kept.store [] → AreKept r kept []
nothing_kept r kept none known =
    record {
      entries = subst (λ es. AreStates r es []) (sym none) (no_states r);
      rows = subst (λ es. AreRows kept.store es []) (sym none) tt;
      apart = λ i j d less within. absurd (omega (arith, within));
      ruled = All-nil _;
      known = known;
    }

pub nothing_found : (r : Tables) (g : SlotGraph) (most : ℕ) (found : FoundAtOnce) → AreKept r found.kept [] → found.ends.items ≡ [] → found.values.items ≡ [] → Holds r g most found []
nothing_found r g most found kept ends values =
    record {
      kept = kept;
      few = omega arith;
      reached = All-nil (λ x. LeadsToPlace g x.0 x.1);
      ends = subst (All (λ e. HasWord [] e.origin (LeadsToEnd g e.end))) (sym ends) (All-nil (λ e. HasWord [] e.origin (LeadsToEnd g e.end)));
      values = subst (All (λ v. HasWord [] v.origin (ShowsLast g v.value))) (sym values) (All-nil (λ v. HasWord [] v.origin (ShowsLast g v.value)));
    }
