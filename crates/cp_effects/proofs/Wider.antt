-- Footprints that have all that others have: what a step may touch is in them too.
use Rattle.std.proofs.Common.{◌≡◌, ◌∙◌, ℕ, Bool, true, false, List, [], ◌∷◌, Option, Some, None, ap, refl, sym}
use Rattle.std.specs.Prelude.{◌==◌, ◌&&◌, ◌||◌, IfSome}
use Rattle.cp_slots.specs.Tables.{Tables, component_at, item_at}
use Rattle.cp_slots.specs.declared.item.Action.{Action}
use Rattle.cp_slots.specs.declared.item.Action.TheVariants.{Call, Start}
use Rattle.cp_slots.specs.declared.tables.ComponentKind.{ComponentKind}
use Rattle.cp_slots.specs.declared.tables.ComponentKind.TheVariants as kind
use Rattle.cp_store.specs.declared.memory.Address.{Address}
use Rattle.cp_store.specs.declared.memory.Address.TheVariants.{Permanent, Local}
use Rattle.cp_machine.specs.declared.process.Entry.{Entry}
use Rattle.cp_machine.specs.declared.process.Entry.TheVariants.{Rest, Successor, Return, InitEnd}
use Rattle.cp_machine.specs.declared.process.Status.{Status}
use Rattle.cp_machine.specs.declared.process.Status.TheVariants.{Unstarted, Ready, AtGate, Delayed, Ended}
use Rattle.cp_machine.specs.Machine.{Machine, is_unstarted}
use Rattle.cp_effect_laws.specs.Footprint.{Footprint}
use Rattle.cp_effect_laws.specs.Parts.{Places, status_at, waits_among}
use Rattle.cp_effect_laws.specs.Touches.{HasAt, HasComponent, HasEnd, HasKind, HasNamed, HasStep, HasTop}
use Rattle.cp_effects.specs.Noting.{KeepNoted, among}
use Rattle.cp_effects.specs.Touching.{noted_by}

abbrev pub Has : (ℕ → Bool) → (ℕ → Bool) → Type 0
Has own other = (k : ℕ) → own k ≡ true → other k ≡ true

-- footprint g has all that footprint f has
pub record IsWider (f g : Footprint) : Type 0 where
  pub cells : Has f.cells g.cells
  pub components : Has f.components g.components
  pub monitors : Has f.monitors g.monitors
  pub statuses : Has f.statuses g.statuses
  pub bodies : Has f.bodies g.bodies

pub wider_at : (own other : ℕ → Bool) → Has own other → (a : Address) (cells : ℕ) → HasAt own a cells → HasAt other a cells
wider_at own other w (Permanent number) cells h = λ k low high. w k (h k low high)
wider_at own other w (Local number) cells h = h

module _ (f g : Footprint) (w : IsWider f g) where
  pub wider_kind : (c : ComponentKind) → HasKind f c → HasKind g c
  wider_kind (kind.Monitor number) h = w.monitors number h
  wider_kind (kind.Process number) h = w.statuses number h
  wider_kind kind.Class h = h

  pub wider_component : (r : Tables) (component : ℕ) → HasComponent f r component → HasComponent g r component
  wider_component r component h =
      record {
        cells = λ k low high. w.cells k (h.cells k low high);
        status = w.components component h.status;
        kind = wider_kind (component_at r component).kind h.kind;
      }

  wider_named : (r : Tables) (m : Machine) (pid : ℕ) (a : Action) → HasNamed f r m pid a → HasNamed g r m pid a
  wider_named r m pid (Call routine place is_entry arguments result) h = λ component is. wider_component r component (h component is)
  wider_named r m pid (Start place routine arguments) h = λ component is. wider_component r component (h component is)
  wider_named r m pid _ h = h

  wider_monitor : (monitor : Option ℕ) → IfSome monitor (λ number. f.monitors number ≡ true) → IfSome monitor (λ number. g.monitors number ≡ true)
  wider_monitor None h = h
  wider_monitor (Some number) h = w.monitors number h

  pub wider_end : (es : List Entry) → HasEnd f es → HasEnd g es
  wider_end [] h = h
  wider_end (Rest at ∷ es) h = h
  wider_end (Successor at value last ∷ es) h = h
  wider_end (Return caller result monitor ∷ es) h = wider_monitor monitor h
  wider_end (InitEnd caller component ∷ es) h = w.components component h

  wider_top : (r : Tables) (m : Machine) (pid : ℕ) (es : List Entry) → HasTop f r m pid es → HasTop g r m pid es
  wider_top r m pid [] h = h
  wider_top r m pid (Rest at ∷ es) h = wider_named r m pid (item_at r at).action h
  wider_top r m pid (Successor at value last ∷ es) h = h
  wider_top r m pid (Return caller result monitor ∷ es) h = h
  wider_top r m pid (InitEnd caller component ∷ es) h = h

  pub wider_step : (r : Tables) (m : Machine) (pid : ℕ) → HasStep f r m pid → HasStep g r m pid
  wider_step r m pid h =
      record {
        status = w.statuses pid h.status;
        body = w.bodies pid h.body;
        frame = record {
          own = λ k low high. w.cells k (h.frame.own k low high);
          behind = λ k lt. wider_at f.cells g.cells w.cells _ _ (h.frame.behind k lt);
        };
        here = wider_kind _ h.here;
        end = wider_end _ h.end;
        top = wider_top r m pid _ h.top;
      }

-- ---- more places

waits_more : (l : Places) (some others : ℕ → Bool) → Has some others → (s : Status) → waits_among l some s ≡ true → waits_among l others s ≡ true
waits_more l some others w (AtGate monitor) h = w (l.of_monitor monitor) h
waits_more l some others w (Delayed cell) h = w (l.of_cell cell) h
waits_more l some others w Ready h = h
waits_more l some others w Unstarted h = h
waits_more l some others w Ended h = h

either_more : (own a b c d : Bool) → (a ≡ true → b ≡ true) → (c ≡ true → d ≡ true) → (own || (a || c)) ≡ true → (own || (b || d)) ≡ true
either_more true a b c d f g h = refl
either_more false true b c d f g h = ap (λ x. x || d) (f refl)
either_more false false true c d f g h = refl
either_more false false false c d f g h = g h

both_more : (a b c : Bool) → (a ≡ true → b ≡ true) → (a && c) ≡ true → (b && c) ≡ true
both_more true b c f h = ap (λ x. x && c) (f refl) ∙ h
both_more false b c f h = absurd (cc)

-- what more places have, where the statuses are those of another machine
pub more_noted : (l : Places) (before after : List ℕ) (m first : Machine) (pid : ℕ) → KeepNoted before after → ((q : ℕ) → status_at m q ≡ status_at first q) → IsWider (noted_by l before m pid) (noted_by l after first pid)
more_noted l before after m first pid more same =
    record {
      cells = λ k. more (l.of_cell k);
      components = λ k. more (l.of_component k);
      monitors = λ k. more (l.of_monitor k);
      statuses = λ q h.
          either_more (q == pid) _ (among after (l.of_process q) && is_unstarted (status_at first q)) _ (waits_among l (among after) (status_at first q))
          (λ a. ap (λ s. among after (l.of_process q) && is_unstarted s) (sym (same q)) ∙ both_more (among before (l.of_process q)) (among after (l.of_process q)) _ (more (l.of_process q)) a)
          (λ a. ap (waits_among l (among after)) (sym (same q)) ∙ waits_more l (among before) (among after) more (status_at m q) a) h;
      bodies = λ q h. h;
    }
