-- Where the move of an item comes from, and which components are known after it.
use Rattle.cp_at_once_laws.proofs.Words.{◌≡◌, ℕ, ◌⊎◌, inl, inr, Bool, true, false, if◌then◌else◌, List, ◌∷◌, ◌++◌, Option, Some, None, refl}
use Rattle.cp_at_once_laws.proofs.Words.{SystemKind, Name, Outcome, Value, queue_value, RoutineMeaning}
use Rattle.cp_at_once_laws.proofs.Words.{SystemMeaning, system_of, target_value, Frame, frames}
use Rattle.cp_at_once_laws.proofs.Words.{content_of, View, stored, component_there, Expressions}
use Rattle.cp_at_once_laws.proofs.Words.{Program}
use Rattle.cp_at_once_laws.proofs.Words.{Move, Doing, stays, enters, leaves, delays, continues, starts, shows, ends, stored_frames}
use Rattle.cp_tree.specs.declared.declaration.SystemKind.TheVariants as system_kind
use Rattle.cp_meaning.specs.State.{knows, is_entry_kind, Place, Environment, Component, component_at, CallKind, entry_routine, Call, Item}
use Rattle.cp_meaning.specs.Calls.{bound, is_uninitialised, entered_as, with_items, initial, initialised_in, started_as}
use Rattle.cp_meaning.specs.LocalRules.{leaving_move, return_move, continued_from, returned, finished, takes}
use Rattle.cp_meaning.proofs.Held.{Known, append_content, known_set, stored_known}
use Rattle.cp_meaning.proofs.Taken.{AllOf, whatever, if_all, Rules, takes_all}

module _ (p : Program) (c : Call) (calls : List Call) (cs : List Component) (pid : ℕ) where
  abbrev v : View
  v = record { program = p; calls = c ∷ calls; components = cs }

  -- each component that the environment knows is good
  abbrev pub Knows : (ℕ → Type 0) → Environment → Type 0
  Knows Good e = (k : ℕ) (x : Name) → content_of x e ≡ Some (knows k) → Good k

  abbrev pub AllKnow : (ℕ → Type 0) → Outcome Environment → Type 0
  AllKnow Good o = AllOf (Knows Good) o

  -- The monitor that a move goes out of is the component whose call is executed. What is started is named there.
  abbrev pub FromHere : (ℕ → Type 0) → List Frame → Move → Type 0
  FromHere Good gs (leaves m) = c.component ≡ m
  FromHere Good gs (delays m) = (c.component ≡ m) × (gs ≡ frames (c ∷ calls))
  FromHere Good gs (continues m o going items) = c.component ≡ m
  FromHere Good gs (starts d e) = ((q : Place) × (d ≡ component_there v q)) × Knows Good e
  FromHere Good gs stays = Unit {0}
  FromHere Good gs (enters m) = Unit {0}
  FromHere Good gs (shows x) = Unit {0}
  FromHere Good gs ends = Unit {0}

  module _ (Good : ℕ → Type 0) (old : Known (λ n d. Good d) cs) (given : (k : ℕ) (es : Expressions) → AllKnow Good (bound v (system_of p k).parameters es)) where
    pub record Comes (d : Doing) : Type 0 where
      pub from : FromHere Good (frames d.calls) d.move
      pub known : Known (λ n k. Good k) d.components

    abbrev pub AllCome : Outcome Doing → Type 0
    AllCome o = AllOf Comes o

    abbrev Kept : View → Type 0
    Kept u = Known (λ n k. Good k) u.components

    kept_stored : (q : Place) (w : Value) → Kept (stored v q w)
    kept_stored q w = stored_known (λ n k. Good k) v q w old

    stays_here : (u : View) (items : List Item) → Kept u → Comes (with_items u items)
    stays_here u items k = record { from = tt; known = k }

    entered_comes : (k : SystemKind) (d : ℕ) (r : RoutineMeaning) (o : Option Name) (items : List Item) (e : Environment) → Comes (entered_as k v d r o items e)
    entered_comes system_kind.Monitor d r o items e = record { from = tt; known = old }
    entered_comes _ d r o items e = record { from = tt; known = old }

    either_known : (d : ℕ) (e : Environment) → Knows Good e → Knows Good (e ++ (component_at cs d).environment)
    either_known d e h k x is = go (append_content x e (component_at cs d).environment (knows k) is)
      where
        go : (content_of x e ≡ Some (knows k)) ⊎ (content_of x (component_at cs d).environment ≡ Some (knows k)) → Good k
        go (inl f) = h k x f
        go (inr f) = old d k x f

    initial_comes : (d : ℕ) (s : SystemMeaning) (items : List Item) (e : Environment) → Knows Good e → Comes (initial v d s items e)
    initial_comes d s items e h = record { from = tt; known = known_set (λ n k. Good k) cs d _ (either_known d e h) old }

    in_comes : (d : ℕ) (s : SystemMeaning) (items : List Item) (e : Environment) → Knows Good e → AllCome (initialised_in v d s items e)
    in_comes d s items e h = if_all Comes (is_uninitialised (component_at cs d).status) _ _ (λ u. initial_comes d s items e h) tt

    as_comes : (k : SystemKind) (q : Place) (s : SystemMeaning) (items : List Item) (e : Environment) → Knows Good e → AllCome (started_as k v (component_there v q) s items e)
    as_comes system_kind.Process q s items e h = record { from = ((q, refl), h); known = old }
    as_comes _ q s items e h = in_comes (component_there v q) s items e h

    finished_comes : (m : ℕ) (items : List Item) → Comes (finished v m items)
    finished_comes m items = record { from = tt; known = known_set (λ n k. Good k) cs m _ (λ k x e. old m k x e) old }

    leaving_from : (gs : List Frame) (k : SystemKind) → FromHere Good gs (leaving_move k c.component)
    leaving_from gs system_kind.Monitor = refl
    leaving_from gs _ = tt

    back_from : (gs : List Frame) → FromHere Good gs (return_move cs c)
    back_from gs = go (is_entry_kind c.kind)
      where
        go : (b : Bool) → FromHere Good gs (if b then leaving_move (component_at cs c.component).kind c.component else stays)
        go true = leaving_from gs (component_at cs c.component).kind
        go false = tt

    returned_comes : (o : Option Name) (items : List Item) → Comes (returned v o items)
    returned_comes None items = record { from = back_from _; known = old }
    returned_comes (Some x) items = record { from = back_from _; known = old }

    continue_comes : (k : CallKind) (items : List Item) (q : Place) → Comes (continued_from v k items q)
    continue_comes entry_routine items q = record { from = refl; known = kept_stored q (queue_value None) }
    continue_comes _ items q = stays_here v items old

    rules : Rules p (c ∷ calls) cs pid Comes Kept (λ items. Unit {0}) (λ q. Unit {0}) (λ e. Unit {0}) (λ k e. Knows Good e)
    rules =
        record {
          near = λ d. whatever (target_value v d);
          named = λ i. tt;
          arguments = λ qs es. whatever (bound v qs es);
          handed = given;
          plain = λ xs items h f. tt;
          rest = λ i items h f. tt;
          as_it_is = old;
          stores = λ q w n. kept_stored q w;
          goes_on = λ u items k f. stays_here u items k;
          ended = λ items f. record { from = tt; known = old };
          shows = λ items x f. record { from = tt; known = old };
          opens = λ r o items e k f. record { from = tt; known = old };
          enters = λ q r o items e n k i f. entered_comes (component_at cs (component_there v q)).kind (component_there v q) r o items e;
          starts = λ q items e n h f. as_comes (component_at cs (component_there v q)).kind q (system_of p (component_at cs (component_there v q)).system) items e h;
          waits = λ q items n f. record { from = (refl, stored_frames v q (queue_value (Some pid))); known = kept_stored q (queue_value (Some pid)) };
          continues = λ q items n f. continue_comes c.kind items q;
          returns = λ o items f. returned_comes o items;
          finishes = λ m items f. finished_comes m items;
        }

    pub takes_comes : (items : List Item) → AllCome (takes v pid items)
    takes_comes items = takes_all p (c ∷ calls) cs pid Comes Kept (λ items. Unit {0}) (λ q. Unit {0}) (λ e. Unit {0}) (λ k e. Knows Good e) rules items tt
