-- A process that may go on: it runs on both sides, and what its control stack begins with is what it does next.
use Rattle.std.proofs.Common.{◌≡◌, ℕ, ◌<◌, true, List, [], ◌∷◌, ◌++◌, Option, Some, None, sym, refl, subst, length}
use Rattle.cp_machine_laws.proofs.Words.{Program, Entry, Rest, Machine, thread_at, is_ready, ready, Status, Item, State, Layouts, Here, here, Ground, ItemIs}
use Rattle.cp_machine_laws.proofs.Words.{ItemsAre, StatusIs, StackIs, CallsHold, Represents, own_memory, frames_of}
use Rattle.cp_machine.specs.declared.process.Status as slot_status
use Rattle.cp_machine.specs.declared.process.Status.TheVariants as status
use Rattle.cp_meaning.specs.State as named
use Rattle.cp_machine_laws.proofs.control.Control.{Taken}
use Rattle.cp_meaning.proofs.LineLaw.{some_is as some_number}

pub ready_is : (u : Status) → is_ready u ≡ true → u ≡ ready
ready_is ready h = refl
ready_is u h = absurd (cc)

-- ready on both sides, with what stands for the rest of its items and for its calls
pub record Going (g : Ground) (p : Program) (l : Layouts) (s : State) (m : Machine) (q : ℕ) : Type 0 where
  pub rep : Represents g p l s m
  pub there : q < length s.processes
  pub many : q < length m.threads
  pub was : (named.process_at s.processes q).status ≡ ready
  pub was_slot : (thread_at m.threads q).status ≡ status.Ready
  pub stack : StackIs g p l (thread_at m.threads q).frame (named.process_at s.processes q).calls (named.process_at s.processes q).items (thread_at m.threads q).stack
  pub calls : CallsHold g.tables l (own_memory (thread_at m.threads q)) (named.process_at s.processes q).calls (frames_of (thread_at m.threads q).frame (thread_at m.threads q).stack)

module _ (g : Ground) (p : Program) (l : Layouts) (s : State) (m : Machine) (q : ℕ) where
  pub going : Represents g p l s m → q < length s.processes → is_ready (named.process_at s.processes q).status ≡ true → Going g p l s m q
  going rep there may = go (thread_at m.threads q).status refl (subst (λ u. StatusIs g p l q (named.process_at s.processes q) (thread_at m.threads q) u (thread_at m.threads q).status) was (rep.processes q there).status)
    where
      was : (named.process_at s.processes q).status ≡ ready
      was = ready_is (named.process_at s.processes q).status may

      go : (u : slot_status.Status) → (thread_at m.threads q).status ≡ u → StatusIs g p l q (named.process_at s.processes q) (thread_at m.threads q) ready u → Going g p l s m q
      go status.Ready e h = record { rep = rep; there = there; many = subst (λ n. q < n) rep.process_count there; was = was; was_slot = e; stack = h.stack; calls = h.calls }
      go _ e h = absurd h

  -- what a process does whose control stack begins with an item
  pub record TakesOne (at : ℕ) (es : List Entry) : Type 0 where
    pub item : Item
    pub mid : Option ℕ
    pub xs : List Item
    pub ys : List Item
    pub taken : Taken g p l s m q at item mid es xs ys

  pub takes_one : Going g p l s m q → (at : ℕ) (es : List Entry) → (thread_at m.threads q).stack ≡ Rest at ∷ es → TakesOne at es
  takes_one k at es e = by_stack (subst (λ us. StackIs g p l (thread_at m.threads q).frame (named.process_at s.processes q).calls (named.process_at s.processes q).items us) e k.stack)
    where
      this : Here
      this = here p l (thread_at m.threads q).frame.routine

      Below : List Item → Type 0
      Below ys = StackIs g p l (thread_at m.threads q).frame (named.process_at s.processes q).calls ys es

      held : CallsHold g.tables l (own_memory (thread_at m.threads q)) (named.process_at s.processes q).calls (frames_of (thread_at m.threads q).frame es)
      held = subst (λ us. CallsHold g.tables l (own_memory (thread_at m.threads q)) (named.process_at s.processes q).calls (frames_of (thread_at m.threads q).frame us)) e k.calls

      by_items : (xs ys : List Item) → (named.process_at s.processes q).items ≡ xs ++ ys → ItemsAre g this (Some at) xs None → Below ys → TakesOne at es
      by_items [] ys is h below = absurd (let bad : Some at ≡ None = h in cc)
      by_items (i ∷ xs) ys is h below =
          record {
            item = i;
            mid = h.1;
            xs = xs;
            ys = ys;
            taken = record {
              rep = k.rep;
              there = k.there;
              was = k.was;
              was_slot = k.was_slot;
              stack = e;
              items = is;
              own = subst (λ a. ItemIs g this a i h.1) (sym (some_number at h.0 h.2)) h.3;
              kept = h.4;
              after = h.5;
              below = below;
              calls = held;
            };
          }

      by_stack : StackIs g p l (thread_at m.threads q).frame (named.process_at s.processes q).calls (named.process_at s.processes q).items (Rest at ∷ es) → TakesOne at es
      by_stack h = by_items h.0 h.1 h.2 h.3 h.4
