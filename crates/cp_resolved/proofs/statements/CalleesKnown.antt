-- What the rules say of the calls in each routine and initial statement of a tree that was read and breaks none: what is called is a routine of some number.
use Rattle.std.proofs.Common.{◌≡◌, ℕ, zero, suc, Bool, true, false, if◌then◌else◌, List, [], ◌∷◌, Option, Some, None, slice_get, refl, sym, ap, subst, ◌∙◌}
use Rattle.cp_resolved.proofs.Words.{Program, Routine, Tree, IsAccepted, Name, same_name, find, since, routine_meaning, RoutineMeaning, routine_in}
use Rattle.cp_resolved.proofs.Words.{SystemMeaning, declared, own_meaning, or_own, system_of, Place, IsAgreed, AreAgreed, places_of, tokens_of, Opening}
use Rattle.cp_resolved.proofs.Words.{openings_of, meaning_in, meaning_at, IsRead, initial_meaning, Each, Tokens, is_entry_in, Ty, HasResult, name_with, name_in, layouts_of}
use Rattle.cp_meaning.specs.Scopes as scopes
use Rattle.cp_resolved.proofs.agreeing.AgreeingProgram.{ProgramResult}
use Rattle.cp_resolved.proofs.statements.RoutinesNoted.{opens_entry, entry_in, entry_at, waits_of, waits_with, waits_at, IsNoted, AreNoted, InitialNumbered, SystemNumbered}
use Rattle.cp_resolved.proofs.agreeing.RoutinesSeen.{body_scope_entry}
use Rattle.cp_resolved.proofs.agreeing.ScopesOfTrees.{agreed_program}
use Rattle.cp_resolved.proofs.declarations.SmallBodies.{IsSmallOpening, read_opens}

-- ---- the place of a number

pub record At (t : Tree) (n : ℕ) : Type 0 where
  pub place : Place
  pub opening : Opening
  pub means : meaning_at t.program n ≡ opening.meaning
  pub named : HasResult opening.meaning.result → (layouts_of t).names n ≡ opening.name
  pub entry : entry_at t.program n ≡ opens_entry opening
  pub waits : waits_at t.program n ≡ waits_of place opening
  pub agreed : IsAgreed (tokens_of t.program) t.program place opening
  pub noted : IsNoted t.program place opening
  pub small : IsSmallOpening opening

record There (tokens : Tokens) (p : Program) (xs : List Place) (n : ℕ) (o : Opening) : Type 0 where
  place : Place
  is : slice_get xs n ≡ Some place
  agreed : IsAgreed tokens p place o
  noted : IsNoted p place o
  small : IsSmallOpening o

there_at : (tokens : Tokens) (p : Program) (xs : List Place) (os : List Opening) (n : ℕ) (o : Opening) → AreAgreed tokens p xs os → AreNoted p xs os → Each IsSmallOpening os → slice_get os n ≡ Some o → There tokens p xs n o
there_at tokens p [] [] n o a h s e = absurd (let bad : None ≡ Some o = e in cc)
there_at tokens p (x ∷ xs) (q ∷ os) zero o a h s e =
    let same : q ≡ o = cc in
    record { place = x; is = refl; agreed = subst (IsAgreed tokens p x) same a.0; noted = subst (IsNoted p x) same h.0; small = subst IsSmallOpening same s.0 }
there_at tokens p (x ∷ xs) (q ∷ os) (suc n) o a h s e =
    let r : There tokens p xs n o = there_at tokens p xs os n o a.1 h.1 s.1 e in
    record { place = r.place; is = r.is; agreed = r.agreed; noted = r.noted; small = r.small }
there_at tokens p _ _ n o a h s e = absurd a

-- the name of a routine with a result
name_of_result : (x : Option Name) (r : Option Ty) → HasResult r → name_with x r ≡ x
name_of_result x (Some t) i = refl
name_of_result x None i = absurd i

waits_none : (q : Option Place) → waits_with q None ≡ false
waits_none None = refl
waits_none (Some x) = refl

-- ---- routines of scopes

found_entry : (y : Name) (s : scopes.Scope) (r : Routine) → find y s ≡ Some (routine_meaning r) → is_entry_in (since y s) ≡ r.is_entry
found_entry y [] r e = absurd (let bad : None ≡ Some (routine_meaning r) = e in cc)
found_entry y (d ∷ s) r e = go (same_name y d.0) (found_entry y s r) e
  where
    one : (m : scopes.Meaning) → m ≡ routine_meaning r → is_entry_in ((d.0, m) ∷ s) ≡ r.is_entry
    one m f = ap (λ (z : scopes.Meaning). is_entry_in ((d.0, z) ∷ s)) f

    go : (b : Bool) → (find y s ≡ Some (routine_meaning r) → is_entry_in (since y s) ≡ r.is_entry) → (if b then Some d.1 else find y s) ≡ Some (routine_meaning r) → is_entry_in (if b then d ∷ s else since y s) ≡ r.is_entry
    go true rest f = one d.1 (let g : d.1 ≡ routine_meaning r = cc in g)
    go false rest f = rest f

pub routine_entry : (y : Name) (s : scopes.Scope) (r : Routine) → find y s ≡ Some (routine_meaning r) → is_entry_in (routine_in (since y s) r).scope ≡ r.is_entry
routine_entry y s r e = body_scope_entry (since y s) r ∙ found_entry y s r e

-- a system type by its number, the program's own after all others
system_numbered : (p : Program) (tokens : Tokens) (ms : List SystemMeaning) (k : ℕ) (own : SystemMeaning) → Each (SystemNumbered p tokens) ms → SystemNumbered p tokens own → SystemNumbered p tokens (or_own own (slice_get ms k))
system_numbered p tokens [] k own h g = g
system_numbered p tokens (m ∷ ms) zero own h g = h.0
system_numbered p tokens (m ∷ ms) (suc k) own h g = system_numbered p tokens ms k own h.1 g

-- ---- what is called

-- a routine of the component itself is no entry, and nobody waits in it where nobody waits in the caller; of another component an entry is called
abbrev pub IsCalledAs : Program → (caller callee : ℕ) → Option scopes.Meaning → Type 0
IsCalledAs p n k (Some (routine_meaning y)) = (entry_at p k ≡ false) × (waits_at p n ≡ false → waits_at p k ≡ false)
IsCalledAs p n k m = entry_at p k ≡ true

pub record CalleeKnown (p : Program) (n : ℕ) (m : Option scopes.Meaning) (r : RoutineMeaning) : Type 0 where
  pub number : ℕ
  pub same : r ≡ meaning_at p number
  pub called : IsCalledAs p n number m

module _ (t : Tree) (read : IsRead t.program) (accepted : IsAccepted t) where
  abbrev p : Program
  p = t.program

  abbrev tokens : Tokens
  tokens = tokens_of t.program

  all : ProgramResult tokens p
  all = agreed_program t read accepted

  pub numbered : (k : ℕ) → SystemNumbered p tokens (system_of p k)
  numbered k = system_numbered p tokens (declared p).systems k (own_meaning (declared p) p) all.systems all.own

  at_opening : (n : ℕ) (o : Opening) → slice_get (openings_of p) n ≡ Some o → There tokens p (places_of p) n o
  at_opening n o e = there_at tokens p (places_of p) (openings_of p) n o all.places all.noted (read_opens p read) e

  pub at_number : (n : ℕ) → At t n
  at_number n = go (slice_get (openings_of p) n) refl
    where
      go : (o : Option Opening) → slice_get (openings_of p) n ≡ o → At t n
      go (Some o) e =
          let r : There tokens p (places_of p) n o = at_opening n o e in
          record {
            place = r.place;
            opening = o;
            means = ap (meaning_in (initial_meaning (own_meaning (declared p) p))) e;
            named = λ result. ap name_in e ∙ name_of_result o.name o.meaning.result result;
            entry = ap entry_in e;
            waits = ap (λ (q : Option Place). waits_with q (slice_get (openings_of p) n)) r.is ∙ ap (waits_with (Some r.place)) e;
            agreed = r.agreed;
            noted = r.noted;
            small = r.small;
          }
      go None e =
          let i : InitialNumbered p tokens (own_meaning (declared p) p) = all.own.initial in
          let r : There tokens p (places_of p) i.number i.opening = at_opening i.number i.opening i.there in
          let own : i.opening.meaning ≡ initial_meaning (own_meaning (declared p) p) = sym (ap (meaning_in (initial_meaning (own_meaning (declared p) p))) i.there) ∙ i.means in
          record {
            place = r.place;
            opening = i.opening;
            means = ap (meaning_in (initial_meaning (own_meaning (declared p) p))) e ∙ sym own;
            named = λ result. absurd (subst (λ (m : RoutineMeaning). HasResult m.result) own result);
            entry = ap entry_in e ∙ (sym i.entry ∙ ap entry_in i.there);
            waits = ap (waits_with (slice_get (places_of p) n)) e ∙ (waits_none (slice_get (places_of p) n) ∙ (sym i.waits ∙ (ap (λ (q : Option Place). waits_with q (slice_get (openings_of p) i.number)) r.is ∙ ap (waits_with (Some r.place)) i.there)));
            agreed = r.agreed;
            noted = r.noted;
            small = r.small;
          }
