-- Of every tree that was read and breaks no rule: an entry is called of a class or monitor alone, and its tables number the routines of the program.
use Rattle.cp_machine_laws.proofs.Words.{◌≡◌, ◌∙◌, ◌⊎◌, inl, inr, length, Some, ap, sym, invoke, Program, Tree, IsRead, Tables, IsAccepted, RoutineMeaning, Scope}
use Rattle.cp_machine_laws.proofs.Words.{function_call, a_component, designator_form, tokens_of, Layouts, layouts_of, placed_law, IsWithin, ItemStands, scope_of, body_of}
use Rattle.cp_layout.specs.Laid.{PlainTables, plain, laid}
use Rattle.cp_resolved.specs.LayoutsKnow.{IsPlaced}
use Rattle.cp_resolved.specs.Openings.{openings_of, numbering_of}
use Rattle.cp_resolved.specs.Typed.{ScopesAgree}
use Rattle.cp_resolved.proofs.items.BodiesStand.{laid_routines}
use Rattle.cp_resolved.proofs.statements.CallsKnown as calls_known
use Rattle.cp_resolved.proofs.statements.ComponentsCalled.{no_function, no_procedure}
use Rattle.cp_resolved.proofs.names.Opened.{opened_all}
use Rattle.cp_resolved.proofs.counts.RoutinesCounted.{Many, all_many}
use Rattle.cp_machine_laws.proofs.reached.KnownItems.{EntriesKnown}
use Rattle.cp_machine_laws.proofs.reached.KnownRoutines.{function_there, invoke_there}

module _ (t : Tree) (read : IsRead t.program) (ok : IsAccepted t) where
  abbrev p : Program
  p = t.program

  abbrev l : Layouts
  l = layouts_of t

  -- ---- as many routines as openings

  pub counted : (r : Tables) → plain r ≡ laid t → length r.routines ≡ length (openings_of p)
  counted r same =
      let place : IsPlaced t = placed_law t read ok in
      let many : Many t = all_many (numbering_of p) t place.plain.small place.plain.fit place.plain.numbered (opened_all p) in
      ap (λ (q : PlainTables). length q.routines) same ∙ (ap (λ vs. length vs) (laid_routines t) ∙ sym many.routines)

  -- ---- entries

  pub entries_known : EntriesKnown p l
  entries_known n k at d es same stands part c form process = go stands
    where
      own : RoutineMeaning
      own = (calls_known.a t read ok n).opening.meaning

      means : l.meanings n ≡ own
      means = (calls_known.a t read ok n).means

      scopes : own.scope ≡ scope_of l k
      scopes = sym (ap (λ (m : RoutineMeaning). m.scope) means) ∙ same

      agrees : ScopesAgree (tokens_of p) (calls_known.s t read ok n) (record { program = p; layouts = l; system = l.owners k; routine = k; scope = own.scope })
      agrees = (calls_known.a t read ok n).agreed.scopes l (l.owners k) k

      formed : designator_form (record { program = p; layouts = l; system = l.owners k; routine = k; scope = own.scope }) d ≡ Some (a_component part c)
      formed = ap (λ (s : Scope). designator_form (record { program = p; layouts = l; system = l.owners k; routine = k; scope = s }) d) scopes ∙ form

      go : ItemStands (scope_of l n) (body_of l n) (function_call at d es) ⊎ IsWithin (body_of l n) (invoke at d es) → ⊥
      go (inl i) = no_function t read ok (calls_known.s t read ok n) (calls_known.w t read ok n) l (l.owners k) k own.scope c process agrees (calls_known.f t read ok n) d part (function_there t read ok n at d es i) formed
      go (inr i) = no_procedure t read ok (calls_known.s t read ok n) (calls_known.w t read ok n) l (l.owners k) k own.scope c process agrees (calls_known.f t read ok n) d part (invoke_there t read ok n at d es i) formed
