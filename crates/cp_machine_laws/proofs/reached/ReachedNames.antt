-- What a component names in a reached state, but for processes, is of an earlier type.
use Rattle.std.proofs.Common.{◌≡◌, ◌∙◌, ℕ, zero, suc, ◌<◌, ◌≤◌, ◌==◌, Bool, true, false, if◌then◌else◌, List, [], ◌∷◌, ◌++◌, Option, Some, ap, sym, refl, subst, eqb-true, arith, length}
use Rattle.cp_tree.specs.declared.declaration.SystemKind.TheVariants as system_kind
use Rattle.cp_machine_laws.proofs.Words.{Program, first_components, IsReached, IsWellFormed, Discipline, reached, PathStep, Path, step_down, same_path}
use Rattle.cp_meaning.specs.State.{Component, component_at, Content, knows, Holder, in_call, in_component, Place, Call, current, State}
use Rattle.cp_meaning.specs.Places.{View, content_of, component_with, element_chosen, around_of, component_known, component_by, component_there}
use Rattle.cp_meaning.proofs.Frames.{system_at}
use Rattle.cp_resolved.proofs.components.Contained.{path_told}
use Rattle.cp_meaning.proofs.LocalLaw.{within as not_process_within}

-- the component that is found has the path
pub found_path : (path : Path) (cs : List Component) → component_with path cs < length cs → (component_at cs (component_with path cs)).path ≡ path
found_path path [] less = absurd (omega arith)
found_path path (c ∷ cs) less = go (same_path path c.path) refl less (found_path path cs)
  where
    go : (b : Bool) → same_path path c.path ≡ b → (if b then 0 else suc (component_with path cs)) < length (c ∷ cs) → (component_with path cs < length cs → (component_at cs (component_with path cs)).path ≡ path) → (component_at (c ∷ cs) (if b then 0 else suc (component_with path cs))).path ≡ path
    go true e less rest = sym (path_told path c.path e)
    go false e less rest = rest (omega arith)

-- past the last component there is none
past_kind : (cs : List Component) (n : ℕ) → length cs ≤ n → (component_at cs n).kind ≡ system_kind.Process
past_kind [] n le = refl
past_kind (c ∷ cs) zero le = absurd (omega arith)
past_kind (c ∷ cs) (suc n) le = past_kind cs n (omega arith)

module _ (p : Program) (ok : IsWellFormed p) (g : Discipline) (s : State) (before : IsReached p g s) (calls : List Call) (c : ℕ) (is : (current calls).component ≡ c) (there : c < length s.components) where
  abbrev base : List Component
  base = first_components p

  abbrev cs : List Component
  cs = s.components

  abbrev view : View
  view = record { program = p; calls = calls; components = cs }

  past : (component_at cs (length cs)).kind ≡ system_kind.Process
  past = past_kind cs (length cs) (omega arith)

  contained_there : (n : ℕ) (q : Place) (o : Option ℕ) (d : ℕ) → n ≡ c → d ≡ component_with (step_down (component_at cs n).path q.name o) cs → ((component_at cs d).kind ≡ system_kind.Process → ⊥) → system_at cs d < system_at cs c
  contained_there n q o d e found never =
      let tree = (reached p ok g s before).0.tree in
      let less : d < length cs = not_process_within cs d never in
      let path : (component_at cs d).path ≡ (component_at cs c).path ++ (let t : PathStep = record { name = q.name; element = o } in t) ∷ [] =
      ap (λ i. (component_at cs i).path) found ∙ (found_path (step_down (component_at cs n).path q.name o) cs (subst (λ i. i < length cs) found less) ∙ ap (λ i. step_down (component_at cs i).path q.name o) e) in
      let lower = ok.contained_earlier c d (record { name = q.name; element = o }) (rw (← tree.size) there) (rw (← tree.size) less) (sym (tree.path d) ∙ (path ∙ ap (λ (w : Path). step_down w q.name o) (tree.path c))) in
      rw (tree.system d, tree.system c) lower

  known_there : (n : ℕ) (q : Place) (o : Option Content) → q.holder ≡ in_component n → n ≡ c → content_of q.name (component_at cs n).environment ≡ o → ((component_at cs (component_known view q o)).kind ≡ system_kind.Process → ⊥) → system_at cs (component_known view q o) < system_at cs c
  known_there n q (Some (knows d)) h e f never =
      let old = (reached p ok g s before).0 in
      let lower = old.earlier n d q.name f (λ w. never (old.tree.kind d ∙ w)) in
      rw (old.tree.system d, old.tree.system c) (subst (λ j. system_at base d < system_at base j) e lower)
  known_there n q _ h e f never = contained_there n q (element_chosen q.choices) _ e (ap (λ k. component_with (step_down (around_of view k) q.name (element_chosen q.choices)) cs) h) never

  by_holder : (q : Place) (h : Holder) → q.holder ≡ h → ((component_at cs (component_by view q h)).kind ≡ system_kind.Process → ⊥) → system_at cs (component_by view q h) < system_at cs c
  by_holder q (in_call b) e never = absurd (never past)
  by_holder q (in_component n) e never = go (n == (current calls).component) refl never
    where
      go : (b : Bool) → (n == (current calls).component) ≡ b → ((component_at cs (if b then component_known view q (content_of q.name (component_at cs n).environment) else length cs)).kind ≡ system_kind.Process → ⊥) →
          system_at cs (if b then component_known view q (content_of q.name (component_at cs n).environment) else length cs) < system_at cs c
      go true same k = known_there n q (content_of q.name (component_at cs n).environment) e (eqb-true n (current calls).component same ∙ is) refl k
      go false same k = absurd (k past)

  pub named_earlier : (q : Place) → ((component_at cs (component_there view q)).kind ≡ system_kind.Process → ⊥) → system_at cs (component_there view q) < system_at cs c
  named_earlier q never = by_holder q q.holder refl never
