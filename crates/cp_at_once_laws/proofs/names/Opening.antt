-- At the start process 0 alone is ready.
use Rattle.cp_at_once_laws.proofs.Words.{◌≡◌, ◌∙◌, ℕ, zero, suc, List, [], ◌∷◌, sym, refl, SystemKind, Program, Component, unstarted, ready, Process, process_at}
use Rattle.cp_at_once_laws.proofs.Words.{book_discipline, first_components, process_first, processes_from, own_begun, opening, kind_at, program_kind}
use Rattle.cp_tree.specs.declared.declaration.SystemKind.TheVariants as system_kind

unstarted_first : (k : SystemKind) (n : ℕ) (ps : List Process) → ((q : ℕ) → (process_at ps q).status ≡ unstarted) → (q : ℕ) → (process_at (process_first k n ps) q).status ≡ unstarted
unstarted_first system_kind.Process n ps h zero = refl
unstarted_first system_kind.Process n ps h (suc q) = h q
unstarted_first _ n ps h q = h q

unstarted_from : (n : ℕ) (cs : List Component) (q : ℕ) → (process_at (processes_from n cs) q).status ≡ unstarted
unstarted_from n [] q = refl
unstarted_from n (c ∷ cs) q = unstarted_first c.kind n (processes_from (suc n) cs) (unstarted_from (suc n) cs) q

unstarted_later : (p : Program) (cs : List Component) (ps : List Process) → ((q : ℕ) → (process_at ps q).status ≡ unstarted) → (q : ℕ) → (process_at (own_begun p cs ps) (suc q)).status ≡ unstarted
unstarted_later p (c ∷ cs) [] h q = h (suc q)
unstarted_later p _ _ h q = h (suc q)

pub later_not_ready : (p : Program) (q : ℕ) → (process_at (opening p book_discipline).processes (suc q)).status ≡ ready → ⊥
later_not_ready p q e = (let bad : unstarted ≡ ready = sym (unstarted_later p (first_components p) (processes_from 0 (first_components p)) (unstarted_from 0 (first_components p)) q) ∙ e in cc)

-- the first component is the program's
own_ready : (p : Program) (k : SystemKind) (c : Component) (cs : List Component) (ps : List Process) → k ≡ system_kind.Process → (process_at (own_begun p (c ∷ cs) (process_first k 0 ps)) 0).status ≡ ready
own_ready p system_kind.Process c cs ps e = refl
own_ready p x c cs ps e = absurd cc

first_of : (p : Program) (cs : List Component) → (cs ≡ [] → ⊥) → kind_at cs 0 ≡ system_kind.Process → (process_at (own_begun p cs (processes_from 0 cs)) 0).status ≡ ready
first_of p [] ne e = absurd (ne refl)
first_of p (c ∷ cs) ne e = own_ready p c.kind c cs (processes_from 1 cs) e

is_cons : (c : Component) (cs : List Component) → c ∷ cs ≡ [] → ⊥
is_cons c cs e = absurd cc

pub first_ready : (p : Program) → (process_at (opening p book_discipline).processes 0).status ≡ ready
first_ready p = first_of p (first_components p) (is_cons _ _) (program_kind p)
