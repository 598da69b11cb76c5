-- Who owns a component, and which variables a process holds (access rights: the book, chapter 8).
use Rattle.std.specs.Prelude.{◌≡◌, ◌≢◌, ℕ, zero, suc, ◌<◌, ◌⊎◌, Bool, true, false, ◌||◌, List, [], ◌∷◌, length, Some}
use Rattle.cp_tree.specs.Syntax.{Program}
use Rattle.cp_tree.specs.declared.declaration.SystemKind.{SystemKind}
use Rattle.cp_tree.specs.declared.declaration.SystemKind.TheVariants as system_kind
use Rattle.cp_meaning.specs.Names.{Name, same_name}
use Rattle.cp_meaning.specs.Declarations.{Parameter}
use Rattle.cp_meaning.specs.Systems.{system_of}
use Rattle.cp_meaning.specs.Components.{around}
use Rattle.cp_meaning.specs.State.{Holder, in_call, in_component, Place, refers, knows, uninitialised, initialising, unstarted, ready, Component, component_at, Call, Process, process_at, State, has_entry, initialises}
use Rattle.cp_meaning.specs.Places.{content_of, component_with}

-- ---- owners: the component itself if it is a process or monitor, else the nearest process or monitor around it

abbrev pub by_kind : SystemKind → ℕ → ℕ → ℕ
by_kind system_kind.Class n outer = outer
by_kind system_kind.Monitor n outer = n
by_kind system_kind.Process n outer = n

abbrev pub owner_from : (depth : ℕ) → List Component → ℕ → ℕ
owner_from zero cs n = n
owner_from (suc depth) cs n = by_kind (component_at cs n).kind n (owner_from depth cs (component_with (around (component_at cs n).path) cs))

-- the owner of component n
abbrev pub owner_of : List Component → ℕ → ℕ
owner_of cs n = owner_from (length (component_at cs n).path) cs n

-- ---- what a process holds

-- the variables of component n: its owner is the process itself, or a monitor that the process is inside, waits at or initialises
abbrev pub HoldsComponent : State → Process → ℕ → Type 0
HoldsComponent s p n =
    let o = owner_of s.components n in
    (o ≡ p.component) ⊎ (((component_at s.components o).kind ≡ system_kind.Monitor) × ((has_entry o p.calls ≡ true) ⊎ (initialises o p ≡ true)))

-- a place in an own open call, or in a component whose variables the process holds
abbrev pub HoldsPlace : State → Process → Holder → Type 0
HoldsPlace s p (in_call below) = below < length p.calls
HoldsPlace s p (in_component n) = HoldsComponent s p n

-- ---- lawful states

-- each open call's component is held, and so are the places in its environment
abbrev pub HoldsCalls : State → Process → List Call → Type 0
HoldsCalls s p [] = Unit {0}
HoldsCalls s p (c ∷ cs) =
    HoldsComponent s p c.component ×
    ((x : Name) (q : Place) → content_of x c.environment ≡ Some (refers q) → HoldsPlace s p q.holder) ×
    HoldsCalls s p cs

-- the same component, or one whose type is declared earlier
abbrev pub below_or_same : List Component → ℕ → ℕ → Type 0
below_or_same cs n outer = (n ≡ outer) ⊎ ((component_at cs n).system < (component_at cs outer).system)

-- each open call is of the component of the call before it, or of one whose type is declared earlier; n is that of the process
abbrev pub CallsDescend : List Component → ℕ → List Call → Type 0
CallsDescend cs n [] = Unit {0}
CallsDescend cs n (c ∷ []) = below_or_same cs c.component n
CallsDescend cs n (c ∷ d ∷ calls) = below_or_same cs c.component d.component × CallsDescend cs n (d ∷ calls)

-- the process holds what it works on, and its open calls descend
pub record IsLawfulProcess (s : State) (p : Process) : Type 0 where
  pub calls : HoldsCalls s p p.calls
  pub started : (m : ℕ) → initialises m p ≡ true → HoldsComponent s p m
  pub order : CallsDescend s.components p.component p.calls

-- a state in which access rights are kept
pub record IsLawful (s : State) : Type 0 where
  pub processes : (q : ℕ) → q < length s.processes → IsLawfulProcess s (process_at s.processes q)
  -- a class that a component has as a parameter has that component's owner
  pub classes : (n d : ℕ) (x : Name) → content_of x (component_at s.components n).environment ≡ Some (knows d) → (component_at s.components d).kind ≡ system_kind.Class → owner_of s.components d ≡ owner_of s.components n

-- ---- changes

-- the component was uninitialised and its initial statement begins, or its process was unstarted and begins
abbrev pub IsStarted : State → State → ℕ → Type 0
IsStarted before after n =
    (((component_at before.components n).status ≡ uninitialised) × ((component_at after.components n).status ≡ initialising)) ⊎
    ((r : ℕ) × ((process_at before.processes r).component ≡ n) × ((process_at before.processes r).status ≡ unstarted) × ((process_at after.processes r).status ≡ ready))

-- the name is that of one of these parameters
abbrev pub is_parameter : Name → List Parameter → Bool
is_parameter x [] = false
is_parameter x (q ∷ qs) = same_name x q.name || is_parameter x qs

-- the name is that of a parameter of the system type of component n
abbrev pub IsParameterOf : Program → List Component → ℕ → Name → Type 0
IsParameterOf p cs n x = is_parameter x (system_of p (component_at cs n).system).parameters ≡ true

-- a permanent variable or parameter of component n has another content afterwards than before
abbrev pub IsChanged : State → State → ℕ → Name → Type 0
IsChanged before after n x = content_of x (component_at before.components n).environment ≢ content_of x (component_at after.components n).environment

-- each variable that a step changes is held before the step by the process that steps, or is a parameter of a component that the step starts
abbrev pub ChangesHeld : Program → State → State → ℕ → Type 0
ChangesHeld p before after pid =
    (n : ℕ) (x : Name) → IsChanged before after n x →
    HoldsComponent before (process_at before.processes pid) n ⊎ (IsStarted before after n × IsParameterOf p before.components n x)

-- the open calls of another process stay as they are, unless it begins
abbrev pub OthersKept : State → State → ℕ → Type 0
OthersKept before after pid =
    (q : ℕ) → q < length before.processes → q ≢ pid →
    ((process_at after.processes q).calls ≡ (process_at before.processes q).calls) ⊎ (((process_at before.processes q).status ≡ unstarted) × ((process_at after.processes q).status ≡ ready))

-- no variable is changed, neither a permanent one nor one of an open call
abbrev pub VariablesKept : State → State → Type 0
VariablesKept before after =
    ((n : ℕ) (x : Name) → IsChanged before after n x → ⊥) ×
    ((q : ℕ) → q < length before.processes → (process_at after.processes q).calls ≡ (process_at before.processes q).calls)
