-- The tallies of a table by layers: the states at a due choice after as many choices, each once.
use Rattle.std.specs.Prelude.{◌≡◌, ◌+◌, ◌==◌, ◌&&◌, ◌||◌, nat_lt, ℕ, zero, suc, List, [], ◌∷◌, ◌++◌, Bool, true, false, if◌then◌else◌}
use Rattle.cp_run.specs.declared.outcome.OutcomeKind.TheVariants.{ChoiceLimit}
use Rattle.cp_run.specs.System.{System}
use Rattle.cp_run.specs.Run.{Node, Halted, Choosing, may, chosen, opened}
use Rattle.cp_walk.specs.Groups.{Tally}
use Rattle.cp_merged.specs.Tallies.{Sameness}

-- dictionary order: the first word is the second or comes before it
abbrev pub up_to : List ℕ → List ℕ → Bool
up_to [] w = true
up_to (p ∷ v) [] = false
up_to (p ∷ v) (q ∷ w) = nat_lt p q || ((p == q) && up_to v w)

abbrev pub lesser : List ℕ → List ℕ → List ℕ
lesser v w = if up_to v w then v else w

-- a state at a due choice, how many words lead to it, and the first of these in dictionary order
pub record Lead (S : Type 0) : Type 0 where
  pub state : S
  pub first : List ℕ
  pub count : ℕ

-- a test that is true of equal states alone
abbrev pub IsSound : {S : Type 0} → (S → S → Bool) → Type 0
IsSound {S} eq = (s t : S) → eq s t ≡ true → s ≡ t

abbrev pub merged_lead : {S : Type 0} → Lead S → Lead S → Lead S
merged_lead y x = record { state = y.state; first = lesser y.first x.first; count = y.count + x.count }

-- a layer with one lead more
abbrev pub with_lead : {S : Type 0} → (S → S → Bool) → List (Lead S) → Lead S → List (Lead S)
with_lead eq [] x = x ∷ []
with_lead eq (y ∷ ys) x = if eq y.state x.state then merged_lead y x ∷ ys else y ∷ with_lead eq ys x

abbrev pub merged_tally : Tally → Tally → Tally
merged_tally u t = record { first = record { word = lesser u.first.word t.first.word; outcome = u.first.outcome }; count = u.count + t.count }

-- the tallies with one more
abbrev pub with_tally : Sameness → List Tally → Tally → List Tally
with_tally same [] t = t ∷ []
with_tally same (u ∷ us) t = if same u.first.outcome t.first.outcome then merged_tally u t ∷ us else u ∷ with_tally same us t

-- the tallies of the words that have ended, and the leads of a layer
pub record Front (S : Type 0) : Type 0 where
  pub ended : List Tally
  pub layer : List (Lead S)

-- where so many words arrive at a node, of which this one is the first
abbrev pub arrived : {S : Type 0} → System S → Sameness → (S → S → Bool) → List ℕ → ℕ → Node S → Front S → Front S
arrived sys same eq word count (Halted kind s) f = record { ended = with_tally same f.ended (record { first = record { word = word; outcome = record { kind = kind; output = sys.output s } }; count = count }); layer = f.layer }
arrived sys same eq word count (Choosing s) f = record { ended = f.ended; layer = with_lead eq f.layer (record { state = s; first = word; count = count }) }

-- a lead goes one choice on, with this process if it may be chosen
abbrev pub after_choice : {S : Type 0} → System S → Sameness → (S → S → Bool) → ℕ → Lead S → ℕ → Front S → Front S
after_choice sys same eq steps x p f = if may sys x.state p then arrived sys same eq (x.first ++ p ∷ []) x.count (chosen sys steps x.state p) f else f

-- with each process below n that may be chosen
abbrev pub after_choices : {S : Type 0} → System S → Sameness → (S → S → Bool) → ℕ → Lead S → ℕ → Front S → Front S
after_choices sys same eq steps x zero f = f
after_choices sys same eq steps x (suc n) f = after_choice sys same eq steps x n (after_choices sys same eq steps x n f)

-- each lead of a layer goes one choice on
abbrev pub after_layer : {S : Type 0} → System S → Sameness → (S → S → Bool) → ℕ → List (Lead S) → Front S → Front S
after_layer sys same eq steps [] f = f
after_layer sys same eq steps (x ∷ xs) f = after_layer sys same eq steps xs (after_choices sys same eq steps x sys.processes f)

-- no choice is left: each lead ends for want of choices
abbrev pub at_limit : {S : Type 0} → System S → Sameness → List (Lead S) → List Tally → List Tally
at_limit sys same [] ts = ts
at_limit sys same (x ∷ xs) ts = at_limit sys same xs (with_tally same ts (record { first = record { word = x.first; outcome = record { kind = ChoiceLimit; output = sys.output x.state } }; count = x.count }))

-- the front after so many choices
unfoldable pub front_at : {S : Type 0} → System S → Sameness → (S → S → Bool) → ℕ → ℕ → Front S
front_at sys same eq steps zero = arrived sys same eq [] 1 (opened sys steps) (record { ended = []; layer = [] })
front_at sys same eq steps (suc choices) = after_layer sys same eq steps (front_at sys same eq steps choices).layer (record { ended = (front_at sys same eq steps choices).ended; layer = [] })

-- after the last choice each lead ends
unfoldable pub by_layers : {S : Type 0} → System S → Sameness → (S → S → Bool) → ℕ → ℕ → List Tally
by_layers sys same eq choices steps = at_limit sys same (front_at sys same eq steps choices).layer (front_at sys same eq steps choices).ended

-- the tallies in the order of their first words
abbrev pub placed : Tally → List Tally → List Tally
placed t [] = t ∷ []
placed t (u ∷ us) = if up_to t.first.word u.first.word then t ∷ u ∷ us else u ∷ placed t us

abbrev pub by_first : List Tally → List Tally
by_first [] = []
by_first (t ∷ ts) = placed t (by_first ts)
