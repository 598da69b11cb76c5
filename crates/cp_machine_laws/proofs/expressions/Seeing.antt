-- The names that a process sees begin where their slots do.
use Rattle.std.proofs.Common.{◌≡◌, ◌∙◌, ℕ, suc, ◌+◌, ◌-◌, ◌^◌, ◌<◌, ◌==◌, ◌⊎◌, inl, inr, Bool, true, false, if◌then◌else◌, List, [], ◌∷◌, Option, Some, None, ap, sym, refl, subst, arith, length, eq-eqb}
use Rattle.cp_machine_laws.proofs.Words.{Ok, eqb-true, Tables, component_at, routine_at, Address, Permanent, Local, Frame, HasCells, Memory, address_onward, onward, origin_address}
use Rattle.cp_machine_laws.proofs.Words.{reference_at, Routine, Program, Name, temporary, result_name, Holder, in_call, in_component, Place, Content, refers, Component, Call}
use Rattle.cp_machine_laws.proofs.Words.{system_of, plain_address, cells_of, Layouts, here, cell_named, is_own, is_parameter, look, component_begun, permanent_begun}
use Rattle.cp_machine_laws.proofs.Words.{result_begun, begun_form, Ground, RoutineIs, further, frame_above, InFrame, BeginsAt, PlaceAt, CallIs, CallHolds, TargetAgrees}
use Rattle.cp_machine_laws.proofs.Words.{BegunAgrees, Few, Sees, onward_is, Meaning, local_variable, permanent_variable, routine_meaning, find, since, routine_in}
use Rattle.cp_slots.specs.declared.place.PlaceOrigin.TheVariants as origin
use Rattle.cp_meaning.specs.Types.{Range, Ty, ordinal, queue_type, set_over, array_over, record_with, component_of}
use Rattle.cp_meaning.specs.Places.{View, Target, content_of, call_above, environment_of, this_call, plain_place, referred as refers_to, result_type, target_meant, target_named}
use Rattle.cp_slots.specs.Code as code
use Rattle.cp_machine_laws.proofs.expressions.Reading.{calls_frames, AllLie, place_lies}
use Rattle.cp_machine_laws.proofs.expressions.Members.{not_equal as differ}
use Rattle.cp_machine_laws.proofs.expressions.SetCells.{no_further as further_none}

-- from an address that is there one moves by no cells
pub moved_none : (m : Memory) (a : Address) (t : ℕ) → Few m → HasCells m a t → address_onward a 0 ≡ further a 0
moved_none m (Permanent n) t few h = ap Permanent (onward_is n 0 (let p = few.permanents in omega (arith, p, h)))
moved_none m (Local n) t few h = ap Local (onward_is n 0 (let p = few.cells in omega (arith, p, h)))

-- ---- places of frames below are places of all frames

above_less : (fs : List Frame) (below : ℕ) (f : Frame) → frame_above fs below ≡ Some f → below < length fs
above_less [] below f e = absurd (cc)
above_less (g ∷ fs) below f e = go (length fs == below) refl (λ d. above_less fs below f d) e
  where
    go : (b : Bool) → (length fs == below) ≡ b → (frame_above fs below ≡ Some f → below < length fs) → (if b then Some g else frame_above fs below) ≡ Some f → below < suc (length fs)
    go true s ih d = let w = eqb-true (length fs) below s in omega (arith, w)
    go false s ih d = let w = ih d in omega (arith, w)

begins_more : (r : Tables) (l : Layouts) (f : Frame) (fs : List Frame) (h : Holder) (x : Name) (t : Ty) (a : Address) → BeginsAt r l fs h x t a → BeginsAt r l (f ∷ fs) h x t a
begins_more r l f fs (in_component n) x t a b = b
begins_more r l f fs (in_call below) x t a b = go (frame_above fs below) refl b
  where
    go : (o : Option Frame) → frame_above fs below ≡ o → InFrame l o x t a → InFrame l (frame_above (f ∷ fs) below) x t a
    go None e k = absurd k
    go (Some g) e k =
        let less = above_less fs below g e in
        let w : (length fs == below) ≡ false = differ (length fs) below (λ d. omega (arith, d, less)) in
        subst (λ (o : Option Frame). InFrame l o x t a) (sym (ap (λ (b : Bool). if b then Some f else frame_above fs below) w ∙ e)) k

place_more : (r : Tables) (l : Layouts) (f : Frame) (fs : List Frame) (q : Place) (t : Ty) (a : Address) → PlaceAt r l fs q t a → PlaceAt r l (f ∷ fs) q t a
place_more r l f fs q t a p = record { whole = p.whole; first = p.first; offset = p.offset; begins = begins_more r l f fs q.holder q.name p.whole p.first p.begins; chosen = p.chosen; address = p.address }

-- ---- names

module _ (g : Ground) (p : Program) (l : Layouts) (comps : List Component) (c : Call) (cs : List Call) (f : Frame) (fs : List Frame) (m : Memory)
    (all : AllLie g.tables l (f ∷ fs) (record { program = p; calls = c ∷ cs; components = comps }) m) (rout : RoutineIs g p l f.routine) (few : Few m)
    (numbered : (k : ℕ) → k < (routine_at g.tables f.routine).references → f.references + k < 2 ^ 64) where
  abbrev v : View
  v = record { program = p; calls = c ∷ cs; components = comps }

  call_is : CallIs g.tables l c f
  call_is = all.calls.0

  call_holds : CallHolds g.tables l m c f fs
  call_holds = all.calls.1

  as_many : length cs ≡ length fs
  as_many = calls_frames g.tables l m cs fs all.calls.2

  top : suc (length cs) - 1 ≡ length cs
  top = omega arith

  environment_is : environment_of v (this_call v) ≡ c.environment
  environment_is = ap (λ n. (if length cs == n then c else call_above cs n).environment) top ∙ ap (λ (b : Bool). (if b then c else call_above cs (length cs)).environment) (eq-eqb (length cs) (length cs) refl)

  frame_is : frame_above (f ∷ fs) (suc (length cs) - 1) ≡ Some f
  frame_is = ap (λ n. if length fs == n then Some f else frame_above fs n) (top ∙ as_many) ∙ ap (λ (b : Bool). if b then Some f else frame_above fs (length fs)) (eq-eqb (length fs) (length fs) refl)

  -- a variable of the innermost call
  local_place : (x : Name) (t : Ty) → look x (l.frames f.routine).variables ≡ Some t → PlaceAt g.tables l (f ∷ fs) (plain_place (this_call v) x) t (address_onward (origin_address m.references f ((l.frames f.routine).origins x)) 0)
  local_place x t k =
      let lies = call_holds.variables x t k in
      let here : origin_address m.references f ((l.frames f.routine).origins x) ≡ Local (f.base + cell_named (l.frames f.routine) x) =
      ap (origin_address m.references f) (rout.frame.local x t k) ∙ ap Local (onward_is f.base (cell_named (l.frames f.routine) x) (let a = lies.cells in let b = few.cells in omega (arith, a, b))) in
      record {
        whole = t;
        first = Local (f.base + cell_named (l.frames f.routine) x);
        offset = 0;
        begins = subst (λ (o : Option Frame). InFrame l o x t (Local (f.base + cell_named (l.frames f.routine) x))) (sym frame_is) (k, refl);
        chosen = refl;
        address = ap (λ a. address_onward a 0) here ∙ moved_none m (Local (f.base + cell_named (l.frames f.routine) x)) (cells_of t) few lies.cells;
      }

  referred_plain : (o : Option Content) (q : Place) → ((y : Place) → o ≡ Some (refers y) → ⊥) → refers_to o q ≡ q
  referred_plain (Some (refers y)) q never = absurd (never y refl)
  referred_plain _ q never = refl

  local_agrees : (x : Name) (t : Ty) → (look x (l.frames f.routine).variables ≡ Some t) ⊎ (look x (l.frames f.routine).references ≡ Some t) →
      TargetAgrees g.tables l (f ∷ fs) (Ok (target_meant v x (Some (local_variable t)))) t (plain_address m f (code.place ((l.frames f.routine).origins x) 0 code.no_indices))
  local_agrees x t (inl k) =
      let e : refers_to (content_of x (environment_of v (this_call v))) (plain_place (this_call v) x) ≡ plain_place (this_call v) x =
      ap (λ env. refers_to (content_of x env) (plain_place (this_call v) x)) environment_is ∙ referred_plain (content_of x c.environment) (plain_place (this_call v) x) (λ y d. call_holds.plain x t y k d) in
      (refl, subst (λ q. PlaceAt g.tables l (f ∷ fs) q t (address_onward (origin_address m.references f ((l.frames f.routine).origins x)) 0)) (sym e) (local_place x t k))
  local_agrees x t (inr k) =
      let w = call_holds.references x t k in
      let e : refers_to (content_of x (environment_of v (this_call v))) (plain_place (this_call v) x) ≡ w.0 =
      ap (λ env. refers_to (content_of x env) (plain_place (this_call v) x)) environment_is ∙ ap (λ o. refers_to o (plain_place (this_call v) x)) w.1 in
      let place = place_more g.tables l f fs w.0 t (reference_at m.references (f.references + cell_named (l.frames f.routine) x)) w.2 in
      let lies = place_lies g.tables l (f ∷ fs) v m all w.0 t (reference_at m.references (f.references + cell_named (l.frames f.routine) x)) place in
      let here : origin_address m.references f ((l.frames f.routine).origins x) ≡ reference_at m.references (f.references + cell_named (l.frames f.routine) x) =
      ap (origin_address m.references f) (rout.frame.reference x t k) ∙ ap (reference_at m.references) (onward_is f.references (cell_named (l.frames f.routine) x) (numbered (cell_named (l.frames f.routine) x) (rout.frame.numbered x t k).0)) in
      let same : reference_at m.references (f.references + cell_named (l.frames f.routine) x) ≡ address_onward (origin_address m.references f ((l.frames f.routine).origins x)) 0 =
      sym (ap (λ a. address_onward a 0) here ∙ (moved_none m (reference_at m.references (f.references + cell_named (l.frames f.routine) x)) (cells_of t) few lies.cells ∙ further_none (reference_at m.references (f.references + cell_named (l.frames f.routine) x)))) in
      (refl, subst (λ q. PlaceAt g.tables l (f ∷ fs) q t (address_onward (origin_address m.references f ((l.frames f.routine).origins x)) 0)) (sym e) (subst (PlaceAt g.tables l (f ∷ fs) w.0 t) same place))

  -- a permanent variable of the component
  permanent_agrees : (x : Name) (t : Ty) → look x (l.systems (l.owners f.routine)).variables ≡ Some t →
      TargetAgrees g.tables l (f ∷ fs) (Ok (target_meant v x (Some (permanent_variable t)))) t (plain_address m f (code.place (origin.Permanent ((l.systems (l.owners f.routine)).slots x)) 0 code.no_indices))
  permanent_agrees x t k =
      let system : l.owners f.routine ≡ (component_at g.tables f.component).system = call_is.owner in
      let known : look x (l.systems (component_at g.tables f.component).system).variables ≡ Some t = subst (λ n. look x (l.systems n).variables ≡ Some t) system k in
      let lies = all.components f.component x t call_is.there known in
      let slot_is : (l.systems (l.owners f.routine)).slots x ≡ (l.systems (component_at g.tables f.component).system).slots x = ap (λ n. (l.systems n).slots x) system in
      let here : origin_address m.references f (origin.Permanent ((l.systems (l.owners f.routine)).slots x)) ≡ Permanent ((component_at g.tables f.component).base + (l.systems (component_at g.tables f.component).system).slots x) =
      ap (λ n. Permanent (onward n ((l.systems (l.owners f.routine)).slots x))) call_is.own ∙ (ap (λ n. Permanent (onward (component_at g.tables f.component).base n)) slot_is ∙ ap Permanent (onward_is (component_at g.tables f.component).base ((l.systems (component_at g.tables f.component).system).slots x) (let a = lies.cells in let b = few.permanents in omega (arith, a, b)))) in (
        refl,
        subst (λ n. PlaceAt g.tables l (f ∷ fs) (plain_place (in_component n) x) t (address_onward (origin_address m.references f (origin.Permanent ((l.systems (l.owners f.routine)).slots x))) 0)) (sym call_is.component)
            (record {
              whole = t;
              first = Permanent ((component_at g.tables f.component).base + (l.systems (component_at g.tables f.component).system).slots x);
              offset = 0;
              begins = record { there = call_is.there; known = known; address = refl };
              chosen = refl;
              address = ap (λ a. address_onward a 0) here ∙ moved_none m (Permanent ((component_at g.tables f.component).base + (l.systems (component_at g.tables f.component).system).slots x)) (cells_of t) few lies.cells;
            }),
      )

  -- by what the name stands for
  part_agrees : (o : Target) (x : Name) (k : ℕ) (b : Bool) → BegunAgrees g.tables l (f ∷ fs) m f o (Some (component_begun (here p l f.routine) x k b))
  part_agrees o x k true = tt
  part_agrees o x k false = tt

  array_agrees : (x : Name) (q : Range) (u : Ty) → find x (l.meanings f.routine).scope ≡ Some (permanent_variable (array_over q u)) → BegunAgrees g.tables l (f ∷ fs) m f (target_meant v x (Some (permanent_variable (array_over q u)))) (Some (permanent_begun (here p l f.routine) x (array_over q u)))
  array_agrees x q (component_of k) e = tt
  array_agrees x q (ordinal n) e = permanent_agrees x (array_over q (ordinal n)) (rout.permanents x (array_over q (ordinal n)) e refl)
  array_agrees x q queue_type e = permanent_agrees x (array_over q queue_type) (rout.permanents x (array_over q queue_type) e refl)
  array_agrees x q (set_over n) e = permanent_agrees x (array_over q (set_over n)) (rout.permanents x (array_over q (set_over n)) e refl)
  array_agrees x q (array_over n u) e = permanent_agrees x (array_over q (array_over n u)) (rout.permanents x (array_over q (array_over n u)) e refl)
  array_agrees x q (record_with ts) e = permanent_agrees x (array_over q (record_with ts)) (rout.permanents x (array_over q (record_with ts)) e refl)

  result_agrees : (x : Name) (y : Routine) → find x c.scope ≡ Some (routine_meaning y) → (b : Bool) → is_own (here p l f.routine) x ≡ b → BegunAgrees g.tables l (f ∷ fs) m f (target_meant v x (Some (routine_meaning y))) (result_begun (here p l f.routine) b)
  result_agrees x y e false d = tt
  result_agrees x y e true d =
      let here_too : find x (l.meanings f.routine).scope ≡ Some (routine_meaning y) = subst (λ s. find x s ≡ Some (routine_meaning y)) call_is.scope e in
      let same : (routine_in (since x c.scope) y).result ≡ (l.meanings f.routine).result = ap (λ s. (routine_in (since x s) y).result) call_is.scope ∙ rout.own x y d here_too in
      (ap result_type same, local_place result_name (result_type (l.meanings f.routine).result) (rout.own_result x d))

  meant_agrees : (x : Name) (o : Option Meaning) → find x c.scope ≡ o → BegunAgrees g.tables l (f ∷ fs) m f (target_meant v x o) (begun_form (here p l f.routine) x o)
  meant_agrees x (Some (local_variable t)) e = local_agrees x t (rout.frame.locals x t (subst (λ s. find x s ≡ Some (local_variable t)) call_is.scope e))
  meant_agrees x (Some (routine_meaning y)) e = result_agrees x y e (is_own (here p l f.routine) x) refl
  meant_agrees x (Some (permanent_variable (component_of k))) e = part_agrees (target_meant v x (Some (permanent_variable (component_of k)))) x k (is_parameter x (system_of p (l.owners f.routine)).parameters)
  meant_agrees x (Some (permanent_variable (array_over q u))) e = array_agrees x q u (subst (λ s. find x s ≡ Some (permanent_variable (array_over q u))) call_is.scope e)
  meant_agrees x (Some (permanent_variable (ordinal n))) e = permanent_agrees x (ordinal n) (rout.permanents x (ordinal n) (subst (λ s. find x s ≡ Some (permanent_variable (ordinal n))) call_is.scope e) refl)
  meant_agrees x (Some (permanent_variable queue_type)) e = permanent_agrees x queue_type (rout.permanents x queue_type (subst (λ s. find x s ≡ Some (permanent_variable queue_type)) call_is.scope e) refl)
  meant_agrees x (Some (permanent_variable (set_over n))) e = permanent_agrees x (set_over n) (rout.permanents x (set_over n) (subst (λ s. find x s ≡ Some (permanent_variable (set_over n))) call_is.scope e) refl)
  meant_agrees x (Some (permanent_variable (record_with ts))) e = permanent_agrees x (record_with ts) (rout.permanents x (record_with ts) (subst (λ s. find x s ≡ Some (permanent_variable (record_with ts))) call_is.scope e) refl)
  meant_agrees x _ e = tt

  -- what a process sees is what its frame has: the premise of the induction over expressions
  pub sees : Sees g.tables l (f ∷ fs) v m f (here p l f.routine)
  sees =
      record {
        program = refl;
        scope = sym call_is.scope;
        begins = λ x. subst (λ s. BegunAgrees g.tables l (f ∷ fs) m f (target_named v x) (begun_form (here p l f.routine) x (find x s))) call_is.scope (meant_agrees x (find x c.scope) refl);
        lies = λ q t a h. place_lies g.tables l (f ∷ fs) v m all q t a h;
        temporaries = λ at t e. (refl, local_place (temporary at) t e);
        few = few;
      }
