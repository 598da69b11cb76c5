-- A value of any type that is written into a permanent variable, or a part of one: all components have what they have then.
use Rattle.std.proofs.Common.{◌≡◌, ◌≢◌, ◌∙◌, ℕ, ◌+◌, ◌<◌, ◌≤◌, ◌⊎◌, inl, inr, true, false, List, Option, Some, ap, sym, subst, arith, length}
use Rattle.cp_machine_laws.proofs.Words.{some_same, bytes_eq-Decides, Tables, component_at, Permanent, Memory, Name, same_name, Ty, Value, Choice, with_part, Content, holds}
use Rattle.cp_machine_laws.proofs.Words.{Environment, Component, no_component, cells_of, Layouts, look, encode, HasType, chosen_at, further, LiesAt}
use Rattle.cp_meaning.specs.State as named
use Rattle.cp_meaning.specs.Places.{content_of, with_content, value_held, with_permanents}
use Rattle.cp_machine_laws.proofs.assignments.Blocks.{WritesBlock, block_kept, block_new}
use Rattle.cp_machine_laws.proofs.control.Moving.{set_here, set_there, same_or_other}
use Rattle.cp_machine_laws.proofs.expressions.Parts.{encode_length, part_stands}
use Rattle.cp_machine_laws.proofs.assignments.Writing.{content_here, content_there, ComponentsLie, ComponentsApart}

module _ (r : Tables) (l : Layouts) (cs : List Component) (m m2 : Memory) (lie : ComponentsLie r l cs m) (apart : ComponentsApart r l)
    (k : ℕ) (x : Name) (u : Ty) (choices : List Choice) (offset : ℕ) (t : Ty) (y : Value) (there : k < length r.components) (there_named : k < length cs) (known : look x (l.systems (component_at r k).system).variables ≡ Some u)
    (chosen : chosen_at u choices ≡ Some (offset, t)) (typed : HasType t y)
    (writes : WritesBlock m m2 (further (Permanent ((component_at r k).base + (l.systems (component_at r k).system).slots x)) offset) (encode y)) where
  abbrev pub old : Value
  old = value_held (content_of x (named.component_at cs k).environment)

  abbrev pub new_content : Content
  new_content = holds (with_part old choices y)

  abbrev pub new_environment : Environment
  new_environment = with_content x new_content (named.component_at cs k).environment

  abbrev pub after : List Component
  after = with_permanents cs k new_environment

  abbrev Lies : ℕ → Name → Ty → Type 0
  Lies n z v = LiesAt m2 v (value_held (content_of z (named.component_at after n).environment)) (Permanent ((component_at r n).base + (l.systems (component_at r n).system).slots z))

  environment_here : (named.component_at after k).environment ≡ new_environment
  environment_here = ap (λ (c : Component). c.environment) (set_here cs k (record (named.component_at cs k) { environment = new_environment }) no_component there_named)

  environment_there : (n : ℕ) → n ≢ k → (named.component_at after n).environment ≡ (named.component_at cs n).environment
  environment_there n d = ap (λ (c : Component). c.environment) (set_there cs k n (record (named.component_at cs k) { environment = new_environment }) no_component d)

  pub block_content_new : same_name x x ≡ true → content_of x (named.component_at after k).environment ≡ Some new_content
  block_content_new h = ap (content_of x) environment_here ∙ content_here x x new_content (named.component_at cs k).environment h

  target_lies : same_name x x ≡ true → Lies k x u
  target_lies h =
      subst (λ (o : Option Content). LiesAt m2 u (value_held o) (Permanent ((component_at r k).base + (l.systems (component_at r k).system).slots x))) (sym (block_content_new h))
      (block_new m m2 u old (Permanent ((component_at r k).base + (l.systems (component_at r k).system).slots x)) choices offset t y writes (lie k x u there known) chosen typed)

  pub block_content_kept : (n : ℕ) (z : Name) → (n ≢ k) ⊎ (same_name z x ≡ false) → content_of z (named.component_at after n).environment ≡ content_of z (named.component_at cs n).environment
  block_content_kept n z (inl d) = ap (content_of z) (environment_there n d)
  block_content_kept n z (inr h) = go (same_or_other n k)
    where
      go : (n ≡ k) ⊎ (n ≢ k) → content_of z (named.component_at after n).environment ≡ content_of z (named.component_at cs n).environment
      go (inl e) = ap (λ i. content_of z (named.component_at after i).environment) e ∙ (ap (content_of z) environment_here ∙ (content_there z x new_content (named.component_at cs k).environment h ∙ ap (λ i. content_of z (named.component_at cs i).environment) (sym e)))
      go (inr d) = ap (content_of z) (environment_there n d)

  offset_inside : offset + length (encode y) ≤ cells_of u
  offset_inside =
      let w = lie k x u there known in
      let i = (part_stands u old choices (offset, t) w.typed chosen).inside in
      let n = encode_length u old w.typed in
      let len = encode_length t y typed in
      omega (arith, i, n, len)

  permanent_is : (a b : ℕ) → Permanent a ≡ Permanent b → a ≡ b
  permanent_is a b e = cc

  pub components_with_block : ComponentsLie r l after m2
  components_with_block n z v less looked = go (apart n k z x v u less there looked known)
    where
      go : ((n ≡ k) × (same_name z x ≡ true)) ⊎ (((n ≢ k) ⊎ (same_name z x ≡ false)) × ((i j : ℕ) → i < cells_of v → j < cells_of u → (component_at r n).base + (l.systems (component_at r n).system).slots z + i ≢ (component_at r k).base + (l.systems (component_at r k).system).slots x + j)) → Lies n z v
      go (inl same) =
          let ex : z ≡ x = (bytes_eq-Decides z x).0 same.1 in
          let et : v ≡ u = some_same v u (sym looked ∙ (ap (λ i. look z (l.systems (component_at r i).system).variables) same.0 ∙ (ap (λ w. look w (l.systems (component_at r k).system).variables) ex ∙ known))) in
          subst (λ i. Lies i z v) (sym same.0) (subst (λ w. Lies k w v) (sym ex) (subst (λ w. Lies k x w) (sym et) (target_lies (subst (λ w. same_name w x ≡ true) ex same.1))))
      go (inr other) =
          subst (λ (o : Option Content). LiesAt m2 v (value_held o) (Permanent ((component_at r n).base + (l.systems (component_at r n).system).slots z))) (sym (block_content_kept n z other.0))
          (block_kept m m2 (further (Permanent ((component_at r k).base + (l.systems (component_at r k).system).slots x)) offset) (encode y) v (value_held (content_of z (named.component_at cs n).environment)) (Permanent ((component_at r n).base + (l.systems (component_at r n).system).slots z)) writes (lie n z v less looked)
          (λ i j h small e. other.1 i (offset + j) h (omega (arith, small, offset_inside)) (let s = permanent_is _ _ e in omega (arith, s))))
