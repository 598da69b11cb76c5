-- The constants of the enumerations in the types of a program are numbered as they are written.
use Rattle.std.proofs.Common.{◌≡◌, ℕ, zero, suc, ◌+◌, ◌<◌, ◌≤◌, List, [], ◌∷◌, ◌++◌, length, slice_get, refl, sym, ap, subst, ◌∙◌, append_assoc, arith, length-append}
use Rattle.std.specs.Prelude.{min, ◌-◌, ◌^◌}
use Rattle.cp_legend_laws.proofs.Words.{length-map, Identifier, Each, AreNumbered, HasFew}
use Rattle.cp_tree.specs.Syntax as syntax
use Rattle.cp_symbols.specs.Kinds.{plus}
use Rattle.cp_meaning.specs.Names.{Name}
use Rattle.cp_meaning.specs.Types.{Base, enumerated, Ty, ordinal, queue_type, set_over, array_over, record_with, component_of, FieldTypes, no_field_types, more_field_types}
use Rattle.cp_meaning.specs.Declarations.{Variable, names_of}
use Rattle.cp_resolved.specs.Enumerations.{Enumerated, enumerations_of, names_among, constant_names}

-- the constants of the program, and the number of the first of each enumeration
module _ (cs : List Name) (firsts : ℕ → ℕ) where
  pub record IsKnown (at : ℕ) (xs : List Name) : Type 0 where
    pub some : 1 ≤ length xs
    pub few : length xs ≤ 32768
    pub there : (n : ℕ) → n < length xs → slice_get cs (plus (firsts at) n) ≡ slice_get xs n

  abbrev pub KnownBase : Base → Type 0
  KnownBase (enumerated at xs) = IsKnown at xs
  KnownBase b = Unit {0}

  abbrev mutual
    pub KnownType : Ty → Type 0
    KnownType (ordinal r) = KnownBase r.base
    KnownType (set_over r) = KnownBase r.base
    KnownType (array_over r t) = KnownBase r.base × KnownType t
    KnownType (record_with ts) = KnownFields ts
    KnownType queue_type = Unit {0}
    KnownType (component_of n) = Unit {0}

    pub KnownFields : FieldTypes → Type 0
    KnownFields no_field_types = Unit {0}
    KnownFields (more_field_types x t ts) = KnownType t × KnownFields ts

  abbrev pub AllKnown : List Enumerated → Type 0
  AllKnown es = Each (λ (e : Enumerated). IsKnown e.at (names_of e.names)) es

  abbrev pub KnownVariables : List Variable → Type 0
  KnownVariables vs = Each (λ (v : Variable). KnownType v.ty) vs

-- ---- the enumerations of a program

skipped : {A : Type 0} (xs ys : List A) (i : ℕ) → slice_get (xs ++ ys) (length xs + i) ≡ slice_get ys i
skipped [] ys i = let e : 0 + i ≡ i = omega arith in ap (λ n. slice_get ys n) e
skipped (x ∷ xs) ys i = let e : suc (length xs) + i ≡ suc (length xs + i) = omega arith in ap (λ n. slice_get (x ∷ (xs ++ ys)) n) e ∙ skipped xs ys i

within : {A : Type 0} (xs ys : List A) (i : ℕ) → i < length xs → slice_get (xs ++ ys) i ≡ slice_get xs i
within [] ys i h = absurd (omega (arith, h))
within (x ∷ xs) ys zero h = refl
within (x ∷ xs) ys (suc i) h = within xs ys i (omega (arith, h))

numbered_known : (cs : List Name) (firsts : ℕ → ℕ) (before : List Name) (es : List Enumerated) → cs ≡ before ++ names_among es → AreNumbered firsts (length before) es → Each HasFew es → AllKnown cs firsts es
numbered_known cs firsts before [] is h f = tt
numbered_known cs firsts before (e ∷ es) is h f =
    let xs : List Name = names_of e.names in
    let many : length xs ≡ length e.names = length-map e.names (λ (i : Identifier). i.name) in
    let next : length (before ++ xs) ≡ length before + length e.names = (let a = length-append before xs in omega (arith, a, many)) in
    let some = f.0.some in
    let few = f.0.few in
    let small = h.1 in (
      record {
        some = omega (arith, some, many);
        few = omega (arith, few, many);
        there = λ n lt. (
            let at : plus (firsts e.at) n ≡ length before + n = ap (λ j. plus j n) h.0 ∙ (let w : min (length before + n) (2 ^ 64 - 1) ≡ length before + n = omega (arith, small, few, many, lt) in w) in
            ap (slice_get cs) at ∙ ap (λ (ys : List Name). slice_get ys (length before + n)) is ∙ skipped before (xs ++ names_among es) n ∙ within xs (names_among es) n lt);
      },
      numbered_known cs firsts (before ++ xs) es (is ∙ sym (append_assoc before xs (names_among es))) (subst (λ n. AreNumbered firsts n es) (sym next) h.3) f.1,
    )

pub enumerations_known : (p : syntax.Program) (firsts : ℕ → ℕ) → AreNumbered firsts 0 (enumerations_of p) → Each HasFew (enumerations_of p) → AllKnown (constant_names p) firsts (enumerations_of p)
enumerations_known p firsts h f = numbered_known (constant_names p) firsts [] (enumerations_of p) refl h f
