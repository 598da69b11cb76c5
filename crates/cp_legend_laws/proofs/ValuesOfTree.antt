-- Values of the variables and parameters of a tree are read from cells as they are told.
use Rattle.std.proofs.Common.{◌≡◌, ℕ, Bool, true, false, if◌then◌else◌, List, [], ◌∷◌, ◌++◌, Option, Some, None, sym, ap₂, subst, ◌∙◌}
use Rattle.cp_legend_laws.proofs.Words.{Compounds, Each, Name, Numbering, Program, Tree, TypeIs, Variable}
use Rattle.cp_tree.specs.Read.{IsRead}
use Rattle.cp_symbols.specs.declared.symbols.Symbols as code_symbols
use Rattle.cp_layout.specs.Laid.{whole}
use Rattle.cp_layout.specs.Symbols.{AreSymbolsOf}
use Rattle.cp_meaning_laws.specs.Accepted.{IsAccepted}
use Rattle.cp_meaning.specs.Declarations.{Parameter, RoutineMeaning}
use Rattle.cp_meaning.specs.Steps.{parameter_variables}
use Rattle.cp_meaning.specs.Systems.{SystemMeaning, system_of}
use Rattle.cp_meaning.specs.Types.{Ty, has_components}
use Rattle.cp_resolved.specs.Enumerations.{constant_names}
use Rattle.cp_resolved.specs.Framed.{system_variables}
use Rattle.cp_resolved.specs.Layouts.{look}
use Rattle.cp_resolved.specs.Names.{IsPlain}
use Rattle.cp_resolved.specs.Openings.{meaning_at, numbering_of}
use Rattle.cp_resolved.specs.TreeLayouts.{components_among, layouts_of}
use Rattle.cp_resolved.proofs.counts.FewReferences.{each_weaker}
use Rattle.cp_resolved.proofs.declarations.Plain.{plain_law}
use Rattle.cp_resolved.proofs.frames.EncodedCells.{HoldEarlier}
use Rattle.cp_resolved.proofs.frames.FrameCells.{each_both, look_each}
use Rattle.cp_resolved.proofs.laid.EarlierTypes.{program_earlier}
use Rattle.cp_legend.specs.Names as legend
use Rattle.cp_legend.specs.Names.{Source, legend_seen, source_seen}
use Rattle.cp_legend.specs.Values.{value_of}
use Rattle.cp_legend_laws.specs.Routines.{own_variables, result_variable, value_parameters}
use Rattle.cp_legend_laws.specs.Statements.{IsTold, ValuesLaw}
use Rattle.cp_legend_laws.proofs.KnownConstants.{KnownType}
use Rattle.cp_legend_laws.proofs.TypesOfTree.{IsSound, constants_same, types_are_sound}
use Rattle.cp_legend_laws.proofs.ValuesRead.{value_is_told}
use Rattle.cp_legend_laws.proofs.WrittenTypes.{ParametersHave, ProgramHas, ResultHas, RoutineHas, VariablesHave, variables_have}

-- ---- the variables of system types and routines

each_celled : (P : Variable → Type 0) (vs : List Variable) → Each P vs → Each P (components_among false vs)
each_celled P [] h = tt
each_celled P (v ∷ vs) h = go (has_components v.ty) (each_celled P vs h.1)
  where
    go : (b : Bool) → Each P (components_among false vs) → Each P (if b then components_among false vs else v ∷ components_among false vs)
    go true rest = rest
    go false rest = (h.0, rest)

module _ (T : Ty → Type 0) where
  with_values : (qs : List Parameter) → ParametersHave T qs → VariablesHave T (value_parameters qs)
  with_values [] h = tt
  with_values (q ∷ qs) h = go q.is_var (with_values qs h.1)
    where
      v : Variable
      v = record { name = q.name; ty = q.ty }

      go : (b : Bool) → VariablesHave T (value_parameters qs) → VariablesHave T (if b then value_parameters qs else v ∷ value_parameters qs)
      go true rest = rest
      go false rest = (h.0, rest)

  of_result : (o : Option Ty) → ResultHas T o → VariablesHave T (result_variable o)
  of_result None h = tt
  of_result (Some t) h = (h, tt)

  own_have : (m : RoutineMeaning) → RoutineHas T m → VariablesHave T (own_variables m)
  own_have m h =
      let P = λ (v : Variable). T v.ty in
      each_both P (value_parameters m.parameters) (result_variable m.result ++ m.variables) (with_values m.parameters h.parameters) (each_both P (result_variable m.result) m.variables (of_result m.result h.result) h.variables)

-- ---- the law

module _ (t : Tree) (y : code_symbols.Symbols) (read : IsRead t.program) (ok : IsAccepted t) (is : AreSymbolsOf y (whole t)) where
  abbrev p : Program
  p = t.program

  abbrev k : Numbering
  k = numbering_of t.program

  abbrev source : Source
  source = source_seen y

  plain_tree : IsPlain p
  plain_tree = plain_law t read ok

  earlier : HoldEarlier source.types
  earlier = subst HoldEarlier (sym is.types) (program_earlier t.lines p)

  names : source.constants ≡ constant_names p
  names = constants_same t y is plain_tree

  abbrev Sound : Ty → Type 0
  Sound u = IsSound (constant_names p) k.firsts u

  sound : ProgramHas Sound p
  sound = types_are_sound p plain_tree read

  system : (n : ℕ) → VariablesHave Sound ((layouts_of t).systems n).variables
  system n =
      let m : SystemMeaning = system_of p n in
      let h = sound.systems n in
      let P = λ (v : Variable). Sound v.ty in
      each_celled P (system_variables m) (each_both P (parameter_variables m.parameters) m.variables (variables_have Sound m.parameters h.parameters) h.variables)

  module _ (l : legend.Legend) (constants : l.constants ≡ source.constants) (shapes : l.shapes ≡ source.types) where
    told_as : (u : Ty) → KnownType (constant_names p) k.firsts u → IsTold t l u
    told_as u known shape w cells at type typed stands few =
        ap₂ (λ (cs : List Name) (ts : Compounds). value_of cs ts cells shape at) (constants ∙ names) shapes
        ∙ value_is_told p source.types earlier cells few u shape w at known (subst (λ (ts : Compounds). TypeIs k ts u shape) shapes type) typed stands

    permanents : (n : ℕ) (x : Name) (u : Ty) → look x ((layouts_of t).systems n).variables ≡ Some u → IsTold t l u
    permanents n x u found = told_as u (look_each (λ (v : Variable). Sound v.ty) x u ((layouts_of t).systems n).variables (system n) found).0

    parameters : (n : ℕ) → Each (λ (q : Parameter). IsTold t l q.ty) (meaning_at p n).parameters
    parameters n = each_weaker (λ (q : Parameter). Sound q.ty) (λ (q : Parameter). IsTold t l q.ty) (λ q h. told_as q.ty h.0) (meaning_at p n).parameters (sound.routines n).parameters

    locals : (n : ℕ) → Each (λ (v : Variable). IsTold t l v.ty) (own_variables (meaning_at p n))
    locals n =
        each_weaker (λ (v : Variable). Sound v.ty) (λ (v : Variable). IsTold t l v.ty) (λ v h. told_as v.ty h.0) (own_variables (meaning_at p n)) (own_have Sound (meaning_at p n) (sound.routines n))

pub values_law : ValuesLaw
values_law t y r l read ok is same named =
    let w : legend.Legend = legend_seen l in
    record {
      permanents = λ n x u le found. permanents t y read ok is w named.constants named.shapes n x u found;
      parameters = λ n lt. parameters t y read ok is w named.constants named.shapes n;
      locals = λ n lt. locals t y read ok is w named.constants named.shapes n;
    }
