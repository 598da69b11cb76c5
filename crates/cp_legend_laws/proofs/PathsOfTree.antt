-- The paths in the legend of a tree are those of the language.
use Rattle.std.proofs.Common.{◌≡◌, ℕ, ◌<◌, ◌≤◌, Bool, true, false, if◌then◌else◌, List, [], ◌∷◌, ◌++◌, length, map, Option, Some, None, ◌==◌, refl, sym, ap, subst, ◌∙◌, arith}
use Rattle.cp_legend_laws.proofs.Words.{eqb-false, eqb-true, Program, Tree, Layer, Variable, Numbering, Each, IsStandingVariable}
use Rattle.cp_tree.specs.Read.{IsRead}
use Rattle.cp_symbols.specs.declared.symbols.Symbols as code_symbols
use Rattle.cp_layout.specs.Laid.{PlainTables, laid, whole}
use Rattle.cp_layout.specs.Symbols.{AreSymbolsOf}
use Rattle.cp_meaning.specs.Systems.{declared, program_system, system_of}
use Rattle.cp_resolved.specs.Declared.{AreOwn, IsVisible}
use Rattle.cp_resolved.specs.Names.{IsPlain}
use Rattle.cp_resolved.specs.Openings.{numbering_of}
use Rattle.cp_meaning.specs.Steps.{parameter_variables}
use Rattle.cp_resolved.proofs.agreeing.AgreeingWritten.{each_right}
use Rattle.cp_resolved.proofs.names.Opened.{opened_all}
use Rattle.cp_resolved.proofs.components.ComponentsOfTree.{count_same, low}
use Rattle.cp_resolved.proofs.counts.FewReferences.{each_weaker}
use Rattle.cp_resolved.proofs.declarations.Plain.{plain_law}
use Rattle.cp_resolved.proofs.declarations.SystemVariables.{accepted_own}
use Rattle.cp_legend.specs.Names.{Source, component_seen, components_of, source_seen, parts_of}
use Rattle.cp_legend_laws.specs.Paths.{variable_type, type_in_system}
use Rattle.cp_legend_laws.specs.Called.{called_in_legend, tabled}
use Rattle.cp_legend_laws.specs.Statements.{LegendLaw, PathsAre, PathsLaw}
use Rattle.cp_legend_laws.proofs.KnownConstants.{KnownType, KnownVariables}
use Rattle.cp_legend_laws.proofs.LinedUp.{count, below, same_types, lined_up}
use Rattle.cp_legend_laws.proofs.NamedParts.{among, Match}
use Rattle.cp_legend_laws.proofs.NamedPaths.{parts_from, parts_entries, IsNamed, all_called_same}
use Rattle.cp_legend_laws.proofs.NamedSystems.{home_entries, Told, told_program, told_of, told_own}
use Rattle.cp_legend_laws.proofs.PartSystems.{IsHome, type_home, program_home}
use Rattle.cp_legend_laws.proofs.TypesOfTree.{IsSound, sound_types}

pub visible_types : (p : Program) (n : ℕ) (vs : List Variable) → Each (IsVisible (system_of p n)) vs → Each (λ (v : Variable). type_in_system p n v.name ≡ v.ty) vs
visible_types p n [] h = tt
visible_types p n (v ∷ vs) h = (ap variable_type h.0, visible_types p n vs h.1)

module _ (t : Tree) (y : code_symbols.Symbols) (is : AreSymbolsOf y (whole t)) (plain : IsPlain t.program) (own : AreOwn t.program) (read : IsRead t.program) where
  abbrev p : Program
  p = t.program

  abbrev k : Numbering
  k = numbering_of t.program

  abbrev end : Layer
  end = whole t

  abbrev source : Source
  source = source_seen y

  told : Told k end (declared p)
  told = told_program k t.lines p plain.small plain.fit plain.numbered (opened_all p)

  -- the enumerations that index their arrays
  known : (n : ℕ) → KnownVariables source.constants k.firsts (system_of p n).variables
  known n = each_weaker (λ (v : Variable). IsSound source.constants k.firsts v.ty) (λ (v : Variable). KnownType source.constants k.firsts v.ty) (λ v h. h.0) (system_of p n).variables ((sound_types t y is plain read).systems n).variables

  many : length source.systems ≡ program_system p
  many = count t y is ∙ count_same t plain

  -- the home of a number
  abbrev home_at : ℕ → Option ℕ
  home_at n = if n == program_system p then None else Some n

  record IsPart (n : ℕ) (o : Option ℕ) : Type 0 where
    parts : parts_of source n ≡ parts_from source (home_entries source.types o source.declared)
    match : Match k source.types (among (system_of p n).variables) (home_entries source.types o source.declared)

  matched : (n : ℕ) (o : Option ℕ) → Match k (end.types ++ []) (among (system_of p n).variables) (home_entries (end.types ++ []) o end.noted) → Match k source.types (among (system_of p n).variables) (home_entries source.types o source.declared)
  matched n o h =
      subst (λ ts. Match k ts (among (system_of p n).variables) (home_entries ts o source.declared)) (sym (same_types t y is))
      (subst (λ ds. Match k (end.types ++ []) (among (system_of p n).variables) (home_entries (end.types ++ []) o ds)) (sym is.declared) h)

  part_at : (n : ℕ) → n ≤ program_system p → IsPart n (home_at n)
  part_at n le = go (n == program_system p) refl
    where
      go : (b : Bool) → (n == program_system p) ≡ b → IsPart n (if b then None else Some n)
      go true e =
          let same : n ≡ program_system p = eqb-true n (program_system p) e in
          let at : n ≡ length source.systems = same ∙ sym many in
          record {
            parts = parts_entries source n None (subst (λ j. IsHome source j None) (sym at) (program_home source)) (below t y is);
            match = matched n None (subst (λ j. Match k (end.types ++ []) (among (system_of p j).variables) (home_entries (end.types ++ []) None end.noted)) (sym same) (told_own k end p told []));
          }
      go false e =
          let other = eqb-false n (program_system p) e in
          let less : n < program_system p = omega (arith, le, other) in
          record { parts = parts_entries source n (Some n) (type_home source n (omega (arith, less, many))) (below t y is); match = matched n (Some n) (told_of k end p told [] n less) }

  pub named : IsNamed p source k
  named =
      record {
        count = many;
        entries = λ n. home_entries source.types (home_at n) source.declared;
        parts = λ n le. (part_at n le).parts;
        match = λ n le. (part_at n le).match;
        types = λ n. visible_types p n (system_of p n).variables (each_right (IsVisible (system_of p n)) (parameter_variables (system_of p n).parameters) (system_of p n).variables (own.visible n));
        low = low t plain;
        known = known;
        standing = λ n. each_right IsStandingVariable (parameter_variables (system_of p n).parameters) (system_of p n).variables (own.standing n);
      }

  pub paths_are : PathsAre t y
  paths_are = record { paths = (lined_up t y is).declared ∙ all_called_same p source k named }

pub paths_law : PathsLaw
paths_law t y read accepted is = paths_are t y is (plain_law t read accepted) (accepted_own t read accepted) read

pub legend_law : LegendLaw
legend_law t y r l read accepted is tables named =
    let all : r.components ≡ (laid t).components = ap (λ (q : PlainTables). q.components) tables in
    let here : map component_seen l.components.items ≡ components_of (source_seen y) (laid t).components = named.components ∙ ap (components_of (source_seen y)) all in
    record {
      tables = ap (map tabled) here ∙ (lined_up t y is).tables ∙ sym all;
      paths = ap (map called_in_legend) here ∙ (paths_law t y read accepted is).paths;
    }
