-- The components of the legend of a tree line up with those of its tables.
use Rattle.std.proofs.Common.{◌≡◌, ℕ, ◌<◌, List, [], length, Some, None, ◌++◌, slice_get, sym, ap, subst, ◌∙◌, append-nil, arith}
use Rattle.cp_legend_laws.proofs.Words.{◌-◌, length-map, slice_get_within, Tree, Component, Layer, System}
use Rattle.cp_symbols.specs.declared.symbols.SystemSymbol.{SystemSymbol}
use Rattle.cp_symbols.specs.declared.symbols.Symbols as code_symbols
use Rattle.cp_layout.specs.Laid.{laid, whole, tables_laid}
use Rattle.cp_layout.specs.Symbols.{AreSymbolsOf, symbol_of_system}
use Rattle.cp_legend.specs.Names.{Source, source_seen, parts_of}
use Rattle.cp_legend_laws.specs.Statements.{ComponentsLineUp, ComponentsLaw}
use Rattle.cp_legend_laws.proofs.Lined.{AreBelow, Lined, lined_program, home_contents}
use Rattle.cp_legend_laws.proofs.PartSystems.{spread, systems_of, parts_systems, type_home, program_home}
use Rattle.cp_legend_laws.proofs.Walking.{program_goes}

module _ (t : Tree) (y : code_symbols.Symbols) (is : AreSymbolsOf y (whole t)) where
  abbrev pub end : Layer
  end = whole t

  abbrev pub source : Source
  source = source_seen y

  lined : Lined end
  lined = lined_program t.lines t.program

  pub count : length source.systems ≡ length end.systems
  count = ap (λ (xs : List SystemSymbol). length xs) is.systems ∙ length-map end.systems symbol_of_system

  pub below : AreBelow (length source.systems) source.declared
  below = subst (λ n. AreBelow n source.declared) (sym count) (subst (AreBelow (length end.systems)) (sym is.declared) lined.below)

  pub same_types : source.types ≡ end.types ++ []
  same_types = is.types ∙ sym (append-nil end.types)

  types_line_up : (n : ℕ) (s : System) → slice_get end.systems n ≡ Some s → systems_of (parts_of source n) ≡ spread s.owned.contained
  types_line_up n s e =
      let lt : n < length end.systems = slice_get_within end.systems n s e in
      parts_systems source n (Some n) (type_home source n (omega (arith, lt, count))) below
      ∙ ap (λ ts. spread (home_contents ts (Some n) source.declared)) same_types
      ∙ ap (λ ds. spread (home_contents (end.types ++ []) (Some n) ds)) is.declared
      ∙ ap spread (lined.systems [] n s e)

  program_lines_up : systems_of (parts_of source (length end.systems)) ≡ spread end.owned.contained
  program_lines_up =
      ap (λ n. systems_of (parts_of source n)) (sym count)
      ∙ parts_systems source (length source.systems) None (program_home source) below
      ∙ ap (λ ts. spread (home_contents ts None source.declared)) same_types
      ∙ ap (λ ds. spread (home_contents (end.types ++ []) None ds)) is.declared
      ∙ ap spread (lined.own [])

  pub lined_up : ComponentsLineUp t y
  unfolding laid tables_laid
  lined_up =
      let all : List Component = (laid t).components in
      let w = program_goes all source end.types end.systems count types_line_up end.owned (length end.routines - 1) program_lines_up ([], sym (append-nil all)) in
      record { tables = w.tables; declared = w.declared }

pub components_line_up : ComponentsLaw
components_line_up t y is = lined_up t y is
