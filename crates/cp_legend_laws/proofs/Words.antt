-- The names that many proofs of this crate use, from one place.
pub use Rattle.std.proofs.lemmas.Bool.{eq-eqb, eqb-false, eqb-true}
pub use Rattle.std.proofs.lemmas.List.{length-map, map-append}
pub use Rattle.std.proofs.lemmas.Option.{none-some, slice_get_within}
pub use Rattle.std.specs.Prelude.{flat_map, ◌-◌}
pub use Rattle.cp_tree.specs.Syntax.{Program, Tree}
pub use Rattle.cp_tree.specs.declared.constant.Identifier.{Identifier}
pub use Rattle.cp_meaning.specs.Declarations.{Block, Variable, named_variables, names_of}
pub use Rattle.cp_meaning.specs.Names.{Name}
pub use Rattle.cp_slots.specs.declared.tables.Component.{Component}
pub use Rattle.cp_symbols.specs.Kinds.{Compound, Compounds, array}
pub use Rattle.cp_symbols.specs.Symbols.{Noted}
pub use Rattle.cp_symbols.specs.declared.kinds.CellType.{CellType}
pub use Rattle.cp_symbols.specs.declared.names.LayoutMeaning.{LayoutMeaning}
pub use Rattle.cp_layout.specs.LaidDeclarations.{array_components, components_in, components_of}
pub use Rattle.cp_layout.specs.Layers.{Layer, Owned, System, nothing_laid, own_system}
pub use Rattle.cp_layout.specs.declared.layer.Contained.{Contained}
pub use Rattle.cp_resolved.proofs.names.Entries.{last_or_before, still_there}
pub use Rattle.cp_resolved.specs.InStep.{Numbering, TypeIs, range_on}
pub use Rattle.cp_resolved.specs.Small.{AreNumbered, Each}
pub use Rattle.cp_resolved.specs.Standing.{IsStandingVariable, is_bounded}
pub use Rattle.cp_resolved.specs.Tokens.{HasFew}
