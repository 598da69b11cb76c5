-- The names that many proofs of this crate use, from one place.
pub use Rattle.std.proofs.Common.{[], arith, drop, length, map, ◌∙◌, ◌≡◌, ◌≤◌}
pub use Rattle.std.proofs.Math.Seq.{drop-cons, take-suc}
pub use Rattle.std.proofs.lemmas.List.{drop_all, map-append, take_all}
pub use Rattle.cp_slots.specs.Code.{arm_seen}
pub use Rattle.cp_tree.specs.View.{group_view, part_view, statements_of, statements_view, variable_group_view}
pub use Rattle.cp_layout.specs.Kinds.{types_seen}
pub use Rattle.cp_layout.specs.Layers.{Layer, layer_seen, system_seen}
pub use Rattle.cp_layout.specs.Values.{designated_seen, value_seen}
