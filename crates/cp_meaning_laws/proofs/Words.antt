-- The names that many proofs of this crate use, from one place.
pub use Rattle.std.proofs.Common.{[], ◌≡◌}
pub use Rattle.std.specs.Str.{bytes_eq}
pub use Rattle.cp_tree.specs.Syntax.{Program, Tree}
pub use Rattle.cp_tree.specs.declared.constant.Identifier.{Identifier}
pub use Rattle.cp_tree.specs.declared.declaration.SystemKind.{SystemKind}
pub use Rattle.cp_meaning.specs.Declarations.{Variable}
pub use Rattle.cp_meaning.specs.Names.{Name, same_name}
pub use Rattle.cp_meaning.specs.Types.{Ty}
pub use Rattle.cp_scope.specs.Judged.{Judged, both, faults, ◌>>=◌}
pub use Rattle.cp_scope.specs.declared.count.Use.{Use}
pub use Rattle.cp_scope.specs.declared.fault.CheckFault.{CheckFault}
pub use Rattle.cp_scope.specs.declared.fault.Rule.TheVariants.{C2}
pub use Rattle.cp_scope.specs.declared.shape.ArrayShape.{ArrayShape}
pub use Rattle.cp_scope.specs.declared.types.Meaning.{Meaning}
pub use Rattle.cp_scope.specs.declared.types.ValueType.{ValueType}
pub use Rattle.cp_check.specs.Faults.{faults_of}
pub use Rattle.cp_check.specs.Headings.{after_faults}
pub use Rattle.cp_check.specs.Statements.{statements}
pub use Rattle.cp_check.specs.Types.{Step, nothing}
unfoldable pub use Rattle.cp_check.specs.Types.{typed}
pub use Rattle.cp_check.specs.declared.constant.ConstantNumber.{ConstantNumber}
pub use Rattle.cp_check.specs.declared.types.Spot.{Spot}
