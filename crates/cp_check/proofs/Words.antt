-- The names that many proofs of this crate use, from one place.
pub use Rattle.std.proofs.Common.{Err, List, Ok, Some, [], add-one, arith, drop, false, get_or, length, map, refl, rules, ℕ, ◌++◌, ◌+◌, ◌<◌, ◌∷◌, ◌≡◌, ◌≤◌}
pub use Rattle.std.proofs.Math.Seq.{drop-cons}
pub use Rattle.std.proofs.lemmas.List.{append-nil, drop_all}
pub use Rattle.cp_tree.specs.View.{arms_of, arms_view, expression_view, factor_view, factors_of, factors_view, group_view, start_view, statement_view, statements_of}
pub use Rattle.cp_tree.specs.View.{statements_view, sum_view, term_view, terms_of, terms_view}
pub use Rattle.cp_tree.specs.declared.constant.Identifier.{Identifier}
pub use Rattle.cp_tree.specs.declared.expression.Addition.{Addition}
pub use Rattle.cp_tree.specs.declared.expression.Multiplication.{Multiplication}
pub use Rattle.cp_scope.specs.Counts.{both_uses, no_use}
pub use Rattle.cp_scope.specs.Judged.{Judged, Refuses, RefusesList, both, ◌>>=◌}
pub use Rattle.cp_scope.specs.Scopes.{Scopes}
pub use Rattle.cp_scope.specs.View.{scope_of, scopes_of}
pub use Rattle.cp_scope.specs.declared.count.Use.{Use}
pub use Rattle.cp_scope.specs.declared.fault.CheckFault.{CheckFault}
pub use Rattle.cp_scope.specs.declared.fault.CheckFault.TheVariants.{Memory, Rule}
pub use Rattle.cp_scope.specs.declared.types.Base.{Base}
pub use Rattle.cp_check.specs.Types.{nothing, then_step}
pub use Rattle.cp_check.specs.declared.case.Label.{Label}
pub use Rattle.cp_check.specs.declared.operand.Context.{Context}
pub use Rattle.cp_check.specs.declared.operand.Operand.{Operand}
