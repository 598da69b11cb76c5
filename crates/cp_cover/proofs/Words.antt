-- The names that many proofs of this crate use, from one place.
pub use Rattle.std.proofs.Common.{List, [], refl, subst, sym, true, ℕ, ◌≡◌}
pub use Rattle.std.specs.Prelude.{Contains}
pub use Rattle.cp_run.specs.Slots.{slots}
pub use Rattle.cp_run.specs.System.{System}
pub use Rattle.cp_run.specs.declared.outcome.Turn.TheVariants.{Due, Goes, Over}
pub use Rattle.cp_layers.specs.Adding.{Adds}
unfoldable pub use Rattle.cp_cover.specs.Reached.{chosen_marks, opened_marks}
pub use Rattle.cp_cover.specs.declared.mark.CoverMark.{CoverMark}
