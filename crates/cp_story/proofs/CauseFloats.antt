-- What is told of a run error's cause has no floats.
use Rattle.std.proofs.Common.{◌≡◌, ◌==◌, ℕ, Bool, true, false, List, [], ◌∷◌, Option, Some, None, length, refl, codes}
use Rattle.std.specs.List.{list_any}
use Rattle.std.specs.Prelude.{ℤ, pos, negsuc, if◌then◌else◌}
use Rattle.serde_json.specs.Written.{has_float}
use Rattle.cp_legend.specs.Names.{Legend}
use Rattle.cp_story.proofs.Floats.{both, is_float_member, no_float-object}
use Rattle.cp_story.specs.CauseText as spec
use Rattle.cp_story.specs.Objects.{integer_data, text_data}
use Rattle.cp_story.specs.declared.cause.Cause.{Cause}
use Rattle.cp_story.specs.declared.cause.Cause.TheVariants as cause

integer_free : (z : ℤ) → has_float (integer_data z) ≡ false
integer_free (pos n) = refl
integer_free (negsuc n) = refl

part_free : (l : Legend) (c : Cause) → list_any is_float_member (spec.part_members l c) ≡ false
part_free l (cause.Operation o x y) = both refl (both (integer_free x) (both (integer_free y) refl))
part_free l (cause.Sign z) = both refl (both (integer_free z) refl)
part_free l (cause.Absolute z) = both refl (both (integer_free z) refl)
part_free l cause.Last = refl
part_free l cause.First = refl
part_free l (cause.Outside z low high) = both (integer_free z) (both (integer_free low) (both (integer_free high) refl))
part_free l (cause.NoLabel z) = both (integer_free z) refl
part_free l (cause.InUse process cell) = refl
part_free l (cause.NotInitialised n) = refl
part_free l (cause.InitialisedTwice n) = refl
part_free l cause.Untold = refl

data_free : (l : Legend) (text : List ℕ) (c : Cause) → has_float (spec.cause_data l text c) ≡ false
data_free l text c = no_float-object ((codes "text", text_data text) ∷ spec.part_members l c) (both refl (part_free l c))

pub cause_free : (l : Legend) (c : Option Cause) → list_any is_float_member (spec.error_cause_members l c) ≡ false
cause_free l None = refl
cause_free l (Some c) = by (length (spec.cause_text l c) == 0)
  where
    by : (b : Bool) → list_any is_float_member (if b then [] else (codes "cause", spec.cause_data l (spec.cause_text l c) c) ∷ []) ≡ false
    by true = refl
    by false = both (data_free l (spec.cause_text l c) c) refl
