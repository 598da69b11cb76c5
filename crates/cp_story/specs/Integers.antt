-- Whether a number can only be an integer, and no value of an enumeration, a character or a truth value: by the types of all variables, parameters, elements,
-- indices and fields of a program.
use Rattle.std.specs.Prelude.{ℤ, int_le, ◌&&◌, ◌||◌, not, Bool, true, false, List}
use Rattle.std.specs.List.{list_any}
use Rattle.std.specs.Ordering.{int_eq}
use Rattle.cp_symbols.specs.declared.kinds.CellBase.{CellBase}
use Rattle.cp_symbols.specs.declared.kinds.CellBase.TheVariants as base
use Rattle.cp_symbols.specs.declared.kinds.CellRange.{CellRange}
use Rattle.cp_symbols.specs.declared.kinds.CellType.{CellType}
use Rattle.cp_symbols.specs.declared.kinds.CellType.TheVariants as types
use Rattle.cp_symbols.specs.Kinds.{Compound, Field, array, record_with, whole}
use Rattle.cp_legend.specs.declared.legend.LegendParameter.{LegendParameter}
use Rattle.cp_legend.specs.Names.{Legend, RoutineNames, Variable}
use Rattle.cp_story.specs.declared.integers.Known.{Known}
use Rattle.cp_story.specs.declared.integers.Known.TheVariants as known

abbrev pub is_of_integers : CellBase → Bool
is_of_integers base.Integer = true
is_of_integers _ = false

abbrev pub is_whole : CellRange → Bool
is_whole r = int_eq r.low (whole r.base).low && int_eq r.high (whole r.base).high

abbrev pub has_bounds : (low high : ℤ) → CellRange → Bool
has_bounds low high r = int_eq r.low low && int_eq r.high high

abbrev pub allows : Known → CellRange → Bool
allows (known.Bounds low high) r = has_bounds low high r && not (is_whole r)
allows (known.Value z) r = int_le r.low z && int_le z r.high

-- whether a type that is not of integers allows it; a value is never outside a type that has all values of its base
abbrev pub may_be_in : Known → CellRange → Bool
may_be_in k r = not (is_of_integers r.base) && allows k r

abbrev pub may_be_of : Known → CellType → Bool
may_be_of k (types.Ordinal r) = may_be_in k r
may_be_of k (types.Set r) = may_be_in k r
may_be_of k _ = false

abbrev pub among_variables : Known → List Variable → Bool
among_variables k vs = list_any (λ (v : Variable). may_be_of k v.shape) vs

abbrev pub among_parameters : Known → List LegendParameter → Bool
among_parameters k ps = list_any (λ (p : LegendParameter). may_be_of k p.shape) ps

abbrev pub among_fields : Known → List Field → Bool
among_fields k fs = list_any (λ (f : Field). may_be_of k f.value_type) fs

abbrev pub in_routine : Known → RoutineNames → Bool
in_routine k r = among_variables k r.variables || among_parameters k r.parameters

abbrev pub in_compound : Known → Compound → Bool
in_compound k (array a) = may_be_in k a.index || may_be_of k a.element
in_compound k (record_with fs cells) = among_fields k fs

unfoldable pub is_integer : Legend → Known → Bool
is_integer l k = not (list_any (among_variables k) l.permanents || (list_any (in_routine k) l.routines || list_any (in_compound k) l.shapes))
