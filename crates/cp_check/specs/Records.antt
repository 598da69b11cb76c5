-- The rules of the fields of records, which have a scope of their own.
use Rattle.std.specs.Prelude.{if◌then◌else◌, List, [], ◌∷◌, ◌++◌, Option, Ok, Err}
use Rattle.cp_tree.specs.declared.constant.Identifier.{Identifier}
use Rattle.cp_scope.specs.declared.fault.CheckFault.{CheckFault}
use Rattle.cp_scope.specs.declared.fault.CheckFault.TheVariants as check_fault
use Rattle.cp_scope.specs.declared.fault.Rule.TheVariants.{C2}
use Rattle.cp_scope.specs.declared.types.Meaning.{Meaning}
use Rattle.cp_scope.specs.Scopes.{Scope, Scopes, is_declared_in, with_name, with_pending, without_pending}
use Rattle.cp_scope.specs.Judged.{Judged}

-- ---- names of fields

-- What names leave that are being declared: the faults in them, and the fields with them.
pub record Reserved : Type 0 where
  pub faults : List CheckFault
  pub fields : Scope

abbrev pub then_reserve : Reserved → (Scope → Reserved) → Reserved
then_reserve a f = record { faults = a.faults ++ (f a.fields).faults; fields = (f a.fields).fields }

unfoldable pub reserve_field : Scope → Identifier → Reserved
reserve_field f n =
    if is_declared_in f n.name
    then record { faults = check_fault.Rule n.at C2 ∷ []; fields = f }
    else record { faults = []; fields = with_pending f n.name }

-- the names are being declared
unfoldable pub reserve_fields : Scope → List Identifier → Reserved
reserve_fields f [] = record { faults = []; fields = f }
reserve_fields f (n ∷ ns) = then_reserve (reserve_field f n) (λ after. reserve_fields after ns)

unfoldable pub with_fields : Scope → List Identifier → Option Meaning → Scope
with_fields f [] m = f
with_fields f (n ∷ ns) m = with_fields (with_name f n.name m) ns m

-- the names are declared
unfoldable pub add_fields : Scope → List Identifier → Option Meaning → Scope
add_fields f ns m = without_pending (with_fields f ns m)

-- ---- fields

-- What fields leave: the faults in them, their scope, and what is visible after them.
pub record Fields : Type 0 where
  pub faults : List CheckFault
  pub fields : Scope
  pub scopes : Scopes

abbrev pub sound_fields : Scope → Scopes → Fields
sound_fields f s = record { faults = []; fields = f; scopes = s }

-- the second fields begin where the first end
abbrev pub then_fields : Fields → (Scope → Scopes → Fields) → Fields
then_fields a f = record { faults = a.faults ++ (f a.fields a.scopes).faults; fields = (f a.fields a.scopes).fields; scopes = (f a.fields a.scopes).scopes }

abbrev pub check_fields_of : List CheckFault → Scope → Judged Scope
check_fields_of [] f = Ok f
check_fields_of (e ∷ es) f = Err (e ∷ es)

-- the fields, where none has a fault
abbrev pub check_fields : Fields → Judged Scope
check_fields f = check_fields_of f.faults f.fields
