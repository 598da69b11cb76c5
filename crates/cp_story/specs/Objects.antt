-- Objects of JSON by their members, in the order in which these are put; and their text.
use Rattle.std.specs.Prelude.{ℕ, ℤ, Bool, true, if◌then◌else◌, List, [], ◌∷◌, ◌++◌, map, Option, Some, None}
use Rattle.serde_json.specs.Data.{Data, Members, no_members, put, boolean, number, string, array, object, unsigned}
use Rattle.serde_json.specs.Find.{of_integer}
use Rattle.serde_json.specs.View.{items_of, members_view}
use Rattle.serde_json.specs.Written.{compact_text}
use Rattle.cp_story.specs.declared.objects.Object.{Object}

-- ---- values

abbrev pub text_data : List ℕ → Data
text_data = string

abbrev pub number_data : ℕ → Data
number_data n = number (unsigned n)

abbrev pub integer_data : ℤ → Data
integer_data z = number (of_integer z)

abbrev pub array_of : List Data → Data
array_of ds = array (items_of ds)

abbrev pub numbers_data : List ℕ → Data
numbers_data ns = array_of (map number_data ns)

-- ---- objects

-- a name and a value
abbrev pub Member : Type 0
Member = List ℕ × Data

-- members with another one, which takes the place of one that has its name
unfoldable pub with_member : Members → (name : List ℕ) → Data → Members
with_member ms name d = put name d ms

-- members with others, put one after the other
abbrev pub with_members : Members → List Member → Members
with_members ms [] = ms
with_members ms (m ∷ more) = with_members (with_member ms m.0 m.1) more

-- the object of these members; where two have one name, of the later one
abbrev pub object_with : List Member → Data
object_with ms = object (with_members no_members ms)

-- a member that is left out where there is no value
abbrev pub optional : {A : Type 0} → (name : List ℕ) → (A → Data) → Option A → List Member
optional name f None = []
optional name f (Some x) = (name, f x) ∷ []

-- a member that is `true`, or left out
abbrev pub flag : (name : List ℕ) → Bool → List Member
flag name b = if b then (name, boolean true) ∷ [] else []

-- the members that were put into an object so far
unfoldable pub members_in : Object → Members
members_in o = members_view o.members.entries

-- ---- text

-- on a line of its own
abbrev pub line_of : Data → List ℕ
line_of d = compact_text d ++ 10 ∷ []
