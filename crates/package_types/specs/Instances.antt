-- What an instance type says of an interface. Component model, binary format: `instancetype`, `instancedecl`.
--
-- Its scope is its own. It begins empty, and each declaration that defines, aliases or exports a type adds an entry. An
-- exported type is from then on its name.
use Rattle.std.specs.Prelude.{◌≡◌, ℕ, suc, ◌==◌, List, [], ◌∷◌, ◌++◌, slice_get, Bool, Option, Some, None, is_some, Result, Ok, Err, if◌then◌else◌}
use Rattle.std.specs.Map.{lookup}
use Rattle.std.specs.Str.{bytes_eq}
use Rattle.comp_lists.specs.Tables.{with_first}
use Rattle.comp_bytes.specs.declared.types.Alias.{Alias}
use Rattle.comp_bytes.specs.declared.types.Alias.TheVariants as aliases
use Rattle.comp_bytes.specs.declared.types.ExternName.{ExternName}
use Rattle.comp_bytes.specs.declared.types.Description.{Description}
use Rattle.comp_bytes.specs.declared.types.Description.TheVariants as descriptions
use Rattle.comp_bytes.specs.declared.types.TypeDef.{TypeDef}
use Rattle.comp_bytes.specs.declared.types.Member.{Member}
use Rattle.comp_bytes.specs.declared.types.Member.TheVariants as members
use Rattle.record_values.specs.declared.names.InterfaceName.{InterfaceName}
use Rattle.record_values.specs.declared.names.Owner.TheVariants as owners
use Rattle.record_values.specs.declared.names.TypeName.{TypeName}
use Rattle.record_values.specs.declared.types.Func.{Func}
use Rattle.package_types.specs.declared.fault.Cause.{Cause}
use Rattle.package_types.specs.declared.fault.Cause.TheVariants as causes
use Rattle.package_types.specs.declared.scopes.Content.{Content}
use Rattle.package_types.specs.declared.scopes.Entry.{Entry}
use Rattle.package_types.specs.declared.scopes.Entry.TheVariants as entries
use Rattle.package_types.specs.declared.named.Meaning.{Meaning}
use Rattle.package_types.specs.declared.instances.Inside.{Inside}
use Rattle.package_types.specs.declared.instances.MemberFault.{MemberFault}
use Rattle.package_types.specs.declared.instances.MemberFault.TheVariants as member_faults
use Rattle.package_types.specs.Types.{Checked, ◌>>>◌}
use Rattle.package_types.specs.Functions.{entry_of, function_by}
use Rattle.package_types.specs.Named.{meaning_by, resource, plain_name}

-- the entry that an alias of an outer entry adds: it is what the other is; a type of functions or
-- of instances has no alias
abbrev pub alias_entry : Option Entry → Checked Entry
alias_entry None = Err causes.Index
alias_entry (Some (entries.Name name facts)) = Ok (entries.Name name facts)
alias_entry (Some (entries.Type ns size)) = Ok (entries.Type ns size)
alias_entry (Some e) = Err causes.Alias

-- an alias of a type of the scope one further out, which is the world's
abbrev pub outer_entry : List Entry → Alias → Checked Entry
outer_entry outer (aliases.Outer count index) = if count == 1 then alias_entry (slice_get outer index) else Err causes.Alias
outer_entry outer (aliases.Export kind instance name) = Err causes.Alias
outer_entry outer (aliases.CoreExport kind instance name) = Err causes.Alias

abbrev pub type_name : InterfaceName → List ℕ → TypeName
type_name owner name = record { owner = owners.Interface owner; name = name }

abbrev pub is_in : {V : Type 0} → List ℕ → List (List ℕ × V) → Bool
is_in name table = is_some (lookup (bytes_eq name) table)

abbrev pub with_entry : Inside → Entry → Inside
with_entry i e = record { scope = i.scope ++ e ∷ []; types = i.types; known = i.known; functions = i.functions; seen = i.seen }

-- with a type of this name; from now on, the next index means the name
abbrev pub with_type : InterfaceName → Inside → List ℕ → Meaning → Inside
with_type owner i name m = record {
  scope = i.scope ++ entries.Name (type_name owner name) m.facts ∷ [];
  types = i.types ++ record { name = name; nodes = m.nodes } ∷ [];
  known = with_first bytes_eq i.known name m.facts;
  functions = i.functions;
  seen = i.seen;
}

abbrev pub with_function : Inside → Func → Inside
with_function i f = record { scope = i.scope; types = i.types; known = i.known; functions = i.functions ++ f ∷ []; seen = with_first bytes_eq i.seen f.name tt }

-- a name in one part that this table lacks
abbrev pub new_name : {V : Type 0} → List (List ℕ × V) → ExternName → Checked (List ℕ)
new_name table n = plain_name n >>> λ name. if is_in name table then Err causes.NameTwice else Ok name

unfoldable pub type_step : InterfaceName → Inside → ExternName → ℕ → Checked Inside
type_step owner i n index =
    new_name i.known n >>> λ name.
    meaning_by (slice_get i.scope index) >>> λ m.
    Ok (with_type owner i name m)

unfoldable pub resource_step : InterfaceName → Inside → ExternName → Checked Inside
resource_step owner i n = new_name i.known n >>> λ name. Ok (with_type owner i name resource)

unfoldable pub function_step : Inside → ExternName → ℕ → Checked Inside
function_step i n index =
    new_name i.seen n >>> λ name.
    function_by name (slice_get i.scope index) >>> λ f.
    Ok (with_function i f)

abbrev pub export_step : InterfaceName → Inside → ExternName → Description → Checked Inside
export_step owner i n (descriptions.TypeEqual index) = type_step owner i n index
export_step owner i n descriptions.SubResource = resource_step owner i n
export_step owner i n (descriptions.Func index) = function_step i n index
export_step owner i n (descriptions.Instance index) = Err causes.NestedInstance

abbrev pub definition_step : Inside → TypeDef → Checked Inside
definition_step i t = entry_of i.scope t >>> λ e. Ok (with_entry i e)

abbrev pub alias_step : List Entry → Inside → Alias → Checked Inside
alias_step outer i a = outer_entry outer a >>> λ e. Ok (with_entry i e)

-- what is known after a declaration
abbrev pub member_step : List Entry → InterfaceName → Inside → Member → Checked Inside
member_step outer owner i (members.Type t) = definition_step i t
member_step outer owner i (members.Alias a) = alias_step outer i a
member_step outer owner i (members.Export n d) = export_step owner i n d

-- a result, or the position of the declaration that has no meaning, and the cause
abbrev pub Positioned : Type 0 → Type 0
Positioned A = Result A (ℕ × Cause)

abbrev pub at_position : {A : Type 0} → ℕ → Checked A → Positioned A
at_position n (Ok x) = Ok x
at_position n (Err c) = Err (n, c)

infixl 10 ◌>=>◌
abbrev pub ◌>=>◌ : {A B : Type 0} → Positioned A → (A → Positioned B) → Positioned B
(Ok x) >=> f = f x
(Err e) >=> f = Err e

-- declarations after these; the first of them is at this position
abbrev pub members_from : List Entry → InterfaceName → ℕ → List Member → Inside → Positioned Inside
members_from outer owner n [] i = Ok i
members_from outer owner n (m ∷ ms) i = at_position n (member_step outer owner i m) >=> λ j. members_from outer owner (suc n) ms j

abbrev pub empty : Inside
empty = record { scope = []; types = []; known = []; functions = []; seen = [] }

abbrev pub content : Inside → Content
content i = record { interface = record { types = i.types; functions = i.functions }; known = i.known }

-- the content of an instance type, whose own types have this owner
unfoldable pub content_of : List Entry → InterfaceName → List Member → Positioned Content
content_of outer owner ms = members_from outer owner 0 ms empty >=> λ i. Ok (content i)

-- The result of a function, as a view, is that of the definition, unless it is out of memory.
abbrev pub FailsIn : {Y : Type 0} → MemberFault → Positioned Y → Type 0
FailsIn member_faults.Memory read = Unit {0}
FailsIn (member_faults.Refused member cause) read = read ≡ Err (member, cause)

abbrev pub GivesIn : {X Y : Type 0} → (X → Y) → Result X MemberFault → Positioned Y → Type 0
GivesIn view (Ok x) read = read ≡ Ok (view x)
GivesIn view (Err e) read = FailsIn e read
