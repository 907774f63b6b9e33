-- Handles of a resource, as the types of parameters and results. (Component model, explainer: a method has the parameter `self`,
-- a borrowed handle, in front; a constructor gives an owned one, or a result with one.)
use Rattle.std.specs.Prelude.{ℕ, ◌+◌, ◌-◌, ◌==◌, nat_lt, Bool, true, false, ◌&&◌, List, [], ◌∷◌, length, take, slice_get, codes, Option, Some, None, if◌then◌else◌}
use Rattle.std.specs.Map.{lookup}
use Rattle.std.specs.Str.{bytes_eq}
use Rattle.record_values.specs.declared.names.TypeName.{TypeName}
use Rattle.record_values.specs.declared.types.Case.{Case}
use Rattle.record_values.specs.declared.types.Node.{Node}
use Rattle.record_values.specs.declared.types.Node.TheVariants as nodes
use Rattle.record_values.specs.declared.types.Typed.{Typed}
use Rattle.record_values.specs.Names.{is_same_type}
use Rattle.world_names.specs.Scopes.{is_itself}
use Rattle.world_names.specs.WorldNames.{Resources}

-- ---- whole types in a list of nodes

abbrev pub count : Bool → ℕ
count b = if b then 1 else 0

abbrev pub typed_count : List Case → ℕ
typed_count [] = 0
typed_count (c ∷ cs) = count c.has_type + typed_count cs

-- how many parts a node has, which stand before it
abbrev pub arity : Node → ℕ
arity (nodes.Primitive p) = 0
arity nodes.«List» = 1
arity nodes.«Option» = 1
arity (nodes.«Result» has_ok has_err) = count has_ok + count has_err
arity (nodes.Tuple n) = n
arity (nodes.Record names) = length names
arity (nodes.Variant cs) = typed_count cs
arity (nodes.Enum names) = 0
arity (nodes.Flags names) = 0
arity (nodes.Own t) = 0
arity (nodes.Borrow t) = 0
arity (nodes.Stream has_item) = count has_item
arity (nodes.Future has_item) = count has_item
arity (nodes.Named t) = 0
arity nodes.Resource = 0

-- the nodes make so many types, of which some are made before: each takes its parts from those, and is one more
abbrev pub make_types : ℕ → ℕ → List Node → Bool
make_types wanted made [] = made == wanted
make_types wanted made (n ∷ ns) = if nat_lt made (arity n) then false else make_types wanted (made - arity n + 1) ns

-- ---- handles

-- two names of one resource, by the resource that each is
abbrev pub same_resource : Option TypeName → Option TypeName → Bool
same_resource None second = false
same_resource (Some resource) second = is_itself resource second

abbrev pub is_of : Resources → TypeName → TypeName → Bool
is_of resources wanted named = same_resource (lookup (is_same_type wanted) resources) (lookup (is_same_type named) resources)

abbrev pub owns : Resources → TypeName → Node → Bool
owns resources wanted (nodes.Own t) = is_of resources wanted t
owns resources wanted node = false

abbrev pub is_borrow : Resources → TypeName → Node → Bool
is_borrow resources wanted (nodes.Borrow t) = is_of resources wanted t
is_borrow resources wanted node = false

abbrev pub borrow_alone : Resources → TypeName → List Node → Bool
borrow_alone resources wanted (node ∷ []) = is_borrow resources wanted node
borrow_alone resources wanted ns = false

-- ---- results of constructors

-- how many types are behind the first part of a result that has one for success
abbrev pub result_types : Node → Option ℕ
result_types (nodes.«Result» has_ok has_err) = if has_ok then Some (count has_err) else None
result_types node = None

abbrev pub are_types : Option ℕ → List Node → Bool
are_types None ns = false
are_types (Some wanted) ns = make_types wanted 0 ns

abbrev pub ends_by : Option Node → List Node → Bool
ends_by None front = true
ends_by (Some last) front = are_types (result_types last) front

-- nothing is behind a handle, or what makes it the success of a result
abbrev pub ends_result : List Node → Bool
ends_result ns = ends_by (slice_get ns (length ns - 1)) (take (length ns - 1) ns)

abbrev pub makes_own : Resources → TypeName → List Node → Bool
makes_own resources wanted [] = false
makes_own resources wanted (n ∷ ns) = owns resources wanted n && ends_result ns

-- an owned handle of the resource, or a result with one
abbrev pub gives_own : Resources → TypeName → Option (List Node) → Bool
gives_own resources wanted None = false
gives_own resources wanted (Some ns) = makes_own resources wanted ns

-- ---- first parameters of methods

abbrev pub is_self : Resources → TypeName → Typed → Bool
is_self resources wanted p = bytes_eq p.name (codes "self") && borrow_alone resources wanted p.nodes

abbrev pub takes_self : Resources → TypeName → List Typed → Bool
takes_self resources wanted [] = false
takes_self resources wanted (p ∷ ps) = is_self resources wanted p
