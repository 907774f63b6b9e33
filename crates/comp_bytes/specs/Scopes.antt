-- Index scopes: which items a definition may name.
-- Component model, binary format: index spaces; a definition names items that come before it. A component
-- and an instance type open a scope each, and an outer alias counts scopes outward.
use Rattle.std.specs.Prelude.{ℕ, ◌<◌, List, [], ◌∷◌, ◌++◌, Option, count_by, get_or}
use Rattle.std.specs.List.{AllByRecursion}
use Rattle.comp_bytes.specs.Spaces.{is_space, member_space, item_space, space_of}
use Rattle.comp_bytes.specs.References.{Reference, member_references, item_references}
use Rattle.comp_bytes.specs.declared.space.Space.{Space}
use Rattle.comp_bytes.specs.declared.types.Member.{Member}
use Rattle.comp_bytes.specs.declared.def.Item.{Item}
use Rattle.comp_bytes.specs.declared.def.Item.TheVariants as items
use Rattle.comp_bytes.specs.declared.def.Def.{Def}
use Rattle.comp_bytes.specs.declared.def.Def.TheVariants as defs

-- How many items each space has.
abbrev pub Scope : Type 0
Scope = Space → ℕ

-- a scope with no item; also the one that a count of scopes names where there are too few
abbrev pub no_items : Scope
no_items space = 0

-- the scope that these make, `made` being the space in which each makes an item
abbrev pub scope_of : {A : Type 0} → (A → Option Space) → List A → Scope
scope_of made xs space = count_by (λ x. is_space space (made x)) xs

-- The index is below the count of its space, in the scope that is named. Scopes are listed innermost first.
abbrev pub InScope : List Scope → Reference → Type 0
InScope scopes r = r.index < get_or scopes r.outward no_items r.space

-- Each keeps its rule in the scope that all before it make.
abbrev pub EachIn : {A : Type 0} → (A → Option Space) → (Scope → A → Type 0) → List A → List A → Type 0
EachIn made Rule before [] = Unit {0}
EachIn made Rule before (x ∷ xs) = Rule (scope_of made before) x × EachIn made Rule (before ++ x ∷ []) xs

abbrev pub MemberScoped : List Scope → Scope → Member → Type 0
MemberScoped outer scope m = AllByRecursion (InScope (scope ∷ outer)) (member_references m)

-- the scopes inside an item, which these scopes enclose
abbrev pub InsideScoped : List Scope → Item → Type 0
InsideScoped outer (items.InstanceType t) = EachIn member_space (MemberScoped outer) [] t.members
InsideScoped outer _ = Unit {0}

abbrev pub ItemScoped : List Scope → Scope → Item → Type 0
ItemScoped outer scope i = AllByRecursion (InScope (scope ∷ outer)) (item_references i) × InsideScoped (scope ∷ outer) i

abbrev pub DefScoped : Scope → Def → Type 0
DefScoped scope (defs.Item i) = ItemScoped [] scope i
DefScoped scope (defs.Component inner) = EachIn item_space (ItemScoped (scope ∷ [])) [] inner

-- Each definition names items that come before it.
abbrev pub Scoped : List Def → Type 0
Scoped definitions = EachIn space_of DefScoped [] definitions
