-- What a refused index shows: the definition that names it, and that no earlier item has it. It follows `Scoped`
-- line by line. Component model, binary format: index spaces.
use Rattle.std.specs.Prelude.{ℕ, ◌≡◌, ◌+◌, ◌≤◌, List, [], ◌∷◌, ◌++◌, length, Option, Some, None, Contains, slice_get, ◌⊎◌}
use Rattle.std.specs.List.{sum_by}
use Rattle.comp_bytes.specs.Spaces.{member_space, item_space, space_of}
use Rattle.comp_bytes.specs.References.{Reference, member_references, item_references}
use Rattle.comp_bytes.specs.Scopes.{Scope, scope_of}
use Rattle.comp_bytes.specs.declared.space.Space.{Space}
use Rattle.comp_bytes.specs.declared.space.Space.TheVariants as spaces
use Rattle.comp_bytes.specs.declared.types.Member.{Member}
use Rattle.comp_bytes.specs.declared.def.Item.{Item}
use Rattle.comp_bytes.specs.declared.def.Item.TheVariants as items
use Rattle.comp_bytes.specs.declared.def.Def.{Def}
use Rattle.comp_bytes.specs.declared.def.Def.TheVariants as defs

-- In the scope that is named, if it exists, the space has no item of the index. A missing scope is reported
-- as a component, with the number of scopes outward.
abbrev pub MissingIn : Option Scope → Reference → Space → ℕ → Type 0
MissingIn None r space index = (space ≡ spaces.Component) × (index ≡ r.outward)
MissingIn (Some scope) r space index = (space ≡ r.space) × (index ≡ r.index) × (scope r.space ≤ r.index)

-- The innermost scope is first.
abbrev pub Missing : List Scope → Reference → Space → ℕ → Type 0
Missing scopes r space index = MissingIn (slice_get scopes r.outward) r space index

-- One of the references names an item that is missing.
pub record ReferenceFault (scopes : List Scope) (references : List Reference) (space : Space) (index : ℕ) : Type 0 where
  pub reference : Reference
  pub named : Contains references reference
  pub missing : Missing scopes reference space index

-- The item after these has a fault in the scope that they make, where `made` is the space in which each makes an item.
pub record FaultAfter {A : Type 0} (made : A → Option Space) (Fault : Scope → A → Type 0) (all before : List A) : Type 0 where
  pub faulty : A
  pub after : List A
  pub parts : all ≡ before ++ faulty ∷ after
  pub fault : Fault (scope_of made before) faulty

abbrev pub MemberFault : List Scope → Space → ℕ → Scope → Member → Type 0
MemberFault outer space index scope m = ReferenceFault (scope ∷ outer) (member_references m) space index

-- a fault of what is nested in an item, in these scopes
abbrev pub InsideFault : List Scope → Space → ℕ → Item → Type 0
InsideFault outer space index (items.InstanceType t) = (before : List Member) × FaultAfter member_space (MemberFault outer space index) t.members before
InsideFault outer space index _ = ⊥

abbrev pub ItemFault : List Scope → Space → ℕ → Scope → Item → Type 0
ItemFault outer space index scope i = ReferenceFault (scope ∷ outer) (item_references i) space index ⊎ InsideFault (scope ∷ outer) space index i

-- a fault on a line of a definition: the first line is its own, and each item of a nested component has one after it
abbrev pub DefFault : ℕ → Space → ℕ → Scope → Def → Type 0
DefFault line space index scope (defs.Item i) = (line ≡ 0) × ItemFault [] space index scope i
DefFault line space index scope (defs.Component inner) =
    (before : List Item) × FaultAfter item_space (ItemFault (scope ∷ []) space index) inner before × (line ≡ 1 + length before)

-- the lines of a definition
abbrev pub lines : Def → ℕ
lines (defs.Item i) = 1
lines (defs.Component inner) = 1 + length inner

-- The index of the space is missing, and the definition on this line names it. Lines are counted from 0.
pub record IsIndexFault (definitions : List Def) (line : ℕ) (space : Space) (index : ℕ) : Type 0 where
  pub before : List Def
  pub within : ℕ
  pub fault : FaultAfter space_of (DefFault within space index) definitions before
  pub line_is : line ≡ sum_by lines before + within
