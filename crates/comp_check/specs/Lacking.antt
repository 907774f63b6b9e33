-- The function that the checks of references compute: the first missing item. Component model, binary format:
-- index spaces.
use Rattle.std.specs.Prelude.{ℕ, ◌≡◌, ◌+◌, nat_lt, List, [], ◌∷◌, Option, Some, None, Result, Ok, Err, cond, if◌then◌else◌, slice_get, get_or, length, ◌⊎◌}
use Rattle.comp_bytes.specs.Spaces.{ordinal, is_space, member_space, item_space}
use Rattle.comp_bytes.specs.References.{Reference, item_references}
use Rattle.comp_bytes.specs.Scopes.{Scope}
use Rattle.comp_bytes.specs.declared.space.Space.{Space}
use Rattle.comp_bytes.specs.declared.space.Space.TheVariants as spaces
use Rattle.comp_bytes.specs.declared.types.Member.{Member}
use Rattle.comp_bytes.specs.declared.def.Item.{Item}
use Rattle.comp_bytes.specs.declared.def.Def.{Def}
use Rattle.comp_check.specs.declared.fault.IndexFault.{IndexFault}
use Rattle.comp_check.specs.declared.scope.Counts.{Counts}
use Rattle.comp_check.specs.declared.scope.Lack.{Lack}
use Rattle.comp_check.specs.Indexes.{FaultAfter, MemberFault, ReferenceFault, InsideFault, ItemFault, DefFault}

-- the scope of these counters
abbrev pub counted : Counts → Scope
counted c space = get_or c.counts (ordinal space) 0

-- a scope with one item more, in the space in which one is made
abbrev pub and_made : Scope → Option Space → Scope
and_made scope made space = scope space + cond (is_space space made) 1 0

abbrev pub lack_in : Option Counts → Reference → Option Lack
lack_in None r = Some (record { space = spaces.Component; index = r.outward })
lack_in (Some c) r = if nat_lt r.index (counted c r.space) then None else Some (record { space = r.space; index = r.index })

abbrev pub or_else : Option Lack → Option Lack → Option Lack
or_else None other = other
or_else (Some lack) other = Some lack

-- the first missing item
unfoldable pub lacking : List Counts → List Reference → Option Lack
lacking scopes [] = None
lacking scopes (r ∷ rs) = or_else (lack_in (slice_get scopes r.outward) r) (lacking scopes rs)

-- the result of a function that looks for it
abbrev pub Finds : Result (Unit {0}) Lack → Option Lack → Type 0
Finds (Ok _) found = found ≡ None
Finds (Err lack) found = found ≡ Some lack

-- a fault of members, in these scopes
abbrev pub MembersFault : List Scope → List Member → Lack → Type 0
MembersFault outer members lack = (before : List Member) × FaultAfter member_space (MemberFault outer lack.space lack.index) members before

-- a fault of an item, in these scopes
abbrev pub AroundFault : List Scope → Item → Space → ℕ → Type 0
AroundFault scopes item space index = ReferenceFault scopes (item_references item) space index ⊎ InsideFault scopes space index item

-- a fault of an item of a component that is nested on this line
abbrev pub NestedFault : ℕ → Scope → List Item → IndexFault → Type 0
NestedFault line top inner e = (before : List Item) × FaultAfter item_space (ItemFault (top ∷ []) e.space e.index) inner before × (e.definition ≡ line + (1 + length before))

-- a fault of the definition that begins on this line
abbrev pub FaultFrom : ℕ → Scope → Def → IndexFault → Type 0
FaultFrom line scope def e = (within : ℕ) × DefFault within e.space e.index scope def × (e.definition ≡ line + within)
