-- Worked examples: a component that imports a function and exports another, through a core module.
use Rattle.std.proofs.Common.{◌≡◌, ℕ, List, [], ◌∷◌, refl, None, false, map, arith}
use Rattle.byte_encoding.specs.Encoding.{leb128}
use Rattle.comp_bytes.specs.Grammar.{encoding_of}
use Rattle.comp_bytes.specs.References.{own, references}
use Rattle.comp_bytes.specs.Scopes.{Scoped}
use Rattle.comp_bytes.specs.ScopeNames.{names}
use Rattle.standard_kinds.specs.declared.kinds.ExportKind.TheVariants as kinds
use Rattle.comp_bytes.specs.declared.space.Sort.TheVariants as sorts
use Rattle.comp_bytes.specs.declared.space.Space.TheVariants as spaces
use Rattle.comp_bytes.specs.declared.types.TypeDef.TheVariants as types
use Rattle.comp_bytes.specs.declared.types.ExternName.{ExternName}
use Rattle.comp_bytes.specs.declared.types.Description.TheVariants as descriptions
use Rattle.comp_bytes.specs.declared.types.Alias.TheVariants as aliases
use Rattle.comp_bytes.specs.declared.types.Member.TheVariants as members
use Rattle.comp_bytes.specs.declared.def.Item.{Item}
use Rattle.comp_bytes.specs.declared.def.Item.TheVariants as items
use Rattle.comp_bytes.specs.declared.def.Def.{Def}
use Rattle.comp_bytes.specs.declared.def.Def.TheVariants as defs

abbrev pub plain : List ℕ → ExternName
plain name = record { name = name; version_suffix = None }

abbrev pub f : List ℕ
f = 0x66 ∷ []

abbrev pub g : List ℕ
g = 0x67 ∷ []

abbrev pub root : List ℕ
root = 0x24 ∷ 0x72 ∷ 0x6f ∷ 0x6f ∷ 0x74 ∷ []

abbrev pub core : List ℕ
core = 0x00 ∷ 0x61 ∷ 0x73 ∷ 0x6d ∷ 0x01 ∷ 0x00 ∷ 0x00 ∷ 0x00 ∷ 0x01 ∷ 0x04 ∷ 0x01 ∷ 0x60 ∷ 0x00 ∷ 0x00 ∷ 0x02 ∷ 0x0b ∷ 0x01 ∷ 0x05 ∷ 0x24 ∷ 0x72 ∷ 0x6f ∷ 0x6f ∷ 0x74 ∷ 0x01 ∷ 0x66 ∷ 0x00 ∷ 0x00 ∷ 0x03 ∷ 0x02 ∷ 0x01 ∷ 0x00 ∷ 0x07 ∷ 0x05 ∷ 0x01 ∷ 0x01 ∷ 0x67 ∷ 0x00 ∷ 0x01 ∷ 0x0a ∷ 0x04 ∷ 0x01 ∷ 0x02 ∷ 0x00 ∷ 0x0b ∷ []

abbrev pub function : Item
function = items.Type (types.Func (record { async_ = false; params = []; result = None }))

abbrev pub one_import_one_export : List Def
one_import_one_export = map defs.Item (
    function
    ∷ items.Import (plain f) (descriptions.Func 0)
    ∷ items.CoreModule core
    ∷ items.Lower 0 []
    ∷ items.CoreExports (record { name = f; kind = kinds.Func; index = 0 } ∷ [])
    ∷ items.CoreInstantiate 0 (record { name = root; instance = 0 } ∷ [])
    ∷ items.Alias (aliases.CoreExport kinds.Func 1 g)
    ∷ items.Lift 1 [] 0
    ∷ items.Export (plain g) sorts.Func 1 None
    ∷ [])

pub encoded : (encoding_of one_import_one_export).bytes ≡ 0x00 ∷ 0x61 ∷ 0x73 ∷ 0x6d ∷ 0x0d ∷ 0x00 ∷ 0x01 ∷ 0x00 ∷ 0x07 ∷ 0x05 ∷ 0x01 ∷ 0x40 ∷ 0x00 ∷ 0x01 ∷ 0x00 ∷ 0x0a ∷ 0x06 ∷ 0x01 ∷ 0x00 ∷ 0x01 ∷ 0x66 ∷ 0x01 ∷ 0x00 ∷ 0x01 ∷ 0x2c ∷ 0x00 ∷ 0x61 ∷ 0x73 ∷ 0x6d ∷ 0x01 ∷ 0x00 ∷ 0x00 ∷ 0x00 ∷ 0x01 ∷ 0x04 ∷ 0x01 ∷ 0x60 ∷ 0x00 ∷ 0x00 ∷ 0x02 ∷ 0x0b ∷ 0x01 ∷ 0x05 ∷ 0x24 ∷ 0x72 ∷ 0x6f ∷ 0x6f ∷ 0x74 ∷ 0x01 ∷ 0x66 ∷ 0x00 ∷ 0x00 ∷ 0x03 ∷ 0x02 ∷ 0x01 ∷ 0x00 ∷ 0x07 ∷ 0x05 ∷ 0x01 ∷ 0x01 ∷ 0x67 ∷ 0x00 ∷ 0x01 ∷ 0x0a ∷ 0x04 ∷ 0x01 ∷ 0x02 ∷ 0x00 ∷ 0x0b ∷ 0x08 ∷ 0x05 ∷ 0x01 ∷ 0x01 ∷ 0x00 ∷ 0x00 ∷ 0x00 ∷ 0x02 ∷ 0x12 ∷ 0x02 ∷ 0x01 ∷ 0x01 ∷ 0x01 ∷ 0x66 ∷ 0x00 ∷ 0x00 ∷ 0x00 ∷ 0x00 ∷ 0x01 ∷ 0x05 ∷ 0x24 ∷ 0x72 ∷ 0x6f ∷ 0x6f ∷ 0x74 ∷ 0x12 ∷ 0x00 ∷ 0x06 ∷ 0x07 ∷ 0x01 ∷ 0x00 ∷ 0x00 ∷ 0x01 ∷ 0x01 ∷ 0x01 ∷ 0x67 ∷ 0x08 ∷ 0x06 ∷ 0x01 ∷ 0x00 ∷ 0x00 ∷ 0x01 ∷ 0x00 ∷ 0x00 ∷ 0x0b ∷ 0x07 ∷ 0x01 ∷ 0x00 ∷ 0x01 ∷ 0x67 ∷ 0x01 ∷ 0x01 ∷ 0x00 ∷ []
unfolding leb128
encoded = refl

pub referred : map references one_import_one_export ≡
    [] ∷ (own spaces.Type 0 ∷ []) ∷ [] ∷ (own spaces.Func 0 ∷ []) ∷ (own spaces.CoreFunc 0 ∷ []) ∷ (own spaces.CoreModule 0 ∷ own spaces.CoreInstance 0 ∷ [])
    ∷ (own spaces.CoreInstance 1 ∷ []) ∷ (own spaces.CoreFunc 1 ∷ own spaces.Type 0 ∷ []) ∷ (own spaces.Func 1 ∷ []) ∷ []
referred = refl

pub named : names one_import_one_export ≡ (f ∷ []) ∷ (g ∷ []) ∷ (f ∷ []) ∷ (root ∷ []) ∷ []
named = refl

pub scoped : Scoped one_import_one_export
scoped = ((tt, tt), (((omega arith, tt), tt), ((tt, tt), (((omega arith, tt), tt), (((omega arith, tt), tt), (((omega arith, (omega arith, tt)), tt), (((omega arith, tt), tt), (((omega arith, (omega arith, tt)), tt), (((omega arith, tt), tt), tt)))))))))

-- an instance type inside a component inside a component, whose members name types of each scope
abbrev pub nested : List Def
nested =
    defs.Item function
    ∷ defs.Component (function ∷ function ∷ items.InstanceType (record {
      members =
          members.Alias (aliases.Outer 2 0) ∷ members.Alias (aliases.Outer 1 1) ∷ members.Export (plain f) (descriptions.Func 1) ∷ [];
    }) ∷ [])
    ∷ []

pub nested_scoped : Scoped nested
nested_scoped = ((tt, tt), (((tt, tt), ((tt, tt), ((tt, ((omega arith, tt), ((omega arith, tt), ((omega arith, tt), tt)))), tt))), tt))

-- the import comes before its type
abbrev pub import_first : List Def
import_first = defs.Item (items.Import (plain f) (descriptions.Func 0)) ∷ defs.Item function ∷ []

pub import_first_is_not_scoped : Scoped import_first → ⊥
import_first_is_not_scoped h = absurd (omega (arith, h.0.0.0))

-- the alias names a scope further out than there is one
abbrev pub alias_out : List Def
alias_out = defs.Item function ∷ defs.Item (items.Alias (aliases.Outer 1 0)) ∷ []

pub alias_out_is_not_scoped : Scoped alias_out → ⊥
alias_out_is_not_scoped h = absurd (omega (arith, h.1.0.0.0))

pub nested_named : names nested ≡ [] ∷ [] ∷ [] ∷ [] ∷ (f ∷ []) ∷ []
nested_named = refl
