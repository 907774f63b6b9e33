-- Worked examples: the lines of a component that imports a function and exports another, and a line of each form.
use Rattle.hex.specs.Hex.{encode_with}
use Rattle.std.proofs.Common.{◌≡◌, List, [], ◌∷◌, ◌++◌, refl, codes, replicate, Some, None, false, map}
use Rattle.std.specs.Fmt.{digits}
use Rattle.byte_encoding.specs.Encoding.{leb128}
use Rattle.standard_kinds.specs.declared.kinds.ExportKind.TheVariants as kinds
use Rattle.comp_bytes.specs.declared.space.ComponentExportKind.TheVariants as exports
use Rattle.comp_bytes.specs.declared.space.Sort.TheVariants as sorts
use Rattle.comp_bytes.specs.declared.types.Description.TheVariants as descriptions
use Rattle.comp_bytes.specs.declared.types.Alias.TheVariants as aliases
use Rattle.comp_bytes.specs.declared.types.Member.{Member}
use Rattle.comp_bytes.specs.declared.types.Member.TheVariants as members
use Rattle.comp_bytes.specs.declared.types.TypeDef.TheVariants as types
use Rattle.standard_kinds.specs.declared.kinds.Primitive.TheVariants as primitives
use Rattle.comp_bytes.specs.declared.types.ComponentValType.TheVariants as values
use Rattle.comp_bytes.specs.declared.canon.CanonicalOption.TheVariants as canonical
use Rattle.comp_bytes.specs.declared.canon.Intrinsic.TheVariants as intrinsics
use Rattle.comp_bytes.specs.declared.def.Item.TheVariants as items
use Rattle.comp_bytes.specs.declared.def.Def.{Def}
use Rattle.comp_bytes.specs.declared.def.Def.TheVariants as defs
use Rattle.comp_bytes.specs.declared.space.Space.{Space}
use Rattle.comp_bytes.specs.Spaces.{items_in, space_of}
use Rattle.comp_bytes.proofs.Worked.{one_import_one_export, plain, function}
use Rattle.comp_lines.specs.Texts.{quoted}
use Rattle.comp_lines.specs.Lines.{lines, item_line, made}

-- the index on the left is the one that the component builder returns
pub counted : (s : Space) (ds : List Def) → made space_of (Some s) ds ≡ items_in s ds
counted s ds = refl

pub printed : lines (one_import_one_export ++ defs.Item (items.Custom (codes "component-name") (replicate 47 0)) ∷ []) ≡
    codes "type 0 = 40000100"
    ∷ codes "func 0 = import \"f\" 0100"
    ∷ codes "core-module 0 = 44 bytes"
    ∷ codes "core-func 0 = lower 0"
    ∷ codes "core-instance 0 = exports \"f\"=func 0"
    ∷ codes "core-instance 1 = instantiate 0 \"$root\"=0"
    ∷ codes "core-func 1 = alias 1 \"g\""
    ∷ codes "func 1 = lift 1 0"
    ∷ codes "func 2 = export \"g\" func 1"
    ∷ codes "custom \"component-name\" 47 bytes"
    ∷ []
unfolding digits leb128 encode_with
printed = refl

-- definitions in a component have indices of their own
pub nested : lines (defs.Item function ∷ defs.Component (function ∷ items.Alias (aliases.Outer 1 0) ∷ []) ∷ defs.Item function ∷ []) ≡
    codes "type 0 = 40000100"
    ∷ codes "component 0 = 2 definitions"
    ∷ codes "  type 0 = 40000100"
    ∷ codes "  type 1 = outer 1 0"
    ∷ codes "type 1 = 40000100"
    ∷ []
unfolding digits leb128 encode_with
nested = refl

-- a, a quote, a backslash, a line feed, a delete and an e with an acute accent
pub in_quotes : quoted (0x61 ∷ 0x22 ∷ 0x5c ∷ 0x0a ∷ 0x7f ∷ 0xc3 ∷ 0xa9 ∷ []) ≡ codes "\"a\\\"\\\\\\0a\\7f" ++ 0xc3 ∷ 0xa9 ∷ 0x22 ∷ []
unfolding encode_with
in_quotes = refl

pub options : item_line 3 (items.Lift 10 (canonical.Memory 0 ∷ canonical.Realloc 1 ∷ canonical.PostReturn 2 ∷ canonical.Callback 3 ∷ canonical.Utf8 ∷ canonical.Utf16 ∷ canonical.CompactUtf16 ∷ canonical.Async ∷ []) 4)
    ≡ codes "func 3 = lift 10 4 memory=0 realloc=1 post-return=2 callback=3 utf8 utf16 compact async"
unfolding digits
options = refl

pub suffix : item_line 0 (items.Import (record { name = codes "a:b/c@1"; version_suffix = Some (codes ".2") }) (descriptions.Instance 5)) ≡ codes "instance 0 = import \"a:b/c@1\" suffix \".2\" 0505"
unfolding digits leb128 encode_with
suffix = refl

pub arguments : item_line 0 (items.Instantiate 1 (record { name = codes "a"; sort = sorts.Core kinds.Memory; index = 2 } ∷ record { name = codes "b"; sort = sorts.Type; index = 300 } ∷ []))
    ≡ codes "instance 0 = instantiate 1 \"a\"=core-memory 2 \"b\"=type 300"
unfolding digits
arguments = refl

abbrev text_function : Member
text_function = members.Type (types.Func (record { async_ = false; params = record { name = codes "s"; ty = values.Primitive primitives.String } ∷ []; result = None }))

pub instance_type : item_line 0 (items.InstanceType (record { members = text_function ∷ members.Export (plain (codes "f")) (descriptions.Func 0) ∷ [] })) ≡ codes "type 0 = 42020140010173730100040001660100"
unfolding digits leb128 encode_with
instance_type = refl

pub others : map (item_line 0) (items.Intrinsic (intrinsics.ResourceDrop 200) ∷ items.Alias (aliases.Export exports.Component 1 (codes "c")) ∷ items.Alias (aliases.CoreExport kinds.Table 2 (codes "t")) ∷ [])
    ≡ codes "core-func 0 = canon 03c801" ∷ codes "component 0 = alias 1 \"c\"" ∷ codes "core-table 0 = alias 2 \"t\"" ∷ []
unfolding digits leb128 encode_with
others = refl
