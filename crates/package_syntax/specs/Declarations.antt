-- Reading the declarations of a world and of an instance type. Component model, binary format:
-- `componentdecl`, `instancedecl`, `importdecl`, `exportdecl`. What can't be read stops at the
-- declaration, for a reason that its first bytes tell.
use Rattle.std.specs.Prelude.{ℕ, ◌==◌, List, [], ◌∷◌, length, if◌then◌else◌, Ok, Err}
use Rattle.comp_bytes.specs.declared.types.TypeDef.{TypeDef}
use Rattle.comp_bytes.specs.declared.types.Alias.{Alias}
use Rattle.comp_bytes.specs.declared.types.ExternName.{ExternName}
use Rattle.comp_bytes.specs.declared.types.Description.{Description}
use Rattle.comp_bytes.specs.declared.types.Member.{Member}
use Rattle.comp_bytes.specs.declared.types.Member.TheVariants as members
use Rattle.part_readers.specs.Reading.{byte_at}
use Rattle.part_readers.specs.PartReaders.{type_def_after, alias_at, extern_name_at, description_at}
use Rattle.package_syntax.specs.declared.fault.Reason.{Reason}
use Rattle.package_syntax.specs.declared.fault.Reason.TheVariants as reasons
use Rattle.package_syntax.specs.declared.syntax.Declaration.{Declaration}
use Rattle.package_syntax.specs.declared.syntax.Declaration.TheVariants as declarations
use Rattle.package_syntax.specs.Placing.{◌>>>◌, ok_or, PlacedReader, stop, list_at}

-- ---- reasons

-- why a type is not read, by its first byte
abbrev pub type_reason : ℕ → Reason
type_reason b =
    if b == 0x67 then reasons.FixedLengthList
    else (if b == 0x63 then reasons.Map
    else (if b == 0x42 then reasons.NestedInstanceType
    else (if b == 0x41 then reasons.ComponentType
    else reasons.Declaration)))

-- why an import or an export is not read, by its sort
abbrev pub sort_reason : List ℕ → Reason
sort_reason [] = reasons.Declaration
sort_reason (b ∷ bytes) =
    if b == 0x00 then reasons.CoreModule
    else (if b == 0x02 then reasons.Value
    else (if b == 0x04 then reasons.Component
    else reasons.Declaration))

-- why an alias is not read, by its sort
abbrev pub alias_reason : List ℕ → Reason
alias_reason [] = reasons.Declaration
alias_reason (b ∷ bytes) = if b == 0x02 then reasons.Value else reasons.Declaration

-- why a declaration is none, by its first byte
abbrev pub kind_reason : ℕ → Reason
kind_reason b = if b == 0x00 then reasons.CoreType else reasons.Declaration

-- ---- parts of declarations, each of one that begins before this many bytes

unfoldable pub placed_type_at : ℕ → PlacedReader TypeDef
placed_type_at left bytes =
    ok_or (stop left reasons.Declaration) (byte_at bytes) >>> λ b.
    ok_or (stop left (type_reason b.0)) (type_def_after b.0 b.1)

unfoldable pub placed_alias_at : ℕ → PlacedReader Alias
placed_alias_at left bytes = ok_or (stop left (alias_reason bytes)) (alias_at bytes)

-- an import or an export
unfoldable pub described_at : ℕ → PlacedReader (ExternName × Description)
described_at left bytes =
    ok_or (stop left reasons.Declaration) (extern_name_at bytes) >>> λ n.
    ok_or (stop left (sort_reason n.1)) (description_at n.1) >>> λ d.
    Ok ((n.0, d.0), d.1)

-- ---- declarations of an instance type

abbrev pub type_member_at : ℕ → PlacedReader Member
type_member_at left bytes = placed_type_at left bytes >>> λ t. Ok (members.Type t.0, t.1)

abbrev pub alias_member_at : ℕ → PlacedReader Member
alias_member_at left bytes = placed_alias_at left bytes >>> λ a. Ok (members.Alias a.0, a.1)

abbrev pub export_member_at : ℕ → PlacedReader Member
export_member_at left bytes = described_at left bytes >>> λ d. Ok (members.Export d.0.0 d.0.1, d.1)

-- after the first byte
unfoldable pub member_after : ℕ → ℕ → PlacedReader Member
member_after left b bytes =
    if b == 0x01 then type_member_at left bytes
    else (if b == 0x02 then alias_member_at left bytes
    else (if b == 0x04 then export_member_at left bytes
    else Err (stop left (kind_reason b))))

unfoldable pub placed_member_at : PlacedReader Member
placed_member_at bytes =
    ok_or (stop (length bytes) reasons.Declaration) (byte_at bytes) >>> λ b.
    member_after (length bytes) b.0 b.1

-- ---- declarations of a world

abbrev pub instance_type_declaration_at : PlacedReader Declaration
instance_type_declaration_at bytes = list_at placed_member_at bytes >>> λ m. Ok (declarations.InstanceType (record { members = m.0 }), m.1)

abbrev pub plain_type_declaration_at : ℕ → PlacedReader Declaration
plain_type_declaration_at left bytes = placed_type_at left bytes >>> λ t. Ok (declarations.Type t.0, t.1)

-- an instance type stops at one of its own declarations
unfoldable pub type_declaration_at : ℕ → PlacedReader Declaration
type_declaration_at left bytes =
    ok_or (stop left reasons.Declaration) (byte_at bytes) >>> λ b.
    if b.0 == 0x42 then instance_type_declaration_at b.1 else plain_type_declaration_at left bytes

abbrev pub alias_declaration_at : ℕ → PlacedReader Declaration
alias_declaration_at left bytes = placed_alias_at left bytes >>> λ a. Ok (declarations.Alias a.0, a.1)

abbrev pub import_declaration_at : ℕ → PlacedReader Declaration
import_declaration_at left bytes = described_at left bytes >>> λ d. Ok (declarations.Import d.0.0 d.0.1, d.1)

abbrev pub export_declaration_at : ℕ → PlacedReader Declaration
export_declaration_at left bytes = described_at left bytes >>> λ d. Ok (declarations.Export d.0.0 d.0.1, d.1)

-- after the first byte
unfoldable pub declaration_after : ℕ → ℕ → PlacedReader Declaration
declaration_after left b bytes =
    if b == 0x01 then type_declaration_at left bytes
    else (if b == 0x02 then alias_declaration_at left bytes
    else (if b == 0x03 then import_declaration_at left bytes
    else (if b == 0x04 then export_declaration_at left bytes
    else Err (stop left (kind_reason b)))))

unfoldable pub placed_declaration_at : PlacedReader Declaration
placed_declaration_at bytes =
    ok_or (stop (length bytes) reasons.Declaration) (byte_at bytes) >>> λ b.
    declaration_after (length bytes) b.0 b.1
