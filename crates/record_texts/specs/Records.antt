-- The record that says what a module says of its component, as JSON (docs/RECORD.md).
use Rattle.std.specs.Prelude.{ℕ, ◌≡◌, ◌≤◌, List, [], ◌∷◌, ◌++◌, codes, map, Bool, Option, Some, None}
use Rattle.std.specs.Option.{unwrap_or}
use Rattle.std.specs.List.{list_all}
use Rattle.serde_json.specs.Data.{Data, number, unsigned, boolean, string, array, object, member, no_members, depth}
use Rattle.serde_json.specs.Read.{read, max_depth}
use Rattle.serde_json.specs.View.{items_of}
use Rattle.serde_json.specs.Written.{IsInOrder}
use Rattle.standard_kinds.specs.declared.kinds.StringEncoding.{StringEncoding}
use Rattle.standard_kinds.specs.declared.kinds.StringEncoding.TheVariants as encodings
use Rattle.standard_kinds.specs.contracts.kinds.StringEncodingPartialEq.TheImpl as same_encoding
use Rattle.record_values.specs.declared.world.Wit.{Wit}
use Rattle.record_merge.specs.declared.bindgen.Bindgen.{Bindgen}
use Rattle.record_merge.specs.declared.bindgen.Roles.{Roles}
use Rattle.record_texts.specs.Worlds.{Interfaces, interfaces_of, items_data}
use Rattle.record_texts.specs.ImportRoles.{encoding_name, core_import_data}
use Rattle.record_texts.specs.ExportRoles.{core_export_data}

abbrev pub first_if : List StringEncoding → Option StringEncoding
first_if [] = None
first_if (e ∷ es) = Some e

abbrev pub is_encoding : StringEncoding → StringEncoding → Bool
is_encoding = same_encoding.eq-value.it

abbrev pub encodings_of : Roles → List StringEncoding
encodings_of r = map (λ e. e.1) r.import_encodings ++ map (λ e. e.1) r.export_encodings

-- the encoding of the record: that of the first function, or UTF-8 where there is none
abbrev pub encoding_of : List StringEncoding → StringEncoding
encoding_of es = unwrap_or (first_if es) encodings.UTF8

abbrev pub has_one_encoding : Roles → Bool
has_one_encoding r = list_all (is_encoding (encoding_of (encodings_of r))) (encodings_of r)

-- the record of these members
abbrev pub record_of : Bool → List Data → List Data → StringEncoding → List Data → List Data → List Data → Data
record_of slot core_exports core_imports encoding exports imports interfaces = object
    (member (codes "context-slot-1") (boolean slot)
    (member (codes "core-exports") (array (items_of core_exports))
    (member (codes "core-imports") (array (items_of core_imports))
    (member (codes "encoding") (string (encoding_name encoding))
    (member (codes "exports") (array (items_of exports))
    (member (codes "imports") (array (items_of imports))
    (member (codes "interfaces") (array (items_of interfaces))
    (member (codes "version") (number (unsigned 1)) no_members))))))))

abbrev pub record_with : Interfaces → Wit → Roles → StringEncoding → Data
record_with s wit r encoding = record_of r.context_slot_1
    (map (core_export_data s.indices) r.export_roles) (map (core_import_data s.indices) r.import_roles) encoding
    (items_data s.indices wit.exports) (items_data s.indices wit.imports) s.values

-- what a module says whose functions have this encoding
abbrev pub record_data : Bindgen → StringEncoding → Data
record_data b encoding = record_with (interfaces_of b.wit.interfaces) b.wit b.roles encoding

-- a text has this value, with nothing left out, and is read as it where it nests no deeper than readers go
pub record IsTextOf (text : List ℕ) (d : Data) : Type 0 where
  pub order : IsInOrder text d
  pub reads_back : depth d ≤ max_depth → read text ≡ Some d
