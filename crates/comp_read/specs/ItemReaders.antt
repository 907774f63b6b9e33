-- Reading the definitions of one section. Component model, binary format: `section`, `core:instance`, `instance`,
-- `import`, `export`.
use Rattle.std.specs.Prelude.{ℕ, ◌==◌, if◌then◌else◌, List, [], ◌∷◌, length, Option, Some, None}
use Rattle.core_types.specs.Core.{is_core_module}
use Rattle.comp_bytes.specs.declared.def.Item.{Item}
use Rattle.comp_bytes.specs.declared.def.Item.TheVariants as items
use Rattle.part_readers.specs.Reading.{◌>>=◌, Reader, made_at, then_at, after_byte, tagged, number_at, name_at, items_at, list_at, option_at}
use Rattle.part_readers.specs.PartReaders.{sort_at, alias_at, type_def_after, instance_type_at, extern_name_at, description_at}
use Rattle.part_readers.specs.ArgumentReaders.{core_argument_at, core_inline_export_at, argument_at}
use Rattle.comp_read.specs.CanonReaders.{index_and_options_at, intrinsic_after}

abbrev pub core_instance_after : ℕ → Reader Item
core_instance_after b bytes =
    if b == 0x00 then made_at (λ p. items.CoreInstantiate p.0 p.1) (then_at number_at (list_at core_argument_at)) bytes
    else (if b == 0x01 then made_at (λ l. items.CoreExports l) (list_at core_inline_export_at) bytes
    else None)

unfoldable pub core_instance_at : Reader Item
core_instance_at bytes = tagged core_instance_after bytes

unfoldable pub instance_at : Reader Item
instance_at bytes = after_byte 0x00 (made_at (λ p. items.Instantiate p.0 p.1) (then_at number_at (list_at argument_at))) bytes

abbrev pub type_item_after : ℕ → Reader Item
type_item_after b bytes =
    if b == 0x42 then made_at (λ t. items.InstanceType t) instance_type_at bytes
    else made_at (λ t. items.Type t) (type_def_after b) bytes

unfoldable pub type_item_at : Reader Item
type_item_at bytes = tagged type_item_after bytes

unfoldable pub lift_at : Reader Item
lift_at bytes = after_byte 0x00 (made_at (λ p. items.Lift p.0.0 p.0.1 p.1) (then_at index_and_options_at number_at)) bytes

unfoldable pub lower_at : Reader Item
lower_at bytes = after_byte 0x00 (made_at (λ p. items.Lower p.0 p.1) index_and_options_at) bytes

abbrev pub canon_after : ℕ → Reader Item
canon_after b bytes =
    if b == 0x00 then lift_at bytes
    else (if b == 0x01 then lower_at bytes
    else made_at (λ i. items.Intrinsic i) (intrinsic_after b) bytes)

unfoldable pub canon_at : Reader Item
canon_at bytes = tagged canon_after bytes

unfoldable pub import_at : Reader Item
import_at bytes = made_at (λ p. items.Import p.0 p.1) (then_at extern_name_at description_at) bytes

unfoldable pub export_at : Reader Item
export_at bytes = made_at (λ p. items.Export p.0.0.0 p.0.0.1 p.0.1 p.1) (then_at (then_at (then_at extern_name_at sort_at) number_at) (option_at description_at)) bytes

-- a definition of a section that several definitions share
unfoldable pub item_at : ℕ → Reader Item
item_at id bytes =
    if id == 2 then core_instance_at bytes
    else (if id == 5 then instance_at bytes
    else (if id == 6 then made_at (λ a. items.Alias a) alias_at bytes
    else (if id == 7 then type_item_at bytes
    else (if id == 8 then canon_at bytes
    else (if id == 10 then import_at bytes
    else (if id == 11 then export_at bytes
    else None))))))

-- the contents of such a section: a count that is not 0, the definitions, and nothing after them
unfoldable pub counted_at : ℕ → List ℕ → Option (List Item)
counted_at id bytes =
    number_at bytes >>= λ n.
    if n.0 == 0 then None else (items_at (item_at id) n.0 n.1 >>= λ xs. if length xs.1 == 0 then Some xs.0 else None)

unfoldable pub custom_at : List ℕ → Option (List Item)
custom_at bytes = name_at bytes >>= λ name. Some (items.Custom name.0 name.1 ∷ [])

-- a core module, which begins with the core preamble
unfoldable pub module_at : List ℕ → Option (List Item)
module_at bytes = if is_core_module bytes then Some (items.CoreModule bytes ∷ []) else None

-- the contents of a section of an id
unfoldable pub contents_at : ℕ → List ℕ → Option (List Item)
contents_at id bytes =
    if id == 0 then custom_at bytes
    else (if id == 1 then module_at bytes
    else counted_at id bytes)
