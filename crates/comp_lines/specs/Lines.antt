-- Definitions as lines of text, with a clause for each form: `SPACE INDEX = ` and what the item is made of. The forms
-- are those of the component model's binary format; the lines are this project's own.
use Rattle.std.specs.Prelude.{ℕ, List, [], ◌∷◌, ◌++◌, length, codes, Option, Some, None, count_by}
use Rattle.std.specs.List.{flat_map}
use Rattle.std.specs.Fmt.{decimal}
use Rattle.byte_encoding.specs.Encoding.{Encoding, raw}
use Rattle.comp_bytes.specs.Grammar.{type_def, instance_type, intrinsic_bytes, description_bytes}
use Rattle.comp_bytes.specs.Spaces.{is_space, item_space, space_of, sort_space}
use Rattle.standard_kinds.specs.declared.kinds.ExportKind.{ExportKind}
use Rattle.standard_kinds.specs.declared.kinds.ExportKind.TheVariants as kinds
use Rattle.comp_bytes.specs.declared.space.Space.{Space}
use Rattle.comp_bytes.specs.declared.space.Space.TheVariants as spaces
use Rattle.comp_bytes.specs.declared.types.ExternName.{ExternName}
use Rattle.comp_bytes.specs.declared.types.Alias.{Alias}
use Rattle.comp_bytes.specs.declared.types.Alias.TheVariants as aliases
use Rattle.comp_bytes.specs.declared.canon.CanonicalOption.{CanonicalOption}
use Rattle.comp_bytes.specs.declared.canon.CanonicalOption.TheVariants as canonical
use Rattle.comp_bytes.specs.declared.def.CoreArgument.{CoreArgument}
use Rattle.comp_bytes.specs.declared.def.CoreInlineExport.{CoreInlineExport}
use Rattle.comp_bytes.specs.declared.def.Argument.{Argument}
use Rattle.comp_bytes.specs.declared.def.Item.{Item}
use Rattle.comp_bytes.specs.declared.def.Item.TheVariants as items
use Rattle.comp_bytes.specs.declared.def.Def.{Def}
use Rattle.comp_bytes.specs.declared.def.Def.TheVariants as defs
use Rattle.hex.specs.Hex.{encode_lower}
use Rattle.comp_lines.specs.Texts.{quoted}

-- ---- parts of a line

abbrev pub space_word : Space → List ℕ
space_word spaces.CoreFunc = codes "core-func"
space_word spaces.CoreTable = codes "core-table"
space_word spaces.CoreMemory = codes "core-memory"
space_word spaces.CoreGlobal = codes "core-global"
space_word spaces.CoreModule = codes "core-module"
space_word spaces.CoreInstance = codes "core-instance"
space_word spaces.Func = codes "func"
space_word spaces.Type = codes "type"
space_word spaces.Component = codes "component"
space_word spaces.Instance = codes "instance"

-- the word for a kind of core item, among core items
abbrev pub kind_word : ExportKind → List ℕ
kind_word kinds.Func = codes "func"
kind_word kinds.Table = codes "table"
kind_word kinds.Memory = codes "memory"
kind_word kinds.Global = codes "global"

abbrev pub core_argument : CoreArgument → List ℕ
core_argument a = codes " " ++ quoted a.name ++ codes "=" ++ decimal a.instance

abbrev pub core_export : CoreInlineExport → List ℕ
core_export e = codes " " ++ quoted e.name ++ codes "=" ++ kind_word e.kind ++ codes " " ++ decimal e.index

abbrev pub argument : Argument → List ℕ
argument a = codes " " ++ quoted a.name ++ codes "=" ++ space_word (sort_space a.sort) ++ codes " " ++ decimal a.index

abbrev pub option : CanonicalOption → List ℕ
option canonical.Utf8 = codes " utf8"
option canonical.Utf16 = codes " utf16"
option canonical.CompactUtf16 = codes " compact"
option (canonical.Memory index) = codes " memory=" ++ decimal index
option (canonical.Realloc index) = codes " realloc=" ++ decimal index
option (canonical.PostReturn index) = codes " post-return=" ++ decimal index
option canonical.Async = codes " async"
option (canonical.Callback index) = codes " callback=" ++ decimal index

-- a name, and after it its version suffix
abbrev pub extern : ExternName → List ℕ
extern n = quoted n.name ++ elim n.version_suffix [ None ↦ [] | Some suffix ↦ codes " suffix " ++ quoted suffix ]

-- ---- the right side: what an item is made of

abbrev pub alias : Alias → List ℕ
alias (aliases.Export kind instance name) = codes "alias " ++ decimal instance ++ codes " " ++ quoted name
alias (aliases.CoreExport kind instance name) = codes "alias " ++ decimal instance ++ codes " " ++ quoted name
alias (aliases.Outer count index) = codes "outer " ++ decimal count ++ codes " " ++ decimal index

-- the bytes that are shown, as they occur in the definition's section
abbrev pub shown : Item → Encoding
shown (items.Type t) = type_def t
shown (items.InstanceType t) = instance_type t
shown (items.Intrinsic i) = intrinsic_bytes i
shown (items.Import name description) = description_bytes description
shown _ = raw []

abbrev pub made_of : Item → List ℕ
made_of (items.CoreModule bytes) = decimal (length bytes) ++ codes " bytes"
made_of (items.CoreInstantiate from args) = codes "instantiate " ++ decimal from ++ flat_map core_argument args
made_of (items.CoreExports entries) = codes "exports" ++ flat_map core_export entries
made_of (items.Instantiate from args) = codes "instantiate " ++ decimal from ++ flat_map argument args
made_of (items.Alias a) = alias a
made_of (items.Type t) = encode_lower (type_def t).bytes
made_of (items.InstanceType t) = encode_lower (instance_type t).bytes
made_of (items.Lift func options ty) = codes "lift " ++ decimal func ++ codes " " ++ decimal ty ++ flat_map option options
made_of (items.Lower func options) = codes "lower " ++ decimal func ++ flat_map option options
made_of (items.Intrinsic i) = codes "canon " ++ encode_lower (intrinsic_bytes i).bytes
made_of (items.Import name description) = codes "import " ++ extern name ++ codes " " ++ encode_lower (description_bytes description).bytes
made_of (items.Export name sort index description) = codes "export " ++ extern name ++ codes " " ++ space_word (sort_space sort) ++ codes " " ++ decimal index
made_of (items.Custom name contents) = codes "custom " ++ quoted name ++ codes " " ++ decimal (length contents) ++ codes " bytes"

-- ---- lines

-- the left side: the space and the index of an item; nothing for a definition that makes none
abbrev pub left : Option Space → ℕ → List ℕ
left None index = []
left (Some s) index = space_word s ++ codes " " ++ decimal index ++ codes " = "

abbrev pub item_line : ℕ → Item → List ℕ
item_line index i = left (item_space i) index ++ made_of i

-- how many items of a space the definitions make
abbrev pub made : {D : Type 0} → (D → Option Space) → Option Space → List D → ℕ
made space None ds = 0
made space (Some s) ds = count_by (λ d. is_space s (space d)) ds

-- The lines of a scope's definitions, where the index of each item is the number of items of its space before it;
-- here the definitions `done` are before these.
abbrev pub scope_lines : {D : Type 0} → (D → Option Space) → (ℕ → D → List (List ℕ)) → List D → List D → List (List ℕ)
scope_lines space lines_of done [] = []
scope_lines space lines_of done (d ∷ ds) = lines_of (made space (space d) done) d ++ scope_lines space lines_of (done ++ d ∷ []) ds

-- a nested component's definitions are indented by two spaces
abbrev pub nested_lines : ℕ → Item → List (List ℕ)
nested_lines index i = (codes "  " ++ item_line index i) ∷ []

-- a definition's line; those of a nested component's definitions follow, with indices of their own
abbrev pub definition_lines : ℕ → Def → List (List ℕ)
definition_lines index (defs.Item i) = item_line index i ∷ []
definition_lines index (defs.Component inner) =
    (left (Some spaces.Component) index ++ decimal (length inner) ++ codes " definitions") ∷ scope_lines item_space nested_lines [] inner

-- The lines of a component's definitions.
abbrev pub lines : List Def → List (List ℕ)
lines ds = scope_lines space_of definition_lines [] ds

-- each count and size in the bytes that the lines show
abbrev pub shown_counts : Def → List ℕ
shown_counts (defs.Item i) = (shown i).counts
shown_counts (defs.Component inner) = flat_map (λ i. (shown i).counts) inner
