-- Readers of what is written of an item in its section, by the section's id.
use Rattle.std.proofs.Common.{◌≡◌, ℕ, List, ◌++◌, true, false, Option, Some, None, refl, ap}
use Rattle.std.specs.Prelude.{nat_eq, if◌then◌else◌}
use Rattle.comp_bytes.specs.Sections.{shares}
use Rattle.comp_bytes.specs.Grammar.{type_def, instance_type, intrinsic_bytes, core_argument, core_inline_export, argument, item}
use Rattle.comp_bytes.specs.declared.types.TypeDef.{TypeDef}
use Rattle.comp_bytes.specs.declared.types.InstanceType.{InstanceType}
use Rattle.comp_bytes.specs.declared.canon.CanonicalOption.{CanonicalOption}
use Rattle.comp_bytes.specs.declared.canon.Intrinsic.{Intrinsic}
use Rattle.comp_bytes.specs.declared.def.CoreArgument.{CoreArgument}
use Rattle.comp_bytes.specs.declared.def.CoreInlineExport.{CoreInlineExport}
use Rattle.comp_bytes.specs.declared.def.Argument.{Argument}
use Rattle.comp_bytes.specs.declared.def.Item.{Item}
use Rattle.comp_bytes.specs.declared.def.Item.TheVariants as items
use Rattle.byte_encoding.proofs.Readers.{Read, Reader, or_else, Reads, made_from, made, pair_from, pair_reads, as_reads, followed_from, followed_reads, tagged, skipped, number_from, number_reads, list_from, list_reads, name_from, name_reads, option_from, option_reads}
use Rattle.comp_bytes.proofs.ValueReaders.{kind_from, kind_reads, sort_from, sort_reads, primitive_from, extern_from, extern_reads, description_from, description_reads}
use Rattle.comp_bytes.proofs.TypeReaders.{defined_from, type_from, type_reads, alias_from, alias_reads, instance_type_from, instance_type_reads}
use Rattle.comp_bytes.proofs.CanonReaders.{options_from, options_reads, intrinsic_from, intrinsic_reads}

-- ---- what is given and exported

unfoldable pub core_argument_from : Reader CoreArgument
core_argument_from bs = made_from (λ p. record { name = p.0; instance = p.1 }) (pair_from (followed_from name_from) number_from) bs

core_argument_reads : Reads core_argument core_argument_from
unfolding core_argument_from
core_argument_reads = as_reads (pair_reads (followed_reads name_reads 0x12) number_reads) (λ (a : CoreArgument). (a.name, a.instance)) (λ p. record { name = p.0; instance = p.1 }) (λ a. refl)

unfoldable pub core_inline_export_from : Reader CoreInlineExport
core_inline_export_from bs = made_from (λ p. record { name = p.0.0; kind = p.0.1; index = p.1 }) (pair_from (pair_from name_from kind_from) number_from) bs

core_inline_export_reads : Reads core_inline_export core_inline_export_from
unfolding core_inline_export_from
core_inline_export_reads = as_reads (pair_reads (pair_reads name_reads kind_reads) number_reads) (λ (e : CoreInlineExport). ((e.name, e.kind), e.index)) (λ p. record { name = p.0.0; kind = p.0.1; index = p.1 }) (λ e. refl)

unfoldable pub argument_from : Reader Argument
argument_from bs = made_from (λ p. record { name = p.0.0; sort = p.0.1; index = p.1 }) (pair_from (pair_from name_from sort_from) number_from) bs

argument_reads : Reads argument argument_from
unfolding argument_from
argument_reads = as_reads (pair_reads (pair_reads name_reads sort_reads) number_reads) (λ (a : Argument). ((a.name, a.sort), a.index)) (λ p. record { name = p.0.0; sort = p.0.1; index = p.1 }) (λ a. refl)

-- ---- definitions that share a section

abbrev core_instance_after : ℕ → Reader Item
core_instance_after b bs =
    if nat_eq b 0x00 then made_from (λ p. items.CoreInstantiate p.0 p.1) (pair_from number_from (list_from core_argument_from)) bs
    else made_from (λ es. items.CoreExports es) (list_from core_inline_export_from) bs

abbrev type_entry_from : Reader Item
type_entry_from bs = or_else (made_from (λ t. items.Type t) type_from bs) (skipped (made_from (λ t. items.InstanceType t) instance_type_from) bs)

abbrev canon_after : ℕ → Reader Item
canon_after b bs =
    if nat_eq b 0x00 then skipped (made_from (λ p. items.Lift p.0.0 p.0.1 p.1) (pair_from (pair_from number_from options_from) number_from)) bs
    else skipped (made_from (λ p. items.Lower p.0 p.1) (pair_from number_from options_from)) bs

abbrev canon_from : Reader Item
canon_from bs = or_else (made_from (λ i. items.Intrinsic i) intrinsic_from bs) (tagged canon_after bs)

abbrev pub item_from : ℕ → Reader Item
item_from id bs =
    if nat_eq id 2 then tagged core_instance_after bs
    else if nat_eq id 5 then skipped (made_from (λ p. items.Instantiate p.0 p.1) (pair_from number_from (list_from argument_from))) bs
    else if nat_eq id 6 then made_from (λ a. items.Alias a) alias_from bs
    else if nat_eq id 7 then type_entry_from bs
    else if nat_eq id 8 then canon_from bs
    else if nat_eq id 10 then made_from (λ p. items.Import p.0 p.1) (pair_from extern_from description_from) bs
    else made_from (λ p. items.Export p.0.0.0 p.0.0.1 p.0.1 p.1) (pair_from (pair_from (pair_from extern_from sort_from) number_from) (option_from description_from)) bs

type_entry_again : (t : TypeDef) (rest : List ℕ) → type_entry_from ((type_def t).bytes ++ rest) ≡ Some (items.Type t, rest)
type_entry_again t rest =
    ap (λ o. or_else o (skipped (made_from (λ t. items.InstanceType t) instance_type_from) ((type_def t).bytes ++ rest))) (made type_reads (λ t. items.Type t) t rest)

instance_entry_again : (t : InstanceType) (rest : List ℕ) → type_entry_from ((instance_type t).bytes ++ rest) ≡ Some (items.InstanceType t, rest)
unfolding type_from defined_from primitive_from
instance_entry_again t rest = made instance_type_reads (λ t. items.InstanceType t) t rest

lift_again : (func : ℕ) (options : List CanonicalOption) (ty : ℕ) (rest : List ℕ) → canon_from ((item (items.Lift func options ty)).text.bytes ++ rest) ≡ Some (items.Lift func options ty, rest)
unfolding intrinsic_from
lift_again func options ty rest = made (pair_reads (pair_reads number_reads options_reads) number_reads) (λ p. items.Lift p.0.0 p.0.1 p.1) ((func, options), ty) rest

lower_again : (func : ℕ) (options : List CanonicalOption) (rest : List ℕ) → canon_from ((item (items.Lower func options)).text.bytes ++ rest) ≡ Some (items.Lower func options, rest)
unfolding intrinsic_from
lower_again func options rest = made (pair_reads number_reads options_reads) (λ p. items.Lower p.0 p.1) (func, options) rest

intrinsic_entry_again : (i : Intrinsic) (rest : List ℕ) → canon_from ((intrinsic_bytes i).bytes ++ rest) ≡ Some (items.Intrinsic i, rest)
intrinsic_entry_again i rest = ap (λ o. or_else o (tagged canon_after ((intrinsic_bytes i).bytes ++ rest))) (made intrinsic_reads (λ i. items.Intrinsic i) i rest)

pub item_again : (x : Item) (rest : List ℕ) → shares (item x).id ≡ true → item_from (item x).id ((item x).text.bytes ++ rest) ≡ Some (x, rest)
item_again (items.CoreModule bytes) rest s = cc
item_again (items.CoreInstantiate made_of args) rest s = made (pair_reads number_reads (list_reads core_argument_reads)) (λ p. items.CoreInstantiate p.0 p.1) (made_of, args) rest
item_again (items.CoreExports entries) rest s = made (list_reads core_inline_export_reads) (λ es. items.CoreExports es) entries rest
item_again (items.Instantiate made_of args) rest s = made (pair_reads number_reads (list_reads argument_reads)) (λ p. items.Instantiate p.0 p.1) (made_of, args) rest
item_again (items.Alias a) rest s = made alias_reads (λ a. items.Alias a) a rest
item_again (items.Type t) rest s = type_entry_again t rest
item_again (items.InstanceType t) rest s = instance_entry_again t rest
item_again (items.Lift func options ty) rest s = lift_again func options ty rest
item_again (items.Lower func options) rest s = lower_again func options rest
item_again (items.Intrinsic i) rest s = intrinsic_entry_again i rest
item_again (items.Import name description) rest s = made (pair_reads extern_reads description_reads) (λ p. items.Import p.0 p.1) (name, description) rest
item_again (items.Export name sort index description) rest s =
    made (pair_reads (pair_reads (pair_reads extern_reads sort_reads) number_reads) (option_reads description_reads)) (λ p. items.Export p.0.0.0 p.0.0.1 p.0.1 p.1) (((name, sort), index), description) rest
item_again (items.Custom name contents) rest s = cc

-- ---- definitions with a section of their own

abbrev custom_of : Read (List ℕ) → Option Item
custom_of None = None
custom_of (Some p) = Some (items.Custom p.0 p.1)

abbrev pub whole_from : ℕ → List ℕ → Option Item
whole_from id bs = if nat_eq id 1 then Some (items.CoreModule bs) else custom_of (name_from bs)

pub whole_again : (x : Item) → shares (item x).id ≡ false → whole_from (item x).id (item x).text.bytes ≡ Some x
whole_again (items.CoreModule bytes) s = refl
whole_again (items.CoreInstantiate made_of args) s = cc
whole_again (items.CoreExports entries) s = cc
whole_again (items.Instantiate made_of args) s = cc
whole_again (items.Alias a) s = cc
whole_again (items.Type t) s = cc
whole_again (items.InstanceType t) s = cc
whole_again (items.Lift func options ty) s = cc
whole_again (items.Lower func options) s = cc
whole_again (items.Intrinsic i) s = cc
whole_again (items.Import name description) s = cc
whole_again (items.Export name sort index description) s = cc
whole_again (items.Custom name contents) s = ap custom_of (name_reads.again name contents)
