-- Roles that are equal are one.
use Rattle.std.proofs.Common.{◌≡◌, Bool, true, false, ℕ, List, refl, sym, ap, ◌∙◌, true≢false, rules, ◌&&◌}
use Rattle.std.specs.Str.{bytes_eq}
use Rattle.std.specs.Cmp.{IsEquivalence}
use Rattle.std.specs.Cmp.Rules.{comparing}
use Rattle.std.proofs.lemmas.Slice.Eq.{bytes_eq-Decides}
use Rattle.std.proofs.lemmas.Bool.Decides.{Decides-eqb}
use Rattle.std.specs.Prelude.{nat_eq}
use Rattle.std.specs.Bool.{beq}
use Rattle.standard_kinds.specs.contracts.kinds.ExportKindPartialEq.TheImpl as kind_eq
use Rattle.standard_kinds.specs.contracts.kinds.StringEncodingPartialEq.TheImpl as encoding_eq
use Rattle.core_types.specs.contracts.types.ValTypePartialEq.TheImpl as val_eq
use Rattle.wit_data.specs.declared.functions.AbiVariant.{AbiVariant}
use Rattle.wit_data.specs.contracts.functions.AbiVariantPartialEq.TheImpl as abi_eq
use Rattle.record_values.specs.declared.names.Owner.{Owner}
use Rattle.record_values.specs.declared.roles.Payload.TheVariants as payloads
use Rattle.record_values.specs.declared.roles.ImportRole.TheVariants as imports
use Rattle.record_values.specs.declared.roles.ExportRole.TheVariants as exports
use Rattle.record_values.specs.Names.{is_same_owner, is_same_type}
use Rattle.record_values.specs.contracts.roles.IntrinsicPartialEq.TheImpl as intrinsic_eq
use Rattle.record_values.specs.contracts.roles.PayloadKindPartialEq.TheImpl as payload_kind_eq
use Rattle.record_values.specs.contracts.roles.PayloadOperationPartialEq.TheImpl as operation_eq
use Rattle.record_values.specs.contracts.roles.PayloadPartialEq.TheImpl as payload_eq
use Rattle.record_values.specs.contracts.roles.PlainExportPartialEq.TheImpl as plain_eq
use Rattle.record_values.specs.contracts.roles.ImportRolePartialEq.TheImpl as import_eq
use Rattle.record_values.specs.contracts.roles.ExportRolePartialEq.TheImpl as export_eq
use Rattle.record_merge.proofs.Equal.{IsOne, both, one_text, one_number, one_truth, one_owner, one_type}

one_kind : IsOne kind_eq.eq-value.it
one_kind x y e = search rules

one_encoding : IsOne encoding_eq.eq-value.it
one_encoding x y e = search rules

one_val : IsOne val_eq.eq-value.it
one_val x y e = search rules

one_abi : IsOne abi_eq.eq-value.it
one_abi x y e = search rules

one_intrinsic : IsOne intrinsic_eq.eq-value.it
one_intrinsic x y e = search rules

one_payload_kind : IsOne payload_kind_eq.eq-value.it
one_payload_kind x y e = search rules

one_operation : IsOne operation_eq.eq-value.it
one_operation x y e = search rules

one_plain : IsOne plain_eq.eq-value.it
one_plain x y e = search rules

-- an owner and a name after it
one_owned : (o p : Owner) (n m : List ℕ) → (is_same_owner o p && bytes_eq n m) ≡ true → (o ≡ p) × (n ≡ m)
one_owned o p n m e = let b = both (is_same_owner o p) (bytes_eq n m) e in (one_owner o p b.0, one_text n m b.1)

one_payload : IsOne payload_eq.eq-value.it
one_payload (payloads.Met i o f n) (payloads.Met j p g m) e =
    let b = both (beq i j) (is_same_owner o p && (bytes_eq f g && nat_eq n m)) e in
    let c = both (is_same_owner o p) (bytes_eq f g && nat_eq n m) b.1 in
    let d = both (bytes_eq f g) (nat_eq n m) c.1 in
    ap (λ z. payloads.Met z o f n) (one_truth i j b.0) ∙ ap (λ z. payloads.Met j z f n) (one_owner o p c.0) ∙ ap (λ z. payloads.Met j p z n) (one_text f g d.0) ∙ ap (λ z. payloads.Met j p g z) (one_number n m d.1)
one_payload payloads.Unit payloads.Unit e = refl
one_payload x y e = absurd (true≢false (sym e))

pub one_import_role : IsOne import_eq.eq-value.it
one_import_role (imports.Function o n a) (imports.Function p m d) e =
    let b = both (is_same_owner o p) (bytes_eq n m && abi_eq.eq-value.it a d) e in
    let c = both (bytes_eq n m) (abi_eq.eq-value.it a d) b.1 in
    ap (λ z. imports.Function z n a) (one_owner o p b.0) ∙ ap (λ z. imports.Function p z a) (one_text n m c.0) ∙ ap (λ z. imports.Function p m z) (one_abi a d c.1)
one_import_role (imports.ImportedDrop a) (imports.ImportedDrop b) e = ap imports.ImportedDrop (one_type a b e)
one_import_role (imports.ExportedDrop a) (imports.ExportedDrop b) e = ap imports.ExportedDrop (one_type a b e)
one_import_role (imports.ExportedRep a) (imports.ExportedRep b) e = ap imports.ExportedRep (one_type a b e)
one_import_role (imports.ExportedNew a) (imports.ExportedNew b) e = ap imports.ExportedNew (one_type a b e)
one_import_role (imports.TaskReturn o n) (imports.TaskReturn p m) e = let b = one_owned o p n m e in ap (λ z. imports.TaskReturn z n) b.0 ∙ ap (λ z. imports.TaskReturn p z) b.1
one_import_role (imports.Intrinsic a) (imports.Intrinsic b) e = ap imports.Intrinsic (one_intrinsic a b e)
one_import_role (imports.Payload k o p a) (imports.Payload l q r d) e =
    let b = both (payload_kind_eq.eq-value.it k l) (operation_eq.eq-value.it o q && (payload_eq.eq-value.it p r && beq a d)) e in
    let c = both (operation_eq.eq-value.it o q) (payload_eq.eq-value.it p r && beq a d) b.1 in
    let f = both (payload_eq.eq-value.it p r) (beq a d) c.1 in
    ap (λ z. imports.Payload z o p a) (one_payload_kind k l b.0) ∙ ap (λ z. imports.Payload l z p a) (one_operation o q c.0) ∙ ap (λ z. imports.Payload l q z a) (one_payload p r f.0) ∙ ap (λ z. imports.Payload l q r z) (one_truth a d f.1)
one_import_role (imports.ErrorContextNew a) (imports.ErrorContextNew b) e = ap imports.ErrorContextNew (one_encoding a b e)
one_import_role (imports.ErrorContextDebugMessage a) (imports.ErrorContextDebugMessage b) e = ap imports.ErrorContextDebugMessage (one_encoding a b e)
one_import_role (imports.ContextGet t s) (imports.ContextGet u r) e = let b = both (val_eq.eq-value.it t u) (nat_eq s r) e in ap (λ z. imports.ContextGet z s) (one_val t u b.0) ∙ ap (λ z. imports.ContextGet u z) (one_number s r b.1)
one_import_role (imports.ContextSet t s) (imports.ContextSet u r) e = let b = both (val_eq.eq-value.it t u) (nat_eq s r) e in ap (λ z. imports.ContextSet z s) (one_val t u b.0) ∙ ap (λ z. imports.ContextSet u z) (one_number s r b.1)
one_import_role (imports.TlsGet a) (imports.TlsGet b) e = ap imports.TlsGet (one_val a b e)
one_import_role (imports.TlsSet a) (imports.TlsSet b) e = ap imports.TlsSet (one_val a b e)
one_import_role (imports.MainExport n k) (imports.MainExport m j) e = let b = both (bytes_eq n m) (kind_eq.eq-value.it k j) e in ap (λ z. imports.MainExport z k) (one_text n m b.0) ∙ ap (λ z. imports.MainExport m z) (one_kind k j b.1)
one_import_role (imports.AdapterExport a f) (imports.AdapterExport b g) e = let c = both (bytes_eq a b) (bytes_eq f g) e in ap (λ z. imports.AdapterExport z f) (one_text a b c.0) ∙ ap (λ z. imports.AdapterExport b z) (one_text f g c.1)
one_import_role imports.Memory imports.Memory e = refl
one_import_role (imports.SubtaskCancel a) (imports.SubtaskCancel b) e = ap imports.SubtaskCancel (one_truth a b e)
one_import_role x y e = absurd (true≢false (sym e))

pub one_export_role : IsOne export_eq.eq-value.it
one_export_role (exports.Function o n a) (exports.Function p m d) e =
    let b = both (is_same_owner o p) (bytes_eq n m && abi_eq.eq-value.it a d) e in
    let c = both (bytes_eq n m) (abi_eq.eq-value.it a d) b.1 in
    ap (λ z. exports.Function z n a) (one_owner o p b.0) ∙ ap (λ z. exports.Function p z a) (one_text n m c.0) ∙ ap (λ z. exports.Function p m z) (one_abi a d c.1)
one_export_role (exports.PostReturn o n) (exports.PostReturn p m) e = let b = one_owned o p n m e in ap (λ z. exports.PostReturn z n) b.0 ∙ ap (λ z. exports.PostReturn p z) b.1
one_export_role (exports.Callback o n) (exports.Callback p m) e = let b = one_owned o p n m e in ap (λ z. exports.Callback z n) b.0 ∙ ap (λ z. exports.Callback p z) b.1
one_export_role (exports.Destructor a) (exports.Destructor b) e = ap exports.Destructor (one_type a b e)
one_export_role (exports.Plain a) (exports.Plain b) e = ap exports.Plain (one_plain a b e)
one_export_role x y e = absurd (true≢false (sym e))

-- ---- a role equals itself

abbrev EqualsItself : {X : Type 0} → (X → X → Bool) → Type 0
EqualsItself {X} eq = (x : X) → eq x x ≡ true

and_so : (a b : Bool) → a ≡ true → b ≡ true → (a && b) ≡ true
and_so true b e f = f
and_so false b e f = absurd (true≢false (sym e))

text_itself : EqualsItself bytes_eq
text_itself x = (bytes_eq-Decides x x).1 refl

number_itself : EqualsItself nat_eq
number_itself x = (Decides-eqb x x).1 refl

owner_laws : IsEquivalence is_same_owner
owner_laws = Prim.search (comparing, rules)

type_laws : IsEquivalence is_same_type
type_laws = Prim.search (comparing, rules)

truth_itself : EqualsItself beq
truth_itself x = search rules

kind_itself : EqualsItself kind_eq.eq-value.it
kind_itself x = search rules

encoding_itself : EqualsItself encoding_eq.eq-value.it
encoding_itself x = search rules

val_itself : EqualsItself val_eq.eq-value.it
val_itself x = search rules

abi_itself : EqualsItself abi_eq.eq-value.it
abi_itself x = search rules

intrinsic_itself : EqualsItself intrinsic_eq.eq-value.it
intrinsic_itself x = search rules

payload_kind_itself : EqualsItself payload_kind_eq.eq-value.it
payload_kind_itself x = search rules

operation_itself : EqualsItself operation_eq.eq-value.it
operation_itself x = search rules

plain_itself : EqualsItself plain_eq.eq-value.it
plain_itself x = search rules

owned_itself : (o : Owner) (n : List ℕ) → (is_same_owner o o && bytes_eq n n) ≡ true
owned_itself o n = and_so (is_same_owner o o) (bytes_eq n n) (owner_laws.refl o) (text_itself n)

called_itself : (o : Owner) (n : List ℕ) (a : AbiVariant) → (is_same_owner o o && (bytes_eq n n && abi_eq.eq-value.it a a)) ≡ true
called_itself o n a = and_so (is_same_owner o o) (bytes_eq n n && abi_eq.eq-value.it a a) (owner_laws.refl o) (and_so (bytes_eq n n) (abi_eq.eq-value.it a a) (text_itself n) (abi_itself a))

payload_itself : EqualsItself payload_eq.eq-value.it
payload_itself payloads.Unit = refl
payload_itself (payloads.Met i o f n) =
    and_so (beq i i) (is_same_owner o o && (bytes_eq f f && nat_eq n n)) (truth_itself i)
    (and_so (is_same_owner o o) (bytes_eq f f && nat_eq n n) (owner_laws.refl o) (and_so (bytes_eq f f) (nat_eq n n) (text_itself f) (number_itself n)))

pub import_role_itself : EqualsItself import_eq.eq-value.it
import_role_itself (imports.Function o n a) = called_itself o n a
import_role_itself (imports.ImportedDrop a) = type_laws.refl a
import_role_itself (imports.ExportedDrop a) = type_laws.refl a
import_role_itself (imports.ExportedRep a) = type_laws.refl a
import_role_itself (imports.ExportedNew a) = type_laws.refl a
import_role_itself (imports.TaskReturn o n) = owned_itself o n
import_role_itself (imports.Intrinsic a) = intrinsic_itself a
import_role_itself (imports.SubtaskCancel a) = truth_itself a
import_role_itself (imports.Payload k o p a) =
    and_so (payload_kind_eq.eq-value.it k k) (operation_eq.eq-value.it o o && (payload_eq.eq-value.it p p && beq a a)) (payload_kind_itself k)
    (and_so (operation_eq.eq-value.it o o) (payload_eq.eq-value.it p p && beq a a) (operation_itself o) (and_so (payload_eq.eq-value.it p p) (beq a a) (payload_itself p) (truth_itself a)))
import_role_itself (imports.ErrorContextNew a) = encoding_itself a
import_role_itself (imports.ErrorContextDebugMessage a) = encoding_itself a
import_role_itself (imports.ContextGet t s) = and_so (val_eq.eq-value.it t t) (nat_eq s s) (val_itself t) (number_itself s)
import_role_itself (imports.ContextSet t s) = and_so (val_eq.eq-value.it t t) (nat_eq s s) (val_itself t) (number_itself s)
import_role_itself (imports.TlsGet a) = val_itself a
import_role_itself (imports.TlsSet a) = val_itself a
import_role_itself imports.Memory = refl
import_role_itself (imports.MainExport n k) = and_so (bytes_eq n n) (kind_eq.eq-value.it k k) (text_itself n) (kind_itself k)
import_role_itself (imports.AdapterExport a f) = and_so (bytes_eq a a) (bytes_eq f f) (text_itself a) (text_itself f)

pub export_role_itself : EqualsItself export_eq.eq-value.it
export_role_itself (exports.Function o n a) = called_itself o n a
export_role_itself (exports.PostReturn o n) = owned_itself o n
export_role_itself (exports.Callback o n) = owned_itself o n
export_role_itself (exports.Destructor a) = type_laws.refl a
export_role_itself (exports.Plain a) = plain_itself a
