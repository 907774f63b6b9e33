-- Kinds of shims that are equal are one.
use Rattle.std.proofs.Common.{◌≡◌, Bool, true, false, ℕ, List, Option, Some, None, refl, sym, ap, subst, ◌∙◌, true≢false, rules, ◌&&◌, arith}
use Rattle.std.specs.Str.{bytes_eq}
use Rattle.std.specs.Option.{option_eq}
use Rattle.std.specs.Bool.{beq}
use Rattle.std.specs.Prelude.{nat_eq}
use Rattle.std.specs.Cmp.{booleans_Decides, IsEquivalence}
use Rattle.std.proofs.lemmas.Slice.Eq.{bytes_eq-Decides}
use Rattle.std.proofs.lemmas.Bool.Decides.{Decides-eqb}
use Rattle.standard_kinds.specs.contracts.kinds.StringEncodingPartialEq.TheImpl as encoding_eq
use Rattle.wit_data.specs.declared.functions.AbiVariant.{AbiVariant}
use Rattle.wit_data.specs.declared.functions.AbiVariant.TheVariants as abis
use Rattle.wit_data.specs.declared.ids.InterfaceId.{InterfaceId}
use Rattle.wit_data.specs.declared.worlds.WorldKey.{WorldKey}
use Rattle.wit_data.specs.declared.worlds.WorldKey.TheVariants as keys
use Rattle.wit_data.specs.contracts.ids.InterfaceIdPartialEq.TheImpl as interface_eq
use Rattle.wit_data.specs.contracts.ids.TypeIdPartialEq.TheImpl as type_id_eq
use Rattle.wit_data.specs.contracts.types.TypePartialEq.TheImpl as type_eq
use Rattle.wit_data.specs.Keys.{is_same_key, name_of_key, interface_count}
use Rattle.comp_roles.specs.declared.libraries.MainOrAdapter.TheVariants as users
use Rattle.comp_roles.specs.contracts.libraries.MainOrAdapterPartialEq.TheImpl as user_eq
use Rattle.comp_roles.specs.declared.payloads.PayloadInfo.{PayloadInfo}
use Rattle.comp_roles.specs.declared.payloads.PayloadType.{PayloadType}
use Rattle.comp_roles.specs.declared.payloads.PayloadType.TheVariants as payloads
use Rattle.comp_roles.specs.contracts.payloads.PayloadInfoPartialEq.TheImpl as info_eq
use Rattle.comp_roles.specs.contracts.payloads.PayloadTypePartialEq.TheImpl as payload_eq
use Rattle.comp_roles.specs.contracts.payloads.PayloadFuncKindPartialEq.TheImpl as end_eq
use Rattle.comp_worlds.specs.Lowerings.{is_same_lowering, abi_number}
use Rattle.comp_worlds.specs.declared.lowerings.LoweringKey.{LoweringKey}
use Rattle.shim_plan.specs.Laws.{EqualKindsAreOne}
use Rattle.shim_plan.specs.declared.kinds.ShimKind.TheVariants as kinds
use Rattle.shim_plan.specs.contracts.kinds.ShimKindPartialEq.TheImpl as kind_eq
use Rattle.shim_plan.specs.contracts.kinds.ShimKindEq.TheImpl.Laws.{laws-law}

-- what is equal is one
abbrev pub IsOne : {X : Type 0} → (X → X → Bool) → Type 0
IsOne {X} eq = (x y : X) → eq x y ≡ true → x ≡ y

both : (a b : Bool) → (a && b) ≡ true → (a ≡ true) × (b ≡ true)
both true b e = (refl, e)
both false b e = absurd (true≢false (sym e))

one_text : IsOne bytes_eq
one_text x y e = (bytes_eq-Decides x y).0 e

one_number : IsOne nat_eq
one_number x y e = (Decides-eqb x y).0 e

one_truth : IsOne beq
one_truth x y e = (booleans_Decides x y).0 e

one_option : {X : Type 0} (eq : X → X → Bool) → IsOne eq → IsOne (option_eq eq)
one_option eq one None None e = refl
one_option eq one (Some x) (Some y) e = ap Some (one x y e)
one_option eq one None (Some y) e = absurd (true≢false (sym e))
one_option eq one (Some x) None e = absurd (true≢false (sym e))

one_encoding : IsOne encoding_eq.eq-value.it
one_encoding x y e = search rules

one_end : IsOne end_eq.eq-value.it
one_end x y e = search rules

one_user : IsOne user_eq.eq-value.it
one_user users.Main users.Main e = refl
one_user (users.Adapter a) (users.Adapter b) e = ap users.Adapter (one_text a b e)
one_user x y e = absurd (true≢false (sym e))

one_interface : IsOne interface_eq.eq-value.it
one_interface x y e = search rules

one_type : IsOne type_eq.eq-value.it
one_type x y e = search rules

key_by : (x y : WorldKey) → name_of_key x ≡ name_of_key y → interface_count x ≡ interface_count y → x ≡ y
key_by (keys.Name a) (keys.Name b) n c = ap keys.Name n
key_by (keys.Interface a) (keys.Interface b) n c = let build : ℕ → WorldKey = λ i. keys.Interface (record { index = i }) in ap build (omega (arith, c))
key_by x y n c = absurd (omega (arith, c))

one_key : IsOne is_same_key
one_key x y e =
    let b = both (bytes_eq (name_of_key x) (name_of_key y)) (nat_eq (interface_count x) (interface_count y)) e in
    key_by x y (one_text (name_of_key x) (name_of_key y) b.0) (one_number (interface_count x) (interface_count y) b.1)

abi_by : (x y : AbiVariant) → abi_number x ≡ abi_number y → x ≡ y
abi_by abis.GuestImport abis.GuestImport e = refl
abi_by abis.GuestExport abis.GuestExport e = refl
abi_by abis.GuestImportAsync abis.GuestImportAsync e = refl
abi_by abis.GuestExportAsync abis.GuestExportAsync e = refl
abi_by abis.GuestExportAsyncStackful abis.GuestExportAsyncStackful e = refl
abi_by x y e = absurd (omega (arith, e))

lowering_by : (x y : LoweringKey) → x.name ≡ y.name → x.abi ≡ y.abi → x ≡ y
lowering_by x y n a =
    let build : List ℕ → AbiVariant → LoweringKey = λ m b. record { name = m; abi = b } in
    ap (λ z. build z x.abi) n ∙ ap (λ z. build y.name z) a

one_lowering : IsOne is_same_lowering
one_lowering x y e =
    let b = both (bytes_eq x.name y.name) (nat_eq (abi_number x.abi) (abi_number y.abi)) e in
    lowering_by x y (one_text x.name y.name b.0) (abi_by x.abi y.abi (one_number (abi_number x.abi) (abi_number y.abi) b.1))

one_payload : IsOne payload_eq.eq-value.it
one_payload (payloads.Typed i f) (payloads.Typed j g) e =
    let b = both (type_id_eq.eq-value.it i j) (bytes_eq f g) e in
    let same : IsOne type_id_eq.eq-value.it = λ x y h. search rules in
    ap (λ z. payloads.Typed z f) (same i j b.0) ∙ ap (λ z. payloads.Typed j z) (one_text f g b.1)
one_payload payloads.UnitFuture payloads.UnitFuture e = refl
one_payload payloads.UnitStream payloads.UnitStream e = refl
one_payload x y e = absurd (true≢false (sym e))

info_by : (x y : PayloadInfo) → x.name ≡ y.name → x.ty ≡ y.ty → x.key ≡ y.key → x.interface ≡ y.interface → x.imported ≡ y.imported → x ≡ y
info_by x y n t k i m =
    let build : List ℕ → PayloadType → Option WorldKey → Option InterfaceId → Bool → PayloadInfo = λ a b c d f. record { name = a; ty = b; key = c; interface = d; imported = f } in
    ap (λ z. build z x.ty x.key x.interface x.imported) n ∙ ap (λ z. build y.name z x.key x.interface x.imported) t ∙ ap (λ z. build y.name y.ty z x.interface x.imported) k ∙ ap (λ z. build y.name y.ty y.key z x.imported) i ∙ ap (λ z. build y.name y.ty y.key y.interface z) m

one_info : IsOne info_eq.eq-value.it
one_info x y e =
    let b = both (bytes_eq x.name y.name) (payload_eq.eq-value.it x.ty y.ty && (option_eq is_same_key x.key y.key && (option_eq interface_eq.eq-value.it x.interface y.interface && beq x.imported y.imported))) e in
    let c = both (payload_eq.eq-value.it x.ty y.ty) (option_eq is_same_key x.key y.key && (option_eq interface_eq.eq-value.it x.interface y.interface && beq x.imported y.imported)) b.1 in
    let d = both (option_eq is_same_key x.key y.key) (option_eq interface_eq.eq-value.it x.interface y.interface && beq x.imported y.imported) c.1 in
    let f = both (option_eq interface_eq.eq-value.it x.interface y.interface) (beq x.imported y.imported) d.1 in
    info_by x y (one_text x.name y.name b.0) (one_payload x.ty y.ty c.0) (one_option is_same_key one_key x.key y.key d.0) (one_option interface_eq.eq-value.it one_interface x.interface y.interface f.0) (one_truth x.imported y.imported f.1)

pub one_kind : IsOne kind_eq.eq-value.it
one_kind (kinds.IndirectLowering i f r n) (kinds.IndirectLowering j g s m) e =
    let b = both (option_eq is_same_key i j) (is_same_lowering f g && (user_eq.eq-value.it r s && encoding_eq.eq-value.it n m)) e in
    let c = both (is_same_lowering f g) (user_eq.eq-value.it r s && encoding_eq.eq-value.it n m) b.1 in
    let d = both (user_eq.eq-value.it r s) (encoding_eq.eq-value.it n m) c.1 in
    ap (λ z. kinds.IndirectLowering z f r n) (one_option is_same_key one_key i j b.0) ∙ ap (λ z. kinds.IndirectLowering j z r n) (one_lowering f g c.0) ∙ ap (λ z. kinds.IndirectLowering j g z n) (one_user r s d.0) ∙ ap (λ z. kinds.IndirectLowering j g s z) (one_encoding n m d.1)
one_kind (kinds.Adapter a f) (kinds.Adapter b g) e = let c = both (bytes_eq a b) (bytes_eq f g) e in ap (λ z. kinds.Adapter z f) (one_text a b c.0) ∙ ap (λ z. kinds.Adapter b z) (one_text f g c.1)
one_kind (kinds.ResourceDtor a f) (kinds.ResourceDtor b g) e = let c = both (user_eq.eq-value.it a b) (bytes_eq f g) e in ap (λ z. kinds.ResourceDtor z f) (one_user a b c.0) ∙ ap (λ z. kinds.ResourceDtor b z) (one_text f g c.1)
one_kind (kinds.PayloadFunc u i k a) (kinds.PayloadFunc v j l d) e =
    let b = both (user_eq.eq-value.it u v) (info_eq.eq-value.it i j && (end_eq.eq-value.it k l && beq a d)) e in
    let c = both (info_eq.eq-value.it i j) (end_eq.eq-value.it k l && beq a d) b.1 in
    let f = both (end_eq.eq-value.it k l) (beq a d) c.1 in
    ap (λ z. kinds.PayloadFunc z i k a) (one_user u v b.0) ∙ ap (λ z. kinds.PayloadFunc v z k a) (one_info i j c.0) ∙ ap (λ z. kinds.PayloadFunc v j z a) (one_end k l f.0) ∙ ap (λ z. kinds.PayloadFunc v j l z) (one_truth a d f.1)
one_kind kinds.WaitableSetWait kinds.WaitableSetWait e = refl
one_kind kinds.WaitableSetPoll kinds.WaitableSetPoll e = refl
one_kind (kinds.TaskReturn i f r u n) (kinds.TaskReturn j g s v m) e =
    let b = both (option_eq interface_eq.eq-value.it i j) (bytes_eq f g && (option_eq type_eq.eq-value.it r s && (user_eq.eq-value.it u v && encoding_eq.eq-value.it n m))) e in
    let c = both (bytes_eq f g) (option_eq type_eq.eq-value.it r s && (user_eq.eq-value.it u v && encoding_eq.eq-value.it n m)) b.1 in
    let d = both (option_eq type_eq.eq-value.it r s) (user_eq.eq-value.it u v && encoding_eq.eq-value.it n m) c.1 in
    let h = both (user_eq.eq-value.it u v) (encoding_eq.eq-value.it n m) d.1 in
    ap (λ z. kinds.TaskReturn z f r u n) (one_option interface_eq.eq-value.it one_interface i j b.0) ∙ ap (λ z. kinds.TaskReturn j z r u n) (one_text f g c.0) ∙ ap (λ z. kinds.TaskReturn j g z u n) (one_option type_eq.eq-value.it one_type r s d.0) ∙ ap (λ z. kinds.TaskReturn j g s z n) (one_user u v h.0) ∙ ap (λ z. kinds.TaskReturn j g s v z) (one_encoding n m h.1)
one_kind (kinds.ErrorContextNew n) (kinds.ErrorContextNew m) e = ap kinds.ErrorContextNew (one_encoding n m e)
one_kind (kinds.ErrorContextDebugMessage u n) (kinds.ErrorContextDebugMessage v m) e = let c = both (user_eq.eq-value.it u v) (encoding_eq.eq-value.it n m) e in ap (λ z. kinds.ErrorContextDebugMessage z n) (one_user u v c.0) ∙ ap (λ z. kinds.ErrorContextDebugMessage v z) (one_encoding n m c.1)
one_kind (kinds.Realloc a f) (kinds.Realloc b g) e = let c = both (user_eq.eq-value.it a b) (bytes_eq f g) e in ap (λ z. kinds.Realloc z f) (one_user a b c.0) ∙ ap (λ z. kinds.Realloc b z) (one_text f g c.1)
one_kind x y e = absurd (true≢false (sym e))

-- ---- a kind equals itself

kind_laws : IsEquivalence kind_eq.eq-value.it
kind_laws = laws-law

pub are_one : EqualKindsAreOne
are_one a b = (one_kind a b, λ e. subst (λ x. kind_eq.eq-value.it a x ≡ true) e (kind_laws.refl a))
