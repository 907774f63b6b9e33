-- Built-in functions: those without operands have the core type of their table, and so have those of
-- a resource's handles, of which the parts are known, and those of streams and futures.
use Rattle.std.proofs.Common.{[], ◌≡◌, ℕ, Bool, true, false, true≢false, Option, Some, IsSome, refl, sym, ap, subst}
use Rattle.std.proofs.lemmas.Option.{none-some, same_Some}
use Rattle.built_ins.specs.BuiltIns.{plain_type}
use Rattle.built_ins.specs.Payloads.{PayloadCall, called_of, named_call, payload_signature, is_access}
use Rattle.comp_bytes.specs.Parts.{parts_of_type, parts_of}
use Rattle.comp_bytes.specs.declared.canon.Intrinsic.{Intrinsic}
use Rattle.comp_bytes.specs.declared.canon.Intrinsic.TheVariants as intrinsics
use Rattle.comp_links.specs.Targets.{ResourceFunction, New, Rep, Drop}
use Rattle.comp_roles.specs.declared.imports.Import.{Import}
use Rattle.comp_roles.specs.declared.imports.Import.TheVariants as imports
use Rattle.comp_roles.specs.declared.payloads.PayloadInfo.{PayloadInfo}
use Rattle.comp_terms.specs.Terms.{intrinsic_of}
use Rattle.comp_trees.specs.Trees.{Tree}
use Rattle.core_types.specs.declared.types.FuncType.{FuncType}
use Rattle.comp_runs.specs.Signatures.{intrinsic_signature}
use Rattle.link_laws.proofs.Stores.{resource_core}

-- one without operands has the core type of the table
pub plain_signature : (i : Intrinsic) (operand : Option Tree) (type : FuncType) → plain_type i ≡ Some type → intrinsic_signature i operand ≡ type
plain_signature intrinsics.TaskCancel operand type h = same_Some _ type h
plain_signature intrinsics.BackpressureInc operand type h = same_Some _ type h
plain_signature intrinsics.BackpressureDec operand type h = same_Some _ type h
plain_signature intrinsics.WaitableSetNew operand type h = same_Some _ type h
plain_signature intrinsics.WaitableSetDrop operand type h = same_Some _ type h
plain_signature intrinsics.WaitableJoin operand type h = same_Some _ type h
plain_signature intrinsics.SubtaskDrop operand type h = same_Some _ type h
plain_signature (intrinsics.SubtaskCancel is_async) operand type h = same_Some _ type h
plain_signature intrinsics.ErrorContextDrop operand type h = same_Some _ type h
plain_signature (intrinsics.ContextGet slot_type slot) operand type h = same_Some _ type h
plain_signature (intrinsics.ContextSet slot_type slot) operand type h = same_Some _ type h
plain_signature i operand type h = absurd (none-some type h)

-- the core type of a function of a resource's handles
pub resource_signature : (function : ResourceFunction) (operand : Option Tree) → intrinsic_signature (intrinsic_of function 0) operand ≡ resource_core function
resource_signature New operand = refl
resource_signature Rep operand = refl
resource_signature Drop operand = refl

-- and its parts
pub resource_parts : (function : ResourceFunction) (type : ℕ) → parts_of (intrinsic_of function type) ≡ parts_of_type (intrinsic_of function 0) type
resource_parts New type = refl
resource_parts Rep type = refl
resource_parts Drop type = refl

-- ---- functions of streams and futures

-- one that is called by its name has its core type
of_payload : (operand : Option Tree) (i : Intrinsic) (p : PayloadInfo) (c : PayloadCall) → intrinsic_signature i operand ≡ payload_signature i → called_of i p ≡ Some c → intrinsic_signature c.intrinsic operand ≡ payload_signature c.intrinsic
of_payload operand i p c h is = subst (λ (x : Intrinsic). intrinsic_signature x operand ≡ payload_signature x) (ap (λ (c : PayloadCall). c.intrinsic) (same_Some (record { intrinsic = i; info = p }) c is)) h

pub payload_core : (operand : Option Tree) (role : Import) (c : PayloadCall) → named_call role ≡ Some c → intrinsic_signature c.intrinsic operand ≡ payload_signature c.intrinsic
payload_core operand (imports.StreamNew q) c is = of_payload operand (intrinsics.StreamNew 0) q c refl is
payload_core operand (imports.StreamCancelRead q is_async) c is = of_payload operand (intrinsics.StreamCancelRead 0 is_async) q c refl is
payload_core operand (imports.StreamCancelWrite q is_async) c is = of_payload operand (intrinsics.StreamCancelWrite 0 is_async) q c refl is
payload_core operand (imports.StreamDropReadable q) c is = of_payload operand (intrinsics.StreamDropReadable 0) q c refl is
payload_core operand (imports.StreamDropWritable q) c is = of_payload operand (intrinsics.StreamDropWritable 0) q c refl is
payload_core operand (imports.FutureNew q) c is = of_payload operand (intrinsics.FutureNew 0) q c refl is
payload_core operand (imports.FutureCancelRead q is_async) c is = of_payload operand (intrinsics.FutureCancelRead 0 is_async) q c refl is
payload_core operand (imports.FutureCancelWrite q is_async) c is = of_payload operand (intrinsics.FutureCancelWrite 0 is_async) q c refl is
payload_core operand (imports.FutureDropReadable q) c is = of_payload operand (intrinsics.FutureDropReadable 0) q c refl is
payload_core operand (imports.FutureDropWritable q) c is = of_payload operand (intrinsics.FutureDropWritable 0) q c refl is
payload_core operand (imports.StreamRead q is_async) c is = of_payload operand (intrinsics.StreamRead 0 []) q c refl is
payload_core operand (imports.StreamWrite q is_async) c is = of_payload operand (intrinsics.StreamWrite 0 []) q c refl is
payload_core operand (imports.FutureRead q is_async) c is = of_payload operand (intrinsics.FutureRead 0 []) q c refl is
payload_core operand (imports.FutureWrite q is_async) c is = of_payload operand (intrinsics.FutureWrite 0 []) q c refl is
payload_core operand role c is = absurd (none-some c is)

-- ---- functions that a shim may stand for

-- those that have options
abbrev pub may_have_shim : Intrinsic → Bool
may_have_shim (intrinsics.TaskReturn result options) = true
may_have_shim (intrinsics.WaitableSetWait memory) = true
may_have_shim (intrinsics.WaitableSetPoll memory) = true
may_have_shim (intrinsics.ErrorContextNew options) = true
may_have_shim (intrinsics.ErrorContextDebugMessage options) = true
may_have_shim (intrinsics.StreamRead type options) = true
may_have_shim (intrinsics.StreamWrite type options) = true
may_have_shim (intrinsics.FutureRead type options) = true
may_have_shim (intrinsics.FutureWrite type options) = true
may_have_shim i = false

-- no function without operands is one of them
pub plain_has_none : (i : Intrinsic) → IsSome (plain_type i) → may_have_shim i ≡ false
plain_has_none (intrinsics.TaskReturn result options) h = absurd (true≢false (sym h))
plain_has_none (intrinsics.WaitableSetWait memory) h = absurd (true≢false (sym h))
plain_has_none (intrinsics.WaitableSetPoll memory) h = absurd (true≢false (sym h))
plain_has_none (intrinsics.ErrorContextNew options) h = absurd (true≢false (sym h))
plain_has_none (intrinsics.ErrorContextDebugMessage options) h = absurd (true≢false (sym h))
plain_has_none (intrinsics.StreamRead type options) h = absurd (true≢false (sym h))
plain_has_none (intrinsics.StreamWrite type options) h = absurd (true≢false (sym h))
plain_has_none (intrinsics.FutureRead type options) h = absurd (true≢false (sym h))
plain_has_none (intrinsics.FutureWrite type options) h = absurd (true≢false (sym h))
plain_has_none i h = refl

-- nor is one of a stream or a future that neither reads nor writes
of_none : (i : Intrinsic) (p : PayloadInfo) (c : PayloadCall) → may_have_shim i ≡ false → called_of i p ≡ Some c → may_have_shim c.intrinsic ≡ false
of_none i p c h is = subst (λ (x : Intrinsic). may_have_shim x ≡ false) (ap (λ (c : PayloadCall). c.intrinsic) (same_Some (record { intrinsic = i; info = p }) c is)) h

pub payload_has_none : (role : Import) (c : PayloadCall) → is_access role ≡ false → named_call role ≡ Some c → may_have_shim c.intrinsic ≡ false
payload_has_none (imports.StreamNew q) c apart is = of_none (intrinsics.StreamNew 0) q c refl is
payload_has_none (imports.StreamCancelRead q is_async) c apart is = of_none (intrinsics.StreamCancelRead 0 is_async) q c refl is
payload_has_none (imports.StreamCancelWrite q is_async) c apart is = of_none (intrinsics.StreamCancelWrite 0 is_async) q c refl is
payload_has_none (imports.StreamDropReadable q) c apart is = of_none (intrinsics.StreamDropReadable 0) q c refl is
payload_has_none (imports.StreamDropWritable q) c apart is = of_none (intrinsics.StreamDropWritable 0) q c refl is
payload_has_none (imports.FutureNew q) c apart is = of_none (intrinsics.FutureNew 0) q c refl is
payload_has_none (imports.FutureCancelRead q is_async) c apart is = of_none (intrinsics.FutureCancelRead 0 is_async) q c refl is
payload_has_none (imports.FutureCancelWrite q is_async) c apart is = of_none (intrinsics.FutureCancelWrite 0 is_async) q c refl is
payload_has_none (imports.FutureDropReadable q) c apart is = of_none (intrinsics.FutureDropReadable 0) q c refl is
payload_has_none (imports.FutureDropWritable q) c apart is = of_none (intrinsics.FutureDropWritable 0) q c refl is
payload_has_none (imports.StreamRead q is_async) c apart is = absurd (true≢false apart)
payload_has_none (imports.StreamWrite q is_async) c apart is = absurd (true≢false apart)
payload_has_none (imports.FutureRead q is_async) c apart is = absurd (true≢false apart)
payload_has_none (imports.FutureWrite q is_async) c apart is = absurd (true≢false apart)
payload_has_none role c apart is = absurd (none-some c is)
