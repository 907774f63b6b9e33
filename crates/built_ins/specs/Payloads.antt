-- The built-in functions of streams and futures (Canonical ABI: `canon stream.{new,read,write,
-- cancel-read,cancel-write,drop-readable,drop-writable}`, and those of futures): which one a core
-- import is given, of which stream or future, and its core type.
use Rattle.std.specs.Prelude.{ℕ, Bool, true, false, [], ◌∷◌, Option, Some, None, option_map, if◌then◌else◌}
use Rattle.comp_bytes.specs.declared.canon.Intrinsic.{Intrinsic}
use Rattle.comp_bytes.specs.declared.canon.Intrinsic.TheVariants as intrinsics
use Rattle.comp_roles.specs.CoreTypes.{function_type}
use Rattle.comp_roles.specs.declared.imports.Import.{Import}
use Rattle.comp_roles.specs.declared.imports.Import.TheVariants as imports
use Rattle.comp_roles.specs.declared.payloads.PayloadInfo.{PayloadInfo}
use Rattle.core_types.specs.declared.types.FuncType.{FuncType}
use Rattle.core_types.specs.declared.types.ValType.TheVariants.{I32, I64}

-- a built-in function of a stream or a future, and that
pub record PayloadCall : Type 0 where
  pub intrinsic : Intrinsic
  pub info : PayloadInfo

abbrev pub called_of : Intrinsic → PayloadInfo → Option PayloadCall
called_of i p = Some (record { intrinsic = i; info = p })

-- the one that an import of this role is given, if it is one of these, where its type has this index;
-- a read and a write are named without their options
abbrev pub payload_call : (type : ℕ) → Import → Option PayloadCall
payload_call type (imports.StreamNew p) = called_of (intrinsics.StreamNew type) p
payload_call type (imports.StreamRead p is_async) = called_of (intrinsics.StreamRead type []) p
payload_call type (imports.StreamWrite p is_async) = called_of (intrinsics.StreamWrite type []) p
payload_call type (imports.StreamCancelRead p is_async) = called_of (intrinsics.StreamCancelRead type is_async) p
payload_call type (imports.StreamCancelWrite p is_async) = called_of (intrinsics.StreamCancelWrite type is_async) p
payload_call type (imports.StreamDropReadable p) = called_of (intrinsics.StreamDropReadable type) p
payload_call type (imports.StreamDropWritable p) = called_of (intrinsics.StreamDropWritable type) p
payload_call type (imports.FutureNew p) = called_of (intrinsics.FutureNew type) p
payload_call type (imports.FutureRead p is_async) = called_of (intrinsics.FutureRead type []) p
payload_call type (imports.FutureWrite p is_async) = called_of (intrinsics.FutureWrite type []) p
payload_call type (imports.FutureCancelRead p is_async) = called_of (intrinsics.FutureCancelRead type is_async) p
payload_call type (imports.FutureCancelWrite p is_async) = called_of (intrinsics.FutureCancelWrite type is_async) p
payload_call type (imports.FutureDropReadable p) = called_of (intrinsics.FutureDropReadable type) p
payload_call type (imports.FutureDropWritable p) = called_of (intrinsics.FutureDropWritable type) p
payload_call type role = None

-- whether it reads or writes, which has options
abbrev pub is_access : Import → Bool
is_access (imports.StreamRead p is_async) = true
is_access (imports.StreamWrite p is_async) = true
is_access (imports.FutureRead p is_async) = true
is_access (imports.FutureWrite p is_async) = true
is_access role = false

-- one that does not, as a whole
abbrev pub intrinsic_called : (type : ℕ) → Import → Option Intrinsic
intrinsic_called type role = if is_access role then None else option_map (λ (c : PayloadCall). c.intrinsic) (payload_call type role)

-- its name has no index of a type
abbrev pub named_call : Import → Option PayloadCall
named_call role = payload_call 0 role

-- the stream or the future that it is of
abbrev pub called_payload : Import → Option PayloadInfo
called_payload role = option_map (λ (c : PayloadCall). c.info) (named_call role)

-- the core type of one of these functions: an end is a number, and so is a code; both ends of a new
-- stream or future are packed in one of 64 bits; elements are at an address, and of a stream there is
-- a number of them
abbrev pub payload_signature : Intrinsic → FuncType
payload_signature (intrinsics.StreamNew type) = function_type [] (I64 ∷ [])
payload_signature (intrinsics.StreamRead type options) = function_type (I32 ∷ I32 ∷ I32 ∷ []) (I32 ∷ [])
payload_signature (intrinsics.StreamWrite type options) = function_type (I32 ∷ I32 ∷ I32 ∷ []) (I32 ∷ [])
payload_signature (intrinsics.StreamCancelRead type is_async) = function_type (I32 ∷ []) (I32 ∷ [])
payload_signature (intrinsics.StreamCancelWrite type is_async) = function_type (I32 ∷ []) (I32 ∷ [])
payload_signature (intrinsics.StreamDropReadable type) = function_type (I32 ∷ []) []
payload_signature (intrinsics.StreamDropWritable type) = function_type (I32 ∷ []) []
payload_signature (intrinsics.FutureNew type) = function_type [] (I64 ∷ [])
payload_signature (intrinsics.FutureRead type options) = function_type (I32 ∷ I32 ∷ []) (I32 ∷ [])
payload_signature (intrinsics.FutureWrite type options) = function_type (I32 ∷ I32 ∷ []) (I32 ∷ [])
payload_signature (intrinsics.FutureCancelRead type is_async) = function_type (I32 ∷ []) (I32 ∷ [])
payload_signature (intrinsics.FutureCancelWrite type is_async) = function_type (I32 ∷ []) (I32 ∷ [])
payload_signature (intrinsics.FutureDropReadable type) = function_type (I32 ∷ []) []
payload_signature (intrinsics.FutureDropWritable type) = function_type (I32 ∷ []) []
payload_signature other = function_type [] []
