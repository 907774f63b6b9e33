-- The built-in functions of streams and futures, made of the index of a type.
use Rattle.std.proofs.Common.{◌≡◌, ℕ, Bool, Option, Some, None, true, false, true≢false, is_some, refl, sym, ap, subst}
use Rattle.std.specs.Prelude.{option_map}
use Rattle.std.proofs.lemmas.Option.{none-some, same_Some}
use Rattle.comp_bytes.specs.Parts.{parts_of, parts_of_type}
use Rattle.comp_bytes.specs.declared.canon.Intrinsic.{Intrinsic}
use Rattle.comp_bytes.specs.declared.canon.Intrinsic.TheVariants as intrinsics
use Rattle.comp_roles.specs.declared.imports.Import.{Import}
use Rattle.comp_roles.specs.declared.imports.Import.TheVariants as imports
use Rattle.comp_roles.specs.declared.payloads.PayloadInfo.{PayloadInfo}
use Rattle.built_ins.specs.BuiltIns.{plain_intrinsic}
use Rattle.built_ins.specs.Payloads.{PayloadCall, called_of, named_call, called_payload, intrinsic_called, is_access}

-- where a role has such a function without options, it has one for each index
pub call_there : (type : ℕ) (role : Import) (c : PayloadCall) → is_access role ≡ false → named_call role ≡ Some c → is_some (intrinsic_called type role) ≡ true
call_there type (imports.StreamNew p) c apart is = refl
call_there type (imports.StreamCancelRead p is_async) c apart is = refl
call_there type (imports.StreamCancelWrite p is_async) c apart is = refl
call_there type (imports.StreamDropReadable p) c apart is = refl
call_there type (imports.StreamDropWritable p) c apart is = refl
call_there type (imports.FutureNew p) c apart is = refl
call_there type (imports.FutureCancelRead p is_async) c apart is = refl
call_there type (imports.FutureCancelWrite p is_async) c apart is = refl
call_there type (imports.FutureDropReadable p) c apart is = refl
call_there type (imports.FutureDropWritable p) c apart is = refl
call_there type (imports.StreamRead p is_async) c apart is = absurd (true≢false apart)
call_there type (imports.StreamWrite p is_async) c apart is = absurd (true≢false apart)
call_there type (imports.FutureRead p is_async) c apart is = absurd (true≢false apart)
call_there type (imports.FutureWrite p is_async) c apart is = absurd (true≢false apart)
call_there type role c apart is = absurd (none-some c is)

-- so it has, where it is of a stream or a future
pub call_known : (type : ℕ) (role : Import) → is_access role ≡ false → is_some (called_payload role) ≡ true → is_some (intrinsic_called type role) ≡ true
call_known type role apart h = by (named_call role) refl h
  where
    by : (o : Option PayloadCall) → named_call role ≡ o → is_some (option_map (λ (c : PayloadCall). c.info) o) ≡ true → is_some (intrinsic_called type role) ≡ true
    by (Some c) is some = call_there type role c apart is
    by None is some = absurd (true≢false (sym some))

-- a property that holds of each of these functions, by its name, holds of the one that a role has
module _ (P : Intrinsic → Intrinsic → Type 0) where
  of_one : (i j : Intrinsic) (p : PayloadInfo) (c : PayloadCall) (k : Intrinsic) → P i j → called_of i p ≡ Some c → Some j ≡ Some k → P c.intrinsic k
  of_one i j p c k h is made = subst (λ (x : Intrinsic). P x k) (ap (λ (c : PayloadCall). c.intrinsic) (same_Some (record { intrinsic = i; info = p }) c is)) (subst (P i) (same_Some j k made) h)

-- its parts are its name and its type
abbrev pub IsFull : ℕ → Intrinsic → Intrinsic → Type 0
IsFull type named full = parts_of full ≡ parts_of_type named type

pub call_parts : (type : ℕ) (role : Import) (c : PayloadCall) (i : Intrinsic) → named_call role ≡ Some c → intrinsic_called type role ≡ Some i → IsFull type c.intrinsic i
call_parts type (imports.StreamNew p) c i is made = of_one (IsFull type) (intrinsics.StreamNew 0) (intrinsics.StreamNew type) p c i refl is made
call_parts type (imports.StreamCancelRead p is_async) c i is made = of_one (IsFull type) (intrinsics.StreamCancelRead 0 is_async) (intrinsics.StreamCancelRead type is_async) p c i refl is made
call_parts type (imports.StreamCancelWrite p is_async) c i is made = of_one (IsFull type) (intrinsics.StreamCancelWrite 0 is_async) (intrinsics.StreamCancelWrite type is_async) p c i refl is made
call_parts type (imports.StreamDropReadable p) c i is made = of_one (IsFull type) (intrinsics.StreamDropReadable 0) (intrinsics.StreamDropReadable type) p c i refl is made
call_parts type (imports.StreamDropWritable p) c i is made = of_one (IsFull type) (intrinsics.StreamDropWritable 0) (intrinsics.StreamDropWritable type) p c i refl is made
call_parts type (imports.FutureNew p) c i is made = of_one (IsFull type) (intrinsics.FutureNew 0) (intrinsics.FutureNew type) p c i refl is made
call_parts type (imports.FutureCancelRead p is_async) c i is made = of_one (IsFull type) (intrinsics.FutureCancelRead 0 is_async) (intrinsics.FutureCancelRead type is_async) p c i refl is made
call_parts type (imports.FutureCancelWrite p is_async) c i is made = of_one (IsFull type) (intrinsics.FutureCancelWrite 0 is_async) (intrinsics.FutureCancelWrite type is_async) p c i refl is made
call_parts type (imports.FutureDropReadable p) c i is made = of_one (IsFull type) (intrinsics.FutureDropReadable 0) (intrinsics.FutureDropReadable type) p c i refl is made
call_parts type (imports.FutureDropWritable p) c i is made = of_one (IsFull type) (intrinsics.FutureDropWritable 0) (intrinsics.FutureDropWritable type) p c i refl is made
call_parts type (imports.StreamRead p is_async) c i is made = absurd (none-some i made)
call_parts type (imports.StreamWrite p is_async) c i is made = absurd (none-some i made)
call_parts type (imports.FutureRead p is_async) c i is made = absurd (none-some i made)
call_parts type (imports.FutureWrite p is_async) c i is made = absurd (none-some i made)
call_parts type role c i is made = absurd (none-some c is)

-- it is no function of no type
pub call_apart : (slot_1 : Bool) (role : Import) (c : PayloadCall) (i : Intrinsic) → named_call role ≡ Some c → plain_intrinsic slot_1 role ≡ Some i → ⊥
call_apart slot_1 (imports.StreamNew q) c i is h = none-some i h
call_apart slot_1 (imports.StreamCancelRead q is_async) c i is h = none-some i h
call_apart slot_1 (imports.StreamCancelWrite q is_async) c i is h = none-some i h
call_apart slot_1 (imports.StreamDropReadable q) c i is h = none-some i h
call_apart slot_1 (imports.StreamDropWritable q) c i is h = none-some i h
call_apart slot_1 (imports.FutureNew q) c i is h = none-some i h
call_apart slot_1 (imports.FutureCancelRead q is_async) c i is h = none-some i h
call_apart slot_1 (imports.FutureCancelWrite q is_async) c i is h = none-some i h
call_apart slot_1 (imports.FutureDropReadable q) c i is h = none-some i h
call_apart slot_1 (imports.FutureDropWritable q) c i is h = none-some i h
call_apart slot_1 (imports.StreamRead q is_async) c i is h = none-some i h
call_apart slot_1 (imports.StreamWrite q is_async) c i is h = none-some i h
call_apart slot_1 (imports.FutureRead q is_async) c i is h = none-some i h
call_apart slot_1 (imports.FutureWrite q is_async) c i is h = none-some i h
call_apart slot_1 role c i is h = none-some c is
