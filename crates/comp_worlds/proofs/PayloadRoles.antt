-- The streams and futures of roles, by the built-in functions that these are given.
use Rattle.std.proofs.Common.{◌≡◌, true, Some, None, is_some, refl, sym, subst, true≢false}
use Rattle.std.proofs.lemmas.Option.{none-some, same_Some}
use Rattle.built_ins.specs.BuiltIns.{plain_intrinsic}
use Rattle.built_ins.specs.Payloads.{called_payload}
use Rattle.comp_roles.specs.declared.imports.Import.{Import}
use Rattle.comp_roles.specs.declared.imports.Import.TheVariants as imports
use Rattle.comp_roles.specs.declared.payloads.PayloadInfo.{PayloadInfo}
use Rattle.world_values.specs.Mentions.{payload_in}
use Rattle.comp_worlds.specs.Payloads.{IsPayload}
use Rattle.comp_worlds.specs.Worlds.{IsImportRole}
use Rattle.comp_worlds.specs.declared.world.ComponentWorld.{ComponentWorld}

-- the stream or the future of such a function is that of the role
pub called_in : (role : Import) (p : PayloadInfo) → called_payload role ≡ Some p → payload_in role ≡ Some p
called_in (imports.StreamNew q) p e = e
called_in (imports.StreamRead q is_async) p e = e
called_in (imports.StreamWrite q is_async) p e = e
called_in (imports.StreamCancelRead q is_async) p e = e
called_in (imports.StreamCancelWrite q is_async) p e = e
called_in (imports.StreamDropReadable q) p e = e
called_in (imports.StreamDropWritable q) p e = e
called_in (imports.FutureNew q) p e = e
called_in (imports.FutureRead q is_async) p e = e
called_in (imports.FutureWrite q is_async) p e = e
called_in (imports.FutureCancelRead q is_async) p e = e
called_in (imports.FutureCancelWrite q is_async) p e = e
called_in (imports.FutureDropReadable q) p e = e
called_in (imports.FutureDropWritable q) p e = e
called_in role p e = absurd (none-some p e)

-- a built-in function of no type is of none
pub plain_in : (role : Import) → is_some (plain_intrinsic true role) ≡ true → payload_in role ≡ None
plain_in imports.ExportedTaskCancel h = refl
plain_in imports.BackpressureInc h = refl
plain_in imports.BackpressureDec h = refl
plain_in imports.WaitableSetNew h = refl
plain_in imports.WaitableSetDrop h = refl
plain_in imports.WaitableJoin h = refl
plain_in imports.SubtaskDrop h = refl
plain_in (imports.SubtaskCancel is_async) h = refl
plain_in imports.ErrorContextDrop h = refl
plain_in (imports.ContextGet type slot) h = refl
plain_in (imports.ContextSet type slot) h = refl
plain_in (imports.TlsBaseGet type) h = refl
plain_in (imports.TlsBaseSet type) h = refl
plain_in role h = absurd (true≢false (sym h))

-- and it is one of a validated world
pub called_right : (w : ComponentWorld) (role : Import) (p : PayloadInfo) → called_payload role ≡ Some p → IsImportRole w role → IsPayload w p
called_right w (imports.StreamNew q) p e h = subst (IsPayload w) (same_Some q p e) h
called_right w (imports.StreamRead q is_async) p e h = subst (IsPayload w) (same_Some q p e) h
called_right w (imports.StreamWrite q is_async) p e h = subst (IsPayload w) (same_Some q p e) h
called_right w (imports.StreamCancelRead q is_async) p e h = subst (IsPayload w) (same_Some q p e) h
called_right w (imports.StreamCancelWrite q is_async) p e h = subst (IsPayload w) (same_Some q p e) h
called_right w (imports.StreamDropReadable q) p e h = subst (IsPayload w) (same_Some q p e) h
called_right w (imports.StreamDropWritable q) p e h = subst (IsPayload w) (same_Some q p e) h
called_right w (imports.FutureNew q) p e h = subst (IsPayload w) (same_Some q p e) h
called_right w (imports.FutureRead q is_async) p e h = subst (IsPayload w) (same_Some q p e) h
called_right w (imports.FutureWrite q is_async) p e h = subst (IsPayload w) (same_Some q p e) h
called_right w (imports.FutureCancelRead q is_async) p e h = subst (IsPayload w) (same_Some q p e) h
called_right w (imports.FutureCancelWrite q is_async) p e h = subst (IsPayload w) (same_Some q p e) h
called_right w (imports.FutureDropReadable q) p e h = subst (IsPayload w) (same_Some q p e) h
called_right w (imports.FutureDropWritable q) p e h = subst (IsPayload w) (same_Some q p e) h
called_right w role p e h = absurd (none-some p e)
