-- The types of streams and futures that are there (component model, WIT: `stream`, `future`).
use Rattle.wit_data.specs.Sound.{HasTypeId}
use Rattle.wit_data.specs.declared.resolve.Resolve.{Resolve}
use Rattle.comp_roles.specs.declared.payloads.PayloadType.{PayloadType}
use Rattle.comp_roles.specs.declared.payloads.PayloadType.TheVariants as payloads

-- the type exists in the resolve
abbrev pub HasPayload : Resolve → PayloadType → Type 0
HasPayload r (payloads.Typed id function) = HasTypeId r id
HasPayload r _ = Unit {0}
