-- The options of the built-in functions that read and write the elements of streams and futures
-- (Canonical ABI: `stream.read`, `stream.write`, `future.read`, `future.write`).
use Rattle.std.specs.Prelude.{ℕ, List, Bool, Option, Some, None}
use Rattle.std.specs.Int.RustNames.{bit_or}
use Rattle.wit_data.specs.declared.types.Type.{«Type» as Ty}
use Rattle.wit_data.specs.declared.types.TypeDef.{TypeDef}
use Rattle.wit_data.specs.Values.{kind_at}
use Rattle.wit_data.specs.Contents.{contents_bits, carried_by}
use Rattle.comp_roles.specs.declared.payloads.PayloadType.{PayloadType}
use Rattle.comp_roles.specs.declared.payloads.PayloadType.TheVariants as payloads
use Rattle.comp_roles.specs.declared.payloads.PayloadFuncKind.{PayloadFuncKind}
use Rattle.comp_roles.specs.declared.payloads.PayloadFuncKind.TheVariants as ends
use Rattle.comp_options.specs.declared.required.Direction.{Direction}
use Rattle.comp_options.specs.declared.required.Direction.TheVariants as ways
use Rattle.comp_options.specs.Options.{with_if, passed, memory_bit, async_bit}

-- the type of its elements
abbrev pub carried : List TypeDef → PayloadType → Option Ty
carried types (payloads.Typed id function) = carried_by (kind_at types id.index)
carried types _ = None

-- written elements are lifted, read elements are lowered
abbrev pub way_of : PayloadFuncKind → Direction
way_of ends.FutureWrite = ways.Lift
way_of ends.StreamWrite = ways.Lift
way_of ends.FutureRead = ways.Lower
way_of ends.StreamRead = ways.Lower

-- elements are passed in memory
abbrev pub payload_set : List TypeDef → PayloadType → PayloadFuncKind → Bool → ℕ
payload_set types payload kind is_async = with_if is_async async_bit (bit_or (passed (way_of kind) (contents_bits types (carried types payload)) 0) memory_bit)
