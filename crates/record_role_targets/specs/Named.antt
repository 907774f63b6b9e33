-- What an import names exists in the resolve: a resource that is dropped, a stream or future, and the function of a
-- `task.return`.
use Rattle.std.specs.Prelude.{Option, Some, None}
use Rattle.wit_data.specs.Sound.{HasType}
use Rattle.wit_data.specs.declared.resolve.Resolve.{Resolve}
use Rattle.wit_data.specs.declared.types.Type.{«Type» as Ty}
use Rattle.world_values.specs.Mentions.{HasRole, HasReturned, payload_in, payload_type}
use Rattle.comp_roles.specs.declared.imports.Import.{Import}
use Rattle.comp_roles.specs.declared.payloads.PayloadInfo.{PayloadInfo}

-- the type of a stream or future, on either side of the world
abbrev pub type_of_payload : Option PayloadInfo → Option Ty
type_of_payload None = None
type_of_payload (Some p) = payload_type p.ty

pub record HasNamed (r : Resolve) (role : Import) : Type 0 where
  pub used : HasRole r role
  pub payload : HasType r (type_of_payload (payload_in role))
  pub returned : HasReturned r role
