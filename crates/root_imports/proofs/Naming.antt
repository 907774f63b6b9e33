-- A name without a version suffix is its text.
use Rattle.std.proofs.Common.{◌≡◌, ap, None}
use Rattle.comp_bytes.specs.declared.types.ExternName.{ExternName}
use Rattle.comp_links.specs.Naming.{plain_name}

pub by_name : (name : ExternName) → name.version_suffix ≡ None → name ≡ plain_name name.name
by_name name plain = ap (λ suffix. record { name = name.name; version_suffix = suffix }) plain
