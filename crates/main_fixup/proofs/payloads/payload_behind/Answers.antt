use Rattle.std.proofs.Common.{subst, sym}
use Rattle.std.specs.Option.{option_map}
use Rattle.core_options.specs.MainOptions.{export_ref_of}
use Rattle.main_fixup.proofs.Behind.{access_found, access_named, access_supplied, access_types}
use Rattle.main_fixup.specs.Filling.{IsAccessBehind}
use Rattle.standard_kinds.specs.declared.kinds.StringEncoding.{StringEncoding}
use Rattle.main_fixup.proofs.payloads.payload_behind.Goals as goal

pub validated_module-found-requires : goal.validated_module-found-requires
validated_module-found-requires c =
    access_named c.args.root.now.world.now c.requires.sources.valid c.args.shim.now c.requires.stands c.args.which.now c.args.info.now c.args.kind c.args.async_ c.requires.kind

pub options_of_payload-given-requires-clause-named : goal.options_of_payload-given-requires-clause-named
options_of_payload-given-requires-clause-named c =
    access_named c.args.root.now.world.now c.requires.sources.valid c.args.shim.now c.requires.stands c.args.which.now c.args.info.now c.args.kind c.args.async_ c.requires.kind

pub access_behind-requires-clause-behind : goal.access_behind-requires-clause-behind
access_behind-requires-clause-behind c =
    let w = c.args.root.now.world.now in
    let own = option_map export_ref_of c.options_of_payload-given.result.realloc in
    subst (λ (e : StringEncoding). IsAccessBehind w c.args.shim.now c.args.info.now c.args.kind e own) (sym c.in_ok-encoding.ensures)
    (access_found w c.requires.sources.valid c.args.shim.now c.requires.stands c.args.which.now c.args.info.now c.args.kind c.args.async_ c.requires.kind c.validated_module-found.result.now c.validated_module-found.ensures own c.options_of_payload-given.ensures.realloc)

pub access_behind-requires-clause-of : goal.access_behind-requires-clause-of
access_behind-requires-clause-of c =
    access_types c.args.root.now.world.now c.requires.sources.valid c.args.shim.now c.requires.stands c.args.which.now c.args.info.now c.args.kind c.args.async_ c.requires.kind

pub access_behind-requires-clause-supplied : goal.access_behind-requires-clause-supplied
access_behind-requires-clause-supplied c =
    let s = c.requires.sources in
    access_supplied c.args.root.now.world.now s.valid c.args.shim.now c.requires.stands c.args.which.now c.args.info.now c.args.kind c.args.async_ c.requires.kind c.args.root.now.met s.exports s.ordered
