use Rattle.std.proofs.Common.{◌∙◌, ap, sym}
use Rattle.std.specs.Option.{option_copied}
use Rattle.main_instance.proofs.instances.ImportSources.link_built_in.Goals as goal

pub link_payload-requires-clause-payload : goal.link_payload-requires-clause-payload
link_payload-requires-clause-payload c = sym c.called_payload.ensures ∙ ap option_copied c.in-Some.is

pub link_function-requires-clause-typed : goal.link_function-requires-clause-typed
link_function-requires-clause-typed c = sym c.called_payload.ensures ∙ ap option_copied c.in-None.is
