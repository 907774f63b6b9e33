use Rattle.std.specs.Option.{option_map}
use Rattle.core_options.specs.MainOptions.{export_ref_of}
use Rattle.main_fixup.proofs.Behind.{message_found, message_named}
use Rattle.main_fixup.proofs.functions_of_memory.message_behind.Goals as goal

pub options_of_calls-calls-requires-clause-named : goal.options_of_calls-calls-requires-clause-named
options_of_calls-calls-requires-clause-named c = message_named c.args.root.now.world.now c.args.shim.now c.requires.stands c.args.which.now c.args.encoding c.requires.kind

pub function_behind-requires-clause-behind : goal.function_behind-requires-clause-behind
function_behind-requires-clause-behind c =
    message_found c.args.root.now.world.now c.args.shim.now c.requires.stands c.args.which.now c.args.encoding c.requires.kind (option_map export_ref_of c.options_of_calls-calls.result.realloc) c.options_of_calls-calls.ensures.realloc
