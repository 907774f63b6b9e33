use Rattle.std.proofs.Common.{◌∙◌, map, string_bytes, sym}
use Rattle.command_line.proofs.Words.{as_others}
use Rattle.command_line.proofs.arguments.is_listing.Goals as goal

pub returns : goal.returns
returns c = c.lists_others.ensures ∙ sym (as_others (map string_bytes c.args.words.now))
