use Rattle.std.proofs.Common.{◌≡◌, ◌++◌, string_bytes, take}
use Rattle.std.specs.List.{flat_map}
use Rattle.found_links.specs.Ends.{option_text}
use Rattle.found_links.proofs.ends.put_each_option.Given as goal

abbrev pub invariant-loop-option : goal.invariant-loop-option
invariant-loop-option l = string_bytes l.out ≡ string_bytes l.fn.out ++ flat_map (option_text l.items) (take l.option-index l.options)
