use Rattle.std.proofs.Common.{◌≡◌, ◌++◌, string_bytes, take}
use Rattle.std.specs.List.{flat_map}
use Rattle.found_links.specs.Forms.{line}
use Rattle.found_links.proofs.forms.put_lines.Given as goal

abbrev pub invariant-loop-link : goal.invariant-loop-link
invariant-loop-link l = string_bytes l.out ≡ string_bytes l.fn.out ++ flat_map (line l.form) (take l.link-index l.links)
