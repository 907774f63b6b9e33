use Rattle.std.proofs.Common.{◌≡◌, drop}
use Rattle.name_warnings.specs.Repeats.{no_repeats, repeats_after}
use Rattle.name_warnings.proofs.repeats.repeats_of.Given as goal

abbrev pub invariant-loop-name : goal.invariant-loop-name
invariant-loop-name l = repeats_after l.path l.so_far (drop l.name-index l.names) ≡ repeats_after l.path no_repeats l.names
