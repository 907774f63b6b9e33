use Rattle.std.proofs.Common.{length, ◌↔◌, ◌==◌}
use denote.Text.{Utf8}
use denote.Shadow.{shadow}
use Rattle.std.specs.List.{slice_split, AllByRecursion}
use Rattle.comp_names.specs.NameForm.{IsWord, hyphen}
use Rattle.comp_names.proofs.label.are_words.Given as goal

-- the remaining words are words exactly if all are
abbrev pub invariant-loop-word : goal.invariant-loop-word
invariant-loop-word l = shadow (Utf8 l.rest) × (AllByRecursion IsWord (slice_split (λ byte. byte == hyphen) l.text) ↔ AllByRecursion IsWord (slice_split (λ byte. byte == hyphen) l.rest))

abbrev pub decreases-loop-word : goal.decreases-loop-word
decreases-loop-word l = length l.rest
