use Rattle.part_readers.proofs.numbers.+digits.Given as goal

abbrev pub decreases-digits : goal.decreases-digits
decreases-digits l = l.groups
