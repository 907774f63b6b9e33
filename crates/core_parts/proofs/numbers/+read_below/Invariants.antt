use Rattle.core_parts.proofs.numbers.+read_below.Given as goal

abbrev pub decreases-read_below : goal.decreases-read_below
decreases-read_below l = l.limit
