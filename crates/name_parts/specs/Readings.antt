-- What a name means: nothing, something, or that it is refused. (No standard speaks of this.)
use Rattle.name_parts.specs.declared.reading.Reading.{Reading}
use Rattle.name_parts.specs.declared.reading.Reading.TheVariants as readings
use Rattle.name_parts.specs.declared.reading.Refusal.TheVariants as refusals

abbrev pub after_meaning : {R : Type 0} → R → Reading R → Reading R
after_meaning x readings.Nothing = readings.Means x
after_meaning x (readings.Means y) = readings.Refused refusals.SeveralMeanings
after_meaning x (readings.Refused r) = readings.Refused r

-- A name that can be read in two ways means what it means in one of them, if it means nothing in the other. If it means
-- something in both, it is refused.
unfoldable pub joined : {R : Type 0} → Reading R → Reading R → Reading R
joined readings.Nothing y = y
joined (readings.Means x) y = after_meaning x y
joined (readings.Refused r) y = readings.Refused r

infixl 10 ◌⊕◌
abbrev pub ◌⊕◌ : {R : Type 0} → Reading R → Reading R → Reading R
x ⊕ y = joined x y

-- the first of two ways to read a name in which it means something
unfoldable pub otherwise : {R : Type 0} → Reading R → Reading R → Reading R
otherwise readings.Nothing y = y
otherwise (readings.Means x) y = readings.Means x
otherwise (readings.Refused r) y = readings.Refused r
