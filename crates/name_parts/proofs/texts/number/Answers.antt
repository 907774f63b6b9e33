use Rattle.std.proofs.Common.{rules}
use Rattle.name_parts.proofs.Numbers.{refused_number, other_number, same_number}
use Rattle.name_parts.proofs.texts.number.Goals as goal

pub returns-in_default : goal.returns-in_default
returns-in_default c = refused_number c.args.text.now c.in_default.field-0 c.parse.result c.in_default.is c.parse.ensures.value.0

pub returns-then-eq : goal.returns-then-eq
returns-then-eq c = same_number c.args.text.now c.as_str.result.now c.in-Ok.value c.parse.result c.in-Ok.is c.parse.ensures.value.0 (search rules) (search rules)

pub returns : goal.returns
returns c = other_number c.args.text.now c.as_str.result.now c.in-Ok.value c.parse.result c.in-Ok.is c.parse.ensures.value.0 (search rules) (search rules)
