use Rattle.std.proofs.Common.{◌≡◌, ◌≤◌, ◌<◌, ◌∙◌, sym, length, get_or, string_bytes, rules, arith}
use Rattle.std.specs.Prelude.{codes}
use Rattle.std.specs.Str.{bytes_eq}
use Rattle.command_line.proofs.Words.{both_listed}
use Rattle.command_line.proofs.arguments.lists_others.Goals as goal

pub returns-in-len2 : goal.returns-in-len2
returns-in-len2 c =
    let many : 2 ≤ length c.args.words.now = omega (arith, c.in-len2.len_at_least) in
    let few : length c.args.words.now < 3 = omega (arith, c.in-len2.len_below) in
    let at : c.command-item.result ≡ get_or c.args.words.now 0 c.command-item.result = search rules in
    let is : c.eq.result ≡ bytes_eq (string_bytes c.command-item.result) (codes "defs") = search rules in
    is ∙ sym (both_listed string_bytes c.args.words.now c.command-item.result many few at)
