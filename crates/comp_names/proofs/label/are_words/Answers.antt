use Rattle.std.proofs.Common.{rules}
use Rattle.comp_names.proofs.Deciding.{denied, continues, same}
use Rattle.comp_names.specs.NameForm.{hyphen}
use Rattle.comp_names.proofs.Parts.{split_some, split_none}
use Rattle.comp_names.proofs.Labels.{next_word, last_word}
use Rattle.comp_names.proofs.label.are_words.Goals as goal

pub returns-then-not-is_word : goal.returns-then-not-is_word
returns-then-not-is_word c = same c.loop-word.invariant.1 (denied (next_word (split_some hyphen c.loop-word.rest.now c.split_once.result _ _ c.split_once.ensures c.in-Some.is)) c.if-not-is_word.true c.is_word.ensures)

pub loop-word-preserved : goal.loop-word-preserved
loop-word-preserved c = (search rules, continues c.loop-word.invariant.1 (next_word (split_some hyphen c.loop-word.rest.now c.split_once.result _ _ c.split_once.ensures c.in-Some.is)) c.if-not-is_word.false c.is_word.ensures)

pub returns : goal.returns
returns c = same c.loop-word.invariant.1 (same (last_word c.loop-word.rest.now (split_none hyphen c.loop-word.rest.now c.split_once.result c.split_once.ensures c.in_default.is)) c.is_word-2.ensures)
