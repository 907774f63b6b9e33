use Rattle.std.proofs.Common.{take}
use Rattle.main_exports.proofs.TypeArguments.{TypesSoFar}
use Rattle.main_exports.proofs.arguments.type_arguments.Given as goal

abbrev pub invariant-loop-import : goal.invariant-loop-import
invariant-loop-import l = TypesSoFar l.fn.root.world.now l.fn.root l.root (take l.import-index l.imports) l.arguments
