use Rattle.std.proofs.Common.{◌≡◌, [], drop}
use Rattle.module_warnings.specs.Roles.{imports_after}
use Rattle.module_warnings.proofs.roles.imports_of.Given as goal

abbrev pub invariant-loop-import : goal.invariant-loop-import
invariant-loop-import l = imports_after l.table (drop l.import-index l.imports) ≡ imports_after [] l.imports
