use Rattle.std.proofs.Common.{◌≡◌, drop}
use Rattle.package_lower.specs.Roles.{imports_after}
use Rattle.package_lower.proofs.roles.add_imports.Given as goal

abbrev pub invariant-loop-import : goal.invariant-loop-import
invariant-loop-import l =
    imports_after l.names l.rejects_older l.roles (drop l.import-index l.imports) ≡ imports_after l.names l.rejects_older l.fn.roles l.imports
