use Rattle.comp_worlds.specs.Uses.{imports_of}
use Rattle.tests_of_shims.proofs.Returned.{of_imports}
use Rattle.tests_of_shims.proofs.returns.is_returned.Goals as goal

pub returns : goal.returns
returns c =
    of_imports c.args.resolve.now c.in_ok-imports.imports.items c.as_slice.result.now (imports_of c.args.found.now) c.have_returned.result c.in_ok-imports.ensures c.as_slice.ensures.value
    c.have_returned.ensures
