use Rattle.std.proofs.Common.{◌≡◌, ◌++◌, map, drop}
use Rattle.std.specs.List.{flat_map}
use Rattle.comp_roles.specs.Borrowed.{core_import}
use Rattle.shim_plan.specs.Encodings.{unencoded_import}
use Rattle.shim_plan.specs.Needed.{import_needs}
use Rattle.shim_plan.proofs.modules.UserModule.add_listed.Given as goal

abbrev pub invariant-loop-import : goal.invariant-loop-import
invariant-loop-import l =
    let needs = import_needs l.self.world.now l.self.which.now l.self.found.now in
    let places = unencoded_import l.self.world.now l.self.found.now in
    let rest = map core_import (drop l.import-index l.imports) in
    let all = map core_import l.imports in
    (l.needs.items ++ flat_map needs rest ≡ l.fn.needs.items ++ flat_map needs all) × (flat_map places rest ≡ flat_map places all)
