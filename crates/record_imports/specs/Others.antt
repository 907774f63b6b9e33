-- Which exports of other modules a module may import. (This project's own.)
use Rattle.std.specs.Prelude.{Bool, false, not, is_some}
use Rattle.comp_lists.specs.Found.{found}
use Rattle.record_values.specs.declared.roles.ImportRole.{ImportRole}
use Rattle.record_values.specs.declared.roles.ImportRole.TheVariants as roles
use Rattle.record_imports.specs.declared.others.OtherModules.{OtherModules}

-- a role is an export of main, or a function of an adapter, which the module may not import or which isn't there
abbrev pub is_unknown : OtherModules → ImportRole → Bool
is_unknown others (roles.MainExport name kind) = not others.has_main
is_unknown others (roles.AdapterExport adapter name) = not (is_some (found adapter others.adapters))
is_unknown others role = false
