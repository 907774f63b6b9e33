-- Imports that call no function of the world lack no string encoding.
use Rattle.std.proofs.Common.{◌≡◌, ◌∙◌, [], None, ap}
use Rattle.comp_roles.specs.CoreImports.{CoreImport}
use Rattle.comp_worlds.specs.declared.world.ComponentWorld.{ComponentWorld}
use Rattle.comp_worlds.specs.declared.world.ValidatedModule.{ValidatedModule}
use Rattle.shim_plan.specs.Encodings.{unencoded_call, unencoded_role, unencoded_import}
use Rattle.shim_plan.specs.Needed.{call_of, returned_of}

-- an import that calls no function of the world lacks none, as far as it returns from none
pub uncalled : (w : ComponentWorld) (m : ValidatedModule) (i : CoreImport) → call_of i.role ≡ None → unencoded_role w m i None ≡ []
uncalled w m i none = ap (unencoded_call w m i) none

-- an import that calls no function of the world and returns from none lacks none
pub none_unencoded : (w : ComponentWorld) (m : ValidatedModule) (i : CoreImport) → call_of i.role ≡ None → returned_of i.role ≡ None → unencoded_import w m i ≡ []
none_unencoded w m i none no_return = ap (unencoded_role w m i) no_return ∙ ap (unencoded_call w m i) none
