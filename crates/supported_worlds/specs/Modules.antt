-- The user modules of a world, main and adapters alike, each with the keys that it has to export
-- (component model, explainer: the core modules of a component).
use Rattle.std.specs.Prelude.{ℕ, List, ◌∷◌, map}
use Rattle.wit_data.specs.declared.worlds.WorldKey.{WorldKey}
use Rattle.comp_worlds.specs.declared.world.ValidatedModule.{ValidatedModule}
use Rattle.comp_worlds.specs.declared.world.WorldAdapter.{WorldAdapter}
use Rattle.comp_worlds.specs.declared.world.WorldParts.{WorldParts}

pub record UserModule : Type 0 where
  pub info : ValidatedModule
  pub keys : List WorldKey

abbrev pub main_of : WorldParts → UserModule
main_of p = record { info = p.main; keys = p.main_exports }

abbrev pub module_of : List ℕ × WorldAdapter → UserModule
module_of a = record { info = a.1.info; keys = a.1.required_exports }

-- main, and then the adapters in order
abbrev pub user_modules : WorldParts → List UserModule
user_modules p = main_of p ∷ map module_of p.adapters
