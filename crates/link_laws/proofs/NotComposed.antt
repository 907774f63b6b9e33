-- A worked example: a list whose export has a version suffix isn't composed as the world says.
use Rattle.comp_links.specs.Naming.{own_names}
use Rattle.std.proofs.Common.{◌≡◌, ◌++◌, Bool, false, true≢false, List, [], ◌∷◌, take, ap, Some, None, refl}
use Rattle.std.specs.Prelude.{codes, is_some}
use Rattle.comp_bytes.proofs.Worked.{plain, f, g, root, core, one_import_one_export}
use Rattle.comp_bytes.specs.declared.space.Sort.TheVariants as sorts
use Rattle.comp_bytes.specs.declared.types.ExternName.{ExternName}
use Rattle.comp_bytes.specs.declared.def.Item.TheVariants as items
use Rattle.comp_bytes.specs.declared.def.Def.{Def}
use Rattle.comp_bytes.specs.declared.def.Def.TheVariants as defs
use Rattle.comp_worlds.specs.declared.world.ComponentWorld.{ComponentWorld}
use Rattle.comp_links.specs.Lists.{Stated}
use Rattle.link_laws.specs.Composition.{IsComposed}
use Rattle.link_laws.proofs.Steps.{no_modules}
use Rattle.link_laws.proofs.Stores.{main_module}
use Rattle.link_laws.proofs.Ordered.{named_as}
use Rattle.link_laws.proofs.Worked.{root_world}

-- main imports f and exports g
abbrev one_each : ComponentWorld
one_each = root_world core (f ∷ []) (g ∷ []) ((root, (f, f) ∷ []) ∷ []) ((g, g) ∷ [])

-- the worked list, with this name on its export
abbrev exported_under : ExternName → List Def
exported_under name = take 8 one_import_one_export ++ defs.Item (items.Export name sorts.Func 1 None) ∷ []

pub is_the_worked_list : exported_under (plain g) ≡ one_import_one_export
is_the_worked_list = refl

-- without a suffix it is composed
pub plain_is_composed : IsComposed own_names one_each no_modules (exported_under (plain g))
plain_is_composed = record {
  generated = [];
  modules = refl;
  encoded = tt;
  sections = tt;
  imports = refl;
  exports = refl;
  instances = refl;
  customs = record { front = one_import_one_export; names = []; whole = refl; none_before = refl; named = tt };
  sound = (tt, (tt, (tt, (tt, (tt, (named_as one_each 0 (main_module one_each) (record { name = root; instance = 0 } ∷ []) refl refl, (tt, (tt, (tt, tt)))))))));
  nested_names = refl;
  instance_types = refl;
}

abbrev suffixed : ExternName
suffixed = record { name = g; version_suffix = Some (codes ".1") }

abbrev is_suffixed : List Stated → Bool
is_suffixed [] = false
is_suffixed (s ∷ rest) = is_some s.name.version_suffix

pub suffixed_is_not_composed : IsComposed own_names one_each no_modules (exported_under suffixed) → ⊥
suffixed_is_not_composed c = true≢false (ap is_suffixed c.exports)
