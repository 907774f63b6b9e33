-- Aliases of what user modules export keep their rule.
use Rattle.std.proofs.Common.{◌≡◌, ℕ, List, [], Some, refl, inl, slice_get}
use Rattle.comp_lists.specs.Found.{found}
use Rattle.comp_bytes.specs.declared.types.Alias.TheVariants as aliases
use Rattle.comp_bytes.specs.declared.def.Def.{Def}
use Rattle.comp_bytes.specs.declared.def.Def.TheVariants as defs
use Rattle.comp_bytes.specs.declared.def.Item.TheVariants as items
use Rattle.standard_kinds.specs.declared.kinds.ExportKind.{ExportKind}
use Rattle.comp_roles.specs.Matching.{kind_of}
use Rattle.comp_roles.specs.declared.offered.ExternType.{ExternType}
use Rattle.comp_worlds.specs.declared.world.ComponentWorld.{ComponentWorld}
use Rattle.comp_links.specs.Modules.{WorldModule, user_modules}
use Rattle.comp_items.specs.Items.{MayAdd}
use Rattle.comp_terms.specs.Rules.{Grows}
use Rattle.comp_terms.specs.Terms.{IsInstanceOf}
use Rattle.root_imports.specs.Growing.{Grows-may}

-- an alias of a core export of a user module that validation found
pub grows_alias : (w : ComponentWorld) (old new : List Def) (kind : ExportKind) (instance number : ℕ) (m : WorldModule) (name : List ℕ) (type : ExternType) → IsInstanceOf old instance number → slice_get (user_modules w) number ≡ Some m → found name m.found.offered ≡ Some type →
    kind_of type ≡ kind → MayAdd old new (defs.Item (items.Alias (aliases.CoreExport kind instance name))) → Grows w old new []
grows_alias w old new kind instance number m name type of listed offered of_kind adds =
    Grows-may (defs.Item (items.Alias (aliases.CoreExport kind instance name))) refl adds (inl (record { number = number; of = m; type = type; is = of; listed = listed; offered = offered; of_kind = of_kind }))
