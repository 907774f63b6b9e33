-- A worked example: two instances are imported, each with a function of one name. Each function is
-- known by the number of its import.
use Rattle.std.proofs.Common.{◌≡◌, List, ℕ, [], ◌∷◌, refl, false, Option, Some, None, map, take}
use Rattle.std.specs.Option.{option_map}
use Rattle.comp_bytes.proofs.Worked.{plain, f, g, core}
use Rattle.comp_bytes.specs.declared.space.ComponentExportKind.TheVariants as exports
use Rattle.comp_bytes.specs.declared.types.Alias.TheVariants as aliases
use Rattle.comp_bytes.specs.declared.types.Description.TheVariants as descriptions
use Rattle.comp_bytes.specs.declared.types.Member.{Member}
use Rattle.comp_bytes.specs.declared.types.Member.TheVariants as members
use Rattle.comp_bytes.specs.declared.types.TypeDef.TheVariants as types
use Rattle.comp_bytes.specs.declared.def.Def.{Def}
use Rattle.comp_bytes.specs.declared.def.Def.TheVariants as defs
use Rattle.comp_bytes.specs.declared.def.Item.TheVariants as items
use Rattle.comp_bytes.specs.declared.space.Space.TheVariants as spaces
use Rattle.comp_trees.specs.Trees.{Origin}
use Rattle.comp_inventories.specs.Inventories.{inventory, surroundings_of}
use Rattle.comp_trees.specs.Members.{AreMembersRight}
use Rattle.comp_terms.specs.Rules.{AliasesImported}
use Rattle.comp_runs.specs.Store.{CoreItem, Lowering, Function, Imported}
use Rattle.link_laws.specs.Linking.{outcome}
use Rattle.link_laws.proofs.Steps.{no_modules}
use Rattle.link_laws.proofs.Worked.{plain_tree}
use Rattle.link_laws.proofs.Worked.{Ended, ended, root_world, h}

-- a function f
abbrev exports_f : List Member
exports_f = members.Type (types.Func (record { async_ = false; params = []; result = None })) ∷ members.Export (plain f) (descriptions.Func 0) ∷ []

-- two functions f, of these of the instances g and h, aliased and lowered one after the other
abbrev two_instances : ℕ → ℕ → List Def
two_instances first second = map defs.Item (
    items.InstanceType (record { members = exports_f })
    ∷ items.Import (plain g) (descriptions.Instance 0)
    ∷ items.Import (plain h) (descriptions.Instance 0)
    ∷ items.Alias (aliases.Export exports.Func first f)
    ∷ items.Alias (aliases.Export exports.Func second f)
    ∷ items.Lower 0 []
    ∷ items.Lower 1 []
    ∷ [])

-- the core functions and the functions that a run has made
abbrev functions_made : Option Ended → Option (List CoreItem × List Function)
functions_made end = option_map (λ (e : Ended). (e.known, e.functions)) end

abbrev of_import : ℕ → Origin
of_import n = record { number = n; inner = Some f }

-- the first lowering is of the first import's function, the second of the second's
pub each_is_its_own : functions_made (ended (outcome (root_world core [] [] [] []) no_modules (two_instances 0 1) [])) ≡ Some (
  Lowering 0 [] ∷ Lowering 1 [] ∷ [],
  Imported (of_import 0) plain_tree ∷ Imported (of_import 1) plain_tree ∷ [],
)
each_is_its_own = refl

-- the type of instances and the aliases keep their rules
pub type_is_right : (number : ℕ) → AreMembersRight (surroundings_of number []) [] exports_f
type_is_right number = (refl, (record { type = plain_tree; tree = refl }, tt))

pub first_is_right : AliasesImported (take 3 (two_instances 0 1)) spaces.Func 0 f
unfolding inventory
first_is_right = record { number = 0; outer = []; members = exports_f; imported = refl; exported = refl }

pub second_is_right : AliasesImported (take 4 (two_instances 0 1)) spaces.Func 1 f
unfolding inventory
second_is_right = record { number = 1; outer = []; members = exports_f; imported = refl; exported = refl }
