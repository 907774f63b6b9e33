-- The arguments for the types of an interface, one after the other.
use Rattle.std.proofs.Common.{◌≡◌, ◌<◌, ◌+◌, ℕ, List, [], ◌∷◌, ◌++◌, Some, arith, sym, subst, take, ap, ◌∙◌, is_some}
use Rattle.std.specs.Prelude.{length, get_or}
use Rattle.std.specs.List.{AllZip, AllByRecursion}
use Rattle.std.proofs.lemmas.List.{take_more, take_all}
use Rattle.comp_lists.proofs.Lists.{AllZip-weaker, AllZip-end}
use Rattle.comp_bytes.specs.declared.def.Argument.{Argument}
use Rattle.wit_data.specs.Live.{named_types}
use Rattle.wit_data.specs.declared.ids.InterfaceId.{InterfaceId}
use Rattle.wit_data.specs.declared.worlds.WorldItem.TheVariants as world_items
use Rattle.wit_data.specs.declared.worlds.WorldKey.{WorldKey}
use Rattle.type_scopes.specs.Needs.{is_at_home}
use Rattle.world_values.specs.Items.{functions_of}
use Rattle.comp_worlds.specs.Encodable.{IsEncodable}
use Rattle.comp_worlds.specs.WorldContents.{exported_item}
use Rattle.comp_worlds.specs.declared.world.ComponentWorld.{ComponentWorld}
use Rattle.interface_needs.specs.RootNeeds.{IsExportedInterface, is_lent_type, IsUsableType}
use Rattle.interface_needs.proofs.ExportedInterfaces.{exported_types_home, exported_functions_home}
use Rattle.root_imports.proofs.ExportedTypes.{same_name}
use Rattle.comp_terms.specs.Rules.{Grows}
use Rattle.nested_components.specs.Types.{IsImportOf}
use Rattle.nested_components.specs.declared.type_import.TypeImport.{TypeImport}
use Rattle.root_imports.specs.Growing.{Grows-none, Grows-then, longer_by}
use Rattle.root_imports.specs.Keeping.{Root, RootKept}
use Rattle.root_imports.proofs.Keeping.{kept_then}
use Rattle.main_exports.specs.Exports.{IsTypeArgument, AreTypesUsable}
use Rattle.main_exports.proofs.Growth.{type_argument-kept}

-- these imports have their arguments
pub record TypesSoFar (w : ComponentWorld) (old new : Root) (done : List TypeImport) (arguments : List Argument) : Type 0 where
  pub kept : RootKept w old new
  pub grows : Grows w old.items.defs new.items.defs []
  pub given : AllZip (IsTypeArgument w new.items.defs) done arguments

pub types_start : (w : ComponentWorld) (root : Root) → RootKept w root root → TypesSoFar w root root [] []
types_start w root kept = record { kept = kept; grows = Grows-none w root.items.defs; given = tt }

pub types_step : (w : ComponentWorld) (old mid new : Root) (imports : List TypeImport) (i : ℕ) (import : TypeImport) (arguments : List Argument) (a : Argument) → TypesSoFar w old mid (take i imports) arguments → i < length imports → import ≡ get_or imports i import →
    RootKept w mid new → Grows w mid.items.defs new.items.defs [] → IsTypeArgument w new.items.defs import a → TypesSoFar w old new (take (i + 1) imports) (arguments ++ a ∷ [])
types_step w old mid new imports i import arguments a h l is kept grows given =
    let more : take (i + 1) imports ≡ take i imports ++ import ∷ [] = take_more imports i import l ∙ ap (λ x. take i imports ++ x ∷ []) (sym is) in
    let earlier : AllZip (IsTypeArgument w new.items.defs) (take i imports) arguments = AllZip-weaker (λ x y k. type_argument-kept (longer_by grows) x y k) (take i imports) arguments h.given in
    record {
      kept = kept_then w old mid new h.kept kept;
      grows = Grows-then h.grows grows;
      given = subst (λ xs. AllZip (IsTypeArgument w new.items.defs) xs (arguments ++ a ∷ [])) (sym more) (AllZip-end (IsTypeArgument w new.items.defs) (take i imports) arguments import a earlier given);
    }

pub types_done : (w : ComponentWorld) (old new : Root) (imports : List TypeImport) (i : ℕ) (arguments : List Argument) → length imports ≡ i → TypesSoFar w old new (take i imports) arguments → AllZip (IsTypeArgument w new.items.defs) imports arguments
types_done w old new imports i arguments e h = subst (λ xs. AllZip (IsTypeArgument w new.items.defs) xs arguments) (take_all i imports (omega (arith, e))) h.given

-- these imports are of types of which the interface of the key may be made
module _ (w : ComponentWorld) (ok : IsEncodable w) (key : WorldKey) (id : InterfaceId) (is : exported_item w key ≡ Some (world_items.Interface id)) where
  pub usable_import : (i : TypeImport) → IsImportOf w.resolve.types (named_types w.resolve id) (functions_of w.resolve id) i → IsUsableType w id i.id
  usable_import i h =
      let exported : IsExportedInterface w id = record { key = key; of = is } in
      record {
        exported = exported;
        within = h.within;
        named = ap is_some (sym (same_name w.resolve.types i.id.index) ∙ h.titled);
        passes = h.reached.each (is_at_home w.resolve.types (is_lent_type w id) id) (exported_types_home w ok id exported) (exported_functions_home w ok id exported);
      }

  pub usable_imports : (imports : List TypeImport) → AllByRecursion (IsImportOf w.resolve.types (named_types w.resolve id) (functions_of w.resolve id)) imports → AreTypesUsable w id imports
  usable_imports [] h = tt
  usable_imports (i ∷ imports) h = (usable_import i h.0, usable_imports imports h.1)
