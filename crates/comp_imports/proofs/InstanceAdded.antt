-- The type of an instance was added, and then the import of the instance.
use Rattle.std.proofs.Common.{◌≡◌, ◌∙◌, ◌∷◌, ◌++◌, ℕ, List, [], Option, Some, Result, slice_get, ap, subst, sym, add-zero}
use Rattle.std.specs.List.{flat_map}
use Rattle.comp_lists.proofs.Lists.{AllByRecursion-weaker}
use Rattle.comp_bytes.specs.ScopeNames.{member_export}
use Rattle.comp_bytes.specs.declared.def.Def.{Def}
use Rattle.comp_bytes.specs.declared.def.Def.TheVariants as defs
use Rattle.comp_bytes.specs.declared.def.Item.TheVariants as items
use Rattle.comp_bytes.specs.declared.space.Space.{Space}
use Rattle.comp_bytes.specs.declared.types.InstanceType.{InstanceType}
use Rattle.byte_encoding.specs.declared.fault.BuildFault.{BuildFault}
use Rattle.comp_builder.specs.Built.{Built, Adds}
use Rattle.comp_inventories.specs.Inventories.{ImportedInstance, OfInstances, surroundings_of, inventory, scope_of}
use Rattle.comp_trees.specs.Members.{Surroundings, member_trees, AreMembersRight, type_exported}
use Rattle.comp_bytes.specs.declared.types.Member.{Member}
use Rattle.comp_items.specs.Items.{Extends}
use Rattle.comp_items.proofs.Extending.{extends_adds, extends_then}
use Rattle.comp_links.specs.Lists.{ImportedInterface, import_entries, needed_types, type_name, type_of_world, resource_of}
use Rattle.comp_terms.specs.Instances.{HasNeededTypes, ImportsInterface}
use Rattle.comp_terms.specs.Rules.{Grows, InstanceTypeOf}
use Rattle.comp_terms.specs.Terms.{imports_in}
use Rattle.comp_worlds.specs.declared.world.ComponentWorld.{ComponentWorld}
use Rattle.wit_data.specs.Names.{text_of}
use Rattle.wit_data.specs.declared.ids.InterfaceId.{InterfaceId}
use Rattle.wit_data.specs.declared.ids.TypeId.{TypeId}
use Rattle.type_scopes.specs.Interfaces.{ExportsType}
use Rattle.wit_data.specs.declared.worlds.WorldKey.{WorldKey}
use Rattle.root_imports.specs.Growing.{Grows-by}
use Rattle.root_imports.specs.Interfaces.{ExportsNeeded, ExportsUsed, IsInterfaceImport}
use Rattle.comp_imports.specs.Interfaces.{IsNextInterface}
use Rattle.root_imports.proofs.ExportedTypes.{same_name}
use Rattle.root_imports.proofs.Importing.{grown_imports, no_imports}

pub two_added : (old mid new : Built) (first second : Result ℕ BuildFault) (s t : Space) (d e : Def) (n m : Option (List ℕ)) → Adds old mid first s d n → Adds mid new second t e m → Extends old new
two_added old mid new first second s t d e n m g h = extends_then old mid new (extends_adds old mid first s d n g) (extends_adds mid new second t e m h)

-- the types that are exported under their names denote what they do in the world
needed_types_had : (w : ComponentWorld) (id : InterfaceId) (s : Surroundings) (members : List Member) → ExportsNeeded w id s members → HasNeededTypes w id s members
needed_types_had w id s members h = AllByRecursion-weaker by (needed_types w id) h
  where
    by : (t : TypeId) → ExportsType s (resource_of w) w.resolve.types id members t → type_exported s (member_trees s [] members) (type_name w t) members ≡ type_of_world w t
    by t e = ap (λ name. type_exported s (member_trees s [] members) name members) (ap text_of (sym (same_name w.resolve.types t.index) ∙ e.titled.named)) ∙ e.tree

module _ (w : ComponentWorld) (key : WorldKey) (id : InterfaceId) (old mid : Built) (index : ℕ) (ty : InstanceType) (appended : mid.defs ≡ old.defs ++ defs.Item (items.InstanceType ty) ∷ []) where
  -- the type of the instance was added, and no import
  pub type_added : AreMembersRight (surroundings_of (imports_in old.defs) (scope_of old.defs)) [] ty.members → Grows w old.defs mid.defs (InstanceTypeOf (flat_map member_export ty.members) ∷ [])
  type_added right = Grows-by (defs.Item (items.InstanceType ty)) appended (record { number = imports_in old.defs; right = right })

  module _ (right : AreMembersRight (surroundings_of (imports_in old.defs) (scope_of old.defs)) [] ty.members) (next : slice_get (import_entries w) (imports_in old.defs) ≡ Some (ImportedInterface key id)) (made : slice_get (inventory mid.defs).types index ≡ Some (OfInstances (scope_of old.defs) ty.members)) where
    same_imports : imports_in mid.defs ≡ imports_in old.defs
    same_imports = grown_imports (type_added right) ∙ add-zero (imports_in old.defs)

    stated_next : slice_get (import_entries w) (imports_in mid.defs) ≡ Some (ImportedInterface key id)
    stated_next = ap (slice_get (import_entries w)) same_imports ∙ next

    -- its import is that of the interface
    pub instance_right : ExportsNeeded w id (surroundings_of (imports_in old.defs) (scope_of old.defs)) ty.members → ImportsInterface w mid.defs index
    instance_right types = record {
      key = key;
      id = id;
      stated = stated_next;
      outer = scope_of old.defs;
      members = ty.members;
      is = made;
      right = subst (λ (n : ℕ). AreMembersRight (surroundings_of n (scope_of old.defs)) [] ty.members) (sym same_imports) right;
      types = subst (λ (n : ℕ). HasNeededTypes w id (surroundings_of n (scope_of old.defs)) ty.members) (sym same_imports) (needed_types_had w id (surroundings_of (imports_in old.defs) (scope_of old.defs)) ty.members types);
    }

    pub instance_imported : (new : Built) (instance : ℕ) → slice_get (inventory new.defs).instances instance ≡ Some (ImportedInstance (imports_in mid.defs) (scope_of old.defs) ty.members) →
        ExportsUsed w id (surroundings_of (imports_in old.defs) (scope_of old.defs)) ty.members → ExportsNeeded w id (surroundings_of (imports_in old.defs) (scope_of old.defs)) ty.members → IsInterfaceImport w new.defs id instance
    instance_imported new instance imported functions types = record {
      key = key;
      number = imports_in mid.defs;
      outer = scope_of old.defs;
      members = ty.members;
      stated = stated_next;
      imported = imported;
      functions = subst (λ (n : ℕ). ExportsUsed w id (surroundings_of n (scope_of old.defs)) ty.members) (sym same_imports) functions;
      types = subst (λ (n : ℕ). ExportsNeeded w id (surroundings_of n (scope_of old.defs)) ty.members) (sym same_imports) types;
    }

-- definitions that import nothing were added: the next import is the same
pub next_kept : (w : ComponentWorld) (old new : List Def) (instances : List (InterfaceId × ℕ)) (key : WorldKey) (id : InterfaceId) → Grows w old new [] → IsNextInterface w old instances key id → IsNextInterface w new instances key id
next_kept w old new instances key id g h = record {
  has_key = h.has_key;
  present = h.present;
  imported = h.imported;
  plain = h.plain;
  stated = λ some. ap (slice_get (import_entries w)) (no_imports g) ∙ h.stated some;
  number = λ some. h.number some ∙ sym (no_imports g);
  earlier = h.earlier;
}
