-- When no component of a world is returned. Canonical names and the form of names are the component model's (explainer:
-- `canonversion`, import and export definitions); the string encoding that a function needs is the Canonical ABI's
-- `string-encoding`.
use Rattle.comp_links.specs.Naming.{Naming}
use Rattle.std.specs.Prelude.{◌≡◌, ◌⊎◌, ℕ, Bool, List, ◌∷◌, ◌++◌, map, ⊤, Some, IsTrue, Contains}
use Rattle.comp_bytes.specs.ScopeNames.{Names}
use Rattle.comp_check.specs.declared.fault.CheckFault.{CheckFault}
use Rattle.comp_check.specs.declared.fault.CheckFault.TheVariants as checks
use Rattle.comp_names.specs.NameForm.{IsFormed}
use Rattle.comp_names.specs.Names.{OccursTwice}
use Rattle.comp_links.specs.Modules.{user_imports}
use Rattle.comp_worlds.specs.WorldContents.{exported_item}
use Rattle.comp_worlds.specs.Bases.{HasUnlikeBases}
use Rattle.comp_worlds.specs.Made.{IsNotYetMade}
use Rattle.comp_worlds.specs.declared.world.ComponentWorld.{ComponentWorld}
use Rattle.wit_data.specs.declared.ids.InterfaceId.{InterfaceId}
use Rattle.wit_data.specs.declared.worlds.WorldItem.TheVariants as world_items
use Rattle.wit_data.specs.declared.worlds.WorldKey.{WorldKey}
use Rattle.core_options.specs.Causes.{IsCause, LacksMemory, LacksRealloc, LacksEncoding, ExportsLater}
use Rattle.core_options.specs.declared.fault.StateFault.TheVariants as states
use Rattle.comp_links.specs.Lists.{Stated, IsTypeImport, stated_imports, stated_exports, instance_type_names, nested_names, required_functions}
use Rattle.comp_encoder.specs.CanonicalNames.{IsShared}
use Rattle.comp_encoder.specs.declared.output.OutputFault.{OutputFault}
use Rattle.comp_encoder.specs.declared.output.OutputFault.TheVariants as outputs

-- the names of the stated imports, and of the stated exports
abbrev pub stated_names : List Stated → Names
stated_names stated = map (λ (s : Stated). s.name.name) stated

abbrev pub import_names : Naming → ComponentWorld → Names
import_names n w = stated_names (stated_imports n w)

abbrev pub export_names : Naming → ComponentWorld → Names
export_names n w = stated_names (stated_exports n w)

-- the lists of names of imports and exports that the component has: of its imports, of its exports,
-- of what each type of instances exports, and of the functions that each nested component imports,
-- and of what it exports
abbrev pub name_lists : Naming → ComponentWorld → List Names
name_lists n w = import_names n w ∷ export_names n w ∷ (instance_type_names w ++ nested_names w)

-- what is wrong with them: a name occurs twice in its list, or is not well formed
abbrev pub IsNameCause : Naming → ComponentWorld → CheckFault → Type 0
IsNameCause n w (checks.NameTwice name) = (list : Names) × Contains (name_lists n w) list × OccursTwice name list
IsNameCause n w (checks.NameForm name) = (list : Names) × Contains (name_lists n w) list × Contains list name × (IsFormed name → ⊥)
IsNameCause n w _ = ⊥

-- a name under which the nested component of an exported interface may import a type, of the
-- interface or of another one
pub record ImportsTypeAs (w : ComponentWorld) (name : List ℕ) : Type 0 where
  pub key : WorldKey
  pub id : InterfaceId
  pub item : exported_item w key ≡ Some (world_items.Interface id)
  pub imported : IsTypeImport w id name

-- what is wrong with the names of a component that is refused for them: the same; or such a name is not well formed
abbrev pub IsCheckCause : Naming → ComponentWorld → CheckFault → Type 0
IsCheckCause n w (checks.NameForm name) = IsNameCause n w (checks.NameForm name) ⊎ (ImportsTypeAs w name × (IsFormed name → ⊥))
IsCheckCause n w fault = IsNameCause n w fault

-- no two imports, and no two exports, have one canonical name, where canonical names are on
abbrev pub NoSharedName : Bool → ComponentWorld → Type 0
NoSharedName canonical w = IsTrue canonical → (first second name : List ℕ) → IsShared w.resolve w.world first second name → ⊥

-- a refusal is out of memory, or for two that have
abbrev pub IsNamesRefusal : Bool → ComponentWorld → OutputFault → Type 0
IsNamesRefusal canonical w (outputs.Names s) = IsTrue canonical × IsShared w.resolve w.world s.first s.second s.name
IsNamesRefusal canonical w (outputs.State fault) = fault ≡ states.Memory
IsNamesRefusal canonical w (outputs.Check fault) = ⊥

-- a refusal is out of memory, or has its cause; names are checked where `validate` is on
abbrev pub IsOutputRefusal : Naming → ComponentWorld → Bool → OutputFault → Type 0
IsOutputRefusal n w validate (outputs.Names s) = IsTrue n.canonical × IsShared w.resolve w.world s.first s.second s.name
IsOutputRefusal n w validate (outputs.State fault) = IsCause w fault
IsOutputRefusal n w validate (outputs.Check checks.Memory) = ⊤
IsOutputRefusal n w validate (outputs.Check fault) = IsTrue validate × IsCheckCause n w fault

-- no cause of a refusal holds, apart from memory and sizes
pub record NoOutputCause (n : Naming) (w : ComponentWorld) (validate : Bool) : Type 0 where
  pub canonical : NoSharedName n.canonical w
  pub memory : (place : List ℕ) → LacksMemory w (user_imports w) (required_functions w) place → ⊥
  pub realloc : (place : List ℕ) → LacksRealloc w (user_imports w) (required_functions w) place → ⊥
  pub encodings : (place : List ℕ) → LacksEncoding w place → ⊥
  pub bases : HasUnlikeBases w → ⊥
  pub made : (adapter name : List ℕ) → IsNotYetMade w adapter name → ⊥
  pub order : (interface used : List ℕ) → ExportsLater w interface used → ⊥
  pub names : IsTrue validate → (fault : CheckFault) → IsNameCause n w fault → ⊥
