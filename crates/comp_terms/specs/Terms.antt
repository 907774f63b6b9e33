-- What an item of a list of definitions is, as a value that holds no index (component model, explainer: core instances,
-- aliases, `canon lower`, `canon lift`). Core modules and imports of the component are named by their numbers.
use Rattle.std.specs.Prelude.{◌≡◌, ℕ, List, Option, Some, slice_get}
use Rattle.std.specs.List.{AllZip}
use Rattle.comp_bytes.specs.ItemIndices.{IsAt}
use Rattle.comp_bytes.specs.Parts.{parts_of}
use Rattle.comp_bytes.specs.Spaces.{kind_space}
use Rattle.comp_bytes.specs.declared.space.Space.{Space}
use Rattle.comp_bytes.specs.declared.space.Space.TheVariants as spaces
use Rattle.standard_kinds.specs.declared.kinds.ExportKind.{ExportKind}
use Rattle.standard_kinds.specs.declared.kinds.ExportKind.TheVariants as kinds
use Rattle.standard_kinds.specs.declared.kinds.StringEncoding.{StringEncoding}
use Rattle.standard_kinds.specs.declared.kinds.StringEncoding.TheVariants as encodings
use Rattle.comp_bytes.specs.declared.canon.CanonicalOption.{CanonicalOption}
use Rattle.comp_bytes.specs.declared.canon.CanonicalOption.TheVariants as options
use Rattle.comp_bytes.specs.declared.canon.Intrinsic.{Intrinsic}
use Rattle.comp_bytes.specs.declared.canon.Intrinsic.TheVariants as intrinsics
use Rattle.comp_bytes.specs.declared.types.Alias.TheVariants as aliases
use Rattle.comp_bytes.specs.declared.def.CoreArgument.{CoreArgument}
use Rattle.comp_bytes.specs.declared.def.Item.TheVariants as items
use Rattle.comp_bytes.specs.declared.def.Def.{Def}
use Rattle.comp_bytes.specs.declared.def.Def.TheVariants as defs
use Rattle.comp_trees.specs.Trees.{Tree, Origin, Resource, ResourceAt, FunctionTree}
use Rattle.comp_trees.specs.DefinedTrees.{OfValues, OfFunctions}
use Rattle.comp_trees.specs.DefinedScopes.{Denotes}
use Rattle.comp_trees.specs.Operands.{IsOperand}
use Rattle.comp_inventories.specs.Inventories.{inventory, scope_of}
use Rattle.comp_links.specs.Targets.{ResourceFunction, New, Rep, Drop}

-- what the instance of a core module exports, by the module's number, and by the kind and name of the export
pub record CoreExport : Type 0 where
  pub of : ℕ
  pub kind : ExportKind
  pub name : List ℕ

-- an option of a lowering, a lift or a built-in function
pub data TermOption : Type 0 where
  Encoding : (encoding : StringEncoding) → TermOption
  Memory : (memory : CoreExport) → TermOption
  Realloc : (function : CoreExport) → TermOption
  PostReturn : (function : CoreExport) → TermOption
  Async : TermOption
  Callback : (function : CoreExport) → TermOption

pub data Term : Type 0 where
  -- the type of functions
  FunctionType : (type : FunctionTree) → Term
  -- a function that is imported, with its type
  ImportedFunction : (origin : Origin) (type : FunctionTree) → Term
  -- the instance of a core module
  InstanceOf : (number : ℕ) → Term
  Exported : (export : CoreExport) → Term
  -- a lowering of a function that is imported
  Lowering : (origin : Origin) (type : FunctionTree) (options : List TermOption) → Term
  -- a function of the handles of a resource
  OfResource : (function : ResourceFunction) (resource : Resource) → Term
  -- a built-in function, by its name, what its operand is, and its options
  BuiltIn : (name : Intrinsic) (operand : Option Tree) (options : List TermOption) → Term
  -- a lift of a core function, with its type
  Lifting : (entry : CoreExport) (options : List TermOption) (type : FunctionTree) → Term

-- how many imports there are among these definitions
abbrev pub imports_in : List Def → ℕ
imports_in ds = (inventory ds).imports

pub record IsFunctionType (ds : List Def) (index : ℕ) (type : FunctionTree) : Type 0 where
  pub denotes : Denotes (scope_of ds) index (OfFunctions type)

pub record IsImportedFunction (ds : List Def) (index : ℕ) (origin : Origin) (type : FunctionTree) : Type 0 where
  pub is : slice_get (inventory ds).functions index ≡ Some (record { origin = Some origin; type = OfFunctions type })

pub record IsResource (ds : List Def) (index : ℕ) (resource : Resource) : Type 0 where
  pub denotes : Denotes (scope_of ds) index (OfValues (ResourceAt resource))

pub record IsInstanceOf (ds : List Def) (index number : ℕ) : Type 0 where
  pub arguments : List CoreArgument
  pub made : IsAt ds spaces.CoreInstance index (defs.Item (items.CoreInstantiate number arguments))

-- an alias of an export of a core module's instance
pub record IsExported (ds : List Def) (index : ℕ) (e : CoreExport) : Type 0 where
  pub instance : ℕ
  pub made : IsAt ds (kind_space e.kind) index (defs.Item (items.Alias (aliases.CoreExport e.kind instance e.name)))
  pub of : IsInstanceOf ds instance e.of

-- an option, by the item that it names
abbrev pub IsOption : List Def → CanonicalOption → TermOption → Type 0
IsOption ds options.Utf8 (Encoding e) = e ≡ encodings.UTF8
IsOption ds options.Utf16 (Encoding e) = e ≡ encodings.UTF16
IsOption ds options.CompactUtf16 (Encoding e) = e ≡ encodings.CompactUTF16
IsOption ds (options.Memory index) (Memory e) = (e.kind ≡ kinds.Memory) × IsExported ds index e
IsOption ds (options.Realloc index) (Realloc e) = (e.kind ≡ kinds.Func) × IsExported ds index e
IsOption ds (options.PostReturn index) (PostReturn e) = (e.kind ≡ kinds.Func) × IsExported ds index e
IsOption ds options.Async Async = Unit {0}
IsOption ds (options.Callback index) (Callback e) = (e.kind ≡ kinds.Func) × IsExported ds index e
IsOption ds option term = ⊥

pub record IsLowering (ds : List Def) (index : ℕ) (origin : Origin) (type : FunctionTree) (options : List TermOption) : Type 0 where
  pub function : ℕ
  pub written : List CanonicalOption
  pub made : IsAt ds spaces.CoreFunc index (defs.Item (items.Lower function written))
  pub of : IsImportedFunction ds function origin type
  pub with_options : AllZip (IsOption ds) written options

-- the intrinsic that is a function of the handles of a type's resource
abbrev pub intrinsic_of : ResourceFunction → ℕ → Intrinsic
intrinsic_of New type = intrinsics.ResourceNew type
intrinsic_of Rep type = intrinsics.ResourceRep type
intrinsic_of Drop type = intrinsics.ResourceDrop type

pub record IsOfResource (ds : List Def) (index : ℕ) (function : ResourceFunction) (resource : Resource) : Type 0 where
  pub type : ℕ
  pub made : IsAt ds spaces.CoreFunc index (defs.Item (items.Intrinsic (intrinsic_of function type)))
  pub of : IsResource ds type resource

pub record IsBuiltIn (ds : List Def) (index : ℕ) (name : Intrinsic) (operand : Option Tree) (options : List TermOption) : Type 0 where
  pub intrinsic : Intrinsic
  pub made : IsAt ds spaces.CoreFunc index (defs.Item (items.Intrinsic intrinsic))
  pub named : (parts_of intrinsic).name ≡ name
  pub of : IsOperand (scope_of ds) (parts_of intrinsic).operand operand
  pub with_options : AllZip (IsOption ds) (parts_of intrinsic).options options

pub record IsLifting (ds : List Def) (index : ℕ) (entry : CoreExport) (options : List TermOption) (type : FunctionTree) : Type 0 where
  pub core : ℕ
  pub kind : ℕ
  pub written : List CanonicalOption
  pub made : IsAt ds spaces.Func index (defs.Item (items.Lift core written kind))
  pub of : IsExported ds core entry
  pub function : entry.kind ≡ kinds.Func
  pub with_options : AllZip (IsOption ds) written options
  pub typed : IsFunctionType ds kind type

-- the item of this index in a space is what the term says
abbrev pub Is : List Def → Space → ℕ → Term → Type 0
Is ds spaces.Type index (FunctionType type) = IsFunctionType ds index type
Is ds spaces.Func index (ImportedFunction origin type) = IsImportedFunction ds index origin type
Is ds spaces.CoreInstance index (InstanceOf number) = IsInstanceOf ds index number
Is ds space index (Exported e) = (space ≡ kind_space e.kind) × IsExported ds index e
Is ds spaces.CoreFunc index (Lowering origin type options) = IsLowering ds index origin type options
Is ds spaces.CoreFunc index (OfResource function resource) = IsOfResource ds index function resource
Is ds spaces.CoreFunc index (BuiltIn name operand options) = IsBuiltIn ds index name operand options
Is ds spaces.Func index (Lifting entry options type) = IsLifting ds index entry options type
Is ds space index term = ⊥
