-- What an item is, it stays while definitions are added.
use Rattle.std.proofs.Common.{◌≡◌, ◌∙◌, ℕ, ◌<◌, List, [], ◌∷◌, ◌++◌, refl, sym, ap, subst, Option, Some, None}
use Rattle.std.specs.Prelude.{get_or}
use Rattle.std.specs.List.{AllZip, slice_get}
use Rattle.std.proofs.lemmas.Option.{slice_get_within}
use Rattle.comp_lists.proofs.Lists.{AllZip-weaker}
use Rattle.comp_bytes.specs.ItemIndices.{IsAt}
use Rattle.comp_bytes.specs.Parts.{parts_of}
use Rattle.comp_bytes.specs.Spaces.{items_in}
use Rattle.comp_bytes.proofs.ItemIndices.{IsAt-append, in_range}
use Rattle.comp_bytes.specs.declared.canon.Intrinsic.{Intrinsic}
use Rattle.comp_bytes.specs.declared.canon.CanonicalOption.{CanonicalOption}
use Rattle.comp_bytes.specs.declared.canon.CanonicalOption.TheVariants as options
use Rattle.comp_bytes.specs.declared.space.Space.{Space}
use Rattle.comp_bytes.specs.declared.space.Space.TheVariants as spaces
use Rattle.comp_bytes.specs.declared.types.ComponentValType.{ComponentValType}
use Rattle.comp_bytes.specs.declared.types.ComponentValType.TheVariants as values
use Rattle.comp_bytes.specs.declared.types.ExternName.{ExternName}
use Rattle.comp_bytes.specs.declared.types.Description.TheVariants as descriptions
use Rattle.comp_bytes.specs.declared.def.Def.{Def}
use Rattle.comp_bytes.specs.declared.def.Def.TheVariants as defs
use Rattle.comp_bytes.specs.declared.def.Item.TheVariants as items
use Rattle.standard_kinds.specs.declared.kinds.ExportKind.TheVariants as kinds
use Rattle.comp_trees.specs.Trees.{Tree, Origin, Resource, FunctionTree}
use Rattle.comp_trees.specs.DefinedTrees.{TypeTree, OfFunctions, OfOthers}
use Rattle.comp_trees.specs.DefinedScopes.{Denotes}
use Rattle.comp_trees.specs.Operands.{IsOperand}
use Rattle.comp_inventories.specs.Inventories.{TypeEntry, entry_tree, types_made, inventory, scope_of}
use Rattle.comp_inventories.proofs.InventoryGrowth.{denotes_kept, function_kept, scope_counted, denotes_made, function_made}
use Rattle.comp_inventories.proofs.Counting.{functions-counted}
use Rattle.comp_builder.specs.Built.{Built, and_then}
use Rattle.comp_terms.specs.Terms.{CoreExport, TermOption, Term, IsFunctionType, IsResource, IsImportedFunction, IsInstanceOf, IsExported, IsOption, IsLowering, IsOfResource, intrinsic_of, IsBuiltIn, IsLifting, Is, imports_in}
use Rattle.comp_terms.specs.Terms as terms
use Rattle.comp_links.specs.Targets.{ResourceFunction}

-- definitions were added at the end
pub record Longer (old new : List Def) : Type 0 where
  pub more : List Def
  pub grown : new ≡ old ++ more

module _ {old new : List Def} (g : Longer old new) where
  pub at-kept : {space : Space} {i : ℕ} {d : Def} → IsAt old space i d → IsAt new space i d
  at-kept {space} {i} {d} h = subst (λ l. IsAt l space i d) (sym g.grown) (IsAt-append g.more h)

  pub denotes-kept : {i : ℕ} {t : TypeTree} → Denotes (scope_of old) i t → Denotes (scope_of new) i t
  denotes-kept {i} {t} h = subst (λ l. Denotes (scope_of l) i t) (sym g.grown) (denotes_kept old g.more i t h)

  pub function_type-kept : {i : ℕ} {type : FunctionTree} → IsFunctionType old i type → IsFunctionType new i type
  function_type-kept h = record { denotes = denotes-kept h.denotes }

  pub imported_function-kept : {i : ℕ} {origin : Origin} {type : FunctionTree} → IsImportedFunction old i origin type → IsImportedFunction new i origin type
  imported_function-kept {i} {origin} {type} h = record { is = ap (λ l. slice_get (inventory l).functions i) g.grown ∙ function_kept old g.more i (record { origin = Some origin; type = OfFunctions type }) h.is }

  pub resource-kept : {i : ℕ} {resource : Resource} → IsResource old i resource → IsResource new i resource
  resource-kept h = record { denotes = denotes-kept h.denotes }

  pub instance-kept : {i number : ℕ} → IsInstanceOf old i number → IsInstanceOf new i number
  instance-kept h = record { arguments = h.arguments; made = at-kept h.made }

  pub exported-kept : {i : ℕ} {e : CoreExport} → IsExported old i e → IsExported new i e
  exported-kept h = record { instance = h.instance; made = at-kept h.made; of = instance-kept h.of }

module _ (old new : List Def) (g : Longer old new) where
  pub option-kept : (o : CanonicalOption) (t : TermOption) → IsOption old o t → IsOption new o t
  option-kept (options.Memory i) (terms.Memory e) h = (h.0, exported-kept g h.1)
  option-kept (options.Realloc i) (terms.Realloc e) h = (h.0, exported-kept g h.1)
  option-kept (options.PostReturn i) (terms.PostReturn e) h = (h.0, exported-kept g h.1)
  option-kept (options.Callback i) (terms.Callback e) h = (h.0, exported-kept g h.1)
  option-kept o t h = h

  pub options-kept : (os : List CanonicalOption) (ts : List TermOption) → AllZip (IsOption old) os ts → AllZip (IsOption new) os ts
  options-kept os ts h = AllZip-weaker option-kept os ts h

  lowering-kept : {i : ℕ} {origin : Origin} {type : FunctionTree} {os : List TermOption} → IsLowering old i origin type os → IsLowering new i origin type os
  lowering-kept {i} {origin} {type} {os} h =
      record { function = h.function; written = h.written; made = at-kept g h.made; of = imported_function-kept g h.of; with_options = options-kept h.written os h.with_options }

  of_resource-kept : {i : ℕ} {function : ResourceFunction} {resource : Resource} → IsOfResource old i function resource → IsOfResource new i function resource
  of_resource-kept h = record { type = h.type; made = at-kept g h.made; of = resource-kept g h.of }

  -- the operand of a built-in function denotes the same
  operand-kept : (written : Option ComponentValType) (operand : Option Tree) → IsOperand (scope_of old) written operand → IsOperand (scope_of new) written operand
  operand-kept None None h = tt
  operand-kept (Some (values.Primitive p)) (Some t) h = h
  operand-kept (Some (values.Defined index)) (Some t) h = denotes-kept g h
  operand-kept None (Some t) h = absurd h
  operand-kept (Some v) None h = absurd h

  built_in-kept : {i : ℕ} {name : Intrinsic} {operand : Option Tree} {os : List TermOption} → IsBuiltIn old i name operand os → IsBuiltIn new i name operand os
  built_in-kept {i} {name} {operand} {os} h = record {
    intrinsic = h.intrinsic;
    made = at-kept g h.made;
    named = h.named;
    of = operand-kept (parts_of h.intrinsic).operand operand h.of;
    with_options = options-kept (parts_of h.intrinsic).options os h.with_options;
  }

  lifting-kept : {i : ℕ} {e : CoreExport} {os : List TermOption} {type : FunctionTree} → IsLifting old i e os type → IsLifting new i e os type
  lifting-kept {i} {e} {os} {type} h = record {
    core = h.core;
    kind = h.kind;
    written = h.written;
    made = at-kept g h.made;
    of = exported-kept g h.of;
    function = h.function;
    with_options = options-kept h.written os h.with_options;
    typed = function_type-kept g h.typed;
  }

  pub term-kept : (space : Space) (i : ℕ) (t : Term) → Is old space i t → Is new space i t
  term-kept spaces.Type i (terms.FunctionType type) h = function_type-kept g h
  term-kept spaces.Func i (terms.ImportedFunction origin type) h = imported_function-kept g h
  term-kept spaces.CoreInstance i (terms.InstanceOf number) h = instance-kept g h
  term-kept spaces.CoreFunc i (terms.Lowering origin type os) h = lowering-kept h
  term-kept spaces.CoreFunc i (terms.OfResource function resource) h = of_resource-kept h
  term-kept spaces.CoreFunc i (terms.BuiltIn name operand os) h = built_in-kept h
  term-kept spaces.Func i (terms.Lifting entry os type) h = lifting-kept h
  term-kept space i (terms.Exported e) h = (h.0, exported-kept g h.1)
  term-kept space i t h = h

-- ---- the index of a term is in range

type_in_range : (ds : List Def) (index : ℕ) (t : TypeTree) → Denotes (scope_of ds) index t → index < items_in spaces.Type ds
type_in_range ds index t h = subst (λ n. index < n) (scope_counted ds) h.within

pub function_in_range : {ds : List Def} {index : ℕ} {origin : Origin} {type : FunctionTree} → IsImportedFunction ds index origin type → index < items_in spaces.Func ds
function_in_range {ds} {index} {origin} {type} h = subst (λ n. index < n) (functions-counted ds) (slice_get_within (inventory ds).functions index (record { origin = Some origin; type = OfFunctions type }) h.is)

pub term_in_range : (ds : List Def) (space : Space) (index : ℕ) (t : Term) → Is ds space index t → index < items_in space ds
term_in_range ds spaces.Type index (terms.FunctionType type) h = type_in_range ds index (OfFunctions type) h.denotes
term_in_range ds spaces.Func index (terms.ImportedFunction origin type) h = function_in_range h
term_in_range ds spaces.CoreInstance index (terms.InstanceOf number) h = in_range h.made
term_in_range ds spaces.CoreFunc index (terms.Lowering origin type os) h = in_range h.made
term_in_range ds spaces.CoreFunc index (terms.OfResource function resource) h = in_range h.made
term_in_range ds spaces.CoreFunc index (terms.BuiltIn name operand os) h = in_range h.made
term_in_range ds spaces.Func index (terms.Lifting entry os type) h = in_range h.made
term_in_range ds space index (terms.Exported e) h = subst (λ s. index < items_in s ds) (sym h.0) (in_range h.1.made)
term_in_range ds space index t h = absurd h

-- ---- what a lowering, a built-in function and a lift are, where what they are of is known

pub lowers : (old new : List Def) (index function : ℕ) (written : List CanonicalOption) → new ≡ old ++ defs.Item (items.Lower function written) ∷ [] → IsAt new spaces.CoreFunc index (defs.Item (items.Lower function written)) →
    (origin : Origin) (type : FunctionTree) (os : List TermOption) → IsImportedFunction old function origin type → AllZip (IsOption old) written os → IsLowering new index origin type os
lowers old new index function written grown at origin type os of with_options =
    let g : Longer old new = record { more = defs.Item (items.Lower function written) ∷ []; grown = grown } in
    record { function = function; written = written; made = at; of = imported_function-kept g of; with_options = options-kept old new g written os with_options }

pub acts_on_resource : (old new : List Def) (index : ℕ) (function : ResourceFunction) (type : ℕ) → new ≡ old ++ defs.Item (items.Intrinsic (intrinsic_of function type)) ∷ [] →
    IsAt new spaces.CoreFunc index (defs.Item (items.Intrinsic (intrinsic_of function type))) → (resource : Resource) → IsResource old type resource → IsOfResource new index function resource
acts_on_resource old new index function type grown at resource of =
    let g : Longer old new = record { more = defs.Item (items.Intrinsic (intrinsic_of function type)) ∷ []; grown = grown } in record { type = type; made = at; of = resource-kept g of }

pub makes_built_in : (old new : List Def) (index : ℕ) (intrinsic : Intrinsic) → new ≡ old ++ defs.Item (items.Intrinsic intrinsic) ∷ [] → IsAt new spaces.CoreFunc index (defs.Item (items.Intrinsic intrinsic)) →
    (operand : Option Tree) (os : List TermOption) → IsOperand (scope_of old) (parts_of intrinsic).operand operand → AllZip (IsOption old) (parts_of intrinsic).options os → IsBuiltIn new index (parts_of intrinsic).name operand os
makes_built_in old new index intrinsic grown at operand os of with_options =
    let g : Longer old new = record { more = defs.Item (items.Intrinsic intrinsic) ∷ []; grown = grown } in
    record {
      intrinsic = intrinsic;
      made = at;
      named = refl;
      of = operand-kept old new g (parts_of intrinsic).operand operand of;
      with_options = options-kept old new g (parts_of intrinsic).options os with_options;
    }

pub lifts : (old new : List Def) (index core kind : ℕ) (written : List CanonicalOption) → new ≡ old ++ defs.Item (items.Lift core written kind) ∷ [] → IsAt new spaces.Func index (defs.Item (items.Lift core written kind)) →
    (entry : CoreExport) (os : List TermOption) (type : FunctionTree) → entry.kind ≡ kinds.Func → IsExported old core entry → AllZip (IsOption old) written os → IsFunctionType old kind type → IsLifting new index entry os type
lifts old new index core kind written grown at entry os type function of with_options typed =
    let g : Longer old new = record { more = defs.Item (items.Lift core written kind) ∷ []; grown = grown } in
    record {
      core = core;
      kind = kind;
      written = written;
      made = at;
      of = exported-kept g of;
      function = function;
      with_options = options-kept old new g written os with_options;
      typed = function_type-kept g typed;
    }

-- ---- what a call makes

-- a type
pub makes_type : (old new : List Def) (index : ℕ) (d : Def) (e : TypeEntry) → types_made (inventory old) d ≡ e ∷ [] → index ≡ items_in spaces.Type old → new ≡ old ++ d ∷ [] → Denotes (scope_of new) index (entry_tree e)
makes_type old new index d e made at grown = subst (λ l. Denotes (scope_of l) index (entry_tree e)) (sym grown) (subst (λ n. Denotes (scope_of (old ++ d ∷ [])) n (entry_tree e)) (sym at) (denotes_made old d e made))

-- an import of a function
pub imports_function : (old new : List Def) (index kind : ℕ) (name : ExternName) → index ≡ items_in spaces.Func old → new ≡ old ++ defs.Item (items.Import name (descriptions.Func kind)) ∷ [] → (type : FunctionTree) → IsFunctionType old kind type →
    IsImportedFunction new index (record { number = imports_in old; inner = None }) type
imports_function old new index kind name at grown type typed =
    let d : Def = defs.Item (items.Import name (descriptions.Func kind)) in
    let origin : Origin = record { number = imports_in old; inner = None } in
    record {
      is = ap (λ l. slice_get (inventory l).functions index) grown
          ∙ (ap (λ n. slice_get (inventory (old ++ d ∷ [])).functions n) at
          ∙ (function_made old d (record { origin = Some origin; type = get_or (scope_of old) kind OfOthers }) refl
          ∙ ap (λ t. Some (record { origin = Some origin; type = t })) typed.denotes.tree));
    }

-- a lift
pub lifts_function : (old new : List Def) (index core kind : ℕ) (written : List CanonicalOption) → index ≡ items_in spaces.Func old → new ≡ old ++ defs.Item (items.Lift core written kind) ∷ [] → (type : FunctionTree) → IsFunctionType old kind type →
    slice_get (inventory new).functions index ≡ Some (record { origin = None; type = OfFunctions type })
lifts_function old new index core kind written at grown type typed =
    let d : Def = defs.Item (items.Lift core written kind) in
    ap (λ l. slice_get (inventory l).functions index) grown
    ∙ (ap (λ n. slice_get (inventory (old ++ d ∷ [])).functions n) at
    ∙ (function_made old d (record { origin = None; type = get_or (scope_of old) kind OfOthers }) refl
    ∙ ap (λ t. Some (record { origin = None; type = t })) typed.denotes.tree))

-- the same of what a builder's call added
pub added_type : (old new : Built) (index : ℕ) (d : Def) (debug : Option (List ℕ)) (e : TypeEntry) → types_made (inventory old.defs) d ≡ e ∷ [] → (index ≡ items_in spaces.Type old.defs) × (new ≡ and_then old spaces.Type d debug) →
    Denotes (scope_of new.defs) index (entry_tree e)
added_type old new index d debug e made h = makes_type old.defs new.defs index d e made h.0 (ap (λ (b : Built). b.defs) h.1)

pub added_function : (old new : Built) (index kind : ℕ) (name : ExternName) → (index ≡ items_in spaces.Func old.defs) × (new ≡ and_then old spaces.Func (defs.Item (items.Import name (descriptions.Func kind))) None) → (type : FunctionTree) →
    IsFunctionType old.defs kind type → IsImportedFunction new.defs index (record { number = imports_in old.defs; inner = None }) type
added_function old new index kind name h = imports_function old.defs new.defs index kind name h.0 (ap (λ (b : Built). b.defs) h.1)
