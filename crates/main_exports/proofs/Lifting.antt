-- What a lift adds, and the causes of its refusal among all functions.
use Rattle.std.proofs.Common.{◌≡◌, ◌∙◌, ◌<◌, ℕ, List, [], ◌∷◌, ◌++◌, ap, sym, subst, Contains, Some, None, Option, Bor, inr}
use Rattle.std.specs.List.{AllZip, slice_get}
use Rattle.std.specs.Option.{option_copied, option_map}
use Rattle.standard_kinds.specs.declared.kinds.ExportKind.{ExportKind}
use Rattle.standard_kinds.specs.declared.kinds.ExportKind.TheVariants as kinds
use Rattle.comp_bytes.specs.Spaces.{items_in, kind_space}
use Rattle.comp_bytes.specs.declared.canon.CanonicalOption.{CanonicalOption}
use Rattle.comp_bytes.specs.declared.def.Def.{Def}
use Rattle.comp_bytes.specs.declared.def.Def.TheVariants as defs
use Rattle.comp_bytes.specs.declared.def.Item.TheVariants as items
use Rattle.comp_bytes.proofs.ItemIndices.{in_range}
use Rattle.comp_trees.specs.Trees.{FunctionTree}
use Rattle.comp_trees.specs.DefinedTrees.{OfFunctions}
use Rattle.comp_inventories.specs.Inventories.{inventory}
use Rattle.comp_roles.specs.declared.metadata.FunctionKey.{FunctionKey}
use Rattle.wit_data.specs.declared.functions.Function.{Function}
use Rattle.wit_data.specs.declared.ids.InterfaceId.{InterfaceId}
use Rattle.comp_worlds.specs.WorldContents.{exported_item, function_exported}
use Rattle.comp_worlds.specs.declared.world.ComponentWorld.{ComponentWorld}
use Rattle.comp_links.specs.Links.{lift_options}
use Rattle.comp_links.specs.Lists.{RequiredFunction}
use Rattle.comp_links.specs.Targets.{UserModule as User, Lifted}
use Rattle.comp_terms.specs.Planned.{type_of_function}
use Rattle.comp_terms.specs.Rules.{Grows}
use Rattle.comp_terms.specs.Terms.{CoreExport, TermOption, IsExported, IsFunctionType, IsLifting, IsOption}
use Rattle.root_imports.specs.Growing.{Grows-by}
use Rattle.core_options.specs.Causes.{IsCauseAmong}
use Rattle.core_options.specs.MainOptions.{NameOptions}
use Rattle.core_options.specs.declared.fault.StateFault.{StateFault}
use Rattle.core_options.proofs.OptionTerms.{options_right}
use Rattle.core_options.proofs.Refusals.{among_more}
use Rattle.interface_needs.proofs.Lists.{contains_none, contains_one}
use Rattle.interface_needs.specs.RootNeeds.{interface_of_item}
use Rattle.root_imports.specs.Imports.{IsNeededFunction}
use Rattle.main_exports.specs.Exports.{function_of, IsModuleFunction, IsEntryOf, IsTypedLift}

pub record AddsLift (w : ComponentWorld) (of : User) (old new : List Def) (f : FunctionKey) (function : Function) (index : ℕ) : Type 0 where
  pub grows : Grows w old new []
  pub lifted : IsTypedLift w of new f function index

pub adds_lift : (w : ComponentWorld) (of : User) (old new : List Def) (core kind index : ℕ) (options : List CanonicalOption) (f : FunctionKey) (function : Function) → NameOptions w old options (lift_options w (function_of of f)) →
    IsEntryOf w of old f core → IsFunctionType old kind (type_of_function w function) → function_exported w f.key f.function ≡ Some function →
    new ≡ old ++ defs.Item (items.Lift core options kind) ∷ [] →
    ((entry : CoreExport) (written : List TermOption) (type : FunctionTree) → entry.kind ≡ kinds.Func → IsExported old core entry → AllZip (IsOption old) options written → IsFunctionType old kind type → IsLifting new index entry written type) →
    ((type : FunctionTree) → IsFunctionType old kind type → slice_get (inventory new).functions index ≡ Some (record { origin = None; type = OfFunctions type })) →
    AddsLift w of old new f function index
adds_lift w of old new core kind index options f function fit entry typed exported appended lifts made = record {
  grows = Grows-by (defs.Item (items.Lift core options kind)) appended (subst (λ (k : ExportKind). core < items_in (kind_space k) old) entry.alias.function (in_range entry.alias.is.made), options_right w old options fit.terms fit.are, record { type = type_of_function w function; is = typed });
  lifted = record {
    lifted = record {
      target = Lifted (record { of = of; name = entry.name }) (lift_options w (function_of of f));
      wit = function;
      said = ap (option_map (λ n. Lifted (record { of = of; name = n }) (lift_options w (function_of of f)))) entry.said;
      exported = exported;
      is = record {
        entry = entry.alias.exported;
        options = fit.terms;
        is = lifts entry.alias.exported fit.terms (type_of_function w function) entry.alias.function entry.alias.is fit.are typed;
        asked = (entry.alias.named, fit.asked);
      };
    };
    entry = made (type_of_function w function) typed;
  };
}

-- the function of a key is needed where its type is defined
pub needed_function : (w : ComponentWorld) (of : User) (interface : Option InterfaceId) (f : FunctionKey) (function : Function) → IsModuleFunction w of f function → interface_of_item (exported_item w f.key) ≡ interface → IsNeededFunction w interface function
needed_function w of None f function h at = inr (record { key = f.key; name = f.function; exported = h.exported; of = at })
needed_function w of (Some id) f function h at = record { key = f.key; name = f.function; exported = h.exported; of = at }

-- a cause among no functions is one among any
pub among_any : (w : ComponentWorld) (fs : List RequiredFunction) (e : StateFault) → IsCauseAmong w [] [] e → IsCauseAmong w [] fs e
among_any w fs e h = among_more w [] [] [] fs (λ x c. contains_none x c) (λ r c. contains_none r c) e h

-- and one of one of the functions is one among them
pub among_one : (w : ComponentWorld) (r : RequiredFunction) (fs : List RequiredFunction) (e : StateFault) → Contains fs r → IsCauseAmong w [] (r ∷ []) e → IsCauseAmong w [] fs e
among_one w r fs e there h = among_more w [] [] (r ∷ []) fs (λ x c. contains_none x c) (λ k c. subst (Contains fs) (contains_one r k c) there) e h

-- a look-up that finds nothing, and one that finds something, as its caller sees it
pub none_there : {X : Type 0} (o : Option (Bor X)) {found : Option X} → o ≡ None → option_copied o ≡ found → found ≡ None
none_there o is same = sym same ∙ ap option_copied is

pub unwrapped : {X : Type 0} (o : Option (Bor X)) (b : Bor X) → o ≡ Some b → option_copied o ≡ Some b.now
unwrapped o b is = ap option_copied is
