-- The arguments of the fixup: what the shims stand for, main, and the shims.
use Rattle.std.proofs.Common.{◌^◌, ◌≡◌, ◌∙◌, ℕ, ◌<◌, List, [], ◌∷◌, length, map, refl, sym, ap, subst, Option, Some, None}
use Rattle.std.proofs.lemmas.Option.{same_Some}
use Rattle.std.specs.Prelude.{codes}
use Rattle.std.specs.List.{slice_get, flat_map, AllZip}
use Rattle.comp_bytes.specs.Spaces.{kind_space}
use Rattle.comp_bytes.specs.declared.space.Space.TheVariants as spaces
use Rattle.comp_bytes.specs.declared.def.CoreArgument.{CoreArgument}
use Rattle.comp_bytes.specs.declared.def.CoreInlineExport.{CoreInlineExport}
use Rattle.comp_bytes.specs.declared.def.Def.{Def}
use Rattle.comp_worlds.specs.Bases.{cell_type}
use Rattle.comp_worlds.specs.Typed.{initialize_type}
use Rattle.comp_worlds.specs.Worlds.{IsWorld}
use Rattle.comp_worlds.specs.declared.world.ComponentWorld.{ComponentWorld}
use Rattle.comp_links.specs.Targets.{Main}
use Rattle.comp_terms.proofs.HasShims.{has_by_shims}
use Rattle.comp_terms.specs.Generated.{shims_number, target_of}
use Rattle.comp_terms.specs.Planned.{IsFillFor, AreFillsFor}
use Rattle.comp_terms.specs.Rules.{IsFixupSource, IsFixupArgument}
use Rattle.core_types.specs.declared.types.ValType.{ValType}
use Rattle.core_runs.specs.Store.{Opaque, Called, Now}
use Rattle.fixup_modules.specs.Fixups.{thunk}
use Rattle.fixup_modules.specs.declared.instances.ImportedInstance.TheVariants as sources
use Rattle.world_shims.specs.WorldShims.{shims_of, type_of_shim, initialize_of, fixup_instances}
use Rattle.shim_plan.specs.declared.shims.Shim.{Shim}
use Rattle.shim_runs.specs.ShimRuns.{IsActual, IsCall, AreCalls, instance_exports, fixup_arguments}
use Rattle.comp_runs.specs.Store.{Export, CoreItem, ExportedBy, Store}
use Rattle.comp_runs.specs.Machine.{Scope, address_at, export_named, all_some}
use Rattle.comp_runs.specs.Instances.{type_space}
use Rattle.comp_runs.specs.Running.{core_argument}
use Rattle.link_laws.specs.Composition.{at_root, item_instantiates}
use Rattle.link_laws.specs.Linking.{initialization}
use Rattle.link_laws.proofs.Outcomes.{machine}
use Rattle.link_laws.proofs.Stores.{IsOpaqueOf, ShimsAt, exports_of_shims, IsModuleInstance, IsUserInstance, IsUserItem, IsInlineInstance, IsFilledWith, IsServedAs, IsNamedEntry, IsFunctionExported, main_module, Agrees, Calls, IsSeen}
use Rattle.link_laws.proofs.Given.{by_parts, found_name, thing_there, target_there, of_shims, module_there, user_there, offered_there}
use Rattle.link_laws.proofs.GivenImports.{purpose_opaque, needs_none}
use Rattle.link_laws.proofs.Plain.{initialize_offered}

-- what is given for a shim: a function of its type that is what the shim stands for
abbrev pub IsFilling : ComponentWorld → Store → Shim → Export → Type 0
IsFilling w s shim e = IsActual s.code shim e × IsFilledWith w s shim e.address

-- one more that is there
all_more : {A B : Type 0} (f : A → Option B) (x : A) (xs : List A) (y : B) (ys : List B) → f x ≡ Some y → all_some (map f xs) ≡ Some ys → all_some (map f (x ∷ xs)) ≡ Some (y ∷ ys)
all_more f x xs y ys h k = rw (h, k) refl

module _ {w : ComponentWorld} {earlier : List Def} {c : Scope} {s : Store} {g : List ValType} (a : Agrees w earlier c s g) where
  -- what the shims stand for, among the entries of an inline instance
  fill_there : IsWorld w → (e : CoreInlineExport) (shim : Shim) (x : Export) → IsFillFor w earlier e shim → IsNamedEntry c.items e x → IsFilling w s shim x
  fill_there ok e shim x h n =
      let kind : kind_space e.kind ≡ spaces.CoreFunc = ap kind_space h.function in
      let i : (y : ℕ) × (address_at spaces.CoreFunc e.index c.items ≡ Some y) × IsServedAs w s y (target_of w h.purpose) = target_there a e.index (target_of w h.purpose) (needs_none w shim h.purpose h.stands_for) h.serves in
      let at : address_at spaces.CoreFunc e.index c.items ≡ Some x.address = subst (λ space. address_at space e.index c.items ≡ Some x.address) kind n.at in
      let serves : IsServedAs w s x.address (target_of w h.purpose) = subst (λ y. IsServedAs w s y (target_of w h.purpose)) (same_Some i.0 x.address (sym i.1 ∙ at)) i.2 in
      let o : (item : CoreItem) × IsOpaqueOf s x.address (type_of_shim shim) item = purpose_opaque w ok s x.address shim h.purpose h.stands_for serves in (
        record { named = n.named ∙ h.named; space = n.space ∙ kind; function = Opaque o.1.what (type_of_shim shim); present = o.1.present; typed = refl },
        record { purpose = h.purpose; stands_for = h.stands_for; serves = serves },
      )

  fills_there : IsWorld w → (es : List CoreInlineExport) (shims : List Shim) (xs : List Export) → AllZip (IsFillFor w earlier) es shims → AllZip (IsNamedEntry c.items) es xs → AllZip (IsFilling w s) shims xs
  fills_there ok [] [] [] h n = tt
  fills_there ok (e ∷ es) (shim ∷ shims) (x ∷ xs) h n = (fill_there ok e shim x h.0 n.0, fills_there ok es shims xs h.1 n.1)
  fills_there ok [] (shim ∷ shims) xs h n = absurd h
  fills_there ok (e ∷ es) [] xs h n = absurd h
  fills_there ok [] [] (x ∷ xs) h n = absurd n
  fills_there ok (e ∷ es) (shim ∷ shims) [] h n = absurd n

  -- an argument, by what its instance exports
  argument_held : (x : CoreArgument) (of : ℕ) (name : List ℕ) (exports : List Export) → address_at spaces.CoreInstance x.instance c.items ≡ Some of → slice_get s.core_instances of ≡ Some exports → x.name ≡ name →
      (now : Now) → core_argument (machine c s now) x ≡ Some (name, exports)
  argument_held x of name exports at present named now = rw (at, present, named) refl

  -- what the shims stand for is there
  record HoldsActual (x : CoreArgument) : Type 0 where
    exports : List Export
    each : AllZip (IsFilling w s) (shims_of w) exports
    held : (now : Now) → core_argument (machine c s now) x ≡ Some (codes "actual", exports)

  actual_held : IsWorld w → (x : CoreArgument) → IsFixupArgument w earlier x (codes "actual", sources.Actual) → HoldsActual x
  actual_held ok x h =
      let fills : AreFillsFor w earlier x.instance = h.serves in
      let inline : (n : ℕ) × (address_at spaces.CoreInstance x.instance c.items ≡ Some n) × IsInlineInstance c.items s fills.entries n = thing_there a fills.made in
      record {
        exports = inline.2.exports;
        each = fills_there ok fills.entries (shims_of w) inline.2.exports fills.each inline.2.each;
        held = argument_held x inline.0 (codes "actual") inline.2.exports inline.1 inline.2.present h.named;
      }

  -- so are the shims
  record HoldsShims (x : CoreArgument) : Type 0 where
    at : ShimsAt
    made : a.shims ≡ Some at
    held : (now : Now) → core_argument (machine c s now) x ≡ Some (codes "shim", exports_of_shims w at)

  shims_held : (shims_of w ≡ [] → ⊥) → (x : CoreArgument) → IsFixupArgument w earlier x (codes "shim", sources.Shim) → HoldsShims x
  shims_held any x h =
      let of : (n : ℕ) × (address_at spaces.CoreInstance x.instance c.items ≡ Some n) × IsModuleInstance w a.shims s (shims_number w) n = module_there a h.serves in
      let found : (at : ShimsAt) × (a.shims ≡ Some at) × (of.2.exports ≡ exports_of_shims w at) × (length (shims_of w) < 2 ^ 32) =
      of_shims w s (flat_map (at_root item_instantiates) earlier) of.2.user of.2.exports a.shims (has_by_shims w any) a.with_shims of.2.each in
      record {
        at = found.0;
        made = found.1;
        held = λ now. argument_held x of.0 (codes "shim") of.2.exports of.1 of.2.present h.named now ∙ ap (λ (l : List Export). Some (codes "shim", l)) found.2;
      }

  -- and main, with the function that initializes it
  record HoldsMain (name : List ℕ) (x : CoreArgument) : Type 0 where
    exports : List Export
    held : (now : Now) → core_argument (machine c s now) x ≡ Some (codes "main", exports)
    address : ℕ
    call : IsCall s.code exports name address
    exported : IsFunctionExported w s address (record { of = Main; name = name })

  main_held : IsWorld w → (name : List ℕ) → initialize_of w ≡ Some name → (x : CoreArgument) → IsFixupArgument w earlier x (codes "main", sources.Main) → HoldsMain name x
  main_held ok name first x h =
      let u : (n : ℕ) × (address_at spaces.CoreInstance x.instance c.items ≡ Some n) × IsUserInstance s 0 (main_module w) n = user_there a (main_module w) refl h.serves in
      let offered = initialize_offered w ok name first in
      let e : (e : Export) × (export_named name u.2.exports ≡ Some e) × (e.space ≡ type_space initialize_type) × IsUserItem s u.2.user e initialize_type =
      offered_there a 0 (main_module w) u.0 u.2 name initialize_type offered in
      let named : e.0.name ≡ name = found_name name u.2.exports e.0 e.1 in
      record {
        exports = u.2.exports;
        held = argument_held x u.0 (codes "main") u.2.exports u.1 u.2.present h.named;
        address = e.0.address;
        call = (e.1 ∙ ap (λ (y : Export). Some y) (by_parts e.0 spaces.CoreFunc name e.2 named), e.3.what, e.3.present);
        exported = record {
          number = 0;
          of = record { world_module = main_module w; listed = refl; same = refl };
          user = u.2.user;
          instance = u.2.is;
          type = thunk;
          is = subst (λ n. IsOpaqueOf s e.0.address thunk (ExportedBy u.2.user n)) named e.3;
          offered = offered;
        };
      }

  -- what the arguments hold, and which function of main is called
  pub record HoldsArguments (shims : List Shim) (initialize : Option (List ℕ)) (arguments : List CoreArgument) : Type 0 where
    pub actual : List Export
    pub filling : AllZip (IsFilling w s) shims actual
    pub at : ShimsAt
    pub made : (shims ≡ [] → ⊥) → a.shims ≡ Some at
    pub main : List Export
    pub called : List ℕ
    pub calls : AreCalls s.code main initialize called
    pub seen : AllZip (IsSeen w s) (map (λ address. Called address []) called) (map (λ call. Calls call) (initialization None initialize))
    pub held : (now : Now) → all_some (map (core_argument (machine c s now)) arguments) ≡ Some (fixup_arguments shims initialize actual main at.address at.table at.memory (cell_type w))

  -- no shims
  abbrev nowhere : ShimsAt
  nowhere = record { address = 0; table = 0; memory = None }

  pub arguments_held : IsWorld w → (shims : List Shim) (initialize : Option (List ℕ)) → shims_of w ≡ shims → initialize_of w ≡ initialize → (arguments : List CoreArgument) →
      AllZip (IsFixupArgument w earlier) arguments (fixup_instances shims initialize) → HoldsArguments shims initialize arguments
  arguments_held ok [] None same first [] h =
      record { actual = []; filling = tt; at = nowhere; made = λ any. absurd (any refl); main = []; called = []; calls = refl; seen = tt; held = λ now. refl }
  arguments_held ok [] None same first (x ∷ xs) h = absurd h
  arguments_held ok [] (Some name) same first [] h = absurd h
  arguments_held ok [] (Some name) same first (x ∷ y ∷ more) h = absurd h.1
  arguments_held ok [] (Some name) same first (x ∷ []) h =
      let m : HoldsMain name x = main_held ok name first x h.0 in
      record {
        actual = [];
        filling = tt;
        at = nowhere;
        made = λ any. absurd (any refl);
        main = m.exports;
        called = m.address ∷ [];
        calls = m.call;
        seen = ((m.exported, refl), tt);
        held = λ now. all_more (core_argument (machine c s now)) x [] (codes "main", m.exports) [] (m.held now) refl;
      }
  arguments_held ok (shim ∷ shims) None same first [] h = absurd h
  arguments_held ok (shim ∷ shims) None same first (x ∷ []) h = absurd h.1
  arguments_held ok (shim ∷ shims) None same first (x ∷ y ∷ z ∷ more) h = absurd h.1.1
  arguments_held ok (shim ∷ shims) None same first (x ∷ y ∷ []) h =
      let behind : HoldsActual x = actual_held ok x h.0 in
      let own : HoldsShims y = shims_held (λ none. let no : shim ∷ shims ≡ [] = sym same ∙ none in cc) y h.1.0 in
      record {
        actual = behind.exports;
        filling = subst (λ l. AllZip (IsFilling w s) l behind.exports) same behind.each;
        at = own.at;
        made = λ any. own.made;
        main = [];
        called = [];
        calls = refl;
        seen = tt;
        held = λ now.
            all_more (core_argument (machine c s now)) x (y ∷ []) (codes "actual", behind.exports) ((codes "shim", exports_of_shims w own.at) ∷ []) (behind.held now)
            (all_more (core_argument (machine c s now)) y [] (codes "shim", exports_of_shims w own.at) [] (own.held now) refl)
            ∙ ap (λ l. Some ((codes "actual", behind.exports) ∷ (codes "shim", instance_exports l own.at.address own.at.table own.at.memory (cell_type w)) ∷ [])) same;
      }
  arguments_held ok (shim ∷ shims) (Some name) same first [] h = absurd h
  arguments_held ok (shim ∷ shims) (Some name) same first (x ∷ []) h = absurd h.1
  arguments_held ok (shim ∷ shims) (Some name) same first (x ∷ y ∷ []) h = absurd h.1.1
  arguments_held ok (shim ∷ shims) (Some name) same first (x ∷ y ∷ z ∷ v ∷ more) h = absurd h.1.1.1
  arguments_held ok (shim ∷ shims) (Some name) same first (x ∷ y ∷ z ∷ []) h =
      let behind : HoldsActual x = actual_held ok x h.0 in
      let m : HoldsMain name y = main_held ok name first y h.1.0 in
      let own : HoldsShims z = shims_held (λ none. let no : shim ∷ shims ≡ [] = sym same ∙ none in cc) z h.1.1.0 in
      record {
        actual = behind.exports;
        filling = subst (λ l. AllZip (IsFilling w s) l behind.exports) same behind.each;
        at = own.at;
        made = λ any. own.made;
        main = m.exports;
        called = m.address ∷ [];
        calls = m.call;
        seen = ((m.exported, refl), tt);
        held = λ now.
            all_more (core_argument (machine c s now)) x (y ∷ z ∷ []) (codes "actual", behind.exports) ((codes "main", m.exports) ∷ (codes "shim", exports_of_shims w own.at) ∷ []) (behind.held now)
            (all_more (core_argument (machine c s now)) y (z ∷ []) (codes "main", m.exports) ((codes "shim", exports_of_shims w own.at) ∷ []) (m.held now)
            (all_more (core_argument (machine c s now)) z [] (codes "shim", exports_of_shims w own.at) [] (own.held now) refl))
            ∙ ap (λ l. Some ((codes "actual", behind.exports) ∷ (codes "main", m.exports) ∷ (codes "shim", instance_exports l own.at.address own.at.table own.at.memory (cell_type w)) ∷ [])) same;
      }
