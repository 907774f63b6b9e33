-- A type of the interface that is imported as equal to its definition.
use Rattle.std.proofs.Common.{◌≡◌, ◌∙◌, ◌<◌, ◌==◌, inl, ℕ, true, false, true≢false, List, [], ◌∷◌, length, refl, ap, sym, subst, get_or, Option, Some, None, is_some}
use Rattle.std.specs.Prelude.{Result, Ok, Err, IfOk, OnOk, OnErr}
use Rattle.std.specs.Map.{lookup}
use Rattle.std.specs.Str.{bytes_eq}
use Rattle.std.proofs.lemmas.Bool.Decides.{Decides-eqb}
use Rattle.std.proofs.lemmas.Map.Views.{Contains-from_lookup}
use Rattle.std.proofs.lemmas.Option.{same_Some}
use Rattle.std.proofs.lemmas.Slice.Eq.{bytes_eq-Decides}
use Rattle.byte_encoding.specs.declared.fault.BuildFault.{BuildFault}
use Rattle.wit_data.specs.declared.ids.TypeId.{TypeId}
use Rattle.wit_data.specs.declared.types.Type.TheVariants.{Id}
use Rattle.comp_bytes.specs.declared.types.Description.TheVariants as descriptions
use Rattle.comp_bytes.specs.declared.types.ExternName.{ExternName}
use Rattle.comp_bytes.specs.declared.def.Item.TheVariants as items
use Rattle.comp_trees.specs.Trees.{Resource}
use Rattle.comp_trees.specs.DefinedTrees.{TypeTree, OfValues, OfOthers}
use Rattle.comp_trees.specs.WitTrees.{wit_tree}
use Rattle.wit_types.specs.Denoting.{Longer, MayMake}
use Rattle.wit_types.specs.Settings.{NamesType}
use Rattle.wit_types.proofs.Growing.{longer_none}
use Rattle.wit_types.proofs.Permitting.{same_tree}
use Rattle.nested_terms.specs.Nested.{NestedScope}
use Rattle.nested_components.specs.declared.contents.Contents.{Contents}
use Rattle.nested_components.specs.declared.stage.Stage.{Stage}
use Rattle.nested_components.specs.declared.stage.Stage.TheVariants as stages
use Rattle.nested_components.specs.declared.type_import.TypeImport.{TypeImport}
use Rattle.nested_components.specs.Homes.{Home, may_own_named, nested_setting, MayImport}
use Rattle.nested_components.specs.Counts.{types_in}
use Rattle.nested_components.specs.Growing.{scope_of, plain, Grows, ImportsNamed}
use Rattle.nested_components.specs.Following.{grows_none}
use Rattle.nested_components.proofs.Scoping.{scope_more, types_more, denotes_new}

-- a type that is listed under a name is the one that a look-up finds
found_listed : (n : ℕ) (o : Option TypeId) → (elim o [ None ↦ false | Some id ↦ id.index == n ]) ≡ true → o ≡ Some (record { index = n })
found_listed n None e = absurd (true≢false (sym e))
found_listed n (Some id) e = ap (λ (k : ℕ). Some (record { index = k })) ((Decides-eqb id.index n).0 e)

module _ (origin : TypeId → Resource) (home : Home) (stage : Stage) (importing : stage ≡ stages.Importing) (name : ExternName) (tree : TypeTree) (n : NamesType (nested_setting origin home stage) name tree) where
  pub finds_named : lookup (bytes_eq name.name) home.named ≡ Some n.id
  finds_named =
      found_listed n.id.index (lookup (bytes_eq name.name) home.named)
      (subst (λ (s : Stage). may_own_named (Some name.name) s home n.id.index ≡ true) importing (subst (λ (o : Option (List ℕ)). may_own_named o stage home n.id.index ≡ true) n.named n.own))

  pub is_there : is_some (lookup (bytes_eq name.name) home.named) ≡ true
  is_there = ap is_some finds_named

  tree_named : (id : TypeId) → lookup (bytes_eq name.name) home.named ≡ Some id → tree ≡ OfValues (wit_tree origin home.types (Some (Id id)))
  tree_named id found =
      n.tree ∙ (ap OfValues (same_tree (nested_setting origin home stage) home.types (Some (Id n.id)) refl) ∙ ap (λ (i : TypeId). OfValues (wit_tree origin home.types (Some (Id i)))) (same_Some n.id id (sym finds_named ∙ found)))

module _ (given : List ℕ → TypeTree) (origin : TypeId → Resource) (home : Home) (stage : Stage) (importing : stage ≡ stages.Importing) (old new : Contents) (name : ExternName) (index : ℕ) where
  abbrev there : TypeTree
  there = get_or (scope_of given old.items).types index OfOthers

  grows_named : NamesType (nested_setting origin home stage) name there → index < length (scope_of given old.items).types → ImportsNamed home old new name.name index → Grows given origin home stage old new []
  grows_named n within h =
      let i = items.Import (plain h.imports.free) (descriptions.TypeEqual index) in
      let t : TypeImport = record { name = h.imports.free; id = h.id } in
      record {
        more = (false, t) ∷ [];
        staged = subst (λ s. MayImport s ((false, t) ∷ [])) (sym importing) tt;
        chosen = refl;
        taken = h.imports.taken;
        types = h.imports.types;
        own = (
          record {
            text = name.name;
            from = inl (Contains-from_lookup (λ x y. (bytes_eq-Decides x y).0) name.name h.id home.named h.found);
            count = h.imports.is_free.count;
            same = h.imports.is_free.same;
          },
          tt,
        );
        items = record {
          more = i ∷ [];
          grown = h.imports.items;
          right = (within, tt);
          imported = refl;
          typed = ap (λ x. (h.imports.free, x) ∷ []) (tree_named origin home stage importing name there n h.id h.found);
          exported = refl;
          made = ap (λ (s : NestedScope). s.functions) (scope_more given old.items new.items i h.imports.items);
        };
      }

  pub named_grown : (r : Result (Option ℕ) BuildFault) → NamesType (nested_setting origin home stage) name there → index < length (scope_of given old.items).types → OnOk r (ImportsNamed home old new name.name index) → OnErr r (new ≡ old) →
      Grows given origin home stage old new []
  named_grown (Ok o) n within is same = grows_named n within is
  named_grown (Err e) n within is same = subst (λ c. Grows given origin home stage old c []) (sym same) (grows_none given origin home stage old)

  -- the result of a call that imports a type
  pub named_made : (r : Result (Option ℕ) BuildFault) → IfOk r (λ o. o ≡ Some (types_in old.items)) → OnOk r (ImportsNamed home old new name.name index) → OnErr r (new ≡ old) → MayMake (scope_of given old.items).types (scope_of given new.items).types r there
  named_made (Ok (Some k)) at is same =
      let i = items.Import (plain is.imports.free) (descriptions.TypeEqual index) in (
        types_more given old.items new.items i there refl is.imports.items,
        denotes_new given old.items new.items i there refl is.imports.items k (same_Some k (types_in old.items) at),
      )
  named_made (Ok None) at is same = cc
  named_made (Err e) at is same = subst (λ (c : Contents). Longer (scope_of given old.items).types (scope_of given c.items).types) (sym same) (longer_none (scope_of given old.items).types)
