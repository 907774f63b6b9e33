-- What may be encoded is made of what may be.
use Rattle.std.proofs.Common.{if◌then◌else◌, ◌≡◌, ℕ, zero, suc, Bool, true, false, ◌<◌, ◌&&◌, List, [], ◌∷◌, length, get_or, map, refl, sym, ap, subst, ◌∙◌, arith, true≢false, Option, Some, None}
use Rattle.std.specs.List.{AllByRecursion, list_all}
use Rattle.wit_data.specs.declared.functions.Param.{Param}
use Rattle.wit_types.specs.Maps.{key_params}
use Rattle.std.proofs.lemmas.List.Folds.{list_all-map}
use Rattle.wit_data.specs.declared.ids.TypeId.{TypeId}
use Rattle.wit_data.specs.declared.ids.InterfaceId.{InterfaceId}
use Rattle.wit_data.specs.declared.types.Type.{«Type» as Ty}
use Rattle.wit_data.specs.declared.types.Type.TheVariants.{Id}
use Rattle.wit_data.specs.declared.types.TypeDef.{TypeDef}
use Rattle.wit_data.specs.declared.types.TypeDefKind.{TypeDefKind}
use Rattle.wit_data.specs.declared.types.TypeDefKind.TheVariants as kinds
use Rattle.wit_data.specs.Parts.{parts, IsBelow, RefersBack}
use Rattle.wit_data.specs.Values.{kind_at}
use Rattle.wit_data.proofs.Values.{made_whole}
use Rattle.comp_trees.specs.Trees.{Tree, Resource, ResourceAt, same_resource}
use Rattle.comp_trees.proofs.Resources.{one_resource}
use Rattle.comp_trees.specs.DefinedTrees.{TypeTree, OfValues}
use Rattle.comp_trees.specs.WitTrees.{kind_tree, making_trees, wit_tree}
use Rattle.wit_types.specs.Settings.{Setting, NamesType, tree_in, owner_at, name_at}
use Rattle.comp_bytes.specs.declared.types.ComponentValType.{ComponentValType}
use Rattle.comp_bytes.specs.declared.types.ComponentValType.TheVariants as values
use Rattle.comp_trees.specs.DefinedScopes.{Denotes}
use Rattle.wit_types.specs.Denoting.{ValueDenotes}
use Rattle.wit_types.proofs.Growing.{denotes_as}
use Rattle.wit_types.specs.Allowing.{foreign, is_resource, is_allowed, may_make, may_have, may_define, may_export_as, allowing, IsDefinedHere, MayEncode}

-- the tree of a type, and whether it may be encoded, from those of its parts
tree_inside : (s : Setting) (id : TypeId) → RefersBack s.types → id.index < length s.types → tree_in s (Some (Id id)) ≡ kind_tree s.origin id.index (kind_at s.types id.index) (map (tree_in s) (parts (kind_at s.types id.index)))
unfolding tree_in
tree_inside s id back within = made_whole (making_trees s.origin) s.types id.index back within

pub allowed_of_id : (s : Setting) (id : TypeId) → RefersBack s.types → id.index < length s.types → is_allowed s (Some (Id id)) ≡ may_have s id.index (kind_at s.types id.index) (map (is_allowed s) (parts (kind_at s.types id.index)))
unfolding is_allowed
allowed_of_id s id back within = made_whole (allowing s) s.types id.index back within

-- a type that is in the tables may be encoded
pub allowed_met : (s : Setting) (id : TypeId) → RefersBack s.types → id.index < length s.types → s.met id ≡ true → is_allowed s (Some (Id id)) ≡ true
allowed_met s id back within met =
    let made = may_make s id.index (kind_at s.types id.index) (map (is_allowed s) (parts (kind_at s.types id.index))) (foreign s.interface (owner_at s.types id.index)) in
    allowed_of_id s id back within ∙ ap (λ b. if b then true else made) met

-- a type that is not in the tables may be made
may_be_made : (s : Setting) (id : TypeId) → RefersBack s.types → id.index < length s.types → s.met id ≡ false → is_allowed s (Some (Id id)) ≡ true → may_make s id.index (kind_at s.types id.index) (map (is_allowed s) (parts (kind_at s.types id.index))) (foreign s.interface (owner_at s.types id.index)) ≡ true
may_be_made s id back within unmet allowed =
    let made = may_make s id.index (kind_at s.types id.index) (map (is_allowed s) (parts (kind_at s.types id.index))) (foreign s.interface (owner_at s.types id.index)) in
    sym (ap (λ b. if b then true else made) unmet) ∙ (sym (allowed_of_id s id back within) ∙ allowed)

import_here : (s : Setting) (id : TypeId) (other : InterfaceId) → RefersBack s.types → id.index < length s.types → s.met id ≡ false → is_allowed s (Some (Id id)) ≡ true → foreign s.interface (owner_at s.types id.index) ≡ Some other → s.may_import other id ≡ true
import_here s id other back within unmet allowed is =
    sym (ap (may_make s id.index (kind_at s.types id.index) (map (is_allowed s) (parts (kind_at s.types id.index)))) is) ∙ may_be_made s id back within unmet allowed

both_of : (a b : Bool) → (a && b) ≡ true → (a ≡ true) × (b ≡ true)
both_of true b e = (refl, e)
both_of false b e = absurd (true≢false (sym e))

own_made : (s : Setting) (id : TypeId) → RefersBack s.types → id.index < length s.types → s.met id ≡ false → is_allowed s (Some (Id id)) ≡ true → foreign s.interface (owner_at s.types id.index) ≡ None → (s.may_own id.index ≡ true) × (may_define s id.index (kind_at s.types id.index) (map (is_allowed s) (parts (kind_at s.types id.index))) ≡ true)
own_made s id back within unmet allowed is =
    both_of (s.may_own id.index) (may_define s id.index (kind_at s.types id.index) (map (is_allowed s) (parts (kind_at s.types id.index))))
    (sym (ap (may_make s id.index (kind_at s.types id.index) (map (is_allowed s) (parts (kind_at s.types id.index)))) is) ∙ may_be_made s id back within unmet allowed)

own_kind : (s : Setting) (id : TypeId) → RefersBack s.types → id.index < length s.types → s.met id ≡ false → is_allowed s (Some (Id id)) ≡ true → foreign s.interface (owner_at s.types id.index) ≡ None → may_define s id.index (kind_at s.types id.index) (map (is_allowed s) (parts (kind_at s.types id.index))) ≡ true
own_kind s id back within unmet allowed is = (own_made s id back within unmet allowed is).1

resource_is : (k : TypeDefKind) → is_resource k ≡ true → k ≡ kinds.Resource
resource_is kinds.Resource e = refl
resource_is k e = absurd (true≢false (sym e))

export_here : (s : Setting) (id : TypeId) → RefersBack s.types → id.index < length s.types → s.met id ≡ false → is_allowed s (Some (Id id)) ≡ true → foreign s.interface (owner_at s.types id.index) ≡ None → is_resource (kind_at s.types id.index) ≡ true → may_export_as s id.index (name_at s.types id.index) ≡ true
export_here s id back within unmet allowed is resource =
    sym (ap (λ k. may_define s id.index k (map (is_allowed s) (parts k))) (resource_is (kind_at s.types id.index) resource)) ∙ own_kind s id back within unmet allowed is

definable : (s : Setting) (n : ℕ) (k : TypeDefKind) (bs : List Bool) → is_resource k ≡ false → may_define s n k bs ≡ true → list_all (λ b. b) bs ≡ true
definable s n kinds.Resource bs r e = absurd (true≢false r)
definable s n k bs r e = e

defined_inside : (s : Setting) (id : TypeId) → RefersBack s.types → id.index < length s.types → s.met id ≡ false → is_allowed s (Some (Id id)) ≡ true → foreign s.interface (owner_at s.types id.index) ≡ None → is_resource (kind_at s.types id.index) ≡ false → IsDefinedHere s (kind_at s.types id.index)
defined_inside s id back within unmet allowed is resource =
    let k = kind_at s.types id.index in
    record {
      values = resource;
      allowed = sym (list_all-map (λ b. b) (is_allowed s) (parts k)) ∙ definable s id.index k (map (is_allowed s) (parts k)) resource (own_kind s id back within unmet allowed is);
    }

both : (a b : Bool) → (a && b) ≡ true → (a ≡ true) × (b ≡ true)
both true b e = (refl, e)
both false b e = absurd (true≢false (sym e))

pub all_at : {X : Type 0} (test : X → Bool) (xs : List X) (k : ℕ) (d : X) → list_all test xs ≡ true → k < length xs → test (get_or xs k d) ≡ true
all_at test [] k d e l = absurd (omega (arith, l))
all_at test (x ∷ xs) zero d e l = (both (test x) (list_all test xs) e).0
all_at test (x ∷ xs) (suc k) d e l = all_at test xs k d (both (test x) (list_all test xs) e).1 (omega (arith, l))

pub part_allowed : (s : Setting) (k : TypeDefKind) (n : ℕ) → IsDefinedHere s k → n < length (parts k) → is_allowed s (get_or (parts k) n None) ≡ true
part_allowed s k n d l = all_at (is_allowed s) (parts k) n None d.allowed l

-- a kind that is no resource has the same tree whatever the index of its type is
pub kind_anywhere : (s : Setting) (k : TypeDefKind) (m n : ℕ) → is_resource k ≡ false → kind_tree s.origin m k (map (tree_in s) (parts k)) ≡ kind_tree s.origin n k (map (tree_in s) (parts k))
kind_anywhere s kinds.Resource m n r = absurd (true≢false r)
kind_anywhere s (kinds.Record a) m n r = refl
kind_anywhere s (kinds.Variant a) m n r = refl
kind_anywhere s (kinds.Enum a) m n r = refl
kind_anywhere s (kinds.Flags a) m n r = refl
kind_anywhere s (kinds.Tuple a) m n r = refl
kind_anywhere s (kinds.«Option» a) m n r = refl
kind_anywhere s (kinds.«Result» a) m n r = refl
kind_anywhere s (kinds.«List» a) m n r = refl
kind_anywhere s (kinds.Own a) m n r = refl
kind_anywhere s (kinds.Borrow a) m n r = refl
kind_anywhere s (kinds.Stream a) m n r = refl
kind_anywhere s (kinds.Future a) m n r = refl
kind_anywhere s (kinds.Alias a) m n r = refl

-- the same where the types of the scope are known by another name
pub tree_of_id : (s : Setting) (types : List TypeDef) (id : TypeId) → s.types ≡ types → RefersBack types → id.index < length types → tree_in s (Some (Id id)) ≡ kind_tree s.origin id.index (kind_at types id.index) (map (tree_in s) (parts (kind_at types id.index)))
tree_of_id s types id same = subst (λ ts. RefersBack ts → id.index < length ts → tree_in s (Some (Id id)) ≡ kind_tree s.origin id.index (kind_at ts id.index) (map (tree_in s) (parts (kind_at ts id.index)))) same (tree_inside s id)

pub tree_of_kind : (s : Setting) (types : List TypeDef) (id : TypeId) (k : TypeDefKind) → s.types ≡ types → RefersBack types → id.index < length types → k ≡ kind_at types id.index → kind_tree s.origin id.index k (map (tree_in s) (parts k)) ≡ tree_in s (Some (Id id))
tree_of_kind s types id k same back within is =
    ap (λ j. kind_tree s.origin id.index j (map (tree_in s) (parts j))) is ∙ sym (tree_of_id s types id same back within)

pub may_import : (s : Setting) (types : List TypeDef) (id : TypeId) (other : InterfaceId) → s.types ≡ types → RefersBack types → id.index < length types → s.met id ≡ false → is_allowed s (Some (Id id)) ≡ true → foreign s.interface (owner_at types id.index) ≡ Some other → s.may_import other id ≡ true
may_import s types id other same = subst (λ ts. RefersBack ts → id.index < length ts → s.met id ≡ false → is_allowed s (Some (Id id)) ≡ true → foreign s.interface (owner_at ts id.index) ≡ Some other → s.may_import other id ≡ true) same (import_here s id other)

pub may_export : (s : Setting) (types : List TypeDef) (id : TypeId) → s.types ≡ types → RefersBack types → id.index < length types → s.met id ≡ false → is_allowed s (Some (Id id)) ≡ true → foreign s.interface (owner_at types id.index) ≡ None → is_resource (kind_at types id.index) ≡ true → may_export_as s id.index (name_at types id.index) ≡ true
may_export s types id same = subst (λ ts. RefersBack ts → id.index < length ts → s.met id ≡ false → is_allowed s (Some (Id id)) ≡ true → foreign s.interface (owner_at ts id.index) ≡ None → is_resource (kind_at ts id.index) ≡ true → may_export_as s id.index (name_at ts id.index) ≡ true) same (export_here s id)

pub owned_here : (s : Setting) (types : List TypeDef) (id : TypeId) → s.types ≡ types → RefersBack types → id.index < length types → s.met id ≡ false → is_allowed s (Some (Id id)) ≡ true → foreign s.interface (owner_at types id.index) ≡ None → s.may_own id.index ≡ true
owned_here s types id same = subst (λ ts. RefersBack ts → id.index < length ts → s.met id ≡ false → is_allowed s (Some (Id id)) ≡ true → foreign s.interface (owner_at ts id.index) ≡ None → s.may_own id.index ≡ true) same (λ back within unmet allowed is. (own_made s id back within unmet allowed is).0)

pub defined_here : (s : Setting) (types : List TypeDef) (id : TypeId) → s.types ≡ types → RefersBack types → id.index < length types → s.met id ≡ false → is_allowed s (Some (Id id)) ≡ true → foreign s.interface (owner_at types id.index) ≡ None → is_resource (kind_at types id.index) ≡ false → IsDefinedHere s (kind_at types id.index)
defined_here s types id same = subst (λ ts. RefersBack ts → id.index < length ts → s.met id ≡ false → is_allowed s (Some (Id id)) ≡ true → foreign s.interface (owner_at ts id.index) ≡ None → is_resource (kind_at ts id.index) ≡ false → IsDefinedHere s (kind_at ts id.index)) same (defined_inside s id)

-- what is met of the kind of a type is the type
pub equal_found : (s : Setting) (types : List TypeDef) (id : TypeId) (kind : TypeDefKind) (scope : List TypeTree) (index : ℕ) → s.types ≡ types → RefersBack types → id.index < length types → kind ≡ kind_at types id.index → ((n : ℕ) → Denotes scope index (OfValues (kind_tree s.origin n kind (map (tree_in s) (parts kind))))) → Denotes scope index (OfValues (tree_in s (Some (Id id))))
equal_found s types id kind scope index same back within is h =
    denotes_as (h id.index) refl (ap OfValues (tree_of_kind s types id kind same back within is))

pub named_resource : (s : Setting) (n : ℕ) (name : List ℕ) → may_export_as s n (Some name) ≡ true → (s.may_export name ≡ true) × (s.resource name ≡ s.origin (record { index = n }))
named_resource s n name e =
    let b = both (s.may_export name) (same_resource (s.resource name) (s.origin (record { index = n }))) e in
    (b.0, one_resource (s.resource name) (s.origin (record { index = n })) b.1)

pub unnamed_resource : (s : Setting) (n : ℕ) (name : Option (List ℕ)) → None ≡ name → may_export_as s n name ≡ true → ⊥
unnamed_resource s n None e h = true≢false (sym h)
unnamed_resource s n (Some name) e h = cc

pub resource_tree : (s : Setting) (types : List TypeDef) (id : TypeId) (named : Resource) → s.types ≡ types → RefersBack types → id.index < length types → is_resource (kind_at types id.index) ≡ true → named ≡ s.origin id → ResourceAt named ≡ tree_in s (Some (Id id))
resource_tree s types id named same back within resource is =
    ap ResourceAt is ∙ sym (tree_of_id s types id same back within ∙ ap (λ k. kind_tree s.origin id.index k (map (tree_in s) (parts k))) (resource_is (kind_at types id.index) resource))

-- a resource that may be exported under its name is known by it
pub names_resource : (s : Setting) (types : List TypeDef) (id : TypeId) (name : List ℕ) → s.types ≡ types → RefersBack types → id.index < length types → is_resource (kind_at types id.index) ≡ true → name_at types id.index ≡ Some name → s.may_own id.index ≡ true →
    may_export_as s id.index (Some name) ≡ true → NamesType s (record { name = name; version_suffix = None }) (OfValues (ResourceAt (s.resource name)))
names_resource s types id name same back within resource titled own may = record {
  id = id;
  present = subst (λ ts. id.index < length ts) (sym same) within;
  named = ap (λ ts. name_at ts id.index) same ∙ titled;
  plain = refl;
  own = own;
  tree = ap OfValues (resource_tree s types id (s.resource name) same back within resource (named_resource s id.index name may).1);
}

pub index_denotes : (scope : List TypeTree) (v : ComponentValType) (index : ℕ) (t : Tree) → ValueDenotes scope v t → v ≡ values.Defined index → Denotes scope index (OfValues t)
index_denotes scope v index t d is = (subst (λ w. ValueDenotes scope w t) is d).is

-- a type of a kind that is no resource is recorded by its kind
pub kind_recorded : (s t : Setting) (types : List TypeDef) (id : TypeId) (kind : TypeDefKind) (scope new : List TypeTree) (v : ComponentValType) (index : ℕ) → s.types ≡ types → RefersBack types → id.index < length types → is_resource (kind_at types id.index) ≡ false → ValueDenotes scope v (tree_in s (Some (Id id))) → v ≡ values.Defined index → kind ≡ kind_at types id.index → new ≡ scope → t ≡ s → (n : ℕ) → Denotes new index (OfValues (kind_tree t.origin n kind (map (tree_in t) (parts kind))))
kind_recorded s t types id kind scope new v index same back within resource denotes is of_kind kept setting n =
    let k = kind_at types id.index in
    denotes_as (index_denotes scope v index (tree_in s (Some (Id id))) denotes is) kept
    (ap OfValues (tree_of_id s types id same back within ∙ kind_anywhere s k id.index n resource ∙ ap (λ j. kind_tree s.origin n j (map (tree_in s) (parts j))) (sym of_kind))
    ∙ ap (λ (r : Setting). OfValues (kind_tree r.origin n kind (map (tree_in r) (parts kind)))) (sym setting))

-- the tree of a type of the scope's types
pub same_tree : (s : Setting) (types : List TypeDef) (part : Option Ty) → s.types ≡ types → tree_in s part ≡ wit_tree s.origin types part
unfolding tree_in
same_tree s types part same = ap (λ ts. wit_tree s.origin ts part) same

-- the parameters and the result of a function may be encoded
pub params_may : (s : Setting) (types : List TypeDef) (params : List Param) (rest : Bool) → AllByRecursion (λ p. IsBelow (length types) (Some p.ty)) params → (list_all (λ p. is_allowed s (Some p.ty)) params && rest) ≡ true → AllByRecursion (λ p. MayEncode s types (Some p.ty)) (key_params params)
params_may s types [] rest present allowed = tt
params_may s types (p ∷ ps) rest present allowed =
    let a = both (is_allowed s (Some p.ty) && list_all (λ q. is_allowed s (Some q.ty)) ps) rest allowed in
    let b = both (is_allowed s (Some p.ty)) (list_all (λ q. is_allowed s (Some q.ty)) ps) a.0 in
    (record { present = present.0; allowed = b.0 }, params_may s types ps true present.1 (ap (λ c. c && true) b.1))

pub result_may : (s : Setting) (types : List TypeDef) (part : Option Ty) (rest : Bool) → IsBelow (length types) part → (rest && is_allowed s part) ≡ true → MayEncode s types part
result_may s types part rest present allowed = record { present = present; allowed = (both rest (is_allowed s part) allowed).1 }
