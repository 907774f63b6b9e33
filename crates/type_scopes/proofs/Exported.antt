-- An instance exports each type of its interface under its name.
use Rattle.std.proofs.Common.{◌≡◌, ◌∙◌, ◌<◌, ◌==◌, ℕ, Bool, true, false, true≢false, ◌||◌, List, [], ◌∷◌, length, get_or, refl, ap, sym, subst, Some, None, if◌then◌else◌}
use Rattle.std.specs.Str.{bytes_eq}
use Rattle.std.specs.List.{AllByRecursion, list_any}
use Rattle.std.proofs.lemmas.List.{get_or_append_left}
use Rattle.std.proofs.lemmas.List.Folds.{list_any-append}
use Rattle.std.proofs.lemmas.Slice.Eq.{bytes_eq-Decides}
use Rattle.std.proofs.lemmas.Bool.Decides.{Decides-eqb}
use Rattle.std.proofs.lemmas.Option.{none-some}
use Rattle.comp_lists.proofs.Lists.{AllByRecursion-weaker}
use Rattle.wit_data.specs.declared.ids.InterfaceId.{InterfaceId}
use Rattle.wit_data.specs.declared.ids.TypeId.{TypeId}
use Rattle.wit_data.specs.declared.types.TypeOwner.TheVariants as owners
use Rattle.wit_data.specs.declared.types.Type.TheVariants.{Id}
use Rattle.comp_bytes.specs.declared.space.Space.TheVariants as spaces
use Rattle.comp_bytes.specs.declared.types.ComponentValType.{ComponentValType}
use Rattle.comp_bytes.specs.declared.types.ComponentValType.TheVariants as values
use Rattle.comp_bytes.specs.declared.types.ExternName.{ExternName}
use Rattle.comp_bytes.specs.declared.types.Description.{Description}
use Rattle.comp_bytes.specs.declared.types.Description.TheVariants as descriptions
use Rattle.comp_bytes.specs.declared.types.Member.{Member}
use Rattle.comp_bytes.specs.declared.types.Member.TheVariants as members
use Rattle.comp_trees.specs.Trees.{Resource, ResourceAt}
use Rattle.comp_trees.specs.DefinedTrees.{TypeTree, OfValues, OfOthers}
use Rattle.comp_trees.specs.WitTrees.{wit_tree}
use Rattle.comp_trees.specs.Members.{Surroundings, AreMembersRight, makes_type, with_member, member_trees, exports_name, type_exported}
use Rattle.wit_types.specs.Settings.{Setting, owner_at}
use Rattle.wit_types.specs.Allowing.{foreign}
use Rattle.wit_types.specs.Denoting.{Longer}
use Rattle.wit_types.specs.Maps.{NamedAs, IsNamedValue}
use Rattle.wit_types.proofs.Growing.{longer_none, longer_on}
use Rattle.type_scopes.specs.Exports.{IsExport, AreOwnExports}
use Rattle.type_scopes.specs.Offers.{Offer, placed}
use Rattle.type_scopes.specs.Titles.{IsTitled, HasTitle, AreTitlesApart, IsTypeNamed, is_one_of}
use Rattle.type_scopes.specs.Interfaces.{ExportsType, TypeIn, TypesIn}
use Rattle.type_scopes.proofs.Scoping.{longer_after}

-- the own interface isn't a foreign one
pub foreign_own : (here : InterfaceId) → foreign (Some here) (owners.Interface here) ≡ None
foreign_own here = ap (λ b. if b then None else Some here) ((Decides-eqb here.index here.index).1 refl)

longer_tree : (scope all : List TypeTree) (index : ℕ) → Longer scope all → index < length scope → get_or all index OfOthers ≡ get_or scope index OfOthers
longer_tree scope all index g l = ap (λ ts. get_or ts index OfOthers) g.longer ∙ get_or_append_left scope g.more OfOthers index l

-- The first member that exports a type under the name exports this one, where all do that have the name.
module _ (s : Surroundings) (origin : TypeId → Resource) (o : Offer) (here : InterfaceId) (all : List TypeId) (name : List ℕ) (tree : TypeTree) (same : (n : List ℕ) (u : TypeTree) → name ≡ n → IsTypeNamed origin o.types here all n u → u ≡ tree) where
  -- an export of a type that has the name, or one behind it
  by_name : (n : ExternName) (u found rest : TypeTree) (later : Bool) → IsTypeNamed origin o.types here all n.name u → (name ≡ n.name → found ≡ u) → (bytes_eq name n.name || later) ≡ true → (later ≡ true → rest ≡ tree) → (if bytes_eq name n.name then found else rest) ≡ tree
  by_name n u found rest later own is there behind = by (bytes_eq name n.name) refl
    where
      by : (b : Bool) → bytes_eq name n.name ≡ b → (if bytes_eq name n.name then found else rest) ≡ tree
      by true e =
          let named = (bytes_eq-Decides name n.name).0 e in
          ap (λ b. if b then found else rest) e ∙ (is named ∙ same n.name u named own)
      by false e = ap (λ b. if b then found else rest) e ∙ behind (subst (λ b. (b || later) ≡ true) e there)

  first_export : (scope : List TypeTree) (ms : List Member) (ts : List TypeTree) → Longer (member_trees s scope ms) ts → AreMembersRight s scope ms → AreOwnExports s origin o here all scope ms → list_any (exports_name spaces.Type name) ms ≡ true → type_exported s ts name ms ≡ tree
  first_export scope [] ts g right own there = absurd (true≢false (sym there))
  first_export scope (members.Export n (descriptions.TypeEqual index) ∷ ms) ts g right own there =
      by_name n (get_or scope index OfOthers) (get_or ts index OfOthers) (type_exported s ts name ms) (list_any (exports_name spaces.Type name) ms) own.0
      (λ e. longer_tree scope ts index (longer_on (longer_after s scope (members.Export n (descriptions.TypeEqual index) ∷ ms)) g) right.0) there
      (first_export (with_member s scope (members.Export n (descriptions.TypeEqual index))) ms ts g right.1 own.1)
  first_export scope (members.Export n descriptions.SubResource ∷ ms) ts g right own there =
      by_name n (OfValues (ResourceAt (s.resource n.name))) (OfValues (ResourceAt (s.resource name))) (type_exported s ts name ms) (list_any (exports_name spaces.Type name) ms) own.0
      (λ e. ap (λ x. OfValues (ResourceAt (s.resource x))) e) there
      (first_export (with_member s scope (members.Export n descriptions.SubResource)) ms ts g right.1 own.1)
  first_export scope (m ∷ ms) ts g right own there = first_export (with_member s scope m) ms ts g right.1 own.1 there

-- an export is found by its name
is_found : (n : ExternName) (d : Description) (name : List ℕ) → n.name ≡ name → makes_type (members.Export n d) ≡ true → exports_name spaces.Type name (members.Export n d) ≡ true
is_found n (descriptions.TypeEqual index) name named makes = (bytes_eq-Decides name n.name).1 (sym named)
is_found n descriptions.SubResource name named makes = (bytes_eq-Decides name n.name).1 (sym named)
is_found n (descriptions.Func index) name named makes = absurd (true≢false (sym makes))
is_found n (descriptions.Instance index) name named makes = absurd (true≢false (sym makes))

pub export_found : (ms : List Member) (name : List ℕ) (index : ℕ) → IsExport ms name index → list_any (exports_name spaces.Type name) ms ≡ true
export_found ms name index h =
    ap (list_any (exports_name spaces.Type name)) h.there
    ∙ (list_any-append (exports_name spaces.Type name) h.before (members.Export h.extern_name h.description ∷ h.after)
    ∙ (ap (λ b. list_any (exports_name spaces.Type name) h.before || (b || list_any (exports_name spaces.Type name) h.after)) (is_found h.extern_name h.description name h.named h.makes)
    ∙ or_true (list_any (exports_name spaces.Type name) h.before)))
  where
    or_true : (b : Bool) → (b || true) ≡ true
    or_true true = refl
    or_true false = refl

-- each of these types is one of them
all_given : (ids : List TypeId) → AllByRecursion (λ id. is_one_of ids id.index ≡ true) ids
all_given [] = tt
all_given (x ∷ xs) = (
  ap (λ b. b || is_one_of xs x.index) ((Decides-eqb x.index x.index).1 refl),
  AllByRecursion-weaker (λ id e. by (id.index == x.index) (is_one_of xs id.index) e) xs (all_given xs),
)
  where
    by : (a b : Bool) → b ≡ true → (a || b) ≡ true
    by true b e = refl
    by false b e = e

module _ (s : Surroundings) (origin : TypeId → Resource) (o : Offer) (here : InterfaceId) (ms : List Member) (all : List TypeId) where
  abbrev set : Setting
  set = placed s origin o here all

  -- what has the name of a type of the interface is it
  is_one : AreTitlesApart o.types here all → (id : TypeId) (name : List ℕ) → is_one_of all id.index ≡ true → IsTitled o.types here id name → (n : List ℕ) (u : TypeTree) → name ≡ n → IsTypeNamed origin o.types here all n u → u ≡ OfValues (wit_tree origin o.types (Some (Id id)))
  is_one apart id name given titled n u e named =
      named.tree ∙ ap (λ i. OfValues (wit_tree origin o.types (Some (Id i)))) (apart.each named.id id name named.given given (subst (λ m. IsTitled o.types here named.id m) (sym e) named.titled) titled)

  value_found : (id : TypeId) (name : List ℕ) (v : ComponentValType) → IsTitled o.types here id name → IsNamedValue set (IsExport ms) (Id id) v → list_any (exports_name spaces.Type name) ms ≡ true
  value_found id name (values.Primitive p) titled h = absurd (none-some name (sym h.no_name ∙ titled.named))
  value_found id name (values.Defined index) titled h =
      export_found ms name index
      (subst (λ q. NamedAs (IsExport ms) q (Some name) index) (ap (foreign (Some here)) titled.owner ∙ foreign_own here) (subst (λ q. NamedAs (IsExport ms) (foreign (Some here) (owner_at o.types id.index)) q index) titled.named h.as_own))

  type_found : AreTitlesApart o.types here all → AreMembersRight s [] ms → AreOwnExports s origin o here all [] ms → (id : TypeId) → is_one_of all id.index ≡ true → HasTitle o.types here id → TypeIn set (member_trees s [] ms) (IsExport ms) id → ExportsType s origin o.types here ms id
  type_found apart right own id given title h =
      let there = value_found id title.name h.value title.is h.named in
      record {
        name = title.name;
        titled = title.is;
        there = there;
        tree = first_export s origin o here all title.name (OfValues (wit_tree origin o.types (Some (Id id)))) (is_one apart id title.name given title.is) [] ms (member_trees s [] ms) (longer_none (member_trees s [] ms)) right own there;
      }

  pub types_found : AreTitlesApart o.types here all → AreMembersRight s [] ms → AreOwnExports s origin o here all [] ms → AllByRecursion (HasTitle o.types here) all → TypesIn set (member_trees s [] ms) (IsExport ms) all → AllByRecursion (ExportsType s origin o.types here ms) all
  types_found apart right own titles h = each all (all_given all) titles h.each
    where
      each : (ids : List TypeId) → AllByRecursion (λ id. is_one_of all id.index ≡ true) ids → AllByRecursion (HasTitle o.types here) ids → AllByRecursion (TypeIn set (member_trees s [] ms) (IsExport ms)) ids → AllByRecursion (ExportsType s origin o.types here ms) ids
      each [] given titles h = tt
      each (id ∷ ids) given titles h = (type_found apart right own id given.0 titles.0 h.0, each ids given.1 titles.1 h.1)
