-- The types of an interface are exported, one after the other.
use Rattle.std.proofs.Common.{◌≡◌, ◌∙◌, ◌+◌, ◌<◌, ◌==◌, ◌||◌, ℕ, zero, suc, Bool, true, false, List, [], ◌∷◌, ◌++◌, length, map, take, get_or, refl, ap, sym, subst, append-nil, Some}
use Rattle.std.specs.Prelude.{option_and_then, slice_get}
use Rattle.std.proofs.lemmas.Grind.{flat_map-append}
use Rattle.std.proofs.lemmas.List.{map_push, take_more}
use Rattle.std.proofs.lemmas.List.Folds.{list_any-append}
use Rattle.std.proofs.lemmas.Bool.Decides.{Decides-eqb}
use Rattle.comp_lists.proofs.Lists.{AllByRecursion-push}
use Rattle.wit_data.specs.declared.ids.InterfaceId.{InterfaceId}
use Rattle.wit_data.specs.declared.ids.TypeId.{TypeId}
use Rattle.wit_data.specs.declared.types.Type.TheVariants.{Id}
use Rattle.wit_data.specs.declared.types.TypeDef.{TypeDef}
use Rattle.wit_data.specs.Names.{text_of}
use Rattle.wit_data.specs.Parts.{RefersBack}
use Rattle.wit_data.specs.Values.{kind_at}
use Rattle.comp_bytes.specs.ScopeNames.{member_export}
use Rattle.comp_bytes.specs.declared.types.ExternName.{ExternName}
use Rattle.comp_bytes.specs.declared.types.Description.{Description}
use Rattle.comp_bytes.specs.declared.types.Description.TheVariants as descriptions
use Rattle.comp_bytes.specs.declared.types.Member.{Member}
use Rattle.comp_bytes.specs.declared.types.Member.TheVariants as members
use Rattle.comp_bytes.specs.declared.types.ComponentValType.TheVariants as values
use Rattle.comp_trees.specs.Trees.{Resource, ResourceAt}
use Rattle.comp_trees.specs.DefinedTrees.{TypeTree, OfValues, OfOthers}
use Rattle.comp_trees.specs.DefinedScopes.{Denotes}
use Rattle.comp_trees.specs.Members.{Surroundings, AreMembersRight, IsMemberRight, makes_type, with_member, member_trees, member_tree}
use Rattle.comp_trees.specs.WitTrees.{wit_tree}
use Rattle.wit_types.specs.declared.maps.TypeEncodingMaps.{TypeEncodingMaps}
use Rattle.wit_types.specs.Maps.{HasIndex, no_maps}
use Rattle.wit_types.specs.Settings.{name_at, tree_in}
use Rattle.wit_types.specs.Allowing.{is_resource}
use Rattle.wit_types.proofs.Permitting.{resource_tree, same_tree}
use Rattle.wit_types.proofs.Growing.{value_of_index, named_by, faithful_new, faithful_after}
use Rattle.comp_lists.proofs.Lists.{AllByRecursion-weaker}
use Rattle.type_scopes.specs.Members.{types_in}
use Rattle.type_scopes.specs.Exports.{IsExport, any_index, IsOwnExport, AreOwnExports, MembersGrow, MembersExtend, exports_of, type_exports, function_exports, exported_function, export_behind, right_append}
use Rattle.type_scopes.specs.Offers.{Offer, placed}
use Rattle.type_scopes.specs.Titles.{IsTitled, IsTypeNamed, IsKnownByName, is_one_of, title}
use Rattle.type_scopes.specs.Interfaces.{TypeIn, AreExported, IsRight}
use Rattle.type_scopes.proofs.Naming.{types_on}
use Rattle.type_scopes.proofs.Scoping.{longer_by, denotes_new, exported_new}

-- what exports nothing exports no type and no function
none_types : (ms : List Member) → exports_of ms ≡ [] → type_exports ms ≡ []
none_types [] e = refl
none_types (members.Export name description ∷ ms) e = cc
none_types (m ∷ ms) e = none_types ms e

pub none_functions : (ms : List Member) → exports_of ms ≡ [] → function_exports ms ≡ []
none_functions [] e = refl
none_functions (members.Export name description ∷ ms) e = cc
none_functions (m ∷ ms) e = none_functions ms e

pub grow_extends : (s : Surroundings) (old new out : List Member) → MembersGrow s old new → out ≡ new → MembersExtend s old out
grow_extends s old new out g kept = record { more = g.more; grown = kept ∙ g.grown; right = g.right; types = none_types g.more g.none }

-- one of these types, or this one
or_none : (b : Bool) → (b || false) ≡ b
or_none true = refl
or_none false = refl

or_true : (b : Bool) → (b || true) ≡ true
or_true true = refl
or_true false = refl

one_end : (ids : List TypeId) (x : TypeId) (n : ℕ) → is_one_of (ids ++ x ∷ []) n ≡ (is_one_of ids n || (n == x.index))
one_end ids x n = list_any-append (λ (i : TypeId). n == i.index) ids (x ∷ []) ∙ ap (λ b. is_one_of ids n || b) (or_none (n == x.index))

one_front : (ids : List TypeId) (x : TypeId) (n : ℕ) → is_one_of ids n ≡ true → is_one_of (ids ++ x ∷ []) n ≡ true
one_front ids x n e = one_end ids x n ∙ ap (λ b. b || (n == x.index)) e

one_last : (ids : List TypeId) (x : TypeId) → is_one_of (ids ++ x ∷ []) x.index ≡ true
one_last ids x = one_end ids x x.index ∙ (ap (λ b. is_one_of ids x.index || b) ((Decides-eqb x.index x.index).1 refl) ∙ or_true (is_one_of ids x.index))

-- the name of a type
pub title_named : (types : List TypeDef) (id : TypeId) (name : List ℕ) → name_at types id.index ≡ Some name → title types id ≡ name
title_named types id name e = ap text_of (by types id.index ∙ e)
  where
    by : (ts : List TypeDef) (n : ℕ) → option_and_then (λ t. t.name) (slice_get ts n) ≡ name_at ts n
    by [] n = refl
    by (t ∷ ts) zero = refl
    by (t ∷ ts) (suc n) = by ts n

module _ (s : Surroundings) (origin : TypeId → Resource) (o : Offer) (here : InterfaceId) where
  own_none : (ids : List TypeId) (scope : List TypeTree) (ms : List Member) → type_exports ms ≡ [] → AreOwnExports s origin o here ids scope ms
  own_none ids scope [] e = tt
  own_none ids scope (members.Export name (descriptions.TypeEqual index) ∷ ms) e = cc
  own_none ids scope (members.Export name descriptions.SubResource ∷ ms) e = cc
  own_none ids scope (m ∷ ms) e = (tt, own_none ids (with_member s scope m) ms e)

  own_append : (ids : List TypeId) (scope : List TypeTree) (ms more : List Member) → AreOwnExports s origin o here ids scope ms → AreOwnExports s origin o here ids (member_trees s scope ms) more → AreOwnExports s origin o here ids scope (ms ++ more)
  own_append ids scope [] more a b = b
  own_append ids scope (x ∷ ms) more a b = (a.0, own_append ids (with_member s scope x) ms more a.1 b)

  -- those of fewer types are those of more
  named_of : (ids all : List TypeId) (name : List ℕ) (t : TypeTree) → ((n : ℕ) → is_one_of ids n ≡ true → is_one_of all n ≡ true) → IsTypeNamed origin o.types here ids name t → IsTypeNamed origin o.types here all name t
  named_of ids all name t more h = record { id = h.id; given = more h.id.index h.given; titled = h.titled; tree = h.tree }

  own_of : (ids all : List TypeId) → ((n : ℕ) → is_one_of ids n ≡ true → is_one_of all n ≡ true) → (scope : List TypeTree) (ms : List Member) → AreOwnExports s origin o here ids scope ms → AreOwnExports s origin o here all scope ms
  own_of ids all more scope [] h = tt
  own_of ids all more scope (members.Export name (descriptions.TypeEqual index) ∷ ms) h =
      (named_of ids all name.name (get_or scope index OfOthers) more h.0, own_of ids all more (with_member s scope (members.Export name (descriptions.TypeEqual index))) ms h.1)
  own_of ids all more scope (members.Export name descriptions.SubResource ∷ ms) h =
      (named_of ids all name.name (OfValues (ResourceAt (s.resource name.name))) more h.0, own_of ids all more (with_member s scope (members.Export name descriptions.SubResource)) ms h.1)
  own_of ids all more scope (m ∷ ms) h = (tt, own_of ids all more (with_member s scope m) ms h.1)

  -- what is behind exports no type
  pub own_extended : (ids : List TypeId) (ms new : List Member) → MembersExtend s ms new → AreOwnExports s origin o here ids [] ms → AreOwnExports s origin o here ids [] new
  own_extended ids ms new g h = subst (λ xs. AreOwnExports s origin o here ids [] xs) (sym g.grown) (own_append ids [] ms g.more h (own_none ids (member_trees s [] ms) g.more g.types))

  pub right_extended : (ms new : List Member) → MembersExtend s ms new → AreMembersRight s [] ms → AreMembersRight s [] new
  right_extended ms new g h = subst (λ xs. AreMembersRight s [] xs) (sym g.grown) (right_append s [] ms g.more h g.right)

  pub exported_none : (ms : List Member) → ms ≡ [] → AreExported s origin o here [] ms
  exported_none ms none =
      subst (λ xs. AreExported s origin o here [] xs) (sym none) (record { right = tt; own = tt; types = record { each = tt }; names = refl; functions = refl })

  -- after members that export nothing
  pub exported_on : (passed : List TypeId) (ms new : List Member) → MembersGrow s ms new → AreExported s origin o here passed ms → AreExported s origin o here passed new
  exported_on passed ms new g h =
      let e = grow_extends s ms new new g refl in
      record {
        right = right_extended ms new e h.right;
        own = own_extended passed ms new e h.own;
        types = types_on (placed s origin o here []) (member_trees s [] ms) (member_trees s [] new) (IsExport ms) (IsExport new) passed (longer_by s ms new g.more g.grown) (export_behind ms new g.more g.grown) h.types;
        names = ap exports_of g.grown ∙ (flat_map-append member_export ms g.more ∙ (ap (λ es. exports_of ms ++ es) g.none ∙ (append-nil (exports_of ms) ∙ h.names)));
        functions = ap function_exports g.grown ∙ (flat_map-append exported_function ms g.more ∙ (ap (λ es. function_exports ms ++ es) (none_functions g.more g.none) ∙ (append-nil (function_exports ms) ∙ h.functions)));
      }

  -- after an export of one more type
  exported_with : (passed : List TypeId) (id : TypeId) (ms new : List Member) (name : ExternName) (d : Description) → exported_function (members.Export name d) ≡ [] → IsMemberRight s (member_trees s [] ms) (members.Export name d) →
      IsOwnExport s origin o here (passed ++ id ∷ []) (member_trees s [] ms) (members.Export name d) → new ≡ ms ++ members.Export name d ∷ [] → IsTitled o.types here id name.name → TypeIn (placed s origin o here []) (member_trees s [] new) (IsExport new) id →
      AreExported s origin o here passed ms → AreExported s origin o here (passed ++ id ∷ []) new
  exported_with passed id ms new name d none right own is titled there h =
      let m = members.Export name d in
      record {
        right = subst (λ xs. AreMembersRight s [] xs) (sym is) (right_append s [] ms (m ∷ []) h.right (right, tt));
        own = subst (λ xs. AreOwnExports s origin o here (passed ++ id ∷ []) [] xs) (sym is) (own_append (passed ++ id ∷ []) [] ms (m ∷ []) (own_of passed (passed ++ id ∷ []) (one_front passed id) [] ms h.own) (own, tt));
        types = record {
          each = AllByRecursion-push (TypeIn (placed s origin o here []) (member_trees s [] new) (IsExport new)) passed id
              (types_on (placed s origin o here []) (member_trees s [] ms) (member_trees s [] new) (IsExport ms) (IsExport new) passed (longer_by s ms new (m ∷ []) is) (export_behind ms new (m ∷ []) is) h.types).each there;
        };
        names = ap exports_of is
            ∙ (flat_map-append member_export ms (m ∷ [])
            ∙ (ap (λ es. es ++ name.name ∷ []) h.names ∙ (ap (λ n. map (title o.types) passed ++ n ∷ []) (sym (title_named o.types id name.name titled.named)) ∙ sym (map_push (title o.types) passed id))));
        functions = ap function_exports is ∙ (flat_map-append exported_function ms (m ∷ []) ∙ (ap (λ es. function_exports ms ++ (es ++ [])) none ∙ (append-nil (function_exports ms) ∙ h.functions)));
      }

  -- the type is one of the scope, under its name
  type_there : (ms new : List Member) (id : TypeId) (name : ExternName) (d : Description) (index : ℕ) → makes_type (members.Export name d) ≡ true → index ≡ types_in ms → new ≡ ms ++ members.Export name d ∷ [] → IsTitled o.types here id name.name →
      member_tree s (member_trees s [] ms) (members.Export name d) ≡ OfValues (wit_tree origin o.types (Some (Id id))) → TypeIn (placed s origin o here []) (member_trees s [] new) (IsExport new) id
  type_there ms new id name d index makes at is titled tree =
      record {
        value = values.Defined index;
        denotes = value_of_index (subst (λ t. Denotes (member_trees s [] new) index t) tree (denotes_new s ms new (members.Export name d) index makes at is));
        named = named_by (placed s origin o here []) o.types (IsExport new) id name.name index refl titled.named (exported_new ms new name d index makes at is);
      }

  -- an export of a type of values of the interface, and what is added before and behind it
  pub exported_value : (passed : List TypeId) (id : TypeId) (a b c d : List Member) (name : ExternName) (defined index : ℕ) → MembersGrow s a b → Denotes (member_trees s [] b) defined (OfValues (wit_tree origin o.types (Some (Id id)))) → index ≡ types_in b →
      c ≡ b ++ members.Export name (descriptions.TypeEqual defined) ∷ [] → MembersGrow s c d → IsTitled o.types here id name.name → AreExported s origin o here passed a → AreExported s origin o here (passed ++ id ∷ []) d
  exported_value passed id a b c d name defined index before denotes at is behind titled h =
      exported_on (passed ++ id ∷ []) c d behind
      (exported_with passed id b c name (descriptions.TypeEqual defined) refl denotes.within (record { id = id; given = one_last passed id; titled = titled; tree = denotes.tree }) is titled
      (type_there b c id name (descriptions.TypeEqual defined) index refl at is titled denotes.tree) (exported_on passed a b before h))

  -- an export of a resource of the interface, and what is added behind it
  pub exported_resource : (passed : List TypeId) (id : TypeId) (b c d : List Member) (name : ExternName) (index : ℕ) → OfValues (ResourceAt (s.resource name.name)) ≡ OfValues (wit_tree origin o.types (Some (Id id))) → index ≡ types_in b →
      c ≡ b ++ members.Export name descriptions.SubResource ∷ [] → MembersGrow s c d → IsTitled o.types here id name.name → AreExported s origin o here passed b → AreExported s origin o here (passed ++ id ∷ []) d
  exported_resource passed id b c d name index tree at is behind titled h =
      exported_on (passed ++ id ∷ []) c d behind
      (exported_with passed id b c name descriptions.SubResource refl tt (record { id = id; given = one_last passed id; titled = titled; tree = tree }) is titled (type_there b c id name descriptions.SubResource index refl at is titled tree) h)

  -- a resource is the one of its name
  pub named_tree : (types : List TypeDef) (id : TypeId) (name : List ℕ) → o.types ≡ types → RefersBack types → IsTitled types here id name → is_resource (kind_at types id.index) ≡ true → IsKnownByName s origin types id → OfValues (ResourceAt (s.resource name)) ≡ OfValues (wit_tree origin o.types (Some (Id id)))
  named_tree types id name same back titled resource known =
      let t = placed s origin o here [] in
      ap OfValues (resource_tree t types id (s.resource name) same back titled.present resource (sym (known.same name resource titled.named)) ∙ same_tree t o.types (Some (Id id)) refl)

  -- ---- the tables

  pub right_none : (ms : List Member) (maps : TypeEncodingMaps) → maps ≡ no_maps → IsRight s origin o here [] ms maps
  right_none ms maps none = subst (λ m. IsRight s origin o here [] ms m) (sym none) (faithful_new (placed s origin o here []) (member_trees s [] ms) any_index (Unit {0}) (λ id. refl) tt)

  -- a type that was recorded is one of those that were passed
  pub right_passed : (passed : List TypeId) (id : TypeId) (ms : List Member) (maps : TypeEncodingMaps) → HasIndex maps id → IsRight s origin o here passed ms maps → IsRight s origin o here (passed ++ id ∷ []) ms maps
  unfolding tree_in
  right_passed passed id ms maps recorded h = record {
    ids = h.ids;
    named = AllByRecursion-weaker (λ e n. record { as_own = n.as_own }) maps.id_to_index h.named;
    kinds = h.kinds;
    functions = h.functions;
    met = λ j e. by j (is_one_of passed j.index) refl (sym (one_end passed id j.index) ∙ e);
    offers = h.offers;
  }
    where
      by : (j : TypeId) (b : Bool) → is_one_of passed j.index ≡ b → (is_one_of passed j.index || (j.index == id.index)) ≡ true → HasIndex maps j
      by j true e either = h.met j e
      by j false e either =
          let same : (j.index == id.index) ≡ true = subst (λ b. (b || (j.index == id.index)) ≡ true) e either in
          subst (λ (n : ℕ). HasIndex maps (record { index = n })) (sym ((Decides-eqb j.index id.index).0 same)) recorded

  pub exported_next : (ids : List TypeId) (n : ℕ) {id : TypeId} (d : TypeId) (passed : List TypeId) (ms new : List Member) → n < length ids → id ≡ get_or ids n d → passed ≡ take n ids → new ≡ ms →
      AreExported s origin o here (passed ++ id ∷ []) ms → AreExported s origin o here (take (n + 1) ids) new
  exported_next ids n {id = id} d passed ms new within at same kept h =
      let whole : passed ++ id ∷ [] ≡ take (n + 1) ids = ap (λ xs. xs ++ id ∷ []) same ∙ (ap (λ i. take n ids ++ i ∷ []) at ∙ sym (take_more ids n d within)) in
      subst (λ xs. AreExported s origin o here xs new) whole (subst (λ xs. AreExported s origin o here (passed ++ id ∷ []) xs) (sym kept) h)

  pub right_next : (ids : List TypeId) (n : ℕ) {id : TypeId} (d : TypeId) (passed : List TypeId) (ms new : List Member) (maps now : TypeEncodingMaps) → n < length ids → id ≡ get_or ids n d → passed ≡ take n ids → new ≡ ms → now ≡ maps → HasIndex maps id →
      IsRight s origin o here passed ms maps → IsRight s origin o here (take (n + 1) ids) new now
  right_next ids n {id = id} d passed ms new maps now within at same kept tables recorded h =
      let whole : passed ++ id ∷ [] ≡ take (n + 1) ids = ap (λ xs. xs ++ id ∷ []) same ∙ (ap (λ i. take n ids ++ i ∷ []) at ∙ sym (take_more ids n d within)) in
      subst (λ xs. IsRight s origin o here xs new now) whole
      (subst (λ m. IsRight s origin o here (passed ++ id ∷ []) new m) (sym tables) (subst (λ xs. IsRight s origin o here (passed ++ id ∷ []) xs maps) (sym kept) (right_passed passed id ms maps recorded h)))

-- the tables stay right where members are added
pub right_then : (s : Surroundings) (origin : TypeId → Resource) (o p : Offer) (here there : InterfaceId) (passed after : List TypeId) (ms new more : List Member) (maps now : TypeEncodingMaps) → p ≡ o → there ≡ here → after ≡ passed → now ≡ maps → new ≡ ms ++ more →
    IsRight s origin o here passed ms maps → IsRight s origin p there after new now
right_then s origin o p here there passed after ms new more maps now outer interface same kept is right =
    faithful_after (placed s origin o here passed) (placed s origin p there after) (member_trees s [] ms) (member_trees s [] new) any_index any_index (Unit {0}) (Unit {0}) maps now right (longer_by s ms new more is)
    (ap (λ q. placed s origin q there after) outer ∙ (ap (λ i. placed s origin o i after) interface ∙ ap (placed s origin o here) same)) kept (λ name i h. h) (λ h. h)
