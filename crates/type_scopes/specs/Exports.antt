-- Which members of an instance type export what under a name, and how its members grow (component model, explainer:
-- `instancedecl`, `exportdecl`).
use Rattle.std.specs.Prelude.{ℕ, ◌≡◌, true, List, [], ◌∷◌, ◌++◌, get_or}
use Rattle.std.specs.List.{flat_map}
use Rattle.std.proofs.Common.{refl, sym, ap, subst, ◌∙◌, append_assoc, append-nil}
use Rattle.std.proofs.lemmas.Grind.{flat_map-append}
use Rattle.wit_data.specs.declared.ids.InterfaceId.{InterfaceId}
use Rattle.wit_data.specs.declared.ids.TypeId.{TypeId}
use Rattle.comp_bytes.specs.ScopeNames.{member_export}
use Rattle.comp_bytes.specs.declared.types.ExternName.{ExternName}
use Rattle.comp_bytes.specs.declared.types.Description.{Description}
use Rattle.comp_bytes.specs.declared.types.Description.TheVariants as descriptions
use Rattle.comp_bytes.specs.declared.types.Member.{Member}
use Rattle.comp_bytes.specs.declared.types.Member.TheVariants as members
use Rattle.comp_trees.specs.Trees.{Resource, ResourceAt}
use Rattle.comp_trees.specs.DefinedTrees.{TypeTree, OfValues, OfOthers}
use Rattle.comp_trees.specs.Members.{Surroundings, AreMembersRight, makes_type, with_member, member_trees}
use Rattle.type_scopes.specs.Members.{types_in}
use Rattle.type_scopes.specs.Offers.{Offer}
use Rattle.type_scopes.specs.Titles.{IsTypeNamed}

-- the names that are exported
abbrev pub exports_of : List Member → List (List ℕ)
exports_of ms = flat_map member_export ms

-- the member that makes this type index is an export of this name
pub record IsExport (ms : List Member) (name : List ℕ) (index : ℕ) : Type 0 where
  pub before : List Member
  pub after : List Member
  pub extern_name : ExternName
  pub description : Description
  pub there : ms ≡ before ++ members.Export extern_name description ∷ after
  pub named : extern_name.name ≡ name
  pub makes : makes_type (members.Export extern_name description) ≡ true
  pub counted : index ≡ types_in before

-- the tables have any index of a type that has a name: which index its export has is said where it is exported
abbrev pub any_index : List ℕ → ℕ → Type 0
any_index name index = Unit {0}

-- the functions that are exported, each with the index of its type
abbrev pub exported_function : Member → List (List ℕ × ℕ)
exported_function (members.Export name (descriptions.Func index)) = (name.name, index) ∷ []
exported_function other = []

abbrev pub function_exports : List Member → List (List ℕ × ℕ)
function_exports ms = flat_map exported_function ms

-- the names under which types are exported
abbrev pub exported_type : Member → List (List ℕ)
exported_type (members.Export name (descriptions.TypeEqual index)) = name.name ∷ []
exported_type (members.Export name descriptions.SubResource) = name.name ∷ []
exported_type other = []

abbrev pub type_exports : List Member → List (List ℕ)
type_exports ms = flat_map exported_type ms

-- a type that is exported is one of these types of the interface, with that name
abbrev pub IsOwnExport : Surroundings → (TypeId → Resource) → Offer → InterfaceId → List TypeId → List TypeTree → Member → Type 0
IsOwnExport s origin o here ids scope (members.Export name (descriptions.TypeEqual index)) = IsTypeNamed origin o.types here ids name.name (get_or scope index OfOthers)
IsOwnExport s origin o here ids scope (members.Export name descriptions.SubResource) = IsTypeNamed origin o.types here ids name.name (OfValues (ResourceAt (s.resource name.name)))
IsOwnExport s origin o here ids scope m = Unit {0}

abbrev pub AreOwnExports : Surroundings → (TypeId → Resource) → Offer → InterfaceId → List TypeId → List TypeTree → List Member → Type 0
AreOwnExports s origin o here ids scope [] = Unit {0}
AreOwnExports s origin o here ids scope (m ∷ ms) = IsOwnExport s origin o here ids scope m × AreOwnExports s origin o here ids (with_member s scope m) ms

-- members that have grown at their end, by right ones that export no type
pub record MembersExtend (s : Surroundings) (old new : List Member) : Type 0 where
  pub more : List Member
  pub grown : new ≡ old ++ more
  pub right : AreMembersRight s (member_trees s [] old) more
  pub types : type_exports more ≡ []

-- the same, by ones that export nothing
pub record MembersGrow (s : Surroundings) (old new : List Member) : Type 0 where
  pub more : List Member
  pub grown : new ≡ old ++ more
  pub right : AreMembersRight s (member_trees s [] old) more
  pub none : exports_of more ≡ []

pub export_behind : (a b more : List Member) → b ≡ a ++ more → (name : List ℕ) (index : ℕ) → IsExport a name index → IsExport b name index
export_behind a b more grown name index h =
    record {
      before = h.before;
      after = h.after ++ more;
      extern_name = h.extern_name;
      description = h.description;
      there = grown ∙ (ap (λ ms. ms ++ more) h.there ∙ append_assoc h.before (members.Export h.extern_name h.description ∷ h.after) more);
      named = h.named;
      makes = h.makes;
      counted = h.counted;
    }

-- the scope of members behind others, and whether they are right
pub members_append : (s : Surroundings) (scope : List TypeTree) (ms more : List Member) → member_trees s scope (ms ++ more) ≡ member_trees s (member_trees s scope ms) more
members_append s scope [] more = refl
members_append s scope (x ∷ ms) more = members_append s (with_member s scope x) ms more

pub right_append : (s : Surroundings) (scope : List TypeTree) (ms more : List Member) → AreMembersRight s scope ms → AreMembersRight s (member_trees s scope ms) more → AreMembersRight s scope (ms ++ more)
right_append s scope [] more a b = b
right_append s scope (x ∷ ms) more a b = (a.0, right_append s (with_member s scope x) ms more a.1 b)

pub right_on : (s : Surroundings) (a b one two : List Member) → b ≡ a ++ one → AreMembersRight s (member_trees s [] a) one → AreMembersRight s (member_trees s [] b) two → AreMembersRight s (member_trees s [] a) (one ++ two)
right_on s a b one two grown g h =
    right_append s (member_trees s [] a) one two g (subst (λ ts. AreMembersRight s ts two) (ap (member_trees s []) grown ∙ members_append s [] a one) h)

pub members_same : (s : Surroundings) (ms : List Member) → MembersGrow s ms ms
members_same s ms = record { more = []; grown = sym (append-nil ms); right = tt; none = refl }

pub members_on : (s : Surroundings) (a b c : List Member) → MembersGrow s a b → MembersGrow s b c → MembersGrow s a c
members_on s a b c g h =
    record {
      more = g.more ++ h.more;
      right = right_on s a b g.more h.more g.grown g.right h.right;
      grown = h.grown ∙ (ap (λ m. m ++ h.more) g.grown ∙ append_assoc a g.more h.more);
      none = flat_map-append member_export g.more h.more ∙ (ap (λ es. es ++ exports_of h.more) g.none ∙ h.none);
    }

-- of three states of an instance type, each with what it offers, its interface and the types that were passed
pub follow_on : {O H T : Type 0} (s : Surroundings) (o p q : O) (here there last : H) (t u v : T) (a b c : List Member) → (p ≡ o) × (there ≡ here) × (u ≡ t) × MembersGrow s a b → (q ≡ p) × (last ≡ there) × (v ≡ u) × MembersGrow s b c → (q ≡ o) × (last ≡ here) × (v ≡ t) × MembersGrow s a c
follow_on s o p q here there last t u v a b c g h = (h.0 ∙ g.0, h.1 ∙ g.1, h.2 ∙ g.2, members_on s a b c g.3 h.3)
