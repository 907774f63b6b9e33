-- The members of a right instance type name types of its own scope, and of the scope that it is defined in (component
-- model, binary format: index spaces).
use Rattle.std.proofs.Common.{◌≡◌, ◌∙◌, ◌+◌, ◌<◌, ℕ, zero, suc, Bool, true, false, cond, if◌then◌else◌, List, [], ◌∷◌, ◌++◌, length, count_by, get_or, refl, ap, sym, subst, arith}
use Rattle.std.proofs.lemmas.List.{length-append}
use Rattle.std.proofs.lemmas.List.Sums.{sum_by_push}
use Rattle.comp_bytes.specs.Spaces.{member_space}
use Rattle.comp_bytes.specs.References.{Reference, own}
use Rattle.comp_bytes.specs.Scopes.{Scope, no_items, scope_of, InScope, EachIn, MemberScoped}
use Rattle.comp_bytes.specs.declared.space.Space.TheVariants as spaces
use Rattle.comp_bytes.specs.declared.types.Alias.TheVariants as aliases
use Rattle.comp_bytes.specs.declared.types.Description.TheVariants as descriptions
use Rattle.comp_bytes.specs.declared.types.Member.{Member}
use Rattle.comp_bytes.specs.declared.types.Member.TheVariants as members
use Rattle.comp_bytes.specs.declared.types.TypeDef.TheVariants as types
use Rattle.comp_trees.specs.Trees.{FunctionTree}
use Rattle.comp_trees.specs.DefinedTrees.{TypeTree, OfFunctions, OfOthers}
use Rattle.comp_trees.specs.Members.{Surroundings, IsMemberRight, AreMembersRight, makes_type, member_tree, with_member}
use Rattle.comp_trees.proofs.KnownScopes.{known_defined, known_function_names}

length_with : (scope : List TypeTree) (t : TypeTree) (b : Bool) → length (if b then scope ++ t ∷ [] else scope) ≡ length scope + cond b 1 0
length_with scope t true = length-append scope (t ∷ [])
length_with scope t false = omega arith

-- the scope has a type for each of the members that makes one
abbrev IsCounted : List TypeTree → List Member → Type 0
IsCounted scope before = length scope ≡ count_by makes_type before

counted_with : (s : Surroundings) (scope : List TypeTree) (before : List Member) (m : Member) → IsCounted scope before → IsCounted (with_member s scope m) (before ++ m ∷ [])
counted_with s scope before m counted =
    length_with scope (member_tree s scope m) (makes_type m) ∙ (ap (λ n. n + cond (makes_type m) 1 0) counted ∙ sym (sum_by_push (λ x. cond (makes_type x) 1 0) before m))

functions_in_range : (scope : List TypeTree) (index : ℕ) (type : FunctionTree) → get_or scope index OfOthers ≡ OfFunctions type → index < length scope
functions_in_range [] index type e = cc
functions_in_range (t ∷ ts) zero type e = omega arith
functions_in_range (t ∷ ts) (suc n) type e = let rest = functions_in_range ts n type e in omega (arith, rest)

module _ (s : Surroundings) (outer : Scope) (around : length s.outer ≡ outer spaces.Type) where
  abbrev Within : List Member → Reference → Type 0
  Within before = InScope (scope_of member_space before ∷ outer ∷ [])

  type_named : (scope : List TypeTree) (before : List Member) → IsCounted scope before → (index : ℕ) → index < length scope → Within before (own spaces.Type index)
  type_named scope before counted index l = subst (λ n. index < n) counted l

  member_scoped : (scope : List TypeTree) (before : List Member) → IsCounted scope before → (m : Member) → IsMemberRight s scope m → MemberScoped (outer ∷ []) (scope_of member_space before) m
  member_scoped scope before counted (members.Type (types.Func f)) h = known_function_names (Within before) scope (type_named scope before counted) f h
  member_scoped scope before counted (members.Type (types.Defined t)) h = known_defined (Within before) scope (type_named scope before counted) t h
  member_scoped scope before counted (members.Alias (aliases.Outer count index)) h =
      (subst (λ k. index < get_or (scope_of member_space before ∷ outer ∷ []) k no_items spaces.Type) (sym h.0) (subst (λ n. index < n) around h.1), tt)
  member_scoped scope before counted (members.Export name (descriptions.TypeEqual index)) h = (type_named scope before counted index h, tt)
  member_scoped scope before counted (members.Export name (descriptions.Func index)) h = (type_named scope before counted index (functions_in_range scope index h.type h.tree), tt)
  member_scoped scope before counted (members.Export name descriptions.SubResource) h = tt
  member_scoped scope before counted m h = absurd h

  each_scoped : (scope : List TypeTree) (before ms : List Member) → IsCounted scope before → AreMembersRight s scope ms → EachIn member_space (MemberScoped (outer ∷ [])) before ms
  each_scoped scope before [] counted h = tt
  each_scoped scope before (m ∷ ms) counted h =
      (member_scoped scope before counted m h.0, each_scoped (with_member s scope m) (before ++ m ∷ []) ms (counted_with s scope before m counted) h.1)

  pub members_scoped : (ms : List Member) → AreMembersRight s [] ms → EachIn member_space (MemberScoped (outer ∷ [])) [] ms
  members_scoped ms h = each_scoped [] [] ms refl h
