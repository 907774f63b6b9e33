-- What the type indices denote after one more member.
use Rattle.std.proofs.Common.{◌≡◌, ℕ, ◌+◌, Bool, true, false, cond, if◌then◌else◌, List, [], ◌∷◌, ◌++◌, length, refl, ap, ◌∙◌, sym, subst, arith}
use Rattle.std.specs.Prelude.{Result, Ok, Err, IfOk, OnOk, OnErr}
use Rattle.std.proofs.lemmas.List.{length-append}
use Rattle.std.proofs.lemmas.List.Sums.{sum_by-cons, sum_by_push}
use Rattle.std.proofs.Math.Seq.{get_or-append_seam}
use Rattle.byte_encoding.specs.declared.fault.BuildFault.{BuildFault}
use Rattle.comp_bytes.specs.declared.types.Member.{Member}
use Rattle.comp_bytes.specs.declared.types.Member.TheVariants as members
use Rattle.comp_bytes.specs.declared.types.ExternName.{ExternName}
use Rattle.comp_bytes.specs.declared.types.Description.{Description}
use Rattle.comp_trees.specs.DefinedTrees.{TypeTree, OfOthers}
use Rattle.comp_trees.specs.DefinedScopes.{Denotes}
use Rattle.wit_types.specs.Denoting.{Longer, AddsOne, Makes}
use Rattle.wit_types.proofs.Growing.{longer_none, longer_on}
use Rattle.comp_trees.specs.Members.{Surroundings, IsMemberRight, makes_type, member_tree, with_member, member_trees}
use Rattle.type_scopes.specs.Members.{types_in}
use Rattle.comp_bytes.specs.ScopeNames.{member_export}
use Rattle.type_scopes.specs.Exports.{IsExport, MembersExtend, MembersGrow, members_same, members_append}

one_of : Member → ℕ
one_of m = cond (makes_type m) 1 0

pub types_more : (ms : List Member) (m : Member) → makes_type m ≡ true → types_in (ms ++ m ∷ []) ≡ types_in ms + 1
types_more ms m makes = sum_by_push (λ x. cond (makes_type x) 1 0) ms m ∙ ap (λ b. types_in ms + cond b 1 0) makes

pub members_more : (s : Surroundings) (scope : List TypeTree) (ms : List Member) (m : Member) → member_trees s scope (ms ++ m ∷ []) ≡ with_member s (member_trees s scope ms) m
members_more s scope [] m = refl
members_more s scope (x ∷ ms) m = members_more s (with_member s scope x) ms m

longer_with : (scope : List TypeTree) (t : TypeTree) (b : Bool) → Longer scope (if b then scope ++ t ∷ [] else scope)
longer_with scope t true = record { more = t ∷ []; longer = refl }
longer_with scope t false = longer_none scope

pub longer_after : (s : Surroundings) (scope : List TypeTree) (ms : List Member) → Longer scope (member_trees s scope ms)
longer_after s scope [] = longer_none scope
longer_after s scope (m ∷ ms) = longer_on (longer_with scope (member_tree s scope m) (makes_type m)) (longer_after s (with_member s scope m) ms)

-- more members make a longer scope
pub longer_by : (s : Surroundings) (old new more : List Member) → new ≡ old ++ more → Longer (member_trees s [] old) (member_trees s [] new)
longer_by s old new more grown =
    subst (λ ts. Longer (member_trees s [] old) ts) (sym (ap (member_trees s []) grown ∙ members_append s [] old more)) (longer_after s (member_trees s [] old) more)

pub trees_extend : (s : Surroundings) (old new : List Member) → MembersExtend s old new → Longer (member_trees s [] old) (member_trees s [] new)
trees_extend s old new g = longer_by s old new g.more g.grown

one_more : (s : Surroundings) (ms : List Member) (m : Member) → makes_type m ≡ true → member_trees s [] (ms ++ m ∷ []) ≡ member_trees s [] ms ++ member_tree s (member_trees s [] ms) m ∷ []
one_more s ms m makes =
    let scope = member_trees s [] ms in
    members_more s [] ms m ∙ ap (λ b. if b then scope ++ member_tree s scope m ∷ [] else scope) makes

length_with : (scope : List TypeTree) (t : TypeTree) (b : Bool) → length (if b then scope ++ t ∷ [] else scope) ≡ length scope + cond b 1 0
length_with scope t true = length-append scope (t ∷ [])
length_with scope t false = omega arith

length_members : (s : Surroundings) (scope : List TypeTree) (ms : List Member) → length (member_trees s scope ms) ≡ length scope + types_in ms
length_members s scope [] = omega arith
length_members s scope (m ∷ ms) =
    let later = length_members s (with_member s scope m) ms in
    let here = length_with scope (member_tree s scope m) (makes_type m) in
    let count = sum_by-cons (λ x. cond (makes_type x) 1 0) m ms in
    later ∙ (ap (λ n. n + types_in ms) here ∙ (omega arith ∙ ap (λ n. length scope + n) (sym count)))

-- the number of types of the scope is that of the members that make one
pub length_scope : (s : Surroundings) (ms : List Member) → length (member_trees s [] ms) ≡ types_in ms
length_scope s ms = length_members s [] ms ∙ omega arith

pub grows_by : (s : Surroundings) (old new : List Member) (m : Member) → makes_type m ≡ true → new ≡ old ++ m ∷ [] → AddsOne (member_trees s [] old) (member_trees s [] new) (member_tree s (member_trees s [] old) m)
grows_by s old new m makes is = record { added = ap (member_trees s []) is ∙ one_more s old m makes }

pub denotes_new : (s : Surroundings) (old new : List Member) (m : Member) (index : ℕ) → makes_type m ≡ true → index ≡ types_in old → new ≡ old ++ m ∷ [] → Denotes (member_trees s [] new) index (member_tree s (member_trees s [] old) m)
denotes_new s old new m index makes at is =
    let scope = member_trees s [] old in
    let t = member_tree s scope m in
    subst (λ ts. Denotes ts index t) (sym (ap (member_trees s []) is ∙ one_more s old m makes))
    (subst (λ k. Denotes (scope ++ t ∷ []) k t) (length_scope s old ∙ sym at)
    (record { within = omega (arith, length-append scope (t ∷ [])); tree = get_or-append_seam scope t [] OfOthers }))

-- the result of a call that adds a member which makes a type index
pub added : (s : Surroundings) (old new : List Member) (m : Member) (r : Result ℕ BuildFault) → makes_type m ≡ true → IfOk r (λ i. i ≡ types_in old) → OnOk r (new ≡ old ++ m ∷ []) → OnErr r (new ≡ old) → Makes (member_trees s [] old) (member_trees s [] new) r (member_tree s (member_trees s [] old) m)
added s old new m (Ok i) makes at is same = (grows_by s old new m makes is, denotes_new s old new m i makes at is)
added s old new m (Err e) makes at is same = subst (λ ms. Longer (member_trees s [] old) (member_trees s [] ms)) (sym same) (longer_none (member_trees s [] old))

pub exported_new : (old new : List Member) (name : ExternName) (description : Description) (index : ℕ) → makes_type (members.Export name description) ≡ true → index ≡ types_in old → new ≡ old ++ members.Export name description ∷ [] → IsExport new name.name index
exported_new old new name description index makes at is =
    record { before = old; after = []; extern_name = name; description = description; there = is; named = refl; makes = makes; counted = at }

-- members with one more, which is right and exports nothing
pub grown_by : (s : Surroundings) (old new : List Member) (m : Member) → member_export m ≡ [] → IsMemberRight s (member_trees s [] old) m → new ≡ old ++ m ∷ [] → MembersGrow s old new
grown_by s old new m none right is = record { more = m ∷ []; grown = is; right = (right, tt); none = ap (λ es. es ++ []) none }

pub grown_if : {A E : Type 0} (s : Surroundings) (old new : List Member) (m : Member) (r : Result A E) → member_export m ≡ [] → IsMemberRight s (member_trees s [] old) m → OnOk r (new ≡ old ++ m ∷ []) → OnErr r (new ≡ old) → MembersGrow s old new
grown_if s old new m (Ok i) none right is same = grown_by s old new m none right is
grown_if s old new m (Err e) none right is same = subst (λ ms. MembersGrow s old ms) (sym same) (members_same s old)
