-- What is found in the table of the outer scope denotes its type.
use Rattle.std.proofs.Common.{◌≡◌, ℕ, List, [], ◌∷◌, ◌++◌, refl, sym, subst, rules, Option, Some, None}
use Rattle.std.specs.Prelude.{Result, IfOk, OnOk, OnErr}
use Rattle.std.specs.Option.{IfSome}
use Rattle.wit_data.specs.declared.ids.TypeId.{TypeId}
use Rattle.wit_data.specs.declared.ids.InterfaceId.{InterfaceId}
use Rattle.wit_data.specs.declared.types.Type.TheVariants.{Id}
use Rattle.comp_trees.specs.Trees.{Resource}
use Rattle.comp_trees.specs.DefinedTrees.{OfValues}
use Rattle.comp_trees.specs.WitTrees.{wit_tree}
use Rattle.byte_encoding.specs.declared.fault.BuildFault.{BuildFault}
use Rattle.comp_bytes.specs.declared.types.Member.{Member}
use Rattle.comp_bytes.specs.declared.types.Member.TheVariants as members
use Rattle.comp_bytes.specs.declared.types.Alias.TheVariants as aliases
use Rattle.wit_types.specs.Settings.{tree_in}
use Rattle.comp_trees.specs.DefinedScopes.{Denotes}
use Rattle.wit_types.specs.Denoting.{Makes}
use Rattle.wit_types.proofs.SameKeys.{IsOne}
use Rattle.wit_types.proofs.Growing.{holds_of_found}
use Rattle.type_scopes.specs.contracts.outer_type.OuterTypePartialEq.TheImpl as same_type
use Rattle.comp_trees.specs.Members.{Surroundings, member_trees}
use Rattle.type_scopes.specs.Offers.{Offer, IsOffered, offered, placed}
use Rattle.type_scopes.specs.Members.{types_in}
use Rattle.type_scopes.proofs.Scoping.{added}

one_outer : IsOne same_type.eq-value.it
one_outer x y e = search rules

pub offered_denotes : (s : Surroundings) (origin : TypeId → Resource) (o : Offer) (other : InterfaceId) (id : TypeId) (found : Option ℕ) → IsOffered s origin o → found ≡ offered o other id → IfSome found (λ index. Denotes s.outer index (OfValues (wit_tree origin o.types (Some (Id id)))))
offered_denotes s origin o other id None is e = tt
offered_denotes s origin o other id (Some index) is e =
    holds_of_found same_type.eq-value.it one_outer (λ p. Denotes s.outer p.1 (OfValues (wit_tree origin o.types (Some (Id p.0.id))))) (record { interface = other; id = id }) o.table index is.each (sym e)

-- the result of a call that adds an alias of an index of the outer scope
pub imported : (s : Surroundings) (origin : TypeId → Resource) (o : Offer) (here : InterfaceId) (passed : List TypeId) (id : TypeId) (index : ℕ) (old new : List Member) (r : Result ℕ BuildFault) → Denotes s.outer index (OfValues (wit_tree origin o.types (Some (Id id)))) → IfOk r (λ i. i ≡ types_in old) → OnOk r (new ≡ old ++ members.Alias (aliases.Outer 1 index) ∷ []) → OnErr r (new ≡ old) → Makes (member_trees s [] old) (member_trees s [] new) r (OfValues (tree_in (placed s origin o here passed) (Some (Id id))))
unfolding tree_in
imported s origin o here passed id index old new r d at is same =
    subst (λ t. Makes (member_trees s [] old) (member_trees s [] new) r t) d.tree (added s old new (members.Alias (aliases.Outer 1 index)) r refl at is same)
