-- What the outer scope of an instance type offers to it, and what the definitions in it take as given (component model,
-- WIT: `use`; explainer: outer aliases).
use Rattle.std.specs.Prelude.{ℕ, ◌≡◌, List, Option, Some, true, false, is_some, is_none}
use Rattle.std.specs.Map.{lookup}
use Rattle.std.specs.List.{AllByRecursion}
use Rattle.wit_data.specs.declared.ids.TypeId.{TypeId}
use Rattle.wit_data.specs.declared.ids.InterfaceId.{InterfaceId}
use Rattle.wit_data.specs.declared.types.Type.TheVariants.{Id}
use Rattle.wit_data.specs.declared.types.TypeDef.{TypeDef}
use Rattle.comp_trees.specs.Trees.{Resource}
use Rattle.comp_trees.specs.DefinedTrees.{OfValues}
use Rattle.comp_trees.specs.WitTrees.{wit_tree}
use Rattle.wit_types.specs.Settings.{Setting, name_at}
use Rattle.comp_trees.specs.DefinedScopes.{Denotes}
use Rattle.type_scopes.specs.declared.outer_type.OuterType.{OuterType}
use Rattle.type_scopes.specs.contracts.outer_type.OuterTypePartialEq.TheImpl as same_type
use Rattle.comp_trees.specs.Members.{Surroundings}
use Rattle.type_scopes.specs.Titles.{is_one_of}

-- the types of the resolve, and the index in the outer scope of each type that it offers
pub record Offer : Type 0 where
  pub types : List TypeDef
  pub table : List (OuterType × ℕ)

-- each index denotes its type, where the resources of the resolve are these
pub record IsOffered (s : Surroundings) (origin : TypeId → Resource) (o : Offer) : Type 0 where
  pub each : AllByRecursion (λ e. Denotes s.outer e.1 (OfValues (wit_tree origin o.types (Some (Id e.0.id))))) o.table

-- the index of a type of another interface in the outer scope
abbrev pub offered : Offer → InterfaceId → TypeId → Option ℕ
offered o other id = lookup (same_type.eq-value.it (record { interface = other; id = id })) o.table

-- the type is offered
pub record IsOfferedType (o : Offer) (t : OuterType) : Type 0 where
  pub there : is_some (offered o t.interface t.id) ≡ true

-- What the definitions in the instance type of an interface take as given, where these of its types
-- were passed: they are exported under their names, and in the tables. What is offered may be
-- imported, and types without a name may be defined. A type gets its name once it is defined, and
-- not while others are: so nothing is exported meanwhile.
abbrev pub placed : Surroundings → (TypeId → Resource) → Offer → InterfaceId → List TypeId → Setting
placed s origin o here passed =
    record {
      types = o.types;
      interface = Some here;
      origin = origin;
      may_import = λ other id. is_some (offered o other id);
      may_own = λ n. is_none (name_at o.types n);
      may_export = λ name. false;
      resource = s.resource;
      met = λ id. is_one_of passed id.index;
    }
