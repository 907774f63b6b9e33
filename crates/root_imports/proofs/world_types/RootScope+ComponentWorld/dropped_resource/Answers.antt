use Rattle.std.proofs.Common.{◌≡◌, None, Some, subst, rules}
use Rattle.std.specs.Map.{lookup}
use Rattle.comp_trees.specs.DefinedScopes.{Denotes}
use Rattle.comp_inventories.specs.Inventories.{scope_of}
use Rattle.comp_links.specs.Lists.{resource_of}
use Rattle.comp_terms.specs.Terms.{IsResource}
use Rattle.comp_worlds.specs.WorldContents.{interface_at}
use Rattle.wit_data.specs.contracts.ids.InterfaceIdPartialEq.TheImpl as same_id
use Rattle.root_imports.specs.Growing.{root_same}
use Rattle.root_imports.proofs.NeededNames.{needed_named}
use Rattle.root_imports.proofs.ExportedTypes.{is_there}
use Rattle.root_imports.proofs.Resources.{found_is, is_found, resource_tree}
use Rattle.root_imports.proofs.world_types.RootScope+ComponentWorld.dropped_resource.Goals as goal

pub alias_type-requires-clause-found : goal.alias_type-requires-clause-found
alias_type-requires-clause-found c =
    let w = c.args.self.now.world.now in
    let interface = c.in-Some.interface in
    let at : interface_at w.resolve.types c.args.id.index ≡ Some interface = search rules in
    let need = c.requires.known.needed interface at in
    let k = c.requires.tables.offers.imports in
    is_there (lookup (same_id.eq-value.it interface) c.args.self.now.instances) (k.needed.each interface (k.imported interface c.args.id need.needed) (needed_named w interface c.args.id.index need.needed))

pub unwrap-requires : goal.unwrap-requires
unwrap-requires c =
    let s = c.args.self.now in
    let at : interface_at s.world.now.resolve.types c.args.id.index ≡ None = search rules in
    is_found (λ index. IsResource s.items.defs index (resource_of s.world.now c.args.id)) c.resource_index.result
    (c.resource_index.ensures s.world.now s.met s.instances s.items.defs c.requires.valid c.requires.known.resource at c.requires.passed c.requires.tables)

pub returns-in_ok-index-in-Some-clause-resource : goal.returns-in_ok-index-in-Some-clause-resource
returns-in_ok-index-in-Some-clause-resource c =
    let w = c.args.self.now.world.now in
    let new = c.alias_type.new.self.items.defs in
    let r = c.requires.known.resource in
    record { denotes = subst (λ t. Denotes (scope_of new) c.in_ok-index-in-Some.index t) (resource_tree w c.requires.valid c.args.id r.present r.kind) c.in_ok-index-in-Some.ensures.makes.1 }

pub returns-in-None-clause-grows : goal.returns-in-None-clause-grows
returns-in-None-clause-grows c = root_same c.args.self.now.world.now c.args.self.now.items

pub returns-in-None-clause-resource : goal.returns-in-None-clause-resource
returns-in-None-clause-resource c =
    let s = c.args.self.now in
    let at : interface_at s.world.now.resolve.types c.args.id.index ≡ None = search rules in
    let it : c.resource_index.result ≡ Some c.unwrap.result = search rules in
    found_is (λ index. IsResource s.items.defs index (resource_of s.world.now c.args.id)) c.resource_index.result c.unwrap.result it
    (c.resource_index.ensures s.world.now s.met s.instances s.items.defs c.requires.valid c.requires.known.resource at c.requires.passed c.requires.tables)
