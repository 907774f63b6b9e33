use Rattle.std.proofs.Common.{◌≡◌, Some, rules}
use Rattle.comp_links.specs.Lists.{resource_of}
use Rattle.comp_terms.specs.Terms.{IsResource}
use Rattle.root_imports.proofs.Resources.{found_is, is_found}
use Rattle.root_imports.proofs.own_resources.RootScope+ComponentWorld.own_resource.Goals as goal

pub unwrap-requires : goal.unwrap-requires
unwrap-requires c =
    let s = c.args.self.now in
    is_found (λ index. IsResource s.items.defs index (resource_of s.world.now c.args.id)) c.met_index.result
    (c.met_index.ensures s.world.now s.met s.instances s.items.defs c.requires.valid c.requires.resource c.requires.met c.requires.tables)

pub returns : goal.returns
returns c =
    let s = c.args.self.now in
    let it : c.met_index.result ≡ Some c.unwrap.result = search rules in
    found_is (λ index. IsResource s.items.defs index (resource_of s.world.now c.args.id)) c.met_index.result c.unwrap.result it
    (c.met_index.ensures s.world.now s.met s.instances s.items.defs c.requires.valid c.requires.resource c.requires.met c.requires.tables)
