use Rattle.std.proofs.Common.{[], ◌∷◌, ap, subst, None}
use Rattle.comp_bytes.specs.declared.space.Space.TheVariants as spaces
use Rattle.comp_bytes.specs.declared.space.Sort.TheVariants as sorts
use Rattle.comp_bytes.specs.declared.types.Description.TheVariants as descriptions
use Rattle.comp_bytes.specs.declared.def.Def.{Def}
use Rattle.comp_bytes.specs.declared.def.Def.TheVariants as defs
use Rattle.comp_bytes.specs.declared.def.Item.TheVariants as items
use Rattle.comp_builder.specs.Built.{Built}
use Rattle.comp_trees.specs.DefinedScopes.{Denotes}
use Rattle.comp_trees.specs.DefinedTrees.{TypeTree}
use Rattle.comp_inventories.specs.Inventories.{scope_of}
use Rattle.comp_items.specs.Items.{Extends}
use Rattle.comp_items.proofs.Extending.{extends_adds, extends_then}
use Rattle.comp_links.specs.Lists.{root_type}
use Rattle.comp_terms.specs.Rules.{IsRight, Grows, Imported, ImportsType, resource_here}
use Rattle.comp_terms.specs.Terms.{imports_in}
use Rattle.root_imports.specs.Growing.{Grows-by, Grows-then}
use Rattle.root_imports.proofs.Growth.{tables_kept}
use Rattle.root_imports.proofs.Naming.{by_name}
use Rattle.root_imports.proofs.Resources.{resource_numbered, at_root}
use Rattle.root_imports.proofs.world_types.RootScope+ComponentWorld.import_resource.Goals as goal

pub returns-in_err-index-clause-tables : goal.returns-in_err-index-clause-tables
returns-in_err-index-clause-tables c =
    let old = c.args.self.now in
    let g : Extends old.items c.import_resource.new.self = extends_adds old.items c.import_resource.new.self c.import_resource.result spaces.Type (defs.Item (items.Import c.args.name descriptions.SubResource)) None c.import_resource.ensures.adds in
    tables_kept old.world.now old.met old.instances old.items c.import_resource.new.self old.maps g c.requires.tables

pub record_world_type-requires-clause-tables : goal.record_world_type-requires-clause-tables
record_world_type-requires-clause-tables c =
    let old = c.args.self.now in
    let g : Extends old.items c.import_resource.new.self = extends_adds old.items c.import_resource.new.self c.import_resource.result spaces.Type (defs.Item (items.Import c.args.name descriptions.SubResource)) None c.import_resource.ensures.adds in
    tables_kept old.world.now old.met old.instances old.items c.import_resource.new.self old.maps g c.requires.tables

pub record_world_type-requires-clause-denotes : goal.record_world_type-requires-clause-denotes
record_world_type-requires-clause-denotes c =
    let w = c.args.self.now.world.now in
    subst (λ (t : TypeTree). Denotes (scope_of c.import_resource.new.self.defs) c.in_ok-index.index t)
    (resource_numbered w c.requires.valid c.args.id (imports_in c.args.self.now.items.defs) c.requires.present c.requires.resource (at_root c.args.self.now.world.now c.requires.valid c.args.name.name c.args.id c.requires.next.listed).own c.requires.next.number) c.in_ok-index.ensures.denotes

pub returns-clause-grows : goal.returns-clause-grows
returns-clause-grows c =
    let w = c.args.self.now.world.now in
    let old = c.args.self.now.items.defs in
    let new = c.import_resource.new.self.defs in
    let end = c.record_world_type.new.self.items.defs in
    let type : ImportsType w old c.args.name.name (resource_here old) = record {
      id = c.args.id;
      stated = c.requires.next.stated;
      same = resource_numbered w c.requires.valid c.args.id (imports_in old) c.requires.present c.requires.resource (at_root c.args.self.now.world.now c.requires.valid c.args.name.name c.args.id c.requires.next.listed).own c.requires.next.number;
    } in
    let d : Def = defs.Item (items.Import c.args.name descriptions.SubResource) in
    let right : IsRight w old d = type in
    let first : Grows w old new (Imported (record { name = c.args.name; sort = sorts.Type }) ∷ []) = Grows-by d (ap (λ (b : Built). b.defs) c.in_ok-index.ensures.adds.1) right in
    let named : Grows w old new (Imported (root_type c.args.name.name) ∷ []) = subst (λ n. Grows w old new (Imported (record { name = n; sort = sorts.Type }) ∷ [])) (by_name c.args.name c.requires.plain) first in
    Grows-then named c.in_ok-record_world_type.ensures.grows

pub returns-in_err-index-clause-extends : goal.returns-in_err-index-clause-extends
returns-in_err-index-clause-extends c = extends_adds c.args.self.now.items c.import_resource.new.self c.import_resource.result spaces.Type (defs.Item (items.Import c.args.name descriptions.SubResource)) None c.import_resource.ensures.adds

pub returns-in_err-record_world_type-clause-extends : goal.returns-in_err-record_world_type-clause-extends
returns-in_err-record_world_type-clause-extends c =
    let g : Extends c.args.self.now.items c.import_resource.new.self = extends_adds c.args.self.now.items c.import_resource.new.self c.import_resource.result spaces.Type (defs.Item (items.Import c.args.name descriptions.SubResource)) None c.import_resource.ensures.adds in
    extends_then c.args.self.now.items c.import_resource.new.self c.record_world_type.new.self.items g c.record_world_type.ensures.extends

pub returns-clause-extends : goal.returns-clause-extends
returns-clause-extends c =
    let g : Extends c.args.self.now.items c.import_resource.new.self = extends_adds c.args.self.now.items c.import_resource.new.self c.import_resource.result spaces.Type (defs.Item (items.Import c.args.name descriptions.SubResource)) None c.import_resource.ensures.adds in
    extends_then c.args.self.now.items c.import_resource.new.self c.record_world_type.new.self.items g c.in_ok-record_world_type.ensures.extends
