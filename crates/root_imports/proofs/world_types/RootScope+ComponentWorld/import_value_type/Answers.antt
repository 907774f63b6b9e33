use Rattle.std.proofs.Common.{◌≡◌, ◌∙◌, [], ◌∷◌, ap, sym, subst, Some, None}
use Rattle.std.specs.Prelude.{get_or, slice_get}
use Rattle.comp_bytes.specs.declared.space.Space.TheVariants as spaces
use Rattle.comp_bytes.specs.declared.types.Description.TheVariants as descriptions
use Rattle.comp_bytes.specs.declared.def.Def.{Def}
use Rattle.comp_bytes.specs.declared.def.Def.TheVariants as defs
use Rattle.comp_bytes.specs.declared.def.Item.TheVariants as items
use Rattle.comp_bytes.specs.declared.space.Sort.TheVariants as sorts
use Rattle.comp_builder.specs.Built.{Built}
use Rattle.comp_trees.specs.DefinedScopes.{Denotes}
use Rattle.comp_trees.specs.DefinedTrees.{OfOthers}
use Rattle.comp_inventories.specs.Inventories.{scope_of}
use Rattle.comp_items.specs.Items.{Extends}
use Rattle.comp_items.proofs.Extending.{extends_adds, extends_then}
use Rattle.comp_links.specs.Lists.{root_type, WorldType, import_entries, type_of_world}
use Rattle.comp_terms.specs.Rules.{IsRight, Grows, Imported, ImportsType}
use Rattle.comp_terms.specs.Terms.{imports_in}
use Rattle.comp_worlds.specs.Encodable.{IsEncodable}
use Rattle.root_imports.specs.Growing.{Grows-by, Grows-then}
use Rattle.root_imports.specs.Imports.{IsNextId}
use Rattle.root_imports.specs.Interfaces.{AreInterfacesKnown}
use Rattle.root_imports.specs.Met.{next_of}
use Rattle.root_imports.specs.RootScopes.{AreTablesRight}
use Rattle.root_imports.specs.declared.met_types.MetTypes.{MetTypes}
use Rattle.root_imports.proofs.Allowing.{root_defines}
use Rattle.root_imports.proofs.Resources.{world_type_listed}
use Rattle.root_imports.proofs.Growth.{other_interface, tables_in, tables_kept}
use Rattle.root_imports.proofs.Importing.{no_imports}
use Rattle.root_imports.proofs.Naming.{by_name}
use Rattle.root_imports.proofs.world_types.RootScope+ComponentWorld.import_value_type.Goals as goal

pub encode_definition-requires-clause-defined : goal.encode_definition-requires-clause-defined
encode_definition-requires-clause-defined c = root_defines c.args.self.now.world.now c.requires.valid c.args.self.now.met c.args.id c.requires.values c.requires.next.order (world_type_listed c.args.self.now.world.now c.requires.valid c.args.id c.requires.present c.requires.next.listed)

pub returns-in_err-index-clause-tables : goal.returns-in_err-index-clause-tables
returns-in_err-index-clause-tables c =
    let new = c.encode_definition.new.encoder in
    subst (λ r. AreTablesRight r.now new.met new.instances new.items.defs new.maps) c.encode_definition.ensures.follows.0
    (other_interface new.world.now new.interface None new.met (scope_of new.items.defs) (AreInterfacesKnown new.world.now new.items.defs new.met.exported new.instances) new.maps c.encode_definition.ensures.faithful)

pub returns-in_err-index-2-clause-tables : goal.returns-in_err-index-2-clause-tables
returns-in_err-index-2-clause-tables c =
    let mid = c.encode_definition.new.encoder in
    let g : Extends mid.items c.import_type.new.self = extends_adds mid.items c.import_type.new.self c.import_type.result spaces.Type (defs.Item (items.Import c.args.name (descriptions.TypeEqual c.in_ok-index.index))) None c.import_type.ensures.adds in
    let before : AreTablesRight c.args.self.now.world.now c.args.self.now.met mid.instances mid.items.defs mid.maps =
    tables_in c.args.self.now.world.now mid.world.now None c.args.self.now.met mid.met mid.instances mid.items.defs mid.maps _ c.in_ok-index.ensures.setting (ap (λ r. r.now) c.in_ok-index.ensures.follows.0) c.in_ok-index.ensures.follows.1 c.in_ok-index.ensures.faithful in
    let after : AreTablesRight c.args.self.now.world.now c.args.self.now.met mid.instances c.import_type.new.self.defs mid.maps = tables_kept c.args.self.now.world.now c.args.self.now.met mid.instances mid.items c.import_type.new.self mid.maps g before in
    subst (λ n. AreTablesRight c.args.self.now.world.now n mid.instances c.import_type.new.self.defs mid.maps) (sym c.in_ok-index.ensures.follows.1) after

pub record_world_type-requires-clause-valid : goal.record_world_type-requires-clause-valid
record_world_type-requires-clause-valid c = subst (λ r. IsEncodable r.now) (sym c.in_ok-index.ensures.follows.0) c.requires.valid

pub record_world_type-requires-clause-order : goal.record_world_type-requires-clause-order
record_world_type-requires-clause-order c =
    let mid = c.encode_definition.new.encoder in
    subst (λ r. IsNextId r.now (next_of mid.met.last) c.args.id) (sym c.in_ok-index.ensures.follows.0) (subst (λ (m : MetTypes). IsNextId c.args.self.now.world.now (next_of m.last) c.args.id) (sym c.in_ok-index.ensures.follows.1) c.requires.next.order)

pub record_world_type-requires-clause-tables : goal.record_world_type-requires-clause-tables
record_world_type-requires-clause-tables c =
    let mid = c.encode_definition.new.encoder in
    let g : Extends mid.items c.import_type.new.self = extends_adds mid.items c.import_type.new.self c.import_type.result spaces.Type (defs.Item (items.Import c.args.name (descriptions.TypeEqual c.in_ok-index.index))) None c.import_type.ensures.adds in
    tables_kept mid.world.now mid.met mid.instances mid.items c.import_type.new.self mid.maps g
    (other_interface mid.world.now mid.interface None mid.met (scope_of mid.items.defs) (AreInterfacesKnown mid.world.now mid.items.defs mid.met.exported mid.instances) mid.maps c.in_ok-index.ensures.faithful)

pub record_world_type-requires-clause-denotes : goal.record_world_type-requires-clause-denotes
record_world_type-requires-clause-denotes c =
    let new = c.import_type.new.self.defs in
    subst (λ r. Denotes (scope_of new) c.in_ok-index-2.index (type_of_world r.now c.args.id)) (sym c.in_ok-index.ensures.follows.0)
    (subst (λ t. Denotes (scope_of new) c.in_ok-index-2.index t) c.in_ok-index.ensures.denotes.tree c.in_ok-index-2.ensures.denotes)

pub returns-clause-grows : goal.returns-clause-grows
returns-clause-grows c =
    let w = c.args.self.now.world.now in
    let old = c.args.self.now.items.defs in
    let mid = c.encode_definition.new.encoder.items.defs in
    let new = c.import_type.new.self.defs in
    let end = c.record_world_type.new.self.items.defs in
    let index = c.in_ok-index.index in
    let first : Grows w old mid [] = c.in_ok-index.ensures.follows.3.grows in
    let next : slice_get (import_entries w) (imports_in mid) ≡ Some (WorldType c.args.name.name c.args.id) = ap (slice_get (import_entries w)) (no_imports first) ∙ c.requires.next.stated in
    let type : ImportsType w mid c.args.name.name (get_or (scope_of mid) index OfOthers) = record { id = c.args.id; stated = next; same = c.in_ok-index.ensures.denotes.tree } in
    let d : Def = defs.Item (items.Import c.args.name (descriptions.TypeEqual index)) in
    let right : IsRight w mid d = (c.in_ok-index.ensures.denotes.within, type) in
    let second : Grows w mid new (Imported (record { name = c.args.name; sort = sorts.Type }) ∷ []) = Grows-by d (ap (λ (b : Built). b.defs) c.in_ok-index-2.ensures.adds.1) right in
    let named : Grows w mid new (Imported (root_type c.args.name.name) ∷ []) = subst (λ n. Grows w mid new (Imported (record { name = n; sort = sorts.Type }) ∷ [])) (by_name c.args.name c.requires.plain) second in
    let third : Grows w new end [] = subst (λ r. Grows r.now new end []) c.in_ok-index.ensures.follows.0 c.in_ok-record_world_type.ensures.grows in
    Grows-then first (Grows-then named third)

pub returns-in_err-index-2-clause-extends : goal.returns-in_err-index-2-clause-extends
returns-in_err-index-2-clause-extends c =
    let mid = c.encode_definition.new.encoder in
    let g : Extends mid.items c.import_type.new.self = extends_adds mid.items c.import_type.new.self c.import_type.result spaces.Type (defs.Item (items.Import c.args.name (descriptions.TypeEqual c.in_ok-index.index))) None c.import_type.ensures.adds in
    extends_then c.args.self.now.items mid.items c.import_type.new.self c.in_ok-index.ensures.follows.3.extends g

pub returns-in_err-record_world_type-clause-extends : goal.returns-in_err-record_world_type-clause-extends
returns-in_err-record_world_type-clause-extends c =
    let mid = c.encode_definition.new.encoder in
    let g : Extends mid.items c.import_type.new.self = extends_adds mid.items c.import_type.new.self c.import_type.result spaces.Type (defs.Item (items.Import c.args.name (descriptions.TypeEqual c.in_ok-index.index))) None c.import_type.ensures.adds in
    let later : Extends mid.items c.record_world_type.new.self.items = extends_then mid.items c.import_type.new.self c.record_world_type.new.self.items g c.record_world_type.ensures.extends in
    extends_then c.args.self.now.items mid.items c.record_world_type.new.self.items c.in_ok-index.ensures.follows.3.extends later

pub returns-clause-extends : goal.returns-clause-extends
returns-clause-extends c =
    let mid = c.encode_definition.new.encoder in
    let g : Extends mid.items c.import_type.new.self = extends_adds mid.items c.import_type.new.self c.import_type.result spaces.Type (defs.Item (items.Import c.args.name (descriptions.TypeEqual c.in_ok-index.index))) None c.import_type.ensures.adds in
    let later : Extends mid.items c.record_world_type.new.self.items = extends_then mid.items c.import_type.new.self c.record_world_type.new.self.items g c.in_ok-record_world_type.ensures.extends in
    extends_then c.args.self.now.items mid.items c.record_world_type.new.self.items c.in_ok-index.ensures.follows.3.extends later
