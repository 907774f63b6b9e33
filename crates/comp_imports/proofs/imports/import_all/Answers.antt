use Rattle.std.proofs.Common.{◌≡◌, length, map, subst, sym, ◌∙◌}
use Rattle.comp_builder.specs.Built.{Built}
use Rattle.comp_links.specs.Lists.{interface_entries, root_type}
use Rattle.comp_links.specs.Roles.{used_functions}
use Rattle.comp_terms.specs.Rules.{Grows, Imported, named_import}
use Rattle.comp_terms.specs.Terms.{imports_in}
use Rattle.comp_worlds.specs.WorldContents.{imported_types}
use Rattle.comp_items.specs.Items.{Extends}
use Rattle.comp_items.proofs.Extending.{extends_then}
use Rattle.comp_imports.specs.Names.{naming_of}
use Rattle.root_imports.specs.Interfaces.{AreInstancesKnown}
use Rattle.root_imports.specs.Imports.{first_imports}
use Rattle.root_imports.proofs.Importing.{types_imported}
use Rattle.comp_imports.proofs.AllImports.{interfaces_counted, imports_made}
use Rattle.comp_imports.proofs.imports.import_all.Goals as goal

pub forget_types-requires : goal.forget_types-requires
forget_types-requires c =
    let mid = c.import_interfaces.new.root in
    record { known = subst (λ r. AreInstancesKnown r.now mid.items.defs mid.instances) (sym c.in_ok-import_interfaces.ensures.world) c.in_ok-import_interfaces.ensures.known }

pub import_types-requires-clause-first : goal.import_types-requires-clause-first
import_types-requires-clause-first c =
    let mid = c.import_interfaces.new.root in
    let next = c.forget_types.new.self in
    let count : imports_in mid.items.defs ≡ length (interface_entries c.args.root.now.world.now) = interfaces_counted (naming_of c.args.names.now) c.args.root.now.world.now c.args.root.now.items.defs mid.items.defs c.requires.first c.in_ok-import_interfaces.ensures.grows in
    subst (λ (b : Built). imports_in b.defs ≡ length (interface_entries next.world.now)) (sym c.forget_types.ensures.items)
    (subst (λ r. imports_in mid.items.defs ≡ length (interface_entries r.now)) (sym (c.forget_types.ensures.world ∙ c.in_ok-import_interfaces.ensures.world)) count)

pub import_functions-requires-clause-types : goal.import_functions-requires-clause-types
import_functions-requires-clause-types c =
    let w = c.args.root.now.world.now in
    let mid = c.import_interfaces.new.root in
    let next = c.forget_types.new.self in
    let same = c.forget_types.ensures.world ∙ c.in_ok-import_interfaces.ensures.world in
    let count = interfaces_counted (naming_of c.args.names.now) w c.args.root.now.items.defs mid.items.defs c.requires.first c.in_ok-import_interfaces.ensures.grows in
    let types : Grows w mid.items.defs c.import_types.new.self.items.defs (map (λ t. Imported (root_type t.0)) (imported_types w)) =
    subst (λ (b : Built). Grows w b.defs c.import_types.new.self.items.defs (map (λ t. Imported (root_type t.0)) (imported_types w))) c.forget_types.ensures.items
    (subst (λ r. Grows r.now next.items.defs c.import_types.new.self.items.defs (map (λ t. Imported (root_type t.0)) (imported_types r.now))) same c.in_ok-import_types.ensures.grows) in
    subst (λ r. imports_in c.import_types.new.self.items.defs ≡ first_imports r.now) (sym (c.in_ok-import_types.ensures.world ∙ same))
    (types_imported w mid.items.defs c.import_types.new.self.items.defs count types)

pub returns-clause-grows : goal.returns-clause-grows
returns-clause-grows c =
    let w = c.args.root.now.world.now in
    let mid = c.import_interfaces.new.root in
    let next = c.forget_types.new.self in
    let same = c.forget_types.ensures.world ∙ c.in_ok-import_interfaces.ensures.world in
    let types : Grows w mid.items.defs c.import_types.new.self.items.defs (map (λ t. Imported (root_type t.0)) (imported_types w)) =
    subst (λ (b : Built). Grows w b.defs c.import_types.new.self.items.defs (map (λ t. Imported (root_type t.0)) (imported_types w))) c.forget_types.ensures.items
    (subst (λ r. Grows r.now next.items.defs c.import_types.new.self.items.defs (map (λ t. Imported (root_type t.0)) (imported_types r.now))) same c.in_ok-import_types.ensures.grows) in
    imports_made (naming_of c.args.names.now) c.in_ok-import_interfaces.ensures.grows types
    (subst (λ r. Grows r.now c.import_types.new.self.items.defs c.import_functions.new.self.items.defs (map named_import (used_functions r.now))) (c.in_ok-import_types.ensures.world ∙ same) c.in_ok-functions.ensures.grows)

pub returns-in_err-import_types-clause-extends : goal.returns-in_err-import_types-clause-extends
returns-in_err-import_types-clause-extends c =
    let mid = c.import_interfaces.new.root.items in
    let new = c.import_types.new.self.items in
    let types : Extends mid new = subst (λ (b : Built). Extends b new) c.forget_types.ensures.items c.import_types.ensures.extends in
    extends_then c.args.root.now.items mid new c.in_ok-import_interfaces.ensures.extends types

pub returns-in_err-functions-clause-extends : goal.returns-in_err-functions-clause-extends
returns-in_err-functions-clause-extends c =
    let mid = c.import_interfaces.new.root.items in
    let next = c.import_types.new.self.items in
    let new = c.import_functions.new.self.items in
    let types : Extends mid next = subst (λ (b : Built). Extends b next) c.forget_types.ensures.items c.in_ok-import_types.ensures.extends in
    extends_then c.args.root.now.items mid new c.in_ok-import_interfaces.ensures.extends (extends_then mid next new types c.import_functions.ensures.extends)

pub returns-clause-extends : goal.returns-clause-extends
returns-clause-extends c =
    let mid = c.import_interfaces.new.root.items in
    let next = c.import_types.new.self.items in
    let new = c.import_functions.new.self.items in
    let types : Extends mid next = subst (λ (b : Built). Extends b next) c.forget_types.ensures.items c.in_ok-import_types.ensures.extends in
    extends_then c.args.root.now.items mid new c.in_ok-import_interfaces.ensures.extends (extends_then mid next new types c.in_ok-functions.ensures.extends)
