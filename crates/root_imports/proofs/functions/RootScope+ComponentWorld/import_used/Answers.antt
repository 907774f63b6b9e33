use Rattle.std.proofs.Common.{refl, inl, IsTrue, None, rules}
use Rattle.comp_links.specs.Roles.{is_used}
use Rattle.comp_terms.specs.Planned.{type_of_function}
use Rattle.comp_terms.specs.Terms.{imports_in}
use Rattle.comp_items.proofs.Remembering.{longer}
use Rattle.root_imports.specs.Imports.{IsRootImport, FindsImports}
use Rattle.root_imports.proofs.Finding.{finds_imported, finds_more, finds_added, FindsImports-kept}
use Rattle.root_imports.proofs.functions.RootScope+ComponentWorld.import_used.Goals as goal

pub import_function-requires-clause-needed : goal.import_function-requires-clause-needed
import_function-requires-clause-needed c =
    let w = c.args.self.now.world.now in
    let used : IsTrue (is_used w c.args.name.now) = search rules in
    inl (c.args.name.now, record { imported = c.requires.next.of; used = used })

pub returns-clause-imports : goal.returns-clause-imports
returns-clause-imports c =
    let w = c.args.self.now.world.now in
    let used : IsTrue (is_used w c.args.name.now) = search rules in
    let imported : IsRootImport w c.import_function.new.self.items.defs c.in_ok-index.index c.args.name.now = record {
      origin = record { number = imports_in c.args.self.now.items.defs; inner = None };
      type = type_of_function w c.args.function.now;
      of = (c.requires.next.number used, refl);
      typed = record { wit = c.args.function.now; imported = c.requires.next.of; typed = refl };
      is = c.in_ok-index.ensures.imported;
    } in
    let before : FindsImports w c.import_function.new.self.items.defs c.args.functions.now = FindsImports-kept (longer c.in_ok-index.ensures.extends) c.requires.imports in
    finds_imported c.args.functions.now c.insert_if_absent.new.self c.args.name.now c.in_ok-index.index (rw (← c.in_ok-name.ensures) c.in_ok-insert_if_absent.ensures.ok) before imported

pub returns-clause-finds : goal.returns-clause-finds
returns-clause-finds c = finds_more c.args.functions.now c.insert_if_absent.new.self c.in_ok-name.name c.in_ok-index.index c.in_ok-insert_if_absent.ensures.ok

pub returns-clause-found : goal.returns-clause-found
returns-clause-found c =
    λ _. finds_added c.args.functions.now c.insert_if_absent.new.self c.args.name.now c.in_ok-index.index (rw (← c.in_ok-name.ensures) c.in_ok-insert_if_absent.ensures.ok)
