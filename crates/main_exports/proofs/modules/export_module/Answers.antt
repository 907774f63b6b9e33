use Rattle.main_exports.proofs.modules.export_module.Goals as goal

pub export_keys-requires-clause-exports : goal.export_keys-requires-clause-exports
export_keys-requires-clause-exports c =
    let user = c.requires.user in
    record {
      valid = c.requires.ready.valid;
      user = user;
      tabled = c.in_ok-tables.ensures;
      sources = record { memory = c.requires.made.memory; realloc = c.export_realloc_of.ensures.made c.args.root.now.items.defs user.number c.requires.made.main user.made user.listed };
      realloc = c.export_realloc_of.ensures.same;
      tables = c.requires.ready.tables;
      passed = c.requires.ready.passed;
      ordered = c.requires.ready.ordered;
    }
