use Rattle.std.proofs.Common.{◌∙◌, ap, sym, map}
use Rattle.fixup_modules.specs.declared.import_name.ImportName.{ImportName}
use Rattle.fixup_modules.specs.Counts.{entry_at, imported_by}
use Rattle.fixup_modules.proofs.Importing.{import_earlier, import_new, import_taken}
use Rattle.fixup_modules.proofs.imports.import_item.Goals as goal

pub returns-then-is_taken-clause-imports : goal.returns-then-is_taken-clause-imports
returns-then-is_taken-clause-imports c =
    import_taken (imported_by c.args.instances.now c.args.items.now) c.args.instance.now c.args.field.now c.args.item c.in_ok-name.name.instance
    (ap (λ (n : ImportName). n.instance) c.in_ok-name.ensures) (sym (c.is_taken.ensures (map entry_at c.args.items.now)) ∙ c.if-is_taken.true)

pub returns-in-Some-clause-imports : goal.returns-in-Some-clause-imports
returns-in-Some-clause-imports c =
    import_earlier c.args.instances.now c.args.items.now c.args.counts.now c.args.instance.now c.args.field.now c.args.item c.in_ok-name.name c.in-Some.earlier c.earlier_index.result
    c.requires c.in_ok-name.ensures (sym c.in-Some.ensures) (sym (c.is_taken.ensures (map entry_at c.args.items.now)) ∙ c.if-is_taken.false)
    c.earlier_index.ensures.ok c.earlier_index.ensures.err

pub returns-in-None-clause-imports : goal.returns-in-None-clause-imports
returns-in-None-clause-imports c =
    (import_new c.args.instances.now c.add_import.new.instances c.args.items.now c.add_import.new.items c.args.counts.now c.add_import.new.counts c.args.instance.now c.args.field.now c.args.item c.in_ok-name.name c.add_import.result
    c.requires c.in_ok-name.ensures (sym c.in-None.ensures) (sym (c.is_taken.ensures (map entry_at c.args.items.now)) ∙ c.if-is_taken.false)
    c.add_import.ensures.instances c.add_import.ensures.items c.add_import.ensures.counts c.add_import.ensures.index c.add_import.ensures.room c.add_import.ensures.err c.add_import.ensures.cause).imports

pub returns-in-None-clause-counted : goal.returns-in-None-clause-counted
returns-in-None-clause-counted c =
    (import_new c.args.instances.now c.add_import.new.instances c.args.items.now c.add_import.new.items c.args.counts.now c.add_import.new.counts c.args.instance.now c.args.field.now c.args.item c.in_ok-name.name c.add_import.result
    c.requires c.in_ok-name.ensures (sym c.in-None.ensures) (sym (c.is_taken.ensures (map entry_at c.args.items.now)) ∙ c.if-is_taken.false)
    c.add_import.ensures.instances c.add_import.ensures.items c.add_import.ensures.counts c.add_import.ensures.index c.add_import.ensures.room c.add_import.ensures.err c.add_import.ensures.cause).counted
