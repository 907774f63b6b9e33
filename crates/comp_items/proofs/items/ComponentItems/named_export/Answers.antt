use Rattle.std.proofs.Common.{rules, [], sym, append-nil}
use Rattle.comp_items.proofs.Remembering.{alias_exported}
use Rattle.comp_bytes.specs.ItemIndices.{IsAt}
use Rattle.comp_bytes.specs.Spaces.{kind_space}
use Rattle.comp_items.specs.Items.{alias_of}
use Rattle.comp_items.proofs.items.ComponentItems.named_export.Goals as goal

pub returns-in-Some-clause-exported : goal.returns-in-Some-clause-exported
returns-in-Some-clause-exported c =
    let at : IsAt c.args.self.now.defs (kind_space c.args.kind) c.in-Some.index (alias_of (record { instance = c.args.instance; kind = c.args.kind; name = c.args.name.now })) =
    rw (← c.in_ok-name.ensures) (c.in-Some.ensures c.in-Some.index (search rules)) in
    λ number of. alias_exported c.args.self.now.defs c.args.self.now.defs (record { more = []; grown = sym (append-nil c.args.self.now.defs) }) (record { instance = c.args.instance; kind = c.args.kind; name = c.args.name.now }) c.in-Some.index number at of
