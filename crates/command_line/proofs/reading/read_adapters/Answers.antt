use Rattle.std.proofs.Common.{◌≡◌, List, [], sym, subst, ◌∙◌}
use Rattle.std.proofs.lemmas.List.{nil_from_length}
use Rattle.fitted_modules.specs.declared.modules.NamedModule.{NamedModule}
use Rattle.command_line.specs.declared.adapters.Adapter.{Adapter as GivenAdapter}
use Rattle.command_line.proofs.FilesRead.{ReadSoFar, none_read, one_read, one_fails, all_read, never_changed, twice_unchanged}
use Rattle.command_line.proofs.reading.read_adapters.Goals as goal

pub loop-adapter-init : goal.loop-adapter-init
loop-adapter-init g c =
    let events = g.S.Store.events c.args.store.now in
    let items : c.into_iter-adapter-iterator.result.rest.items ≡ c.args.adapters = c.into_iter-adapter-iterator.ensures.into_iter_gives.0 ∙ c.into_vec-adapter-items.ensures in (
      subst (λ (rest : List GivenAdapter). ReadSoFar g.row.F.Denot c.args.main c.args.adapters rest c.new-modules.result events events) (sym items)
          (subst (λ (ms : List NamedModule). ReadSoFar g.row.F.Denot c.args.main c.args.adapters c.args.adapters ms events events) (sym c.new-modules.ensures)
          (none_read {F = g.row.F.Denot} c.args.main c.args.adapters events)),
      never_changed (g.S.Store.files c.args.store.now),
    )

pub loop-adapter-preserved : goal.loop-adapter-preserved
loop-adapter-preserved g c =
    let read = c.in_ok-read_adapter.ensures.read in (
      one_read {F = g.row.F.Denot} c.args.main c.args.adapters c.next.new.self.rest.items c.in-Some.adapter c.loop-adapter.modules c.read_adapter.new.modules _ _ _ read.0
          (subst (λ (rest : List GivenAdapter). ReadSoFar g.row.F.Denot c.args.main c.args.adapters rest c.loop-adapter.modules (g.S.Store.events c.args.store.now) (g.S.Store.events c.loop-adapter.store)) c.in-Some.ensures.steps.0 c.loop-adapter.invariant.0)
          read.1 (read.2 c.args.main c.next.new.self.rest.items),
      twice_unchanged _ _ _ c.loop-adapter.invariant.1 c.in_ok-read_adapter.ensures.files,
    )

pub returns-in_err-read_adapter-clause-read : goal.returns-in_err-read_adapter-clause-read
returns-in_err-read_adapter-clause-read g c =
    let read = c.in_err-read_adapter.ensures.read in
    one_fails {F = g.row.F.Denot} c.args.main c.args.adapters c.next.new.self.rest.items c.in-Some.adapter c.loop-adapter.modules c.read_adapter.new.modules _ _ _ read.0 c.in_err-read_adapter.field-0.0 c.from_residual.result c.from_residual.ensures.1
    (subst (λ (rest : List GivenAdapter). ReadSoFar g.row.F.Denot c.args.main c.args.adapters rest c.loop-adapter.modules (g.S.Store.events c.args.store.now) (g.S.Store.events c.loop-adapter.store)) c.in-Some.ensures.steps.0 c.loop-adapter.invariant.0)
    read.1 (read.2 c.args.main c.next.new.self.rest.items)

pub returns-clause-read : goal.returns-clause-read
returns-clause-read g c =
    let left = c.loop-adapter.adapter-iterator.rest in
    let none : left.items ≡ [] = nil_from_length left.items (sym left.ok.0 ∙ c.in-None.ensures.steps.0) in
    all_read {F = g.row.F.Denot} c.args.main c.args.adapters left.items c.loop-adapter.modules _ _ none c.loop-adapter.invariant.0
