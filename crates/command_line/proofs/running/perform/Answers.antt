use Rattle.std.proofs.Common.{◌≡◌, ◌∙◌, ℕ, List, [], Some, map, string_bytes, refl, rules, sym, subst, inl}
use Rattle.command_line.specs.Arguments.{request_of}
use Rattle.command_line.specs.Messages.{PrintsText, help_text}
use Rattle.command_line.specs.Running.{Performed}
use Rattle.command_line.specs.declared.arguments.Request.TheVariants as requests
use Rattle.command_line.proofs.Recorded.{reported_recorded}
use Rattle.command_line.proofs.Refusing.{without_memory}
use Rattle.command_line.proofs.Steps.{nothing_happened, reported_text}
use Rattle.command_line.proofs.Shown.{reported_linked}
use Rattle.command_line.proofs.Supplying.{reported_made}
use Rattle.command_line.proofs.Warning.{reported_linted as reported_warned}
use Rattle.command_line.proofs.running.perform.Goals as goal

pub returns-in-Ok-Some-New-clause-performed : goal.returns-in-Ok-Some-New-clause-performed
returns-in-Ok-Some-New-clause-performed g c =
    let made = c.make.ensures.made in
    let out = g.W.Write.contents c.args.out.now in
    let asked : request_of (map string_bytes c.args.words.now) ≡ Some (requests.New c.in-Ok-Some-New.arguments) = search rules in
    subst (λ request. Performed g.L.Lower c.args.lower request (g.S.Store.events c.args.store.now) (g.S.Store.events c.make.new.store) out out c.make.result) (sym asked) (record {
      events = made.0;
      happened = made.1;
      did = (made.2, refl);
      counted = reported_made g.L.Lower c.args.lower c.in-Ok-Some-New.arguments made.0 c.make.result made.2;
    })

pub returns-in-Ok-Some-Record-clause-performed : goal.returns-in-Ok-Some-Record-clause-performed
returns-in-Ok-Some-Record-clause-performed g c =
    let recorded = c.put_recorded.ensures.recorded in
    let before = g.W.Write.contents c.args.out.now in
    let asked : request_of (map string_bytes c.args.words.now) ≡ Some (requests.Record c.in-Ok-Some-Record.out c.in-Ok-Some-Record.file) = search rules in
    subst (λ request. Performed g.L.Lower c.args.lower request (g.S.Store.events c.args.store.now) (g.S.Store.events c.put_recorded.new.store) before before c.put_recorded.result) (sym asked) (record {
      events = recorded.0;
      happened = recorded.1;
      did = (recorded.2, refl);
      counted = reported_recorded c.in-Ok-Some-Record.out c.in-Ok-Some-Record.file recorded.0 c.put_recorded.result recorded.2;
    })

pub returns-in-Ok-Some-Links-clause-performed : goal.returns-in-Ok-Some-Links-clause-performed
returns-in-Ok-Some-Links-clause-performed g c =
    let file = c.in-Ok-Some-Links.file in
    let form = c.in-Ok-Some-Links.form in
    let linked = c.print_links.ensures.linked in
    let before = g.W.Write.contents c.args.out.now in
    let after = g.W.Write.contents c.print_links.new.out in
    let asked : request_of (map string_bytes c.args.words.now) ≡ Some (requests.Links file form) = search rules in
    subst (λ request. Performed g.L.Lower c.args.lower request (g.S.Store.events c.args.store.now) (g.S.Store.events c.print_links.new.store) before after c.print_links.result) (sym asked)
    (record { events = linked.0; happened = linked.1; did = linked.2; counted = reported_linked file form linked.0 before after c.print_links.result linked.2 })

pub returns-in-Ok-Some-Explain-clause-performed : goal.returns-in-Ok-Some-Explain-clause-performed
returns-in-Ok-Some-Explain-clause-performed g c =
    let text = c.in-Ok-Some-Explain.text in
    let before = g.W.Write.contents c.args.out.now in
    let after = g.W.Write.contents c.print.new.out in
    let events = g.S.Store.events c.args.store.now in
    let asked : request_of (map string_bytes c.args.words.now) ≡ Some (requests.Explain text) = search rules in
    let printed : PrintsText text before after c.print.result = subst (λ (t : List ℕ). PrintsText t before after c.print.result) (c.as_bytes.ensures.value ∙ c.as_str.ensures) c.print.ensures in
    subst (λ request. Performed g.L.Lower c.args.lower request events events before after c.print.result) (sym asked)
    (record { events = []; happened = nothing_happened events; did = (refl, inl printed); counted = reported_text text before after c.print.result printed })

pub returns-in-Ok-Some-Lint-clause-performed : goal.returns-in-Ok-Some-Lint-clause-performed
returns-in-Ok-Some-Lint-clause-performed g c =
    let main = c.in-Ok-Some-Lint.main in
    let adapters = c.in-Ok-Some-Lint.adapters in
    let linted = c.lint.ensures.linted in
    let before = g.W.Write.contents c.args.out.now in
    let after = g.W.Write.contents c.lint.new.out in
    let asked : request_of (map string_bytes c.args.words.now) ≡ Some (requests.Lint main adapters) = search rules in
    subst (λ request. Performed g.L.Lower c.args.lower request (g.S.Store.events c.args.store.now) (g.S.Store.events c.lint.new.store) before after c.lint.result) (sym asked)
    (record { events = linted.0; happened = linted.1; did = linted.2; counted = reported_warned main adapters linted.0 before after c.lint.result linted.2 })

pub returns-in-Ok-Some-Help-clause-performed : goal.returns-in-Ok-Some-Help-clause-performed
returns-in-Ok-Some-Help-clause-performed g c =
    let before = g.W.Write.contents c.args.out.now in
    let after = g.W.Write.contents c.print-in-Ok-Some-Help.new.out in
    let events = g.S.Store.events c.args.store.now in
    let asked : request_of (map string_bytes c.args.words.now) ≡ Some requests.Help = search rules in
    subst (λ request. Performed g.L.Lower c.args.lower request events events before after c.print-in-Ok-Some-Help.result) (sym asked)
    (record { events = []; happened = nothing_happened events; did = (refl, c.print-in-Ok-Some-Help.ensures); counted = reported_text help_text before after c.print-in-Ok-Some-Help.result c.print-in-Ok-Some-Help.ensures })

pub returns-in-Err-clause-performed : goal.returns-in-Err-clause-performed
returns-in-Err-clause-performed g c =
    without_memory g.L.Lower c.args.lower (request_of (map string_bytes c.args.words.now)) (g.S.Store.events c.args.store.now) (g.W.Write.contents c.args.out.now)
    c.is_listing.result c.out_of_memory.result c.in-Err.ensures.err c.is_listing.ensures c.out_of_memory.ensures
