use Rattle.std.proofs.Common.{◌∙◌, ◌∷◌, ◌++◌, [], List, sym, ap, subst}
use Rattle.fixup_modules.specs.declared.import_name.ImportName.{ImportName}
use Rattle.fixup_modules.specs.declared.imports.ImportedItem.{ImportedItem}
use Rattle.fixup_modules.proofs.Listing.{NamesSoFar, names_taken, names_passed}
use Rattle.fixup_modules.proofs.sections.kind_names.Goals as goal

pub loop-name-preserved-in-Continue-1 : goal.loop-name-preserved-in-Continue-1
loop-name-preserved-in-Continue-1 c =
    let e : ImportName × ImportedItem = (c.in-Some.name.now, c.in-Some.item.now) in
    let before = subst (λ (es : List (ImportName × ImportedItem)). NamesSoFar c.args.kind c.args.items.now es c.loop-name.names) c.in-Some.ensures.steps c.loop-name.invariant.2 in (
      tt,
      tt,
      names_taken c.args.kind c.args.items.now c.next.new.self c.loop-name.names e before c.append.new.self (sym c.is_kind.ensures ∙ c.if-is_kind.true)
          (c.in_ok-append.ensures.ok ∙ ap (λ (name : List _). c.loop-name.names ++ record { index = c.in-Some.item.now.index; name = name } ∷ []) c.as_str.ensures),
    )

pub loop-name-preserved : goal.loop-name-preserved
loop-name-preserved c =
    let e : ImportName × ImportedItem = (c.in-Some.name.now, c.in-Some.item.now) in
    let before = subst (λ (es : List (ImportName × ImportedItem)). NamesSoFar c.args.kind c.args.items.now es c.loop-name.names) c.in-Some.ensures.steps c.loop-name.invariant.2 in (
      tt,
      tt,
      names_passed c.args.kind c.args.items.now c.next.new.self c.loop-name.names e before (sym c.is_kind.ensures ∙ c.if-is_kind.false),
    )
