use Rattle.std.proofs.Common.{rules, ◌∷◌, subst}
use Rattle.std.specs.List.{AllByRecursion}
use Rattle.wit_data.specs.Sound.{HasEntry}
use Rattle.wit_data.specs.declared.worlds.WorldItem.{WorldItem}
use Rattle.wit_data.specs.declared.worlds.WorldKey.{WorldKey}
use Rattle.comp_worlds.specs.Encodable.{Entries}
use Rattle.supported_worlds.proofs.ExportNames.{TextsSoFar, texts_step}
use Rattle.supported_worlds.proofs.naming.are_texts_apart.Goals as goal

pub loop-key-preserved : goal.loop-key-preserved
loop-key-preserved c =
    let r = c.args.resolve.now in
    let all = c.args.exports.now in
    let texts = c.loop-key.texts in
    let rest = c.next.new.self in
    let entry : WorldKey × WorldItem = (c.in-Some.key.now, c.in-Some.item.now) in
    let present : AllByRecursion (HasEntry r) (entry ∷ rest) = subst (λ (es : Entries). AllByRecursion (HasEntry r) es) c.in-Some.ensures.steps c.loop-key.invariant.2 in
    let before : TextsSoFar r all (entry ∷ rest) texts = subst (λ (es : Entries). TextsSoFar r all es texts) c.in-Some.ensures.steps c.loop-key.invariant.3 in (
      tt,
      tt,
      present.1,
      texts_step r all rest entry texts c.add_text.new.texts c.in_ok-add_text.field-0 before c.in_ok-add_text.ensures (search rules),
    )
