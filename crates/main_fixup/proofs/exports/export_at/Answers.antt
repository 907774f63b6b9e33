use Rattle.std.proofs.Common.{List, ℕ, sym, subst}
use Rattle.comp_links.specs.Links.{export_of}
use Rattle.core_options.specs.MainOptions.{OffersFunction, IsAliasOf, user_of}
use Rattle.main_fixup.proofs.exports.export_at.Goals as goal

pub alias_of-requires : goal.alias_of-requires
alias_of-requires c =
    let h = c.requires.made in
    record {
      made = record {
        number = h.export.number;
        exporting = h.export.is.world_module;
        made = h.made;
        listed = h.export.is.listed;
        same = h.export.is.same;
        offered = subst (λ (name : List ℕ). OffersFunction h.export.is.world_module.found name) (sym c.as_str.ensures) h.export.offered;
      };
    }

pub returns-clause-alias : goal.returns-clause-alias
returns-clause-alias c = subst (λ (name : List ℕ). IsAliasOf c.args.root.now.world.now c.alias_of.new.root.items.defs c.in_ok-index.index (export_of (user_of c.args.of) name)) c.as_str.ensures c.in_ok-index.ensures.alias
