-- The root after several steps.
use Rattle.std.proofs.Common.{◌≡◌, ◌∙◌, ap, refl, sym, subst}
use Rattle.comp_items.proofs.Extending.{extends_none, extends_then}
use Rattle.comp_items.specs.Items.{Extends}
use Rattle.comp_worlds.specs.declared.world.ComponentWorld.{ComponentWorld}
use Rattle.root_imports.proofs.Growth.{tables_kept}
use Rattle.root_imports.specs.Keeping.{Root, RootKept, RootMoved}
use Rattle.root_imports.specs.declared.met_types.MetTypes.{MetTypes}
use Rattle.root_imports.specs.RootScopes.{AreTablesRight, RootGrows}

module _ (w : ComponentWorld) where
  pub kept_none : (root : Root) → AreTablesRight w root.met root.instances root.items.defs root.maps → RootKept w root root
  kept_none root tables = record { world = refl; met = refl; instances = refl; extends = extends_none root.items; tables = tables }

  pub kept_typed : (old new : Root) → new.world ≡ old.world → new.met ≡ old.met → new.instances ≡ old.instances → RootGrows w old.items new.items → AreTablesRight w old.met new.instances new.items.defs new.maps → RootKept w old new
  kept_typed old new world met instances grows tables = record { world = world; met = met; instances = instances; extends = grows.extends; tables = tables }

  -- a further step that adds items alone
  pub kept_items : (old mid new : Root) → RootKept w old mid → new ≡ record mid { items = new.items } → Extends mid.items new.items → RootKept w old new
  kept_items old mid new h same g =
      let Kept : Root → Type 0 = λ r. RootKept w old (record r { items = new.items }) in
      let whole : RootKept w old (record mid { items = new.items }) = record {
        world = h.world;
        met = h.met;
        instances = h.instances;
        extends = extends_then old.items mid.items new.items h.extends g;
        tables = tables_kept w old.met mid.instances mid.items new.items mid.maps g h.tables;
      } in
      subst (RootKept w old) (sym same) whole

  pub kept_then : (a b c : Root) → RootKept w a b → RootKept w b c → RootKept w a c
  kept_then a b c g h = record {
    world = h.world ∙ g.world;
    met = h.met ∙ g.met;
    instances = h.instances ∙ g.instances;
    extends = extends_then a.items b.items c.items g.extends h.extends;
    tables = subst (λ l. AreTablesRight w l c.instances c.items.defs c.maps) g.met h.tables;
  }

  -- a step that changes the tables alone
  pub kept_tables : (old mid new : Root) → RootKept w old mid → new ≡ record mid { maps = new.maps } → AreTablesRight w old.met mid.instances mid.items.defs new.maps → RootKept w old new
  kept_tables old mid new h same tables =
      let Kept : Root → Type 0 = λ r. RootKept w old (record r { maps = new.maps }) in
      let whole : RootKept w old (record mid { maps = new.maps }) = record { world = h.world; met = h.met; instances = h.instances; extends = h.extends; tables = tables } in
      subst (RootKept w old) (sym same) whole

  -- a step that also changes which types are at hand
  pub moved_kept : (old new : Root) → RootKept w old new → RootMoved w old new
  moved_kept old new h = record {
    world = h.world;
    last = ap (λ (m : MetTypes). m.last) h.met;
    instances = h.instances;
    extends = h.extends;
    tables = subst (λ m. AreTablesRight w m new.instances new.items.defs new.maps) (sym h.met) h.tables;
  }

  pub moved_then : (a b c : Root) → RootMoved w a b → RootMoved w b c → RootMoved w a c
  moved_then a b c g h = record {
    world = h.world ∙ g.world;
    last = h.last ∙ g.last;
    instances = h.instances ∙ g.instances;
    extends = extends_then a.items b.items c.items g.extends h.extends;
    tables = h.tables;
  }

  -- a further step that adds items alone
  pub moved_items : (old mid new : Root) → RootMoved w old mid → new ≡ record mid { items = new.items } → Extends mid.items new.items → RootMoved w old new
  moved_items old mid new h same g =
      let whole : RootMoved w old (record mid { items = new.items }) = record {
        world = h.world;
        last = h.last;
        instances = h.instances;
        extends = extends_then old.items mid.items new.items h.extends g;
        tables = tables_kept w mid.met mid.instances mid.items new.items mid.maps g h.tables;
      } in
      subst (RootMoved w old) (sym same) whole

  -- a step that changes the tables alone, and which types are at hand
  pub moved_tables : (old mid new : Root) → RootMoved w old mid → new ≡ record mid { maps = new.maps; met = new.met } → new.met.last ≡ mid.met.last → AreTablesRight w new.met mid.instances mid.items.defs new.maps → RootMoved w old new
  moved_tables old mid new h same last tables =
      let whole : RootMoved w old (record mid { maps = new.maps; met = new.met }) = record { world = h.world; last = last ∙ h.last; instances = h.instances; extends = h.extends; tables = tables } in
      subst (RootMoved w old) (sym same) whole
