use Rattle.std.proofs.Common.{◌≡◌, ◌∙◌, ℕ, List, [], refl, sym, subst, IsTrue, IsSome}
use Rattle.std.specs.List.{AllByRecursion, IsDistinct}
use Rattle.std.specs.Map.{keys_of}
use Rattle.comp_lists.specs.Found.{found}
use Rattle.wit_data.specs.Keys.{is_same_key}
use Rattle.comp_links.specs.Roles.{is_used}
use Rattle.comp_terms.specs.Rules.{Grows, names_marked}
use Rattle.comp_items.proofs.Extending.{extends_then}
use Rattle.root_imports.specs.RootScopes.{AreTablesRight, ArePassed}
use Rattle.root_imports.specs.Imports.{IsNextItem, FindsImports}
use Rattle.wit_data.specs.declared.worlds.WorldKey.{WorldKey}
use Rattle.wit_data.specs.declared.worlds.WorldItem.{WorldItem}
use Rattle.comp_worlds.specs.WorldContents.{items_of, root_function}
use Rattle.root_imports.proofs.Importing.{ImportsSoFar, imports_start, imports_step, next_item, imports_found}
use Rattle.root_imports.proofs.functions.RootScope+ComponentWorld.import_items.Goals as goal

pub loop-key-init : goal.loop-key-init
loop-key-init c =
    let w = c.args.self.now.world.now in
    let old = c.args.self.now.items in
    let items : c.into_iter-key-iterator.result ≡ (items_of w).imports = c.into_iter-key-iterator.ensures.into_iter_gives ∙ c.iter-key-items.ensures.rest ∙ c.requires.items in
    let none : c.new-functions.result ≡ [] = c.new-functions.ensures in (
      tt,
      tt,
      refl,
      refl,
      c.requires.tables,
      subst (λ (fs : List (List ℕ × ℕ)). ImportsSoFar w old old fs c.into_iter-key-iterator.result) (sym none)
          (subst (λ (es : List (WorldKey × WorldItem)). ImportsSoFar w old old [] es) (sym items) (imports_start w old c.requires.types)),
      refl,
    )

pub import_function_item-requires-clause-next : goal.import_function_item-requires-clause-next
import_function_item-requires-clause-next c =
    let w = c.args.self.now.world.now in
    let apart : IsDistinct is_same_key (keys_of (items_of w).imports) = subst (λ es. IsDistinct is_same_key (keys_of es)) c.requires.items c.iter-key-items.ensures.unique in
    subst (λ x. IsNextItem x.now c.loop-key.self.items.defs (c.in-Some.key.now, c.in-Some.item.now)) (sym c.loop-key.invariant.2)
    (next_item w c.args.self.now.items c.loop-key.self.items c.loop-key.functions (c.in-Some.key.now, c.in-Some.item.now) c.next.new.self c.requires.valid apart (subst (λ (es : List (WorldKey × WorldItem)). ImportsSoFar c.args.self.now.world.now c.args.self.now.items c.loop-key.self.items c.loop-key.functions es) c.in-Some.ensures.steps c.loop-key.invariant.5))

pub import_function_item-requires-clause-passed : goal.import_function_item-requires-clause-passed
import_function_item-requires-clause-passed c =
    subst (λ x. ArePassed x.now c.loop-key.self.met) (sym c.loop-key.invariant.2) (subst (λ n. ArePassed c.args.self.now.world.now n) (sym c.loop-key.invariant.3) c.requires.passed)

pub import_function_item-requires-clause-tables : goal.import_function_item-requires-clause-tables
import_function_item-requires-clause-tables c =
    subst (λ x. AreTablesRight x.now c.loop-key.self.met c.loop-key.self.instances c.loop-key.self.items.defs c.loop-key.self.maps) (sym c.loop-key.invariant.2)
    (subst (λ n. AreTablesRight c.args.self.now.world.now n c.loop-key.self.instances c.loop-key.self.items.defs c.loop-key.self.maps) (sym c.loop-key.invariant.3) c.loop-key.invariant.4)

pub loop-key-preserved : goal.loop-key-preserved
loop-key-preserved c =
    let w = c.args.self.now.world.now in
    let e : WorldKey × WorldItem = (c.in-Some.key.now, c.in-Some.item.now) in
    let same = c.loop-key.invariant.2 in
    let count = c.loop-key.invariant.3 in
    let of = c.in_ok-import_function_item.ensures in
    let mid = c.loop-key.self.items in
    let new = c.import_function_item.new.self in
    let fs = c.import_function_item.new.functions in (
      tt,
      tt,
      of.world ∙ same,
      of.met ∙ count,
      subst (λ n. AreTablesRight c.args.self.now.world.now n new.instances new.items.defs new.maps) count (subst (λ x. AreTablesRight x.now c.loop-key.self.met new.instances new.items.defs new.maps) same of.tables),
      imports_step w c.args.self.now.items mid new.items c.loop-key.functions fs e c.next.new.self (subst (λ (es : List (WorldKey × WorldItem)). ImportsSoFar c.args.self.now.world.now c.args.self.now.items c.loop-key.self.items c.loop-key.functions es) c.in-Some.ensures.steps c.loop-key.invariant.5) of.extends (subst (λ x. Grows x.now mid.defs new.items.defs (names_marked x.now (root_function e))) same of.grows)
          (subst (λ x. FindsImports x.now new.items.defs fs) same of.imports) of.finds (subst (λ x. AllByRecursion (λ name. IsTrue (is_used x.now name) → IsSome (found name fs)) (root_function e)) same of.found),
      of.instances ∙ c.loop-key.invariant.6,
    )

pub returns-clause-found : goal.returns-clause-found
returns-clause-found c =
    imports_found c.args.self.now.world.now c.args.self.now.items c.loop-key.self.items c.loop-key.functions c.requires.valid
    (subst (λ (es : List (WorldKey × WorldItem)). ImportsSoFar c.args.self.now.world.now c.args.self.now.items c.loop-key.self.items c.loop-key.functions es) c.in-None.ensures.steps.0 c.loop-key.invariant.5)

pub returns-in_err-import_function_item-clause-extends : goal.returns-in_err-import_function_item-clause-extends
returns-in_err-import_function_item-clause-extends c = extends_then c.args.self.now.items c.loop-key.self.items c.import_function_item.new.self.items c.loop-key.invariant.5.extends c.import_function_item.ensures.extends
