use Rattle.std.proofs.Common.{rules, ◌≡◌, ◌≢◌, [], subst, sym}
use Rattle.std.specs.List.{flat_map}
use Rattle.comp_items.proofs.Remembering.{longer}
use Rattle.comp_links.specs.Lists.{needed_types}
use Rattle.comp_terms.specs.Rules.{Grows, import_marked}
use Rattle.comp_lists.specs.Tables.{with_first}
use Rattle.wit_data.specs.contracts.ids.InterfaceIdPartialEq.TheImpl as same_id
use Rattle.comp_worlds.specs.declared.world.ComponentWorld.{ComponentWorld}
use Rattle.comp_imports.specs.Names.{naming_of}
use Rattle.root_imports.specs.declared.root_scope.RootScope.{RootScope}
use Rattle.root_imports.specs.Growing.{FindsInterfaces-kept, Grows-none}
use Rattle.root_imports.specs.Interfaces.{FindsInterfaces}
use Rattle.comp_imports.proofs.InterfaceLoop.{entry_is, entry_unused, finds_added, some_needed, still_added, there_added, unneeded}
use Rattle.comp_imports.proofs.interfaces.import_interface.Goals as goal

pub returns-then-is_unneeded-clause-grows : goal.returns-then-is_unneeded-clause-grows
returns-then-is_unneeded-clause-grows c =
    let w = c.args.root.now.world.now in
    let none : (needed_types w c.args.interface ≡ []) × (c.in_ok-used.used ≡ []) = search rules in
    subst (λ l. Grows w c.args.root.now.items.defs c.args.root.now.items.defs (flat_map (import_marked (naming_of c.args.names.now) w) l)) (sym (entry_unused w c.args.key.now c.args.interface (unneeded w c.args.interface c.in_ok-used.used c.in_ok-used.ensures.used none.0 none.1)))
    (Grows-none w c.args.root.now.items.defs)

pub returns-then-is_unneeded-clause-found : goal.returns-then-is_unneeded-clause-found
returns-then-is_unneeded-clause-found c =
    let w = c.args.root.now.world.now in
    let none : (needed_types w c.args.interface ≡ []) × (c.in_ok-used.used ≡ []) = search rules in
    λ some. absurd (some (unneeded w c.args.interface c.in_ok-used.used c.in_ok-used.ensures.used none.0 none.1))

pub import_instance-requires-clause-some : goal.import_instance-requires-clause-some
import_instance-requires-clause-some c =
    let w = c.args.root.now.world.now in
    let some : needed_types w c.args.interface ≡ [] → c.in_ok-used.used ≢ [] = search rules in
    some_needed w c.args.interface c.in_ok-used.used c.in_ok-used.ensures.used some

pub returns-clause-grows : goal.returns-clause-grows
returns-clause-grows c =
    let w = c.args.root.now.world.now in
    let some : needed_types w c.args.interface ≡ [] → c.in_ok-used.used ≢ [] = search rules in
    subst (λ l. Grows w c.args.root.now.items.defs c.import_instance.new.root.items.defs (flat_map (import_marked (naming_of c.args.names.now) w) l))
    (sym (entry_is w c.args.key.now c.args.interface (some_needed w c.args.interface c.in_ok-used.used c.in_ok-used.ensures.used some))) c.in_ok-instance.ensures.grows

pub returns-clause-finds : goal.returns-clause-finds
returns-clause-finds c =
    let old = c.args.root.now.instances in
    let added : c.insert_if_absent.new.self ≡ with_first same_id.eq-value.it old c.args.interface c.in_ok-instance.instance =
    subst (λ (r : RootScope ComponentWorld). c.insert_if_absent.new.self ≡ with_first same_id.eq-value.it r.instances c.args.interface c.in_ok-instance.instance) c.in_ok-instance.ensures.same c.in_ok-insert_if_absent.ensures.ok in
    let w = c.args.root.now.world.now in
    let mid = c.import_instance.new.root in
    let before : FindsInterfaces w mid.items.defs old = FindsInterfaces-kept (longer c.in_ok-instance.ensures.extends) c.requires.finds in
    finds_added old c.insert_if_absent.new.self c.args.interface c.in_ok-instance.instance added before c.in_ok-instance.ensures.imported

pub returns-clause-still : goal.returns-clause-still
returns-clause-still c =
    let old = c.args.root.now.instances in
    let added : c.insert_if_absent.new.self ≡ with_first same_id.eq-value.it old c.args.interface c.in_ok-instance.instance =
    subst (λ (r : RootScope ComponentWorld). c.insert_if_absent.new.self ≡ with_first same_id.eq-value.it r.instances c.args.interface c.in_ok-instance.instance) c.in_ok-instance.ensures.same c.in_ok-insert_if_absent.ensures.ok in
    still_added old c.insert_if_absent.new.self c.args.interface c.in_ok-instance.instance added

pub returns-clause-found : goal.returns-clause-found
returns-clause-found c =
    let old = c.args.root.now.instances in
    let added : c.insert_if_absent.new.self ≡ with_first same_id.eq-value.it old c.args.interface c.in_ok-instance.instance =
    subst (λ (r : RootScope ComponentWorld). c.insert_if_absent.new.self ≡ with_first same_id.eq-value.it r.instances c.args.interface c.in_ok-instance.instance) c.in_ok-instance.ensures.same c.in_ok-insert_if_absent.ensures.ok in
    λ some. there_added old c.insert_if_absent.new.self c.args.interface c.in_ok-instance.instance added
