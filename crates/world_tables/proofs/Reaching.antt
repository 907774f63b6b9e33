-- Marks on types say which types of imported interfaces are live.
use Rattle.std.proofs.Common.{◌≡◌, ◌∙◌, ap, refl, ℕ, Bool, false, List, [], ◌∷◌, map, get_or, subst}
use Rattle.std.specs.List.{flat_map}
use Rattle.wit_data.specs.Live.{is_live, named_types}
use Rattle.wit_data.specs.Marks.{AreLive}
use Rattle.wit_data.specs.declared.ids.InterfaceId.{InterfaceId}
use Rattle.wit_data.specs.declared.ids.TypeId.{TypeId}
use Rattle.wit_data.specs.declared.resolve.Resolve.{Resolve}
use Rattle.wit_data.specs.declared.types.Type.{«Type» as Ty}
use Rattle.wit_data.specs.declared.worlds.World.{World}
use Rattle.wit_data.specs.declared.worlds.WorldItem.{WorldItem}
use Rattle.wit_data.specs.declared.worlds.WorldItem.TheVariants as items
use Rattle.wit_data.proofs.Marking.{filter_same}
use Rattle.comp_roles.specs.CoreImports.{CoreImport}
use Rattle.world_values.specs.Mentions.{same_interface, live_entry, live_type_imports, used_types}
use Rattle.world_values.specs.Tables.{with_all}
use Rattle.world_tables.proofs.Using.{same_flat}

same_entry : (p q : ℕ → Bool) (r : Resolve) → ((n : ℕ) → p n ≡ q n) → (i : WorldItem) → live_entry p r i ≡ live_entry q r i
same_entry p q r same (items.Interface id) = ap (λ ts. (id, ts) ∷ []) (filter_same (λ t. p t.index) (λ t. q t.index) (map (λ e. e.1) (named_types r id)) (λ t. same t.index))
same_entry p q r same (items.Function f) = refl
same_entry p q r same (items.NamedType id) = refl

-- what marks say of imported interfaces
pub live_are : (imports : List CoreImport) (r : Resolve) (w : World) (given : List Ty) (marks : List Bool) (table : List (InterfaceId × List TypeId)) → given ≡ used_types imports r w
    → AreLive r.types given marks → table ≡ with_all same_interface [] (flat_map (λ e. live_entry (λ n. get_or marks n false) r e.1) w.imports) → table ≡ live_type_imports imports r w
live_are imports r w given marks table same found is =
    let live : AreLive r.types (used_types imports r w) marks = subst (λ g. AreLive r.types g marks) same found in
    is ∙ ap (with_all same_interface []) (same_flat (λ e. live_entry (λ n. get_or marks n false) r e.1) (λ e. live_entry (is_live r.types (used_types imports r w)) r e.1) (λ e. same_entry (λ n. get_or marks n false) (is_live r.types (used_types imports r w)) r live.each e.1) w.imports)
