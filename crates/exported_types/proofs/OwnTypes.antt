-- What the next type of an exported interface is made of is at hand; and what is known once all are defined.
use Rattle.std.proofs.Common.{◌≡◌, ◌∙◌, ◌<◌, ◌||◌, arith, ℕ, suc, Bool, true, false, true≢false, List, [], ◌∷◌, map, refl, sym, ap, subst, if◌then◌else◌}
use Rattle.std.specs.Prelude.{nat_lt}
use Rattle.std.specs.List.{AllByRecursion, list_any}
use Rattle.std.proofs.lemmas.Bool.{ltb-true, ltb-false}
use Rattle.comp_lists.specs.Tables.{with_first}
use Rattle.comp_lists.proofs.Lists.{AllByRecursion-weaker}
use Rattle.comp_bytes.specs.declared.def.Def.{Def}
use Rattle.wit_data.specs.Values.{kind_at}
use Rattle.wit_data.specs.contracts.ids.InterfaceIdPartialEq.TheImpl as same_id
use Rattle.wit_data.specs.declared.ids.InterfaceId.{InterfaceId}
use Rattle.wit_data.specs.declared.ids.TypeId.{TypeId}
use Rattle.wit_data.specs.declared.types.TypeDefKind.{TypeDefKind}
use Rattle.wit_data.specs.declared.types.TypeDefKind.TheVariants as kinds
use Rattle.wit_types.specs.Allowing.{is_resource}
use Rattle.world_values.specs.Mentions.{same_interface}
use Rattle.comp_worlds.specs.Encodable.{IsEncodable}
use Rattle.comp_worlds.specs.ExportOrder.{used_exports}
use Rattle.comp_worlds.specs.WorldContents.{interface_at, name_at}
use Rattle.comp_worlds.specs.declared.world.ComponentWorld.{ComponentWorld}
use Rattle.comp_links.specs.Targets.{UserModule}
use Rattle.comp_terms.specs.Rules.{ResourceDefined}
use Rattle.root_imports.specs.Met.{has_types, has_instance, is_met, is_named_of, IsSupplied}
use Rattle.root_imports.specs.declared.met_types.MetTypes.{MetTypes}
use Rattle.root_imports.proofs.Meeting.{found_more, named_whole, or_left, some_is}
use Rattle.exported_types.specs.ExportedTypes.{is_own, resource_mark, EntersTypes, IsNextListed}

kind_is : (k : TypeDefKind) → is_resource k ≡ true → k ≡ kinds.Resource
kind_is kinds.Resource e = refl
kind_is k e = absurd (true≢false (sym e))

pub supplied_next : (w : ComponentWorld) → IsEncodable w → (met : MetTypes) (ds : List Def) (of : UserModule) (interface : InterfaceId) (id : TypeId) → IsNextListed w met ds of interface id → is_own w id ≡ false → IsSupplied w met interface (suc id.index)
supplied_next w ok met ds of interface id h other = record {
  uses = AllByRecursion-weaker (λ (o : InterfaceId) e. or_left (has_types met o) (has_instance met o) e) (used_exports w interface) h.uses;
  resources = λ n less own resource. by n (nat_lt n id.index) refl less own resource;
}
  where
    by : (n : ℕ) (b : Bool) → nat_lt n id.index ≡ b → n < suc id.index → interface_at w.resolve.types n ≡ Rattle.std.specs.Prelude.Some interface → is_resource (kind_at w.resolve.types n) ≡ true → is_met w met (record { index = n }) ≡ true
    by n true e less own resource =
        let named : is_named_of w.resolve.types interface n ≡ true =
        named_whole w.resolve.types interface n (some_is (name_at w.resolve.types n) ((ok.types n (let l = h.usable.within in let k = ltb-true n id.index e in omega (arith, l, k))).named (kind_is (kind_at w.resolve.types n) resource))) own in
        h.order.earlier n (ltb-true n id.index e) (subst (λ i. is_named_of w.resolve.types i n ≡ true) (sym h.owner) named)
    by n false e less own resource =
        let last : n ≡ id.index = let m = ltb-false n id.index e in omega (arith, m, less) in
        absurd (true≢false (sym resource ∙ (ap (λ k. is_resource (kind_at w.resolve.types k)) last ∙ other)))

-- the landmark of a type
pub marked_own : (w : ComponentWorld) (id : TypeId) → is_own w id ≡ true → resource_mark w id ≡ ResourceDefined ∷ []
marked_own w id e = ap (λ b. map (λ t. ResourceDefined) (if b then id ∷ [] else [])) e

pub marked_other : (w : ComponentWorld) (id : TypeId) → is_own w id ≡ false → resource_mark w id ≡ []
marked_other w id e = ap (λ b. map (λ t. ResourceDefined) (if b then id ∷ [] else [])) e

-- one interface is entered
or_one : (b : Bool) → b ≡ (b || false)
or_one true = refl
or_one false = refl

pub enters_one : (old mid new : MetTypes) (id : InterfaceId) → mid ≡ record old { own = mid.own } → new.interfaces ≡ with_first same_id.eq-value.it mid.interfaces id tt → EntersTypes old new (id ∷ [])
enters_one old mid new id same is = record {
  each = λ other.
      found_more other id tt mid.interfaces new.interfaces is
      ∙ (ap (λ (m : MetTypes). has_types m other || same_interface other id) same ∙ ap (λ b. has_types old other || b) (or_one (same_interface other id)));
}
