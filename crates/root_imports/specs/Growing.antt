-- A list of definitions that grows at its end: earlier items are unchanged, and rules and landmarks add up. (These are
-- lemmas; they stand here since the scope of types at the root is said by them.)
use Rattle.std.proofs.Common.{◌≡◌, ◌∙◌, ℕ, List, [], ◌∷◌, ◌++◌, refl, sym, ap, subst, append_assoc, append-nil, inl, inr}
use Rattle.std.proofs.lemmas.List.Elements.{filter_map-append}
use Rattle.comp_bytes.specs.ItemIndices.{IsAt}
use Rattle.comp_bytes.specs.declared.def.Def.{Def}
use Rattle.comp_bytes.specs.declared.space.Space.{Space}
use Rattle.comp_builder.specs.Built.{Built}
use Rattle.comp_worlds.specs.declared.world.ComponentWorld.{ComponentWorld}
use Rattle.comp_terms.specs.Rules.{IsRight, RightAfter, Landmark, landmark, landmarks, Grows}
use Rattle.comp_items.specs.Items.{MayAdd}
use Rattle.comp_items.proofs.Extending.{extends_none, extends_then}
use Rattle.comp_items.proofs.Kept.{Longer, at-kept}
use Rattle.comp_lists.proofs.Lists.{AllByRecursion-weaker}
use Rattle.wit_data.specs.declared.ids.InterfaceId.{InterfaceId}
use Rattle.comp_items.proofs.Entries.{instance_entry-kept}
use Rattle.root_imports.specs.Interfaces.{AreInstancesKnown, AreInterfacesKnown, FindsExports, FindsInterfaces}
use Rattle.root_imports.specs.declared.met_types.MetTypes.{MetTypes}
use Rattle.root_imports.specs.RootScopes.{RootGrows}

RightAfter-append : (w : ComponentWorld) (old a b : List Def) → RightAfter w old a → RightAfter w (old ++ a) b → RightAfter w old (a ++ b)
RightAfter-append w old [] b h k = rw append-nil at k
RightAfter-append w old (d ∷ ds) b h k =
    (h.0, RightAfter-append w (old ++ d ∷ []) ds b h.1 (let P : List Def → Type 0 = λ l. RightAfter w l b in subst P (sym (append_assoc old (d ∷ []) ds)) k))

pub Grows-none : (w : ComponentWorld) (ds : List Def) → Grows w ds ds []
Grows-none w ds = record { more = []; extended = sym (append-nil ds); right = tt; marked = refl }

-- one definition more
pub Grows-by : {w : ComponentWorld} {old new : List Def} (d : Def) → new ≡ old ++ d ∷ [] → IsRight w old d → Grows w old new (landmarks (d ∷ []))
Grows-by {w} {old} {new} d appended h = record { more = d ∷ []; extended = appended; right = (h, tt); marked = refl }

-- one definition more, or an earlier one that serves
pub Grows-may : {w : ComponentWorld} {old new : List Def} (d : Def) → landmarks (d ∷ []) ≡ [] → MayAdd old new d → IsRight w old d → Grows w old new []
Grows-may {w} {old} {new} d unmarked (inl same) h = subst (λ l. Grows w old l []) (sym same) (Grows-none w old)
Grows-may {w} {old} {new} d unmarked (inr appended) h = subst (λ m. Grows w old new m) unmarked (Grows-by d appended h)

pub Grows-then : {w : ComponentWorld} {a b c : List Def} {m n : List Landmark} → Grows w a b m → Grows w b c n → Grows w a c (m ++ n)
Grows-then {w} {a} {b} {c} {m} {n} g h = record {
  more = g.more ++ h.more;
  extended = h.extended ∙ (ap (λ l. l ++ h.more) g.extended ∙ append_assoc a g.more h.more);
  right = RightAfter-append w a g.more h.more g.right (let P : List Def → Type 0 = λ l. RightAfter w l h.more in subst P g.extended h.right);
  marked = filter_map-append landmark g.more h.more ∙ (ap (λ l. l ++ landmarks h.more) g.marked ∙ ap (λ l. m ++ l) h.marked);
}

pub longer_by : {w : ComponentWorld} {old new : List Def} {m : List Landmark} → Grows w old new m → Longer old new
longer_by g = record { more = g.more; grown = g.extended }

-- earlier definitions keep their indexes
pub kept : {w : ComponentWorld} {old new : List Def} {m : List Landmark} → Grows w old new m →
    {space : Space} {i : ℕ} {d : Def} → IsAt old space i d → IsAt new space i d
kept g h = at-kept (longer_by g) h

-- ---- the root

pub root_same : (w : ComponentWorld) (b : Built) → RootGrows w b b
root_same w b = record { extends = extends_none b; grows = Grows-none w b.defs }

pub root_then : {w : ComponentWorld} (a b c : Built) → RootGrows w a b → RootGrows w b c → RootGrows w a c
root_then a b c g h = record { extends = extends_then a b c g.extends h.extends; grows = Grows-then g.grows h.grows }

-- of three states of a scope, each with a reference to what has the world, and three values that stay
pub root_on : {R N I J : Type 0} (world : R → ComponentWorld) (r s t : R) (k l m : N) (x y z : I) (o p q : J) (a b c : Built) → (s ≡ r) × (l ≡ k) × (y ≡ x) × RootGrows (world r) a b × (p ≡ o) → (t ≡ s) × (m ≡ l) × (z ≡ y) × RootGrows (world s) b c × (q ≡ p) →
    (t ≡ r) × (m ≡ k) × (z ≡ x) × RootGrows (world r) a c × (q ≡ o)
root_on world r s t k l m x y z o p q a b c g h = (h.0 ∙ g.0, h.1 ∙ g.1, h.2 ∙ g.2, root_then a b c g.3 (subst (λ w. RootGrows (world w) b c) g.0 h.3), h.4 ∙ g.4)

-- ---- instances of interfaces

-- what was imported is still there in a longer list
pub FindsInterfaces-kept : {w : ComponentWorld} {old new : List Def} {instances : List (InterfaceId × ℕ)} → Longer old new → FindsInterfaces w old instances → FindsInterfaces w new instances
FindsInterfaces-kept {w} {old} {new} {instances} g h = record {
  each = AllByRecursion-weaker
      (λ e i. record { key = i.key; number = i.number; outer = i.outer; members = i.members; stated = i.stated; imported = instance_entry-kept g e.1 _ i.imported; functions = i.functions; types = i.types })
      instances h.each;
}

pub instances_kept : {w : ComponentWorld} {old new : List Def} {instances : List (InterfaceId × ℕ)} → Longer old new → AreInstancesKnown w old instances → AreInstancesKnown w new instances
instances_kept g h = record { finds = FindsInterfaces-kept g h.finds; needed = h.needed; imported = h.imported; named = h.named }

FindsExports-kept : {w : ComponentWorld} {old new : List Def} {exported : List (InterfaceId × ℕ)} → Longer old new → FindsExports w old exported → FindsExports w new exported
FindsExports-kept {w} {old} {new} {exported} g h = record {
  each = AllByRecursion-weaker (λ e i. record { exported = i.exported; nested = instance_entry-kept g e.1 _ i.nested; types = i.types }) exported h.each;
}

pub known_kept : {w : ComponentWorld} {old new : List Def} {exported instances : List (InterfaceId × ℕ)} → Longer old new → AreInterfacesKnown w old exported instances → AreInterfacesKnown w new exported instances
known_kept g h = record { imports = instances_kept g h.imports; exports = FindsExports-kept g h.exports }

-- of two states of a scope, each with a reference to what has the world, the types that are at hand, and the instances
pub known_on : {R J : Type 0} (world : R → ComponentWorld) (r s : R) (k l : MetTypes) (x y : List (InterfaceId × ℕ)) (o p : J) (a b : Built) → (s ≡ r) × (l ≡ k) × (y ≡ x) × RootGrows (world r) a b × (p ≡ o) → AreInterfacesKnown (world r) a.defs k.exported x → AreInterfacesKnown (world s) b.defs l.exported y
known_on world r s k l x y o p a b g h =
    subst (λ t. AreInterfacesKnown (world t) b.defs l.exported y) (sym g.0)
    (subst (λ (m : MetTypes). AreInterfacesKnown (world r) b.defs m.exported y) (sym g.1)
    (subst (λ es. AreInterfacesKnown (world r) b.defs k.exported es) (sym g.2) (known_kept (longer_by g.3.grows) h)))
