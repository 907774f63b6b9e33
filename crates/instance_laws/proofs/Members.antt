-- The members of a right instance type run, one after the other, and an import of it makes an instance.
use Rattle.std.proofs.Common.{◌≡◌, ◌∙◌, ℕ, ◌<◌, true, List, [], ◌∷◌, ◌++◌, length, get_or, append-nil, append_assoc, refl, sym, ap, subst, Some, None, if◌then◌else◌}
use Rattle.std.specs.List.{slice_get, AllZip}
use Rattle.std.specs.Option.{option_map}
use Rattle.comp_lists.proofs.Lists.{slice_get-end}
use Rattle.comp_bytes.specs.declared.space.Space.TheVariants as spaces
use Rattle.comp_bytes.specs.declared.types.ExternName.{ExternName}
use Rattle.comp_bytes.specs.declared.types.FuncTypeDef.{FuncTypeDef}
use Rattle.comp_bytes.specs.declared.types.DefinedType.{DefinedType}
use Rattle.comp_bytes.specs.declared.types.TypeDef.TheVariants as types
use Rattle.comp_bytes.specs.declared.types.Alias.TheVariants as aliases
use Rattle.comp_bytes.specs.declared.types.Description.TheVariants as descriptions
use Rattle.comp_bytes.specs.declared.types.Member.{Member}
use Rattle.comp_bytes.specs.declared.types.Member.TheVariants as members
use Rattle.core_runs.specs.Store.{Now}
use Rattle.comp_trees.specs.Trees.{Origin, ImportedAt, ResourceAt, is_known, is_known_function}
use Rattle.comp_trees.specs.DefinedTrees.{TypeTree, OfValues, OfFunctions, OfOthers, function_tree, defined_tree}
use Rattle.comp_trees.specs.Members.{IsOfFunctions, IsMemberRight, AreMembersRight, with_member, member_trees}
use Rattle.comp_inventories.specs.Inventories.{surroundings_of}
use Rattle.comp_runs.specs.Store.{Thing, Export, Function, Imported, TypeItem, TreeOf, ImportedResource, own_resources}
use Rattle.comp_runs.specs.Machine.{Machine, Next, new_instance}
use Rattle.comp_runs.specs.Instances.{type_scope, known_function, type_item, each_member}
use Rattle.instance_laws.specs.Instantiated.{IsHeldAs, AreHeldAs, IsScopeOf, MemberExport, exports_of_member, member_exports, IsExportedAs, Grown, grown, with_now, RunMembers, RunsInstanceType}
use Rattle.instance_laws.proofs.Held.{trees_of_held, keeps_more, keeps_grown, AreHeldAs-kept, exports_kept, AreHeldAs-push, AreHeldAs-beside, new_held, none_twice, IsTypeThere, type_there, index_of_functions, item_of_functions}

-- one member runs, and the rest is run from this machine
pub record RunsMember (number : ℕ) (outer scope : List TypeTree) (x : Member) (m : Machine) : Type 0 where
  pub growth : Grown number (with_member (surroundings_of number outer) scope x) (exports_of_member (surroundings_of number outer) scope x) m
  pub runs : (now : Now) (rest : List Member) (next : Next) → each_member number (x ∷ rest) (with_now m now) next ≡ each_member number rest (with_now (grown m growth) now) next

module _ (number : ℕ) {outer scope : List TypeTree} {m : Machine} (a : IsScopeOf outer scope m) where
  scoped : type_scope m ≡ scope
  scoped = trees_of_held m.store.types scope m.scope.items a.held

  -- the machine with a type that is made
  abbrev type_growth : (item : TypeItem) (tree : TypeTree) → own_resources (item ∷ []) ≡ 0 → IsHeldAs (m.store.types ++ item ∷ []) tree (length m.store.types) → Grown number (scope ++ tree ∷ []) [] m
  type_growth item tree none h = record {
    items = m.scope.items ++ record { space = spaces.Type; address = length m.store.types } ∷ [];
    types = m.store.types ++ item ∷ [];
    functions = m.store.functions;
    exports = m.scope.exports;
    more_types = item ∷ [];
    more_functions = [];
    more_exports = [];
    types_grew = refl;
    none_defined = none;
    functions_grew = sym (append-nil m.store.functions);
    exports_grew = sym (append-nil m.scope.exports);
    held = AreHeldAs-push (m.store.types ++ item ∷ []) scope m.scope.items tree (length m.store.types) (AreHeldAs-kept (keeps_more m.store.types (item ∷ [])) scope m.scope.items a.held) h;
    each = tt;
  }

  member_function_type : (f : FuncTypeDef) → is_known_function (function_tree scope f) ≡ true → RunsMember number outer scope (members.Type (types.Func f)) m
  member_function_type f h =
      let tree : TypeTree = OfFunctions (function_tree scope f) in
      let e : type_item (types.Func f) m ≡ Some (TreeOf tree) =
      ap (λ sc. option_map (λ tree. TreeOf tree) (known_function (function_tree sc f))) scoped
      ∙ ap (λ b. option_map (λ tree. TreeOf tree) (if b then Some tree else None)) h in
      record { growth = type_growth (TreeOf tree) tree refl (new_held m.store.types (TreeOf tree) tree refl); runs = λ now rest next. rw e refl }

  member_value_type : (t : DefinedType) → is_known (defined_tree scope t) ≡ true → RunsMember number outer scope (members.Type (types.Defined t)) m
  member_value_type t h =
      let tree : TypeTree = OfValues (defined_tree scope t) in
      let e : type_item (types.Defined t) m ≡ Some (TreeOf tree) =
      ap (λ sc. if is_known (defined_tree sc t) then Some (TreeOf (OfValues (defined_tree sc t))) else None) scoped
      ∙ ap (λ b. if b then Some (TreeOf tree) else None) h in
      record { growth = type_growth (TreeOf tree) tree refl (new_held m.store.types (TreeOf tree) tree refl); runs = λ now rest next. rw e refl }

  -- a type that is one of an outer scope
  member_outer : (index : ℕ) → index < length outer → RunsMember number outer scope (members.Alias (aliases.Outer 1 index)) m
  member_outer index l =
      let x : IsTypeThere m.store.types outer a.next_out index = type_there m.store.types outer a.next_out index a.outer_held l in
      record {
        growth = record {
          items = m.scope.items ++ record { space = spaces.Type; address = x.address } ∷ [];
          types = m.store.types;
          functions = m.store.functions;
          exports = m.scope.exports;
          more_types = [];
          more_functions = [];
          more_exports = [];
          types_grew = sym (append-nil m.store.types);
          none_defined = refl;
          functions_grew = sym (append-nil m.store.functions);
          exports_grew = sym (append-nil m.scope.exports);
          held = AreHeldAs-push m.store.types scope m.scope.items (get_or outer index OfOthers) x.address a.held x.is;
          each = tt;
        };
        runs = λ now rest next. rw (a.around, x.at) refl;
      }

  -- an export of a type that equals one is that one
  member_equal : (name : ExternName) (index : ℕ) → index < length scope → RunsMember number outer scope (members.Export name (descriptions.TypeEqual index)) m
  member_equal name index l =
      let x : IsTypeThere m.store.types scope m.scope.items index = type_there m.store.types scope m.scope.items index a.held l in
      let e : Export = record { space = spaces.Type; name = name.name; address = x.address } in
      record {
        growth = record {
          items = m.scope.items ++ record { space = spaces.Type; address = x.address } ∷ [];
          types = m.store.types;
          functions = m.store.functions;
          exports = m.scope.exports ++ e ∷ [];
          more_types = [];
          more_functions = [];
          more_exports = e ∷ [];
          types_grew = sym (append-nil m.store.types);
          none_defined = refl;
          functions_grew = sym (append-nil m.store.functions);
          exports_grew = refl;
          held = AreHeldAs-push m.store.types scope m.scope.items (get_or scope index OfOthers) x.address a.held x.is;
          each = (record { named = refl; space = refl; is = x.is }, tt);
        };
        runs = λ now rest next. rw x.at refl;
      }

  -- a resource is a new type, known by the import and its name
  member_resource : (name : ExternName) → RunsMember number outer scope (members.Export name descriptions.SubResource) m
  member_resource name =
      let origin : Origin = record { number = number; inner = Some name.name } in
      let item : TypeItem = ImportedResource origin in
      let tree : TypeTree = OfValues (ResourceAt (ImportedAt origin)) in
      let h : IsHeldAs (m.store.types ++ item ∷ []) tree (length m.store.types) = new_held m.store.types item tree refl in
      let e : Export = record { space = spaces.Type; name = name.name; address = length m.store.types } in
      record {
        growth = record {
          items = m.scope.items ++ record { space = spaces.Type; address = length m.store.types } ∷ [];
          types = m.store.types ++ item ∷ [];
          functions = m.store.functions;
          exports = m.scope.exports ++ e ∷ [];
          more_types = item ∷ [];
          more_functions = [];
          more_exports = e ∷ [];
          types_grew = refl;
          none_defined = refl;
          functions_grew = sym (append-nil m.store.functions);
          exports_grew = refl;
          held = AreHeldAs-push (m.store.types ++ item ∷ []) scope m.scope.items tree (length m.store.types) (AreHeldAs-kept (keeps_more m.store.types (item ∷ [])) scope m.scope.items a.held) h;
          each = (record { named = refl; space = refl; is = h }, tt);
        };
        runs = λ now rest next. refl;
      }

  -- a function is a new one, known by the import and its name
  member_function : (name : ExternName) (index : ℕ) → IsOfFunctions scope index → RunsMember number outer scope (members.Export name (descriptions.Func index)) m
  member_function name index f =
      let x : IsTypeThere m.store.types scope m.scope.items index = type_there m.store.types scope m.scope.items index a.held (index_of_functions scope index f.type f.tree) in
      let there : slice_get m.store.types x.address ≡ Some (TreeOf (OfFunctions f.type)) = x.is.present ∙ ap (λ (i : TypeItem). Some i) (item_of_functions x.is.item f.type (x.is.denotes ∙ f.tree)) in
      let function : Function = Imported (record { number = number; inner = Some name.name }) f.type in
      let e : Export = record { space = spaces.Func; name = name.name; address = length m.store.functions } in
      record {
        growth = record {
          items = m.scope.items ++ record { space = spaces.Func; address = length m.store.functions } ∷ [];
          types = m.store.types;
          functions = m.store.functions ++ function ∷ [];
          exports = m.scope.exports ++ e ∷ [];
          more_types = [];
          more_functions = function ∷ [];
          more_exports = e ∷ [];
          types_grew = sym (append-nil m.store.types);
          none_defined = refl;
          functions_grew = refl;
          exports_grew = refl;
          held = AreHeldAs-beside m.store.types scope m.scope.items (length m.store.functions) a.held;
          each = (record { named = refl; space = refl; is = record { type = f.type; present = slice_get-end m.store.functions function; denotes = sym f.tree } }, tt);
        };
        runs = λ now rest next. rw (x.at, there) refl;
      }

  -- a right member runs
  pub member_runs : (x : Member) → IsMemberRight (surroundings_of number outer) scope x → RunsMember number outer scope x m
  member_runs (members.Type (types.Func f)) h = member_function_type f h
  member_runs (members.Type (types.Defined t)) h = member_value_type t h
  member_runs (members.Alias (aliases.Outer count index)) h = subst (λ n. RunsMember number outer scope (members.Alias (aliases.Outer n index)) m) (sym h.0) (member_outer index h.1)
  member_runs (members.Export name (descriptions.TypeEqual index)) h = member_equal name index h
  member_runs (members.Export name (descriptions.Func index)) h = member_function name index h
  member_runs (members.Export name descriptions.SubResource) h = member_resource name
  member_runs _ h = absurd h

-- ---- one after the other

-- lists that are related, and those that follow
pub each_joined : {A B : Type 0} (R : A → B → Type 0) (xs more : List A) (ys others : List B) → AllZip R xs ys → AllZip R more others → AllZip R (xs ++ more) (ys ++ others)
each_joined R [] more [] others h k = k
each_joined R (x ∷ xs) more (y ∷ ys) others h k = (h.0, each_joined R xs more ys others h.1 k)
each_joined R [] more (y ∷ ys) others h k = absurd h
each_joined R (x ∷ xs) more [] others h k = absurd h

-- a list that grew twice
grew_twice : {X : Type 0} (old new newest more others : List X) → new ≡ old ++ more → newest ≡ new ++ others → newest ≡ old ++ (more ++ others)
grew_twice old new newest more others first second = second ∙ (ap (λ l. l ++ others) first ∙ append_assoc old more others)

-- the scope of the next member
pub scope_after : {number : ℕ} {outer scope trees : List TypeTree} {exported : List MemberExport} {m : Machine} → IsScopeOf outer scope m → (g : Grown number trees exported m) → IsScopeOf outer trees (grown m g)
scope_after {number} {outer} {scope} {trees} {exported} {m} a g = record {
  next_out = a.next_out;
  further = a.further;
  around = a.around;
  outer_held = AreHeldAs-kept (keeps_grown m.store.types g.types g.more_types g.types_grew) outer a.next_out a.outer_held;
  held = g.held;
}

-- what was exported stays
exported_after : (number : ℕ) (trees trees' : List TypeTree) (first second : List MemberExport) (m : Machine) (g : Grown number trees first m) (k : Grown number trees' second (grown m g)) →
    AllZip (IsExportedAs number k.types k.functions) (first ++ second) (g.more_exports ++ k.more_exports)
exported_after number trees trees' first second m g k =
    each_joined (IsExportedAs number k.types k.functions) first second g.more_exports k.more_exports
    (exports_kept number (keeps_grown g.types k.types k.more_types k.types_grew) (keeps_grown g.functions k.functions k.more_functions k.functions_grew) first g.more_exports g.each)
    k.each

abbrev grown_twice : (number : ℕ) (trees trees' : List TypeTree) (first second : List MemberExport) (m : Machine) (g : Grown number trees first m) (k : Grown number trees' second (grown m g)) →
    Grown number trees' (first ++ second) m
grown_twice number trees trees' first second m g k = record {
  items = k.items;
  types = k.types;
  functions = k.functions;
  exports = k.exports;
  more_types = g.more_types ++ k.more_types;
  more_functions = g.more_functions ++ k.more_functions;
  more_exports = g.more_exports ++ k.more_exports;
  types_grew = grew_twice m.store.types g.types k.types g.more_types k.more_types g.types_grew k.types_grew;
  none_defined = none_twice g.more_types k.more_types g.none_defined k.none_defined;
  functions_grew = grew_twice m.store.functions g.functions k.functions g.more_functions k.more_functions g.functions_grew k.functions_grew;
  exports_grew = grew_twice m.scope.exports g.exports k.exports g.more_exports k.more_exports g.exports_grew k.exports_grew;
  held = k.held;
  each = exported_after number trees trees' first second m g k;
}

abbrev not_grown : (number : ℕ) (trees : List TypeTree) (m : Machine) → AreHeldAs m.store.types trees m.scope.items → Grown number trees [] m
not_grown number trees m h = record {
  items = m.scope.items;
  types = m.store.types;
  functions = m.store.functions;
  exports = m.scope.exports;
  more_types = [];
  more_functions = [];
  more_exports = [];
  types_grew = sym (append-nil m.store.types);
  none_defined = refl;
  functions_grew = sym (append-nil m.store.functions);
  exports_grew = sym (append-nil m.scope.exports);
  held = h;
  each = tt;
}

-- The members of a right instance type run, whatever follows. What the type indices denote then is
-- what the members say, and each member that exports has made an export that is what it says.
pub members_run : (number : ℕ) (outer scope : List TypeTree) (all : List Member) (m : Machine) → IsScopeOf outer scope m → AreMembersRight (surroundings_of number outer) scope all →
    RunMembers number outer scope all m
members_run number outer scope [] m a h = record { growth = not_grown number scope m a.held; runs = λ now next. refl; scoped = trees_of_held m.store.types scope m.scope.items a.held }
members_run number outer scope (x ∷ xs) m a h =
    let one : RunsMember number outer scope x m = member_runs number a x h.0 in
    let trees : List TypeTree = with_member (surroundings_of number outer) scope x in
    let rest : RunMembers number outer trees xs (grown m one.growth) = members_run number outer trees xs (grown m one.growth) (scope_after a one.growth) h.1 in
    record {
      growth = grown_twice number trees (member_trees (surroundings_of number outer) trees xs) (exports_of_member (surroundings_of number outer) scope x) (member_exports (surroundings_of number outer) trees xs) m one.growth rest.growth;
      runs = λ now next. one.runs now xs next ∙ rest.runs now next;
      scoped = rest.scoped;
    }

-- An import of a right instance type runs: there is one instance more, with the exports that its members say.
pub instance_runs : (origin : Origin) (outer : List TypeTree) (all : List Member) (next_out : List Thing) (further : List (List Thing)) (m : Machine) →
    AreHeldAs m.store.types outer next_out → AreMembersRight (surroundings_of origin.number outer) [] all → RunsInstanceType origin outer all (next_out ∷ further) m
instance_runs origin outer all next_out further m outer_held h =
    let start : Machine = record m { scope = record { items = []; around = next_out ∷ further; exports = []; imports = 0 } } in
    let a : IsScopeOf outer [] start = record { next_out = next_out; further = further; around = refl; outer_held = outer_held; held = tt } in
    let r : RunMembers origin.number outer [] all start = members_run origin.number outer [] all start a h in
    let g = r.growth in
    record {
      types = g.types;
      functions = g.functions;
      exports = g.exports;
      more_types = g.more_types;
      more_functions = g.more_functions;
      types_grew = g.types_grew;
      none_defined = g.none_defined;
      functions_grew = g.functions_grew;
      each = subst (λ es. AllZip (IsExportedAs origin.number g.types g.functions) (member_exports (surroundings_of origin.number outer) [] all) es) (sym g.exports_grew) g.each;
      runs = λ now next. r.runs now (λ inner. next (length inner.store.instances) (with_instance_of inner));
    }
  where
    with_instance_of : Machine → Machine
    with_instance_of inner = new_instance inner.scope.exports (record inner { scope = m.scope })
