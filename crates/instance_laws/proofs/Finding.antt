-- The exports of an instance, by their names: what is found is what the members say.
use Rattle.std.proofs.Common.{◌≡◌, ◌∙◌, ℕ, ◌<◌, Bool, true, false, List, [], ◌∷◌, ◌++◌, length, map, filter, get_or, append-nil, append_assoc, refl, sym, ap, subst, Some, cond, if◌then◌else◌, ◌||◌}
use Rattle.std.proofs.Math.ListN.{get_or-append}
use Rattle.std.proofs.lemmas.Slice.Eq.{bytes_eq-Decides}
use Rattle.std.specs.Str.{bytes_eq}
use Rattle.std.specs.List.{AllZip, list_any}
use Rattle.comp_lists.specs.Found.{found}
use Rattle.comp_bytes.specs.Spaces.{is_space}
use Rattle.comp_bytes.specs.declared.space.Space.{Space}
use Rattle.comp_bytes.specs.declared.space.Space.TheVariants as spaces
use Rattle.comp_bytes.specs.declared.types.ExternName.{ExternName}
use Rattle.comp_bytes.specs.declared.types.Description.TheVariants as descriptions
use Rattle.comp_bytes.specs.declared.types.Member.{Member}
use Rattle.comp_bytes.specs.declared.types.Member.TheVariants as members
use Rattle.comp_trees.specs.Trees.{ResourceAt}
use Rattle.comp_trees.specs.DefinedTrees.{TypeTree, OfValues, OfOthers}
use Rattle.comp_trees.specs.Members.{Surroundings, AreMembersRight, makes_type, member_tree, with_member, member_trees, exports_name, type_exported, function_exported}
use Rattle.comp_runs.specs.Store.{Export, Function, TypeItem}
use Rattle.comp_runs.specs.Machine.{export_in, export_of}
use Rattle.instance_laws.specs.Instantiated.{IsHeldAs, member_exports, IsImportedFunction, IsExportedAs, FindsFunction, FindsType}
use Rattle.instance_laws.proofs.Held.{index_of_functions}

-- ---- the type indices of the members before have the same meaning after all members

with_member_grows : (b : Bool) (scope : List TypeTree) (tree : TypeTree) → (more : List TypeTree) × ((if b then scope ++ tree ∷ [] else scope) ≡ scope ++ more)
with_member_grows true scope tree = (tree ∷ [], refl)
with_member_grows false scope tree = ([], sym (append-nil scope))

member_trees_grow : (s : Surroundings) (scope : List TypeTree) (all : List Member) → (more : List TypeTree) × (member_trees s scope all ≡ scope ++ more)
member_trees_grow s scope [] = ([], sym (append-nil scope))
member_trees_grow s scope (x ∷ xs) =
    let one : (more : List TypeTree) × (with_member s scope x ≡ scope ++ more) = with_member_grows (makes_type x) scope (member_tree s scope x) in
    let rest : (more : List TypeTree) × (member_trees s (with_member s scope x) xs ≡ with_member s scope x ++ more) = member_trees_grow s (with_member s scope x) xs in
    (one.0 ++ rest.0, rest.1 ∙ (ap (λ l. l ++ rest.0) one.1 ∙ append_assoc scope one.0 rest.0))

tree_after : (s : Surroundings) (scope : List TypeTree) (all : List Member) (index : ℕ) → index < length scope → get_or scope index OfOthers ≡ get_or (member_trees s scope all) index OfOthers
tree_after s scope all index l =
    let g : (more : List TypeTree) × (member_trees s scope all ≡ scope ++ more) = member_trees_grow s scope all in
    sym (ap (λ trees. get_or trees index OfOthers) g.1 ∙ get_or-append scope g.0 OfOthers index l)

-- ---- an export at the front

is_first : (space : Space) (name : List ℕ) (e : Export) (es : List Export) → export_in space e ≡ true → bytes_eq name e.name ≡ true → export_of space name (e ∷ es) ≡ Some e
is_first space name e es p q =
    ap (λ b. found name (map (λ (e : Export). (e.name, e)) (if b then e ∷ filter (export_in space) es else filter (export_in space) es))) p
    ∙ ap (λ b. cond b (Some e) (export_of space name es)) q

other_name : (space : Space) (name : List ℕ) (e : Export) (es : List Export) → export_in space e ≡ true → bytes_eq name e.name ≡ false → export_of space name (e ∷ es) ≡ export_of space name es
other_name space name e es p q =
    ap (λ b. found name (map (λ (e : Export). (e.name, e)) (if b then e ∷ filter (export_in space) es else filter (export_in space) es))) p
    ∙ ap (λ b. cond b (Some e) (export_of space name es)) q

other_space : (space : Space) (name : List ℕ) (e : Export) (es : List Export) → export_in space e ≡ false → export_of space name (e ∷ es) ≡ export_of space name es
other_space space name e es p = ap (λ b. found name (map (λ (e : Export). (e.name, e)) (if b then e ∷ filter (export_in space) es else filter (export_in space) es))) p

in_space : (space : Space) (e : Export) (other : Space) (b : Bool) → e.space ≡ other → is_space space (Some other) ≡ b → export_in space e ≡ b
in_space space e other b same h = ap (λ (x : Space). is_space space (Some x)) same ∙ h

-- a test that fails for the first holds for another
among_rest : (b rest : Bool) → b ≡ false → (b || rest) ≡ true → rest ≡ true
among_rest b rest e h = sym (ap (λ c. c || rest) e) ∙ h

-- the scopes after an export of a type that equals one, and of a resource
abbrev after_equal : List TypeTree → ℕ → List TypeTree
after_equal scope index = scope ++ get_or scope index OfOthers ∷ []

abbrev after_resource : Surroundings → List TypeTree → ExternName → List TypeTree
after_resource s scope n = scope ++ OfValues (ResourceAt (s.resource n.name)) ∷ []

module _ (number : ℕ) (types : List TypeItem) (functions : List Function) (s : Surroundings) (name : List ℕ) where
  later_function : (e : Export) (es : List Export) (tree : TypeTree) → export_of spaces.Func name (e ∷ es) ≡ export_of spaces.Func name es → FindsFunction number functions es name tree →
      FindsFunction number functions (e ∷ es) name tree
  later_function e es tree same h = record { export = h.export; found = same ∙ h.found; space = h.space; is = h.is }

  later_type : (e : Export) (es : List Export) (tree : TypeTree) → export_of spaces.Type name (e ∷ es) ≡ export_of spaces.Type name es → FindsType types es name tree →
      FindsType types (e ∷ es) name tree
  later_type e es tree same h = record { export = h.export; found = same ∙ h.found; space = h.space; is = h.is }

  -- The export of a function is found, and its type is the one that the members say.
  pub finds_function : (scope : List TypeTree) (all : List Member) (es : List Export) → AreMembersRight s scope all → AllZip (IsExportedAs number types functions) (member_exports s scope all) es →
      list_any (exports_name spaces.Func name) all ≡ true → FindsFunction number functions es name (function_exported (member_trees s scope all) name all)
  finds_function scope [] es r h there = cc
  finds_function scope (members.Type t ∷ xs) es r h there = finds_function (with_member s scope (members.Type t)) xs es r.1 h there
  finds_function scope (members.Alias a ∷ xs) es r h there = finds_function (with_member s scope (members.Alias a)) xs es r.1 h there
  finds_function scope (members.Export n d ∷ xs) [] r h there = absurd h
  finds_function scope (members.Export n (descriptions.TypeEqual index) ∷ xs) (e ∷ es) r h there =
      later_function e es (function_exported (member_trees s scope (members.Export n (descriptions.TypeEqual index) ∷ xs)) name xs)
      (other_space spaces.Func name e es (in_space spaces.Func e spaces.Type false h.0.space refl))
      (finds_function (with_member s scope (members.Export n (descriptions.TypeEqual index))) xs es r.1 h.1 there)
  finds_function scope (members.Export n descriptions.SubResource ∷ xs) (e ∷ es) r h there =
      later_function e es (function_exported (member_trees s scope (members.Export n descriptions.SubResource ∷ xs)) name xs)
      (other_space spaces.Func name e es (in_space spaces.Func e spaces.Type false h.0.space refl))
      (finds_function (with_member s scope (members.Export n descriptions.SubResource)) xs es r.1 h.1 there)
  finds_function scope (members.Export n (descriptions.Instance index) ∷ xs) (e ∷ es) r h there = absurd r.0
  finds_function scope (members.Export n (descriptions.Func index) ∷ xs) (e ∷ es) r h there =
      by (λ l. finds_function scope xs es r.1 h.1 l) (bytes_eq name n.name) refl
    where
      by : (list_any (exports_name spaces.Func name) xs ≡ true → FindsFunction number functions es name (function_exported (member_trees s scope xs) name xs)) → (b : Bool) → bytes_eq name n.name ≡ b →
          FindsFunction number functions (e ∷ es) name (if bytes_eq name n.name then get_or (member_trees s scope xs) index OfOthers else function_exported (member_trees s scope xs) name xs)
      by rest true p = record {
        export = e;
        found = is_first spaces.Func name e es (in_space spaces.Func e spaces.Func true h.0.space refl) (ap (bytes_eq name) h.0.named ∙ p);
        space = h.0.space;
        is = rw p
            (subst (λ l. IsImportedFunction number functions l (get_or (member_trees s scope xs) index OfOthers) e.address) (sym ((bytes_eq-Decides name n.name).0 p))
            (subst (λ tree. IsImportedFunction number functions n.name tree e.address) (tree_after s scope xs index (index_of_functions scope index r.0.type r.0.tree)) h.0.is));
      }
      by rest false p = rw p
          (later_function e es (function_exported (member_trees s scope xs) name xs)
          (other_name spaces.Func name e es (in_space spaces.Func e spaces.Func true h.0.space refl) (ap (bytes_eq name) h.0.named ∙ p))
          (rest (among_rest (bytes_eq name n.name) (list_any (exports_name spaces.Func name) xs) p there)))

  -- The export of a type is found, and it denotes what the members say.
  pub finds_type : (scope : List TypeTree) (all : List Member) (es : List Export) → AreMembersRight s scope all → AllZip (IsExportedAs number types functions) (member_exports s scope all) es →
      list_any (exports_name spaces.Type name) all ≡ true → FindsType types es name (type_exported s (member_trees s scope all) name all)
  finds_type scope [] es r h there = cc
  finds_type scope (members.Type t ∷ xs) es r h there = finds_type (with_member s scope (members.Type t)) xs es r.1 h there
  finds_type scope (members.Alias a ∷ xs) es r h there = finds_type (with_member s scope (members.Alias a)) xs es r.1 h there
  finds_type scope (members.Export n d ∷ xs) [] r h there = absurd h
  finds_type scope (members.Export n (descriptions.Func index) ∷ xs) (e ∷ es) r h there =
      later_type e es (type_exported s (member_trees s scope xs) name xs)
      (other_space spaces.Type name e es (in_space spaces.Type e spaces.Func false h.0.space refl))
      (finds_type scope xs es r.1 h.1 there)
  finds_type scope (members.Export n (descriptions.Instance index) ∷ xs) (e ∷ es) r h there = absurd r.0
  finds_type scope (members.Export n (descriptions.TypeEqual index) ∷ xs) (e ∷ es) r h there =
      by (λ l. finds_type (after_equal scope index) xs es r.1 h.1 l) (bytes_eq name n.name) refl
    where
      by : (list_any (exports_name spaces.Type name) xs ≡ true → FindsType types es name (type_exported s (member_trees s (after_equal scope index) xs) name xs)) → (b : Bool) → bytes_eq name n.name ≡ b →
          FindsType types (e ∷ es) name (if bytes_eq name n.name then get_or (member_trees s (after_equal scope index) xs) index OfOthers else type_exported s (member_trees s (after_equal scope index) xs) name xs)
      by rest true p = record {
        export = e;
        found = is_first spaces.Type name e es (in_space spaces.Type e spaces.Type true h.0.space refl) (ap (bytes_eq name) h.0.named ∙ p);
        space = h.0.space;
        is = rw p (subst (λ tree. IsHeldAs types tree e.address) (tree_after s scope (members.Export n (descriptions.TypeEqual index) ∷ xs) index r.0) h.0.is);
      }
      by rest false p = rw p
          (later_type e es (type_exported s (member_trees s (after_equal scope index) xs) name xs)
          (other_name spaces.Type name e es (in_space spaces.Type e spaces.Type true h.0.space refl) (ap (bytes_eq name) h.0.named ∙ p))
          (rest (among_rest (bytes_eq name n.name) (list_any (exports_name spaces.Type name) xs) p there)))
  finds_type scope (members.Export n descriptions.SubResource ∷ xs) (e ∷ es) r h there =
      by (λ l. finds_type (after_resource s scope n) xs es r.1 h.1 l) (bytes_eq name n.name) refl
    where
      by : (list_any (exports_name spaces.Type name) xs ≡ true → FindsType types es name (type_exported s (member_trees s (after_resource s scope n) xs) name xs)) → (b : Bool) → bytes_eq name n.name ≡ b →
          FindsType types (e ∷ es) name (if bytes_eq name n.name then OfValues (ResourceAt (s.resource name)) else type_exported s (member_trees s (after_resource s scope n) xs) name xs)
      by rest true p = record {
        export = e;
        found = is_first spaces.Type name e es (in_space spaces.Type e spaces.Type true h.0.space refl) (ap (bytes_eq name) h.0.named ∙ p);
        space = h.0.space;
        is = rw p (subst (λ (l : List ℕ). IsHeldAs types (OfValues (ResourceAt (s.resource l))) e.address) (sym ((bytes_eq-Decides name n.name).0 p)) h.0.is);
      }
      by rest false p = rw p
          (later_type e es (type_exported s (member_trees s (after_resource s scope n) xs) name xs)
          (other_name spaces.Type name e es (in_space spaces.Type e spaces.Type true h.0.space refl) (ap (bytes_eq name) h.0.named ∙ p))
          (rest (among_rest (bytes_eq name n.name) (list_any (exports_name spaces.Type name) xs) p there)))
