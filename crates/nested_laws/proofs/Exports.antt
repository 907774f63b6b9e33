-- The exports of an instance of a nested component, by their names: what is found is what its items say.
use Rattle.std.proofs.Common.{◌≡◌, ◌∙◌, ℕ, Bool, true, false, List, [], ◌∷◌, ◌++◌, map, filter, refl, sym, ap, subst, Some, cond, if◌then◌else◌, ◌||◌}
use Rattle.std.proofs.lemmas.Option.{none-some, same_Some}
use Rattle.std.proofs.lemmas.Slice.Eq.{bytes_eq-Decides}
use Rattle.std.specs.List.{list_any}
use Rattle.std.specs.Str.{bytes_eq}
use Rattle.comp_lists.specs.Found.{found}
use Rattle.comp_bytes.specs.Spaces.{is_space}
use Rattle.comp_bytes.specs.declared.space.Space.{Space}
use Rattle.comp_bytes.specs.declared.space.Space.TheVariants as spaces
use Rattle.comp_trees.specs.DefinedTrees.{TypeTree}
use Rattle.nested_terms.specs.Nested.{NestedFunction, NestedExport, ExportedFunction, ExportedType, function_named, type_named}
use Rattle.comp_runs.specs.Store.{Export, TypeItem}
use Rattle.comp_runs.specs.Machine.{export_in, export_of}
use Rattle.instance_laws.specs.Instantiated.{IsHeldAs, FindsType}
use Rattle.nested_laws.specs.NestedRuns.{IsArgument, AreNestedExports, is_function_named, FindsArgument}

-- ---- an export at the front

in_space : (space other : Space) (e : Export) (b : Bool) → e.space ≡ other → is_space space (Some other) ≡ b → export_in space e ≡ b
in_space space other e b same h = ap (λ (x : Space). is_space space (Some x)) same ∙ h

pub front : (space : Space) (name : List ℕ) (e : Export) (es : List Export) (b : Bool) → export_in space e ≡ true → bytes_eq name e.name ≡ b →
    export_of space name (e ∷ es) ≡ cond b (Some e) (export_of space name es)
front space name e es b p q =
    ap (λ b. found name (map (λ (e : Export). (e.name, e)) (if b then e ∷ filter (export_in space) es else filter (export_in space) es))) p
    ∙ ap (λ b. cond b (Some e) (export_of space name es)) q

pub other_space : (space : Space) (name : List ℕ) (e : Export) (es : List Export) → export_in space e ≡ false → export_of space name (e ∷ es) ≡ export_of space name es
other_space space name e es p = ap (λ b. found name (map (λ (e : Export). (e.name, e)) (if b then e ∷ filter (export_in space) es else filter (export_in space) es))) p

module _ (types : List TypeItem) (arguments : List Export) (name : List ℕ) where
  later_function : (e : Export) (es : List Export) (argument : List ℕ) → export_of spaces.Func name (e ∷ es) ≡ export_of spaces.Func name es → FindsArgument arguments es name argument →
      FindsArgument arguments (e ∷ es) name argument
  later_function e es argument same h = record { export = h.export; found = same ∙ h.found; space = h.space; is = h.is }

  later_type : (e : Export) (es : List Export) (tree : TypeTree) → export_of spaces.Type name (e ∷ es) ≡ export_of spaces.Type name es → FindsType types es name tree →
      FindsType types (e ∷ es) name tree
  later_type e es tree same h = record { export = h.export; found = same ∙ h.found; space = h.space; is = h.is }

  -- The first function that is exported under a name is found by the name, and is the argument that it is said to be.
  pub finds_argument : (xs : List NestedExport) (es : List Export) (function : NestedFunction) → AreNestedExports types arguments xs es → function_named name xs ≡ Some function →
      FindsArgument arguments es name function.argument
  finds_argument [] es function h k = absurd (none-some function k)
  finds_argument (x ∷ xs) [] function h k = absurd h
  finds_argument (ExportedType n tree ∷ xs) (e ∷ es) function h k =
      later_function e es function.argument (other_space spaces.Func name e es (in_space spaces.Func spaces.Type e false h.0.space refl)) (finds_argument xs es function h.1 k)
  finds_argument (ExportedFunction n f ∷ xs) (e ∷ es) function h k =
      by (λ l. finds_argument xs es function h.1 l) (bytes_eq name n) refl k
    where
      at_front : (b : Bool) → bytes_eq name n ≡ b → export_of spaces.Func name (e ∷ es) ≡ cond b (Some e) (export_of spaces.Func name es)
      at_front b p = front spaces.Func name e es b (in_space spaces.Func spaces.Func e true h.0.space refl) (ap (bytes_eq name) h.0.named ∙ p)

      by : (function_named name xs ≡ Some function → FindsArgument arguments es name function.argument) → (b : Bool) → bytes_eq name n ≡ b →
          (if b then Some f else function_named name xs) ≡ Some function → FindsArgument arguments (e ∷ es) name function.argument
      by rest true p l = record {
        export = e;
        found = at_front true p;
        space = h.0.space;
        is = subst (λ (x : NestedFunction). IsArgument arguments x.argument e.address) (same_Some f function l) h.0.is;
      }
      by rest false p l = later_function e es function.argument (at_front false p) (rest l)

  -- and so is the first type
  pub finds_nested_type : (xs : List NestedExport) (es : List Export) (tree : TypeTree) → AreNestedExports types arguments xs es → type_named name xs ≡ Some tree → FindsType types es name tree
  finds_nested_type [] es tree h k = absurd (none-some tree k)
  finds_nested_type (x ∷ xs) [] tree h k = absurd h
  finds_nested_type (ExportedFunction n f ∷ xs) (e ∷ es) tree h k =
      later_type e es tree (other_space spaces.Type name e es (in_space spaces.Type spaces.Func e false h.0.space refl)) (finds_nested_type xs es tree h.1 k)
  finds_nested_type (ExportedType n t ∷ xs) (e ∷ es) tree h k =
      by (λ l. finds_nested_type xs es tree h.1 l) (bytes_eq name n) refl k
    where
      at_front : (b : Bool) → bytes_eq name n ≡ b → export_of spaces.Type name (e ∷ es) ≡ cond b (Some e) (export_of spaces.Type name es)
      at_front b p = front spaces.Type name e es b (in_space spaces.Type spaces.Type e true h.0.space refl) (ap (bytes_eq name) h.0.named ∙ p)

      by : (type_named name xs ≡ Some tree → FindsType types es name tree) → (b : Bool) → bytes_eq name n ≡ b →
          (if b then Some t else type_named name xs) ≡ Some tree → FindsType types (e ∷ es) name tree
      by rest true p l = record {
        export = e;
        found = at_front true p;
        space = h.0.space;
        is = subst (λ (x : TypeTree). IsHeldAs types x e.address) (same_Some t tree l) h.0.is;
      }
      by rest false p l = later_type e es tree (at_front false p) (rest l)

-- a function of a name that no earlier one has is the first of its name
pub function_first : (name : List ℕ) (before after : List NestedExport) (function : NestedFunction) → list_any (is_function_named name) before ≡ false →
    function_named name (before ++ ExportedFunction name function ∷ after) ≡ Some function
function_first name [] after function h = ap (λ b. if b then Some function else function_named name after) ((bytes_eq-Decides name name).1 refl)
function_first name (ExportedType n tree ∷ before) after function h = function_first name before after function h
function_first name (ExportedFunction n f ∷ before) after function h =
    by (λ l. function_first name before after function l) (bytes_eq name n) h
  where
    by : (list_any (is_function_named name) before ≡ false → function_named name (before ++ ExportedFunction name function ∷ after) ≡ Some function) → (b : Bool) →
        (b || list_any (is_function_named name) before) ≡ false → (if b then Some f else function_named name (before ++ ExportedFunction name function ∷ after)) ≡ Some function
    by rest true l = cc
    by rest false l = rest l

-- the address of the argument of a name, where the argument is known
pub address_of_argument : (arguments : List Export) (name : List ℕ) (address : ℕ) (e : Export) → IsArgument arguments name address → export_of spaces.Func name arguments ≡ Some e → address ≡ e.address
address_of_argument arguments name address e h found = sym h.same ∙ ap (λ (x : Export). x.address) (same_Some h.export e (sym h.found ∙ found))
