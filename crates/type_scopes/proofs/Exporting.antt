-- Functions that are exported, one after the other.
use Rattle.std.proofs.Common.{◌≡◌, ℕ, true, false, if◌then◌else◌, is_some, List, [], ◌∷◌, ◌++◌, map, refl, sym, ap, subst, ◌∙◌, append_assoc, append-nil}
use Rattle.std.specs.Prelude.{Result, OnOk}
use Rattle.std.specs.Str.{bytes_eq}
use Rattle.std.specs.Map.{lookup}
use Rattle.std.specs.List.{AllZip, AllByRecursion}
use Rattle.std.proofs.lemmas.List.{map-append}
use Rattle.std.proofs.lemmas.List.Concat.{flat_map-cons}
use Rattle.std.proofs.lemmas.Grind.{flat_map-append}
use Rattle.comp_lists.proofs.Lists.{AllZip-weaker, AllByRecursion-front, AllByRecursion-back}
use Rattle.wit_data.specs.declared.ids.InterfaceId.{InterfaceId}
use Rattle.wit_data.specs.declared.ids.TypeId.{TypeId}
use Rattle.wit_data.specs.declared.types.TypeDef.{TypeDef}
use Rattle.wit_data.specs.declared.functions.Function.{Function}
use Rattle.comp_bytes.specs.declared.types.ExternName.{ExternName}
use Rattle.comp_bytes.specs.declared.types.Member.{Member}
use Rattle.comp_bytes.specs.declared.types.Member.TheVariants as members
use Rattle.comp_bytes.specs.declared.types.Description.TheVariants as descriptions
use Rattle.comp_trees.specs.Trees.{Resource, FunctionTree}
use Rattle.comp_trees.specs.WitTrees.{wit_function_tree}
use Rattle.comp_trees.specs.DefinedTrees.{TypeTree, OfFunctions}
use Rattle.wit_types.specs.Settings.{Setting}
use Rattle.comp_trees.specs.DefinedScopes.{Denotes}
use Rattle.wit_types.specs.Denoting.{Longer}
use Rattle.wit_types.proofs.Growing.{denotes_as, denotes_on}
use Rattle.comp_bytes.specs.ScopeNames.{member_export}
use Rattle.comp_trees.specs.Members.{Surroundings, member_trees}
use Rattle.type_scopes.specs.Exports.{IsExport, MembersExtend, MembersGrow, exports_of, type_exports, exported_type, function_exports, exported_function, export_behind, right_on}
use Rattle.type_scopes.specs.Offers.{Offer, placed}
use Rattle.type_scopes.specs.Interfaces.{TypesIn, FunctionIn, FunctionsIn, AddsFunctions, used_function, used_among}
use Rattle.type_scopes.proofs.Naming.{types_on, types_placed}
use Rattle.type_scopes.proofs.Passing.{none_functions, grow_extends}
use Rattle.type_scopes.proofs.Scoping.{members_more, trees_extend}

pub export_extends : (s : Surroundings) (a b : List Member) → MembersExtend s a b → (name : List ℕ) (index : ℕ) → IsExport a name index → IsExport b name index
export_extends s a b g name index h = export_behind a b g.more g.grown name index h

pub extends_none : (s : Surroundings) (ms : List Member) → MembersExtend s ms ms
extends_none s ms = record { more = []; grown = sym (append-nil ms); right = tt; types = refl }

pub extends_on : (s : Surroundings) (a b c : List Member) → MembersExtend s a b → MembersExtend s b c → MembersExtend s a c
extends_on s a b c g h =
    record {
      more = g.more ++ h.more;
      grown = h.grown ∙ (ap (λ m. m ++ h.more) g.grown ∙ append_assoc a g.more h.more);
      right = right_on s a b g.more h.more g.grown g.right h.right;
      types = flat_map-append exported_type g.more h.more ∙ (ap (λ es. es ++ type_exports h.more) g.types ∙ h.types);
    }

-- an export of a function of a type of the scope is right
pub extends_function : (s : Surroundings) (old ms new : List Member) (name : ExternName) (index : ℕ) (f : FunctionTree) → MembersGrow s old ms → new ≡ ms ++ members.Export name (descriptions.Func index) ∷ [] → Denotes (member_trees s [] ms) index (OfFunctions f) → MembersExtend s old new
extends_function s old ms new name index f g is d =
    extends_on s old ms new (grow_extends s old ms ms g refl) (record { more = members.Export name (descriptions.Func index) ∷ []; grown = is; right = (record { type = f; tree = d.tree }, tt); types = refl })

same_trees : (s : Surroundings) (ms new : List Member) (name : ExternName) (index : ℕ) → new ≡ ms ++ members.Export name (descriptions.Func index) ∷ [] → member_trees s [] new ≡ member_trees s [] ms
same_trees s ms new name index is = ap (member_trees s []) is ∙ members_more s [] ms (members.Export name (descriptions.Func index))

-- an export of a function, after members that export nothing
pub adds_function : (s : Surroundings) (origin : TypeId → Resource) (o : Offer) (here : InterfaceId) (passed : List TypeId) (types : List TypeDef) (old ms new : List Member) (name : ExternName) (index : ℕ) (f : Function) → o.types ≡ types → MembersGrow s old ms → new ≡ ms ++ members.Export name (descriptions.Func index) ∷ [] → name.name ≡ f.name → Denotes (member_trees s [] ms) index (OfFunctions (wit_function_tree origin types f)) → AddsFunctions (placed s origin o here passed) (member_trees s [] new) old new (f ∷ [])
adds_function s origin o here passed types old ms new name index f same g is named d =
    let more = members.Export name (descriptions.Func index) ∷ [] in
    let before : function_exports ms ≡ function_exports old =
    ap function_exports g.grown ∙ (flat_map-append exported_function old g.more ∙ (ap (λ es. function_exports old ++ es) (none_functions g.more g.none) ∙ append-nil (function_exports old))) in
    let names : exports_of ms ≡ exports_of old =
    ap exports_of g.grown ∙ (flat_map-append member_export old g.more ∙ (ap (λ es. exports_of old ++ es) g.none ∙ append-nil (exports_of old))) in
    record {
      exports = (name.name, index) ∷ [];
      added = ap function_exports is ∙ (flat_map-append exported_function ms more ∙ ap (λ es. es ++ (name.name, index) ∷ []) before);
      are = record {
        each = (
          record {
            name = named;
            denotes = denotes_as d (same_trees s ms new name index is) (ap (λ ts. OfFunctions (wit_function_tree origin ts f)) (sym same));
          },
          tt,
        );
      };
      names = ap exports_of is ∙ (flat_map-append member_export ms more ∙ (ap (λ es. es ++ name.name ∷ []) names ∙ ap (λ n. exports_of old ++ n ∷ []) named));
    }

pub adds_none : (t : Setting) (scope : List TypeTree) (ms : List Member) → AddsFunctions t scope ms ms []
adds_none t scope ms = record { exports = []; added = sym (append-nil (function_exports ms)); are = record { each = tt }; names = sym (append-nil (exports_of ms)) }

zipped : {A B : Type 0} (R : A → B → Type 0) (xs : List A) (ys : List B) (us : List A) (vs : List B) → AllZip R xs ys → AllZip R us vs → AllZip R (xs ++ us) (ys ++ vs)
zipped R [] [] us vs h k = k
zipped R (x ∷ xs) (y ∷ ys) us vs h k = (h.0, zipped R xs ys us vs h.1 k)
zipped R [] (y ∷ ys) us vs h k = absurd h
zipped R (x ∷ xs) [] us vs h k = absurd h

-- those that were exported so far
pub record FunctionsSoFar (t : Setting) (s : Surroundings) (used : List (List ℕ × Unit {0})) (first ms : List Member) (all rest : List (List ℕ × Function)) : Type 0 where
  pub done : List (List ℕ × Function)
  pub whole : done ++ rest ≡ all
  pub each : FunctionsIn t (member_trees s [] ms) (function_exports ms) (used_among used done)
  pub names : exports_of ms ≡ exports_of first ++ map (λ f. f.name) (used_among used done)
  pub extends : MembersExtend s first ms

one_used : (used : List (List ℕ × Unit {0})) (entry : List ℕ × Function) → used_among used (entry ∷ []) ≡ used_function used entry
one_used used entry = flat_map-cons (used_function used) entry [] ∙ append-nil (used_function used entry)

pub functions_start : (t : Setting) (s : Surroundings) (used : List (List ℕ × Unit {0})) (ms : List Member) (all : List (List ℕ × Function)) → function_exports ms ≡ [] → FunctionsSoFar t s used ms ms all all
functions_start t s used ms all none =
    record {
      done = [];
      whole = refl;
      each = subst (λ es. FunctionsIn t (member_trees s [] ms) es []) (sym none) (record { each = tt });
      names = sym (append-nil (exports_of ms));
      extends = extends_none s ms;
    }

function_on : (t : Setting) (old new : List TypeTree) (export : List ℕ × ℕ) (f : Function) → Longer old new → FunctionIn t old export f → FunctionIn t new export f
function_on t old new export f g h = record { name = h.name; denotes = denotes_on g h.denotes }

pub functions_step : (t : Setting) (s : Surroundings) (used : List (List ℕ × Unit {0})) (first ms new : List Member) (all : List (List ℕ × Function)) (entry : List ℕ × Function) (rest : List (List ℕ × Function)) → FunctionsSoFar t s used first ms all (entry ∷ rest) → MembersExtend s ms new → AddsFunctions t (member_trees s [] new) ms new (used_function used entry) → FunctionsSoFar t s used first new all rest
functions_step t s used first ms new all entry rest h g a =
    let fs = used_among used h.done in
    let name : Function → List ℕ = λ f. f.name in
    let was = member_trees s [] ms in
    let now = member_trees s [] new in
    let each : AllZip (FunctionIn t now) (function_exports ms ++ a.exports) (fs ++ used_function used entry) =
    zipped (FunctionIn t now) (function_exports ms) fs a.exports (used_function used entry)
    (AllZip-weaker {R = FunctionIn t was} {S = FunctionIn t now} (λ x y k. function_on t was now x y (trees_extend s ms new g) k) (function_exports ms) fs h.each.each) a.are.each in
    let more : used_among used (h.done ++ entry ∷ []) ≡ fs ++ used_function used entry =
    flat_map-append (used_function used) h.done (entry ∷ []) ∙ ap (λ gs. fs ++ gs) (one_used used entry) in
    record {
      done = h.done ++ entry ∷ [];
      whole = append_assoc h.done (entry ∷ []) rest ∙ h.whole;
      each = record {
        each = subst (λ es. AllZip (FunctionIn t now) es (used_among used (h.done ++ entry ∷ []))) (sym a.added)
            (subst (λ gs. AllZip (FunctionIn t now) (function_exports ms ++ a.exports) gs) (sym more) each);
      };
      names = a.names
          ∙ (ap (λ ns. ns ++ map name (used_function used entry)) h.names
          ∙ (append_assoc (exports_of first) (map name fs) (map name (used_function used entry)) ∙ ap (λ ns. exports_of first ++ ns) (sym (ap (map name) more ∙ map-append name fs (used_function used entry)))));
      extends = extends_on s first ms new h.extends g;
    }

pub functions_whole : (t : Setting) (s : Surroundings) (used : List (List ℕ × Unit {0})) (first ms : List Member) (all : List (List ℕ × Function)) → FunctionsSoFar t s used first ms all [] → FunctionsIn t (member_trees s [] ms) (function_exports ms) (used_among used all)
functions_whole t s used first ms all h = subst (λ es. FunctionsIn t (member_trees s [] ms) (function_exports ms) (used_among used es)) (sym (append-nil h.done) ∙ h.whole) h.each

pub functions_named : (t : Setting) (s : Surroundings) (used : List (List ℕ × Unit {0})) (first ms : List Member) (all : List (List ℕ × Function)) → FunctionsSoFar t s used first ms all [] → exports_of ms ≡ exports_of first ++ map (λ f. f.name) (used_among used all)
functions_named t s used first ms all h = subst (λ es. exports_of ms ≡ exports_of first ++ map (λ f. f.name) (used_among used es)) (sym (append-nil h.done) ∙ h.whole) h.names

-- what holds of the functions of an entry and of those behind it
pub of_entry : (P : Function → Type 0) (used : List (List ℕ × Unit {0})) (entry : List ℕ × Function) (rest : List (List ℕ × Function)) → AllByRecursion P (used_among used (entry ∷ rest)) → AllByRecursion P (used_function used entry) × AllByRecursion P (used_among used rest)
of_entry P used entry rest h =
    let apart = subst (λ fs. AllByRecursion P fs) (flat_map-cons (used_function used) entry rest) h in
    (AllByRecursion-front P (used_function used entry) (used_among used rest) apart, AllByRecursion-back P (used_function used entry) (used_among used rest) apart)

-- the function of an entry that is used, and that of one that isn't
pub used_yes : (used : List (List ℕ × Unit {0})) (name : List ℕ) (f : Function) → is_some (lookup (bytes_eq name) used) ≡ true → used_function used (name, f) ≡ f ∷ []
used_yes used name f e = ap (λ b. if b then f ∷ [] else []) e

pub used_no : (used : List (List ℕ × Unit {0})) (name : List ℕ) (f : Function) → is_some (lookup (bytes_eq name) used) ≡ false → used_function used (name, f) ≡ []
used_no used name f e = ap (λ b. if b then f ∷ [] else []) e

pub adds_if : {A E : Type 0} (r : Result A E) (t : Setting) (scope : List TypeTree) (old new : List Member) (fs gs : List Function) → gs ≡ fs → OnOk r (AddsFunctions t scope old new fs) → OnOk r (AddsFunctions t scope old new gs)
adds_if r t scope old new fs gs same h = subst (λ xs. OnOk r (AddsFunctions t scope old new xs)) (sym same) h

-- the types of an interface after its functions
pub types_later : (s : Surroundings) (origin : TypeId → Resource) (o : Offer) (here : InterfaceId) (passed : List TypeId) (ms new : List Member) (ids : List TypeId) → MembersExtend s ms new → TypesIn (placed s origin o here []) (member_trees s [] ms) (IsExport ms) ids → TypesIn (placed s origin o here passed) (member_trees s [] new) (IsExport new) ids
types_later s origin o here passed ms new ids g h =
    types_placed s origin o here [] passed (member_trees s [] new) (IsExport new) ids
    (types_on (placed s origin o here []) (member_trees s [] ms) (member_trees s [] new) (IsExport ms) (IsExport new) ids (trees_extend s ms new g) (export_extends s ms new g) h)
