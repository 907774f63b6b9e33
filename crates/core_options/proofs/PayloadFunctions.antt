-- Functions of streams and futures: each is what the link table names, of the type at an index.
use Rattle.std.proofs.Common.{◌≡◌, ◌∙◌, ℕ, Bool, List, [], Option, Some, IsSome, refl, ap, subst, sym}
use Rattle.std.specs.Prelude.{option_map}
use Rattle.std.specs.List.{AllByRecursion, AllZip}
use Rattle.std.proofs.lemmas.Option.{none-some, same_Some}
use Rattle.built_ins.proofs.PayloadParts.{call_parts}
use Rattle.built_ins.specs.Payloads.{PayloadCall, named_call, called_payload, intrinsic_called}
use Rattle.comp_bytes.specs.Parts.{Parts}
use Rattle.comp_bytes.specs.declared.canon.CanonicalOption.{CanonicalOption}
use Rattle.comp_bytes.specs.declared.canon.Intrinsic.{Intrinsic}
use Rattle.comp_bytes.specs.declared.canon.Intrinsic.TheVariants as intrinsics
use Rattle.comp_bytes.specs.declared.def.Def.{Def}
use Rattle.comp_bytes.specs.declared.types.ComponentValType.TheVariants as values
use Rattle.comp_inventories.specs.Inventories.{scope_of}
use Rattle.comp_links.specs.Lists.{resource_of}
use Rattle.comp_links.specs.Links.{link_of, lower_options}
use Rattle.comp_links.specs.Targets.{UserModule as User, TargetOption, payload_operand, operand_tree, BuiltIn}
use Rattle.comp_terms.specs.Generated.{access_role}
use Rattle.comp_roles.specs.declared.imports.Import.{Import}
use Rattle.comp_roles.specs.declared.imports.Import.TheVariants as imports
use Rattle.comp_roles.specs.declared.payloads.PayloadFuncKind.{PayloadFuncKind}
use Rattle.comp_roles.specs.declared.payloads.PayloadFuncKind.TheVariants as ends
use Rattle.comp_roles.specs.declared.payloads.PayloadInfo.{PayloadInfo}
use Rattle.comp_roles.specs.declared.payloads.PayloadType.{PayloadType}
use Rattle.comp_roles.specs.declared.payloads.PayloadType.TheVariants as payloads
use Rattle.comp_terms.specs.Planned.{payload_tree}
use Rattle.comp_terms.specs.Rules.{IsIntrinsicRight, IsOptionRight}
use Rattle.comp_terms.specs.Terms.{TermOption, IsOption, IsBuiltIn}
use Rattle.comp_terms.specs.Terms as terms
use Rattle.comp_trees.specs.DefinedScopes.{Denotes}
use Rattle.comp_trees.specs.DefinedTrees.{OfValues}
use Rattle.comp_trees.specs.Operands.{operand_in, IsOperand}
use Rattle.comp_trees.specs.Trees.{Tree}
use Rattle.comp_worlds.specs.declared.world.ComponentWorld.{ComponentWorld}
use Rattle.core_options.proofs.MemoryFunctions.{Made}
use Rattle.core_options.specs.MainOptions.{NameOptions, IsPayloadFunction, IsAccess, access_name, access_intrinsic}

-- the type at its index is known
pub payload_right : (ds : List Def) (type : ℕ) (role : Import) (i : Intrinsic) → intrinsic_called type role ≡ Some i → IsSome (operand_in (scope_of ds) (Some (values.Defined type))) → IsIntrinsicRight ds i
payload_right ds type (imports.StreamNew q) i made known = subst (IsIntrinsicRight ds) (same_Some (intrinsics.StreamNew type) i made) (record { operand = known; options = tt })
payload_right ds type (imports.StreamCancelRead q is_async) i made known = subst (IsIntrinsicRight ds) (same_Some (intrinsics.StreamCancelRead type is_async) i made) (record { operand = known; options = tt })
payload_right ds type (imports.StreamCancelWrite q is_async) i made known = subst (IsIntrinsicRight ds) (same_Some (intrinsics.StreamCancelWrite type is_async) i made) (record { operand = known; options = tt })
payload_right ds type (imports.StreamDropReadable q) i made known = subst (IsIntrinsicRight ds) (same_Some (intrinsics.StreamDropReadable type) i made) (record { operand = known; options = tt })
payload_right ds type (imports.StreamDropWritable q) i made known = subst (IsIntrinsicRight ds) (same_Some (intrinsics.StreamDropWritable type) i made) (record { operand = known; options = tt })
payload_right ds type (imports.FutureNew q) i made known = subst (IsIntrinsicRight ds) (same_Some (intrinsics.FutureNew type) i made) (record { operand = known; options = tt })
payload_right ds type (imports.FutureCancelRead q is_async) i made known = subst (IsIntrinsicRight ds) (same_Some (intrinsics.FutureCancelRead type is_async) i made) (record { operand = known; options = tt })
payload_right ds type (imports.FutureCancelWrite q is_async) i made known = subst (IsIntrinsicRight ds) (same_Some (intrinsics.FutureCancelWrite type is_async) i made) (record { operand = known; options = tt })
payload_right ds type (imports.FutureDropReadable q) i made known = subst (IsIntrinsicRight ds) (same_Some (intrinsics.FutureDropReadable type) i made) (record { operand = known; options = tt })
payload_right ds type (imports.FutureDropWritable q) i made known = subst (IsIntrinsicRight ds) (same_Some (intrinsics.FutureDropWritable type) i made) (record { operand = known; options = tt })
payload_right ds type role i made known = absurd (none-some i made)

-- it is the function of its name, of what its type denotes
pub payload_made : (old new : List Def) (index type : ℕ) (role : Import) (i : Intrinsic) → intrinsic_called type role ≡ Some i → Made old new index i → (c : PayloadCall) (tree : Tree) → named_call role ≡ Some c → Denotes (scope_of old) type (OfValues tree) →
    IsBuiltIn new index c.intrinsic (Some tree) []
payload_made old new index type role i called made c tree named denotes =
    subst (λ (p : Parts). (operand : Option Tree) (written : List TermOption) → IsOperand (scope_of old) p.operand operand → AllZip (IsOption old) p.options written → IsBuiltIn new index p.name operand written)
    (call_parts type role c i named called) made (Some tree) [] denotes tt

-- what a stream or a future is
payload_is : (w : ComponentWorld) (ty : PayloadType) → Some (payload_tree w ty) ≡ operand_tree (resource_of w) w.resolve.types (payload_operand ty)
payload_is w (payloads.Typed id name) = refl
payload_is w payloads.UnitStream = refl
payload_is w payloads.UnitFuture = refl

-- such a function of the stream or the future is what the link table names
pub payload_term : (w : ComponentWorld) (new : List Def) (index : ℕ) (role : Import) (p : PayloadInfo) → called_payload role ≡ Some p → (c : PayloadCall) → named_call role ≡ Some c → IsBuiltIn new index c.intrinsic (Some (payload_tree w p.ty)) [] → IsPayloadFunction w new c index
payload_term w new index role p called c named built =
    let same : c.info ≡ p = same_Some c.info p (ap (option_map (λ (x : PayloadCall). x.info)) (sym named) ∙ called) in
    let own : IsBuiltIn new index c.intrinsic (Some (payload_tree w c.info.ty)) [] = subst (λ (q : PayloadInfo). IsBuiltIn new index c.intrinsic (Some (payload_tree w q.ty)) []) (sym same) built in
    record { term = terms.BuiltIn c.intrinsic (Some (payload_tree w c.info.ty)) []; is = own; asked = (refl, payload_is w c.info.ty, tt) }

-- ---- reads and writes

-- one is right where its type is known, and its options are
pub access_right : (ds : List Def) (kind : PayloadFuncKind) (type : ℕ) (options : List CanonicalOption) → IsSome (operand_in (scope_of ds) (Some (values.Defined type))) → AllByRecursion (IsOptionRight ds) options → IsIntrinsicRight ds (access_intrinsic kind type options)
access_right ds ends.FutureRead type options known right = record { operand = known; options = right }
access_right ds ends.FutureWrite type options known right = record { operand = known; options = right }
access_right ds ends.StreamRead type options known right = record { operand = known; options = right }
access_right ds ends.StreamWrite type options known right = record { operand = known; options = right }

-- it is the function of its name, of what its type denotes, with its options
access_made : (old new : List Def) (index type : ℕ) (kind : PayloadFuncKind) (options : List CanonicalOption) → Made old new index (access_intrinsic kind type options) → (tree : Tree) (written : List TermOption) → Denotes (scope_of old) type (OfValues tree) → AllZip (IsOption old) options written →
    IsBuiltIn new index (access_name kind) (Some tree) written
access_made old new index type ends.FutureRead options made tree written denotes are = made (Some tree) written denotes are
access_made old new index type ends.FutureWrite options made tree written denotes are = made (Some tree) written denotes are
access_made old new index type ends.StreamRead options made tree written denotes are = made (Some tree) written denotes are
access_made old new index type ends.StreamWrite options made tree written denotes are = made (Some tree) written denotes are

-- it is what the link table names
pub access_term : (w : ComponentWorld) (old new : List Def) (kind : PayloadFuncKind) (ty : PayloadType) (type index : ℕ) (options : List CanonicalOption) (wanted : List TargetOption) → Denotes (scope_of old) type (OfValues (payload_tree w ty)) → NameOptions w old options wanted →
    Made old new index (access_intrinsic kind type options) → IsAccess w new kind ty wanted index
access_term w old new kind ty type index options wanted denotes named made = record {
  term = terms.BuiltIn (access_name kind) (Some (payload_tree w ty)) named.terms;
  is = access_made old new index type kind options made (payload_tree w ty) named.terms denotes named.are;
  asked = (refl, payload_is w ty, named.asked);
}

-- what the link table names for an import that is one
pub access_linked : (w : ComponentWorld) (of : User) (p : PayloadInfo) (kind : PayloadFuncKind) (is_async : Bool) →
    link_of w of (access_role p kind is_async) ≡ BuiltIn (access_name kind) (payload_operand p.ty) (lower_options w of (access_role p kind is_async))
access_linked w of p ends.FutureRead is_async = refl
access_linked w of p ends.FutureWrite is_async = refl
access_linked w of p ends.StreamRead is_async = refl
access_linked w of p ends.StreamWrite is_async = refl
