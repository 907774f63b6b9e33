-- What an intrinsic is made of (component model, binary format: `canon`): its name, which has no
-- index and no option; the type that it is of, if it has one; and its options.
use Rattle.std.specs.Prelude.{ℕ, List, [], ◌∷◌, Option, Some, None}
use Rattle.comp_bytes.specs.declared.canon.CanonicalOption.{CanonicalOption}
use Rattle.comp_bytes.specs.declared.canon.CanonicalOption.TheVariants as canonical
use Rattle.comp_bytes.specs.declared.canon.Intrinsic.{Intrinsic}
use Rattle.comp_bytes.specs.declared.canon.Intrinsic.TheVariants as intrinsics
use Rattle.comp_bytes.specs.declared.types.ComponentValType.{ComponentValType}
use Rattle.comp_bytes.specs.declared.types.ComponentValType.TheVariants as values

pub record Parts : Type 0 where
  pub name : Intrinsic
  pub operand : Option ComponentValType
  pub options : List CanonicalOption

-- one without operand and options, one of a type, and one with options too
abbrev pub plain_parts : Intrinsic → Parts
plain_parts name = record { name = name; operand = None; options = [] }

abbrev pub parts_of_type : Intrinsic → ℕ → Parts
parts_of_type name index = record { name = name; operand = Some (values.Defined index); options = [] }

abbrev pub parts_with : Intrinsic → Option ComponentValType → List CanonicalOption → Parts
parts_with name operand options = record { name = name; operand = operand; options = options }

-- the memory of a wait is an option
abbrev pub parts_of : Intrinsic → Parts
parts_of (intrinsics.ResourceNew type) = parts_of_type (intrinsics.ResourceNew 0) type
parts_of (intrinsics.ResourceDrop type) = parts_of_type (intrinsics.ResourceDrop 0) type
parts_of (intrinsics.ResourceRep type) = parts_of_type (intrinsics.ResourceRep 0) type
parts_of (intrinsics.TaskReturn result options) = parts_with (intrinsics.TaskReturn None []) result options
parts_of (intrinsics.StreamNew type) = parts_of_type (intrinsics.StreamNew 0) type
parts_of (intrinsics.StreamRead type options) = parts_with (intrinsics.StreamRead 0 []) (Some (values.Defined type)) options
parts_of (intrinsics.StreamWrite type options) = parts_with (intrinsics.StreamWrite 0 []) (Some (values.Defined type)) options
parts_of (intrinsics.StreamCancelRead type is_async) = parts_of_type (intrinsics.StreamCancelRead 0 is_async) type
parts_of (intrinsics.StreamCancelWrite type is_async) = parts_of_type (intrinsics.StreamCancelWrite 0 is_async) type
parts_of (intrinsics.StreamDropReadable type) = parts_of_type (intrinsics.StreamDropReadable 0) type
parts_of (intrinsics.StreamDropWritable type) = parts_of_type (intrinsics.StreamDropWritable 0) type
parts_of (intrinsics.FutureNew type) = parts_of_type (intrinsics.FutureNew 0) type
parts_of (intrinsics.FutureRead type options) = parts_with (intrinsics.FutureRead 0 []) (Some (values.Defined type)) options
parts_of (intrinsics.FutureWrite type options) = parts_with (intrinsics.FutureWrite 0 []) (Some (values.Defined type)) options
parts_of (intrinsics.FutureCancelRead type is_async) = parts_of_type (intrinsics.FutureCancelRead 0 is_async) type
parts_of (intrinsics.FutureCancelWrite type is_async) = parts_of_type (intrinsics.FutureCancelWrite 0 is_async) type
parts_of (intrinsics.FutureDropReadable type) = parts_of_type (intrinsics.FutureDropReadable 0) type
parts_of (intrinsics.FutureDropWritable type) = parts_of_type (intrinsics.FutureDropWritable 0) type
parts_of (intrinsics.ErrorContextNew options) = parts_with (intrinsics.ErrorContextNew []) None options
parts_of (intrinsics.ErrorContextDebugMessage options) = parts_with (intrinsics.ErrorContextDebugMessage []) None options
parts_of (intrinsics.WaitableSetWait memory) = parts_with (intrinsics.WaitableSetWait 0) None (canonical.Memory memory ∷ [])
parts_of (intrinsics.WaitableSetPoll memory) = parts_with (intrinsics.WaitableSetPoll 0) None (canonical.Memory memory ∷ [])
parts_of i = plain_parts i
