mod Zips
mod Stores
mod BuiltIns
mod Kept
pub mod Plain
mod BaseRoles
mod BaseHeld
mod ModuleMarks
mod Given
mod Offering
mod Forms
mod GivenImports
mod GivenTypes
mod UserExports
mod Outcomes
mod FixupArguments
pub mod Steps
pub mod InstanceSteps
mod NestedSteps
pub mod Marks
mod Typed
pub mod Ordered
mod ImportedTypes
mod Served
mod NamedItem
pub mod Runs
mod WorkedApart
mod Worked
mod Crossed
mod WorkedShims
mod ShimsLinked
mod ShimsLink
mod ShimsComposed
mod WorkedAdapter
mod WorkedAdapterLinked
mod WorkedInstances
mod NotComposed
mod WorkedTypes
mod WorkedTypesLinked
mod WorkedLifts
mod WorkedDrops
mod WorkedInterfaceDrops
mod WorkedOuterTypes
mod OtherOuterType
mod WorkedSharedResource
mod WorkedTexts
mod WorkedTextsLinked
mod OtherTextOptions
mod WorkedNested
mod CrossedNested
mod WorkedNestedTypes
mod WorkedOwnResource
mod CrossedDestructors
mod WorkedHandles
mod WorkedUsers
mod WorkedGiven
mod CrossedMemories
mod OtherLists
mod OtherRuns
mod WorkedInitialize
mod WorkedBuiltIns
mod WorkedPayloads
mod WorkedCallbacks
mod WorkedCells
