pub mod SliceSteps
pub mod BlockWriting
pub mod MbWriting
pub mod DataWriting
pub mod SliceMbs
