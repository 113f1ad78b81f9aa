pub mod HeaderWriting
pub mod MbParts
pub mod PpsWriting
pub mod SliceUnits
pub mod SpsWriting
pub mod Units
pub mod VuiWriting
pub mod WeightsWriting
