pub mod WithinBounds
pub mod SumOfVolumes
pub mod SumRecordByRecord
