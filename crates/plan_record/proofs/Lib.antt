pub mod RecordRead
pub mod Bytes
pub mod Digits
pub mod RoundTrips
pub mod RecordWritten
