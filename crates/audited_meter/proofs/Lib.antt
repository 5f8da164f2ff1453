pub mod LedgerAgrees
pub mod AfterCall
