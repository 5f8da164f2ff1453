pub mod AuditedMeter
