pub mod OffsetParts
pub mod PredictLogs
