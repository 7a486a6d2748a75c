pub mod Passing
pub mod LvalSteps
pub mod LabelSteps
pub mod StmtSteps
pub mod CaseSteps
