pub mod ExpressionSteps
