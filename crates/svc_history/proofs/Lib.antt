mod Small
mod Recording
mod Tracing
