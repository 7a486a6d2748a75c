mod Tracing
mod Properties
mod Exact
