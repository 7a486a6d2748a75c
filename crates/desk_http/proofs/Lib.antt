mod Acting
mod Keeping
mod Stopping
