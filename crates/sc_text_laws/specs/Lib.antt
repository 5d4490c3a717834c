pub mod Printable
pub mod PrintableRun
