pub mod Numbers
pub mod Dna
pub mod Flags
