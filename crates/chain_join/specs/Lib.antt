pub mod Triples
pub mod Chains
