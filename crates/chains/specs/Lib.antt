-- Chains: the head from which next leads to a callback.
pub mod Chains
