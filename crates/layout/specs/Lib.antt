-- Layout: the state in lent bytes. Parts: the state that bytes hold, if they hold one.
pub mod Layout
pub mod Parts
