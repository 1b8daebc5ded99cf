-- EdgeLaws: what the exported functions are made of. Lent: a history whose state is handed on in lent bytes. Held: which bytes hold a state.
pub mod EdgeLaws
pub mod Lent
pub mod Held
