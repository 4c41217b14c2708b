mod ElementLemmas
mod LiteralLemmas
mod NameLemmas
mod SlotLemmas
