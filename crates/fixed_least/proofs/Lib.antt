mod HoldLemmas
mod ExactLemmas
mod SlotLemmas
mod ListLemmas
mod ProgramLemmas
