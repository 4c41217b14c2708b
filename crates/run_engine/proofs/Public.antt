-- Lemmas for the proofs of dependent crates: how a machine works, one piece after the other.
pub use Rattle.run_engine.proofs.MachineLemmas.{feeds_after, goes_breaks, goes_more, goes_none, halts_after, halts_before}
pub use Rattle.run_engine.proofs.PutLemmas.{puts_both, puts_held, puts_none}
pub use Rattle.run_engine.proofs.PartLemmas.{run_of}
pub use Rattle.run_engine.proofs.PieceLemmas.{quiet_of}
pub use Rattle.run_engine.proofs.LinesRunLemmas.{lines_asked, lines_cost, lines_failures, lines_output, lines_prefix, lines_run, lines_too_long}
