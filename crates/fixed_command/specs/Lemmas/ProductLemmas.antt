-- An input has one product.
pub use Rattle.line_engine.proofs.Public.{product_one}
