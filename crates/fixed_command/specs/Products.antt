-- Answers that are one product.
pub use Rattle.line_engine.specs.Refusals.{IsProduct, IsRefusedProduct}
