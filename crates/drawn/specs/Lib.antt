-- What the helpers of drawing small logs answer.
pub mod Drawing
