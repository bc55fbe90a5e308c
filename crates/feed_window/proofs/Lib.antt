pub mod SpanNumber
