-- What other crates cite.
pub mod MagnitudeLaws
pub mod SpanLaws
