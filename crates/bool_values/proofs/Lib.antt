pub mod HoldingLemmas
