-- Theorems on every translation, its horizon left open. Read in this order.
pub mod RuleByRule
pub mod Bounds
pub mod Tables
