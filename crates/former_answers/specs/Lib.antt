-- The former answers, and what changed. Read in this order.
pub mod Former
pub mod Changes
