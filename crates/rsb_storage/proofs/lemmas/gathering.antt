-- Lists of runs in order.
pub mod Filled
pub mod InOrder
