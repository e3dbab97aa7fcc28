pub mod Arrays
pub mod Cast
pub mod Filling
pub mod Fitting
pub mod NullableBoxForm
pub mod SetText
pub mod UnboxedForm
pub mod Walk
