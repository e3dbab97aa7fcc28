pub mod SafeLength
pub mod UIntPlusOne
