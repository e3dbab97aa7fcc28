pub mod UIntPlusOne
