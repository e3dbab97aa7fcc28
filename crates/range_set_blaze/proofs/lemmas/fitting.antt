pub mod FirstFits
