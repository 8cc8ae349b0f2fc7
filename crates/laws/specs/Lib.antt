-- What every layer's definitions are made of: lists by their rule, splices, choosers, xor.
pub mod Choose
pub mod Lists
pub mod Loops
pub mod Xor
