pub mod EachLimit
pub mod ForEver
pub mod ForEverOnNames
pub mod Keys
pub mod Kinds
pub mod Later
pub mod OnNames
