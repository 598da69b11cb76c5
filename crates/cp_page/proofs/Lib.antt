mod Leading
mod Searched
