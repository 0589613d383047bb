pub mod Laying
pub mod Digits
