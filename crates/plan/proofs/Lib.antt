mod Reading
mod Evaluating
