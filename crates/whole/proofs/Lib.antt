pub mod Calls
pub mod Moments
pub mod Remembered
pub mod NamedMoments
pub mod InWords
pub mod Groupings
pub mod Plans
pub mod Prefixes
pub mod Looks
pub mod Moves
pub mod Counts
pub mod HitShares
pub mod Splits
pub mod Insertions
pub mod Allowances
mod RightHand
pub mod Whole
pub mod Table
