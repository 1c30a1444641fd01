mod Finding
mod Gathering
mod Congruent
pub mod Agreeing
pub mod Spending
pub mod Once
mod Ready
mod Carrying
mod AfterTurns
mod Walking
mod Unfoldings
mod ByHeads
mod NamedParts
mod Comparing
mod OneTurn
pub mod HeadSteps
mod AlikeParts
mod LedOn
mod ScopedEntries
pub mod Apartness
mod Sampled
pub mod Means
mod PartsConvert
pub mod Sameness
