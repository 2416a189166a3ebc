pub mod PointLemmas
pub mod FadeLemmas
pub mod ProducerLemmas
pub mod StreamLemmas
pub mod FrameSamples
mod CarryingSamples
mod DescribedFrameSamples
mod DescribedOpeningSamples
pub mod OrderLemmas
pub mod PlaceLemmas
pub mod StepLemmas
pub mod WholeLemmas
pub mod WholeSteps
pub mod ConsumerLemmas
pub mod ServedLemmas
pub mod ExpiryLemmas
pub mod ScratchSteps
pub mod EqLemmas
pub mod NewestSteps
pub mod LimitSteps
pub mod RateSteps
pub mod OnceLemmas
mod NewestSamples
mod LimitSamples
mod Class3Samples
mod Samples
mod DescribedPathSamples
