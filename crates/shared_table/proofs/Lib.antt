mod CallLemmas
mod LeaseLemmas
mod PlaceLemmas
mod ReplayLemmas
mod SeenLemmas
mod TearLemmas
mod WorkLemmas
