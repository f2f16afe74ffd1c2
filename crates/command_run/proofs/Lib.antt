mod CheckLemmas
mod CommandLemmas
mod DrillLemmas
mod DueLemmas
mod LineLemmas
mod ReplayLemmas
mod WordCounts
