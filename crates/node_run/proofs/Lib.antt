mod Judging
mod NodeLaws
mod NodeRuns
