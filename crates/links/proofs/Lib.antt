mod CountedLinks
pub mod LinkEdits
pub mod LinkFinds
