pub mod Addresses
pub mod Counts
pub mod Entries
pub mod Events
pub mod Firing
pub mod Ids
mod Numbers
pub mod Lists
pub mod Moves
pub mod Settings
mod Finds
mod Connects
mod ItemCases
mod Failures
mod Shapes
mod Effects
pub mod OrderNeeds
mod Chosen
mod Admitted
mod Sends
mod Speaks
mod Falls
mod OpenEnds
mod Lingers
mod Heats
mod Cooling
mod Classes
mod Ordering
mod Governing
mod GroupsApart
mod Locals
mod Orders
mod PeersApart
mod Owing
mod Ordinary
mod OwnAddress
pub mod Keeping
mod WholeMoves
mod Trims
pub mod Remains
mod Handshakes
mod Talks
pub mod Streams
pub mod WholeEvents
pub mod WholeRuns
mod Promotions
mod Picks
pub mod Ties
mod Rises
mod Arrivals
pub mod PeerLaws
mod Lawful
mod KnownWanted
mod Clock
mod Spending
mod Wanted
mod Telling
mod ToldMoves
mod Chain
mod Due
mod CarriedOut
mod Least
pub mod Moments
mod BackOff
mod Begun
mod Served
mod Silent
mod Goes
mod RootsAsked
mod PartMoves
pub mod PartEvents
mod Turned
mod Waits
mod WaitsOfParts
mod Pruning
mod Walk
mod Cases
mod Each
mod Books
pub mod Words
mod Items
