use Rattle.cbor_items.proofs.Resumes.{stays_seen}
use Rattle.cbor_items.proofs.law.places_stay_reached.Goals as goal

pub returns : goal.returns
returns c = stays_seen
