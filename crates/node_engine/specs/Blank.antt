-- What is left of an engine that gave up what it knew.
use Rattle.machine.specs.Machine.{Machine, start_of}
use Rattle.net_base.specs.Bounds.{usual}
use Rattle.net_base.specs.declared.address.Ip.TheVariants.{V4}

-- nothing has happened to a node with the usual settings and no address of its own
abbrev pub blank : Machine
blank = start_of (usual (record { ip = V4 0; port = 0 }))
