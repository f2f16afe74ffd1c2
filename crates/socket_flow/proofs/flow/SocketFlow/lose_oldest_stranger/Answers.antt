use Rattle.std.proofs.Common.{◌≡◌, true, false, [], ◌++◌, Option, Some, None, refl, ap, ◌∙◌}
use Rattle.std.proofs.lemmas.Bool.{both_ways}
use Rattle.std.proofs.lemmas.List.{append-nil}
use Rattle.socket_flow.specs.Flow.{ending, endings}
use Rattle.socket_flow.specs.Table.{is_announcing, stage_of}
use Rattle.socket_flow.specs.declared.socket.Socket.{Socket}
use Rattle.socket_flow.specs.declared.socket.Stage.{Stage}
use Rattle.socket_flow.specs.declared.socket.Stage.TheVariants.{Dialing, Announcing, Waiting, Told, Open, Closing}
use Rattle.socket_flow.proofs.Losing.{lost, at_rest_then}
use Rattle.socket_flow.proofs.flow.SocketFlow.lose_oldest_stranger.Goals as goal

-- nothing is told of a socket that announced its address
stranger_ends : (stage : Stage) → is_announcing (Some stage) ≡ true → ending stage ≡ []
stranger_ends (Dialing id) p = absurd (both_ways false refl p)
stranger_ends (Announcing said) p = refl
stranger_ends (Waiting addr) p = refl
stranger_ends Told p = refl
stranger_ends (Open id) p = absurd (both_ways false refl p)
stranger_ends Closing p = refl

stranger_endings : (socket : Option Socket) → is_announcing (stage_of socket) ≡ true → endings socket ≡ []
stranger_endings None p = refl
stranger_endings (Some socket) p = stranger_ends socket.stage p

pub returns-in_ok-lose-in-Some-clause-loses : goal.returns-in_ok-lose-in-Some-clause-loses
returns-in_ok-lose-in-Some-clause-loses c = at_rest_then _ _ _ (lost _ _ _ c.in_ok-lose-in-Some.ensures.loses) refl refl refl refl refl refl

pub returns-in_ok-lose-in-Some-clause-events : goal.returns-in_ok-lose-in-Some-clause-events
returns-in_ok-lose-in-Some-clause-events c =
    c.in_ok-lose-in-Some.ensures.events ∙ (ap (λ told. c.args.self.now.events ++ told) (stranger_endings _ c.in-Some.ensures) ∙ append-nil _)
