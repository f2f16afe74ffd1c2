use Rattle.std.proofs.Common.{◌≡◌, Some, ap, ◌∙◌}
use Rattle.std.proofs.lemmas.Result.{on_ok_weaker}
use Rattle.warm_messages.specs.Reading.{share_of}
use Rattle.warm_messages.specs.declared.share.Share.TheVariants.{Peers}
use Rattle.node_engine.proofs.Together.{told_does}
use Rattle.node_engine.proofs.node_state.NodeState.take_addresses.Goals as goal

pub returns : goal.returns
returns c =
    let is : share_of c.args.body.now ≡ Some (Peers c.in-Some-Peers.told) = cc (c.in_ok-told.ensures.value, c.in-Some-Peers.is, c.in-Some-Peers.field-0-is) in
    rw is (on_ok_weaker c.tell_known.result
    (told_does c.in-Some-Peers.told c.settings-settings.result.now.own c.settings-settings.result.now.version _ _ _ _ _ _ _ _ c.self.view_is
    (ap (λ s. s.own) c.settings-settings.ensures.value) (ap (λ s. s.version) c.settings-settings.ensures.value)
    c.in_ok-new.ensures.come (c.as_slice.ensures ∙ c.in_ok-new.ensures.new))
    c.tell_known.ensures)
