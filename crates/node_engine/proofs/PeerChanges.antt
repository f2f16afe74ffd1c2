-- Changes of one peer, and what the rules order.
use Rattle.std.proofs.Common.{◌≡◌, ℕ, Bool, true, false, if◌then◌else◌, List, [], ◌∷◌, ◌++◌, Option, Some, None, IfSome, refl, sym, ap, subst, ◌∙◌, append-nil}
use Rattle.govern_rules.proofs.SameViews.{g2-same, g3-same, g4-same, g5-same, g6-same, g7-same, g8-same, g9-same, big-same}
use Rattle.govern_rules.specs.SameViews.{SeeSame}
use Rattle.govern_rules.specs.declared.view.View.{View}
use Rattle.net_base.proofs.AddressOrder.{same_address-is}
use Rattle.net_base.specs.declared.action.Action.{Action}
use Rattle.net_base.specs.declared.action.Action.TheVariants.{Peer as TellPeer}
use Rattle.net_base.specs.declared.address.Addr.{Addr}
use Rattle.net_base.specs.declared.peer.Peer.{Peer}
use Rattle.net_base.specs.declared.peer.Temp.{Temp}
use Rattle.connections.specs.Standing.{Standing}
use Rattle.machine.specs.Effect.{Effect}
use Rattle.machine.specs.Govern.{view_of}
use Rattle.machine.specs.Machine.{Machine}
use Rattle.machine.specs.Peers.{note_of, peer_changes, peer_was_asked, turns_at}
use Rattle.peer_book.specs.Book.{has_address, peer_at, same_temp}
use Rattle.peers.specs.Changes.{turned, turned_at, other_temp_at, temp_told}
use Rattle.peers.specs.Rules.{orders_by}
use Rattle.peers.specs.State.{PeerState}
use Rattle.peers.specs.declared.rule.Rule.{Rule}
use Rattle.peers.specs.declared.rule.Rule.TheVariants.{G2, G3, G4, G5, G6, G7, G8, G9, Big}
use Rattle.node_engine.specs.State.{Does, DoesSilently, temp_notice, machine_of, peers_of}
use Rattle.node_engine.specs.Rules.{orders_by as orders_in}
use Rattle.node_engine.proofs.FindLemmas.{IfSome-find}
use Rattle.node_engine.proofs.Together.{same_temp_self}

-- ---- one peer

own_address : (addr : Addr) (o : Option Peer) → IfSome o (λ p. has_address addr p ≡ true) → IfSome o (λ p. p.addr ≡ addr)
own_address addr None has = tt
own_address addr (Some p) has = same_address-is p.addr addr has

temp_notices : (own addr : Addr) (temp : Temp) (same : Bool) → own ≡ addr →
    temp_notice addr (if same then None else Some temp) ≡ (if same then [] else TellPeer own (note_of temp) ∷ [])
temp_notices own addr temp true is = refl
temp_notices own addr temp false is = ap (λ a. TellPeer a (note_of temp) ∷ []) (sym is)

turns : (addr : Addr) (o : Option Peer) (change : Peer → Peer) (m : Machine) (before : List Action) → IfSome o (λ p. p.addr ≡ addr) →
    Does (turns_at o change m) before (record m { peers = turned_at o change m.peers }) (before ++ temp_notice addr (other_temp_at o change))
turns addr None change m before own = record { machine_is = refl; actions_are = refl }
turns addr (Some p) change m before own = record {
  machine_is = refl;
  actions_are = ap (λ l. before ++ l) (temp_notices p.addr addr (change p).temp (same_temp p.temp (change p).temp) own);
}

no_other_temp : (next : ℕ) (o : Option Peer) → other_temp_at o (λ x. record x { share_next = next }) ≡ None
no_other_temp next None = refl
no_other_temp next (Some p) = ap (λ b. if b then None else Some p.temp) (same_temp_self p.temp)

-- the peer with an address has changed, and its temperature was told
pub peer_does : (addr : Addr) (change : Peer → Peer) (act : Machine → Effect) (now : ℕ) (p q : PeerState) (s : Standing) (m : Machine) (temp : Option Temp) (before after : List Action) →
    act (machine_of now p s) ≡ peer_changes addr change (machine_of now p s) → machine_of now p s ≡ m →
    q ≡ record p { peers = turned addr change p.peers } → temp ≡ temp_told addr change p.peers → after ≡ before ++ temp_notice addr temp →
    Does (act m) before (machine_of now q s) after
peer_does addr change act now p q s m temp before after means is peers told tells =
    let first : Machine = machine_of now p s in
    let done = turns addr (peer_at addr p.peers) change first before (own_address addr (peer_at addr p.peers) (IfSome-find (has_address addr) p.peers)) in
    let there : Does (peer_changes addr change first) before (machine_of now q s) after = record {
      machine_is = ap (λ x. machine_of now x s) peers ∙ done.machine_is;
      actions_are = tells ∙ ap (λ t. before ++ temp_notice addr t) told ∙ done.actions_are;
    } in
    subst (λ w. Does (act w) before (machine_of now q s) after) is
    (subst (λ effect. Does effect before (machine_of now q s) after) (sym means) there)

-- it was asked, which tells nothing
pub asked_does : (next : ℕ) (addr : Addr) (now : ℕ) (p q : PeerState) (s : Standing) (m : Machine) → machine_of now p s ≡ m →
    q ≡ record p { peers = turned addr (λ x. record x { share_next = next }) p.peers } → DoesSilently (peer_was_asked next addr m) (machine_of now q s)
asked_does next addr now p q s m is peers =
    let silent = no_other_temp next (peer_at addr p.peers) in
    let does = λ (before : List Action). peer_does addr (λ x. record x { share_next = next }) (peer_was_asked next addr) now p q s m None before before
    refl is peers (sym silent) (sym (append-nil before)) in
    record { machine_is = (does []).machine_is; tells_nothing = λ before. (does before).actions_are }

-- ---- the rules

-- views that tell the rules the same
orders-same : (rule : Rule) (view other : View) (p : PeerState) → SeeSame view other → orders_by rule view p ≡ orders_by rule other p
orders-same G2 view other p see = g2-same view other p.peers see
orders-same G3 view other p see = g3-same view other p.peers p.groups p.roots.publics see
orders-same G4 view other p see = g4-same view other p.peers p.groups see
orders-same G5 view other p see = g5-same view other p.peers p.groups see
orders-same G6 view other p see = g6-same view other p.peers p.groups see
orders-same G7 view other p see = g7-same view other p.peers p.groups see
orders-same G8 view other p see = g8-same view other p.peers p.groups see
orders-same G9 view other p see = g9-same view other p.peers p.groups see
orders-same (Big rule) view other p see = big-same rule view other p.peers see

pub orders_seen : (rule : Rule) (word : ℕ) (view : View) (now : ℕ) (p : PeerState) (s : Standing) (m : Machine) → machine_of now p s ≡ m → SeeSame view (view_of word m) →
    orders_by rule view p ≡ orders_in word rule m
orders_seen rule word view now p s m is see = orders-same rule view (view_of word m) p see ∙ ap (λ w. orders_by rule (view_of word m) (peers_of w)) is
