-- The links of the connections that stand: what the rules see of each, found by its address and id.
use Rattle.std.specs.Prelude.{◌≡◌, ◌⊎◌, true, List, map, is_some, IfSome, IsSomeAnd}
use Rattle.conn_state.specs.Protocols.{chain_sync, keep_alive, peer_sharing}
use Rattle.conn_state.specs.Use.{is_live, is_acquirable, is_pending, agreed_sharing}
use Rattle.govern_rules.specs.declared.link.Link.{Link}
use Rattle.links.specs.Link.{place_of}
use Rattle.links.specs.Rows.{HaveSameLinks, stands_at, with_link}
use Rattle.machine.specs.Govern.{link_of}
use Rattle.machine.specs.Machine.{Entry}
use Rattle.machine.specs.Replies.{reply_on}
use Rattle.net_base.specs.declared.connection.Cid.{Cid}
use Rattle.connections.specs.Standing.{Standing, entry_with}
use Rattle.connections.specs.declared.sight.Sight.{Sight}

abbrev pub links_in : Standing → List Link
links_in s = map link_of s.entries

-- what the rules see of a connection, but for its address and id
abbrev pub sight_of : Entry → Sight
sight_of e = record {
  live = is_live e.facts;
  acquirable = is_acquirable e.facts;
  pending = is_pending e.facts;
  local = e.facts.local;
  sharing = agreed_sharing e.facts.agreed;
  owes2 = is_some (reply_on chain_sync e);
  owes8 = is_some (reply_on keep_alive e);
  owes10 = is_some (reply_on peer_sharing e);
}

-- they are the links of the connections
abbrev pub IsLinked : Standing → List Link → Type 0
IsLinked s links = HaveSameLinks links (links_in s)

-- they are, once a link is put in its place
pub record IsLinkedWith (link : Link) (s : Standing) (links : List Link) : Type 0 where
  pub there : stands_at (place_of link) links ≡ true
  pub same : IsLinked s (with_link link links)

-- they are, but for the link of one of them
abbrev pub IsLinkedBut : Cid → Standing → List Link → Type 0
IsLinkedBut cid s links = IsSomeAnd (entry_with cid.0 s) (λ e. IsLinkedWith (link_of e) s links)

-- they are, where what the rules see of one of them is the same still
abbrev pub IsLinkedIf : Sight → Cid → Standing → List Link → Type 0
IsLinkedIf seen cid s links = IfSome (entry_with cid.0 s) (λ e. sight_of e ≡ seen → IsLinked s links)

-- where what the rules see of a connection is another than before, its link is put in its place
abbrev pub IsRelinked : Entry → Entry → List Link → List Link → Type 0
IsRelinked was is old new = ((sight_of is ≡ sight_of was) × (new ≡ old)) ⊎ (new ≡ with_link (link_of is) old)
