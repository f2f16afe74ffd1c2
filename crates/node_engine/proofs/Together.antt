-- Addresses that come into the book together come as if one came after the other.
use Rattle.std.proofs.Common.{◌≡◌, ℕ, Bool, true, false, ◌&&◌, not, if◌then◌else◌, Option, Some, None, List, [], ◌∷◌, ◌++◌, nat_lt, is_some, refl, sym, ap, subst, ◌∙◌, inl, inr}
use Rattle.std.specs.List.{filter}
use Rattle.std.proofs.lemmas.Bool.{cases_Bool, true≢false, and_parts}
use Rattle.net_base.specs.Address.{same_address}
use Rattle.net_base.specs.declared.action.Action.{Action}
use Rattle.net_base.specs.declared.action.Action.TheVariants.{Peer as TellPeer}
use Rattle.net_base.specs.declared.address.Addr.{Addr}
use Rattle.net_base.specs.declared.event.Group.{Group}
use Rattle.net_base.specs.declared.event.Job.{Job}
use Rattle.net_base.specs.declared.event.RootAnswer.TheVariants.{Found}
use Rattle.net_base.specs.declared.peer.Peer.{Peer}
use Rattle.net_base.specs.declared.peer.Temp.{Temp}
use Rattle.net_base.specs.declared.peer.Temp.TheVariants.{Cold, Warm, Hot}
use Rattle.machine.specs.Effect.{Effect, shared, nothing_more, then_do, as_move, for_each}
use Rattle.machine.specs.Machine.{Machine}
use Rattle.machine.specs.Peers.{note_of, note_of_coming, peer_comes, peer_is_ordinary, turns_at}
use Rattle.machine.specs.Provided.{comes_ordinary, is_wanted_big, comes_big, locals_are, bigs_are, roots_answer, roots_say}
use Rattle.machine.specs.Talking.{shares_address, taken_of as taken_in}
use Rattle.connections.specs.Standing.{Standing}
use Rattle.node_engine.specs.State.{Does, known_notices, machine_of, peers_of}
use Rattle.peers.specs.Changes.{all_come, all_ordinary, coming, is_stranger, turned, turned_at, with_groups, with_roots, wanted_big, taken_of}
use Rattle.peers.specs.State.{PeerState}
use Rattle.peer_book.specs.Book.{peer_at, known_of, most_peers, new_peer, entry_of, entry_below, entered_by, all_entered, only_new, newcomers, same_temp}
use Rattle.peer_book.specs.declared.added.Added.{Added}
use Rattle.peer_book.specs.declared.added.Added.TheVariants.{New, Present, Full}
use Rattle.peer_book.proofs.ComingIn.{unlimited}
use Rattle.root_groups.specs.Cleaned.{cleaned, group_of, members_of}
use Rattle.root_groups.specs.RootAsk.{awaits, found, publics_of}

abbrev pub with_book : Machine → List Peer → Machine
with_book m peers = record m { peers = peers }

-- what the book and the actions become
pub record Comes (effect : Effect) (m : Machine) (peers : List Peer) (told : List Addr) : Type 0 where
  pub machine_is : effect.machine ≡ with_book m peers
  pub actions_are : effect.actions ≡ known_notices told

note_machine : (e : Added) (addr : Addr) (m : Machine) → (note_of_coming e addr m).machine ≡ m
note_machine New addr m = refl
note_machine Present addr m = refl
note_machine Full addr m = refl

note_actions : (e : Added) (addr : Addr) (m : Machine) (rest : List Addr) →
    (note_of_coming e addr m).actions ++ known_notices rest ≡ known_notices (only_new e addr rest)
note_actions New addr m rest = refl
note_actions Present addr m rest = refl
note_actions Full addr m rest = refl

pub ordinary_together : (addrs : List Addr) (m : Machine) →
    Comes (for_each comes_ordinary addrs m) m (all_entered most_peers false addrs m.peers) (newcomers most_peers false addrs m.peers)
unfolding for_each
ordinary_together [] m = record { machine_is = refl; actions_are = refl }
ordinary_together (addr ∷ addrs) m =
    let e : Added = entry_of addr m.peers in
    let before : List Peer = m.peers in
    let now : List Peer = entered_by e (new_peer false addr) before in
    let next : Machine = record m { peers = now } in
    let first : (note_of_coming e addr next).machine ≡ next = note_machine e addr next in
    let later = ordinary_together addrs next in
    let rest : List Addr = newcomers most_peers false addrs now in
    let limit = unlimited false addr rest before in
    record {
      machine_is = ap (λ k. (for_each comes_ordinary addrs k).machine) first
          ∙ (later.machine_is ∙ ap (λ b. record m { peers = all_entered most_peers false addrs b }) (sym limit.0));
      actions_are = ap (λ k. (note_of_coming e addr next).actions ++ (for_each comes_ordinary addrs k).actions) first
          ∙ (ap (λ l. (note_of_coming e addr next).actions ++ l) later.actions_are
          ∙ (note_actions e addr next rest
          ∙ ap known_notices (sym limit.1 ∙ ap (λ b. only_new (entry_below most_peers false addr before) addr (newcomers most_peers false addrs b)) (sym limit.0))));
    }

-- how many big ledger peers are wanted
abbrev pub wanted_of : Machine → ℕ
wanted_of m = wanted_big m.now (peers_of m)

regrouped : (own there local few : Bool) → not own && not there && not local && few ≡ (not own && not local) && (not there && few)
regrouped true there local few = refl
regrouped false true true few = refl
regrouped false true false few = refl
regrouped false false true few = refl
regrouped false false false few = refl

-- an address that is there, or one too many
nobody : (most : ℕ) (addr : Addr) (peers : List Peer) (rest : List Addr) → (not (is_some (peer_at addr peers)) && nat_lt (known_of true peers) most) ≡ false →
    (entered_by (entry_below most true addr peers) (new_peer true addr) peers ≡ peers) × (only_new (entry_below most true addr peers) addr rest ≡ rest)
nobody most addr peers rest may_not = elim (cases_Bool (nat_lt (known_of true peers) most)) [
  | inl few ↦ elim (cases_Bool (is_some (peer_at addr peers))) [
    | inl there ↦ rw (few, there) (refl, refl)
    | inr absent ↦ absurd (true≢false (rw (absent, few) at may_not))
  ]
  | inr many ↦ rw many (refl, refl)
]

-- one that is not there, where more are wanted
somebody : (most : ℕ) (addr : Addr) (peers : List Peer) → (not (is_some (peer_at addr peers)) && nat_lt (known_of true peers) most) ≡ true →
    entry_below most true addr peers ≡ entry_of addr peers
somebody most addr peers may = rw (and_parts (not (is_some (peer_at addr peers))) (nat_lt (known_of true peers) most) may).1 refl

-- one goes in, and then the others
module _ (addr : Addr) (addrs : List Addr) (m : Machine) where
  abbrev peers : List Peer
  peers = m.peers

  abbrev rest : List Addr
  rest = filter (is_stranger m.settings.own m.groups) addrs

  abbrev Goes : Effect → List Addr → Type 0
  Goes effect coming = Comes effect m (all_entered (wanted_of m) true coming peers) (newcomers (wanted_of m) true coming peers)

  goes_past : comes_big addr m ≡ nothing_more m → Goes (for_each comes_big addrs m) rest → Goes (then_do (comes_big addr m) (for_each comes_big addrs)) rest
  goes_past step later = record {
    machine_is = ap (λ f. (for_each comes_big addrs f.machine).machine) step ∙ later.machine_is;
    actions_are = ap (λ f. f.actions ++ (for_each comes_big addrs f.machine).actions) step ∙ later.actions_are;
  }

  stays_out : comes_big addr m ≡ nothing_more m → (not (is_some (peer_at addr peers)) && nat_lt (known_of true peers) (wanted_of m)) ≡ false →
      Goes (for_each comes_big addrs m) rest → Goes (then_do (comes_big addr m) (for_each comes_big addrs)) (addr ∷ rest)
  stays_out step may_not later =
      let none = nobody (wanted_of m) addr peers (newcomers (wanted_of m) true rest peers) may_not in
      let past = goes_past step later in
      record {
        machine_is = past.machine_is ∙ ap (λ b. record m { peers = all_entered (wanted_of m) true rest b }) (sym none.0);
        actions_are = past.actions_are
            ∙ ap known_notices (sym none.1 ∙ ap (λ b. only_new (entry_below (wanted_of m) true addr peers) addr (newcomers (wanted_of m) true rest b)) (sym none.0));
      }

  abbrev next : Machine
  next = record m { peers = entered_by (entry_of addr peers) (new_peer true addr) peers }

  goes_in : comes_big addr m ≡ as_move (shared addr) m (peer_comes true addr m) →
      (not (is_some (peer_at addr peers)) && nat_lt (known_of true peers) (wanted_of m)) ≡ true →
      Comes (for_each comes_big addrs next) next (all_entered (wanted_of m) true rest next.peers) (newcomers (wanted_of m) true rest next.peers) →
      Goes (then_do (comes_big addr m) (for_each comes_big addrs)) (addr ∷ rest)
  goes_in step may later =
      let e : Added = entry_of addr peers in
      let first : (note_of_coming e addr next).machine ≡ next = note_machine e addr next in
      let same : entry_below (wanted_of m) true addr peers ≡ e = somebody (wanted_of m) addr peers may in
      record {
        machine_is = ap (λ f. (for_each comes_big addrs f.machine).machine) step
            ∙ (ap (λ k. (for_each comes_big addrs k).machine) first
            ∙ (later.machine_is ∙ ap (λ f. record m { peers = all_entered (wanted_of m) true rest (entered_by f (new_peer true addr) peers) }) (sym same)));
        actions_are = ap (λ f. f.actions ++ (for_each comes_big addrs f.machine).actions) step
            ∙ (ap (λ k. (note_of_coming e addr next).actions ++ (for_each comes_big addrs k).actions) first
            ∙ (ap (λ l. (note_of_coming e addr next).actions ++ l) later.actions_are
            ∙ (note_actions e addr next (newcomers (wanted_of m) true rest next.peers)
            ∙ ap (λ f. known_notices (only_new f addr (newcomers (wanted_of m) true rest (entered_by f (new_peer true addr) peers)))) (sym same))));
      }

pub big_together : (addrs : List Addr) (m : Machine) → Comes (for_each comes_big addrs m) m
    (all_entered (wanted_of m) true (filter (is_stranger m.settings.own m.groups) addrs) m.peers)
    (newcomers (wanted_of m) true (filter (is_stranger m.settings.own m.groups) addrs) m.peers)
unfolding for_each
big_together [] m = record { machine_is = refl; actions_are = refl }
big_together (addr ∷ addrs) m =
    let may : Bool = not (is_some (peer_at addr m.peers)) && nat_lt (known_of true m.peers) (wanted_of m) in
    let wanted : is_wanted_big addr m ≡ (is_stranger m.settings.own m.groups addr && may) =
    regrouped (same_address addr m.settings.own) (is_some (peer_at addr m.peers)) (is_some (group_of addr m.groups)) (nat_lt (known_of true m.peers) (wanted_of m)) in
    elim (cases_Bool (is_stranger m.settings.own m.groups addr)) [
      | inl stranger ↦ elim (cases_Bool may) [
        | inl may_come ↦
            let it_does : is_wanted_big addr m ≡ true = wanted ∙ rw (stranger, may_come) refl in
            rw stranger (goes_in addr addrs m (rw it_does refl) may_come (big_together addrs (next addr addrs m)))
        | inr may_not ↦
            let it_does_not : is_wanted_big addr m ≡ false = wanted ∙ rw (stranger, may_not) refl in
            rw stranger (stays_out addr addrs m (rw it_does_not refl) may_not (big_together addrs m))
      ]
      | inr own_or_local ↦
          let it_does_not : is_wanted_big addr m ≡ false = wanted ∙ rw own_or_local refl in
          rw own_or_local (goes_past addr addrs m (rw it_does_not refl) (big_together addrs m))
    ]

-- ---- peers that are ordinary from now on

pub same_temp_self : (temp : Temp) → same_temp temp temp ≡ true
same_temp_self Cold = refl
same_temp_self Warm = refl
same_temp_self Hot = refl

is_silent : (addr : Addr) (temp : Temp) → (if same_temp temp temp then [] else TellPeer addr (note_of temp) ∷ []) ≡ []
is_silent addr temp = ap (λ b. if b then [] else TellPeer addr (note_of temp) ∷ []) (same_temp_self temp)

one_ordinary : (o : Option Peer) (m : Machine) → Comes (turns_at o (λ p. record p { big = false }) m) m (turned_at o (λ p. record p { big = false }) m.peers) []
one_ordinary None m = record { machine_is = refl; actions_are = refl }
one_ordinary (Some p) m = record { machine_is = refl; actions_are = is_silent p.addr p.temp }

pub made_ordinary : (addrs : List Addr) (m : Machine) → Comes (for_each peer_is_ordinary addrs m) m (all_ordinary addrs m.peers) []
unfolding for_each
made_ordinary [] m = record { machine_is = refl; actions_are = refl }
made_ordinary (addr ∷ addrs) m =
    let one = one_ordinary (peer_at addr m.peers) m in
    let next : Machine = with_book m (turned addr (λ p. record p { big = false }) m.peers) in
    let later = made_ordinary addrs next in
    record {
      machine_is = ap (λ k. (for_each peer_is_ordinary addrs k).machine) one.machine_is ∙ later.machine_is;
      actions_are = (λ i. one.actions_are i ++ (for_each peer_is_ordinary addrs (one.machine_is i)).actions) ∙ later.actions_are;
    }

-- ---- peers that a peer told of

shared_same : (addrs : List Addr) (m : Machine) →
    ((for_each shares_address addrs m).machine ≡ (for_each comes_ordinary addrs m).machine)
    × ((for_each shares_address addrs m).actions ≡ (for_each comes_ordinary addrs m).actions)
unfolding for_each
shared_same [] m = (refl, refl)
shared_same (addr ∷ addrs) m =
    let later = shared_same addrs (comes_ordinary addr m).machine in
    (later.0, ap (λ l. (comes_ordinary addr m).actions ++ l) later.1)

pub shared_together : (addrs : List Addr) (m : Machine) → Comes (for_each shares_address addrs m) m (all_come addrs m.peers) (coming addrs m.peers)
shared_together addrs m =
    let same = shared_same addrs m in
    let ordinary = ordinary_together addrs m in
    record { machine_is = same.0 ∙ ordinary.machine_is; actions_are = same.1 ∙ ordinary.actions_are }

-- ---- what was done

-- the groups are set
pub locals_come : (groups : List Group) (m : Machine) → let kept : List Group = cleaned m.settings.own groups in
    Comes (locals_are groups m) (record m { groups = kept }) (all_come (members_of kept) (all_ordinary (members_of kept) m.peers)) (coming (members_of kept) (all_ordinary (members_of kept) m.peers))
locals_come groups m =
    let kept : List Group = cleaned m.settings.own groups in
    let members : List Addr = members_of kept in
    let first : Machine = record m { groups = kept } in
    let made = made_ordinary members first in
    let next : Machine = with_book first (all_ordinary members m.peers) in
    let come = ordinary_together members next in
    record {
      machine_is = ap (λ k. (for_each comes_ordinary members k).machine) made.machine_is ∙ come.machine_is;
      actions_are = (λ i. made.actions_are i ++ (for_each comes_ordinary members (made.machine_is i)).actions) ∙ come.actions_are;
    }

-- the public roots are found
pub roots_come : (job : Job) (ttl : ℕ) (addrs : List Addr) (now : ℕ) (p q : PeerState) (s : Standing) (new : List Addr) (before after : List Action) →
    q ≡ (if awaits job.0 p.roots then with_roots now ttl (publics_of s.settings.own p.targets.root addrs) p else p) →
    new ≡ (if awaits job.0 p.roots then coming (publics_of s.settings.own p.targets.root addrs) p.peers else []) →
    after ≡ before ++ known_notices new →
    Does (roots_answer job (Found ttl addrs) (machine_of now p s)) before (machine_of now q s) after
roots_come job ttl addrs now p q s new before after are same tells = by_pending (awaits job.0 p.roots) are same
  where
    publics : List Addr
    publics = publics_of s.settings.own p.targets.root addrs

    m : Machine
    m = machine_of now p s

    by_pending : (b : Bool) → q ≡ (if b then with_roots now ttl publics p else p) → new ≡ (if b then coming publics p.peers else []) →
        Does (if b then roots_say (Found ttl addrs) m else nothing_more m) before (machine_of now q s) after
    by_pending true is told =
        let come = ordinary_together publics (record m { roots = found now ttl publics m.roots }) in
        record {
          machine_is = ap (λ x. machine_of now x s) is ∙ sym come.machine_is;
          actions_are = tells ∙ ap (λ l. before ++ known_notices l) told ∙ ap (λ l. before ++ l) (sym come.actions_are);
        }
    by_pending false is told = record {
      machine_is = ap (λ x. machine_of now x s) is;
      actions_are = tells ∙ ap (λ l. before ++ known_notices l) told;
    }

pub roots_does : (job : Job) (ttl : ℕ) (addrs : List Addr) (own : Addr) (now : ℕ) (p q : PeerState) (s : Standing) (m : Machine) (new : List Addr) (before after : List Action) →
    machine_of now p s ≡ m → own ≡ s.settings.own →
    q ≡ (if awaits job.0 p.roots then with_roots now ttl (publics_of own p.targets.root addrs) p else p) →
    new ≡ (if awaits job.0 p.roots then coming (publics_of own p.targets.root addrs) p.peers else []) →
    after ≡ before ++ known_notices new →
    Does (roots_answer job (Found ttl addrs) m) before (machine_of now q s) after
roots_does job ttl addrs own now p q s m new before after is same are names tells =
    subst (λ w. Does (roots_answer job (Found ttl addrs) w) before (machine_of now q s) after) is
    (roots_come job ttl addrs now p q s new before after
    (are ∙ ap (λ o. if awaits job.0 p.roots then with_roots now ttl (publics_of o p.targets.root addrs) p else p) same)
    (names ∙ ap (λ o. if awaits job.0 p.roots then coming (publics_of o p.targets.root addrs) p.peers else []) same) tells)

pub locals_does : (groups : List Group) (own : Addr) (now : ℕ) (p q : PeerState) (s : Standing) (m : Machine) (new : List Addr) (before after : List Action) →
    machine_of now p s ≡ m → own ≡ s.settings.own → q ≡ with_groups (cleaned own groups) p →
    new ≡ coming (members_of (cleaned own groups)) (all_ordinary (members_of (cleaned own groups)) p.peers) →
    after ≡ before ++ known_notices new → Does (locals_are groups m) before (machine_of now q s) after
locals_does groups own now p q s m new before after is same peers told tells =
    let first : Machine = machine_of now p s in
    let comes = locals_come groups first in
    let names = λ (o : Addr). coming (members_of (cleaned o groups)) (all_ordinary (members_of (cleaned o groups)) p.peers) in
    let does : Does (locals_are groups first) before (machine_of now q s) after = record {
      machine_is = ap (λ x. machine_of now x s) (peers ∙ ap (λ o. with_groups (cleaned o groups) p) same) ∙ sym comes.machine_is;
      actions_are = tells ∙ ap (λ l. before ++ known_notices l) (told ∙ ap names same) ∙ ap (λ l. before ++ l) (sym comes.actions_are);
    } in
    subst (λ w. Does (locals_are groups w) before (machine_of now q s) after) is does

pub bigs_does : (addrs : List Addr) (own : Addr) (now : ℕ) (p q : PeerState) (s : Standing) (m : Machine) (new : List Addr) (before after : List Action) →
    machine_of now p s ≡ m → own ≡ s.settings.own →
    q ≡ record p { peers = all_entered (wanted_big now p) true (filter (is_stranger own p.groups) addrs) p.peers } →
    new ≡ newcomers (wanted_big now p) true (filter (is_stranger own p.groups) addrs) p.peers →
    after ≡ before ++ known_notices new → Does (bigs_are addrs m) before (machine_of now q s) after
bigs_does addrs own now p q s m new before after is same peers told tells =
    let first : Machine = machine_of now p s in
    let comes = big_together addrs first in
    let does : Does (bigs_are addrs first) before (machine_of now q s) after = record {
      machine_is = ap (λ x. machine_of now x s) (peers
          ∙ ap (λ o. let r : PeerState = record p { peers = all_entered (wanted_big now p) true (filter (is_stranger o p.groups) addrs) p.peers } in r) same) ∙ sym comes.machine_is;
      actions_are = tells ∙ ap (λ l. before ++ known_notices l) (told ∙ ap (λ o. newcomers (wanted_big now p) true (filter (is_stranger o p.groups) addrs) p.peers) same)
          ∙ ap (λ l. before ++ l) (sym comes.actions_are);
    } in
    subst (λ w. Does (bigs_are addrs w) before (machine_of now q s) after) is does

pub told_does : (told : List Addr) (own : Addr) (version now : ℕ) (p q : PeerState) (s : Standing) (m : Machine) (new : List Addr) (before after : List Action) →
    machine_of now p s ≡ m → own ≡ s.settings.own → version ≡ s.settings.version →
    q ≡ record p { peers = all_come (taken_of own version now told p) p.peers } → new ≡ coming (taken_of own version now told p) p.peers →
    after ≡ before ++ known_notices new →
    Does (for_each shares_address (taken_in told m) m) before (machine_of now q s) after
told_does told own version now p q s m new before after is same fits peers names tells =
    let first : Machine = machine_of now p s in
    let taken : taken_of own version now told p ≡ taken_in told first = λ i. taken_of (same i) (fits i) now told p in
    let comes = shared_together (taken_in told first) first in
    let does : Does (for_each shares_address (taken_in told first) first) before (machine_of now q s) after = record {
      machine_is = ap (λ x. machine_of now x s) (peers ∙ ap (λ l. let r : PeerState = record p { peers = all_come l p.peers } in r) taken) ∙ sym comes.machine_is;
      actions_are = tells ∙ ap (λ l. before ++ known_notices l) (names ∙ ap (λ l. coming l p.peers) taken) ∙ ap (λ l. before ++ l) (sym comes.actions_are);
    } in
    subst (λ w. Does (for_each shares_address (taken_in told w) w) before (machine_of now q s) after) is does
