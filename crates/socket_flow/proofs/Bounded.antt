-- How the counts of a flow follow its sockets, one change after another.
use Rattle.std.proofs.Common.{◌≡◌, ◌⊎◌, inl, inr, ℕ, ◌+◌, ◌*◌, ◌≤◌, suc, ◌==◌, Bool, true, false, cond, ◌||◌, List, [], ◌∷◌, length, Option, Some, None, refl, sym, ap, subst, arith}
use Rattle.std.specs.List.{sum_by}
use Rattle.std.proofs.lemmas.List.Sums.{sum_by-cons, sum_by-le-sum_by}
use Rattle.std.proofs.lemmas.Bool.{eq-eqb}
use Rattle.std.proofs.lemmas.Bool.Decides.{nat_tests}
use Rattle.socket_flow.specs.Counts.{IsMost, IsBelow, unsent_at, stranger_at}
use Rattle.socket_flow.specs.Peers.{IsToldAlone, StandInLine}
use Rattle.socket_flow.specs.Table.{socket_at, out_of, stage_of, is_announcing, Puts, HasSame, KeepsTalk}
use Rattle.socket_flow.specs.Turns.{has_turn, IsOnce}
use Rattle.socket_flow.specs.declared.flow.SocketFlow.{SocketFlow}
use Rattle.socket_flow.specs.declared.socket.Socket.{Socket}
use Rattle.socket_flow.specs.declared.socket_table.SocketTable.{SocketTable}
use Rattle.socket_flow.proofs.Meeting.{Meets, met, met_put, met_same, Settles}

-- ---- one key among others

-- a key is one of these, and the others are so
pub record Splits (key : ℕ) (keys : List ℕ) : Type 0 where
  others : List ℕ
  once : IsOnce (key ∷ others)
  sums : (size : ℕ → ℕ) → sum_by size keys ≡ size key + sum_by size others
  count : length keys ≡ suc (length others)
  fewer : (k : ℕ) → has_turn keys k ≡ false → has_turn others k ≡ false

either_false : (a b : Bool) → (a || b) ≡ false → (a ≡ false) × (b ≡ false)
either_false true b h = absurd (cc)
either_false false b h = (refl, h)

neither : (a b : Bool) → a ≡ false → b ≡ false → (a || b) ≡ false
neither a b p q = rw (p, q) refl

turned : (a b : ℕ) → a == b ≡ false → b == a ≡ false
turned a b h = grind (arith, nat_tests)

same_of : (a b : ℕ) → a == b ≡ true → a ≡ b
same_of a b h = grind (arith, nat_tests)

split_first : (key k : ℕ) (keys : List ℕ) → key ≡ k → IsOnce (k ∷ keys) → Splits key (k ∷ keys)
split_first key k keys is once = record {
  others = keys;
  once = subst (λ x. IsOnce (x ∷ keys)) (sym is) once;
  sums = λ size. subst (λ x. sum_by size (k ∷ keys) ≡ size x + sum_by size keys) (sym is) (sum_by-cons size k keys);
  count = refl;
  fewer = λ j none. (either_false (j == k) (has_turn keys j) none).1;
}

split_rest : (key k : ℕ) (keys : List ℕ) → key == k ≡ false → has_turn keys k ≡ false → Splits key keys → Splits key (k ∷ keys)
split_rest key k keys other apart p = record {
  others = k ∷ p.others;
  once = (neither (key == k) (has_turn p.others key) other p.once.0, (p.fewer k apart, p.once.1));
  sums = λ size. omega (arith, sum_by-cons size k keys, sum_by-cons size k p.others, p.sums size);
  count = ap suc p.count;
  fewer = λ j none. let parts = either_false (j == k) (has_turn keys j) none in neither (j == k) (has_turn p.others j) parts.0 (p.fewer j parts.1);
}

split_at : (key k : ℕ) (keys : List ℕ) (test : Bool) → key == k ≡ test → IsOnce (k ∷ keys) → (has_turn keys key ≡ false) ⊎ Splits key keys → (has_turn (k ∷ keys) key ≡ false) ⊎ Splits key (k ∷ keys)
split_at key k keys true is once p = inr (split_first key k keys (same_of key k is) once)
split_at key k keys false is once (inl none) = inl (neither (key == k) (has_turn keys key) is none)
split_at key k keys false is once (inr split) = inr (split_rest key k keys is once.0 split)

split : (key : ℕ) (keys : List ℕ) → IsOnce keys → (has_turn keys key ≡ false) ⊎ Splits key keys
split key [] once = inl refl
split key (k ∷ keys) once = split_at key k keys (key == k) refl once (split key keys once.1)

-- ---- what is not looked at

-- each but one key has what it had
abbrev Others : ℕ → (ℕ → ℕ) → (ℕ → ℕ) → Type 0
Others key old new = (k : ℕ) → key == k ≡ false → new k ≡ old k

unmoved : (key : ℕ) (old new : ℕ → ℕ) (keys : List ℕ) → Others key old new → has_turn keys key ≡ false → sum_by new keys ≡ sum_by old keys
unmoved key old new [] others none = refl
unmoved key old new (k ∷ keys) others none =
    let parts = either_false (key == k) (has_turn keys key) none in
    let here = others k parts.0 in
    let rest = unmoved key old new keys others parts.1 in
    omega (arith, sum_by-cons new k keys, sum_by-cons old k keys, here, rest)

-- ---- counts

-- what one key has more, or less, is counted
moved_on : (key : ℕ) (old new : ℕ → ℕ) (before after : ℕ) (keys : List ℕ) → Others key old new → before + new key ≤ after + old key → IsMost old before → IsOnce keys
    → (has_turn keys key ≡ false) ⊎ Splits key keys → sum_by new keys ≤ after
moved_on key old new before after keys others counts most once (inl none) =
    let all = most (key ∷ keys) (none, once) in
    let sums = sum_by-cons old key keys in
    let same = unmoved key old new keys others none in
    omega (arith, counts, all, sums, same)
moved_on key old new before after keys others counts most once (inr p) =
    let all = most (key ∷ p.others) p.once in
    let sums = sum_by-cons old key p.others in
    let same = unmoved key old new p.others others p.once.0 in
    let here = p.sums new in
    omega (arith, counts, all, sums, same, here)

pub moved : (key : ℕ) (old new : ℕ → ℕ) (before after : ℕ) → ((k : ℕ) → key == k ≡ false → new k ≡ old k) → before + new key ≤ after + old key → IsMost old before → IsMost new after
moved key old new before after others counts most keys once = moved_on key old new before after keys others counts most once (split key keys once)

pub falls : (old new : ℕ → ℕ) (before after : ℕ) → ((k : ℕ) → new k ≤ old k) → before ≤ after → IsMost old before → IsMost new after
falls old new before after less counts most keys once =
    let all = most keys once in
    let fewer = sum_by-le-sum_by new old keys less in
    omega (arith, counts, all, fewer)

-- ---- the bound

abbrev pub IsBounded : (ℕ → ℕ) → Type 0
IsBounded size = (keys : List ℕ) → IsOnce keys → sum_by size keys ≤ 67108864 + 19 * length keys

pub bounded_falls : (old new : ℕ → ℕ) → ((k : ℕ) → new k ≤ old k) → IsBounded old → IsBounded new
bounded_falls old new less most keys once =
    let all = most keys once in
    let fewer = sum_by-le-sum_by new old keys less in
    omega (arith, all, fewer)

-- where the whole is counted and is no more than the most
pub bounded_all : (new : ℕ → ℕ) (after : ℕ) → after ≤ 67108864 → IsMost new after → IsBounded new
bounded_all new after below most keys once =
    let all = most keys once in
    omega (arith, below, all)

bounded_on : (key : ℕ) (old new : ℕ → ℕ) (keys : List ℕ) → Others key old new → new key ≤ 19 → IsBounded old → IsOnce keys → (has_turn keys key ≡ false) ⊎ Splits key keys
    → sum_by new keys ≤ 67108864 + 19 * length keys
bounded_on key old new keys others said most once (inl none) =
    let all = most keys once in
    let same = unmoved key old new keys others none in
    omega (arith, all, same)
bounded_on key old new keys others said most once (inr p) =
    let all = most p.others p.once.1 in
    let same = unmoved key old new p.others others p.once.0 in
    let here = p.sums new in
    let count = p.count in
    omega (arith, said, all, same, here, count)

-- where a dial puts its announcement
pub bounded_dial : (key : ℕ) (old new : ℕ → ℕ) → ((k : ℕ) → key == k ≡ false → new k ≡ old k) → new key ≤ 19 → IsBounded old → IsBounded new
bounded_dial key old new others said most keys once = bounded_on key old new keys others said most once (split key keys once)

-- ---- the sockets of a flow

-- one where a socket announces an address
abbrev pub stranger_of : Option Socket → ℕ
stranger_of socket = cond (is_announcing (stage_of socket)) 1 0

module _ (size : Option Socket → ℕ) (a b : SocketTable) (key : ℕ) (socket : Option Socket) (puts : Puts a b key socket) where
  beside : (k : ℕ) → key == k ≡ false → size (socket_at b k) ≡ size (socket_at a k)
  beside k apart = ap size (subst (λ test. socket_at b k ≡ cond test socket (socket_at a k)) apart (puts k))

  here : size (socket_at b key) ≡ size socket
  here = ap size (subst (λ test. socket_at b key ≡ cond test socket (socket_at a key)) (eq-eqb key key refl) (puts key))

  -- where no more is put than was there, no key has more
  fewer_if : (k : ℕ) (test : Bool) → key == k ≡ test → size socket ≤ size (socket_at a key) → size (socket_at b k) ≤ size (socket_at a k)
  fewer_if k true is less =
      let same = same_of key k is in
      let now = subst (λ x. size (socket_at b x) ≡ size socket) same here in
      let was = subst (λ x. size socket ≤ size (socket_at a x)) same less in
      omega (arith, now, was)
  fewer_if k false is less = let same = beside k is in omega (arith, same)

  fewer : size socket ≤ size (socket_at a key) → (k : ℕ) → size (socket_at b k) ≤ size (socket_at a k)
  fewer less k = fewer_if k (key == k) refl less

-- how many bytes wait on a socket, if there is one
abbrev pub waits_on : Option Socket → ℕ
waits_on socket = length (out_of socket)

-- what a flow keeps of its sockets and of its two counts
pub record Holds (table : SocketTable) (unsent strangers : ℕ) : Type 0 where
  pub counted : IsMost (unsent_at table) unsent
  pub bounded : IsBelow table
  pub announces : IsMost (stranger_at table) strangers

pub held : (flow : SocketFlow) → Holds flow.table flow.unsent flow.strangers
held flow = record { counted = flow.counted; bounded = flow.bounded; announces = flow.announces }

counted_put : (a b : SocketTable) (key : ℕ) (old new : Option Socket) (u v : ℕ) → old ≡ socket_at a key → Puts a b key new → u + waits_on new ≤ v + waits_on old → IsMost (unsent_at a) u → IsMost (unsent_at b) v
counted_put a b key old new u v is puts counts most =
    let now = here waits_on a b key new puts in
    let was = ap waits_on is in
    moved key (unsent_at a) (unsent_at b) u v (beside waits_on a b key new puts) (omega (arith, counts, now, was)) most

announces_put : (a b : SocketTable) (key : ℕ) (old new : Option Socket) (s t : ℕ) → old ≡ socket_at a key → Puts a b key new → s + stranger_of new ≤ t + stranger_of old → IsMost (stranger_at a) s → IsMost (stranger_at b) t
announces_put a b key old new s t is puts counts most =
    let now = here stranger_of a b key new puts in
    let was = ap stranger_of is in
    moved key (stranger_at a) (stranger_at b) s t (beside stranger_of a b key new puts) (omega (arith, counts, now, was)) most

bounded_put : (a b : SocketTable) (key : ℕ) (old new : Option Socket) → old ≡ socket_at a key → Puts a b key new → waits_on new ≤ waits_on old → IsBelow a → IsBelow b
bounded_put a b key old new is puts less most =
    let was = ap waits_on is in
    bounded_falls (unsent_at a) (unsent_at b) (fewer waits_on a b key new puts (omega (arith, less, was))) most

-- a socket is put where no more waits on it than on the one that was there
pub put_on : (a b : SocketTable) (key : ℕ) (old new : Option Socket) (u v s t : ℕ) → old ≡ socket_at a key → Puts a b key new
    → u + waits_on new ≤ v + waits_on old → waits_on new ≤ waits_on old → s + stranger_of new ≤ t + stranger_of old → Holds a u s → Holds b v t
put_on a b key old new u v s t is puts counts less strangers h = record {
  counted = counted_put a b key old new u v is puts counts h.counted;
  bounded = bounded_put a b key old new is puts less h.bounded;
  announces = announces_put a b key old new s t is puts strangers h.announces;
}

-- a socket on which more waits, where all that waits is no more than the most
pub sent_on : (a b : SocketTable) (key : ℕ) (old new : Option Socket) (u v s : ℕ) → old ≡ socket_at a key → Puts a b key new
    → u + waits_on new ≤ v + waits_on old → v ≤ 67108864 → stranger_of new ≤ stranger_of old → Holds a u s → Holds b v s
sent_on a b key old new u v s is puts counts below strangers h =
    let all = counted_put a b key old new u v is puts counts h.counted in record {
      counted = all;
      bounded = bounded_all (unsent_at b) v below all;
      announces = announces_put a b key old new s s is puts (omega (arith, strangers)) h.announces;
    }

-- a socket is put on which no more waits than an announcement has
pub taken_in : (a b : SocketTable) (key : ℕ) (new : Option Socket) (u v s t : ℕ) → Puts a b key new
    → u + waits_on new ≤ v → waits_on new ≤ 19 → s + stranger_of new ≤ t → Holds a u s → Holds b v t
taken_in a b key new u v s t puts counts said strangers h =
    let now = here waits_on a b key new puts in record {
      counted = counted_put a b key (socket_at a key) new u v refl puts (omega (arith, counts)) h.counted;
      bounded = bounded_dial key (unsent_at a) (unsent_at b) (beside waits_on a b key new puts) (omega (arith, now, said)) h.bounded;
      announces = announces_put a b key (socket_at a key) new s t refl puts (omega (arith, strangers)) h.announces;
    }

-- each socket is for what it was, and the same waits on it
pub talk_kept : (a b : SocketTable) (u s : ℕ) → KeepsTalk a b → Holds a u s → Holds b u s
talk_kept a b u s talk h = record {
  counted = falls (unsent_at a) (unsent_at b) u u (λ k. let same = ap {B = ℕ} (λ out. length out) (talk k).0 in omega (arith, same)) (omega arith) h.counted;
  bounded = bounded_falls (unsent_at a) (unsent_at b) (λ k. let same = ap {B = ℕ} (λ out. length out) (talk k).0 in omega (arith, same)) h.bounded;
  announces = falls (stranger_at a) (stranger_at b) s s (λ k. let same = ap {B = ℕ} (λ stage. cond (is_announcing stage) 1 0) (talk k).1 in omega (arith, same)) (omega arith) h.announces;
}

-- and what it keeps of the peers that have connected
pub record Stays (flow : SocketFlow) (table : SocketTable) (unsent strangers : ℕ) : Type 0 where
  pub counted : IsMost (unsent_at table) unsent
  pub bounded : IsBelow table
  pub announces : IsMost (stranger_at table) strangers
  pub alone : IsToldAlone table flow.caller
  pub in_line : StandInLine table flow.callers.items

both : (flow : SocketFlow) (b : SocketTable) (v t : ℕ) → Holds b v t → Meets b flow.caller flow.callers.items → Stays flow b v t
both flow b v t h m = record { counted = h.counted; bounded = h.bounded; announces = h.announces; alone = m.alone; in_line = m.in_line }

-- a socket is gone, and was counted down
pub gone : (flow : SocketFlow) (b : SocketTable) (key : ℕ) (socket : Socket) (v t : ℕ) → Some socket ≡ socket_at flow.table key → Puts flow.table b key None
    → flow.unsent ≤ v + length socket.out → flow.strangers ≤ t + stranger_of (Some socket) → Stays flow b v t
gone flow b key socket v t is puts counts strangers =
    both flow b v t (put_on flow.table b key (Some socket) None flow.unsent v flow.strangers t is puts (omega (arith, counts)) (omega arith) (omega (arith, strangers)) (held flow))
    (met_put flow.table b key (Some socket) None flow.caller flow.callers.items is puts (inl refl) (met flow))

-- there was none
pub none_gone : (flow : SocketFlow) (b : SocketTable) (key : ℕ) → None ≡ socket_at flow.table key → Puts flow.table b key None → Stays flow b flow.unsent flow.strangers
none_gone flow b key is puts =
    both flow b flow.unsent flow.strangers (put_on flow.table b key None None flow.unsent flow.unsent flow.strangers flow.strangers is puts (omega arith) (omega arith) (omega arith) (held flow))
    (met_put flow.table b key None None flow.caller flow.callers.items is puts (inl refl) (met flow))

-- a socket is for what it was, or for something else, and no more waits on it
pub turns_to : (flow : SocketFlow) (b : SocketTable) (key : ℕ) (old new : Socket) → Some old ≡ socket_at flow.table key → Puts flow.table b key (Some new)
    → length new.out ≤ length old.out → stranger_of (Some new) ≤ stranger_of (Some old) → Settles (Some old.stage) (Some new.stage) → Stays flow b flow.unsent flow.strangers
turns_to flow b key old new is puts less strangers settles =
    both flow b flow.unsent flow.strangers (put_on flow.table b key (Some old) (Some new) flow.unsent flow.unsent flow.strangers flow.strangers is puts (omega (arith, less)) (omega (arith, less)) (omega (arith, strangers)) (held flow))
    (met_put flow.table b key (Some old) (Some new) flow.caller flow.callers.items is puts settles (met flow))

-- nothing is put anywhere
pub same_table : (flow : SocketFlow) (b : SocketTable) → HasSame flow.table b → Stays flow b flow.unsent flow.strangers
same_table flow b same =
    both flow b flow.unsent flow.strangers (talk_kept flow.table b flow.unsent flow.strangers (λ k. (ap out_of (same k), ap stage_of (same k))) (held flow)) (met_same flow.table b flow.caller flow.callers.items same (met flow))

pub holds_of : (flow : SocketFlow) (b : SocketTable) (v t : ℕ) → Stays flow b v t → Holds b v t
holds_of flow b v t h = record { counted = h.counted; bounded = h.bounded; announces = h.announces }

pub meets_of : (flow : SocketFlow) (b : SocketTable) (v t : ℕ) → Stays flow b v t → Meets b flow.caller flow.callers.items
meets_of flow b v t h = record { alone = h.alone; in_line = h.in_line }
