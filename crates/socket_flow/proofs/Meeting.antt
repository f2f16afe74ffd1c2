-- Peers that have connected: who waits stands in line, and who was told of is alone, one change after another.
use Rattle.std.proofs.Common.{◌≡◌, ◌⊎◌, inl, inr, ℕ, ◌==◌, Bool, true, false, cond, ◌||◌, eqb, List, [], ◌∷◌, ◌++◌, Option, Some, None, refl, sym, ap, subst, ◌∙◌, arith}
use Rattle.std.proofs.lemmas.Bool.{both_ways, eqb-true, eq-eqb}
use Rattle.std.proofs.lemmas.Bool.Decides.{nat_tests}
use Rattle.std.proofs.lemmas.List.Folds.{list_any-append}
use Rattle.net_base.specs.declared.address.Addr.{Addr}
use Rattle.socket_flow.specs.Peers.{IsToldAlone, StandInLine, NoneOf, IsNextOf}
use Rattle.socket_flow.specs.Table.{socket_at, stage_at, stage_of, waiting_of, is_waiting, is_told, Puts, HasSame}
use Rattle.socket_flow.specs.Turns.{has_turn}
use Rattle.socket_flow.specs.declared.flow.SocketFlow.{SocketFlow}
use Rattle.socket_flow.specs.declared.socket.Socket.{Socket}
use Rattle.socket_flow.specs.declared.socket.Stage.{Stage}
use Rattle.socket_flow.specs.declared.socket.Stage.TheVariants.{Dialing, Announcing, Waiting, Told, Open, Closing}
use Rattle.socket_flow.specs.declared.socket_table.SocketTable.{SocketTable}

-- what a flow keeps of the peers that have connected
pub record Meets (table : SocketTable) (caller : Option ℕ) (line : List ℕ) : Type 0 where
  pub alone : IsToldAlone table caller
  pub in_line : StandInLine table line

pub met : (flow : SocketFlow) → Meets flow.table flow.caller flow.callers.items
met flow = record { alone = flow.alone; in_line = flow.in_line }

-- neither a peer that waits to be told of nor one that the node was told of
abbrev pub is_settled : Option Stage → Bool
is_settled (Some (Waiting addr)) = false
is_settled (Some Told) = false
is_settled _ = true

-- it is neither from now on, or what it was
abbrev pub Settles : Option Stage → Option Stage → Type 0
Settles old new = (is_settled new ≡ true) ⊎ (new ≡ old)

unwaited : (s : Option Stage) → is_settled s ≡ true → is_waiting s ≡ true → ⊥
unwaited None p q = both_ways false refl q
unwaited (Some (Dialing id)) p q = both_ways false refl q
unwaited (Some (Announcing said)) p q = both_ways false refl q
unwaited (Some (Waiting addr)) p q = both_ways false refl p
unwaited (Some Told) p q = both_ways false refl p
unwaited (Some (Open id)) p q = both_ways false refl q
unwaited (Some Closing) p q = both_ways false refl q

untold : (s : Option Stage) → is_settled s ≡ true → is_told s ≡ true → ⊥
untold None p q = both_ways false refl q
untold (Some (Dialing id)) p q = both_ways false refl q
untold (Some (Announcing said)) p q = both_ways false refl q
untold (Some (Waiting addr)) p q = both_ways false refl p
untold (Some Told) p q = both_ways false refl p
untold (Some (Open id)) p q = both_ways false refl q
untold (Some Closing) p q = both_ways false refl q

told_before : (old new : Option Stage) → Settles old new → is_told new ≡ true → is_told old ≡ true
told_before old new (inl settled) told = absurd (untold new settled told)
told_before old new (inr same) told = subst (λ s. is_told s ≡ true) same told

waited_before : (old new : Option Stage) → Settles old new → is_waiting new ≡ true → is_waiting old ≡ true
waited_before old new (inl settled) waits = absurd (unwaited new settled waits)
waited_before old new (inr same) waits = subst (λ s. is_waiting s ≡ true) same waits

-- each key is settled, or for what it was
pub met_by : (a b : SocketTable) (caller : Option ℕ) (line : List ℕ) → ((k : ℕ) → Settles (stage_at a k) (stage_at b k)) → Meets a caller line → Meets b caller line
met_by a b caller line settles m = record {
  alone = λ k told. m.alone k (told_before (stage_at a k) (stage_at b k) (settles k) told);
  in_line = λ k waits. m.in_line k (waited_before (stage_at a k) (stage_at b k) (settles k) waits);
}

settles_at : (a b : SocketTable) (key k : ℕ) (test : Bool) (old new : Option Socket) → eqb key k ≡ test → old ≡ socket_at a key → socket_at b k ≡ cond test new (socket_at a k) → Settles (stage_of old) (stage_of new)
    → Settles (stage_at a k) (stage_at b k)
settles_at a b key k true old new test is puts (inl settled) = inl (ap is_settled (ap stage_of puts) ∙ settled)
settles_at a b key k true old new test is puts (inr same) =
    inr (ap stage_of puts ∙ (same ∙ (ap stage_of is ∙ ap (λ j. stage_at a j) (eqb-true key k test))))
settles_at a b key k false old new test is puts settles = inr (ap stage_of puts)

-- a socket is put that is settled, or for what the one was that was there
pub met_put : (a b : SocketTable) (key : ℕ) (old new : Option Socket) (caller : Option ℕ) (line : List ℕ) → old ≡ socket_at a key → Puts a b key new → Settles (stage_of old) (stage_of new)
    → Meets a caller line → Meets b caller line
met_put a b key old new caller line is puts settles m =
    met_by a b caller line (λ k. settles_at a b key k (eqb key k) old new refl is (puts k) settles) m

pub met_same : (a b : SocketTable) (caller : Option ℕ) (line : List ℕ) → HasSame a b → Meets a caller line → Meets b caller line
met_same a b caller line same m = met_by a b caller line (λ k. inr (ap stage_of (same k))) m

-- ---- the line

or_true : (a b : Bool) → a ≡ true → (a || b) ≡ true
or_true true b p = refl
or_true false b p = absurd (both_ways false refl p)

or_right : (a b : Bool) → b ≡ true → (a || b) ≡ true
or_right true b p = refl
or_right false b p = p

same_number : (k : ℕ) → (k == k) ≡ true
same_number k = grind (arith, nat_tests)

-- one more stands in line
pub longer : (line : List ℕ) (key k : ℕ) → has_turn line k ≡ true → has_turn (line ++ key ∷ []) k ≡ true
longer line key k p = list_any-append (λ other. k == other) line (key ∷ []) ∙ or_true (has_turn line k) (has_turn (key ∷ []) k) p

pub last : (line : List ℕ) (key : ℕ) → has_turn (line ++ key ∷ []) key ≡ true
last line key = list_any-append (λ other. key == other) line (key ∷ []) ∙ or_right (has_turn line key) (has_turn (key ∷ []) key) (or_true (key == key) false (same_number key))

-- a line may have more
pub met_longer : (table : SocketTable) (caller : Option ℕ) (line : List ℕ) (key : ℕ) → Meets table caller line → Meets table caller (line ++ key ∷ [])
met_longer table caller line key m = record { alone = m.alone; in_line = λ k waits. longer line key k (m.in_line k waits) }

waits_at : (a b : SocketTable) (key k : ℕ) (test : Bool) (new : Option Socket) (caller : Option ℕ) (line : List ℕ) → eqb key k ≡ test → socket_at b k ≡ cond test new (socket_at a k) → Meets a caller line
    → is_waiting (stage_at b k) ≡ true → has_turn (line ++ key ∷ []) k ≡ true
waits_at a b key k true new caller line test puts m waits = subst (λ j. has_turn (line ++ key ∷ []) j ≡ true) (eqb-true key k test) (last line key)
waits_at a b key k false new caller line test puts m waits = longer line key k (m.in_line k (subst (λ s. is_waiting s ≡ true) (ap stage_of puts) waits))

told_at : (a b : SocketTable) (key k : ℕ) (test : Bool) (new : Option Socket) (caller : Option ℕ) (line : List ℕ) → eqb key k ≡ test → socket_at b k ≡ cond test new (socket_at a k) → is_told (stage_of new) ≡ false → Meets a caller line
    → is_told (stage_at b k) ≡ true → caller ≡ Some k
told_at a b key k true new caller line test puts untold m told = absurd (both_ways (is_told (stage_at b k)) (ap is_told (ap stage_of puts) ∙ untold) told)
told_at a b key k false new caller line test puts untold m told = m.alone k (subst (λ s. is_told s ≡ true) (ap stage_of puts) told)

-- a socket is put, of whose peer the node is to be told, and stands last in line
pub met_waiting : (a b : SocketTable) (key : ℕ) (new : Option Socket) (caller : Option ℕ) (line : List ℕ) → Puts a b key new → is_told (stage_of new) ≡ false → Meets a caller line → Meets b caller (line ++ key ∷ [])
met_waiting a b key new caller line puts untold m = record {
  alone = λ k told. told_at a b key k (eqb key k) new caller line refl (puts k) untold m told;
  in_line = λ k waits. waits_at a b key k (eqb key k) new caller line refl (puts k) m waits;
}

-- ---- the one that was told of

nobody : {A : Type 0} (key : ℕ) → None ≡ Some key → A
nobody key h = absurd (cc)

abbrev key_in : ℕ → Option ℕ → ℕ
key_in other None = other
key_in other (Some key) = key

-- it is none that is told of any more
unmet_at : (b : SocketTable) (key k : ℕ) (caller : Option ℕ) (line : List ℕ) → caller ≡ Some key → is_told (stage_at b key) ≡ false → Meets b caller line → is_told (stage_at b k) ≡ true → None ≡ Some k
unmet_at b key k caller line is none m told =
    let here : key ≡ k = ap (key_in k) (sym is ∙ m.alone k told) in
    absurd (both_ways (is_told (stage_at b k)) (subst (λ j. is_told (stage_at b j) ≡ false) here none) told)

pub met_none : (b : SocketTable) (key : ℕ) (caller : Option ℕ) (line : List ℕ) → caller ≡ Some key → is_told (stage_at b key) ≡ false → Meets b caller line → Meets b None line
met_none b key caller line is none m = record { alone = λ k told. unmet_at b key k caller line is none m told; in_line = m.in_line }

pub here : (a b : SocketTable) (key : ℕ) (new : Option Socket) → Puts a b key new → stage_at b key ≡ stage_of new
here a b key new puts = ap stage_of (subst (λ test. socket_at b key ≡ cond test new (socket_at a key)) (eq-eqb key key refl) (puts key))

-- the socket of the peer that was told of is something else, or gone
pub met_answered : (a b : SocketTable) (key : ℕ) (old new : Option Socket) (caller : Option ℕ) (line : List ℕ) → old ≡ socket_at a key → Puts a b key new → is_settled (stage_of new) ≡ true → is_told (stage_of new) ≡ false
    → caller ≡ Some key → Meets a caller line → Meets b None line
met_answered a b key old new caller line is puts settled untold now m =
    met_none b key caller line now (ap is_told (here a b key new puts) ∙ untold) (met_put a b key old new caller line is puts (inl settled) m)

-- ---- the next in line

pub waiting_is : (s : Option Stage) (addr : Addr) → waiting_of s ≡ Some addr → s ≡ Some (Waiting addr)
waiting_is None addr p = absurd (cc)
waiting_is (Some (Dialing id)) addr p = absurd (cc)
waiting_is (Some (Announcing said)) addr p = absurd (cc)
waiting_is (Some (Waiting other)) addr p = (cc)
waiting_is (Some Told) addr p = absurd (cc)
waiting_is (Some (Open id)) addr p = absurd (cc)
waiting_is (Some Closing) addr p = absurd (cc)

pub waiting_none : (s : Option Stage) → waiting_of s ≡ None → is_waiting s ≡ false
waiting_none None p = refl
waiting_none (Some (Dialing id)) p = refl
waiting_none (Some (Announcing said)) p = refl
waiting_none (Some (Waiting addr)) p = absurd (cc)
waiting_none (Some Told) p = refl
waiting_none (Some (Open id)) p = refl
waiting_none (Some Closing) p = refl

-- one more that is gone stands before the next
pub one_gone : (table : SocketTable) (line : List ℕ) (key k : ℕ) (addr : Addr) (behind : List ℕ) → is_waiting (stage_at table k) ≡ false → IsNextOf table line key addr behind → IsNextOf table (k ∷ line) key addr behind
one_gone table line key k addr behind none next = record { gone = k ∷ next.gone; none = (none, next.none); first = ap (λ x. k ∷ x) next.first; waits = next.waits }

pub next_is : (table : SocketTable) (line : List ℕ) (key : ℕ) (addr : Addr) (behind : List ℕ) → line ≡ key ∷ behind → Some addr ≡ waiting_of (stage_at table key) → IsNextOf table line key addr behind
next_is table line key addr behind first waits = record { gone = []; none = tt; first = first; waits = waiting_is (stage_at table key) addr (sym waits) }

same_of : (a b : ℕ) → (a == b) ≡ true → a ≡ b
same_of a b h = grind (arith, nat_tests)

none_first : (table : SocketTable) (key k : ℕ) (test : Bool) (keys : List ℕ) → (k == key) ≡ test → is_waiting (stage_at table key) ≡ false → (has_turn keys k ≡ true → is_waiting (stage_at table k) ≡ false)
    → (test || has_turn keys k) ≡ true → is_waiting (stage_at table k) ≡ false
none_first table key k true keys is here rest has = subst (λ j. is_waiting (stage_at table j) ≡ false) (sym (same_of k key is)) here
none_first table key k false keys is here rest has = rest has

pub none_waits : (table : SocketTable) (keys : List ℕ) (k : ℕ) → NoneOf table keys → has_turn keys k ≡ true → is_waiting (stage_at table k) ≡ false
none_waits table [] k none has = absurd (both_ways false refl has)
none_waits table (key ∷ keys) k none has = none_first table key k (k == key) keys refl none.0 (λ rest. none_waits table keys k none.1 rest) has

-- nobody waits in line: none is to be told of
pub met_empty : (table : SocketTable) (caller : Option ℕ) (line : List ℕ) → NoneOf table line → Meets table caller line → Meets table caller []
met_empty table caller line none m = record {
  alone = m.alone;
  in_line = λ k waits. absurd (both_ways (is_waiting (stage_at table k)) (none_waits table line k none (m.in_line k waits)) waits);
}

either : (a b : Bool) → (a || b) ≡ true → (a ≡ true) ⊎ (b ≡ true)
either true b p = inl refl
either false b p = inr p

behind_if : (table : SocketTable) (gone : List ℕ) (k : ℕ) (test rest : Bool) → NoneOf table gone → test ≡ false → is_waiting (stage_at table k) ≡ true → (has_turn gone k ≡ true) ⊎ ((test || rest) ≡ true) → rest ≡ true
behind_if table gone k test rest none apart waits (inl front) = absurd (both_ways (is_waiting (stage_at table k)) (none_waits table gone k none front) waits)
behind_if table gone k test rest none apart waits (inr p) = subst (λ x. (x || rest) ≡ true) apart p

behind_at : (table : SocketTable) (gone : List ℕ) (key k : ℕ) (behind : List ℕ) → NoneOf table gone → (k == key) ≡ false → is_waiting (stage_at table k) ≡ true → has_turn (gone ++ key ∷ behind) k ≡ true → has_turn behind k ≡ true
behind_at table gone key k behind none apart waits has =
    let parts : (has_turn gone k || (k == key || has_turn behind k)) ≡ true = sym (list_any-append (λ other. k == other) gone (key ∷ behind)) ∙ has in
    behind_if table gone k (k == key) (has_turn behind k) none apart waits (either (has_turn gone k) (k == key || has_turn behind k) parts)

turned : (a b : ℕ) → (a == b) ≡ false → (b == a) ≡ false
turned a b h = grind (arith, nat_tests)

next_in_line : (a b : SocketTable) (key k : ℕ) (test : Bool) (addr : Addr) (new : Option Socket) (line behind : List ℕ) → eqb key k ≡ test → IsNextOf a line key addr behind → socket_at b k ≡ cond test new (socket_at a k)
    → is_waiting (stage_of new) ≡ false → StandInLine a line → is_waiting (stage_at b k) ≡ true → has_turn behind k ≡ true
next_in_line a b key k true addr new line behind test next puts unwaited in_line waits = absurd (both_ways (is_waiting (stage_at b k)) (ap is_waiting (ap stage_of puts) ∙ unwaited) waits)
next_in_line a b key k false addr new line behind test next puts unwaited in_line waits =
    let was = subst (λ s. is_waiting s ≡ true) (ap stage_of puts) waits in
    behind_at a next.gone key k behind next.none (turned key k test) was (subst (λ l. has_turn l k ≡ true) next.first (in_line k was))

told_alone : (a b : SocketTable) (key k : ℕ) (test : Bool) (new : Option Socket) (caller : Option ℕ) (line : List ℕ) → eqb key k ≡ test → socket_at b k ≡ cond test new (socket_at a k) → caller ≡ None → Meets a caller line
    → is_told (stage_at b k) ≡ true → Some key ≡ Some k
told_alone a b key k true new caller line test puts none m told = ap Some (eqb-true key k test)
told_alone a b key k false new caller line test puts none m told = nobody k (sym none ∙ m.alone k (subst (λ s. is_told s ≡ true) (ap stage_of puts) told))

-- the node is told of the next in line, where it has answered the last
pub met_next : (a b : SocketTable) (key : ℕ) (addr : Addr) (new : Option Socket) (caller : Option ℕ) (line behind : List ℕ) → IsNextOf a line key addr behind → Puts a b key new → is_waiting (stage_of new) ≡ false → caller ≡ None
    → Meets a caller line → Meets b (Some key) behind
met_next a b key addr new caller line behind next puts unwaited none m = record {
  alone = λ k told. told_alone a b key k (eqb key k) new caller line refl (puts k) none m told;
  in_line = λ k waits. next_in_line a b key k (eqb key k) addr new line behind refl next (puts k) unwaited m.in_line waits;
}
