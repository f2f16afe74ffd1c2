-- Whose turn it is, one ask after another.
use Rattle.std.proofs.Common.{◌≡◌, ℕ, Bool, true, false, not, ◌&&◌, cond, MatchBool, List, [], ◌∷◌, ◌++◌, refl, sym, ap, subst, ◌∙◌, append_assoc}
use Rattle.socket_flow.specs.Asks.{IsNoRead, comes_last, IsQuiet, NoneIsLeft, ComesAfter}
use Rattle.socket_flow.specs.Rounds.{is_behind, may_be_read, NoneMayBeRead, HasPassed, turn_of, HasTurn, IsTurnOf, IsOutOfLine}
use Rattle.socket_flow.specs.Table.{stage_at, out_at, is_open}
use Rattle.socket_flow.specs.Talk.{KeepsAll}
use Rattle.socket_flow.specs.Turns.{has_turn}
use Rattle.socket_flow.specs.declared.ask.Ask.{Ask}
use Rattle.socket_flow.specs.declared.ask.Ask.TheVariants.{Close, Connect, Check, Write, Accept, Read, Give, Govern, Wait}
use Rattle.socket_flow.specs.declared.flow.SocketFlow.{SocketFlow}
use Rattle.socket_flow.specs.declared.socket_table.SocketTable.{SocketTable}

-- ---- who may be read

same_read : (a b : SocketFlow) (k : ℕ) → stage_at b.table k ≡ stage_at a.table k → out_at b.table k ≡ out_at a.table k → b.unsent ≡ a.unsent → may_be_read b k ≡ may_be_read a k
same_read a b k stage out unsent =
    ap {B = Bool} (λ s. is_open s && not (is_behind (out_at b.table k) b.unsent)) stage
    ∙ (ap {B = Bool} (λ o. is_open (stage_at a.table k) && not (is_behind o b.unsent)) out
    ∙ ap {B = Bool} (λ u. is_open (stage_at a.table k) && not (is_behind (out_at a.table k) u)) unsent)

none_read : (a b : SocketFlow) (keys : List ℕ) → ((k : ℕ) → may_be_read b k ≡ may_be_read a k) → NoneMayBeRead a keys → NoneMayBeRead b keys
none_read a b [] same none = tt
none_read a b (key ∷ keys) same none = (same key ∙ none.0, none_read a b keys same none.1)

none_more : (flow : SocketFlow) (keys : List ℕ) (key : ℕ) → NoneMayBeRead flow keys → may_be_read flow key ≡ false → NoneMayBeRead flow (keys ++ key ∷ [])
none_more flow [] key none last = (last, tt)
none_more flow (k ∷ keys) key none last = (none.0, none_more flow keys key none.1 last)

-- ---- who was passed over

pub none_passed : (flow : SocketFlow) (line : List ℕ) → HasPassed flow line line
none_passed flow line = record { passed = []; none = tt; first = refl }

-- what was done is said of nobody who waits
pub passed_still : (a b : SocketFlow) (line : List ℕ) → HasPassed a line a.turns → b.turns ≡ a.turns → b.table ≡ a.table → b.unsent ≡ a.unsent → HasPassed b line b.turns
passed_still a b line p turns table unsent = record {
  passed = p.passed;
  none = none_read a b p.passed (λ k. same_read a b k (ap (λ t. stage_at t k) table) (ap (λ t. out_at t k) table) unsent) p.none;
  first = p.first ∙ ap (λ x. p.passed ++ x) (sym turns);
}

-- one more is taken out of the line, and may be read or not
taken : (a m b : SocketFlow) (k : ℕ) → m.table ≡ a.table → m.unsent ≡ a.unsent → KeepsAll m b → b.unsent ≡ m.unsent → may_be_read b k ≡ may_be_read a k
taken a m b k table unsent keeps same =
    same_read a b k ((keeps.sockets.talk k).1 ∙ ap (λ t. stage_at t k) table) ((keeps.sockets.talk k).0 ∙ ap (λ t. out_at t k) table) (same ∙ unsent)

pub pass_on : (a m b : SocketFlow) (line : List ℕ) (key : ℕ) → HasPassed a line a.turns → a.turns ≡ key ∷ m.turns → m.table ≡ a.table → m.unsent ≡ a.unsent → KeepsAll m b → b.unsent ≡ m.unsent → b.turns ≡ m.turns
    → may_be_read b key ≡ false → HasPassed b line b.turns
pass_on a m b line key p first table unsent keeps same turns last = record {
  passed = p.passed ++ key ∷ [];
  none = none_more b p.passed key (none_read a b p.passed (λ k. taken a m b k table unsent keeps same) p.none) last;
  first = p.first ∙ (ap (λ x. p.passed ++ x) (first ∙ ap (λ x. key ∷ x) (sym turns)) ∙ sym (append_assoc p.passed (key ∷ []) b.turns));
}

turn_is : (table : SocketTable) (key : ℕ) (ask : Ask) (flow : SocketFlow) → flow.table ≡ table → IsTurnOf flow key ask → turn_of table ask ≡ key ∷ []
turn_is table key (Close k) flow is p = absurd p
turn_is table key (Connect k addr) flow is p = absurd p
turn_is table key (Check k) flow is p = absurd p
turn_is table key (Write k) flow is p = absurd p
turn_is table key Accept flow is p = absurd p
turn_is table key (Read k most) flow is p =
    let talks : is_open (stage_at table k) ≡ true = subst (λ t. is_open (stage_at t k) ≡ true) is (subst (λ j. is_open (stage_at flow.table j) ≡ true) (sym p.0) p.1) in
    ap {B = List ℕ} (λ test. cond test (k ∷ []) []) talks ∙ ap {B = List ℕ} (λ j. j ∷ []) p.0
turn_is table key (Give event) flow is p = absurd p
turn_is table key Govern flow is p = absurd p
turn_is table key (Wait time) flow is p = absurd p

-- a connection that stands first, but for those who may not be read, has its turn
pub has_turn_then : (f a m b : SocketFlow) (key : ℕ) (ask : Ask) → HasPassed a f.turns a.turns → a.turns ≡ key ∷ m.turns → m.table ≡ a.table → m.unsent ≡ a.unsent → KeepsAll m b → b.unsent ≡ m.unsent → b.turns ≡ m.turns
    → has_turn m.turns key ≡ false → IsTurnOf b key ask → HasTurn f b ask
has_turn_then f a m b key ask p first table unsent keeps same turns once turn =
    let is = turn_is b.table key ask b refl turn in record {
      passed = record {
        passed = p.passed;
        none = none_read a b p.passed (λ k. taken a m b k table unsent keeps same) p.none;
        first = p.first ∙ ap (λ x. p.passed ++ x) (first ∙ (ap (λ x. key ∷ x) (sym turns) ∙ ap (λ x. x ++ b.turns) (sym is)));
      };
      out = subst (λ x. IsOutOfLine b.turns x) (sym is) (subst (λ x. has_turn x key ≡ false) (sym turns) once, tt);
    }

-- nobody has a turn
pub no_turn : (f b : SocketFlow) (ask : Ask) → HasPassed b f.turns b.turns → turn_of b.table ask ≡ [] → HasTurn f b ask
no_turn f b ask p none = record {
  passed = subst (λ x. HasPassed b f.turns (x ++ b.turns)) (sym none) p;
  out = subst (λ x. IsOutOfLine b.turns x) (sym none) tt;
}

pub nobody_has_turn : (f b : SocketFlow) (ask : Ask) → b.turns ≡ f.turns → turn_of b.table ask ≡ [] → HasTurn f b ask
nobody_has_turn f b ask turns none = no_turn f b ask (subst (λ line. HasPassed b line b.turns) turns (none_passed b b.turns)) none

pub turn_after : (f m b : SocketFlow) (ask : Ask) → m.turns ≡ f.turns → HasTurn m b ask → HasTurn f b ask
turn_after f m b ask turns p = record { passed = subst (λ line. HasPassed b line (turn_of b.table ask ++ b.turns)) turns p.passed; out = p.out }

pub unread_turn : (table : SocketTable) (ask : Ask) → IsNoRead ask → turn_of table ask ≡ []
unread_turn table (Close k) p = refl
unread_turn table (Connect k addr) p = refl
unread_turn table (Check k) p = refl
unread_turn table (Write k) p = refl
unread_turn table Accept p = refl
unread_turn table (Read k most) p = absurd p
unread_turn table (Give event) p = refl
unread_turn table Govern p = refl
unread_turn table (Wait time) p = refl

-- ---- what comes before what

quiet_unless : (test : Bool) (A : Type 0) → test ≡ false → MatchBool test A (Unit {0})
quiet_unless true A p = absurd (cc)
quiet_unless false A p = tt

quiet_if : (test : Bool) (A : Type 0) → A → MatchBool test A (Unit {0})
quiet_if true A p = p
quiet_if false A p = tt

pub early_quiet : (ask : Ask) (flow : SocketFlow) → comes_last ask ≡ false → MatchBool (comes_last ask) (IsQuiet flow) (Unit {0})
early_quiet ask flow p = quiet_unless (comes_last ask) (IsQuiet flow) p

pub late_quiet : (ask : Ask) (flow : SocketFlow) → IsQuiet flow → MatchBool (comes_last ask) (IsQuiet flow) (Unit {0})
late_quiet ask flow p = quiet_if (comes_last ask) (IsQuiet flow) p

pub after_all : (flow : SocketFlow) (ask : Ask) → NoneIsLeft flow → ComesAfter flow ask
after_all flow (Close k) p = tt
after_all flow (Connect k addr) p = p.closing
after_all flow (Check k) p = p
after_all flow (Write k) p = (p.closing, p.connecting)
after_all flow Accept p = p
after_all flow (Read k most) p = p
after_all flow (Give event) p = p
after_all flow Govern p = p
after_all flow (Wait time) p = p
