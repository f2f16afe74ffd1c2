-- Where nobody has the temperature that a task asks for, nobody is given it.
use Rattle.std.proofs.Common.{◌≡◌, ℕ, Bool, true, false, ◌&&◌, List, [], ◌∷◌, map, refl, sym, ap, ◌∙◌, inl, inr}
use Rattle.std.specs.List.{filter}
use Rattle.std.proofs.lemmas.Bool.{cases_Bool, and_parts, true≢false, false_from_ne_true}
use Rattle.net_base.specs.declared.address.Addr.{Addr}
use Rattle.net_base.specs.declared.peer.Peer.{Peer}
use Rattle.net_base.specs.declared.peer.Temp.{Temp}
use Rattle.net_base.specs.declared.peer.Temp.TheVariants.{Cold, Warm, Hot}
use Rattle.peer_book.specs.Book.{is_of, is_established, same_temp, listed_at}
use Rattle.govern_rules.specs.Orders.{picks_of}
use Rattle.govern_rules.specs.Tasks.{order_of, number_of, may_be_given, is_candidate, task_orders}
use Rattle.govern_rules.specs.declared.link.Link.{Link}
use Rattle.govern_rules.specs.declared.task.Task.{Task}
use Rattle.govern_rules.specs.declared.task.Task.TheVariants.{Asking}
use Rattle.govern_rules.specs.declared.view.View.{View}
use Rattle.govern_rules.proofs.Picking.{no-peers}

pub nil-map : {X Y : Type 0} (f : X → Y) (xs : List X) → map f xs ≡ [] → xs ≡ []
nil-map f [] h = refl
nil-map f (x ∷ xs) h = cc

-- where none passes a test, none passes a stricter one
pub stricter : {X : Type 0} (p q : X → Bool) → ((x : X) → p x ≡ true → q x ≡ true) → (xs : List X) → filter q xs ≡ [] → filter p xs ≡ []
stricter p q more [] none = refl
stricter {X} p q more (x ∷ xs) none = elim (cases_Bool (q x)) [
  | inl passes ↦ let some : x ∷ filter q xs ≡ [] = rw passes at none in cc
  | inr fails ↦
      let out : p x ≡ false = false_from_ne_true (p x) (λ h. true≢false (sym (more x h) ∙ fails)) in
      rw out (stricter p q more xs (rw fails at none))
]

-- ---- of which temperature those are that are given a task

-- nobody has it
pub none-given : (task : Task) (temp : Temp) (peers : List Peer) →
    ((moment : ℕ) (links : List Link) (p : Peer) → may_be_given task moment links p ≡ true → same_temp p.temp temp ≡ true) →
    listed_at temp peers ≡ [] → (moment : ℕ) (links : List Link) → filter (may_be_given task moment links) peers ≡ []
none-given task temp peers has none moment links =
    stricter (may_be_given task moment links) (λ p. same_temp p.temp temp) (has moment links) peers
    (nil-map (λ (p : Peer). p.addr) (filter (λ p. same_temp p.temp temp) peers) none)

no-established : (peers : List Peer) → filter (λ p. same_temp p.temp Warm) peers ≡ [] → filter (λ p. same_temp p.temp Hot) peers ≡ [] →
    filter (λ p. is_established p.temp) peers ≡ []
no-established [] warm hot = refl
no-established (p ∷ peers) warm hot = elim (cases_Bool (same_temp p.temp Warm)) [
  | inl is ↦ let some : p ∷ filter (λ q. same_temp q.temp Warm) peers ≡ [] = rw is at warm in cc
  | inr not_warm ↦ elim (cases_Bool (same_temp p.temp Hot)) [
    | inl is ↦ let some : p ∷ filter (λ q. same_temp q.temp Hot) peers ≡ [] = rw is at hot in cc
    | inr not_hot ↦ rw (neither p.temp not_warm not_hot) (no-established peers (rw not_warm at warm) (rw not_hot at hot))
  ]
]
  where
    neither : (temp : Temp) → same_temp temp Warm ≡ false → same_temp temp Hot ≡ false → is_established temp ≡ false
    neither Cold not_warm not_hot = refl
    neither Warm not_warm not_hot = absurd (true≢false not_warm)
    neither Hot not_warm not_hot = absurd (true≢false not_hot)

pub none-asked : (amount : ℕ) (peers : List Peer) → listed_at Warm peers ≡ [] → listed_at Hot peers ≡ [] → (moment : ℕ) (links : List Link) →
    filter (may_be_given (Asking amount) moment links) peers ≡ []
none-asked amount peers warm hot moment links =
    stricter (may_be_given (Asking amount) moment links) (λ p. is_established p.temp) (λ p h. (and_parts _ _ (and_parts _ _ h).0).0) peers
    (no-established peers (nil-map (λ (p : Peer). p.addr) (filter (λ p. same_temp p.temp Warm) peers) warm)
    (nil-map (λ (p : Peer). p.addr) (filter (λ p. same_temp p.temp Hot) peers) hot))

-- nobody is ordered to anything
pub nobody-ordered : (task : Task) (big : Bool) (among : Addr → Bool) (view : View) (peers : List Peer) →
    filter (may_be_given task view.moment view.links) peers ≡ [] → task_orders task big among view peers ≡ []
nobody-ordered task big among view peers none =
    let test : Peer → Bool = is_candidate task among view.moment view.links in
    let number : ℕ = number_of task big view peers in
    let nobody : filter (λ p. is_of big p && test p) peers ≡ [] =
    stricter (λ p. is_of big p && test p) (may_be_given task view.moment view.links) (λ p h. (and_parts _ _ (and_parts _ _ h).1).1) peers none in
    ap (λ l. map (order_of task) (picks_of big view.word number l)) nobody ∙ no-peers big view.word (order_of task) number test
