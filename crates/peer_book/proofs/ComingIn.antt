-- Addresses that come in together: the book after them, and what is left to come.
use Rattle.std.proofs.Common.{◌≡◌, ℕ, ◌+◌, ◌<◌, ◌≤◌, Bool, true, false, ◌||◌, cond, List, [], ◌∷◌, ◌++◌, length, is_some, nat_lt, nat_le, refl, sym, ap, ◌∙◌, append_assoc, inl, inr, arith}
use Rattle.std.specs.List.{AllByRecursion}
use Rattle.std.proofs.lemmas.Bool.{cases_Bool}
use Rattle.std.proofs.lemmas.Bool.Decides.{nat_tests}
use Rattle.std.proofs.lemmas.List.{length_push, append-nil}
use Rattle.std.proofs.lemmas.List.Sums.{count_by-le-length}
use Rattle.net_base.specs.Address.{same_address, address_below}
use Rattle.net_base.specs.declared.address.Addr.{Addr}
use Rattle.net_base.specs.declared.peer.Peer.{Peer}
use Rattle.peer_book.specs.Addresses.{has_address, with_address}
use Rattle.peer_book.specs.Book.{peer_at, with_new, new_peer, is_of, known_of, most_peers, entered_by, entry_of, entry_below, all_entered, only_new, newcomers}
use Rattle.peer_book.specs.Newcomers.{with_all_new, room_for, AreNew}
use Rattle.peer_book.specs.Order.{IsRising}
use Rattle.peer_book.specs.declared.added.Added.{Added}
use Rattle.peer_book.specs.declared.added.Added.TheVariants.{New, Present, Full}
use Rattle.peer_book.proofs.Edits.{IsRising-put_in, length-put_in, count_by-put_in, stands-put_in, put_in-turn}
use Rattle.peer_book.proofs.Listing.{address_of, InOrder}
use Rattle.peer_book.proofs.Noted.{apart}
use Rattle.peer_book.proofs.Places.{stands, find-above}

-- ---- tests

lt_true : (m n : ℕ) → m < n → nat_lt m n ≡ true
lt_true m n h = grind (arith, nat_tests)

le_false : (m n : ℕ) → n < m → nat_le m n ≡ false
le_false m n h = grind (arith, nat_tests)

le_true : (m n : ℕ) → m ≤ n → nat_le m n ≡ true
le_true m n h = grind (arith, nat_tests)

lt_of_true : (m n : ℕ) → nat_lt m n ≡ true → m < n
lt_of_true m n h = grind (arith, nat_tests)

le_of_false : (m n : ℕ) → nat_lt m n ≡ false → n ≤ m
le_of_false m n h = grind (arith, nat_tests)

or_none : (b : Bool) → b || false ≡ b
or_none true = refl
or_none false = refl

or_all : (b : Bool) → b || true ≡ true
or_all true = refl
or_all false = refl

neither : (b c : Bool) → b || c ≡ false → (b ≡ false) × (c ≡ false)
neither true c h = absurd cc
neither false c h = (refl, h)

-- ---- a new peer at each of some addresses

is_of-new : (big : Bool) (addr : Addr) → is_of big (new_peer big addr) ≡ true
is_of-new true addr = refl
is_of-new false addr = refl

pub length-with_all : (big : Bool) (keys : List Addr) (peers : List Peer) → length (with_all_new big keys peers) ≡ length peers + length keys
length-with_all big [] peers = omega arith
length-with_all big (k ∷ keys) peers =
    omega (arith, length-put_in address_of (new_peer big k) (with_all_new big keys peers), length-with_all big keys peers)

pub known-with_all : (big : Bool) (keys : List Addr) (peers : List Peer) → known_of big (with_all_new big keys peers) ≡ known_of big peers + length keys
known-with_all big [] peers = omega arith
known-with_all big (k ∷ keys) peers =
    count_by-put_in address_of (is_of big) (new_peer big k) (with_all_new big keys peers)
    ∙ rw (is_of-new big k) (omega (arith, known-with_all big keys peers))

pub stands-with_all : (big : Bool) (addr : Addr) (keys : List Addr) (peers : List Peer) →
    is_some (peer_at addr (with_all_new big keys peers)) ≡ (is_some (peer_at addr peers) || has_address addr keys)
stands-with_all big addr [] peers = sym (or_none (is_some (peer_at addr peers)))
stands-with_all big addr (k ∷ keys) peers =
    stands-put_in address_of addr (new_peer big k) (with_all_new big keys peers)
    ∙ elim (cases_Bool (same_address k addr)) [
      | inl same ↦ rw same (sym (or_all (is_some (peer_at addr peers))))
      | inr other ↦ rw other (stands-with_all big addr keys peers)
    ]

pub with_all-with_address : (big : Bool) (addr : Addr) (keys : List Addr) (peers : List Peer) → has_address addr keys ≡ false →
    with_all_new big (with_address addr keys) peers ≡ with_new (new_peer big addr) (with_all_new big keys peers)
with_all-with_address big addr [] peers absent = refl
with_all-with_address big addr (k ∷ keys) peers absent =
    let parts = apart addr k keys absent in
    elim (cases_Bool (address_below k addr)) [
      | inl under ↦ rw under (ap (with_new (new_peer big k)) (with_all-with_address big addr keys peers parts.1)
          ∙ put_in-turn address_of (new_peer big k) (new_peer big addr) (with_all_new big keys peers) parts.0)
      | inr over ↦ rw over refl
    ]

-- addresses that rise are distinct
none_below : (addr : Addr) (keys : List Addr) → AllByRecursion (λ k. address_below addr k ≡ true) keys → has_address addr keys ≡ false
none_below addr keys above = ap is_some (find-above (λ a. a) addr keys above)

pub InOrder-with_all : (big : Bool) (keys : List Addr) (peers : List Peer) → InOrder peers → IsRising (λ a. a) keys →
    AllByRecursion (λ a. is_some (peer_at a peers) ≡ false) keys → InOrder (with_all_new big keys peers)
InOrder-with_all big [] peers rises rising absent = rises
InOrder-with_all big (k ∷ keys) peers rises rising absent =
    let none : stands address_of k (with_all_new big keys peers) ≡ false =
    stands-with_all big k keys peers ∙ rw (absent.0, none_below k keys rising.0) refl in
    IsRising-put_in address_of (new_peer big k) (with_all_new big keys peers) (InOrder-with_all big keys peers rises rising.1 absent.1) none

-- ---- what is left to come

-- so far `given` came in, which are `keys` in order
pub record Coming (most : ℕ) (big : Bool) (all rest : List Addr) (peers : List Peer) (given keys : List Addr) : Type 0 where
  pub entered : all_entered most big all peers ≡ all_entered most big rest (with_all_new big keys peers)
  pub told : newcomers most big all peers ≡ given ++ newcomers most big rest (with_all_new big keys peers)
  pub as_many : length keys ≡ length given
  pub fits : length given ≤ room_for most big peers
  pub rising : IsRising (λ a. a) keys
  pub absent : AllByRecursion (λ a. is_some (peer_at a peers) ≡ false) keys

pub coming-first : (most : ℕ) (big : Bool) (all : List Addr) (peers : List Peer) → Coming most big all all peers [] []
coming-first most big all peers = record { entered = refl; told = refl; as_many = refl; fits = omega arith; rising = tt; absent = tt }

entry-fits : (most : ℕ) (big : Bool) (addr : Addr) (book : List Peer) (there : Bool) → known_of big book < most → length book < most_peers →
    is_some (peer_at addr book) ≡ there → entry_below most big addr book ≡ cond there Present New
entry-fits most big addr book there few short is = rw (lt_true (known_of big book) most few, is, le_false most_peers (length book) short) refl

pub coming-next : (most : ℕ) (big : Bool) (all : List Addr) (addr : Addr) (rest : List Addr) (peers : List Peer) (given keys next_given next_keys : List Addr) →
    Coming most big all (addr ∷ rest) peers given keys → length given < room_for most big peers →
    next_given ≡ cond (is_some (peer_at addr peers) || has_address addr keys) given (given ++ addr ∷ []) →
    next_keys ≡ cond (is_some (peer_at addr peers) || has_address addr keys) keys (with_address addr keys) →
    Coming most big all rest peers next_given next_keys
coming-next most big all addr rest peers given keys next_given next_keys so_far room given_is keys_are =
    let book : List Peer = with_all_new big keys peers in
    let new : Peer = new_peer big addr in
    let few : known_of big book < most = omega (arith, known-with_all big keys peers, so_far.as_many, room) in
    let short : length book < most_peers = omega (arith, length-with_all big keys peers, so_far.as_many, room) in
    let entry = entry-fits most big addr book _ few short (stands-with_all big addr keys peers) in
    elim (cases_Bool (is_some (peer_at addr peers) || has_address addr keys)) [
      | inl there ↦
          let same_given : next_given ≡ given = rw there at given_is in
          let same_keys : next_keys ≡ keys = rw there at keys_are in
          let present : entry_below most big addr book ≡ Present = rw there at entry in
          rw (same_given, same_keys) (record {
            entered = so_far.entered ∙ ap (λ e. all_entered most big rest (entered_by e new book)) present;
            told = so_far.told ∙ ap (λ e. given ++ only_new e addr (newcomers most big rest (entered_by e new book))) present;
            as_many = so_far.as_many;
            fits = so_far.fits;
            rising = so_far.rising;
            absent = so_far.absent;
          })
      | inr absent ↦
          let more_given : next_given ≡ given ++ addr ∷ [] = rw absent at given_is in
          let more_keys : next_keys ≡ with_address addr keys = rw absent at keys_are in
          let comes : entry_below most big addr book ≡ New = rw absent at entry in
          let parts = neither (is_some (peer_at addr peers)) (has_address addr keys) absent in
          let grown = with_all-with_address big addr keys peers parts.1 in
          rw (more_given, more_keys) (record {
            entered = so_far.entered ∙ (ap (λ e. all_entered most big rest (entered_by e new book)) comes ∙ ap (all_entered most big rest) (sym grown));
            told = so_far.told
                ∙ (ap (λ e. given ++ only_new e addr (newcomers most big rest (entered_by e new book))) comes
                ∙ (ap (λ b. given ++ addr ∷ newcomers most big rest b) (sym grown)
                ∙ sym (append_assoc given (addr ∷ []) (newcomers most big rest (with_all_new big (with_address addr keys) peers)))));
            as_many = omega (arith, length-put_in (λ a. a) addr keys, length_push given addr, so_far.as_many);
            fits = omega (arith, length_push given addr, room);
            rising = IsRising-put_in (λ a. a) addr keys so_far.rising parts.1;
            absent = all-with_address keys so_far.absent parts.0;
          })
    ]
  where
    all-with_address : (ks : List Addr) → AllByRecursion (λ a. is_some (peer_at a peers) ≡ false) ks → is_some (peer_at addr peers) ≡ false →
        AllByRecursion (λ a. is_some (peer_at a peers) ≡ false) (with_address addr ks)
    all-with_address [] all one = (one, tt)
    all-with_address (k ∷ ks) all one = elim (cases_Bool (address_below k addr)) [
      | inl under ↦ rw under (all.0, all-with_address ks all.1 one)
      | inr over ↦ rw over (one, all)
    ]

-- where nobody more may come in, nothing changes
module _ (most : ℕ) (big : Bool) (book : List Peer) (full : room_for most big book ≡ 0) where
  no_entry : (addr : Addr) → (e : Added) → entry_below most big addr book ≡ e → e ≡ New → false ≡ true
  no_entry addr e is new = elim (cases_Bool (nat_lt (known_of big book) most)) [
    | inl few ↦ elim (cases_Bool (is_some (peer_at addr book))) [
      | inl there ↦ let present : Present ≡ New = sym (rw (few, there) refl) ∙ (is ∙ new) in cc
      | inr absent ↦
          let long : nat_le most_peers (length book) ≡ true = le_true most_peers (length book) (omega (arith, full, lt_of_true _ _ few)) in
          let no_room : Full ≡ New = sym (rw (few, absent, long) refl) ∙ (is ∙ new) in
          cc
    ]
    | inr many ↦ let refused : Full ≡ New = sym (rw many refl) ∙ (is ∙ new) in cc
  ]

  stays : (e : Added) (addr : Addr) → entry_below most big addr book ≡ e → entered_by e (new_peer big addr) book ≡ book
  stays New addr is = absurd (let no = no_entry addr New is refl in cc)
  stays Present addr is = refl
  stays Full addr is = refl

  untold : (e : Added) (addr : Addr) (addrs : List Addr) → entry_below most big addr book ≡ e → only_new e addr addrs ≡ addrs
  untold New addr addrs is = absurd (let no = no_entry addr New is refl in cc)
  untold Present addr addrs is = refl
  untold Full addr addrs is = refl

  pub nobody_enters : (addrs : List Addr) → all_entered most big addrs book ≡ book
  nobody_enters [] = refl
  nobody_enters (addr ∷ addrs) = ap (all_entered most big addrs) (stays (entry_below most big addr book) addr refl) ∙ nobody_enters addrs

  pub nobody_is_told : (addrs : List Addr) → newcomers most big addrs book ≡ []
  nobody_is_told [] = refl
  nobody_is_told (addr ∷ addrs) =
      untold (entry_below most big addr book) addr _ refl
      ∙ (ap (newcomers most big addrs) (stays (entry_below most big addr book) addr refl) ∙ nobody_is_told addrs)

-- ---- at the end

-- all came, or nobody more may come in
pub record CameIn (most : ℕ) (big : Bool) (all : List Addr) (peers : List Peer) (given keys : List Addr) : Type 0 where
  pub given_is : given ≡ newcomers most big all peers
  pub entered : with_all_new big keys peers ≡ all_entered most big all peers
  pub new : AreNew keys peers

are_new : (most : ℕ) (big : Bool) (all rest : List Addr) (peers : List Peer) (given keys : List Addr) → length peers ≤ most_peers → Coming most big all rest peers given keys → AreNew keys peers
are_new most big all rest peers given keys limited so_far = record {
  rising = so_far.rising;
  absent = so_far.absent;
  limited = omega (arith, so_far.as_many, so_far.fits, limited);
}

pub coming-end : (most : ℕ) (big : Bool) (all : List Addr) (peers : List Peer) (given keys : List Addr) → length peers ≤ most_peers →
    Coming most big all [] peers given keys → CameIn most big all peers given keys
coming-end most big all peers given keys limited so_far = record {
  given_is = sym (so_far.told ∙ append-nil given);
  entered = sym so_far.entered;
  new = are_new most big all [] peers given keys limited so_far;
}

pub coming-full : (most : ℕ) (big : Bool) (all rest : List Addr) (peers : List Peer) (given keys : List Addr) → length peers ≤ most_peers →
    room_for most big peers ≤ length given → Coming most big all rest peers given keys → CameIn most big all peers given keys
coming-full most big all rest peers given keys limited full so_far =
    let book : List Peer = with_all_new big keys peers in
    let none : room_for most big book ≡ 0 = omega (arith, known-with_all big keys peers, length-with_all big keys peers, so_far.as_many, full) in
    record {
      given_is = sym (so_far.told ∙ (ap (λ l. given ++ l) (nobody_is_told most big book none rest) ∙ append-nil given));
      entered = sym (so_far.entered ∙ nobody_enters most big book none rest);
      new = are_new most big all rest peers given keys limited so_far;
    }

-- ---- with no limit but that of the book

-- where as many of a class are known as there may be peers, nobody comes in either way
no_place : (addr : Addr) (new : Peer) (rest : List Addr) (book : List Peer) → most_peers ≤ length book →
    (entered_by (entry_of addr book) new book ≡ book) × (only_new (entry_of addr book) addr rest ≡ rest)
no_place addr new rest book long = elim (cases_Bool (is_some (peer_at addr book))) [
  | inl there ↦ rw there (refl, refl)
  | inr absent ↦ rw (absent, le_true most_peers (length book) long) (refl, refl)
]

pub unlimited : (big : Bool) (addr : Addr) (rest : List Addr) (book : List Peer) →
    (entered_by (entry_below most_peers big addr book) (new_peer big addr) book ≡ entered_by (entry_of addr book) (new_peer big addr) book)
    × (only_new (entry_below most_peers big addr book) addr rest ≡ only_new (entry_of addr book) addr rest)
unlimited big addr rest book = elim (cases_Bool (nat_lt (known_of big book) most_peers)) [
  | inl few ↦ rw few (refl, refl)
  | inr many ↦
      let long : most_peers ≤ length book = omega (arith, count_by-le-length (is_of big) book, le_of_false _ _ many) in
      let none = no_place addr (new_peer big addr) rest book long in
      rw many (sym none.0, sym none.1)
]
