-- What is seen of a peer where peers are promoted.
use Rattle.std.proofs.Common.{◌≡◌, ℕ, ◌+◌, ◌<◌, Bool, true, false, cond, ◌&&◌, List, [], ◌∷◌, ◌++◌, length, take, get_or, refl, sym, ap, subst, ◌∙◌, arith}
use Rattle.std.specs.List.{filter, count_by}
use Rattle.std.proofs.lemmas.Bool.{and_parts}
use Rattle.std.proofs.lemmas.List.{take_more}
use Rattle.std.proofs.lemmas.List.Elements.{filter-append}
use Rattle.std.proofs.lemmas.List.Sums.{count_by-le-length, sum_by-cons}
use Rattle.net_base.specs.declared.peer.Peer.{Peer}
use Rattle.peer_book.specs.Book.{is_of}
use Rattle.govern_rules.specs.Links.{is_pending}
use Rattle.govern_rules.specs.Marks.{has_mark}
use Rattle.govern_rules.specs.Search.{is_ready, is_free, is_on_its_way, say, seen, seen_by, suits}
use Rattle.govern_rules.specs.SortedLinks.{links_of}
use Rattle.govern_rules.specs.Whom.{is_meant}
use Rattle.govern_rules.specs.declared.mark.Mark.TheVariants.{Pending}
use Rattle.govern_rules.specs.declared.search.Search.{Search}
use Rattle.govern_rules.specs.declared.seen.Seen.{Seen}
use Rattle.govern_rules.specs.declared.seen.Seen.TheVariants.{OnItsWay, Suits, Neither}
use Rattle.govern_rules.specs.declared.task.Task.TheVariants.{Promoting}
use Rattle.govern_rules.proofs.ByAddress.{own_say}
use Rattle.govern_rules.proofs.Counting.{counted-more}

-- whether it is on its way, and whether it suits, by what is seen
abbrev pub Tells : Seen → Bool → Bool → Type 0
Tells OnItsWay way suiting = (way ≡ true) × (suiting ≡ false)
Tells Suits way suiting = (way ≡ false) × (suiting ≡ true)
Tells Neither way suiting = (way ≡ false) × (suiting ≡ false)

tells_by : (way suiting : Bool) → (way ≡ true → suiting ≡ false) → Tells (seen_by way suiting) way suiting
tells_by true suiting stopped = (refl, stopped refl)
tells_by false true stopped = (refl, refl)
tells_by false false stopped = (refl, refl)

and_false : (b : Bool) → (b && false) ≡ false
and_false true = refl
and_false false = refl

-- whoever is on its way suits in no case
stopped : (search : Search) (p : Peer) → search.task ≡ Promoting → is_on_its_way search p ≡ true → suits search p ≡ false
stopped search p promoting way =
    let said = say (links_of p.addr search.view.now.links) in
    let pending : said Pending ≡ true = (and_parts (is_of search.big p) (said Pending) way).1 in
    let first : Bool = (is_of search.big p && is_ready search.task search.view.now.moment p) && is_meant search.whom p.addr in
    let free : is_free search.task said ≡ false = ap (λ t. is_free t said) promoting ∙ rw pending refl in
    ap (λ b. first && b) free ∙ and_false first

pub tells : (search : Search) (p : Peer) (s : Seen) → search.task ≡ Promoting → s ≡ seen search p →
    Tells s (is_of search.big p && is_pending search.view.now.links p.addr) (suits search p)
tells search p s promoting is =
    subst (λ b. Tells s (is_of search.big p && b) (suits search p)) (own_say (has_mark Pending) p.addr search.view.now.links)
    (subst (λ t. Tells t (is_on_its_way search p) (suits search p)) (sym is)
    (tells_by (is_on_its_way search p) (suits search p) (stopped search p promoting)))

-- ---- one more peer

module _ (peers : List Peer) (i : ℕ) (d : Peer) (inside : i < length peers) where
  pub filter-more : (test : Peer → Bool) (b : Bool) → test (get_or peers i d) ≡ b →
      filter test (take (i + 1) peers) ≡ filter test (take i peers) ++ cond b (get_or peers i d ∷ []) []
  filter-more test b is =
      ap (filter test) (take_more peers i d inside)
      ∙ (filter-append test (take i peers) (get_or peers i d ∷ [])
      ∙ ap (λ v. filter test (take i peers) ++ cond v (get_or peers i d ∷ []) []) is)

  pub count-more : (test : Peer → Bool) (b : Bool) → test (get_or peers i d) ≡ b →
      count_by test (take (i + 1) peers) ≡ count_by test (take i peers) + cond {A = ℕ} b 1 0
  count-more test b is =
      omega (
        arith,
        ap (count_by test) (take_more peers i d inside),
        counted-more test (take i peers) (get_or peers i d ∷ []),
        sum_by-cons (λ x. cond {A = ℕ} (test x) 1 0) (get_or peers i d) [],
        ap (λ v. cond {A = ℕ} v 1 0) is,
        count_by-le-length test [],
      )
