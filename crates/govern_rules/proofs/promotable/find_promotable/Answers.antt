use Rattle.std.proofs.Common.{◌≡◌, ◌++◌, ◌+◌, ◌-◌, ◌≤◌, ◌&&◌, ℕ, Bool, List, length, take, drop, sym, ap, subst, ◌∙◌, arith}
use Rattle.std.specs.List.{filter, count_by}
use Rattle.std.specs.List.Sorted.{IsPermutation}
use Rattle.std.proofs.Math.Seq.{take-add}
use Rattle.std.proofs.lemmas.List.{take-append-drop, take_all}
use Rattle.std.proofs.lemmas.List.Elements.{filter-append}
use Rattle.std.proofs.lemmas.List.Sorted.{IsPermutation-refl}
use Rattle.net_base.specs.declared.peer.Peer.{Peer}
use Rattle.peer_book.specs.Book.{established_of, is_of}
use Rattle.govern_rules.specs.ClassRules.{established_target}
use Rattle.govern_rules.specs.Links.{is_pending}
use Rattle.govern_rules.specs.Search.{suits}
use Rattle.govern_rules.specs.Tasks.{number_of}
use Rattle.govern_rules.proofs.Apart.{filter_apart}
use Rattle.govern_rules.proofs.Counting.{counted-more}
use Rattle.govern_rules.proofs.promotable.find_promotable.Goals as goal

-- those behind some run
run_more : (book run : List Peer) (place : ℕ) → run ≡ take (length run) (drop place book) → take (place + length run) book ≡ take place book ++ run
run_more book run place front = take-add place (length run) book ∙ ap (λ l. take place book ++ l) (sym front)

-- no more pass in front than pass in all
few_in_front : (test : Peer → Bool) (book : List Peer) (n : ℕ) → count_by test (take n book) ≤ count_by test book
few_in_front test book n = omega (arith, counted-more test (take n book) (drop n book), ap (count_by test) (take-append-drop n book))

pub returns-then-number-eq0-2-clause-number : goal.returns-then-number-eq0-2-clause-number
returns-then-number-eq0-2-clause-number c =
    let search = c.args.search.now in
    let view = search.view.now in
    let book : List Peer = c.args.book.now in
    let run : List Peer = c.run_from-run.result.now in
    let place = c.loop-place.place in
    let way : Peer → Bool = λ p. is_of search.big p && is_pending view.links p.addr in
    let missing : ℕ = established_target search.big view - established_of search.big book in
    let more = ap (count_by way) (run_more book run place c.run_from-run.ensures.front) in
    let left : c.saturating_sub-number.result ≡ missing - count_by way book =
    omega (
      arith,
      more,
      counted-more way (take place book) run,
      few_in_front way book (place + length run),
      c.in_ok-pending.ensures.pending,
      c.loop-place.invariant.number,
      c.saturating_sub-number.ensures,
      c.if-number-eq0-2.true,
    ) in
    left ∙ ap (λ t. number_of t search.big view book) (sym c.requires)

pub loop-place-preserved : goal.loop-place-preserved
loop-place-preserved c =
    let search = c.args.search.now in
    let book : List Peer = c.args.book.now in
    let test = suits search in
    let way : Peer → Bool = λ p. is_of search.big p && is_pending search.view.now.links p.addr in
    let place = c.loop-place.place in
    let run : List Peer = c.run_from-run.result.now in
    let more = run_more book run place c.run_from-run.ensures.front in
    record {
      cands = c.in_ok-pending.ensures.cands
          ∙ (ap (λ l. l ++ filter test run) c.loop-place.invariant.cands
          ∙ sym (ap (filter test) more ∙ filter-append test (take place book) run));
      walk = c.in_ok-pending.ensures.same ∙ c.loop-place.invariant.walk;
      number = omega (
        arith,
        ap (count_by way) more,
        counted-more way (take place book) run,
        c.in_ok-pending.ensures.pending,
        c.loop-place.invariant.number,
        c.saturating_sub-number.ensures,
      );
    }

pub returns-clause-apart : goal.returns-clause-apart
returns-clause-apart c = λ some.
    let book : List Peer = c.args.book.now in
    let test = suits c.args.search.now in
    let all : take c.loop-place.place book ≡ book = take_all c.loop-place.place book (omega (arith, c.loop-place-test.false, c.len.ensures.value)) in
    filter_apart test book c.loop-place.cands c.len.ensures.ordered
    (subst (IsPermutation (filter test book)) (sym (c.loop-place.invariant.cands ∙ ap (filter test) all)) (IsPermutation-refl (filter test book)))
